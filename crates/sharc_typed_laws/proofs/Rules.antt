-- Each operation by itself: what is asked of what is said before its line, and what may be said before the next one.
use Rattle.sharc_typed_laws.proofs.{Imports.{◌≡◌, ℕ, ◌+◌, ◌<◌, ◌≤◌, true, List, [], Some, subst, inl, inr, ℤ, false≢true, none-some, Operator, Width, Char, put, Op, Spot, IsWide, OpWrites, Access, access, Know, know_next, is_straight, StaticType, cells_of, Refers, Exactly, Within, Indexes, OfElement, OfGlobal, Element, Closed, Pass, IsIn, Label, Less, Fresh, IsScoped, IsFree, set_number, fill, empty, knows, without_base, IsVacant, FitsWidth, Operands, IsElement, ints_in, refs_in, with_passes, Mark, Setting, Tells, Fits, IsTypedAt, IsAtHand, IsLine, eq_refl}, TypedAlike.{same_reference, less_entry}, Preorder.less_through, Telling.told}

-- ---- less, with checks that are remembered
pub with_less : (a b : Label) (ps qs : List Pass) → Less a b → ((p : Pass) → IsIn p qs → IsIn p ps) → Less (with_passes a ps) (with_passes b qs)
with_less a b ps qs h sub = record {
  function = h.function;
  env = λ r. less_entry a a.known a.gate ps r (a.env r) (b.env r) (h.env r);
  same = λ r. same_reference a a.known a.gate ps r (b.same r) (h.same r);
  known = h.known;
  ints = h.ints;
  gate = h.gate;
  passed = sub;
  room = h.room;
}

none_in : (qs : List Pass) → qs ≡ [] → (ps : List Pass) (p : Pass) → IsIn p qs → IsIn p ps
none_in qs e ps p h = absurd (subst (IsIn p) e h)

-- ---- what is asked of each line, and of one that leads elsewhere
pub record Plain (around : Setting) (f : ℕ) (s : Mark) : Type 0 where
  pub owned : s.label.function ≡ Some f
  pub scoped : IsScoped (ints_in around.code (Some f)) (refs_in around.code (Some f)) s.label
  pub closed : s.label.gate ≡ Closed

pub record PlainNull (around : Setting) (f : ℕ) (s : Mark) (r : ℕ) : Type 0 where
  pub plain : Plain around f s
  pub free : IsFree s.label r

-- where a register holds NULL, and where it does not
abbrev pub cleared : Mark → ℕ → Mark
cleared s r = record s { label = empty s.label r }

abbrev pub noted : Mark → ℕ → Mark
noted s r = record s { label = knows s.label r }

pub free_too : (l : Label) (ps : List Pass) (r : ℕ) → IsFree l r → IsFree (with_passes l ps) r
free_too l ps r h = record { paths = h.paths }

module _ (around : Setting) (f : ℕ) (table : ℕ → Mark) (pc : ℕ) (s : Mark) where
  abbrev Reached : Mark → ℕ → Type 0
  Reached t q = (q ≤ around.lines) × Fits around.targets t (table q)

  to_line : (a : Mark) (q : ℕ) (passes : ℕ → List Pass) (ps : List Pass) → passes q ≡ [] → Reached a q → Less (with_passes a.label ps) (with_passes (table q).label (passes q))
  to_line a q passes ps none h = with_less a.label (table q).label ps (passes q) h.1.less (none_in (passes q) none ps)

  pub on_skip : (n : ℕ) → Plain around f s → Reached s (pc + 1 + n) → IsLine around f table pc s (Op.Skip n)
  on_skip n plain to = record {
    owned = plain.owned;
    scoped = plain.scoped;
    typed = λ dropped passes repeats jumps on. (plain.closed, (to.0, to_line s (pc + 1 + n) passes (passes pc) (jumps (pc + 1 + n) (eq_refl (pc + 1 + n))) to));
    cells = λ a z. absurd (none-some a z);
    tells = λ e. absurd (false≢true e);
  }

  pub on_jump : (q : ℕ) → Plain around f s → Reached s q → IsLine around f table pc s (Op.Jump q)
  on_jump q plain to = record {
    owned = plain.owned;
    scoped = plain.scoped;
    typed = λ dropped passes repeats jumps on. (plain.closed, (to.0, to_line s q passes (passes pc) (jumps q (eq_refl q)) to));
    cells = λ a z. absurd (none-some a z);
    tells = λ e. absurd (false≢true e);
  }

  -- where it leads over lines nothing is remembered
  pub on_zero : (i n : ℕ) → Plain around f s → (pc + 1 + n ≤ around.lines) × Less s.label (table (pc + 1 + n)).label → Reached s (pc + 1) → IsLine around f table pc s (Op.SkipIfZero i n)
  on_zero i n plain to next = record {
    owned = plain.owned;
    scoped = plain.scoped;
    typed = λ dropped passes repeats jumps on. (
      plain.closed,
      (to.0, with_less s.label (table (pc + 1 + n)).label (passes pc) (passes (pc + 1 + n)) to.1 (none_in (passes (pc + 1 + n)) (jumps (pc + 1 + n) (eq_refl (pc + 1 + n))) (passes pc))),
      with_less s.label (table (pc + 1)).label (passes pc) (passes (pc + 1)) next.1.less (λ p h. absurd (on p h)),
    );
    cells = λ a z. absurd (none-some a z);
    tells = λ e. absurd (false≢true e);
  }

  pub on_null : (r n : ℕ) → PlainNull around f s r → Reached (cleared s r) (pc + 1 + n) → Reached (noted s r) (pc + 1) → IsLine around f table pc s (Op.SkipIfNull r n)
  on_null r n plain to next = record {
    owned = plain.plain.owned;
    scoped = plain.plain.scoped;
    typed = λ dropped passes repeats jumps on. (
      plain.plain.closed,
      inr (free_too s.label (passes pc) r plain.free, (to.0, to_line (cleared s r) (pc + 1 + n) passes (without_base r (passes pc)) (jumps (pc + 1 + n) (eq_refl (pc + 1 + n))) to)),
      with_less (knows s.label r) (table (pc + 1)).label (passes pc) (passes (pc + 1)) next.1.less (λ p h. absurd (on p h)),
    );
    cells = λ a z. absurd (none-some a z);
    tells = λ e. absurd (false≢true e);
  }

  -- ---- that lead to the next line
  module _ (e : Mark) (next : Fits around.targets e (table (pc + 1))) where
    abbrev t : Label
    t = (table (pc + 1)).label

    lesser : (a : Label) (ps qs : List Pass) → Less a e.label → ((p : Pass) → IsIn p qs → IsIn p ps) → Less (with_passes a ps) (with_passes t qs)
    lesser a ps qs h sub = with_less a t ps qs (less_through a e.label t h next.less) sub

    abbrev Told : Op → Type 0
    Told o = is_straight o ≡ true → (k : Know) → Tells around.targets k s → Tells around.targets (know_next o k) e

    goes_on : (o : Op) → ((a : Access) → access o ≡ Some a → IsAtHand s a.cell) → Plain around f s → Told o → IsTypedAt around table pc s o → IsLine around f table pc s o
    goes_on o cells plain told typed = record { owned = plain.owned; scoped = plain.scoped; typed = typed; cells = cells; tells = λ straight k h. next.tells (know_next o k) (told straight k h) }

    pub on_enter : Plain around f s → Less s.label e.label → Told Op.Enter → IsLine around f table pc s Op.Enter
    on_enter plain less told = goes_on Op.Enter (λ a z. absurd (none-some a z)) plain told (λ dropped passes repeats jumps on. lesser s.label (passes pc) (passes (pc + 1)) less on)

    pub on_block_end : Plain around f s → Less s.label e.label → IsLine around f table pc s Op.BlockEnd
    on_block_end plain less = goes_on Op.BlockEnd (λ a z. absurd (none-some a z)) plain (λ z. absurd (false≢true z)) (λ dropped passes repeats jumps on. lesser s.label (passes pc) (passes (pc + 1)) less (λ p h. absurd (on p h)))

    -- ---- numbers
    pub on_constant : (i : ℕ) (v : ℤ) → Plain around f s → i < ints_in around.code s.label.function → Less (set_number s.label i (Exactly v)) e.label → Told (Op.Constant i v) → IsLine around f table pc s (Op.Constant i v)
    on_constant i v plain int less told = goes_on (Op.Constant i v) (λ a z. absurd (none-some a z)) plain told (λ dropped passes repeats jumps on. (plain.closed, int, lesser (set_number s.label i (Exactly v)) (passes pc) (passes (pc + 1)) less on))

    pub on_move : (i from : ℕ) → Plain around f s → i < ints_in around.code s.label.function → Less (set_number s.label i (s.label.ints from)) e.label → Told (Op.Move i from) → IsLine around f table pc s (Op.Move i from)
    on_move i from plain int less told = goes_on (Op.Move i from) (λ a z. absurd (none-some a z)) plain told (λ dropped passes repeats jumps on. inl (plain.closed, int, lesser (set_number s.label i (s.label.ints from)) (passes pc) (passes (pc + 1)) less on))

    -- both are the number of this name
    pub on_move_named : (i from name : ℕ) → Plain around f s → i < ints_in around.code s.label.function → from < ints_in around.code s.label.function → Fresh s.label name
        → Less (set_number (record s.label { ints = put s.label.ints from (Indexes name) }) i (Indexes name)) e.label → Told (Op.Move i from) → IsLine around f table pc s (Op.Move i from)
    on_move_named i from name plain int int2 fresh less told = goes_on (Op.Move i from) (λ a z. absurd (none-some a z)) plain told (λ dropped passes repeats jumps on.
        inr (name, fresh, int2, (plain.closed, int, lesser (set_number (record s.label { ints = put s.label.ints from (Indexes name) }) i (Indexes name)) (passes pc) (passes (pc + 1)) less on)))

    pub on_compute : (w : Width) (o : Operator) (i a b : ℕ) (spot : Spot) → Plain around f s → i < ints_in around.code s.label.function → IsWide w → Operands s.label w o a b
        → Less (set_number s.label i (Within w)) e.label → Told (Op.Compute w o i a b spot) → IsLine around f table pc s (Op.Compute w o i a b spot)
    on_compute Char o i a b spot plain int wide operands less told = absurd wide
    on_compute k o i a b spot plain int wide operands less told = goes_on (Op.Compute k o i a b spot) (λ a z. absurd (none-some a z)) plain told
        (λ dropped passes repeats jumps on. (record { left = operands.left; right = operands.right }, (plain.closed, int, lesser (set_number s.label i (Within k)) (passes pc) (passes (pc + 1)) less on)))

    pub on_negate : (w : Width) (i a : ℕ) (spot : Spot) → Plain around f s → i < ints_in around.code s.label.function → IsWide w → Less (set_number s.label i (Within w)) e.label → Told (Op.Negate w i a spot) → IsLine around f table pc s (Op.Negate w i a spot)
    on_negate Char i a spot plain int wide less told = absurd wide
    on_negate k i a spot plain int wide less told = goes_on (Op.Negate k i a spot) (λ a z. absurd (none-some a z)) plain told (λ dropped passes repeats jumps on. (plain.closed, int, lesser (set_number s.label i (Within k)) (passes pc) (passes (pc + 1)) less on))

    pub on_complement : (i a : ℕ) (w : Width) → Plain around f s → i < ints_in around.code s.label.function → FitsWidth (s.label.ints a) w → Less (set_number s.label i (Within w)) e.label → Told (Op.Complement i a) → IsLine around f table pc s (Op.Complement i a)
    on_complement i a w plain int fits less told = goes_on (Op.Complement i a) (λ a z. absurd (none-some a z)) plain told (λ dropped passes repeats jumps on. (w, fits, (plain.closed, int, lesser (set_number s.label i (Within w)) (passes pc) (passes (pc + 1)) less on)))

    pub on_false : (i a : ℕ) → Plain around f s → i < ints_in around.code s.label.function → Less (set_number s.label i (Within Char)) e.label → Told (Op.IsFalse i a) → IsLine around f table pc s (Op.IsFalse i a)
    on_false i a plain int less told = goes_on (Op.IsFalse i a) (λ a z. absurd (none-some a z)) plain told (λ dropped passes repeats jumps on. (plain.closed, int, lesser (set_number s.label i (Within Char)) (passes pc) (passes (pc + 1)) less on))

    pub on_same : (i a b : ℕ) → Plain around f s → i < ints_in around.code s.label.function → Less (set_number s.label i (Within Char)) e.label → Told (Op.SameReference i a b) → IsLine around f table pc s (Op.SameReference i a b)
    on_same i a b plain int less told = goes_on (Op.SameReference i a b) (λ a z. absurd (none-some a z)) plain told (λ dropped passes repeats jumps on. (plain.closed, int, lesser (set_number s.label i (Within Char)) (passes pc) (passes (pc + 1)) less on))

    pub on_width : (w : Width) (i : ℕ) (spot : Spot) → Plain around f s → i < ints_in around.code s.label.function → Less (set_number s.label i (Within w)) e.label → Told (Op.ChkWidth w i spot) → IsLine around f table pc s (Op.ChkWidth w i spot)
    on_width w i spot plain int less told = goes_on (Op.ChkWidth w i spot) (λ a z. absurd (none-some a z)) plain told (λ dropped passes repeats jumps on. inr (plain.closed, int, lesser (set_number s.label i (Within w)) (passes pc) (passes (pc + 1)) less on))

    pub on_positive : (i : ℕ) (spot : Spot) → Plain around f s → Less s.label e.label → Told (Op.ChkPositive i spot) → IsLine around f table pc s (Op.ChkPositive i spot)
    on_positive i spot plain less told = goes_on (Op.ChkPositive i spot) (λ a z. absurd (none-some a z)) plain told (λ dropped passes repeats jumps on. (plain.closed, lesser s.label (passes pc) (passes (pc + 1)) less on))

    pub on_print : (i : ℕ) (spot : Spot) → Plain around f s → Less s.label e.label → Told (Op.Print i spot) → IsLine around f table pc s (Op.Print i spot)
    on_print i spot plain less told = goes_on (Op.Print i spot) (λ a z. absurd (none-some a z)) plain told (λ dropped passes repeats jumps on. (plain.closed, lesser s.label (passes pc) (passes (pc + 1)) less on))

    pub on_join : (i : ℕ) (spot : Spot) → Plain around f s → Less s.label e.label → IsLine around f table pc s (Op.Join i spot)
    on_join i spot plain less = goes_on (Op.Join i spot) (λ a z. absurd (none-some a z)) plain (λ z. absurd (false≢true z)) (λ dropped passes repeats jumps on. (plain.closed, lesser s.label (passes pc) (passes (pc + 1)) less (λ p h. absurd (on p h))))

    -- the number of a field of that element of an object, and of a global
    pub on_bounds : (i base count field : ℕ) (spot : Spot) (type : StaticType) (element : Element) → Plain around f s → i < ints_in around.code s.label.function → base < refs_in around.code s.label.function → s.label.known base ≡ true
        → s.label.env base ≡ Refers type → count ≡ cells_of around.targets type.target → field < count → ((ps : List Pass) → IsElement (with_passes s.label ps) (s.label.ints i) element) → Less (set_number s.label i (OfElement base field element)) e.label
        → Told (Op.Bounds i base count field spot) → IsLine around f table pc s (Op.Bounds i base count field spot)
    on_bounds i base count field spot type element plain int ref known is size within named less told = goes_on (Op.Bounds i base count field spot) (λ a z. absurd (none-some a z)) plain told
        (λ dropped passes repeats jumps on. (plain.closed, int, ref, known, (type, is, size, within), (element, named (passes pc), lesser (set_number s.label i (OfElement base field element)) (passes pc) (passes (pc + 1)) less on)))

    pub on_global_bounds : (i elements count field : ℕ) (spot : Spot) (element : Element) → Plain around f s → OpWrites (ints_in around.code s.label.function) (refs_in around.code s.label.function) (Op.GlobalBounds i elements count field spot)
        → ((ps : List Pass) → IsElement (with_passes s.label ps) (s.label.ints i) element) → Less (set_number s.label i (OfGlobal field count elements element)) e.label → Told (Op.GlobalBounds i elements count field spot)
        → IsLine around f table pc s (Op.GlobalBounds i elements count field spot)
    on_global_bounds i elements count field spot element plain writes named less told = goes_on (Op.GlobalBounds i elements count field spot) (λ a z. absurd (none-some a z)) plain told
        (λ dropped passes repeats jumps on. (plain.closed, writes.0, writes.1, (element, named (passes pc), lesser (set_number s.label i (OfGlobal field count elements element)) (passes pc) (passes (pc + 1)) less on)))

    -- ---- references
    vacant_too : (r : ℕ) (ps : List Pass) → IsVacant around.code s.label r → IsVacant around.code (with_passes s.label ps) r
    vacant_too r ps h = record { is = h.is; empty = h.empty }

    pub on_nothing : (r : ℕ) → Plain around f s → IsVacant around.code s.label r → Less s.label e.label → Told (Op.Null r) → IsLine around f table pc s (Op.Null r)
    on_nothing r plain vacant less told = goes_on (Op.Null r) (λ a z. absurd (none-some a z)) plain told (λ dropped passes repeats jumps on. (plain.closed, vacant_too r (passes pc) vacant, lesser s.label (passes pc) (passes (pc + 1)) less on))

    pub on_local : (r x : ℕ) → Plain around f s → IsVacant around.code s.label r → x < refs_in around.code s.label.function → Less (fill s.label r (s.label.env x) (s.label.same x) (s.label.known x)) e.label → Told (Op.Local r x) → IsLine around f table pc s (Op.Local r x)
    on_local r x plain vacant ref less told = goes_on (Op.Local r x) (λ a z. absurd (none-some a z)) plain told
        (λ dropped passes repeats jumps on. (plain.closed, vacant_too r (passes pc) vacant, ref, lesser (fill s.label r (s.label.env x) (s.label.same x) (s.label.known x)) (passes pc) (passes (pc + 1)) less on))

    pub on_pop : (r : ℕ) → Plain around f s → r < refs_in around.code s.label.function → IsFree s.label r → Less (empty s.label r) e.label → Told (Op.Pop r) → IsLine around f table pc s (Op.Pop r)
    on_pop r plain ref free less told = goes_on (Op.Pop r) (λ a z. absurd (none-some a z)) plain told
        (λ dropped passes repeats jumps on. (plain.closed, ref, inl (free_too s.label (passes pc) r free, lesser (empty s.label r) (without_base r (passes pc)) (passes (pc + 1)) less on)))

    pub on_check : (r : ℕ) (spot : Spot) → Plain around f s → Less (knows s.label r) e.label → Told (Op.ChkNull r spot) → IsLine around f table pc s (Op.ChkNull r spot)
    on_check r spot plain less told = goes_on (Op.ChkNull r spot) (λ a z. absurd (none-some a z)) plain told (λ dropped passes repeats jumps on. (plain.closed, lesser (knows s.label r) (passes pc) (passes (pc + 1)) less on))
