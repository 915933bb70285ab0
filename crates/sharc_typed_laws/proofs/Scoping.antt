-- What is known within a piece names registers of its frame that hold something.
use Rattle.sharc_typed_laws.proofs.{Imports.{◌≡◌, ◌≢◌, ◌<◌, ◌+◌, ◌*◌, ℕ, Bool, true, false, List, ◌++◌, Option, Some, None, refl, sym, ap, ◌∙◌, subst, inl, ⊎_elim, same_Some, none-some, AllByRecursion, Code, PlaceMode, Cell, put_all, put_other, Op, Spot, Targets, StaticType, Field, FieldMode, Mentions, cells_of, Under, Entry, Empty, Refers, Nth, Number, OfElement, OfGlobal, Gate, Loaded, Sole, Pass, IsIn, Label, Labels, IsScoped, EntryMentions, empty, without_base, HasField, IsMode, knows_base, ints_in, refs_in, kept_pass, scoped_gate, scoped_fill, scoped_empty, global_pass, global_element_pass, element_pass, pass_of, with_pass, known_behind, passed_behind, behind, before_check, lock_of, exchanged, inside, PassesCheck, MayPass, TypedLine}, Checking.global_is}

-- other things are known of NULL and of checks
pub over : (ints refs : ℕ) (l : Label) (known : ℕ → Bool) (gate : Gate) (passed : List Pass) → IsScoped ints refs l → ((r : ℕ) → known r ≡ true → l.env r ≢ Empty)
    → ((p : Pass) (r : ℕ) → IsIn p passed → p.base ≡ Some r → l.env r ≢ Empty) → IsScoped ints refs (record l { known = known; gate = gate; passed = passed })
over ints refs l known gate passed h knows passes = record { few = h.few; paths = h.paths; copies = h.copies; bases = h.bases; numbers = h.numbers; known = knows; passes = passes }

refers_some : (e : Entry) (s : StaticType) → e ≡ Refers s → e ≢ Empty
refers_some e s is none = let z : Refers s ≡ Empty = sym is ∙ none in cc

module _ (x : Targets) (code : Code) (ints refs : ℕ) (l : Label) (h : IsScoped ints refs l) where
  -- ---- a mutex is looked at
  knows_scoped : (m : Cell) (f : Field) → HasField x code l m f → (r : ℕ) → (knows_base l m).known r ≡ true → l.env r ≢ Empty
  knows_scoped (Cell.Object q i) f has r e = put_all (λ r (b : Bool). b ≡ true → l.env r ≢ Empty) l.known q true (λ _. refers_some (l.env q) has.1.0 has.1.1) (λ r _ e. h.known r e) r e
  knows_scoped (Cell.ObjectAt q i) f has r e = put_all (λ r (b : Bool). b ≡ true → l.env r ≢ Empty) l.known q true (λ _. refers_some (l.env q) has.1.0 has.1.3) (λ r _ e. h.known r e) r e
  knows_scoped _ f has r e = h.known r e

  by_lock : (spot : Spot) (mode : PlaceMode) (f : Field) → HasField x code l (lock_of spot mode) f → (r : ℕ) → known_behind l spot mode r ≡ true → l.env r ≢ Empty
  by_lock spot (PlaceMode.LockedSibling a b) f has r e = knows_scoped spot.lock f has r e
  by_lock spot (PlaceMode.LockedThrough q p) f has r e = knows_scoped (Cell.Object q p) f has r e
  by_lock spot _ f has r e = h.known r e

  abbrev KnownScoped : Spot → PlaceMode → Type 0
  KnownScoped spot mode = (r : ℕ) → known_behind l spot mode r ≡ true → l.env r ≢ Empty

  known_scoped : (ls : Labels) (dropped write : Bool) (c : Cell) (spot : Spot) (f : Field) (mode : PlaceMode) (fm : FieldMode) → IsMode code l c fm mode → MayPass x code ls dropped l write c (lock_of spot mode) f.holds fm → KnownScoped spot mode
  known_scoped ls dropped write c spot f mode (Under lock) e k = by_lock spot mode k.1.field k.1.has
  known_scoped ls dropped write c spot f mode _ e k = subst (KnownScoped spot) (sym e) h.known

  -- ---- a check is remembered
  same_full : (r : ℕ) → l.env r ≢ Empty → l.env (l.same r) ≢ Empty
  same_full r full = ⊎_elim (λ (e : l.same r ≡ r). subst (λ q. l.env q ≢ Empty) (sym e) full) (λ (k : l.env (l.same r) ≢ Empty). k) (h.copies r)

  abbrev PassScoped : Pass → Type 0
  PassScoped p = (q : ℕ) → p.base ≡ Some q → l.env q ≢ Empty

  by_base : (p : Pass) (r q : ℕ) → l.env r ≢ Empty → Some (l.same r) ≡ p.base → p.base ≡ Some q → l.env q ≢ Empty
  by_base p r q full base is = subst (λ q. l.env q ≢ Empty) (same_Some (l.same r) q (base ∙ is)) (same_full r full)

  no_base : (p : Pass) → p.base ≡ None → PassScoped p
  no_base p none q is = absurd (none-some q (sym none ∙ is))

  by_global : (write : Bool) (q : ℕ) (p : Pass) → global_pass write q ≡ Some p → PassScoped p
  by_global write q p e = no_base p (global_is write q p e).base

  by_global_element : (write : Bool) (n : Number) (p : Pass) → global_element_pass write n ≡ Some p → PassScoped p
  by_global_element write (OfGlobal first count elements (Nth e)) p is = by_global write _ p is
  by_global_element write _ p is = absurd (none-some p is)

  by_element : (write : Bool) (r : ℕ) → l.env r ≢ Empty → (entry : Entry) (n : Number) (p : Pass) → element_pass x l write r entry n ≡ Some p → PassScoped p
  by_element write r full (Refers s) (OfElement b f (Nth k)) p is =
      let same = same_Some (record { write = write; base = Some (l.same r); cell = k * cells_of x s.target + f }) p is in
      λ q base. by_base p r q full (ap (λ (p : Pass). p.base) same) base
  by_element write r full _ _ p is = absurd (none-some p is)

  pass_scoped : (write : Bool) (c : Cell) (f : Field) → HasField x code l c f → (p : Pass) → pass_of x l write c ≡ Some p → PassScoped p
  pass_scoped write (Cell.Global g q) f has p e = by_global write q p e
  pass_scoped write (Cell.GlobalAt g i) f has p e = by_global_element write (l.ints i) p e
  pass_scoped write (Cell.Object r i) f has p e =
      let same = same_Some (record { write = write; base = Some (l.same r); cell = i }) p e in
      λ q base. by_base p r q (refers_some (l.env r) has.1.0 has.1.1) (ap (λ (p : Pass). p.base) same) base
  pass_scoped write (Cell.ObjectAt r i) f has p e = by_element write r (refers_some (l.env r) has.1.0 has.1.3) (l.env r) (l.ints i) p e

  with_pass_scoped : (o : Option Pass) → ((p : Pass) → o ≡ Some p → PassScoped p) → (p : Pass) (r : ℕ) → IsIn p (with_pass o l.passed) → p.base ≡ Some r → l.env r ≢ Empty
  with_pass_scoped None new p r among = h.passes p r among
  with_pass_scoped (Some q) new p r among = ⊎_elim (λ (e : q ≡ p). new p (ap Some e) r) (λ k. h.passes p r k) among

  passes_scoped : (dropped write : Bool) (c : Cell) (f : Field) → HasField x code l c f → (mode : PlaceMode) (p : Pass) (r : ℕ) → IsIn p (passed_behind x dropped l write c mode) → p.base ≡ Some r → l.env r ≢ Empty
  passes_scoped false write c f has PlaceMode.Dynamic = with_pass_scoped (pass_of x l write c) (pass_scoped write c f has)
  passes_scoped dropped write c f has mode = h.passes

  -- ---- behind a check
  pub behind_scoped : (ls : Labels) (dropped write : Bool) (c : Cell) (spot : Spot) (f : Field) → PassesCheck x code ls dropped l write c spot f → IsScoped ints refs (behind x dropped l write c spot)
  behind_scoped ls dropped write c spot f k =
      over ints refs l _ _ _ h (known_scoped ls dropped write c spot f spot.mode f.mode k.mode k.may) (passes_scoped dropped write c f k.cell.field spot.mode)

  check_scoped : (dropped : Bool) (mode : PlaceMode) (labels : List Label) → AllByRecursion (IsScoped ints refs) labels → AllByRecursion (IsScoped ints refs) (before_check dropped l mode ++ labels)
  check_scoped true PlaceMode.Private labels k = k
  check_scoped true PlaceMode.Readonly labels k = k
  check_scoped true PlaceMode.Racy labels k = k
  check_scoped true PlaceMode.Dynamic labels k = k
  check_scoped false PlaceMode.Private labels k = k
  check_scoped false PlaceMode.Readonly labels k = k
  check_scoped false PlaceMode.Racy labels k = k
  check_scoped _ _ labels k = (h, k)

  tested_scoped : (r : ℕ) (gate : Gate) → IsScoped ints refs (record l { gate = gate; passed = without_base r l.passed })
  tested_scoped r gate = over ints refs l l.known gate (without_base r l.passed) h h.known (λ p q among. h.passes p q (kept_pass r l.passed p among).0)

  exchanged_scoped : (b : Label) (r : ℕ) (type : StaticType) → IsScoped ints refs b → b.env ≡ l.env → r < refs → ((q : ℕ) → q ≢ r → EntryMentions (b.env q) r → ⊥) → (Mentions type r → ⊥) → ((q : ℕ) → Mentions type q → b.env q ≢ Empty)
      → IsScoped ints refs (exchanged b r type)
  exchanged_scoped b r type scoped same lt free other paths =
      scoped_fill ints refs (empty b r) r type r false lt
      (λ q m none. paths q m (sym (put_other b.env r q Empty (λ e. other (subst (Mentions type) e m))) ∙ none))
      (inl refl) (scoped_empty ints refs b r free scoped)

pub scoped : (x : Targets) (code : Code) (ls : Labels) (lines : ℕ) (dropped : Bool) (type : StaticType) (n : ℕ) (l k : Label) (o : Op)
    → IsScoped (ints_in code l.function) (refs_in code l.function) l → TypedLine x code ls lines dropped type n l k o
    → AllByRecursion (IsScoped (ints_in code l.function) (refs_in code l.function)) (inside x dropped type o l)
scoped x code ls lines dropped type n l k Op.Enter h t = tt
scoped x code ls lines dropped type n l k Op.BlockEnd h t = tt
scoped x code ls lines dropped type n l k (Op.Settle to from) h t = (h, (scoped_empty _ _ l to t.target_free.paths h, tt))
scoped x code ls lines dropped type n l k (Op.Load i c spot) h t =
    check_scoped x code _ _ l h dropped spot.mode _ (behind_scoped x code _ _ l h ls dropped false c spot t.field t.access, tt)
scoped x code ls lines dropped type n l k (Op.Store i c spot) h t =
    check_scoped x code _ _ l h dropped spot.mode _ (behind_scoped x code _ _ l h ls dropped true c spot t.field t.access, tt)
scoped x code ls lines dropped type n l k (Op.LoadRef r c spot) h t =
    let b = behind_scoped x code _ _ l h ls false false c spot t.field t.access in
    check_scoped x code _ _ l h false spot.mode _ (b, (scoped_gate _ _ (behind x false l false c spot) (Loaded c) b, tt))
scoped x code ls lines dropped type n l k (Op.TakeCell r c spot) h t =
    check_scoped x code _ _ l h false spot.mode _ (behind_scoped x code _ _ l h ls false true c spot t.field t.access, tt)
scoped x code ls lines dropped type n l k (Op.StoreRef r c spot) h t =
    let b = behind_scoped x code _ _ l h ls false true c spot t.field t.access in
    check_scoped x code _ _ l h false spot.mode _ (b, (exchanged_scoped x code _ _ l h (behind x false l true c spot) r type b refl t.register t.free.paths t.other t.paths, tt))
scoped x code ls lines dropped type n l k (Op.Give r cells spot) h t = (h, (tested_scoped x code _ _ l h r (Sole r false), (tested_scoped x code _ _ l h r (Sole r true), tt)))
scoped x code ls lines dropped type n l k (Op.Free r layout spot) h t = (h, (tested_scoped x code _ _ l h r (Sole r false), tt))
scoped x code ls lines dropped type n l k o h t = (h, tt)
