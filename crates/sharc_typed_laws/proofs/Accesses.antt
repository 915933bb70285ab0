-- Operations that access cells, each by itself: their checks are typed whether they are dropped or not.
use Rattle.sharc_typed_laws.proofs.{Imports.{◌≡◌, ◌≢◌, ℕ, ◌+◌, ◌<◌, Bool, true, false, List, Some, refl, sym, ap, ◌∙◌, subst, ⊎_elim, cases_eq, same_Some, none-some, Read, Write, PlaceMode, Cell, Width, put, put_same, put_other, put_all, Op, Spot, Access, access, Know, know_next, is_straight, StaticType, Field, FieldType, FieldMode, Content, is_pointer, Mentions, Private, Readonly, Dynamic, Under, Behind, Integer, Pointer, Empty, Refers, Within, Closed, Loaded, Pass, IsIn, Label, Less, LessEntry, IsScoped, IsFree, set_number, fill, empty, gated, without_base, IsVacant, IsOwn, FitsWidth, PointsTo, HasCell, ints_in, refs_in, knows_base, known_behind, lock_of, passed_behind, MayPass, PassesCheck, with_passes, with_all, IsPassed, Mark, Setting, labels_by, Tells, Fits, IsTypedAt, IsAtHand, IsLine, MayReach, mark, never}, TypedAlike.{same_reference, less_entry, has_field, has_cell, sibling, mutex_of, mode_is, place_is, points_to}, Preorder.less_through, Rules.free_too}

-- ---- less, with checks that are remembered, and more of what is not NULL
pub with_more : (a b : Label) (known : ℕ → Bool) (ps qs : List Pass) → Less a b → ((r : ℕ) → a.known r ≡ true → known r ≡ true) → ((p : Pass) → IsIn p qs → IsIn p ps) → Less (record a { known = known; passed = ps }) (with_passes b qs)
with_more a b known ps qs h more sub = record {
  function = h.function;
  env = λ r. less_entry a known a.gate ps r (a.env r) (b.env r) (h.env r);
  same = λ r. same_reference a known a.gate ps r (b.same r) (h.same r);
  known = λ r e. more r (h.known r e);
  ints = h.ints;
  gate = h.gate;
  passed = sub;
  room = h.room;
}

knows_more : (l : Label) (c : Cell) (r : ℕ) → l.known r ≡ true → (knows_base l c).known r ≡ true
knows_more l (Cell.Object q i) r e = put_all (λ r y. l.known r ≡ true → y ≡ true) l.known q true (λ _. refl) (λ r _ e. e) r e
knows_more l (Cell.ObjectAt q i) r e = put_all (λ r y. l.known r ≡ true → y ≡ true) l.known q true (λ _. refl) (λ r _ e. e) r e
knows_more l _ r e = e

more_behind : (l : Label) (spot : Spot) (mode : PlaceMode) (r : ℕ) → l.known r ≡ true → known_behind l spot mode r ≡ true
more_behind l spot (PlaceMode.LockedSibling f m) r e = knows_more l spot.lock r e
more_behind l spot (PlaceMode.LockedThrough q p) r e = knows_more l (Cell.Object q p) r e
more_behind l spot _ r e = e

cleared_too : (g k : ℕ → Bool) (r : ℕ) → ((q : ℕ) → g q ≡ true → k q ≡ true) → (q : ℕ) → put g r false q ≡ true → put k r false q ≡ true
cleared_too g k r more q h = ⊎_elim (λ (z : q ≡ r). never (sym (ap (put g r false) z ∙ put_same g r false) ∙ h)) (λ (ne : q ≡ r → ⊥). put_other k r q false ne ∙ more q (sym (put_other g r q false ne) ∙ h)) (cases_eq q r)

-- ---- the check of an access
module _ (around : Setting) (table : ℕ → Mark) (passes : ℕ → List Pass) (l : Label) (write : Bool) (c : Cell) (spot : Spot) (ps : List Pass) where
  own_too : (c : Cell) → IsOwn (labels_by around (λ n. mark l 0 0)) l c → IsOwn (with_all (labels_by around table) passes) (with_passes l ps) c
  own_too (Cell.Global g p) h = h
  own_too _ h = h

  may_too : (d : Bool) (m : Cell) (holds : Content) (mode : FieldMode) → (d ≡ true → IsPassed around.targets l ps write c) → (d ≡ true → is_pointer holds ≡ false) → MayPass around.targets around.code (labels_by around (λ n. mark l 0 0)) false l write c m holds mode
      → MayPass around.targets around.code (with_all (labels_by around table) passes) d (with_passes l ps) write c m holds mode
  may_too d m holds Private repeats plain h = (h.0, own_too c h.1)
  may_too true m holds Dynamic repeats plain h = let w = repeats refl in (h, record { pass = w.pass; among = w.among; covers = w.covers; place = place_is l l.known l.gate ps around.targets c w.pass.base w.pass.cell w.place; integer = plain refl })
  may_too d m holds (Under lock) repeats plain h = (h.0, record { field = h.1.field; has = has_field l l.known l.gate ps around.targets around.code m h.1.field h.1.has; mutex = h.1.mutex; is = mutex_of l l.known l.gate ps around.code lock c m h.1.is })
  may_too d m holds (Behind field pointer) repeats plain h = record {
    cell = h.cell;
    of = h.of;
    loaded = h.loaded;
    has = has_cell l l.known l.gate ps (λ r e. e) around.targets around.code h.cell h.of h.has;
    points = h.points;
    sibling = sibling l l.known l.gate ps field pointer c h.cell h.sibling;
  }
  may_too _ m holds _ repeats plain h = h

  pub check_passes : (d : Bool) (f : Field) → (d ≡ true → IsPassed around.targets l ps write c) → (d ≡ true → is_pointer f.holds ≡ false) → MayReach around l write c spot f
      → PassesCheck around.targets around.code (with_all (labels_by around table) passes) d (with_passes l ps) write c spot f
  check_passes d f repeats plain h = record {
    cell = has_cell l l.known l.gate ps (λ r e. e) around.targets around.code c f h.cell;
    mode = mode_is l l.known l.gate ps around.code c f.mode spot.mode h.mode;
    may = may_too d (lock_of spot spot.mode) f.holds f.mode repeats plain h.may;
  }

-- ---- one line
pub record InFrame (around : Setting) (f : ℕ) (s : Mark) : Type 0 where
  pub owned : s.label.function ≡ Some f
  pub scoped : IsScoped (ints_in around.code (Some f)) (refs_in around.code (Some f)) s.label

module _ (around : Setting) (f : ℕ) (table : ℕ → Mark) (pc : ℕ) (s e : Mark) (next : Fits around.targets e (table (pc + 1))) (here : InFrame around f s) where
  abbrev t : Label
  t = (table (pc + 1)).label

  abbrev l : Label
  l = s.label

  abbrev Told : Op → Type 0
  Told o = is_straight o ≡ true → (k : Know) → Tells around.targets k s → Tells around.targets (know_next o k) e

  goes_on : (o : Op) → ((a : Access) → access o ≡ Some a → IsAtHand s a.cell) → Told o → IsTypedAt around table pc s o → IsLine around f table pc s o
  goes_on o cells told typed = record { owned = here.owned; scoped = here.scoped; typed = typed; cells = cells; tells = λ straight k h. next.tells (know_next o k) (told straight k h) }

  lesser : (a : Label) (known : ℕ → Bool) (ps qs : List Pass) → Less a e.label → ((r : ℕ) → a.known r ≡ true → known r ≡ true) → ((p : Pass) → IsIn p qs → IsIn p ps) → Less (record a { known = known; passed = ps }) (with_passes t qs)
  lesser a known ps qs h more sub = with_more a t known ps qs (less_through a e.label t h next.less) more sub

  integer_only : (w : Width) (h : Content) → h ≡ Integer w → is_pointer h ≡ false
  integer_only w h e = ap is_pointer e

  pub on_load : (i : ℕ) (c : Cell) (spot : Spot) (field : Field) (w : Width) → IsAtHand s c → i < ints_in around.code l.function → MayReach around l false c spot field → field.holds ≡ Integer w → Less (set_number l i (Within w)) e.label → Told (Op.Load i c spot)
      → IsLine around f table pc s (Op.Load i c spot)
  on_load i c spot field w hand int may holds less told = goes_on (Op.Load i c spot) (λ a z. subst (λ (a : Access). IsAtHand s a.cell) (same_Some (record { kind = Read; cell = c; spot = spot }) a z) hand) told (λ dropped passes repeats jumps on. record {
    field = field;
    width = w;
    register = int;
    access = check_passes around table passes l false c spot (passes pc) dropped field repeats (λ _. integer_only w field.holds holds) may;
    holds = holds;
    next = lesser (set_number l i (Within w)) (known_behind (with_passes l (passes pc)) spot spot.mode) (passed_behind around.targets dropped (with_passes l (passes pc)) false c spot.mode) (passes (pc + 1)) less
        (λ r k. more_behind (with_passes l (passes pc)) spot spot.mode r k) on;
  })

  pub on_store : (i : ℕ) (c : Cell) (spot : Spot) (field : Field) (w : Width) → IsAtHand s c → MayReach around l true c spot field → field.holds ≡ Integer w → FitsWidth (l.ints i) w → Less (gated l Closed) e.label → Told (Op.Store i c spot) → IsLine around f table pc s (Op.Store i c spot)
  on_store i c spot field w hand may holds fits less told = goes_on (Op.Store i c spot) (λ a z. subst (λ (a : Access). IsAtHand s a.cell) (same_Some (record { kind = Write; cell = c; spot = spot }) a z) hand) told (λ dropped passes repeats jumps on. record {
    field = field;
    width = w;
    access = check_passes around table passes l true c spot (passes pc) dropped field repeats (λ _. integer_only w field.holds holds) may;
    holds = holds;
    fits = fits;
    next = lesser (gated l Closed) (known_behind (with_passes l (passes pc)) spot spot.mode) (passed_behind around.targets dropped (with_passes l (passes pc)) true c spot.mode) (passes (pc + 1)) less
        (λ r k. more_behind (with_passes l (passes pc)) spot spot.mode r k) on;
  })

  vacant_too : (r : ℕ) (ps : List Pass) → IsVacant around.code l r → IsVacant around.code (with_passes l ps) r
  vacant_too r ps h = record { is = h.is; empty = h.empty }

  pub on_load_reference : (r : ℕ) (c : Cell) (spot : Spot) (field : Field) (type : StaticType) → IsAtHand s c → IsVacant around.code l r → MayReach around l false c spot field → PointsTo l c field type → (Mentions type r → ⊥)
      → Less (fill l r (Refers type) r false) e.label → Told (Op.LoadRef r c spot) → IsLine around f table pc s (Op.LoadRef r c spot)
  on_load_reference r c spot field type hand vacant may points other less told = goes_on (Op.LoadRef r c spot) (λ a z. subst (λ (a : Access). IsAtHand s a.cell) (same_Some (record { kind = Read; cell = c; spot = spot }) a z) hand) told (λ dropped passes repeats jumps on. record {
    field = field;
    type = type;
    register = vacant_too r (passes pc) vacant;
    access = check_passes around table passes l false c spot (passes pc) false field never never may;
    points = points_to l l.known l.gate (passes pc) c field type points;
    other = other;
    next = lesser (fill l r (Refers type) r false) (put (known_behind (with_passes l (passes pc)) spot spot.mode) r false) (passed_behind around.targets false (with_passes l (passes pc)) false c spot.mode) (passes (pc + 1)) less
        (λ q k. cleared_too l.known (known_behind (with_passes l (passes pc)) spot spot.mode) r (λ q z. more_behind (with_passes l (passes pc)) spot spot.mode q z) q k) on;
  })

  pub on_take_cell : (r : ℕ) (c : Cell) (spot : Spot) (field : Field) (type : StaticType) → IsVacant around.code l r → MayReach around l true c spot field → PointsTo l c field type → (Mentions type r → ⊥)
      → Less (fill l r (Refers type) r false) e.label → IsLine around f table pc s (Op.TakeCell r c spot)
  on_take_cell r c spot field type vacant may points other less = goes_on (Op.TakeCell r c spot) (λ a z. absurd (none-some a z)) (λ z. never z) (λ dropped passes repeats jumps on. record {
    field = field;
    type = type;
    register = vacant_too r (passes pc) vacant;
    access = check_passes around table passes l true c spot (passes pc) false field never never may;
    points = points_to l l.known l.gate (passes pc) c field type points;
    other = other;
    next = lesser (fill l r (Refers type) r false) (put (known_behind (with_passes l (passes pc)) spot spot.mode) r false) (passed_behind around.targets false (with_passes l (passes pc)) true c spot.mode) (passes (pc + 1)) less
        (λ q k. cleared_too l.known (known_behind (with_passes l (passes pc)) spot spot.mode) r (λ q z. more_behind (with_passes l (passes pc)) spot spot.mode q z) q k) (λ p h. absurd (on p h));
  })

  pub on_store_reference : (r : ℕ) (c : Cell) (spot : Spot) (field : Field) → IsAtHand s c → r < refs_in around.code l.function → MayReach around l true c spot field → PointsTo l c field s.replaced → LessEntry l r (l.env r) (Refers s.replaced) → IsFree l r
      → (Mentions s.replaced r → ⊥) → ((q : ℕ) → Mentions s.replaced q → l.env q ≢ Empty) → Less (empty (fill (empty l r) r (Refers s.replaced) r false) r) e.label → Told (Op.StoreRef r c spot) → IsLine around f table pc s (Op.StoreRef r c spot)
  on_store_reference r c spot field hand ref may points value free other paths less told = goes_on (Op.StoreRef r c spot) (λ a z. subst (λ (a : Access). IsAtHand s a.cell) (same_Some (record { kind = Write; cell = c; spot = spot }) a z) hand) told (λ dropped passes repeats jumps on.
      let kb = known_behind (with_passes l (passes pc)) spot spot.mode in record {
        field = field;
        register = ref;
        access = check_passes around table passes l true c spot (passes pc) false field never never may;
        points = points_to l l.known l.gate (passes pc) c field s.replaced points;
        value = less_entry l l.known l.gate (passes pc) r (l.env r) (Refers s.replaced) value;
        free = free_too l (passes pc) r free;
        other = other;
        paths = paths;
        next = lesser (empty (fill (empty l r) r (Refers s.replaced) r false) r) (put (put (put kb r false) r false) r false) (without_base r (without_base r (passed_behind around.targets false (with_passes l (passes pc)) true c spot.mode))) (passes (pc + 1)) less
            (λ q k. thrice kb (λ q z. more_behind (with_passes l (passes pc)) spot spot.mode q z) q k) on;
      })
    where
      thrice : (kb : ℕ → Bool) → ((q : ℕ) → l.known q ≡ true → kb q ≡ true) → (q : ℕ) → put (put (put l.known r false) r false) r false q ≡ true → put (put (put kb r false) r false) r false q ≡ true
      thrice kb more q k = cleared_too (put (put l.known r false) r false) (put (put kb r false) r false) r (λ q z. cleared_too (put l.known r false) (put kb r false) r (λ q y. cleared_too l.known kb r more q y) q z) q k

  pub on_load_guard : (c : Cell) (spot : Spot) (field : Field) (to : FieldType) → l.gate ≡ Closed → HasCell around.targets around.code l c field → field.mode ≡ Readonly → field.holds ≡ Pointer to → Less (gated l (Loaded c)) e.label → Told (Op.LoadGuard c spot)
      → IsLine around f table pc s (Op.LoadGuard c spot)
  on_load_guard c spot field to closed cell mode holds less told = goes_on (Op.LoadGuard c spot) (λ a z. absurd (none-some a z)) told (λ dropped passes repeats jumps on. record {
    field = field;
    to = to;
    closed = closed;
    cell = has_cell l l.known l.gate (passes pc) (λ r e. e) around.targets around.code c field cell;
    mode = mode;
    holds = holds;
    next = lesser (gated l (Loaded c)) l.known (passes pc) (passes (pc + 1)) less (λ r k. k) on;
  })
