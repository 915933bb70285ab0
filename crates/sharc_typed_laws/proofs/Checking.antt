-- An access may be made behind its check, and the check is typed.
use Rattle.sharc_typed_laws.proofs.{Imports.{◌≡◌, ℕ, ◌+◌, ◌-◌, ◌*◌, ◌≤◌, Bool, true, false, List, ◌∷◌, ◌++◌, Option, Some, None, refl, sym, ap, ◌∙◌, subst, inl, inr, arith, nat_tests, same_Some, none-some, nat_lt, slice_index_or, map, if◌then◌else◌, Code, Row as Function, PlaceMode, Cell, Instr, ChkRead, ChkWrite, ChkLock, ChkLockLoaded, place_at, put_same, put_all, Spot, instr_of, check_under, Targets, Lock, Field, FieldLock, FieldMode, cells_of, Global, Self, OfType, OfGlobals, OfSameElement, Private, Readonly, Racy, Dynamic, Under, Behind, Entry, Refers, Element, Nth, Number, OfElement, OfGlobal, Gate, Closed, Checked, Holds, HoldsLoaded, Pass, Label, Labels, Less, IsCopy, gated, HasField, HasCell, IsPlace, IsOwn, Directly, Earlier, Covers, MayAccess, Accesses, IsNotSole, IsMode, IsLockMode, IsTypeMode, LeadsChecked, knows_base, no_lock, less_refl, all_at, Steps, Chain, lock_of, global_pass, global_element_pass, element_pass, pass_of, with_pass, held_gate, known_behind, gate_behind, passed_behind, behind, before_check, IsLockedBy, IsGuardedBy, MayPass, PassesCheck}, TypedAlike.{has_field, has_cell, sibling, mutex_of, mode_is, place_is}, Weaker.may_among}
use Rattle.sharc_invariant.specs.Typed.{HasBase}

-- ---- the check as one that is remembered
pub record IsPass (x : Targets) (l : Label) (write : Bool) (c : Cell) (p : Pass) : Type 0 where
  pub kind : p.write ≡ write
  pub place : IsPlace x l c p.base p.cell

pub record IsGlobalPass (write : Bool) (q : ℕ) (p : Pass) : Type 0 where
  pub kind : p.write ≡ write
  pub base : p.base ≡ None
  pub cell : q ≡ p.cell + 2

pub global_is : (write : Bool) (q : ℕ) (p : Pass) → global_pass write q ≡ Some p → IsGlobalPass write q p
global_is write q p = elim (nat_lt q 2) as (λ y. nat_lt q 2 ≡ y → (if y then None else Some (record { write = write; base = None; cell = q - 2 })) ≡ Some p → IsGlobalPass write q p) [
  | true ↦ λ _ e. absurd (none-some p e)
  | false ↦ λ low e.
      let same = same_Some (record { write = write; base = None; cell = q - 2 }) p e in
      let le : 2 ≤ q = grind (arith, nat_tests) in
      let k : q - 2 ≡ p.cell = ap (λ (p : Pass). p.cell) same in
      record { kind = sym (ap (λ (p : Pass). p.write) same); base = sym (ap (λ (p : Pass). p.base) same); cell = omega arith }
] refl

module _ (x : Targets) (code : Code) (l : Label) (write : Bool) where
  global_element_is : (g i : ℕ) (p : Pass) (n : Number) → l.ints i ≡ n → global_element_pass write n ≡ Some p → IsPass x l write (Cell.GlobalAt g i) p
  global_element_is g i p (OfGlobal first count elements (Nth e)) is h =
      let k = global_is write (first + e * count) p h in record { kind = k.kind; place = (k.base, (first, count, elements, e, is, k.cell)) }
  global_element_is g i p _ is h = absurd (none-some p h)

  same_base : (b r f g : ℕ) (e d : Element) → OfElement b f e ≡ OfElement r g d → b ≡ r
  same_base b r f g e d h = cc

  element_is : (r i field : ℕ) (e : Element) → l.ints i ≡ OfElement r field e → (p : Pass) (entry : Entry) (n : Number) → l.env r ≡ entry → l.ints i ≡ n → element_pass x l write r entry n ≡ Some p → IsPass x l write (Cell.ObjectAt r i) p
  element_is r i field e has p (Refers s) (OfElement b f (Nth k)) entry is h =
      let same = same_Some (record { write = write; base = Some (l.same r); cell = k * cells_of x s.target + f }) p h in
      let base : b ≡ r = same_base b r f field (Nth k) e (sym is ∙ has) in
      record {
        kind = sym (ap (λ (p : Pass). p.write) same);
        place = (l.same r, f, k, s, sym (ap (λ (p : Pass). p.base) same), IsCopy refl, entry, is ∙ ap (λ b. OfElement b f (Nth k)) base, sym (ap (λ (p : Pass). p.cell) same));
      }
  element_is r i field e has p _ _ entry is h = absurd (none-some p h)

  pub pass_is : (c : Cell) (f : Field) → HasField x code l c f → (p : Pass) → pass_of x l write c ≡ Some p → IsPass x l write c p
  pass_is (Cell.Global g q) f has p e = let k = global_is write q p e in record { kind = k.kind; place = (k.base, k.cell) }
  pass_is (Cell.GlobalAt g i) f has p e = global_element_is g i p (l.ints i) refl e
  pass_is (Cell.Object r i) f has p e =
      let same = same_Some (record { write = write; base = Some (l.same r); cell = i }) p e in
      record { kind = sym (ap (λ (p : Pass). p.write) same); place = (ap (λ (p : Pass). p.cell) same, (l.same r, sym (ap (λ (p : Pass). p.base) same), IsCopy refl)) }
  pass_is (Cell.ObjectAt r i) f has p e = element_is r i has.1.1 has.1.2 has.1.4 p (l.env r) (l.ints i) refl refl e

-- ---- what is known of a mutex behind its check
module _ (x : Targets) (code : Code) (l : Label) (g : Gate) where
  abbrev held : Cell → Label
  held m = record l { known = (knows_base l m).known; gate = g; passed = l.passed }

  knows_more : (m : Cell) (r : ℕ) → l.known r ≡ true → (knows_base l m).known r ≡ true
  knows_more (Cell.Object q i) r e = put_all (λ r (b : Bool). l.known r ≡ true → b ≡ true) l.known q true (λ _. refl) (λ r _ e. e) r e
  knows_more (Cell.ObjectAt q i) r e = put_all (λ r (b : Bool). l.known r ≡ true → b ≡ true) l.known q true (λ _. refl) (λ r _ e. e) r e
  knows_more _ r e = e

  leads_held : (m : Cell) → Less (gated (knows_base l m) g) (held m)
  leads_held (Cell.Global h p) = less_refl (held (Cell.Global h p))
  leads_held k = less_refl (held k)

  base_held : (m : Cell) → HasBase (held m) m
  base_held (Cell.Object q i) = put_same l.known q true
  base_held (Cell.ObjectAt q i) = put_same l.known q true
  base_held _ = tt

  pub cell_held : (m : Cell) (f : Field) → HasField x code l m f → HasCell x code (held m) m f
  cell_held m f h = record { field = has_field l (knows_base l m).known g l.passed x code m f h; base = base_held m }

abbrev IsLocked : PlaceMode → Type 0
IsLocked (PlaceMode.LockedGlobal g place) = Unit {0}
IsLocked (PlaceMode.LockedSibling field mutex) = Unit {0}
IsLocked (PlaceMode.LockedThrough r place) = Unit {0}
IsLocked mode = ⊥

lock_locks : (code : Code) (l : Label) (r : ℕ) (lock : Lock) (mode : PlaceMode) → IsLockMode code l r lock mode → IsLocked mode
lock_locks code l r (Self j) mode h = subst IsLocked (sym h.1) tt
lock_locks code l r _ mode h = subst IsLocked (sym h.1) tt

type_locks : (code : Code) (l : Label) (k : ℕ) (c : Cell) (mode : PlaceMode) → IsTypeMode code l k c mode → IsLocked mode
type_locks code l k (Cell.Object r i) mode h = lock_locks code l r (slice_index_or h.0.locks k no_lock) mode h.2
type_locks code l k (Cell.ObjectAt r i) mode h = lock_locks code l r (slice_index_or h.0.locks k no_lock) mode h.2
type_locks code l k _ mode h = absurd h

locks : (code : Code) (l : Label) (c : Cell) (lock : FieldLock) (mode : PlaceMode) → IsMode code l c (Under lock) mode → IsLocked mode
locks code l c (OfType k) mode h = type_locks code l k c mode h
locks code l c (OfGlobals j) mode h = lock_locks code l 0 (Global j) mode h
locks code l c (OfSameElement field mutex) mode h = subst IsLocked (sym h.0) tt

own_is : (ls : Labels) (l b : Label) → l.function ≡ b.function → (c : Cell) → IsOwn ls l c → IsOwn ls b c
own_is ls l b e (Cell.Object r i) h = tt
own_is ls l b e (Cell.ObjectAt r i) h = tt
own_is ls l b e _ h = (h.0, (sym e ∙ h.1.0, h.1.1))

not_sole : (g : Gate) → g ≡ Closed → IsNotSole g
not_sole g e = subst IsNotSole (sym e) tt

-- ---- by modes
module _ (x : Targets) (code : Code) (ls : Labels) (l : Label) (write : Bool) (c : Cell) (spot : Spot) (n : ℕ) where
  abbrev pub b : Bool → PlaceMode → Label
  b dropped mode = record l { known = known_behind l spot mode; gate = gate_behind dropped l write c spot mode; passed = passed_behind x dropped l write c mode }

  abbrev pub dynamic : Instr
  dynamic = if write then ChkWrite c n else ChkRead c n

  abbrev pub CheckSteps : Bool → PlaceMode → Type 0
  CheckSteps false PlaceMode.Dynamic = Steps x code ls l (b false PlaceMode.Dynamic) dynamic
  CheckSteps dropped (PlaceMode.LockedGlobal g place) = Steps x code ls l (b dropped (PlaceMode.LockedGlobal g place)) (ChkLock (Cell.Global g place) n)
  CheckSteps dropped (PlaceMode.LockedSibling field mutex) = Steps x code ls l (b dropped (PlaceMode.LockedSibling field mutex)) (ChkLock spot.lock n)
  CheckSteps dropped (PlaceMode.LockedThrough r place) = Steps x code ls l (b dropped (PlaceMode.LockedThrough r place)) (ChkLock (Cell.Object r place) n)
  CheckSteps dropped PlaceMode.LockedLoaded = Steps x code ls l (b dropped PlaceMode.LockedLoaded) (ChkLockLoaded n)
  CheckSteps dropped mode = Unit {0}

  pub record Passed (dropped : Bool) (f : Field) (mode : PlaceMode) (fm : FieldMode) : Type 0 where
    pub check : CheckSteps dropped mode
    pub may : MayAccess x code ls (b dropped mode) write c f.holds fm
    pub apart : IsNotSole (b dropped mode).gate

  -- the check of a dynamic cell
  remembers : (f : Field) (has : HasCell x code l c f) (o : Option Pass) → pass_of x l write c ≡ o → LeadsChecked x (all_at ls (record l { gate = Checked write c; passed = with_pass o l.passed })) l 0 write c
  remembers f has None e = inl (less_refl (gated l (Checked write c)))
  remembers f has (Some p) e = let k = pass_is x code l write c f has.field p e in inr (p, k.kind, k.place, less_refl (record l { gate = Checked write c; passed = p ∷ l.passed }))

  abbrev checked : Label
  checked = record l { gate = Checked write c; passed = with_pass (pass_of x l write c) l.passed }

  check_steps : (w : Bool) → l.gate ≡ Closed → (f : Field) → HasCell x code l c f → f.mode ≡ Dynamic → LeadsChecked x (all_at ls checked) l 0 w c → Steps x code ls l checked (if w then ChkWrite c n else ChkRead c n)
  check_steps true closed f has mode leads = (closed, (f, has, mode), leads)
  check_steps false closed f has mode leads = (closed, (f, has, mode), leads)

  covers_refl : (w : Bool) → Covers w w
  covers_refl true = tt
  covers_refl false = refl

  -- the check of a locked cell
  under : (dropped : Bool) (f : Field) (lock : FieldLock) (mode : PlaceMode) → IsLocked mode → l.gate ≡ Closed → IsLockedBy x code l lock c (lock_of spot mode) → Passed dropped f mode (Under lock)
  under true f lock PlaceMode.Private is closed h = absurd is
  under _ f lock (PlaceMode.LockedGlobal g p) is closed h = let m = Cell.Global g p in record {
    check = (closed, (h.field, h.has, h.mutex), leads_held x code l (Holds m) m);
    may = (m, h.field, refl, cell_held x code l (Holds m) m h.field h.has, h.mutex, mutex_of l (knows_base l m).known (Holds m) l.passed code lock c m h.is);
    apart = tt;
  }
  under _ f lock (PlaceMode.LockedThrough r p) is closed h = let m = Cell.Object r p in record {
    check = (closed, (h.field, h.has, h.mutex), leads_held x code l (Holds m) m);
    may = (m, h.field, refl, cell_held x code l (Holds m) m h.field h.has, h.mutex, mutex_of l (knows_base l m).known (Holds m) l.passed code lock c m h.is);
    apart = tt;
  }
  under _ f lock (PlaceMode.LockedSibling a d) is closed h = let m = spot.lock in record {
    check = (closed, (h.field, h.has, h.mutex), leads_held x code l (Holds m) m);
    may = (m, h.field, refl, cell_held x code l (Holds m) m h.field h.has, h.mutex, mutex_of l (knows_base l m).known (Holds m) l.passed code lock c m h.is);
    apart = tt;
  }
  under dropped f lock _ is closed h = absurd is

  -- the check of a cell that is locked behind a pointer
  guarded_steps : (g : Gate) (field pointer : ℕ) (h : IsGuardedBy x code l field pointer c) → HoldsLoaded h.cell ≡ g → Steps x code ls l (record l { gate = g }) (ChkLockLoaded n)
  guarded_steps g field pointer h e = (h.cell, h.of, h.loaded, h.has, h.points, subst (λ g. Less (gated l (HoldsLoaded h.cell)) (record l { gate = g })) e (less_refl (gated l (HoldsLoaded h.cell))))

  guarded_may : (g : Gate) (f : Field) (field pointer : ℕ) (h : IsGuardedBy x code l field pointer c) → HoldsLoaded h.cell ≡ g → MayAccess x code ls (record l { gate = g }) write c f.holds (Behind field pointer)
  guarded_may g f field pointer h e = (h.cell, h.of, sym e, has_cell l l.known g l.passed (λ r e. e) x code h.cell h.of h.has, h.points, sibling l l.known g l.passed field pointer c h.cell h.sibling)

  pub passed : (dropped : Bool) (f : Field) (mode : PlaceMode) (fm : FieldMode) → HasCell x code l c f → f.mode ≡ fm → IsMode code l c fm mode → MayPass x code ls dropped l write c (lock_of spot mode) f.holds fm → Passed dropped f mode fm
  passed dropped f mode Private has is e h = subst (λ m. Passed dropped f m Private) (sym e) (either dropped h.0 h.1)
    where
      either : (dropped : Bool) → l.gate ≡ Closed → IsOwn ls l c → Passed dropped f PlaceMode.Private Private
      either true closed own = record { check = tt; may = own_is ls l (b true PlaceMode.Private) refl c own; apart = not_sole l.gate closed }
      either false closed own = record { check = tt; may = own_is ls l (b false PlaceMode.Private) refl c own; apart = not_sole l.gate closed }
  passed dropped f mode Readonly has is e h = subst (λ m. Passed dropped f m Readonly) (sym e) (either dropped h.0 h.1)
    where
      either : (dropped : Bool) → l.gate ≡ Closed → write ≡ false → Passed dropped f PlaceMode.Readonly Readonly
      either true closed read = record { check = tt; may = read; apart = not_sole l.gate closed }
      either false closed read = record { check = tt; may = read; apart = not_sole l.gate closed }
  passed dropped f mode Racy has is e h = subst (λ m. Passed dropped f m Racy) (sym e) (either dropped h)
    where
      either : (dropped : Bool) → l.gate ≡ Closed → Passed dropped f PlaceMode.Racy Racy
      either true closed = record { check = tt; may = tt; apart = not_sole l.gate closed }
      either false closed = record { check = tt; may = tt; apart = not_sole l.gate closed }
  passed true f mode Dynamic has is e h = subst (λ m. Passed true f m Dynamic) (sym e) record {
    check = tt;
    may = Earlier h.1.pass h.1.among h.1.covers (place_is l l.known l.gate l.passed x c h.1.pass.base h.1.pass.cell h.1.place) h.1.integer;
    apart = not_sole l.gate h.0;
  }
  passed false f mode Dynamic has is e h = subst (λ m. Passed false f m Dynamic) (sym e) record {
    check = check_steps write h f has is (remembers f has (pass_of x l write c) refl);
    may = Directly write refl (covers_refl write);
    apart = tt;
  }
  passed dropped f mode (Under lock) has is e h = under dropped f lock mode (locks code l c lock mode e) h.0 h.1
  passed dropped f mode (Behind field pointer) has is e h = subst (λ m. Passed dropped f m (Behind field pointer)) (sym e) (either dropped)
    where
      gate_is : held_gate l.gate ≡ HoldsLoaded h.cell
      gate_is = ap held_gate h.loaded

      either : (dropped : Bool) → Passed dropped f PlaceMode.LockedLoaded (Behind field pointer)
      either true = record { check = guarded_steps (held_gate l.gate) field pointer h (sym gate_is); may = guarded_may (held_gate l.gate) f field pointer h (sym gate_is); apart = subst IsNotSole (sym gate_is) tt }
      either false = record { check = guarded_steps (held_gate l.gate) field pointer h (sym gate_is); may = guarded_may (held_gate l.gate) f field pointer h (sym gate_is); apart = subst IsNotSole (sym gate_is) tt }

  -- a chain goes on behind the check
  pub chain_check : (fs : List Function) (dropped : Bool) (mode : PlaceMode) (labels : List Label) (is : List Instr) (k : Label) → CheckSteps dropped mode → Chain x code ls (b dropped mode ∷ labels) is k
      → Chain x code ls (before_check dropped l mode ++ (b dropped mode ∷ labels)) (map (instr_of fs) (check_under dropped dynamic spot n mode) ++ is) k
  chain_check fs true PlaceMode.Private labels is k step h = h
  chain_check fs true PlaceMode.Readonly labels is k step h = h
  chain_check fs true PlaceMode.Racy labels is k step h = h
  chain_check fs true PlaceMode.Dynamic labels is k step h = h
  chain_check fs false PlaceMode.Private labels is k step h = h
  chain_check fs false PlaceMode.Readonly labels is k step h = h
  chain_check fs false PlaceMode.Racy labels is k step h = h
  chain_check fs false PlaceMode.Dynamic labels is k step h = (subst (Steps x code ls l (b false PlaceMode.Dynamic)) (sym (plain write)) step, h)
    where
      plain : (w : Bool) → instr_of fs (if w then ChkWrite c n else ChkRead c n) ≡ (if w then ChkWrite c n else ChkRead c n)
      plain true = refl
      plain false = refl
  chain_check fs _ _ labels is k step h = (step, h)

-- ---- the access itself
more_behind : (x : Targets) (code : Code) (l : Label) (spot : Spot) (mode : PlaceMode) (r : ℕ) → l.known r ≡ true → known_behind l spot mode r ≡ true
more_behind x code l spot (PlaceMode.LockedSibling f m) r e = knows_more x code l Closed spot.lock r e
more_behind x code l spot (PlaceMode.LockedThrough q p) r e = knows_more x code l Closed (Cell.Object q p) r e
more_behind x code l spot _ r e = e

pub accesses : (x : Targets) (code : Code) (ls : Labels) (dropped : Bool) (k l : Label) (write : Bool) (c : Cell) (spot : Spot) (f : Field) (n : ℕ)
    → (place_at code n).mode ≡ spot.mode → PassesCheck x code ls dropped l write c spot f → Accesses x code (all_at ls k) (behind x dropped l write c spot) write c n f
accesses x code ls dropped k l write c spot f n site h =
    let p = passed x code ls l write c spot n dropped f spot.mode f.mode h.cell refl h.mode h.may in
    let known = known_behind l spot spot.mode in
    let gate = gate_behind dropped l write c spot spot.mode in
    let remembered = passed_behind x dropped l write c spot.mode in
    record {
      cell = has_cell l known gate remembered (more_behind x code l spot spot.mode) x code c f h.cell;
      may = may_among x code ls ls.at (λ pc. k) (behind x dropped l write c spot) write c f.holds f.mode p.may;
      apart = p.apart;
      mode = subst (IsMode code (behind x dropped l write c spot) c f.mode) (sym site) (mode_is l known gate remembered code c f.mode spot.mode h.mode);
    }
