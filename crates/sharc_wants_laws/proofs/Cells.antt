-- The cells, modes and integers of a thread of guarded code are those of the machine that is where it is.
use Rattle.sharc_wants_laws.proofs.Imports.{◌≡◌, ℕ, ℤ, zero, suc, pos, ◌+◌, ◌-◌, ◌*◌, ◌^◌, ◌<◌, Bool, false, List, refl, sym, ap, ◌∙◌, subst, arith, get_or as slice_index_or, ◌==◌, Some, Object, CellAt, CellMode, through, Access, is_null, number_of, Code, GlobalCells, SourcePlace, PlaceMode, LockedGlobal, LockedThrough, LockedLoaded, Cell, GlobalAt, InObject, ObjectAt, Shape, word_of, Machine, ref, global_cell, mode_of, no_global, made_cell, place_at, reference, lock_through, Program, Thread, source_at, Elements, IsNumber, IsReference, Same, access_at, ne_eq, int}
use Rattle.sharc_code.specs.{declared.instr.Cell.TheVariants.Global, Says.cell_at}
use Rattle.sharc_guard.specs.Machine as Form

-- ---- references
null_is : (n e : ℕ) → is_null (reference n e) ≡ (n == 0)
null_is zero e = refl
null_is (suc n) e = not_zero (suc n + 2 ^ 32 * e) (omega arith) ∙ sym (ne_eq (suc n) 0 (λ q. omega arith))
  where
    not_zero : (k : ℕ) → 0 < k → is_null (pos k) ≡ false
    not_zero zero lt = absurd (omega arith)
    not_zero (suc k) lt = refl

pub number_is : (n e : ℕ) → IsNumber n → number_of (reference n e) ≡ n
number_is zero e h = refl
number_is (suc n) e h = let lt : suc n < 2 ^ 32 = h in omega arith

number_from : (T : Elements) (n : ℕ) (v : ℤ) → IsReference T n v → number_of v ≡ n
number_from T n v h = ap number_of h.is ∙ number_is n (T n) h.small

-- the mutex of a path through a reference
through_is : (T : Elements) (n place : ℕ) (v : ℤ) → IsReference T n v → through v place ≡ lock_through n place
through_is T zero place v h = ap (λ v. through v place) h.is
through_is T (suc n) place v h =
    let e : is_null v ≡ false = ap is_null h.is ∙ null_is (suc n) (T (suc n)) ∙ ne_eq (suc n) 0 (λ q. omega arith) in
    rw e (ap (λ k. Some (made_cell k place)) (number_from T (suc n) v h))

-- ---- globals
abbrev in_globals : List GlobalCells → ℕ → ℕ → CellAt
in_globals gs g place = record { object = Object.Global g; cell = place - 2 * (slice_index_or gs g no_global).granule }

module _ (code : Code) (p : Program) (globals : p.globals ≡ code.globals.items) (sites : (n : ℕ) → source_at p n ≡ place_at code n) (s : Shape) (T : Elements) (m : Machine) (a : Thread) (h : Same code s T m a) where
  pub int_is : (r : ℕ) → Form.int a r ≡ int m r
  int_is r = ap (λ k. a.ints (k + r)) h.from_ints ∙ h.in_ints.are (m.at.ints + r)

  ref_is : (r : ℕ) → IsReference T (ref m r) (Form.ref a r)
  ref_is r = subst (λ k. IsReference T (ref m r) (a.refs (k + r))) (sym h.from_refs) (h.in_refs.are (m.at.refs + r))

  number_at : (r : ℕ) → number_of (Form.ref a r) ≡ ref m r
  number_at r = number_from T (ref m r) (Form.ref a r) (ref_is r)

  pub pending_number : number_of a.pending ≡ m.pending
  pending_number = number_from T m.pending a.pending h.loaded

  global_is : (g place : ℕ) → Form.global_at p g place ≡ global_cell code g place
  global_is g place = ap (λ (gs : List GlobalCells). in_globals gs g place) globals

  pub cell_is : (c : Cell) → Form.cell_at p a c ≡ cell_at code m c
  cell_is (Global g c) = global_is g c
  cell_is (GlobalAt g r) = global_is g (word_of (Form.int a r)) ∙ ap (λ z. global_cell code g (word_of z)) (int_is r)
  cell_is (InObject r c) = ap (λ n. made_cell n c) (number_at r)
  cell_is (ObjectAt r at) = ap (λ n. made_cell n (word_of (Form.int a at))) (number_at r) ∙ ap (λ z. made_cell (ref m r) (word_of z)) (int_is at)

  mode_is : (c : CellAt) (mode : PlaceMode) → Form.mode_of p a c mode ≡ mode_of code m c mode
  mode_is c (LockedGlobal g place) = ap (λ d. CellMode.Locked (Some d)) (global_is g place)
  mode_is c (LockedThrough r place) = ap CellMode.Locked (through_is T (ref m r) place (Form.ref a r) (ref_is r))
  mode_is c LockedLoaded = ap CellMode.Locked (through_is T m.pending 0 a.pending h.loaded)
  mode_is c _ = refl

  -- an access of guarded code at a site
  pub access_is : (c : Cell) (site : ℕ) (write : Bool) (b : Access) → b.cell ≡ Form.cell_at p a c → b.mode ≡ Form.mode_of p a (Form.cell_at p a c) (source_at p site).mode → b.is_write ≡ write → b ≡ access_at code m c site write
  access_is c site write b cell mode is_write =
      let F : CellAt → CellMode → Bool → Access = λ d md w. record { cell = d; mode = md; is_write = w } in
      let modes_are : b.mode ≡ mode_of code m (cell_at code m c) (place_at code site).mode =
      mode ∙ ap (λ d. Form.mode_of p a d (source_at p site).mode) (cell_is c) ∙ mode_is (cell_at code m c) (source_at p site).mode ∙ ap (λ (q : SourcePlace). mode_of code m (cell_at code m c) q.mode) (sites site)
      in
      ap (λ d. F d b.mode b.is_write) (cell ∙ cell_is c) ∙ ap (λ md. F (cell_at code m c) md b.is_write) modes_are ∙ ap (F (cell_at code m c) (mode_of code m (cell_at code m c) (place_at code site).mode)) is_write
