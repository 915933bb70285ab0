-- An access by its mode: under no lock, under one, or stopped.
use Rattle.sharc_flat.proofs.Imports.{◌≡◌, ℕ, ◌+◌, ◌-◌, Bool, true, false, cond, List, Option, Some, None, refl, ap, ◌∙◌, arith, ℤ, pos, max, suc, unsigned_abs, Act, CellAt, CellMode, Object, Trap, GlobalCells, PlaceMode, Private, Readonly, Racy, Dynamic, LockedGlobal, LockedSibling, LockedThrough, LockedLoaded, Cell, elements_made, cell_of, through, is_null, number_of, is_positive, Spot, At, Turn, asks, ref, cell_at, global_cell, lock_is_null, is_of_null, cell_mode_of, stops, accesses, accessed, on}

-- the mutex of a place, if its mode is locked and the path does not lead through NULL
abbrev pub mutex_of : List GlobalCells → At → CellAt → PlaceMode → Option CellAt
mutex_of globals m c (LockedGlobal g place) = Some (global_cell globals g place)
mutex_of globals m c (LockedSibling field mutex) = Some (record { object = c.object; cell = c.cell - field + mutex })
mutex_of globals m c (LockedThrough r place) = through (ref m r) place
mutex_of globals m c LockedLoaded = through m.pending 0
mutex_of globals m c _ = None

-- under a lock, or X1 where the path leads through NULL
abbrev pub under_lock : Option CellAt → Spot → (CellMode → Turn) → Turn
under_lock None spot f = stops Trap.NullPointer spot
under_lock (Some c) spot f = f (CellMode.Locked (Some c))

abbrev pub under : PlaceMode → Option CellAt → Spot → (CellMode → Turn) → Turn
under Private c spot f = f CellMode.Private
under Readonly c spot f = f CellMode.Readonly
under Racy c spot f = f CellMode.Racy
under Dynamic c spot f = f CellMode.Dynamic
under _ c spot f = under_lock c spot f

through_by : (b : Bool) (c : CellAt) (spot : Spot) (f : CellMode → Turn) → cond b (stops Trap.NullPointer spot) (f (CellMode.Locked (cond b None (Some c)))) ≡ under_lock (cond b None (Some c)) spot f
through_by true c spot f = refl
through_by false c spot f = refl

under_by : (globals : List GlobalCells) (m : At) (c : CellAt) (spot : Spot) (f : CellMode → Turn) (mode : PlaceMode) → is_of_null m spot.lock ≡ false
    → cond (lock_is_null m spot mode) (stops Trap.NullPointer spot) (f (cell_mode_of globals m c mode)) ≡ under mode (mutex_of globals m c mode) spot f
under_by globals m c spot f (LockedSibling field mutex) e = ap (λ b. cond b (stops Trap.NullPointer spot) (f (cell_mode_of globals m c (LockedSibling field mutex)))) e
under_by globals m c spot f (LockedThrough r place) e = through_by (is_null (ref m r)) (cell_of (Object.Made (number_of (ref m r))) place) spot f
under_by globals m c spot f LockedLoaded e = through_by (is_null m.pending) (cell_of (Object.Made (number_of m.pending)) 0) spot f
under_by globals m c spot f _ e = refl

-- where the mutex beside what is accessed is not one of NULL
pub accesses_under : (globals : List GlobalCells) (cell : Cell) (spot : Spot) (act : CellAt → CellMode → Act) (then_ : CellAt → ℤ → At → At) (m : At) → is_of_null m spot.lock ≡ false
    → accesses globals cell spot act then_ m ≡ under spot.mode (mutex_of globals m (cell_at globals m cell) spot.mode) spot
    (λ mode. asks m spot.site (act (cell_at globals m cell) mode) (pos 0) (λ v n. accessed (on (then_ (cell_at globals m cell) v n))))
accesses_under globals cell spot act then_ m e =
    under_by globals m (cell_at globals m cell) spot (λ mode. asks m spot.site (act (cell_at globals m cell) mode) (pos 0) (λ v n. accessed (on (then_ (cell_at globals m cell) v n)))) spot.mode e

-- a size that is positive is the number of elements
pub positive_elements : (v : ℤ) → is_positive v ≡ true → elements_made v ≡ unsigned_abs v
positive_elements (pos (suc n)) h = let q : max 1 (suc n) ≡ suc n = omega arith in q
positive_elements _ h = absurd (cc)
