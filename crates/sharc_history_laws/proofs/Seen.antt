-- Where the held log of a thread refers to an object, a mutex of that object is locked by the events; and the beginning of a checked run is a checked run.
use Rattle.sharc_history_laws.proofs.{Imports.{◌≡◌, ◌≢◌, ℕ, ◌+◌, ◌*◌, Bool, true, false, List, [], ◌∷◌, ◌++◌, Some, inl, inr, if◌then◌else◌, refl, sym, ap, ◌∙◌, arith, ◌==◌, CellAt, Object, HeldMutex, object_of, Resolution, Code, Shape, RunLaws, Fits, first_cell, reference_of, opening_words, Turn, IsRun, opening_of, CheckedRun, one_thread, bounds, place_after, is_locked, Targets, Labels, IsWellTyped, log_refers, CellsAreThere, history_of}, Finds.is_apart, Locked.IsIn, Mutual.locked_is, Rules.newest, Stored.Stored, Locked.contains}
use Rattle.sharc_invariant.specs.Words.{cell_at}

-- ---- beginnings of runs
begins_run : (code : Code) (s : Shape) (later earlier : List Turn) → IsRun bounds (one_thread code s) (opening_of bounds (one_thread code s) (opening_words code s)) (later ++ earlier)
    → IsRun bounds (one_thread code s) (opening_of bounds (one_thread code s) (opening_words code s)) earlier
begins_run code s [] earlier run = run
begins_run code s (one ∷ later) earlier run = begins_run code s later earlier run.0

pub runs_begin : (laws : RunLaws) (code : Code) (s : Shape) (later earlier : List Turn) → CheckedRun code s (later ++ earlier) → CheckedRun code s earlier
runs_begin laws code s later earlier run = (laws.checked code s earlier).1 (begins_run code s later earlier ((laws.checked code s (later ++ earlier)).0 run))

-- ---- entries of a log
pub entry : (log : List HeldMutex) (word o : ℕ) → o ≢ 0 → reference_of (object_of log word) ≡ o → (h : HeldMutex) × IsIn h log × (h.object ≡ o)
entry [] word o nz e = absurd (nz (sym e))
entry (k ∷ log) word o nz e = by (k.word == word) e (λ q. entry log word o nz q)
  where
    by : (b : Bool) → reference_of (if b then Some k.object else object_of log word) ≡ o → (reference_of (object_of log word) ≡ o → (h : HeldMutex) × IsIn h log × (h.object ≡ o)) → (h : HeldMutex) × IsIn h (k ∷ log) × (h.object ≡ o)
    by true q rest = (k, inl refl, q)
    by false q rest = let r = rest q in (r.0, inr r.1, r.2)

pub logs_locked : (cell_laws : CellsAreThere) (x : Targets) (code : Code) (s : Shape) (ls : Labels) (wt : IsWellTyped x code ls) (fits : Fits code s) (r : Resolution)
    (run : List Turn) → Stored r x code s ls run → (u word o : ℕ) → o ≢ 0 → log_refers (place_after code s run) u word ≡ o
    → (c : CellAt) × (c.object ≡ Object.Made o) × (is_locked (history_of code s run) c ≡ true)
logs_locked cell_laws x code s ls wt fits r run k u word o nz refers =
    let g = place_after code s run in
    let L = newest code s run in
    let state = k.consists.state in
    let log = (g.threads u).own.held in
    let found = entry log word o nz refers in
    let h = found.0 in
    let inside = state.locks.logged u h (contains log h found.1) in
    let j = inside.0 in
    let apart = is_apart cell_laws x code s ls wt fits g k.consists.world state u h.object j inside.1.1 inside.1.2 in
    let c : CellAt = record { object = Object.Made h.object; cell = j } in
    let some : h.object ≢ 0 = λ z. nz (sym found.2 ∙ z) in
    let at : h.word ≡ first_cell s + (2 * (h.object + 1) + j) = inside.1.0 ∙ (let z : cell_at s h.object j ≡ first_cell s + (2 * (h.object + 1) + j) = omega arith in z) in
    let holds = k.told.logs u h found.1 c (2 * (h.object + 1) + j) at (refl, some, refl) in
    (c, ap Object.Made found.2, locked_is L c ∙ (k.told.mutexes.last u c holds).0)
