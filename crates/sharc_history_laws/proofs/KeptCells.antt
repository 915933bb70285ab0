-- A pointer cell that refers to an object by the events does so by the words, but where a Free empties its object.
use Rattle.sharc_history_laws.proofs.{Imports.{◌≡◌, ℕ, ◌^◌, ◌<◌, ◌⊎◌, inl, inr, true, List, sym, ◌∙◌, subst, ⊎_elim, slice_index, CellAt, Resolution, Code, Shape, RunLaws, Fits, Machine, opening_words, Turn, Global, IsRun, opening_of, one_thread, bounds, place_after, table_of, refers, value_after, Targets, Labels, IsWellTyped, CellOf, ObjectState, IsSmall, first_world, first_place, objects_after, is_pointer_now, cell_refers, Keeps, CodeBegins, CellsAreThere, PointersAreThere, AccessesAreAllowed, StateStands, history_of, IsBeingFreed, IsCellIn, BeginsWith}, Contents.{newest_value, value_held, content_of, word_of_cell}, Emptying.IsEmptied, Finds.low_slot, Kept.referred, Rules.newest, SeenCells.{Seen, seen, cell, freed, inside, is_pointer_cell, live, number, pointer, told_there, word, word_is}, Shared.number_of, Unwritten.pointer_value}

module _ (state_law : StateStands) (cell_laws : CellsAreThere) (x : Targets) (code : Code) (s : Shape) (ls : Labels) (wt : IsWellTyped x code ls) (fits : Fits code s) (r : Resolution)
    (run : List Turn) (k : Seen r x code s ls run) (p i : ℕ) (is : is_pointer_now x s (place_after code s run) k.consists.world.obj p i ≡ true) where
  abbrev g : Global Machine
  g = place_after code s run

  open k.consists use {world, state as st}

  abbrev at_word : ℕ
  at_word = word x code s ls r run k p i is

  low : at_word < 2 ^ 32
  low = subst (λ n. n < 2 ^ 32) (st.sim.pointers p i (live x code s ls r run k p i is) (inside x code s ls r run k p i is) (pointer x code s ls r run k p i is)) (low_slot cell_laws x code s ls wt fits g world st (CellOf p i))

  module _ (c : CellAt) (at : IsCellIn code c.object c.cell p i) where
    by_value : (o : ℕ) → newest_value r (newest code s run) c ≡ value_held (content_of x code k.consists.world c) (table_of code s run) (slice_index (place_after code s run).words (word_of_cell code s c))
        → refers o (value_after r (history_of code s run) c) ≡ true → cell_refers x s (place_after code s run) k.consists.world.obj p i ≡ o
    by_value o e there =
        let T = table_of code s run in
        word_is x code s ls r run k p i is ∙ referred o at_word (T at_word) low (subst (λ v. refers o v ≡ true) (told_there x code s ls r run k p i is c at e) there)

    pub cell_kept : (o : ℕ) → refers o (value_after r (history_of code s run) c) ≡ true → (cell_refers x s (place_after code s run) k.consists.world.obj p i ≡ o) ⊎ IsBeingFreed code (place_after code s run) p
    cell_kept o there = ⊎_elim
        (λ (e : newest_value r (newest code s run) c ≡ value_held (content_of x code world c) (table_of code s run) (slice_index g.words (word_of_cell code s c))). inl (by_value o e there))
        (λ (z : IsEmptied code g (number_of c.object)). inr (freed state_law x code s ls wt fits g world st (number_of c.object) p (number x code s ls r run k p i is c at) z))
        (k.contents c (cell x code s ls r run k p i is c at) (pointer_value (content_of x code world c) (is_pointer_cell x code s ls r run k p i is c at)))

-- by the objects of the turns
pub cells_kept : (state_law : StateStands) (cell_laws : CellsAreThere) (pointers : PointersAreThere) (rights : AccessesAreAllowed) (laws : RunLaws) (begins_law : CodeBegins) (keeps : Keeps) (x : Targets) (code : Code) (s : Shape) (ls : Labels) (wt : IsWellTyped x code ls) (fits : Fits code s) (few : IsSmall code s)
    (r : Resolution) (first : BeginsWith r code) (run : List Turn) → IsRun bounds (one_thread code s) (opening_of bounds (one_thread code s) (opening_words code s)) run → (p i o : ℕ) (c : CellAt) → IsCellIn code c.object c.cell p i
    → is_pointer_now x s (place_after code s run) (objects_after code s ls (first_place code s) (first_world x).obj run) p i ≡ true → refers o (value_after r (history_of code s run) c) ≡ true
    → (cell_refers x s (place_after code s run) (objects_after code s ls (first_place code s) (first_world x).obj run) p i ≡ o) ⊎ IsBeingFreed code (place_after code s run) p
cells_kept state_law cell_laws pointers rights laws begins_law keeps x code s ls wt fits few r first run is_run p i o c at is there =
    let k = seen state_law cell_laws pointers rights laws begins_law keeps x code s ls wt fits few r first run is_run in
    subst (λ (obj : ℕ → ObjectState). (cell_refers x s (place_after code s run) obj p i ≡ o) ⊎ IsBeingFreed code (place_after code s run) p) k.same
    (cell_kept state_law cell_laws x code s ls wt fits r run k p i (subst (λ (obj : ℕ → ObjectState). is_pointer_now x s (place_after code s run) obj p i ≡ true) (sym k.same) is) c at o there)
