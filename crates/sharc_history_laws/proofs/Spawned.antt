-- Which threads were started and have ended, at each place of a run.
use Rattle.sharc_history_laws.proofs.{Imports.{◌≡◌, true, List, [], ◌∷◌, is_some, ap, arith, get_or-map-range_with_len, or_right, nat_eq, slice_index, Code, Shape, RunLaws, Fits, state_word, words_of, opening_words, opens_with, Turn, IsRun, is_started, opening_of, words_now, one_thread, bounds, place_after, Targets, Labels, Keeps, CodeBegins, CellsAreThere, PointersAreThere, AccessesAreAllowed, IsSmall, IsWellTyped, is_ended, ThreadsAreTold}, Logged.lacking}

-- ---- thread 0
module _ (code : Code) (s : Shape) where
  first_word : slice_index (opening_words code s) (state_word 0) ≡ 1
  first_word = get_or-map-range_with_len (opens_with code s) 0 (words_of s) (state_word 0) (state_word 0) 0 (omega arith) (omega arith)

  pub first_started : (run : List Turn) → (place_after code s run).started 0 ≡ true
  first_started [] = ap (λ n. nat_eq n 1) first_word
  first_started (one ∷ earlier) = or_right (is_started bounds (words_now (place_after code s earlier).words one.event) 0) ((place_after code s earlier).started 0) (first_started earlier)

-- ---- each thread
module _ (cell_laws : CellsAreThere) (pointers : PointersAreThere) (rights : AccessesAreAllowed) (laws : RunLaws) (begins_law : CodeBegins) (keeps : Keeps) (x : Targets) (code : Code) (s : Shape) (ls : Labels) (wt : IsWellTyped x code ls) (fits : Fits code s) (few : IsSmall code s) where
  pub threads_told : (run : List Turn) → IsRun bounds (one_thread code s) (opening_of bounds (one_thread code s) (opening_words code s)) run → ThreadsAreTold code s run
  threads_told run is_run =
      let h = (lacking cell_laws pointers rights laws begins_law keeps x code s ls wt fits few run is_run).1 in
      record {
        first = first_started code s run;
        spawned = h.threads.spawned;
        ended = λ t e. h.threads.gone t (ap is_ended e);
        stopped = λ t stop e. h.halts t (ap (λ o. is_some o) e);
      }
