-- What the words hold at first.
use Rattle.std.specs.Prelude.{ℕ, ◌+◌, ◌-◌, ◌*◌, ◌==◌, ◌&&◌, nat_lt, nat_le, List, map, slice_index, if◌then◌else◌}
use Rattle.std.specs.List.{range_with_len}
use Rattle.sharc_code.specs.{declared.code.Code.Code, declared.shape.Shape.Shape}
use Rattle.sharc_code.specs.Layout.{first_cell, words_of, top_word, next_thread_word, state_word, function_word}

-- the first cell of the globals, and the first of the heap
abbrev pub first_global : Shape → ℕ
first_global s = first_cell s + 2

abbrev pub first_heap : Shape → ℕ
first_heap s = first_global s + 2 * s.globals

abbrev pub opening_cell : Code → Shape → ℕ → ℕ
opening_cell code s word =
    if nat_le (first_global s) word && nat_lt word (first_heap s)
    then slice_index code.initial.items (word - first_global s) else 0

-- what a word holds at first: the top, the next thread, the state and the function of thread 0, the globals' cells, and
-- else 0
abbrev pub opens_with : Code → Shape → ℕ → ℕ
opens_with code s word =
    if word == top_word then 1 + s.globals
    else (if word == next_thread_word then 1
    else (if word == state_word 0 then 1
    else (if word == function_word 0 then code.main
    else opening_cell code s word)))

abbrev pub opening_words : Code → Shape → List ℕ
opening_words code s = map (opens_with code s) (range_with_len 0 (words_of s))
