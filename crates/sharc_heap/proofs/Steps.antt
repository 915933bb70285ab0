-- The steps of a New, by their number.
use Rattle.sharc_heap.proofs.Imports.{◌≡◌, ℕ, ◌+◌, ◌<◌, suc, List, ◌++◌, length, get_or, drop, map, ap, ◌∙◌, arith, drop-cons, drop-append-add, get_or_append_left, length-append, length-map-range_with_len, get_or-map-range_with_len, range_with_len, WordStep, Swap, Do, NewArguments, cell_word, step_of, last_steps, own_steps, turn_at}

-- the clearing of a cell, and of them all
abbrev pub clearing : NewArguments → ℕ → WordStep
clearing a cell = step_of (cell_word a a.head cell) (Swap 0)

abbrev clearings : NewArguments → List WordStep
clearings a = map (clearing a) (range_with_len 0 a.cells)

-- the turn at a place of a list of steps
turn_at_place : (steps : List WordStep) (i header : ℕ) (d : WordStep) → i < length steps → turn_at (drop i steps) header ≡ Do (get_or steps i d)
turn_at_place steps i header d within = ap (λ s. turn_at s header) (drop-cons steps i d within)

-- after the link the cells are cleared in their order
pub turn_in_cells : (a : NewArguments) (n cell : ℕ) → n ≡ 1 + cell → cell < a.cells → turn_at (drop n (own_steps a)) a.head ≡ Do (clearing a cell)
turn_in_cells a n cell is within =
    let count = length-map-range_with_len (clearing a) 0 a.cells in
    let all = length-append (clearings a) (last_steps a a.head) in
    let at : n ≡ suc cell = omega arith in
    ap (λ k. turn_at (drop k (own_steps a)) a.head) at
    ∙ turn_at_place (clearings a ++ last_steps a a.head) cell a.head (clearing a 0) (omega arith)
    ∙ ap (λ s. Do s) (get_or_append_left (clearings a) (last_steps a a.head) (clearing a 0) cell (omega arith) ∙ get_or-map-range_with_len (clearing a) 0 a.cells cell cell (clearing a 0) within (omega arith))

-- after the cells come the last two steps
pub rest_after_cells : (a : NewArguments) (n k : ℕ) → n ≡ 1 + a.cells + k → drop n (own_steps a) ≡ drop k (last_steps a a.head)
rest_after_cells a n k is =
    let at : n ≡ suc (length (clearings a) + k) = let count = length-map-range_with_len (clearing a) 0 a.cells in omega arith in
    ap (λ m. drop m (own_steps a)) at ∙ drop-append-add (clearings a) (last_steps a a.head) k
