-- What the steps of a New are of: the top, or a word of its block.
use Rattle.sharc_heap.proofs.{Imports.{◌≡◌, ◌≢◌, ℕ, ◌+◌, ◌-◌, ◌*◌, ◌<◌, ◌≤◌, zero, suc, List, length, drop, refl, sym, ap, ◌∙◌, subst, inl, inr, arith, cases_lt, lt-ltb, le-ltb, WordStep, WordOp, Load, Swap, Cas, NewArguments, Do, Made, HeapFull, granules_of, MovesOn, Asks, TakesOwn, ReadsTop, MovesTop, FindsNoRoom, TakesTop, top_word, word_number, step_of, last_steps, own_steps, turn_at, words_of, StepsAreOfWords, ComesFrom, OwnList, MovedTop, BlocksHaveTheirWords, GranulesStay, IsOwnStep, OfTheTop, OfItsBlock, StepsAreOwn, StepsKeepTop}, Steps.{turn_in_cells, rest_after_cells}}

-- ---- the numbers of words
word_within : (a : NewArguments) (place : ℕ) → 1 < words_of a → word_number a place < words_of a
word_within a place some =
    elim (cases_lt place (words_of a)) [
      | inl below ↦ rw (lt-ltb place (words_of a) below) below
      | inr past ↦ rw (le-ltb place (words_of a) past) (omega arith)
    ]

word_is : (a : NewArguments) (place : ℕ) → place < words_of a → word_number a place ≡ place
word_is a place below = rw (lt-ltb place (words_of a) below)

-- a cell is not the top
word_not_top : (a : NewArguments) (place : ℕ) → 1 < a.first → a.first ≤ place → word_number a place ≢ top_word
word_not_top a place first from is =
    elim (cases_lt place (words_of a)) [
      | inl below ↦ let e = word_is a place below in omega arith
      | inr past ↦ let e : word_number a place ≡ 0 = rw (le-ltb place (words_of a) past) in omega arith
    ]

pub blocks_have_their_words : BlocksHaveTheirWords
blocks_have_their_words a header lies =
    let room = lies.room in
    let within = lies.within in
    record {
      count = word_is a (a.first + 2 * header) (omega arith);
      length = word_is a (a.first + 2 * header + 1) (omega arith);
      cells = λ cell below. word_is a (a.first + 2 * header + 2 + cell) (omega arith);
    }

pub granules_stay : GranulesStay
granules_stay a granule below = rw (lt-ltb granule a.end below)

-- ---- what a step is of
data Aims (a : NewArguments) (results : List ℕ) (step : WordStep) : Type 0 where
  AtTop : a.head ≡ 0 → step.word ≡ top_word → MovesOn step.op → Aims a results step
  AtBlock : (header offset : ℕ) → ComesFrom a results header → offset < 2 + a.cells → step.word ≡ word_number a (a.first + 2 * header + offset) → Aims a results step

pub same_step : (s t : WordStep) → Do s ≡ Do t → s ≡ t
same_step s t same = cc

made_is_no_step : (header : ℕ) (step : WordStep) → Made header ≡ Do step → ⊥
made_is_no_step header step same = cc

full_is_no_step : (step : WordStep) → Do step ≡ HeapFull → ⊥
full_is_no_step step same = cc

same_word : (word : ℕ) (op : WordOp) (step : WordStep) → Do (step_of word op) ≡ Do step → step.word ≡ word
same_word word op step is = ap (λ (s : WordStep). s.word) (sym (same_step (step_of word op) step is))

at_top : (a : NewArguments) (results : List ℕ) (op : WordOp) (step : WordStep) → a.head ≡ 0 → MovesOn op → Do (step_of top_word op) ≡ Do step → Aims a results step
at_top a results op step empty moves is =
    AtTop empty (same_word top_word op step is) (subst (λ (s : WordStep). MovesOn s.op) (same_step (step_of top_word op) step is) moves)

at_block : (a : NewArguments) (results : List ℕ) (header offset place : ℕ) (op : WordOp) (step : WordStep) → ComesFrom a results header → offset < 2 + a.cells → place ≡ a.first + 2 * header + offset → Do (step_of (word_number a place) op) ≡ Do step → Aims a results step
at_block a results header offset place op step comes below at is =
    AtBlock header offset comes below (same_word (word_number a place) op step is ∙ ap (word_number a) at)

last_aims : (a : NewArguments) (results : List ℕ) (header n : ℕ) (step : WordStep) → ComesFrom a results header → turn_at (drop n (last_steps a header)) header ≡ Do step → Aims a results step
last_aims a results header zero step comes is = at_block a results header 0 (a.first + 2 * header) (Swap 1) step comes (omega arith) (omega arith) is
last_aims a results header (suc zero) step comes is = at_block a results header 1 (a.first + 2 * header + 1) (Swap a.elements) step comes (omega arith) refl is
last_aims a results header (suc (suc zero)) step comes is = absurd (made_is_no_step header step is)
last_aims a results header (suc (suc (suc n))) step comes is = absurd (made_is_no_step header step is)

own_aims : (a : NewArguments) (results : List ℕ) (n : ℕ) (step : WordStep) → ComesFrom a results a.head → turn_at (drop n (own_steps a)) a.head ≡ Do step → Aims a results step
own_aims a results zero step comes is = at_block a results a.head 1 (a.first + 2 * a.head + 1) Load step comes (omega arith) refl is
own_aims a results (suc k) step comes is =
    elim (cases_lt k a.cells) [
      | inl cell ↦ at_block a results a.head (2 + k) (a.first + 2 * a.head + 2 + k) (Swap 0) step comes (omega arith) (omega arith) (sym (turn_in_cells a (suc k) k (omega arith) cell) ∙ is)
      | inr past ↦
          let at : suc k ≡ 1 + a.cells + (k - a.cells) = omega arith in
          let P = λ (steps : List WordStep). turn_at steps a.head ≡ Do step in
          last_aims a results a.head (k - a.cells) step comes (subst P (rest_after_cells a (suc k) (k - a.cells) at) is)
    ]

aims : (a : NewArguments) (results : List ℕ) (step : WordStep) → Asks a results (Do step) → Aims a results step
aims a results step (TakesOwn own is) = own_aims a results (length results) step (OwnList own refl) (sym is)
aims a results step (ReadsTop empty none is) = at_top a results Load step empty tt (sym is)
aims a results step (MovesTop empty top seen fits is) = at_top a results (Cas top (top + a.block)) step empty (omega arith) (sym is)
aims a results step (FindsNoRoom empty top seen past is) = absurd (full_is_no_step step is)
aims a results step (TakesTop empty top since moved fits is) = last_aims a results top (length since) step (MovedTop empty since moved fits) (sym is)

-- ---- the laws
pub steps_are_of_words : StepsAreOfWords
steps_are_of_words a results step some asks = within a results step some (aims a results step asks)
  where
    within : (a : NewArguments) (results : List ℕ) (step : WordStep) → 1 < words_of a → Aims a results step → step.word < words_of a
    within a results step some (AtTop empty is moves) = omega arith
    within a results step some (AtBlock header offset comes below is) = let w = word_within a (a.first + 2 * header + offset) some in omega arith

pub steps_keep_top : StepsKeepTop
steps_keep_top a results step first asks top = keeps a results step first top (aims a results step asks)
  where
    keeps : (a : NewArguments) (results : List ℕ) (step : WordStep) → 1 < a.first → step.word ≡ top_word → Aims a results step → MovesOn step.op
    keeps a results step first top (AtTop empty is moves) = moves
    keeps a results step first top (AtBlock header offset comes below is) = absurd (word_not_top a (a.first + 2 * header + offset) first (omega arith) (sym is ∙ top))

-- where the block of a New lies
lies : (a : NewArguments) (results : List ℕ) (header : ℕ) → (a.head ≢ 0 → a.head + a.block ≤ a.end) → ComesFrom a results header → header + a.block ≤ a.end
lies a results header own (OwnList some is) = let fits = own some in omega arith
lies a results header own (MovedTop empty since moved fits) = fits

pub steps_are_own : StepsAreOwn
steps_are_own a results step room own asks = owns a results step room own (aims a results step asks)
  where
    owns : (a : NewArguments) (results : List ℕ) (step : WordStep) → granules_of a.cells ≤ a.block → (a.head ≢ 0 → a.head + a.block ≤ a.end) → Aims a results step → IsOwnStep a results step
    owns a results step room own (AtTop empty is moves) = OfTheTop empty is moves
    owns a results step room own (AtBlock header offset comes below is) =
        let fits = lies a results header own comes in
        let at : step.word ≡ a.first + 2 * header + offset = is ∙ word_is a (a.first + 2 * header + offset) (omega arith) in
        OfItsBlock header comes record { from = omega arith; before = omega arith }
