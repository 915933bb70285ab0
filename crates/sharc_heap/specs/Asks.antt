-- What a New asks for, by what it was given and what it found so far.
use Rattle.std.specs.Prelude.{◌≡◌, ◌≢◌, ℕ, ◌+◌, ◌*◌, ◌^◌, ◌<◌, ◌≤◌, ◌++◌, ◌∷◌, [], List, length, map, drop, nat_lt}
use Rattle.std.specs.Prelude.{nat_eq, if◌then◌else◌}
use Rattle.std.specs.List.{range_with_len}
use Rattle.sharc_word.specs.{declared.step.WordStep.WordStep, declared.step.WordOp.WordOp}
use Rattle.sharc_word.specs.declared.step.WordOp.TheVariants.{Load, Swap, Cas}
use Rattle.sharc_heap.specs.{declared.arguments.NewArguments.NewArguments, declared.stage.NewTurn.NewTurn}
use Rattle.sharc_heap.specs.declared.stage.NewTurn.TheVariants.{Do, Made, HeapFull}

-- the numbers of all words are below 2 ^ 32
abbrev pub HasFewWords : NewArguments → Type 0
HasFewWords a = a.first + 2 * a.end < 2 ^ 32

-- ---- words
-- a word number that is none is taken as 0
abbrev pub word_number : NewArguments → ℕ → ℕ
word_number a place = if nat_lt place (a.first + 2 * a.end) then place else 0

-- a granule number that is none is taken as 0
abbrev pub granule_number : NewArguments → ℕ → ℕ
granule_number a granule = if nat_lt granule a.end then granule else 0

-- the two cells of the header granule
abbrev pub count_word : NewArguments → ℕ → ℕ
count_word a header = word_number a (a.first + 2 * header)

abbrev pub length_word : NewArguments → ℕ → ℕ
length_word a header = word_number a (a.first + 2 * header + 1)

-- the cells of the object, from the granule after the header on
abbrev pub cell_word : NewArguments → ℕ → ℕ → ℕ
cell_word a header cell = word_number a (a.first + 2 * header + 2 + cell)

-- the word of the top
abbrev pub top_word : ℕ
top_word = 1

-- ---- steps
abbrev pub step_of : ℕ → WordOp → WordStep
step_of word op = record { word = word; op = op }

-- the last two steps: the count is 1, and then the length is the number of elements
abbrev pub last_steps : NewArguments → ℕ → List WordStep
last_steps a header =
    step_of (count_word a header) (Swap 1) ∷ step_of (length_word a header) (Swap a.elements) ∷ []

-- the steps that take the first block of the own list: its link is read, each cell of the object is cleared, and then
-- the last two
abbrev pub own_steps : NewArguments → List WordStep
own_steps a =
    step_of (length_word a a.head) Load
    ∷ map (λ cell. step_of (cell_word a a.head cell) (Swap 0)) (range_with_len 0 a.cells) ++ last_steps a a.head

-- the first of the steps that are left, or the block where none is left
abbrev pub turn_at : List WordStep → ℕ → NewTurn
turn_at [] header = Made header
turn_at (step ∷ rest) header = Do step

-- ---- the top
-- no two neighbours of the list with this value at its end are equal
abbrev pub NoneTwice : List ℕ → ℕ → Type 0
NoneTwice [] last = Unit {0}
NoneTwice (x ∷ []) last = x ≢ last
NoneTwice (x ∷ y ∷ rest) last = (x ≢ y) × NoneTwice (y ∷ rest) last

-- these tops were found one after another, the last one last: each Cas found another top than the one that it was to
-- replace
pub record AreTops (results : List ℕ) (top : ℕ) : Type 0 where
  pub earlier : List ℕ
  pub tops : results ≡ earlier ++ top ∷ []
  pub moving : NoneTwice earlier top

-- the Cas from the last of these tops found that top and so replaced it, and the rest are the results since
pub record HasMoved (results : List ℕ) (top : ℕ) (since : List ℕ) : Type 0 where
  pub tried : List ℕ
  pub tops : AreTops tried top
  pub found : results ≡ tried ++ top ∷ since

-- ---- the turns
-- what a New of these arguments asks for after these results
pub data Asks (a : NewArguments) (results : List ℕ) (turn : NewTurn) : Type 0 where
  -- from the own list: its steps, in their order
  TakesOwn : a.head ≢ 0 → turn ≡ turn_at (drop (length results) (own_steps a)) a.head → Asks a results turn
  -- from the top, where the own list is empty: the top is read first
  ReadsTop : a.head ≡ 0 → results ≡ [] → turn ≡ Do (step_of top_word Load) → Asks a results turn
  -- it is moved on by one block from the value seen last
  MovesTop : a.head ≡ 0 → (top : ℕ) → AreTops results top → top + a.block ≤ a.end
      → turn ≡ Do (step_of top_word (Cas top (top + a.block))) → Asks a results turn
  -- there is no room for the block there
  FindsNoRoom : a.head ≡ 0
      → (top : ℕ) → AreTops results top → a.end < top + a.block → turn ≡ HeapFull → Asks a results turn
  -- the block begins where the top was, and the last two steps follow
  TakesTop : a.head ≡ 0 → (top : ℕ) (since : List ℕ) → HasMoved results top since → top + a.block ≤ a.end
      → turn ≡ turn_at (drop (length since) (last_steps a top)) top → Asks a results turn

-- the head of the own list after these results: after a block that was taken comes its link
abbrev pub head_after : NewArguments → List ℕ → ℕ
head_after a [] = a.head
head_after a (link ∷ rest) = if nat_eq a.head 0 then 0 else granule_number a link
