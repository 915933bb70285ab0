-- What holds of every New.
use Rattle.std.specs.Prelude.{◌≡◌, ◌≢◌, ℕ, ◌+◌, ◌*◌, ◌^◌, ◌<◌, ◌≤◌, List, [], ◌∷◌, ◌++◌, length, slice_index, All}
use Rattle.std.specs.Prelude.{AllPairs}
use Rattle.sharc_word.specs.{declared.step.WordStep.WordStep, declared.step.WordOp.TheVariants.Cas}
use Rattle.sharc_word.specs.{declared.step.WordEvent.WordEvent, Words.words_after, History.LegalHistory}
use Rattle.sharc_heap.specs.{declared.stage.NewTurn.NewTurn, declared.stage.NewTurn.TheVariants.{Do, Made, HeapFull}}
use Rattle.sharc_heap.specs.{declared.arguments.NewArguments.NewArguments, Block.{granules_of, IsBlock, block_of}}
use Rattle.sharc_heap.specs.Handed.{Granules, KeepsTop, MovesOn, HandsOut, LieInOrder, handed_out}
use Rattle.sharc_heap.specs.State.{NewView, IsAfter, IsStep, begun, told, turn_of}
use Rattle.sharc_heap.specs.Asks.{count_word, length_word, cell_word, granule_number, Asks, AreTops, HasMoved, step_of}
use Rattle.sharc_heap.specs.Asks.{top_word}

-- after the same results a New asks for one turn
abbrev pub AsksOneTurn : Type 0
AsksOneTurn =
    (a : NewArguments) (results : List ℕ) (turn other : NewTurn) → Asks a results turn → Asks a results other
    → turn ≡ other

-- the own list is empty, and the top that was seen last and the block pass the end of the arena
pub record HasNoRoom (a : NewArguments) (results : List ℕ) : Type 0 where
  pub empty : a.head ≡ 0
  pub top : ℕ
  pub seen : AreTops results top
  pub past : a.end < top + a.block

-- the heap is full exactly where there is no room
pub record IsFullWithoutRoom (a : NewArguments) (results : List ℕ) (turn : NewTurn) : Type 0 where
  pub only : turn ≡ HeapFull → HasNoRoom a results
  pub always : HasNoRoom a results → turn ≡ HeapFull

abbrev pub HeapIsFullWithoutRoom : Type 0
HeapIsFullWithoutRoom =
    (a : NewArguments) (results : List ℕ) (turn : NewTurn) → Asks a results turn → IsFullWithoutRoom a results turn

-- a Cas is of the top, from the value that was seen last to one block further, within the arena
pub record MovesByOneBlock (a : NewArguments) (results : List ℕ) (word from to : ℕ) : Type 0 where
  pub of_top : word ≡ top_word
  pub empty : a.head ≡ 0
  pub seen : AreTops results from
  pub block : to ≡ from + a.block
  pub within : to ≤ a.end

abbrev pub TopMovesByOneBlock : Type 0
TopMovesByOneBlock =
    (a : NewArguments) (results : List ℕ) (word from to : ℕ) → Asks a results (Do (step_of word (Cas from to)))
    → MovesByOneBlock a results word from to

-- a New from the own list is done with its link, its cells and two steps more
abbrev pub OwnListEnds : Type 0
OwnListEnds =
    (a : NewArguments) (results : List ℕ) (turn : NewTurn) → Asks a results turn → a.head ≢ 0
    → length results ≡ a.cells + 3 → turn ≡ Made a.head

-- a New from the top is done two steps after its Cas found the top that it was to replace
abbrev pub TopEnds : Type 0
TopEnds =
    (a : NewArguments) (results : List ℕ) (turn : NewTurn) (top : ℕ) (since : List ℕ) → Asks a results turn → a.head ≡ 0
    → HasMoved results top since → top + a.block ≤ a.end → length since ≡ 2 → turn ≡ Made top

-- how many words there are
abbrev pub words_of : NewArguments → ℕ
words_of a = a.first + 2 * a.end

-- each step is of a word that there is, if the top is one
abbrev pub StepsAreOfWords : Type 0
StepsAreOfWords =
    (a : NewArguments) (results : List ℕ) (step : WordStep) → 1 < words_of a → Asks a results (Do step)
    → step.word < words_of a

-- ---- turn by turn
-- after its first turn a New asks for what a New asks for before there is a result
abbrev pub NewBegins : Type 0
NewBegins = (a : NewArguments) (found : ℕ) → IsAfter (told (begun a) found) []

-- a New that asked for a step goes on with what it found
abbrev pub NewGoesOn : Type 0
NewGoesOn =
    (state : NewView) (results : List ℕ) (found : ℕ) → 1 ≤ state.arguments.cells → IsAfter state results
    → IsStep (turn_of state)
    → IsAfter (told state found) (results ++ found ∷ [])

-- one that asked for no step stays
abbrev pub NewStays : Type 0
NewStays =
    (state : NewView) (results : List ℕ) (found : ℕ) → IsAfter state results → ¬ IsStep (turn_of state)
    → told state found ≡ state

-- ---- blocks
-- the function of a block is its relation, of which there is one
abbrev pub BlockOfIsBlock : Type 0
BlockOfIsBlock = (cells : ℕ) → cells ≤ 2 ^ 32 → IsBlock cells (block_of cells)

abbrev pub OneBlock : Type 0
OneBlock = (cells one other : ℕ) → IsBlock cells one → IsBlock cells other → one ≡ other

-- the block of a New is the first of its own list, or begins at the top that it moved
pub data ComesFrom (a : NewArguments) (results : List ℕ) (header : ℕ) : Type 0 where
  OwnList : a.head ≢ 0 → header ≡ a.head → ComesFrom a results header
  MovedTop : a.head ≡ 0
      → (since : List ℕ) → HasMoved results header since → header + a.block ≤ a.end → ComesFrom a results header

abbrev pub MadeIsItsBlock : Type 0
MadeIsItsBlock = (a : NewArguments) (results : List ℕ) (header : ℕ) → Asks a results (Made header)
    → ComesFrom a results header

-- the block with this header lies in the arena, and the cells have room in it
pub record LiesInArena (a : NewArguments) (header : ℕ) : Type 0 where
  pub room : granules_of a.cells ≤ a.block
  pub within : header + a.block ≤ a.end

-- no word of the block is taken as 0
pub record HasItsWords (a : NewArguments) (header : ℕ) : Type 0 where
  pub count : count_word a header ≡ a.first + 2 * header
  pub length : length_word a header ≡ a.first + 2 * header + 1
  pub cells : (cell : ℕ) → cell < a.cells → cell_word a header cell ≡ a.first + 2 * header + 2 + cell

abbrev pub BlocksHaveTheirWords : Type 0
BlocksHaveTheirWords = (a : NewArguments) (header : ℕ) → LiesInArena a header → HasItsWords a header

-- nor is a granule of the arena taken as 0
abbrev pub GranulesStay : Type 0
GranulesStay = (a : NewArguments) (granule : ℕ) → granule < a.end → granule_number a granule ≡ granule

-- a word of the block with this header
pub record IsWordOfBlock (a : NewArguments) (header word : ℕ) : Type 0 where
  pub from : a.first + 2 * header ≤ word
  pub before : word < a.first + 2 * (header + a.block)

-- a step of the top, or of a word of the New's own block
pub data IsOwnStep (a : NewArguments) (results : List ℕ) (step : WordStep) : Type 0 where
  OfTheTop : a.head ≡ 0 → step.word ≡ top_word → MovesOn step.op → IsOwnStep a results step
  OfItsBlock : (header : ℕ) → ComesFrom a results header → IsWordOfBlock a header step.word → IsOwnStep a results step

-- each step is of the top or of the own block, if the first block of the own list lies in the arena
abbrev pub StepsAreOwn : Type 0
StepsAreOwn =
    (a : NewArguments) (results : List ℕ) (step : WordStep) → granules_of a.cells ≤ a.block
    → (a.head ≢ 0 → a.head + a.block ≤ a.end)
    → Asks a results (Do step) → IsOwnStep a results step

-- ---- histories
-- each step leaves the top as it is or moves it on, if the top is no cell
abbrev pub StepsKeepTop : Type 0
StepsKeepTop =
    (a : NewArguments) (results : List ℕ) (step : WordStep) → 1 < a.first → Asks a results (Do step)
    → step.word ≡ top_word → MovesOn step.op

-- what is handed out lies one after the other, from the opening top up to the top that is left, and no two of them
-- overlap
pub record IsHandedOut (opening : List ℕ) (events : List WordEvent) : Type 0 where
  pub in_order :
      LieInOrder (slice_index opening top_word) (handed_out events) (slice_index (words_after opening events) top_word)
  pub apart : AllPairs (λ one later. one.to ≤ later.from) (handed_out events)

-- over a legal history whose events leave the top as it is or move it on
abbrev pub TopHandsOutApart : Type 0
TopHandsOutApart =
    (opening : List ℕ) (events : List WordEvent) → LegalHistory opening events → All KeepsTop events
    → IsHandedOut opening events

-- a Cas of the top that finds what it is to replace hands out what it moves the top over
abbrev pub CasHandsOut : Type 0
CasHandsOut =
    (event : WordEvent) (from to : ℕ) → event.step ≡ step_of top_word (Cas from to) → event.result ≡ from
    → HandsOut event record { from = from; to = to }

-- of two such events the earlier one's granules lie before the later one's, and these below the top that is left
pub record LieApart (opening : List ℕ) (events : List WordEvent) (earlier later : Granules) : Type 0 where
  pub from_opening : slice_index opening top_word ≤ earlier.from
  pub apart : earlier.to ≤ later.from
  pub below : later.to ≤ slice_index (words_after opening events) top_word

abbrev pub HandedApart : Type 0
HandedApart =
    (opening : List ℕ) (before between after : List WordEvent) (one other : WordEvent) (earlier later : Granules)
    → LegalHistory opening (before ++ one ∷ (between ++ other ∷ after))
    → All KeepsTop (before ++ one ∷ (between ++ other ∷ after))
    → HandsOut one earlier → HandsOut other later
    → LieApart opening (before ++ one ∷ (between ++ other ∷ after)) earlier later

-- the laws of a New together
pub record NewLaws : Type 0 where
  pub one_turn : AsksOneTurn
  pub full : HeapIsFullWithoutRoom
  pub top : TopMovesByOneBlock
  pub words : StepsAreOfWords
  pub own_ends : OwnListEnds
  pub top_ends : TopEnds
  pub begins : NewBegins
  pub goes_on : NewGoesOn
  pub stays : NewStays
  pub block : BlockOfIsBlock
  pub one_block : OneBlock
  pub made : MadeIsItsBlock
  pub block_words : BlocksHaveTheirWords
  pub granules : GranulesStay
  pub own_steps : StepsAreOwn
  pub keep_top : StepsKeepTop
  pub in_order : TopHandsOutApart
  pub cas : CasHandsOut
  pub apart : HandedApart
