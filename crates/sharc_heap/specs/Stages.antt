-- The stages of a New: what each asks for, which one comes next, and which results were found up to it.
use Rattle.std.specs.Prelude.{◌≡◌, ◌≢◌, ℕ, ◌+◌, ◌<◌, ◌≤◌, [], List, length, nat_lt, nat_le, nat_eq, if◌then◌else◌}
use Rattle.sharc_word.specs.declared.step.WordOp.TheVariants.{Load, Swap, Cas}
use Rattle.sharc_heap.specs.{declared.stage.NewTurn.NewTurn, declared.stage.NewTurn.TheVariants.{Do, Made, HeapFull}}
use Rattle.sharc_heap.specs.declared.stage.NewStage.{NewStage}
use Rattle.sharc_heap.specs.declared.stage.NewStage.TheVariants.{Begins, Link, Cell, Top, Move, Count, Length}
use Rattle.sharc_heap.specs.declared.stage.NewStage.TheVariants.{Made as Finished, Full}
use Rattle.sharc_heap.specs.declared.arguments.NewArguments.{NewArguments}
use Rattle.sharc_heap.specs.Asks.{length_word, cell_word, count_word, top_word, step_of, granule_number, AreTops}
use Rattle.sharc_heap.specs.Asks.{HasMoved}

-- what a stage asks for; before the first turn nothing is asked for
abbrev pub turn_of_stage : NewArguments → NewStage → NewTurn
turn_of_stage a Begins = HeapFull
turn_of_stage a Link = Do (step_of (length_word a a.head) Load)
turn_of_stage a (Cell cell) = Do (step_of (cell_word a a.head cell) (Swap 0))
turn_of_stage a Top = Do (step_of top_word Load)
turn_of_stage a (Move top moved) = Do (step_of top_word (Cas top moved))
turn_of_stage a (Count header) = Do (step_of (count_word a header) (Swap 1))
turn_of_stage a (Length header) = Do (step_of (length_word a header) (Swap a.elements))
turn_of_stage a (Finished header) = Made header
turn_of_stage a Full = HeapFull

-- the stage in which the top was seen here
abbrev pub try_from : NewArguments → ℕ → NewStage
try_from a top = if nat_le (top + a.block) a.end then Move top (top + a.block) else Full

-- the stage after the clearing of this cell
abbrev pub after_cell : NewArguments → ℕ → NewStage
after_cell a cell = if nat_lt (cell + 1) a.cells then Cell (cell + 1) else Count a.head

-- the stage after this one, where this was found
abbrev pub next_stage : NewArguments → NewStage → ℕ → NewStage
next_stage a Begins found = if nat_eq a.head 0 then Top else Link
next_stage a Link found = Cell 0
next_stage a (Cell cell) found = after_cell a cell
next_stage a Top found = try_from a found
next_stage a (Move top moved) found = if nat_eq top found then Count top else try_from a found
next_stage a (Count header) found = Length header
next_stage a (Length header) found = Finished header
next_stage a (Finished header) found = Finished header
next_stage a Full found = Full

-- the head of the own list after this stage: the link that was found
abbrev pub next_head : NewArguments → NewStage → ℕ → ℕ → ℕ
next_head a Link head found = granule_number a found
next_head a _ head found = head

-- the block was found, and as many of the last two steps were made
pub data HasBlock (a : NewArguments) (results : List ℕ) (header made : ℕ) : Type 0 where
  OfOwn : a.head ≢ 0 → header ≡ a.head → length results ≡ 1 + a.cells + made → HasBlock a results header made
  OfTop : a.head ≡ 0 → (since : List ℕ) → HasMoved results header since → header + a.block ≤ a.end → length since ≡ made
      → HasBlock a results header made

-- the results that were found up to a stage
pub record IsInCell (a : NewArguments) (results : List ℕ) (cell : ℕ) : Type 0 where
  pub own : a.head ≢ 0
  pub counted : length results ≡ 1 + cell
  pub within : cell < a.cells

pub record IsAtTop (a : NewArguments) (results : List ℕ) (top : ℕ) : Type 0 where
  pub empty : a.head ≡ 0
  pub seen : AreTops results top

abbrev pub IsAtStage : NewArguments → List ℕ → NewStage → Type 0
IsAtStage a results Begins = ⊥
IsAtStage a results Link = (a.head ≢ 0) × (results ≡ [])
IsAtStage a results (Cell cell) = IsInCell a results cell
IsAtStage a results Top = (a.head ≡ 0) × (results ≡ [])
IsAtStage a results (Move top moved) = IsAtTop a results top × (moved ≡ top + a.block) × (top + a.block ≤ a.end)
IsAtStage a results (Count header) = HasBlock a results header 0
IsAtStage a results (Length header) = HasBlock a results header 1
IsAtStage a results (Finished header) = HasBlock a results header 2
IsAtStage a results Full = (top : ℕ) × IsAtTop a results top × (a.end < top + a.block)
