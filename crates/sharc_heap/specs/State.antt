-- A New on its way, turn by turn: what it asks for, and how it goes on when it is given what its step found.
use Rattle.std.specs.Prelude.{◌≡◌, ℕ, List, Option, Some, None}
use Rattle.sharc_heap.specs.{declared.arguments.NewArguments.NewArguments, declared.stage.NewTurn.NewTurn}
use Rattle.sharc_heap.specs.{declared.stage.NewTurn.TheVariants.{Do, Made, HeapFull}, declared.stage.NewStage.NewStage}
use Rattle.sharc_heap.specs.{declared.stage.NewStage.TheVariants.{Begins, Length}, Asks.{Asks, head_after}}
use Rattle.sharc_heap.specs.Stages.{turn_of_stage, next_stage, next_head, IsAtStage}

-- what a New was given, how far it has come, and the head of the own list as it now is
pub record NewView : Type 0 where
  pub arguments : NewArguments
  pub stage : NewStage
  pub head : ℕ

-- a New that has not had a turn
abbrev pub begun : NewArguments → NewView
begun a = record { arguments = a; stage = Begins; head = a.head }

-- the New after its next turn, where this was found; the first turn does not look at it
abbrev pub told : NewView → ℕ → NewView
told state found = record {
  arguments = state.arguments;
  stage = next_stage state.arguments state.stage found;
  head = next_head state.arguments state.stage state.head found;
}

-- what it asked for last
abbrev pub turn_of : NewView → NewTurn
turn_of state = turn_of_stage state.arguments state.stage

-- the header of the block whose length it asked to write last, with the elements of the object
abbrev pub sized : NewArguments → NewStage → Option (ℕ × ℕ)
sized a (Length header) = Some (header, a.elements)
sized a _ = None

-- the turn is a step, whose result the next call is given
abbrev pub IsStep : NewTurn → Type 0
IsStep (Do step) = Unit {0}
IsStep (Made header) = ⊥
IsStep HeapFull = ⊥

-- it was given these results, and asked for what a New then asks for
pub record IsAfter (state : NewView) (results : List ℕ) : Type 0 where
  pub asks : Asks state.arguments results (turn_of state)
  pub head : state.head ≡ head_after state.arguments results
  pub at : IsAtStage state.arguments results state.stage
