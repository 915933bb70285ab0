-- The granules that a history hands out from the top.
use Rattle.std.specs.Prelude.{◌≡◌, ℕ, ◌≤◌, ◌==◌, ◌++◌, ◌∷◌, [], List, if◌then◌else◌}
use Rattle.sharc_word.specs.declared.step.WordOp.{WordOp}
use Rattle.sharc_word.specs.declared.step.WordOp.TheVariants.{Load, Swap, Add, Sub, Or, And, Cas}
use Rattle.sharc_word.specs.declared.step.WordEvent.{WordEvent}
use Rattle.sharc_heap.specs.Asks.{top_word}

-- the granules from one number on and before another
pub record Granules : Type 0 where
  pub from : ℕ
  pub to : ℕ

-- the operation leaves the top as it is, or moves it on by a Cas
abbrev pub MovesOn : WordOp → Type 0
MovesOn Load = Unit {0}
MovesOn (Swap new) = ⊥
MovesOn (Add number) = ⊥
MovesOn (Sub number) = ⊥
MovesOn (Or bits) = ⊥
MovesOn (And bits) = ⊥
MovesOn (Cas from to) = from ≤ to

-- the event leaves the top as it is, or moves it on by a Cas
abbrev pub KeepsTop : WordEvent → Type 0
KeepsTop event = event.step.word ≡ top_word → MovesOn event.step.op

-- what an operation on the top hands out where it found this: a Cas what it moves the top over
abbrev pub moved_over : WordOp → ℕ → List Granules
moved_over Load found = []
moved_over (Swap new) found = []
moved_over (Add number) found = []
moved_over (Sub number) found = []
moved_over (Or bits) found = []
moved_over (And bits) found = []
moved_over (Cas from to) found = if found == from then record { from = from; to = to } ∷ [] else []

abbrev pub handed_by : WordEvent → List Granules
handed_by event = if event.step.word == top_word then moved_over event.step.op event.result else []

-- what these events hand out, in their order
abbrev pub handed_out : List WordEvent → List Granules
handed_out [] = []
handed_out (event ∷ events) = handed_by event ++ handed_out events

-- the event hands out just these granules
abbrev pub HandsOut : WordEvent → Granules → Type 0
HandsOut event granules = handed_by event ≡ granules ∷ []

-- these lie one after the other, the first not before this granule, and none past that one
abbrev pub LieInOrder : ℕ → List Granules → ℕ → Type 0
LieInOrder from [] to = from ≤ to
LieInOrder from (g ∷ gs) to = (from ≤ g.from) × (g.from ≤ g.to) × LieInOrder g.to gs to
