-- Which positions the links join, in the words of the rule, and which assignments of dynamic are enough.
use Rattle.std.specs.Prelude.{◌≡◌, ◌⊎◌, ℕ, ◌+◌, ◌<◌, Bool, true, false, Option, Some, None, Contains}
use Rattle.sharc_tree.specs.{declared.ctype.Mode.Mode, declared.ctype.Mode.TheVariants.{Private, Dynamic}}
use Rattle.sharc_tree.specs.{declared.token.Span.Span, declared.tree.declaration.WrittenType.WrittenType}
use Rattle.sharc_tree.specs.{Measures.in_function, Tree.{Expression, cast, Function, function}}
use Rattle.sharc_ctype.specs.{Entities.{entities_in, numbered, positions_of}, Resolved.Resolution}
use Rattle.sharc_ctype.specs.{Transfers.{Transfer, function_transfers}, declared.entity.Numbered.Numbered}
use Rattle.sharc_mode.specs.{Flows.{IsRoot, receiver_row, source_row}, Rows.{Targets, cast_row, row_at, behind}}
use Rattle.sharc_mode.specs.Settled.{settled_at}

-- the targets of the types of what is assigned, initialised, passed, spawned with or returned and of what it is given,
-- from depth 1 on
pub record AreGiven (r : Resolution) (a b : Targets) : Type 0 where
  pub owner : Function
  pub stands : Contains r.program.items (function owner)
  pub transfer : Transfer
  pub does : Contains (function_transfers r owner) transfer
  pub receiver : receiver_row r owner transfer.receiver ≡ Some a
  pub source : source_row r transfer.source ≡ Some b

-- the targets of a cast and of its source, from depth 2 on
pub record AreCast (r : Resolution) (a b : Targets) : Type 0 where
  pub owner : Function
  pub stands : Contains r.program.items (function owner)
  pub span : Span
  pub written : WrittenType
  pub operand : Expression
  pub does : Contains (in_function owner) (cast span written operand)
  pub receiver : behind (Some (cast_row r span)) ≡ Some a
  pub source : behind (row_at r operand) ≡ Some b

-- these lie at the same depth of both
pub record AreLevel (a b : Targets) (x y : ℕ) : Type 0 where
  pub depth : ℕ
  pub left : depth < a.count
  pub right : depth < b.count
  pub first : x ≡ a.first + depth
  pub second : y ≡ b.first + depth

pub record ArePaired (r : Resolution) (x y : ℕ) : Type 0 where
  pub a : Targets
  pub b : Targets
  pub types : AreGiven r a b ⊎ AreCast r a b
  pub level : AreLevel a b x y

-- they are equal, whichever of them is given to the other
abbrev pub AreEquated : Resolution → ℕ → ℕ → Type 0
AreEquated r x y = ArePaired r x y ⊎ ArePaired r y x

-- the second is directly below the first in the same type
pub record IsBelow (r : Resolution) (x y : ℕ) : Type 0 where
  pub of : Numbered
  pub stands : Contains (numbered (entities_in r.program.items)) of
  pub depth : ℕ
  pub inside : depth + 1 < positions_of of.entity
  pub first : x ≡ of.first + depth
  pub second : y ≡ of.first + depth + 1

-- ---- assignments of dynamic to the positions without a written mode

abbrev pub mode_given : Option Mode → Bool → Mode
mode_given (Some m) dynamic = m
mode_given None true = Dynamic
mode_given None false = Private

abbrev pub mode_by : Resolution → (ℕ → Bool) → ℕ → Mode
mode_by r dynamic position = mode_given (settled_at r position) (dynamic position)

-- the roots are dynamic, what is equal to a dynamic one is, and what is directly below one that is not private
pub record IsEnough (r : Resolution) (dynamic : ℕ → Bool) : Type 0 where
  pub roots : (position : ℕ) → settled_at r position ≡ None → IsRoot r position → dynamic position ≡ true
  pub equal : (x y : ℕ) → AreEquated r x y → mode_by r dynamic x ≡ Dynamic → settled_at r y ≡ None → dynamic y ≡ true
  pub below : (x y : ℕ) → IsBelow r x y → (mode_by r dynamic x ≡ Private → ⊥) → settled_at r y ≡ None → dynamic y ≡ true
