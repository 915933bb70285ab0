-- What the definitions of this crate are to those who argue with them.
use Rattle.std.specs.Prelude.{◌≡◌, ◌⊎◌, ◌↔◌, ℕ, ◌<◌, Bool, true, false, List, length, slice_index_or, Some, None}
use Rattle.std.specs.Prelude.{Contains, All}
use Rattle.sharc_tree.specs.{declared.ctype.Mode.Mode, declared.ctype.Mode.TheVariants.{Private, Dynamic}}
use Rattle.sharc_ctype.specs.{Entities.entities_in, Resolved.Resolution}
use Rattle.sharc_graph.specs.{Paths.IsWithin, declared.place.Link.Link, Flow.link_of}
use Rattle.sharc_mode.specs.{declared.error.ModeError.ModeError, Flows.{IsLeastAssignment, links_of}}
use Rattle.sharc_mode.specs.{Moded.{Assignment, position_count, reason_at}, Pairs.{AreEquated, IsBelow, IsEnough}}
use Rattle.sharc_mode.specs.{Sharings.{sharing_of, is_dynamic}, Settled.{settled_in, settled_at}}
use Rattle.sharc_mode.specs.WellModed.{AreModeErrors}

-- the least assignment leaves what is settled, and gives no reason for it
abbrev pub SettledStay : Type 0
SettledStay = (m : Assignment) → IsLeastAssignment m → (position : ℕ) → position < position_count m.typed
    → (mode : Mode) → settled_at m.typed position ≡ Some mode
    → (slice_index_or m.modes position Private ≡ mode) × (reason_at m position ≡ None)

-- every other position is private or dynamic
abbrev pub OthersAreInferred : Type 0
OthersAreInferred = (m : Assignment) → IsLeastAssignment m
    → (position : ℕ) → position < position_count m.typed → settled_at m.typed position ≡ None
    → (slice_index_or m.modes position Private ≡ Private) ⊎ (slice_index_or m.modes position Private ≡ Dynamic)

-- a program has one list of errors
abbrev pub ErrorsAreOne : Type 0
ErrorsAreOne = (m : Assignment) (a b : List ModeError) → AreModeErrors m a → AreModeErrors m b → a ≡ b

pub record ModeLaws : Type 0 where
  pub settled : SettledStay
  pub inferred : OthersAreInferred
  pub one : ErrorsAreOne

-- ---- the links, and what the least assignment is among all

-- the links join the positions that are equal, and each to the one directly below
abbrev pub LinksAre : Type 0
LinksAre = (r : Resolution) (x y : ℕ) → (Contains (links_of r) (link_of x y true) ↔ IsBelow r x y)
    × (Contains (links_of r) (link_of x y false) ↔ AreEquated r x y)

-- and only positions of the program
abbrev pub LinksAreWithin : Type 0
LinksAreWithin = (r : Resolution) → All (λ (link : Link). IsWithin (position_count r) link.edge) (links_of r)

-- something is settled of each position, or that nothing is
abbrev pub SettledAreCounted : Type 0
SettledAreCounted = (r : Resolution) → length (settled_in (entities_in r.program.items)) ≡ position_count r

-- two equal positions without a written mode agree
abbrev pub EquatedAgree : Type 0
EquatedAgree = (m : Assignment) → IsLeastAssignment m
    → (x y : ℕ) → AreEquated m.typed x y → settled_at m.typed x ≡ None → settled_at m.typed y ≡ None
    → slice_index_or m.modes x Private ≡ slice_index_or m.modes y Private

-- directly below a position that is not private one without a written mode is dynamic
abbrev pub BelowIsDynamic : Type 0
BelowIsDynamic = (m : Assignment) → IsLeastAssignment m
    → (x y : ℕ) → IsBelow m.typed x y → (slice_index_or m.modes x Private ≡ Private → ⊥) → settled_at m.typed y ≡ None
    → slice_index_or m.modes y Private ≡ Dynamic

-- the least assignment is enough
abbrev pub IsItselfEnough : Type 0
IsItselfEnough = (m : Assignment) → IsLeastAssignment m
    → IsEnough m.typed (λ position. is_dynamic (sharing_of (slice_index_or m.modes position Private)))

-- and any that is enough is dynamic wherever it is
abbrev pub IsLeastOfAll : Type 0
IsLeastOfAll = (m : Assignment) → IsLeastAssignment m → (dynamic : ℕ → Bool) → IsEnough m.typed dynamic
    → (position : ℕ) → settled_at m.typed position ≡ None
    → slice_index_or m.modes position Private ≡ Dynamic → dynamic position ≡ true

pub record LinkLaws : Type 0 where
  pub are : LinksAre
  pub within : LinksAreWithin
  pub counted : SettledAreCounted
  pub agree : EquatedAgree
  pub below : BelowIsDynamic
  pub enough : IsItselfEnough
  pub least : IsLeastOfAll
