-- The lock paths among the modes of a type are those that are written in it.
use Rattle.std.specs.Prelude.{ℕ, ◌+◌, ◌<◌, List, Option, Some, slice_index_or, Contains}
use Rattle.sharc_tree.specs.declared.ctype.Mode.{Mode}
use Rattle.sharc_tree.specs.declared.ctype.Mode.TheVariants.{Private, Readonly, Locked, Racy, Dynamic}
use Rattle.sharc_ctype.specs.{declared.entity.Numbered.Numbered, Entities.{entities_in, numbered, positions_of}}
use Rattle.sharc_mode.specs.{Flows.IsLeastAssignment, Moded.Assignment}

-- a lock path is one of those that these levels have
abbrev pub IsWrittenLock : List (Option Mode) → Mode → Type 0
IsWrittenLock levels Private = Unit {0}
IsWrittenLock levels Readonly = Unit {0}
IsWrittenLock levels (Locked path) = Contains levels (Some (Locked path))
IsWrittenLock levels Racy = Unit {0}
IsWrittenLock levels Dynamic = Unit {0}

-- at each position of each type
abbrev pub HasWrittenLocks : Assignment → Type 0
HasWrittenLocks m = (n : Numbered) → Contains (numbered (entities_in m.typed.program.items)) n
    → (k : ℕ) → k < positions_of n.entity
    → IsWrittenLock n.entity.written.ctype.levels (slice_index_or m.modes (n.first + k) Private)

-- of the least assignment
abbrev pub LeastHasWrittenLocks : Type 0
LeastHasWrittenLocks = (m : Assignment) → IsLeastAssignment m → HasWrittenLocks m
