-- What is one: what is found of a position, why a root is one, and the least assignment of a program.
use Rattle.std.specs.Prelude.{◌≡◌, ℕ, List}
use Rattle.sharc_tree.specs.{Low.IsLow, Placed.IsPlaced}
use Rattle.sharc_graph.specs.{declared.graph.NodeFinding.NodeFinding, Findings.finding_at}
use Rattle.sharc_graph.specs.Flow.{Flow, IsUnwritten, AreInferred}
use Rattle.sharc_ctype.specs.Resolved.{Resolution, IsResolved}
use Rattle.sharc_mode.specs.{Flows.{IsTouchedIn, IsPassedTo, IsLeastAssignment}, Moded.Assignment}

-- a typed program at its tokens, in the forms of the grammar
pub record IsTypedAtTokens (r : Resolution) : Type 0 where
  pub resolved : IsResolved r
  pub placed : IsPlaced r.program
  pub low : IsLow r.program

-- of a position without a written mode one thing is found
abbrev pub FindingsAreOne : Type 0
FindingsAreOne = (f : Flow) (a b : List NodeFinding) → AreInferred f a → AreInferred f b
    → (position : ℕ) → IsUnwritten f position → finding_at a position ≡ finding_at b position

-- a position is the top of one global that one function is named for, or the target of a parameter of one function, and
-- never both
pub record IsOneRoot (r : Resolution) (position : ℕ) : Type 0 where
  pub touched : (f g : ℕ) → IsTouchedIn r position f → IsTouchedIn r position g → f ≡ g
  pub passed : (f g : ℕ) → IsPassedTo r position f → IsPassedTo r position g → f ≡ g
  pub apart : (f g : ℕ) → IsTouchedIn r position f → IsPassedTo r position g → ⊥

abbrev pub RootsAreOne : Type 0
RootsAreOne = (r : Resolution) → IsTypedAtTokens r → (position : ℕ) → IsOneRoot r position

-- and a program has one least assignment
abbrev pub LeastIsOne : Type 0
LeastIsOne = (a b : Assignment) → IsTypedAtTokens a.typed → IsLeastAssignment a → IsLeastAssignment b
    → a.typed ≡ b.typed → a ≡ b
