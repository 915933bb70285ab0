-- What the inferred modes are to those who argue with them: they have what the links ask for, and no more.
use Rattle.std.specs.Prelude.{◌≡◌, ℕ, Bool, true, List}
use Rattle.sharc_graph.specs.{declared.graph.NodeFinding.NodeFinding, declared.graph.NodeFinding.TheVariants.Apart}
use Rattle.sharc_graph.specs.Findings.{finding_at}
use Rattle.sharc_graph.specs.Flow.{Flow, IsUnwritten, IsOrigin, IsFirstFor, HasLink, IsEqual, FlowsTo, AreInferred}

-- a position is inferred dynamic where no mode is written there and a path leads to it
pub record IsDynamic (f : Flow) (position : ℕ) : Type 0 where
  pub unwritten : IsUnwritten f position
  pub first : ℕ
  pub rest : List ℕ
  pub path : FlowsTo f first rest position

-- these positions without a written mode are enough: the roots are among them, what a written position leads to, and
-- what one of them leads to
pub record IsClosed (f : Flow) (Among : ℕ → Type 0) : Type 0 where
  pub roots : (position : ℕ) → IsOrigin f position → IsUnwritten f position → Among position
  pub written : (from to : ℕ) → IsFirstFor f from to → IsUnwritten f to → Among to
  pub onward : (from to : ℕ) → Among from → IsUnwritten f from → HasLink f from to → IsUnwritten f to → Among to

-- the inferred ones are enough
abbrev pub AreEnough : Type 0
AreEnough = (f : Flow) → IsClosed f (IsDynamic f)

-- and any assignment of dynamic that is enough has them
abbrev pub AreLeast : Type 0
AreLeast = (f : Flow) (dynamic : ℕ → Bool) → IsClosed f (λ position. dynamic position ≡ true)
    → (position : ℕ) → IsDynamic f position → dynamic position ≡ true

-- two positions without a written mode that are equal in both directions are both dynamic or neither is
abbrev pub EqualsAgree : Type 0
EqualsAgree = (f : Flow) (a b : ℕ) → IsEqual f a b → IsEqual f b a → IsUnwritten f a → IsUnwritten f b
    → (IsDynamic f a → IsDynamic f b) × (IsDynamic f b → IsDynamic f a)

-- what is found shows them: a position without a written mode is dynamic where it is not apart
abbrev pub AreTold : Type 0
AreTold = (f : Flow) (findings : List NodeFinding) → AreInferred f findings → (position : ℕ) → IsUnwritten f position
    → (finding_at findings position ≡ Apart → IsDynamic f position → ⊥)
    × ((finding_at findings position ≡ Apart → ⊥) → IsDynamic f position)

pub record FlowLaws : Type 0 where
  pub enough : AreEnough
  pub least : AreLeast
  pub agree : EqualsAgree
  pub told : AreTold
