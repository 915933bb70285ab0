-- What the modes of an accepted program ask of its functions.
use Rattle.std.specs.{Prelude.{◌≡◌, ℕ, Bool, true, false, Some, Contains}, List.AllByRecursion}
use Rattle.sharc_tree.specs.{Measures.{expressions, in_function}, Tree.{Expression, Right, Function}}
use Rattle.sharc_ctype.specs.Resolved.{function_at}
use Rattle.sharc_check.specs.Constructs.{IsTaken, IsAssigned}
use Rattle.sharc_flat.specs.Scope.{Context}
use Rattle.sharc_accepted_laws.specs.{Alone.AreAlone, StaticLaws.IsAccepted, Joined.{PathLeads, IsFairUse}}

-- where it is told which functions thread 0 alone runs, lvalues of a function are read, assigned and taken from in
-- their modes
pub record AreFair (c : Context) (is_alone : Bool) (e : Expression) : Type 0 where
  pub reads : IsFairUse c is_alone false e
  pub assigned : (x : Right) → IsAssigned c.program e x → IsFairUse c is_alone true e
  pub taken : IsTaken c.program e → IsFairUse c is_alone true e

abbrev pub UsesAreFair : Type 0
UsesAreFair = (c : Context) → IsAccepted c.program → (alone : ℕ → Bool) → AreAlone c.program alone
    → (n : ℕ) (f : Function) → function_at c.program.typed n ≡ Some f
    → (e : Expression) → AllByRecursion (λ x. Contains (in_function f) x) (expressions e) → PathLeads c e
    → AreFair c (alone n) e
