-- Where the parts of a function of an accepted program stand, and what its statements ask of its expressions.
use Rattle.std.specs.{Prelude.{ℕ, ◌≡◌, Bool, true, Some, None, Contains}, List.AllByRecursion}
use Rattle.sharc_tree.specs.{Forms.is_lvalue, Measures.{expressions, in_function}, Tree.{Expression, Right, Function}}
use Rattle.sharc_ctype.specs.Resolved.{function_at}
use Rattle.sharc_ctype_laws.specs.Rules.{IsHeld}
use Rattle.sharc_check.specs.Constructs.{IsAssigned}
use Rattle.sharc_flat.specs.{Flattened.{kind_of, is_ref, target_of, guard_of}, Scope.Context}
use Rattle.sharc_flat.specs.Suits.{Suits, PlaceSuits, IsScalar, is_cell}
use Rattle.sharc_typed_laws.specs.{Stated.CellAssigned, Stretches.Setting, Typable.{type_by, IsTypable, IsPlaceTypable}}
use Rattle.sharc_accepted_laws.specs.{Scopes.IsClosedScope, Standing.ExpressionsStand, Static.entry_of, Typing.typing}
use Rattle.sharc_accepted_laws.specs.Setting.{setting_of, IsSet}

-- ---- where parts of a function stand
-- these variables stand in function n of an accepted program, of which this is the definition
pub record IsPlaceIn (z : Setting) (alone : ℕ → Bool) (n : ℕ) (g : Function) (c : Context) : Type 0 where
  pub set : IsSet c.program c.globals z.code alone
  pub setting : z ≡ setting_of c.program c.globals z.code alone z.lines
  pub function : function_at c.program.typed n ≡ Some g
  pub closed : IsClosedScope c.program c.scope

-- an expression of the function, with the variables of its lock paths
pub record IsThere (g : Function) (c : Context) (e : Expression) : Type 0 where
  pub inside : AllByRecursion (Contains (in_function g)) (expressions e)
  pub stands : ExpressionsStand c (expressions e)

-- ---- what is asked of expressions
-- they are typable, and so are the cells to which something is assigned
pub record AreExpressionsTypable (z : Setting) (alone : ℕ → Bool) (n : ℕ) (g : Function) : Type 0 where
  pub value : (c : Context) → IsPlaceIn z alone n g c → (e : Expression) → IsThere g c e → Suits c e
      → (is_lvalue e ≡ true → IsScalar (kind_of c e)) → IsTypable z n typing c e
  pub place : (c : Context) → IsPlaceIn z alone n g c → (u : Expression) → IsThere g c u → PlaceSuits c u
      → is_lvalue u ≡ true → IsHeld (kind_of c u) → IsPlaceTypable z n typing c None (guard_of c u) u
  pub written : (c : Context) → IsPlaceIn z alone n g c → (u : Expression) (x : Right) → IsThere g c u → PlaceSuits c u
      → IsAssigned c.program u x → IsHeld (kind_of c u) → is_cell (target_of c u) ≡ true
      → CellAssigned z n typing c u (type_by (entry_of c u)) (target_of c u) (is_ref c u)
