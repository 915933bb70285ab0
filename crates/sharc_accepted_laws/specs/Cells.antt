-- The cells of an accepted program are as its expressions ask, in each function, wherever the variables of its lock
-- paths stand.
use Rattle.std.specs.Prelude.{ℕ, Bool}
use Rattle.sharc_tree.specs.Tree.{Function}
use Rattle.sharc_code.specs.declared.code.Code.{Code}
use Rattle.sharc_flat.specs.Scope.{Context}
use Rattle.sharc_accepted_laws.specs.{Expressions.CellsTyped, Setting.{setting_of, IsSet}}

abbrev pub CellsAreTyped : Type 0
CellsAreTyped = (c : Context) (code : Code) (alone : ℕ → Bool) (lines : ℕ) → IsSet c.program c.globals code alone
    → (n : ℕ) (g : Function) → CellsTyped (setting_of c.program c.globals code alone lines) c n g
