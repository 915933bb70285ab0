-- How large a typed program may be (SharC's own rule), and its `main` (C11 5.1.2.2.1).
use Rattle.std.specs.{Prelude.{◌≡◌, ℕ, ◌≤◌, [], length, Some, codes}, List.AllByRecursion}
use Rattle.sharc_tree.specs.Tree.{Function, Program}
use Rattle.sharc_names.specs.Kinds.{int, declared_kind}
use Rattle.sharc_ctype.specs.{Globals.{elements_of, cells_of_all}, Items.file_scope}
use Rattle.sharc_ctype.specs.Resolved.{Resolution, structs_in, globals_in, functions_in, function_at}
use Rattle.sharc_ctype.specs.Statements.{locals_in_all}

-- the cells are those of all globals together
pub record IsWithinLimits (p : Program) : Type 0 where
  pub structs : length (structs_in p.items) ≤ 256
  pub globals : length (globals_in p.items) ≤ 4096
  pub functions : length (functions_in p.items) ≤ 16384
  pub fields : AllByRecursion (λ s. length s.fields ≤ 256) (structs_in p.items)
  pub parameters : AllByRecursion (λ f. length f.parameters ≤ 16) (functions_in p.items)
  pub locals : AllByRecursion (λ f. length (locals_in_all f.statements) ≤ 200) (functions_in p.items)
  pub elements : AllByRecursion (λ g. elements_of g.form ≤ 65536) (globals_in p.items)
  pub cells : cells_of_all (file_scope p.items).structs p.items ≤ 65536

-- `int main(void)`
pub record IsMain (r : Resolution) (n : ℕ) (f : Function) : Type 0 where
  pub at : function_at r n ≡ Some f
  pub name : f.name.text ≡ codes "main"
  pub result : declared_kind f.result ≡ int
  pub parameters : f.parameters ≡ []
