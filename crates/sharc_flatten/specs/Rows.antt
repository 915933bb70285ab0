-- The row of a function in the table.
use Rattle.std.specs.Prelude.{ℕ, max, List}
use Rattle.sharc_tree.specs.Tree.{Function}
use Rattle.sharc_code.specs.declared.code.Function.{Function as Row}
use Rattle.sharc_flat.specs.{declared.op.Op.Op, Flattened.{parameter_of, parameters_scope}, Frames.{ints_in, refs_in}}
use Rattle.sharc_flat.specs.Scope.{int_count, ref_count, no_text}

-- of a function with this code, from this line on
abbrev pub row_with : ℕ → List Op → Function → Row
row_with entry code f = record {
  entry = entry;
  ints = max (int_count (parameters_scope f.parameters)) (ints_in code);
  refs = max (ref_count (parameters_scope f.parameters)) (refs_in code);
  parameter = parameter_of f.parameters;
  site = f.name.site;
  name = no_text;
}
