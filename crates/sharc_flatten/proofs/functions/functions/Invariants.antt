use Rattle.sharc_flatten.proofs.Imports.{◌≡◌, ◌++◌, length, drop, functions_in, rows_of, functions_code}
use Rattle.sharc_flatten.proofs.functions.functions.Given as goal

abbrev pub invariant-loop-number : goal.invariant-loop-number
invariant-loop-number l = record {
  rows : l.rows.items ++ rows_of l.source.m.now l.source.globals.items (length l.lines.items) (drop l.number (functions_in l.source.m.now.typed.program.items))
      ≡ rows_of l.source.m.now l.source.globals.items 0 (functions_in l.source.m.now.typed.program.items);
  code : l.lines.items ++ functions_code l.source.m.now l.source.globals.items (length l.lines.items) (drop l.number (functions_in l.source.m.now.typed.program.items))
      ≡ functions_code l.source.m.now l.source.globals.items 0 (functions_in l.source.m.now.typed.program.items);
}
