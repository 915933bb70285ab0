use Rattle.sharc_flatten.proofs.Imports.{◌≡◌, ◌++◌, length, drop, view_statements, statements_code, behind_statements, context, around_of}
use Rattle.sharc_flatten.proofs.bodies.+statement.Given as goal

abbrev pub invariant-statements-loop-stmt : goal.invariant-statements-loop-stmt
invariant-statements-loop-stmt l = record {
  code : l.lines.items ++ statements_code (context l.source l.slots.items) (around_of l.around l.fn.marks.items) (length l.lines.items) (view_statements (drop l.stmt-index l.all))
      ≡ l.fn.lines.items ++ statements_code (context l.source l.fn.slots.items) (around_of l.around l.fn.marks.items) (length l.fn.lines.items) (view_statements l.all);
  scope : (behind_statements (context l.source l.slots.items) (view_statements (drop l.stmt-index l.all))).scope ≡ (behind_statements (context l.source l.fn.slots.items) (view_statements l.all)).scope;
  marks : l.marks.items ≡ l.fn.marks.items;
}
