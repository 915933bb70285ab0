use Rattle.std.proofs.Common.{◌≡◌, take}
use Rattle.sharc_tree.specs.View.{view_statements}
use Rattle.sharc_tree.proofs.copy.statement.+stmt.Given as goal

abbrev pub invariant-copy_statements-loop-stmt : goal.invariant-copy_statements-loop-stmt
invariant-copy_statements-loop-stmt l = view_statements l.copied.items ≡ view_statements (take l.stmt-index l.list)
