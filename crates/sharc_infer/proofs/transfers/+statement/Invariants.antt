use Rattle.sharc_infer.proofs.Imports.{◌≡◌, ◌++◌, drop, view_statements, statements_transfers, given}
use Rattle.sharc_infer.proofs.transfers.+statement.Given as goal

abbrev pub invariant-statements-loop-stmt : goal.invariant-statements-loop-stmt
invariant-statements-loop-stmt l =
    l.links.items ++ given l.typed l.function (statements_transfers l.typed l.returns (view_statements (drop l.stmt-index l.all))) ≡ l.fn.links.items ++ given l.typed l.function (statements_transfers l.typed l.returns (view_statements l.all))
