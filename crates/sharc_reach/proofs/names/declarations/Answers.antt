use Rattle.sharc_reach.proofs.{Imports.{◌++◌, declarations_marks, names}, NameLemmas.names_declared}
use Rattle.sharc_reach.proofs.names.declarations.Goals as goal

pub loop-one-preserved : goal.loop-one-preserved
loop-one-preserved c =
    let all = c.args.all.now in
    let start = c.args.list.now.items ++ names c.args.function (declarations_marks all) in
    names_declared c.args.function all c.loop-one.one-index c.one-item.result c.loop-one.list.items c.declaration.new.list.items start c.loop-one-test.true c.one-item.is c.in_ok-declaration.ensures c.loop-one.invariant
