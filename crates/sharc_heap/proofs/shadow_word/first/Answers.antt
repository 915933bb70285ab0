use Rattle.sharc_heap.proofs.{Imports.{refl, sym}, Conflict.lowest_of_conflict, Lowest.{first_found, first_none}}
use Rattle.sharc_heap.proofs.shadow_word.first.Goals as goal

pub overflow_sub-result : goal.overflow_sub-result
overflow_sub-result c =
    (lowest_of_conflict c.args.old c.args.thread c.others.result c.args.kind c.args.wrote c.others.ensures c.others.type_inv (c.if-conflicts.ensures.conflicts.0 refl)).later

pub returns-then-conflicts-clause-lowest : goal.returns-then-conflicts-clause-lowest
returns-then-conflicts-clause-lowest c =
    (lowest_of_conflict c.args.old c.args.thread c.others.result c.args.kind c.args.wrote c.others.ensures c.others.type_inv (c.if-conflicts.ensures.conflicts.0 refl)).first

pub returns-then-conflicts-clause-is : goal.returns-then-conflicts-clause-is
returns-then-conflicts-clause-is c =
    first_found c.args.old c.args.thread _ c.args.kind c.args.wrote (sym c.if-conflicts.ensures.is) (lowest_of_conflict c.args.old c.args.thread c.others.result c.args.kind c.args.wrote c.others.ensures c.others.type_inv (c.if-conflicts.ensures.conflicts.0 refl)).first

pub returns-else-conflicts-clause-is : goal.returns-else-conflicts-clause-is
returns-else-conflicts-clause-is c = first_none c.args.old c.args.thread c.args.kind c.args.wrote (sym c.if-conflicts.ensures.is)
