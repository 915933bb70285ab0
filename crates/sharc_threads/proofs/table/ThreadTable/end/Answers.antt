use Rattle.sharc_threads.proofs.Sitting.{done_all, stuck, not_done, not_stuck}
use Rattle.sharc_threads.proofs.table.ThreadTable.end.Goals as goal

pub returns-then-all_done : goal.returns-then-all_done
returns-then-all_done c = λ code s g of. done_all code s g c.args.words.now c.args.self.now.seats.items of (c.all_done.ensures.done c.if-all_done.true)

pub returns-then-all_wait : goal.returns-then-all_wait
returns-then-all_wait c = λ code s g of.
    let on = c.all_done.ensures.on c.if-all_done.false in
    stuck code s g c.args.words.now c.args.self.now.seats.items of on.0 on.1 (c.all_wait.ensures.wait c.if-all_wait.true)

pub returns-else-all_wait : goal.returns-else-all_wait
returns-else-all_wait c = λ code s g of.
    let on = c.all_done.ensures.on c.if-all_done.false in
    let goes = c.all_wait.ensures.goes c.if-all_wait.false in
    (not_done code s g c.args.words.now c.args.self.now.seats.items of on.0 on.1, not_stuck code s g c.args.words.now c.args.self.now.seats.items of goes.0 goes.1 goes.2)
