-- A seat keeps its one part.
use Rattle.sharc_record.proofs.Imports.{stepped}
use Rattle.sharc_record.proofs.seat.JournalSeat.step.Goals as goal

pub invariant_of-self : goal.invariant_of-self
invariant_of-self g c =
    let one = c.self.invariant in
    (stepped one.0 c.args.step c.make_step.result, c.make_step.ensures.appended one.0 one.1, one.2)
