use Rattle.std.proofs.Common.{arith}
use Rattle.sharc_traced.proofs.Listing.{so_far_push, there}
use Rattle.sharc_traced.proofs.cut.lines_of.Goals as goal

pub loop-i-preserved : goal.loop-i-preserved
loop-i-preserved c =
    let events = c.args.events.now in
    let i = c.loop-i.i in
    let h = c.loop-i.invariant in
    let is = rw c.in-Some.is at c.in_ok-line.ensures in
    let s = so_far_push c.args.typed.now events c.loop-i.lines.items c.push.new.self.items i c.in-Some.line _ record { are = h.are; count = h.count; few = h.few } c.in_ok-push-in-Some.ensures.items (there events i _ (omega arith)) is (omega arith) in
    record { are = s.are; count = s.count; few = s.few }
