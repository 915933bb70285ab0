use Rattle.sharc_top.proofs.Imports.{ran}
use Rattle.sharc_top.proofs.ran.run_reply.Goals as goal

pub returns : goal.returns
returns g c = λ m meets is fit. rw c.status_of.ensures (ran c.args.code.now c.in_ok-ran.ran meets is fit c.in_ok-ran.ensures)
