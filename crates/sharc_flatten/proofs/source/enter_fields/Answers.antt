use Rattle.sharc_flatten.proofs.{Imports.arith, StructLemmas.has_all}
use Rattle.sharc_flatten.proofs.source.enter_fields.Goals as goal

pub returns : goal.returns
returns c = has_all c.args.fields.now c.args.places.now c.loop-left.places c.loop-left.left (omega arith) c.loop-left.invariant.places
