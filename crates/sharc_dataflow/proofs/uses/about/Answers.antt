use Rattle.sharc_dataflow.proofs.{Imports.{◌∙◌}, Found.told_is}
use Rattle.sharc_dataflow.proofs.uses.about.Goals as goal

pub returns : goal.returns
returns c = λ d is. c.in_ok-told.ensures ∙ told_is c.args.x d c.args.steps.now c.in_ok-heads.heads.items c.args.found.items is c.in_ok-heads.ensures
