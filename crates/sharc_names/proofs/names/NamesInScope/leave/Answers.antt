use Rattle.sharc_names.proofs.{Imports.{◌∙◌, arith}, TableLemmas.one_dropped}
use Rattle.sharc_names.proofs.names.NamesInScope.leave.Goals as goal

pub loop-self-preserved : goal.loop-self-preserved
loop-self-preserved c =
    let less = one_dropped c.loop-self.self c.drop_last.new.self c.args.mark c.in_ok-drop_last.ensures (omega arith) in
    record { within = less.0; left = less.1 ∙ c.loop-self.invariant.left }
