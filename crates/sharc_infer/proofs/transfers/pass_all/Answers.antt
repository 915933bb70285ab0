use Rattle.sharc_infer.proofs.{Imports.{◌++◌, ap, sym, ◌∙◌, arith, append-nil, given}, LinkLemmas.passed_end}
use Rattle.sharc_infer.proofs.transfers.pass_all.Goals as goal

pub returns : goal.returns
returns c =
    let old = c.loop-i.links.items in
    let size = c.min-i-end.ensures in
    let past = c.loop-i-test.false in
    let none = passed_end c.args.parameters.now c.args.all.now c.loop-i.i (omega arith) in
    sym (ap (λ l. old ++ given c.args.typed.now c.args.function l) none ∙ append-nil old) ∙ c.loop-i.invariant
