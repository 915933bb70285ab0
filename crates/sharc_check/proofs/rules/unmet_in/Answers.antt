use Rattle.sharc_check.proofs.{Imports.{ap, ◌∙◌, modes_of, view_row, view_sharing, unmet, unmet_in, option_or, view_passed, view_locks}, RowLemmas.{step_on, unmet_one}}
use Rattle.sharc_check.proofs.rules.unmet_in.Goals as goal

pub loop-left-preserved : goal.loop-left-preserved
loop-left-preserved c =
    let m = c.args.program.now in
    let row = view_row c.loop-left.left in
    let next = view_row c.deeper-left.result in
    let s = view_sharing c.pointed.result in
    let step = step_on c.row_laws.ensures m row next s c.position_count-all.ensures.whole.modes c.loop-left-test.true c.loop-left.invariant.ends c.pointed.ensures c.deeper-left.ensures in
    let ds = c.args.passing.parameters.now in
    let args = view_passed c.args.passing.passed in
    record {
      ends = step.0;
      first = unmet_one m.typed ds args (modes_of m row) (modes_of m next) s (view_locks c.loop-left.found) (view_locks c.or_else-found.result) (unmet_in m.typed ds args (modes_of m (view_row c.args.row))) step.1
          (c.or_else-found.ensures ∙ ap (λ x. option_or x (view_locks c.loop-left.found)) (c.unmet.ensures ∙ ap (λ r. unmet r ds args s) c.typed-typed.ensures)) c.loop-left.invariant.first;
    }
