use Rattle.sharc_check.proofs.{Imports.{ap, sym, ◌∙◌, modes_of, view_row, view_sharing, is_sibling, list_any}, RowLemmas.{step_on, none_of_one}}
use Rattle.sharc_check.proofs.rules.any_sibling.Goals as goal

pub loop-left-preserved : goal.loop-left-preserved
loop-left-preserved c =
    let m = c.args.program.now in
    let row = view_row c.loop-left.left in
    let next = view_row c.deeper-left.result in
    let s = view_sharing c.pointed.result in
    let step = step_on c.row_laws.ensures m row next s c.position_count-all.ensures.whole.modes c.loop-left-test.true c.loop-left.invariant.ends c.pointed.ensures c.deeper-left.ensures in
    let f = is_sibling m.typed in
    record {
      ends = step.0;
      any = none_of_one f (modes_of m row) (modes_of m next) s (list_any f (modes_of m (view_row c.args.row))) step.1
          (ap (λ r. is_sibling r s) (sym c.typed-typed.ensures) ∙ sym c.is_sibling.ensures ∙ c.if-is_sibling.false) c.loop-left.invariant.any;
    }
