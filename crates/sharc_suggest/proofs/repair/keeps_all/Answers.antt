use Rattle.sharc_suggest.proofs.{Imports.{ap, sym, ◌∙◌, modes_of, view_row, view_sharing, keeps, keeps_all}, RowLemmas.{step_on, kept_one}}
use Rattle.sharc_suggest.proofs.repair.keeps_all.Goals as goal

pub loop-left-preserved : goal.loop-left-preserved
loop-left-preserved c =
    let m = c.args.program.now in
    let scope = c.args.scope.now in
    let row = view_row c.loop-left.left in
    let next = view_row c.deeper-left.result in
    let s = view_sharing c.pointed.result in
    let step = step_on c.row_laws.ensures m row next s c.position_count-all.ensures.whole.modes c.loop-left-test.true c.loop-left.invariant.ends c.pointed.ensures c.deeper-left.ensures in
    record {
      ends = step.0;
      kept = kept_one m.typed scope (modes_of m row) (modes_of m next) s (keeps_all m.typed scope (modes_of m (view_row c.args.row))) step.1
          (ap (λ r. keeps r scope s) (sym c.typed-typed.ensures) ∙ sym c.keeps.ensures ∙ c.if-not-keeps.false) c.loop-left.invariant.kept;
    }
