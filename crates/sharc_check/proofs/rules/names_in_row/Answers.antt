use Rattle.sharc_check.proofs.{Imports.{◌++◌, ap, ◌∙◌, modes_of, view_row, view_sharing, names_in, names_in_all}, RowLemmas.{step_on, said_one}}
use Rattle.sharc_check.proofs.rules.names_in_row.Goals as goal

pub loop-left-preserved : goal.loop-left-preserved
loop-left-preserved c =
    let m = c.args.program.now in
    let row = view_row c.loop-left.left in
    let next = view_row c.deeper-left.result in
    let s = view_sharing c.pointed.result in
    let step = step_on c.row_laws.ensures m row next s c.position_count-all.ensures.whole.modes c.loop-left-test.true c.loop-left.invariant.ends c.pointed.ensures c.deeper-left.ensures in
    let f = names_in m.typed in
    record {
      ends = step.0;
      said = said_one f (modes_of m row) (modes_of m next) s c.loop-left.notes.items c.name_in.new.notes.items (c.args.notes.now.items ++ names_in_all m.typed (modes_of m (view_row c.args.row))) step.1
          (c.in_ok-name_in.ensures ∙ ap (λ r. c.loop-left.notes.items ++ names_in r s) c.typed-typed.ensures) c.loop-left.invariant.said;
    }
