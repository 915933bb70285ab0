use Rattle.sharc_ask.proofs.{Imports.{view_state, gives, number, malloc, view_expr, view_option, view_sharing, right_value}, Outs.entered_plans}
use Rattle.sharc_ask.proofs.statements.begin_malloc.Goals as goal

pub returns-clause-means : goal.returns-clause-means
returns-clause-means c = λ on_call kind.
    let run = gives number (right_value on_call c.args.program.now kind (view_sharing c.args.target) (malloc c.args.span (view_option view_expr c.args.count.now) c.args.written.now)) in
    entered_plans on_call c.args.program.now (view_state c.args.st.now) (view_state c.enter.new.st) (view_state c.counted.new.st) c.in_ok-enter.field-0 c.counted.result run c.in_ok-enter.ensures.does (c.counted.ensures.means on_call kind)
