use Rattle.sharc_ask.proofs.{Imports.{view_simple, view_local, view_first, ap, ◌∙◌, Ok, suc, view_state, gives, as_nothing, done_first, done_simple, declared}, Outs.entered_plans, Stating.out_given}
use Rattle.sharc_ask.proofs.statements.begin_first.Goals as goal

pub returns-in_ok-enter-in-Declares-clause-means : goal.returns-in_ok-enter-in-Declares-clause-means
returns-in_ok-enter-in-Declares-clause-means c = λ on_call m.
    let run = gives as_nothing (done_first on_call m (view_first c.args.first.now)) in
    entered_plans on_call m (view_state c.args.st.now) (view_state c.enter.new.st) (view_state c.enter.new.st) c.in_ok-enter-in-Declares.field-0 (Ok _) run c.in_ok-enter-in-Declares.ensures.does (λ s is. record {
      state = s;
      is = ap (λ x. gives as_nothing (done_first on_call m (view_first x)) (record s { fuel = suc s.fuel })) c.in-Declares.is ∙ out_given (gives as_nothing (declared on_call m (view_local c.in-Declares.local)) s);
      looks = is;
    })

pub returns-in-Does-clause-means : goal.returns-in-Does-clause-means
returns-in-Does-clause-means c = λ on_call m s is. record {
  state = s;
  is = ap (λ x. gives as_nothing (done_first on_call m (view_first x)) s) c.in-Does.is ∙ out_given (gives as_nothing (done_simple on_call m (view_simple c.in-Does.simple)) s);
  looks = is;
}
