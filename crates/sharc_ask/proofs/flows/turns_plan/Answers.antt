use Rattle.sharc_ask.proofs.{Imports.{◌≡◌, ◌-◌, sym, ap, ◌∙◌, then_on, done_test, view_state, test, flow, test_in, gives, tested_done}, Flowing.{turns_none, turns_begin}}
use Rattle.sharc_ask.proofs.flows.turns_plan.Goals as goal

pub returns-then-number-eq0-clause-means : goal.returns-then-number-eq0-clause-means
returns-then-number-eq0-clause-means c = λ on_call m. turns_none on_call m c.args.l c.args.number (view_state c.args.st.now) c.if-number-eq0.true

pub returns-clause-means : goal.returns-clause-means
returns-clause-means c = λ on_call m s is.
    record {
      state = s;
      is = turns_begin on_call m c.args.l c.args.number s c.if-number-eq0.false ∙ ap (λ o. then_on (gives test (done_test on_call m o) s) (λ v. gives flow (tested_done on_call m c.args.l (c.args.number - 1) (test_in v)))) (sym c.test_of.ensures);
      looks = is;
    }
