use Rattle.sharc_ask.proofs.{Imports.{◌≡◌, Ok, sym, ap, ◌∙◌, subst, to_z, of_z, w64, rules, ℤ, view_stmt, view_kind, go, Run, give, Flow, Known, view_state, Does, DoesAs, view_flow, view_otherwise, number_left, flow, number, flow_in, test_in, view_value, gives, Plans, after_means, ends_above, ends_block, others_done, chosen_done, tested_done, left_body, turns_of}, Flowing.ends_then, Stating.out_given}
use Rattle.sharc_ask.proofs.flows.with_after.Goals as goal

pub returns-in-Simple-clause-means : goal.returns-in-Simple-clause-means
returns-in-Simple-clause-means c = λ on_call m s is.
    record { state = s; is = ap (λ z. after_means on_call m z (view_value c.args.value) s) c.in-Simple.is; looks = is }

pub returns-in-Block-clause-means : goal.returns-in-Block-clause-means
returns-in-Block-clause-means c = λ on_call m.
    let k = view_state c.args.st.now in
    let run : Run Flow = give (flow_in (view_value c.args.value)) in
    let went : DoesAs view_flow k (Ok c.flow_in.result) k run = λ s is. record { state = s; is = ap (λ f. go f s) (sym c.flow_in.ensures); looks = is } in
    subst (λ z. Plans on_call m k c.done_flow.result (view_state c.end_block.new.st) (after_means on_call m z (view_value c.args.value))) (sym c.in-Block.is) (c.done_flow.ensures.means on_call m k (view_state c.end_block.new.st) (ends_block c.in-Block.mark run) (c.end_block.ensures.does k run went))

pub returns-in-Listed-clause-means : goal.returns-in-Listed-clause-means
returns-in-Listed-clause-means c = λ on_call m s is.
    let w = c.in-Listed in
    record {
      state = s;
      is = ap (λ z. after_means on_call m z (view_value c.args.value) s) w.is ∙ ap (λ f. gives flow (others_done on_call m (view_kind w.kind) w.rest.now f) s) (sym c.flow_in-in-Listed.ensures) ∙ c.behind_listed.ensures.means on_call m s;
      looks = is;
    }

pub returns-in-Choice-clause-means : goal.returns-in-Choice-clause-means
returns-in-Choice-clause-means c = λ on_call m.
    let w = c.in-Choice in
    subst (λ z. Plans on_call m (view_state c.args.st.now) c.behind_choice.result (view_state c.behind_choice.new.st) (after_means on_call m z (view_value c.args.value))) (sym w.is)
    (subst (λ b. Plans on_call m (view_state c.args.st.now) c.behind_choice.result (view_state c.behind_choice.new.st) (gives flow (chosen_done on_call m (view_kind w.kind) (view_stmt w.body.now) (view_otherwise w.otherwise) b))) c.test_in.ensures (c.behind_choice.ensures.means on_call m))

pub returns-in-Head-clause-means : goal.returns-in-Head-clause-means
returns-in-Head-clause-means c = λ on_call m s is.
    let w = c.in-Head in
    record {
      state = s;
      is = ap (λ z. after_means on_call m z (view_value c.args.value) s) w.is ∙ ap (λ n. gives flow (ends_block w.mark (turns_of on_call m w.l n)) s) (ap (λ (z : Known). z.fuel) is) ∙ ends_then (turns_of on_call m w.l c.args.st.now.fuel) w.mark s;
      looks = is;
    }

pub returns-in-Test-clause-means : goal.returns-in-Test-clause-means
returns-in-Test-clause-means c = λ on_call m.
    let w = c.in-Test in
    subst (λ z. Plans on_call m (view_state c.args.st.now) c.behind_test.result (view_state c.behind_test.new.st) (after_means on_call m z (view_value c.args.value))) (sym w.is)
    (subst (λ b. Plans on_call m (view_state c.args.st.now) c.behind_test.result (view_state c.behind_test.new.st) (gives flow (tested_done on_call m w.l w.number b))) c.test_in-in-Test.ensures (c.behind_test.ensures.means on_call m))

pub returns-in-Body-clause-means : goal.returns-in-Body-clause-means
returns-in-Body-clause-means c = λ on_call m s is.
    let w = c.in-Body in
    record {
      state = s;
      is = ap (λ z. after_means on_call m z (view_value c.args.value) s) w.is ∙ ap (λ f. gives flow (left_body on_call m w.l w.number f) s) (sym c.flow_in-in-Body.ensures) ∙ c.behind_body.ensures.means on_call m s;
      looks = is;
    }

pub returns-in-Step-clause-means : goal.returns-in-Step-clause-means
returns-in-Step-clause-means c = λ on_call m s is.
    let w = c.in-Step in
    record { state = s; is = ap (λ z. after_means on_call m z (view_value c.args.value) s) w.is ∙ out_given (gives flow (turns_of on_call m w.l w.number) s); looks = is }

pub returns-in-Call-clause-means : goal.returns-in-Call-clause-means
returns-in-Call-clause-means c = λ on_call m.
    let k = view_state c.args.st.now in
    let x = number_left (flow_in (view_value c.args.value)) in
    let run : Run ℤ = give x in
    let same : to_z w64 (of_z w64 c.number_left.result) ≡ c.number_left.result = search rules in
    let left : c.number_left.result ≡ x = c.number_left.ensures ∙ ap number_left c.flow_in-in-Call.ensures in
    let went : Does k (Ok (to_z w64 (of_z w64 c.number_left.result))) k run = λ s is. record { state = s; is = ap (λ z. go z s) (sym (same ∙ left)); looks = is } in
    subst (λ z. Plans on_call m k c.done_number.result (view_state c.end_above.new.st) (after_means on_call m z (view_value c.args.value))) (sym c.in-Call.is) (c.done_number.ensures.means on_call m k (view_state c.end_above.new.st) (ends_above c.in-Call.mark run) (c.end_above.ensures.does k run went))
