use Rattle.sharc_ask.proofs.{Imports.{◌≡◌, ap, sym, ◌∙◌, subst, view_expr, view_right, view_kind, kind_at, pointed, row_at, view_sharing, field_place_named, eval, field_in, Run, then_on, give, right_value, lock_call, unlock_call, view_state, view_place, DoesAs, place_fetched, Value, number, number_in, gives, as_nothing, Plans, place_means, ends_above, zero_behind, assigned_to}, Resuming.{array_goes, assigned_goes}}
use Rattle.sharc_ask.proofs.rests.with_place.Goals as goal

pub returns-in-Locks-clause-means : goal.returns-in-Locks-clause-means
returns-in-Locks-clause-means c = λ on_call.
    subst (λ z. Plans on_call c.args.program.now (view_state c.args.st.now) c.done_number.result (view_state c.end_step.new.st) (place_means on_call c.args.program.now (view_expr c.args.expr.now) z (view_place c.args.place))) (sym c.in-Locks.is) (let run = ends_above c.in-Locks.mark (lock_call c.in-Locks.site (view_place c.args.place)) in
    c.done_number.ensures.means on_call c.args.program.now (view_state c.args.st.now) (view_state c.end_step.new.st) (zero_behind run) (c.zero_behind.ensures.does (view_state c.args.st.now) (view_state c.end_step.new.st) run (c.end_step.ensures.does (view_state c.args.st.now) (lock_call c.in-Locks.site (view_place c.args.place)) c.lock_call.ensures.does)))

pub returns-in-Unlocks-clause-means : goal.returns-in-Unlocks-clause-means
returns-in-Unlocks-clause-means c = λ on_call.
    subst (λ z. Plans on_call c.args.program.now (view_state c.args.st.now) c.done_number-in-Unlocks.result (view_state c.end_step-in-Unlocks.new.st) (place_means on_call c.args.program.now (view_expr c.args.expr.now) z (view_place c.args.place))) (sym c.in-Unlocks.is) (let run = ends_above c.in-Unlocks.mark (unlock_call c.in-Unlocks.site (view_place c.args.place)) in
    c.done_number-in-Unlocks.ensures.means on_call c.args.program.now (view_state c.args.st.now) (view_state c.end_step-in-Unlocks.new.st) (zero_behind run) (c.zero_behind-in-Unlocks.ensures.does (view_state c.args.st.now) (view_state c.end_step-in-Unlocks.new.st) run (c.end_step-in-Unlocks.ensures.does (view_state c.args.st.now) (unlock_call c.in-Unlocks.site (view_place c.args.place)) c.unlock_call.ensures.does)))

pub returns-in-Frees-clause-means : goal.returns-in-Frees-clause-means
returns-in-Frees-clause-means c = λ on_call.
    subst (λ z. Plans on_call c.args.program.now (view_state c.args.st.now) c.freed.result (view_state c.freed.new.st) (place_means on_call c.args.program.now (view_expr c.args.expr.now) z (view_place c.args.place))) (sym c.in-Frees.is) (c.freed.ensures.means on_call)

pub returns-in-Casts-clause-means : goal.returns-in-Casts-clause-means
returns-in-Casts-clause-means c = λ on_call.
    subst (λ z. Plans on_call c.args.program.now (view_state c.args.st.now) c.cast.result (view_state c.cast.new.st) (place_means on_call c.args.program.now (view_expr c.args.expr.now) z (view_place c.args.place))) (sym c.in-Casts.is) (c.cast.ensures.means on_call)

pub returns-in-Fetched-clause-means : goal.returns-in-Fetched-clause-means
returns-in-Fetched-clause-means c = λ on_call.
    let m = c.args.program.now in
    subst (λ z. Plans on_call m (view_state c.args.st.now) c.done_number-in-Fetched.result (view_state c.end_above.new.st) (place_means on_call m (view_expr c.args.expr.now) z (view_place c.args.place))) (sym c.in-Fetched.is) (c.done_number-in-Fetched.ensures.means on_call m (view_state c.args.st.now) (view_state c.end_above.new.st) (ends_above c.in-Fetched.mark (place_fetched m (view_expr c.args.expr.now) (view_place c.args.place))) (c.end_above.ensures.does (view_state c.args.st.now) (place_fetched m (view_expr c.args.expr.now) (view_place c.args.place)) c.place_fetched.ensures.does))

pub returns-in-FieldIn-clause-means : goal.returns-in-FieldIn-clause-means
returns-in-FieldIn-clause-means c = λ on_call.
    let m = c.args.program.now in
    let k = view_state c.args.st.now in
    let k1 = k in
    subst (λ z. Plans on_call m k c.done_place.result k1 (place_means on_call m (view_expr c.args.expr.now) z (view_place c.args.place))) (sym c.in-FieldIn.is) (let same : c.field_place_named.result ≡ field_place_named m.typed c.in-FieldIn.named = c.field_place_named.ensures ∙ ap (λ z. field_place_named z c.in-FieldIn.named) c.typed.ensures in
    c.done_place.ensures.means on_call m k k (give (field_in (field_place_named m.typed c.in-FieldIn.named) (view_place c.args.place))) (subst (λ n. DoesAs view_place k c.field_in.result k (give (field_in n (view_place c.args.place)))) same c.field_in.ensures))

pub returns-in-ArrayBase-clause-means : goal.returns-in-ArrayBase-clause-means
returns-in-ArrayBase-clause-means c = λ on_call s is.
    record {
      state = s;
      is = ap (λ z. place_means on_call c.args.program.now (view_expr c.args.expr.now) z (view_place c.args.place) s) c.in-ArrayBase.is ∙ array_goes c.args.program.now.typed c.in-ArrayBase.site (view_expr c.args.expr.now) (eval on_call c.args.program.now (view_expr c.in-ArrayBase.index.now)) (view_place c.args.place) s;
      looks = is;
    }

pub returns-in-Assigned-clause-means : goal.returns-in-Assigned-clause-means
returns-in-Assigned-clause-means c = λ on_call s is.
    let m = c.args.program.now in
    let e = view_expr c.args.expr.now in
    let rest : Value → Run Value = λ v. gives as_nothing (ends_above c.in-Assigned.mark (assigned_to m e (view_place c.args.place) (give (number_in v)))) in
    let target : view_sharing c.pointed.result ≡ pointed m (row_at m.typed e) = c.pointed.ensures ∙ ap (pointed m) (c.row_of.ensures.row ∙ ap (λ z. row_at z e) c.typed-in-Assigned.ensures) in
    record {
      state = s;
      is =
          ap (λ z. place_means on_call m e z (view_place c.args.place) s) c.in-Assigned.is
          ∙ assigned_goes m e (view_place c.args.place) (right_value on_call m (kind_at m.typed e) (pointed m (row_at m.typed e)) (view_right c.in-Assigned.right.now)) c.in-Assigned.mark s
          ∙ ap (λ z. then_on (gives number (right_value on_call m z (pointed m (row_at m.typed e)) (view_right c.in-Assigned.right.now)) s) rest) (sym c.kind_of.ensures)
          ∙ ap (λ z. then_on (gives number (right_value on_call m (view_kind c.kind_of.result) z (view_right c.in-Assigned.right.now)) s) rest) (sym target);
      looks = is;
    }
