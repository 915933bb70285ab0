use Rattle.sharc_ask.proofs.{Imports.{view_expr, view_arguments, Expr, view_call, call, index, field, ◌≡◌, length, arith, refl, ap, sym, ◌∙◌, Known, view_state, gives, number, inside, Named, named_at, cell_at, eval, place_of, named_value, place_value, index_place, field_place}, Expressing.{identifier_is, place_is}, Outs.same_plans}
use Rattle.sharc_ask.proofs.expressions.eval_plan.Goals as goal

pub returns-in-Identifier-clause-means : goal.returns-in-Identifier-clause-means
returns-in-Identifier-clause-means c = λ on_call.
    let m = c.args.program.now in
    let w = c.in-Identifier in
    let e = view_expr c.args.expr.now in
    let run = named_value m.typed (cell_at m e) w.name.site (named_at m.typed w.name.site.token) in
    same_plans on_call m (view_state c.args.st.now) (view_state c.named_value.new.st) c.done_number.result (inside (gives number (eval on_call m e))) (gives number run) (λ s is. identifier_is on_call m e w.field-0 w.name (ap view_expr w.is) s) (c.done_number.ensures.means on_call m (view_state c.args.st.now) (view_state c.named_value.new.st) run c.named_value.ensures.does)

pub call_plan-requires : goal.call_plan-requires
call_plan-requires c =
    let w = c.in-Call in
    record {
      form = view_call c.args.expr.now w.span w.name w.all w.is
          ∙ ap (λ l. call w.span w.name (view_arguments l)) (sym c.as_slice.ensures.value);
    }

pub returns-in-Index-clause-means : goal.returns-in-Index-clause-means
returns-in-Index-clause-means c = λ on_call s is.
    let m = c.args.program.now in
    let w = c.in-Index in
    let a = view_expr c.deref-in-Index.result.now in
    let i = view_expr c.deref-in-Index-2.result.now in
    let same : view_expr c.args.expr.now ≡ index w.span a i =
    ap view_expr w.is ∙ ap (λ (z : Expr). index w.span (view_expr z) (view_expr w.i.value)) (sym c.deref-in-Index.ensures) ∙ ap (λ (z : Expr). index w.span a (view_expr z)) (sym c.deref-in-Index-2.ensures) in
    let many : length s.frame.temporaries ≡ c.len-mark.result = ap (λ (z : Known). length z.temporaries) is ∙ omega (arith, c.len-mark.ensures) in
    record {
      state = s;
      is = place_is on_call m (view_expr c.args.expr.now) (index w.span a i) (index_place m.typed w.span.first a (place_of on_call m w.span.first a) (eval on_call m a) (eval on_call m i)) c.len-mark.result same s refl many;
      looks = is;
    }

pub returns-in-Field-clause-means : goal.returns-in-Field-clause-means
returns-in-Field-clause-means c = λ on_call s is.
    let m = c.args.program.now in
    let w = c.in-Field in
    let a = view_expr c.deref-in-Field.result.now in
    let same : view_expr c.args.expr.now ≡ field w.span a w.access w.name = ap view_expr w.is ∙ ap (λ (z : Expr). field w.span (view_expr z) w.access w.name) (sym c.deref-in-Field.ensures) in
    let of_p = λ (n : Named). field_place m.typed w.span.first a w.access n (place_of on_call m w.span.first a) (eval on_call m a) in
    let many : length s.frame.temporaries ≡ c.len-mark.result = ap (λ (z : Known). length z.temporaries) is ∙ omega (arith, c.len-mark.ensures) in
    record {
      state = s;
      is = place_is on_call m (view_expr c.args.expr.now) (field w.span a w.access w.name) (of_p c.named.result) c.len-mark.result same s (ap (λ (n : Named). gives number (place_value m (field w.span a w.access w.name) (of_p n)) s) (sym c.named.ensures)) many;
      looks = is;
    }
