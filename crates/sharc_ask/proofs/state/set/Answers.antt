use Rattle.sharc_ask.proofs.{Imports.{List, ap, ◌∙◌, refl, w64, arith, Variable, with_value, Known, view_state}, Variables.{set_like, set_none}}
use Rattle.std.proofs.lemmas.Int.{to_z-of_z}
use Rattle.sharc_ask.specs.StepView.{place_of}
use Rattle.sharc_ask.proofs.state.set.Goals as goal

pub returns-then-place-len-clause-does : goal.returns-then-place-len-clause-does
returns-then-place-len-clause-does c =
    let f : Known → Known = λ k. record k { variables = with_value k.variables c.args.token c.args.value } in
    let g : List Variable → Known = λ l. record (view_state c.args.st.now) { variables = l } in
    λ s h. record { state = _; is = refl; looks = ap f h ∙ ap g (set_like c.args.st.now.frame.variables.items c.args.token c.place_of-place.result c.args.value _ c.index-old.result.now (c.place_of-place.ensures.place ∙ ap (λ l. place_of l c.args.token) c.as_slice.ensures.value) (omega (arith, c.if-place-len.true, c.len.ensures)) c.index-old.ensures (to_z-of_z w64 c.args.value c.ranges.value)) }

pub returns-else-place-len-clause-does : goal.returns-else-place-len-clause-does
returns-else-place-len-clause-does c =
    let f : Known → Known = λ k. record k { variables = with_value k.variables c.args.token c.args.value } in
    let g : List Variable → Known = λ l. record (view_state c.args.st.now) { variables = l } in
    λ s h. record { state = _; is = refl; looks = ap f h ∙ ap g (set_none c.args.st.now.frame.variables.items c.args.token c.args.value (λ low. let place = c.place_of-place.ensures.place ∙ ap (λ l. place_of l c.args.token) c.as_slice.ensures.value in omega (arith, place, low, c.if-place-len.false, c.len.ensures))) }
