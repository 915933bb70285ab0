use Rattle.sharc_ask.proofs.Imports.{◌≡◌, sym, subst, to_z, of_z, w64, rules, to_z-of_z, ℤ, StorePlace, variable, stored, Run, give, view_expr, declared_kind, private, view_state, view_place, DoesAs, Plans, number_means, ends_above, element_in, element_behind, assigned_to}
use Rattle.sharc_ask.proofs.rests.with_number.Goals as goal

pub returns-in-ArrayElement-clause-means : goal.returns-in-ArrayElement-clause-means
returns-in-ArrayElement-clause-means c = λ on_call.
    let k1 = (view_state c.args.st.now) in
    let fits = c.ranges.x in
    subst (λ z. Plans on_call c.args.program.now (view_state c.args.st.now) c.done_place.result k1 (number_means c.args.program.now z c.args.x)) (sym c.in-ArrayElement.is) (c.done_place.ensures.means on_call c.args.program.now (view_state c.args.st.now) (view_state c.args.st.now) (element_in c.args.program.now.typed c.in-ArrayElement.site (view_expr c.in-ArrayElement.a.now) (view_place c.in-ArrayElement.base) c.args.x) (simp to_z-of_z at c.element_in.ensures))

pub returns-in-PointerElement-clause-means : goal.returns-in-PointerElement-clause-means
returns-in-PointerElement-clause-means c = λ on_call.
    let k = view_state c.args.st.now in
    let fits = c.ranges.x in
    let w = c.in-PointerElement in
    let same : to_z w64 (of_z w64 w.pointer) ≡ w.pointer = search rules in
    let run : ℤ → ℤ → Run StorePlace = λ y z. element_behind c.args.program.now.typed w.site (view_expr w.a.now) y z in
    let done : DoesAs view_place k c.element_behind.result k (run w.pointer c.args.x) = subst (λ z. DoesAs view_place k c.element_behind.result k (run z c.args.x)) same (subst (λ z. DoesAs view_place k c.element_behind.result k (run (to_z w64 (of_z w64 w.pointer)) z)) (to_z-of_z fits) c.element_behind.ensures) in
    subst (λ z. Plans on_call c.args.program.now k c.done_place-in-PointerElement.result k (number_means c.args.program.now z c.args.x)) (sym w.is) (c.done_place-in-PointerElement.ensures.means on_call c.args.program.now k k (run w.pointer c.args.x) done)

pub returns-in-Stored-clause-means : goal.returns-in-Stored-clause-means
returns-in-Stored-clause-means c = λ on_call.
    let fits = c.ranges.x in
    subst (λ z. Plans on_call c.args.program.now (view_state c.args.st.now) c.done_step.result (view_state c.stored_at.new.st) (number_means c.args.program.now z c.args.x)) (sym c.in-Stored.is) (c.done_step.ensures.means on_call c.args.program.now (view_state c.args.st.now) (view_state c.stored_at.new.st) (ends_above c.in-Stored.mark (assigned_to c.args.program.now (view_expr c.in-Stored.e.now) (view_place c.in-Stored.place) (give c.args.x))) (simp to_z-of_z at c.stored_at.ensures.does))

pub returns-in-Initialised-clause-means : goal.returns-in-Initialised-clause-means
returns-in-Initialised-clause-means c = λ on_call.
    let fits = c.ranges.x in
    subst (λ z. Plans on_call c.args.program.now (view_state c.args.st.now) c.done_step-in-Initialised.result (view_state c.initialised.new.st) (number_means c.args.program.now z c.args.x)) (sym c.in-Initialised.is) (let d = c.in-Initialised.declaration.now in c.done_step-in-Initialised.ensures.means on_call c.args.program.now (view_state c.args.st.now) (view_state c.initialised.new.st) (stored c.args.program.now.typed d.name.site (declared_kind d.written) private (variable d.name.site.token) c.args.x) (simp to_z-of_z at c.initialised.ensures.does))
