use Rattle.sharc_infer.proofs.{Imports.{◌≡◌, length, ap, sym, ◌∙◌, subst, arith, All, IsWithin, Link, flow_of, AreInferred, IsLeastAssignment, links_of, position_count, ArePlacesOf, AreModesOf, AreReasonsOf}, AssignLemmas.{count, root_count, least}}
use Rattle.sharc_infer.proofs.answer.assignment.Goals as goal

pub places-requires : goal.places-requires
places-requires c =
    let r = c.args.typed.now in
    let counted = c.link_laws.ensures.counted r in
    let settled = c.in_ok-settled.settled.items in
    let roots = c.in_ok-roots.roots.items in
    ap length c.deref-2.ensures.value
    ∙ root_count r c.args.reached.now c.requires settled c.in_ok-settled.ensures counted roots c.in_ok-roots.ensures
    ∙ sym (count r c.args.reached.now c.requires settled c.in_ok-settled.ensures counted roots c.in_ok-roots.ensures)
    ∙ ap length (sym c.deref.ensures.value)

pub least_assignment-requires-clause-few_places : goal.least_assignment-requires-clause-few_places
least_assignment-requires-clause-few_places c =
    let r = c.args.typed.now in
    let counted = c.link_laws.ensures.counted r in
    let size = count r c.args.reached.now c.requires c.in_ok-settled.settled.items c.in_ok-settled.ensures counted c.in_ok-roots.roots.items c.in_ok-roots.ensures in
    let places = ap length c.deref-3.ensures.value ∙ c.in_ok-places.ensures.size ∙ ap length c.deref.ensures.value ∙ size in
    let all = c.position_count-all.ensures in
    let few = c.position_count-all.type_inv in
    omega arith

pub least_assignment-requires-clause-within : goal.least_assignment-requires-clause-within
least_assignment-requires-clause-within c =
    let r = c.args.typed.now in
    let counted = c.link_laws.ensures.counted r in
    let size = count r c.args.reached.now c.requires c.in_ok-settled.settled.items c.in_ok-settled.ensures counted c.in_ok-roots.roots.items c.in_ok-roots.ensures in
    let places : length c.deref-3.result.now ≡ position_count r = ap length c.deref-3.ensures.value ∙ c.in_ok-places.ensures.size ∙ ap length c.deref.ensures.value ∙ size in
    let links = c.deref-4.ensures.value ∙ c.in_ok-links.ensures in
    subst (λ n. All (λ (link : Link). IsWithin n link.edge) c.deref-4.result.now) (sym places)
    (subst (All (λ (link : Link). IsWithin (position_count r) link.edge)) (sym links) (c.link_laws.ensures.within r))

pub reasons-requires-clause-roots : goal.reasons-requires-clause-roots
reasons-requires-clause-roots c =
    let r = c.args.typed.now in
    let counted = c.link_laws.ensures.counted r in
    let settled = c.in_ok-settled.settled.items in
    let roots = c.in_ok-roots.roots.items in
    ap length c.deref-9.ensures.value
    ∙ root_count r c.args.reached.now c.requires settled c.in_ok-settled.ensures counted roots c.in_ok-roots.ensures
    ∙ sym (count r c.args.reached.now c.requires settled c.in_ok-settled.ensures counted roots c.in_ok-roots.ensures)
    ∙ ap length (sym c.deref-7.ensures.value)

pub returns : goal.returns
returns c =
    let r = c.args.typed.now in
    let counted = c.link_laws.ensures.counted r in
    let settled = c.in_ok-settled.settled.items in
    let roots = c.in_ok-roots.roots.items in
    let places = c.in_ok-places.places.items in
    let findings = c.in_ok-findings.findings.items in
    let modes = c.in_ok-modes.modes.items in
    let reasons = c.in_ok-reasons.reasons.items in
    let places_are : ArePlacesOf settled roots places =
    subst (λ s. ArePlacesOf s roots places) c.deref.ensures.value (subst (λ l. ArePlacesOf c.deref.result.now l places) c.deref-2.ensures.value c.in_ok-places.ensures) in
    let inferred : AreInferred (flow_of places (links_of r)) findings =
    subst (λ p. AreInferred (flow_of p (links_of r)) findings) c.deref-3.ensures.value
    (subst (λ l. AreInferred (flow_of c.deref-3.result.now l) findings) (c.deref-4.ensures.value ∙ c.in_ok-links.ensures) c.in_ok-findings.ensures) in
    let modes_are : AreModesOf settled findings modes =
    subst (λ s. AreModesOf s findings modes) c.deref-5.ensures.value (subst (λ f. AreModesOf c.deref-5.result.now f modes) c.deref-6.ensures.value c.in_ok-modes.ensures) in
    let reasons_are : AreReasonsOf settled findings roots reasons =
    subst (λ s. AreReasonsOf s findings roots reasons) c.deref-7.ensures.value
    (subst (λ f. AreReasonsOf c.deref-7.result.now f roots reasons) c.deref-8.ensures.value
    (subst (λ l. AreReasonsOf c.deref-7.result.now c.deref-8.result.now l reasons) c.deref-9.ensures.value c.in_ok-reasons.ensures)) in
    let made = least r c.args.reached.now c.requires settled c.in_ok-settled.ensures counted roots c.in_ok-roots.ensures places places_are findings inferred modes modes_are reasons reasons_are in
    subst (λ m. IsLeastAssignment (record { typed = r; modes = m; reasons = c.of-2.result })) (sym c.of.ensures)
    (subst (λ l. IsLeastAssignment (record { typed = r; modes = modes; reasons = l })) (sym c.of-2.ensures) made)
