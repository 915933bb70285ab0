use Rattle.sharc_live.proofs.{Imports.{◌≡◌, ◌∙◌, sym, ap, subst, map, [], view_items, Program, functions_in, Assignment, AddsAll, AreWarnings, warning_at}, Warned.are_warnings}
use Rattle.sharc_live.proofs.warnings.nulled_uses.Goals as goal

pub returns : goal.returns
returns c =
    let r = c.typed-typed.result.now in
    let found = c.in_ok-found.found.items in
    let firsts = c.in_ok-found-2.found.items in
    let typed : r ≡ c.args.checked.now.typed = c.typed-typed.ensures ∙ ap (λ (m : Assignment). m.typed) c.moded.ensures.moded in
    let items : view_items c.as_slice.result.now ≡ r.program.items = ap view_items c.as_slice.ensures ∙ ap (λ (p : Program). p.items) c.program.ensures.program in
    let adds : AddsAll r (functions_in r.program.items) [] found = subst (λ l. AddsAll r (functions_in l) [] found) items c.in_ok-found.ensures in
    let list : c.of.result ≡ map (warning_at r) firsts = c.of.ensures ∙ c.in_ok-list.ensures ∙ ap (map (warning_at r)) c.as_slice-2.ensures.value in
    subst (λ s. AreWarnings s c.of.result) typed (subst (AreWarnings r) (sym list) (are_warnings r found firsts adds c.in_ok-found-2.ensures))
