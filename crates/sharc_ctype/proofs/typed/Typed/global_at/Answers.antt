use Rattle.sharc_ctype.proofs.{Imports.{ap, sym, ◌∙◌, Some, None, slice_get, option_copied, option_and_then, Resolution, global_at}, PlaceLemmas.to_global}
use Rattle.sharc_ctype.proofs.typed.Typed.global_at.Goals as goal

pub returns-in-None : goal.returns-in-None
returns-in-None c =
    let items = c.self.inside.program.items in
    let places = c.deref.result.now in
    to_global items places c.args.number None (c.deref.ensures.value ∙ c.self.invariant.1.globals)
    (sym (ap option_copied c.in-None.is) ∙ c.item_at.ensures ∙ ap (λ l. option_and_then (slice_get l) (slice_get places c.args.number)) c.as_slice-items.ensures)
    ∙ ap (λ (r : Resolution). global_at r c.args.number) c.self.view_is

pub returns-in-Some : goal.returns-in-Some
returns-in-Some c =
    let items = c.self.inside.program.items in
    let places = c.deref.result.now in
    c.as_global.ensures
    ∙ to_global items places c.args.number (Some c.in-Some.item.now) (c.deref.ensures.value ∙ c.self.invariant.1.globals)
    (sym (ap option_copied c.in-Some.is) ∙ c.item_at.ensures ∙ ap (λ l. option_and_then (slice_get l) (slice_get places c.args.number)) c.as_slice-items.ensures)
    ∙ ap (λ (r : Resolution). global_at r c.args.number) c.self.view_is
