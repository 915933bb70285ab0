use Rattle.sharc_ctype.proofs.{Imports.{◌≡◌, ap, ◌∙◌, length, arith, view_items, Resolution, globals_in}, PlaceLemmas.global_places_counted}
use Rattle.sharc_ctype.proofs.typed.Typed.global_count.Goals as goal

pub returns : goal.returns
returns c =
    let items = view_items c.self.inside.program.items in
    let kept = ap length c.self.invariant.1.globals in
    let each = global_places_counted items in
    let counted : c.len.result ≡ length (globals_in items) = omega arith in
    counted ∙ ap (λ (r : Resolution). length (globals_in r.program.items)) c.self.view_is
