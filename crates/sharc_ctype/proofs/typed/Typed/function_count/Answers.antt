use Rattle.sharc_ctype.proofs.{Imports.{◌≡◌, ap, ◌∙◌, length, arith, view_items, Resolution, functions_in}, PlaceLemmas.function_places_counted}
use Rattle.sharc_ctype.proofs.typed.Typed.function_count.Goals as goal

pub returns : goal.returns
returns c =
    let items = view_items c.self.inside.program.items in
    let kept = ap length c.self.invariant.1.functions in
    let each = function_places_counted items in
    let counted : c.len.result ≡ length (functions_in items) = omega arith in
    counted ∙ ap (λ (r : Resolution). length (functions_in r.program.items)) c.self.view_is
