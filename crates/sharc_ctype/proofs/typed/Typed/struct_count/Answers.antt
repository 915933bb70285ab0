use Rattle.sharc_ctype.proofs.{Imports.{◌≡◌, ap, ◌∙◌, length, arith, view_items, Resolution, structs_in}, PlaceLemmas.struct_places_counted}
use Rattle.sharc_ctype.proofs.typed.Typed.struct_count.Goals as goal

pub returns : goal.returns
returns c =
    let items = view_items c.self.inside.program.items in
    let kept = ap length c.self.invariant.1.structs in
    let each = struct_places_counted items in
    let counted : c.len.result ≡ length (structs_in items) = omega arith in
    counted ∙ ap (λ (r : Resolution). length (structs_in r.program.items)) c.self.view_is
