use Rattle.sharc_ctype.proofs.{Imports.{◌≡◌, ap, sym, ◌∙◌, Some, None, slice_get, option_copied, option_and_then, view_program, view_items, Resolution, struct_at, structs_in}, LimitLemmas.found_is_few, PlaceLemmas.to_struct}
use Rattle.sharc_ctype.proofs.typed.Typed.struct_at.Goals as goal

pub returns-in-None-clause-definition : goal.returns-in-None-clause-definition
returns-in-None-clause-definition c =
    let items = c.self.inside.program.items in
    let places = c.deref.result.now in
    to_struct items places c.args.number None (c.deref.ensures.value ∙ c.self.invariant.1.structs)
    (sym (ap option_copied c.in-None.is) ∙ c.item_at.ensures ∙ ap (λ l. option_and_then (slice_get l) (slice_get places c.args.number)) c.as_slice-items.ensures)
    ∙ ap (λ (r : Resolution). struct_at r c.args.number) c.self.view_is

pub returns-in-Some : goal.returns-in-Some
returns-in-Some c =
    let items = c.self.inside.program.items in
    let places = c.deref.result.now in
    let is : option_copied c.as_struct.result ≡ slice_get (structs_in (view_items items)) c.args.number =
    c.as_struct.ensures
    ∙ to_struct items places c.args.number (Some c.in-Some.item.now) (c.deref.ensures.value ∙ c.self.invariant.1.structs)
    (sym (ap option_copied c.in-Some.is) ∙ c.item_at.ensures ∙ ap (λ l. option_and_then (slice_get l) (slice_get places c.args.number)) c.as_slice-items.ensures) in
    record {
      definition = is ∙ ap (λ (r : Resolution). struct_at r c.args.number) c.self.view_is;
      few = found_is_few (view_program c.self.inside.program) c.self.invariant.0.typed c.args.number c.as_struct.result is;
    }
