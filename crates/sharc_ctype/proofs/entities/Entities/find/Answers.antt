use Rattle.sharc_ctype.proofs.{Imports.{◌≡◌, ap, refl, sym, ◌∙◌, length, arith, Some, None, slice_get_read, option_copied, numbered_at, entity_place}, EntityLemmas.{entity_within, entity_found, no_entity}}
use Rattle.sharc_ctype.proofs.entities.Entities.find.Goals as goal

pub index-requires : goal.index-requires
index-requires c =
    let list = c.self.inside.list.items in
    let is : entity_place list c.args.token c.args.last ≡ Some c.in-Some.place.now = sym (c.self.invariant.1 c.args.token c.args.last) ∙ sym c.get.ensures.value ∙ ap option_copied c.in-Some.is in
    let within = entity_within list c.args.token c.args.last c.in-Some.place.now is in
    omega arith

pub returns-in-None : goal.returns-in-None
returns-in-None c =
    let list = c.self.inside.list.items in
    let is : entity_place list c.args.token c.args.last ≡ None = sym (c.self.invariant.1 c.args.token c.args.last) ∙ sym c.get.ensures.value ∙ ap option_copied c.in-None.is in
    no_entity list c.args.token c.args.last c.self.invariant.0.numbers is ∙ ap (λ l. numbered_at l c.args.token c.args.last) c.self.view_is

pub returns-in-Some : goal.returns-in-Some
returns-in-Some c =
    let list = c.self.inside.list.items in
    let token = c.args.token in
    let last = c.args.last in
    let place = c.in-Some.place.now in
    let is : entity_place list token last ≡ Some place = sym (c.self.invariant.1 token last) ∙ sym c.get.ensures.value ∙ ap option_copied c.in-Some.is in
    entity_found list token last place c.index.result.now c.self.invariant.0.numbers is (slice_get_read list (length list) place c.index.result.now refl (entity_within list token last place is) c.index.ensures) ∙ ap (λ l. numbered_at l token last) c.self.view_is
