use Rattle.sharc_ctype.proofs.{Imports.{◌≡◌, ap, refl, sym, ◌∙◌, length, arith, Some, None, slice_get_read, option_copied, declared_at, place_of}, DeclaredLemmas.{place_within, found_at, none_at}}
use Rattle.sharc_ctype.proofs.declared.Declared.find.Goals as goal

pub index-requires : goal.index-requires
index-requires c =
    let list = c.self.inside.list.items in
    let is : place_of list c.args.token ≡ Some c.in-Some.place.now = sym (c.self.invariant c.args.token) ∙ sym c.get.ensures.value ∙ ap option_copied c.in-Some.is in
    let within = place_within list c.args.token c.in-Some.place.now is in
    omega arith

pub returns-in-None : goal.returns-in-None
returns-in-None c =
    let list = c.self.inside.list.items in
    let is : place_of list c.args.token ≡ None = sym (c.self.invariant c.args.token) ∙ sym c.get.ensures.value ∙ ap option_copied c.in-None.is in
    none_at list c.args.token is ∙ ap (λ l. declared_at l c.args.token) c.self.view_is

pub returns-in-Some : goal.returns-in-Some
returns-in-Some c =
    let list = c.self.inside.list.items in
    let token = c.args.token in
    let place = c.in-Some.place.now in
    let is : place_of list token ≡ Some place = sym (c.self.invariant token) ∙ sym c.get.ensures.value ∙ ap option_copied c.in-Some.is in
    found_at list token place c.index.result.now is (slice_get_read list (length list) place c.index.result.now refl (place_within list token place is) c.index.ensures) ∙ ap (λ l. declared_at l token) c.self.view_is
