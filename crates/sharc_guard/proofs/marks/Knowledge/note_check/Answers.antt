use Rattle.sharc_guard.proofs.{Imports.{◌≡◌, ap, sym, ◌∙◌, Some, notes_of, place_from, with_noted, with_place}, Noting.on_ok}
use Rattle.sharc_guard.proofs.marks.Knowledge.note_check.Goals as goal

pub returns-in-Some : goal.returns-in-Some
returns-in-Some c =
    let s = notes_of c.args.self.now in
    on_ok (notes_of c.note_place.new.self ≡ with_place c.args.kind (Some (place_from c.in-Some.place)) c.args.time s) (notes_of c.note_place.new.self ≡ with_noted c.args.kind c.args.place c.args.time s) c.note_place.result
    (λ e. e ∙ ap (λ q. with_noted c.args.kind q c.args.time s) (sym c.in-Some.is))
    c.note_place.ensures
