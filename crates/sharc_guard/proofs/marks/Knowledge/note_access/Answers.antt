use Rattle.sharc_guard.proofs.{Imports.{◌≡◌, ◌∙◌, ap, sym, cond, place_of, notes_of, know_of, with_access, with_noted, with_place}, Noting.{noted_same, on_ok}}
use Rattle.sharc_guard.proofs.marks.Knowledge.note_access.Goals as goal

pub returns-then-access : goal.returns-then-access
returns-then-access c =
    let s = notes_of c.args.self.now in
    let a = c.in-Some.access in
    on_ok (notes_of c.note_check.new.self ≡ with_noted a.kind c.place-place.result c.args.time s) (notes_of c.note_check.new.self ≡ with_access c.args.access c.args.time s) c.note_check.result
    (λ e. e ∙ ap (λ q. with_noted a.kind q c.args.time s) c.place-place.ensures ∙ noted_same a.kind (place_of (know_of s) a.cell) c.args.time s
    ∙ ap (λ z. cond z (with_place a.kind (place_of (know_of s) a.cell) c.args.time s) s) (sym c.if-access.true) ∙ ap (λ q. with_access q c.args.time s) (sym c.in-Some.is))
    c.note_check.ensures
