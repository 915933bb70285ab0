use Rattle.sharc_guard.proofs.{Imports.{ap, sym, ◌∙◌, is_one, notes_of, of_register, with_number}, Noting.number_noted}
use Rattle.sharc_guard.proofs.marks.Knowledge.note_number.Goals as goal

pub returns-in_ok-insert-in-Some : goal.returns-in_ok-insert-in-Some
returns-in_ok-insert-in-Some c =
    let s = notes_of c.args.self.now in
    number_noted s (of_register c.insert.new.self.entries) c.in-Some.register c.args.time c.args.number c.in_ok-insert-in-Some.ensures.updates.0
    ∙ ap (λ q. with_number (is_one q) c.args.number c.args.time s) (sym c.in-Some.is)
