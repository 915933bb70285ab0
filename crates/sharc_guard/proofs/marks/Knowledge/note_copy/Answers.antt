use Rattle.sharc_guard.proofs.{Imports.{ap, sym, ◌∙◌, notes_of, of_register, with_copy}, Noting.copy_noted}
use Rattle.sharc_guard.proofs.marks.Knowledge.note_copy.Goals as goal

pub returns-in_ok-insert-in-Some : goal.returns-in_ok-insert-in-Some
returns-in_ok-insert-in-Some c =
    let s = notes_of c.args.self.now in
    copy_noted s (of_register c.insert.new.self.entries) c.in-Some.copying c.args.time c.in_ok-insert-in-Some.ensures.updates.0
    ∙ ap (λ q. with_copy q c.args.time s) (sym c.in-Some.is)
