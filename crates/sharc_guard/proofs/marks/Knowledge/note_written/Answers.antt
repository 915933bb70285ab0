use Rattle.sharc_guard.proofs.{Imports.{◌≡◌, ◌∙◌, ap, sym, ◌==◌, notes_of, is_written, with_written}, Noting.{both_written, on_ok}}
use Rattle.sharc_guard.proofs.marks.Knowledge.note_written.Goals as goal

pub returns-in_ok-note_one-in-Two : goal.returns-in_ok-note_one-in-Two
returns-in_ok-note_one-in-Two c =
    on_ok (notes_of c.note_one-in-Two-2.new.self ≡ with_written (λ k. k == c.in-Two.other) c.args.time (notes_of c.note_one-in-Two.new.self))
    (notes_of c.note_one-in-Two-2.new.self ≡ with_written (is_written c.args.registers) c.args.time (notes_of c.args.self.now)) c.note_one-in-Two-2.result
    (λ e. e ∙ ap (with_written (λ k. k == c.in-Two.other) c.args.time) c.in_ok-note_one-in-Two.ensures ∙ both_written (notes_of c.args.self.now) c.in-Two.register c.in-Two.other c.args.time
    ∙ ap (λ w. with_written (is_written w) c.args.time (notes_of c.args.self.now)) (sym c.in-Two.is))
    c.note_one-in-Two-2.ensures
