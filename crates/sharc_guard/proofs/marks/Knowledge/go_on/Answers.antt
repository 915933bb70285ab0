use Rattle.sharc_guard.proofs.{Imports.{◌≡◌, ◌+◌, ◌∙◌, ap, know_next, notes_of, know_of, is_one, with_access, with_copy, with_number, AreBefore}, Noting.{next_known, next_before, on_ok}}
use Rattle.sharc_guard.proofs.marks.Knowledge.go_on.Goals as goal

pub returns-clause-known : goal.returns-clause-known
returns-clause-known c =
    let t = c.args.time in
    let s = notes_of c.args.self.now in
    on_ok (notes_of c.note_number.new.self ≡ with_number (is_one c.written_integer.result) c.number_given-number.result t (notes_of c.note_copy.new.self))
    (know_of (notes_of c.note_number.new.self) ≡ know_next c.args.op (know_of s)) c.note_number.result
    (λ e. next_known c.args.op t s (notes_of c.note_access.new.self) (notes_of c.note_written.new.self) (notes_of c.note_copy.new.self) (notes_of c.note_number.new.self)
    c.written_references.result c.written_integer.result c.number_given-number.result c.requires.before
    (c.in_ok-note_access.ensures ∙ ap (λ q. with_access q t s) c.access.ensures) c.in_ok-note_written.ensures (c.in_ok-note_copy.ensures ∙ ap (λ q. with_copy q t (notes_of c.note_written.new.self)) c.copy_made.ensures) e
    c.written_references.ensures c.written_integer.ensures c.number_given-number.ensures)
    c.note_number.ensures

pub returns-clause-before : goal.returns-clause-before
returns-clause-before c =
    let t = c.args.time in
    let s = notes_of c.args.self.now in
    on_ok (notes_of c.note_number.new.self ≡ with_number (is_one c.written_integer.result) c.number_given-number.result t (notes_of c.note_copy.new.self))
    (AreBefore (t + 1) (notes_of c.note_number.new.self)) c.note_number.result
    (λ e. next_before c.args.op t s (notes_of c.note_access.new.self) (notes_of c.note_written.new.self) (notes_of c.note_copy.new.self) (notes_of c.note_number.new.self)
    c.written_references.result c.written_integer.result c.number_given-number.result c.requires.before
    (c.in_ok-note_access.ensures ∙ ap (λ q. with_access q t s) c.access.ensures) c.in_ok-note_written.ensures (c.in_ok-note_copy.ensures ∙ ap (λ q. with_copy q t (notes_of c.note_written.new.self)) c.copy_made.ensures) e
    c.written_references.ensures c.written_integer.ensures c.number_given-number.ensures)
    c.note_number.ensures
