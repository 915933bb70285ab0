use Rattle.sharc_guard.proofs.{Imports.{notes_of, of_register}, Noting.written_noted}
use Rattle.sharc_guard.proofs.marks.Knowledge.note_one.Goals as goal

pub returns : goal.returns
returns c = written_noted (notes_of c.args.self.now) (of_register c.insert.new.self.entries) c.args.register c.args.time c.in_ok-insert.ensures.updates.0
