use Rattle.sharc_schedule.proofs.{Imports.{sym, ◌∙◌, lines_in, FilesSayOneThing}, PlaceLines.ok_is, SourceLines.{reads, reads_all, faults}, Few.few, Written.again}
use Rattle.sharc_schedule.proofs.files.file_laws.Goals as goal

one_thing : FilesSayOneThing
one_thing bytes one other is was = ok_is one other (sym (reads_all (lines_in bytes) one is) ∙ reads_all (lines_in bytes) other was)

pub returns : goal.returns
returns c = record { reads = reads; all = reads_all; faults = faults; one = one_thing; again = again; few = few }
