-- What a table has of one granule.
use Rattle.std.specs.Prelude.{◌||◌, Bool, Option, Some, None, is_some}
use Rattle.sharc_heap.specs.{declared.shadow_word.Kind.Kind, declared.shadow_word.Kind.TheVariants.{Read, Write}}
use Rattle.sharc_heap.specs.{declared.access_table.Note.Note, declared.access_table.GranuleNotes.GranuleNotes}

-- nothing is noted
abbrev pub blank : GranuleNotes
blank = record { read = None; write = None }

-- the last note of this kind
abbrev pub of_kind : Kind → GranuleNotes → Option Note
of_kind Read row = row.read
of_kind Write row = row.write

-- the same with this note of the kind
abbrev pub with_note : Kind → Note → GranuleNotes → GranuleNotes
with_note Read note row = record { read = Some note; write = row.write }
with_note Write note row = record { read = row.read; write = Some note }

-- there is a note of either kind
abbrev pub has_note : GranuleNotes → Bool
has_note row = is_some row.read || is_some row.write
