use Rattle.sharc_names.proofs.Imports.{◌≡◌, take}
use Rattle.sharc_names.proofs.fields.Fields.all.Given as goal

abbrev pub invariant-loop-field : goal.invariant-loop-field
invariant-loop-field l = l.table ≡ take l.field-index l.fields
