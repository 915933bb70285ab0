use Rattle.sharc_flatten.proofs.{Imports.{◌≡◌, drop}, FirstPlaces.named_from}
use Rattle.sharc_flatten.proofs.lookups.place_of_name.Given as goal

abbrev pub invariant-loop-field : goal.invariant-loop-field
invariant-loop-field l = named_from l.place (drop l.field-index l.fields) l.name ≡ named_from 0 l.fields l.name
