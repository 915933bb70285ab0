-- What the machine looks at of flat code that was made.
use Rattle.sharc_flat.specs.{declared.flat.Flat.{Flat as FlatCode}, Machine.Flat}

abbrev pub flat_of : FlatCode → Flat
flat_of f = record {
  lines = f.lines.items;
  told = f.told.items;
  functions = f.functions.items;
  globals = f.globals.items;
}
