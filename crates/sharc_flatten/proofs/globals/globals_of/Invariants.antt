use Rattle.sharc_flatten.proofs.Imports.{◌≡◌, ◌+◌, ◌++◌, drop, globals_in, globals_from, globals_of, all_granules, all_first_words}
use Rattle.sharc_flatten.proofs.globals.globals_of.Given as goal

abbrev pub invariant-loop-number : goal.invariant-loop-number
invariant-loop-number l = record {
  list : l.all.list.items ++ globals_from l.t (l.all.granules + 1) (drop l.number (globals_in l.t.program.items)) ≡ globals_of l.t;
  granules : l.all.granules + all_granules l.t (drop l.number (globals_in l.t.program.items)) ≡ all_granules l.t (globals_in l.t.program.items);
  initial : l.all.initial.items ++ all_first_words l.t (drop l.number (globals_in l.t.program.items)) ≡ all_first_words l.t (globals_in l.t.program.items);
}
