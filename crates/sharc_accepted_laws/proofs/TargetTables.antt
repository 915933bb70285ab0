-- The globals of code with the tables of a program.
use Rattle.sharc_accepted_laws.proofs.{Imports.{◌*◌, ap, sym, ◌∙◌, subst, arith, slice_index, MeetsGlobals, global_field, Initial, GlobalsHold, targets_of}, Beginning.globals_begin, Laying.globals_end}

pub globals_hold : MeetsGlobals → GlobalsHold
globals_hold meets m typed counted code tables few fit words = record {
  fields = globals_end m ∙ ap (λ n. 2 * n) (sym tables.granules);
  few = few;
  low = λ g is. let low = fit.low g is in omega (arith, low);
  high = λ g is. fit.high g is;
  apart = λ g h less is. fit.apart g h less is;
  words = words;
  initial = λ j. subst (λ l. Initial (global_field (targets_of m) j).holds (slice_index l j)) (sym tables.initial) (globals_begin meets m typed counted j);
}
