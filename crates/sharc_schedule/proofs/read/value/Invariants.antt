use Rattle.sharc_schedule.proofs.Imports.{◌≡◌, ◌<◌, ◌^◌, drop, digits_value, digits_value_after}
use Rattle.sharc_schedule.proofs.read.value.Given as goal

abbrev pub invariant-loop-i : goal.invariant-loop-i
invariant-loop-i l = record {
  small : l.n < 10 ^ l.i;
  value : digits_value_after 10 l.n (drop l.i l.word) ≡ digits_value 10 l.word;
}
