use Rattle.std.proofs.Common.{◌≡◌, ◌≤◌, length, take}
use Rattle.sharc_traced.specs.Writing.{AreLinesOf}
use Rattle.sharc_traced.proofs.cut.lines_of.Given as goal

abbrev pub invariant-loop-i : goal.invariant-loop-i
invariant-loop-i l = record {
  are : AreLinesOf l.typed l.lines.items (take l.i l.events);
  count : length l.lines.items ≡ l.i;
  few : l.i ≤ 4096;
}
