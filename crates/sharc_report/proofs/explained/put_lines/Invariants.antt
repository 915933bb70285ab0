use Rattle.sharc_report.proofs.Imports.{◌≡◌, ◌++◌, reason_lines}
use Rattle.sharc_report.proofs.explained.put_lines.Given as goal

abbrev pub invariant-loop-i : goal.invariant-loop-i
invariant-loop-i l = l.text.items ≡ l.fn.text.items ++ reason_lines l.program l.n l.i
