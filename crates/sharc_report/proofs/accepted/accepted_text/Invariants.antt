use Rattle.sharc_report.proofs.Imports.{◌≡◌, ◌++◌, drop, flat_map, warning_line}
use Rattle.sharc_report.proofs.accepted.accepted_text.Given as goal

abbrev pub invariant-loop-warning : goal.invariant-loop-warning
invariant-loop-warning l = l.text.items ++ flat_map (warning_line l.program.typed) (drop l.warning-index l.warnings) ≡ flat_map (warning_line l.program.typed) l.warnings
