use Rattle.sharc_report.proofs.Imports.{◌≡◌, ◌++◌, drop, check_text}
use Rattle.sharc_report.proofs.refused.check_text.Given as goal

abbrev pub invariant-loop-error : goal.invariant-loop-error
invariant-loop-error l = l.text.items ++ check_text l.program.typed (drop l.error-index l.errors) l.left ≡ check_text l.program.typed l.errors l.casts
