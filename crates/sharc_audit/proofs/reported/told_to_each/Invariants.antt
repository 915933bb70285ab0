use Rattle.sharc_audit.proofs.Imports.{◌≡◌, ℕ, take, told_to, told_in}
use Rattle.sharc_audit.proofs.reported.told_to_each.Given as goal

abbrev pub invariant-loop-line : goal.invariant-loop-line
invariant-loop-line l = (t : ℕ) → told_in l.all t ≡ told_to t (take l.line-index l.lines)
