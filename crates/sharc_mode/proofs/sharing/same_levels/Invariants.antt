use Rattle.sharc_mode.proofs.Imports.{◌≡◌, drop, same_levels}
use Rattle.sharc_mode.proofs.sharing.same_levels.Given as goal

abbrev pub invariant-loop-i : goal.invariant-loop-i
invariant-loop-i l = same_levels l.typed (drop l.i l.a) (drop l.i l.b) ≡ same_levels l.typed l.a l.b
