use Rattle.sharc_audit.proofs.Imports.{◌≡◌, ◌≤◌, ◌-◌, IsWalk}
use Rattle.sharc_audit.proofs.run.walk_to.Given as goal

abbrev pub invariant-walks : goal.invariant-walks
invariant-walks l = record {
  same : l.run ≡ record l.fn.run { walk = l.run.walk };
  walk : IsWalk l.program l.fn.run.function l.fn.run.argument l.fn.run.answers.items l.run.walk;
  within : l.run.walk.fuel ≤ l.fuel;
}

abbrev pub decreases-walks : goal.decreases-walks
decreases-walks l = l.fuel - l.run.walk.fuel
