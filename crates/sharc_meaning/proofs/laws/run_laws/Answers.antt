use Rattle.sharc_meaning.proofs.{Extending.{runs_grow, runs_grow_with, runs_start}, Last.last_asked, Obeying.obeying_prefixes, Running.{run_prefixes, run_prefixes_with}}
use Rattle.sharc_meaning.proofs.laws.run_laws.Goals as goal

pub returns : goal.returns
returns c = record {
  prefixes = run_prefixes;
  prefixes_with = run_prefixes_with;
  obeying = obeying_prefixes;
  grow = runs_grow;
  start = runs_start;
  grow_with = runs_grow_with;
  last_asked = last_asked;
}
