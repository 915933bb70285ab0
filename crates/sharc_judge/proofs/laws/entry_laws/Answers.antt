use Rattle.sharc_judge.proofs.{Entries.{entry_found, right_by_entry}, Mains.one_main}
use Rattle.sharc_judge.proofs.laws.entry_laws.Goals as goal

pub returns : goal.returns
returns c r resolved = record {
  found = λ R legal thread f v before after. entry_found r (one_main c.one_function_of_name.ensures r resolved) R legal thread f v before after;
  right = λ R thread f v. right_by_entry r R thread f v;
}
