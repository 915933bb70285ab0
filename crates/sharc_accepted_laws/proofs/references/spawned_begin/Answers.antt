use Rattle.sharc_accepted_laws.proofs.StaticStarts as starts
use Rattle.sharc_accepted_laws.proofs.references.spawned_begin.Goals as goal

pub returns : goal.returns
returns c = starts.spawned_begin c.row_laws.ensures c.numbers_found.ensures c.variables_found.ensures c.spawns_threads.ensures c.rules_are_met.ensures c.all_fair.ensures c.each_names_itself.ensures
