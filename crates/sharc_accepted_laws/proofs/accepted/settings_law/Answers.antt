use Rattle.sharc_accepted_laws.proofs.Tables as tables
use Rattle.sharc_accepted_laws.proofs.accepted.settings_law.Goals as goal

pub returns : goal.returns
returns c = tables.code_is_set c.some_are_alone.ensures c.targets_are.ensures c.globals_hold.ensures c.made_tables_fit.ensures c.granules_are_few.ensures
