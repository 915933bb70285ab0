use Rattle.sharc_compile_laws.proofs.Pathing.{told_by_code}
use Rattle.sharc_compile_laws.proofs.laws.typed_paths_tell.Goals as goal

pub returns-clause-paths : goal.returns-clause-paths
returns-clause-paths c = λ m p flat made fits code is s thread elements founds path consistent.
    told_by_code m flat made code is thread _ _ _ _ (c.program_law.ensures m (c.typed_suits.ensures m p.resolved p.placed p.low p.least p.well_moded) flat made fits code is s thread elements founds path consistent)

pub returns-clause-threads : goal.returns-clause-threads
returns-clause-threads c = λ m p flat made fits code is s thread run checked consistent.
    told_by_code m flat made code is thread _ _ _ _ (c.run_law.ensures m (c.typed_suits.ensures m p.resolved p.placed p.low p.least p.well_moded) flat made fits code is s thread run checked consistent)
