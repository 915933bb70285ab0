use Rattle.sharc_compile_laws.proofs.laws.typed_threads_tell.Goals as goal

pub returns : goal.returns
returns c = λ m p flat made fits code is. c.threads_tell.ensures m (c.typed_suits.ensures m p.resolved p.placed p.low p.least p.well_moded) flat made fits code is
