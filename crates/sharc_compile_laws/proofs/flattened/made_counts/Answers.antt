use Rattle.sharc_compile_laws.proofs.flattened.made_counts.Goals as goal

pub returns : goal.returns
returns c = λ m code is level dropped. c.counted_law.ensures dropped _ level (c.made_locks_stand.ensures m code is)
