use Rattle.sharc_traced.proofs.lines.spawn_act.Goals as goal

pub returns-in-None : goal.returns-in-None
returns-in-None c = λ h. c.in-None.ensures h.0.0 h.0.1
