use Rattle.sharc_ask.proofs.{Imports.{subst, view_state, Does}, Outs.above_goes}
use Rattle.sharc_ask.proofs.parts.end_step.Goals as goal

pub returns-in-Ok-clause-does : goal.returns-in-Ok-clause-does
returns-in-Ok-clause-does c = λ before run h. above_goes before (view_state c.args.st.now) (view_state c.end_temporaries.new.st) c.in_ok-answer.field-0 run c.args.mark c.in-Ok.ensures.ended (subst (λ a. Does before a (view_state c.args.st.now) run) c.in_ok-answer.was h)
