use Rattle.sharc_report.proofs.refusal.put_unexpected.Goals as goal

pub returns-then-is_empty : goal.returns-then-is_empty
returns-then-is_empty c = rw (← c.if-is_empty.ensures) c.put_two.ensures
