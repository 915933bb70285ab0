use Rattle.sharc_check.proofs.{Imports.{refl, length}, OrderLemmas.{met, refused, none_listed, some_listed}}
use Rattle.sharc_check.proofs.answer.check.Goals as goal

pub invariant_of-result : goal.invariant_of-result
invariant_of-result c = met c.rules_are_met.ensures c.args.program c.in-Ok.errors c.in-Ok.ensures.errors (none_listed c.is_empty.result (length c.in-Ok.errors) c.is_empty.ensures c.if-is_empty.true)

pub returns-then-is_empty : goal.returns-then-is_empty
returns-then-is_empty c = (refl, met c.rules_are_met.ensures c.args.program c.in-Ok.errors c.in-Ok.ensures.errors (none_listed c.is_empty.result (length c.in-Ok.errors) c.is_empty.ensures c.if-is_empty.true))

pub returns-else-is_empty : goal.returns-else-is_empty
returns-else-is_empty c = (
  refl,
  refused c.rules_are_met.ensures c.mode_laws.ensures c.args.program c.in-Ok.errors c.in-Ok.ensures.errors (some_listed c.is_empty.result (length c.in-Ok.errors) c.is_empty.ensures c.if-is_empty.false),
  c.in-Ok.ensures.named,
)
