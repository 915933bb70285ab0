use Rattle.std.proofs.Common.{◌≡◌, refl, sym, subst, ◌∙◌}
use Rattle.sharc_tree.specs.declared.event.Object.{Object}
use Rattle.sharc_meaning.specs.Obeys.{is_owner}
use Rattle.sharc_judge.specs.Deciding.{meets_latest}
use Rattle.sharc_judge.specs.declared.history.Test.TheVariants as test
use Rattle.sharc_judge.proofs.rule.is_owner.Goals as goal

pub returns-in-Made : goal.returns-in-Made
returns-in-Made c = c.meets_latest.ensures ∙ subst (λ (o : Object). meets_latest (test.IsOf c.args.thread) (test.Begins o) c.args.before.now ≡ is_owner c.args.before.now o c.args.thread) (sym c.in-Made.is) refl
