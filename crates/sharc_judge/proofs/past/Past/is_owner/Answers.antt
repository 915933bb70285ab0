use Rattle.std.proofs.Common.{ap, sym, ◌∙◌}
use Rattle.std.specs.Prelude.{◌==◌}
use Rattle.sharc_tree.specs.declared.event.Object.{Object}
use Rattle.sharc_meaning.specs.Obeys.{is_owner}
use Rattle.sharc_judge.proofs.Storing.{meets_noted, owner_is}
use Rattle.sharc_judge.proofs.past.Past.is_owner.Goals as goal

pub returns-in-None : goal.returns-in-None
returns-in-None c =
    ap (meets_noted (λ e. e.thread == c.args.thread)) (sym c.in-None.is ∙ c.latest.ensures)
    ∙ owner_is c.in-Made.n c.args.thread c.args.self.now
    ∙ ap (λ (o : Object). is_owner c.args.self.now o c.args.thread) (sym c.in-Made.is)

pub returns-in-Some : goal.returns-in-Some
returns-in-Some c =
    ap (meets_noted (λ e. e.thread == c.args.thread)) (sym c.in-Some.is ∙ c.latest.ensures)
    ∙ owner_is c.in-Made.n c.args.thread c.args.self.now
    ∙ ap (λ (o : Object). is_owner c.args.self.now o c.args.thread) (sym c.in-Made.is)
