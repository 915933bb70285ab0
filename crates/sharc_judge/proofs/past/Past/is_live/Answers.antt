use Rattle.std.proofs.Common.{ap, sym, ◌∙◌}
use Rattle.sharc_tree.specs.declared.event.Object.TheVariants.{Made}
use Rattle.sharc_meaning.specs.{Events.makes, Store.is_live}
use Rattle.sharc_judge.proofs.Storing.{meets_noted, live_is}
use Rattle.sharc_judge.proofs.past.Past.is_live.Goals as goal

pub returns-in-None : goal.returns-in-None
returns-in-None c =
    ap (meets_noted (makes (Made c.in-Made.n))) (sym c.in-None.is ∙ c.latest.ensures)
    ∙ live_is c.in-Made.n c.args.self.now
    ∙ ap (is_live c.args.self.now) (sym c.in-Made.is)

pub returns-in-Some : goal.returns-in-Some
returns-in-Some c =
    c.makes.ensures
    ∙ ap (meets_noted (makes (Made c.in-Made.n))) (sym c.in-Some.is ∙ c.latest.ensures)
    ∙ live_is c.in-Made.n c.args.self.now
    ∙ ap (is_live c.args.self.now) (sym c.in-Made.is)
