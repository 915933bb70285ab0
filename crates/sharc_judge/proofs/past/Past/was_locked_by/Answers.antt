use Rattle.std.proofs.Common.{ap, sym, ◌∙◌}
use Rattle.std.specs.Prelude.{◌==◌}
use Rattle.sharc_judge.specs.{declared.keys.CellKey.CellKey, Latest.latest_about}
use Rattle.sharc_judge.specs.declared.topics.Topic.TheVariants as topic
use Rattle.sharc_judge.proofs.Storing.{meets_noted, locked_by_is}
use Rattle.sharc_judge.proofs.past.Past.was_locked_by.Goals as goal

pub returns-in-None : goal.returns-in-None
returns-in-None c =
    ap (meets_noted (λ e. e.thread == c.args.thread)) (sym c.in-None.is ∙ c.latest.ensures ∙ ap (λ (k : CellKey). latest_about (topic.Lock k) c.args.self.now) c.cell_key.ensures)
    ∙ locked_by_is c.args.cell c.args.thread c.args.self.now

pub returns-in-Some : goal.returns-in-Some
returns-in-Some c =
    ap (meets_noted (λ e. e.thread == c.args.thread)) (sym c.in-Some.is ∙ c.latest.ensures ∙ ap (λ (k : CellKey). latest_about (topic.Lock k) c.args.self.now) c.cell_key.ensures)
    ∙ locked_by_is c.args.cell c.args.thread c.args.self.now
