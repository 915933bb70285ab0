use Rattle.std.proofs.Common.{ap, sym, ◌∙◌}
use Rattle.sharc_meaning.specs.Events.{locks}
use Rattle.sharc_judge.specs.{declared.keys.CellKey.CellKey, Latest.latest_about}
use Rattle.sharc_judge.specs.declared.topics.Topic.TheVariants as topic
use Rattle.sharc_judge.proofs.{Storing.meets_noted, Holding.held_is}
use Rattle.sharc_judge.proofs.past.Past.is_held.Goals as goal

pub returns-in-None : goal.returns-in-None
returns-in-None c =
    ap (meets_noted (locks c.args.mutex)) (sym c.in-None.is ∙ c.latest.ensures ∙ ap (λ (k : CellKey). latest_about (topic.Hold c.args.thread k) c.args.self.now) c.cell_key.ensures)
    ∙ held_is c.args.mutex c.args.thread c.args.self.now

pub returns-in-Some : goal.returns-in-Some
returns-in-Some c =
    c.locks.ensures ∙ ap (meets_noted (locks c.args.mutex)) (sym c.in-Some.is ∙ c.latest.ensures ∙ ap (λ (k : CellKey). latest_about (topic.Hold c.args.thread k) c.args.self.now) c.cell_key.ensures)
    ∙ held_is c.args.mutex c.args.thread c.args.self.now
