use Rattle.std.proofs.Common.{ap, sym, ◌∙◌}
use Rattle.sharc_judge.specs.{declared.keys.GranuleKey.GranuleKey, Latest.latest_about, Reads.against_noted}
use Rattle.sharc_judge.specs.declared.topics.Topic.TheVariants as topic
use Rattle.sharc_judge.proofs.past.Past.against_write.Goals as goal

pub returns-in-None : goal.returns-in-None
returns-in-None c =
    ap (against_noted c.args.thread c.args.a c.args.self.now) (sym c.in-None.is ∙ c.latest.ensures ∙ ap (λ (k : GranuleKey). latest_about (topic.SharedWrite k) c.args.self.now) c.granule_key.ensures)

pub returns-in-Some : goal.returns-in-Some
returns-in-Some c =
    c.is_against.ensures
    ∙ ap (against_noted c.args.thread c.args.a c.args.self.now) (sym c.in-Some.is ∙ c.latest.ensures ∙ ap (λ (k : GranuleKey). latest_about (topic.SharedWrite k) c.args.self.now) c.granule_key.ensures)
