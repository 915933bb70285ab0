use Rattle.std.proofs.{Common.{◌≡◌, ap, ◌∙◌, to_z, of_z, w64}, lemmas.Int.to_z-of_z}
use Rattle.std.specs.Prelude.{ℤ, is_some}
use Rattle.sharc_judge.specs.declared.topics.Topic.TheVariants as topic
use Rattle.sharc_judge.specs.Latest.{latest_about}
use Rattle.sharc_judge.proofs.Storing.{went_is}
use Rattle.sharc_judge.proofs.past.Past.went.Goals as goal

pub returns : goal.returns
returns c =
    let same : to_z w64 (of_z w64 c.args.thread) ≡ c.args.thread = to_z-of_z w64 c.args.thread c.ranges.thread in
    c.is_some.ensures ∙ ap is_some (c.latest.ensures ∙ ap (λ (v : ℤ). latest_about (topic.Gone v) c.args.self.now) same) ∙ went_is c.args.thread c.args.self.now
