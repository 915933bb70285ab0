use Rattle.std.proofs.{Common.{◌≡◌, ap, sym, ◌∙◌, to_z, w64, arith}, lemmas.Int.ints}
use Rattle.std.specs.Prelude.{ℤ, pos}
use Rattle.sharc_judge.specs.declared.topics.Topic.TheVariants as topic
use Rattle.sharc_judge.specs.Latest.{latest_about}
use Rattle.sharc_judge.proofs.{Latest.event_of, Storing.spawn_is}
use Rattle.sharc_judge.proofs.past.Past.spawn_of.Goals as goal

pub returns-in-None : goal.returns-in-None
returns-in-None c =
    let same : to_z w64 c.args.thread ≡ pos c.args.thread = (let f = c.ranges.thread in omega (arith, ints, f)) in
    ap event_of (sym c.in-None.is ∙ c.latest.ensures ∙ ap (λ (v : ℤ). latest_about (topic.Spawn v) c.args.self.now) same) ∙ spawn_is c.args.thread c.args.self.now c.requires

pub returns-in-Some : goal.returns-in-Some
returns-in-Some c =
    let same : to_z w64 c.args.thread ≡ pos c.args.thread = (let f = c.ranges.thread in omega (arith, ints, f)) in
    ap event_of (sym c.in-Some.is ∙ c.latest.ensures ∙ ap (λ (v : ℤ). latest_about (topic.Spawn v) c.args.self.now) same) ∙ spawn_is c.args.thread c.args.self.now c.requires
