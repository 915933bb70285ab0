use Rattle.std.proofs.{Common.{◌≡◌, true, ap, sym, subst, ◌∙◌, to_z, of_z, w64}, lemmas.Int.to_z-of_z}
use Rattle.std.specs.Prelude.{ℤ, pos, int_lt, is_some}
use Rattle.sharc_judge.specs.declared.topics.Topic.TheVariants as topic
use Rattle.sharc_judge.specs.Latest.{latest_about}
use Rattle.sharc_judge.proofs.Storing.{new_thread}
use Rattle.sharc_judge.proofs.past.Past.is_new_thread.Goals as goal

pub returns-then-answer-gt0 : goal.returns-then-answer-gt0
returns-then-answer-gt0 c =
    let same : to_z w64 (of_z w64 c.args.answer) ≡ c.args.answer = to_z-of_z w64 c.args.answer c.ranges.answer in
    new_thread c.args.self.now c.args.answer c.is_none.result (subst (λ (v : ℤ). int_lt (pos 0) v ≡ true) same c.if-answer-gt0.true)
    (sym (ap is_some (c.latest.ensures ∙ ap (λ (v : ℤ). latest_about (topic.Spawn v) c.args.self.now) same)) ∙ c.is_none.ensures)
