use Rattle.std.proofs.Common.{◌≡◌, ℕ, ◌+◌, ◌==◌, [], ◌∷◌, ◌++◌, length, Some, ap, sym, ◌∙◌}
use Rattle.std.specs.{Prelude.{List, if◌then◌else◌}, List.list_any}
use Rattle.sharc_meaning.specs.Events.{events_of}
use Rattle.sharc_judge.specs.{declared.topics.Topic.Topic, Latest.latest_about, Reads.{with_read, reads_of}, Topics.{same_topic, is_about, found}}
use Rattle.sharc_judge.proofs.{Latest.latest_more, Counting.count_more, Reading.reads_more}
use Rattle.sharc_judge.proofs.past.Past.with.Goals as goal

pub invariant_of-result : goal.invariant_of-result
invariant_of-result c =
    let R = c.self.inside.events.items in
    let e = c.args.event in
    let grown : c.push.new.self.items ≡ R ++ e ∷ [] = c.in_ok-push.ensures.items in
    let place : c.len.result ≡ length R = c.len.ensures ∙ c.self.inside.events.ok.0 in
    let about = c.as_slice.ensures.value ∙ c.in_ok-topics.ensures in
    record {
      topics = λ t.
          c.in_ok-note.ensures t
          ∙ ap (λ (l : List Topic). if list_any (λ x. same_topic x t) l then Some (record { place = c.len.result; event = e }) else found c.self.inside.table t) about
          ∙ ap (λ z. if is_about t e then Some (record { place = c.len.result; event = e }) else z) (c.self.invariant.topics t)
          ∙ ap (λ (n : ℕ). if is_about t e then Some (record { place = n; event = e }) else latest_about t R) place
          ∙ sym (latest_more (is_about t) R e)
          ∙ ap (latest_about t) (sym grown);
      reads_are = λ q.
          c.in_ok-note_read.ensures q
          ∙ ap (with_read q (record { place = c.len.result; event = e })) (c.self.invariant.reads_are q)
          ∙ ap (λ (n : ℕ). with_read q (record { place = n; event = e }) (reads_of q R)) place
          ∙ sym (reads_more q R e)
          ∙ ap (reads_of q) (sym grown);
      count = λ t.
          c.in_ok-add_one.ensures t
          ∙ ap (λ n. if e.thread == t then n + 1 else n) (c.self.invariant.count t)
          ∙ sym (count_more t R e)
          ∙ ap (λ z. length (events_of t z)) (sym grown);
    }
