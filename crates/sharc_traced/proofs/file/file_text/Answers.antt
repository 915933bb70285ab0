use Rattle.std.proofs.Common.{◌++◌, List, ℕ, ap, ◌∙◌, append_assoc}
use Rattle.std.specs.Prelude.{codes}
use Rattle.sharc_traced.specs.Writing.{events_text}
use Rattle.sharc_traced.proofs.file.file_text.Goals as goal

pub returns : goal.returns
returns c =
    let events : List ℕ = events_text c.args.typed.now c.args.events.now in
    let head : List ℕ = codes "\n%%events 65536\n" in
    c.in_ok-put_events.ensures
    ∙ ap (λ (t : List ℕ). t ++ events) (c.in_ok-extend_from_slice.ensures.items ∙ ap (λ (t : List ℕ). t ++ head) c.in_ok-text.ensures.items)
    ∙ append_assoc c.args.source.now head events
