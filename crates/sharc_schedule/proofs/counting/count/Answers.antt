use Rattle.sharc_schedule.proofs.{Imports.{◌-◌, ℕ, sym, ap, ◌∙◌, arith, same_at}, Lasts.{add_many, together_some, add_same, add_other, add_first}, counting.count.Goals.{else-n-gt0-via-then-n-gt0+else-index-place, else-n-gt0-via-else-n-gt0}}
use Rattle.sharc_schedule.proofs.counting.count.Goals as goal

pub returns-then-index-place : goal.returns-then-index-place
returns-then-index-place c = λ before is.
    let items = c.args.places.now.items in
    let same = c.index-then-index-place.ensures ∙ (same_at items (c.len-n.result - 1) c.index-then-index-place.result.now c.index.result.now (omega (arith, c.len-n.ensures, c.if-n-gt0.true)) ∙ sym c.index.ensures) in
    add_same items (c.len-n.result - 1) c.args.place c.args.turns c.index-then-index-place.result.now (omega (arith, c.len-n.ensures, c.if-n-gt0.true)) c.index-then-index-place.ensures (ap (λ (y : ℕ × ℕ). y.0) same ∙ c.if-index-place.true)
    ∙ (ap (add_many c.args.place c.args.turns) is ∙ sym (together_some before c.args.turns c.args.place c.requires.some))

pub returns-in_ok-push : goal.returns-in_ok-push
returns-in_ok-push c = λ before is.
    c.in_ok-push.ensures.items
    ∙ ((elim c.else-n-gt0.branch [
      | else-n-gt0-via-then-n-gt0+else-index-place w ↦ add_other c.args.places.now.items (c.len-n.result - 1) c.args.place c.args.turns w.index.result.now (omega (arith, c.len-n.ensures, w.if-n-gt0.true)) w.index.ensures w.if-index-place.false
      | else-n-gt0-via-else-n-gt0 w ↦ add_first c.args.places.now.items c.args.place c.args.turns (omega (arith, c.len-n.ensures, w.if-n-gt0.false))
    ]) ∙ (ap (add_many c.args.place c.args.turns) is ∙ sym (together_some before c.args.turns c.args.place c.requires.some)))
