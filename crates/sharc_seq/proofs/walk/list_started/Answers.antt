use Rattle.sharc_seq.proofs.{Imports.{◌≡◌, ℕ, ◌<◌, ◌++◌, ◌∷◌, [], List, Option, None, length, get_or, sym, ap, ◌∙◌, arith, is_some, ThreadView, any_default}, Choosing.{up_to_yes, up_to_no}, walk.list_started.Goals.{then-is_some+in_ok-push, else-is_some}}
use Rattle.sharc_seq.proofs.walk.list_started.Goals as goal

pub loop-number-preserved : goal.loop-number-preserved
loop-number-preserved c =
    let seats : List (Option ThreadView) = c.args.table.now.seats.items in
    let p = λ (t : ℕ). is_some (get_or seats t None) in
    let n = c.loop-number.number in
    let x : Option ThreadView = c.index.result.now in
    let low : n < length seats = omega (arith, c.loop-number-test.true, c.len-number-end.ensures) in
    let told : c.is_some.result ≡ p n = c.is_some.ensures ∙ ap is_some (c.index.ensures ∙ any_default seats n x None low) in
    elim c.if-is_some.branch [
      | then-is_some+in_ok-push w ↦
          ap (λ v. v.items) w.started-is ∙ w.in_ok-push.ensures.items ∙ ap (λ (ys : List ℕ). ys ++ n ∷ []) c.loop-number.invariant ∙ sym (up_to_yes p n (sym told ∙ w.if-is_some.true))
      | else-is_some w ↦ ap (λ v. v.items) w.started-is ∙ c.loop-number.invariant ∙ sym (up_to_no p n (sym told ∙ w.if-is_some.false))
    ]
