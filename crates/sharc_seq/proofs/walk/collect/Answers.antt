use Rattle.sharc_seq.proofs.{Imports.{◌≡◌, ℕ, ◌<◌, ◌++◌, ◌∷◌, [], List, Option, None, length, filter, get_or, sym, ap, ◌∙◌, subst, arith, ThreadView, may_turn_at, any_default}, Choosing.{firsts, firsts_all, filter_yes, filter_no}, walk.collect.Goals.{then-may_turn_at+in_ok-push, else-may_turn_at}}
use Rattle.sharc_seq.proofs.walk.collect.Goals as goal

pub loop-index-preserved : goal.loop-index-preserved
loop-index-preserved c =
    let seats : List (Option ThreadView) = c.args.table.now.seats.items in
    let p = λ (t : ℕ). may_turn_at c.args.words.now c.args.limit (get_or seats t None) in
    let xs : List ℕ = c.args.started.now.items in
    let n = c.loop-index.index in
    let number : ℕ = c.index-number.result.now in
    let x : Option ThreadView = c.index.result.now in
    let low : n < length xs = omega (arith, c.loop-index-test.true, c.len-index-end.ensures) in
    let e : number ≡ get_or xs n 0 = c.index-number.ensures ∙ any_default xs n number 0 low in
    let within : number < length seats = subst (λ k. k < length seats) (sym e) (c.requires.within n low) in
    let told : c.may_turn_at.result ≡ p number = c.may_turn_at.ensures ∙ ap (may_turn_at c.args.words.now c.args.limit) (c.index.ensures ∙ any_default seats number x None within) in
    elim c.if-may_turn_at.branch [
      | then-may_turn_at+in_ok-push w ↦
          ap (λ v. v.items) w.among-is ∙ w.in_ok-push.ensures.items ∙ ap (λ (ys : List ℕ). ys ++ number ∷ []) c.loop-index.invariant ∙ ap (λ k. filter p (firsts n xs) ++ k ∷ []) e
          ∙ sym (filter_yes p xs n 0 low (ap p (sym e) ∙ sym told ∙ w.if-may_turn_at.true))
      | else-may_turn_at w ↦ ap (λ v. v.items) w.among-is ∙ c.loop-index.invariant ∙ sym (filter_no p xs n 0 low (ap p (sym e) ∙ sym told ∙ w.if-may_turn_at.false))
    ]

pub returns : goal.returns
returns c =
    let p = λ (t : ℕ). may_turn_at c.args.words.now c.args.limit (get_or c.args.table.now.seats.items t None) in
    c.loop-index.invariant ∙ ap (filter p) (firsts_all c.args.started.now.items c.loop-index.index (omega (arith, c.loop-index-test.false, c.len-index-end.ensures)))
