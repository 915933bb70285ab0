use Rattle.sharc_mode.proofs.{Imports.{◌≡◌, ◌+◌, ◌<◌, ◌≤◌, length, subst, ap, sym, ◌∙◌, arith, rules, Some, false, nat_eq, pointed, position_count, Targets, modes_of, same, same_all, view_row, view_sharing}, ShownLemmas.{alike, second_ends, deeper_ends}, shown.same_rows.Goals.{then-loop-a-test+else-b-gt0, else-loop-a-test}}
use Rattle.sharc_mode.proofs.shown.same_rows.Goals as goal

pub loop-a-preserved : goal.loop-a-preserved
loop-a-preserved c =
    let m = c.args.program.now in
    let limit = position_count m.typed in
    let whole = c.position_count-all.ensures.whole.modes in
    let a = view_row c.loop-a.a in
    let b = view_row c.loop-a.b in
    let first = c.loop-a.invariant.first in
    let second = c.loop-a.invariant.second in
    let ends_a : a.first + a.count ≤ length m.modes = omega (arith, first, whole) in
    let ends_b : b.first + b.count ≤ length m.modes = omega (arith, second, whole) in
    record {
      first = subst (λ (r : Targets). r.first + r.count ≤ limit) (sym c.deeper-a.ensures) (deeper_ends limit a first);
      second = subst (λ (r : Targets). r.first + r.count ≤ limit) (sym c.deeper-b.ensures) (deeper_ends limit b second);
      same = alike m a b (view_row c.deeper-a.result) (view_row c.deeper-b.result) (same_all m.typed (modes_of m (view_row c.args.a)) (modes_of m (view_row c.args.b)))
          c.loop-a-test.true c.if-b-gt0.true ends_a ends_b
          (ap (λ s. same m.typed s (pointed m (Some b))) (sym c.pointed.ensures) ∙ ap (λ s. same m.typed (view_sharing c.pointed.result) s) (sym c.pointed-in-loop-a.ensures)
          ∙ ap (λ r. same r (view_sharing c.pointed.result) (view_sharing c.pointed-in-loop-a.result)) (sym c.typed-t.ensures) ∙ sym c.same.ensures ∙ c.if-not-same.false)
          c.deeper-a.ensures c.deeper-b.ensures c.loop-a.invariant.same;
    }

pub returns-else-a-eq0 : goal.returns-else-a-eq0
returns-else-a-eq0 c =
    let m = c.args.program.now in
    let whole = c.position_count-all.ensures.whole.modes in
    let a = view_row c.loop-a.a in
    let b = view_row c.loop-a.b in
    let first = c.loop-a.invariant.first in
    let none : b.count ≡ 0 = elim c.loop-a-test.branch [ then-loop-a-test+else-b-gt0 w ↦ omega (arith, w.if-b-gt0.false) | else-loop-a-test w ↦ absurd (omega (arith, w.loop-a-test.false, c.if-a-eq0.false)) ] in
    let some : 0 < a.count = omega (arith, c.if-a-eq0.false) in
    let ends_a : a.first + a.count ≤ length m.modes = omega (arith, first, whole) in
    let no : nat_eq c.loop-a.a.count 0 ≡ false = search rules in
    no ∙ sym (second_ends m a b some ends_a none) ∙ c.loop-a.invariant.same
