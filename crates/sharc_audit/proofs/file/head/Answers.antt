use Rattle.sharc_audit.proofs.{Imports.{◌≡◌, ◌<◌, ◌-◌, ℕ, length, take, arith, refl, sym, ◌∙◌, eqb-true, both_ways, eq-eqb}, Filing.{heading_next, heading_end, heading_bad, heading_found}, file.head.Goals.{then-n-gt1+in-None, else-n-gt1}}
use Rattle.sharc_audit.proofs.file.head.Goals as goal

some : (n : ℕ) → (n ≡ 0 → ⊥) → 0 < n
some n h = omega (arith, h)

pub returns-in-None-number-clause-bad : goal.returns-in-None-number-clause-bad
returns-in-None-number-clause-bad c = heading_bad c.args.bytes.now c.loop-rest.rest.now c.loop-rest.n c.next_line.result.0.now c.next_line.result.1.now c.in-Some.header.now c.loop-rest.invariant.passed c.next_line.ensures c.if-n-gt1.true c.in-Some.ensures c.in-None-number.ensures

pub returns-in-Some-number-clause-found : goal.returns-in-Some-number-clause-found
returns-in-Some-number-clause-found c =
    let there : 0 < length c.loop-rest.rest.now = some (length c.loop-rest.rest.now) (λ z. both_ways _ c.loop-rest-test.true (c.is_empty.ensures ∙ eq-eqb (length c.loop-rest.rest.now) 0 z)) in
    heading_found c.args.bytes.now c.loop-rest.rest.now c.loop-rest.n c.next_line.result.0.now c.next_line.result.1.now c.in-Some.header.now (take (length c.args.bytes.now - length c.loop-rest.rest.now - 1) c.args.bytes.now) c.in-Some-number.fuel c.loop-rest.invariant.passed there c.next_line.ensures c.if-n-gt1.true c.in-Some.ensures c.in-Some-number.ensures refl c.loop-rest.invariant.room

pub loop-rest-preserved : goal.loop-rest-preserved
loop-rest-preserved c =
    let shorter = c.next_line.ensures.shorter in
    let before = c.loop-rest.invariant.room in
    elim c.if-n-gt1.branch [
      | then-n-gt1+in-None w ↦ record { passed = heading_next c.args.bytes.now c.loop-rest.rest.now c.loop-rest.n c.next_line.result.0.now c.next_line.result.1.now c.loop-rest.invariant.passed c.next_line.ensures (λ more. w.in-None.ensures); room = omega (arith, shorter, before) }
      | else-n-gt1 w ↦ record { passed = heading_next c.args.bytes.now c.loop-rest.rest.now c.loop-rest.n c.next_line.result.0.now c.next_line.result.1.now c.loop-rest.invariant.passed c.next_line.ensures (λ more. let least = w.if-n-gt1.false in absurd (omega (arith, least, more))); room = omega (arith, shorter, before) }
    ]

pub returns-clause-bad : goal.returns-clause-bad
returns-clause-bad c = heading_end c.args.bytes.now c.loop-rest.rest.now c.loop-rest.n c.loop-rest.invariant.passed (eqb-true (length c.loop-rest.rest.now) 0 (sym c.is_empty.ensures ∙ c.loop-rest-test.false))
