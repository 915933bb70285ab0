use Rattle.sharc_schedule.proofs.{Imports.{◌≡◌, ℕ, Bool, refl, sym, ap, ◌∙◌, arith, place_after, is_enabled}, Placing.{one_few, passed, passed_next, place_passed}}
use Rattle.sharc_schedule.proofs.places.place_of.Goals as goal

pub loop-n-init : goal.loop-n-init
loop-n-init c = record { few = omega arith; is = λ code s turns h. refl }

pub loop-n-preserved : goal.loop-n-preserved
loop-n-preserved c = record {
  few = let one = one_few c.may_turn-enabled.result c.one_if-one.result c.one_if-one.ensures in omega (arith, one, c.loop-n.invariant.few);
  is = λ code s turns h.
      passed_next (is_enabled code s c.args.limit (place_after code s turns)) c.loop-n.n c.loop-n.place c.one_if-one.result c.may_turn-enabled.result
      (c.loop-n.invariant.is code s turns h) c.one_if-one.ensures (c.may_turn-enabled.ensures code s turns h);
}

pub returns : goal.returns
returns c = λ code s turns threads h on.
    let f : ℕ → Bool = is_enabled code s c.args.limit (place_after code s turns) in
    let end : c.loop-n.n ≡ c.args.t = omega (arith, c.loop-n-test.false, c.loop-n.auto.n-end) in
    c.loop-n.invariant.is code s turns h ∙ (ap (passed f) end ∙ sym (place_passed f c.args.t s.threads (omega (arith, threads, c.requires.low)) on))
