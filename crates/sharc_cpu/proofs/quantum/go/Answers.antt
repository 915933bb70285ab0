use Rattle.sharc_cpu.proofs.{Imports.{◌≡◌, ℕ, ◌+◌, ◌-◌, refl, sym, ap, ◌∙◌, subst, arith, Runs, may_go, machine_of, Advanced}, Advancing.advance_on}
use Rattle.sharc_cpu.proofs.quantum.go.Goals as goal

pub loop-turn-preserved : goal.loop-turn-preserved
loop-turn-preserved g c =
    let first : Type 0 = g.P.Port.serves c.args.port.now c.args.parts.now.number in
    let runs : c.stretch-more.result.at.state ≡ Runs = c.runs.ensures.yes c.if-not-runs.false in
    let a = advance_on g.P.Port.leads c.args.code.now c.args.shape first (g.P.Port.serves c.loop-turn.port c.loop-turn.parts.number) (machine_of c.args.start c.args.parts.now) (machine_of c.loop-turn.at c.loop-turn.parts) (machine_of c.stretch-more.result.at c.stretch-more.new.parts) (g.P.Port.place c.args.port.now) (g.P.Port.place c.loop-turn.port) (g.P.Port.place c.stretch-more.new.port) c.args.turns c.loop-turn.turn c.loop-turn.turn (c.args.turns - c.loop-turn.turn) c.stretch-more.result.turns c.stretch-more.result.made c.args.turns
    (λ h. subst (g.P.Port.serves c.loop-turn.port) (sym c.loop-turn.invariant.advanced.number) (c.loop-turn.invariant.port.served _ h)) refl (omega (arith, c.loop-turn-test.true, c.stretch-more.ensures.advanced.few)) c.loop-turn.invariant.advanced c.stretch-more.ensures.advanced in
    record {
      advanced = subst (λ (n : ℕ). Advanced first g.P.Port.leads c.args.code.now c.args.shape (machine_of c.args.start c.args.parts.now) (machine_of c.stretch-more.result.at c.stretch-more.new.parts) (g.P.Port.place c.args.port.now) (g.P.Port.place c.stretch-more.new.port) c.args.turns (c.loop-turn.turn + c.stretch-more.result.turns) n) (ap (λ (n : ℕ). c.loop-turn.turn + n) (c.stretch-more.ensures.advanced.runs runs)) a;
      may = ap may_go runs;
      capacity = c.stretch-more.ensures.kept.room ∙ c.loop-turn.invariant.capacity;
      port = record {
        words = c.stretch-more.ensures.kept.port.words ∙ c.loop-turn.invariant.port.words;
        same = c.stretch-more.ensures.kept.port.same ∙ c.loop-turn.invariant.port.same;
        served = λ thread h. c.stretch-more.ensures.kept.port.served thread (c.loop-turn.invariant.port.served thread h);
      };
    }

pub returns-then-not-runs-clause-goes : goal.returns-then-not-runs-clause-goes
returns-then-not-runs-clause-goes g c =
    let first : Type 0 = g.P.Port.serves c.args.port.now c.args.parts.now.number in
    let a = advance_on g.P.Port.leads c.args.code.now c.args.shape first (g.P.Port.serves c.loop-turn.port c.loop-turn.parts.number) (machine_of c.args.start c.args.parts.now) (machine_of c.loop-turn.at c.loop-turn.parts) (machine_of c.stretch-more.result.at c.stretch-more.new.parts) (g.P.Port.place c.args.port.now) (g.P.Port.place c.loop-turn.port) (g.P.Port.place c.stretch-more.new.port) c.args.turns c.loop-turn.turn c.loop-turn.turn (c.args.turns - c.loop-turn.turn) c.stretch-more.result.turns c.stretch-more.result.made c.args.turns
    (λ h. subst (g.P.Port.serves c.loop-turn.port) (sym c.loop-turn.invariant.advanced.number) (c.loop-turn.invariant.port.served _ h)) refl (omega (arith, c.loop-turn-test.true, c.stretch-more.ensures.advanced.few)) c.loop-turn.invariant.advanced c.stretch-more.ensures.advanced in
    a.goes

pub returns-then-not-runs-clause-within : goal.returns-then-not-runs-clause-within
returns-then-not-runs-clause-within g c = c.stretch-more.ensures.advanced.within

pub returns-then-not-runs-clause-prints : goal.returns-then-not-runs-clause-prints
returns-then-not-runs-clause-prints g c = omega (arith, c.loop-turn.invariant.advanced.prints, c.stretch-more.ensures.advanced.prints)
