use Rattle.sharc_cpu.proofs.{Imports.{◌≡◌, ◌<◌, refl, sym, ◌∙◌, subst, arith, machine_of}, Joined.where_join, Paths.goes_none, Turned.some_turn}
use Rattle.sharc_cpu.proofs.quantum.go_on.Goals as goal

pub tries-init : goal.tries-init
tries-init g c = record {
  goes = goes_none g.P.Port.leads (g.P.Port.serves c.args.port.now c.args.parts.now.number) c.args.code.now c.args.shape (machine_of c.args.start c.args.parts.now) (g.P.Port.place c.args.port.now);
  few = omega arith;
  events = omega arith;
  may = c.requires.may;
  failed = omega arith;
  within = c.requires.shape.within;
  number = refl;
  prints = omega arith;
  capacity = refl;
  port = record { words = refl; same = refl; served = λ thread h. h };
}

pub tries-preserved : goal.tries-preserved
tries-preserved g c =
    let told = c.go-more.ensures in
    let old = c.tries.invariant in
    let left = c.remaining-most.ensures in
    let again = c.tries_again-again.ensures in
    record {
      goes = where_join (g.P.Port.serves c.args.port.now c.args.parts.now.number) (g.P.Port.serves c.tries.port c.tries.parts.number) g.P.Port.leads c.args.code.now c.args.shape (machine_of c.args.start c.args.parts.now) (machine_of c.tries.went.at c.tries.parts) (machine_of c.go-more.result.at c.go-more.new.parts) (g.P.Port.place c.args.port.now) (g.P.Port.place c.tries.port) (g.P.Port.place c.go-more.new.port) c.tries.went.turns c.tries.went.made c.go-more.result.turns c.go-more.result.made (λ h. subst (g.P.Port.serves c.tries.port) (sym old.number) (old.port.served _ h)) old.number old.goes told.goes;
      few = omega (arith, told.few, left.turns);
      events = omega (arith, told.few, told.events, left.events);
      may = again.may c.if-not-again.false;
      failed = again.failed c.if-not-again.false;
      within = told.within;
      number = told.number ∙ old.number;
      prints = omega (arith, told.prints, old.prints);
      capacity = told.capacity ∙ old.capacity;
      port = record {
        words = told.port.words ∙ old.port.words;
        same = told.port.same ∙ old.port.same;
        served = λ thread h. told.port.served thread (old.port.served thread h);
      };
    }

pub returns-then-not-again-clause-goes : goal.returns-then-not-again-clause-goes
returns-then-not-again-clause-goes g c =
    let told = c.go-more.ensures in
    let old = c.tries.invariant in
    where_join (g.P.Port.serves c.args.port.now c.args.parts.now.number) (g.P.Port.serves c.tries.port c.tries.parts.number) g.P.Port.leads c.args.code.now c.args.shape (machine_of c.args.start c.args.parts.now) (machine_of c.tries.went.at c.tries.parts) (machine_of c.go-more.result.at c.go-more.new.parts) (g.P.Port.place c.args.port.now) (g.P.Port.place c.tries.port) (g.P.Port.place c.go-more.new.port) c.tries.went.turns c.tries.went.made c.go-more.result.turns c.go-more.result.made (λ h. subst (g.P.Port.serves c.tries.port) (sym old.number) (old.port.served _ h)) old.number old.goes told.goes

pub returns-then-not-again-clause-all : goal.returns-then-not-again-clause-all
returns-then-not-again-clause-all g c = λ e lt.
    let told = c.go-more.ensures in
    let a = told.all e in
    let b = told.runs e in
    let m = c.remaining-most.ensures.most (omega (arith, a, b, lt)) in
    omega (arith, a, m)

pub returns-then-not-again-clause-none : goal.returns-then-not-again-clause-none
returns-then-not-again-clause-none g c = λ e lt.
    let told = c.go-more.ensures in
    let before : c.tries.went.turns ≡ 0 = omega (arith, e) in
    let none : c.go-more.result.turns ≡ 0 = omega (arith, e) in
    let z = told.none none in
    let m = c.remaining-most.ensures.most (omega (arith, none, told.events, lt, z)) in
    omega (arith, z, m, before)

pub returns-then-not-again-clause-prints : goal.returns-then-not-again-clause-prints
returns-then-not-again-clause-prints g c = omega (arith, c.go-more.ensures.prints, c.tries.invariant.prints)

pub returns-then-not-again-clause-capacity : goal.returns-then-not-again-clause-capacity
returns-then-not-again-clause-capacity g c = c.go-more.ensures.capacity ∙ c.tries.invariant.capacity

pub returns-then-not-again-clause-number : goal.returns-then-not-again-clause-number
returns-then-not-again-clause-number g c = c.go-more.ensures.number ∙ c.tries.invariant.number

pub returns-then-not-again-clause-port : goal.returns-then-not-again-clause-port
returns-then-not-again-clause-port g c = record {
  words = c.go-more.ensures.port.words ∙ c.tries.invariant.port.words;
  same = c.go-more.ensures.port.same ∙ c.tries.invariant.port.same;
  served = λ thread h. c.go-more.ensures.port.served thread (c.tries.invariant.port.served thread h);
}

pub tries-smaller : goal.tries-smaller
tries-smaller g c =
    let told = c.go-more.ensures in
    let left = c.remaining-most.ensures in
    let again = c.tries_again-again.ensures in
    let turns = again.turns c.if-not-again.false in
    let events = again.events c.if-not-again.false in
    let some : 0 < c.go-more.result.turns = some_turn c.go-more.result.turns c.remaining-most.result told.none (left.some (omega (arith, turns)) (omega (arith, events))) in
    omega (arith, told.few, left.turns, turns, some)

pub go-more-requires-clause-shape : goal.go-more-requires-clause-shape
go-more-requires-clause-shape g c = record {
  shape = c.requires.shape.shape;
  within = c.tries.invariant.within;
  words = c.tries.invariant.port.words ∙ c.requires.shape.words;
}

pub go-more-requires-clause-room : goal.go-more-requires-clause-room
go-more-requires-clause-room g c = omega (arith, c.requires.room, c.tries.invariant.prints, c.tries.invariant.capacity, c.remaining-most.ensures.turns)
