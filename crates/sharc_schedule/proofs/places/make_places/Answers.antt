use Rattle.sharc_schedule.proofs.{Imports.{◌≡◌, ◌<◌, [], ◌++◌, List, length, refl, ap, ◌∙◌, subst, arith, THREADS, WordEvent, Turn, Followed, thread_at, scheduled_turns, places_of, counted_together}, Making.{all_made, journal_low}, Stepping.{stepped, once_more}}
use Rattle.sharc_schedule.proofs.places.make_places.Goals as goal

pub loop-i-init : goal.loop-i-init
loop-i-init c = record {
  turns = [];
  goes = record { stands = c.in_ok-new.ensures; counts = tt; few = λ t. omega arith; places_are = c.new-2.ensures.items };
  by_journal = refl;
}

pub overflow_cast-t : goal.overflow_cast-t
overflow_cast-t c =
    let journal : List WordEvent = c.args.journal.now in
    let j = c.requires.run in
    let within : c.loop-i.i < length journal = omega (arith, c.loop-i-test.true) in
    let low : thread_at journal c.loop-i.i < THREADS = journal_low c.run_laws.ensures c.thread_laws.ensures c.args.code.now c.args.shape.now c.args.limit journal j.0 j.1 c.loop-i.i within in
    omega (arith, low)

pub reach-requires-clause-low : goal.reach-requires-clause-low
reach-requires-clause-low c =
    let journal : List WordEvent = c.args.journal.now in
    let j = c.requires.run in
    let within : c.loop-i.i < length journal = omega (arith, c.loop-i-test.true) in
    journal_low c.run_laws.ensures c.thread_laws.ensures c.args.code.now c.args.shape.now c.args.limit journal j.0 j.1 c.loop-i.i within

pub loop-i-preserved : goal.loop-i-preserved
loop-i-preserved c =
    let code = c.args.code.now in
    let s = c.args.shape.now in
    let h = c.loop-i.invariant in
    let r = c.in_ok-reach.ensures h.turns h.goes in
    record {
      turns = r.more ++ h.turns;
      goes = r.goes;
      by_journal = once_more code s c.args.limit (thread_at c.args.journal.now) [] h.turns (r.more ++ h.turns) c.loop-i.i h.by_journal (stepped code s c.args.limit _ (thread_at c.args.journal.now c.loop-i.i) h.turns c.reach.new.self refl r);
    }

pub loop-t-init : goal.loop-t-init
loop-t-init c =
    let h = c.loop-i.invariant in
    let all : c.loop-i.i ≡ length c.args.journal.now = omega (arith, c.loop-i-test.false, c.loop-i.auto.i-end) in
    record {
      turns = h.turns;
      goes = h.goes;
      firm = h.turns;
      run = h.goes.stands.run;
      counts = h.goes.counts;
      by_journal = subst (λ k. Followed c.args.code.now c.args.shape.now c.args.limit (thread_at c.args.journal.now) [] k h.turns) all h.by_journal;
      by_number = refl;
    }

pub loop-t-preserved : goal.loop-t-preserved
loop-t-preserved c =
    let code = c.args.code.now in
    let s = c.args.shape.now in
    let h = c.loop-t.invariant in
    let r = c.in_ok-reach-2.ensures h.turns h.goes in
    record {
      turns = r.more ++ h.turns;
      goes = r.goes;
      firm = h.firm;
      run = h.run;
      counts = h.counts;
      by_journal = h.by_journal;
      by_number = once_more code s c.args.limit (λ t. t) h.firm h.turns (r.more ++ h.turns) c.loop-t.t h.by_number (stepped code s c.args.limit _ c.loop-t.t h.turns c.reach-in-loop-t.new.self refl r);
    }

pub returns : goal.returns
returns c = λ turns is.
    let code = c.args.code.now in
    let s = c.args.shape.now in
    let h = c.loop-t.invariant in
    let all : c.loop-t.t ≡ THREADS = omega (arith, c.loop-t-test.false, c.loop-t.auto.t-end) in
    let made : h.turns ≡ scheduled_turns code s turns = all_made c.run_laws.ensures c.thread_laws.ensures code s c.args.limit c.args.journal.now turns h.firm h.turns is h.by_journal
    (subst (λ k. Followed code s c.args.limit (λ t. t) h.firm k h.turns) all h.by_number) h.run h.counts h.goes.stands.run h.goes.counts h.goes.few in
    c.new-3.ensures ∙ (h.goes.places_are ∙ ap (λ (ts : List Turn). counted_together (places_of code s c.args.limit ts)) made)
