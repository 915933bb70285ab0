use Rattle.std.proofs.{Common.{◌≡◌, ◌<◌, ◌%◌, ◌+◌, List, length, Some, get_or, set, refl, sym, ap, ◌∙◌, subst, arith, below_more}, lemmas.Nat.mod_below, lemmas.List.length-set}
use Rattle.std.specs.Vec.{with_item}
use Rattle.sharc_word.specs.declared.step.TheConstants.{THREADS}
use Rattle.sharc_rounds.specs.{Round.{Seat, hand_at}, declared.hand.Hand.Hand, declared.worker.Worker.Worker}
use Rattle.sharc_rounds.proofs.Dealing.{put_same, put_other, lengths, drawn, drawn_rest, drawn_length}
use Rattle.sharc_rounds.proofs.worker.deal.Goals as goal
use Rattle.sharc_lemmas.proofs.{Options.same_some, Numbers.one_of_two}

pub loop-seat-preserved : goal.loop-seat-preserved
loop-seat-preserved g c =
    let i = c.loop-seat.invariant in
    let ws = c.loop-seat.workers.items in
    let n = c.loop-seat.n in
    let w = n % c.args.count in
    let d : Worker g.row.S.Denot = c.index_mut.result.now in
    let seats : List Seat = c.args.seats.items in
    let ports : List g.row.S.Denot = c.args.ports.items in
    let x : Hand g.row.S.Denot = record { seat = c.in-Some.seat; port = c.in-Some.port } in
    let new : Worker g.row.S.Denot = record { hands = with_item d.hands n (Some x) } in
    let far : w < c.args.count = mod_below n c.args.count c.requires.some in
    let low : w < length ws = omega (arith, far, i.count) in
    let is : d ≡ get_or ws w d = c.index_mut.ensures.value in
    let put : new.hands.items ≡ set d.hands.items n (Some x) = refl in
    let wide : length d.hands.items ≡ THREADS = ap (λ (y : Worker g.row.S.Denot). length y.hands.items) is ∙ i.each w d far in
    let steps = c.in-Some.ensures.steps in
    let a_more = drawn_length seats c.loop-seat.seat-iterator.a.rest.items c.next.new.self.a.rest.items n c.in-Some.seat steps.0.0 i.seats THREADS i.seats_left in
    let b_more = drawn_length ports c.loop-seat.seat-iterator.b.rest.items c.next.new.self.b.rest.items n c.in-Some.port steps.1.0 i.ports THREADS i.ports_left in
    let seat_at = drawn seats c.loop-seat.seat-iterator.a.rest.items c.next.new.self.a.rest.items n c.in-Some.seat steps.0.0 i.seats in
    let port_at = drawn ports c.loop-seat.seat-iterator.b.rest.items c.next.new.self.b.rest.items n c.in-Some.port steps.1.0 i.ports in
    let within : n < length d.hands.items = omega (arith, wide, a_more) in
    let hand_is : (a : Seat) (p : g.row.S.Denot) → x ≡ record { seat = get_or seats n a; port = get_or ports n p } =
    λ a p. ap (λ (y : Seat). let h : Hand g.row.S.Denot = record { seat = y; port = c.in-Some.port } in h) (sym (seat_at a)) ∙ ap (λ (y : g.row.S.Denot). let h : Hand g.row.S.Denot = record { seat = get_or seats n a; port = y } in h) (sym (port_at p)) in
    record {
      count = length-set ws w new ∙ i.count;
      each = λ v e below. lengths ws w d new n (Some x) low is put v e THREADS wide (i.each v e below) (length-set d.hands.items n (Some x));
      few = omega (arith, a_more);
      seats_left = a_more;
      ports_left = b_more;
      seats = drawn_rest seats c.loop-seat.seat-iterator.a.rest.items c.next.new.self.a.rest.items n c.in-Some.seat steps.0.0 i.seats;
      ports = drawn_rest ports c.loop-seat.seat-iterator.b.rest.items c.next.new.self.b.rest.items n c.in-Some.port steps.1.0 i.ports;
      done = λ m e a p below. below_more (λ k. hand_at (set ws w new) (k % c.args.count) k e ≡ Some record { seat = get_or seats k a; port = get_or ports k p }) n
          (λ k h. put_other ws w d new n (Some x) low is put (k % c.args.count) k e (λ f g. omega (arith, g, h)) ∙ i.done k e a p h)
          (put_same ws w d new n (Some x) low is put e within ∙ ap Some (hand_is a p)) m below;
      only = λ v m e hand below stands. one_of_two v m w n ((m < n + 1) × (hand ≡ record { seat = get_or seats m hand.seat; port = get_or ports m hand.port }))
          (λ f g.
          let same : hand ≡ x = same_some hand x (sym stands ∙ ap (λ k. hand_at (set ws w new) k m e) f ∙ ap (λ k. hand_at (set ws w new) w k e) g ∙ put_same ws w d new n (Some x) low is put e within) in
          (omega (arith, g), same ∙ subst (λ k. x ≡ record { seat = get_or seats k hand.seat; port = get_or ports k hand.port }) (sym g) (hand_is hand.seat hand.port)))
          (λ ne. let old = i.only v m e hand below (sym (put_other ws w d new n (Some x) low is put v m e ne) ∙ stands) in (omega (arith, old.0), old.1));
    }

pub returns-clause-only : goal.returns-clause-only
returns-clause-only g c = λ w n d hand below stands. let old = c.loop-seat.invariant.only w n d hand below stands in let few = c.loop-seat.invariant.few in (omega (arith, old.0, few), old.1)
