use Rattle.std.proofs.{Common.{◌≡◌, ◌<◌, ◌%◌, length, Some, None, get_or, set, refl, sym, ap, ◌∙◌, arith}, lemmas.Nat.mod_below, lemmas.List.length-set}
use Rattle.std.specs.{Prelude.is_some, Vec.with_item}
use Rattle.sharc_rounds.specs.{Round.{Seat, hand_at}, declared.worker.Worker.Worker}
use Rattle.sharc_rounds.proofs.Dealing.{put_other, hand_there}
use Rattle.sharc_rounds.proofs.worker.gather.Goals as goal
use Rattle.sharc_lemmas.proofs.Lists.{any_default, pushed}

pub index_mut-requires-in-loop-n : goal.index_mut-requires-in-loop-n
index_mut-requires-in-loop-n g c =
    let ws = c.loop-n.workers.items in
    let n = c.loop-n.n in
    let d : Worker g.row.S.Denot = c.index_mut.result.now in
    let there = c.requires.each n d c.loop-n-test.true in
    let at = hand_there ws n c.len-count.result (length c.args.workers.items) d there.0 (omega (arith, c.len-count.ensures)) c.index_mut.ensures.value (c.loop-n.invariant.left n d (omega arith) c.loop-n-test.true ∙ there.1) in
    let low : n < length d.hands.items = at.1 in
    omega (arith, low)

pub unwrap-seat-requires : goal.unwrap-seat-requires
unwrap-seat-requires g c =
    let ws = c.loop-n.workers.items in
    let n = c.loop-n.n in
    let d : Worker g.row.S.Denot = c.index_mut.result.now in
    let there = c.requires.each n d c.loop-n-test.true in
    let at = hand_there ws n c.len-count.result (length c.args.workers.items) d there.0 (omega (arith, c.len-count.ensures)) c.index_mut.ensures.value (c.loop-n.invariant.left n d (omega arith) c.loop-n-test.true ∙ there.1) in
    let low : n < length d.hands.items = at.1 in
    ap is_some (c.take.ensures.value ∙ c.index_mut-in-loop-n.ensures.value ∙ any_default d.hands.items n c.index_mut-in-loop-n.result.now None low ∙ at.0)

pub loop-n-preserved : goal.loop-n-preserved
loop-n-preserved g c =
    let ws = c.loop-n.workers.items in
    let first = c.args.workers.items in
    let n = c.loop-n.n in
    let d : Worker g.row.S.Denot = c.index_mut.result.now in
    let count : c.len-count.result ≡ length first = omega (arith, c.len-count.ensures) in
    let there = c.requires.each n d c.loop-n-test.true in
    let at = hand_there ws n c.len-count.result (length c.args.workers.items) d there.0 (omega (arith, c.len-count.ensures)) c.index_mut.ensures.value (c.loop-n.invariant.left n d (omega arith) c.loop-n-test.true ∙ there.1) in
    let low : n < length d.hands.items = at.1 in
    let took : c.take.result ≡ Some there.0 = c.take.ensures.value ∙ c.index_mut-in-loop-n.ensures.value ∙ any_default d.hands.items n c.index_mut-in-loop-n.result.now None low ∙ at.0 in
    let within : n % c.len-count.result < length ws = omega (arith, c.loop-n.invariant.count, count, mod_below n c.len-count.result (omega (arith, count, c.requires.some))) in
    let new : Worker g.row.S.Denot = record { hands = with_item d.hands n c.take.new.self } in
    let put : new.hands.items ≡ set d.hands.items n c.take.new.self = refl in
    let seat_is : c.take.result ≡ Some c.unwrap-seat.result = c.unwrap-seat.ensures in
    let this : (e : Worker g.row.S.Denot) → hand_at first (n % length first) n e ≡ Some c.unwrap-seat.result =
    λ e.
    let far : n % length first < length first = mod_below n (length first) c.requires.some in
    ap (λ (x : Worker g.row.S.Denot). get_or x.hands.items n None) (any_default first (n % length first) e d far) ∙ there.1 ∙ sym took ∙ seat_is in
    record {
      count = length-set ws (n % c.len-count.result) new ∙ c.loop-n.invariant.count;
      seats = omega (arith, c.in_ok-push.ensures.len, c.loop-n.invariant.seats);
      ports = omega (arith, c.in_ok-push-2.ensures.len, c.loop-n.invariant.ports);
      left = λ m e after low_m. put_other ws (n % c.len-count.result) d new n c.take.new.self within c.index_mut.ensures.value put (m % length first) m e (λ f g. omega (arith, g, after)) ∙ c.loop-n.invariant.left m e (omega (arith, after)) low_m;
      done = λ m e a p below. pushed (λ k (x : Seat) (y : g.row.S.Denot). (e : Worker g.row.S.Denot) → hand_at first (k % length first) k e ≡ Some record { seat = x; port = y }) c.loop-n.seats.items c.loop-n.ports.items n c.unwrap-seat.result.seat c.unwrap-seat.result.port
          c.push.new.self.items c.push-in-loop-n.new.self.items c.loop-n.invariant.seats c.loop-n.invariant.ports c.in_ok-push.ensures.items c.in_ok-push-2.ensures.items
          (λ k x y h z. c.loop-n.invariant.done k z x y h) this m a p below e;
    }
