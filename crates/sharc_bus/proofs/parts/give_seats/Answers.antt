-- Each turn leaves the seat of one port, and the rest has the parts of the later ones.
use Rattle.sharc_bus.proofs.{Imports.{◌≡◌, ◌≢◌, ℕ, suc, ◌+◌, ◌-◌, ◌<◌, List, [], ◌∷◌, ◌++◌, take, drop, refl, sym, ap, ◌∙◌, arith, Me, Part, IsAmong, unbegun, words_known, own_bit, first_number, SeatView, seat_view, seats_with}, Seats.{among_unbegun, split_allowed}, Giving.{rest_is, given_more, next_bit}}
use Rattle.sharc_bus.proofs.parts.give_seats.Goals as goal

abbrev M : Type 0
M = Me (Unit {0}) (List Part)

abbrev new_part : List ℕ → ℕ → Part
new_part words n = record { number = n; words = words; events = [] }

pub loop-init : goal.loop-init
loop-init g c =
    let id = c.args.table.now.shared.table_id in
    let words : List ℕ = words_known c.args.first.me.0 in
    let all : c.args.ports ≡ c.args.ports - 0 = omega arith in record {
      own = c.requires.own;
      parts = c.requires.parts ∙ ap (λ n. let m : M = (unbegun words 0 (suc n), []) in m) all;
      bit = refl;
      given = ap (λ ss. ss ++ seats_with id (unbegun words 0 (c.args.ports - 0))) c.requires.none ∙ ap (λ n. seats_with id (unbegun words 0 n)) (sym all);
    }

pub split_seat-others-requires : goal.split_seat-others-requires
split_seat-others-requires g c =
    let w = c.args.table.now.shared in
    let words : List ℕ = words_known c.args.first.me.0 in
    let n : ℕ = c.loop.counter in
    let more : ℕ = c.args.ports - n in
    let is : c.loop.rest.me.0 ≡ new_part words n ∷ unbegun words (suc n) more = ap (λ (m : M). m.0) c.loop.invariant.parts in
    let others : (q : Part) → IsAmong q (unbegun words (suc n) more) → q.number ≢ n = (λ q among e. let r = among_unbegun words (suc n) more q among in omega (arith, r.1, e)) in
    (c.loop.invariant.own, c.requires.words, split_allowed w.key.words.items (suc w.key.ports) c.loop.rest.id c.loop.rest.me.0 (new_part words n) (unbegun words (suc n) more) is others)

pub new-requires-clause-bit : goal.new-requires-clause-bit
new-requires-clause-bit g c =
    let words : List ℕ = words_known c.args.first.me.0 in
    let n : ℕ = c.loop.counter in
    let told = c.split_seat-others.ensures.2 in
    let is : c.split_seat-others.new.seat.me ≡ (new_part words n ∷ [], []) = told ∙ ap (λ (m : M). let k : M = (take 1 m.0, m.1) in k) c.loop.invariant.parts in
    c.loop.invariant.bit ∙ ap (λ (m : M). own_bit (first_number m.0)) (sym is)

pub new-requires-clause-part : goal.new-requires-clause-part
new-requires-clause-part g c =
    let words : List ℕ = words_known c.args.first.me.0 in
    let n : ℕ = c.loop.counter in
    let told = c.split_seat-others.ensures.2 in
    let is : c.split_seat-others.new.seat.me ≡ (new_part words n ∷ [], []) = told ∙ ap (λ (m : M). let k : M = (take 1 m.0, m.1) in k) c.loop.invariant.parts in
    ((new_part words n, ap (λ (m : M). m.0) is), ap (λ (m : M). m.1) is)

pub loop-preserved : goal.loop-preserved
loop-preserved g c =
    let words : List ℕ = words_known c.args.first.me.0 in
    let n : ℕ = c.loop.counter in
    let end : ℕ = c.args.ports in
    let id = c.args.table.now.shared.table_id in
    let told = c.split_seat-others.ensures in
    let before : n < end = omega arith in
    let rest = rest_is words n end before in
    let kept : c.split_seat-others.new.seat.me ≡ (new_part words n ∷ [], []) = told.2 ∙ ap (λ (m : M). let k : M = (take 1 m.0, m.1) in k) c.loop.invariant.parts in
    let seat : SeatView = record { bus = id; number = n; events = [] } in
    let one : c.new.result ≡ seat =
    c.new.ensures ∙ (ap (λ (m : M). seat_view c.split_seat-others.new.seat.table_id m.0) kept ∙ ap (λ t. let s : SeatView = record { bus = t; number = n; events = [] } in s) (told.0 ∙ c.loop.invariant.own)) in
    let m : ℕ = end - (n + 1) in
    let is : end - n ≡ suc m = omega (arith, before) in
    let next : n + 1 ≡ suc n = omega arith in
    let later = ap (λ k. seats_with id (unbegun words k m)) next in
    let given : c.loop.seats.items ++ seat ∷ seats_with id (unbegun words (suc n) m) ≡ seats_with id (unbegun words 0 end) =
    ap (λ k. c.loop.seats.items ++ seats_with id (unbegun words n k)) (sym is) ∙ c.loop.invariant.given in record {
      own = told.3 ∙ c.loop.invariant.own;
      parts = told.4 ∙ (ap (λ (m : M). let k : M = (drop 1 m.0, []) in k) c.loop.invariant.parts ∙ ap (λ ps. let k : M = (ps, []) in k) rest);
      bit = next_bit c.loop.bit n c.loop.invariant.bit;
      given = rw c.in_ok-push.ensures.items (given_more c.loop.seats.items c.new.result seat (seats_with id (unbegun words (n + 1) m)) (seats_with id (unbegun words (suc n) m)) (seats_with id (unbegun words 0 end)) one later given);
    }
