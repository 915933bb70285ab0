-- Each turn leaves the seat of one port, and the rest has the parts of the later ones.
use Rattle.sharc_record.proofs.{Imports.{◌≡◌, ◌≢◌, ℕ, suc, ◌+◌, ◌-◌, ◌<◌, List, [], ◌∷◌, ◌++◌, length, refl, sym, ap, ◌∙◌, arith, Me, Part, Idle, View, Slot, IsAmong, unbegun, idle, first_of, others_of, SeatView, seat_view, seats_with}, Seats.{among_unbegun, split_allowed}, Giving.{rest_is, given_more}}
use Rattle.sharc_record.proofs.parts.give_seats.Goals as goal

abbrev M : Type 0
M = Me Slot View

abbrev new_part : ℕ → ℕ → Part
new_part count n = record { number = n; count = count; events = [] }

abbrev with_parts : List Part → M
with_parts ps = (record { parts = ps; turn = Idle }, [])

pub loop-number-init : goal.loop-number-init
loop-number-init c =
    let all : c.args.ports ≡ suc (c.args.ports - 1 - 0) = omega (arith, c.requires.some) in
    let id = c.args.table.now.shared.table_id in
    let count = length c.args.table.now.shared.key.journal.value.words in record {
      own = c.requires.own;
      parts = c.requires.parts ∙ ap (λ n. with_parts (unbegun count 0 n)) all;
      given = ap (λ ss. ss ++ seats_with id (unbegun count 0 (suc (c.args.ports - 1 - 0)))) c.requires.none ∙ ap (λ n. seats_with id (unbegun count 0 n)) (sym all);
    }

pub split_seat-others-requires : goal.split_seat-others-requires
split_seat-others-requires c =
    let w = c.args.table.now.shared in
    let count = length w.key.journal.value.words in
    let n : ℕ = c.loop-number.number in
    let more : ℕ = c.args.ports - 1 - n in
    let is : c.loop-number.rest.me.0 ≡ record { parts = new_part count n ∷ unbegun count (suc n) more; turn = Idle } = ap (λ (m : M). m.0) c.loop-number.invariant.parts in
    let others : (q : Part) → IsAmong q (unbegun count (suc n) more) → q.number ≢ n = (λ q among e. let r = among_unbegun count (suc n) more q among in omega (arith, r.1, e)) in
    let some : 0 < w.table_id.words = omega (arith, c.requires.table.words_are) in
    (c.loop-number.invariant.own, some, split_allowed w.key.journal.value w.key.ports c.loop-number.rest.id c.loop-number.rest.me.0 (new_part count n) (unbegun count (suc n) more) is others)

pub new-requires : goal.new-requires
new-requires c =
    let count = length c.args.table.now.shared.key.journal.value.words in
    let n : ℕ = c.loop-number.number in
    let told = c.split_seat-others.ensures.2 in
    let is : c.split_seat-others.new.seat.me ≡ idle (new_part count n) = told ∙ ap (λ (m : M). let k : M = (first_of m.0, m.1) in k) c.loop-number.invariant.parts in
    (new_part count n, is, refl)

pub loop-number-preserved : goal.loop-number-preserved
loop-number-preserved c =
    let count = length c.args.table.now.shared.key.journal.value.words in
    let n : ℕ = c.loop-number.number in
    let end : ℕ = c.args.ports - 1 in
    let id = c.args.table.now.shared.table_id in
    let told = c.split_seat-others.ensures in
    let before : n < end = omega arith in
    let rest = rest_is count n end before in
    let kept : c.split_seat-others.new.seat.me ≡ idle (new_part count n) = told.2 ∙ ap (λ (m : M). let k : M = (first_of m.0, m.1) in k) c.loop-number.invariant.parts in
    let seat : SeatView = record { id = id; count = count; number = n; events = [] } in
    let one : c.new.result ≡ seat =
    c.new.ensures ∙ (ap (λ (m : M). seat_view c.split_seat-others.new.seat.table_id m.0.parts) kept ∙ ap (λ t. let s : SeatView = record { id = t; count = count; number = n; events = [] } in s) (told.0 ∙ c.loop-number.invariant.own)) in
    let later = ap (λ ps. seats_with id ps) (sym rest) in record {
      own = told.3 ∙ c.loop-number.invariant.own;
      parts = told.4 ∙ (ap (λ (m : M). let k : M = (others_of m.0, []) in k) c.loop-number.invariant.parts ∙ ap (λ ps. with_parts ps) rest);
      given = rw c.in_ok-push.ensures.items (given_more c.loop-number.seats.items c.new.result seat (seats_with id (unbegun count (n + 1) (suc (end - (n + 1))))) (seats_with id (unbegun count (suc n) (end - n))) (seats_with id (unbegun count 0 c.args.ports)) one later c.loop-number.invariant.given);
    }

pub new-requires-2 : goal.new-requires-2
new-requires-2 c =
    let count = length c.args.table.now.shared.key.journal.value.words in
    let n : ℕ = c.loop-number.number in
    let last : c.args.ports - 1 - n ≡ 0 = omega arith in
    let is : c.loop-number.rest.me ≡ idle (new_part count n) = c.loop-number.invariant.parts ∙ ap (λ k. with_parts (new_part count n ∷ unbegun count (suc n) k)) last in
    (new_part count n, is, omega arith)
