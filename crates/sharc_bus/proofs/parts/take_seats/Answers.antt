-- The seat takes in the parts of those that are popped.
use Rattle.sharc_bus.proofs.{Imports.{◌≡◌, suc, ◌+◌, List, [], ◌∷◌, ◌++◌, All, length, refl, sym, ap, ◌∙◌, subst, arith, append_assoc, length-append, append-nil, Me, Part, SeatView, HasAll}, Seats.join_allowed, Closing.{all_left, all_last, part_right, has_more}}
use Rattle.sharc_bus.proofs.parts.take_seats.Goals as goal

abbrev M : Type 0
M = Me (Unit {0}) (List Part)

pub loop-seat-init : goal.loop-seat-init
loop-seat-init g c = record {
  own = c.requires.first;
  buses = c.requires.own;
  taken = ([], sym (append-nil c.args.seats.items), tt, omega arith);
  first = ([], sym (append-nil c.args.first.me.0));
  none = refl;
}

pub join_seat-requires : goal.join_seat-requires
join_seat-requires g c =
    let w = c.args.table.now.shared in
    let buses : All (λ (s : SeatView). s.bus ≡ w.table_id) (c.pop.new.self.items ++ c.in-Some.seat ∷ []) = subst (λ ss. All (λ (s : SeatView). s.bus ≡ w.table_id) ss) c.in-Some.ensures.items c.loop-seat.invariant.buses in
    let bus = all_last (λ (s : SeatView). s.bus ≡ w.table_id) c.pop.new.self.items c.in-Some.seat buses in
    let inner = c.into_inner.ensures in
    (c.loop-seat.invariant.own, inner.bus ∙ bus, inner.none, c.requires.words, join_allowed w.key.words.items (suc w.key.ports) c.loop-seat.all.id c.loop-seat.all.me.0 c.into_inner.result.id c.into_inner.result.me.0)

pub loop-seat-preserved : goal.loop-seat-preserved
loop-seat-preserved g c =
    let id = c.args.table.now.shared.table_id in
    let left : List SeatView = c.pop.new.self.items in
    let seat : SeatView = c.in-Some.seat in
    let items = c.in-Some.ensures.items in
    let old = c.loop-seat.invariant in
    let taken : List SeatView = old.taken.0 in
    let parts : List Part = c.loop-seat.all.me.0 in
    let new : List Part = c.into_inner.result.me.0 in
    let joined : c.join_seat.new.seat.me.0 ≡ parts ++ new = ap (λ (m : M). m.0) c.join_seat.ensures.2 in
    let all : HasAll (seat ∷ taken) (parts ++ new) = (part_right seat.number seat.events parts new c.into_inner.ensures.part, has_more taken parts new old.taken.2) in
    let first : List Part = c.args.first.me.0 in
    let count : length (parts ++ new) ≡ length first + length (seat ∷ taken) = omega (arith, length-append parts new, old.taken.3, c.into_inner.ensures.one) in
    let is : parts ++ new ≡ first ++ (old.first.0 ++ new) = ap (λ (ps : List Part). ps ++ new) old.first.1 ∙ append_assoc first old.first.0 new in record {
      own = c.join_seat.ensures.0 ∙ old.own;
      buses = all_left (λ (s : SeatView). s.bus ≡ id) left seat (subst (λ ss. All (λ (s : SeatView). s.bus ≡ id) ss) items old.buses);
      taken = (
        seat ∷ taken,
        old.taken.1 ∙ (ap (λ ss. ss ++ taken) items ∙ append_assoc left (seat ∷ []) taken),
        subst (λ ps. HasAll (seat ∷ taken) ps) (sym joined) all,
        ap (λ (ps : List Part). length ps) joined ∙ count,
      );
      first = (old.first.0 ++ new, joined ∙ is);
      none = ap (λ (m : M). m.1) c.join_seat.ensures.2 ∙ old.none;
    }
