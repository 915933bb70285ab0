-- The seat takes in the parts of those that are popped.
use Rattle.sharc_record.proofs.{Imports.{◌≡◌, ◌<◌, List, [], ◌∷◌, ◌++◌, All, refl, sym, ap, ◌∙◌, subst, append_assoc, inl, arith, Me, Part, View, Slot, SeatView, HasAll, part_of}, Members.among_right, Seats.join_allowed, Closing.{all_left, all_last, has_more}}
use Rattle.sharc_record.proofs.parts.take_seats.Goals as goal

abbrev M : Type 0
M = Me Slot View

pub join_seat-requires : goal.join_seat-requires
join_seat-requires c =
    let w = c.args.table.now.shared in
    let ids : All (λ (s : SeatView). s.id ≡ w.table_id) (c.pop-in-loop-seat.new.self.items ++ c.in-Some.seat ∷ []) = subst (λ ss. All (λ (s : SeatView). s.id ≡ w.table_id) ss) c.in-Some.ensures.items c.loop-seat.invariant.ids in
    let id = all_last (λ (s : SeatView). s.id ≡ w.table_id) c.pop-in-loop-seat.new.self.items c.in-Some.seat ids in
    let inner = c.into_inner.ensures in
    let some : 0 < w.table_id.words = omega (arith, c.requires.table.words_are) in (
      c.loop-seat.invariant.own,
      inner.0 ∙ id,
      ap (λ (m : M). m.1) inner.1,
      some,
      join_allowed w.key.journal.value w.key.ports c.loop-seat.all.id c.loop-seat.all.me.0 c.into_inner.result.id c.into_inner.result.me.0 c.loop-seat.invariant.idle (ap (λ (m : M). m.0.turn) inner.1),
    )

pub loop-seat-preserved : goal.loop-seat-preserved
loop-seat-preserved c =
    let id = c.args.table.now.shared.table_id in
    let left : List SeatView = c.pop-in-loop-seat.new.self.items in
    let seat : SeatView = c.in-Some.seat in
    let items = c.in-Some.ensures.items in
    let old = c.loop-seat.invariant in
    let taken : List SeatView = old.taken.0 in
    let parts : List Part = c.loop-seat.all.me.0.parts in
    let told = c.join_seat.ensures.2 in
    let both : c.join_seat.new.seat.me.0.parts ≡ parts ++ part_of seat ∷ [] = ap (λ (m : M). m.0.parts) told ∙ ap (λ (m : M). parts ++ m.0.parts) c.into_inner.ensures.1 in
    let all : HasAll (seat ∷ taken) (parts ++ part_of seat ∷ []) = (among_right (part_of seat) parts (part_of seat ∷ []) (inl refl), has_more taken parts (part_of seat ∷ []) old.taken.2) in record {
      own = c.join_seat.ensures.0 ∙ old.own;
      idle = ap (λ (m : M). m.0.turn) told ∙ old.idle;
      ids = all_left (λ (s : SeatView). s.id ≡ id) left seat (subst (λ ss. All (λ (s : SeatView). s.id ≡ id) ss) items old.ids);
      taken = (
        seat ∷ taken,
        old.taken.1 ∙ (ap (λ ss. ss ++ taken) items ∙ append_assoc left (seat ∷ []) taken),
        subst (λ ps. HasAll (seat ∷ taken) ps) (sym both) all,
      );
    }
