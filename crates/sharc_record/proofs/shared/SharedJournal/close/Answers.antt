-- No seat has the turn, so the journal is in its slot, and it has the one history of all seats' lists.
use Rattle.sharc_record.proofs.{Imports.{◌≡◌, List, refl, sym, ap, ◌∙◌, subst, Some, None, IsSome, some-injective, Journal, Slot, SharedView, SeatView, AreSeatsOf, OneJournal, lists_of}, Closing.{home, at_home, one_journal}}
use Rattle.sharc_record.proofs.shared.SharedJournal.close.Goals as goal

pub unwrap-journal-requires : goal.unwrap-journal-requires
unwrap-journal-requires c =
    let shared = c.self.inside.table.shared in
    let view : SharedView = record { id = shared.table_id; opened = shared.key.journal.value; ports = shared.key.ports } in
    let seats : List SeatView = c.args.seats.items in
    let are : AreSeatsOf view seats = subst (λ b. AreSeatsOf b seats) (sym c.self.view_is) c.requires in
    let all = c.take_seats-all in
    let end = c.close_with-closed.ensures.values.2 in
    let there = end.4 0 (Some (home view seats are all.result.id all.result.me.0 all.ensures.all all.ensures.idle end.0 end.1).0) (at_home view seats are all.result.id all.result.me.0 all.ensures.all all.ensures.idle end.0 end.1) in
    let journal : Journal = (home view seats are all.result.id all.result.me.0 all.ensures.all all.ensures.idle end.0 end.1).0 in
    let is : c.take.result ≡ Some journal = some-injective c.take.result (Some journal) (sym c.take.ensures.value ∙ there) in
    subst IsSome (sym is) refl

abbrev in_slot : Journal → Slot → Journal
in_slot other None = other
in_slot other (Some journal) = journal

pub returns : goal.returns
returns c =
    let shared = c.self.inside.table.shared in
    let view : SharedView = record { id = shared.table_id; opened = shared.key.journal.value; ports = shared.key.ports } in
    let seats : List SeatView = c.args.seats.items in
    let are : AreSeatsOf view seats = subst (λ b. AreSeatsOf b seats) (sym c.self.view_is) c.requires in
    let all = c.take_seats-all in
    let end = c.close_with-closed.ensures.values.2 in
    let journal : Journal = (home view seats are all.result.id all.result.me.0 all.ensures.all all.ensures.idle end.0 end.1).0 in
    let there = end.4 0 (Some journal) (at_home view seats are all.result.id all.result.me.0 all.ensures.all all.ensures.idle end.0 end.1) in
    let is : c.take.result ≡ Some journal = some-injective c.take.result (Some journal) (sym c.take.ensures.value ∙ there) in
    let same : journal ≡ c.unwrap-journal.result = ap (λ s. in_slot journal s) (sym is ∙ c.unwrap-journal.ensures) in
    let whole : OneJournal view.opened (lists_of seats) c.unwrap-journal.result =
    subst (λ j. OneJournal view.opened (lists_of seats) j) same (one_journal view seats are all.result.id all.result.me.0 all.ensures.all all.ensures.idle end.0 end.1) in
    subst (λ (b : SharedView). OneJournal b.opened (lists_of seats) c.unwrap-journal.result) c.self.view_is whole
