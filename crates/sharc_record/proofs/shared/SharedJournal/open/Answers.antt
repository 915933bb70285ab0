-- The table opens under the rule, and its seats are those of all ports.
use Rattle.sharc_record.proofs.{Imports.{◌≡◌, ◌<◌, ◌^◌, ◌∷◌, ◌++◌, [], length, sym, ap, ◌∙◌, subst, arith, Some, opening, JournalRule, unbegun, unbegun_view, SharedView, seats_with}, Seats.opening_keeps, Giving.{seats_are, seats_unbegun}}
use Rattle.sharc_record.proofs.shared.SharedJournal.open.Goals as goal

pub new-requires : goal.new-requires
new-requires c =
    let fits = c.ranges.ports.fits in
    let bound : c.args.ports < 2 ^ 64 = omega arith in
    let slots : c.push_reserved.new.self.items ≡ Some c.args.journal ∷ [] = c.push_reserved.ensures.items ∙ ap (λ xs. xs ++ Some c.args.journal ∷ []) c.in_ok-slots.ensures.items in
    let key : c.of.result.value ≡ c.args.journal = c.of.ensures in
    let opens = opening_keeps c.history_laws.ensures c.args.journal c.args.ports bound in
    subst (λ j. JournalRule j c.args.ports (opening (0 ∷ 0 ∷ []) c.push_reserved.new.self.items (unbegun_view j c.args.ports))) (sym key)
    (subst (λ xs. JournalRule c.args.journal c.args.ports (opening (0 ∷ 0 ∷ []) xs (unbegun_view c.args.journal c.args.ports))) (sym slots) opens)

pub returns-clause-seats : goal.returns-clause-seats
returns-clause-seats c =
    let shared = c.in-Ok.opened.0.shared in
    let view : SharedView = record { id = shared.table_id; opened = shared.key.journal.value; ports = shared.key.ports } in
    let ports : c.args.ports ≡ shared.key.ports = sym (ap (λ k. k.ports) c.in-Ok.ensures.ok.5) in
    seats_are view c.give_seats.new.seats.items (c.in_ok-give_seats.ensures ∙ ap (λ n. seats_with shared.table_id (unbegun (length shared.key.journal.value.words) 0 n)) ports)

pub returns-clause-unbegun : goal.returns-clause-unbegun
returns-clause-unbegun c =
    let shared = c.in-Ok.opened.0.shared in
    seats_unbegun shared.table_id (length shared.key.journal.value.words) c.args.ports c.give_seats.new.seats.items c.in_ok-give_seats.ensures
