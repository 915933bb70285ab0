-- Where the ticket is served, the step reported that the seat has the turn, and else that nothing changed.
use Rattle.sharc_record.proofs.{Imports.{◌≡◌, ◌≢◌, ℕ, ◌<◌, arith, length, ⊎_elim, inl, refl, subst, sym, ◌∙◌, eqb-true, eqb-false, Some, Me, Journal, Part, View, Slot, waiting, having, Looked}, Looking.look_allowed}
use Rattle.sharc_record.proofs.step.look.Goals as goal

pub load-requires : goal.load-requires
load-requires c =
    let w = c.args.words.now in
    let seat = c.args.seat.now in
    let some : 1 < w.table_id.words = omega (arith, c.requires.table.words_are) in
    (c.requires.own, some, look_allowed c.history_laws.ensures w.key.journal.value w.key.ports w.table_id.slots seat.id seat.me c.args.ticket c.requires.waits)

told : (part : Part) (ticket found : ℕ) (before after : Me Slot View) → before ≡ waiting part ticket → Looked before found after → found ≡ ticket
    → (journal : Journal) × (length journal.words ≡ part.count) × (after ≡ having part journal (Some journal))
told part ticket found before after e looked hit =
    let l : Looked (waiting part ticket) found after = subst (λ m. Looked m found after) e looked in
    ⊎_elim (λ miss. absurd (miss.0 hit)) (λ h. (h.1.0, h.1.1 part (inl refl), h.1.2)) l

not_told : (part : Part) (ticket found : ℕ) (before after : Me Slot View) → before ≡ waiting part ticket → Looked before found after → found ≢ ticket → after ≡ before
not_told part ticket found before after e looked miss =
    let l : Looked (waiting part ticket) found after = subst (λ m. Looked m found after) e looked in
    ⊎_elim (λ m. m.1 ∙ sym e) (λ h. absurd (miss h.0)) l

pub returns-clause-none : goal.returns-clause-none
returns-clause-none c = λ no. not_told c.requires.waits.0 c.args.ticket c.load.result c.args.seat.now.me c.load.new.seat.me c.requires.waits.1 c.load.ensures.2 (λ e. eqb-false c.load.result c.args.ticket no e)

pub returns-clause-turn : goal.returns-clause-turn
returns-clause-turn c = λ yes part is. told part c.args.ticket c.load.result c.args.seat.now.me c.load.new.seat.me is c.load.ensures.2 (eqb-true c.load.result c.args.ticket yes)
