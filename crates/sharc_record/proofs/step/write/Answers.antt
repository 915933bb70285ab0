-- The journal that is taken out of the slot is the one that the seat found.
use Rattle.sharc_record.proofs.Imports.{◌≡◌, ℕ, ◌<◌, List, [], ◌∷◌, length, ap, ◌∙◌, sym, subst, Some, None, Me, rest, Journal, Part, View, Slot, having, Made}
use Rattle.sharc_record.proofs.step.write.Goals as goal

abbrev first_of : List (ℕ × Slot) → Slot
first_of [] = None
first_of (x ∷ xs) = x.1

abbrev in_slot : Journal → Slot → Journal
in_slot other None = other
in_slot other (Some journal) = journal

-- what is in the slot that it took
taken_out : (part : Part) (journal out : Journal) (result : Slot) (me : Me Slot View) → me ≡ having part journal (Some journal) → me.1 ≡ (0, result) ∷ rest me.1 → result ≡ Some out → out ≡ journal
taken_out part journal out result me is slots opened =
    let e : result ≡ Some journal = ap (λ xs. first_of xs) (sym slots ∙ ap (λ (m : Me Slot View). m.1) is) in
    ap (λ s. in_slot out s) (sym opened ∙ e)

put_back : (part : Part) (journal now : Journal) (me out back : Me Slot View) → me ≡ having part journal (Some journal)
    → out ≡ (me.0, (0, None) ∷ rest me.1) → back ≡ (out.0, (0, Some now) ∷ rest out.1) → back ≡ having part journal (Some now)
put_back part journal now me out back is first second =
    let o : out ≡ having part journal None = first ∙ ap (λ (m : Me Slot View). let k : Me Slot View = (m.0, (0, None) ∷ rest m.1) in k) is in
    second ∙ ap (λ (m : Me Slot View). let k : Me Slot View = (m.0, (0, Some now) ∷ rest m.1) in k) o

pub exchange-requires : goal.exchange-requires
exchange-requires g c =
    let turn = c.requires.turn in
    let slots : c.args.seat.now.me.1 ≡ (0, Some turn.1) ∷ [] = ap (λ (m : Me Slot View). m.1) turn.4 in
    let again : (0, Some turn.1) ∷ [] ≡ (0, Some turn.1) ∷ rest c.args.seat.now.me.1 = ap (λ (xs : List (ℕ × Slot)). (0, Some turn.1) ∷ rest xs) (sym slots) in
    (c.requires.own, (Some turn.1, slots ∙ again))

pub returns-clause-made : goal.returns-clause-made
returns-clause-made g c = λ part journal is.
    let turn = c.requires.turn in
    let out = taken_out part journal c.unwrap-journal.result c.exchange.result c.args.seat.now.me is c.exchange.ensures.2 c.unwrap-journal.ensures in
    let same = taken_out turn.0 turn.1 c.unwrap-journal.result c.exchange.result c.args.seat.now.me turn.4 c.exchange.ensures.2 c.unwrap-journal.ensures in
    let small : c.args.step.word < length turn.1.words = subst (λ n. c.args.step.word < n) (sym turn.3) turn.2 in
    let told = c.step-found.ensures in
    let now : Journal = c.step-found.new.self in
    let here : Made c.unwrap-journal.result c.args.thread c.args.step c.step-found.result now = record {
      inside = subst (λ (j : Journal). c.args.step.word < length j.words) (sym same) small;
      found_is = told.found;
      words_are = told.words;
      events_are = told.events;
    } in (
      now,
      subst (λ (j : Journal). Made j c.args.thread c.args.step c.step-found.result now) out here,
      put_back part journal now c.args.seat.now.me c.exchange.new.seat.me c.exchange-2.new.seat.me is c.exchange.ensures.3 c.exchange-2.ensures.3,
    )
