-- The turn may be passed on: the event of the step goes to the end of the history, and of its port's part.
use Rattle.sharc_record.proofs.{Imports.{◌≡◌, ◌≢◌, ℕ, suc, ◌+◌, ◌%◌, ◌^◌, ◌<◌, ◌≤◌, inl, ⊎_elim, List, [], ◌∷◌, ◌++◌, length, drop, slice_index, set as slice_set, refl, sym, ap, ◌∙◌, subst, arith, append_assoc, eq-eqb, ne_eqb, append-nil, filter-append, mod-add-mod, Some, some, none, get_elem?, Me, Allows, gives, at_set, WordStep, WordEvent, words_after_step, words_after, MayFollow, events_of, event_of, HistoryLaws, Journal, Part, Idle, View, Slot, IsAmong, IsNew, AreNew, AreBelow, IsRight, PartIs, TurnIs, JournalRule, idle, having, passed, Made, MadeStep, stepped}, Kept.{St, Homes, among_one, one_part, turn_passed, head_is}}

pub events_push_same : (thread : ℕ) (history : List WordEvent) (e : WordEvent) → e.thread ≡ thread → events_of thread (history ++ e ∷ []) ≡ events_of thread history ++ e ∷ []
events_push_same thread history e is = rw (filter-append, eq-eqb e.thread thread is)

pub events_push_other : (thread : ℕ) (history : List WordEvent) (e : WordEvent) → e.thread ≢ thread → events_of thread (history ++ e ∷ []) ≡ events_of thread history
events_push_other thread history e not = rw (filter-append, ne_eqb e.thread thread not) (append-nil (events_of thread history))

-- what is after the first events
pub drop_first : (xs ys : List WordEvent) → drop (length xs) (xs ++ ys) ≡ ys
drop_first [] ys = refl
drop_first (x ∷ xs) ys = drop_first xs ys

-- what a seat with the turn is once that is passed on
pub passed_is : (p : Part) (old now : Journal) (step : WordStep) (found : ℕ) → Made old p.number step found now
    → passed (having p old (Some now)) ≡ idle (stepped p step found)
passed_is p old now step found made =
    ap (λ (es : List WordEvent). let m : Me Slot View = (record { parts = record { number = p.number; count = p.count; events = p.events ++ es } ∷ []; turn = Idle }, []) in m)
    (ap (λ (es : List WordEvent). drop (length old.events.items) es) made.events_are ∙ drop_first old.events.items (event_of p.number step found ∷ []))

module _ (laws : HistoryLaws) (opened : Journal) (ports : ℕ) (s : St) (kept : JournalRule opened ports s) (id : ℕ) (p : Part) (old now : Journal) (at : get_elem? s.views id ≡ some (having p old (Some now)).0)
    (step : WordStep) (found : ℕ) (made : Made old p.number step found now) where
  abbrev event : WordEvent
  event = event_of p.number step found

  abbrev later : List WordEvent
  later = kept.history ++ event ∷ []

  abbrev next : Part
  next = stepped p step found

  abbrev ticket : ℕ
  ticket = slice_index s.words 1

  abbrev view : View
  view = (idle next).0

  abbrev after : St
  after = record { words = slice_set s.words 1 ((ticket + 1) % 2 ^ 64); homes = slice_set s.homes 0 (some (Some now)); views = slice_set s.views id view }

  here : PartIs opened ports kept.history kept.owner id p
  here = kept.parts_are id (having p old (Some now)).0 p at (inl refl)

  mine : (part : Part) × (p ∷ [] ≡ part ∷ []) × (get_elem? kept.queue 0 ≡ some part.number) × IsRight opened kept.history old × (s.homes ≡ none ∷ [])
  mine = kept.turns_are id (having p old (Some now)).0 at

  queue_is : (q : List ℕ) × (kept.queue ≡ p.number ∷ q)
  queue_is = head_is p.number kept.queue (mine.2 ∙ ap (λ (r : Part). some r.number) (sym (one_part p mine.0 mine.1)))

  may : MayFollow (words_after opened.words kept.history) event
  may = record {
    on_a_word = subst (λ (ws : List ℕ). step.word < length ws) mine.3.words_are made.inside;
    result_is = made.found_is ∙ ap (λ (ws : List ℕ). slice_index ws step.word) mine.3.words_are;
  }

  right_after : IsRight opened later now
  right_after = record {
    words_are = made.words_are ∙ (ap (λ (ws : List ℕ). words_after_step ws step) mine.3.words_are ∙ sym (laws.parts opened.words kept.history (event ∷ [])));
    events_are = made.events_are ∙ (ap (λ (es : List WordEvent). es ++ event ∷ []) mine.3.events_are ∙ append_assoc opened.events.items kept.history (event ∷ []));
  }

  ticket_is : ticket ≡ kept.served % 2 ^ 64
  ticket_is = ap (λ (ws : List ℕ). slice_index ws 1) kept.words_are

  words_later : after.words ≡ (kept.served + 1 + length queue_is.0) % 2 ^ 64 ∷ (kept.served + 1) % 2 ^ 64 ∷ []
  words_later =
      let count : length kept.queue ≡ suc (length queue_is.0) = ap (λ (q : List ℕ). length q) queue_is.1 in
      let first : (kept.served + length kept.queue) % 2 ^ 64 ≡ (kept.served + 1 + length queue_is.0) % 2 ^ 64 = ap (λ n. n % 2 ^ 64) (omega arith) in
      let second : (ticket + 1) % 2 ^ 64 ≡ (kept.served + 1) % 2 ^ 64 = ap (λ n. (n + 1) % 2 ^ 64) ticket_is ∙ mod-add-mod kept.served (2 ^ 64) 1 in
      ap (λ (ws : List ℕ). slice_set ws 1 ((ticket + 1) % 2 ^ 64)) kept.words_are
      ∙ (ap (λ (n : ℕ). n ∷ (ticket + 1) % 2 ^ 64 ∷ []) first ∙ ap (λ (n : ℕ). (kept.served + 1 + length queue_is.0) % 2 ^ 64 ∷ n ∷ []) second)

  here_after : PartIs opened ports later kept.owner id next
  here_after = (ap (λ es. es ++ event ∷ []) here.0 ∙ sym (events_push_same p.number kept.history event refl), here.1, here.2, here.3)

  apart : (seat : ℕ) (v : View) (part : Part) → seat ≢ id → get_elem? s.views seat ≡ some v → IsAmong part v.parts → part.number ≢ p.number
  apart seat v part away there among e = away (sym (kept.parts_are seat v part there among).1 ∙ (ap kept.owner e ∙ here.1))

  parts_after : (seat : ℕ) (v : View) (part : Part) → get_elem? after.views seat ≡ some v → IsAmong part v.parts → PartIs opened ports later kept.owner seat part
  parts_after seat v part there among =
      ⊎_elim
      (λ same.
      let is : part ≡ next = among_one part next (subst (λ (w : View). IsAmong part w.parts) (sym same.1) among) in
      subst (λ (q : Part). PartIs opened ports later kept.owner seat q) (sym is) (subst (λ n. PartIs opened ports later kept.owner n next) (sym same.0) here_after))
      (λ other.
      let kept_there = kept.parts_are seat v part other.1 among in
      let not = apart seat v part other.0 other.1 among in
      (kept_there.0 ∙ sym (events_push_other part.number kept.history event (λ e. not (sym e))), kept_there.1, kept_there.2, kept_there.3))
      (at_set s.views id seat view v there)

  no_others_after : (number : ℕ) → ports ≤ number → events_of number later ≡ []
  no_others_after number beyond =
      let small : p.number < ports = here.2 in
      let not : p.number ≢ number = (λ e. omega arith) in
      events_push_other number kept.history event not ∙ kept.no_others number beyond

  once_is : AreNew (p.number ∷ queue_is.0)
  once_is = subst AreNew queue_is.1 kept.once

  few_is : AreBelow ports (p.number ∷ queue_is.0)
  few_is = subst (λ q. AreBelow ports q) queue_is.1 kept.few

  turns_after : (seat : ℕ) (v : View) → get_elem? after.views seat ≡ some v → TurnIs opened later (kept.served + 1) queue_is.0 after.homes v.parts v.turn
  turns_after seat v there =
      ⊎_elim
      (λ same. subst (λ (w : View). TurnIs opened later (kept.served + 1) queue_is.0 after.homes w.parts w.turn) same.1
      (λ part among. subst (λ (q : Part). IsNew q.number queue_is.0) (sym (among_one part next among)) once_is.0))
      (λ other.
      turn_passed opened kept.history later kept.served p.number queue_is.0 s.homes after.homes v.parts v.turn (λ part among. apart seat v part other.0 other.1 among)
      (subst (λ q. TurnIs opened kept.history kept.served q s.homes v.parts v.turn) queue_is.1 (kept.turns_are seat v other.1)))
      (at_set s.views id seat view v there)

  pub pass_keeps : JournalRule opened ports after
  pass_keeps = record {
    history = later;
    legal = (laws.goes_on opened.words kept.history event).1 (kept.legal, may);
    owner = kept.owner;
    parts_are = parts_after;
    no_others = no_others_after;
    served = kept.served + 1;
    queue = queue_is.0;
    words_are = words_later;
    once = once_is.1;
    few = few_is.1;
    bound = kept.bound;
    turns_are = turns_after;
    stands = inl (now, ap (λ (hs : Homes). slice_set hs 0 (some (Some now))) mine.4, right_after);
  }

pub pass_allowed : (laws : HistoryLaws) (opened : Journal) (ports slots id : ℕ) (me : Me Slot View) → MadeStep me
    → Allows (JournalRule opened ports) slots id me 1 (λ n. (n + 1) % 2 ^ 64) (λ n after. after ≡ passed me)
pass_allowed laws opened ports slots id me m =
    subst (λ x. Allows (JournalRule opened ports) slots id x 1 (λ n. (n + 1) % 2 ^ 64) (λ n after. after ≡ passed x)) (sym m.me_is)
    (λ s kept _ at _. ((idle (stepped m.part m.step m.found)).0, gives, tt, pass_keeps laws opened ports s kept id m.part m.old m.now at m.step m.found m.made, sym (passed_is m.part m.old m.now m.step m.found m.made)))
