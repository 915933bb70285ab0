-- What the rule keeps of other seats where one seat's view changes.
use Rattle.sharc_record.proofs.{Imports.{PartIs, JournalStands, JournalRule, at_set, ◌≡◌, ◌≢◌, ℕ, zero, suc, ◌+◌, ◌%◌, ◌^◌, inl, ⊎_elim, List, [], ◌∷◌, ◌++◌, set as slice_set, refl, sym, ap, ◌∙◌, subst, arith, dite, some, none, some-injective, some-ne-none, ℕ_discrete, get_elem?, State, at_longer, set_else, WordEvent, Journal, Part, Turn, Idle, Drawn, Has, View, Slot, IsAmong, TurnIs}, Queue.new_snoc}
use mathlib.Core.Option.{Option}

abbrev pub St : Type 0
St = State Slot View

abbrev pub Homes : Type 0
Homes = List (Option Slot)

pub idle_not_had : (journal : Journal) → ¬ (Idle ≡ Has journal)
idle_not_had journal e = cc

pub drawn_not_had : (ticket : ℕ) (journal : Journal) → ¬ (Drawn ticket ≡ Has journal)
drawn_not_had ticket journal e = cc

-- one more is in the queue
pub turn_longer : (opened : Journal) (history : List WordEvent) (served : ℕ) (queue : List ℕ) (homes : Homes) (n : ℕ) (parts : List Part) (turn : Turn)
    → ((part : Part) → IsAmong part parts → part.number ≢ n) → TurnIs opened history served queue homes parts turn → TurnIs opened history served (queue ++ n ∷ []) homes parts turn
turn_longer opened history served queue homes n parts Idle apart is = (λ part among. new_snoc part.number n queue (apart part among) (is part among))
turn_longer opened history served queue homes n parts (Drawn ticket) apart is =
    (is.0, is.1, (is.2.0, at_longer queue (n ∷ []) is.2.0 is.0.number is.2.1, is.2.2))
turn_longer opened history served queue homes n parts (Has journal) apart is =
    (is.0, is.1, at_longer queue (n ∷ []) 0 is.0.number is.2, is.3, is.4)

-- a seat that has the turn keeps it where another's view changes
pub had_stays : (views : List View) (id : ℕ) (old new v : View) (seat : ℕ) (journal : Journal) → get_elem? views id ≡ some old → ¬ (old.turn ≡ Has journal)
    → get_elem? views seat ≡ some v → v.turn ≡ Has journal → get_elem? (slice_set views id new) seat ≡ some v
had_stays views id old new v seat journal at not there had =
    dite (ℕ_discrete seat id)
    (λ e. absurd (not (ap (λ (w : View). w.turn) (some-injective old v (sym at ∙ (ap (λ n. get_elem? views n) (sym e) ∙ there))) ∙ had)))
    (λ apart. set_else views id seat new apart ∙ there)

pub among_one : (part p : Part) → IsAmong part (p ∷ []) → part ≡ p
among_one part p h = ⊎_elim (λ e. e) (λ no. absurd no) h

-- the one part of a list
pub one_part : (p q : Part) → p ∷ [] ≡ q ∷ [] → p ≡ q
one_part p q e = some-injective p q (ap (λ (ps : List Part). get_elem? ps 0) e)

-- no seat had the turn while the journal was in its slot
pub turn_away : (opened : Journal) (history : List WordEvent) (served : ℕ) (queue : List ℕ) (homes other : Homes) (slot : Slot) (parts : List Part) (turn : Turn)
    → homes ≡ some slot ∷ [] → TurnIs opened history served queue homes parts turn → TurnIs opened history served queue other parts turn
turn_away opened history served queue homes other slot parts Idle full is = is
turn_away opened history served queue homes other slot parts (Drawn ticket) full is = is
turn_away opened history served queue homes other slot parts (Has journal) full is =
    absurd (some-ne-none slot (some-injective (some slot) none (ap (λ (hs : Homes). get_elem? hs 0) (sym full ∙ is.4))))

-- the first of the queue leaves it
pub turn_passed : (opened : Journal) (history later : List WordEvent) (served n : ℕ) (queue : List ℕ) (homes other : Homes) (parts : List Part) (turn : Turn)
    → ((part : Part) → IsAmong part parts → part.number ≢ n) → TurnIs opened history served (n ∷ queue) homes parts turn → TurnIs opened later (served + 1) queue other parts turn
turn_passed opened history later served n queue homes other parts Idle apart is = (λ part among. (is part among).1)
turn_passed opened history later served n queue homes other parts (Drawn ticket) apart is =
    further is.2.0 is.2.1 is.2.2 where
      further : (place : ℕ) → get_elem? (n ∷ queue) place ≡ some is.0.number → ticket ≡ (served + place) % 2 ^ 64 → TurnIs opened later (served + 1) queue other parts (Drawn ticket)
      further zero e t = absurd (apart is.0 (subst (λ ps. IsAmong is.0 ps) (sym is.1) (inl refl)) (sym (some-injective n is.0.number e)))
      further (suc place) e t = (is.0, is.1, (place, e, t ∙ ap (λ k. k % 2 ^ 64) (omega arith)))
turn_passed opened history later served n queue homes other parts (Has journal) apart is =
    absurd (apart is.0 (subst (λ ps. IsAmong is.0 ps) (sym is.1) (inl refl)) (sym (some-injective n is.0.number is.2)))

pub head_is : (n : ℕ) (queue : List ℕ) → get_elem? queue 0 ≡ some n → (q : List ℕ) × (queue ≡ n ∷ q)
head_is n [] e = absurd (some-ne-none n (sym e))
head_is n (x ∷ xs) e = (xs, ap (λ (m : ℕ). m ∷ xs) (some-injective x n e))

-- ---- a table with other views
-- the rule holds of it, in the same round with the same queue
pub with_views : (opened : Journal) (ports : ℕ) (s next : St) (kept : JournalRule opened ports s) (owner : ℕ → ℕ) → next.words ≡ s.words
    → ((seat : ℕ) (v : View) (part : Part) → get_elem? next.views seat ≡ some v → IsAmong part v.parts → PartIs opened ports kept.history owner seat part)
    → ((seat : ℕ) (v : View) → get_elem? next.views seat ≡ some v → TurnIs opened kept.history kept.served kept.queue next.homes v.parts v.turn)
    → JournalStands opened kept.history next → JournalRule opened ports next
with_views opened ports s next kept owner words parts turns stands = record {
  history = kept.history;
  legal = kept.legal;
  owner = owner;
  parts_are = parts;
  no_others = kept.no_others;
  served = kept.served;
  queue = kept.queue;
  words_are = words ∙ kept.words_are;
  once = kept.once;
  few = kept.few;
  bound = kept.bound;
  turns_are = turns;
  stands = stands;
}

abbrev pub alone : Part → Turn → View
alone p turn = record { parts = p ∷ []; turn = turn }

-- a seat with one part keeps it, whatever becomes of its turn
pub one_part_stays : (opened : Journal) (ports : ℕ) (s : St) (kept : JournalRule opened ports s) (id : ℕ) (p : Part) (turn : Turn) → PartIs opened ports kept.history kept.owner id p
    → (seat : ℕ) (v : View) (part : Part) → get_elem? (slice_set s.views id (alone p turn)) seat ≡ some v → IsAmong part v.parts → PartIs opened ports kept.history kept.owner seat part
one_part_stays opened ports s kept id p turn here seat v part there among =
    ⊎_elim
    (λ same.
    let is : part ≡ p = among_one part p (subst (λ (w : View). IsAmong part w.parts) (sym same.1) among) in
    subst (λ (q : Part). PartIs opened ports kept.history kept.owner seat q) (sym is) (subst (λ n. PartIs opened ports kept.history kept.owner n p) (sym same.0) here))
    (λ other. kept.parts_are seat v part other.1 among)
    (at_set s.views id seat (alone p turn) v there)
