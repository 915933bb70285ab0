-- The function and the argument of a thread that has begun, and what it answers to, after the events of a legal store.
use Rattle.sharc_meaning_tests.proofs.Imports.{◌≡◌, inl, inr, ℕ, true, false, cond, List, [], ◌∷◌, ◌++◌, Some, refl, ap, sym, ◌∙◌, eq-eqb, ◌||◌, drop, list_any, SourceEvent, Assignment, events_of, is_of, answers_of, Follows, LegalStore, entry, own_answers, FindsEntries, cases_Bool, pick}

append_own : (t : ℕ) (a b : List SourceEvent) → events_of t (a ++ b) ≡ events_of t a ++ events_of t b
append_own t [] b = refl
append_own t (x ∷ a) b = pick (is_of t x) x (events_of t (a ++ b)) (events_of t a) (events_of t b) (append_own t a b)

-- ---- a thread that has begun

pub begun_events : (R : List SourceEvent) (thread : ℕ) → list_any (is_of thread) R ≡ false → events_of thread R ≡ []
begun_events [] thread h = refl
begun_events (e ∷ R) thread h = elim (cases_Bool (is_of thread e)) [
  | inl i ↦ absurd (let z : true ≡ false = sym (ap (λ z. z || list_any (is_of thread) R) i) ∙ h in cc)
  | inr i ↦ ap (λ z. cond z (e ∷ events_of thread R) (events_of thread R)) i ∙ begun_events R thread (sym (ap (λ z. z || list_any (is_of thread) R) i) ∙ h)
]

pub events_begun : (R : List SourceEvent) (thread : ℕ) → events_of thread R ≡ [] → list_any (is_of thread) R ≡ false
events_begun [] thread h = refl
events_begun (e ∷ R) thread h = elim (cases_Bool (is_of thread e)) [
  | inl i ↦ absurd (let z : e ∷ events_of thread R ≡ [] = sym (ap (λ z. cond z (e ∷ events_of thread R) (events_of thread R)) i) ∙ h in cc)
  | inr i ↦ ap (λ z. z || list_any (is_of thread) R) i ∙ events_begun R thread (sym (ap (λ z. cond z (e ∷ events_of thread R) (events_of thread R)) i) ∙ h)
]

module _ (m : Assignment) (R : List SourceEvent) (fuel thread : ℕ) (a : Follows m R fuel thread) where
  pub own_events : events_of thread R ≡ a.begins ∷ events_of thread a.after
  own_events =
      let here : is_of thread a.begins ≡ true = eq-eqb a.begins.thread thread a.own in
      ap (events_of thread) a.stands ∙ append_own thread a.before (a.begins ∷ a.after) ∙ ap (λ l. l ++ events_of thread (a.begins ∷ a.after)) a.first ∙ ap (λ z. cond z (a.begins ∷ events_of thread a.after) (events_of thread a.after)) here

  pub own_told : own_answers R thread ≡ answers_of (events_of thread a.after)
  own_told = ap (λ l. drop 1 (answers_of l)) own_events

  pub follows_begun : list_any (is_of thread) R ≡ true
  follows_begun = elim (cases_Bool (list_any (is_of thread) R)) [ inl i ↦ i | inr i ↦ absurd (let z : a.begins ∷ events_of thread a.after ≡ [] = sym own_events ∙ begun_events R thread i in cc) ]

  pub follows_entry : FindsEntries m.typed → LegalStore m.typed R → entry m.typed R thread ≡ Some (a.function, a.argument)
  follows_entry one legal = one.found R legal thread a.function a.argument a.before (a.begins ∷ a.after) a.stands a.by_right
