-- The function and the argument of a thread, after the events of a legal store.
use Rattle.sharc_audit.proofs.{Imports.{cases_Bool, ◌≡◌, inl, inr, ℕ, Bool, true, false, cond, List, [], ◌∷◌, ◌++◌, Option, Some, None, refl, ap, sym, ◌∙◌, eq-eqb, ℤ, ◌==◌, ◌||◌, find, drop, if◌then◌else◌, SourceEvent, Resolution, Assignment, events_of, is_of, answers_of, Follows, spawns, LegalStore, main_of, with_zero, spawned_by_event, entry, has_begun, own_answers, FindsEntries}, Lists.events_append}

-- ---- finding

pub find_more : {A : Type 0} (p : A → Bool) (x : A) (xs ys : List A) → find p xs ≡ Some x → find p (xs ++ ys) ≡ Some x
find_more p x [] ys h = absurd (cc)
find_more p x (y ∷ xs) ys h = elim (cases_Bool (p y)) [
  | inl i ↦ ap (λ z. if z then Some y else find p (xs ++ ys)) i ∙ (sym (ap (λ z. if z then Some y else find p xs) i) ∙ h)
  | inr i ↦ ap (λ z. if z then Some y else find p (xs ++ ys)) i ∙ (find_more p x xs ys) (sym (ap (λ z. if z then Some y else find p xs) i) ∙ h)
]

-- it stays
pub entry_more : (r : Resolution) (R S : List SourceEvent) (thread f : ℕ) (v : ℤ) → entry r R thread ≡ Some (f, v) → entry r (R ++ S) thread ≡ Some (f, v)
entry_more r R S thread f v h = by_case (thread == 0) refl
  where
    by_event : (o : Option SourceEvent) → find (spawns thread) R ≡ o → spawned_by_event o ≡ Some (f, v) → spawned_by_event (find (spawns thread) (R ++ S)) ≡ Some (f, v)
    by_event None i k = absurd (cc)
    by_event (Some e) i k = ap spawned_by_event (find_more (spawns thread) e R S i) ∙ k

    by_case : (b : Bool) → (thread == 0) ≡ b → entry r (R ++ S) thread ≡ Some (f, v)
    by_case true i = ap (λ b. if b then with_zero (main_of r) else spawned_by_event (find (spawns thread) (R ++ S))) i ∙ (sym (ap (λ b. if b then with_zero (main_of r) else spawned_by_event (find (spawns thread) R)) i) ∙ h)
    by_case false i = ap (λ b. if b then with_zero (main_of r) else spawned_by_event (find (spawns thread) (R ++ S))) i
        ∙ by_event (find (spawns thread) R) refl (sym (ap (λ b. if b then with_zero (main_of r) else spawned_by_event (find (spawns thread) R)) i) ∙ h)

-- ---- a thread that has begun

pub begun_events : (R : List SourceEvent) (thread : ℕ) → has_begun R thread ≡ false → events_of thread R ≡ []
begun_events [] thread h = refl
begun_events (e ∷ R) thread h = elim (cases_Bool (is_of thread e)) [
  | inl i ↦ absurd (let z : true ≡ false = sym (ap (λ z. z || has_begun R thread) i) ∙ h in cc)
  | inr i ↦ ap (λ z. cond z (e ∷ events_of thread R) (events_of thread R)) i ∙ (begun_events R thread) (sym (ap (λ z. z || has_begun R thread) i) ∙ h)
]

pub events_begun : (R : List SourceEvent) (thread : ℕ) → events_of thread R ≡ [] → has_begun R thread ≡ false
events_begun [] thread h = refl
events_begun (e ∷ R) thread h = elim (cases_Bool (is_of thread e)) [
  | inl i ↦ absurd (let z : e ∷ events_of thread R ≡ [] = sym (ap (λ z. cond z (e ∷ events_of thread R) (events_of thread R)) i) ∙ h in cc)
  | inr i ↦ ap (λ z. z || has_begun R thread) i ∙ (events_begun R thread) (sym (ap (λ z. cond z (e ∷ events_of thread R) (events_of thread R)) i) ∙ h)
]

module _ (m : Assignment) (R : List SourceEvent) (fuel thread : ℕ) (a : Follows m R fuel thread) where
  pub own_events : events_of thread R ≡ a.begins ∷ events_of thread a.after
  own_events =
      let here : is_of thread a.begins ≡ true = eq-eqb a.begins.thread thread a.own in
      ap (events_of thread) a.stands ∙ events_append thread a.before (a.begins ∷ a.after) ∙ ap (λ l. l ++ events_of thread (a.begins ∷ a.after)) a.first ∙ ap (λ z. cond z (a.begins ∷ events_of thread a.after) (events_of thread a.after)) here

  pub own_told : own_answers R thread ≡ answers_of (events_of thread a.after)
  own_told = ap (λ l. answers_of (drop 1 l)) own_events

  pub follows_begun : has_begun R thread ≡ true
  follows_begun = elim (cases_Bool (has_begun R thread)) [ inl i ↦ i | inr i ↦ absurd (let z : a.begins ∷ events_of thread a.after ≡ [] = sym own_events ∙ begun_events R thread i in cc) ]

  pub follows_entry : FindsEntries m.typed → LegalStore m.typed R → entry m.typed R thread ≡ Some (a.function, a.argument)
  follows_entry one legal = one.found R legal thread a.function a.argument a.before (a.begins ∷ a.after) a.stands a.by_right
