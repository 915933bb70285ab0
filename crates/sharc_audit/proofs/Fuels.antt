-- A source run, in which each thread has a fuel of its own, is one with one fuel for all threads.
use Rattle.sharc_audit.proofs.Imports.{◌≡◌, ◌⊎◌, inl, inr, ℕ, ◌+◌, ◌≤◌, Bool, true, false, cond, List, [], ◌∷◌, ◌++◌, length, length-append, map, refl, ap, sym, subst, ◌∙◌, arith, append-nil, eqb-true, ℤ, SourceEvent, Assignment, events_of, is_of, AskLaws, asks, by, answers_of, Follows, SourceRun, SourceRunWith, map_length}

none_more : {A : Type 0} (xs ys : List A) → length (xs ++ ys) ≤ length xs → ys ≡ []
none_more xs [] few = refl
none_more xs (y ∷ ys) few = absurd (omega (arith, few, length-append xs (y ∷ ys)))

other_thread : (t : ℕ) (e : SourceEvent) (S : List SourceEvent) → is_of t e ≡ false → events_of t (e ∷ S) ≡ events_of t S
other_thread t e S i = ap (λ z. cond z (e ∷ events_of t S) (events_of t S)) i

module _ (ask : AskLaws) (m : Assignment) (R : List SourceEvent) where
  -- ---- more fuel
  -- as many events as answers come of each fuel, so more fuel brings none
  same_asked : (fuel more t : ℕ) (a : Follows m R fuel t) → (asks m a.function a.argument (answers_of (events_of t a.after)) (fuel + more)).events ≡ (asks m a.function a.argument (answers_of (events_of t a.after)) fuel).events
  same_asked fuel more t a =
      let answers : List ℤ = answers_of (events_of t a.after) in
      let events : List SourceEvent = (asks m a.function a.argument answers fuel).events in
      let p = (ask.fuel m a.function a.argument answers fuel more).events in
      let few = ask.events m a.function a.argument answers (fuel + more) in
      let count : length answers ≡ length events = map_length (λ (e : SourceEvent). e.answer) (events_of t a.after) ∙ sym (ap length a.asked) ∙ map_length (by t) events in
      let none : p.0 ≡ [] = none_more events p.0 (subst (λ n. length (events ++ p.0) ≤ n) count (subst (λ (l : List SourceEvent). length l ≤ length answers) p.1 few)) in
      p.1 ∙ ap (λ z. events ++ z) none ∙ append-nil events

  pub more_follows : (fuel more t : ℕ) → Follows m R fuel t → Follows m R (fuel + more) t
  more_follows fuel more t a = record {
    function = a.function;
    argument = a.argument;
    before = a.before;
    begins = a.begins;
    after = a.after;
    stands = a.stands;
    own = a.own;
    first = a.first;
    act = a.act;
    answer = a.answer;
    site = a.site;
    by_right = a.by_right;
    asked = ap (map (by t)) (same_asked fuel more t a) ∙ a.asked;
  }

  more_thread : (fuel more t : ℕ) → (events_of t R ≡ []) ⊎ Follows m R fuel t → (events_of t R ≡ []) ⊎ Follows m R (fuel + more) t
  more_thread fuel more t (inl none) = inl none
  more_thread fuel more t (inr a) = inr (more_follows fuel more t a)

  pub more_run : (fuel more : ℕ) → SourceRunWith fuel m R → SourceRunWith (fuel + more) m R
  more_run fuel more run = record { legal = run.legal; threads = λ t. more_thread fuel more t (run.threads t) }

  -- ---- one fuel for all
  -- for each thread that has an event among these
  abbrev Has : List SourceEvent → ℕ → ℕ → Type 0
  Has S fuel t = (events_of t S ≡ []) ⊎ ((events_of t R ≡ []) ⊎ Follows m R fuel t)

  record Enough (S : List SourceEvent) : Type 0 where
    fuel : ℕ
    each : (t : ℕ) → Has S fuel t

  one_more : (e : SourceEvent) (S : List SourceEvent) (fuel : ℕ) (b : Bool) (t : ℕ) → is_of t e ≡ b → ((t : ℕ) → Has S fuel t) → (events_of e.thread R ≡ []) ⊎ Follows m R fuel e.thread → Has (e ∷ S) fuel t
  one_more e S fuel true t i each own = inr (subst (λ u. (events_of u R ≡ []) ⊎ Follows m R fuel u) (eqb-true e.thread t i) own)
  one_more e S fuel false t i each own = elim (each t) [ inl none ↦ inl (other_thread t e S i ∙ none) | inr h ↦ inr h ]

  more_has : (S : List SourceEvent) (fuel more t : ℕ) → Has S fuel t → Has S (fuel + more) t
  more_has S fuel more t (inl none) = inl none
  more_has S fuel more t (inr h) = inr (more_thread fuel more t h)

  with_one : (e : SourceEvent) (S : List SourceEvent) → Enough S → (events_of e.thread R ≡ []) ⊎ ((fuel : ℕ) × Follows m R fuel e.thread) → Enough (e ∷ S)
  with_one e S p (inl none) = record { fuel = p.fuel; each = λ t. one_more e S p.fuel (is_of t e) t refl p.each (inl none) }
  with_one e S p (inr a) =
      let own : Follows m R (p.fuel + a.0) e.thread = subst (λ k. Follows m R k e.thread) (let s : a.0 + p.fuel ≡ p.fuel + a.0 = omega arith in s) (more_follows a.0 p.fuel e.thread a.1) in
      record { fuel = p.fuel + a.0; each = λ t. one_more e S (p.fuel + a.0) (is_of t e) t refl (λ u. more_has S p.fuel a.0 u (p.each u)) (inr own) }

  enough : (S : List SourceEvent) → SourceRun m R → Enough S
  enough [] run = record { fuel = 0; each = λ t. inl refl }
  enough (e ∷ S) run = with_one e S (enough S run) (run.threads e.thread)

  own_has : (fuel t : ℕ) → Has R fuel t → (events_of t R ≡ []) ⊎ Follows m R fuel t
  own_has fuel t (inl none) = inl none
  own_has fuel t (inr h) = h

  pub one_fuel : SourceRun m R → (fuel : ℕ) × SourceRunWith fuel m R
  one_fuel run = let p = enough R run in (p.fuel, record { legal = run.legal; threads = λ t. own_has p.fuel t (p.each t) })
