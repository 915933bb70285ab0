-- Source runs: what comes before in one is one.
use Rattle.sharc_meaning.proofs.{Imports.{◌≡◌, ◌⊎◌, inl, inr, ℕ, ◌+◌, ◌≤◌, List, [], ◌∷◌, ◌++◌, map, refl, sym, ap, ◌∙◌, subst, arith, length, length-append, ℤ, ◌≢◌, SourceEvent, Assignment, Stands, events_of, is_of, RunPrefixes, RunPrefixesWith, Asked, asks, by, answers_of, Follows, Outcome, wants, map_length, map_both, pick}, Asking.{more_answers, more_answers_same, no_more_than_answers, wants_behind_answers}, Legal.prefixes_legal, Growing.{first_nothing as no_front}}

-- ---- lists
pub events_append : (t : ℕ) (a b : List SourceEvent) → events_of t (a ++ b) ≡ events_of t a ++ events_of t b
events_append t [] b = refl
events_append t (x ∷ a) b = pick (is_of t x) x (events_of t (a ++ b)) (events_of t a) (events_of t b) (events_append t a b)

fronts : {A : Type 0} (a b c d : List A) → a ++ b ≡ c ++ d → length a ≡ length c → a ≡ c
fronts [] b [] d h l = refl
fronts [] b (y ∷ c) d h l = absurd (omega arith)
fronts (x ∷ a) b [] d h l = absurd (omega arith)
fronts (x ∷ a) b (y ∷ c) d h l = let same : x ≡ y = cc in let tails : a ++ b ≡ c ++ d = cc in let shorter : length a ≡ length c = omega arith in
    ap (λ z. z ∷ a) same ∙ ap (λ z. y ∷ z) (fronts a b c d tails shorter)

-- where an event of a list in two parts is
pub record InFirst (R S before : List SourceEvent) (e : SourceEvent) (after : List SourceEvent) : Type 0 where
  pub rest : List SourceEvent
  pub stands : Stands R before e rest
  pub behind : after ≡ rest ++ S

pub record InSecond (R before : List SourceEvent) : Type 0 where
  pub rest : List SourceEvent
  pub is : before ≡ R ++ rest

pub first_longer : (r : SourceEvent) (R S before : List SourceEvent) (e : SourceEvent) (after : List SourceEvent) → InFirst R S before e after ⊎ InSecond R before → InFirst (r ∷ R) S (r ∷ before) e after ⊎ InSecond (r ∷ R) (r ∷ before)
first_longer r R S before e after (inl h) = inl (record { rest = h.rest; stands = ap (λ z. r ∷ z) h.stands; behind = h.behind })
first_longer r R S before e after (inr h) = inr (record { rest = h.rest; is = ap (λ z. r ∷ z) h.is })

pub stands_where : (R S before : List SourceEvent) (e : SourceEvent) (after : List SourceEvent) → R ++ S ≡ before ++ e ∷ after → InFirst R S before e after ⊎ InSecond R before
stands_where [] S before e after h = inr (record { rest = before; is = refl })
stands_where (r ∷ R) S [] e after h = let same : r ≡ e = cc in let tails : R ++ S ≡ after = cc in inl (record { rest = R; stands = ap (λ z. z ∷ R) same; behind = sym tails })
stands_where (r ∷ R) S (b ∷ before) e after h = let same : r ≡ b = cc in let tails : R ++ S ≡ before ++ e ∷ after = cc in
    subst (λ z. InFirst (r ∷ R) S (z ∷ before) e after ⊎ InSecond (r ∷ R) (z ∷ before)) same (first_longer r R S before e after (stands_where R S before e after tails))

-- ---- one thread
module _ (m : Assignment) (f : ℕ) (v : ℤ) (fuel t : ℕ) where
  abbrev asked : List ℤ → Asked
  asked answers = asks m f v answers fuel

  not_wanting : (X Y : List SourceEvent) → map (by t) (asked (answers_of X ++ answers_of Y)).events ≡ X ++ Y → ((e : SourceEvent) → (asked (answers_of X)).outcome ≢ wants e) → length (asked (answers_of X)).events ≡ length X
  not_wanting X Y h n =
      let same : asked (answers_of X ++ answers_of Y) ≡ asked (answers_of X) = more_answers_same m f v (answers_of X) (answers_of Y) fuel n in
      let whole : length (map (by t) (asked (answers_of X ++ answers_of Y)).events) ≡ length (X ++ Y) = ap length h in
      let l : length (map (by t) (asked (answers_of X ++ answers_of Y)).events) ≡ length (asked (answers_of X ++ answers_of Y)).events = map_length (by t) (asked (answers_of X ++ answers_of Y)).events in
      let k : length (asked (answers_of X ++ answers_of Y)).events ≡ length (asked (answers_of X)).events = ap (λ z. length z.events) same in
      let sum : length (X ++ Y) ≡ length X + length Y = length-append X Y in
      let few : length (asked (answers_of X)).events ≤ length (answers_of X) = no_more_than_answers m f v (answers_of X) fuel in
      let x : length (answers_of X) ≡ length X = map_length (λ e. e.answer) X in
      omega arith

  -- it asks for as many events as it has, where it goes on with the answers of more
  as_many : (X Y : List SourceEvent) → map (by t) (asked (answers_of X ++ answers_of Y)).events ≡ X ++ Y → (o : Outcome) → (asked (answers_of X)).outcome ≡ o → length (asked (answers_of X)).events ≡ length X
  as_many X Y h (wants e) o = wants_behind_answers m f v (answers_of X) fuel e o ∙ map_length (λ e. e.answer) X
  as_many X Y h _ o = not_wanting X Y h (λ e w. absurd (cc))

  pub asked_before : (X Y : List SourceEvent) → map (by t) (asked (answers_of (X ++ Y))).events ≡ X ++ Y → map (by t) (asked (answers_of X)).events ≡ X
  asked_before X Y h =
      let k : map (by t) (asked (answers_of X ++ answers_of Y)).events ≡ X ++ Y = subst (λ l. map (by t) (asked l).events ≡ X ++ Y) (map_both (λ e. e.answer) X Y) h in
      let p = more_answers m f v (answers_of X) (answers_of Y) fuel in
      let parts : map (by t) (asked (answers_of X)).events ++ map (by t) p.events.0 ≡ X ++ Y = sym (map_both (by t) (asked (answers_of X)).events p.events.0) ∙ ap (map (by t)) (sym p.events.1) ∙ k in
      fronts (map (by t) (asked (answers_of X)).events) (map (by t) p.events.0) X Y parts (map_length (by t) (asked (answers_of X)).events ∙ as_many X Y k (asked (answers_of X)).outcome refl)

module _ (m : Assignment) (R S : List SourceEvent) (fuel t : ℕ) where
  abbrev pub asks_in_first : (a : Follows m (R ++ S) fuel t) → InFirst R S a.before a.begins a.after → Follows m R fuel t
  asks_in_first a i =
      let both : events_of t a.after ≡ events_of t i.rest ++ events_of t S = ap (events_of t) i.behind ∙ events_append t i.rest S in
      record {
        function = a.function;
        argument = a.argument;
        before = a.before;
        begins = a.begins;
        after = i.rest;
        stands = i.stands;
        own = a.own;
        first = a.first;
        act = a.act;
        answer = a.answer;
        site = a.site;
        by_right = a.by_right;
        asked = asked_before m a.function a.argument fuel t (events_of t i.rest) (events_of t S)
            (subst (λ l. map (by t) (asks m a.function a.argument (answers_of l) fuel).events ≡ l) both a.asked);
      }

  asks_before : Follows m (R ++ S) fuel t → (events_of t R ≡ []) ⊎ Follows m R fuel t
  asks_before a = by_place (stands_where R S a.before a.begins a.after a.stands)
    where
      by_place : InFirst R S a.before a.begins a.after ⊎ InSecond R a.before → (events_of t R ≡ []) ⊎ Follows m R fuel t
      by_place (inl i) = inr (asks_in_first a i)
      by_place (inr i) = inl (no_front (events_of t R) (events_of t i.rest) (sym (events_append t R i.rest) ∙ ap (events_of t) (sym i.is) ∙ a.first))

none_before : (R S : List SourceEvent) (t : ℕ) → events_of t (R ++ S) ≡ [] → events_of t R ≡ []
none_before R S t h = no_front (events_of t R) (events_of t S) (sym (events_append t R S) ∙ h)

pub run_prefixes : RunPrefixes
run_prefixes m R S run = record { legal = prefixes_legal m.typed R S run.legal; threads = λ t. thread t (run.threads t) }
  where
    with_fuel : (t fuel : ℕ) → (events_of t R ≡ []) ⊎ Follows m R fuel t → (events_of t R ≡ []) ⊎ ((fuel : ℕ) × Follows m R fuel t)
    with_fuel t fuel (inl h) = inl h
    with_fuel t fuel (inr a) = inr (fuel, a)

    thread : (t : ℕ) → (events_of t (R ++ S) ≡ []) ⊎ ((fuel : ℕ) × Follows m (R ++ S) fuel t) → (events_of t R ≡ []) ⊎ ((fuel : ℕ) × Follows m R fuel t)
    thread t (inl h) = inl (none_before R S t h)
    thread t (inr (fuel, a)) = with_fuel t fuel (asks_before m R S fuel t a)

pub run_prefixes_with : RunPrefixesWith
run_prefixes_with fuel m R S run = record { legal = prefixes_legal m.typed R S run.legal; threads = λ t. thread t (run.threads t) }
  where
    thread : (t : ℕ) → (events_of t (R ++ S) ≡ []) ⊎ Follows m (R ++ S) fuel t → (events_of t R ≡ []) ⊎ Follows m R fuel t
    thread t (inl h) = inl (none_before R S t h)
    thread t (inr a) = asks_before m R S fuel t a
