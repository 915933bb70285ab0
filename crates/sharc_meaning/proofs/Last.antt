-- The last event of a source run with one fuel was asked for.
use Rattle.sharc_meaning.proofs.{Imports.{◌≡◌, ◌⊎◌, inl, inr, ℕ, List, [], ◌∷◌, ◌++◌, map, refl, sym, ap, ◌∙◌, subst, append-nil, append_assoc, SourceEvent, function_at, Assignment, events_of, Starts, IsNext, AskedFor, LastAsked, asks, by, answers_of, IsNamedAt, IsFirst, IsSpawned, Follows, SourceRunWith, map_both}, Extending.{one_own, is_itself}, Running.{stands_where, asks_in_first, InFirst, InSecond}}

module _ (m : Assignment) (fuel : ℕ) (R : List SourceEvent) (e : SourceEvent) where
  last_starts : (a : Follows m (R ++ e ∷ []) fuel e.thread) → (rest : List SourceEvent) → a.before ≡ R ++ rest → Starts m R e
  last_starts a [] i =
      let same : a.before ≡ R = i ∙ append-nil R in
      let tail : e ∷ [] ≡ a.begins ∷ a.after = tails R (a.begins ∷ a.after) (a.stands ∙ ap (λ l. l ++ a.begins ∷ a.after) same) in
      let is : a.begins ≡ e = cc in
      record {
        function = a.function;
        argument = a.argument;
        first = ap (events_of e.thread) (sym same) ∙ a.first;
        act = ap (λ (z : SourceEvent). z.act) (sym is) ∙ a.act;
        answer = ap (λ (z : SourceEvent). z.answer) (sym is) ∙ a.answer;
        site = subst (λ (z : SourceEvent). IsNamedAt (function_at m.typed a.function) z.site) is a.site;
        by_right = subst (λ l. IsFirst m.typed e.thread a.function a.argument ⊎ IsSpawned l e.thread a.function a.argument) same a.by_right;
      }
    where
      tails : (l k : List SourceEvent) → l ++ e ∷ [] ≡ l ++ k → e ∷ [] ≡ k
      tails [] k h = h
      tails (x ∷ l) k h = tails l k (cc)
  last_starts a (x ∷ rest) i = absurd (too_long R rest (a.begins ∷ a.after) refl (a.stands ∙ ap (λ l. l ++ a.begins ∷ a.after) i ∙ append_assoc R (x ∷ rest) (a.begins ∷ a.after)))
    where
      too_long : (l rest k : List SourceEvent) → k ≡ a.begins ∷ a.after → l ++ e ∷ [] ≡ l ++ (x ∷ (rest ++ k)) → ⊥
      too_long [] rest k kis h = by_rest rest (cc)
        where
          by_rest : (rest : List SourceEvent) → [] ≡ rest ++ k → ⊥
          by_rest [] h = absurd (let z : [] ≡ a.begins ∷ a.after = h ∙ kis in cc)
          by_rest (y ∷ rest) h = absurd (cc)
      too_long (y ∷ l) rest k kis h = too_long l rest k kis (cc)

  last_next : (a : Follows m (R ++ e ∷ []) fuel e.thread) → InFirst R (e ∷ []) a.before a.begins a.after → IsNext m fuel R e
  last_next a i =
      let own = asks_in_first m R (e ∷ []) fuel e.thread a i in
      let events : events_of e.thread a.after ≡ events_of e.thread i.rest ++ e ∷ [] = ap (events_of e.thread) i.behind ∙ one_own e e.thread (is_itself e) i.rest in
      let answers : answers_of (events_of e.thread a.after) ≡ answers_of (events_of e.thread i.rest) ++ e.answer ∷ [] = ap answers_of events ∙ map_both (λ x. x.answer) (events_of e.thread i.rest) (e ∷ []) in
      record {
        own = own;
        comes = ap (λ l. map (by e.thread) (asks m a.function a.argument l fuel).events) (sym answers) ∙ a.asked ∙ events;
      }

  asked_last : SourceRunWith fuel m (R ++ e ∷ []) → AskedFor m fuel R e
  asked_last run = by_case (run.threads e.thread)
    where
      has_one : (l : List SourceEvent) → l ++ e ∷ [] ≡ [] → ⊥
      has_one [] h = absurd (cc)
      has_one (x ∷ l) h = absurd (cc)

      by_place : (a : Follows m (R ++ e ∷ []) fuel e.thread) → InFirst R (e ∷ []) a.before a.begins a.after ⊎ InSecond R a.before → AskedFor m fuel R e
      by_place a (inl i) = inr (last_next a i)
      by_place a (inr i) = inl (last_starts a i.rest i.is)

      by_case : (events_of e.thread (R ++ e ∷ []) ≡ []) ⊎ Follows m (R ++ e ∷ []) fuel e.thread → AskedFor m fuel R e
      by_case (inl none) = absurd (has_one (events_of e.thread R) (sym (one_own e e.thread (is_itself e) R) ∙ none))
      by_case (inr a) = by_place a (stands_where R (e ∷ []) a.before a.begins a.after a.stands)

pub last_asked : LastAsked
last_asked m fuel R e run = asked_last m fuel R e run
