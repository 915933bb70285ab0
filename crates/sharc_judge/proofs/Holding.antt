-- Which mutexes a thread holds, by the last event of each that is its own.
use Rattle.std.proofs.{Common.{◌≡◌, inl, inr, ℕ, ◌==◌, Bool, true, false, ◌&&◌, ◌||◌, List, [], ◌∷◌, ◌++◌, Option, Some, None, refl, ap, sym, ◌∙◌}, lemmas.Bool.{and_parts, and_from, and_left, and_right, or_left, or_right, or_cases, or_parts, or_from, not_from_true, not_from_false, both_ways, false_from_ne_true}, lemmas.List.Folds.list_any-append}
use Rattle.std.specs.List.{list_any}
use Rattle.sharc_tree.specs.{declared.event.CellAt.CellAt, declared.event.SourceEvent.SourceEvent}
use Rattle.sharc_meaning.specs.Events.{locks, unlocks, Stands}
use Rattle.sharc_judge.specs.declared.history.Test.TheVariants as test
use Rattle.sharc_judge.specs.declared.pair.Pair.TheVariants as pair
use Rattle.sharc_judge.specs.{Deciding.{test_of, any_pair, pair_of}, declared.table.Noted.Noted, Latest.{latest_at, latest_about}, Topics.cell_key}
use Rattle.sharc_judge.specs.declared.topics.Topic.TheVariants as topic
use Rattle.sharc_judge.proofs.{About.about_hold, Latest.{IsLast, last_stands, none_meets, latest_same}, PlacePairs.{from_each_pair, pair_found, Order, in_order, none_at}, Storing.meets_noted}

none_implied : (p q : SourceEvent → Bool) (l : List SourceEvent) → ((e : SourceEvent) → q e ≡ true → p e ≡ true) → list_any p l ≡ false → list_any q l ≡ false
none_implied p q [] so h = refl
none_implied p q (e ∷ l) so h =
    let parts = or_parts (p e) (list_any p l) h in
    or_from (q e) (list_any q l) (false_from_ne_true (q e) (λ k. both_ways (p e) parts.0 (so e k))) (none_implied p q l so parts.1)

among : (q : SourceEvent → Bool) (between : List SourceEvent) (e : SourceEvent) (after l : List SourceEvent) → l ≡ between ++ e ∷ after → q e ≡ true → list_any q l ≡ true
among q between e after l is h = ap (list_any q) is ∙ list_any-append q between (e ∷ after) ∙ or_right (list_any q between) (q e || list_any q after) (or_left (q e) (list_any q after) h)

module _ (c : CellAt) (t : ℕ) (R : List SourceEvent) where
  abbrev own : SourceEvent → Bool
  own e = (e.thread == t) && (locks c e || unlocks c e)

  abbrev releases : SourceEvent → Bool
  releases = test_of (test.Unlocks c t)

  abbrev q : SourceEvent → List SourceEvent → Bool
  q = pair_of (pair.Holds c t)

  takes_own : (d : SourceEvent) → own d ≡ false → ((d.thread == t) && locks c d) ≡ false
  takes_own d h = false_from_ne_true _ (λ k. let p = and_parts (d.thread == t) (locks c d) k in both_ways (own d) h (and_from _ _ p.0 (or_left (locks c d) (unlocks c d) p.1)))

  releases_own : (e : SourceEvent) → releases e ≡ true → own e ≡ true
  releases_own e k = let p = and_parts (e.thread == t) (unlocks c e) k in and_from _ _ p.0 (or_right (locks c e) (unlocks c e) p.1)

  by_last : (o : Option Noted) → latest_at own R ≡ o → meets_noted (locks c) o ≡ any_pair q R
  by_last None h = sym (from_each_pair q R (λ b d after is. and_left _ _ (takes_own d (none_at own b d after R is (none_meets own R h)))))
  by_last (Some noted) h = by_lock (locks c noted.event) refl
    where
      s : IsLast own 0 R noted
      s = last_stands own R noted h

      parts : ((noted.event.thread == t) ≡ true) × ((locks c noted.event || unlocks c noted.event) ≡ true)
      parts = and_parts (noted.event.thread == t) (locks c noted.event || unlocks c noted.event) s.meets

      by_lock : (b : Bool) → locks c noted.event ≡ b → locks c noted.event ≡ any_pair q R
      by_lock true i = i ∙ sym (pair_found q R s.before noted.event s.after s.stands (and_from _ _ (and_from _ _ parts.0 i) (not_from_false _ (none_implied own releases s.after releases_own s.none))))
      by_lock false i = i ∙ sym (from_each_pair q R (λ b d after is. each b d after is (in_order R b d after s.before noted.event s.after is s.stands)))
        where
          released : unlocks c noted.event ≡ true
          released = elim (or_cases (locks c noted.event) (unlocks c noted.event) parts.1) [ inl j ↦ absurd (both_ways _ i j) | inr j ↦ j ]

          each : (b : List SourceEvent) (d : SourceEvent) (after : List SourceEvent) → Stands R b d after → Order b d after s.before noted.event s.after → q d after ≡ false
          each b d after is (inl o) = and_left _ _ (and_right _ _ (ap (locks c) o.event ∙ i))
          each b d after is (inr (inl o)) = and_right _ _ (not_from_true _ (among releases o.between noted.event s.after after o.after (and_from _ _ parts.0 released)))
          each b d after is (inr (inr o)) = and_left _ _ (takes_own d (none_at own o.between d after s.after o.after s.none))

  pub held_is : meets_noted (locks c) (latest_about (topic.Hold t (cell_key c)) R) ≡ any_pair (pair_of (pair.Holds c t)) R
  held_is = ap (meets_noted (locks c)) (latest_same _ own R (λ e. about_hold t c e e.act)) ∙ by_last (latest_at own R) refl
