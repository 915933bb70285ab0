-- The lowest of the threads that wait.
use Rattle.std.proofs.{Common.{◌≡◌, ◌↔◌, ◌⊎◌, inl, inr, ℕ, ℤ, pos, ◌+◌, ◌<◌, ◌≤◌, nat_lt, Bool, true, false, ◌||◌, List, [], ◌∷◌, reverse, Option, Some, None, if◌then◌else◌, refl, ap, sym, subst, ◌∙◌, arith}, Math.Bool.or-false, lemmas.Bool.{cases_Bool, ltb-true, ltb-false, eqb-true, and_parts, or_cases, or_left, or_right, both_ways, cases_order}, lemmas.List.reverse-append, lemmas.List.Folds.list_any-append}
use Rattle.std.specs.List.{list_any, find}
use Rattle.sharc_tree.specs.{declared.event.CellAt.CellAt, declared.event.SourceEvent.SourceEvent}
use Rattle.sharc_meaning.specs.{Events.is_of, Store.{meets, enters, takes_away, is_waiter, Signals}}
use Rattle.sharc_judge.specs.Deciding.{or_lower, lower_waiter, lowest_from, lowest_waiter, waiter_answer}

-- ---- who waits has an event

behind_first : (p : SourceEvent → Bool) (e : SourceEvent) (l : List SourceEvent) → list_any p l ≡ true → list_any p (e ∷ l) ≡ true
behind_first p e l h = or_right (p e) (list_any p l) h

is_first : (p : SourceEvent → Bool) (e : SourceEvent) (l : List SourceEvent) → p e ≡ true → list_any p (e ∷ l) ≡ true
is_first p e l h = or_left (p e) (list_any p l) h

found_any : (p q : SourceEvent → Bool) (l : List SourceEvent) → meets p (find q l) ≡ true → list_any p l ≡ true
found_any p q [] h = h
found_any p q (e ∷ l) h = elim (cases_Bool (q e)) [
  | inl i ↦ is_first p e l (sym (ap (λ z. meets p (if z then Some e else find q l)) i) ∙ h)
  | inr i ↦ behind_first p e l ((found_any p q l) (sym (ap (λ z. meets p (if z then Some e else find q l)) i) ∙ h))
]

turned_any : (p : SourceEvent → Bool) (l : List SourceEvent) → list_any p (reverse l) ≡ true → list_any p l ≡ true
turned_any p [] h = h
turned_any p (e ∷ l) h = by_cases (turned_any p l) (or_cases _ _ (sym (ap (list_any p) (reverse-append (e ∷ []) l) ∙ list_any-append p (reverse l) (e ∷ [])) ∙ h))
  where
    by_cases : (list_any p (reverse l) ≡ true → list_any p l ≡ true) → (list_any p (reverse l) ≡ true) ⊎ (list_any p (e ∷ []) ≡ true) → list_any p (e ∷ l) ≡ true
    by_cases more (inl i) = behind_first p e l (more i)
    by_cases more (inr i) = is_first p e l (sym (or-false (p e)) ∙ i)

more_any : (p q : SourceEvent → Bool) → ((e : SourceEvent) → p e ≡ true → q e ≡ true) → (l : List SourceEvent) → list_any p l ≡ true → list_any q l ≡ true
more_any p q h [] i = i
more_any p q h (e ∷ l) i = by_cases (more_any p q h l) (or_cases _ _ i)
  where
    by_cases : (list_any p l ≡ true → list_any q l ≡ true) → (p e ≡ true) ⊎ (list_any p l ≡ true) → list_any q (e ∷ l) ≡ true
    by_cases more (inl j) = is_first q e l (h e j)
    by_cases more (inr j) = behind_first q e l (more j)

module _ (before : List SourceEvent) (c : CellAt) where
  waiter_is_there : (thread : ℕ) → is_waiter before c thread ≡ true → list_any (is_of thread) before ≡ true
  waiter_is_there thread h = more_any (enters c thread) (is_of thread) (λ e i. (and_parts _ _ i).1) before
      (turned_any (enters c thread) before (found_any (enters c thread) (λ e. enters c thread e || takes_away c thread e) (reverse before) h))

  -- ---- the lowest

  abbrev pub Waits : Option ℕ → Type 0
  Waits None = Unit {0}
  Waits (Some thread) = is_waiter before c thread ≡ true

  abbrev pub IsAtMost : Option ℕ → ℕ → Type 0
  IsAtMost None n = ⊥
  IsAtMost (Some thread) n = thread ≤ n

  lower_waits : (b : Bool) (thread : ℕ) (least : Option ℕ) → is_waiter before c thread ≡ b → Waits least → Waits (or_lower b thread least)
  lower_waits false thread least e w = w
  lower_waits true thread None e w = e
  lower_waits true thread (Some other) e w = by_cases (nat_lt thread other)
    where
      by_cases : (b : Bool) → Waits (Some (if b then thread else other))
      by_cases true = e
      by_cases false = w

  pub waits_from : (least : Option ℕ) (l : List SourceEvent) → Waits least → Waits (lowest_from before c least l)
  waits_from least [] w = w
  waits_from least (e ∷ l) w = waits_from (lower_waiter before c e least) l (lower_waits (is_waiter before c e.thread) e.thread least refl w)

  still_most : (b : Bool) (thread : ℕ) (least : Option ℕ) (n : ℕ) → IsAtMost least n → IsAtMost (or_lower b thread least) n
  still_most false thread least n h = h
  still_most true thread None n h = absurd (h)
  still_most true thread (Some other) n h = by_cases (nat_lt thread other) refl
    where
      by_cases : (b : Bool) → nat_lt thread other ≡ b → IsAtMost (Some (if b then thread else other)) n
      by_cases true e = let less = ltb-true thread other e in omega (arith, less, h)
      by_cases false e = h

  most_from : (least : Option ℕ) (l : List SourceEvent) (n : ℕ) → IsAtMost least n → IsAtMost (lowest_from before c least l) n
  most_from least [] n h = h
  most_from least (e ∷ l) n h = most_from (lower_waiter before c e least) l n (still_most (is_waiter before c e.thread) e.thread least n h)

  lower_most : (thread : ℕ) (least : Option ℕ) → IsAtMost (or_lower true thread least) thread
  lower_most thread None = omega arith
  lower_most thread (Some other) = by_cases (nat_lt thread other) refl
    where
      by_cases : (b : Bool) → nat_lt thread other ≡ b → IsAtMost (Some (if b then thread else other)) thread
      by_cases true e = omega arith
      by_cases false e = let more = ltb-false thread other e in omega (arith, more)

  below_from : (least : Option ℕ) (l : List SourceEvent) (thread : ℕ) → is_waiter before c thread ≡ true → list_any (is_of thread) l ≡ true → IsAtMost (lowest_from before c least l) thread
  below_from least [] thread w h = absurd (cc)
  below_from least (e ∷ l) thread w h = by_cases (below_from (lower_waiter before c e least) l thread w) (or_cases _ _ h)
    where
      by_cases : (list_any (is_of thread) l ≡ true → IsAtMost (lowest_from before c (lower_waiter before c e least) l) thread) → (is_of thread e ≡ true) ⊎ (list_any (is_of thread) l ≡ true) → IsAtMost (lowest_from before c least (e ∷ l)) thread
      by_cases more (inl i) =
          let same = eqb-true e.thread thread i in
          most_from (lower_waiter before c e least) l thread (subst (λ z. IsAtMost (or_lower (is_waiter before c z) z least) thread) (sym same) (subst (λ z. IsAtMost (or_lower z thread least) thread) (sym w) (lower_most thread least)))
      by_cases more (inr i) = more i

  lowest_is : (o : Option ℕ) → o ≡ lowest_waiter before c before → Signals before c (waiter_answer o)
  lowest_is None e = inl (refl, λ thread. by_cases thread (is_waiter before c thread) refl)
    where
      by_cases : (thread : ℕ) (b : Bool) → is_waiter before c thread ≡ b → is_waiter before c thread ≡ false
      by_cases thread false h = h
      by_cases thread true h = absurd (subst (λ z. IsAtMost z thread) (sym e) (below_from None before thread h (waiter_is_there thread h)))
  lowest_is (Some least) e = inr (record {
    thread = least;
    tells = refl;
    waits = subst Waits (sym e) (waits_from None before tt);
    lowest = λ lower less. by_cases lower less (is_waiter before c lower) refl;
  })
    where
      by_cases : (lower : ℕ) → lower < least → (b : Bool) → is_waiter before c lower ≡ b → is_waiter before c lower ≡ false
      by_cases lower less false h = h
      by_cases lower less true h = let most = subst (λ z. IsAtMost z lower) (sym e) (below_from None before lower h (waiter_is_there lower h)) in absurd (omega (arith, most, less))

  -- a Signal has one answer
  one_answer : (a b : ℤ) → Signals before c a → Signals before c b → a ≡ b
  one_answer a b (inl s) (inl t) = s.0 ∙ sym t.0
  one_answer a b (inl s) (inr t) = absurd (both_ways _ (s.1 t.thread) t.waits)
  one_answer a b (inr s) (inl t) = absurd (both_ways _ (t.1 s.thread) s.waits)
  one_answer a b (inr s) (inr t) = s.tells ∙ ap (λ z. pos (z + 1)) (same (cases_order s.thread t.thread)) ∙ sym t.tells
    where
      same : (s.thread ≡ t.thread) ⊎ ((s.thread < t.thread) ⊎ (t.thread < s.thread)) → s.thread ≡ t.thread
      same (inl e) = e
      same (inr (inl less)) = absurd (both_ways _ (t.lowest s.thread less) s.waits)
      same (inr (inr less)) = absurd (both_ways _ (s.lowest t.thread less) t.waits)

  pub signals_tells : (answer : ℤ) → (answer ≡ waiter_answer (lowest_waiter before c before)) ↔ Signals before c answer
  signals_tells answer =
      let s = lowest_is (lowest_waiter before c before) refl in
      (λ e. subst (Signals before c) (sym e) s, λ t. one_answer answer (waiter_answer (lowest_waiter before c before)) t s)
