-- Which mutexes are held after one more event.
use Rattle.sharc_ask.proofs.Imports.{◌≡◌, Bool, true, false, cond, not, ◌||◌, List, [], ◌∷◌, ◌++◌, refl, ap, ◌∙◌, Option, Some, None, filter, list_any, Act, Lock, Unlock, CellAt, SourceEvent, same_cell, is_cell, locked_by, unlocked_by, unlocks, unless_unlocked, held_mutexes, held_after, or_none}

either_later : (a b c : Bool) (f : Bool) → a ≡ (b || c) → (f || a) ≡ ((f || b) || c)
either_later a b c true h = refl
either_later a b c false h = h

any_last : {A : Type 0} (f : A → Bool) (l : List A) (x : A) → list_any f (l ++ x ∷ []) ≡ (list_any f l || f x)
any_last f [] x = or_false (f x)
  where
    or_false : (b : Bool) → (b || false) ≡ (false || b)
    or_false true = refl
    or_false false = refl
any_last f (y ∷ l) x = either_later (list_any f (l ++ x ∷ [])) (list_any f l) (f x) (f y) (any_last f l x)

-- an event that neither locks nor unlocks
module _ (x : SourceEvent) (no_lock : locked_by x.act ≡ None) (no_unlock : unlocked_by x.act ≡ None) where
  none_more : (c : CellAt) (later : List SourceEvent) → list_any (unlocks c) (later ++ x ∷ []) ≡ list_any (unlocks c) later
  none_more c later = any_last (unlocks c) later x ∙ ap (λ u. list_any (unlocks c) later || is_cell c u) no_unlock ∙ or_none (list_any (unlocks c) later)

  unless_same : (later : List SourceEvent) (o : Option CellAt) (h k : List CellAt) → h ≡ k → unless_unlocked (later ++ x ∷ []) o h ≡ unless_unlocked later o k
  unless_same later None h k e = e
  unless_same later (Some c) h k e = ap (λ b. cond b h (c ∷ h)) (none_more c later) ∙ ap (λ l. cond (list_any (unlocks c) later) l (c ∷ l)) e

  held_same : (events : List SourceEvent) → held_mutexes (events ++ x ∷ []) ≡ held_mutexes events
  held_same [] = ap (λ o. unless_unlocked [] o []) no_lock
  held_same (e ∷ later) = unless_same later (locked_by e.act) (held_mutexes (later ++ x ∷ [])) (held_mutexes later) (held_same later)

-- a Lock
module _ (x : SourceEvent) (c : CellAt) (lock : locked_by x.act ≡ Some c) (no_unlock : unlocked_by x.act ≡ None) where
  unless_more : (later : List SourceEvent) (o : Option CellAt) (h k : List CellAt) → h ≡ k ++ c ∷ [] → unless_unlocked (later ++ x ∷ []) o h ≡ unless_unlocked later o k ++ c ∷ []
  unless_more later None h k e = e
  unless_more later (Some d) h k e = ap (λ b. cond b h (d ∷ h)) (any_last (unlocks d) later x ∙ ap (λ u. list_any (unlocks d) later || is_cell d u) no_unlock) ∙ by_test (list_any (unlocks d) later)
    where
      by_test : (b : Bool) → cond (b || false) h (d ∷ h) ≡ cond b k (d ∷ k) ++ c ∷ []
      by_test true = e
      by_test false = ap (λ l. d ∷ l) e

  held_more : (events : List SourceEvent) → held_mutexes (events ++ x ∷ []) ≡ held_mutexes events ++ c ∷ []
  held_more [] = ap (λ o. unless_unlocked [] o []) lock
  held_more (e ∷ later) = unless_more later (locked_by e.act) (held_mutexes (later ++ x ∷ [])) (held_mutexes later) (held_more later)

-- an Unlock
module _ (x : SourceEvent) (c : CellAt) (no_lock : locked_by x.act ≡ None) (unlock : unlocked_by x.act ≡ Some c) where
  abbrev stays : CellAt → Bool
  stays d = not (same_cell d c)

  unless_less : (later : List SourceEvent) (o : Option CellAt) (h k : List CellAt) → h ≡ filter stays k → unless_unlocked (later ++ x ∷ []) o h ≡ filter stays (unless_unlocked later o k)
  unless_less later None h k e = e
  unless_less later (Some d) h k e = ap (λ b. cond b h (d ∷ h)) (any_last (unlocks d) later x ∙ ap (λ u. list_any (unlocks d) later || is_cell d u) unlock) ∙ by_test (list_any (unlocks d) later) (same_cell d c) refl
    where
      by_test : (b t : Bool) → same_cell d c ≡ t → cond (b || same_cell d c) h (d ∷ h) ≡ filter stays (cond b k (d ∷ k))
      by_test true t q = e
      by_test false true q = rw q e
      by_test false false q = rw q (ap (λ l. d ∷ l) e)

  held_less : (events : List SourceEvent) → held_mutexes (events ++ x ∷ []) ≡ filter stays (held_mutexes events)
  held_less [] = ap (λ o. unless_unlocked [] o []) no_lock
  held_less (e ∷ later) = unless_less later (locked_by e.act) (held_mutexes (later ++ x ∷ [])) (held_mutexes later) (held_less later)

by_act : (x : SourceEvent) (act : Act) → x.act ≡ act → (events : List SourceEvent) → held_mutexes (events ++ x ∷ []) ≡ held_after act (held_mutexes events)
by_act x (Lock c) h events = held_more x c (ap locked_by h) (ap unlocked_by h) events
by_act x (Unlock c) h events = held_less x c (ap locked_by h) (ap unlocked_by h) events
by_act x _ h events = held_same x (ap locked_by h) (ap unlocked_by h) events

pub held_behind : (events : List SourceEvent) (x : SourceEvent) → held_mutexes (events ++ x ∷ []) ≡ held_after x.act (held_mutexes events)
held_behind events x = by_act x x.act refl events
