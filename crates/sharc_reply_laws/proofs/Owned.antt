-- A turn tells events of its own thread.
use Rattle.sharc_reply_laws.proofs.Imports.{◌≡◌, ℕ, Bool, true, false, cond, List, [], ◌∷◌, ◌++◌, map, reverse, Option, Some, None, if◌then◌else◌, refl, sym, ap, ◌∙◌, subst, append-nil, filter-append, ◌==◌, nat_eq, filter, SourceEvent, Code, Instr, Shape, Machine, instr_at, Said, Turn, result_of, said_by, told_by, with_told, elements_in, said, speaks_of, StandingLaws, Erase, one_thread, place_after, reverse_cons, same_test, IsSaidBy, TurnsTell}

-- ---- one turn
-- of the thread of this number, if it is one
abbrev pub IsOf : ℕ → Option SourceEvent → Type 0
IsOf t None = Unit {0}
IsOf t (Some e) = e.thread ≡ t

own : (i : Instr) (m : Machine) (told : Option SourceEvent) → IsSaidBy i m told → IsOf m.own.number told
own i m None h = tt
own i m (Some e) h = h.0

-- ---- lists
filter_reverse : (f : SourceEvent → Bool) (xs : List SourceEvent) → filter f (reverse xs) ≡ reverse (filter f xs)
filter_reverse f [] = refl
filter_reverse f (x ∷ xs) =
    ap (filter f) (reverse_cons x xs) ∙ filter-append f (reverse xs) (x ∷ []) ∙ ap (λ ys. ys ++ filter f (x ∷ [])) (filter_reverse f xs) ∙ by_test (f x)
  where
    by_test : (b : Bool) → reverse (filter f xs) ++ cond b (x ∷ []) [] ≡ reverse (cond b (x ∷ filter f xs) (filter f xs))
    by_test true = sym (reverse_cons x (filter f xs))
    by_test false = append-nil (reverse (filter f xs))

-- ---- a run
abbrev told_in : List (Said SourceEvent) → List SourceEvent
told_in says = map (λ said. said.told) says

with_own : (t thread : ℕ) (o : Option SourceEvent) (says : List (Said SourceEvent)) → IsOf thread o → filter (λ e. e.thread == t) (told_in says) ≡ told_in (said_by t says)
    → filter (λ e. e.thread == t) (told_in (with_told thread o says)) ≡ told_in (said_by t (with_told thread o says))
with_own t thread None says is h = h
with_own t thread (Some e) says is h =
    ap (λ b. cond b (e ∷ filter (λ e. e.thread == t) (told_in says)) (filter (λ e. e.thread == t) (told_in says))) (ap (λ n. n == t) is ∙ same_test thread t)
    ∙ ap (λ es. cond (nat_eq t thread) (e ∷ es) es) h ∙ by_test (nat_eq t thread)
  where
    by_test : (b : Bool) → cond b (e ∷ told_in (said_by t says)) (told_in (said_by t says)) ≡ told_in (cond b (record { thread = thread; told = e } ∷ said_by t says) (said_by t says))
    by_test true = refl
    by_test false = refl

module _ (tell : TurnsTell) (standing : StandingLaws) (code : Code) (s : Shape) (t : ℕ) where
  newest_first : (run : List Turn) → filter (λ e. e.thread == t) (told_in (Erase code s run)) ≡ told_in (said_by t (Erase code s run))
  newest_first [] = refl
  newest_first (one ∷ earlier) =
      let g = place_after code s earlier in
      let m = g.threads one.thread in
      let i = instr_at code m.at.pc in
      let elements = elements_in (told_in (Erase code s earlier)) (speaks_of i m (result_of one.event)) in
      let told = told_by (one_thread code s) (Erase code s earlier) g one in
      with_own t one.thread told (Erase code s earlier) (subst (λ n. IsOf n told) (standing.numbers code s earlier one.thread) (own i m told (tell code i m (result_of one.event) elements))) (newest_first earlier)

  pub own_events : (run : List Turn) → filter (λ e. e.thread == t) (reverse (told_in (Erase code s run))) ≡ reverse (told_in (said_by t (Erase code s run)))
  own_events run = filter_reverse (λ e. e.thread == t) (told_in (Erase code s run)) ∙ ap reverse (newest_first run)
