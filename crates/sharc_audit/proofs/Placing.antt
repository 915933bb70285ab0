-- Where the runs of threads are, and what lines report to threads that have not begun.
use Rattle.sharc_audit.proofs.{Imports.{◌≡◌, ℕ, zero, suc, ◌+◌, ◌<◌, Bool, true, false, ◌||◌, cond, List, [], ◌∷◌, ◌++◌, length, map, drop, slice_index_or, Option, Some, None, Ok, Err, refl, ap, sym, subst, ◌∙◌, arith, add-one, drop-cons, eq-eqb, eqb-true, and_parts, or_parts, list_any-append, ℤ, pos, ◌==◌, nat_eq, slice_set, MatchOption, Result, OnOk, if◌then◌else◌, get, HashMap, Vec, SourceEvent, Act, Resolution, is_of, was_spawned, is_natural, is_spawn, MayCome, LegalStore, EventLine, ThreadRun, has_begun, ArePlaces, told, lines_of, told_to, told_in, AreTold, IsSpawnedOnce}, Knowing.any_set}

pub on_ok_always : {A E : Type 0} (r : Result A E) {P : Type 0} → P → OnOk r P
on_ok_always (Ok a) h = h
on_ok_always (Err e) h = tt

-- ---- places

map_match : {A : Type 0} {P P2 : Type 0} {Q Q2 : A → Type 0} → (P → P2) → ((a : A) → Q a → Q2 a) → (o : Option A) → MatchOption o P Q → MatchOption o P2 Q2
map_match f g None h = f h
map_match f g (Some a) h = g a h

thread_set : (runs : List ThreadRun) (i j : ℕ) (new d : ThreadRun) → i < length runs → (slice_index_or runs i new).thread ≡ new.thread → (slice_index_or (slice_set runs i new) j d).thread ≡ (slice_index_or runs j d).thread
thread_set (x ∷ runs) zero zero new d h same = sym same
thread_set (x ∷ runs) (suc i) (suc j) new d h same = thread_set runs i j new d (omega (arith, h)) same
thread_set _ _ _ new d h same = refl

length_set : (runs : List ThreadRun) (i : ℕ) (new : ThreadRun) → length (slice_set runs i new) ≡ length runs
length_set [] i new = refl
length_set (x ∷ runs) zero new = refl
length_set (x ∷ runs) (suc i) new = ap suc (length_set runs i new)

module _ {S : Type 0} (places : HashMap ℕ ℕ S) (runs : List ThreadRun) (h : ArePlaces places runs) where
  -- a run was walked further
  pub places_set : (i : ℕ) (new : ThreadRun) → i < length runs → (slice_index_or runs i new).thread ≡ new.thread → ArePlaces places (slice_set runs i new)
  places_set i new inside same thread =
      map_match (λ none. any_set thread runs i new inside same ∙ none)
      (λ j at. record { inside = subst (λ n. j < n) (sym (length_set runs i new)) at.inside; own = λ d. thread_set runs i j new d inside same ∙ at.own d })
      (get nat_eq places thread) (h thread)

longer : (runs : List ThreadRun) (x : ThreadRun) → length (runs ++ x ∷ []) ≡ suc (length runs)
longer [] x = refl
longer (y ∷ runs) x = ap suc (longer runs x)

-- ---- what lines report

module _ {S A : Type 0} (all : HashMap ℕ (Vec ℤ A) S) (R : List SourceEvent) (l : EventLine) (rest : List EventLine) (h : AreTold all R (l ∷ rest)) where
  -- to a thread that begins
  pub told_first : has_begun R l.thread ≡ false → drop 1 (told_in all l.thread) ≡ told_to l.thread rest
  told_first none = ap (drop 1) (h l.thread none ∙ ap (λ z. map told (cond z (l ∷ lines_of l.thread rest) (lines_of l.thread rest))) (eq-eqb l.thread l.thread refl))

  -- one event more
  pub told_on : (e : SourceEvent) → l.thread ≡ e.thread → AreTold all (R ++ e ∷ []) rest
  told_on e same t none =
      let parts = or_parts (has_begun R t) (is_of t e || false) (sym (list_any-append (is_of t) R (e ∷ [])) ∙ none) in
      let other = or_parts (is_of t e) false parts.1 in
      h t parts.0 ∙ ap (λ z. map told (cond z (l ∷ lines_of t rest) (lines_of t rest))) (ap (λ n. n == t) same ∙ other.0)

lines_more : (t : ℕ) (a : List EventLine) (l : EventLine) → told_to t (a ++ l ∷ []) ≡ (if l.thread == t then told_to t a ++ told l ∷ [] else told_to t a)
lines_more t [] l = by_case (l.thread == t)
  where
    by_case : (b : Bool) → map told (cond b (l ∷ []) []) ≡ (if b then told l ∷ [] else [])
    by_case true = refl
    by_case false = refl
lines_more t (x ∷ a) l = by_first (x.thread == t) (l.thread == t) (lines_more t a l)
  where
    by_first : (b c : Bool) → told_to t (a ++ l ∷ []) ≡ (if c then told_to t a ++ told l ∷ [] else told_to t a)
        → map told (cond b (x ∷ lines_of t (a ++ l ∷ [])) (lines_of t (a ++ l ∷ []))) ≡ (if c then map told (cond b (x ∷ lines_of t a) (lines_of t a)) ++ told l ∷ [] else map told (cond b (x ∷ lines_of t a) (lines_of t a)))
    by_first false c h = h
    by_first true true h = ap (λ z. told x ∷ z) h
    by_first true false h = ap (λ z. told x ∷ z) h

-- ---- spawns

same_number : (n m : ℕ) (v : ℤ) → v ≡ pos m → is_natural n v ≡ true → n ≡ m
same_number n m v is h = eqb-true n m (sym (ap (is_natural n) is) ∙ h)

pub once_if_legal : (r : Resolution) (R : List SourceEvent) → LegalStore r R → IsSpawnedOnce R
once_if_legal r R legal before e after n stands h = by_act e.act (legal before e after stands) (and_parts (is_spawn e.act) (is_natural n e.answer) h)
  where
    by_act : (a : Act) → MayCome r before e a → (is_spawn a ≡ true) × (is_natural n e.answer ≡ true) → was_spawned before n ≡ false
    by_act (Act.Spawn f v) new k = ap (was_spawned before) (same_number n new.thread e.answer new.tells k.1) ∙ new.fresh
    by_act _ new k = absurd (let z = k.0 in cc)

-- ---- lines in parts

pub parts_at : (lines : List EventLine) (i : ℕ) (l : EventLine) → i < length lines → l ≡ slice_index_or lines i l → drop i lines ≡ l ∷ drop (i + 1) lines
parts_at lines i l h is = rw (add-one, drop-cons lines i l h) (ap (λ z. z ∷ drop (suc i) lines) (sym is))
