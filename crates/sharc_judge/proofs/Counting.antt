-- How many events a thread has, one event more.
use Rattle.std.proofs.Common.{◌≡◌, ℕ, suc, ◌+◌, ◌==◌, Bool, true, false, cond, List, [], ◌∷◌, ◌++◌, length, refl, arith}
use Rattle.std.specs.Prelude.{if◌then◌else◌}
use Rattle.sharc_tree.specs.declared.event.SourceEvent.{SourceEvent}
use Rattle.sharc_meaning.specs.Events.{events_of, is_of}

pub count_more : (t : ℕ) (R : List SourceEvent) (e : SourceEvent) → length (events_of t (R ++ e ∷ [])) ≡ (if e.thread == t then length (events_of t R) + 1 else length (events_of t R))
count_more t [] e = by_case (is_of t e)
  where
    by_case : (b : Bool) → length (cond b (e ∷ []) []) ≡ (if b then 0 + 1 else 0)
    by_case true = refl
    by_case false = refl
count_more t (x ∷ R) e = by_first (is_of t x) (count_more t R e)
  where
    counted : (n m : ℕ) (b : Bool) → n ≡ (if b then m + 1 else m) → suc n ≡ (if b then suc m + 1 else suc m)
    counted n m true h = omega (arith, h)
    counted n m false h = omega (arith, h)

    by_first : (b : Bool) → length (events_of t (R ++ e ∷ [])) ≡ (if e.thread == t then length (events_of t R) + 1 else length (events_of t R))
        → length (cond b (x ∷ events_of t (R ++ e ∷ [])) (events_of t (R ++ e ∷ []))) ≡ (if e.thread == t then length (cond b (x ∷ events_of t R) (events_of t R)) + 1 else length (cond b (x ∷ events_of t R) (events_of t R)))
    by_first true h = counted (length (events_of t (R ++ e ∷ []))) (length (events_of t R)) (e.thread == t) h
    by_first false h = h
