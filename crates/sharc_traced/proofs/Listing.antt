-- The lines of the first events, one event more at a time.
use Rattle.std.proofs.Common.{◌≡◌, ℕ, zero, suc, ◌+◌, ◌<◌, ◌≤◌, List, [], ◌∷◌, ◌++◌, length, take, get_or, Some, refl, ap, sym, subst, ◌∙◌, arith}
use Rattle.std.specs.Prelude.{slice_get}
use Rattle.sharc_ctype.specs.Resolved.{Resolution}
use Rattle.sharc_audit.specs.declared.line.EventLine.{EventLine}
use Rattle.sharc_history.specs.declared.event.Event.{Event}
use Rattle.sharc_traced.specs.Writing.{IsLineOf, AreLinesOf}
use Rattle.sharc_traced.proofs.Matching.{lines_more}
use Rattle.sharc_lemmas.proofs.Lists.{length_push}

pub record IsSoFar (r : Resolution) (events : List Event) (lines : List EventLine) (i : ℕ) : Type 0 where
  pub are : AreLinesOf r lines (take i events)
  pub count : length lines ≡ i
  pub few : i ≤ 4096

take_one : {A : Type 0} (xs : List A) (i : ℕ) (x : A) → slice_get xs i ≡ Some x → take (suc i) xs ≡ take i xs ++ x ∷ []
take_one [] i x h = absurd (cc)
take_one (y ∷ xs) zero x h = let same : y ≡ x = cc in ap (λ z. z ∷ []) same
take_one (y ∷ xs) (suc i) x h = ap (λ z. y ∷ z) (take_one xs i x h)

so_far_more : (r : Resolution) (events : List Event) (lines : List EventLine) (i : ℕ) (l : EventLine) (e : Event) → IsSoFar r events lines i → slice_get events i ≡ Some e → IsLineOf r l e → suc i ≤ 4096 → IsSoFar r events (lines ++ l ∷ []) (suc i)
so_far_more r events lines i l e h at is few = record {
  are = subst (AreLinesOf r (lines ++ l ∷ [])) (sym (take_one events i e at)) (lines_more r lines l (take i events) e h.are is);
  count = length_push lines l ∙ ap suc h.count;
  few = few;
}

pub there : {A : Type 0} (xs : List A) (i : ℕ) (d : A) → i < length xs → slice_get xs i ≡ Some (get_or xs i d)
there [] i d h = absurd (omega (arith, h))
there (x ∷ xs) zero d h = refl
there (x ∷ xs) (suc i) d h = there xs i d (omega (arith, h))

pub so_far_push : (r : Resolution) (events : List Event) (lines more : List EventLine) (i : ℕ) (l : EventLine) (e : Event) → IsSoFar r events lines i → more ≡ lines ++ l ∷ [] → slice_get events i ≡ Some e → IsLineOf r l e → i + 1 ≤ 4096
    → IsSoFar r events more (i + 1)
so_far_push r events lines more i l e h pushed at is few =
    let next : suc i ≡ i + 1 = omega arith in
    subst (λ n. IsSoFar r events more n) next (subst (λ (ls : List EventLine). IsSoFar r events ls (suc i)) (sym pushed) (so_far_more r events lines i l e h at is (omega (arith, few))))
