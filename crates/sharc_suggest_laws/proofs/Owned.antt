-- In a resolved program at its tokens at most one thing is said of each token.
use Rattle.sharc_suggest_laws.proofs.{Imports.{◌⊎◌, inl, inr, ⊎_elim, ℕ, List, [], ◌∷◌, Contains, sym, subst, arith, cases_eq, AllByRecursion, Named, Note, fault, refers, yields, referred, notes_about, name_tokens, Resolution, named_at, items_marks, Tells, IsToldOnce, joint, later}, Folded.IsOwnAt}

none_told : (t : ℕ) (v : Named) (l : List Note) → (Contains (referred l) t → ⊥) → AllByRecursion (IsOwnAt t v) l
none_told t v [] not_so = tt
none_told t v (fault place code ∷ rest) not_so = (tt, none_told t v rest not_so)
none_told t v (refers n w ∷ rest) not_so = ((λ same. absurd (not_so (0, omega arith, same))), none_told t v rest (λ c. not_so (later n t (referred rest) c)))
none_told t v (yields n w ∷ rest) not_so = ((λ same. absurd (not_so (0, omega arith, same))), none_told t v rest (λ c. not_so (later n t (referred rest) c)))

told_so : (t : ℕ) (v : Named) (n : Note) → Tells n t v → IsOwnAt t v n
told_so t v (fault place code) tells = tt
told_so t v _ tells = λ same. tells.1

one_told : (r : Resolution) (t : ℕ) → IsToldOnce r t → AllByRecursion (IsOwnAt t (named_at r t)) (notes_about r.program)
one_told r t once =
    subst (λ (v : Named). AllByRecursion (IsOwnAt t v) (notes_about r.program)) (sym once.named)
    (subst (AllByRecursion (IsOwnAt t once.what)) (sym once.notes)
    (joint (IsOwnAt t once.what) once.before (once.note ∷ once.after) (none_told t once.what once.before once.not_before) (told_so t once.what once.note once.tells, none_told t once.what once.after once.not_after)))

-- a note refers to it, or all is well
pub told_or_not : (t : ℕ) (v : Named) (l : List Note) → Contains (referred l) t ⊎ AllByRecursion (IsOwnAt t v) l
told_or_not t v [] = inr tt
told_or_not t v (fault place code ∷ rest) = ⊎_elim (λ c. inl c) (λ h. inr (tt, h)) (told_or_not t v rest)
told_or_not t v (refers n w ∷ rest) =
    ⊎_elim (λ same. inl (0, omega arith, same)) (λ other. ⊎_elim (λ c. inl (later n t (referred rest) c)) (λ h. inr ((λ same. absurd (other same)), h)) (told_or_not t v rest)) (cases_eq n t)
told_or_not t v (yields n w ∷ rest) =
    ⊎_elim (λ same. inl (0, omega arith, same)) (λ other. ⊎_elim (λ c. inl (later n t (referred rest) c)) (λ h. inr ((λ same. absurd (other same)), h)) (told_or_not t v rest)) (cases_eq n t)

pub all_own : (r : Resolution) (t : ℕ) → (Contains (referred (notes_about r.program)) t → Contains (name_tokens (items_marks r.program.items)) t) → (Contains (name_tokens (items_marks r.program.items)) t → IsToldOnce r t)
    → AllByRecursion (IsOwnAt t (named_at r t)) (notes_about r.program)
all_own r t only once = ⊎_elim (λ c. one_told r t (once (only c))) (λ h. h) (told_or_not t (named_at r t) (notes_about r.program))
