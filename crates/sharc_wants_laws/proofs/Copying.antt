-- Flat code that asks for nothing holds what it held before, and more turns change nothing once it has come to its next
-- want, its stop or its end.
use Rattle.sharc_wants_laws.proofs.{Imports.{◌≡◌, ℕ, zero, suc, ℤ, ◌+◌, true, List, [], ◌∷◌, refl, sym, ap, ◌∙◌, subst, arith, refers, spent, Flat, At, goes, asks, halts, turn, on_turn, exec, Quietly}}
use Rattle.sharc_flat.specs.{Machine.{Turn}, Quiet.{AreFrom, IsQuiet, PathLaws}}

pub quietly_from : (paths : PathLaws) (flat : Flat) (turns : ℕ) (m m2 : At) → Quietly flat turns m m2 → AreFrom m m2
quietly_from paths flat zero m m2 q k n is = (k, subst (λ (a : At). refers n (a.refs k) ≡ true) (sym q) is)
quietly_from paths flat (suc turns) m m2 q k n is =
    let later = quietly_from paths flat turns q.0 m2 q.2 k n is in
    (subst (IsQuiet m) q.1 (paths.quiet flat m)).1 later.0 n later.1

-- ---- more turns
pub more_turns : (flat : Flat) (turns more : ℕ) (answers : List ℤ) (m : At) → ((exec flat turns answers m).outcome ≡ spent → ⊥) → exec flat (turns + more) answers m ≡ exec flat turns answers m
more_turns flat zero more answers m over = absurd (over refl)
more_turns flat (suc turns) more answers m over =
    let e : suc turns + more ≡ suc (turns + more) = omega arith in
    ap (λ n. exec flat n answers m) e ∙ by (turn flat m) answers (more_turns flat turns more) over
  where
    by : (t : Turn) (xs : List ℤ) → ((xs : List ℤ) (m : At) → ((exec flat turns xs m).outcome ≡ spent → ⊥) → exec flat (turns + more) xs m ≡ exec flat turns xs m)
        → ((on_turn t xs m (exec flat turns)).outcome ≡ spent → ⊥) → on_turn t xs m (exec flat (turns + more)) ≡ on_turn t xs m (exec flat turns)
    by (goes m2) xs rec over = rec xs m2 over
    by (asks m2 site act held f) [] rec over = refl
    by (asks m2 site act held f) (x ∷ rest) rec over = rec rest _ over
    by (halts o) xs rec over = refl
