-- The example is well formed.
use Rattle.sharc_guard.proofs.Imports.{◌≡◌, ℕ, zero, suc, ◌+◌, ◌<◌, List, [], ◌∷◌, Some, slice_get, refl, sym, ◌∙◌, subst, arith, Op, function_of, IsFlat, Leads, IsFramed, IsFramedAt, InLine, HasParameter, example, lines}

-- a property of each line, by its number
abbrev pub AllFrom : (ℕ → Op → Type 0) → ℕ → List Op → Type 0
AllFrom P k [] = Unit {0}
AllFrom P k (o ∷ os) = P k o × AllFrom P (suc k) os

each_of : (P : ℕ → Op → Type 0) (k : ℕ) (os : List Op) → AllFrom P k os → (n : ℕ) (o : Op) → slice_get os n ≡ Some o → P (k + n) o
each_of P k [] h n o e = absurd (cc)
each_of P k (x ∷ os) h zero o e = let s : x ≡ o = cc in subst (λ y. P (k + 0) y) s (subst (λ j. P j x) (omega arith) h.0)
each_of P k (x ∷ os) h (suc n) o e = subst (λ j. P j o) (omega arith) (each_of P (suc k) os h.1 n o e)

each : (P : ℕ → Op → Type 0) → AllFrom P 0 lines → (n : ℕ) (o : Op) → slice_get lines n ≡ Some o → P n o
each P h n o e = subst (λ j. P j o) (omega arith) (each_of P 0 lines h n o e)

only : (f : ℕ) → f < 1 → f ≡ 0
only f lt = omega arith

pub flat_is : IsFlat example
flat_is = record {
  entries = λ f lt. let z = only f lt in subst (λ n. (function_of example n).entry < 7) (sym z) (omega arith);
  each = each (Leads example) (omega arith, (omega arith, (omega arith, (omega arith, (omega arith, (omega arith, (tt, tt)))))));
}

inside : (n : ℕ) → n < 7 → InLine example (λ k. 0) 0 n
inside n lt = record { inside = lt; owned = refl }

pub framed_is : IsFramed example
framed_is = record {
  owner = λ k. 0;
  entries = λ f lt. let z = only f lt in subst (λ n. InLine example (λ k. 0) n (function_of example n).entry × HasParameter (function_of example n) (function_of example n).parameter) (sym z) (inside 0 (omega arith), tt);
  each = each (IsFramedAt example (λ k. 0)) (
    record { writes = tt; leads = inside 1 (omega arith) },
    (
      record { writes = omega arith; leads = inside 2 (omega arith) },
      (
        record { writes = tt; leads = inside 3 (omega arith) },
        (
          record { writes = tt; leads = inside 4 (omega arith) },
          (
            record { writes = omega arith; leads = inside 5 (omega arith) },
            (
              record { writes = tt; leads = inside 6 (omega arith) },
              (record { writes = tt; leads = tt }, tt),
            ),
          ),
        ),
      ),
    ),
  );
  few_ints = omega arith;
  few_refs = omega arith;
  apart = λ g h place a b. let x = only g a.known in let y = only h b.known in x ∙ sym y;
}
