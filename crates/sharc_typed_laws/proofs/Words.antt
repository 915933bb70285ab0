-- The words with which the code of an expression is spoken of, for a function, what is known of its names, and where its registers begin.
use Rattle.sharc_typed_laws.proofs.{Imports.{ℕ, ◌+◌, ◌<◌, ◌≡◌, Bool, true, List, [], ◌∷◌, ◌++◌, Some, Op, ints_in, refs_in, Label, Mark, Setting, Fits, IsLine, IsScoped, OpWrites}, Parts.{P, At, does, then_do}}

-- Its registers; code that leads from what is known before it to what is known after it; a label of which so many registers are taken; and code one after the other, or of one operation.
pub record Words (around : Setting) (f : ℕ) : Type 1 where
  pub named : ℕ → Bool
  pub top : ℕ
  pub fi : ℕ
  pub fr : ℕ
  pub Q : Mark → List Op → Mark → Type 0
  pub Here : ℕ → ℕ → Label → Type 0
  pub Scoped : Mark → Type 0
  pub joins : (s m e : Mark) (xs ys : List Op) → Q s xs m → Q m ys e → Q s (xs ++ ys) e
  pub one : (s : Mark) (o : Op) (e : Mark) → (OpWrites fi fr o → Scoped s → Scoped e) → ((table : ℕ → Mark) (pc : ℕ) → OpWrites fi fr o → Scoped s → Fits around.targets e (table (pc + 1)) → IsLine around f table pc s o) → Q s (o ∷ []) e

abbrev pub words : (around : Setting) (f : ℕ) → ((ℕ → Mark) → Type 0) → (named : ℕ → Bool) (top : ℕ) → ((p : ℕ) → named p ≡ true → p < top) → ℕ → Words around f
words around f D named top low from = record {
  named = named;
  top = top;
  fi = ints_in around.code (Some f);
  fr = refs_in around.code (Some f);
  Q = P around f D named top low from;
  Here = At around f D named top low from;
  Scoped = λ s. IsScoped (ints_in around.code (Some f)) (refs_in around.code (Some f)) s.label;
  joins = then_do around f D named top low from;
  one = does around f D named top low from;
}
