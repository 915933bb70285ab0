-- Pieces of flat code with what is known before each of their lines, for knowledge of any kind.
use Rattle.std.specs.Prelude.{ℕ, ◌+◌, ◌≡◌, ◌≤◌, List, [], ◌∷◌, length}
use Rattle.sharc_flat.specs.declared.op.Op.{Op}

-- before the lines from this one on this is known
abbrev pub Agrees : {St : Type 0} → (ℕ → St) → ℕ → List St → Type 0
Agrees table pc [] = Unit {0}
Agrees table pc (s ∷ rest) = (table pc ≡ s) × Agrees table (pc + 1) rest

-- what is known before the first of them, or after them where there is none
abbrev pub first : {St : Type 0} → List St → St → St
first [] e = e
first (s ∷ rest) e = s

-- from this line on each operation has what it needs, by what is known at each line, at its own, where this is known
abbrev pub Levels : {St : Type 0} → ((ℕ → St) → ℕ → St → Op → Type 0) → (ℕ → St) → ℕ → List Op → Type 0
Levels needs table pc [] = Unit {0}
Levels needs table pc (o ∷ os) = needs table pc (table pc) o × Levels needs table (pc + 1) os

-- so many lines from this one on, and the line after them, may be led to
abbrev pub AreOwn : (ℕ → Type 0) → ℕ → ℕ → Type 0
AreOwn own pc n = (q : ℕ) → pc ≤ q → q ≤ pc + n → own q

-- A piece that begins at this line, with what is known before it and after it, in code of which this is known: where
-- what is known fits what is known at the next line, each operation has what it needs.
pub record Piece {St : Type 0} (fit : St → St → Type 0) (own : ℕ → Type 0) (needs : (ℕ → St) → ℕ → St → Op → Type 0)
    (known : (ℕ → St) → Type 0) (s : St) (pc : ℕ) (os : List Op) (e : St) : Type 0 where
  pub states : List St
  pub many : length states ≡ length os
  pub begins : fit s (first states e)
  pub runs : (table : ℕ → St) → known table → AreOwn own pc (length os) → Agrees table pc states
      → fit e (table (pc + length os)) → Levels needs table pc os
