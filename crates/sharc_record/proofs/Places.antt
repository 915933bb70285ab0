-- What is at a place of a list.
use Rattle.sharc_record.proofs.Imports.{◌≡◌, ℕ, zero, suc, ◌<◌, List, [], ◌∷◌, length, get_or, refl, arith}

pub record At {X : Type 0} (xs : List X) (t : ℕ) : Type 0 where
  pub one : X
  pub is : (d : X) → get_or xs t d ≡ one

pub at_place : {X : Type 0} (xs : List X) (t : ℕ) → t < length xs → At xs t
at_place [] t h = absurd (omega (arith, h))
at_place (x ∷ xs) zero h = record { one = x; is = λ d. refl }
at_place (x ∷ xs) (suc t) h = let a = at_place xs t (omega (arith, h)) in record { one = a.one; is = λ d. a.is d }
