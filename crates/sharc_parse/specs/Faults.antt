-- The fault of words that are no program within the limits.
use Rattle.std.specs.Prelude.{◌≡◌, ℕ, ◌≤◌, ◌⊎◌, List, ◌∷◌, length, take, drop}
use Rattle.sharc_parse.specs.declared.fault.GrammarFault.{GrammarFault}
use Rattle.sharc_parse.specs.declared.fault.GrammarFault.TheVariants.{Unexpected, Deep, LeftOut}
use Rattle.sharc_parse.specs.{Grammar.{Word, left_out, EndsAt}, Limits.{BeginsWithin, Exceeds}}

-- the digit of the code: P1, P2 and P3
abbrev pub digit_of : GrammarFault → ℕ
digit_of Unexpected = 1
digit_of Deep = 2
digit_of LeftOut = 3

-- P3 at a word that C11 has and the language leaves out, else P1
abbrev pub wrong_code : List Word → GrammarFault
wrong_code (left_out ∷ rest) = LeftOut
wrong_code _ = Unexpected

-- The first n words begin a program within the limits. With the next word they begin no program at all (P1, or P3), or
-- one but none within the limits (P2).
pub record IsFault (all : List Word) (code : GrammarFault) (n : ℕ) : Type 0 where
  pub there : n ≤ length all
  pub begins : BeginsWithin (take n all)
  pub ends : ((code ≡ wrong_code (drop n all)) × EndsAt (take n all) (drop n all))
      ⊎ ((code ≡ Deep) × Exceeds (take n all) (drop n all))
