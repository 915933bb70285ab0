-- Codes that are the same to the machine, and whose globals and sites say the same in the same words, wherever their
-- texts are.
use Rattle.std.specs.Prelude.{ℕ, ◌≡◌, map}
use Rattle.sharc_code.specs.{declared.code.Code.Code, declared.code.Function.Function}
use Rattle.sharc_code.specs.{declared.code.SourcePlace.SourcePlace, Says.place_at}
use Rattle.sharc_run.specs.Places.{text_of}

-- a function without the place of its name
abbrev pub unnamed : Function → Function
unnamed f = record f { name = record { from = 0; until = 0 } }

-- one place of the source, given in the same words
pub record IsSamePlace (a b : Code) (p q : SourcePlace) : Type 0 where
  pub site : p.site ≡ q.site
  pub at : p.at ≡ q.at
  pub mode : p.mode ≡ q.mode
  pub lvalue : text_of a p.lvalue ≡ text_of b q.lvalue
  pub lock : text_of a p.lock ≡ text_of b q.lock

pub record AreAlike (a b : Code) : Type 0 where
  pub instrs : a.instrs.items ≡ b.instrs.items
  pub functions : map unnamed a.functions.items ≡ map unnamed b.functions.items
  pub main : a.main ≡ b.main
  pub globals : a.globals.items ≡ b.globals.items
  pub granules : a.granules ≡ b.granules
  pub initial : a.initial.items ≡ b.initial.items
  pub layouts : a.layouts.items ≡ b.layouts.items
  pub pointers : a.pointers.items ≡ b.pointers.items
  pub sites : (n : ℕ) → IsSamePlace a b (place_at a n) (place_at b n)
  pub files : a.files ≡ b.files
