-- The steps of an object's count word.
use Rattle.std.specs.Prelude.{ℕ}
use Rattle.sharc_word.specs.{declared.step.WordStep.WordStep, declared.step.WordOp.TheVariants.{Load, Add, Sub}}

-- one reference more
abbrev pub raise_of : ℕ → WordStep
raise_of word = record { word = word; op = Add 1 }

-- one reference less
abbrev pub lower_of : ℕ → WordStep
lower_of word = record { word = word; op = Sub 1 }

-- the count is read
abbrev pub test_of : ℕ → WordStep
test_of word = record { word = word; op = Load }
