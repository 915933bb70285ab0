-- The widths of the code stand for bits.
use Rattle.std.specs.Prelude.{ℕ, ℤ, pos, negsuc, ◌+◌, Bool, false, nat_lt}
use Rattle.sharc_ask.specs.{declared.arithmetic.Width.Width, declared.arithmetic.Width.TheVariants.{Char, Int, Long}}

-- the bits of a type, but that of the sign
abbrev pub value_bits : Width → ℕ
value_bits Char = 7
value_bits Int = 31
value_bits Long = 63

-- the count of a shift is one of the bits of the type
abbrev pub is_count : Width → ℤ → Bool
is_count width (pos n) = nat_lt n (value_bits width + 1)
is_count width (negsuc n) = false
