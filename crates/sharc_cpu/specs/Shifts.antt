-- The counts of shifts.
use Rattle.std.specs.Prelude.{ℤ, pos, negsuc, ◌+◌, Bool, false, nat_lt}
use Rattle.sharc_code.specs.{declared.instr.Width.Width, Arithmetic.value_bits}

-- the count is one of the bits of the type
abbrev pub is_count : Width → ℤ → Bool
is_count width (pos n) = nat_lt n (value_bits width + 1)
is_count width (negsuc n) = false
