-- What operators make of integers, and where they stop.
use Rattle.std.specs.Prelude.{ℕ, ℤ, pos, negsuc, zero, suc, ◌+◌, ◌^◌, ◌+ℤ◌, ◌-ℤ◌, ◌*ℤ◌, neg_ℤ, Bool, true, false, not}
use Rattle.std.specs.Prelude.{◌&&◌, Result, Ok, Err, nat_lt, int_lt, int_le, int_div, int_rem, if◌then◌else◌}
use Rattle.std.specs.Int.{w64, cast_unsigned, cast_signed, int_bit_and, int_bit_or, int_bit_xor, int_bit_not, int_shr}
use Rattle.sharc_tree.specs.declared.trap.Trap.{Trap}
use Rattle.sharc_tree.specs.declared.trap.Trap.TheVariants as traps
use Rattle.sharc_code.specs.{declared.instr.Width.Width, declared.instr.Width.TheVariants.{Char, Int, Long}}
use Rattle.sharc_code.specs.declared.instr.Operator.{Operator}
use Rattle.sharc_code.specs.declared.instr.Operator.TheVariants.{Add, Subtract, Multiply, Divide, Remainder, ShiftLeft}
use Rattle.sharc_code.specs.declared.instr.Operator.TheVariants.{ShiftRight, And, Or, Xor, Equal, NotEqual, Less}
use Rattle.sharc_code.specs.declared.instr.Operator.TheVariants.{Greater, AtMost, AtLeast}

-- an integer as a word, and a word as an integer
abbrev pub word_of : ℤ → ℕ
word_of = cast_unsigned w64

abbrev pub int_of : ℕ → ℤ
int_of = cast_signed w64

-- the bits of a type, but that of the sign
abbrev pub value_bits : Width → ℕ
value_bits Char = 7
value_bits Int = 31
value_bits Long = 63

-- the type holds the value
abbrev pub holds : Width → ℤ → Bool
holds width (pos n) = nat_lt n (2 ^ value_bits width)
holds width (negsuc n) = nat_lt n (2 ^ value_bits width)

abbrev pub is_zero : ℤ → Bool
is_zero (pos zero) = true
is_zero (pos (suc n)) = false
is_zero (negsuc n) = false

-- a truth as an integer
abbrev pub truth : Bool → ℤ
truth true = pos 1
truth false = pos 0

-- a trap where the type does not hold the value
abbrev pub in_range : Width → ℤ → Result ℤ Trap
in_range width z = if holds width z then Ok z else Err traps.OutOfRange

-- a trap where the divisor is 0, or the type does not hold the quotient
abbrev pub divided : Width → ℤ → ℤ → ℤ → Result ℤ Trap
divided width a b result =
    if is_zero b then Err traps.DivisionByZero
    else (if holds width (int_div a b) then Ok result else Err traps.OutOfRange)

-- a trap where the count is none of the bits of the type
abbrev pub shifted : Width → ℤ → (ℕ → Result ℤ Trap) → Result ℤ Trap
shifted width (pos n) by = if nat_lt n (value_bits width + 1) then by n else Err traps.OutOfRange
shifted width (negsuc n) by = Err traps.OutOfRange

-- the value, or the trap
abbrev pub computed : Width → Operator → ℤ → ℤ → Result ℤ Trap
computed width Add a b = in_range width (a +ℤ b)
computed width Subtract a b = in_range width (a -ℤ b)
computed width Multiply a b = in_range width (a *ℤ b)
computed width Divide a b = divided width a b (int_div a b)
computed width Remainder a b = divided width a b (int_rem a b)
computed width ShiftLeft a b = shifted width b (λ n. in_range width (a *ℤ pos (2 ^ n)))
computed width ShiftRight a b = shifted width b (λ n. Ok (int_shr a n))
computed width And a b = Ok (int_bit_and w64 a b)
computed width Or a b = Ok (int_bit_or w64 a b)
computed width Xor a b = Ok (int_bit_xor w64 a b)
computed width Equal a b = Ok (truth (int_le a b && int_le b a))
computed width NotEqual a b = Ok (truth (not (int_le a b && int_le b a)))
computed width Less a b = Ok (truth (int_lt a b))
computed width Greater a b = Ok (truth (int_lt b a))
computed width AtMost a b = Ok (truth (int_le a b))
computed width AtLeast a b = Ok (truth (int_le b a))

-- the negative, or the trap
abbrev pub negated : Width → ℤ → Result ℤ Trap
negated width a = in_range width (neg_ℤ a)

-- all bits turned
abbrev pub complement : ℤ → ℤ
complement a = int_bit_not w64 a
