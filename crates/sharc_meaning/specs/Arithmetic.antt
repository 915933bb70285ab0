-- What operators make of integers, and where they stop (C11 6.5.3.3 and 6.5.5 to 6.5.12). What C leaves undefined stops
-- (SharC's own rule).
use Rattle.std.specs.Prelude.{ℕ, ℤ, pos, negsuc, zero, suc, ◌+◌, ◌^◌, ◌+ℤ◌, ◌-ℤ◌, ◌*ℤ◌, neg_ℤ, Bool, true, false, not}
use Rattle.std.specs.Prelude.{◌&&◌, ◌||◌, Result, Ok, Err, nat_lt, int_lt, int_le, int_div, int_rem, if◌then◌else◌}
use Rattle.std.specs.Int.{w64, int_bit_and, int_bit_or, int_bit_xor, int_bit_not, int_shr}
use Rattle.sharc_tree.specs.declared.ctype.Base.{Base}
use Rattle.sharc_tree.specs.declared.ctype.Base.TheVariants.{Int, Char, Long, Mutex, Void, Struct}
use Rattle.sharc_tree.specs.declared.tree.expression.BinaryOperator.{BinaryOperator}
use Rattle.sharc_tree.specs.declared.tree.expression.BinaryOperator.TheVariants.{LogicalOr, LogicalAnd, BitOr, BitXor}
use Rattle.sharc_tree.specs.declared.tree.expression.BinaryOperator.TheVariants.{BitAnd, Equal, NotEqual, Less, Greater}
use Rattle.sharc_tree.specs.declared.tree.expression.BinaryOperator.TheVariants.{LessOrEqual, GreaterOrEqual, ShiftLeft}
use Rattle.sharc_tree.specs.declared.tree.expression.BinaryOperator.TheVariants.{ShiftRight, Add, Subtract, Multiply}
use Rattle.sharc_tree.specs.declared.tree.expression.BinaryOperator.TheVariants.{Divide, Remainder}
use Rattle.sharc_tree.specs.declared.trap.Trap.{Trap}
use Rattle.sharc_tree.specs.declared.trap.Trap.TheVariants as traps
use Rattle.sharc_names.specs.Kinds.{Kind, object, array, null, function, is_integer}

-- `char`, `int` and `long` are signed, of 8, 32 and 64 bits: these are the bits of a type, but that of the sign

abbrev pub bits_of_base : Base → ℕ
bits_of_base Char = 7
bits_of_base Int = 31
bits_of_base Long = 63
bits_of_base Mutex = 63
bits_of_base Void = 63
bits_of_base (Struct name) = 63

abbrev pub bits_of : Kind → ℕ
bits_of (object base stars) = bits_of_base base
bits_of (array base stars) = bits_of_base base
bits_of null = 63
bits_of function = 63

-- whether two's complement of this many bits beside the sign holds the value
abbrev pub is_held_by : ℕ → ℤ → Bool
is_held_by bits (pos n) = nat_lt n (2 ^ bits)
is_held_by bits (negsuc n) = nat_lt n (2 ^ bits)

-- whether a variable or a cell of this type holds the value; every pointer holds every reference
abbrev pub fits : Kind → ℤ → Bool
fits kind v = not (is_integer kind) || is_held_by (bits_of kind) v

abbrev pub is_zero : ℤ → Bool
is_zero (pos zero) = true
is_zero (pos (suc n)) = false
is_zero (negsuc n) = false

-- 6.5.8p6, 6.5.9p3: a truth is the `int` 1 or 0
abbrev pub truth : Bool → ℤ
truth true = pos 1
truth false = pos 0

-- the value, or the stop: where the type does not hold it
abbrev pub in_range : ℕ → ℤ → Result ℤ Trap
in_range bits v = if is_held_by bits v then Ok v else Err traps.OutOfRange

-- 6.5.5p5: where the divisor is 0, or the type does not hold the quotient, `/` and `%` stop both: the least value is
-- not divided by -1
abbrev pub divided : ℕ → ℤ → ℤ → ℤ → Result ℤ Trap
divided bits a b result =
    if is_zero b then Err traps.DivisionByZero
    else if is_held_by bits (int_div a b) then Ok result
    else Err traps.OutOfRange

-- 6.5.7p3: the count is one of the bits of the type
abbrev pub shifted : ℕ → ℤ → (ℕ → Result ℤ Trap) → Result ℤ Trap
shifted bits (pos n) by = if nat_lt n (bits + 1) then by n else Err traps.OutOfRange
shifted bits (negsuc n) by = Err traps.OutOfRange

abbrev pub is_equal : ℤ → ℤ → Bool
is_equal a b = int_le a b && int_le b a

-- An operator in a type with this many bits beside the sign. Division rounds toward zero (6.5.5p6), and `>>` of a
-- negative number downward. `&&` and `||` are here what they make of two values that are both looked at.
abbrev pub operated : ℕ → BinaryOperator → ℤ → ℤ → Result ℤ Trap
operated bits LogicalOr a b = Ok (truth (not (is_zero a) || not (is_zero b)))
operated bits LogicalAnd a b = Ok (truth (not (is_zero a) && not (is_zero b)))
operated bits BitOr a b = Ok (int_bit_or w64 a b)
operated bits BitXor a b = Ok (int_bit_xor w64 a b)
operated bits BitAnd a b = Ok (int_bit_and w64 a b)
operated bits Equal a b = Ok (truth (is_equal a b))
operated bits NotEqual a b = Ok (truth (not (is_equal a b)))
operated bits Less a b = Ok (truth (int_lt a b))
operated bits Greater a b = Ok (truth (int_lt b a))
operated bits LessOrEqual a b = Ok (truth (int_le a b))
operated bits GreaterOrEqual a b = Ok (truth (int_le b a))
operated bits ShiftLeft a b = shifted bits b (λ n. in_range bits (a *ℤ pos (2 ^ n)))
operated bits ShiftRight a b = shifted bits b (λ n. Ok (int_shr a n))
operated bits Add a b = in_range bits (a +ℤ b)
operated bits Subtract a b = in_range bits (a -ℤ b)
operated bits Multiply a b = in_range bits (a *ℤ b)
operated bits Divide a b = divided bits a b (int_div a b)
operated bits Remainder a b = divided bits a b (int_rem a b)

abbrev pub negated : ℕ → ℤ → Result ℤ Trap
negated bits a = in_range bits (neg_ℤ a)

abbrev pub complement : ℤ → ℤ
complement a = int_bit_not w64 a
