-- Numbers, in octal, decimal and hexadecimal digits.
use Rattle.std.specs.Prelude.{ℕ, ◌+◌, ◌-◌, ◌*◌, ◌^◌, Bool, ◌==◌, ◌&&◌, ◌||◌, nat_le, nat_lt, List, [], ◌∷◌, length}
use Rattle.std.specs.Prelude.{take, slice_index, Option, Some, None, option_map, if◌then◌else◌, pos}
use Rattle.sharc_tree.specs.{declared.token.Number.Number, declared.token.NumberType.TheVariants.{Int, Long}}
use Rattle.sharc_lex.specs.Bytes.{is_digit}

-- what a byte counts as a digit; 16 where it is not one
abbrev pub digit_value : ℕ → ℕ
digit_value b =
    if is_digit b then b - 48
    else (if nat_le 97 b && nat_le b 102 then b - 87
    else (if nat_le 65 b && nat_le b 70 then b - 55
    else 16))

-- the value of digits of a base that come after a higher part
abbrev pub value_behind : ℕ → ℕ → List ℕ → Option ℕ
value_behind base high [] = Some high
value_behind base high (d ∷ ds) =
    if nat_lt (digit_value d) base then value_behind base (high * base + digit_value d) ds else None

-- the same number with one digit more, where it is one and the number is at most 2^63 - 1
abbrev pub with_digit : ℕ → ℕ → ℕ → Option ℕ
with_digit base high d =
    if nat_lt (digit_value d) base && nat_lt (high * base + digit_value d) (2 ^ 63)
    then Some (high * base + digit_value d)
    else None

-- the suffix says that the number is a long
abbrev pub has_suffix : List ℕ → Bool
has_suffix text = (slice_index text (length text - 1) == 108) || (slice_index text (length text - 1) == 76)

abbrev pub without_suffix : List ℕ → List ℕ
without_suffix text = if has_suffix text then take (length text - 1) text else text

-- one hexadecimal digit or more
abbrev pub hexadecimal : List ℕ → Option ℕ
hexadecimal [] = None
hexadecimal (d ∷ ds) = value_behind 16 0 (d ∷ ds)

-- what follows a leading 0: octal digits, none too, or an x and hexadecimal digits
abbrev pub behind_zero : List ℕ → Option ℕ
behind_zero [] = Some 0
behind_zero (b ∷ ds) = if (b == 120) || (b == 88) then hexadecimal ds else value_behind 8 0 (b ∷ ds)

-- the value of a number's text without its suffix
abbrev pub value : List ℕ → Option ℕ
value [] = None
value (d ∷ ds) = if d == 48 then behind_zero ds else value_behind 10 0 (d ∷ ds)

-- a value of at most 2^63 - 1
abbrev pub small_value : Option ℕ → Option ℕ
small_value None = None
small_value (Some v) = if nat_lt v (2 ^ 63) then Some v else None

-- an int where it has no suffix and is at most 2147483647, and else a long
abbrev pub typed : List ℕ → ℕ → Number
typed text v = record { value = pos v; number_type = if has_suffix text || nat_lt 2147483647 v then Long else Int }

abbrev pub number : List ℕ → Option Number
number text = option_map (typed text) (small_value (value (without_suffix text)))
