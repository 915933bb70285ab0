-- Values: integers, and references: NULL, or the number of an object with its number of elements. A reference is one
-- integer too, and NULL is 0.
use Rattle.std.specs.Prelude.{ℕ, ℤ, pos, ◌+◌, ◌*◌, ◌/◌, ◌%◌, ◌^◌, Bool, unsigned_abs}
use Rattle.sharc_tree.specs.declared.tree.expression.Constant.{Constant}
use Rattle.sharc_tree.specs.declared.tree.expression.Constant.TheVariants.{Number, Character, Null}
use Rattle.sharc_meaning.specs.Arithmetic.{is_zero}

abbrev pub NULL : ℤ
NULL = pos 0

abbrev pub reference : ℕ → ℕ → ℤ
reference number elements = pos (number + 2 ^ 32 * elements)

abbrev pub is_null : ℤ → Bool
is_null = is_zero

-- of a reference that is not NULL

abbrev pub number_of : ℤ → ℕ
number_of r = unsigned_abs r % (2 ^ 32)

abbrev pub elements_of : ℤ → ℕ
elements_of r = unsigned_abs r / (2 ^ 32)

abbrev pub constant_value : Constant → ℤ
constant_value (Number n) = n.value
constant_value (Character byte) = pos byte
constant_value Null = NULL
