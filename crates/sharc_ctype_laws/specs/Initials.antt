-- What C11 6.7.6.2 and 6.7.9 ask of a global: its length and its initial value.
use Rattle.std.specs.Prelude.{◌≡◌, ◌⊎◌, ℕ, ◌^◌, ◌≤◌, ◌<◌, Bool, Option, Some, None, MatchBool, unsigned_abs}
use Rattle.sharc_tree.specs.declared.ctype.Base.{Base}
use Rattle.sharc_tree.specs.declared.ctype.Base.TheVariants.{Int, Char, Long, Mutex, Void, Struct}
use Rattle.sharc_tree.specs.declared.tree.declaration.WrittenType.{WrittenType}
use Rattle.sharc_tree.specs.declared.tree.expression.Constant.{Constant}
use Rattle.sharc_tree.specs.declared.tree.expression.Constant.TheVariants.{Number, Character, Null}
use Rattle.sharc_tree.specs.declared.tree.item.GlobalDefinition.{GlobalDefinition}
use Rattle.sharc_tree.specs.declared.tree.item.GlobalForm.{GlobalForm}
use Rattle.sharc_tree.specs.declared.tree.item.GlobalForm.TheVariants.{Plain, Array, Initial}
use Rattle.sharc_names.specs.Kinds.{declared_kind}
use Rattle.sharc_ctype.specs.Globals.{elements_of}
use Rattle.sharc_ctype_laws.specs.Constraints.{IsInteger, IsPointer}

-- the bits of a value besides its sign (own: 8, 32 and 64 bits with the sign)
abbrev pub value_bits : Base → ℕ
value_bits Int = 31
value_bits Char = 7
value_bits Long = 63
value_bits Mutex = 0
value_bits Void = 0
value_bits (Struct name) = 0

-- a number, with or without a minus, that an integer of this base holds in two's complement
abbrev pub IsHeldBy : Base → Bool → ℕ → Type 0
IsHeldBy b minus n = MatchBool minus (n ≤ 2 ^ value_bits b) (n < 2 ^ value_bits b)

-- the number that a constant is; NULL is no number
abbrev pub number_of : Constant → Option ℕ
number_of (Number n) = Some (unsigned_abs n.value)
number_of (Character byte) = Some byte
number_of Null = None

-- 6.7.9p11 (own: it is not converted): an integer begins at a number that it holds, a pointer at NULL, and nothing else
-- has an initial value
abbrev pub MeetsInitial : WrittenType → GlobalForm → Type 0
MeetsInitial w Plain = Unit {0}
MeetsInitial w (Array at count) = Unit {0}
MeetsInitial w (Initial span minus c) =
    (IsInteger (declared_kind w) × (n : ℕ) × (number_of c ≡ Some n) × IsHeldBy w.ctype.base minus n)
    ⊎ (IsPointer (declared_kind w) × (c ≡ Null))

-- 6.7.6.2p1: an array has an element at least
pub record MeetsGlobal (g : GlobalDefinition) : Type 0 where
  pub elements : 1 ≤ elements_of g.form
  pub initial : MeetsInitial g.declaration.written g.form
