-- The types of expressions and variables of a program, as sharc_typed_laws asks for them.
use Rattle.std.specs.Prelude.{ℕ, List, [], ◌∷◌, slice_get, Option, Some, None, if◌then◌else◌}
use Rattle.sharc_code.specs.{declared.instr.Width.Width, declared.instr.Width.TheVariants.Long}
use Rattle.sharc_ctype.specs.Resolved.{declaration_at, variable_kind}
use Rattle.sharc_flat.specs.{declared.slot.Slot.Slot, Places.width_of, Scope.Context}
use Rattle.sharc_typed_laws.specs.{Premises.Typing, Typable.type_by}
use Rattle.sharc_accepted_laws.specs.{Held.held_at, Static.{entry_of, variable_entry}}

-- the integers that stand: the first has register 0, and so on
abbrev pub integers : List Slot → List ℕ
integers [] = []
integers (x ∷ rest) = if x.is_pointer then integers rest else x.token ∷ integers rest

abbrev pub width_named : Context → Option ℕ → Width
width_named c None = Long
width_named c (Some x) = width_of (variable_kind (declaration_at c.program.typed x))

-- types name variables that keep their references
abbrev pub typing : Typing
typing = record {
  entry = entry_of;
  pointer = λ c q. type_by (variable_entry c q);
  width = λ c j. width_named c (slice_get (integers c.scope) j);
  named = held_at;
}
