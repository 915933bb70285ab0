-- The pointer cells of the globals and of made objects: those that the table has are those of the source.
use Rattle.std.specs.Prelude.{◌≡◌, ℕ, ◌+◌, ◌-◌, ◌<◌, true, length, Some}
use Rattle.sharc_tree.specs.declared.tree.declaration.WrittenType.{WrittenType}
use Rattle.sharc_tree.specs.declared.tree.item.GlobalDefinition.{GlobalDefinition}
use Rattle.sharc_names.specs.Kinds.{Kind, declared_kind, element_kind}
use Rattle.sharc_names.specs.Kinds as kinds
use Rattle.sharc_code.specs.Ranges.{IsInGlobal, first_place}
use Rattle.sharc_ctype.specs.{Globals.elements_of, Resolved.global_at}
use Rattle.sharc_flat.specs.Tables.{globals_of}
use Rattle.sharc_invariant.specs.Types.{is_pointer, global_field, field_of_cell}
use Rattle.sharc_meaning.specs.References.{is_pointer_in, is_pointer_of_global}
use Rattle.sharc_mode.specs.{Moded.Assignment, Rows.Targets}
use Rattle.sharc_accepted_laws.specs.{TargetLaws.IsRowOf, Pointees.pointee, Targets.targets_of}

-- cell j of the globals, counted from the first of granule 1, is this cell of this global, which is a pointer in the
-- source
pub record IsPointerOfGlobal (m : Assignment) (j : ℕ) : Type 0 where
  pub global : ℕ
  pub definition : GlobalDefinition
  pub is : global_at m.typed global ≡ Some definition
  pub cell : ℕ
  pub inside : IsInGlobal (globals_of m.typed) global (j + 2)
  pub at : j + 2 ≡ first_place (globals_of m.typed) global + cell
  pub pointer : is_pointer_of_global m.typed (global_at m.typed global) cell ≡ true

-- so it is of each cell that is a pointer in the table
abbrev pub PointersAreOfGlobals : Type 0
PointersAreOfGlobals = (m : Assignment) (j : ℕ) → is_pointer (global_field (targets_of m) j).holds ≡ true
    → IsPointerOfGlobal m j

-- This cell of a global is a pointer in the table, where the global has it; and a global that has elements has a cell
-- that is one.
pub record IsPointerInTable (m : Assignment) (global cell : ℕ) : Type 0 where
  pub definition : GlobalDefinition
  pub is : global_at m.typed global ≡ Some definition
  pub known : global < length (globals_of m.typed)
  pub inside : IsInGlobal (globals_of m.typed) global (first_place (globals_of m.typed) global + cell)
      → is_pointer (global_field (targets_of m) (first_place (globals_of m.typed) global + cell - 2)).holds ≡ true
  pub near : ℕ
  pub there : 0 < elements_of definition.form
      → IsInGlobal (globals_of m.typed) global (first_place (globals_of m.typed) global + near)
  pub pointer : 0 < elements_of definition.form
      → is_pointer (global_field (targets_of m) (first_place (globals_of m.typed) global + near - 2)).holds ≡ true

-- so it is of each cell of a global that is a pointer in the source
abbrev pub GlobalsPoint : Type 0
GlobalsPoint = (m : Assignment) (global cell : ℕ) → is_pointer_of_global m.typed (global_at m.typed global) cell ≡ true
    → IsPointerInTable m global cell

-- A cell of what a pointer refers to is a pointer in the table where it is one in the type of its elements, however
-- that is written.
abbrev pub PointeesPoint : Type 0
PointeesPoint = (m : Assignment) (k : Kind) (row : Targets) → IsRowOf m k row → kinds.is_pointer k ≡ true
    → (w : WrittenType) → element_kind k ≡ declared_kind w
    → (i : ℕ) → is_pointer (field_of_cell (targets_of m) (pointee m k row) i).holds ≡ is_pointer_in m.typed w i
