-- What pointers refer to, as the table has it, and what a cast to another mode leaves of it.
use Rattle.std.specs.{Prelude.{◌≡◌, ℕ, true, List, ◌∷◌, drop, map, Some, Contains}, List.AllByRecursion}
use Rattle.sharc_names.specs.Kinds.{Kind, is_pointer, element_kind}
use Rattle.sharc_ctype.specs.Resolved.{Resolution, structs_in}
use Rattle.sharc_mode.specs.{Cells.pointed, Moded.Assignment, Notes.base_of, Rows.{Targets, modes_of}}
use Rattle.sharc_mode.specs.Sharings.{Sharing, is_private, same_all}
use Rattle.sharc_meaning.specs.Cells.{element_cells}
use Rattle.sharc_flat.specs.Flattened.{layout_of}
use Rattle.sharc_invariant.specs.Types.{FieldLock, OfType, OfGlobals, OfElement, Content, Pointer, cells_of, field_at}
use Rattle.sharc_invariant.specs.Types.{row_of}
use Rattle.sharc_accepted_laws.specs.{TargetLaws.IsRowOf, Shapes.{form_of, row_shape, kind_of, shapes, number}}
use Rattle.sharc_accepted_laws.specs.Targets.{lock_count, type_locks, shape_fields, targets_of}

-- the number of what a pointer of this type and row refers to
abbrev pub pointee : Assignment → Kind → Targets → ℕ
pointee m k row = number m (row_shape m (base_of k) row)

-- its elements are those of the source: so many cells, of this layout, with these fields, and private data or not
pub record PointeeFits (m : Assignment) (k : Kind) (row : Targets) : Type 0 where
  pub shape : Contains (shapes m) (row_shape m (base_of k) row)
  pub cells : cells_of (targets_of m) (pointee m k row) ≡ element_cells m.typed (element_kind k)
  pub layout : layout_of (structs_in m.typed.program.items) (element_kind k)
      ≡ layout_of (structs_in m.typed.program.items) (kind_of (row_shape m (base_of k) row))
  pub fields : (row_of (targets_of m) (pointee m k row)).fields
      ≡ shape_fields m (base_of k) (map form_of (modes_of m row))
  pub private_data : (row_of (targets_of m) (pointee m k row)).is_private ≡ is_private (pointed m (Some row))

-- of each pointer that has such a row
abbrev pub PointeesFit : Type 0
PointeesFit = (m : Assignment) (k : Kind) (row : Targets) → IsRowOf m k row → is_pointer k ≡ true → PointeeFits m k row

-- ---- casts
-- no lock of the element's own type
abbrev pub IsPlainLock : FieldLock → Type 0
IsPlainLock (OfType k) = ⊥
IsPlainLock (OfGlobals j) = Unit {0}
IsPlainLock (OfElement f j) = Unit {0}

abbrev pub HasPlainLocks : Content → Type 0
HasPlainLocks (Pointer to) = AllByRecursion IsPlainLock to.locks
HasPlainLocks _ = Unit {0}

-- what a cell holds in an element with these modes, from its own one on, and in one with those: the same, or a pointer
-- to the same with the locks of both types
pub data IsRecast (a b : List Sharing) : Content → Content → Type 0 where
  is_same : (c : Content) → HasPlainLocks c → IsRecast a b c c
  of_types : (p q : Sharing) (below others : List Sharing) (target : ℕ) → a ≡ p ∷ below → b ≡ q ∷ others
      → IsRecast a b
      (Pointer (record { target = target; locks = type_locks (lock_count (form_of p)) (map form_of below) }))
      (Pointer (record { target = target; locks = type_locks (lock_count (form_of q)) (map form_of others) }))

pub record RecastFits (m : Assignment) (k : Kind) (from to : Targets) : Type 0 where
  pub cells : cells_of (targets_of m) (pointee m k from) ≡ cells_of (targets_of m) (pointee m k to)
  pub contents : (field : ℕ) → IsRecast (modes_of m from) (modes_of m to)
      (field_at (targets_of m) (pointee m k from) field).holds (field_at (targets_of m) (pointee m k to) field).holds

-- a cast that keeps the kinds of the modes from depth 2 on leaves what the cells are and refer to
abbrev pub RecastsFit : Type 0
RecastsFit = (m : Assignment) (k : Kind) (from to : Targets) → IsRowOf m k from → IsRowOf m k to → is_pointer k ≡ true
    → map form_of (drop 1 (modes_of m from)) ≡ map form_of (drop 1 (modes_of m to)) → RecastFits m k from to

-- modes that are the same are of one kind, whatever their paths are called
abbrev pub SameForms : Type 0
SameForms = (r : Resolution) (a b : List Sharing) → same_all r a b ≡ true → map form_of a ≡ map form_of b
