-- What holds where an expression is: the variables that it names and those of the lock paths that it uses are in the
-- flat scope.
use Rattle.std.specs.{Prelude.{◌≡◌, ℕ, false, true, List, Option, Some, None}, List.AllByRecursion}
use Rattle.sharc_tree.specs.{declared.tree.declaration.Declaration.Declaration, Low.IsLow, Placed.IsPlaced}
use Rattle.sharc_tree.specs.Tree.{Expression, identifier, First, nothing, declares, does, Statement, Statements}
use Rattle.sharc_tree.specs.Tree.{no_statements, statement}
use Rattle.sharc_tree.specs.Tree as tree
use Rattle.sharc_names.specs.{declared.fault.Named.Named, Kinds.is_pointer, Names.Entry}
use Rattle.sharc_names.specs.declared.fault.Named.TheVariants as named
use Rattle.sharc_ctype.specs.Items.{file_scope, in_body}
use Rattle.sharc_ctype.specs.Resolved.{Resolution, IsResolved, functions_in, declaration_at, global_at, kind_at}
use Rattle.sharc_ctype.specs.Resolved.{named_at, variable_kind}
use Rattle.sharc_ctype.specs.Statements.{Around, is_aggregate, opened, looping, declared, behind_first, after}
use Rattle.sharc_ctype.specs.{declared.entity.Entity.Entity, Entities.entities_in}
use Rattle.sharc_mode.specs.{Cells.{cell_at, global_cell, pointed}, Flows.IsLeastAssignment, WellModed.WellModed}
use Rattle.sharc_mode.specs.{WellFormed.{first_unfit_path, place_of}, Moded.Assignment}
use Rattle.sharc_mode.specs.{Rows.{written, row_at, declared_row}, Sharings.{Sharing, locked}}
use Rattle.sharc_ctype_laws.specs.{Constraints.HasType, Paths.{IsVariableIn, around_in}}
use Rattle.sharc_ctype_laws.specs.Places.{Placing, places_of_all}
use Rattle.sharc_flat.specs.{declared.flat.Flat.{Flat as FlatCode}, Framed.{IsFlat, IsFramed}, Made.flat_of}
use Rattle.sharc_flat.specs.{Correct.{ProgramSuits, AsksTheSame}, Flattens.Flattens, Laws.FitsMade, Places.guard_field}
use Rattle.sharc_flat.specs.{Scope.{Context, slot_kind}, Suits.PathStands}

-- a variable that is named is in the scope, in the bank of its type, and is no struct and no mutex
pub record IsHere (c : Context) (token : ℕ) : Type 0 where
  pub slot : slot_kind c.scope token ≡ Some (is_pointer (variable_kind (declaration_at c.program.typed token)))
  pub held : is_aggregate (variable_kind (declaration_at c.program.typed token)) ≡ false

abbrev pub NameStands : Context → Expression → Type 0
NameStands c (identifier s i) = (token : ℕ) → named_at c.program.typed i.site.token ≡ named.Variable token
    → IsHere c token
NameStands c _ = Unit {0}

pub record AtPlace (c : Context) (e : Expression) : Type 0 where
  pub has : HasType c.program.typed e (kind_at c.program.typed e)
  pub name : NameStands c e
  pub cell : PathStands c.program.typed c.scope (cell_at c.program e)
  pub row : PathStands c.program.typed c.scope (pointed c.program (row_at c.program.typed e))

-- no global's own mode is locked behind a sibling pointer
abbrev pub GlobalsUnguarded : Assignment → Type 0
GlobalsUnguarded m = (g : ℕ) → guard_field m.typed (global_cell m (global_at m.typed g)) ≡ None

-- ---- what is asked of lock paths: the variable that such a path names is a pointer in scope where the mode is used

abbrev pub PathNamedIn : Resolution → List Entry → Named → Option (List ℕ) → Type 0
PathNamedIn r names (named.Variable x) (Some m) =
    IsVariableIn names x × (is_pointer (variable_kind (declaration_at r x)) ≡ true)
PathNamedIn r names _ m = Unit {0}

abbrev pub PathIn : Resolution → List Entry → Sharing → Type 0
PathIn r names (locked l) = PathNamedIn r names (named_at r l.first) l.second
PathIn r names _ = Unit {0}

-- of the cell that an expression names, and of what it points to
pub record LocksAt (m : Assignment) (p : Placing) : Type 0 where
  pub cell : PathIn m.typed p.scope.names (cell_at m p.expression)
  pub row : PathIn m.typed p.scope.names (pointed m (row_at m.typed p.expression))

-- of what a local points to, where it is declared
abbrev pub LocksOf : Assignment → List Entry → Declaration → Type 0
LocksOf m names d = PathIn m.typed names (pointed m (Some (declared_row m.typed written d.name.site.token)))

abbrev pub FirstLocks : Assignment → Around → List Entry → First → Type 0
FirstLocks m around names nothing = Unit {0}
FirstLocks m around names (declares l) = LocksOf m (declared around.block l.declaration names) l.declaration
FirstLocks m around names (does x) = Unit {0}

abbrev mutual
  pub LocalLocks : Assignment → Around → List Entry → Statement → Type 0
  LocalLocks m around names (tree.empty s) = Unit {0}
  LocalLocks m around names (tree.block s all) = AllLocalLocks m (opened around names) names all
  LocalLocks m around names (tree.declare s l) = LocksOf m (declared around.block l.declaration names) l.declaration
  LocalLocks m around names (tree.simple s x) = Unit {0}
  LocalLocks m around names (tree.jump s j) = Unit {0}
  LocalLocks m around names (tree.return s e) = Unit {0}
  LocalLocks m around names (tree.if_then s e a) = LocalLocks m (opened around names) names a
  LocalLocks m around names (tree.if_then_else s e a b) =
      LocalLocks m (opened around names) names a × LocalLocks m (opened around names) names b
  LocalLocks m around names (tree.while s e a) = LocalLocks m (looping (opened around names)) names a
  LocalLocks m around names (tree.for s h a) = FirstLocks m (opened around names) names h.first
      × LocalLocks m (looping (opened around (behind_first (opened around names) names h.first)))
      (behind_first (opened around names) names h.first) a

  pub AllLocalLocks : Assignment → Around → List Entry → Statements → Type 0
  AllLocalLocks m around names no_statements = Unit {0}
  AllLocalLocks m around names (statement a rest) =
      LocalLocks m around names a × AllLocalLocks m around (after around names a) rest

pub record LocksFound (m : Assignment) : Type 0 where
  pub places :
      AllByRecursion (LocksAt m) (places_of_all (file_scope m.typed.program.items) (functions_in m.typed.program.items))
  pub locals : AllByRecursion (λ f. AllLocalLocks m (around_in (file_scope m.typed.program.items) f)
      (in_body (file_scope m.typed.program.items) f).names f.statements) (functions_in m.typed.program.items)

-- In a typed program with its least assignment they are.
abbrev pub LocksAreFound : Type 0
LocksAreFound = (m : Assignment) → IsResolved m.typed → IsPlaced m.typed.program → IsLow m.typed.program
    → IsLeastAssignment m → LocksFound m

-- A typed, well-moded program suits flat code.
abbrev pub TypedSuits : Type 0
TypedSuits = (m : Assignment) → IsResolved m.typed → IsPlaced m.typed.program → IsLow m.typed.program
    → IsLeastAssignment m → WellModed m → ProgramSuits m

-- So what flattening makes of it asks for what it asks for, and stays within its frames.
abbrev pub TypedAsksTheSame : Type 0
TypedAsksTheSame = (m : Assignment) → IsResolved m.typed → IsPlaced m.typed.program → IsLow m.typed.program
    → IsLeastAssignment m → WellModed m → (code : FlatCode) → Flattens m code → AsksTheSame m (flat_of code)

abbrev pub TypedIsFramed : Type 0
TypedIsFramed = (m : Assignment) → IsResolved m.typed → IsPlaced m.typed.program → IsLow m.typed.program
    → IsLeastAssignment m → WellModed m
    → (code : FlatCode) → Flattens m code → FitsMade (flat_of code) → IsFlat (flat_of code) × IsFramed (flat_of code)

-- the lock paths of a type are of the allowed forms, as those of a well-moded program are (M4)
abbrev pub IsFit : Resolution → Entity → Type 0
IsFit r e = first_unfit_path r (place_of e.role) e.written.ctype.base e.written.ctype.levels ≡ None

-- In a program whose paths are, no global is locked behind a sibling pointer.
abbrev pub FitAreUnguarded : Type 0
FitAreUnguarded = (m : Assignment) → IsLeastAssignment m
    → AllByRecursion (IsFit m.typed) (entities_in m.typed.program.items) → GlobalsUnguarded m
