-- What the table of targets is to those who type code by it.
use Rattle.std.specs.Prelude.{◌≡◌, ℕ, pos, ◌+◌, ◌-◌, ◌*◌, ◌^◌, ◌<◌, ◌≤◌, List, ◌∷◌, length, Some, slice_index}
use Rattle.std.specs.Prelude.{slice_index_or, slice_get, unsigned_abs, Contains}
use Rattle.std.specs.List.{AllByRecursion}
use Rattle.sharc_tree.specs.{declared.ctype.Base.Base, declared.tree.declaration.Declaration.Declaration}
use Rattle.sharc_tree.specs.declared.tree.expression.Constant.{Constant}
use Rattle.sharc_tree.specs.declared.tree.item.GlobalDefinition.{GlobalDefinition}
use Rattle.sharc_tree.specs.declared.tree.item.GlobalForm.{GlobalForm}
use Rattle.sharc_tree.specs.{declared.tree.item.StructDefinition.StructDefinition, Low.IsLow, Placed.IsPlaced}
use Rattle.sharc_tree.specs.Tree.{Expression, Function}
use Rattle.sharc_tree.specs.declared.ctype.Base.TheVariants as base
use Rattle.sharc_tree.specs.declared.tree.expression.Constant.TheVariants as constants
use Rattle.sharc_tree.specs.declared.tree.item.GlobalForm.TheVariants as forms
use Rattle.sharc_names.specs.Kinds.{Kind, declared_kind}
use Rattle.sharc_code.specs.{declared.code.Code.Code, Ranges.GlobalsFit}
use Rattle.sharc_ctype.specs.{Globals.elements_of, Items.IsTyped}
use Rattle.sharc_ctype.specs.Resolved.{IsResolved, declaration_at, kind_at, structs_in, globals_in, functions_in}
use Rattle.sharc_ctype_laws.specs.Constraints.{struct_named}
use Rattle.sharc_mode.specs.{Flows.IsLeastAssignment, Moded.{Assignment, position_count}, Notes.base_of}
use Rattle.sharc_mode.specs.{Rows.{PathReading, written, Targets, declared_row, row_at}, WellModed.WellModed}
use Rattle.sharc_check.specs.Constructs.{IsExpression}
use Rattle.sharc_meaning.specs.Cells.{element_cells, field_place}
use Rattle.sharc_flat.specs.Machine.{first_cell}
use Rattle.sharc_flat.specs.Tables.{globals_of, all_granules, all_first_words, layouts_of, pointers_of}
use Rattle.sharc_flat.specs.Flattened.{layout_of}
use Rattle.sharc_invariant.specs.Types.{FieldMode, no_field, row_of, cells_of, global_field, AreTargets}
use Rattle.sharc_invariant.specs.Typed.{Initial, IsLayout, AreGlobals}
use Rattle.sharc_accepted_laws.specs.Shapes.{Form, Shape, row_shape, kind_of, stars_in, shapes, number}
use Rattle.sharc_accepted_laws.specs.Targets.{member, base_fields, shape_row, global_element, targets_of}

-- a shape has a row, which is not that of nothing
pub record IsNumbered (m : Assignment) (s : Shape) : Type 0 where
  pub row : row_of (targets_of m) (number m s) ≡ shape_row m s
  pub some : number m s ≡ 0 → ⊥
  pub inside : number m s < length (targets_of m).rows

-- each shape of the program is numbered
abbrev pub NumbersFound : Type 0
NumbersFound = (m : Assignment) (s : Shape) → Contains (shapes m) s → IsNumbered m s

-- what an element of a shape points to is of one
abbrev pub ShapesClosed : Type 0
ShapesClosed = (m : Assignment) (b : Base) (f g : Form) (below : List Form)
    → Contains (shapes m) (record { base = b; forms = f ∷ g ∷ below })
    → Contains (shapes m) (record { base = b; forms = g ∷ below })

-- an element has as many cells as its type has in the source
abbrev pub CellsAre : Type 0
CellsAre = (m : Assignment) (s : Shape) → Contains (shapes m) s
    → cells_of (targets_of m) (number m s) ≡ element_cells m.typed (kind_of s)

-- in a well-moded program with its least assignment the table is one of targets
abbrev pub TargetsAre : Type 0
TargetsAre = (m : Assignment) → IsResolved m.typed → IsPlaced m.typed.program → IsLow m.typed.program
    → IsLeastAssignment m → WellModed m → AreTargets (targets_of m)

-- ---- rows of the source
-- the row of what has this type: its positions are positions of the program, one for each star, and the shape of its
-- first target is one of the program
pub record IsRowOf (m : Assignment) (k : Kind) (row : Targets) : Type 0 where
  pub ends : row.first + row.count ≤ length m.modes
  pub count : row.count ≡ stars_in k
  pub there : 0 < row.count → Contains (shapes m) (row_shape m (base_of k) row)

-- of each expression in a function
abbrev pub ExpressionsFound : Type 0
ExpressionsFound = (m : Assignment) → IsResolved m.typed → IsPlaced m.typed.program → IsLow m.typed.program
    → length m.modes ≡ position_count m.typed
    → (e : Expression) → IsExpression m e
    → (row : Targets) → row_at m.typed e ≡ Some row → IsRowOf m (kind_at m.typed e) row

-- of each field, parameter and local, however it is read
abbrev pub VariablesFound : Type 0
VariablesFound = (m : Assignment) → IsResolved m.typed → IsPlaced m.typed.program → IsLow m.typed.program
    → length m.modes ≡ position_count m.typed
    → (token : ℕ) (d : Declaration) → declaration_at m.typed token ≡ Some d
    → (how : PathReading) → IsRowOf m (declared_kind d.written) (declared_row m.typed how token)

-- of each result
abbrev pub ResultsFound : Type 0
ResultsFound = (m : Assignment) → IsResolved m.typed → IsPlaced m.typed.program → IsLow m.typed.program
    → length m.modes ≡ position_count m.typed
    → (f : Function) → Contains (functions_in m.typed.program.items) f
    → IsRowOf m (declared_kind f.result) (declared_row m.typed written f.name.site.token)

-- ---- cells
-- the field of this token is that cell of an element of its struct
pub record IsMemberAt (m : Assignment) (name : List ℕ) (d : Declaration) (q : FieldMode) : Type 0 where
  pub inside : field_place m.typed d.name.site.token < length (base_fields m q (base.Struct name))
  pub at : slice_index_or (base_fields m q (base.Struct name)) (field_place m.typed d.name.site.token) no_field
      ≡ member m q (field_place m.typed d.name.site.token) d

abbrev pub MembersAre : Type 0
MembersAre = (m : Assignment) → IsPlaced m.typed.program
    → (name : List ℕ) (s : StructDefinition) → struct_named (structs_in m.typed.program.items) name ≡ Some s
    → (d : Declaration) → Contains s.fields d → (q : FieldMode) → IsMemberAt m name d q

-- cell n of element e of the global k
pub record IsGlobalAt (m : Assignment) (k : ℕ) (g : GlobalDefinition) (e n : ℕ) : Type 0 where
  pub at : global_field (targets_of m) (first_cell (globals_of m.typed) k + (e * length (global_element m g) + n) - 2)
      ≡ slice_index_or (global_element m g) n no_field
  pub cells : length (global_element m g) ≡ element_cells m.typed (declared_kind g.declaration.written)

abbrev pub GlobalsAre : Type 0
GlobalsAre = (m : Assignment) (k : ℕ) (g : GlobalDefinition) → slice_get (globals_in m.typed.program.items) k ≡ Some g
    → (e n : ℕ) → e < elements_of g.form → n < length (global_element m g) → IsGlobalAt m k g e n

-- the globals have whole granules
abbrev pub GlobalsEnd : Type 0
GlobalsEnd = (m : Assignment)
    → length (targets_of m).globals ≡ 2 * all_granules m.typed (globals_in m.typed.program.items)

-- ---- what the cells of globals hold at first
-- a number is none below 0, as in each token that the lexer makes
abbrev pub IsCounted : Constant → Type 0
IsCounted (constants.Number n) = n.value ≡ pos (unsigned_abs n.value)
IsCounted _ = Unit {0}

abbrev pub CountedForm : GlobalForm → Type 0
CountedForm (forms.Initial span minus c) = IsCounted c
CountedForm _ = Unit {0}

-- a value of the type that the table has for the cell
abbrev pub GlobalsBegin : Type 0
GlobalsBegin = (m : Assignment) → IsTyped m.typed.program
    → AllByRecursion (λ g. CountedForm g.form) (globals_in m.typed.program.items)
    → (j : ℕ) → Initial (global_field (targets_of m) j).holds
    (slice_index (all_first_words m.typed (globals_in m.typed.program.items)) j)

-- ---- the globals of code
-- code with the tables of a program, as flattening lays them out
pub record HasTables (m : Assignment) (code : Code) : Type 0 where
  pub globals : code.globals.items ≡ globals_of m.typed
  pub granules : code.granules ≡ all_granules m.typed (globals_in m.typed.program.items)
  pub initial : code.initial.items ≡ all_first_words m.typed (globals_in m.typed.program.items)
  pub layouts : code.layouts.items ≡ layouts_of m.typed
  pub pointers : code.pointers.items ≡ pointers_of m.typed

-- Of tables in their ranges, which the laws of sharc_compile_laws and the contract of flattening give, the globals have
-- fields of the table, and first values.
abbrev pub GlobalsHold : Type 0
GlobalsHold = (m : Assignment) → IsTyped m.typed.program
    → AllByRecursion (λ g. CountedForm g.form) (globals_in m.typed.program.items) → (code : Code) → HasTables m code
    → code.granules ≤ 65536 → GlobalsFit code.globals.items code.granules
    → ((j : ℕ) → slice_index code.initial.items j < 2 ^ 64) → AreGlobals (targets_of m) code

-- ---- what Free clears
-- the layout of a type of the source is that of its shape's elements
abbrev pub LayoutsAre : Type 0
LayoutsAre = (m : Assignment) → IsTyped m.typed.program → (code : Code) → HasTables m code
    → (s : Shape) → Contains (shapes m) s
    → IsLayout (targets_of m) code (layout_of (structs_in m.typed.program.items) (kind_of s)) (number m s)
