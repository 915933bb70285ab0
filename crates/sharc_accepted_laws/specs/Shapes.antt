-- Shapes: what an element is and what its pointers lead to in turn, with the kinds of the modes and without the locks
-- that they name. The table of targets has a row for each shape.
use Rattle.std.specs.Prelude.{ℕ, ◌+◌, ◌-◌, Bool, true, false, ◌&&◌, List, [], ◌∷◌, ◌++◌, length, map, Some}
use Rattle.std.specs.Prelude.{if◌then◌else◌, codes}
use Rattle.sharc_tree.specs.{declared.ctype.Base.Base, Tree.Expression}
use Rattle.sharc_tree.specs.declared.ctype.Base.TheVariants as base
use Rattle.sharc_names.specs.Kinds.{Kind, object, array, null, function, same_base}
use Rattle.sharc_ctype.specs.{declared.entity.Numbered.Numbered, Entities.{entities_in, numbered}, Resolved.kind_at}
use Rattle.sharc_mode.specs.{Moded.Assignment, Notes.base_of, Rows.{Targets, written, entity_row, modes_of}}
use Rattle.sharc_mode.specs.Sharings.{Sharing, private, readonly, locked, racy, dynamic}

-- a mode without its lock path
pub data Form : Type 0 where
  private_form : Form
  readonly_form : Form
  locked_form : Form
  racy_form : Form
  dynamic_form : Form

abbrev pub form_of : Sharing → Form
form_of private = private_form
form_of readonly = readonly_form
form_of (locked l) = locked_form
form_of racy = racy_form
form_of dynamic = dynamic_form

-- an element of this base: the first form is that of its own mode, the others are those of what it points to in turn,
-- of which the last has the base
pub record Shape : Type 0 where
  pub base : Base
  pub forms : List Form

-- the shape of what a pointer to this base refers to, whose targets have these modes
abbrev pub shape_of : Base → List Sharing → Shape
shape_of b modes = record { base = b; forms = map form_of modes }

-- the shape of what a row's first target is
abbrev pub row_shape : Assignment → Base → Targets → Shape
row_shape m b row = shape_of b (modes_of m row)

-- ---- the shapes of a program

-- an element, and what it points to in turn
abbrev pub shapes_down : Base → List Form → List Shape
shapes_down b [] = []
shapes_down b (f ∷ below) = record { base = b; forms = f ∷ below } ∷ shapes_down b below

-- of the type of a field, a global, a result, a parameter, a local or a cast
abbrev pub entity_shapes : Assignment → Numbered → List Shape
entity_shapes m n = shapes_down n.entity.written.ctype.base (map form_of (modes_of m (entity_row written (Some n))))

-- what `wait`, `signal` and `broadcast` are handed, NULL too
abbrev pub known_condition : Shape
known_condition = record { base = base.Struct (codes "cond"); forms = dynamic_form ∷ [] }

abbrev pub known_mutex : Shape
known_mutex = record { base = base.Mutex; forms = dynamic_form ∷ [] }

-- these are there whether the program has such a type or not
abbrev pub shapes_of : Assignment → List Numbered → List Shape
shapes_of m [] = known_condition ∷ known_mutex ∷ []
shapes_of m (n ∷ rest) = entity_shapes m n ++ shapes_of m rest

abbrev pub shapes : Assignment → List Shape
shapes m = shapes_of m (numbered (entities_in m.typed.program.items))

-- ---- their numbers

abbrev pub same_form : Form → Form → Bool
same_form private_form private_form = true
same_form readonly_form readonly_form = true
same_form locked_form locked_form = true
same_form racy_form racy_form = true
same_form dynamic_form dynamic_form = true
same_form _ _ = false

abbrev pub same_forms : List Form → List Form → Bool
same_forms [] [] = true
same_forms [] (b ∷ bs) = false
same_forms (a ∷ more) [] = false
same_forms (a ∷ more) (b ∷ bs) = same_form a b && same_forms more bs

abbrev pub same_shape : Shape → Shape → Bool
same_shape a b = same_base a.base b.base && same_forms a.forms b.forms

-- the number of the first that is the same, counted from n; 0, which is that of nothing, where there is none
abbrev pub number_from : ℕ → List Shape → Shape → ℕ
number_from n [] s = 0
number_from n (x ∷ rest) s = if same_shape s x then n else number_from (n + 1) rest s

-- row 0 of the table is that of nothing
abbrev pub number : Assignment → Shape → ℕ
number m s = number_from 1 (shapes m) s

-- ---- elements

-- the kind of an element of this shape
abbrev pub kind_of : Shape → Kind
kind_of s = object s.base (length s.forms - 1)

-- the shape of what the value of an expression refers to, whose type has this row
abbrev pub expression_shape : Assignment → Expression → Targets → Shape
expression_shape m e row = row_shape m (base_of (kind_at m.typed e)) row

-- the stars of a type: so many targets it has
abbrev pub stars_in : Kind → ℕ
stars_in (object b stars) = stars
stars_in (array b stars) = stars
stars_in null = 0
stars_in function = 0
