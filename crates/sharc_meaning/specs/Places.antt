-- What lvalues name, and what is done at the places that they name: reads, writes and takes of cells and variables.
use Rattle.std.specs.Prelude.{ℕ, ℤ, pos, negsuc, ◌+◌, ◌*◌, nat_lt, not, [], ◌∷◌, Some, if◌then◌else◌}
use Rattle.sharc_tree.specs.declared.event.Act.TheVariants as acts
use Rattle.sharc_tree.specs.{declared.event.CellAt.CellAt, declared.event.CellMode.CellMode}
use Rattle.sharc_tree.specs.declared.event.CellMode.TheVariants.{Private, Readonly, Locked, Racy, Dynamic}
use Rattle.sharc_tree.specs.{declared.event.Object.Object, declared.event.Object.TheVariants.{Global, Made}}
use Rattle.sharc_tree.specs.{declared.event.TakeKind.TakeKind, declared.token.Site.Site}
use Rattle.sharc_tree.specs.declared.tree.expression.FieldOperator.{FieldOperator}
use Rattle.sharc_tree.specs.declared.tree.expression.FieldOperator.TheVariants.{Dot, Arrow}
use Rattle.sharc_tree.specs.declared.tree.expression.UnaryOperator.{UnaryOperator}
use Rattle.sharc_tree.specs.{declared.tree.expression.UnaryOperator.TheVariants.Dereference, Tree.Expression}
use Rattle.sharc_tree.specs.declared.event.Taken.TheVariants as taken
use Rattle.sharc_tree.specs.declared.trap.Trap.TheVariants as traps
use Rattle.sharc_names.specs.{declared.fault.Named.Named, Kinds.{Kind, is_array, is_pointer, element_kind}}
use Rattle.sharc_names.specs.declared.fault.Named.TheVariants as named
use Rattle.sharc_ctype.specs.Resolved.{Resolution, global_at, kind_at}
use Rattle.sharc_mode.specs.Sharings.{Sharing, private, readonly, locked, racy, dynamic}
use Rattle.sharc_meaning.specs.Cells.{cell_of, element_cells, global_elements, field_place_named, Guard, mutex, behind}
use Rattle.sharc_meaning.specs.Cells.{nothing as no_mutex, guard_of, instance_mode}
use Rattle.sharc_meaning.specs.Reference.{NULL, is_null, number_of, elements_of}
use Rattle.sharc_meaning.specs.declared.given.GivenUp.TheVariants.{Replaced, Emptied}
use Rattle.sharc_meaning.specs.State.{nulls, Run, Step, ◌>>=◌, ◌>>◌, give, done, stop, unless_stop, answered, performs}
use Rattle.sharc_meaning.specs.State.{gives_up, drops, holds, holds_reference, moves, moves_on, value_of, looks_at}
use Rattle.sharc_meaning.specs.State.{traces, sets, reads_variable, writes_variable}

-- ---- places

-- what an lvalue names: a variable, or a cell of an object in the element that begins at the cell given first
pub data StorePlace : Type 0 where
  variable : ℕ → StorePlace
  cell : Object → ℕ → ℕ → StorePlace

abbrev pub no_place : StorePlace
no_place = variable 0

abbrev pub place_named : Named → StorePlace
place_named (named.Variable token) = variable token
place_named (named.Global n) = cell (Global n) 0 0
place_named _ = no_place

-- the first element of what a pointer refers to
abbrev pub pointee : ℤ → StorePlace
pointee p = cell (Made (number_of p)) 0 0

abbrev pub field_in : ℕ → StorePlace → StorePlace
field_in n (variable x) = variable x
field_in n (cell o first c) = cell o first (first + n)

-- a base that is a pointer is held by a temporary, and NULL stops
abbrev pub based : Site → Kind → ℤ → Step
based site kind p = do
  holds kind p
  unless_stop (not (is_null p)) traps.NullPointer site

-- an element with this many cells, of this many elements; an index outside stops
abbrev pub element : Site → Object → ℕ → ℕ → ℤ → Run StorePlace
element site o cells elements (pos n) =
    if nat_lt n elements then give (cell o (n * cells) (n * cells)) else stop traps.IndexOutOfBounds site
element site o cells elements (negsuc n) = stop traps.IndexOutOfBounds site

abbrev pub element_of_array : Resolution → Site → ℕ → StorePlace → ℤ → Run StorePlace
element_of_array r site cells (cell (Global g) first c) i =
    element site (Global g) cells (global_elements (global_at r g)) i
element_of_array r site cells _ i = give no_place

-- `a[i]`: of a global array, or of what a pointer refers to; the base is looked at before the index
abbrev pub index_place : Resolution → Site → Expression → Run StorePlace → Run ℤ → Run ℤ → Run StorePlace
index_place r site a array pointer i =
    if is_array (kind_at r a)
    then (do
      base ← array
      n ← i
      element_of_array r site (element_cells r (element_kind (kind_at r a))) base n)
    else (do
      p ← pointer
      based site (kind_at r a) p
      n ← i
      element site (Made (number_of p)) (element_cells r (element_kind (kind_at r a))) (elements_of p) n)

-- `*a`
abbrev pub pointee_place : Resolution → Site → Expression → Run ℤ → Run StorePlace
pointee_place r site a pointer = do
  p ← pointer
  based site (kind_at r a) p
  give (pointee p)

-- `a.n` and `a->n`
abbrev pub field_place : Resolution → Site → Expression → FieldOperator → Named → Run StorePlace → Run ℤ
    → Run StorePlace
field_place r site a Dot n base pointer = do
  p ← base
  give (field_in (field_place_named r n) p)
field_place r site a Arrow n base pointer = do
  p ← pointee_place r site a pointer
  give (field_in (field_place_named r n) p)

abbrev pub unary_place : Resolution → Site → UnaryOperator → Expression → Run ℤ → Run StorePlace
unary_place r site Dereference a pointer = pointee_place r site a pointer
unary_place r site _ a pointer = give no_place

-- ---- accesses

-- A mutex to which a pointer cell refers is found by a Read of that cell, the last event before the access. Where a
-- path leads through NULL the access stops.
abbrev pub guarding : Site → Guard → Run CellAt
guarding site (mutex c) = give c
guarding site (behind c) = do
  p ← answered site (acts.Read c Readonly)
  unless_stop (not (is_null p)) traps.NullPointer site
  give (cell_of (Made (number_of p)) 0)
guarding site no_mutex = stop traps.NullPointer site

-- the mode in the event of an access to a cell in this element
abbrev pub access_mode : Resolution → Site → Sharing → Object → ℕ → Run CellMode
access_mode r site private o first = give Private
access_mode r site readonly o first = give Readonly
access_mode r site (locked l) o first = do
  held ← looks_at value_of
  c ← guarding site (guard_of r held o first l)
  give (Locked (Some c))
access_mode r site racy o first = give Racy
access_mode r site dynamic o first = give Dynamic

-- the value at a place
abbrev pub fetched : Resolution → Site → Sharing → StorePlace → Run ℤ
fetched r site mode (variable x) = reads_variable site x
fetched r site mode (cell o first c) = do
  under ← access_mode r site mode o first
  answered site (acts.Read (cell_of o c) under)

-- a value of this type to a place; the old one is given up, the reference moves in
abbrev pub stored : Resolution → Site → Kind → Sharing → StorePlace → ℤ → Step
stored r site kind mode (variable x) v = do
  old ← looks_at (λ s. value_of s x)
  writes_variable site x v
  drops kind old
stored r site kind mode (cell o first c) v = do
  holds kind v
  under ← access_mode r site mode o first
  performs site (acts.Write (cell_of o c) under v)
  moves kind
  if is_pointer kind then gives_up (Replaced (cell_of o c) ∷ []) else done

-- What a sharing cast or `free` takes away; the place is NULL from then on. A variable that is NULL asks for nothing,
-- and the answer of its Take is the reference that it holds. The nulling is placed at the token of the construct.
abbrev pub nulled : Site → ℕ → Step
nulled token x = do
  traces nulls x token
  sets x NULL

abbrev pub taken_from : Resolution → Site → Site → Sharing → TakeKind → StorePlace → Run ℤ
taken_from r token site mode kind (variable x) = do
  v ← looks_at (λ s. value_of s x)
  if is_null v then give v else answered site (acts.Take (taken.Local x) kind)
  nulled token x
  give v
taken_from r token site mode kind (cell o first c) = do
  under ← access_mode r site mode o first
  answered site (acts.Take (taken.Cell (cell_of o c) under) kind)

-- the reference that was taken goes on under its new mode
abbrev pub cast_to : Resolution → Site → Sharing → ℤ → Run ℤ
cast_to r site mode v = do
  holds_reference v
  held ← looks_at value_of
  performs site (acts.Give v (instance_mode r held mode))
  moves_on 1
  give v

-- the object ends, and the references in its pointer cells are given up on the way
abbrev pub freed : Site → ℤ → Step
freed site v = do
  gives_up (Emptied (number_of v) ∷ [])
  holds_reference v
  performs site (acts.Freed v)
  moves_on 1
