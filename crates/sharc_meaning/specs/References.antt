-- The references to an object: what holds one after a list of events, by a scan of the whole state.
use Rattle.std.specs.Prelude.{◌≡◌, ◌⊎◌, ℕ, ℤ, ◌≤◌, ◌<◌, ◌==◌, ◌%◌, Bool, true, false, not, ◌&&◌, ◌||◌, List, [], ◌∷◌}
use Rattle.std.specs.Prelude.{length, count_by, filter_map, flat_map, Any, slice_index_or, Option, Some, None}
use Rattle.std.specs.Prelude.{if◌then◌else◌}
use Rattle.std.specs.{List.list_any, Str.bytes_eq}
use Rattle.sharc_tree.specs.{declared.ctype.Base.Base, declared.ctype.Base.TheVariants.Struct, declared.event.Act.Act}
use Rattle.sharc_tree.specs.{declared.event.Act.TheVariants.{Take, Spawn}, declared.event.CellAt.CellAt}
use Rattle.sharc_tree.specs.{declared.event.Object.Object, declared.event.Object.TheVariants.{Global, Made}}
use Rattle.sharc_tree.specs.{declared.event.SourceEvent.SourceEvent, declared.event.TakeKind.TakeKind}
use Rattle.sharc_tree.specs.declared.event.TakeKind.TheVariants.{Cast, Free}
use Rattle.sharc_tree.specs.declared.tree.declaration.Declaration.{Declaration}
use Rattle.sharc_tree.specs.declared.tree.declaration.WrittenType.{WrittenType}
use Rattle.sharc_tree.specs.declared.tree.item.GlobalDefinition.{GlobalDefinition}
use Rattle.sharc_tree.specs.declared.tree.item.StructDefinition.{StructDefinition}
use Rattle.sharc_tree.specs.Tree.{Right, value, malloc, Function}
use Rattle.sharc_names.specs.Kinds.{declared_kind, is_pointer}
use Rattle.sharc_ctype.specs.Layouts.{pointer_cells}
use Rattle.sharc_ctype.specs.Resolved.{Resolution, structs_in, functions_in, function_at, global_at}
use Rattle.sharc_ctype.specs.Transfers.{function_transfers}
use Rattle.sharc_mode.specs.Moded.{Assignment}
use Rattle.sharc_meaning.specs.{Events.{makes, events_of, latest}, Meaning.{Asked, asks}}
use Rattle.sharc_meaning.specs.{Reference.{is_null, number_of}, Runs.{Follows, answers_of}}
use Rattle.sharc_meaning.specs.Store.{value_after, meets, is_live, is_locked, spawns}

-- the value is a reference to the object of this number
abbrev pub refers : ℕ → ℤ → Bool
refers n v = not (is_null v) && number_of v == n

-- ---- which cells are pointers

abbrev pub fields_called : List StructDefinition → List ℕ → List Declaration
fields_called [] name = []
fields_called (s ∷ rest) name = if bytes_eq s.name.text name then s.fields else fields_called rest name

abbrev pub base_fields : Resolution → Base → List Declaration
base_fields r (Struct name) = fields_called (structs_in r.program.items) name
base_fields r _ = []

-- a cell of an object whose elements have this type
abbrev pub is_pointer_in : Resolution → WrittenType → ℕ → Bool
is_pointer_in r w cell =
    let fields = base_fields r w.ctype.base in
    is_pointer (declared_kind w) || slice_index_or (pointer_cells fields) (cell % length fields) false

abbrev pub made_at : ℕ → Right → Option WrittenType
made_at token (value e) = None
made_at token (malloc s n w) = if s.first.token == token then Some w else None

-- the types of the objects that the malloc at this token makes
abbrev pub types_made : Resolution → ℕ → List WrittenType
types_made r token =
    filter_map (λ t. made_at token t.source) (flat_map (function_transfers r) (functions_in r.program.items))

abbrev pub is_pointer_of_global : Resolution → Option GlobalDefinition → ℕ → Bool
is_pointer_of_global r None cell = false
is_pointer_of_global r (Some g) cell = is_pointer_in r g.declaration.written cell

-- of the object that the New made
abbrev pub is_pointer_of_made : Resolution → Option SourceEvent → ℕ → Bool
is_pointer_of_made r None cell = false
is_pointer_of_made r (Some e) cell = list_any (λ w. is_pointer_in r w cell) (types_made r e.site.token)

abbrev pub is_pointer_of : Resolution → List SourceEvent → Object → ℕ → Bool
is_pointer_of r R (Global g) cell = is_pointer_of_global r (global_at r g) cell
is_pointer_of r R (Made n) cell = is_pointer_of_made r (latest (makes (Made n)) R) cell

-- ---- objects that a `free` has taken

abbrev pub is_free : TakeKind → Bool
is_free Cast = false
is_free Free = true

abbrev pub taken_to_free : Act → Bool
taken_to_free (Take place kind) = is_free kind
taken_to_free _ = false

abbrev pub takes_to_free : Object → SourceEvent → Bool
takes_to_free (Global g) e = false
takes_to_free (Made n) e = taken_to_free e.act && refers n e.answer

-- a `free` has taken the object, and it was not made again since
abbrev pub is_taken_to_free : List SourceEvent → ℕ → Bool
is_taken_to_free R n = meets (takes_to_free (Made n)) (latest (λ e. makes (Made n) e || takes_to_free (Made n) e) R)

-- The cells of this object count among the references to the object of this number: it is a global, or it is live. The
-- cells of an object that a `free` has taken are left out, but for those that refer to itself.
abbrev pub Counts : List SourceEvent → ℕ → Object → Type 0
Counts R n (Global g) = Unit {0}
Counts R n (Made k) = (is_live R (Made k) ≡ true) × ((k ≡ n) ⊎ (is_taken_to_free R k ≡ false))

-- ---- what threads hold

-- what a thread asks for that was started: this function, this argument, and the events after its Started
pub record Begun (m : Assignment) (R : List SourceEvent) (thread : ℕ) : Type 0 where
  pub fuel : ℕ
  pub own : Follows m R fuel thread

abbrev pub asked_with : {m : Assignment} {R : List SourceEvent} {thread : ℕ} → Begun m R thread → ℕ → Asked
asked_with {m} {R} {thread} b fuel =
    asks m b.own.function b.own.argument (answers_of (events_of thread b.own.after)) fuel

-- how many of the pointers that it holds refer to the object
abbrev pub held_count : Asked → ℕ → ℕ
held_count a n = count_by (refers n) a.held

-- It holds more than `which` references to the object where there is a fuel from which on it holds more than `which`,
-- at every fuel. At its next want, its stop or its end more fuel changes nothing, so these are the references that it
-- holds there; and a thread that comes to none of these holds what it never gives up.
pub record ThreadHolds (m : Assignment) (R : List SourceEvent) (thread which n : ℕ) : Type 0 where
  pub begun : Begun m R thread
  pub from : ℕ
  pub holds : (fuel : ℕ) → from ≤ fuel → which < held_count (asked_with begun fuel) n

-- ---- the references

-- what may hold a reference: a pointer cell, the argument of a thread that is not started, a mutex that is held, and a
-- thread, which may hold several: these are counted from 0
pub data Holder : Type 0 where
  in_cell : CellAt → Holder
  in_argument : ℕ → Holder
  in_mutex : CellAt → Holder
  in_thread : ℕ → ℕ → Holder

abbrev pub takes_reference : List Declaration → Bool
takes_reference [] = false
takes_reference (d ∷ rest) = is_pointer (declared_kind d.written)

abbrev pub has_pointer : Option Function → Bool
has_pointer None = false
has_pointer (Some f) = takes_reference f.parameters

abbrev pub passes : Resolution → ℕ → Act → Bool
passes r n (Spawn f v) = has_pointer (function_at r f) && refers n v
passes r n _ = false

-- the cell is one of a pointer
pub record CellRefers (m : Assignment) (R : List SourceEvent) (n : ℕ) (c : CellAt) : Type 0 where
  pub pointer : is_pointer_of m.typed R c.object c.cell ≡ true
  pub counts : Counts R n c.object
  pub refers_there : refers n (value_after m.typed R c) ≡ true

pub record ArgumentRefers (m : Assignment) (R : List SourceEvent) (n thread : ℕ) : Type 0 where
  pub unread : events_of thread R ≡ []
  pub spawned : Any (λ e. (spawns thread e ≡ true) × (passes m.typed n e.act ≡ true)) R

-- `n` is the number of a made object
abbrev pub References : Assignment → List SourceEvent → ℕ → Holder → Type 0
References m R n (in_cell c) = CellRefers m R n c
References m R n (in_argument thread) = ArgumentRefers m R n thread
References m R n (in_mutex c) = (c.object ≡ Made n) × (is_locked R c ≡ true)
References m R n (in_thread thread which) = ThreadHolds m R thread which n

-- ---- with a given fuel

-- what a thread holds where it has come with this fuel
pub record ThreadHoldsWith (fuel : ℕ) (m : Assignment) (R : List SourceEvent) (thread which n : ℕ) : Type 0 where
  pub begun : Begun m R thread
  pub holds : which < held_count (asked_with begun fuel) n

abbrev pub ReferencesWith : ℕ → Assignment → List SourceEvent → ℕ → Holder → Type 0
ReferencesWith fuel m R n (in_thread thread which) = ThreadHoldsWith fuel m R thread which n
ReferencesWith fuel m R n (in_cell c) = References m R n (in_cell c)
ReferencesWith fuel m R n (in_argument thread) = References m R n (in_argument thread)
ReferencesWith fuel m R n (in_mutex c) = References m R n (in_mutex c)
