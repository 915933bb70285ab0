-- What the program's values stand for.
use Rattle.std.specs.{Prelude.{ℕ, List, [], ◌∷◌, Option, Some, None}, Borrow.Bor}
use Rattle.sharc_tree.specs.declared.ctype.Base.{Base}
use Rattle.sharc_tree.specs.declared.ctype.Base.TheVariants as base
use Rattle.sharc_names.specs.{declared.kind.Root.Root, declared.kind.ExpressionKind.{ExpressionKind as RustKind}}
use Rattle.sharc_names.specs.declared.meaning.Signature.{Signature as RustSignature}
use Rattle.sharc_names.specs.{declared.meaning.Meaning.{Meaning as RustMeaning}, declared.meaning.Binding.Binding}
use Rattle.sharc_names.specs.declared.wanted.Wanted.{Wanted}
use Rattle.sharc_names.specs.declared.wanted.Wanted.TheVariants.{Parameters, Condition, MutexPointer}
use Rattle.sharc_names.specs.declared.structs.StructMeaning.{StructMeaning as RustStruct}
use Rattle.sharc_names.specs.Kinds.{Kind, object, array, null, function, mutex_pointer, declared_kinds}
use Rattle.sharc_names.specs.Names.{Meaning, Signature, Entry, variable, global, condition, condition_parameters}
use Rattle.sharc_names.specs.Names.{StructMeaning, StructTable, defined, known}
use Rattle.sharc_names.specs.declared.kind.Root.TheVariants as root
use Rattle.sharc_names.specs.declared.kind.ExpressionKind.TheVariants as kind
use Rattle.sharc_names.specs.declared.meaning.Meaning.TheVariants as meaning
use Rattle.sharc_names.specs.declared.structs.StructMeaning.TheVariants as struct
use Rattle.sharc_names.specs.Names as names

abbrev pub view_root : Root → Base
view_root root.Int = base.Int
view_root root.Char = base.Char
view_root root.Long = base.Long
view_root root.Mutex = base.Mutex
view_root root.Void = base.Void
view_root (root.Struct name) = base.Struct name.now

abbrev pub view_kind : RustKind → Kind
view_kind (kind.Object r stars) = object (view_root r) stars
view_kind (kind.Array r stars) = array (view_root r) stars
view_kind kind.Null = null
view_kind kind.Function = function

abbrev pub view_kinds : Option RustKind → Option Kind
view_kinds None = None
view_kinds (Some k) = Some (view_kind k)

abbrev pub view_signature : RustSignature → Signature
view_signature s = record { name = s.name.now; result = s.result.now; parameters = s.parameters.now }

abbrev pub view_meaning : RustMeaning → Meaning
view_meaning (meaning.Variable d) = variable d.now
view_meaning (meaning.Global n g) = global n g.now
view_meaning (meaning.Function n s) = names.function n (view_signature s)
view_meaning (meaning.Condition call) = condition call

abbrev pub view_bound : Binding → Entry
view_bound b = record { name = b.name.now; block = b.block; meaning = view_meaning b.meaning }

abbrev pub view_bounds : Option Binding → Option Entry
view_bounds None = None
view_bounds (Some b) = Some (view_bound b)

-- what the arguments of a call are wanted to be
abbrev pub view_wanted : Wanted → List Kind
view_wanted (Parameters list) = declared_kinds list.now
view_wanted (Condition call) = condition_parameters call
view_wanted MutexPointer = mutex_pointer ∷ []

abbrev pub view_wanteds : Option Wanted → Option (List Kind)
view_wanteds None = None
view_wanteds (Some w) = Some (view_wanted w)

abbrev pub view_struct : RustStruct → StructMeaning
view_struct (struct.Defined number fields) = defined number fields
view_struct struct.Known = known

abbrev pub structs_seen : List (Bor (List ℕ) × RustStruct) → StructTable
structs_seen [] = []
structs_seen (e ∷ rest) = (e.0.now, view_struct e.1) ∷ structs_seen rest

abbrev pub found_struct : Option (Bor RustStruct) → Option StructMeaning
found_struct None = None
found_struct (Some s) = Some (view_struct s.now)
