-- Written types: which structs and locks they name, and which may be written where.
use Rattle.std.specs.Prelude.{ℕ, ◌+◌, ◌==◌, nat_lt, Bool, true, false, ◌&&◌, ◌||◌, List, [], ◌∷◌, ◌++◌, Option, Some}
use Rattle.std.specs.Prelude.{None, is_some, if◌then◌else◌}
use Rattle.sharc_tree.specs.declared.ctype.Base.{Base}
use Rattle.sharc_tree.specs.declared.ctype.Base.TheVariants.{Int, Char, Long, Mutex, Void, Struct}
use Rattle.sharc_tree.specs.{declared.ctype.Path.Path, declared.ctype.Path.TheVariants.{One, Through}}
use Rattle.sharc_tree.specs.declared.ctype.Mode.{Mode}
use Rattle.sharc_tree.specs.declared.ctype.Mode.TheVariants.{Private, Readonly, Locked, Racy, Dynamic}
use Rattle.sharc_tree.specs.declared.tree.declaration.WrittenType.{WrittenType}
use Rattle.sharc_tree.specs.declared.tree.declaration.Declaration.{Declaration}
use Rattle.sharc_names.specs.declared.types.Role.{Role}
use Rattle.sharc_names.specs.declared.types.Role.TheVariants.{Field, Global, Local, Parameter, Result, Cast, Made}
use Rattle.sharc_names.specs.declared.fault.FaultCode.TheVariants.{UnknownName, TypeNotAllowed, BadForm}
use Rattle.sharc_names.specs.declared.scope.Scope.{Scope}
use Rattle.sharc_names.specs.Kinds.{Kind, object, declared_kind, stars_of, is_struct_behind}
use Rattle.sharc_names.specs.Names.{Entry, Meaning, look_up, StructTable, StructMeaning, struct_of, fields_of, field_of}
use Rattle.sharc_names.specs.Names.{named_struct, kind_of, named_of, is_main}
use Rattle.sharc_names.specs.Notes.{Note, fault, refers, yields, fault_unless, fault_where}
use Rattle.sharc_names.specs.declared.fault.Named.TheVariants as named

-- A use of a name (6.5.1p2). A use of the function `main` has no type.

abbrev pub name_kind : Option Entry → Option Kind
name_kind None = None
name_kind (Some e) = if is_main e.meaning then None else Some (kind_of e.meaning)

abbrev pub main_notes : ℕ → Meaning → List Note
main_notes token m = fault_where (is_main m) token BadForm

abbrev pub name_notes : ℕ → Option Entry → List Note
name_notes token None = fault token UnknownName ∷ []
name_notes token (Some e) = refers token (named_of e.meaning) ∷ main_notes token e.meaning

-- A use of a field (6.5.2.3p1).

-- the field of that name in the struct that a kind has at its bottom; no answer where the struct is not known, since
-- then the fault is elsewhere
abbrev pub field_among : List ℕ → Option StructMeaning → Option (Option Declaration)
field_among name None = None
field_among name (Some s) = Some (field_of (fields_of s) name)

abbrev pub field_in : StructTable → List ℕ → Option Kind → Option (Option Declaration)
field_in structs name None = None
field_in structs name (Some (object (Struct s) stars)) = field_among name (struct_of structs s)
field_in structs name (Some _) = None

abbrev pub field_kind : Option (Option Declaration) → Option Kind
field_kind None = None
field_kind (Some None) = None
field_kind (Some (Some d)) = Some (declared_kind d.written)

abbrev pub field_notes : ℕ → Option (Option Declaration) → List Note
field_notes token None = []
field_notes token (Some None) = fault token UnknownName ∷ []
field_notes token (Some (Some d)) = refers token (named.Field d.name.site.token) ∷ []

-- Lock paths (SharC's own rule). In the type of a field a first name is looked for among the fields of the same struct,
-- in any order, and then in the file.

abbrev pub first_kind : Option Declaration → Option Entry → Option Kind
first_kind (Some sibling) entry = Some (declared_kind sibling.written)
first_kind None entry = name_kind entry

abbrev pub first_notes : ℕ → Option Declaration → Option Entry → List Note
first_notes token (Some sibling) entry = refers token (named.Field sibling.name.site.token) ∷ []
first_notes token None entry = name_notes token entry

-- the second name is a field of the struct that the first one points to; where the first is no pointer to a struct,
-- there is no such field
abbrev pub second_among : StructTable → List ℕ → Kind → Option (Option Declaration)
second_among structs name k = if is_struct_behind 1 k then field_in structs name (Some k) else Some None

abbrev pub second_in : StructTable → List ℕ → Option Kind → Option (Option Declaration)
second_in structs name None = None
second_in structs name (Some k) = second_among structs name k

-- a second name yields to the name that is at its token
abbrev pub second_notes : ℕ → Option (Option Declaration) → List Note
second_notes token None = []
second_notes token (Some None) = fault token UnknownName ∷ []
second_notes token (Some (Some d)) = yields token (named.Field d.name.site.token) ∷ []

-- it is two tokens after the first
abbrev pub path_notes : Scope → List Declaration → Path → List Note
path_notes scope siblings (One m token) = first_notes token (field_of siblings m) (look_up scope.names m)
path_notes scope siblings (Through x token m) = first_notes token (field_of siblings x) (look_up scope.names x)
    ++ second_notes (token + 2) (second_in scope.structs m (first_kind (field_of siblings x) (look_up scope.names x)))

abbrev pub mode_notes : Scope → List Declaration → Option Mode → List Note
mode_notes scope siblings None = []
mode_notes scope siblings (Some Private) = []
mode_notes scope siblings (Some Readonly) = []
mode_notes scope siblings (Some (Locked path)) = path_notes scope siblings path
mode_notes scope siblings (Some Racy) = []
mode_notes scope siblings (Some Dynamic) = []

abbrev pub modes_notes : Scope → List Declaration → List (Option Mode) → List Note
modes_notes scope siblings [] = []
modes_notes scope siblings (m ∷ below) = mode_notes scope siblings m ++ modes_notes scope siblings below

-- The base of a type (6.7.2.3): a struct is known in the whole file.

abbrev pub is_known : StructTable → Base → Bool
is_known structs Int = true
is_known structs Char = true
is_known structs Long = true
is_known structs Mutex = true
is_known structs Void = true
is_known structs (Struct name) = is_some (struct_of structs name)

abbrev pub struct_note : ℕ → Option StructMeaning → List Note
struct_note token None = fault token UnknownName ∷ []
struct_note token (Some s) = refers token (named_struct s) ∷ []

abbrev pub base_notes : StructTable → ℕ → Base → List Note
base_notes structs token Int = []
base_notes structs token Char = []
base_notes structs token Long = []
base_notes structs token Mutex = []
base_notes structs token Void = []
base_notes structs token (Struct name) = struct_note token (struct_of structs name)

-- Where a struct, a mutex or `void` may be without a star. A cast to one of them is a cast to another C type than its
-- source has.

abbrev pub holds_struct : Role → Bool
holds_struct Field = false
holds_struct Global = true
holds_struct Local = false
holds_struct Parameter = false
holds_struct Result = false
holds_struct Cast = true
holds_struct Made = true

abbrev pub holds_mutex : Role → Bool
holds_mutex Field = true
holds_mutex Global = true
holds_mutex Local = false
holds_mutex Parameter = false
holds_mutex Result = false
holds_mutex Cast = true
holds_mutex Made = true

abbrev pub holds_void : Role → Bool
holds_void Field = false
holds_void Global = false
holds_void Local = false
holds_void Parameter = false
holds_void Result = true
holds_void Cast = true
holds_void Made = false

-- no pointer leads to `void`, behind however many stars
abbrev pub is_allowed : Role → Base → ℕ → Bool
is_allowed role Int stars = true
is_allowed role Char stars = true
is_allowed role Long stars = true
is_allowed role Mutex stars = nat_lt 0 stars || holds_mutex role
is_allowed role Void stars = stars == 0 && holds_void role
is_allowed role (Struct name) stars = nat_lt 0 stars || holds_struct role

abbrev pub allowed_there : Role → WrittenType → Bool
allowed_there role w = is_allowed role w.ctype.base (stars_of w)

-- the type of a field sees the fields of its struct, every other type none
abbrev pub type_notes : Scope → List Declaration → Role → WrittenType → List Note
type_notes scope siblings role w = base_notes scope.structs w.base.token w.ctype.base
    ++ fault_unless (allowed_there role w) w.span.first.token TypeNotAllowed
    ++ modes_notes scope siblings w.ctype.levels

-- its C type has no fault
abbrev pub is_fine : StructTable → Role → WrittenType → Bool
is_fine structs role w = is_known structs w.ctype.base && allowed_there role w
