-- Types in which modes are not placed as they may be: M3, M4 and M5.
use Rattle.std.specs.Prelude.{ℕ, Bool, true, false, ◌&&◌, ◌||◌, ◌==◌, not, List, [], ◌∷◌, Option, Some, None, is_some}
use Rattle.std.specs.Prelude.{if◌then◌else◌}
use Rattle.std.specs.Option.{option_or}
use Rattle.sharc_tree.specs.{declared.ctype.Base.Base, declared.ctype.CType.CType, declared.ctype.Path.Path}
use Rattle.sharc_tree.specs.declared.ctype.Mode.{Mode}
use Rattle.sharc_tree.specs.declared.ctype.Mode.TheVariants.{Private, Readonly, Locked, Racy}
use Rattle.sharc_tree.specs.declared.tree.declaration.Declaration.{Declaration}
use Rattle.sharc_tree.specs.declared.tree.item.StructDefinition.{StructDefinition}
use Rattle.sharc_tree.specs.declared.ctype.Base.TheVariants as base
use Rattle.sharc_names.specs.{declared.fault.Named.Named, declared.types.Role.Role, Kinds.{Kind, object, declared_kind}}
use Rattle.sharc_names.specs.Names.{field_of}
use Rattle.sharc_names.specs.declared.fault.Named.TheVariants as named
use Rattle.sharc_names.specs.declared.types.Role.TheVariants as role
use Rattle.sharc_ctype.specs.Resolved.{Resolution, named_at, struct_at, declaration_at, named_kind}
use Rattle.sharc_ctype.specs.Constants.{is_constant}
use Rattle.sharc_mode.specs.declared.error.ErrorCode.{ErrorCode}
use Rattle.sharc_mode.specs.declared.error.ErrorCode.TheVariants.{PrivateTarget, LockPathNotConstant, ModeNotAllowed}
use Rattle.sharc_mode.specs.declared.place.Place.{Place}
use Rattle.sharc_mode.specs.declared.place.Place.TheVariants.{Global, Field, Local, Result}
use Rattle.sharc_mode.specs.{Cells.{is_mutex_kind, top_of}, Settled.{is_mutex, settled, field_target}}
use Rattle.sharc_mode.specs.Sharings.{Lock, lock_of}

-- `Local` stands for locals, parameters and casts
abbrev pub place_of : Role → Place
place_of role.Field = Field
place_of role.Global = Global
place_of role.Local = Local
place_of role.Parameter = Local
place_of role.Result = Result
place_of role.Cast = Local
place_of role.Made = Local

-- ---- M3: a non-private level is directly above a private target

abbrev pub is_private_mode : Mode → Bool
is_private_mode Private = true
is_private_mode _ = false

abbrev pub begins_private : List (Option Mode) → Bool
begins_private [] = false
begins_private (None ∷ below) = false
begins_private (Some m ∷ below) = is_private_mode m

-- a level whose mode is not known is neither
abbrev pub holds_private : List (Option Mode) → Bool
holds_private [] = false
holds_private (None ∷ below) = holds_private below
holds_private (Some m ∷ below) = (not (is_private_mode m) && begins_private below) || holds_private below

-- the modes that are meant: a mutex is racy, and a field's target without a mode has that of the field's top, or is
-- dynamic
abbrev pub target_otherwise : Place → List (Option Mode) → Option Mode
target_otherwise Field levels = Some (field_target levels)
target_otherwise _ levels = None

abbrev pub with_top : List (Option Mode) → List (Option Mode) → List (Option Mode)
with_top [] targets = targets
with_top (top ∷ below) targets = top ∷ targets

abbrev pub below_top : List (Option Mode) → List (Option Mode)
below_top [] = []
below_top (top ∷ below) = below

abbrev pub meant : Place → Base → List (Option Mode) → List (Option Mode)
meant place b levels = with_top (settled b None levels) (settled b (target_otherwise place levels) (below_top levels))

-- ---- M4: a lock path that is none of the allowed forms

-- the name of a global mutex
abbrev pub names_global_mutex : Resolution → Named → Bool
names_global_mutex r (named.Global n) = is_mutex_kind (named_kind r (named.Global n))
names_global_mutex r _ = false

-- the name of a sibling mutex field
abbrev pub names_sibling_mutex : Resolution → Named → Bool
names_sibling_mutex r (named.Field f) = is_mutex_kind (named_kind r (named.Field f))
names_sibling_mutex r _ = false

abbrev pub is_mutex_pointer : Kind → Bool
is_mutex_pointer (object base.Mutex stars) = stars == 1
is_mutex_pointer _ = false

abbrev pub is_readonly_top : Option Mode → Bool
is_readonly_top (Some Readonly) = true
is_readonly_top _ = false

-- `mutex racy * readonly`: the mutex is racy whatever is written there
abbrev pub is_readonly_lock : Option Declaration → Bool
is_readonly_lock None = false
is_readonly_lock (Some d) =
    is_mutex_pointer (declared_kind d.written) && is_readonly_top (top_of d.written.ctype.levels)

-- the name of a sibling field whose type is that
abbrev pub names_sibling_pointer : Resolution → Named → Bool
names_sibling_pointer r (named.Field f) = is_readonly_lock (declaration_at r f)
names_sibling_pointer r _ = false

abbrev pub fields_of : Option StructDefinition → List Declaration
fields_of None = []
fields_of (Some s) = s.fields

abbrev pub fields_named : Resolution → Named → List Declaration
fields_named r (named.Struct n) = fields_of (struct_at r n)
fields_named r _ = []

-- the fields of the struct that a type has at its bottom
abbrev pub fields_behind : Resolution → Option Declaration → List Declaration
fields_behind r None = []
fields_behind r (Some d) = fields_named r (named_at r d.written.base.token)

abbrev pub is_mutex_field : Option Declaration → Bool
is_mutex_field None = false
is_mutex_field (Some d) = is_mutex_kind (declared_kind d.written)

-- `x->m` with `x` a constant variable and `m` a mutex field
abbrev pub is_through_constant : Resolution → Named → List ℕ → Bool
is_through_constant r (named.Variable x) m =
    is_constant r x && is_mutex_field (field_of (fields_behind r (declaration_at r x)) m)
is_through_constant r _ m = false

-- results and globals name global mutexes alone; siblings are named in fields, `x->m` in a function
abbrev pub allows_path : Resolution → Place → Named → Option (List ℕ) → Bool
allows_path r Field what None = names_global_mutex r what || names_sibling_mutex r what
allows_path r Field what (Some m) = false
allows_path r Local what None = names_global_mutex r what
allows_path r Local what (Some m) = is_through_constant r what m
allows_path r Global what None = names_global_mutex r what
allows_path r Global what (Some m) = false
allows_path r Result what None = names_global_mutex r what
allows_path r Result what (Some m) = false

-- some target has no mode of its own
abbrev pub leaves_open : Base → List (Option Mode) → Bool
leaves_open b [] = false
leaves_open b (None ∷ below) = not (is_mutex b below) || leaves_open b below
leaves_open b (Some m ∷ below) = leaves_open b below

-- a sibling pointer is allowed on the top of a field alone, where no target takes its mode from there
abbrev pub allows_pointer : Resolution → Place → Base → List (Option Mode) → Named → Option (List ℕ) → Bool
allows_pointer r Field b below what None = names_sibling_pointer r what && not (leaves_open b below)
allows_pointer r _ b below what _ = false

abbrev pub path_fits : Resolution → Place → Lock → Bool
path_fits r place l = allows_path r place (named_at r l.first) l.second

abbrev pub top_path_fits : Resolution → Place → Base → List (Option Mode) → Lock → Bool
top_path_fits r place b below l = path_fits r place l || allows_pointer r place b below (named_at r l.first) l.second

abbrev pub unless : {A : Type 0} → Bool → A → Option A
unless well x = if well then None else Some x

abbrev pub unfit_path : Resolution → Place → Option Mode → Option Path
unfit_path r place (Some (Locked path)) = unless (path_fits r place (lock_of path)) path
unfit_path r place _ = None

abbrev pub unfit_top_path : Resolution → Place → Base → List (Option Mode) → Option Mode → Option Path
unfit_top_path r place b below (Some (Locked path)) = unless (top_path_fits r place b below (lock_of path)) path
unfit_top_path r place b below _ = None

-- the first path at fault in the source, where the base comes first and the top last
abbrev pub unfit_path_in : Resolution → Place → List (Option Mode) → Option Path
unfit_path_in r place [] = None
unfit_path_in r place (level ∷ below) = option_or (unfit_path_in r place below) (unfit_path r place level)

abbrev pub first_unfit_path : Resolution → Place → Base → List (Option Mode) → Option Path
first_unfit_path r place b [] = None
first_unfit_path r place b (top ∷ below) = option_or (unfit_path_in r place below) (unfit_top_path r place b below top)

-- ---- M5: `racy` on a pointer or a struct, another mode than racy on a mutex, another mode than private on the top of
-- a local, parameter, result or cast

abbrev pub is_racy_mode : Mode → Bool
is_racy_mode Racy = true
is_racy_mode _ = false

abbrev pub base_allows : Base → Mode → Bool
base_allows base.Int m = true
base_allows base.Char m = true
base_allows base.Long m = true
base_allows base.Void m = true
base_allows base.Mutex m = is_racy_mode m
base_allows (base.Struct name) m = not (is_racy_mode m)

-- of a level above others, which is a pointer, and of the last
abbrev pub level_allows : Base → List (Option Mode) → Mode → Bool
level_allows b [] m = base_allows b m
level_allows b (level ∷ below) m = not (is_racy_mode m)

abbrev pub top_allows : Place → Mode → Bool
top_allows Global m = true
top_allows Field m = true
top_allows Local m = is_private_mode m
top_allows Result m = is_private_mode m

abbrev pub unfit_mode : Base → List (Option Mode) → Option Mode → Option Mode
unfit_mode b below None = None
unfit_mode b below (Some m) = unless (level_allows b below m) m

abbrev pub unfit_top : Place → Base → List (Option Mode) → Option Mode → Option Mode
unfit_top place b below None = None
unfit_top place b below (Some m) = unless (level_allows b below m && top_allows place m) m

-- the first mode at fault in the source
abbrev pub unfit_mode_in : Base → List (Option Mode) → Option Mode
unfit_mode_in b [] = None
unfit_mode_in b (level ∷ below) = option_or (unfit_mode_in b below) (unfit_mode b below level)

abbrev pub first_unfit_mode : Place → Base → List (Option Mode) → Option Mode
first_unfit_mode place b [] = None
first_unfit_mode place b (top ∷ below) = option_or (unfit_mode_in b below) (unfit_top place b below top)

-- ---- the lowest code that holds

abbrev pub lowest : Bool → Bool → Bool → Option ErrorCode
lowest third fourth fifth =
    if third then Some PrivateTarget
    else if fourth then Some LockPathNotConstant
    else if fifth then Some ModeNotAllowed
    else None

abbrev pub type_code : Resolution → Place → CType → Option ErrorCode
type_code r place c = lowest (holds_private (meant place c.base c.levels))
    (is_some (first_unfit_path r place c.base c.levels)) (is_some (first_unfit_mode place c.base c.levels))
