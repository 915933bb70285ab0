-- What is to be said of each construct: the cases M1 to M11, and which variables and globals lock paths name.
use Rattle.std.specs.Prelude.{ℕ, ◌+◌, ◌==◌, Bool, true, false, ◌||◌, List, [], ◌∷◌, ◌++◌, drop, take, map, slice_range}
use Rattle.std.specs.Prelude.{Option, Some, None, if◌then◌else◌}
use Rattle.std.specs.{List.{flat_map, list_any}, Option.option_or}
use Rattle.sharc_tree.specs.{declared.ctype.Base.Base, declared.ctype.CType.CType, declared.ctype.Path.Path}
use Rattle.sharc_tree.specs.{declared.ctype.Mode.Mode, declared.ctype.Mode.TheVariants.Private}
use Rattle.sharc_tree.specs.{declared.token.Span.Span, declared.tree.declaration.Declaration.Declaration}
use Rattle.sharc_tree.specs.{Forms.without_parentheses, Spans.span_of, Texts.{path_text, mode_text, tokens_text}}
use Rattle.sharc_tree.specs.Tree.{Expression, identifier, Arguments}
use Rattle.sharc_tree.specs.declared.ctype.Base.TheVariants as base
use Rattle.sharc_names.specs.{declared.types.Role.Role, Kinds.{Kind, object, array, null, function}}
use Rattle.sharc_names.specs.declared.types.Role.TheVariants as role
use Rattle.sharc_ctype.specs.{Resolved.{Resolution, named_at, kind_at}, declared.entity.Numbered.Numbered}
use Rattle.sharc_ctype.specs.Entities.{positions_of}
use Rattle.sharc_mode.specs.declared.error.ErrorCode.{ErrorCode}
use Rattle.sharc_mode.specs.declared.error.ErrorCode.TheVariants.{ModeMismatch, ReadonlyWrite, PrivateTarget}
use Rattle.sharc_mode.specs.declared.error.ErrorCode.TheVariants.{LockPathNotConstant, ModeNotAllowed, PrivateField}
use Rattle.sharc_mode.specs.declared.error.ErrorCode.TheVariants.{CastChangesInnerMode, ReadonlySource, NamedByLockPath}
use Rattle.sharc_mode.specs.declared.error.ErrorCode.TheVariants.{NeedsConstantBase}
use Rattle.sharc_mode.specs.{declared.error.ModeError.ModeError, declared.finding.Finding.Finding}
use Rattle.sharc_mode.specs.{declared.finding.Finding.TheVariants.{Wrong, Names, Takes}, Cells.{cell_at, top_of}}
use Rattle.sharc_mode.specs.Moded.{Assignment}
use Rattle.sharc_mode.specs.Rows.{PathReading, written, at_call, read, modes_of, modes_at, declared_row, argument_use}
use Rattle.sharc_mode.specs.Rows.{path_variable}
use Rattle.sharc_mode.specs.Sharings.{Lock, Sharing, private, readonly, locked, racy, dynamic, sharing_of, path_of}
use Rattle.sharc_mode.specs.Sharings.{mode_of, text_at, same_all, is_readonly, is_sibling, variable_named, object_named}
use Rattle.sharc_mode.specs.Sharings.{object_of}
use Rattle.sharc_mode.specs.WellFormed.{place_of, holds_private, first_unfit_path, first_unfit_mode, is_private_mode}

-- ---- what a case reports

-- the tokens of a construct, as they are printed
abbrev pub span_text : Resolution → Span → List ℕ
span_text r s = tokens_text (slice_range r.program.tokens.list s.first.token (s.last.token + 1))

abbrev pub no_type : CType
no_type = record { base = base.Void; levels = [] }

-- a case that shows no types
abbrev pub error : ErrorCode → Span → List ℕ → Finding
error code s subject =
    Wrong (record { code = code; site = s.first; expected = no_type; found = no_type; subject = subject })

-- a case that shows two
abbrev pub mismatch : ErrorCode → Span → CType → CType → Finding
mismatch code s expected found =
    Wrong (record { code = code; site = s.first; expected = expected; found = found; subject = [] })

-- a type with these modes of its targets, without that of its top
abbrev pub shown : Resolution → Base → List Sharing → CType
shown r b modes = record { base = b; levels = None ∷ map (λ s. Some (mode_of r s)) modes }

abbrev pub base_of : Kind → Base
base_of (object b stars) = b
base_of (array b stars) = b
base_of null = base.Void
base_of function = base.Void

-- ---- M1: in an assignment, initialiser, argument, spawn argument or return the two types differ in the mode of some
-- target

abbrev pub unless_same : Resolution → ErrorCode → Span → Base → List Sharing → List Sharing → List Finding
unless_same r code s b expected found =
    if same_all r expected found then [] else mismatch code s (shown r b expected) (shown r b found) ∷ []

-- NULL agrees with every pointer type; and nothing is expected where there is no parameter
abbrev pub agree : Resolution → Span → Base → Option (List Sharing) → Option (List Sharing) → List Finding
agree r s b None found = []
agree r s b (Some expected) None = []
agree r s b (Some expected) (Some found) = unless_same r ModeMismatch s b expected found

abbrev pub agree_notes : Assignment → Option (List Sharing) → Expression → List Finding
agree_notes m expected e = agree m.typed (span_of e) (base_of (kind_at m.typed e)) expected (modes_at m e)

-- ---- M2: an assignment writes a cell of mode readonly

abbrev pub error_where : Bool → ErrorCode → Span → List ℕ → List Finding
error_where wrong code s subject = if wrong then error code s subject ∷ [] else []

abbrev pub write_notes : Assignment → Expression → List Finding
write_notes m u = error_where (is_readonly (cell_at m u)) ReadonlyWrite (span_of u) (span_text m.typed (span_of u))

-- ---- M3 to M6 of a type, and the variables and globals that its paths name

-- its modes by depth: of the top what is written, a local's and a parameter's else private; a global's top is a
-- position

abbrev pub top_levels : Role → List (Option Mode) → List (Option Mode)
top_levels role.Global levels = []
top_levels role.Field levels = top_of levels ∷ []
top_levels role.Local levels = option_or (top_of levels) (Some Private) ∷ []
top_levels role.Parameter levels = option_or (top_of levels) (Some Private) ∷ []
top_levels role.Result levels = top_of levels ∷ []
top_levels role.Cast levels = top_of levels ∷ []
top_levels role.Made levels = top_of levels ∷ []

abbrev pub position_levels : Assignment → Numbered → List (Option Mode)
position_levels m n = map (λ mode. Some mode) (take (positions_of n.entity) (drop n.first m.modes))

abbrev pub levels_of : Assignment → Numbered → List (Option Mode)
levels_of m n = top_levels n.entity.role n.entity.written.ctype.levels ++ position_levels m n

-- and as the type is printed: without the top of a result and of a cast

abbrev pub printed_top : Role → List (Option Mode) → List (Option Mode)
printed_top role.Result levels = None ∷ []
printed_top role.Cast levels = None ∷ []
printed_top other levels = top_levels other levels

abbrev pub printed_type : Assignment → Numbered → CType
printed_type m n = record {
  base = n.entity.written.ctype.base;
  levels = printed_top n.entity.role n.entity.written.ctype.levels ++ position_levels m n;
}

-- M3: a non-private level is directly above a private target
abbrev pub private_notes : Assignment → Numbered → List Finding
private_notes m n =
    if holds_private (levels_of m n)
    then mismatch PrivateTarget n.entity.written.span (printed_type m n) (printed_type m n) ∷ []
    else []

-- M4: a lock path is none of the allowed forms; the first of them in the source is reported
abbrev pub path_notes : Span → Option Path → List Finding
path_notes s None = []
path_notes s (Some path) = error LockPathNotConstant s (path_text path) ∷ []

-- M5: a mode where it is not allowed
abbrev pub mode_notes : Span → Option Mode → List Finding
mode_notes s None = []
mode_notes s (Some mode) = error ModeNotAllowed s (mode_text mode) ∷ []

-- M6: `private` written in a field
abbrev pub is_private_level : Option Mode → Bool
is_private_level None = false
is_private_level (Some m) = is_private_mode m

abbrev pub is_field_role : Role → Bool
is_field_role role.Field = true
is_field_role _ = false

abbrev pub private_field_notes : Resolution → Numbered → List Finding
private_field_notes r n =
    if is_field_role n.entity.role then error_where (list_any is_private_level n.entity.written.ctype.levels)
    PrivateField n.entity.written.span (text_at r n.entity.token)
    else []

-- the variables and globals that paths name, whether or not they are allowed

abbrev pub names_of : Option ℕ → List Finding
names_of None = []
names_of (Some x) = Names x ∷ []

abbrev pub names_in : Resolution → Sharing → List Finding
names_in r private = []
names_in r readonly = []
names_in r (locked l) = names_of (object_of r l)
names_in r racy = []
names_in r dynamic = []

abbrev pub names_in_all : Resolution → List Sharing → List Finding
names_in_all r = flat_map (names_in r)

abbrev pub names_in_level : Resolution → Option Mode → List Finding
names_in_level r None = []
names_in_level r (Some m) = names_in r (sharing_of m)

abbrev pub type_notes : Assignment → Numbered → List Finding
type_notes m n = private_notes m n
    ++ path_notes n.entity.written.span
    (first_unfit_path m.typed (place_of n.entity.role) n.entity.written.ctype.base n.entity.written.ctype.levels)
    ++ mode_notes n.entity.written.span
    (first_unfit_mode (place_of n.entity.role) n.entity.written.ctype.base n.entity.written.ctype.levels)
    ++ private_field_notes m.typed n
    ++ flat_map (names_in_level m.typed) n.entity.written.ctype.levels

-- ---- M4 at a call: a path that the parameters' types need, whose argument is no constant variable

abbrev pub unmet_by : Option ℕ → Lock → Option Lock
unmet_by None l = Some l
unmet_by (Some y) l = None

abbrev pub unmet_for : Resolution → List Declaration → Arguments → Option ℕ → Lock → Option Lock
unmet_for r ds all None l = None
unmet_for r ds all (Some x) l = unmet_by (argument_use r ds all x) l

abbrev pub unmet : Resolution → List Declaration → Arguments → Sharing → Option Lock
unmet r ds all private = None
unmet r ds all readonly = None
unmet r ds all (locked l) = unmet_for r ds all (path_variable r l) l
unmet r ds all racy = None
unmet r ds all dynamic = None

-- the first in the source, where the deepest target comes first
abbrev pub unmet_in : Resolution → List Declaration → Arguments → List Sharing → Option Lock
unmet_in r ds all [] = None
unmet_in r ds all (s ∷ below) = option_or (unmet_in r ds all below) (unmet r ds all s)

-- a path counts at each level at which it is written, on the top of a type, on what is no pointer and on a mutex, too

abbrev pub unmet_level : Resolution → List Declaration → Arguments → Option Mode → Option Lock
unmet_level r ds all None = None
unmet_level r ds all (Some mode) = unmet r ds all (sharing_of mode)

abbrev pub unmet_written : Resolution → List Declaration → Arguments → List (Option Mode) → Option Lock
unmet_written r ds all [] = None
unmet_written r ds all (level ∷ below) = option_or (unmet_written r ds all below) (unmet_level r ds all level)

-- of a parameter: what is written in its type, and the modes of its targets
abbrev pub unmet_parameter : Assignment → List Declaration → Arguments → Declaration → Option Lock
unmet_parameter m ds all d = option_or (unmet_written m.typed ds all d.written.ctype.levels)
    (unmet_in m.typed ds all (modes_of m (declared_row m.typed written d.name.site.token)))

abbrev pub first_unmet : Assignment → List Declaration → Arguments → List Declaration → Option Lock
first_unmet m ds all [] = None
first_unmet m ds all (d ∷ rest) = option_or (unmet_parameter m ds all d) (first_unmet m ds all rest)

abbrev pub unmet_notes : Resolution → Span → Option Lock → List Finding
unmet_notes r s None = []
unmet_notes r s (Some l) = error LockPathNotConstant s (path_text (path_of r l)) ∷ []

-- the variables and globals that the substituted paths name

abbrev pub names_read : Resolution → PathReading → Option Mode → List Finding
names_read r how None = []
names_read r how (Some mode) = names_in r (read r how (sharing_of mode))

abbrev pub parameter_names : Assignment → PathReading → Declaration → List Finding
parameter_names m how d = names_in_all m.typed (modes_of m (declared_row m.typed how d.name.site.token))
    ++ flat_map (names_read m.typed how) d.written.ctype.levels

abbrev pub names_at_call : Assignment → List Declaration → Arguments → List Declaration → List Finding
names_at_call m ds all = flat_map (parameter_names m (at_call ds all))

abbrev pub call_notes : Assignment → Span → List Declaration → Arguments → List Finding
call_notes m s ds all = unmet_notes m.typed s (first_unmet m ds all ds) ++ names_at_call m ds all ds

-- ---- M8: a cast's type differs from its source's in the mode of a target at depth 2 or more

abbrev pub cast_notes : Resolution → Span → Base → List Sharing → Option (List Sharing) → List Finding
cast_notes r s b to None = []
cast_notes r s b to (Some from) =
    if same_all r (drop 1 to) (drop 1 from) then []
    else mismatch CastChangesInnerMode s (shown r b to) (shown r b from) ∷ []

-- ---- M9: the source of SCAST or `free` is a cell of mode readonly. A variable or a global may be one that some lock
-- path names (M10)

abbrev pub taken_variable : Resolution → Expression → Option ℕ
taken_variable r (identifier s i) = object_named r (named_at r i.site.token)
taken_variable r _ = None

abbrev pub takes : Span → Option ℕ → List Finding
takes s None = []
takes s (Some x) = Takes s x ∷ []

abbrev pub source_notes : Assignment → Expression → List Finding
source_notes m a = error_where (is_readonly (cell_at m a)) ReadonlySource (span_of a) (span_text m.typed (span_of a))
    ++ takes (span_of a) (taken_variable m.typed (without_parentheses a))

-- ---- M11: a field whose target is locked by a sibling is used in another form than `x->f` with `x` a constant
-- variable

abbrev pub sibling_notes : Resolution → Span → Option ℕ → List Finding
sibling_notes r s None = error NeedsConstantBase s (span_text r s) ∷ []
sibling_notes r s (Some at) = names_of (variable_named (named_at r at))

abbrev pub field_notes : Resolution → Span → Option ℕ → List Sharing → List Finding
field_notes r s base_at modes = if list_any (is_sibling r) modes then sibling_notes r s base_at else []

-- ---- M10: the source of SCAST or `free` is a variable or a global that some lock path names; it is given by its name

abbrev pub is_named : ℕ → List Finding → Bool
is_named x [] = false
is_named x (Wrong e ∷ rest) = is_named x rest
is_named x (Names y ∷ rest) = x == y || is_named x rest
is_named x (Takes s y ∷ rest) = is_named x rest

abbrev pub error_of : Finding → List ModeError
error_of (Wrong e) = e ∷ []
error_of (Names x) = []
error_of (Takes s x) = []

abbrev pub errors_by : Resolution → List Finding → Finding → List ModeError
errors_by r all (Wrong e) = e ∷ []
errors_by r all (Names x) = []
errors_by r all (Takes s x) = flat_map error_of (error_where (is_named x all) NamedByLockPath s (text_at r x))

-- the cases that arise, by what is said of all constructs
abbrev pub errors_of : Resolution → List Finding → List ModeError
errors_of r notes = flat_map (errors_by r notes) notes
