-- What the place of an expression needs of it.
use Rattle.std.specs.Prelude.{ℕ, ◌==◌, Bool, true, ◌||◌, List, [], ◌∷◌, Option, Some, None, if◌then◌else◌}
use Rattle.sharc_tree.specs.declared.ctype.Base.{Base}
use Rattle.sharc_tree.specs.Tree.{Expression, identifier, constant, parentheses, call, spawn, on_value, on_place, cast}
use Rattle.sharc_tree.specs.Tree.{index, field, unary, binary}
use Rattle.sharc_tree.specs.{Forms.without_parentheses, Spans.span_of}
use Rattle.sharc_tree.specs.declared.ctype.Base.TheVariants as base
use Rattle.sharc_names.specs.declared.need.Need.{Need}
use Rattle.sharc_names.specs.declared.need.Need.TheVariants.{Value, Integer, Pointer, Indexed, Struct, StructPointer}
use Rattle.sharc_names.specs.declared.fault.FaultCode.TheVariants.{TypeMismatch, TypeNotAllowed, BadForm}
use Rattle.sharc_names.specs.Kinds.{Kind, object, array, null, function, is_integer, is_pointer, is_null, is_array}
use Rattle.sharc_names.specs.Kinds.{is_struct_behind, agrees}
use Rattle.sharc_names.specs.Notes.{Note, fault, fault_unless}

-- the first token of an expression
abbrev pub place : Expression → ℕ
place e = (span_of e).first.token

-- the word that a call is named by, also within parentheses
abbrev pub called : Expression → Option ℕ
called (identifier s i) = None
called (constant s c) = None
called (parentheses s a) = called a
called (call s f all) = Some f.site.token
called (spawn s f a) = Some s.first.token
called (on_value s w a) = Some s.first.token
called (on_place s w a) = Some s.first.token
called (cast s t a) = None
called (index s a i) = None
called (field s a w n) = None
called (unary s o a) = None
called (binary s o at a b) = None

-- which kinds fit there: an integer or a pointer or NULL; an integer; a pointer; a pointer or an array; a struct; a
-- pointer to a struct
abbrev pub fits : Need → Kind → Bool
fits Value k = is_integer k || is_pointer k || is_null k
fits Integer k = is_integer k
fits Pointer k = is_pointer k
fits Indexed k = is_pointer k || is_array k
fits Struct k = is_struct_behind 0 k
fits StructPointer k = is_struct_behind 1 k

abbrev pub mismatch : Expression → List Note
mismatch e = fault (place e) TypeMismatch ∷ []

-- a call of a void function used as a value
abbrev pub used_call : Option ℕ → List Note
used_call None = []
used_call (Some word) = fault word BadForm ∷ []

abbrev pub misfit_of : Base → Expression → List Note
misfit_of base.Int e = mismatch e
misfit_of base.Char e = mismatch e
misfit_of base.Long e = mismatch e
misfit_of base.Mutex e = mismatch e
misfit_of base.Void e = used_call (called e)
misfit_of (base.Struct name) e = fault (place e) TypeNotAllowed ∷ []

-- the fault of an expression of another kind: a void call, a struct as a value, or else the type. For a function's name
-- it is at the name
abbrev pub misfit : Kind → Expression → List Note
misfit (object b stars) e = if stars == 0 then misfit_of b e else mismatch e
misfit (array b stars) e = mismatch e
misfit null e = mismatch e
misfit function e = mismatch (without_parentheses e)

-- the expression's kind if it is one that is needed; an expression in which there is a fault has none
abbrev pub met : Need → Option Kind → Option Kind
met need None = None
met need (Some k) = if fits need k then Some k else None

abbrev pub unmet : Need → Expression → Option Kind → List Note
unmet need e None = []
unmet need e (Some k) = if fits need k then [] else misfit k e

-- 6.5.16.1: what is assigned, passed or returned
abbrev pub agreed : Option Kind → Option Kind → Bool
agreed None kind = true
agreed (Some want) None = true
agreed (Some want) (Some kind) = agrees want kind

abbrev pub unagreed : Option Kind → Expression → Option Kind → List Note
unagreed want e kind = fault_unless (agreed want kind) (place e) TypeMismatch
