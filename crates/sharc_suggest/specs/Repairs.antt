-- Which mismatch of modes a sharing cast repairs, given an expression and the modes that are expected of it.
use Rattle.std.specs.Prelude.{ℕ, ◌-◌, Bool, true, false, not, ◌&&◌, ◌||◌, List, [], ◌∷◌, drop, slice_get}
use Rattle.std.specs.Prelude.{slice_index_or, Option, Some, None, if◌then◌else◌, codes}
use Rattle.std.specs.Str.{bytes_eq}
use Rattle.sharc_tree.specs.declared.token.Keyword.TheVariants as keyword
use Rattle.sharc_tree.specs.{declared.token.Token.Token, declared.token.TokenKind.TokenKind}
use Rattle.sharc_tree.specs.{Forms.{without_parentheses, is_lvalue}, Spans.span_of, Tree.Expression}
use Rattle.sharc_tree.specs.declared.tree.declaration.Declaration.{Declaration}
use Rattle.sharc_tree.specs.declared.token.TokenKind.TheVariants as kind
use Rattle.sharc_names.specs.{Names.{Entry, variable, look_up, named_of}, declared.fault.Named.Named}
use Rattle.sharc_names.specs.declared.fault.Named.TheVariants as named
use Rattle.sharc_ctype.specs.Resolved.{Resolution, named_at, kind_at}
use Rattle.sharc_mode.specs.{declared.error.Cast.Cast, Cells.cell_at, Moded.Assignment}
use Rattle.sharc_mode.specs.{Notes.{shown, base_of, taken_variable}, Rows.modes_at}
use Rattle.sharc_mode.specs.Sharings.{Sharing, private, readonly, locked, racy, dynamic, same_all, same_named}
use Rattle.sharc_mode.specs.Sharings.{is_readonly, text_at}

-- ---- the two types differ only in the mode at depth 1
abbrev pub differ_first : Resolution → List Sharing → List Sharing → Bool
differ_first r expected found = not (same_all r expected found) && same_all r (drop 1 expected) (drop 1 found)

-- ---- a cast of the expression: it is an lvalue, no cell of mode readonly (M9), and no variable that a lock path names
-- (M10)

abbrev pub is_free : (ℕ → Bool) → Option ℕ → Bool
is_free named None = true
is_free named (Some x) = not (named x)

abbrev pub may_be_cast : Assignment → (ℕ → Bool) → Expression → Bool
may_be_cast m named e =
    is_lvalue e && (not (is_readonly (cell_at m e)) && is_free named (taken_variable m.typed (without_parentheses e)))

-- a test by flags, one for each token below their number
abbrev pub told : List Bool → ℕ → Bool
told flags x = slice_index_or flags x false

-- ---- the lock paths of a type name the same things when they are written where these variables are in scope, the last
-- declared first

abbrev pub entry_of : Declaration → Entry
entry_of d = record { name = d.name.text; block = 0; meaning = variable d }

-- A path that begins with a call of condition variables that the program does not define is determined by its words:
-- `locked`, `(` and the name of the call.

abbrev pub is_call_name : List ℕ → Bool
is_call_name text =
    bytes_eq (codes "wait") text || (bytes_eq (codes "signal") text || bytes_eq (codes "broadcast") text)

abbrev pub is_identifier : TokenKind → Bool
is_identifier kind.Identifier = true
is_identifier _ = false

abbrev pub is_locked : TokenKind → Bool
is_locked (kind.Keyword keyword.Locked) = true
is_locked _ = false

abbrev pub begins_call : Option Token → Option Token → Bool
begins_call (Some before) (Some name) = is_locked before.kind && (is_identifier name.kind && is_call_name name.text)
begins_call _ _ = false

-- whether one begins at the token
unfoldable pub is_call_at : Resolution → ℕ → Bool
is_call_at r token = begins_call (slice_get r.program.tokens.list (token - 2)) (slice_get r.program.tokens.list token)

-- The first name of a path: a variable is the one that its name means there; a global, a function or a known call is
-- hidden by no variable; a field is no name outside of its struct
abbrev pub keeps_named : Bool → Named → Option Entry → Bool
keeps_named call (named.Variable x) (Some e) = same_named (named.Variable x) (named_of e.meaning)
keeps_named call (named.Global g) None = true
keeps_named call (named.Function f) None = true
keeps_named call named.Known None = call
keeps_named call _ _ = false

abbrev pub keeps_first : Resolution → List Entry → ℕ → Bool
keeps_first r scope token = keeps_named (is_call_at r token) (named_at r token) (look_up scope (text_at r token))

-- the second name of `x->m` is a field of the struct that `x` points to, wherever it is
abbrev pub keeps : Resolution → List Entry → Sharing → Bool
keeps r scope private = true
keeps r scope readonly = true
keeps r scope (locked l) = keeps_first r scope l.first
keeps r scope racy = true
keeps r scope dynamic = true

abbrev pub keeps_all : Resolution → List Entry → List Sharing → Bool
keeps_all r scope [] = true
keeps_all r scope (s ∷ below) = keeps r scope s && keeps_all r scope below

-- ---- the cast that is suggested, if one is: around the expression, to the type that is expected

abbrev pub cast_to : Assignment → Expression → List Sharing → Cast
cast_to m e expected = record {
  site = (span_of e).first;
  to = shown m.typed (base_of (kind_at m.typed e)) expected;
  from = (span_of e).first.token;
  until = (span_of e).last.token;
}

abbrev pub is_repairable : Assignment → (ℕ → Bool) → List Entry → Expression → List Sharing → List Sharing → Bool
is_repairable m named scope e expected found =
    differ_first m.typed expected found && (may_be_cast m named e && keeps_all m.typed scope expected)

abbrev pub repair_with : Assignment → (ℕ → Bool) → List Entry → Expression → Option (List Sharing)
    → Option (List Sharing) → List Cast
repair_with m named scope e None found = []
repair_with m named scope e (Some expected) None = []
repair_with m named scope e (Some expected) (Some found) =
    if is_repairable m named scope e expected found then cast_to m e expected ∷ [] else []

-- by a test of which variables lock paths name
abbrev pub repair : Assignment → (ℕ → Bool) → List Entry → Option (List Sharing) → Expression → List Cast
repair m named scope want e = repair_with m named scope e want (modes_at m e)
