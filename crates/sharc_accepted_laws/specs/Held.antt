-- Variables that keep their references: constant ones, of which no SCAST and no `free` takes the reference. Lock paths
-- lead through no other.
use Rattle.std.specs.Prelude.{◌≡◌, ℕ, ◌<◌, Bool, true, false, ◌&&◌, not, List, [], slice_get, option_to_list, Option}
use Rattle.std.specs.Prelude.{Some, None}
use Rattle.std.specs.List.{AllByRecursion, list_any}
use Rattle.sharc_tree.specs.{declared.token.Span.Span, declared.tree.declaration.Identifier.Identifier}
use Rattle.sharc_tree.specs.{declared.tree.expression.PlaceCall.TheVariants.Free, Forms.without_parentheses}
use Rattle.sharc_tree.specs.{Measures.{expressions, in_function}, Tree.{Expression, identifier, cast, on_place, Right}}
use Rattle.sharc_names.specs.declared.fault.Named.TheVariants as named
use Rattle.sharc_names.specs.Kinds.{Kind}
use Rattle.sharc_ctype.specs.{Constants.{is_among, is_constant}, Resolved.{Resolution, named_at, functions_in}}
use Rattle.sharc_mode.specs.{Moded.Assignment, Notes.taken_variable}
use Rattle.sharc_mode.specs.Rows.{written, path_variable, declared_row, modes_of, modes_at}
use Rattle.sharc_mode.specs.Sharings.{Lock, Sharing, locked}
use Rattle.sharc_check.specs.Constructs.{IsExpression, IsTaken, IsAssigned}
use Rattle.sharc_flat.specs.Scope.{Context, slot_kind, ref_count}
use Rattle.sharc_invariant.specs.Types.{Mentions}
use Rattle.sharc_accepted_laws.specs.{StaticLaws.IsAccepted, Scopes.AllStand, Static.{register, static_of, pointers}}

-- the variable or the global whose reference an expression itself takes
abbrev pub taken_by : Resolution → Expression → List ℕ
taken_by r (cast s t a) = option_to_list (taken_variable r (without_parentheses a))
taken_by r (on_place s Free a) = option_to_list (taken_variable r (without_parentheses a))
taken_by r _ = []

abbrev pub is_taken : Resolution → ℕ → Bool
is_taken r x = list_any (λ f. list_any (λ e. is_among x (taken_by r e)) (in_function f)) (functions_in r.program.items)

abbrev pub is_held : Resolution → ℕ → Bool
is_held r x = is_constant r x && not (is_taken r x)

-- the variable in this register is one
abbrev pub held_named : Resolution → Option ℕ → Bool
held_named r None = false
held_named r (Some x) = is_held r x

abbrev pub held_at : Context → ℕ → Bool
held_at c p = held_named c.program.typed (slice_get (pointers c.scope) p)

-- ---- what lock paths lead through
abbrev pub IsHeldPath : Assignment → Sharing → Type 0
IsHeldPath m s = (l : Lock) (x : ℕ) → s ≡ locked l → path_variable m.typed l ≡ Some x → is_held m.typed x ≡ true

abbrev pub AllHeld : Assignment → List Sharing → Type 0
AllHeld m modes = AllByRecursion (IsHeldPath m) modes

-- in the type of an expression
abbrev pub ExpressionsAreHeld : Type 0
ExpressionsAreHeld = (m : Assignment) → IsAccepted m → (e : Expression) (modes : List Sharing)
    → AllByRecursion (IsExpression m) (expressions e) → modes_at m e ≡ Some modes → AllHeld m modes

-- and in that of what a token declares
abbrev pub DeclaredAreHeld : Type 0
DeclaredAreHeld = (m : Assignment) → IsAccepted m
    → (token : ℕ) → AllHeld m (modes_of m (declared_row m.typed written token))

-- so a type names registers of variables that are held
abbrev pub TypesNameHeld : Type 0
TypesNameHeld = (c : Context) (kind : Kind) (modes : List Sharing) (p : ℕ) → AllHeld c.program modes
    → AllStand c.program c.scope modes → Mentions (static_of c kind modes) p
    → (p < ref_count c.scope) × (held_at c p ≡ true)

-- ---- what is not held
-- a variable to which something is assigned
abbrev pub AssignedIsNotHeld : Type 0
AssignedIsNotHeld = (c : Context) (u : Expression) (from : Right) (s : Span) (i : Identifier) (x : ℕ)
    → IsAssigned c.program u from → without_parentheses u ≡ identifier s i
    → named_at c.program.typed i.site.token ≡ named.Variable x
    → slot_kind c.scope x ≡ Some true → held_at c (register c x) ≡ false

-- one that is taken
abbrev pub TakenIsNotHeld : Type 0
TakenIsNotHeld = (c : Context) (a : Expression) (s : Span) (i : Identifier) (x : ℕ) → IsTaken c.program a
    → without_parentheses a ≡ identifier s i → named_at c.program.typed i.site.token ≡ named.Variable x
    → slot_kind c.scope x ≡ Some true → held_at c (register c x) ≡ false

pub record HeldLaws : Type 0 where
  pub expressions : ExpressionsAreHeld
  pub declared : DeclaredAreHeld
  pub types : TypesNameHeld
  pub assigned : AssignedIsNotHeld
  pub taken : TakenIsNotHeld
