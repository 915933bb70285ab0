-- What is passed at a call has the type that the parameter has there.
use Rattle.std.specs.Prelude.{◌≡◌, ℕ, ◌+◌, ◌<◌, true, List, Some, Contains}
use Rattle.sharc_tree.specs.{declared.tree.declaration.Declaration.Declaration, Tree.{Expression, Arguments, value}}
use Rattle.sharc_names.specs.declared.fault.Named.TheVariants as named
use Rattle.sharc_names.specs.Kinds.{is_pointer, declared_kind}
use Rattle.sharc_ctype.specs.{Resolved.{named_at, declaration_at, variable_kind}, Transfers.{variable, passed}}
use Rattle.sharc_mode.specs.Rows.{at_call, declared_row, modes_of, argument_use}
use Rattle.sharc_check.specs.Constructs.{IsCall}
use Rattle.sharc_flat.specs.{Flattened.parameters_scope, Scope.{Context, slot_kind, ref_count}}
use Rattle.sharc_invariant.specs.{Types.{StaticType, Mentions}, Labels.{Refers, Label, SameReference}, Typed.Passes}
use Rattle.sharc_accepted_laws.specs.{StaticLaws.IsAccepted, Held.{is_held, held_at}}
use Rattle.sharc_accepted_laws.specs.Static.{register, static_of, variable_type, entry_of, GoesTo}

-- where a function with these parameters begins
abbrev pub at_entry : Context → List Declaration → Context
at_entry c ds = record c { scope = parameters_scope ds }

-- The frame of the callee begins at register k. Where the argument for a parameter that is a pointer is a constant
-- variable that keeps its reference, its register holds a copy of that.
abbrev pub AreCopies : Context → List Declaration → Arguments → Label → ℕ → Type 0
AreCopies c ds all l k = (x at y : ℕ) → is_pointer (variable_kind (declaration_at c.program.typed x)) ≡ true
    → argument_use c.program.typed ds all x ≡ Some at → named_at c.program.typed at ≡ named.Variable y
    → is_held c.program.typed y ≡ true
    → SameReference l (register c y) (k + register (at_entry c ds) x)

-- an argument in register a
abbrev pub ArgumentsPass : Type 0
ArgumentsPass = (c : Context) → IsAccepted c.program
    → (ds : List Declaration) (all : Arguments) (d : Declaration) (e : Expression) → IsCall c.program ds all
    → Contains (passed ds all) record { receiver = variable d; source = value e }
    → is_pointer (declared_kind d.written) ≡ true
    → (l : Label) (k a : ℕ) → AreCopies c ds all l k
    → Passes l k a (entry_of c e) (Refers (variable_type (at_entry c ds) d.name.site.token))

-- ---- the type of an argument
-- in the caller's frame, by the modes that the parameter has at the call
abbrev pub argument_type : Context → List Declaration → Arguments → Declaration → StaticType
argument_type c ds all d = static_of c (declared_kind d.written)
    (modes_of c.program (declared_row c.program.typed (at_call ds all) d.name.site.token))

-- the arguments for pointers that are constant variables stand
abbrev pub AreStanding : Context → List Declaration → Arguments → Type 0
AreStanding c ds all = (x at y : ℕ) → is_pointer (variable_kind (declaration_at c.program.typed x)) ≡ true
    → argument_use c.program.typed ds all x ≡ Some at → named_at c.program.typed at ≡ named.Variable y
    → slot_kind c.scope y ≡ Some true

-- The argument is NULL or has that type. It names variables that stand and keep their references, and is as that of the
-- parameter in the callee's frame, be it of NULL.
pub record ArgumentFits (c : Context) (ds : List Declaration) (all : Arguments) (d : Declaration)
    (e : Expression) : Type 0 where
  pub goes : GoesTo (entry_of c e) (argument_type c ds all d)
  pub names : AreStanding c ds all
      → (p : ℕ) → Mentions (argument_type c ds all d) p → (p < ref_count c.scope) × (held_at c p ≡ true)
  pub passes : (l : Label) (k a : ℕ) → AreCopies c ds all l k
      → Passes l k a (Refers (argument_type c ds all d)) (Refers (variable_type (at_entry c ds) d.name.site.token))

abbrev pub ArgumentsFit : Type 0
ArgumentsFit = (c : Context) → IsAccepted c.program
    → (ds : List Declaration) (all : Arguments) (d : Declaration) (e : Expression) → IsCall c.program ds all
    → Contains (passed ds all) record { receiver = variable d; source = value e }
    → is_pointer (declared_kind d.written) ≡ true → ArgumentFits c ds all d e
