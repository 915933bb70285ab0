-- What is passed at a call: the arguments, in registers one behind the other, go to the parameters of the callee's
-- frame.
use Rattle.std.specs.Prelude.{ℕ, ◌+◌, ◌<◌, List, slice_get, Option, Some, None}
use Rattle.sharc_tree.specs.{declared.tree.declaration.Declaration.Declaration, Tree.{Arguments, Function}}
use Rattle.sharc_names.specs.Kinds.{declared_kinds}
use Rattle.sharc_check.specs.Constructs.{IsFunction, IsCall}
use Rattle.sharc_flat.specs.{Flattened.parameters_scope, Scope.{Context, ref_count}, Suits.ArgumentsSuit}
use Rattle.sharc_invariant.specs.{Types.StaticType, Labels.Label, Typed.Passes}
use Rattle.sharc_accepted_laws.specs.{Calls.{at_entry, argument_type, AreStanding}, StaticLaws.IsAccepted}
use Rattle.sharc_accepted_laws.specs.{Static.variable_entry, Typing.typing}
use Rattle.sharc_typed_laws.specs.{Places.no_type, Stretches.Setting, Typable.ArgumentsAt}

-- the types of the arguments, by their places
abbrev pub type_for : Context → List Declaration → Arguments → Option Declaration → StaticType
type_for c ds all None = no_type
type_for c ds all (Some d) = argument_type c ds all d

abbrev pub wants_of : Context → List Declaration → Arguments → ℕ → StaticType
wants_of c ds all n = type_for c ds all (slice_get ds n)

-- each reference that is passed is as the callee's first registers have it
abbrev pub CallsPass : Type 0
CallsPass = (z : Setting) (f : ℕ) (c : Context) → IsAccepted c.program → (g : Function) → IsFunction c.program g
    → (all : Arguments) → IsCall c.program g.parameters all
    → ArgumentsSuit c (declared_kinds g.parameters) all → (i r : ℕ) (l : Label)
    → ArgumentsAt z f typing c (declared_kinds g.parameters) (wants_of c g.parameters all) all i r l
    → (p : ℕ) → p < ref_count (parameters_scope g.parameters)
    → Passes l r (r + p) (l.env (r + p)) (variable_entry (at_entry c g.parameters) p)

-- the arguments that are constant variables stand
abbrev pub ArgumentsStand : Type 0
ArgumentsStand = (c : Context) → IsAccepted c.program → (g : Function) → IsFunction c.program g
    → (all : Arguments) → ArgumentsSuit c (declared_kinds g.parameters) all → AreStanding c g.parameters all

pub record CallingLaws : Type 0 where
  pub stand : ArgumentsStand
  pub passes : CallsPass
