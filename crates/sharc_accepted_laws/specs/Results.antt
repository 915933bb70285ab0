-- The types of results: their lock paths name global mutexes, so they are the same in each frame.
use Rattle.std.specs.Prelude.{◌≡◌, ℕ, List, Some}
use Rattle.sharc_tree.specs.{declared.token.Span.Span, declared.tree.declaration.Identifier.Identifier}
use Rattle.sharc_tree.specs.Tree.{Arguments, Function, call}
use Rattle.sharc_names.specs.declared.fault.Named.TheVariants as named
use Rattle.sharc_ctype.specs.Resolved.{named_at, function_at}
use Rattle.sharc_check.specs.Constructs.{IsFunction}
use Rattle.sharc_flat.specs.{declared.slot.Slot.Slot, Scope.Context}
use Rattle.sharc_invariant.specs.{Types.Mentions, Labels.Refers}
use Rattle.sharc_accepted_laws.specs.{StaticLaws.IsAccepted, Static.{result_type, entry_of}}

-- with these variables
abbrev pub where_stand : Context → List Slot → Context
where_stand c scope = record c { scope = scope }

-- whatever variables stand
abbrev pub ResultsStay : Type 0
ResultsStay = (c : Context) → IsAccepted c.program → (f : Function) → IsFunction c.program f
    → (one other : List Slot) → result_type (where_stand c one) f ≡ result_type (where_stand c other) f

-- and no register is named
abbrev pub ResultsNameNone : Type 0
ResultsNameNone = (c : Context) → IsAccepted c.program → (f : Function) → IsFunction c.program f
    → (p : ℕ) → Mentions (result_type c f) p → ⊥

-- a call has the type of what the function gives
abbrev pub CallsGive : Type 0
CallsGive = (c : Context) (s : Span) (i : Identifier) (all : Arguments) (n : ℕ) (f : Function)
    → named_at c.program.typed i.site.token ≡ named.Function n → function_at c.program.typed n ≡ Some f
    → entry_of c (call s i all) ≡ Refers (result_type c f)

pub record ResultLaws : Type 0 where
  pub stay : ResultsStay
  pub give : CallsGive
  pub none : ResultsNameNone
