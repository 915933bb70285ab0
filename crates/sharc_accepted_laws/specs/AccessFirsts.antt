-- What `wait`, `signal` and `broadcast` are handed: a condition variable, and a mutex.
use Rattle.std.specs.Prelude.{◌≡◌, [], None, codes}
use Rattle.sharc_tree.specs.Tree.{Expression}
use Rattle.sharc_names.specs.Kinds.{mutex_pointer, condition_pointer}
use Rattle.sharc_ctype.specs.Resolved.{structs_in, kind_at}
use Rattle.sharc_ctype_laws.specs.Constraints.{struct_named}
use Rattle.sharc_mode.specs.Moded.{Assignment}
use Rattle.sharc_check.specs.Constructs.{IsExpression}
use Rattle.sharc_flat.specs.Scope.{Context}
use Rattle.sharc_invariant.specs.{Types.StaticType, Types.Content.{MutexWord, Waiters}, Labels.Refers}
use Rattle.sharc_typed_laws.specs.{Stretches.Setting, Typable.FirstCell}
use Rattle.sharc_accepted_laws.specs.{StaticLaws.IsAccepted, Static.entry_of}
use Rattle.sharc_accepted_laws.specs.{Shapes.{known_condition, known_mutex, number}, Targets.targets_of}

-- the types that NULL may have there
abbrev pub type_of_mutex : Assignment → StaticType
type_of_mutex m = record { target = number m known_mutex; locks = [] }

abbrev pub type_of_condition : Assignment → StaticType
type_of_condition m = record { target = number m known_condition; locks = [] }

-- the program does not define `struct cond` itself
abbrev pub KnowsCondition : Assignment → Type 0
KnowsCondition m = struct_named (structs_in m.typed.program.items) (codes "cond") ≡ None

module _ (z : Setting) (c : Context) where
  pub record HasFirstCells : Type 0 where
    pub mutex : (e : Expression) → IsExpression c.program e → kind_at c.program.typed e ≡ mutex_pointer
        → (s : StaticType) → entry_of c e ≡ Refers s → FirstCell z s MutexWord
    pub condition : KnowsCondition c.program
        → (e : Expression) → IsExpression c.program e → kind_at c.program.typed e ≡ condition_pointer
        → (s : StaticType) → entry_of c e ≡ Refers s → FirstCell z s Waiters
    pub no_mutex : FirstCell z (type_of_mutex c.program) MutexWord
    pub no_condition : KnowsCondition c.program → FirstCell z (type_of_condition c.program) Waiters

abbrev pub FirstsFit : Type 0
FirstsFit = (z : Setting) (c : Context) → z.targets ≡ targets_of c.program → IsAccepted c.program → HasFirstCells z c
