-- What stands in the first cell of a mutex, and of a condition variable.
use Rattle.std.specs.Prelude.{◌≡◌, ◌<◌, [], ◌∷◌, None, Contains, codes}
use Rattle.sharc_tree.specs.declared.ctype.Base.TheVariants as base
use Rattle.sharc_ctype.specs.Resolved.{structs_in}
use Rattle.sharc_ctype_laws.specs.Constraints.{struct_named}
use Rattle.sharc_mode.specs.Moded.{Assignment}
use Rattle.sharc_invariant.specs.Types.{Content, MutexWord, Waiters, cells_of, field_at}
use Rattle.sharc_accepted_laws.specs.Shapes.{Form, Shape, known_condition, known_mutex, shapes, number}
use Rattle.sharc_accepted_laws.specs.Targets.{targets_of}

-- in the row of this shape
pub record FirstFits (m : Assignment) (s : Shape) (content : Content) : Type 0 where
  pub some : 0 < cells_of (targets_of m) (number m s)
  pub holds : (field_at (targets_of m) (number m s) 0).holds ≡ content

abbrev pub MutexesFirst : Type 0
MutexesFirst = (m : Assignment) (f : Form) → Contains (shapes m) (record { base = base.Mutex; forms = f ∷ [] })
    → FirstFits m (record { base = base.Mutex; forms = f ∷ [] }) MutexWord

-- where the program does not define that struct itself
abbrev pub WaitersFirst : Type 0
WaitersFirst = (m : Assignment) (f : Form) → struct_named (structs_in m.typed.program.items) (codes "cond") ≡ None
    → Contains (shapes m) (record { base = base.Struct (codes "cond"); forms = f ∷ [] })
    → FirstFits m (record { base = base.Struct (codes "cond"); forms = f ∷ [] }) Waiters

pub record FirstLaws : Type 0 where
  pub mutexes : MutexesFirst
  pub waiters : WaitersFirst
  pub condition : (m : Assignment) → Contains (shapes m) known_condition
  pub mutex : (m : Assignment) → Contains (shapes m) known_mutex
