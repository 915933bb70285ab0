-- The turns of a thread of guarded code, given what it is answered.
use Rattle.std.specs.Prelude.{ℕ, ℤ, pos, ◌+◌, ◌≡◌, Bool, true, false, List, [], ◌∷◌}
use Rattle.sharc_code.specs.{declared.code.Parameter.Parameter, declared.instr.Instr.Instr}
use Rattle.sharc_code.specs.declared.instr.Instr.TheVariants.{Free, New, Spawn, CondSignal}
use Rattle.sharc_code.specs.declared.code.Parameter.TheVariants as parameters
use Rattle.sharc_meaning.specs.Reference.{NULL}
use Rattle.sharc_guard.specs.Machine.{Program, Thread, Turn, Goes, Asks, Checks, Halts, Running, set_int, set_ref}
use Rattle.sharc_guard.specs.Machine.{function_at, statement_at, turn}

-- ---- the beginning: a thread of this function, after its Started with this argument
abbrev pub with_parameter : Thread → Parameter → ℤ → Thread
with_parameter a parameters.None v = a
with_parameter a parameters.Int v = set_int a 0 v
with_parameter a parameters.Reference v = set_ref a 0 v

abbrev pub fresh : Program → ℕ → Thread
fresh p f = record {
  pc = (function_at p f).entry;
  ints_from = 0;
  refs_from = 0;
  ints = λ i. pos 0;
  refs = λ i. NULL;
  pending = NULL;
  frames = record { pc = 1; ints = 0; refs = 0 } ∷ [];
  held = [];
  function = f;
  lowered = [];
  events = [];
  phase = Running;
}

abbrev pub started : Program → ℕ → ℤ → Thread
started p f v = with_parameter (fresh p f) (function_at p f).parameter v

-- ---- one turn
-- the thread after a turn that was answered this; a halt changes nothing
abbrev pub after : Thread → Turn → ℤ → Thread
after a (Goes b) x = b
after a (Asks site act go) x = go x
after a (Checks check site b) x = b
after a (Halts outcome) x = a

abbrev pub may_go : Turn → Bool
may_go (Goes b) = true
may_go (Asks site act go) = true
may_go (Checks check site b) = true
may_go (Halts outcome) = false

-- ---- paths
-- The answers of a path, the last one first, one for each turn, also where a turn asked for nothing. Its events are
-- those of the thread after it.
abbrev pub thread_after : Program → Thread → List ℤ → Thread
thread_after p a [] = a
thread_after p a (x ∷ earlier) = let now = thread_after p a earlier in after now (turn p now) x

-- no turn comes after a halt
abbrev pub IsPath : Program → Thread → List ℤ → Type 0
IsPath p a [] = Unit {0}
IsPath p a (x ∷ earlier) = IsPath p a earlier × (may_go (turn p (thread_after p a earlier)) ≡ true)

-- how many turns of code a turn of this statement may be at most, without those that a bound on the length of a path
-- leaves out
abbrev pub weight : Instr → ℕ
weight (New r count cells site) = 4
weight (Spawn r function from site) = 4
weight (Free r layout site) = 3
weight (CondSignal cell site) = 2
weight _ = 1

abbrev pub weight_in : Program → Thread → List ℤ → ℕ
weight_in p a [] = 0
weight_in p a (x ∷ earlier) = weight_in p a earlier + weight (statement_at p (thread_after p a earlier).pc)
