-- Guarded code asks for what flat code asks for.
use Rattle.std.specs.Prelude.{Bool, ℕ, ℤ, ◌+◌, ◌*◌, ◌≡◌, ◌<◌, ◌≤◌, ◌⊎◌, List, [], ◌∷◌, ◌++◌, length, map}
use Rattle.sharc_tree.specs.{declared.event.Act.Act, declared.token.Site.Site, declared.trap.Trap.Trap}
use Rattle.sharc_code.specs.declared.state.Frame.{Frame}
use Rattle.sharc_meaning.specs.declared.given.GivenUp.{GivenUp}
use Rattle.sharc_meaning.specs.{declared.given.GivenUp.TheVariants.{Released, Replaced, Emptied}, Events.held_mutexes}
use Rattle.sharc_meaning.specs.State.{stopped, ended}
use Rattle.sharc_flat.specs.Machine as Flat
use Rattle.sharc_guard.specs.Machine.{Program, Thread, Running, Check, Turn, Goes, Asks, Checks, Halts, Stopped, Ended}
use Rattle.sharc_guard.specs.Machine.{turn, source_at}
use Rattle.sharc_guard.specs.{Path.{started, thread_after, IsPath, weight_in}, Guard.{guarded, place}}
use Rattle.sharc_flat.specs.Path as Flow
use Rattle.sharc_flat.specs.Framed.{IsFlat}

-- what flat code gave up, and the numbers that guarded code lowered for it: for the old value of a cell whatever it
-- held
abbrev pub Resolved : List GivenUp → List ℕ → Type 0
Resolved [] [] = Unit {0}
Resolved [] (k ∷ ks) = ⊥
Resolved (Released n ∷ gs) [] = ⊥
Resolved (Released n ∷ gs) (k ∷ ks) = (k ≡ n) × Resolved gs ks
Resolved (Replaced c ∷ gs) [] = ⊥
Resolved (Replaced c ∷ gs) (k ∷ ks) = Resolved gs ks
Resolved (Emptied n ∷ gs) ks = Resolved gs ks

abbrev pub moved : (ℕ → ℕ) → Flat.Caller → Frame
moved pl f = record { pc = pl f.pc; ints = f.ints; refs = f.refs }

abbrev pub bottom : Frame
bottom = record { pc = 1; ints = 0; refs = 0 }

-- the thread of guarded code that is where flat code is
abbrev pub image : (ℕ → ℕ) → Flat.At → ℕ → List ℕ → Thread
image pl m q lowered = record {
  pc = q;
  ints_from = m.int_base;
  refs_from = m.ref_base;
  ints = m.ints;
  refs = m.refs;
  pending = m.pending;
  frames = map (moved pl) m.frames ++ bottom ∷ [];
  held = held_mutexes m.events;
  function = m.function;
  lowered = lowered;
  events = m.events;
  phase = Running;
}

-- what guarded code is about to do, flat code is
pub record Wants (flat : Flat.Flat) (p : Program) (m : Flat.At) (t : Turn) : Type 0 where
  pub halts : (trap : Trap) (site : ℕ) → t ≡ Halts (Stopped trap site)
      → Flat.turn flat m ≡ Flat.halts (stopped trap (source_at p site).site)
  pub ends : t ≡ Halts Ended → Flat.turn flat m ≡ Flat.halts ended
  pub asks : (site : Site) (act : Act) (go : ℤ → Thread) → t ≡ Asks site act go
      → (m2 : Flat.At) × (held : ℤ) × (f : ℤ → Flat.At → Flat.At) × (Flat.turn flat m ≡ Flat.asks m2 site act held f)
  pub checks : (check : Check) (site : ℕ) (b : Thread) → t ≡ Checks check site b → (m2 : Flat.At) × (act : Act)
      × (held : ℤ) × (f : ℤ → Flat.At → Flat.At) × (Flat.turn flat m ≡ Flat.asks m2 (source_at p site).site act held f)

-- The registers, the log and the frames are those of flat code, or the next turn, which only settles the counts, makes
-- them so; after the last return nothing but the phase is left.
pub record IsImage (pl : ℕ → ℕ) (m : Flat.At) (a : Thread) : Type 0 where
  pub lowered : List ℕ
  pub is : a ≡ image pl m a.pc lowered

pub record IsSettling (p : Program) (pl : ℕ → ℕ) (m : Flat.At) (a : Thread) : Type 0 where
  pub later : Thread
  pub goes_there : turn p a ≡ Goes later
  pub there : IsImage pl m later

pub record IsLeaving (flat : Flat.Flat) (m : Flat.At) (a : Thread) : Type 0 where
  pub behind : length flat.lines ≤ m.pc
  pub function_is : a.function ≡ m.function

-- a path of flat code to where guarded code is
pub record IsBeside (pl : ℕ → ℕ) (flat : Flat.Flat) (p : Program) (f : ℕ) (v : ℤ) (a : Thread)
    (turns weight : ℕ) : Type 0 where
  pub answers : List ℤ
  pub path : Flow.IsPath flat (Flat.start flat f v) answers
  pub events : a.events ≡ (Flow.at_after flat (Flat.start flat f v) answers).events
  pub image_is : IsImage pl (Flow.at_after flat (Flat.start flat f v) answers) a
      ⊎ (IsSettling p pl (Flow.at_after flat (Flat.start flat f v) answers) a
      ⊎ IsLeaving flat (Flow.at_after flat (Flat.start flat f v) answers) a)
  -- what was lowered is a first part of what flat code gave up
  pub given : (more : List ℕ) × Resolved (Flow.at_after flat (Flat.start flat f v) answers).given (a.lowered ++ more)
  pub wants : Wants flat p (Flow.at_after flat (Flat.start flat f v) answers) (turn p a)
  -- each line of flat code is four statements at most, which come to five turns of code at most
  pub count : turns ≤ 4 * length answers + 2
  pub pace : weight ≤ 5 * length answers + 2

abbrev pub GuardedKeepsPaths : Type 0
GuardedKeepsPaths = (flat : Flat.Flat) (dropped : ℕ → Bool) → IsFlat flat → let p = guarded dropped flat in
    (f : ℕ) (v : ℤ) (answers : List ℤ) → f < length flat.functions → IsPath p (started p f v) answers
    → IsBeside (place dropped flat.lines) flat p f v (thread_after p (started p f v) answers) (length answers)
    (weight_in p (started p f v) answers)
