-- The threads that wait or were stopped at the end of a run.
use Rattle.std.specs.Prelude.{ℕ, ◌≡◌, ◌&&◌, ◌||◌, Bool, true, List, All, map, filter, is_some, Some, None}
use Rattle.std.specs.{List.range_with_len, Option.option_map}
use Rattle.sharc_word.specs.declared.step.TheConstants.{THREADS}
use Rattle.sharc_code.specs.{declared.code.Code.Code, declared.shape.Shape.Shape, Machine.{Machine, instr_at}}
use Rattle.sharc_code.specs.{Path.may_go, Waits.waits_now}
use Rattle.sharc_threads.specs.Ends.{Standing}
use Rattle.sharc_history.specs.{declared.next.Coming.Coming, Origins.origin_at, Refused.refused_at, Told.{at, IsComing}}
use Rattle.sharc_history.specs.{declared.last.Halt.Halt, declared.last.Last.Last}
use Rattle.sharc_history.specs.declared.last.Halt.TheVariants as halts

-- ---- which threads these are
-- it is neither gone nor stopped, and its next turn would be a failed try
abbrev pub is_held : Code → Shape → Standing → ℕ → Bool
is_held code s g t = may_go (g.threads t).at.state && waits_now code s g.words (g.threads t)

-- it was started, and was stopped or waits
abbrev pub is_last : Code → Shape → Standing → ℕ → Bool
is_last code s g t = g.started t && (is_some (g.threads t).own.stop || is_held code s g t)

-- ---- what is said of one
-- this is what is coming of a machine, and where in the source it is
pub record Awaits (code : Code) (m : Machine) (coming : Coming) : Type 0 where
  pub is : IsComing code (instr_at code m.at.pc) m coming
  pub origin : coming.origin ≡ origin_at code m

-- why it was stopped, with what the check looked at; or what it waits to do
abbrev pub IsHalt : Code → Machine → Halt → Type 0
IsHalt code m (halts.Stopped stop cell) = (m.own.stop ≡ Some stop) × (option_map at cell ≡ refused_at code m)
IsHalt code m (halts.Waits coming) = (m.own.stop ≡ None) × Awaits code m coming

abbrev pub IsLast : Code → Standing → Last → Type 0
IsLast code g last = IsHalt code (g.threads last.thread) last.halt

-- the thread of this number is one of them, and this is said of it
pub record IsHaltAt (code : Code) (s : Shape) (g : Standing) (t : ℕ) (halt : Halt) : Type 0 where
  pub some : is_last code s g t ≡ true
  pub is : IsHalt code (g.threads t) halt

-- these are those with a number below this one, in rising order of their numbers
pub record AreLastsUpTo (code : Code) (s : Shape) (g : Standing) (count : ℕ) (lasts : List Last) : Type 0 where
  pub numbers : map (λ (last : Last). last.thread) lasts ≡ filter (is_last code s g) (range_with_len 0 count)
  pub each : All (IsLast code g) lasts

-- these are all
abbrev pub AreLasts : Code → Shape → Standing → List Last → Type 0
AreLasts code s g lasts = AreLastsUpTo code s g THREADS lasts
