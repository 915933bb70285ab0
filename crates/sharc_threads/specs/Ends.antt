-- Where a run is: whose turn may be next, how it ends there, and which threads it had.
use Rattle.std.specs.Prelude.{ℕ, ◌≡◌, ◌&&◌, nat_lt, not, Bool, true, false, List, map, filter}
use Rattle.std.specs.List.{range_with_len, All}
use Rattle.sharc_code.specs.{declared.code.Code.Code, declared.shape.Shape.Shape, Machine.Machine, Path.may_go}
use Rattle.sharc_code.specs.{Runs.Global, Waits.waits_now, Whole.IsStuck}
use Rattle.sharc_cpu.specs.Thread.{ThreadView, IsThread}
use Rattle.sharc_threads.specs.{declared.end.End.End, declared.end.End.TheVariants.{AllDone, Stuck, Budget}}

-- where a run is: the words, each thread, whether it was started, and how many events it has made
abbrev pub Standing : Type 0
Standing = Global Machine

-- a thread that was started, is neither gone nor stopped, has made fewer events than it may, and does not wait
abbrev pub is_enabled : Code → Shape → ℕ → Standing → ℕ → Bool
is_enabled code s limit g t = g.started t
    && (may_go (g.threads t).at.state && (nat_lt (g.made t) limit && not (waits_now code s g.words (g.threads t))))

-- ---- the end
-- each thread that was started is gone or stopped
abbrev pub AllAreDone : Standing → Type 0
AllAreDone g = (t : ℕ) → g.started t ≡ true → may_go (g.threads t).at.state ≡ false

-- no two of these are so of one place
abbrev pub EndIs : Code → Shape → Standing → End → Type 0
EndIs code s g AllDone = AllAreDone g
EndIs code s g Stuck = IsStuck code s g
EndIs code s g Budget = (¬ AllAreDone g) × (¬ IsStuck code s g)

-- ---- the threads
-- the thread as it is there
pub record IsAt (code : Code) (s : Shape) (g : Standing) (t : ThreadView) : Type 0 where
  pub thread : IsThread code s t
  pub machine : t.machine ≡ g.threads t.machine.own.number
  pub made : t.made ≡ g.made t.machine.own.number

-- the threads that were started, in rising order, each as it is there
pub record AreStarted (code : Code) (s : Shape) (g : Standing) (threads : List ThreadView) : Type 0 where
  pub numbers : map (λ (t : ThreadView). t.machine.own.number) threads ≡ filter g.started (range_with_len 0 s.threads)
  pub each : All (IsAt code s g) threads
