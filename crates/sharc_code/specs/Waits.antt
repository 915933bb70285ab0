-- What a thread waits for.
use Rattle.std.specs.Prelude.{ℕ, ℤ, pos, negsuc, ◌==◌, ◌||◌, Bool, false, not, List, Option, Some, None, nat_lt}
use Rattle.std.specs.Prelude.{slice_index, if◌then◌else◌}
use Rattle.sharc_word.specs.declared.step.TheConstants.{THREADS}
use Rattle.sharc_locks.specs.Waiters.{waits_in}
use Rattle.sharc_code.specs.{declared.code.Code.Code, declared.shape.Shape.Shape, declared.instr.Instr.Instr}
use Rattle.sharc_code.specs.{declared.instr.Instr.TheVariants.{Lock, Join, CondWait}, declared.state.Wait.Wait}
use Rattle.sharc_code.specs.{Layout.state_word, Machine.{Machine, int, word, instr_at}, Path.may_go}
use Rattle.sharc_code.specs.declared.state.Wait.TheVariants as waits

abbrev pub joins : ℤ → ℕ → Option Wait
joins (pos n) site = if nat_lt n THREADS then Some (waits.Join n site) else None
joins (negsuc n) site = None

-- what this instruction asks for that a thread may have to wait for
abbrev pub asks_for : Shape → Instr → Machine → Option Wait
asks_for s (Lock cell site) m = Some (waits.Mutex (word s m cell) site)
asks_for s (Join r site) m = joins (int m r) site
asks_for s (CondWait cell site) m = Some (waits.Cond (word s m cell) site)
asks_for s _ m = None

-- what the thread's next turn asks for, if it makes one
abbrev pub wait_of : Code → Shape → Machine → Option Wait
wait_of code s m = if may_go m.at.state then asks_for s (instr_at code m.at.pc) m else None

-- the mutex is held, the thread is not gone, its own bit is set
abbrev pub is_held_up : List ℕ → ℕ → Wait → Bool
is_held_up words number (waits.Mutex word site) = not (slice_index words word == 0)
is_held_up words number (waits.Join n site) =
    slice_index words (state_word n) == 1 || slice_index words (state_word n) == 2
is_held_up words number (waits.Cond word site) = waits_in (slice_index words word) number

abbrev pub held_up : List ℕ → ℕ → Option Wait → Bool
held_up words number None = false
held_up words number (Some wait) = is_held_up words number wait

-- the thread waits where the words are these
abbrev pub waits_now : Code → Shape → List ℕ → Machine → Bool
waits_now code s words m = held_up words m.own.number (wait_of code s m)
