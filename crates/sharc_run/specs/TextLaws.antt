-- Laws of texts, for the crates above.
use Rattle.std.specs.Prelude.{ℕ, ◌≡◌, Bool, List, map, Option}
use Rattle.sharc_heap.specs.Accesses.{Accesses}
use Rattle.sharc_code.specs.{declared.code.Code.Code, declared.state.Print.Print, declared.state.Stop.Stop}
use Rattle.sharc_code.specs.declared.state.Wait.{Wait}
use Rattle.sharc_cpu.specs.Thread.{ThreadView}
use Rattle.sharc_run.specs.{Others.number_of, RunText.{prints_of, is_gone, IsRunText}}

-- what a text says of a thread: whether it is gone, its number, why it was stopped, what it waits for, how many events
-- it has made, and what it printed and accessed
pub record Shown : Type 0 where
  pub gone : Bool
  pub number : ℕ
  pub stop : Option Stop
  pub wait : Option Wait
  pub made : ℕ
  pub prints : List Print
  pub table : Accesses

abbrev pub shown : ThreadView → Shown
shown t = record {
  gone = is_gone t.machine.at.state;
  number = number_of t;
  stop = t.machine.own.stop;
  wait = t.wait;
  made = t.made;
  prints = prints_of t;
  table = t.machine.own.table;
}

-- the text of these words, and of threads of which it says the same, is one
abbrev pub TextIsOne : Type 0
TextIsOne = (code : Code) (words : List ℕ) (threads others : List ThreadView) (text other : List ℕ)
    → map shown threads ≡ map shown others
    → IsRunText code words threads text → IsRunText code words others other → text ≡ other
