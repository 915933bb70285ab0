-- What sources and sinks in memory are, and what a call of one does.
use Rattle.std.specs.Prelude.{ℕ, ◌≡◌, ◌↔◌, ◌≤◌, ◌&&◌, ◌==◌, nat_lt, List, length, Bool, if◌then◌else◌, IsTrue, Contains}
use Rattle.sharc_io.specs.Causes.{one_more}

-- The calls of an object in memory: the numbers of those that fail, the number of the next one, and how many have
-- failed.
pub record Plan : Type 0 where
  pub fails : List ℕ
  pub call : ℕ
  pub faults : ℕ

-- One call was made. It failed exactly where its number is listed, and was then counted as a fault.
pub record MakesCall (old new : Plan) (failed : Bool) : Type 0 where
  pub listed : IsTrue failed ↔ Contains old.fails old.call
  pub counted : new.faults ≡ (if failed then one_more old.faults else old.faults)
  pub later : old.faults ≤ new.faults
  pub next : new.call ≡ one_more old.call
  pub same_list : new.fails ≡ old.fails

-- The bytes that a sink in memory holds, how many it has room for in all, and how often it has stalled.
pub record Holding : Type 0 where
  pub held : List ℕ
  pub room : ℕ
  pub stalls : ℕ

-- the count of stalls after this many bytes of a piece were taken: one more where none was, of a piece that is not
-- empty
abbrev pub stalls_after : ℕ → ℕ → List ℕ → ℕ
stalls_after stalls count piece = if count == 0 && nat_lt 0 (length piece) then one_more stalls else stalls

-- A source in memory that fails as planned: the bytes that it has left, and its calls.
pub record PlannedInput : Type 0 where
  pub left : List ℕ
  pub plan : Plan

-- A sink in memory that fails as planned: what it holds, and its calls.
pub record PlannedOutput : Type 0 where
  pub holding : Holding
  pub plan : Plan

-- The two counts of a sink.
pub record Counts : Type 0 where
  pub faults : ℕ
  pub stalls : ℕ
