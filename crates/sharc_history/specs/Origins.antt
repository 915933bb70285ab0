-- Where in the source a turn is.
use Rattle.std.specs.Prelude.{ℕ, ◌+◌, ◌%◌, ◌^◌}
use Rattle.sharc_code.specs.{declared.code.Code.Code, declared.instr.Instr.Instr}
use Rattle.sharc_code.specs.declared.instr.Instr.TheVariants.{Load, Store, LoadRef, Exchange, New, TakeCell, TakeLocal}
use Rattle.sharc_code.specs.declared.instr.Instr.TheVariants.{Give, Free, Lock, Unlock, Spawn, Join, Print, Start, Exit}
use Rattle.sharc_code.specs.declared.instr.Instr.TheVariants.{ChkLockLoaded, CondEnter, CondWait, CondSignal}
use Rattle.sharc_code.specs.declared.instr.Instr.TheVariants.{CondBroadcast}
use Rattle.sharc_code.specs.{declared.state.Stage.Stage, declared.state.Stage.TheVariants.Enters}
use Rattle.sharc_code.specs.Machine.{Machine, instr_at}
use Rattle.sharc_history.specs.declared.cells.Origin.{Origin}
use Rattle.sharc_history.specs.declared.cells.Origin.TheVariants as origins

-- a reference is loaded for itself, or for the lock that the mode of another site names: then the check of that lock is
-- behind it
abbrev pub loads_at : ℕ → Instr → Origin
loads_at site (ChkLockLoaded lock) = origins.Lock site lock
loads_at site _ = origins.Site site

-- a thread becomes a waiter, unlocks, and then waits at the condition that the site of its wait names
abbrev pub enters_at : ℕ → Instr → Origin
enters_at site (CondWait cell wait) = origins.Wait site wait
enters_at site _ = origins.Site site

-- a thread begins and ends at its function
abbrev pub starts_at : Stage → Origin
starts_at (Enters function) = origins.Function function
starts_at _ = origins.Function 0

-- the instruction that is so many places behind
abbrev pub behind : Code → Machine → ℕ → Instr
behind code m places = instr_at code ((m.at.pc + places) % 2 ^ 64)

-- of a machine at this instruction; of one that is no event, the first function
abbrev pub origin_by : Code → Machine → Instr → Origin
origin_by code m (Load r cell site) = origins.Site site
origin_by code m (Store r cell site) = origins.Site site
origin_by code m (LoadRef cell site) = loads_at site (behind code m 1)
origin_by code m (Exchange r cell site) = origins.Site site
origin_by code m (TakeCell r cell site) = origins.Site site
origin_by code m (TakeLocal r from site) = origins.Site site
origin_by code m (Give r site) = origins.Site site
origin_by code m (New r count cells site) = origins.Site site
origin_by code m (Free r layout site) = origins.Site site
origin_by code m (Lock cell site) = origins.Site site
origin_by code m (Unlock r cell site) = origins.Site site
origin_by code m (Spawn r function from site) = origins.Site site
origin_by code m (Join r site) = origins.Site site
origin_by code m (Print r site) = origins.Site site
origin_by code m (Start site) = starts_at m.own.stage
origin_by code m Exit = origins.Function m.own.function
origin_by code m (CondEnter cell site) = enters_at site (behind code m 2)
origin_by code m (CondWait cell site) = origins.Site site
origin_by code m (CondSignal cell site) = origins.Site site
origin_by code m (CondBroadcast cell site) = origins.Site site
origin_by code m _ = origins.Function 0

-- of the turn that a machine makes next
abbrev pub origin_at : Code → Machine → Origin
origin_at code m = origin_by code m (instr_at code m.at.pc)
