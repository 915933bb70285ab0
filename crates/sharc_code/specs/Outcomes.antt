-- What a turn makes of its thread: one of eleven outcomes, each of certain instructions.
use Rattle.std.specs.Prelude.{ℕ, ◌≡◌, ◌<◌, ◌++◌, ◌∷◌, ◌==◌, ◌⊎◌, Bool, true, false, not, List, [], Some}
use Rattle.sharc_tree.specs.declared.trap.Trap.TheVariants as traps
use Rattle.sharc_word.specs.declared.step.TheConstants.{THREADS}
use Rattle.sharc_heap.specs.{declared.shadow_word.Kind.Kind, declared.shadow_word.Kind.TheVariants.{Read, Write}}
use Rattle.sharc_heap.specs.{declared.access_table.Note.Note, Functions.noted, ShadowWord.epoch_of}
use Rattle.sharc_locks.specs.declared.held_log.HeldMutex.{HeldMutex}
use Rattle.sharc_code.specs.{declared.code.Code.Code, declared.instr.Cell.Cell, declared.instr.Instr.Instr}
use Rattle.sharc_code.specs.declared.instr.Instr.TheVariants as instrs
use Rattle.sharc_code.specs.{declared.shape.Shape.Shape, declared.state.Print.{Print as PrintAt}}
use Rattle.sharc_code.specs.{declared.state.Stage.Stage, declared.state.TurnState.TurnState}
use Rattle.sharc_code.specs.declared.state.Stage.TheVariants.{Rests, Looks, Clears, Makes, Empties, Lowers, FreeLooks}
use Rattle.sharc_code.specs.declared.state.Stage.TheVariants.{FreeClears, Uncounts, Links, Names, Hands, Begins, Enters}
use Rattle.sharc_code.specs.declared.state.Stage.TheVariants.{Withdraws, WithdrawsFrom, Leaves, Wakes}
use Rattle.sharc_code.specs.declared.state.TurnState.TheVariants as states
use Rattle.sharc_code.specs.declared.state.Stop.{Stop}
use Rattle.sharc_code.specs.declared.state.Stop.TheVariants.{Conflict, NoLock, NotSole, Trap as Trapped}
use Rattle.sharc_code.specs.Layout.{granule_at, granule_of, cell_of, cell_word}
use Rattle.sharc_code.specs.Machine.{Machine, Own, act, place, word, is_of_null, is_held, fails, stopped}
use Rattle.sharc_code.specs.{Path.after, Stages.IsStageOf}

-- ---- outcomes
pub data TurnOutcome : Type 0 where
  -- the thread goes on, with what it had for itself
  Goes : TurnOutcome
  -- it tries again
  Fails : TurnOutcome
  -- it stops
  Stops : Stop → TurnOutcome
  -- its instruction has another turn
  Stays : Stage → TurnOutcome
  -- it had the last of several, and leaves these heads
  Rested : List ℕ → TurnOutcome
  -- a check of a granule is noted
  Notes : ℕ → Kind → Note → TurnOutcome
  -- the held log is another
  Logs : List HeldMutex → TurnOutcome
  -- there is one print more
  Prints : PrintAt → TurnOutcome
  -- it begins with this function, or has no room for its frame
  Begun : ℕ → TurnOutcome
  Refused : ℕ → ℕ → TurnOutcome
  -- it has ended
  Gone : TurnOutcome

-- what the thread then has for itself
abbrev pub own_after : TurnOutcome → Own → Own
own_after Goes own = own
own_after Fails own = own
own_after (Stops stop) own = record own { stop = Some stop }
own_after (Stays stage) own = record own { stage = stage }
own_after (Rested heads) own = record own { stage = Rests; heads = heads }
own_after (Notes granule kind note) own = record own { table = noted own.table granule kind note }
own_after (Logs held) own = record own { held = held }
own_after (Prints print) own = record own { prints = own.prints ++ print ∷ [] }
own_after (Begun function) own = record own { stage = Rests; function = function }
own_after (Refused function site) own =
    record own { stage = Rests; function = function; stop = Some (Trapped traps.CallDepth site) }
own_after Gone own = record own { stage = Rests }

abbrev pub state_after : TurnOutcome → TurnState
state_after Fails = states.Tries
state_after (Stops stop) = states.Stopped
state_after (Refused function site) = states.Stopped
state_after Gone = states.Ended
state_after _ = states.Runs

-- ---- instructions by the outcomes that they alone have
abbrev pub is_load : Instr → Bool
is_load (instrs.LoadRef cell site) = true
is_load _ = false

abbrev pub is_trying : Instr → Bool
is_trying (instrs.Lock cell site) = true
is_trying (instrs.Join r site) = true
is_trying (instrs.CondWait cell site) = true
is_trying _ = false

abbrev pub check_of : Kind → Cell → ℕ → Instr
check_of Read cell site = instrs.ChkRead cell site
check_of Write cell site = instrs.ChkWrite cell site

abbrev pub is_locking : Instr → Bool
is_locking (instrs.Lock cell site) = true
is_locking (instrs.Unlock r cell site) = true
is_locking _ = false

abbrev pub is_print : Instr → Bool
is_print (instrs.Print r site) = true
is_print _ = false

abbrev pub is_start : Instr → Bool
is_start (instrs.Start site) = true
is_start _ = false

abbrev pub is_exit : Instr → Bool
is_exit instrs.Exit = true
is_exit _ = false

-- ---- stages
-- the instruction has this stage between two turns; a CondSignal wakes nobody in a word without waiters
abbrev pub has_stage : Instr → Stage → Bool
has_stage (instrs.New r count cells site) (Makes view) = true
has_stage (instrs.Clear r cells) (Looks done all) = true
has_stage (instrs.Clear r cells) (Clears done all seen) = true
has_stage (instrs.Free r layout site) (Empties i all) = true
has_stage (instrs.Free r layout site) (Lowers i all found) = true
has_stage (instrs.Free r layout site) (FreeLooks done all) = true
has_stage (instrs.Free r layout site) (FreeClears done all seen) = true
has_stage (instrs.Free r layout site) (Uncounts all) = true
has_stage (instrs.Free r layout site) (Links all) = true
has_stage (instrs.Spawn r function from site) (Names n) = true
has_stage (instrs.Spawn r function from site) (Hands n) = true
has_stage (instrs.Spawn r function from site) (Begins n) = true
has_stage (instrs.Start site) (Enters function) = true
has_stage instrs.Exit (Withdraws row) = true
has_stage instrs.Exit (WithdrawsFrom row seen) = true
has_stage instrs.Exit Leaves = true
has_stage (instrs.CondSignal cell site) (Wakes seen) = not (seen == 0)
has_stage _ _ = false

-- it may come after that one: a New keeps the shape, a Spawn names the thread whose number it found
abbrev pub IsNextStage : Shape → ℕ → Stage → Stage → Type 0
IsNextStage s found old (Makes view) = IsStageOf s old → IsStageOf s (Makes view)
IsNextStage s found old (Names n) = (n ≡ found) × (n < THREADS)
IsNextStage s found old (Hands n) = old ≡ Names n
IsNextStage s found old (Begins n) = old ≡ Hands n
IsNextStage s found old _ = Unit {0}

-- ---- turns
-- the instruction may stop with this, where its step found that: with a report only where it makes such reports
abbrev pub MayStop : Shape → Instr → Machine → ℕ → Stop → Type 0
MayStop s i m found (Trapped trap site) = Unit {0}
MayStop s i m found (Conflict c) = (cell : Cell) × (i ≡ check_of c.kind cell c.site)
    × (c.granule ≡ granule_at s (granule_of (place m cell))) × (c.epoch ≡ epoch_of found) × (c.old ≡ found)
MayStop s i m found (NoLock site mutex) =
    ((cell : Cell) × (i ≡ instrs.ChkLock cell site) × (is_of_null m cell ≡ false) × (mutex ≡ word s m cell)
    × (is_held m mutex ≡ false))
    ⊎ ((i ≡ instrs.ChkLockLoaded site) × ((m.pending == 0) ≡ false) × (mutex ≡ cell_word s (cell_of m.pending 0))
    × (is_held m mutex ≡ false))
MayStop s i m found (NotSole site count) = (r : ℕ) × (i ≡ instrs.TestSole r site) × (found ≡ count)

-- it may have this outcome
abbrev pub MayComeOut : Shape → Instr → Machine → ℕ → TurnOutcome → Type 0
MayComeOut s i m found Goes = Unit {0}
MayComeOut s i m found Fails = is_trying i ≡ true
MayComeOut s i m found (Stops stop) = MayStop s i m found stop
MayComeOut s i m found (Stays stage) = (has_stage i stage ≡ true) × IsNextStage s found m.own.stage stage
MayComeOut s i m found (Rested heads) = Unit {0}
MayComeOut s i m found (Notes granule kind note) = (cell : Cell) × (i ≡ check_of kind cell note.site)
    × (granule ≡ granule_at s (granule_of (place m cell))) × (note.epoch ≡ epoch_of found)
MayComeOut s i m found (Logs held) = is_locking i ≡ true
MayComeOut s i m found (Prints print) = is_print i ≡ true
MayComeOut s i m found (Begun function) = is_start i ≡ true
MayComeOut s i m found (Refused function site) = is_start i ≡ true
MayComeOut s i m found Gone = is_exit i ≡ true

-- a failed try and a stop change nothing else
abbrev pub IsStill : TurnOutcome → Machine → Machine → Type 0
IsStill Fails old new = new ≡ fails old
IsStill (Stops stop) old new = new ≡ stopped old stop
IsStill _ old new = Unit {0}

-- the machine has come out of a turn of this instruction; what was loaded last stays, is gone, or is loaded anew
pub record ComesOut (s : Shape) (i : Instr) (found : ℕ) (old new : Machine) : Type 0 where
  pub outcome : TurnOutcome
  pub may : MayComeOut s i old found outcome
  pub own : new.own ≡ own_after outcome old.own
  pub state : new.at.state ≡ state_after outcome
  pub still : IsStill outcome old new
  pub pending : (new.pending ≡ old.pending) ⊎ ((new.pending ≡ 0) ⊎ (is_load i ≡ true))

abbrev pub TurnsComeOut : Type 0
TurnsComeOut = (code : Code) (s : Shape) (i : Instr) (m : Machine) (found : ℕ)
    → ComesOut s i found m (after (act code s i m) found)
