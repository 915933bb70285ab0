-- Which run the words of a command and its input ask for, and what is written of it.
use Rattle.std.specs.Prelude.{◌≡◌, ℕ, ◌+◌, ◌≤◌, List, ◌++◌, length, Option, Some, None}
use Rattle.sharc_code.specs.{declared.code.Code.Code, declared.shape.Shape.Shape, Runs.Turn}
use Rattle.sharc_seq.specs.Run.{AreChosen}
use Rattle.sharc_schedule.specs.{Schedule.{Stored, schedule_of}, File.{FileView, IsFile, written}}
use Rattle.sharc_cli.specs.{Commands.commands, declared.command.Command.TheVariants.{Load, Record, Replay, Run}}
use Rattle.sharc_load.specs.Source.{source_of}
use Rattle.sharc_run.specs.Run.{draws}
use Rattle.sharc_top.specs.{Limits.{recording_limit, source_limit}, Loading.size_lines}

-- ---- whose turn is next
-- the turns are those that a seed draws, or those that a schedule chooses, or any
pub data Choice : Type 0 where
  Drawn : ℕ → Choice
  Scheduled : List (ℕ × ℕ) → Choice
  Any : Choice

abbrev pub choice_of : Option ℕ → Choice
choice_of (Some seed) = Drawn seed
choice_of None = Any

-- with at most so many events of each thread
abbrev pub AreTurnsBy : Choice → Code → Shape → (limit : ℕ) → List Turn → Type 0
AreTurnsBy (Drawn seed) code s limit turns = AreChosen (draws seed) code s limit turns
AreTurnsBy (Scheduled places) code s limit turns = AreChosen (Stored places) code s limit turns
AreTurnsBy Any code s limit turns = Unit {0}

-- ---- what is written
-- the text of the run; that behind some lines; or a recorded file with it
pub data Form : Type 0 where
  Alone : Form
  Behind : List ℕ → Form
  InFile : Form

-- ---- the order
-- a run of the code of this source, with a heap of so many granules
pub record Order : Type 0 where
  pub source : List ℕ
  pub heap : ℕ
  pub limit : ℕ
  pub choice : Choice
  pub form : Form

-- what is written of such a run with this text
abbrev pub written_of : Order → Form → Code → Shape → List Turn → List ℕ → List ℕ
written_of o Alone code s turns text = text
written_of o (Behind lines) code s turns text = lines ++ text
written_of o InFile code s turns text = written
    (record { source = o.source; heap = o.heap; limit = o.limit; places = schedule_of code s o.limit turns }) text

-- ---- which words ask for it
pub data Asks (words : List (List ℕ)) (input : List ℕ) : Order → Type 0 where
  by_run : (workers heap limit : ℕ) (seed : Option ℕ) → commands words ≡ Some (Run workers heap limit seed)
      → length input ≤ source_limit
      → Asks words input (record { source = input; heap = heap; limit = limit; choice = choice_of seed; form = Alone })
  by_load : (number workers : ℕ) → commands words ≡ Some (Load number workers)
      → length (source_of number) ≤ source_limit
      → Asks words input (record {
        source = source_of number;
        heap = 4096;
        limit = 1000000;
        choice = Any;
        form = Behind (size_lines (length (source_of number)) (number + 2));
      })
  by_record : (workers heap limit : ℕ) → commands words ≡ Some (Record workers heap limit) → length input ≤ source_limit
      → Asks words input (record { source = input; heap = heap; limit = limit; choice = Any; form = InFile })
  by_replay : (file : FileView) → commands words ≡ Some Replay → length input ≤ recording_limit → IsFile input file
      → length file.source ≤ source_limit
      → Asks words input (record {
        source = file.source;
        heap = file.heap;
        limit = file.limit;
        choice = Scheduled file.places;
        form = Alone;
      })
