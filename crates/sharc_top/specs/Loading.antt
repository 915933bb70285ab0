-- What `load` writes, and with which status it ends.
use Rattle.std.specs.Prelude.{ℕ, ◌+◌, ◌++◌, ◌<◌, ◌≤◌, List, length, codes, decimal, None}
use Rattle.sharc_load.specs.Source.{source_of}
use Rattle.sharc_top.specs.{declared.ran.RunNumbers.RunNumbers, declared.status.Status.Status, Answers.Answers}
use Rattle.sharc_top.specs.{Limits.source_limit, Text.line}
use Rattle.sharc_top.specs.declared.status.Status.TheVariants as status
use Rattle.sharc_top.specs.declared.task.SourceTask.TheVariants as task

-- the bytes and the functions of a source, each on a line
abbrev pub size_lines : ℕ → ℕ → List ℕ
size_lines bytes functions = line (codes "bytes " ++ decimal bytes) ++ line (codes "functions " ++ decimal functions)

-- what `run` is given by default, but for the workers
abbrev pub load_numbers : ℕ → RunNumbers
load_numbers workers = record { workers = workers; granules = 4096; events = 1000000; seed = None }

-- the size of the source of this number, and then what `run` writes for it
pub data LoadReplies (number workers : ℕ) : Status → List ℕ → Type 0 where
  long : source_limit < length (source_of number)
      → LoadReplies number workers status.SourceRefused (line (codes "source over 1048576 bytes"))
  loaded : (s : Status) (text : List ℕ) → length (source_of number) ≤ source_limit
      → Answers (task.Run (load_numbers workers)) (source_of number) s text
      → LoadReplies number workers s (size_lines (length (source_of number)) (number + 2) ++ text)
