-- What a fault shows.
use Rattle.std.specs.Prelude.{ℕ, ◌≡◌, List, Result, Err}
use Rattle.sharc_schedule.specs.{declared.file.RecordFile.RecordFile, declared.file.FileFault.FileFault}
use Rattle.sharc_schedule.specs.{declared.file.FileFault.TheVariants.{Line, Memory}, File.{FileView, lines_in, IsFault}}

-- it is the line that the plain reader answers; out of memory shows nothing
abbrev pub PlacesShow : Result (List (ℕ × ℕ)) ℕ → FileFault → Type 0
PlacesShow answer (Line n) = answer ≡ Err n
PlacesShow answer Memory = Unit {0}

-- it is the first line that continues no file
abbrev pub FaultIs : List ℕ → FileFault → Type 0
FaultIs bytes (Line n) = IsFault (lines_in bytes) n
FaultIs bytes Memory = Unit {0}

abbrev pub FileShows : Result FileView ℕ → FileFault → Type 0
FileShows answer (Line n) = answer ≡ Err n
FileShows answer Memory = Unit {0}

-- a file as what it says
abbrev pub view_of : RecordFile → FileView
view_of file = record { source = file.source.items; heap = file.heap; limit = file.limit; places = file.places }
