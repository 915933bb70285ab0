-- Laws of recorded files, for the crates above.
use Rattle.std.specs.Prelude.{ℕ, ◌≡◌, ◌≤◌, List, length, Ok, Err}
use Rattle.sharc_schedule.specs.File.{FileView, AreLinesOf, IsFile, IsFault, AreNumbers, ArePlaces, HoldsNoSchedule}
use Rattle.sharc_schedule.specs.File.{written}
use Rattle.sharc_schedule.specs.Reading.{read_lines}

-- the reader answers what the lines say
abbrev pub ReadsFiles : Type 0
ReadsFiles = (lines : List (List ℕ)) (file : FileView) → read_lines lines ≡ Ok file → AreLinesOf lines file

abbrev pub ReadsAll : Type 0
ReadsAll = (lines : List (List ℕ)) (file : FileView) → AreLinesOf lines file → read_lines lines ≡ Ok file

-- and else the first line that continues no file
abbrev pub ReadsFaults : Type 0
ReadsFaults = (lines : List (List ℕ)) (n : ℕ) → read_lines lines ≡ Err n → IsFault lines n

-- lines say one thing
abbrev pub FilesSayOneThing : Type 0
FilesSayOneThing = (bytes : List ℕ) (one other : FileView) → IsFile bytes one → IsFile bytes other → one ≡ other

-- what was written is read
abbrev pub WrittenIsRead : Type 0
WrittenIsRead = (file : FileView) (text : List ℕ) → HoldsNoSchedule file.source → AreNumbers file.heap file.limit
    → ArePlaces file.places → IsFile (written file text) file

-- a file has no more places than bytes
abbrev pub PlacesAreFew : Type 0
PlacesAreFew = (bytes : List ℕ) (file : FileView) → IsFile bytes file → length file.places ≤ length bytes

pub record FileLaws : Type 0 where
  pub reads : ReadsFiles
  pub all : ReadsAll
  pub faults : ReadsFaults
  pub one : FilesSayOneThing
  pub again : WrittenIsRead
  pub few : PlacesAreFew
