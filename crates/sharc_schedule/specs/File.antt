-- The grammar of recorded files: a source, a newline, the line of the schedule with the number of heap granules and the
-- limit of events, a line for each place with its number of turns, the line of the text, and any bytes.
use Rattle.std.specs.Prelude.{ℕ, ◌≡◌, ◌≢◌, ◌≤◌, ◌+◌, ◌-◌, ◌==◌, List, [], ◌∷◌, ◌++◌, map, codes, decimal, length, take}
use Rattle.std.specs.Prelude.{if◌then◌else◌}

-- the lines of bytes; one that the end cuts is a whole line
abbrev pub begin_with : ℕ → List (List ℕ) → List (List ℕ)
begin_with b [] = (b ∷ []) ∷ []
begin_with b (line ∷ lines) = (b ∷ line) ∷ lines

abbrev pub lines_in : List ℕ → List (List ℕ)
lines_in [] = []
lines_in (b ∷ bytes) = if b == 10 then [] ∷ lines_in bytes else begin_with b (lines_in bytes)

-- what a recorded file says
pub record FileView : Type 0 where
  pub source : List ℕ
  pub heap : ℕ
  pub limit : ℕ
  pub places : List (ℕ × ℕ)

-- ---- its lines
abbrev pub schedule_word : List ℕ
schedule_word = codes "%%schedule "

abbrev pub schedule_line : ℕ → ℕ → List ℕ
schedule_line heap limit = schedule_word ++ decimal heap ++ 32 ∷ decimal limit

abbrev pub place_line : ℕ × ℕ → List ℕ
place_line place = decimal place.0 ++ 32 ∷ decimal place.1

abbrev pub text_line : List ℕ
text_line = codes "%%text"

-- lines joined by newlines
abbrev pub joined_by : List ℕ → List (List ℕ) → List ℕ
joined_by first [] = first
joined_by first (next ∷ lines) = first ++ 10 ∷ joined_by next lines

-- the line begins the schedule
abbrev pub Begins : List ℕ → List ℕ → Type 0
Begins word line = (rest : List ℕ) × (line ≡ word ++ rest)

abbrev pub NoneBegins : List (List ℕ) → Type 0
NoneBegins [] = Unit {0}
NoneBegins (line ∷ lines) = (¬ Begins schedule_word line) × NoneBegins lines

-- ---- ranges
abbrev pub IsPlace : ℕ × ℕ → Type 0
IsPlace place = (place.0 ≤ 30) × (1 ≤ place.1) × (place.1 ≤ 4294967295)

abbrev pub ArePlaces : List (ℕ × ℕ) → Type 0
ArePlaces [] = Unit {0}
ArePlaces (place ∷ places) = IsPlace place × ArePlaces places

pub record AreNumbers (heap limit : ℕ) : Type 0 where
  pub least : 16 ≤ heap
  pub most : heap ≤ 65536
  pub some : 1 ≤ limit
  pub few : limit ≤ 200000

-- ---- a file
-- these lines are those of a file that says this. The source has a line at least, and no line after its first begins a
-- schedule
pub record AreLinesOf (lines : List (List ℕ)) (file : FileView) : Type 0 where
  pub first : List ℕ
  pub others : List (List ℕ)
  pub text : List (List ℕ)
  pub lines_are : lines
      ≡ (first ∷ others) ++ schedule_line file.heap file.limit ∷ (map place_line file.places ++ text_line ∷ text)
  pub source_is : file.source ≡ joined_by first others
  pub others_are : NoneBegins others
  pub numbers : AreNumbers file.heap file.limit
  pub places : ArePlaces file.places

abbrev pub IsFile : List ℕ → FileView → Type 0
IsFile bytes file = AreLinesOf (lines_in bytes) file

-- ---- which line is at fault
-- some file begins with these lines
abbrev pub Continues : List (List ℕ) → Type 0
Continues lines = (more : List (List ℕ)) × (file : FileView) × AreLinesOf (lines ++ more) file

-- line n is the first that continues no file; the end counts as a line
pub record IsFault (lines : List (List ℕ)) (n : ℕ) : Type 0 where
  pub some : 1 ≤ n
  pub within : n ≤ length lines + 1
  pub before : Continues (take (n - 1) lines)
  pub here : n ≤ length lines → ¬ Continues (take n lines)
  pub none : (file : FileView) → ¬ AreLinesOf lines file

-- ---- writing
-- no newline of the source is followed by the word of the schedule
abbrev pub HoldsNoSchedule : List ℕ → Type 0
HoldsNoSchedule source = (before after : List ℕ) → source ≢ before ++ 10 ∷ (schedule_word ++ after)

abbrev pub places_text : List (ℕ × ℕ) → List ℕ
places_text [] = []
places_text (place ∷ places) = place_line place ++ 10 ∷ places_text places

abbrev pub written : FileView → List ℕ → List ℕ
written file text = file.source ++ 10
    ∷ (schedule_line file.heap file.limit ++ 10 ∷ (places_text file.places ++ (text_line ++ 10 ∷ text)))
