-- A plain reader of lines.
use Rattle.std.specs.Prelude.{ℕ, ◌+◌, ◌==◌, ◌&&◌, nat_le, List, [], ◌∷◌, ◌++◌, decimal, Option, Some, None, Result, Ok}
use Rattle.std.specs.Prelude.{Err, if◌then◌else◌}
use Rattle.std.specs.{Str.bytes_eq, Str.Parse.digits_value}
use Rattle.sharc_schedule.specs.File.{FileView, schedule_word, text_line}

-- a decimal number in this range, without a leading zero
abbrev pub number_in : ℕ → ℕ → List ℕ → Option ℕ
number_in low high word =
    if bytes_eq (decimal (digits_value 10 word)) word
    && (nat_le low (digits_value 10 word) && nat_le (digits_value 10 word) high) then Some (digits_value 10 word)
    else None

abbrev pub pair_of : Option ℕ → Option ℕ → Option (ℕ × ℕ)
pair_of (Some a) (Some b) = Some (a, b)
pair_of (Some a) None = None
pair_of None b = None

-- up to the first blank, and after it
abbrev pub word_of : List ℕ → List ℕ
word_of [] = []
word_of (b ∷ bytes) = if b == 32 then [] else b ∷ word_of bytes

abbrev pub after_word : List ℕ → List ℕ
after_word [] = []
after_word (b ∷ bytes) = if b == 32 then bytes else after_word bytes

abbrev pub place_read : List ℕ → Option (ℕ × ℕ)
place_read line = pair_of (number_in 0 30 (word_of line)) (number_in 1 4294967295 (after_word line))

abbrev pub numbers_in : List ℕ → Option (ℕ × ℕ)
numbers_in line = pair_of (number_in 16 65536 (word_of line)) (number_in 1 200000 (after_word line))

-- what follows a word at the beginning of a line
abbrev pub rest_after : List ℕ → List ℕ → Option (List ℕ)
rest_after [] line = Some line
rest_after (w ∷ word) [] = None
rest_after (w ∷ word) (b ∷ line) = if b == w then rest_after word line else None

abbrev pub with_place : Option (ℕ × ℕ) → ℕ → Result (List (ℕ × ℕ)) ℕ → Result (List (ℕ × ℕ)) ℕ
with_place None n rest = Err n
with_place (Some place) n (Ok places) = Ok (place ∷ places)
with_place (Some place) n (Err fault) = Err fault

-- the places from line n on
abbrev pub read_places : List (List ℕ) → ℕ → Result (List (ℕ × ℕ)) ℕ
read_places [] n = Err n
read_places (line ∷ lines) n =
    if bytes_eq line text_line then Ok [] else with_place (place_read line) n (read_places lines (n + 1))

abbrev pub with_places : List ℕ → Option (ℕ × ℕ) → ℕ → Result (List (ℕ × ℕ)) ℕ → Result FileView ℕ
with_places source None n rest = Err n
with_places source (Some numbers) n (Ok places) =
    Ok record { source = source; heap = numbers.0; limit = numbers.1; places = places }
with_places source (Some numbers) n (Err fault) = Err fault

abbrev pub at_schedule : Option (List ℕ) → List ℕ → List (List ℕ) → ℕ → Result FileView ℕ → Result FileView ℕ
at_schedule None source lines n rest = rest
at_schedule (Some rest_after) source lines n rest =
    with_places source (numbers_in rest_after) n (read_places lines (n + 1))

-- the source so far, and the lines from line n on
abbrev pub read_source : List ℕ → List (List ℕ) → ℕ → Result FileView ℕ
read_source source [] n = Err n
read_source source (line ∷ lines) n =
    at_schedule (rest_after schedule_word line) source lines n (read_source (source ++ 10 ∷ line) lines (n + 1))

abbrev pub read_lines : List (List ℕ) → Result FileView ℕ
read_lines [] = Err 1
read_lines (first ∷ lines) = read_source first lines 2
