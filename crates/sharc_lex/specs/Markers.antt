-- Line markers, as GCC writes them: which file and line the next line of the source is from.
use Rattle.std.specs.Prelude.{ℕ, ◌+◌, ◌^◌, Bool, ◌==◌, ◌&&◌, ◌||◌, not, nat_le, nat_lt, List, [], ◌∷◌, take, drop}
use Rattle.std.specs.Prelude.{slice_index, Option, Some, None, option_and_then, if◌then◌else◌}
use Rattle.std.specs.List.{prefix_len, list_all}
use Rattle.sharc_lex.specs.{Bytes.{is_blank, is_digit, is_printable, behind}, Numbers.value_behind}

infixl 10 ◌>>=◌
abbrev pub ◌>>=◌ : {A B : Type 0} → Option A → (A → Option B) → Option B
found >>= f = option_and_then f found

-- a printable byte other than a double quote and a backslash
abbrev pub is_name_byte : ℕ → Bool
is_name_byte b = is_printable b && not (b == 34) && not (b == 92)

-- a blank, or a digit from 1 to 4
abbrev pub is_flag : ℕ → Bool
is_flag b = is_blank b || (nat_le 49 b && nat_le b 52)

-- a decimal number of at most 2147483647, and what follows it
abbrev pub line_number : List ℕ → Option (ℕ × List ℕ)
line_number bytes =
    let digits = prefix_len is_digit bytes in
    if digits == 0 then None
    else option_and_then (λ n. if nat_lt n (2 ^ 31) then Some (n, drop digits bytes) else None)
    (value_behind 10 0 (take digits bytes))

-- after a double quote: 1 to 255 bytes of a name, the closing quote, and what follows it
abbrev pub closed_name : List ℕ → Option (List ℕ × List ℕ)
closed_name bytes =
    let len = prefix_len is_name_byte bytes in
    if nat_le 1 len && nat_le len 255 && (slice_index bytes len == 34) then Some (take len bytes, drop (len + 1) bytes)
    else None

abbrev pub file_name : List ℕ → Option (List ℕ × List ℕ)
file_name [] = None
file_name (b ∷ bytes) = if b == 34 then closed_name bytes else None

-- the first byte that is no blank is a `#`
abbrev pub is_marker_line : List ℕ → Bool
is_marker_line line = slice_index line (prefix_len is_blank line) == 35

-- what follows the `#` of a line: blanks, a number, blanks, a name in double quotes, blanks and flags; the line and the
-- file of the next line
abbrev pub marker : List ℕ → Option (ℕ × List ℕ)
marker bytes = do
  number ← line_number (behind is_blank bytes)
  name ← file_name (behind is_blank number.1)
  if list_all is_flag name.1 then Some (number.0, name.0) else None
