-- The grammar of tokens. A source is lines. A line whose first byte that is no blank is a `#` is a line marker, which
-- gives the place of the next line; every other line is white space and tokens, each the longest that is there, with
-- their places.
use Rattle.std.specs.Prelude.{◌≡◌, ℕ, ◌+◌, ◌-◌, ◌^◌, ◌<◌, ◌≤◌, ◌==◌, List, [], ◌∷◌, ◌++◌, length, take, drop}
use Rattle.std.specs.Prelude.{slice_index_or, Result, Ok, Err, ok_or, if◌then◌else◌, zero, suc, codes}
use Rattle.std.specs.List.{prefix_len}
use Rattle.sharc_tree.specs.{declared.token.FaultAt.FaultAt, declared.token.Token.Token, declared.token.Tokens.Tokens}
use Rattle.sharc_lex.specs.{declared.fault.TokenFault.TokenFault, declared.fault.SourceLine.SourceLine}
use Rattle.sharc_lex.specs.{declared.fault.LineFault.LineFault}
use Rattle.sharc_lex.specs.{declared.token_at.Lexeme.Lexeme, Bytes.{is_blank, is_white_space}, Faults.text_of}
use Rattle.sharc_lex.specs.{Files.{with_file, place_of}, Markers.{is_marker_line, marker}, TokenAt.token_at}
use Rattle.sharc_lex.specs.declared.fault.TokenFault.TheVariants as fault

infixl 10 ◌>>=◌
abbrev pub ◌>>=◌ : {A B E : Type 0} → Result A E → (A → Result B E) → Result B E
(Ok x) >>= f = f x
(Err e) >>= f = Err e

-- The lines of a source, without the newlines between them. After the last newline there is a line too, which may be
-- empty.
abbrev pub in_front : ℕ → List (List ℕ) → List (List ℕ)
in_front b [] = (b ∷ []) ∷ []
in_front b (line ∷ lines) = (b ∷ line) ∷ lines

abbrev pub lines_of : List ℕ → List (List ℕ)
lines_of [] = [] ∷ []
lines_of (b ∷ bytes) = if b == 10 then [] ∷ lines_of bytes else in_front b (lines_of bytes)

-- the fault of a line at an offset
abbrev pub at_offset : {A : Type 0} → ℕ → Result A TokenFault → Result A LineFault
at_offset offset (Ok x) = Ok x
at_offset offset (Err fault) = Err (record { offset = offset; fault = fault })

-- the token that lies at an offset, at the front of the bytes
abbrev pub token : SourceLine → ℕ → List ℕ → Lexeme → Token
token place offset bytes found = record {
  kind = found.kind;
  text = take found.len bytes;
  from = offset;
  until = offset + found.len;
  file = place.file;
  line = place.line;
}

-- The tokens of a line's bytes, of which the first lies at an offset. This many bytes at the front belong to the token
-- before them.
abbrev pub tokens_of : SourceLine → ℕ → ℕ → List ℕ → Result (List Token) LineFault
tokens_of place taken offset [] = Ok []
tokens_of place (suc taken) offset (b ∷ bytes) = tokens_of place taken (offset + 1) bytes
tokens_of place zero offset (b ∷ bytes) =
    if is_white_space b then tokens_of place 0 (offset + 1) bytes
    else (do
      found ← at_offset offset (token_at b bytes)
      tokens ← tokens_of place (found.len - 1) (offset + 1) bytes
      Ok (token place offset (b ∷ bytes) found ∷ tokens))

-- the tokens of a line after those before it
abbrev pub behind_tokens : List Token → Result (List Token) LineFault → Result (List Token) LineFault
behind_tokens before (Ok tokens) = Ok (before ++ tokens)
behind_tokens before (Err found) = Err found

-- of a line's bytes at an offset this many at the front have been read, which gave the tokens that are new
pub record Steps (old new : List Token) (place : SourceLine) (offset : ℕ) (bytes : List ℕ) (len : ℕ) : Type 0 where
  pub some : 0 < len
  pub within : len ≤ length bytes
  pub read : behind_tokens old (tokens_of place 0 offset bytes)
      ≡ behind_tokens new (tokens_of place 0 (offset + len) (drop len bytes))

-- What lines have said: their tokens, the files that they name in the order of first appearance, the place of the last
-- of them, and the place of the line after them.
pub record Read : Type 0 where
  pub tokens : List Token
  pub files : List (List ℕ)
  pub here : SourceLine
  pub next : SourceLine

-- before the first line: the first file is `input`, and lines are counted from 1
abbrev pub opening : Read
opening = record {
  tokens = [];
  files = with_file [] (codes "input");
  here = record { file = 0; line = 1 };
  next = record { file = 0; line = 1 };
}

-- a line marker gives the place of the next line
abbrev pub marked : Read → (ℕ × List ℕ) → Read
marked read found = record {
  tokens = read.tokens;
  files = with_file read.files found.1;
  here = read.next;
  next = record { file = place_of read.files found.1; line = found.0 };
}

-- every other line gives its tokens, and comes before the next line of the same file
abbrev pub with_tokens : Read → List Token → Read
with_tokens read tokens = record {
  tokens = tokens;
  files = read.files;
  here = read.next;
  next = record { file = read.next.file; line = read.next.line + 1 };
}

abbrev pub marker_line : Read → ℕ → List ℕ → Result Read LineFault
marker_line read offset line =
    let start = prefix_len is_blank line in
    ok_or (marker (drop (start + 1) line))
    (record { offset = offset + start; fault = fault.Marker }) >>= λ found. Ok (marked read found)

abbrev pub text_line : Read → ℕ → List ℕ → Result Read LineFault
text_line read offset line =
    behind_tokens read.tokens (tokens_of read.next 0 offset line) >>= λ tokens. Ok (with_tokens read tokens)

abbrev pub line_read : Read → ℕ → List ℕ → Result Read LineFault
line_read read offset line = if is_marker_line line then marker_line read offset line else text_line read offset line

-- a fault with the place of its line
abbrev pub fault_at : List (List ℕ) → SourceLine → LineFault → FaultAt TokenFault
fault_at files place found = record {
  code = found.fault;
  file = slice_index_or files place.file [];
  line = place.line;
  offset = found.offset;
  text = text_of found.fault;
}

abbrev pub with_place : Read → Result Read LineFault → Result Read (FaultAt TokenFault)
with_place read (Ok more) = Ok more
with_place read (Err found) = Err (fault_at read.files read.next found)

-- lines, of which the first begins at an offset, after what was read before them
abbrev pub lines_read : Read → ℕ → List (List ℕ) → Result Read (FaultAt TokenFault)
lines_read read offset [] = Ok read
lines_read read offset (line ∷ lines) =
    with_place read (line_read read offset line) >>= λ more. lines_read more (offset + length line + 1) lines

-- the end of input is on the last line, and has the number of tokens
abbrev pub tokens_read : Read → Tokens
tokens_read read = record {
  list = read.tokens;
  files = read.files;
  end = record { file = read.here.file; line = read.here.line; token = length read.tokens };
}

-- the tokens of a source, or its first fault
unfoldable pub reading : List ℕ → Result Tokens (FaultAt TokenFault)
reading source = lines_read opening 0 (lines_of source) >>= λ read. Ok (tokens_read read)

-- What stays within the limits, up to an offset: each line has a byte and a newline at least, and names one file at
-- most.
pub record IsWithin (offset : ℕ) (read : Read) : Type 0 where
  pub tokens : length read.tokens ≤ offset
  pub files : length read.files ≤ offset + 1
  pub line : read.next.line ≤ 2 ^ 31 + offset
  pub here : read.here.file < length read.files
  pub next : read.next.file < length read.files
