-- A source that holds a line of a schedule, or the first of events, has two `%` in a row among its tokens, and so is no program.
use Rattle.sharc_source_laws.proofs.{Imports.{◌≡◌, ℕ, ◌+◌, ◌==◌, Bool, true, false, List, [], ◌∷◌, ◌++◌, drop, Option, Some, None, Result, Ok, Err, ok_or, is_ok, codes, refl, sym, ap, ◌∙◌, subst, if◌then◌else◌, FaultAt, Token, Tokens, TokenFault, LineFault, SourceLine, ◌>>=◌, in_front, lines_of, token, tokens_of, behind_tokens, Read, opening, marked, with_tokens, marker_line, text_line, line_read, with_place, lines_read, tokens_read, reading, is_marker_line, TokenKind, Punctuator, mark, word_of, words_of, schedule_word, ProgramsHoldNoEvents, ProgramsHoldNoSchedule}, Ends.{Apart, program_apart, apart_before, not_twice}, Unsigned.list_of}

-- ---- tokens
abbrev Fine : List Token → Type 0
Fine tokens = Apart (words_of tokens)

words_joined : (xs ys : List Token) → words_of (xs ++ ys) ≡ words_of xs ++ words_of ys
words_joined [] ys = refl
words_joined (x ∷ xs) ys = ap (λ l. word_of x ∷ l) (words_joined xs ys)

fine_before : (xs ys : List Token) → Fine (xs ++ ys) → Fine xs
fine_before xs ys h = apart_before (words_of xs) (words_of ys) (subst Apart (words_joined xs ys) h)

two_in_a_row : (xs ys : List Token) (a b : Token) → word_of a ≡ mark Punctuator.Percent → word_of b ≡ mark Punctuator.Percent → Fine (xs ++ a ∷ b ∷ ys) → ⊥
two_in_a_row xs ys a b p q h =
    not_twice (words_of xs) (words_of ys)
    (subst (λ w. Apart (words_of xs ++ mark Punctuator.Percent ∷ w ∷ words_of ys)) q
    (subst (λ w. Apart (words_of xs ++ w ∷ word_of b ∷ words_of ys)) p
    (subst Apart (words_joined xs (a ∷ b ∷ ys)) h)))

-- ---- what later lines add
abbrev Keeps : {E : Type 0} → Read → Result Read E → Type 0
Keeps read (Ok more) = Fine more.tokens → Fine read.tokens
Keeps read (Err e) = Unit {0}

module _ (read : Read) where
  marker_keeps : (o : Option (ℕ × List ℕ)) (f : LineFault) → Keeps read (ok_or o f >>= λ found. Ok (marked read found))
  marker_keeps None f = tt
  marker_keeps (Some found) f = λ h. h

  text_keeps : (r : Result (List Token) LineFault) → Keeps read (behind_tokens read.tokens r >>= λ tokens. Ok (with_tokens read tokens))
  text_keeps (Ok tokens) = λ h. fine_before read.tokens tokens h
  text_keeps (Err e) = tt

  either_keeps : (b : Bool) (r q : Result Read LineFault) → Keeps read r → Keeps read q → Keeps read (if b then r else q)
  either_keeps true r q h k = h
  either_keeps false r q h k = k

  line_keeps : (offset : ℕ) (line : List ℕ) → Keeps read (line_read read offset line)
  line_keeps offset line = either_keeps (is_marker_line line) (marker_line read offset line) (text_line read offset line) (marker_keeps _ _) (text_keeps (tokens_of read.next 0 offset line))

  placed_keeps : (r : Result Read LineFault) → Keeps read r → Keeps read (with_place read r)
  placed_keeps (Ok more) h = h
  placed_keeps (Err e) h = tt

  joined_keeps : (more : Read) (q : Result Read (FaultAt TokenFault)) → (Fine more.tokens → Fine read.tokens) → Keeps more q → Keeps read q
  joined_keeps more (Ok last) h k = λ f. h (k f)
  joined_keeps more (Err e) h k = tt

  then_keeps : (r : Result Read (FaultAt TokenFault)) (f : Read → Result Read (FaultAt TokenFault)) → Keeps read r → ((more : Read) → Keeps more (f more)) → Keeps read (r >>= f)
  then_keeps (Ok more) f h k = joined_keeps more (f more) h (k more)
  then_keeps (Err e) f h k = tt

lines_keep : (lines : List (List ℕ)) (read : Read) (offset : ℕ) → Keeps read (lines_read read offset lines)
lines_keep [] read offset = λ h. h
lines_keep (line ∷ lines) read offset =
    then_keeps read (with_place read (line_read read offset line)) _ (placed_keeps read (line_read read offset line) (line_keeps read offset line)) (λ more. lines_keep lines more _)

-- ---- a line that begins with two `%` and a letter
abbrev Refuses : {E : Type 0} → Result Read E → Type 0
Refuses (Ok more) = Fine more.tokens → ⊥
Refuses (Err e) = Unit {0}

text_refuses : (read : Read) (a b : Token) → word_of a ≡ mark Punctuator.Percent → word_of b ≡ mark Punctuator.Percent → (r : Result (List Token) LineFault)
    → Refuses (behind_tokens read.tokens ((r >>= λ tokens. Ok (b ∷ tokens)) >>= λ tokens. Ok (a ∷ tokens)) >>= λ tokens. Ok (with_tokens read tokens))
text_refuses read a b p q (Ok tokens) = λ h. two_in_a_row read.tokens tokens a b p q h
text_refuses read a b p q (Err e) = tt

abbrev percent : SourceLine → ℕ → List ℕ → Token
percent place offset bytes = token place offset bytes (record { len = 1; kind = TokenKind.Punctuator Punctuator.Percent })

line_refuses : (read : Read) (offset : ℕ) (tail : List ℕ) → Refuses (line_read read offset (37 ∷ 37 ∷ 115 ∷ tail))
line_refuses read offset tail =
    text_refuses read (percent read.next offset (37 ∷ 37 ∷ 115 ∷ tail)) (percent read.next (offset + 1) (37 ∷ 115 ∷ tail)) refl refl (tokens_of read.next 0 (offset + 1 + 1) (115 ∷ tail))

events_refuse : (read : Read) (offset : ℕ) (tail : List ℕ) → Refuses (line_read read offset (37 ∷ 37 ∷ 101 ∷ tail))
events_refuse read offset tail =
    text_refuses read (percent read.next offset (37 ∷ 37 ∷ 101 ∷ tail)) (percent read.next (offset + 1) (37 ∷ 101 ∷ tail)) refl refl (tokens_of read.next 0 (offset + 1 + 1) (101 ∷ tail))

placed_refuses : (read : Read) (r : Result Read LineFault) → Refuses r → Refuses (with_place read r)
placed_refuses read (Ok more) h = h
placed_refuses read (Err e) h = tt

kept_refuses : (more : Read) (q : Result Read (FaultAt TokenFault)) → (Fine more.tokens → ⊥) → Keeps more q → Refuses q
kept_refuses more (Ok last) h k = λ f. h (k f)
kept_refuses more (Err e) h k = tt

then_refuses : (r : Result Read (FaultAt TokenFault)) (f : Read → Result Read (FaultAt TokenFault)) → Refuses r → ((more : Read) → Keeps more (f more)) → Refuses (r >>= f)
then_refuses (Ok more) f h k = kept_refuses more (f more) h (k more)
then_refuses (Err e) f h k = tt

later_refuses : (r : Result Read (FaultAt TokenFault)) (f : Read → Result Read (FaultAt TokenFault)) → ((more : Read) → Refuses (f more)) → Refuses (r >>= f)
later_refuses (Ok more) f k = k more
later_refuses (Err e) f k = tt

-- so does a source with such a line
abbrev IsRefused : List ℕ → Type 0
IsRefused line = (read : Read) (offset : ℕ) → Refuses (line_read read offset line)

lines_refuse : (front : List (List ℕ)) (bad : List ℕ) (lines : List (List ℕ)) → IsRefused bad → (read : Read) (offset : ℕ) → Refuses (lines_read read offset (front ++ bad ∷ lines))
lines_refuse [] bad lines refused read offset =
    then_refuses (with_place read (line_read read offset bad)) _ (placed_refuses read (line_read read offset bad) (refused read offset)) (λ more. lines_keep lines more _)
lines_refuse (line ∷ front) bad lines refused read offset = later_refuses (with_place read (line_read read offset line)) _ (λ more. lines_refuse front bad lines refused more _)

-- ---- the lines of such a source
-- after a newline come the lines of the rest, and before them one at least
record Behind (lines after : List (List ℕ)) : Type 0 where
  first : List ℕ
  others : List (List ℕ)
  is : lines ≡ first ∷ (others ++ after)

behind_step : (b : ℕ) (newline : Bool) (lines after : List (List ℕ)) → Behind lines after → Behind (if newline then [] ∷ lines else in_front b lines) after
behind_step b true lines after h = record { first = []; others = h.first ∷ h.others; is = ap (λ l. [] ∷ l) h.is }
behind_step b false lines after h = record { first = b ∷ h.first; others = h.others; is = ap (in_front b) h.is }

behind_newline : (before rest : List ℕ) → Behind (lines_of (before ++ 10 ∷ rest)) (lines_of rest)
behind_newline [] rest = record { first = []; others = []; is = refl }
behind_newline (b ∷ before) rest = behind_step b (b == 10) (lines_of (before ++ 10 ∷ rest)) (lines_of rest) (behind_newline before rest)

record Begun (letter : ℕ) (lines : List (List ℕ)) : Type 0 where
  tail : List ℕ
  others : List (List ℕ)
  is : lines ≡ (37 ∷ 37 ∷ letter ∷ tail) ∷ others

begun : (letter : ℕ) (lines : List (List ℕ)) → Begun letter (in_front 37 (in_front 37 (in_front letter lines)))
begun letter [] = record { tail = []; others = []; is = refl }
begun letter (line ∷ lines) = record { tail = line; others = lines; is = refl }

abbrev events_word : List ℕ
events_word = codes "%%events "

-- the bytes of the words, after the first three
begun_schedule : (after : List ℕ) → Begun 115 (lines_of (schedule_word ++ after))
begun_schedule after = begun 115 (lines_of (drop 3 (schedule_word ++ after)))

begun_events : (after : List ℕ) → Begun 101 (lines_of (events_word ++ after))
begun_events after = begun 101 (lines_of (drop 3 (events_word ++ after)))

source_refuses : (letter : ℕ) → ((tail : List ℕ) → IsRefused (37 ∷ 37 ∷ letter ∷ tail)) → (before rest : List ℕ) → Begun letter (lines_of rest) → Refuses (lines_read opening 0 (lines_of (before ++ 10 ∷ rest)))
source_refuses letter refused before rest word =
    let lines = behind_newline before rest in
    subst (λ l. Refuses (lines_read opening 0 l)) (sym (lines.is ∙ ap (λ l. lines.first ∷ (lines.others ++ l)) word.is))
    (lines_refuse (lines.first ∷ lines.others) (37 ∷ 37 ∷ letter ∷ word.tail) word.others (refused word.tail) opening 0)

no_tokens : (r : Result Read (FaultAt TokenFault)) (tokens : Tokens) → Refuses r → (r >>= λ read. Ok (tokens_read read)) ≡ Ok tokens → Fine tokens.list → ⊥
no_tokens (Ok read) tokens refuses e h = refuses (subst Fine (sym (ap list_of e)) h)
no_tokens (Err fault) tokens refuses e h = absurd (let no : false ≡ true = ap is_ok e in cc)

not_read : (source : List ℕ) (tokens : Tokens) → Refuses (lines_read opening 0 (lines_of source)) → reading source ≡ Ok tokens → Fine tokens.list → ⊥
unfolding reading
not_read source tokens refuses read h = no_tokens (lines_read opening 0 (lines_of source)) tokens refuses read h

pub no_schedule : ProgramsHoldNoSchedule
no_schedule source tokens p read reads = λ before after is.
    not_read source tokens (subst (λ s. Refuses (lines_read opening 0 (lines_of s))) (sym is) (source_refuses 115 (λ tail more offset. line_refuses more offset tail) before (schedule_word ++ after) (begun_schedule after))) read
    (subst Apart reads.spelled (program_apart reads.phrases))

pub no_events : ProgramsHoldNoEvents
no_events source tokens p read reads = λ before after is.
    not_read source tokens (subst (λ s. Refuses (lines_read opening 0 (lines_of s))) (sym is) (source_refuses 101 (λ tail more offset. events_refuse more offset tail) before (events_word ++ after) (begun_events after))) read
    (subst Apart reads.spelled (program_apart reads.phrases))
