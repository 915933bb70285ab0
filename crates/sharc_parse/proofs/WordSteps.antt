-- The machine's steps over the first words of statements.
use Rattle.sharc_parse.proofs.{Imports.{◌≡◌, ℕ, ◌+◌, ◌≤◌, ◌<◌, List, [], ◌∷◌, Some, None, refl, ap, ◌∙◌, arith, true, false, lt-leb, le-leb, Keyword, OpenParenthesis, CloseParenthesis, OpenBrace, CloseBrace, Word, keyword, mark, Phrase, Outer, inside, as_statement, Asked, condition, part, Want, Have, Start, an_open, At, leave, asked, start, grip, StuckAt, Over, next_within, reads_within, around_it, over, StatementWord, If, While, For, Return, Break, Continue, NotAt, IsAt, line_within, statement_word, room_of, NoStatement, after_word}, Steps.{passes, fixed_goes, deep}, RightSteps.ends_place}

start_step : (w : StatementWord) (o : Outer) → start o (statement_word w) ≡ Some (after_word w o)
start_step If o = refl
start_step _ o = refl

word_fine : (w : StatementWord) (o : Outer) (room : ℕ) → around_it o + room ≡ 64 → room_of w ≤ room → over (after_word w o) ≡ false
word_fine Return o room e h = lt-leb 64 (around_it o) (omega (arith, e, h))
word_fine Break o room e h = lt-leb 64 (around_it o) (omega (arith, e, h))
word_fine Continue o room e h = lt-leb 64 (around_it o) (omega (arith, e, h))
word_fine _ o room e h = lt-leb 63 (around_it o) (omega (arith, e, h))

word_deep : (w : StatementWord) (o : Outer) (room : ℕ) → around_it o + room ≡ 64 → room < room_of w → over (after_word w o) ≡ true
word_deep Return o room e h = le-leb 64 (around_it o) (omega (arith, e, h))
word_deep Break o room e h = le-leb 64 (around_it o) (omega (arith, e, h))
word_deep Continue o room e h = le-leb 64 (around_it o) (omega (arith, e, h))
word_deep _ o room e h = le-leb 63 (around_it o) (omega (arith, e, h))

pub word_goes : (w : StatementWord) (o : Outer) (room : ℕ) (y : List Word) → around_it o + room ≡ 64 → room_of w ≤ room → reads_within (statement_word w ∷ y) (At [] (Start o)) ≡ reads_within y (after_word w o)
word_goes w o room y e h = ap (λ n. next_within n (λ s. reads_within y s) (statement_word w ∷ y)) (start_step w o) ∙ passes (after_word w o) y (statement_word w ∷ y) (word_fine w o room e h)

pub word_over : (w : StatementWord) (o : Outer) (room : ℕ) (ts : List Word) → IsAt (statement_word w) ts → around_it o + room ≡ 64 → room < room_of w → reads_within ts (At [] (Start o)) ≡ Over ts
word_over w o room ts a e h = deep (Start o) (statement_word w) (after_word w o) ts a (start_step w o) (word_deep w o room e h)

-- any other statement is a line
pub line_there : (o : Outer) (ts : List Word) → NoStatement ts → NotAt (mark OpenBrace) ts → NotAt (mark CloseBrace) ts → reads_within ts (At [] (Start o)) ≡ line_within as_statement o ts
line_there o (keyword Keyword.If ∷ y) h a b = absurd (h If refl)
line_there o (keyword Keyword.While ∷ y) h a b = absurd (h While refl)
line_there o (keyword Keyword.For ∷ y) h a b = absurd (h For refl)
line_there o (keyword Keyword.Return ∷ y) h a b = absurd (h Return refl)
line_there o (keyword Keyword.Break ∷ y) h a b = absurd (h Break refl)
line_there o (keyword Keyword.Continue ∷ y) h a b = absurd (h Continue refl)
line_there o (mark OpenBrace ∷ y) h a b = absurd (a refl)
line_there o (mark CloseBrace ∷ y) h a b = absurd (b refl)
line_there o _ h a b = refl

-- conditions

pub condition_opens : (q : Asked) (o : Outer) (y : List Word) → around_it o < 63 → reads_within (mark OpenParenthesis ∷ y) (At (an_open ∷ []) (Want (part (condition q) o))) ≡ reads_within y (At [] (Want (part (condition q) o)))
condition_opens q o y h = fixed_goes an_open [] (Want (part (condition q) o)) y (lt-leb 63 (around_it o) h)

pub condition_ends : (q : Asked) (o : Outer) (x : Phrase) (ts y : List Word) → ts ≡ mark CloseParenthesis ∷ y → around_it o < 63 → reads_within ts (At [] (Have x (part (condition q) o))) ≡ reads_within y (At [] (Start (inside (asked q x) o)))
condition_ends q o x ts y e h =
    ap (λ ts. reads_within ts (At [] (Have x (part (condition q) o)))) e
    ∙ ends_place (condition q) o x (mark CloseParenthesis) y (omega arith)
    ∙ passes (At [] (Start (inside (asked q x) o))) y (mark CloseParenthesis ∷ y) (lt-leb 63 (around_it o) h)

condition_no : (q : Asked) (o : Outer) (x : Phrase) (t : Word) → (t ≡ mark CloseParenthesis → ⊥) → leave (condition q) x o t ≡ None
condition_no q o x (mark CloseParenthesis) n = absurd (n refl)
condition_no q o x _ n = refl

pub condition_stuck : (q : Asked) (o : Outer) (x : Phrase) (ts : List Word) → grip ts < 1 → NotAt (mark CloseParenthesis) ts → reads_within ts (At [] (Have x (part (condition q) o))) ≡ StuckAt ts
condition_stuck q o x [] g n = refl
condition_stuck q o x (t ∷ y) g n = ends_place (condition q) o x t y g ∙ ap (λ v. next_within v (λ s. reads_within y s) (t ∷ y)) (condition_no q o x t n)
