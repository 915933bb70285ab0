-- What the words of a part of a program leave to the words that follow: what holds of each word holds of those; and if no
-- two `%` follow one another among those, none do with the part before them.
use Rattle.sharc_source_laws.proofs.Imports.{◌≡◌, ℕ, pos, zero, suc, ◌+◌, Bool, true, false, List, [], ◌∷◌, Option, Some, None, subst, slice_get, Number, Site, Span, Base, Constant, GlobalDefinition, GlobalForm, Initial, PlaceCall, ValueCall, globals_in, Word, name, keyword, mark, number, Sharing, locked, locked_through, Typing, Declaring, sharing_words, level_words, base_words, bottom_words, levels_words, list_words, type_words, declaring_words, Front, parenthesis, of_spawn, of_value, of_place, of_cast, front_words, Phrase, enclosed, call, index, field, unary, binary, Phrases, none, more, operator_mark, access_mark, constant_word, words, words_of_all, words_of_rest, Value, value, malloc, Doing, assign, invoke, Line, nothing, does, declares, Loop, Sentence, line, jump, return, block, under, Sentences, no_more, sentence, Opening, if_of, else_of, while_of, for_of, option_words, count_words, value_words, doing_words, initial_words, line_words, step_words, loop_words, written, written_all, opening_words, Form, single, array, initially, Part, structure, global, function, sign_words, form_words, fields_words, further_words, parameters_words, part_words, program_words, declaring_size, part_size, span_at, form_at, items_at, IsHeld, ◌&&◌, ◌++◌, refl, OpenParenthesis, CloseParenthesis, OpenBrace, CloseBrace, OpenBracket, CloseBracket, Semicolon, Comma, Assign, Star, Percent, FieldOperator, BinaryOperator, UnaryOperator, Not, Jump, Keyword, identifier, constant, unary_mark, jump_word}
use Rattle.sharc_parse.specs.Grammar.{character}

-- a number has no sign
abbrev pub IsUnsigned : Number → Type 0
IsUnsigned k = (n : ℕ) × (k.value ≡ pos n)

-- and the types of numbers and characters hold their values
abbrev pub IsPlainWord : Word → Type 0
IsPlainWord (number k) = IsUnsigned k × IsHeld (Constant.Number k)
IsPlainWord (character byte) = IsHeld (Constant.Character byte)
IsPlainWord _ = Unit {0}

-- so it is of all words
abbrev pub Plainly : List Word → Type 0
Plainly [] = Unit {0}
Plainly (w ∷ y) = IsPlainWord w × Plainly y

abbrev pub is_percent : Word → Bool
is_percent (mark Percent) = true
is_percent _ = false

abbrev pub starts : List Word → Bool
starts [] = false
starts (w ∷ y) = is_percent w

-- no two `%` follow one another
abbrev pub Apart : List Word → Type 0
Apart [] = Unit {0}
Apart (w ∷ y) = ((is_percent w && starts y) ≡ false) × Apart y

pub record Ends (all y : List Word) : Type 0 where
  pub behind : Plainly all → Plainly y
  pub apart : Apart y → Apart all

-- and the first word is no `%`
abbrev pub Opens : List Word → List Word → Type 0
Opens all y = (starts all ≡ false) × Ends all y

pub past : {all y : List Word} → Ends all y → Plainly all → Plainly y
past w h = w.behind h

same : {y : List Word} → Ends y y
same = record { behind = λ h. h; apart = λ h. h }

word : {w : Word} {all y : List Word} → (is_percent w && starts all) ≡ false → Ends all y → Ends (w ∷ all) y
word e v = record { behind = λ h. v.behind h.1; apart = λ h. (e, v.apart h) }

two : {a b c : List Word} → Ends a b → Ends b c → Ends a c
two v w = record { behind = λ h. w.behind (v.behind h); apart = λ h. v.apart (w.apart h) }

-- ---- types
sharing_ends : (s : Sharing) (y : List Word) → Ends (sharing_words s y) y
sharing_ends (locked m) y = word refl (word refl (word refl (word refl same)))
sharing_ends (locked_through x m) y = word refl (word refl (word refl (word refl (word refl (word refl same)))))
sharing_ends _ y = word refl same

level_ends : (s : Option Sharing) (y : List Word) → Ends (level_words s y) y
level_ends None y = same
level_ends (Some s) y = sharing_ends s y

base_ends : (b : Base) (y : List Word) → Ends (base_words b y) y
base_ends (Base.Struct n) y = word refl (word refl same)
base_ends _ y = word refl same

bottom_ends : (first : Bool) (b : Base) (m : Option Sharing) (y : List Word) → Ends (bottom_words first b m y) y
bottom_ends true b m y = two (level_ends m (base_words b y)) (base_ends b y)
bottom_ends false b m y = two (base_ends b (level_words m y)) (level_ends m y)

levels_end : (first : Bool) (b : Base) (m : Option Sharing) (below : List (Option Sharing)) (y : List Word) → Ends (levels_words first b m below y) y
levels_end first b m [] y = bottom_ends first b m y
levels_end first b m (n ∷ below) y = two (levels_end first b n below (mark Star ∷ level_words m y)) (word refl (level_ends m y))

list_ends : (first : Bool) (b : Base) (levels : List (Option Sharing)) (y : List Word) → Ends (list_words first b levels y) y
list_ends first b [] y = same
list_ends first b (m ∷ below) y = levels_end first b m below y

pub type_ends : (t : Typing) (y : List Word) → Ends (type_words t y) y
type_ends t y = list_ends t.mode_first t.base t.levels y

pub declaring_ends : (d : Declaring) (y : List Word) → Ends (declaring_words d y) y
declaring_ends d y = two (type_ends d.typing (name d.named ∷ y)) (word refl same)

-- ---- expressions
front_opens : (f : Front) (y : List Word) → Opens (front_words f y) y
front_opens parenthesis y = (refl, word refl same)
front_opens (of_spawn f) y = (refl, word refl (word refl (word refl (word refl same))))
front_opens (of_value ValueCall.Join) y = (refl, word refl (word refl same))
front_opens (of_place PlaceCall.Lock) y = (refl, word refl (word refl (word refl same)))
front_opens (of_place PlaceCall.Unlock) y = (refl, word refl (word refl (word refl same)))
front_opens (of_cast t) y = (refl, word refl (word refl (two (type_ends t (mark Comma ∷ y)) (word refl same))))
front_opens _ y = (refl, word refl (word refl same))

pub front_ends : (f : Front) (y : List Word) → Ends (front_words f y) y
front_ends f y = (front_opens f y).1

constant_opens : (c : Constant) (y : List Word) → Opens (constant_word c ∷ y) y
constant_opens (Constant.Number n) y = (refl, word refl same)
constant_opens _ y = (refl, word refl same)

access_ends : (w : FieldOperator) (y : List Word) → Ends (mark (access_mark w) ∷ y) y
access_ends FieldOperator.Dot y = word refl same
access_ends FieldOperator.Arrow y = word refl same

unary_opens : (o : UnaryOperator) (y : List Word) → Opens (mark (unary_mark o) ∷ y) y
unary_opens Not y = (refl, word refl same)
unary_opens _ y = (refl, word refl same)

-- an operand does not begin with `%`
operator_ends : (o : BinaryOperator) (y : List Word) → starts y ≡ false → Ends (mark (operator_mark o) ∷ y) y
operator_ends BinaryOperator.Remainder y e = word e same
operator_ends _ y e = word refl same

mutual
  words_open : (a : Phrase) (y : List Word) → Opens (words a y) y
  words_open (identifier n) y = (refl, word refl same)
  words_open (constant c) y = constant_opens c y
  words_open (enclosed f a) y =
      let v = front_opens f (words a (mark CloseParenthesis ∷ y)) in
      (v.0, two v.1 (two (words_open a (mark CloseParenthesis ∷ y)).1 (word refl same)))
  words_open (call f all) y = (refl, word refl (word refl (two (all_end all (mark CloseParenthesis ∷ y)) (word refl same))))
  words_open (index a i) y =
      let v = words_open a (mark OpenBracket ∷ words i (mark CloseBracket ∷ y)) in
      (v.0, two v.1 (word refl (two (words_open i (mark CloseBracket ∷ y)).1 (word refl same))))
  words_open (field a w n) y =
      let v = words_open a (mark (access_mark w) ∷ (name n ∷ y)) in
      (v.0, two v.1 (two (access_ends w (name n ∷ y)) (word refl same)))
  words_open (unary o a) y =
      let v = unary_opens o (words a y) in
      (v.0, two v.1 (words_open a y).1)
  words_open (binary o a b) y =
      let v = words_open a (mark (operator_mark o) ∷ words b y) in
      let w = words_open b y in
      (v.0, two v.1 (two (operator_ends o (words b y) w.0) w.1))

  all_end : (all : Phrases) (y : List Word) → Ends (words_of_all all y) y
  all_end none y = same
  all_end (more a rest) y = two (words_open a (words_of_rest rest y)).1 (rest_end rest y)

  rest_end : (rest : Phrases) (y : List Word) → Ends (words_of_rest rest y) y
  rest_end none y = same
  rest_end (more a rest) y = word refl (two (words_open a (words_of_rest rest y)).1 (rest_end rest y))

pub words_end : (a : Phrase) (y : List Word) → Ends (words a y) y
words_end a y = (words_open a y).1

-- ---- statements
pub option_ends : (e : Option Phrase) (y : List Word) → Ends (option_words e y) y
option_ends None y = same
option_ends (Some e) y = words_end e y

count_ends : (e : Option Phrase) (y : List Word) → Ends (count_words e y) y
count_ends None y = same
count_ends (Some e) y = two (words_end e (mark Star ∷ y)) (word refl same)

value_ends : (v : Value) (y : List Word) → Ends (value_words v y) y
value_ends (value e) y = words_end e y
value_ends (malloc n t) y =
    let type_end = type_ends t (mark CloseParenthesis ∷ (mark CloseParenthesis ∷ y)) in
    word refl (word refl (two (count_ends n (keyword Keyword.Sizeof ∷ (mark OpenParenthesis ∷ type_words t (mark CloseParenthesis ∷ (mark CloseParenthesis ∷ y))))) (word refl (word refl (two type_end (word refl (word refl same)))))))

doing_ends : (d : Doing) (y : List Word) → Ends (doing_words d y) y
doing_ends (assign u r) y = two (words_end u (mark Assign ∷ value_words r y)) (word refl (value_ends r y))
doing_ends (invoke e) y = words_end e y

initial_ends : (v : Option Value) (y : List Word) → Ends (initial_words v y) y
initial_ends None y = same
initial_ends (Some r) y = word refl (value_ends r y)

pub line_ends : (l : Line) (y : List Word) → Ends (line_words l y) y
line_ends nothing y = word refl same
line_ends (does x) y = two (doing_ends x (mark Semicolon ∷ y)) (word refl same)
line_ends (declares l) y = two (declaring_ends l.declaring (initial_words l.initial (mark Semicolon ∷ y))) (two (initial_ends l.initial (mark Semicolon ∷ y)) (word refl same))

step_ends : (d : Option Doing) (y : List Word) → Ends (step_words d y) y
step_ends None y = same
step_ends (Some x) y = doing_ends x y

pub loop_ends : (l : Loop) (y : List Word) → Ends (loop_words l y) y
loop_ends l y =
    let step = two (step_ends l.step (mark CloseParenthesis ∷ y)) (word refl same) in
    let test = two (option_ends l.test (mark Semicolon ∷ step_words l.step (mark CloseParenthesis ∷ y))) (word refl step) in
    word refl (word refl (two (line_ends l.first (option_words l.test (mark Semicolon ∷ step_words l.step (mark CloseParenthesis ∷ y)))) test))

jump_ends : (j : Jump) (y : List Word) → Ends (jump_word j ∷ y) y
jump_ends Jump.Break y = word refl same
jump_ends Jump.Continue y = word refl same

mutual
  pub written_ends : (s : Sentence) (y : List Word) → Ends (written s y) y
  written_ends (line l) y = line_ends l y
  written_ends (jump j) y = two (jump_ends j (mark Semicolon ∷ y)) (word refl same)
  written_ends (return e) y = word refl (two (option_ends e (mark Semicolon ∷ y)) (word refl same))
  written_ends (block all) y = word refl (two (sentences_end all (mark CloseBrace ∷ y)) (word refl same))
  written_ends (under w s) y = two (opening_ends w (written s y)) (written_ends s y)

  sentences_end : (all : Sentences) (y : List Word) → Ends (written_all all y) y
  sentences_end no_more y = same
  sentences_end (sentence s rest) y = two (written_ends s (written_all rest y)) (sentences_end rest y)

  opening_ends : (w : Opening) (y : List Word) → Ends (opening_words w y) y
  opening_ends (if_of e) y = word refl (word refl (two (words_end e (mark CloseParenthesis ∷ y)) (word refl same)))
  opening_ends (else_of e s) y =
      word refl (word refl (two (words_end e (mark CloseParenthesis ∷ written s (keyword Keyword.Else ∷ y))) (word refl (two (written_ends s (keyword Keyword.Else ∷ y)) (word refl same)))))
  opening_ends (while_of e) y = word refl (word refl (two (words_end e (mark CloseParenthesis ∷ y)) (word refl same)))
  opening_ends (for_of l) y = loop_ends l y

-- ---- programs
sign_ends : (negative : Bool) (y : List Word) → Ends (sign_words negative y) y
sign_ends true y = word refl same
sign_ends false y = same

form_ends : (f : Form) (y : List Word) → Ends (form_words f y) y
form_ends single y = same
form_ends (array n) y = word refl (word refl (word refl same))
form_ends (initially negative c) y = word refl (two (sign_ends negative (constant_word c ∷ y)) (constant_opens c y).1)

fields_end : (ds : List Declaring) (y : List Word) → Ends (fields_words ds y) y
fields_end [] y = same
fields_end (d ∷ rest) y = two (declaring_ends d (mark Semicolon ∷ fields_words rest y)) (word refl (fields_end rest y))

further_end : (ds : List Declaring) (y : List Word) → Ends (further_words ds y) y
further_end [] y = same
further_end (d ∷ rest) y = word refl (two (declaring_ends d (further_words rest y)) (further_end rest y))

pub parameters_end : (ds : List Declaring) (y : List Word) → Ends (parameters_words ds y) y
parameters_end [] y = word refl same
parameters_end (d ∷ rest) y = two (declaring_ends d (further_words rest y)) (further_end rest y)

pub part_ends : (p : Part) (y : List Word) → Ends (part_words p y) y
part_ends (structure n fields) y = word refl (word refl (word refl (two (fields_end fields (mark CloseBrace ∷ (mark Semicolon ∷ y))) (word refl (word refl same)))))
part_ends (global d form) y = two (declaring_ends d (form_words form (mark Semicolon ∷ y))) (two (form_ends form (mark Semicolon ∷ y)) (word refl same))
part_ends (function f) y =
    let body = two (sentences_end f.body (mark CloseBrace ∷ y)) (word refl same) in
    let parameters = two (parameters_end f.parameters (mark CloseParenthesis ∷ (mark OpenBrace ∷ written_all f.body (mark CloseBrace ∷ y)))) (word refl (word refl body)) in
    two (type_ends f.result (name f.named ∷ (mark OpenParenthesis ∷ parameters_words f.parameters (mark CloseParenthesis ∷ (mark OpenBrace ∷ written_all f.body (mark CloseBrace ∷ y))))))
    (word refl (word refl parameters))

pub program_apart : (ps : List Part) → Apart (program_words ps [])
program_apart [] = tt
program_apart (p ∷ rest) = (part_ends p (program_words rest [])).apart (program_apart rest)

-- ---- what is not apart
front_off : (b : Bool) (xs ys : List Word) → (b && starts (xs ++ ys)) ≡ false → (b && starts xs) ≡ false
front_off true [] ys h = refl
front_off true (x ∷ xs) ys h = h
front_off false xs ys h = refl

pub apart_before : (xs ys : List Word) → Apart (xs ++ ys) → Apart xs
apart_before [] ys h = tt
apart_before (x ∷ xs) ys h = (front_off (is_percent x) xs ys h.0, apart_before xs ys h.1)

pub not_twice : (xs ys : List Word) → Apart (xs ++ mark Percent ∷ mark Percent ∷ ys) → ⊥
not_twice [] ys h = absurd (let e : true ≡ false = h.0 in cc)
not_twice (x ∷ xs) ys h = not_twice xs ys h.1

-- ---- where globals begin
abbrev Begins : GlobalForm → Type 0
Begins (Initial span minus (Constant.Number k)) = IsUnsigned k
Begins _ = Unit {0}

constant_begins : (c : Constant) (span : Span) (minus : Bool) → IsPlainWord (constant_word c) → Begins (Initial span minus c)
constant_begins (Constant.Number k) span minus h = h.0
constant_begins _ span minus h = tt

form_begins : (s : ℕ → Site) (n : ℕ) (f : Form) (y : List Word) → Plainly (form_words f y) → Begins (form_at s n f)
form_begins s n (initially true c) y h = constant_begins c (span_at s (n + 1) 2) true h.1.1.0
form_begins s n (initially false c) y h = constant_begins c (span_at s (n + 1) 1) false h.1.0
form_begins s n _ y h = tt

abbrev AllBegin : List GlobalDefinition → Type 0
AllBegin gs = (n : ℕ) (d : GlobalDefinition) → slice_get gs n ≡ Some d → Begins d.form

one_more : (g : GlobalDefinition) (gs : List GlobalDefinition) → Begins g.form → AllBegin gs → AllBegin (g ∷ gs)
one_more g gs h all zero d e = subst Begins (let same : g.form ≡ d.form = cc in same) h
one_more g gs h all (suc n) d e = all n d e

pub globals_begin : (s : ℕ → Site) (ps : List Part) (n : ℕ) → Plainly (program_words ps []) → AllBegin (globals_in (items_at s n ps))
globals_begin s [] n h = λ m d e. absurd (let none : None ≡ Some d = e in cc)
globals_begin s (structure x fields ∷ rest) n h = globals_begin s rest (n + part_size (structure x fields)) (past (part_ends (structure x fields) (program_words rest [])) h)
globals_begin s (function f ∷ rest) n h = globals_begin s rest (n + part_size (function f)) (past (part_ends (function f) (program_words rest [])) h)
globals_begin s (global d form ∷ rest) n h =
    let first = form_begins s (n + declaring_size d) form (mark _ ∷ program_words rest []) (past (declaring_ends d (form_words form (mark _ ∷ program_words rest []))) h) in
    one_more _ (globals_in (items_at s (n + part_size (global d form)) rest)) first (globals_begin s rest (n + part_size (global d form)) (past (part_ends (global d form) (program_words rest [])) h))

pub begins_unsigned : (f : GlobalForm) → Begins f → (span : Span) (minus : Bool) (k : Number) → f ≡ Initial span minus (Constant.Number k) → IsUnsigned k
begins_unsigned f h span minus k e = subst Begins e h
