-- The machine reads each phrase that fits.
use Rattle.sharc_parse.proofs.Imports.{◌≡◌, ℕ, ◌≤◌, List, [], ◌∷◌, Option, Some, None, refl, sym, ap, ◌∙◌, arith, Bool, true, false, cond, must, Keyword, OpenParenthesis, CloseParenthesis, CloseBrace, Semicolon, Comma, Arrow, Minus, Star, Exclamation, Tilde, Base, BinaryOperator, UnaryOperator, Not, FieldOperator, Constant, ValueCall, PlaceCall, Word, name, keyword, mark, number, character, Sharing, private, locked, locked_through, Declaring, sharing_words, level_words, base_words, bottom_words, levels_words, list_words, declaring_words, FitsBottom, FitsLevels, FitsList, FitsType, NoModes, IsPlain, Front, of_value, of_place, of_cast, Phrase, identifier, constant, enclosed, call, index, field, unary, binary, Phrases, none, more, operator_mark, unary_mark, access_mark, constant_word, strength, front_words, words, words_of_rest, level, FitsFront, Fits, FitAll, malloc, Doing, assign, invoke, Line, doing_words, Part, Outer, LinePlace, as_statement, in_line, as_step, ValuePlace, returning, testing, subject, counting, Cont, part, beneath, right_of, fronted, indexing, arguments, NamePlace, field_of, local, TypePlace, naming, casting, sizing, ModePlace, before_base, at_level, Core, Want, Have, Called, Valued, TypeWant, ModeFirst, StructWant, Typed, Named, State, or_else, to, role, grip_of, grip, joined, with_last, floor, want, counted, shift, have, called, takes_modes, moded, mode_step, based, begin_type, typed, fields, may_declare, line_start, start, returned, for_test, for_step, malloced, core_step, Stuck, then_on, reads, reads_at, weak, operating, settle_stops, role_binary, role_unary, le_true}

pub whole_binary : (y : List Word) (a b : Phrase) (o : BinaryOperator) (k : Cont) → grip y ≤ strength o → reads_at y (Have b (right_of a o k)) ≡ reads_at y (Have (binary o a b) k)
whole_binary [] a b o k h = refl
whole_binary (t ∷ y) a b o k h = ap (λ n. then_on n (λ s. reads y s) (Stuck (t ∷ y))) (role_binary (role t) t a b o k h)

pub whole_unary : (y : List Word) (u : UnaryOperator) (a : Phrase) (k : Cont) → grip y ≤ 11 → reads_at y (Have a (beneath u k)) ≡ reads_at y (Have (unary u a) k)
whole_unary [] u a k h = refl
whole_unary (t ∷ y) u a k h = ap (λ n. then_on n (λ s. reads y s) (Stuck (t ∷ y))) (role_unary (role t) t u a k h)

pub operator_step : (o : BinaryOperator) (x : Phrase) (k : Cont) → floor k ≤ strength o → core_step (Have x k) (mark (operator_mark o)) ≡ to (Want (right_of x o k))
operator_step o x k h =
    ap (λ r. have r x k (mark (operator_mark o))) (operating o)
    ∙ ap (λ (s : Phrase × Cont). shift o s.0 s.1) (settle_stops (strength o) x k (weak o) h)
    ∙ ap (λ b. cond b (to (Want (right_of x o k))) (counted o x k)) (le_true (floor k) (strength o) h)

-- an operator after an operand
pub takes : (o : BinaryOperator) (x : Phrase) (k : Cont) (y : List Word) → floor k ≤ strength o → reads_at (mark (operator_mark o) ∷ y) (Have x k) ≡ reads_at y (Want (right_of x o k))
takes o x k y h = ap (λ n. then_on n (λ s. reads y s) (Stuck (mark (operator_mark o) ∷ y))) (operator_step o x k h)

pub prefixed : (u : UnaryOperator) (k : Cont) (y : List Word) → reads_at (mark (unary_mark u) ∷ y) (Want k) ≡ reads_at y (Want (beneath u k))
prefixed Not k y = refl
prefixed _ k y = refl

-- what an expression may begin with
abbrev is_first : Word → Bool
is_first (name n) = true
is_first (number n) = true
is_first (character c) = true
is_first (keyword Keyword.Null) = true
is_first (keyword Keyword.Spawn) = true
is_first (keyword Keyword.Join) = true
is_first (keyword Keyword.Print) = true
is_first (keyword Keyword.Lock) = true
is_first (keyword Keyword.Unlock) = true
is_first (keyword Keyword.Free) = true
is_first (keyword Keyword.Scast) = true
is_first (mark Minus) = true
is_first (mark Exclamation) = true
is_first (mark Tilde) = true
is_first (mark Star) = true
is_first (mark OpenParenthesis) = true
is_first _ = false

abbrev pub IsFirst : Word → Type 0
IsFirst t = is_first t ≡ true

pub record First (fine : Word → Type 0) (all : List Word) : Type 0 where
  pub first : Word
  pub is_first : fine first
  pub rest : List Word
  pub is : all ≡ first ∷ rest

starts : (fine : Word → Type 0) (t : Word) (y : List Word) → fine t → First fine (t ∷ y)
starts fine t y h = record { first = t; is_first = h; rest = y; is = refl }

constant_first : (c : Constant) (y : List Word) → First IsFirst (constant_word c ∷ y)
constant_first (Constant.Number n) y = starts IsFirst _ _ refl
constant_first _ y = starts IsFirst _ _ refl

unary_first : (u : UnaryOperator) (y : List Word) → First IsFirst (mark (unary_mark u) ∷ y)
unary_first Not y = starts IsFirst _ _ refl
unary_first _ y = starts IsFirst _ _ refl

front_first : (f : Front) (y : List Word) → First IsFirst (front_words f y)
front_first (of_value ValueCall.Join) y = starts IsFirst _ _ refl
front_first (of_place PlaceCall.Lock) y = starts IsFirst _ _ refl
front_first _ y = starts IsFirst _ _ refl

pub first : (x : Phrase) (y : List Word) → First IsFirst (words x y)
first (identifier n) y = starts IsFirst _ _ refl
first (constant c) y = constant_first c y
first (enclosed f a) y = front_first f _
first (call f all) y = starts IsFirst _ _ refl
first (index a i) y = first a _
first (field a w n) y = first a _
first (unary u a) y = unary_first u _
first (binary o a b) y = first a _

pub doing_first : (x : Doing) (y : List Word) → First IsFirst (doing_words x y)
doing_first (assign u r) y = first u _
doing_first (invoke e) y = first e _

-- two cores that take a first word alike
pub same_step : (fine : Word → Type 0) (ts : List Word) (f : First fine ts) (a b : Core) → core_step a f.first ≡ core_step b f.first → reads_at ts a ≡ reads_at ts b
same_step fine ts f a b e =
    ap (λ z. reads_at z a) f.is
    ∙ ap (λ o. then_on o (λ n. reads f.rest n) (Stuck (f.first ∷ f.rest))) e
    ∙ ap (λ z. reads_at z b) (sym f.is)

pub idle : (b : Bool) (w : Option State) → or_else (cond b None None) w ≡ w
idle true w = refl
idle false w = refl

pub called_at : (t : Word) → IsFirst t → (f : List ℕ) (k : Cont) → called f k t ≡ want (arguments f none k) t
called_at (mark CloseParenthesis) h f k = cc
called_at _ h f k = refl

pub returned_at : (t : Word) → IsFirst t → (o : Outer) → returned o t ≡ want (part returning o) t
returned_at (mark Semicolon) h o = cc
returned_at _ h o = refl

pub test_at : (t : Word) → IsFirst t → (l : Line) (o : Outer) → for_test l o t ≡ want (part (testing l) o) t
test_at (mark Semicolon) h l o = cc
test_at _ h l o = refl

pub step_at : (t : Word) → IsFirst t → (l : Line) (e : Option Phrase) (o : Outer) → for_step l e o t ≡ want (part (subject (as_step l e)) o) t
step_at (mark CloseParenthesis) h l e o = cc
step_at _ h l e o = refl

pub malloced_at : (t : Word) → IsFirst t → (v : ValuePlace) (o : Outer) → malloced v o t ≡ want (part (counting v) o) t
malloced_at (keyword Keyword.Sizeof) h v o = cc
malloced_at _ h v o = refl

no_type : (t : Word) → IsFirst t → (p : NamePlace) → begin_type (naming p) t ≡ None
no_type (keyword Keyword.Null) h p = refl
no_type _ h p = cc

pub line_start_at : (t : Word) → IsFirst t → (p : LinePlace) (o : Outer) → line_start p o t ≡ want (part (subject (in_line p)) o) t
line_start_at (mark Semicolon) h p o = cc
line_start_at t h p o =
    ap (λ b. or_else (cond (may_declare p o) b None) (want (part (subject (in_line p)) o) t)) (no_type t h (local p o))
    ∙ idle (may_declare p o) (want (part (subject (in_line p)) o) t)

pub start_at : (t : Word) → IsFirst t → (o : Outer) → start o t ≡ line_start as_statement o t
start_at (keyword Keyword.Null) h o = refl
start_at (mark Minus) h o = refl
start_at _ h o = cc

abbrev is_mode : Word → Bool
is_mode (keyword Keyword.Private) = true
is_mode (keyword Keyword.Readonly) = true
is_mode (keyword Keyword.Racy) = true
is_mode (keyword Keyword.Dynamic) = true
is_mode (keyword Keyword.Locked) = true
is_mode _ = false

abbrev pub IsModeWord : Word → Type 0
IsModeWord t = is_mode t ≡ true

-- what a type may begin with
abbrev is_type_first : Word → Bool
is_type_first (keyword Keyword.Int) = true
is_type_first (keyword Keyword.Char) = true
is_type_first (keyword Keyword.Long) = true
is_type_first (keyword Keyword.Mutex) = true
is_type_first (keyword Keyword.Void) = true
is_type_first (keyword Keyword.Struct) = true
is_type_first t = is_mode t

abbrev pub IsTypeFirst : Word → Type 0
IsTypeFirst t = is_type_first t ≡ true

sharing_first : (s : Sharing) (y : List Word) → First IsTypeFirst (sharing_words s y)
sharing_first private y = starts IsTypeFirst _ _ refl
sharing_first _ y = starts IsTypeFirst _ _ refl

base_first : (b : Base) (y : List Word) → First IsTypeFirst (base_words b y)
base_first Base.Int y = starts IsTypeFirst _ _ refl
base_first _ y = starts IsTypeFirst _ _ refl

pub levels_first : (first : Bool) (b : Base) (m : Option Sharing) (below : List (Option Sharing)) (y : List Word) → First IsTypeFirst (levels_words first b m below y)
levels_first true b None [] y = base_first b _
levels_first true b (Some s) [] y = sharing_first s _
levels_first false b m [] y = base_first b _
levels_first first b m (n ∷ below) y = levels_first first b n below _

pub list_first : (first : Bool) (b : Base) (levels : List (Option Sharing)) (y : List Word) → FitsList first levels → First IsTypeFirst (list_words first b levels y)
list_first first b [] y w = absurd w
list_first first b (m ∷ below) y w = levels_first first b m below y

pub fields_at : (t : Word) → IsTypeFirst t → (all : List Part) (s : List ℕ) (before : List Declaring) → fields all s before t ≡ begin_type (naming (field_of all s before)) t
fields_at (mark CloseBrace) h all s before = cc
fields_at _ h all s before = refl

pub declares_at : (t : Word) → IsTypeFirst t → (p : LinePlace) (o : Outer) → may_declare p o ≡ true → line_start p o t ≡ begin_type (naming (local p o)) t
declares_at (mark Semicolon) h p o e = cc
declares_at (keyword Keyword.Int) h p o e = rw e refl
declares_at _ h p o e = rw e cc

pub start_declares_at : (t : Word) → IsTypeFirst t → (o : Outer) → start o t ≡ line_start as_statement o t
start_declares_at (keyword Keyword.Int) h o = refl
start_declares_at (mark Semicolon) h o = cc
start_declares_at _ h o = cc

-- Types.

mode_reads : (p : ModePlace) (c : Core) → ((t : Word) → IsModeWord t → core_step c t ≡ mode_step p t) → (s : Sharing) (y : List Word) → reads_at (sharing_words s y) c ≡ reads_at y (moded p s)
mode_reads p c h (locked m) y =
    ap (λ o. then_on o (λ n. reads (mark OpenParenthesis ∷ (name m ∷ (mark CloseParenthesis ∷ y))) n) (Stuck (sharing_words (locked m) y))) (h (keyword Keyword.Locked) refl)
mode_reads p c h (locked_through x m) y =
    ap (λ o. then_on o (λ n. reads (mark OpenParenthesis ∷ (name x ∷ (mark Arrow ∷ (name m ∷ (mark CloseParenthesis ∷ y))))) n) (Stuck (sharing_words (locked_through x m) y))) (h (keyword Keyword.Locked) refl)
mode_reads p c h s y = ap (λ o. then_on o (λ n. reads y n) (Stuck (sharing_words s y))) (h _ refl)

mode_first_at : (p : TypePlace) → takes_modes p ≡ true → (t : Word) → IsModeWord t → begin_type p t ≡ mode_step (before_base p) t
mode_first_at p e (keyword Keyword.Private) h = rw e refl
mode_first_at p e _ h = rw e cc

mode_at : (p : TypePlace) (first : Bool) (b : Base) (below : List (Option Sharing)) → takes_modes p ≡ true → (t : Word) → IsModeWord t → typed p first b None below t ≡ mode_step (at_level p first b below) t
mode_at p first b below e (keyword Keyword.Private) h = rw e refl
mode_at p first b below e (keyword _) h = rw e cc
mode_at p first b below e _ h = cc

base_reads : (p : TypePlace) (b : Base) (y : List Word) → reads_at (base_words b y) (TypeWant p) ≡ reads_at y (based p None b)
base_reads p (Base.Struct s) y = ap (λ o. then_on o (λ n. reads (name s ∷ y) n) (Stuck (base_words (Base.Struct s) y))) (idle (takes_modes p) (to (StructWant p None)))
base_reads p k y = ap (λ o. then_on o (λ n. reads y n) (Stuck (base_words k y))) (idle (takes_modes p) _)

base_reads_after : (p : TypePlace) (m : Sharing) (b : Base) (y : List Word) → reads_at (base_words b y) (ModeFirst p m) ≡ reads_at y (based p (Some m) b)
base_reads_after p m (Base.Struct s) y = refl
base_reads_after p m _ y = refl

-- where no modes are taken none is written
abbrev pub ModesFit : TypePlace → Bool → List (Option Sharing) → Type 0
ModesFit p first levels = takes_modes p ≡ false → IsPlain first levels

pub never : {A : Type 0} (b : Bool) → b ≡ false → b ≡ true → A
never b f t = cc

not_plain : (first : Bool) (s : Sharing) (below : List (Option Sharing)) → IsPlain first (Some s ∷ below) → ⊥
not_plain first s below h = h.1

pub lower_modes : (m : Option Sharing) (below : List (Option Sharing)) → NoModes (m ∷ below) → NoModes below
lower_modes None below h = h
lower_modes (Some s) below h = absurd h

level_reads : (p : TypePlace) (first : Bool) (b : Base) (m : Option Sharing) (below : List (Option Sharing)) → ModesFit p first (m ∷ below) → (y : List Word) → reads_at (level_words m y) (Typed p first b None below) ≡ reads_at y (Typed p first b m below)
level_reads p first b None below h y = refl
level_reads p first b (Some s) below h y =
    let e = must (takes_modes p) (λ f. not_plain first s below (h f)) in
    mode_reads (at_level p first b below) (Typed p first b None below) (λ t i. mode_at p first b below e t i) s y

bottom_reads : (p : TypePlace) (first : Bool) (b : Base) (m : Option Sharing) → FitsBottom first m → ModesFit p first (m ∷ []) → (y : List Word) → reads_at (bottom_words first b m y) (TypeWant p) ≡ reads_at y (Typed p first b m [])
bottom_reads p true b None w h y = absurd w
bottom_reads p true b (Some s) w h y =
    let e = must (takes_modes p) (λ f. not_plain true s [] (h f)) in
    mode_reads (before_base p) (TypeWant p) (λ t i. mode_first_at p e t i) s (base_words b y) ∙ base_reads_after p s b y
bottom_reads p false b m w h y = base_reads p b (level_words m y) ∙ level_reads p false b m [] h y

pub levels_read : (p : TypePlace) (first : Bool) (b : Base) (m : Option Sharing) (below : List (Option Sharing)) → FitsLevels first m below → ModesFit p first (m ∷ below) → (y : List Word) → reads_at (levels_words first b m below y) (TypeWant p) ≡ reads_at y (Typed p first b m below)
levels_read p first b m [] w h y = bottom_reads p first b m w h y
levels_read p first b m (n ∷ below) w h y =
    levels_read p first b n below w (λ f. let i = h f in (i.0, lower_modes m (n ∷ below) i.1)) (mark Star ∷ level_words m y)
    ∙ level_reads p first b m (n ∷ below) h y

moded_fit : (p : TypePlace) (first : Bool) (levels : List (Option Sharing)) → takes_modes p ≡ true → ModesFit p first levels
moded_fit p first levels e = λ f. never (takes_modes p) f e

-- a type and a name
declaring_read : (p : NamePlace) (first : Bool) (b : Base) (levels : List (Option Sharing)) (n : List ℕ) → FitsList first levels → (y : List Word) → reads_at (list_words first b levels (name n ∷ y)) (TypeWant (naming p)) ≡ reads_at y (Named p (record { mode_first = first; base = b; levels = levels }) n)
declaring_read p first b [] n w y = absurd w
declaring_read p first b (m ∷ below) n w y = levels_read (naming p) first b m below w (moded_fit (naming p) first (m ∷ below) refl) (name n ∷ y)

pub reads_declaring : (p : NamePlace) (d : Declaring) → FitsType d.typing → (y : List Word) → reads_at (declaring_words d y) (TypeWant (naming p)) ≡ reads_at y (Named p d.typing d.named)
reads_declaring p d w y = declaring_read p d.typing.mode_first d.typing.base d.typing.levels d.named w y

pub cast_read : (k : Cont) (first : Bool) (b : Base) (levels : List (Option Sharing)) → FitsList first levels → (y : List Word) → reads_at (list_words first b levels (mark Comma ∷ y)) (TypeWant (casting k)) ≡ reads_at y (Want (fronted (of_cast (record { mode_first = first; base = b; levels = levels })) k))
cast_read k first b [] w y = absurd w
cast_read k first b (m ∷ below) w y = levels_read (casting k) first b m below w (moded_fit (casting k) first (m ∷ below) refl) (mark Comma ∷ y)

pub size_read : (v : ValuePlace) (c : Option Phrase) (o : Outer) (first : Bool) (b : Base) (levels : List (Option Sharing)) → FitsList first levels → IsPlain first levels → (y : List Word) → reads_at (list_words first b levels (mark CloseParenthesis ∷ (mark CloseParenthesis ∷ y))) (TypeWant (sizing v c o)) ≡ reads_at y (Valued v (malloc c (record { mode_first = first; base = b; levels = levels })) o)
size_read v c o first b [] w h y = absurd w
size_read v c o first b (m ∷ below) w h y = levels_read (sizing v c o) first b m below w (λ f. h) (mark CloseParenthesis ∷ (mark CloseParenthesis ∷ y))

-- Expressions.

constant_reads : (c : Constant) (k : Cont) (y : List Word) → reads_at (constant_word c ∷ y) (Want k) ≡ reads_at y (Have (constant c) k)
constant_reads (Constant.Number n) k y = refl
constant_reads _ k y = refl

front_reads : (f : Front) → FitsFront f → (k : Cont) (y : List Word) → reads_at (front_words f y) (Want k) ≡ reads_at y (Want (fronted f k))
front_reads (of_value ValueCall.Join) w k y = refl
front_reads (of_place PlaceCall.Lock) w k y = refl
front_reads (of_cast t) w k y = cast_read k t.mode_first t.base t.levels w y
front_reads _ w k y = refl

access_reads : (a : FieldOperator) (x : Phrase) (n : List ℕ) (k : Cont) (y : List Word) → reads_at (mark (access_mark a) ∷ (name n ∷ y)) (Have x k) ≡ reads_at y (Have (field x a n) k)
access_reads FieldOperator.Dot x n k y = refl
access_reads FieldOperator.Arrow x n k y = refl

access_grip : (a : FieldOperator) → grip_of (role (mark (access_mark a))) ≡ 12
access_grip FieldOperator.Dot = refl
access_grip FieldOperator.Arrow = refl

-- the first word of an argument is no `)`
pub opens : (x : Phrase) (f : List ℕ) (k : Cont) (y : List Word) → reads_at (words x y) (Called f k) ≡ reads_at (words x y) (Want (arguments f none k))
opens x f k y = let h = first x y in same_step IsFirst (words x y) h (Called f k) (Want (arguments f none k)) (called_at h.first h.is_first f k)

pub joined_last : (before : Phrases) (e : Phrase) (rest : Phrases) → joined (with_last before e) rest ≡ joined before (more e rest)
joined_last none e rest = refl
joined_last (more a before) e rest = ap (more a) (joined_last before e rest)

grip_rest : (rest : Phrases) (y : List Word) → grip (words_of_rest rest (mark CloseParenthesis ∷ y)) ≡ 0
grip_rest none y = refl
grip_rest (more e rest) y = refl

mutual
  pub reads_phrase : (x : Phrase) → Fits x → (k : Cont) → floor k ≤ level x → (y : List Word) → grip y ≤ level x → reads_at (words x y) (Want k) ≡ reads_at y (Have x k)
  reads_phrase (constant c) w k f y g = constant_reads c k y
  reads_phrase (enclosed h a) w k f y g =
      front_reads h w.0 k _
      ∙ reads_phrase a w.2 (fronted h k) w.1 _ (omega arith)
  reads_phrase (call n (more a rest)) w k f y g =
      opens a n k _
      ∙ reads_phrase a w.0 (arguments n none k) (omega arith) _ (omega (arith, grip_rest rest y))
      ∙ reads_rest rest w.1 n none a k y
  reads_phrase (index a i) w k f y g =
      reads_phrase a w.1 k (omega arith) _ (omega arith)
      ∙ reads_phrase i w.2 (indexing a k) (omega arith) _ (omega arith)
  reads_phrase (field a v n) w k f y g =
      reads_phrase a w.1 k (omega arith) _ (omega (arith, access_grip v))
      ∙ access_reads v a n k y
  reads_phrase (unary u a) w k f y g =
      prefixed u k _
      ∙ reads_phrase a w.1 (beneath u k) w.0 y (omega arith)
      ∙ whole_unary y u a k g
  reads_phrase (binary o a b) w k f y g =
      reads_phrase a w.2 k (omega arith) _ (omega (arith, ap grip_of (operating o)))
      ∙ takes o a k _ f
      ∙ reads_phrase b w.3 (right_of a o k) w.1 y (omega arith)
      ∙ whole_binary y a b o k g
  reads_phrase _ w k f y g = refl

  reads_rest : (rest : Phrases) → FitAll rest → (f : List ℕ) (before : Phrases) (e : Phrase) (k : Cont) (y : List Word) → reads_at (words_of_rest rest (mark CloseParenthesis ∷ y)) (Have e (arguments f before k)) ≡ reads_at y (Have (call f (joined before (more e rest))) k)
  reads_rest none w f before e k y = refl
  reads_rest (more a rest) w f before e k y =
      reads_phrase a w.0 (arguments f (with_last before e) k) (omega arith) _ (omega (arith, grip_rest rest y))
      ∙ reads_rest rest w.1 f (with_last before e) a k y
      ∙ ap (λ all. reads_at y (Have (call f all) k)) (joined_last before e (more a rest))
