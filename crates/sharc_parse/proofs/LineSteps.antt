-- The machine's steps over lines.
use Rattle.sharc_parse.proofs.{Imports.{◌≡◌, ℕ, List, [], ◌∷◌, Option, Some, None, refl, sym, ap, ◌∙◌, subst, inl, inr, Bool, true, false, cond, Keyword, Assign, Semicolon, Minus, Word, keyword, mark, Typing, Value, Doing, nothing, does, Outer, LinePlace, as_statement, as_first, in_line, local, naming, of_local, Cont, part, subject, Want, TypeWant, Named, State, At, or_else, begin_type, want, lined, local_line, line_start, may_declare, declaring_of, StuckAt, Over, next_within, reads_within, over, crowded_line, ModeWord, BaseWord, NotAt, mode_word, HasMode, base_word, value_within, doing_state, EndsDoing, doing_within, initial_state, EndsInitial, HasBase, MeetsType, MeetsLocal, starts_operand, starts_line, line_within, Exclamation, Tilde, Star, OpenParenthesis, Negate, Not, Complement, Dereference, ValueCall, PlaceCall, Constant, name, number, character, identifier, constant, parenthesis, of_value, of_place, beneath, fronted, Have, Spawning, casting, an_open, an_ampersand}, Steps.{passes, fails}, TypeSteps.{begin_bare, no_base_step}, RightSteps.value_ends, SimpleSteps.doing_ends}

-- types

pub mode_there : (w : ModeWord) (ts y : List Word) → ts ≡ mode_word w ∷ y → MeetsType true ts
mode_there w ts y e = inl (subst HasMode (sym e) (w, refl))

pub base_there : (w : BaseWord) (ts y : List Word) → ts ≡ base_word w ∷ y → MeetsType true ts
base_there w ts y e = inr (subst HasBase (sym e) (w, refl))

abbrev both : LinePlace → Outer → Word → Bool → Option State
both p o t b = or_else (cond b (begin_type (naming (local p o)) t) None) (want (part (subject (in_line p)) o) t)

mode_word_starts : (p : LinePlace) (o : Outer) (w : ModeWord) → may_declare p o ≡ true → line_start p o (mode_word w) ≡ begin_type (naming (local p o)) (mode_word w)
mode_word_starts p o ModeWord.Racy e = rw e refl
mode_word_starts p o _ e = rw e refl

base_word_starts : (p : LinePlace) (o : Outer) (w : BaseWord) → may_declare p o ≡ true → line_start p o (base_word w) ≡ begin_type (naming (local p o)) (base_word w)
base_word_starts p o BaseWord.Int e = rw e refl
base_word_starts p o _ e = rw e refl

type_starts : (p : LinePlace) (o : Outer) (ts : List Word) → may_declare p o ≡ true → MeetsType true ts → line_within p o ts ≡ reads_within ts (At [] (TypeWant (naming (local p o))))
type_starts p o [] e (inl h) = absurd h
type_starts p o [] e (inr h) = absurd h
type_starts p o (t ∷ y) e (inl h) =
    ap (λ u. line_within p o (u ∷ y)) h.1
    ∙ ap (λ n. next_within n (λ s. reads_within y s) (mode_word h.0 ∷ y)) (mode_word_starts p o h.0 e)
    ∙ ap (λ u. reads_within (u ∷ y) (At [] (TypeWant (naming (local p o))))) (sym h.1)
type_starts p o (t ∷ y) e (inr h) =
    ap (λ u. line_within p o (u ∷ y)) h.1
    ∙ ap (λ n. next_within n (λ s. reads_within y s) (base_word h.0 ∷ y)) (base_word_starts p o h.0 e)
    ∙ ap (λ u. reads_within (u ∷ y) (At [] (TypeWant (naming (local p o))))) (sym h.1)

pub line_declares : (declares : Bool) (p : LinePlace) (o : Outer) (ts : List Word) → may_declare p o ≡ declares → MeetsLocal declares true ts → line_within p o ts ≡ reads_within ts (At [] (TypeWant (naming (local p o))))
line_declares true p o ts e h = type_starts p o ts e h
line_declares false p o ts e h = absurd h

-- what is no declaration

not_declared : (declares : Bool) (p : LinePlace) (o : Outer) (t : Word) (y : List Word) → may_declare p o ≡ declares → MeetsLocal declares false (t ∷ y) → cond (may_declare p o) (begin_type (naming (local p o)) t) None ≡ None
not_declared true p o t y e h =
    ap (λ b. cond b (begin_type (naming (local p o)) t) None) e
    ∙ begin_bare (naming (local p o)) t h.0
    ∙ no_base_step (naming (local p o)) None t h.1
not_declared false p o t y e h = ap (λ b. cond b (begin_type (naming (local p o)) t) None) e

not_empty : (p : LinePlace) (o : Outer) (t : Word) → (t ≡ mark Semicolon → ⊥) → line_start p o t ≡ both p o t (may_declare p o)
not_empty p o (mark Semicolon) n = absurd (n refl)
not_empty p o _ n = refl

pub line_simple : (declares : Bool) (p : LinePlace) (o : Outer) (ts : List Word) → may_declare p o ≡ declares → MeetsLocal declares false ts → NotAt (mark Semicolon) ts → line_within p o ts ≡ reads_within ts (At [] (Want (part (subject (in_line p)) o)))
line_simple declares p o [] e h n = refl
line_simple declares p o (t ∷ y) e h n =
    ap (λ v. next_within v (λ s. reads_within y s) (t ∷ y)) (not_empty p o t n)
    ∙ ap (λ v. next_within (or_else v (want (part (subject (in_line p)) o) t)) (λ s. reads_within y s) (t ∷ y)) (not_declared declares p o t y e h)

empty_over : (p : LinePlace) (o : Outer) → over (lined p nothing o) ≡ crowded_line p o
empty_over as_statement o = refl
empty_over as_first o = refl

empty_within : (p : LinePlace) (o : Outer) (y : List Word) → crowded_line p o ≡ false → line_within p o (mark Semicolon ∷ y) ≡ reads_within y (lined p nothing o)
empty_within p o y c = passes (lined p nothing o) y (mark Semicolon ∷ y) (empty_over p o ∙ c)

pub line_empty : (p : LinePlace) (o : Outer) (ts y : List Word) → ts ≡ mark Semicolon ∷ y → crowded_line p o ≡ false → line_within p o ts ≡ reads_within y (lined p nothing o)
line_empty p o ts y e c = ap (line_within p o) e ∙ empty_within p o y c

-- no room for a line

abbrev crowd : LinePlace → Outer → Cont
crowd p o = part (subject (in_line p)) o

crowded_operand : (p : LinePlace) (o : Outer) (ts : List Word) → crowded_line p o ≡ true → reads_within ts (At [] (Want (crowd p o))) ≡ cond (starts_operand ts) (Over ts) (StuckAt ts)
crowded_operand p o (name n ∷ y) c = fails (At [] (Have (identifier n) (crowd p o))) y (name n ∷ y) c
crowded_operand p o (number n ∷ y) c = fails (At [] (Have (constant (Constant.Number n)) (crowd p o))) y (number n ∷ y) c
crowded_operand p o (character n ∷ y) c = fails (At [] (Have (constant (Constant.Character n)) (crowd p o))) y (character n ∷ y) c
crowded_operand p o (keyword Keyword.Null ∷ y) c = fails (At [] (Have (constant Constant.Null) (crowd p o))) y (keyword Keyword.Null ∷ y) c
crowded_operand p o (mark Minus ∷ y) c = fails (At [] (Want (beneath Negate (crowd p o)))) y (mark Minus ∷ y) (ap (λ b. cond b true false) c)
crowded_operand p o (mark Exclamation ∷ y) c = fails (At [] (Want (beneath Not (crowd p o)))) y (mark Exclamation ∷ y) (ap (λ b. cond b true false) c)
crowded_operand p o (mark Tilde ∷ y) c = fails (At [] (Want (beneath Complement (crowd p o)))) y (mark Tilde ∷ y) (ap (λ b. cond b true false) c)
crowded_operand p o (mark Star ∷ y) c = fails (At [] (Want (beneath Dereference (crowd p o)))) y (mark Star ∷ y) (ap (λ b. cond b true false) c)
crowded_operand p o (mark OpenParenthesis ∷ y) c = fails (At [] (Want (fronted parenthesis (crowd p o)))) y (mark OpenParenthesis ∷ y) (ap (λ b. cond b true false) c)
crowded_operand p o (keyword Keyword.Spawn ∷ y) c = fails (At (an_open ∷ []) (Spawning (crowd p o))) y (keyword Keyword.Spawn ∷ y) (ap (λ b. cond b true false) c)
crowded_operand p o (keyword Keyword.Join ∷ y) c = fails (At (an_open ∷ []) (Want (fronted (of_value ValueCall.Join) (crowd p o)))) y (keyword Keyword.Join ∷ y) (ap (λ b. cond b true false) c)
crowded_operand p o (keyword Keyword.Print ∷ y) c = fails (At (an_open ∷ []) (Want (fronted (of_value ValueCall.Print) (crowd p o)))) y (keyword Keyword.Print ∷ y) (ap (λ b. cond b true false) c)
crowded_operand p o (keyword Keyword.Lock ∷ y) c = fails (At (an_open ∷ (an_ampersand ∷ [])) (Want (fronted (of_place PlaceCall.Lock) (crowd p o)))) y (keyword Keyword.Lock ∷ y) (ap (λ b. cond b true false) c)
crowded_operand p o (keyword Keyword.Unlock ∷ y) c = fails (At (an_open ∷ (an_ampersand ∷ [])) (Want (fronted (of_place PlaceCall.Unlock) (crowd p o)))) y (keyword Keyword.Unlock ∷ y) (ap (λ b. cond b true false) c)
crowded_operand p o (keyword Keyword.Free ∷ y) c = fails (At (an_open ∷ []) (Want (fronted (of_place PlaceCall.Free) (crowd p o)))) y (keyword Keyword.Free ∷ y) (ap (λ b. cond b true false) c)
crowded_operand p o (keyword Keyword.Scast ∷ y) c = fails (At (an_open ∷ []) (TypeWant (casting (crowd p o)))) y (keyword Keyword.Scast ∷ y) (ap (λ b. cond b true false) c)
crowded_operand p o _ c = refl

abbrev IsOther : Word → Type 0
IsOther (mark Semicolon) = ⊥
IsOther _ = Unit {0}

other_word : (t : Word) → IsOther t → t ≡ mark Semicolon → ⊥
other_word t h e = subst IsOther e h

other_starts : (t : Word) (y : List Word) → IsOther t → starts_line (t ∷ y) ≡ starts_operand (t ∷ y)
other_starts (mark Semicolon) y h = absurd h
other_starts _ y h = refl

other_crowded : (declares : Bool) (p : LinePlace) (o : Outer) (t : Word) (y : List Word) → IsOther t → may_declare p o ≡ declares → MeetsLocal declares false (t ∷ y) → crowded_line p o ≡ true → line_within p o (t ∷ y) ≡ cond (starts_line (t ∷ y)) (Over (t ∷ y)) (StuckAt (t ∷ y))
other_crowded declares p o t y i e h c =
    line_simple declares p o (t ∷ y) e h (other_word t i)
    ∙ crowded_operand p o (t ∷ y) c
    ∙ ap (λ b. cond b (Over (t ∷ y)) (StuckAt (t ∷ y))) (sym (other_starts t y i))

crowded_whole : (declares : Bool) (p : LinePlace) (o : Outer) (ts : List Word) → may_declare p o ≡ declares → MeetsLocal declares false ts → crowded_line p o ≡ true → line_within p o ts ≡ cond (starts_line ts) (Over ts) (StuckAt ts)
crowded_whole declares p o [] e h c = refl
crowded_whole declares p o (mark Semicolon ∷ y) e h c = fails (lined p nothing o) y (mark Semicolon ∷ y) (empty_over p o ∙ c)
crowded_whole declares p o (t ∷ y) e h c = other_crowded declares p o t y tt e h c

pub line_deep : (declares : Bool) (p : LinePlace) (o : Outer) (ts : List Word) → may_declare p o ≡ declares → MeetsLocal declares false ts → crowded_line p o ≡ true → starts_line ts ≡ true → line_within p o ts ≡ Over ts
line_deep declares p o ts e h c s = crowded_whole declares p o ts e h c ∙ ap (λ b. cond b (Over ts) (StuckAt ts)) s

pub line_wrong : (declares : Bool) (p : LinePlace) (o : Outer) (ts : List Word) → may_declare p o ≡ declares → MeetsLocal declares false ts → crowded_line p o ≡ true → starts_line ts ≡ false → line_within p o ts ≡ StuckAt ts
line_wrong declares p o ts e h c s = crowded_whole declares p o ts e h c ∙ ap (λ b. cond b (Over ts) (StuckAt ts)) s

-- the `;`

simple_done : (p : LinePlace) (o : Outer) (x : Doing) (y : List Word) → doing_within (in_line p) x o (mark Semicolon ∷ y) ≡ reads_within y (lined p (does x) o)
simple_done as_statement o x y = refl
simple_done as_first o x y = refl

pub simple_ends : (p : LinePlace) (o : Outer) (x : Doing) (ts y : List Word) → ts ≡ mark Semicolon ∷ y → EndsDoing x ts → reads_within ts (doing_state (in_line p) o x) ≡ reads_within y (lined p (does x) o)
simple_ends p o x ts y is e = doing_ends (in_line p) o x ts e ∙ ap (doing_within (in_line p) x o) is ∙ simple_done p o x y

simple_not : (p : LinePlace) (o : Outer) (x : Doing) (ts : List Word) → NotAt (mark Semicolon) ts → doing_within (in_line p) x o ts ≡ StuckAt ts
simple_not p o x (mark Semicolon ∷ y) n = absurd (n refl)
simple_not p o x _ n = refl

pub simple_stuck : (p : LinePlace) (o : Outer) (x : Doing) (ts : List Word) → EndsDoing x ts → NotAt (mark Semicolon) ts → reads_within ts (doing_state (in_line p) o x) ≡ StuckAt ts
simple_stuck p o x ts e n = doing_ends (in_line p) o x ts e ∙ simple_not p o x ts n

local_done : (p : LinePlace) (o : Outer) (t : Typing) (n : List ℕ) (r : Value) (y : List Word) → value_within (of_local p (declaring_of t n)) r o (mark Semicolon ∷ y) ≡ reads_within y (lined p (local_line (declaring_of t n) (Some r)) o)
local_done as_statement o t n r y = refl
local_done as_first o t n r y = refl

bare_done : (p : LinePlace) (o : Outer) (t : Typing) (n : List ℕ) (y : List Word) → reads_within (mark Semicolon ∷ y) (At [] (Named (local p o) t n)) ≡ reads_within y (lined p (local_line (declaring_of t n) None) o)
bare_done as_statement o t n y = refl
bare_done as_first o t n y = refl

pub local_ends : (p : LinePlace) (o : Outer) (t : Typing) (n : List ℕ) (r : Option Value) (ts y : List Word) → ts ≡ mark Semicolon ∷ y → EndsInitial r ts → reads_within ts (initial_state p o t n r) ≡ reads_within y (lined p (local_line (declaring_of t n) r) o)
local_ends p o t n None ts y is e = ap (λ ts. reads_within ts (At [] (Named (local p o) t n))) is ∙ bare_done p o t n y
local_ends p o t n (Some r) ts y is e = value_ends (of_local p (declaring_of t n)) o r ts e ∙ ap (value_within (of_local p (declaring_of t n)) r o) is ∙ local_done p o t n r y

value_not : (p : LinePlace) (o : Outer) (t : Typing) (n : List ℕ) (r : Value) (ts : List Word) → NotAt (mark Semicolon) ts → value_within (of_local p (declaring_of t n)) r o ts ≡ StuckAt ts
value_not p o t n r (mark Semicolon ∷ y) h = absurd (h refl)
value_not p o t n r _ h = refl

bare_not : (p : LinePlace) (o : Outer) (t : Typing) (n : List ℕ) (ts : List Word) → NotAt (mark Assign) ts → NotAt (mark Semicolon) ts → reads_within ts (At [] (Named (local p o) t n)) ≡ StuckAt ts
bare_not p o t n (mark Assign ∷ y) a h = absurd (a refl)
bare_not p o t n (mark Semicolon ∷ y) a h = absurd (h refl)
bare_not p o t n _ a h = refl

pub local_stuck : (p : LinePlace) (o : Outer) (t : Typing) (n : List ℕ) (r : Option Value) (ts : List Word) → EndsInitial r ts → NotAt (mark Semicolon) ts → reads_within ts (initial_state p o t n r) ≡ StuckAt ts
local_stuck p o t n None ts e h = bare_not p o t n ts e h
local_stuck p o t n (Some r) ts e h = value_ends (of_local p (declaring_of t n)) o r ts e ∙ value_not p o t n r ts h
