-- The machine's steps within the limits, put together as the parser takes them.
use Rattle.sharc_parse.proofs.{Imports.{◌≡◌, ℕ, ◌+◌, ◌≤◌, ◌<◌, List, [], ◌∷◌, ◌++◌, Some, None, refl, sym, ap, ◌∙◌, arith, true, false, cond, max, Result, Ok, Err, le-leb, lt-leb, nat_le, Keyword, OpenParenthesis, CloseParenthesis, OpenBrace, OpenBracket, CloseBracket, Semicolon, Comma, Dot, Arrow, Minus, Star, Ampersand, Exclamation, Tilde, BinaryOperator, UnaryOperator, Negate, Not, Complement, Dereference, FieldOperator, Constant, view_expr, view_arguments, view_arguments-push, Site, Expr, Span, Token, Identifier, ValueCall, PlaceCall, Word, name, keyword, mark, number, character, Front, Phrase, identifier, constant, call, field, unary, binary, Phrases, none, more, operator_mark, unary_mark, access_mark, constant_word, strength, front_level, valued, counting, Cont, part, beneath, right_of, fronted, indexing, arguments, Core, Want, Have, Called, Dotted, Fixed, an_open, a_close, a_semicolon, a_comma, a_brace, a_bracket, an_ampersand, a_sizeof, State, At, fixed_word, is_fixed, to, Role, Operating, Ending, role, grip_of, grip, with_last, floor, settle, mallocs, want, open_call, end_at, counted, shift, have, height, highest, depth, crowded, over_core, over, Limited, StuckAt, Over, next_within, reads_within, role_binary, role_unary, floor_most, size, sizes, rest_size, expression_at, arguments_at, site_in, span_at, name_at, front_size, ParsedExpr, ReadingFault, ParsedFront, Builds, IsPlaced, StandsFront, bare_front, front_tree, NotAt, IsAt, NoName, NoConstant, NoUnary, NoFront, NoCall, NoMalloc, NoAccess, front_word, after_front, bare, phrase_of, phrases_of, FrontWord, test_down, core_step}, Complete.operator_step, Sound.is_statement}
use Rattle.sharc_tree.specs.Tree as tree
use Rattle.sharc_parse.specs.declared.expr.Front.TheVariants as fronts

-- a step that passes the test, and one that doesn't
pub passes : (n : State) (y all : List Word) → over n ≡ false → next_within (Some n) (λ s. reads_within y s) all ≡ reads_within y n
passes n y all e = ap (λ b. cond b (Over all) (reads_within y n)) e

pub fails : (n : State) (y all : List Word) → over n ≡ true → next_within (Some n) (λ s. reads_within y s) all ≡ Over all
fails n y all e = ap (λ b. cond b (Over all) (reads_within y n)) e

-- a word there that is over a limit
pub deep : (c : Core) (w : Word) (n : State) (ts : List Word) → IsAt w ts → core_step c w ≡ Some n → over n ≡ true → reads_within ts (At [] c) ≡ Over ts
deep c w n [] a s o = absurd a
deep c w n (t ∷ y) a s o =
    ap (λ u. next_within (core_step c u) (λ z. reads_within y z) (t ∷ y)) a
    ∙ ap (λ v. next_within v (λ z. reads_within y z) (t ∷ y)) s
    ∙ fails n y (t ∷ y) o

-- there is room for one level more
pub fine : (k : Cont) (m : ℕ) → crowded k ≡ false → m < 64 → cond (crowded k) true (nat_le 64 m) ≡ false
fine k m c h = ap (λ b. cond b true (nat_le 64 m)) c ∙ test_down m h

pub not_fine : (k : Cont) (m : ℕ) → crowded k ≡ false → 64 ≤ m → cond (crowded k) true (nat_le 64 m) ≡ true
not_fine k m c h = ap (λ b. cond b true (nat_le 64 m)) c ∙ le-leb 64 m h

-- the words that have to come next

fixed_here : (f : Fixed) → is_fixed f (fixed_word f) ≡ true
fixed_here an_open = refl
fixed_here _ = refl

pub fixed_goes : (f : Fixed) (fs : List Fixed) (c : Core) (y : List Word) → over_core c ≡ false → reads_within (fixed_word f ∷ y) (At (f ∷ fs) c) ≡ reads_within y (At fs c)
fixed_goes f fs c y e = ap (λ b. next_within (cond b (Some (At fs c)) None) (λ s. reads_within y s) (fixed_word f ∷ y)) (fixed_here f) ∙ passes (At fs c) y (fixed_word f ∷ y) e

pub fixed_is : (w : Fixed) (t : Word) → is_fixed w t ≡ true → t ≡ fixed_word w
fixed_is an_open (mark OpenParenthesis) h = refl
fixed_is a_close (mark CloseParenthesis) h = refl
fixed_is a_semicolon (mark Semicolon) h = refl
fixed_is a_comma (mark Comma) h = refl
fixed_is a_brace (mark OpenBrace) h = refl
fixed_is a_bracket (mark CloseBracket) h = refl
fixed_is an_ampersand (mark Ampersand) h = refl
fixed_is a_sizeof (keyword Keyword.Sizeof) h = refl
fixed_is _ _ h = cc

not_fixed : (f : Fixed) (t : Word) → (t ≡ fixed_word f → ⊥) → is_fixed f t ≡ false
not_fixed f t h = is_statement (is_fixed f t) (λ e. absurd (h (fixed_is f t e)))

pub fixed_stuck : (f : Fixed) (fs : List Fixed) (c : Core) (ts : List Word) → NotAt (fixed_word f) ts → reads_within ts (At (f ∷ fs) c) ≡ StuckAt ts
fixed_stuck f fs c [] h = refl
fixed_stuck f fs c (t ∷ y) h = ap (λ b. next_within (cond b (Some (At fs c)) None) (λ s. reads_within y s) (t ∷ y)) (not_fixed f t h)

-- what an expression that a `)` ends begins with

front_step : (w : FrontWord) (k : Cont) → want k (front_word w) ≡ Some (after_front w k)
front_step (FrontWord.Value ValueCall.Join) k = refl
front_step (FrontWord.Place PlaceCall.Lock) k = refl
front_step _ k = refl

front_over : (w : FrontWord) (k : Cont) → over (after_front w k) ≡ cond (crowded k) true (nat_le 64 (depth k))
front_over (FrontWord.Value w) k = refl
front_over (FrontWord.Place PlaceCall.Lock) k = refl
front_over _ k = refl

pub front_goes : (w : FrontWord) (k : Cont) (y : List Word) → crowded k ≡ false → depth k < 64 → reads_within (front_word w ∷ y) (At [] (Want k)) ≡ reads_within y (after_front w k)
front_goes w k y c h = ap (λ o. next_within o (λ s. reads_within y s) (front_word w ∷ y)) (front_step w k) ∙ passes (after_front w k) y (front_word w ∷ y) (front_over w k ∙ fine k (depth k) c h)

pub front_deep : (w : FrontWord) (k : Cont) (ts : List Word) → IsAt (front_word w) ts → crowded k ≡ false → 64 ≤ depth k → reads_within ts (At [] (Want k)) ≡ Over ts
front_deep w k ts a c h = deep (Want k) (front_word w) (after_front w k) ts a (front_step w k) (front_over w k ∙ not_fine k (depth k) c h)

-- operators

unary_step : (u : UnaryOperator) (k : Cont) → want k (mark (unary_mark u)) ≡ to (Want (beneath u k))
unary_step Not k = refl
unary_step _ k = refl

pub unary_goes : (u : UnaryOperator) (k : Cont) (y : List Word) → crowded k ≡ false → depth k < 64 → reads_within (mark (unary_mark u) ∷ y) (At [] (Want k)) ≡ reads_within y (At [] (Want (beneath u k)))
unary_goes u k y c h = ap (λ o. next_within o (λ s. reads_within y s) (mark (unary_mark u) ∷ y)) (unary_step u k) ∙ passes (At [] (Want (beneath u k))) y (mark (unary_mark u) ∷ y) (fine k (depth k) c h)

pub unary_deep : (u : UnaryOperator) (k : Cont) (ts : List Word) → IsAt (mark (unary_mark u)) ts → crowded k ≡ false → 64 ≤ depth k → reads_within ts (At [] (Want k)) ≡ Over ts
unary_deep u k ts a c h = deep (Want k) (mark (unary_mark u)) (At [] (Want (beneath u k))) ts a (unary_step u k) (not_fine k (depth k) c h)

pub whole_unary : (y : List Word) (u : UnaryOperator) (a : Phrase) (k : Cont) → grip y ≤ 11 → reads_within y (At [] (Have a (beneath u k))) ≡ reads_within y (At [] (Have (unary u a) k))
whole_unary [] u a k h = refl
whole_unary (t ∷ y) u a k h = ap (λ n. next_within n (λ s. reads_within y s) (t ∷ y)) (role_unary (role t) t u a k h)

pub whole_binary : (y : List Word) (a b : Phrase) (o : BinaryOperator) (k : Cont) → grip y ≤ strength o → reads_within y (At [] (Have b (right_of a o k))) ≡ reads_within y (At [] (Have (binary o a b) k))
whole_binary [] a b o k h = refl
whole_binary (t ∷ y) a b o k h = ap (λ n. next_within n (λ s. reads_within y s) (t ∷ y)) (role_binary (role t) t a b o k h)

pub operator_goes : (o : BinaryOperator) (x : Phrase) (k : Cont) (y : List Word) → floor k ≤ strength o → crowded k ≡ false → depth k + height x < 64 → reads_within (mark (operator_mark o) ∷ y) (At [] (Have x k)) ≡ reads_within y (At [] (Want (right_of x o k)))
operator_goes o x k y f c d =
    ap (λ v. next_within v (λ s. reads_within y s) (mark (operator_mark o) ∷ y)) (operator_step o x k f)
    ∙ passes (At [] (Want (right_of x o k))) y (mark (operator_mark o) ∷ y) (fine k (depth k + height x) c d)

pub operator_deep : (o : BinaryOperator) (x : Phrase) (k : Cont) (ts : List Word) → IsAt (mark (operator_mark o)) ts → floor k ≤ strength o → crowded k ≡ false → 64 ≤ depth k + height x → reads_within ts (At [] (Have x k)) ≡ Over ts
operator_deep o x k ts a f c d = deep (Have x k) (mark (operator_mark o)) (At [] (Want (right_of x o k))) ts a (operator_step o x k f) (not_fine k (depth k + height x) c d)

-- one operand more
pub binary_read : (old : Limited) (y new : List Word) (a b c : Phrase) (o : BinaryOperator) (k : Cont) → c ≡ binary o a b → old ≡ reads_within (mark (operator_mark o) ∷ y) (At [] (Have a k)) → floor k ≤ strength o → crowded k ≡ false → depth k + height a < 64 → reads_within y (At [] (Want (right_of a o k))) ≡ reads_within new (At [] (Have b (right_of a o k))) → grip new ≤ strength o → old ≡ reads_within new (At [] (Have c k))
binary_read old y new a b c o k is e f w d r g = e ∙ operator_goes o a k y f w d ∙ r ∙ whole_binary new a b o k g ∙ ap (λ z. reads_within new (At [] (Have z k))) (sym is)

-- leaves

constant_step : (c : Constant) (k : Cont) → want k (constant_word c) ≡ to (Have (constant c) k)
constant_step (Constant.Number n) k = refl
constant_step _ k = refl

pub constant_goes : (c : Constant) (k : Cont) (y : List Word) → crowded k ≡ false → reads_within (constant_word c ∷ y) (At [] (Want k)) ≡ reads_within y (At [] (Have (constant c) k))
constant_goes c k y w = ap (λ o. next_within o (λ s. reads_within y s) (constant_word c ∷ y)) (constant_step c k) ∙ passes (At [] (Have (constant c) k)) y (constant_word c ∷ y) w

pub call_deep : (n : List ℕ) (k : Cont) (ts : List Word) → IsAt (mark OpenParenthesis) ts → 64 ≤ depth k → reads_within ts (At [] (Have (identifier n) k)) ≡ Over ts
call_deep n k ts a h = deep (Have (identifier n) k) (mark OpenParenthesis) (At [] (Called n k)) ts a refl (le-leb 64 (depth k) h)

-- nothing that begins an operand; a `malloc` begins one nowhere but right of `=`
no_malloc : (k : Cont) (y : List Word) → NoMalloc k (keyword Keyword.Malloc ∷ y) → mallocs k ≡ None
no_malloc (part (valued v) o) y h = absurd (h refl)
no_malloc _ y h = refl

-- no operand begins here
pub no_operand : (k : Cont) (ts : List Word) → NoMalloc k ts → NoUnary ts → NoFront ts → NoName ts → NoConstant ts → reads_within ts (At [] (Want k)) ≡ StuckAt ts
no_operand k (name n ∷ y) v u w m c = absurd m
no_operand k (number n ∷ y) v u w m c = absurd (c (Constant.Number n) refl)
no_operand k (character b ∷ y) v u w m c = absurd (c (Constant.Character b) refl)
no_operand k (keyword Keyword.Null ∷ y) v u w m c = absurd (c Constant.Null refl)
no_operand k (mark Minus ∷ y) v u w m c = absurd (u Negate refl)
no_operand k (mark Exclamation ∷ y) v u w m c = absurd (u Not refl)
no_operand k (mark Tilde ∷ y) v u w m c = absurd (u Complement refl)
no_operand k (mark Star ∷ y) v u w m c = absurd (u Dereference refl)
no_operand k (mark OpenParenthesis ∷ y) v u w m c = absurd (w FrontWord.Parenthesis refl)
no_operand k (keyword Keyword.Spawn ∷ y) v u w m c = absurd (w FrontWord.Spawn refl)
no_operand k (keyword Keyword.Join ∷ y) v u w m c = absurd (w (FrontWord.Value ValueCall.Join) refl)
no_operand k (keyword Keyword.Print ∷ y) v u w m c = absurd (w (FrontWord.Value ValueCall.Print) refl)
no_operand k (keyword Keyword.Lock ∷ y) v u w m c = absurd (w (FrontWord.Place PlaceCall.Lock) refl)
no_operand k (keyword Keyword.Unlock ∷ y) v u w m c = absurd (w (FrontWord.Place PlaceCall.Unlock) refl)
no_operand k (keyword Keyword.Free ∷ y) v u w m c = absurd (w (FrontWord.Place PlaceCall.Free) refl)
no_operand k (keyword Keyword.Scast ∷ y) v u w m c = absurd (w FrontWord.Cast refl)
no_operand k (keyword Keyword.Malloc ∷ y) v u w m c = ap (λ o. next_within o (λ s. reads_within y s) (keyword Keyword.Malloc ∷ y)) (no_malloc k y v)
no_operand k _ v u w m c = refl

pub some_strength : (o : BinaryOperator) → 1 ≤ strength o
some_strength BinaryOperator.Add = omega arith
some_strength _ = omega arith

-- what ends an expression

abbrev pub IsClosed : Cont → Type 0
IsClosed (beneath u k) = ⊥
IsClosed (right_of a o k) = ⊥
IsClosed (part (counting v) o) = ⊥
IsClosed _ = Unit {0}

closed_settles : (l : ℕ) (x : Phrase) (k : Cont) → IsClosed k → settle l x k ≡ (x, k)
closed_settles l x (beneath u k) h = absurd h
closed_settles l x (right_of a o k) h = absurd h
closed_settles l x _ h = refl

closed_counts : (o : BinaryOperator) (x : Phrase) (k : Cont) → IsClosed k → counted o x k ≡ None
closed_counts BinaryOperator.Multiply x (part (counting v) o) h = absurd h
closed_counts _ _ _ h = refl

-- an operator that may not be there
pub closed_operator : (o : BinaryOperator) (x : Phrase) (k : Cont) → IsClosed k → strength o < floor k → have (Operating o) x k (mark (operator_mark o)) ≡ None
closed_operator o x k h f =
    ap (λ (s : Phrase × Cont). shift o s.0 s.1) (closed_settles (strength o) x k h)
    ∙ ap (λ b. cond b (to (Want (right_of x o k))) (counted o x k)) (lt-leb (floor k) (strength o) f)
    ∙ closed_counts o x k h

-- indexes and fields

pub index_deep : (x : Phrase) (k : Cont) (ts : List Word) → IsAt (mark OpenBracket) ts → crowded k ≡ false → 64 ≤ depth k + height x → reads_within ts (At [] (Have x k)) ≡ Over ts
index_deep x k ts a c h = deep (Have x k) (mark OpenBracket) (At [] (Want (indexing x k))) ts a refl (not_fine k (depth k + height x) c h)

access_step : (a : FieldOperator) (x : Phrase) (k : Cont) → have (role (mark (access_mark a))) x k (mark (access_mark a)) ≡ to (Dotted x a k)
access_step FieldOperator.Dot x k = refl
access_step FieldOperator.Arrow x k = refl

pub access_goes : (a : FieldOperator) (x : Phrase) (k : Cont) (y : List Word) → depth k + height x < 64 → reads_within (mark (access_mark a) ∷ y) (At [] (Have x k)) ≡ reads_within y (At [] (Dotted x a k))
access_goes a x k y h =
    ap (λ o. next_within o (λ s. reads_within y s) (mark (access_mark a) ∷ y)) (access_step a x k)
    ∙ passes (At [] (Dotted x a k)) y (mark (access_mark a) ∷ y) (test_down (depth k + height x) h)

pub access_deep : (a : FieldOperator) (x : Phrase) (k : Cont) (ts : List Word) → IsAt (mark (access_mark a)) ts → 64 ≤ depth k + height x → reads_within ts (At [] (Have x k)) ≡ Over ts
access_deep a x k ts i h = deep (Have x k) (mark (access_mark a)) (At [] (Dotted x a k)) ts i (access_step a x k) (le-leb 64 (depth k + height x) h)

pub field_goes : (x : Phrase) (a : FieldOperator) (n : List ℕ) (k : Cont) (y : List Word) → crowded k ≡ false → reads_within (name n ∷ y) (At [] (Dotted x a k)) ≡ reads_within y (At [] (Have (field x a n) k))
field_goes x a n k y c = passes (At [] (Have (field x a n) k)) y (name n ∷ y) c

pub no_field : (x : Phrase) (a : FieldOperator) (k : Cont) (ts : List Word) → NoName ts → reads_within ts (At [] (Dotted x a k)) ≡ StuckAt ts
no_field x a k (name n ∷ y) h = absurd h
no_field x a k _ h = refl

not_open : (x : Phrase) (k : Cont) (t : Word) (y : List Word) → NoCall x (t ∷ y) → t ≡ mark OpenParenthesis → open_call x k ≡ None
not_open (identifier n) k t y h a = absurd (h a)
not_open _ k t y h a = refl

-- what is no call is not called
pub no_call : (x : Phrase) (k : Cont) (ts : List Word) → NoCall x ts → IsAt (mark OpenParenthesis) ts → reads_within ts (At [] (Have x k)) ≡ StuckAt ts
no_call x k [] h a = absurd a
no_call x k (t ∷ y) h a =
    ap (λ u. reads_within (u ∷ y) (At [] (Have x k))) a
    ∙ ap (λ o. next_within o (λ s. reads_within y s) (mark OpenParenthesis ∷ y)) (not_open x k t y h a)
    ∙ ap (λ u. StuckAt (u ∷ y)) (sym a)

-- what binds tighter than an operator has been looked for
pub ends_postfix : (ts : List Word) → NotAt (mark OpenBracket) ts → NoAccess ts → NotAt (mark OpenParenthesis) ts → grip ts ≤ 11
ends_postfix (mark OpenBracket ∷ y) b a o = absurd (b refl)
ends_postfix (mark Dot ∷ y) b a o = absurd (a FieldOperator.Dot refl)
ends_postfix (mark Arrow ∷ y) b a o = absurd (a FieldOperator.Arrow refl)
ends_postfix (mark OpenParenthesis ∷ y) b a o = absurd (o refl)
ends_postfix _ b a o = omega arith

-- a closing word that is missing

-- the next word does not end the expression there
abbrev pub EndsNot : Cont → Phrase → List Word → Type 0
EndsNot k x [] = Unit {0}
EndsNot k x (t ∷ y) = end_at x k t ≡ None

closed_role : (r : Role) (k : Cont) (x : Phrase) (t : Word) → role t ≡ r → IsClosed k → grip_of r < max 1 (floor k) → end_at x k t ≡ None → have r x k t ≡ None
closed_role (Operating o) k x t i h g e =
    ap (λ (s : Phrase × Cont). shift o s.0 s.1) (closed_settles (strength o) x k h)
    ∙ ap (λ b. cond b (to (Want (right_of x o k))) (counted o x k)) (lt-leb (floor k) (strength o) (omega (arith, some_strength o)))
    ∙ closed_counts o x k h
closed_role Ending k x t i h g e = ap (λ (s : Phrase × Cont). end_at s.0 s.1 t) (closed_settles 0 x k h) ∙ e
closed_role _ k x t i h g e = absurd (omega (arith, floor_most k))

pub closed_stuck : (k : Cont) (x : Phrase) (ts : List Word) → IsClosed k → grip ts < max 1 (floor k) → EndsNot k x ts → reads_within ts (At [] (Have x k)) ≡ StuckAt ts
closed_stuck k x [] h g e = refl
closed_stuck k x (t ∷ y) h g e = ap (λ o. next_within o (λ s. reads_within y s) (t ∷ y)) (closed_role (role t) k x t refl h g e)

front_not : (h : Front) (x : Phrase) (k : Cont) (ts : List Word) → NotAt (mark CloseParenthesis) ts → EndsNot (fronted h k) x ts
front_not h x k [] n = tt
front_not h x k (mark CloseParenthesis ∷ y) n = absurd (n refl)
front_not h x k (_ ∷ y) n = refl

-- the `)` is missing
pub front_missing : (h : Front) (x : Phrase) (k : Cont) (ts : List Word) → NotAt (mark CloseParenthesis) ts → grip ts < max 1 (front_level h) → reads_within ts (At [] (Have x (fronted h k))) ≡ StuckAt ts
front_missing h x k ts n g = closed_stuck (fronted h k) x ts tt g (front_not h x k ts n)

-- arguments

pub phrases_more : (list : List Expr) (e : Expr) → phrases_of (list ++ e ∷ []) ≡ with_last (phrases_of list) (phrase_of e)
phrases_more [] e = refl
phrases_more (a ∷ rest) e = ap (more (phrase_of a)) (phrases_more rest e)

highest_more : (all : Phrases) (x : Phrase) → highest (with_last all x) ≡ max (highest all) (height x)
highest_more none x = omega arith
highest_more (more a rest) x = omega (arith, highest_more rest x)

pub rest_size_more : (all : Phrases) (x : Phrase) → rest_size (with_last all x) ≡ rest_size all + size x + 1
rest_size_more none x = omega arith
rest_size_more (more a rest) x = omega (arith, rest_size_more rest x)

pub sizes_more : (all : Phrases) (x : Phrase) → sizes (with_last all x) + 1 ≡ rest_size (with_last all x)
sizes_more none x = omega arith
sizes_more (more a rest) x = omega arith

pub arguments_more : (s : ℕ → Site) (n m : ℕ) (all : Phrases) (x : Phrase) → m ≡ n + rest_size all → arguments_at s n (with_last all x) ≡ tree.with_argument (arguments_at s n all) (expression_at s m x)
arguments_more s n m none x h = ap (λ i. tree.argument (expression_at s i x) tree.no_arguments) (omega (arith, h))
arguments_more s n m (more a rest) x h = ap (tree.argument (expression_at s n a)) (arguments_more s (n + size a + 1) m rest x (omega (arith, h)))

-- the list of arguments is one longer
pub record Longer (s : ℕ → Site) (n m : ℕ) (list all : List Expr) (e : Expr) : Type 0 where
  pub phrases : phrases_of all ≡ with_last (phrases_of list) (phrase_of e)
  pub stands : view_arguments all ≡ arguments_at s n (phrases_of all)
  pub rest_is : rest_size (phrases_of all) ≡ rest_size (phrases_of list) + size (phrase_of e) + 1
  pub sizes_is : sizes (phrases_of all) + 1 ≡ rest_size (phrases_of all)
  pub highest_is : highest (phrases_of all) ≡ max (highest (phrases_of list)) (height (phrase_of e))

pub longer : (s : ℕ → Site) (n m : ℕ) (list all : List Expr) (e : Expr) → all ≡ list ++ e ∷ [] → view_arguments list ≡ arguments_at s n (phrases_of list) → m ≡ n + rest_size (phrases_of list) → view_expr e ≡ expression_at s m (phrase_of e) → Longer s n m list all e
longer s n m list all e is placed at stands =
    let p : phrases_of all ≡ with_last (phrases_of list) (phrase_of e) = ap phrases_of is ∙ phrases_more list e in
    record {
      phrases = p;
      stands = cc (is, p, placed, stands, view_arguments-push list e, arguments_more s n m (phrases_of list) (phrase_of e) at);
      rest_is = ap rest_size p ∙ rest_size_more (phrases_of list) (phrase_of e);
      sizes_is = ap (λ z. sizes z + 1) p ∙ sizes_more (phrases_of list) (phrase_of e) ∙ ap rest_size (sym p);
      highest_is = ap highest p ∙ highest_more (phrases_of list) (phrase_of e);
    }

pub last_argument : (f : List ℕ) (k : Cont) (y : List Word) (all before : Phrases) (x : Phrase) → all ≡ with_last before x → crowded k ≡ false → reads_within (mark CloseParenthesis ∷ y) (At [] (Have x (arguments f before k))) ≡ reads_within y (At [] (Have (call f all) k))
last_argument f k y all before x is c =
    passes (At [] (Have (call f (with_last before x)) k)) y (mark CloseParenthesis ∷ y) c
    ∙ ap (λ v. reads_within y (At [] (Have (call f v) k))) (sym is)

pub next_argument : (f : List ℕ) (k : Cont) (y : List Word) (all before : Phrases) (x : Phrase) → all ≡ with_last before x → crowded k ≡ false → depth k < 64 → reads_within (mark Comma ∷ y) (At [] (Have x (arguments f before k))) ≡ reads_within y (At [] (Want (arguments f all k)))
next_argument f k y all before x is c d =
    passes (At [] (Want (arguments f (with_last before x) k))) y (mark Comma ∷ y) (fine k (depth k) c d)
    ∙ ap (λ v. reads_within y (At [] (Want (arguments f v k)))) (sym is)

-- a tree made of trees at their tokens

over_view : (s : ℕ → Site) (n : ℕ) (x : Expr) (made : tree.Expression) → view_expr x ≡ made → made ≡ expression_at s n (bare made) → view_expr x ≡ expression_at s n (bare (view_expr x))
over_view s n x made e h = e ∙ h ∙ ap (λ v. expression_at s n (bare v)) (sym e)

pub binary_stands : (s : ℕ → Site) (n m : ℕ) (x : Expr) (sp : Span) (o : BinaryOperator) (pl : Site) (va vb : tree.Expression) → view_expr x ≡ tree.binary sp o pl va vb → sp ≡ span_at s n (size (bare va) + size (bare vb) + 1) → pl ≡ s (n + size (bare va)) → va ≡ expression_at s n (bare va) → vb ≡ expression_at s m (bare vb) → m ≡ n + size (bare va) + 1 → view_expr x ≡ expression_at s n (bare (view_expr x))
binary_stands s n m x sp o pl va vb e a b c d f = over_view s n x (tree.binary sp o pl va vb) e (cc)

abbrev named_at : Site → List ℕ → Identifier
named_at z text = record { site = z; text = text }

name_stands : (s : ℕ → Site) (m k : ℕ) (i : Identifier) → i.site ≡ s m → m ≡ k → i ≡ name_at s k i.text
name_stands s m k i e f = ap (λ (z : Site). named_at z i.text) (e ∙ ap s f)

pub field_stands : (s : ℕ → Site) (n m : ℕ) (x : Expr) (sp : Span) (va : tree.Expression) (a : FieldOperator) (i : Identifier) → view_expr x ≡ tree.field sp va a i → sp ≡ span_at s n (size (bare va) + 2) → va ≡ expression_at s n (bare va) → i.site ≡ s m → m ≡ n + size (bare va) + 1 → view_expr x ≡ expression_at s n (bare (view_expr x))
field_stands s n m x sp va a i e b c d f = over_view s n x (tree.field sp va a i) e (let h = name_stands s m (n + size (bare va) + 1) i d f in cc)

front_stands : (tokens : List Token) (n mid : ℕ) (sp : Span) (f : ParsedFront) (va : tree.Expression) → sp ≡ span_at (site_in tokens) n (front_size (bare_front f) + size (bare va) + 1) → StandsFront f tokens n → va ≡ expression_at (site_in tokens) mid (bare va) → mid ≡ n + front_size (bare_front f) → (front_tree sp f va ≡ expression_at (site_in tokens) n (bare (front_tree sp f va))) × (size (bare (front_tree sp f va)) ≡ front_size (bare_front f) + size (bare va) + 1)
front_stands tokens n mid sp (fronts.Spawn f) va a b c d = (let h = name_stands (site_in tokens) (n + 2) (n + 2) f b refl in cc, refl)
front_stands tokens n mid sp _ va a b c d = (cc, refl)

pub front_placed : (result : Result ParsedExpr ReadingFault) (tokens : List Token) (old mid new h : ℕ) (sp : Span) (f : ParsedFront) (va : tree.Expression) → Builds result (front_tree sp f va) h → sp ≡ span_at (site_in tokens) old (front_size (bare_front f) + size (bare va) + 1) → StandsFront f tokens old → mid ≡ old + front_size (bare_front f) → va ≡ expression_at (site_in tokens) mid (bare va) → new ≡ mid + size (bare va) + 1 → IsPlaced result tokens old new
front_placed (Ok r) tokens old mid new h sp f va b a g d c e =
    let z = front_stands tokens old mid sp f va a g c d in
    (over_view (site_in tokens) old r.expr (front_tree sp f va) b.0 z.0, omega (arith, e, d, z.1, ap (λ v. size (bare v)) b.0))
front_placed (Err x) tokens old mid new h sp f va b a g d c e = tt
