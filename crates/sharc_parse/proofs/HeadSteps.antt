-- The machine's steps over the head of a `for`, and over what a `return` gives.
use Rattle.sharc_parse.proofs.{Imports.{◌≡◌, ℕ, ◌+◌, ◌≤◌, ◌<◌, List, [], ◌∷◌, Option, Some, None, refl, ap, ◌∙◌, arith, true, false, lt-leb, Semicolon, OpenParenthesis, CloseParenthesis, Token, Expr, Simple, ForFirst, view_expr, view_option, view_simple, view_first, Word, mark, Phrase, Doing, Line, Outer, inside, as_first, as_step, Cont, part, subject, Want, Have, Start, ForOpen, ForTest, ForStep, an_open, At, leave, loop, floor, grip, StuckAt, next_within, reads_within, around_it, depth, crowded, site_in, line_size, option_size, first_at, option_at, step_at, NotAt, NoMalloc, from, Past, doing_state, EndsDoing, doing_within, line_within, line_of, ReadsLine, IsLinePlaced, Tail, by_return, by_test, tail_place, before_tail, behind_tail, ReadsTail, IsTailPlaced, step_of, ReadsStep, IsStepPlaced, ReadsHead, IsHeadPlaced, ReadingFault, Memory, option_of, Ok, Err}, Steps.{passes, fixed_goes}, RightSteps.ends_place, SimpleSteps.doing_ends}

-- an expression that may be left out

empty_goes : (q : Tail) (o : Outer) (y : List Word) → reads_within (mark Semicolon ∷ y) (before_tail q o) ≡ reads_within y (behind_tail q o None)
empty_goes by_return o y = refl
empty_goes (by_test l) o y = refl

pub tail_empty : (q : Tail) (o : Outer) (ts y : List Word) → ts ≡ mark Semicolon ∷ y → reads_within ts (before_tail q o) ≡ reads_within y (behind_tail q o None)
tail_empty q o ts y e = ap (λ ts. reads_within ts (before_tail q o)) e ∙ empty_goes q o y

pub tail_begins : (q : Tail) (o : Outer) (ts : List Word) → NotAt (mark Semicolon) ts → reads_within ts (before_tail q o) ≡ reads_within ts (At [] (Want (part (tail_place q) o)))
tail_begins by_return o (mark Semicolon ∷ y) n = absurd (n refl)
tail_begins (by_test l) o (mark Semicolon ∷ y) n = absurd (n refl)
tail_begins _ o _ n = refl

pub record FitsThere (k : Cont) (all : List Word) : Type 0 where
  pub floor_is : floor k ≤ 1
  pub depth_is : depth k + 64 ≡ 64
  pub crowded_is : crowded k ≡ false
  pub no_malloc : NoMalloc k all

-- where the expression is
pub tail_fits : (q : Tail) (o : Outer) (all : List Word) → FitsThere (part (tail_place q) o) all
tail_fits by_return o all = record { floor_is = omega arith; depth_is = refl; crowded_is = refl; no_malloc = tt }
tail_fits (by_test l) o all = record { floor_is = omega arith; depth_is = refl; crowded_is = refl; no_malloc = tt }

ends_goes : (q : Tail) (o : Outer) (x : Phrase) (y : List Word) → next_within (leave (tail_place q) x o (mark Semicolon)) (λ s. reads_within y s) (mark Semicolon ∷ y) ≡ reads_within y (behind_tail q o (Some x))
ends_goes by_return o x y = refl
ends_goes (by_test l) o x y = refl

pub tail_ends : (q : Tail) (o : Outer) (x : Phrase) (ts y : List Word) → ts ≡ mark Semicolon ∷ y → reads_within ts (At [] (Have x (part (tail_place q) o))) ≡ reads_within y (behind_tail q o (Some x))
tail_ends q o x ts y e =
    ap (λ ts. reads_within ts (At [] (Have x (part (tail_place q) o)))) e
    ∙ ends_place (tail_place q) o x (mark Semicolon) y (omega arith)
    ∙ ends_goes q o x y

tail_no : (q : Tail) (o : Outer) (x : Phrase) (t : Word) → (t ≡ mark Semicolon → ⊥) → leave (tail_place q) x o t ≡ None
tail_no by_return o x (mark Semicolon) n = absurd (n refl)
tail_no (by_test l) o x (mark Semicolon) n = absurd (n refl)
tail_no _ o x _ n = refl

-- the `;` is missing
pub tail_stuck : (q : Tail) (o : Outer) (x : Phrase) (ts : List Word) → grip ts < 1 → NotAt (mark Semicolon) ts → reads_within ts (At [] (Have x (part (tail_place q) o))) ≡ StuckAt ts
tail_stuck q o x [] g n = refl
tail_stuck q o x (t ∷ y) g n = ends_place (tail_place q) o x t y g ∙ ap (λ v. next_within v (λ s. reads_within y s) (t ∷ y)) (tail_no q o x t n)

-- the last part of the head

closes : (l : Line) (e : Option Phrase) (x : Option Doing) (o : Outer) (y : List Word) → around_it o < 63 → next_within (Some (At [] (Start (inside (loop l e x) o)))) (λ s. reads_within y s) (mark CloseParenthesis ∷ y) ≡ reads_within y (At [] (Start (inside (loop l e x) o)))
closes l e x o y h = passes (At [] (Start (inside (loop l e x) o))) y (mark CloseParenthesis ∷ y) (lt-leb 63 (around_it o) h)

pub step_empty : (l : Line) (e : Option Phrase) (o : Outer) (ts y : List Word) → ts ≡ mark CloseParenthesis ∷ y → around_it o < 63 → reads_within ts (At [] (ForStep l e o)) ≡ reads_within y (At [] (Start (inside (loop l e None) o)))
step_empty l e o ts y is h = ap (λ ts. reads_within ts (At [] (ForStep l e o))) is ∙ closes l e None o y h

pub step_begins : (l : Line) (e : Option Phrase) (o : Outer) (ts : List Word) → NotAt (mark CloseParenthesis) ts → reads_within ts (At [] (ForStep l e o)) ≡ reads_within ts (At [] (Want (part (subject (as_step l e)) o)))
step_begins l e o (mark CloseParenthesis ∷ y) n = absurd (n refl)
step_begins l e o _ n = refl

pub step_ends : (l : Line) (e : Option Phrase) (o : Outer) (x : Doing) (ts y : List Word) → ts ≡ mark CloseParenthesis ∷ y → EndsDoing x ts → around_it o < 63 → reads_within ts (doing_state (as_step l e) o x) ≡ reads_within y (At [] (Start (inside (loop l e (Some x)) o)))
step_ends l e o x ts y is f h = doing_ends (as_step l e) o x ts f ∙ ap (doing_within (as_step l e) x o) is ∙ closes l e (Some x) o y h

step_not : (l : Line) (e : Option Phrase) (o : Outer) (x : Doing) (ts : List Word) → NotAt (mark CloseParenthesis) ts → doing_within (as_step l e) x o ts ≡ StuckAt ts
step_not l e o x (mark CloseParenthesis ∷ y) n = absurd (n refl)
step_not l e o x _ n = refl

pub step_stuck : (l : Line) (e : Option Phrase) (o : Outer) (x : Doing) (ts : List Word) → EndsDoing x ts → NotAt (mark CloseParenthesis) ts → reads_within ts (doing_state (as_step l e) o x) ≡ StuckAt ts
step_stuck l e o x ts f n = doing_ends (as_step l e) o x ts f ∙ step_not l e o x ts n

-- the first part of the head

pub for_opens : (o : Outer) (y : List Word) → around_it o < 63 → reads_within (mark OpenParenthesis ∷ y) (At (an_open ∷ []) (ForOpen o)) ≡ reads_within y (At [] (ForOpen o))
for_opens o y h = fixed_goes an_open [] (ForOpen o) y (lt-leb 63 (around_it o) h)

pub for_begins : (o : Outer) (ts : List Word) → reads_within ts (At [] (ForOpen o)) ≡ line_within as_first o ts
for_begins o [] = refl
for_begins o (t ∷ y) = refl

-- the whole head

head_first : (tokens : List Token) (old mid new : ℕ) (f : ForFirst) → Past (mark OpenParenthesis) tokens old mid → ReadsLine true false (Ok f) (from tokens mid) (from tokens new) → (o : Outer) → around_it o < 63 → reads_within (from tokens old) (At (an_open ∷ []) (ForOpen o)) ≡ reads_within (from tokens new) (At [] (ForTest (line_of f) o))
head_first tokens old mid new f s r o h =
    ap (λ ts. reads_within ts (At (an_open ∷ []) (ForOpen o))) s.0
    ∙ for_opens o (from tokens mid) h
    ∙ for_begins o (from tokens mid)
    ∙ r as_first o refl refl

pub head_test_wrong : (e : ReadingFault) (tokens : List Token) (old mid next new : ℕ) (f : ForFirst) → Past (mark OpenParenthesis) tokens old mid → ReadsLine true false (Ok f) (from tokens mid) (from tokens next) → ReadsTail (Err e) (from tokens next) (from tokens new) → ReadsHead (Err e) (from tokens old) (from tokens new)
head_test_wrong Memory tokens old mid next new f s r t o h = tt
head_test_wrong _ tokens old mid next new f s r t o h = head_first tokens old mid next f s r o h ∙ t (by_test (line_of f)) o

head_second : (tokens : List Token) (old mid next new : ℕ) (f : ForFirst) (x : Option Expr) → Past (mark OpenParenthesis) tokens old mid → ReadsLine true false (Ok f) (from tokens mid) (from tokens next) → ReadsTail (Ok x) (from tokens next) (from tokens new) → (o : Outer) → around_it o < 63 → reads_within (from tokens old) (At (an_open ∷ []) (ForOpen o)) ≡ reads_within (from tokens new) (At [] (ForStep (line_of f) (option_of x) o))
head_second tokens old mid next new f x s r t o h = head_first tokens old mid next f s r o h ∙ t (by_test (line_of f)) o

pub head_step_wrong : (e : ReadingFault) (tokens : List Token) (old mid next last new : ℕ) (f : ForFirst) (x : Option Expr) → Past (mark OpenParenthesis) tokens old mid → ReadsLine true false (Ok f) (from tokens mid) (from tokens next) → ReadsTail (Ok x) (from tokens next) (from tokens last) → ReadsStep (Err e) (from tokens last) (from tokens new) → ReadsHead (Err e) (from tokens old) (from tokens new)
head_step_wrong Memory tokens old mid next last new f x s r t z o h = tt
head_step_wrong _ tokens old mid next last new f x s r t z o h = head_second tokens old mid next last f x s r t o h ∙ z (line_of f) (option_of x) o h

pub head_done : (tokens : List Token) (old mid next last new : ℕ) (f : ForFirst) (x : Option Expr) (y : Option Simple) → Past (mark OpenParenthesis) tokens old mid → ReadsLine true false (Ok f) (from tokens mid) (from tokens next) → ReadsTail (Ok x) (from tokens next) (from tokens last) → ReadsStep (Ok y) (from tokens last) (from tokens new) → ReadsHead (Ok (record { first = f; test = x; step = y })) (from tokens old) (from tokens new)
head_done tokens old mid next last new f x y s r t z o h = head_second tokens old mid next last f x s r t o h ∙ z (line_of f) (option_of x) o h

pub head_placed : (tokens : List Token) (old mid next last new : ℕ) (f : ForFirst) (x : Option Expr) (y : Option Simple) → Past (mark OpenParenthesis) tokens old mid → IsLinePlaced (Ok f) tokens mid next → IsTailPlaced (Ok x) tokens next last → IsStepPlaced (Ok y) tokens last new → IsHeadPlaced (Ok (record { first = f; test = x; step = y })) tokens old new
head_placed tokens old mid next last new f x y s a b z = λ n h.
    let first : view_first f ≡ first_at (site_in tokens) (n + 2) (line_of f) = a.0 ∙ ap (λ i. first_at (site_in tokens) i (line_of f)) (omega (arith, s.1, h)) in
    let test : view_option view_expr x ≡ option_at (site_in tokens) (n + line_size (line_of f) + 2) (option_of x) = b.0 ∙ ap (λ i. option_at (site_in tokens) i (option_of x)) (omega (arith, s.1, h, a.1)) in
    let step : view_option view_simple y ≡ step_at (site_in tokens) (n + line_size (line_of f) + option_size (option_of x) + 3) (step_of y) = z.0 ∙ ap (λ i. step_at (site_in tokens) i (step_of y)) (omega (arith, s.1, h, a.1, b.1)) in (
      cc (first, test, step),
      omega (arith, s.1, h, a.1, b.1, z.1),
    )
