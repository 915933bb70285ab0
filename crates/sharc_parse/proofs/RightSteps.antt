-- The machine's steps over the right side of `=`.
use Rattle.sharc_parse.proofs.{Imports.{◌≡◌, ◌≤◌, ◌<◌, List, [], ◌∷◌, Option, Some, None, refl, ap, arith, Bool, false, map, Ok, Keyword, OpenParenthesis, CloseParenthesis, OpenBrace, OpenBracket, Dot, Arrow, Comma, Star, Base, WrittenType, Word, name, keyword, mark, Sharing, Phrase, Value, value, malloc, Outer, ValuePlace, ExpressionPlace, part, valued, counting, Want, Have, Malloced, Valued, TypeWant, sizing, an_open, a_close, a_sizeof, At, Role, Operating, Ending, role, grip_of, grip, have, leave, level_step, StuckAt, next_within, reads_within, bare_level, bare_type, NotAt, EndsLevels, EndsType, typed_levels, typed_state, EndsValue, valued_state, value_within}, Steps.some_strength, TypeSteps.typing_with}

pub malloc_goes : (v : ValuePlace) (o : Outer) (y : List Word) → reads_within (keyword Keyword.Malloc ∷ y) (At [] (Want (part (valued v) o))) ≡ reads_within y (At (an_open ∷ []) (Malloced v o))
malloc_goes v o y = refl

pub malloc_opens : (v : ValuePlace) (o : Outer) (y : List Word) → reads_within (mark OpenParenthesis ∷ y) (At (an_open ∷ []) (Malloced v o)) ≡ reads_within y (At [] (Malloced v o))
malloc_opens v o y = refl

-- counts

pub count_begins : (v : ValuePlace) (o : Outer) (ts : List Word) → NotAt (keyword Keyword.Sizeof) ts → reads_within ts (At [] (Malloced v o)) ≡ reads_within ts (At [] (Want (part (counting v) o)))
count_begins v o (keyword Keyword.Sizeof ∷ y) h = absurd (h refl)
count_begins v o _ h = refl

pub sizeof_goes : (v : ValuePlace) (o : Outer) (y : List Word) → reads_within (keyword Keyword.Sizeof ∷ y) (At [] (Malloced v o)) ≡ reads_within y (At (an_open ∷ []) (TypeWant (sizing v None o)))
sizeof_goes v o y = refl

pub count_goes : (v : ValuePlace) (o : Outer) (x : Phrase) (y : List Word) → reads_within (mark Star ∷ y) (At [] (Have x (part (counting v) o))) ≡ reads_within y (At (a_sizeof ∷ (an_open ∷ [])) (TypeWant (sizing v (Some x) o)))
count_goes v o x y = refl

pub count_sizes : (v : ValuePlace) (o : Outer) (n : Option Phrase) (y : List Word) → reads_within (keyword Keyword.Sizeof ∷ y) (At (a_sizeof ∷ (an_open ∷ [])) (TypeWant (sizing v n o))) ≡ reads_within y (At (an_open ∷ []) (TypeWant (sizing v n o)))
count_sizes v o n y = refl

-- the `*` is missing
pub count_stuck : (v : ValuePlace) (o : Outer) (x : Phrase) (ts : List Word) → grip ts ≤ 11 → NotAt (mark Star) ts → reads_within ts (At [] (Have x (part (counting v) o))) ≡ StuckAt ts
count_stuck v o x (mark Star ∷ y) g s = absurd (s refl)
count_stuck v o x (mark OpenParenthesis ∷ y) g s = absurd (omega (arith, g))
count_stuck v o x (mark OpenBracket ∷ y) g s = absurd (omega (arith, g))
count_stuck v o x (mark Dot ∷ y) g s = absurd (omega (arith, g))
count_stuck v o x (mark Arrow ∷ y) g s = absurd (omega (arith, g))
count_stuck v o x _ g s = refl

-- what `sizeof` takes

pub size_opens : (v : ValuePlace) (o : Outer) (n : Option Phrase) (y : List Word) → reads_within (mark OpenParenthesis ∷ y) (At (an_open ∷ []) (TypeWant (sizing v n o))) ≡ reads_within y (At [] (TypeWant (sizing v n o)))
size_opens v o n y = refl

closes_levels : (v : ValuePlace) (o : Outer) (n : Option Phrase) (first : Bool) (b : Base) (levels : List (Option Sharing)) (y all : List Word) → EndsLevels false levels all → reads_within (mark CloseParenthesis ∷ y) (typed_levels (sizing v n o) first b levels) ≡ reads_within y (At (a_close ∷ []) (Valued v (malloc n (typing_with first b levels)) o))
closes_levels v o n first b [] y all e = absurd e
closes_levels v o n first b (m ∷ below) y all e = refl

pub size_closes : (v : ValuePlace) (o : Outer) (n : Option Phrase) (t : WrittenType) (y all : List Word) → EndsType false (Ok t) all → reads_within (mark CloseParenthesis ∷ y) (typed_state (sizing v n o) (bare_type t)) ≡ reads_within y (At (a_close ∷ []) (Valued v (malloc n (bare_type t)) o))
size_closes v o n t y all e = closes_levels v o n t.mode_first t.ctype.base (map bare_level t.ctype.levels) y all e

no_mode_there : (v : ValuePlace) (o : Outer) (n : Option Phrase) (first : Bool) (b : Base) (m : Option Sharing) (below : List (Option Sharing)) (t : Word) → level_step (sizing v n o) first b m below t ≡ None
no_mode_there v o n first b None below t = refl
no_mode_there v o n first b (Some s) below t = refl

stuck_levels : (v : ValuePlace) (o : Outer) (n : Option Phrase) (first : Bool) (b : Base) (levels : List (Option Sharing)) (ts : List Word) → EndsLevels false levels ts → NotAt (mark CloseParenthesis) ts → reads_within ts (typed_levels (sizing v n o) first b levels) ≡ StuckAt ts
stuck_levels v o n first b [] ts e c = absurd e
stuck_levels v o n first b (m ∷ below) [] e c = refl
stuck_levels v o n first b (m ∷ below) (mark Star ∷ y) e c = absurd (e.1 refl)
stuck_levels v o n first b (m ∷ below) (name x ∷ y) e c = refl
stuck_levels v o n first b (m ∷ below) (mark Comma ∷ y) e c = refl
stuck_levels v o n first b (m ∷ below) (mark CloseParenthesis ∷ y) e c = absurd (c refl)
stuck_levels v o n first b (m ∷ below) (mark OpenBrace ∷ y) e c = refl
stuck_levels v o n first b (m ∷ below) (t ∷ y) e c = ap (λ o. next_within o (λ s. reads_within y s) (t ∷ y)) (no_mode_there v o n first b m below t)

-- the first `)` is missing
pub size_stuck : (v : ValuePlace) (o : Outer) (n : Option Phrase) (t : WrittenType) (ts : List Word) → EndsType false (Ok t) ts → NotAt (mark CloseParenthesis) ts → reads_within ts (typed_state (sizing v n o) (bare_type t)) ≡ StuckAt ts
size_stuck v o n t ts e c = stuck_levels v o n t.mode_first t.ctype.base (map bare_level t.ctype.levels) ts e c

pub malloc_closes : (v : ValuePlace) (o : Outer) (r : Value) (y : List Word) → reads_within (mark CloseParenthesis ∷ y) (At (a_close ∷ []) (Valued v r o)) ≡ reads_within y (At [] (Valued v r o))
malloc_closes v o r y = refl

-- the end of a value

ending_role : (r : Role) (p : ExpressionPlace) (o : Outer) (x : Phrase) (t : Word) → grip_of r < 1 → have r x (part p o) t ≡ leave p x o t
ending_role (Operating b) p o x t g = absurd (omega (arith, g, some_strength b))
ending_role Ending p o x t g = refl
ending_role _ p o x t g = absurd (omega (arith, g))

pub ends_place : (p : ExpressionPlace) (o : Outer) (x : Phrase) (t : Word) (y : List Word) → grip (t ∷ y) < 1 → reads_within (t ∷ y) (At [] (Have x (part p o))) ≡ next_within (leave p x o t) (λ s. reads_within y s) (t ∷ y)
ends_place p o x t y g = ap (λ n. next_within n (λ s. reads_within y s) (t ∷ y)) (ending_role (role t) p o x t g)

pub value_ends : (v : ValuePlace) (o : Outer) (r : Value) (ts : List Word) → EndsValue r ts → reads_within ts (valued_state v o r) ≡ value_within v r o ts
value_ends v o (value x) [] e = refl
value_ends v o (value x) (t ∷ y) e = ends_place (valued v) o x t y e
value_ends v o (malloc n t) [] e = refl
value_ends v o (malloc n t) (u ∷ y) e = refl
