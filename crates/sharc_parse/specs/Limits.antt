-- The limits on height, stars and nesting, and the machine within them.
use Rattle.std.specs.Prelude.{◌≡◌, ℕ, ◌+◌, ◌≤◌, max, List, [], ◌∷◌, ◌++◌, length, Option, Some, None, Bool, true, false}
use Rattle.std.specs.Prelude.{nat_le, cond}
use Rattle.sharc_parse.specs.Grammar.{Word, Sharing, Typing, Declaring, Front, of_cast, Phrase, identifier, constant}
use Rattle.sharc_parse.specs.Grammar.{enclosed, call, index, field, unary, binary, Phrases, none, more, Value, value}
use Rattle.sharc_parse.specs.Grammar.{malloc, Doing, assign, invoke, Line, nothing, does, declares, Sentence, line}
use Rattle.sharc_parse.specs.Grammar.{jump, return, block, under, Sentences, no_more, sentence, Opening, if_of, else_of}
use Rattle.sharc_parse.specs.Grammar.{while_of, for_of, Part, structure, global, function, program_words, IsProgram}
use Rattle.sharc_parse.specs.Grammar.{Begins, EndsAt}
use Rattle.sharc_parse.specs.Machine.{Outer, body, items, inside, LinePlace, as_statement, as_first, DoingPlace}
use Rattle.sharc_parse.specs.Machine.{in_line, as_step, ExpressionPlace, condition, subject, Cont, part, beneath}
use Rattle.sharc_parse.specs.Machine.{right_of, fronted, indexing, arguments, TypePlace, casting, Core, Want, Have}
use Rattle.sharc_parse.specs.Machine.{Called, Dotted, Spawning, Start, Done, Returning, ForOpen, TypeWant, Typed, State}
use Rattle.sharc_parse.specs.Machine.{At, fields, step, Outcome, Read, Stuck, finish}

-- operators, indexes, fields, calls, casts and parentheses on the longest way down
abbrev mutual
  pub height : Phrase → ℕ
  height (identifier n) = 0
  height (constant c) = 0
  height (enclosed f a) = height a + 1
  height (call f all) = highest all + 1
  height (index a i) = max (height a) (height i) + 1
  height (field a w n) = height a + 1
  height (unary o a) = height a + 1
  height (binary o a b) = max (height a) (height b) + 1

  pub highest : Phrases → ℕ
  highest none = 0
  highest (more a rest) = max (height a) (highest rest)

-- a type with n stars has n + 1 levels
abbrev pub stars_in : List (Option Sharing) → ℕ
stars_in [] = 0
stars_in (m ∷ below) = length below

abbrev pub FewStars : Typing → Type 0
FewStars t = stars_in t.levels ≤ 8

abbrev pub FewFront : Front → Type 0
FewFront (of_cast t) = FewStars t
FewFront _ = Unit {0}

-- no cast in it has a type with more than 8 stars
abbrev mutual
  pub Few : Phrase → Type 0
  Few (identifier n) = Unit {0}
  Few (constant c) = Unit {0}
  Few (enclosed f a) = FewFront f × Few a
  Few (call f all) = FewAll all
  Few (index a i) = Few a × Few i
  Few (field a w n) = Few a
  Few (unary o a) = Few a
  Few (binary o a b) = Few a × Few b

  pub FewAll : Phrases → Type 0
  FewAll none = Unit {0}
  FewAll (more a rest) = Few a × FewAll rest

abbrev pub Low : Phrase → Type 0
Low e = (height e ≤ 64) × Few e

abbrev pub LowOption : Option Phrase → Type 0
LowOption None = Unit {0}
LowOption (Some e) = Low e

-- the count of a malloc begins at height 0
abbrev pub LowValue : Value → Type 0
LowValue (value e) = Low e
LowValue (malloc n t) = LowOption n × FewStars t

abbrev pub LowDoing : Doing → Type 0
LowDoing (assign u r) = Low u × LowValue r
LowDoing (invoke e) = Low e

abbrev pub LowInitial : Option Value → Type 0
LowInitial None = Unit {0}
LowInitial (Some r) = LowValue r

abbrev pub LowLine : Line → Type 0
LowLine nothing = Unit {0}
LowLine (does x) = LowDoing x
LowLine (declares l) = FewStars l.declaring.typing × LowInitial l.initial

abbrev pub LowStep : Option Doing → Type 0
LowStep None = Unit {0}
LowStep (Some x) = LowDoing x

-- no expression and no type in it is over its limit
abbrev mutual
  pub LowSentence : Sentence → Type 0
  LowSentence (line l) = LowLine l
  LowSentence (jump j) = Unit {0}
  LowSentence (return e) = LowOption e
  LowSentence (block all) = LowAll all
  LowSentence (under w s) = LowOpening w × LowSentence s

  pub LowAll : Sentences → Type 0
  LowAll no_more = Unit {0}
  LowAll (sentence s rest) = LowSentence s × LowAll rest

  pub LowOpening : Opening → Type 0
  LowOpening (if_of e) = Low e
  LowOpening (else_of e s) = Low e × LowSentence s
  LowOpening (while_of e) = Low e
  LowOpening (for_of l) = LowLine l.first × LowOption l.test × LowStep l.step

-- a declaration is no statement
abbrev pub line_nesting : Line → ℕ
line_nesting (declares l) = 0
line_nesting _ = 1

-- statements on the longest way in
abbrev mutual
  pub nesting : Sentence → ℕ
  nesting (line l) = line_nesting l
  nesting (jump j) = 1
  nesting (return e) = 1
  nesting (block all) = deepest all + 1
  nesting (under w s) = max (nesting_before w) (nesting s) + 1

  pub deepest : Sentences → ℕ
  deepest no_more = 0
  deepest (sentence s rest) = max (nesting s) (deepest rest)

  pub nesting_before : Opening → ℕ
  nesting_before (if_of e) = 0
  nesting_before (else_of e s) = nesting s
  nesting_before (while_of e) = 0
  nesting_before (for_of l) = 0

abbrev pub FewGiven : List Declaring → Type 0
FewGiven [] = Unit {0}
FewGiven (d ∷ rest) = FewStars d.typing × FewGiven rest

-- the body of a function is itself a statement
abbrev pub LowPart : Part → Type 0
LowPart (structure n fields) = FewGiven fields
LowPart (global d form) = FewStars d.typing
LowPart (function f) = FewStars f.result × FewGiven f.parameters × LowAll f.body × (deepest f.body + 1 ≤ 64)

-- a program within the limits
abbrev pub LowProgram : List Part → Type 0
LowProgram [] = Unit {0}
LowProgram (p ∷ rest) = LowPart p × LowProgram rest

-- these words begin a program within the limits
abbrev pub BeginsWithin : List Word → Type 0
BeginsWithin before =
    (p : List Part) × IsProgram p × LowProgram p × (rest : List Word) × (program_words p [] ≡ before ++ rest)

-- the words before it begin a program within the limits, and with it they begin none at all
pub record FirstWrong (all rest : List Word) : Type 0 where
  pub before : List Word
  pub whole : all ≡ before ++ rest
  pub begins : BeginsWithin before
  pub ends : EndsAt before rest

-- with the first word of the rest they begin a program, but none within the limits
abbrev pub Exceeds : List Word → List Word → Type 0
Exceeds before [] = ⊥
Exceeds before (t ∷ rest) = Begins (before ++ t ∷ []) × (BeginsWithin (before ++ t ∷ []) → ⊥)

pub record FirstExcess (all rest : List Word) : Type 0 where
  pub before : List Word
  pub whole : all ≡ before ++ rest
  pub begins : BeginsWithin before
  pub exceeds : Exceeds before rest

-- how many levels are above an operand
abbrev pub depth : Cont → ℕ
depth (part p o) = 0
depth (beneath u k) = depth k + 1
depth (right_of a o k) = depth k + 1
depth (fronted f k) = depth k + 1
depth (indexing a k) = depth k + 1
depth (arguments f all k) = depth k + 1

-- how many statements are around it
abbrev pub around_it : Outer → ℕ
around_it (body all r f given s) = 1
around_it (items all o) = around_it o + 1
around_it (inside w o) = around_it o + 1

-- whether an expression begins a statement where none may be
abbrev pub crowded_line : LinePlace → Outer → Bool
crowded_line as_statement o = nat_le 64 (around_it o)
crowded_line as_first o = false

abbrev pub crowded_doing : DoingPlace → Outer → Bool
crowded_doing (in_line p) o = crowded_line p o
crowded_doing (as_step l e) o = false

abbrev pub crowded_place : ExpressionPlace → Outer → Bool
crowded_place (subject d) o = crowded_doing d o
crowded_place _ o = false

abbrev pub crowded : Cont → Bool
crowded (part p o) = crowded_place p o
crowded (beneath u k) = crowded k
crowded (right_of a o k) = crowded k
crowded (fronted f k) = crowded k
crowded (indexing a k) = crowded k
crowded (arguments f all k) = crowded k

abbrev pub over_place : ExpressionPlace → Outer → Bool
over_place (condition q) o = nat_le 63 (around_it o)
over_place _ o = false

-- whether the newest level is over the limit
abbrev pub over_at : Cont → Bool
over_at (part p o) = over_place p o
over_at (beneath u k) = nat_le 64 (depth k)
over_at (right_of a o k) = nat_le 64 (depth k + height a)
over_at (fronted f k) = nat_le 64 (depth k)
over_at (indexing a k) = nat_le 64 (depth k + height a)
over_at (arguments f all k) = nat_le 64 (depth k)

abbrev pub over_start : Outer → Bool
over_start (inside w o) = nat_le 63 (around_it o)
over_start (items all o) = nat_le 64 (around_it o)
over_start (body all r f given s) = false

abbrev pub over_done : Sentence → Outer → Bool
over_done (line nothing) o = nat_le 64 (around_it o)
over_done (jump j) o = nat_le 64 (around_it o)
over_done _ o = false

abbrev pub over_cast : TypePlace → Bool
over_cast (casting k) = cond (crowded k) true (nat_le 64 (depth k))
over_cast _ = false

abbrev pub over_core : Core → Bool
over_core (Want k) = cond (crowded k) true (over_at k)
over_core (Have x k) = crowded k
over_core (Called f k) = nat_le 64 (depth k)
over_core (Dotted x a k) = nat_le 64 (depth k + height x)
over_core (Spawning k) = cond (crowded k) true (nat_le 64 (depth k))
over_core (Start o) = over_start o
over_core (Done s o) = over_done s o
over_core (Returning o) = nat_le 64 (around_it o)
over_core (ForOpen o) = nat_le 63 (around_it o)
over_core (TypeWant p) = over_cast p
over_core (Typed p first b m below) = nat_le 9 (length below)
over_core _ = false

-- whether the word that led here has passed a limit
abbrev pub over : State → Bool
over (At fs c) = over_core c

-- the program of all words, or the words from the first on with which none goes on, or none within the limits
pub data Limited : Type 0 where
  ReadWithin : List Part → Limited
  StuckAt : List Word → Limited
  Over : List Word → Limited

abbrev pub lifted : Outcome → Limited
lifted (Read p) = ReadWithin p
lifted (Stuck rest) = StuckAt rest

abbrev pub next_within : Option State → (State → Limited) → List Word → Limited
next_within None f all = StuckAt all
next_within (Some n) f all = cond (over n) (Over all) (f n)

abbrev pub reads_within : List Word → State → Limited
reads_within [] s = lifted (finish s)
reads_within (t ∷ ts) s = next_within (step s t) (λ n. reads_within ts n) (t ∷ ts)
