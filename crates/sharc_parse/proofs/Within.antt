-- From one core to the next: what was read fits, has the words that were read, and stays within the limits.
use Rattle.sharc_parse.proofs.{Imports.{◌≡◌, ℕ, ◌+◌, ◌≤◌, ◌<◌, List, [], ◌∷◌, length, Option, Some, None, refl, sym, ◌∙◌, arith, Bool, true, false, cond, leb-false, lt-leb, nat_le, Keyword, OpenParenthesis, CloseParenthesis, OpenBrace, CloseBrace, OpenBracket, CloseBracket, Semicolon, Comma, Arrow, Assign, Minus, Star, Exclamation, Tilde, Base, BinaryOperator, UnaryOperator, Negate, Not, Complement, Dereference, ValueCall, PlaceCall, Constant, Word, name, keyword, mark, number, character, Sharing, private, readonly, racy, dynamic, locked, locked_through, Typing, Declaring, Front, parenthesis, of_value, of_place, Phrase, identifier, constant, unary, binary, none, strength, Value, value, Doing, assign, invoke, Line, nothing, does, Sentence, line, jump, under, Opening, if_of, else_of, is_call, single, array, initially, Part, structure, global, Outer, body, items, inside, LinePlace, as_statement, as_first, DoingPlace, in_line, as_step, ValuePlace, of_doing, of_local, ExpressionPlace, condition, returning, testing, subject, valued, counting, Cont, part, beneath, right_of, fronted, indexing, arguments, NamePlace, on_top, field_of, parameter_of, local, TypePlace, naming, casting, sizing, ModePlace, before_base, at_level, Core, Want, Have, Called, Dotted, Spawning, Start, Done, Returning, ForOpen, ForTest, ForStep, Malloced, Valued, TypeWant, ModeFirst, StructWant, Typed, PathWant, PathNamed, PathThrough, Named, Fields, ArrayWant, InitialWant, InitialNegative, Top, Fixed, a_semicolon, a_bracket, State, At, or_else, to, Role, Calling, Indexing, Accessing, Operating, Ending, role, floor, settle, mallocs, want, open_call, lined, doing_end, local_line, local_end, value_end, subject_end, leave, end_at, counted, shift, have, typing_of, takes_modes, moded, mode_step, based, base_step, begin_type, level_step, typed, declaring_of, with_part, named, with_item, function_of, close_block, holds_items, line_start, start, is_else, done, core_step, height, FewStars, FewFront, Few, LowDoing, LowInitial, LowPart, LowProgram, depth, around_it, crowded, over_at, over_core, test_down, subst, ap, leb-true, sharing_words, level_words, base_words, type_words, FitsType, operator_mark, access_mark, words, level, Fits, doing_words, line_words, written, is_declaring, is_declaration, takes_else, FitsValue, FitsDoing, FitsLine, FitsAs, parameters_words, part_words, program_words, FitsPart, IsProgram, fixed_words, may_declare, weak, floor_most, Jump, rules, by_if, by_while}, Completed.{LowOuter, Room, RoomToDeclare, LowDoingPlace, LowAround, LowName, LowType, LowMode, LowStart, LowCore, low_part_more, low_part_less, few_given_more, few_given_less, low_item_more, low_item_less, deepest_more, highest_more, few_more, few_less, around_most, depth_most}, Complete.never, CompleteProgram.MayStand, Placing.fields_fit, Sound.{so_far, Sound, outside, line_place_words, doing_place_words, around, type_place_words, mode_place_words, Outside, DoingAt, ValueAt, Around, TypeAt, ModeAt, BaseAt, program_more, is_program_more, fields_more, parameters_more, given_more, declaring_more, some_field, list_more, list_goes, all_more, items_more, fit_more, moded_sound, moded_says, based_sound, based_says, may, is_statement}}

-- from one core to the next, within the limits
pub record Moves (P : Type 0) (n : Core) : Type 0 where
  pub up : P → over_core n ≡ false → LowCore n
  pub down : LowCore n → P

-- the next state fits and has read one word more, and what has to come next is in it already; it is within the limits
-- where P holds and the test is passed, and then alone
abbrev pub Goes : (List Word → List Word) → Word → Type 0 → Option State → Type 0
Goes f t P None = Unit {0}
Goes f t P (Some (At fs n)) = Sound n × ((y : List Word) → so_far n y ≡ f (t ∷ fixed_words fs y)) × Moves P n

abbrev pub From : Core → Word → Option State → Type 0
From c t o = Goes (so_far c) t (LowCore c) o

-- the same limits
alike : (P : Type 0) (n : Core) → (P → LowCore n) → (LowCore n → P) → Moves P n
alike P n f g = record { up = λ l v. f l; down = g }

goes_from : (f g : List Word → List Word) (P Q : Type 0) (t : Word) (o : Option State) → ((y : List Word) → f y ≡ g y) → (Q → P) → (P → Q) → Goes f t P o → Goes g t Q o
goes_from f g P Q t None e u d h = tt
goes_from f g P Q t (Some (At fs n)) e u d h = (h.0, λ y. h.1 y ∙ e (t ∷ fixed_words fs y), record { up = λ l v. h.2.up (u l) v; down = λ l. d (h.2.down l) })

from_core : (b c : Core) (t : Word) (o : Option State) → ((y : List Word) → so_far b y ≡ so_far c y) → (LowCore c → LowCore b) → (LowCore b → LowCore c) → From b t o → From c t o
from_core b c t o e u d h = goes_from (so_far b) (so_far c) (LowCore b) (LowCore c) t o e u d h

or_else_goes : (f : List Word → List Word) (t : Word) (P : Type 0) (a b : Option State) → Goes f t P a → Goes f t P b → Goes f t P (or_else a b)
or_else_goes f t P None b h k = k
or_else_goes f t P (Some (At fs n)) b h k = h

cond_goes : (f : List Word → List Word) (t : Word) (P : Type 0) (b : Bool) (o : Option State) → (b ≡ true → Goes f t P o) → Goes f t P (cond b o None)
cond_goes f t P true o h = h refl
cond_goes f t P false o h = tt

test_up : (m : ℕ) → nat_le 64 m ≡ false → m < 64
test_up m e = leb-false 64 m e

second : (a b : Bool) → cond a true b ≡ false → b ≡ false
second true b h = cc
second false b h = h

both_off : (a b : Bool) → a ≡ false → b ≡ false → cond a true b ≡ false
both_off true b e h = cc
both_off false b e h = h

-- what is within the limits passes the test

pub not_crowded : (k : Cont) → LowAround k → crowded k ≡ false
not_crowded (part (subject (in_line as_statement)) o) l = test_down (around_it o) l.0
not_crowded (part p o) l = refl
not_crowded (beneath u k) l = not_crowded k l.1
not_crowded (right_of a o k) l = not_crowded k l.2
not_crowded (fronted f k) l = not_crowded k l.2
not_crowded (indexing a k) l = not_crowded k l.2
not_crowded (arguments f all k) l = not_crowded k l.2

not_over_at : (k : Cont) → LowAround k → over_at k ≡ false
not_over_at (part (condition q) o) l = lt-leb 63 (around_it o) l.0
not_over_at (part p o) l = refl
not_over_at (beneath u k) l = test_down (depth k) l.0
not_over_at (right_of a o k) l = test_down (depth k + height a) l.0
not_over_at (fronted f k) l = test_down (depth k) l.0
not_over_at (indexing a k) l = test_down (depth k + height a) l.0
not_over_at (arguments f all k) l = test_down (depth k) (omega (arith, l.0))

pub not_over : (c : Core) → LowCore c → over_core c ≡ false
not_over (Want k) l = both_off (crowded k) (over_at k) (not_crowded k l) (not_over_at k l)
not_over (Have x k) l = not_crowded k l.2
not_over (Called f k) l = test_down (depth k) l.0
not_over (Dotted x a k) l = test_down (depth k + height x) l.0
not_over (Spawning k) l = both_off (crowded k) (nat_le 64 (depth k)) (not_crowded k l.1) (test_down (depth k) l.0)
not_over (Start (inside w o)) l = lt-leb 63 (around_it o) l.0
not_over (Start (items all o)) l = test_down (around_it o) (omega (arith, l.1.1))
not_over (Done (line nothing) o) l = test_down (around_it o) (omega (arith, l.1))
not_over (Done (jump j) o) l = test_down (around_it o) (omega (arith, l.1))
not_over (Returning o) l = test_down (around_it o) l.0
not_over (ForOpen o) l = lt-leb 63 (around_it o) l.0
not_over (TypeWant (casting k)) l = both_off (crowded k) (nat_le 64 (depth k)) (not_crowded k l.1) (test_down (depth k) l.0)
not_over (Typed p first b m below) l = lt-leb 9 (length below) (omega (arith, l.0))
not_over _ l = refl

-- Types.

moded_goes : (p : ModePlace) (s : Sharing) → ModeAt p → Sound (moded p s) × ((y : List Word) → so_far (moded p s) y ≡ mode_place_words p (sharing_words s y)) × Moves (LowMode p) (moded p s)
moded_goes (before_base p) s a = (moded_sound (before_base p) s a, moded_says (before_base p) s a, alike (LowType p) (ModeFirst p s) (λ l. l) (λ l. l))
moded_goes (at_level p first b below) s a = (moded_sound (at_level p first b below) s a, moded_says (at_level p first b below) s a, alike (LowMode (at_level p first b below)) (Typed p first b (Some s) below) (λ l. l) (λ l. l))

mode_goes : (p : ModePlace) → ModeAt p → (t : Word) → Goes (mode_place_words p) t (LowMode p) (mode_step p t)
mode_goes p a (keyword Keyword.Private) = moded_goes p private a
mode_goes p a (keyword Keyword.Readonly) = moded_goes p readonly a
mode_goes p a (keyword Keyword.Racy) = moded_goes p racy a
mode_goes p a (keyword Keyword.Dynamic) = moded_goes p dynamic a
mode_goes p a (keyword Keyword.Locked) = (a, λ y. refl, alike (LowMode p) (PathWant p) (λ l. l) (λ l. l))
mode_goes p a _ = tt

based_moves : (p : TypePlace) (m : Option Sharing) (b : Base) → Moves (LowType p) (based p m b)
based_moves p None b = record { up = λ l v. (omega arith, l); down = λ l. l.1 }
based_moves p (Some s) b = record { up = λ l v. (omega arith, l); down = λ l. l.1 }

based_goes : (p : TypePlace) (m : Option Sharing) (b : Base) → TypeAt p → BaseAt p m → Sound (based p m b) × ((y : List Word) → so_far (based p m b) y ≡ type_place_words p (level_words m (base_words b y))) × Moves (LowType p) (based p m b)
based_goes p m b a h = (based_sound p m b a h, based_says p m b, based_moves p m b)

base_goes : (p : TypePlace) (m : Option Sharing) → TypeAt p → BaseAt p m → (t : Word) → Goes (λ y. type_place_words p (level_words m y)) t (LowType p) (base_step p m t)
base_goes p m a h (keyword Keyword.Int) = based_goes p m Base.Int a h
base_goes p m a h (keyword Keyword.Char) = based_goes p m Base.Char a h
base_goes p m a h (keyword Keyword.Long) = based_goes p m Base.Long a h
base_goes p m a h (keyword Keyword.Mutex) = based_goes p m Base.Mutex a h
base_goes p m a h (keyword Keyword.Void) = based_goes p m Base.Void a h
base_goes p m a h (keyword Keyword.Struct) = ((a, h), λ y. refl, alike (LowType p) (StructWant p m) (λ l. l) (λ l. l))
base_goes p m a h _ = tt

begin_goes : (p : TypePlace) → TypeAt p → (t : Word) → Goes (type_place_words p) t (LowType p) (begin_type p t)
begin_goes p a t =
    or_else_goes (type_place_words p) t (LowType p) (cond (takes_modes p) (mode_step (before_base p) t) None) (base_step p None t)
    (cond_goes (type_place_words p) t (LowType p) (takes_modes p) (mode_step (before_base p) t) (λ e. mode_goes (before_base p) (a, e) t))
    (base_goes p None a tt t)

level_goes : (p : TypePlace) (first : Bool) (b : Base) (m : Option Sharing) (below : List (Option Sharing)) → Sound (Typed p first b m below) → (t : Word) → From (Typed p first b m below) t (level_step p first b m below t)
level_goes p first b None below a t =
    cond_goes (so_far (Typed p first b None below)) t (LowCore (Typed p first b None below)) (takes_modes p) (mode_step (at_level p first b below) t) (λ e. mode_goes (at_level p first b below) (a.0, e, a.1) t)
level_goes p first b (Some s) below a t = tt

typed_goes : (p : TypePlace) (first : Bool) (b : Base) (m : Option Sharing) (below : List (Option Sharing)) → Sound (Typed p first b m below) → (t : Word) → From (Typed p first b m below) t (typed p first b m below t)
typed_goes p first b m below a (mark Star) = ((a.0, a.1, a.2), λ y. refl, record { up = λ l v. (omega (arith, leb-false 9 (length (m ∷ below)) v), l.1); down = λ l. (omega (arith, l.0), l.1) })
typed_goes (naming p) first b m below a (name n) = ((a.0, a.1), λ y. refl, alike ((length below ≤ 8) × LowName p) (Named p (typing_of first b m below) n) (λ l. l) (λ l. l))
typed_goes (casting k) first b m below a (mark Comma) = ((a.1, a.0), λ y. refl, record { up = λ l v. (l.1.0, l.0, l.1.1); down = λ l. (l.1, (l.0, l.2)) })
typed_goes (sizing v n o) first b m below a (mark CloseParenthesis) = ((a.0.0, (a.0.1, a.1, a.2 refl), a.0.2), λ y. refl, record { up = λ l w. (l.1.0, (l.1.1, l.0), l.1.2); down = λ l. (l.1.1, (l.0, l.1.0, l.2)) })
typed_goes (naming (parameter_of all r f [])) false Base.Void None [] a (mark CloseParenthesis) = ((a.0.0, a.0.1, tt, tt), λ y. refl, record { up = λ l v. (tt, (l.1.0, l.1.1, tt, tt, omega arith)); down = λ l. (omega arith, (l.1.0, l.1.1, tt)) })
typed_goes (naming (on_top all)) false (Base.Struct n) None [] a (mark OpenBrace) = ((a.0, tt), λ y. refl, record { up = λ l v. (l.1, tt); down = λ l. (omega arith, l.0) })
typed_goes _ _ _ _ _ a (name n) = tt
typed_goes _ _ _ _ _ a (mark Comma) = tt
typed_goes _ _ _ _ _ a (mark CloseParenthesis) = tt
typed_goes _ _ _ _ _ a (mark OpenBrace) = tt
typed_goes p first b m below a t = level_goes p first b m below a t

-- Expressions.

mallocs_goes : (k : Cont) → Around k → Goes (around k) (keyword Keyword.Malloc) (LowAround k) (mallocs k)
mallocs_goes (part (valued v) o) a = (a, λ y. refl, alike (LowAround (part (valued v) o)) (Malloced v o) (λ l. l) (λ l. l))
mallocs_goes _ a = tt

deeper : (k j : Cont) → crowded j ≡ crowded k → over_at j ≡ nat_le 64 (depth k) → ((depth k < 64) × LowAround k → LowAround j) → (LowAround j → LowAround k) → Moves (LowAround k) (Want j)
deeper k j c e f g = record { up = λ l v. f (test_up (depth k) (sym e ∙ second (crowded j) (over_at j) v), l); down = g }

operand : (k : Cont) (x : Phrase) → height x ≡ 0 → Few x → Moves (LowAround k) (Have x k)
operand k x h w = record { up = λ l v. (omega (arith, depth_most k l, h), w, l); down = λ l. l.2 }

unary_moves : (u : UnaryOperator) (k : Cont) → Moves (LowAround k) (Want (beneath u k))
unary_moves u k = deeper k (beneath u k) refl refl (λ l. l) (λ l. l.1)

front_moves : (h : Front) (k : Cont) → FewFront h → Moves (LowAround k) (Want (fronted h k))
front_moves h k w = deeper k (fronted h k) refl refl (λ l. (l.0, w, l.1)) (λ l. l.2)

-- the calls and the casts, whose first operand is no expression
called_moves : (k : Cont) (n : Core) → over_core n ≡ cond (crowded k) true (nat_le 64 (depth k)) → ((depth k < 64) × LowAround k → LowCore n) → (LowCore n → (depth k < 64) × LowAround k) → Moves (LowAround k) n
called_moves k n e f g = record { up = λ l v. f (test_up (depth k) (second (crowded k) (nat_le 64 (depth k)) (sym e ∙ v)), l); down = λ l. (g l).1 }

want_goes : (k : Cont) → Around k → (t : Word) → Goes (around k) t (LowAround k) (want k t)
want_goes k a (name n) = ((omega arith, tt, a), λ y. refl, operand k (identifier n) refl tt)
want_goes k a (number n) = ((omega arith, tt, a), λ y. refl, operand k (constant (Constant.Number n)) refl tt)
want_goes k a (character c) = ((omega arith, tt, a), λ y. refl, operand k (constant (Constant.Character c)) refl tt)
want_goes k a (keyword Keyword.Null) = ((omega arith, tt, a), λ y. refl, operand k (constant Constant.Null) refl tt)
want_goes k a (mark Minus) = ((floor_most k, a), λ y. refl, unary_moves Negate k)
want_goes k a (mark Exclamation) = ((floor_most k, a), λ y. refl, unary_moves Not k)
want_goes k a (mark Tilde) = ((floor_most k, a), λ y. refl, unary_moves Complement k)
want_goes k a (mark Star) = ((floor_most k, a), λ y. refl, unary_moves Dereference k)
want_goes k a (mark OpenParenthesis) = ((tt, a), λ y. refl, front_moves parenthesis k tt)
want_goes k a (keyword Keyword.Spawn) = (a, λ y. refl, called_moves k (Spawning k) refl (λ l. l) (λ l. l))
want_goes k a (keyword Keyword.Join) = ((tt, a), λ y. refl, front_moves (of_value ValueCall.Join) k tt)
want_goes k a (keyword Keyword.Print) = ((tt, a), λ y. refl, front_moves (of_value ValueCall.Print) k tt)
want_goes k a (keyword Keyword.Lock) = ((tt, a), λ y. refl, front_moves (of_place PlaceCall.Lock) k tt)
want_goes k a (keyword Keyword.Unlock) = ((tt, a), λ y. refl, front_moves (of_place PlaceCall.Unlock) k tt)
want_goes k a (keyword Keyword.Free) = ((tt, a), λ y. refl, front_moves (of_place PlaceCall.Free) k tt)
want_goes k a (keyword Keyword.Scast) = (a, λ y. refl, called_moves k (TypeWant (casting k)) refl (λ l. l) (λ l. l))
want_goes k a (keyword Keyword.Malloc) = mallocs_goes k a
want_goes k a _ = tt

-- an expression that begins a statement is tested for the room of the statement
abbrev pub TestsRoom : Cont → Option State → Type 0
TestsRoom k None = Unit {0}
TestsRoom k (Some (At fs n)) = over_core n ≡ false → crowded k ≡ false

mallocs_room : (k : Cont) → TestsRoom k (mallocs k)
mallocs_room (part (valued v) o) = λ h. refl
mallocs_room _ = tt

want_room : (k : Cont) (t : Word) → TestsRoom k (want k t)
want_room k (keyword Keyword.Malloc) = mallocs_room k
want_room k (mark Minus) = search rules
want_room k _ = search rules

-- operators that take their operands, and change nothing within the limits
pub record Settled (l : ℕ) (x : Phrase) (k : Cont) (s : Phrase × Cont) : Type 0 where
  pub fits : Fits s.0
  pub around_fits : Around s.1
  pub under_it : l ≤ level s.0
  pub over_it : floor s.1 ≤ level s.0
  pub says : (y : List Word) → around s.1 (words s.0 y) ≡ around k (words x y)
  pub up : LowCore (Have x k) → LowCore (Have s.0 s.1)
  pub down : LowCore (Have s.0 s.1) → LowCore (Have x k)

stays : (l : ℕ) (x : Phrase) (k : Cont) → Fits x → Around k → l ≤ level x → floor k ≤ level x → Settled l x k (x, k)
stays l x k w a u o = record { fits = w; around_fits = a; under_it = u; over_it = o; says = λ y. refl; up = λ h. h; down = λ h. h }

settled_at : (taken : Bool) (l : ℕ) (x a : Phrase) (o : BinaryOperator) (k : Cont) → nat_le l (strength o) ≡ taken → Fits x → Around (right_of a o k) → l ≤ level x → strength o < level x → (l ≤ strength o → Settled l (binary o a x) k (settle l (binary o a x) k)) → Settled l x (right_of a o k) (cond taken (settle l (binary o a x) k) (x, right_of a o k))
settled_at true l x a o k e w r u f deeper =
    let d = deeper (leb-true l (strength o) e) in
    record {
      fits = d.fits;
      around_fits = d.around_fits;
      under_it = d.under_it;
      over_it = d.over_it;
      says = d.says;
      up = λ h. d.up (omega (arith, h.0, h.2.0), (h.2.1, h.1), h.2.2);
      down = λ h. let g = d.down h in (omega (arith, g.0), g.1.1, (omega (arith, g.0), g.1.0, g.2));
    }
settled_at false l x a o k e w r u f deeper = stays l x (right_of a o k) w r u f

-- what operators take fits, and is spelled as before
settled : (l : ℕ) (x : Phrase) (k : Cont) → Fits x → Around k → l ≤ level x → l ≤ 11 → floor k ≤ level x → Settled l x k (settle l x k)
settled l x (beneath u k) w a v m f =
    let r = settled l (unary u x) k (f, w) a.1 m m a.0 in
    record {
      fits = r.fits;
      around_fits = r.around_fits;
      under_it = r.under_it;
      over_it = r.over_it;
      says = r.says;
      up = λ h. r.up (omega (arith, h.0), h.1, h.2.1);
      down = λ h. let g = r.down h in (omega (arith, g.0), g.1, (omega (arith, g.0), g.2));
    }
settled l x (right_of b o k) w a u m f =
    settled_at (nat_le l (strength o)) l x b o k refl w a u f (λ h. settled l (binary o b x) k (a.0, f, a.2, w) a.3 h m a.1)
settled l x j w a u m f = stays l x j w a u f

-- what a line that ends comes to
abbrev lined_core : LinePlace → Line → Outer → Core
lined_core as_statement l o = Done (line l) o
lined_core as_first l o = ForTest l o

does_moves : (p : LinePlace) (x : Doing) (o : Outer) → Moves (LowDoing x × Room p o × LowOuter o) (lined_core p (does x) o)
does_moves as_statement x o = record { up = λ l v. (l.0, omega (arith, l.1), l.2); down = λ l. (l.0, omega (arith, l.1), l.2) }
does_moves as_first x o = record { up = λ l v. l; down = λ l. l }

declares_moves : (p : LinePlace) (d : Declaring) (i : Option Value) (o : Outer) (P : Type 0) → (P → (FewStars d.typing × LowInitial i) × RoomToDeclare p o × LowOuter o) → ((FewStars d.typing × LowInitial i) × RoomToDeclare p o × LowOuter o → P) → Moves P (lined_core p (local_line d i) o)
declares_moves as_statement d i o P f g = record {
  up = λ l v. let r = f l in (r.0, omega (arith, around_most o r.2), r.2);
  down = λ l. g (l.0, tt, l.2);
}
declares_moves as_first d i o P f g = record { up = λ l v. f l; down = λ l. g l }

lined_goes : (p : LinePlace) (l : Line) (o : Outer) → FitsLine l → Outside o → (is_declaring l ≡ true → may_declare p o ≡ true) → (f : List Word → List Word) (t : Word) (P : Type 0) → ((y : List Word) → outside o (line_place_words p (line_words l y)) ≡ f (t ∷ y)) → Moves P (lined_core p l o) → Goes f t P (Some (lined p l o))
lined_goes as_statement l o w a m f t P e v = ((m, refl, w, a), e, v)
lined_goes as_first l o w a m f t P e v = ((w, a), e, v)

doing_goes : (d : DoingPlace) (x : Doing) (o : Outer) → FitsDoing x → DoingAt d → Outside o → (t : Word) → Goes (λ y. outside o (doing_place_words d (doing_words x y))) t (LowDoing x × LowDoingPlace d o × LowOuter o) (doing_end d x o t)
doing_goes (in_line p) x o w h a (mark Semicolon) = lined_goes p (does x) o w a (λ h. cc) (λ y. outside o (doing_place_words (in_line p) (doing_words x y))) (mark Semicolon) (LowDoing x × Room p o × LowOuter o) (λ y. refl) (does_moves p x o)
doing_goes (as_step l e) x o w h a (mark CloseParenthesis) = (
  ((h.0, h.1, w), a),
  λ y. refl,
  record {
    up = λ r v. (r.1.2, ((r.1.0, r.1.1, r.0), omega (arith, r.1.2), r.2));
    down = λ r. (r.1.0.2, (r.1.0.0, r.1.0.1, r.0), r.1.2);
  },
)
doing_goes _ _ _ w h a _ = tt

local_goes : (p : LinePlace) (d : Declaring) (r : Value) (o : Outer) → FitsType d.typing → FitsValue r → may_declare p o ≡ true → Outside o → (t : Word) → From (Valued (of_local p d) r o) t (local_end p d r o t)
local_goes p d r o w v m a (mark Semicolon) =
    lined_goes p (local_line d (Some r)) o (w, v) a (λ _. m) (so_far (Valued (of_local p d) r o)) (mark Semicolon) (LowCore (Valued (of_local p d) r o)) (λ y. refl)
    (declares_moves p d (Some r) o (LowCore (Valued (of_local p d) r o)) (λ l. ((l.0.1, l.1), l.0.0, l.2)) (λ l. ((l.1, l.0.0), l.0.1, l.2)))
local_goes p d r o w v m a _ = tt

value_goes : (v : ValuePlace) (r : Value) (o : Outer) → FitsValue r → ValueAt v o → Outside o → (t : Word) → From (Valued v r o) t (value_end v r o t)
value_goes (of_doing d u) r o w h a t =
    goes_from (λ y. outside o (doing_place_words d (doing_words (assign u r) y))) (so_far (Valued (of_doing d u) r o)) (LowDoing (assign u r) × LowDoingPlace d o × LowOuter o) (LowCore (Valued (of_doing d u) r o)) t (doing_end d (assign u r) o t) (λ y. refl)
    (λ l. ((l.0.1, l.1), l.0.0, l.2)) (λ l. ((l.1, l.0.0), l.0.1, l.2)) (doing_goes d (assign u r) o (h.1, h.2, w) h.0 a t)
value_goes (of_local p d) r o w h a t = local_goes p d r o h.1 w h.0 a t

invoke_goes : (b : Bool) (d : DoingPlace) (x : Phrase) (o : Outer) → is_call x ≡ b → Fits x → DoingAt d → Outside o → (t : Word) → From (Have x (part (subject d) o)) t (cond b (doing_end d (invoke x) o t) None)
invoke_goes true d x o e w h a t =
    goes_from (λ y. outside o (doing_place_words d (doing_words (invoke x) y))) (so_far (Have x (part (subject d) o))) (LowDoing (invoke x) × LowDoingPlace d o × LowOuter o) (LowCore (Have x (part (subject d) o))) t (doing_end d (invoke x) o t) (λ y. refl)
    (λ l. ((omega (arith, l.0), l.1), l.2.0, l.2.1)) (λ l. (omega (arith, l.0.0), l.0.1, (l.1, l.2))) (doing_goes d (invoke x) o (e, w) h a t)
invoke_goes false d x o e w h a t = tt

subject_goes : (d : DoingPlace) (x : Phrase) (o : Outer) → Fits x → 11 ≤ level x → DoingAt d → Outside o → (t : Word) → From (Have x (part (subject d) o)) t (subject_end d x o t)
subject_goes d x o w f h a (mark Assign) = (
  ((h, f, w), a),
  λ y. refl,
  record {
    up = λ l v. ((l.2.0, (omega (arith, l.0), l.1)), l.2.1);
    down = λ l. (omega (arith, l.0.1.0), l.0.1.1, (l.0.0, l.1));
  },
)
subject_goes d x o w f h a t = invoke_goes (is_call x) d x o refl w h a t

leave_goes : (p : ExpressionPlace) (x : Phrase) (o : Outer) → Fits x → floor (part p o) ≤ level x → Around (part p o) → (t : Word) → From (Have x (part p o)) t (leave p x o t)
leave_goes (condition by_if) x o w f a (mark CloseParenthesis) = (
  (w, a.1),
  λ y. refl,
  record {
    up = λ l v. (l.2.0, ((omega (arith, l.0), l.1), omega (arith, l.2.0), l.2.1));
    down = λ l. (omega (arith, l.1.0.0), l.1.0.1, (l.0, l.1.2));
  },
)
leave_goes (condition by_while) x o w f a (mark CloseParenthesis) = (
  (w, a.1),
  λ y. refl,
  record {
    up = λ l v. (l.2.0, ((omega (arith, l.0), l.1), omega (arith, l.2.0), l.2.1));
    down = λ l. (omega (arith, l.1.0.0), l.1.0.1, (l.0, l.1.2));
  },
)
leave_goes returning x o w f a (mark Semicolon) = (
  (may o, refl, w, a.1),
  λ y. refl,
  record {
    up = λ l v. ((omega (arith, l.0), l.1), omega (arith, l.2.0), l.2.1);
    down = λ l. (omega (arith, l.0.0), l.0.1, (omega (arith, l.1), l.2));
  },
)
leave_goes (testing l) x o w f a (mark Semicolon) = (
  (a.0, w, a.1),
  λ y. refl,
  record {
    up = λ h v. (h.2.0.0, (omega (arith, h.0), h.1), h.2.0.1, h.2.1);
    down = λ h. (omega (arith, h.1.0), h.1.1, ((h.0, h.2), h.3));
  },
)
leave_goes (subject d) x o w f a t = subject_goes d x o w f a.0 a.1 t
leave_goes (valued v) x o w f a t =
    from_core (Valued v (value x) o) (Have x (part (valued v) o)) t (value_end v (value x) o t) (λ y. refl)
    (λ l. (l.2.0, (omega (arith, l.0), l.1), l.2.1)) (λ l. (omega (arith, l.1.0), l.1.1, (l.0, l.2))) (value_goes v (value x) o w a.0 a.1 t)
leave_goes _ x o w f a _ = tt

end_goes : (x : Phrase) (k : Cont) → Fits x → floor k ≤ level x → Around k → (t : Word) → From (Have x k) t (end_at x k t)
end_goes x (fronted h k) w f a (mark CloseParenthesis) = (
  (omega arith, (a.0, f, w), a.1),
  λ y. refl,
  record {
    up = λ l v. (omega (arith, l.0), (l.2.1, l.1), l.2.2);
    down = λ l. (omega (arith, l.0), l.1.1, (omega (arith, l.0), l.1.0, l.2));
  },
)
end_goes x (indexing b k) w f a (mark CloseBracket) = (
  (omega arith, (a.0, a.1, w), a.2),
  λ y. refl,
  record {
    up = λ l v. (omega (arith, l.0, l.2.0), (l.2.1, l.1), l.2.2);
    down = λ l. (omega (arith, l.0), l.1.1, (omega (arith, l.0), l.1.0, l.2));
  },
)
end_goes x (arguments g all k) w f a (mark Comma) = (
  (all_more all x a.0 w, a.1),
  λ y. ap (λ z. around k (name g ∷ (mark OpenParenthesis ∷ z))) (list_goes all x y),
  record {
    up = λ l v. (omega (arith, l.0, l.2.0, highest_more all x), few_more all x l.2.1 l.1, l.2.2);
    down = λ l. let w = few_less all x l.1 in (omega (arith, l.0, highest_more all x), w.1, (omega (arith, l.0, highest_more all x), w.0, l.2));
  },
)
end_goes x (arguments g all k) w f a (mark CloseParenthesis) = (
  (omega arith, all_more all x a.0 w, a.1),
  λ y. ap (λ z. around k (name g ∷ (mark OpenParenthesis ∷ z))) (list_more all x (mark CloseParenthesis ∷ y)),
  record {
    up = λ l v. (omega (arith, l.0, l.2.0, highest_more all x), few_more all x l.2.1 l.1, l.2.2);
    down = λ l. let w = few_less all x l.1 in (omega (arith, l.0, highest_more all x), w.1, (omega (arith, l.0, highest_more all x), w.0, l.2));
  },
)
end_goes x (part p o) w f a t = leave_goes p x o w f a t
end_goes x _ w f a _ = tt

ending : (x : Phrase) (k : Cont) → Sound (Have x k) → (t : Word) → From (Have x k) t (have Ending x k t)
ending x k a t =
    let s = settled 0 x k a.1 a.2 (omega arith) (omega arith) (omega (arith, floor_most k, a.0)) in
    let r = settle 0 x k in
    from_core (Have r.0 r.1) (Have x k) t (end_at r.0 r.1 t) s.says s.up s.down (end_goes r.0 r.1 s.fits s.over_it s.around_fits t)

counted_goes : (o : BinaryOperator) (z : Phrase) (j : Cont) → Fits z → floor j ≤ level z → Around j → From (Have z j) (mark (operator_mark o)) (counted o z j)
counted_goes BinaryOperator.Multiply z (part (counting v) o) w f a = (
  (a.0, (f, w), a.1),
  λ y. refl,
  record {
    up = λ l w. (l.2.0, (omega (arith, l.0), l.1), l.2.1);
    down = λ l. (omega (arith, l.1.0), l.1.1, (l.0, l.2));
  },
)
counted_goes _ _ _ w f a = tt

-- an operand that another follows
left_moves : (x : Phrase) (k j : Cont) → crowded j ≡ crowded k → over_at j ≡ nat_le 64 (depth k + height x) → ((depth k + height x < 64) × Few x × LowAround k → LowAround j) → (LowAround j → (depth k + height x < 64) × Few x × LowAround k) → Moves (LowCore (Have x k)) (Want j)
left_moves x k j c e f g = record {
  up = λ l v. f (test_up (depth k + height x) (sym e ∙ second (crowded j) (over_at j) v), l.1, l.2);
  down = λ l. let r = g l in (omega (arith, r.0), r.1, r.2);
}

shifted : (b : Bool) (o : BinaryOperator) (z : Phrase) (j : Cont) → nat_le (floor j) (strength o) ≡ b → Fits z → floor j ≤ level z → Around j → strength o ≤ level z → From (Have z j) (mark (operator_mark o)) (cond b (to (Want (right_of z o j))) (counted o z j))
shifted true o z j e w f a u = ((u, leb-true (floor j) (strength o) e, w, a), λ y. refl, left_moves z j (right_of z o j) refl refl (λ l. l) (λ l. l))
shifted false o z j e w f a u = counted_goes o z j w f a

operator_goes : (o : BinaryOperator) (x : Phrase) (k : Cont) → Sound (Have x k) → From (Have x k) (mark (operator_mark o)) (have (Operating o) x k (mark (operator_mark o)))
operator_goes o x k a =
    let s = settled (strength o) x k a.1 a.2 (omega (arith, weak o, a.0)) (omega (arith, weak o)) (omega (arith, floor_most k, a.0)) in
    let r = settle (strength o) x k in
    from_core (Have r.0 r.1) (Have x k) (mark (operator_mark o)) (shift o r.0 r.1) s.says s.up s.down (shifted (nat_le (floor r.1) (strength o)) o r.0 r.1 refl s.fits s.over_it s.around_fits s.under_it)

open_call_goes : (x : Phrase) (k : Cont) → Sound (Have x k) → From (Have x k) (mark OpenParenthesis) (open_call x k)
open_call_goes (identifier f) k a = (a.2, λ y. refl, record { up = λ l v. (test_up (depth k) v, l.2); down = λ l. (omega (arith, l.0), tt, l.1) })
open_call_goes _ k a = tt

-- the word of what it does after an operand
abbrev Spells : Word → Role → Type 0
Spells t Calling = t ≡ mark OpenParenthesis
Spells t Indexing = t ≡ mark OpenBracket
Spells t (Accessing w) = t ≡ mark (access_mark w)
Spells t (Operating o) = t ≡ mark (operator_mark o)
Spells t Ending = t ≡ t

spells : (t : Word) → Spells t (role t)
spells (mark OpenParenthesis) = refl
spells _ = refl

role_goes : (r : Role) (x : Phrase) (k : Cont) → Sound (Have x k) → (t : Word) → Spells t r → From (Have x k) t (have r x k t)
role_goes Calling x k a t h = subst (λ w. From (Have x k) w (have Calling x k w)) (sym h) (open_call_goes x k a)
role_goes Indexing x k a t h = subst (λ w. From (Have x k) w (have Indexing x k w)) (sym h) (a, λ y. refl, left_moves x k (indexing x k) refl refl (λ l. l) (λ l. l))
role_goes (Accessing f) x k a t h = subst (λ w. From (Have x k) w (have (Accessing f) x k w)) (sym h) (a, λ y. refl, record { up = λ l v. (test_up (depth k + height x) v, l.1, l.2); down = λ l. (omega (arith, l.0), l.1, l.2) })
role_goes (Operating o) x k a t h = subst (λ w. From (Have x k) w (have (Operating o) x k w)) (sym h) (operator_goes o x k a)
role_goes Ending x k a t h = ending x k a t

-- Statements.

close_block_goes : (o : Outer) → Outside o → From (Start o) (mark CloseBrace) (close_block o)
close_block_goes (items all o) a = ((may o, refl, a.0, a.1), λ y. refl, record { up = λ l v. (l.1.0, omega (arith, l.1.1), l.1.2); down = λ l. (tt, (l.0, omega (arith, l.1), l.2)) })
close_block_goes (body all r f given s) a = (
  is_program_more all (function_of r f given s) a.0 (a.1, a.2, a.3),
  λ y. program_more all (function_of r f given s) y,
  record {
    up = λ l v. low_part_more all (function_of r f given s) l.1.0 (l.1.1, l.1.2, l.1.3, l.1.4);
    down = λ l. let d = low_part_less all (function_of r f given s) l in (tt, (d.0, d.1.0, d.1.1, d.1.2, d.1.3));
  },
)
close_block_goes (inside w o) a = tt

-- room for a statement is room for one that is under another
start_room : (o : Outer) → around_it o < 64 → LowStart o
start_room (inside w o) h = omega (arith, h)
start_room _ h = tt

expression_goes : (o : Outer) (t : Word) (n : Option State) → TestsRoom (part (subject (in_line as_statement)) o) n → Goes (outside o) t (LowAround (part (subject (in_line as_statement)) o)) n → From (Start o) t n
expression_goes o t None h m = tt
expression_goes o t (Some (At fs n)) h m = (
  m.0,
  m.1,
  record {
    up = λ l v. m.2.up (test_up (around_it o) (h v), l.1) v;
    down = λ l. let d = m.2.down l in (start_room o d.0, d.1);
  },
)

declaration_goes : (o : Outer) → Outside o → (t : Word) → From (Start o) t (cond (holds_items o) (begin_type (naming (local as_statement o)) t) None)
declaration_goes (inside w o) a t = tt
declaration_goes k a t = begin_goes (naming (local as_statement k)) (refl, a) t

statement_goes : (o : Outer) → Outside o → (t : Word) → From (Start o) t (line_start as_statement o t)
statement_goes o a (mark Semicolon) = ((may o, refl, tt, a), λ y. refl, record { up = λ l v. (tt, omega (arith, test_up (around_it o) v), l.1); down = λ l. (start_room o (omega (arith, l.1)), l.2) })
statement_goes o a t =
    or_else_goes (outside o) t (LowCore (Start o)) (cond (holds_items o) (begin_type (naming (local as_statement o)) t) None) (want (part (subject (in_line as_statement)) o) t)
    (declaration_goes o a t)
    (expression_goes o t (want (part (subject (in_line as_statement)) o) t) (want_room (part (subject (in_line as_statement)) o) t) (want_goes (part (subject (in_line as_statement)) o) (tt, a) t))

-- a statement that another is under begins
opens_moves : (o : Outer) → Moves (LowCore (Start o)) (ForOpen o)
opens_moves o = record { up = λ l v. (leb-false 63 (around_it o) v, l.1); down = λ l. (start_room o (omega (arith, l.0)), l.1) }

jump_moves : (o : Outer) (j : Jump) → Moves (LowCore (Start o)) (Done (jump j) o)
jump_moves o j = record { up = λ l v. (tt, omega (arith, test_up (around_it o) v), l.1); down = λ l. (start_room o (omega (arith, l.1)), l.2) }

start_goes : (o : Outer) → Outside o → (t : Word) → From (Start o) t (start o t)
start_goes o a (mark CloseBrace) = close_block_goes o a
start_goes o a (mark OpenBrace) = ((tt, a), λ y. refl, record { up = λ l v. (tt, (tt, omega (arith, test_up (around_it o) v), l.1)); down = λ l. (start_room o (omega (arith, l.1.1)), l.1.2) })
start_goes o a (keyword Keyword.If) = ((tt, a), λ y. refl, record { up = (opens_moves o).up; down = (opens_moves o).down })
start_goes o a (keyword Keyword.While) = ((tt, a), λ y. refl, record { up = (opens_moves o).up; down = (opens_moves o).down })
start_goes o a (keyword Keyword.For) = (a, λ y. refl, opens_moves o)
start_goes o a (keyword Keyword.Break) = ((may o, refl, tt, a), λ y. refl, jump_moves o Jump.Break)
start_goes o a (keyword Keyword.Continue) = ((may o, refl, tt, a), λ y. refl, jump_moves o Jump.Continue)
start_goes o a (keyword Keyword.Return) = (a, λ y. refl, record { up = λ l v. (test_up (around_it o) v, l.1); down = λ l. (start_room o (omega (arith, l.0)), l.1) })
start_goes o a t = statement_goes o a t

else_is : (t : Word) → is_else t ≡ true → t ≡ keyword Keyword.Else
else_is (keyword Keyword.Else) h = refl
else_is _ h = cc

unless : (b c : Bool) → (b ≡ true → c ≡ false) → c ≡ true → b ≡ false
unless true c h is = cc (h refl)
unless false c h is = refl

under_goes : (w : Opening) (s : Sentence) (o : Outer) (t : Word) (r : Option State) → From (Done (under w s) o) t r → From (Done s (inside w o)) t r
under_goes w s o t r m =
    from_core (Done (under w s) o) (Done s (inside w o)) t r (λ y. refl)
    (λ l. ((l.2.0, l.0), omega (arith, l.1, l.2.1), l.2.2)) (λ l. (l.0.1, omega (arith, l.1), (l.0.0, omega (arith, l.1), l.2))) m

then_goes : (b : Bool) (e : Phrase) (s : Sentence) (o : Outer) (t : Word) (r : Option State) → is_else t ≡ b → (takes_else s ≡ true → is_else t ≡ false) → is_declaration s ≡ false → Fits e → FitsAs s → Outside o → (is_else t ≡ false → From (Done (under (if_of e) s) o) t r) → From (Done s (inside (if_of e) o)) t (cond b (to (Start (inside (else_of e s) o))) r)
then_goes true e s o t r is h d w v a deeper = (
  ((d, unless (takes_else s) (is_else t) h is, w, v), a),
  λ y. ap (λ u. outside o (keyword Keyword.If ∷ (mark OpenParenthesis ∷ words e (mark CloseParenthesis ∷ written s (u ∷ y))))) (sym (else_is t is)),
  record {
    up = λ l v. (leb-false 63 (around_it o) v, ((l.2.0, l.0), omega (arith, l.1), l.2.2));
    down = λ l. (l.1.0.1, omega (arith, l.1.1), (l.1.0.0, omega (arith, l.0), l.1.2));
  },
)
then_goes false e s o t r is h d w v a deeper = under_goes (if_of e) s o t r (deeper is)

done_goes : (s : Sentence) (o : Outer) → MayStand o (is_declaration s) → FitsAs s → Outside o → (t : Word) → (takes_else s ≡ true → is_else t ≡ false) → From (Done s o) t (done s o t)
done_goes s (body all r f given b) m w a t h =
    from_core (Start (body all r f given (with_item b s))) (Done s (body all r f given b)) t (start (body all r f given (with_item b s)) t)
    (λ y. ap (λ z. program_words all (type_words r (name f ∷ (mark OpenParenthesis ∷ parameters_words given (mark CloseParenthesis ∷ (mark OpenBrace ∷ z)))))) (items_more b s y))
    (λ l. (tt, (l.2.0, l.2.1, l.2.2, low_item_more b s l.2.3 l.0, omega (arith, l.1, l.2.4, deepest_more b s))))
    (λ l. let d = low_item_less b s l.1.3 in (d.1, omega (arith, l.1.4, deepest_more b s), (l.1.0, l.1.1, l.1.2, d.0, omega (arith, l.1.4, deepest_more b s))))
    (start_goes (body all r f given (with_item b s)) (a.0, a.1, a.2, fit_more b s a.3 w) t)
done_goes s (items all o) m w a t h =
    from_core (Start (items (with_item all s) o)) (Done s (items all o)) t (start (items (with_item all s) o) t)
    (λ y. ap (λ z. outside o (mark OpenBrace ∷ z)) (items_more all s y))
    (λ l. (tt, (low_item_more all s l.2.0 l.0, omega (arith, l.1, l.2.1, deepest_more all s), l.2.2)))
    (λ l. let d = low_item_less all s l.1.0 in (d.1, omega (arith, l.1.1, deepest_more all s), (d.0, omega (arith, l.1.1, deepest_more all s), l.1.2)))
    (start_goes (items (with_item all s) o) (fit_more all s a.0 w, a.1) t)
done_goes s (inside (if_of e) o) m w a t h =
    then_goes (is_else t) e s o t (done (under (if_of e) s) o t) refl h (is_statement (is_declaration s) m) a.0 w a.1 (λ n. done_goes (under (if_of e) s) o (may o) (is_statement (is_declaration s) m, a.0, w) a.1 t (λ _. n))
done_goes s (inside v o) m w a t h = under_goes v s o t (done (under v s) o t) (done_goes (under v s) o (may o) (is_statement (is_declaration s) m, a.0, w) a.1 t h)

-- Programs.

top_goes : (c : Core) (t : Word) (all : List Part) (p : Part) → IsProgram all → FitsPart p → (fs : List Fixed) → ((y : List Word) → program_words all (part_words p y) ≡ so_far c (t ∷ fixed_words fs y)) → (LowCore c → LowProgram all × LowPart p) → (LowProgram all × LowPart p → LowCore c) → From c t (Some (At fs (Top (with_part all p))))
top_goes c t all p a w fs e f g = (is_program_more all p a w, λ y. program_more all p y ∙ e y, record { up = λ l v. let r = f l in low_part_more all p r.0 r.1; down = λ l. g (low_part_less all p l) })

named_goes : (p : NamePlace) (ty : Typing) (n : List ℕ) → Sound (Named p ty n) → (t : Word) → From (Named p ty n) t (named p ty n t)
named_goes (on_top all) ty n a (mark Semicolon) = top_goes (Named (on_top all) ty n) (mark Semicolon) all (global (declaring_of ty n) single) a.0 (a.1, tt) [] (λ y. refl) (λ l. (l.1, l.0)) (λ l. (l.1, l.0))
named_goes (on_top all) ty n a (mark OpenBracket) = ((a.0, a.1), λ y. refl, record { up = λ l v. (l.1, l.0); down = λ l. (l.1, l.0) })
named_goes (on_top all) ty n a (mark Assign) = ((a.0, a.1), λ y. refl, record { up = λ l v. (l.1, l.0); down = λ l. (l.1, l.0) })
named_goes (on_top all) ty n a (mark OpenParenthesis) = ((a.0, a.1, tt), λ y. refl, record { up = λ l v. (l.1, l.0, tt); down = λ l. (l.1, l.0) })
named_goes (field_of all s before) ty n a (mark Semicolon) = (
  (a.0.0, some_field before (declaring_of ty n) a.0.1 a.1),
  λ y. ap (λ z. program_words all (keyword Keyword.Struct ∷ (name s ∷ (mark OpenBrace ∷ z)))) (fields_more before (declaring_of ty n) y),
  record {
    up = λ l v. (l.1.0, few_given_more before (declaring_of ty n) l.1.1 l.0);
    down = λ l. let r = few_given_less before (declaring_of ty n) l.1 in (r.1, (l.0, r.0));
  },
)
named_goes (parameter_of all r f before) ty n a (mark Comma) = (
  (a.0.0, a.0.1, declaring_more before (declaring_of ty n) a.0.2 a.1),
  λ y. ap (λ z. program_words all (type_words r (name f ∷ (mark OpenParenthesis ∷ z)))) (given_more before (declaring_of ty n) y),
  record {
    up = λ l v. (l.1.0, l.1.1, few_given_more before (declaring_of ty n) l.1.2 l.0);
    down = λ l. let w = few_given_less before (declaring_of ty n) l.2 in (w.1, (l.0, l.1, w.0));
  },
)
named_goes (parameter_of all r f before) ty n a (mark CloseParenthesis) = (
  (a.0.0, a.0.1, declaring_more before (declaring_of ty n) a.0.2 a.1, tt),
  λ y. ap (λ z. program_words all (type_words r (name f ∷ (mark OpenParenthesis ∷ z)))) (parameters_more before (declaring_of ty n) (mark CloseParenthesis ∷ (mark OpenBrace ∷ y))),
  record {
    up = λ l v. (tt, (l.1.0, l.1.1, few_given_more before (declaring_of ty n) l.1.2 l.0, tt, omega arith));
    down = λ l. let w = few_given_less before (declaring_of ty n) l.1.2 in (w.1, (l.1.0, l.1.1, w.0));
  },
)
named_goes (local p o) ty n a (mark Semicolon) =
    lined_goes p (local_line (declaring_of ty n) None) o (a.1, tt) a.0.1 (λ _. a.0.0) (so_far (Named (local p o) ty n)) (mark Semicolon) (LowCore (Named (local p o) ty n)) (λ y. refl)
    (declares_moves p (declaring_of ty n) None o (LowCore (Named (local p o) ty n)) (λ l. ((l.0, tt), l.1.0, l.1.1)) (λ l. (l.0.0, (l.1, l.2))))
named_goes (local p o) ty n a (mark Assign) = (((a.0.0, a.1), a.0.1), λ y. refl, record { up = λ l v. ((l.1.0, l.0), l.1.1); down = λ l. (l.0.1, (l.0.0, l.1)) })
named_goes _ ty n a _ = tt

pub core_goes : (c : Core) → Sound c → (t : Word) → From c t (core_step c t)
core_goes (Want k) a t = want_goes k a t
core_goes (Have x k) a t = role_goes (role t) x k a t (spells t)
core_goes (Called f k) a (mark CloseParenthesis) = ((omega arith, tt, a), λ y. refl, record { up = λ l v. (omega (arith, l.0), tt, l.1); down = λ l. (omega (arith, l.0), l.2) })
core_goes (Called f k) a t = from_core (Want (arguments f none k)) (Called f k) t (want (arguments f none k) t) (λ y. refl) (λ l. (omega (arith, l.0), tt, l.1)) (λ l. (omega (arith, l.0), l.2)) (want_goes (arguments f none k) (tt, a) t)
core_goes (Dotted x w k) a (name n) = ((omega arith, (a.0, a.1), a.2), λ y. refl, record { up = λ l v. (omega (arith, l.0), l.1, l.2); down = λ l. (omega (arith, l.0), l.1, l.2) })
core_goes (Dotted x w k) a _ = tt
core_goes (Spawning k) a (name f) = ((tt, a), λ y. refl, record { up = λ l v. (l.0, tt, l.1); down = λ l. (l.0, l.2) })
core_goes (Spawning k) a _ = tt
core_goes (Start o) a t = start_goes o a t
core_goes (Done s o) a t = done_goes s o a.0 a.2 a.3 t (λ h. never (takes_else s) a.1 h)
core_goes (Returning o) a (mark Semicolon) = ((may o, refl, tt, a), λ y. refl, record { up = λ l v. (tt, omega (arith, l.0), l.1); down = λ l. (omega (arith, l.1), l.2) })
core_goes (Returning o) a t = want_goes (part returning o) (tt, a) t
core_goes (ForOpen o) a (mark Semicolon) = ((tt, a), λ y. refl, record { up = λ l v. (tt, l.0, l.1); down = λ l. (l.1, l.2) })
core_goes (ForOpen o) a t =
    or_else_goes (so_far (ForOpen o)) t (LowCore (ForOpen o)) (begin_type (naming (local as_first o)) t) (want (part (subject (in_line as_first)) o) t)
    (begin_goes (naming (local as_first o)) (refl, a) t)
    (want_goes (part (subject (in_line as_first)) o) (tt, a) t)
core_goes (ForTest l o) a (mark Semicolon) = ((a.0, tt, a.1), λ y. refl, record { up = λ h v. (h.0, tt, h.1, h.2); down = λ h. (h.0, h.2, h.3) })
core_goes (ForTest l o) a t = from_core (Want (part (testing l) o)) (ForTest l o) t (want (part (testing l) o) t) (λ y. refl) (λ h. ((h.0, h.1), h.2)) (λ h. (h.0.0, h.0.1, h.1)) (want_goes (part (testing l) o) a t)
core_goes (ForStep l e o) a (mark CloseParenthesis) = (
  ((a.0, a.1, tt), a.2),
  λ y. refl,
  record {
    up = λ h v. (h.2, ((h.0, h.1, tt), omega (arith, h.2), h.3));
    down = λ h. (h.1.0.0, h.1.0.1, h.0, h.1.2);
  },
)
core_goes (ForStep l e o) a t = from_core (Want (part (subject (as_step l e)) o)) (ForStep l e o) t (want (part (subject (as_step l e)) o) t) (λ y. refl) (λ h. ((h.0, h.1, h.2), h.3)) (λ h. (h.0.0, h.0.1, h.0.2, h.1)) (want_goes (part (subject (as_step l e)) o) ((a.0, a.1), a.2) t)
core_goes (Malloced v o) a (keyword Keyword.Sizeof) = ((a.0, tt, a.1), λ y. refl, record { up = λ l w. (l.0, tt, l.1); down = λ l. (l.0, l.2) })
core_goes (Malloced v o) a t = want_goes (part (counting v) o) a t
core_goes (Valued v r o) a t = value_goes v r o a.1 a.0 a.2 t
core_goes (TypeWant p) a t = begin_goes p a t
core_goes (ModeFirst p s) a t = base_goes p (Some s) a.0 a.1 t
core_goes (StructWant p m) a (name n) = based_goes p m (Base.Struct n) a.0 a.1
core_goes (StructWant p m) a _ = tt
core_goes (Typed p first b m below) a t = typed_goes p first b m below a t
core_goes (PathWant p) a (name n) = (a, λ y. refl, alike (LowMode p) (PathNamed p n) (λ l. l) (λ l. l))
core_goes (PathWant p) a _ = tt
core_goes (PathNamed p n) a (mark CloseParenthesis) = moded_goes p (locked n) a
core_goes (PathNamed p n) a (mark Arrow) = (a, λ y. refl, alike (LowMode p) (PathThrough p n) (λ l. l) (λ l. l))
core_goes (PathNamed p n) a _ = tt
core_goes (PathThrough p x) a (name m) = moded_goes p (locked_through x m) a
core_goes (PathThrough p x) a _ = tt
core_goes (Named p ty n) a t = named_goes p ty n a t
core_goes (Fields all s before) a (mark CloseBrace) = top_goes (Fields all s before) (mark CloseBrace) all (structure s before) a.0 a.1 (a_semicolon ∷ []) (λ y. refl) (λ l. l) (λ l. l)
core_goes (Fields all s before) a t = begin_goes (naming (field_of all s before)) (a.0, fields_fit before a.1) t
core_goes (ArrayWant all d) a (number n) = top_goes (ArrayWant all d) (number n) all (global d (array n)) a.0 (a.1, tt) (a_bracket ∷ a_semicolon ∷ []) (λ y. refl) (λ l. l) (λ l. l)
core_goes (ArrayWant all d) a _ = tt
core_goes (InitialWant all d) a (mark Minus) = (a, λ y. refl, alike (LowCore (InitialWant all d)) (InitialNegative all d) (λ l. l) (λ l. l))
core_goes (InitialWant all d) a (number n) = top_goes (InitialWant all d) (number n) all (global d (initially false (Constant.Number n))) a.0 (a.1, tt) (a_semicolon ∷ []) (λ y. refl) (λ l. l) (λ l. l)
core_goes (InitialWant all d) a (character c) = top_goes (InitialWant all d) (character c) all (global d (initially false (Constant.Character c))) a.0 (a.1, tt) (a_semicolon ∷ []) (λ y. refl) (λ l. l) (λ l. l)
core_goes (InitialWant all d) a (keyword Keyword.Null) = top_goes (InitialWant all d) (keyword Keyword.Null) all (global d (initially false Constant.Null)) a.0 (a.1, tt) (a_semicolon ∷ []) (λ y. refl) (λ l. l) (λ l. l)
core_goes (InitialWant all d) a _ = tt
core_goes (InitialNegative all d) a (number n) = top_goes (InitialNegative all d) (number n) all (global d (initially true (Constant.Number n))) a.0 (a.1, tt) (a_semicolon ∷ []) (λ y. refl) (λ l. l) (λ l. l)
core_goes (InitialNegative all d) a (character c) = top_goes (InitialNegative all d) (character c) all (global d (initially true (Constant.Character c))) a.0 (a.1, tt) (a_semicolon ∷ []) (λ y. refl) (λ l. l) (λ l. l)
core_goes (InitialNegative all d) a _ = tt
core_goes (Top all) a t = begin_goes (naming (on_top all)) a t
