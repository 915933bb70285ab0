-- Each state of the machine that fits has a completion, and one within the limits where the state is within them.
use Rattle.sharc_parse.proofs.{Imports.{◌≡◌, ℕ, ◌+◌, ◌≤◌, ◌<◌, List, [], ◌∷◌, length, Option, Some, None, refl, ap, ◌∙◌, arith, Bool, true, false, max, pos, Int, OpenParenthesis, CloseParenthesis, OpenBrace, CloseBrace, CloseBracket, Semicolon, Comma, Assign, Star, Base, Keyword, Constant, Word, name, keyword, mark, number, character, Sharing, locked, locked_through, Typing, Declaring, sharing_words, level_words, base_words, type_words, declaring_words, FitsType, IsPlain, of_spawn, of_cast, Phrase, constant, enclosed, call, index, field, unary, binary, Phrases, none, more, words, level, Fits, Value, value, malloc, Doing, assign, Line, nothing, does, Sentence, line, return, block, under, Sentences, no_more, sentence, if_of, while_of, value_words, doing_words, line_words, loop_words, written, written_all, opening_words, is_declaring, is_declaration, FitsOption, FitsValue, FitsDoing, FitsLine, FitsStep, FitsAs, Form, single, array, initially, Part, structure, global, parameters_words, part_words, program_words, FitsForm, FitsPart, IsProgram, Outer, body, items, inside, LinePlace, as_statement, as_first, DoingPlace, in_line, as_step, ValuePlace, of_doing, of_local, Asked, by_if, by_while, ExpressionPlace, condition, returning, testing, subject, valued, counting, Cont, part, beneath, right_of, fronted, indexing, arguments, NamePlace, on_top, field_of, parameter_of, local, TypePlace, naming, casting, sizing, ModePlace, before_base, at_level, Core, Want, Have, Called, Dotted, Spawning, Start, Done, Returning, ForOpen, ForTest, ForStep, Malloced, Valued, TypeWant, ModeFirst, StructWant, Typed, PathWant, PathNamed, PathThrough, Named, Fields, ArrayWant, InitialWant, InitialNegative, Top, with_last, floor, loop, local_line, typing_of, takes_modes, moded, based, declaring_of, with_part, with_declaring, fields, with_item, function_of, may_declare, height, highest, FewStars, FewFront, Few, FewAll, Low, LowOption, LowValue, LowDoing, LowInitial, LowLine, LowStep, LowSentence, LowAll, LowOpening, line_nesting, nesting, deepest, nesting_before, FewGiven, LowPart, LowProgram, depth, around_it, floor_most}, CompleteProgram.MayStand, Sound.{outside, line_place_words, doing_place_words, value_place_words, around, struct_words, name_place_words, type_place_words, mode_place_words, so_far, Outside, DoingAt, ValueAt, Around, NameAt, TypeAt, ModeAt, BaseAt, Sound, program_more, is_program_more, parameters_more, declaring_more, some_field, list_more, all_more, items_more, fit_more, may, moded_sound, moded_says, fields_more, based_sound, is_statement}}

-- what is around it is within the limits

abbrev pub LowOuter : Outer → Type 0
LowOuter (body all r f given s) = LowProgram all × FewStars r × FewGiven given × LowAll s × (deepest s + 1 ≤ 64)
LowOuter (items all o) = LowAll all × (around_it o + 1 + deepest all ≤ 64) × LowOuter o
LowOuter (inside w o) = LowOpening w × (around_it o + 1 + nesting_before w ≤ 64) × LowOuter o

-- there is room for a line that does something, and for a declaration
abbrev pub Room : LinePlace → Outer → Type 0
Room as_statement o = around_it o < 64
Room as_first o = around_it o < 63

abbrev pub RoomToDeclare : LinePlace → Outer → Type 0
RoomToDeclare as_statement o = Unit {0}
RoomToDeclare as_first o = around_it o < 63

abbrev pub LowDoingPlace : DoingPlace → Outer → Type 0
LowDoingPlace (in_line p) o = Room p o
LowDoingPlace (as_step l e) o = LowLine l × LowOption e × (around_it o < 63)

abbrev pub LowValuePlace : ValuePlace → Outer → Type 0
LowValuePlace (of_doing d u) o = LowDoingPlace d o × Low u
LowValuePlace (of_local p d) o = RoomToDeclare p o × FewStars d.typing

abbrev pub LowPlace : ExpressionPlace → Outer → Type 0
LowPlace (condition q) o = around_it o < 63
LowPlace returning o = around_it o < 64
LowPlace (testing l) o = LowLine l × (around_it o < 63)
LowPlace (subject d) o = LowDoingPlace d o
LowPlace (valued v) o = LowValuePlace v o
LowPlace (counting v) o = LowValuePlace v o

abbrev pub LowAround : Cont → Type 0
LowAround (part p o) = LowPlace p o × LowOuter o
LowAround (beneath u k) = (depth k < 64) × LowAround k
LowAround (right_of a o k) = (depth k + height a < 64) × Few a × LowAround k
LowAround (fronted f k) = (depth k < 64) × FewFront f × LowAround k
LowAround (indexing a k) = (depth k + height a < 64) × Few a × LowAround k
LowAround (arguments f all k) = (depth k + highest all < 64) × FewAll all × LowAround k

abbrev pub LowName : NamePlace → Type 0
LowName (on_top all) = LowProgram all
LowName (field_of all s fields) = LowProgram all × FewGiven fields
LowName (parameter_of all r f given) = LowProgram all × FewStars r × FewGiven given
LowName (local p o) = RoomToDeclare p o × LowOuter o

abbrev pub LowType : TypePlace → Type 0
LowType (naming p) = LowName p
LowType (casting k) = (depth k < 64) × LowAround k
LowType (sizing v n o) = LowValuePlace v o × LowOption n × LowOuter o

abbrev pub LowMode : ModePlace → Type 0
LowMode (before_base p) = LowType p
LowMode (at_level p first b below) = (length below ≤ 8) × LowType p

abbrev pub LowStart : Outer → Type 0
LowStart (inside w o) = around_it o < 63
LowStart _ = Unit {0}

abbrev pub LowCore : Core → Type 0
LowCore (Want k) = LowAround k
LowCore (Have x k) = (depth k + height x ≤ 64) × Few x × LowAround k
LowCore (Called f k) = (depth k < 64) × LowAround k
LowCore (Dotted x a k) = (depth k + height x < 64) × Few x × LowAround k
LowCore (Spawning k) = (depth k < 64) × LowAround k
LowCore (Start o) = LowStart o × LowOuter o
LowCore (Done s o) = LowSentence s × (around_it o + nesting s ≤ 64) × LowOuter o
LowCore (Returning o) = (around_it o < 64) × LowOuter o
LowCore (ForOpen o) = (around_it o < 63) × LowOuter o
LowCore (ForTest l o) = LowLine l × (around_it o < 63) × LowOuter o
LowCore (ForStep l e o) = LowLine l × LowOption e × (around_it o < 63) × LowOuter o
LowCore (Malloced v o) = LowValuePlace v o × LowOuter o
LowCore (Valued v r o) = LowValuePlace v o × LowValue r × LowOuter o
LowCore (TypeWant p) = LowType p
LowCore (ModeFirst p s) = LowType p
LowCore (StructWant p m) = LowType p
LowCore (Typed p first b m below) = (length below ≤ 8) × LowType p
LowCore (PathWant p) = LowMode p
LowCore (PathNamed p n) = LowMode p
LowCore (PathThrough p n) = LowMode p
LowCore (Named p ty n) = FewStars ty × LowName p
LowCore (Fields all s fields) = LowProgram all × FewGiven fields
LowCore (ArrayWant all d) = LowProgram all × FewStars d.typing
LowCore (InitialWant all d) = LowProgram all × FewStars d.typing
LowCore (InitialNegative all d) = LowProgram all × FewStars d.typing
LowCore (Top all) = LowProgram all

-- one more in a list

pub low_part_more : (all : List Part) (p : Part) → LowProgram all → LowPart p → LowProgram (with_part all p)
low_part_more [] p a w = (w, tt)
low_part_more (b ∷ rest) p a w = (a.0, low_part_more rest p a.1 w)

pub low_part_less : (all : List Part) (p : Part) → LowProgram (with_part all p) → LowProgram all × LowPart p
low_part_less [] p a = (tt, a.0)
low_part_less (b ∷ rest) p a = let r = low_part_less rest p a.1 in ((a.0, r.0), r.1)

pub few_given_more : (all : List Declaring) (d : Declaring) → FewGiven all → FewStars d.typing → FewGiven (with_declaring all d)
few_given_more [] d a w = (w, tt)
few_given_more (b ∷ rest) d a w = (a.0, few_given_more rest d a.1 w)

pub few_given_less : (all : List Declaring) (d : Declaring) → FewGiven (with_declaring all d) → FewGiven all × FewStars d.typing
few_given_less [] d a = (tt, a.0)
few_given_less (b ∷ rest) d a = let r = few_given_less rest d a.1 in ((a.0, r.0), r.1)

pub low_item_more : (all : Sentences) (s : Sentence) → LowAll all → LowSentence s → LowAll (with_item all s)
low_item_more no_more s l h = (h, tt)
low_item_more (sentence a rest) s l h = (l.0, low_item_more rest s l.1 h)

pub low_item_less : (all : Sentences) (s : Sentence) → LowAll (with_item all s) → LowAll all × LowSentence s
low_item_less no_more s l = (tt, l.0)
low_item_less (sentence a rest) s l = let r = low_item_less rest s l.1 in ((l.0, r.0), r.1)

pub deepest_more : (all : Sentences) (s : Sentence) → deepest (with_item all s) ≡ max (deepest all) (nesting s)
deepest_more no_more s = omega arith
deepest_more (sentence a rest) s = omega (arith, deepest_more rest s)

pub highest_more : (all : Phrases) (x : Phrase) → highest (with_last all x) ≡ max (highest all) (height x)
highest_more none x = omega arith
highest_more (more a rest) x = omega (arith, highest_more rest x)

pub few_more : (all : Phrases) (x : Phrase) → FewAll all → Few x → FewAll (with_last all x)
few_more none x l h = (h, tt)
few_more (more a rest) x l h = (l.0, few_more rest x l.1 h)

pub few_less : (all : Phrases) (x : Phrase) → FewAll (with_last all x) → FewAll all × Few x
few_less none x l = (tt, l.0)
few_less (more a rest) x l = let r = few_less rest x l.1 in ((l.0, r.0), r.1)

-- a program that goes on from there, within the limits where P holds
pub record Completed (says : List Word → List Word) (P : Type 0) : Type 0 where
  pub parts : List Part
  pub fits : IsProgram parts
  pub rest : List Word
  pub is : program_words parts [] ≡ says rest
  pub low : P → LowProgram parts

-- a completion with these words in front of it
onward : (f g : List Word → List Word) (P Q : Type 0) (front : List Word → List Word) → ((y : List Word) → g y ≡ f (front y)) → (P → Q) → Completed g Q → Completed f P
onward f g P Q front e h r = record { parts = r.parts; fits = r.fits; rest = front r.rest; is = r.is ∙ e r.rest; low = λ l. r.low (h l) }

complete_top : (all : List Part) → IsProgram all → Completed (program_words all) (LowProgram all)
complete_top all a = record { parts = all; fits = a; rest = []; is = refl; low = λ l. l }

complete_part : (all : List Part) (p : Part) → IsProgram all → FitsPart p → Completed (λ y. program_words all (part_words p y)) (LowProgram all × LowPart p)
complete_part all p a w =
    onward (λ y. program_words all (part_words p y)) (program_words (with_part all p)) (LowProgram all × LowPart p) (LowProgram (with_part all p)) (λ y. y)
    (λ y. program_more all p y) (λ l. low_part_more all p l.0 l.1) (complete_top (with_part all p) (is_program_more all p a w))

complete_body : (all : List Part) (r : Typing) (f : List ℕ) (given : List Declaring) (s : Sentences) → Outside (body all r f given s) → Completed (outside (body all r f given s)) (LowOuter (body all r f given s))
complete_body all r f given s a =
    onward (outside (body all r f given s)) (λ y. program_words all (part_words (function_of r f given s) y)) (LowOuter (body all r f given s)) (LowProgram all × LowPart (function_of r f given s)) (λ y. mark CloseBrace ∷ y)
    (λ y. refl) (λ l. (l.0, (l.1, l.2, l.3, l.4))) (complete_part all (function_of r f given s) a.0 (a.1, a.2, a.3))

complete_outer : (o : Outer) (s : Sentence) → FitsAs s → MayStand o (is_declaration s) → Outside o → Completed (λ y. outside o (written s y)) (LowSentence s × (around_it o + nesting s ≤ 64) × LowOuter o)
complete_outer (body all r f given b) s w m a =
    onward (λ y. outside (body all r f given b) (written s y)) (outside (body all r f given (with_item b s))) (LowSentence s × (1 + nesting s ≤ 64) × LowOuter (body all r f given b)) (LowOuter (body all r f given (with_item b s))) (λ y. y)
    (λ y. ap (λ z. program_words all (type_words r (name f ∷ (mark OpenParenthesis ∷ parameters_words given (mark CloseParenthesis ∷ (mark OpenBrace ∷ z)))))) (items_more b s y))
    (λ l. (l.2.0, l.2.1, l.2.2, low_item_more b s l.2.3 l.0, omega (arith, deepest_more b s, l.1, l.2.4)))
    (complete_body all r f given (with_item b s) (a.0, a.1, a.2, fit_more b s a.3 w))
complete_outer (items all o) s w m a =
    onward (λ y. outside o (mark OpenBrace ∷ written_all all (written s y))) (λ y. outside o (written (block (with_item all s)) y)) (LowSentence s × (around_it o + 1 + nesting s ≤ 64) × LowOuter (items all o)) (LowAll (with_item all s) × (around_it o + (deepest (with_item all s) + 1) ≤ 64) × LowOuter o) (λ y. mark CloseBrace ∷ y)
    (λ y. ap (λ z. outside o (mark OpenBrace ∷ z)) (items_more all s (mark CloseBrace ∷ y)))
    (λ l. (low_item_more all s l.2.0 l.0, omega (arith, deepest_more all s, l.1, l.2.1), l.2.2))
    (complete_outer o (block (with_item all s)) (fit_more all s a.0 w) (may o) a.1)
complete_outer (inside v o) s w m a =
    onward (λ y. outside o (opening_words v (written s y))) (λ y. outside o (written (under v s) y)) (LowSentence s × (around_it o + 1 + nesting s ≤ 64) × LowOuter (inside v o)) ((LowOpening v × LowSentence s) × (around_it o + (max (nesting_before v) (nesting s) + 1) ≤ 64) × LowOuter o) (λ y. y)
    (λ y. refl)
    (λ l. ((l.2.0, l.0), omega (arith, l.1, l.2.1), l.2.2))
    (complete_outer o (under v s) (is_statement (is_declaration s) m, a.0, w) (may o) a.1)

complete_loop : (l : Line) (e : Option Phrase) (x : Option Doing) (o : Outer) → FitsLine l → FitsOption e → FitsStep x → Outside o → Completed (λ y. outside o (loop_words (record { first = l; test = e; step = x }) y)) (LowLine l × LowOption e × LowStep x × (around_it o < 63) × LowOuter o)
complete_loop l e x o w v u a =
    onward (λ y. outside o (loop_words (record { first = l; test = e; step = x }) y)) (λ y. outside (inside (loop l e x) o) (written (line nothing) y)) (LowLine l × LowOption e × LowStep x × (around_it o < 63) × LowOuter o) (Unit {0} × (around_it o + 1 + 1 ≤ 64) × LowOuter (inside (loop l e x) o)) (λ y. mark Semicolon ∷ y)
    (λ y. refl)
    (λ h. (tt, omega (arith, h.3), ((h.0, h.1, h.2), omega (arith, h.3), h.4)))
    (complete_outer (inside (loop l e x) o) (line nothing) tt (λ h. cc) ((w, v, u), a))

abbrev pub LowLined : LinePlace → Line → Outer → Type 0
LowLined as_statement l o = LowLine l × (around_it o + line_nesting l ≤ 64) × LowOuter o
LowLined as_first l o = LowLine l × (around_it o < 63) × LowOuter o

complete_line : (p : LinePlace) (l : Line) (o : Outer) → FitsLine l → (is_declaring l ≡ true → may_declare p o ≡ true) → Outside o → Completed (λ y. outside o (line_place_words p (line_words l y))) (LowLined p l o)
complete_line as_statement l o w m a = complete_outer o (line l) w m a
complete_line as_first l o w m a =
    onward (λ y. outside o (line_place_words as_first (line_words l y))) (λ y. outside o (loop_words (record { first = l; test = None; step = None }) y)) (LowLined as_first l o) (LowLine l × Unit {0} × Unit {0} × (around_it o < 63) × LowOuter o) (λ y. mark Semicolon ∷ (mark CloseParenthesis ∷ y))
    (λ y. refl) (λ h. (h.0, tt, tt, h.1, h.2)) (complete_loop l None None o w tt tt a)

low_does : (p : LinePlace) (x : Doing) (o : Outer) → LowDoing x → Room p o → LowOuter o → LowLined p (does x) o
low_does as_statement x o l r h = (l, omega (arith, r), h)
low_does as_first x o l r h = (l, r, h)

low_declares : (p : LinePlace) (d : Declaring) (i : Option Value) (o : Outer) → FewStars d.typing → LowInitial i → RoomToDeclare p o → around_it o ≤ 64 → LowOuter o → LowLined p (local_line d i) o
low_declares as_statement d i o s l r m h = ((s, l), omega (arith, m), h)
low_declares as_first d i o s l r m h = ((s, l), r, h)

pub around_most : (o : Outer) → LowOuter o → around_it o ≤ 64
around_most (body all r f given s) l = omega arith
around_most _ l = omega (arith, l.1)

complete_doing : (d : DoingPlace) (x : Doing) (o : Outer) → FitsDoing x → DoingAt d → Outside o → Completed (λ y. outside o (doing_place_words d (doing_words x y))) (LowDoing x × LowDoingPlace d o × LowOuter o)
complete_doing (in_line p) x o w h a =
    onward (λ y. outside o (line_place_words p (doing_words x y))) (λ y. outside o (line_place_words p (line_words (does x) y))) (LowDoing x × Room p o × LowOuter o) (LowLined p (does x) o) (λ y. mark Semicolon ∷ y)
    (λ y. refl) (λ l. low_does p x o l.0 l.1 l.2) (complete_line p (does x) o w (λ h. cc) a)
complete_doing (as_step l e) x o w h a =
    onward (λ y. outside o (doing_place_words (as_step l e) (doing_words x y))) (λ y. outside o (loop_words (record { first = l; test = e; step = Some x }) y)) (LowDoing x × LowDoingPlace (as_step l e) o × LowOuter o) (LowLine l × LowOption e × LowDoing x × (around_it o < 63) × LowOuter o) (λ y. mark CloseParenthesis ∷ y)
    (λ y. refl) (λ k. (k.1.0, k.1.1, k.0, k.1.2, k.2)) (complete_loop l e (Some x) o h.0 h.1 w a)

complete_value : (v : ValuePlace) (r : Value) (o : Outer) → FitsValue r → ValueAt v o → Outside o → Completed (λ y. outside o (value_place_words v (value_words r y))) (LowValue r × LowValuePlace v o × LowOuter o)
complete_value (of_doing d u) r o w h a =
    onward (λ y. outside o (doing_place_words d (words u (mark Assign ∷ value_words r y)))) (λ y. outside o (doing_place_words d (doing_words (assign u r) y))) (LowValue r × LowValuePlace (of_doing d u) o × LowOuter o) (LowDoing (assign u r) × LowDoingPlace d o × LowOuter o) (λ y. y)
    (λ y. refl) (λ l. ((l.1.1, l.0), l.1.0, l.2)) (complete_doing d (assign u r) o (h.1, h.2, w) h.0 a)
complete_value (of_local p d) r o w h a =
    onward (λ y. outside o (line_place_words p (declaring_words d (mark Assign ∷ value_words r y)))) (λ y. outside o (line_place_words p (line_words (local_line d (Some r)) y))) (LowValue r × LowValuePlace (of_local p d) o × LowOuter o) (LowLined p (local_line d (Some r)) o) (λ y. mark Semicolon ∷ y)
    (λ y. refl) (λ l. low_declares p d (Some r) o l.1.1 l.0 l.1.0 (around_most o l.2) l.2) (complete_line p (local_line d (Some r)) o (h.1, w) (λ _. h.0) a)

abbrev nought : Phrase
nought = constant Constant.Null

abbrev plain_int : Typing
plain_int = typing_of false Base.Int None []

complete_condition : (q : Asked) (o : Outer) (x : Phrase) → Fits x → Outside o → Completed (λ y. around (part (condition q) o) (words x y)) (Low x × (around_it o < 63) × LowOuter o)
complete_condition by_if o x w a =
    onward (λ y. around (part (condition by_if) o) (words x y)) (λ y. outside (inside (if_of x) o) (written (line nothing) y)) (Low x × (around_it o < 63) × LowOuter o) (Unit {0} × (around_it o + 1 + 1 ≤ 64) × LowOuter (inside (if_of x) o)) (λ y. mark CloseParenthesis ∷ (mark Semicolon ∷ y))
    (λ y. refl) (λ l. (tt, omega (arith, l.1), (l.0, omega (arith, l.1), l.2))) (complete_outer (inside (if_of x) o) (line nothing) tt (λ h. cc) (w, a))
complete_condition by_while o x w a =
    onward (λ y. around (part (condition by_while) o) (words x y)) (λ y. outside (inside (while_of x) o) (written (line nothing) y)) (Low x × (around_it o < 63) × LowOuter o) (Unit {0} × (around_it o + 1 + 1 ≤ 64) × LowOuter (inside (while_of x) o)) (λ y. mark CloseParenthesis ∷ (mark Semicolon ∷ y))
    (λ y. refl) (λ l. (tt, omega (arith, l.1), (l.0, omega (arith, l.1), l.2))) (complete_outer (inside (while_of x) o) (line nothing) tt (λ h. cc) (w, a))

complete_place : (p : ExpressionPlace) (o : Outer) (x : Phrase) → Fits x → floor (part p o) ≤ level x → Around (part p o) → Completed (λ y. around (part p o) (words x y)) (Low x × LowPlace p o × LowOuter o)
complete_place (condition q) o x w f a = complete_condition q o x w a.1
complete_place returning o x w f a =
    onward (λ y. around (part returning o) (words x y)) (λ y. outside o (written (return (Some x)) y)) (Low x × LowPlace returning o × LowOuter o) (Low x × (around_it o + 1 ≤ 64) × LowOuter o) (λ y. mark Semicolon ∷ y)
    (λ y. refl) (λ l. (l.0, omega (arith, l.1), l.2)) (complete_outer o (return (Some x)) w (may o) a.1)
complete_place (testing l) o x w f a =
    onward (λ y. around (part (testing l) o) (words x y)) (λ y. outside o (loop_words (record { first = l; test = Some x; step = None }) y)) (Low x × LowPlace (testing l) o × LowOuter o) (LowLine l × Low x × Unit {0} × (around_it o < 63) × LowOuter o) (λ y. mark Semicolon ∷ (mark CloseParenthesis ∷ y))
    (λ y. refl) (λ h. (h.1.0, h.0, tt, h.1.1, h.2)) (complete_loop l (Some x) None o a.0 w tt a.1)
complete_place (subject d) o x w f a =
    onward (λ y. around (part (subject d) o) (words x y)) (λ y. outside o (doing_place_words d (doing_words (assign x (value nought)) y))) (Low x × LowPlace (subject d) o × LowOuter o) (LowDoing (assign x (value nought)) × LowDoingPlace d o × LowOuter o) (λ y. mark Assign ∷ (keyword Keyword.Null ∷ y))
    (λ y. refl) (λ l. ((l.0, (omega arith, tt)), l.1, l.2)) (complete_doing d (assign x (value nought)) o (f, w, tt) a.0 a.1)
complete_place (valued v) o x w f a = complete_value v (value x) o w a.0 a.1
complete_place (counting v) o x w f a =
    onward (λ y. around (part (counting v) o) (words x y)) (λ y. outside o (value_place_words v (value_words (malloc (Some x) plain_int) y))) (Low x × LowPlace (counting v) o × LowOuter o) (LowValue (malloc (Some x) plain_int) × LowValuePlace v o × LowOuter o) (λ y. mark Star ∷ (keyword Keyword.Sizeof ∷ (mark OpenParenthesis ∷ (keyword Keyword.Int ∷ (mark CloseParenthesis ∷ (mark CloseParenthesis ∷ y))))))
    (λ y. refl) (λ l. ((l.0, omega arith), l.1, l.2)) (complete_value v (malloc (Some x) plain_int) o ((f, w), tt, (refl, tt)) a.0 a.1)

complete : (k : Cont) (x : Phrase) → Fits x → floor k ≤ level x → Around k → Completed (λ y. around k (words x y)) ((depth k + height x ≤ 64) × Few x × LowAround k)
complete (part p o) x w f a =
    onward (λ y. around (part p o) (words x y)) (λ y. around (part p o) (words x y)) ((0 + height x ≤ 64) × Few x × LowAround (part p o)) (Low x × LowPlace p o × LowOuter o) (λ y. y)
    (λ y. refl) (λ l. ((omega (arith, l.0), l.1), l.2.0, l.2.1)) (complete_place p o x w f a)
complete (beneath u k) x w f a =
    onward (λ y. around (beneath u k) (words x y)) (λ y. around k (words (unary u x) y)) ((depth k + 1 + height x ≤ 64) × Few x × LowAround (beneath u k)) ((depth k + (height x + 1) ≤ 64) × Few x × LowAround k) (λ y. y)
    (λ y. refl) (λ l. (omega (arith, l.0), l.1, l.2.1)) (complete k (unary u x) (f, w) a.0 a.1)
complete (right_of b o k) x w f a =
    onward (λ y. around (right_of b o k) (words x y)) (λ y. around k (words (binary o b x) y)) ((depth k + 1 + height x ≤ 64) × Few x × LowAround (right_of b o k)) ((depth k + (max (height b) (height x) + 1) ≤ 64) × (Few b × Few x) × LowAround k) (λ y. y)
    (λ y. refl) (λ l. (omega (arith, l.0, l.2.0), (l.2.1, l.1), l.2.2)) (complete k (binary o b x) (a.0, f, a.2, w) a.1 a.3)
complete (fronted h k) x w f a =
    onward (λ y. around (fronted h k) (words x y)) (λ y. around k (words (enclosed h x) y)) ((depth k + 1 + height x ≤ 64) × Few x × LowAround (fronted h k)) ((depth k + (height x + 1) ≤ 64) × (FewFront h × Few x) × LowAround k) (λ y. mark CloseParenthesis ∷ y)
    (λ y. refl) (λ l. (omega (arith, l.0), (l.2.1, l.1), l.2.2)) (complete k (enclosed h x) (a.0, f, w) (omega (arith, floor_most k)) a.1)
complete (indexing b k) x w f a =
    onward (λ y. around (indexing b k) (words x y)) (λ y. around k (words (index b x) y)) ((depth k + 1 + height x ≤ 64) × Few x × LowAround (indexing b k)) ((depth k + (max (height b) (height x) + 1) ≤ 64) × (Few b × Few x) × LowAround k) (λ y. mark CloseBracket ∷ y)
    (λ y. refl) (λ l. (omega (arith, l.0, l.2.0), (l.2.1, l.1), l.2.2)) (complete k (index b x) (a.0, a.1, w) (omega (arith, floor_most k)) a.2)
complete (arguments g all k) x w f a =
    onward (λ y. around (arguments g all k) (words x y)) (λ y. around k (words (call g (with_last all x)) y)) ((depth k + 1 + height x ≤ 64) × Few x × LowAround (arguments g all k)) ((depth k + (highest (with_last all x) + 1) ≤ 64) × FewAll (with_last all x) × LowAround k) (λ y. mark CloseParenthesis ∷ y)
    (λ y. ap (λ z. around k (name g ∷ (mark OpenParenthesis ∷ z))) (list_more all x (mark CloseParenthesis ∷ y)))
    (λ l. (omega (arith, l.0, l.2.0, highest_more all x), few_more all x l.2.1 l.1, l.2.2)) (complete k (call g (with_last all x)) (all_more all x a.0 w) (omega (arith, floor_most k)) a.1)

complete_name : (p : NamePlace) (d : Declaring) → NameAt p → FitsType d.typing → Completed (λ y. name_place_words p (declaring_words d y)) (FewStars d.typing × LowName p)
complete_name (on_top all) d a w =
    onward (λ y. program_words all (declaring_words d y)) (λ y. program_words all (part_words (global d single) y)) (FewStars d.typing × LowProgram all) (LowProgram all × FewStars d.typing) (λ y. mark Semicolon ∷ y)
    (λ y. refl) (λ l. (l.1, l.0)) (complete_part all (global d single) a (w, tt))
complete_name (field_of all s before) d a w =
    onward (λ y. struct_words all s before (declaring_words d y)) (λ y. program_words all (part_words (structure s (with_declaring before d)) y)) (FewStars d.typing × (LowProgram all × FewGiven before)) (LowProgram all × FewGiven (with_declaring before d)) (λ y. mark Semicolon ∷ (mark CloseBrace ∷ (mark Semicolon ∷ y)))
    (λ y. ap (λ z. program_words all (keyword Keyword.Struct ∷ (name s ∷ (mark OpenBrace ∷ z)))) (fields_more before d (mark CloseBrace ∷ (mark Semicolon ∷ y))))
    (λ l. (l.1.0, few_given_more before d l.1.1 l.0)) (complete_part all (structure s (with_declaring before d)) a.0 (some_field before d a.1 w))
complete_name (parameter_of all r f given) d a w =
    onward (λ y. name_place_words (parameter_of all r f given) (declaring_words d y)) (outside (body all r f (with_declaring given d) no_more)) (FewStars d.typing × (LowProgram all × FewStars r × FewGiven given)) (LowOuter (body all r f (with_declaring given d) no_more)) (λ y. mark CloseParenthesis ∷ (mark OpenBrace ∷ y))
    (λ y. ap (λ z. program_words all (type_words r (name f ∷ (mark OpenParenthesis ∷ z)))) (parameters_more given d (mark CloseParenthesis ∷ (mark OpenBrace ∷ y))))
    (λ l. (l.1.0, l.1.1, few_given_more given d l.1.2 l.0, tt, omega arith)) (complete_body all r f (with_declaring given d) no_more (a.0, a.1, declaring_more given d a.2 w, tt))
complete_name (local p o) d a w =
    onward (λ y. outside o (line_place_words p (declaring_words d y))) (λ y. outside o (line_place_words p (line_words (local_line d None) y))) (FewStars d.typing × LowName (local p o)) (LowLined p (local_line d None) o) (λ y. mark Semicolon ∷ y)
    (λ y. refl) (λ l. low_declares p d None o l.0 tt l.1.0 (around_most o l.1.1) l.1.1) (complete_line p (local_line d None) o (w, tt) (λ _. a.0) a.1)

-- some name
abbrev x_name : List ℕ
x_name = 120 ∷ []

complete_type : (p : TypePlace) (ty : Typing) → TypeAt p → FitsType ty → (takes_modes p ≡ false → IsPlain ty.mode_first ty.levels) → Completed (λ y. type_place_words p (type_words ty y)) (FewStars ty × LowType p)
complete_type (naming p) ty a w h =
    onward (λ y. name_place_words p (type_words ty y)) (λ y. name_place_words p (declaring_words (declaring_of ty x_name) y)) (FewStars ty × LowName p) (FewStars ty × LowName p) (λ y. name x_name ∷ y)
    (λ y. refl) (λ l. l) (complete_name p (declaring_of ty x_name) a w)
complete_type (casting k) ty a w h =
    onward (λ y. around k (keyword Keyword.Scast ∷ (mark OpenParenthesis ∷ type_words ty y))) (λ y. around k (words (enclosed (of_cast ty) nought) y)) (FewStars ty × LowType (casting k)) ((depth k + (0 + 1) ≤ 64) × (FewStars ty × Unit {0}) × LowAround k) (λ y. mark Comma ∷ (keyword Keyword.Null ∷ (mark CloseParenthesis ∷ y)))
    (λ y. refl) (λ l. (omega (arith, l.1.0), (l.0, tt), l.1.1)) (complete k (enclosed (of_cast ty) nought) (w, omega arith, tt) (omega (arith, floor_most k)) a)
complete_type (sizing v n o) ty a w h =
    onward (λ y. type_place_words (sizing v n o) (type_words ty y)) (λ y. outside o (value_place_words v (value_words (malloc n ty) y))) (FewStars ty × LowType (sizing v n o)) ((LowOption n × FewStars ty) × LowValuePlace v o × LowOuter o) (λ y. mark CloseParenthesis ∷ (mark CloseParenthesis ∷ y))
    (λ y. refl) (λ l. ((l.1.1, l.0), l.1.0, l.1.2)) (complete_value v (malloc n ty) o (a.1, w, h refl) a.0 a.2)

complete_typed : (p : TypePlace) (first : Bool) (b : Base) (m : Option Sharing) (below : List (Option Sharing)) → Sound (Typed p first b m below) → Completed (so_far (Typed p first b m below)) (LowCore (Typed p first b m below))
complete_typed p first b m below a = complete_type p (typing_of first b m below) a.0 a.1 a.2

complete_based : (p : TypePlace) (m : Option Sharing) (b : Base) → TypeAt p → BaseAt p m → Completed (λ y. type_place_words p (level_words m (base_words b y))) (LowType p)
complete_based p None b a h =
    onward (λ y. type_place_words p (base_words b y)) (so_far (based p None b)) (LowType p) (LowCore (based p None b)) (λ y. y) (λ y. refl) (λ l. (omega arith, l)) (complete_typed p false b None [] (based_sound p None b a h))
complete_based p (Some s) b a h =
    onward (λ y. type_place_words p (level_words (Some s) (base_words b y))) (so_far (based p (Some s) b)) (LowType p) (LowCore (based p (Some s) b)) (λ y. y) (λ y. refl) (λ l. (omega arith, l)) (complete_typed p true b (Some s) [] (based_sound p (Some s) b a h))

complete_first : (p : TypePlace) (s : Sharing) → TypeAt p → takes_modes p ≡ true → Completed (so_far (ModeFirst p s)) (LowType p)
complete_first p s a h =
    onward (so_far (ModeFirst p s)) (λ y. type_place_words p (level_words (Some s) (base_words Base.Int y))) (LowType p) (LowType p) (λ y. keyword Keyword.Int ∷ y) (λ y. refl) (λ l. l) (complete_based p (Some s) Base.Int a h)

complete_moded : (p : ModePlace) (s : Sharing) → ModeAt p → Completed (so_far (moded p s)) (LowMode p)
complete_moded (before_base p) s a = complete_first p s a.0 a.1
complete_moded (at_level p first b below) s a = complete_typed p first b (Some s) below (moded_sound (at_level p first b below) s a)

complete_mode : (p : ModePlace) (s : Sharing) → ModeAt p → Completed (λ y. mode_place_words p (sharing_words s y)) (LowMode p)
complete_mode p s a = onward (λ y. mode_place_words p (sharing_words s y)) (so_far (moded p s)) (LowMode p) (LowMode p) (λ y. y) (λ y. moded_says p s a y) (λ l. l) (complete_moded p s a)

complete_start : (o : Outer) → Outside o → Completed (outside o) (LowStart o × LowOuter o)
complete_start (body all r f given s) a =
    onward (outside (body all r f given s)) (outside (body all r f given s)) (Unit {0} × LowOuter (body all r f given s)) (LowOuter (body all r f given s)) (λ y. y) (λ y. refl) (λ l. l.1) (complete_body all r f given s a)
complete_start (items all o) a =
    onward (outside (items all o)) (λ y. outside o (written (block all) y)) (Unit {0} × LowOuter (items all o)) (LowAll all × (around_it o + (deepest all + 1) ≤ 64) × LowOuter o) (λ y. mark CloseBrace ∷ y)
    (λ y. refl) (λ l. (l.1.0, omega (arith, l.1.1), l.1.2)) (complete_outer o (block all) a.0 (may o) a.1)
complete_start (inside w o) a =
    onward (outside (inside w o)) (λ y. outside (inside w o) (written (line nothing) y)) (LowStart (inside w o) × LowOuter (inside w o)) (Unit {0} × (around_it o + 1 + 1 ≤ 64) × LowOuter (inside w o)) (λ y. mark Semicolon ∷ y)
    (λ y. refl) (λ l. (tt, omega (arith, l.0), l.1)) (complete_outer (inside w o) (line nothing) tt (λ h. cc) a)

complete_fields : (all : List Part) (s : List ℕ) (before : List Declaring) → Sound (Fields all s before) → Completed (so_far (Fields all s before)) (LowProgram all × FewGiven before)
complete_fields all s before a =
    onward (so_far (Fields all s before)) (λ y. program_words all (part_words (structure s before) y)) (LowProgram all × FewGiven before) (LowProgram all × FewGiven before) (λ y. mark CloseBrace ∷ (mark Semicolon ∷ y)) (λ y. refl) (λ l. l) (complete_part all (structure s before) a.0 a.1)

complete_global : (all : List Part) (d : Declaring) (form : Form) (before : List Word → List Word) (front : List Word → List Word) → IsProgram all → FitsType d.typing → FitsForm form → ((y : List Word) → program_words all (part_words (global d form) y) ≡ before (front y)) → Completed before (LowProgram all × FewStars d.typing)
complete_global all d form before front a w v e =
    onward before (λ y. program_words all (part_words (global d form) y)) (LowProgram all × FewStars d.typing) (LowProgram all × FewStars d.typing) front e (λ l. l) (complete_part all (global d form) a (w, v))

pub depth_most : (k : Cont) → LowAround k → depth k ≤ 64
depth_most (part p o) l = omega arith
depth_most _ l = omega (arith, l.0)

pub completed : (c : Core) → Sound c → Completed (so_far c) (LowCore c)
completed (Want k) a =
    onward (so_far (Want k)) (λ y. around k (words nought y)) (LowAround k) ((depth k + 0 ≤ 64) × Unit {0} × LowAround k) (λ y. keyword Keyword.Null ∷ y)
    (λ y. refl) (λ l. (omega (arith, depth_most k l), tt, l)) (complete k nought tt (omega (arith, floor_most k)) a)
completed (Have x k) a = complete k x a.1 (omega (arith, floor_most k, a.0)) a.2
completed (Called f k) a =
    onward (so_far (Called f k)) (λ y. around k (words (call f none) y)) (LowCore (Called f k)) ((depth k + (0 + 1) ≤ 64) × Unit {0} × LowAround k) (λ y. mark CloseParenthesis ∷ y)
    (λ y. refl) (λ l. (omega (arith, l.0), tt, l.1)) (complete k (call f none) tt (omega (arith, floor_most k)) a)
completed (Dotted x w k) a =
    onward (so_far (Dotted x w k)) (λ y. around k (words (field x w x_name) y)) (LowCore (Dotted x w k)) ((depth k + (height x + 1) ≤ 64) × Few x × LowAround k) (λ y. name x_name ∷ y)
    (λ y. refl) (λ l. (omega (arith, l.0), l.1, l.2)) (complete k (field x w x_name) (a.0, a.1) (omega (arith, floor_most k)) a.2)
completed (Spawning k) a =
    onward (so_far (Spawning k)) (λ y. around k (words (enclosed (of_spawn x_name) nought) y)) (LowCore (Spawning k)) ((depth k + (0 + 1) ≤ 64) × (Unit {0} × Unit {0}) × LowAround k) (λ y. name x_name ∷ (mark Comma ∷ (keyword Keyword.Null ∷ (mark CloseParenthesis ∷ y))))
    (λ y. refl) (λ l. (omega (arith, l.0), (tt, tt), l.1)) (complete k (enclosed (of_spawn x_name) nought) (tt, omega arith, tt) (omega (arith, floor_most k)) a)
completed (Start o) a = complete_start o a
completed (Done s o) a = complete_outer o s a.2 a.0 a.3
completed (Returning o) a =
    onward (so_far (Returning o)) (λ y. outside o (written (return None) y)) (LowCore (Returning o)) (Unit {0} × (around_it o + 1 ≤ 64) × LowOuter o) (λ y. mark Semicolon ∷ y)
    (λ y. refl) (λ l. (tt, omega (arith, l.0), l.1)) (complete_outer o (return None) tt (may o) a)
completed (ForOpen o) a =
    onward (so_far (ForOpen o)) (λ y. outside o (line_place_words as_first (line_words nothing y))) (LowCore (ForOpen o)) (LowLined as_first nothing o) (λ y. mark Semicolon ∷ y)
    (λ y. refl) (λ l. (tt, l.0, l.1)) (complete_line as_first nothing o tt (λ h. cc) a)
completed (ForTest l o) a = complete_line as_first l o a.0 (λ _. refl) a.1
completed (ForStep l e o) a =
    onward (so_far (ForStep l e o)) (λ y. outside o (loop_words (record { first = l; test = e; step = None }) y)) (LowCore (ForStep l e o)) (LowLine l × LowOption e × Unit {0} × (around_it o < 63) × LowOuter o) (λ y. mark CloseParenthesis ∷ y)
    (λ y. refl) (λ h. (h.0, h.1, tt, h.2, h.3)) (complete_loop l e None o a.0 a.1 tt a.2)
completed (Malloced v o) a =
    onward (so_far (Malloced v o)) (λ y. outside o (value_place_words v (value_words (malloc None plain_int) y))) (LowCore (Malloced v o)) ((Unit {0} × (0 ≤ 8)) × LowValuePlace v o × LowOuter o) (λ y. keyword Keyword.Sizeof ∷ (mark OpenParenthesis ∷ (keyword Keyword.Int ∷ (mark CloseParenthesis ∷ (mark CloseParenthesis ∷ y)))))
    (λ y. refl) (λ l. ((tt, omega arith), l.0, l.1)) (complete_value v (malloc None plain_int) o (tt, tt, (refl, tt)) a.0 a.1)
completed (Valued v r o) a =
    onward (so_far (Valued v r o)) (so_far (Valued v r o)) (LowCore (Valued v r o)) (LowValue r × LowValuePlace v o × LowOuter o) (λ y. y) (λ y. refl) (λ l. (l.1, l.0, l.2)) (complete_value v r o a.1 a.0 a.2)
completed (TypeWant p) a =
    onward (so_far (TypeWant p)) (λ y. type_place_words p (base_words Base.Int y)) (LowType p) (LowType p) (λ y. keyword Keyword.Int ∷ y) (λ y. refl) (λ l. l) (complete_based p None Base.Int a tt)
completed (ModeFirst p s) a = complete_first p s a.0 a.1
completed (StructWant p m) a =
    onward (so_far (StructWant p m)) (λ y. type_place_words p (level_words m (base_words (Base.Struct x_name) y))) (LowType p) (LowType p) (λ y. name x_name ∷ y) (λ y. refl) (λ l. l) (complete_based p m (Base.Struct x_name) a.0 a.1)
completed (Typed p first b m below) a = complete_typed p first b m below a
completed (PathWant p) a =
    onward (so_far (PathWant p)) (λ y. mode_place_words p (sharing_words (locked x_name) y)) (LowMode p) (LowMode p) (λ y. name x_name ∷ (mark CloseParenthesis ∷ y)) (λ y. refl) (λ l. l) (complete_mode p (locked x_name) a)
completed (PathNamed p n) a =
    onward (so_far (PathNamed p n)) (λ y. mode_place_words p (sharing_words (locked n) y)) (LowMode p) (LowMode p) (λ y. mark CloseParenthesis ∷ y) (λ y. refl) (λ l. l) (complete_mode p (locked n) a)
completed (PathThrough p n) a =
    onward (so_far (PathThrough p n)) (λ y. mode_place_words p (sharing_words (locked_through n x_name) y)) (LowMode p) (LowMode p) (λ y. name x_name ∷ (mark CloseParenthesis ∷ y)) (λ y. refl) (λ l. l) (complete_mode p (locked_through n x_name) a)
completed (Named p ty n) a = complete_name p (declaring_of ty n) a.0 a.1
completed (Fields all s before) a = complete_fields all s before a
completed (ArrayWant all d) a = complete_global all d (array (record { value = pos 1; number_type = Int })) (so_far (ArrayWant all d)) (λ y. number (record { value = pos 1; number_type = Int }) ∷ (mark CloseBracket ∷ (mark Semicolon ∷ y))) a.0 a.1 tt (λ y. refl)
completed (InitialWant all d) a = complete_global all d (initially false Constant.Null) (so_far (InitialWant all d)) (λ y. keyword Keyword.Null ∷ (mark Semicolon ∷ y)) a.0 a.1 tt (λ y. refl)
completed (InitialNegative all d) a = complete_global all d (initially true (Constant.Character 0)) (so_far (InitialNegative all d)) (λ y. character 0 ∷ (mark Semicolon ∷ y)) a.0 a.1 tt (λ y. refl)
completed (Top all) a = complete_top all a
