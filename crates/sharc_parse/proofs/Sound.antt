-- What the machine has read fits, and has the words that were read.
use Rattle.sharc_parse.proofs.{Imports.{◌≡◌, ℕ, ◌≤◌, List, [], ◌∷◌, Option, Some, None, refl, ap, Bool, true, false, Keyword, OpenParenthesis, CloseParenthesis, OpenBrace, OpenBracket, Semicolon, Comma, Arrow, Assign, Minus, Base, Word, name, keyword, mark, Sharing, Declaring, sharing_words, level_words, base_words, levels_words, type_words, declaring_words, FitsLevels, FitsType, Phrase, Phrases, none, more, operator_mark, unary_mark, access_mark, strength, front_words, words, words_of_all, words_of_rest, level, FitsFront, Fits, FitAll, Sentence, Sentences, no_more, sentence, option_words, count_words, value_words, line_words, written, written_all, opening_words, is_declaration, takes_else, FitsOption, FitsCount, FitsValue, FitsLine, FitsAs, FitAllAs, FitsOpening, Part, fields_words, further_words, parameters_words, part_words, program_words, FitAllDeclaring, FitsFields, FitsPart, IsProgram, Outer, body, items, inside, LinePlace, as_statement, as_first, DoingPlace, in_line, as_step, ValuePlace, of_doing, of_local, by_if, by_while, ExpressionPlace, condition, returning, testing, subject, valued, counting, Cont, part, beneath, right_of, fronted, indexing, arguments, NamePlace, on_top, field_of, parameter_of, local, TypePlace, naming, casting, sizing, ModePlace, before_base, at_level, Core, Want, Have, Called, Dotted, Spawning, Start, Done, Returning, ForOpen, ForTest, ForStep, Malloced, Valued, TypeWant, ModeFirst, StructWant, Typed, PathWant, PathNamed, PathThrough, Named, Fields, ArrayWant, InitialWant, InitialNegative, Top, joined, with_last, floor, takes_modes, moded, based, with_part, with_declaring, fields, with_item, may_declare}, Complete.{ModesFit, never}, CompleteProgram.MayStand}

-- the arguments so far, with a comma after each
abbrev pub list_so_far : Phrases → List Word → List Word
list_so_far none y = y
list_so_far (more a rest) y = words a (words_of_rest rest (mark Comma ∷ y))

-- the words read so far, followed by others
abbrev pub outside : Outer → List Word → List Word
outside (body all r f given s) y = program_words all (type_words r (name f ∷ (mark OpenParenthesis ∷ parameters_words given (mark CloseParenthesis ∷ (mark OpenBrace ∷ written_all s y)))))
outside (items all o) y = outside o (mark OpenBrace ∷ written_all all y)
outside (inside w o) y = outside o (opening_words w y)

abbrev pub line_place_words : LinePlace → List Word → List Word
line_place_words as_statement y = y
line_place_words as_first y = keyword Keyword.For ∷ (mark OpenParenthesis ∷ y)

abbrev pub doing_place_words : DoingPlace → List Word → List Word
doing_place_words (in_line p) y = line_place_words p y
doing_place_words (as_step l e) y = keyword Keyword.For ∷ (mark OpenParenthesis ∷ line_words l (option_words e (mark Semicolon ∷ y)))

abbrev pub value_place_words : ValuePlace → List Word → List Word
value_place_words (of_doing d u) y = doing_place_words d (words u (mark Assign ∷ y))
value_place_words (of_local p d) y = line_place_words p (declaring_words d (mark Assign ∷ y))

abbrev pub place_words : ExpressionPlace → List Word → List Word
place_words (condition by_if) y = keyword Keyword.If ∷ (mark OpenParenthesis ∷ y)
place_words (condition by_while) y = keyword Keyword.While ∷ (mark OpenParenthesis ∷ y)
place_words returning y = keyword Keyword.Return ∷ y
place_words (testing l) y = keyword Keyword.For ∷ (mark OpenParenthesis ∷ line_words l y)
place_words (subject d) y = doing_place_words d y
place_words (valued v) y = value_place_words v y
place_words (counting v) y = value_place_words v (keyword Keyword.Malloc ∷ (mark OpenParenthesis ∷ y))

abbrev pub around : Cont → List Word → List Word
around (part p o) y = outside o (place_words p y)
around (beneath u k) y = around k (mark (unary_mark u) ∷ y)
around (right_of a o k) y = around k (words a (mark (operator_mark o) ∷ y))
around (fronted f k) y = around k (front_words f y)
around (indexing a k) y = around k (words a (mark OpenBracket ∷ y))
around (arguments f all k) y = around k (name f ∷ (mark OpenParenthesis ∷ list_so_far all y))

abbrev pub given_words : List Declaring → List Word → List Word
given_words [] y = y
given_words (d ∷ rest) y = declaring_words d (further_words rest (mark Comma ∷ y))

abbrev pub struct_words : List Part → List ℕ → List Declaring → List Word → List Word
struct_words all s fields y = program_words all (keyword Keyword.Struct ∷ (name s ∷ (mark OpenBrace ∷ fields_words fields y)))

abbrev pub name_place_words : NamePlace → List Word → List Word
name_place_words (on_top all) y = program_words all y
name_place_words (field_of all s fields) y = struct_words all s fields y
name_place_words (parameter_of all r f given) y = program_words all (type_words r (name f ∷ (mark OpenParenthesis ∷ given_words given y)))
name_place_words (local p o) y = outside o (line_place_words p y)

abbrev pub type_place_words : TypePlace → List Word → List Word
type_place_words (naming p) y = name_place_words p y
type_place_words (casting k) y = around k (keyword Keyword.Scast ∷ (mark OpenParenthesis ∷ y))
type_place_words (sizing v n o) y = outside o (value_place_words v (keyword Keyword.Malloc ∷ (mark OpenParenthesis ∷ count_words n (keyword Keyword.Sizeof ∷ (mark OpenParenthesis ∷ y)))))

abbrev pub mode_place_words : ModePlace → List Word → List Word
mode_place_words (before_base p) y = type_place_words p y
mode_place_words (at_level p first b below) y = type_place_words p (levels_words first b None below y)

abbrev pub so_far : Core → List Word → List Word
so_far (Want k) y = around k y
so_far (Have x k) y = around k (words x y)
so_far (Called f k) y = around k (name f ∷ (mark OpenParenthesis ∷ y))
so_far (Dotted x a k) y = around k (words x (mark (access_mark a) ∷ y))
so_far (Spawning k) y = around k (keyword Keyword.Spawn ∷ (mark OpenParenthesis ∷ y))
so_far (Start o) y = outside o y
so_far (Done s o) y = outside o (written s y)
so_far (Returning o) y = outside o (keyword Keyword.Return ∷ y)
so_far (ForOpen o) y = outside o (keyword Keyword.For ∷ (mark OpenParenthesis ∷ y))
so_far (ForTest l o) y = outside o (keyword Keyword.For ∷ (mark OpenParenthesis ∷ line_words l y))
so_far (ForStep l e o) y = outside o (keyword Keyword.For ∷ (mark OpenParenthesis ∷ line_words l (option_words e (mark Semicolon ∷ y))))
so_far (Malloced v o) y = outside o (value_place_words v (keyword Keyword.Malloc ∷ (mark OpenParenthesis ∷ y)))
so_far (Valued v r o) y = outside o (value_place_words v (value_words r y))
so_far (TypeWant p) y = type_place_words p y
so_far (ModeFirst p s) y = type_place_words p (sharing_words s y)
so_far (StructWant p m) y = type_place_words p (level_words m (keyword Keyword.Struct ∷ y))
so_far (Typed p first b m below) y = type_place_words p (levels_words first b m below y)
so_far (PathWant p) y = mode_place_words p (keyword Keyword.Locked ∷ (mark OpenParenthesis ∷ y))
so_far (PathNamed p n) y = mode_place_words p (keyword Keyword.Locked ∷ (mark OpenParenthesis ∷ (name n ∷ y)))
so_far (PathThrough p n) y = mode_place_words p (keyword Keyword.Locked ∷ (mark OpenParenthesis ∷ (name n ∷ (mark Arrow ∷ y))))
so_far (Named p ty n) y = name_place_words p (type_words ty (name n ∷ y))
so_far (Fields all s fields) y = struct_words all s fields y
so_far (ArrayWant all d) y = program_words all (declaring_words d (mark OpenBracket ∷ y))
so_far (InitialWant all d) y = program_words all (declaring_words d (mark Assign ∷ y))
so_far (InitialNegative all d) y = program_words all (declaring_words d (mark Assign ∷ (mark Minus ∷ y)))
so_far (Top all) y = program_words all y

-- what is around it fits
abbrev pub Outside : Outer → Type 0
Outside (body all r f given s) = IsProgram all × FitsType r × FitAllDeclaring given × FitAllAs s
Outside (items all o) = FitAllAs all × Outside o
Outside (inside w o) = FitsOpening w × Outside o

abbrev pub DoingAt : DoingPlace → Type 0
DoingAt (in_line p) = Unit {0}
DoingAt (as_step l e) = FitsLine l × FitsOption e

abbrev pub ValueAt : ValuePlace → Outer → Type 0
ValueAt (of_doing d u) o = DoingAt d × (11 ≤ level u) × Fits u
ValueAt (of_local p d) o = (may_declare p o ≡ true) × FitsType d.typing

abbrev pub PlaceAt : ExpressionPlace → Outer → Type 0
PlaceAt (testing l) o = FitsLine l
PlaceAt (subject d) o = DoingAt d
PlaceAt (valued v) o = ValueAt v o
PlaceAt (counting v) o = ValueAt v o
PlaceAt _ o = Unit {0}

abbrev pub Around : Cont → Type 0
Around (part p o) = PlaceAt p o × Outside o
Around (beneath u k) = (floor k ≤ 11) × Around k
Around (right_of a o k) = (strength o ≤ level a) × (floor k ≤ strength o) × Fits a × Around k
Around (fronted f k) = FitsFront f × Around k
Around (indexing a k) = (12 ≤ level a) × Fits a × Around k
Around (arguments f all k) = FitAll all × Around k

abbrev pub NameAt : NamePlace → Type 0
NameAt (on_top all) = IsProgram all
NameAt (field_of all s fields) = IsProgram all × FitAllDeclaring fields
NameAt (parameter_of all r f given) = IsProgram all × FitsType r × FitAllDeclaring given
NameAt (local p o) = (may_declare p o ≡ true) × Outside o

abbrev pub TypeAt : TypePlace → Type 0
TypeAt (naming p) = NameAt p
TypeAt (casting k) = Around k
TypeAt (sizing v n o) = ValueAt v o × FitsCount n × Outside o

abbrev pub ModeAt : ModePlace → Type 0
ModeAt (before_base p) = TypeAt p × (takes_modes p ≡ true)
ModeAt (at_level p first b below) = TypeAt p × (takes_modes p ≡ true) × FitsLevels first None below

abbrev pub BaseAt : TypePlace → Option Sharing → Type 0
BaseAt p None = Unit {0}
BaseAt p (Some s) = takes_modes p ≡ true

abbrev pub Sound : Core → Type 0
Sound (Want k) = Around k
Sound (Have x k) = (12 ≤ level x) × Fits x × Around k
Sound (Called f k) = Around k
Sound (Dotted x a k) = (12 ≤ level x) × Fits x × Around k
Sound (Spawning k) = Around k
Sound (Start o) = Outside o
Sound (Done s o) = MayStand o (is_declaration s) × (takes_else s ≡ false) × FitsAs s × Outside o
Sound (Returning o) = Outside o
Sound (ForOpen o) = Outside o
Sound (ForTest l o) = FitsLine l × Outside o
Sound (ForStep l e o) = FitsLine l × FitsOption e × Outside o
Sound (Malloced v o) = ValueAt v o × Outside o
Sound (Valued v r o) = ValueAt v o × FitsValue r × Outside o
Sound (TypeWant p) = TypeAt p
Sound (ModeFirst p s) = TypeAt p × (takes_modes p ≡ true)
Sound (StructWant p m) = TypeAt p × BaseAt p m
Sound (Typed p first b m below) = TypeAt p × FitsLevels first m below × ModesFit p first (m ∷ below)
Sound (PathWant p) = ModeAt p
Sound (PathNamed p n) = ModeAt p
Sound (PathThrough p n) = ModeAt p
Sound (Named p ty n) = NameAt p × FitsType ty
Sound (Fields all s fields) = IsProgram all × FitsFields fields
Sound (ArrayWant all d) = IsProgram all × FitsType d.typing
Sound (InitialWant all d) = IsProgram all × FitsType d.typing
Sound (InitialNegative all d) = IsProgram all × FitsType d.typing
Sound (Top all) = IsProgram all

-- one more in a list

pub program_more : (all : List Part) (p : Part) (y : List Word) → program_words (with_part all p) y ≡ program_words all (part_words p y)
program_more [] p y = refl
program_more (a ∷ rest) p y = ap (part_words a) (program_more rest p y)

pub is_program_more : (all : List Part) (p : Part) → IsProgram all → FitsPart p → IsProgram (with_part all p)
is_program_more [] p a w = (w, tt)
is_program_more (b ∷ rest) p a w = (a.0, is_program_more rest p a.1 w)

pub fields_more : (all : List Declaring) (d : Declaring) (y : List Word) → fields_words (with_declaring all d) y ≡ fields_words all (declaring_words d (mark Semicolon ∷ y))
fields_more [] d y = refl
fields_more (a ∷ rest) d y = ap (λ z. declaring_words a (mark Semicolon ∷ z)) (fields_more rest d y)

further_more : (all : List Declaring) (d : Declaring) (y : List Word) → further_words (with_declaring all d) y ≡ further_words all (mark Comma ∷ declaring_words d y)
further_more [] d y = refl
further_more (a ∷ rest) d y = ap (λ z. mark Comma ∷ declaring_words a z) (further_more rest d y)

pub parameters_more : (all : List Declaring) (d : Declaring) (y : List Word) → parameters_words (with_declaring all d) y ≡ given_words all (declaring_words d y)
parameters_more [] d y = refl
parameters_more (a ∷ rest) d y = ap (declaring_words a) (further_more rest d y)

pub given_more : (all : List Declaring) (d : Declaring) (y : List Word) → given_words (with_declaring all d) y ≡ given_words all (declaring_words d (mark Comma ∷ y))
given_more [] d y = refl
given_more (a ∷ rest) d y = ap (declaring_words a) (further_more rest d (mark Comma ∷ y))

pub declaring_more : (all : List Declaring) (d : Declaring) → FitAllDeclaring all → FitsType d.typing → FitAllDeclaring (with_declaring all d)
declaring_more [] d a w = (w, tt)
declaring_more (b ∷ rest) d a w = (a.0, declaring_more rest d a.1 w)

pub some_field : (all : List Declaring) (d : Declaring) → FitAllDeclaring all → FitsType d.typing → FitsFields (with_declaring all d)
some_field [] d a w = (w, tt)
some_field (b ∷ rest) d a w = (a.0, declaring_more rest d a.1 w)

rest_more : (rest : Phrases) (x : Phrase) (y : List Word) → words_of_rest (joined rest (more x none)) y ≡ words_of_rest rest (mark Comma ∷ words x y)
rest_more none x y = refl
rest_more (more a rest) x y = ap (λ z. mark Comma ∷ words a z) (rest_more rest x y)

pub list_more : (all : Phrases) (x : Phrase) (y : List Word) → words_of_all (with_last all x) y ≡ list_so_far all (words x y)
list_more none x y = refl
list_more (more a rest) x y = ap (words a) (rest_more rest x y)

pub list_goes : (all : Phrases) (x : Phrase) (y : List Word) → list_so_far (with_last all x) y ≡ list_so_far all (words x (mark Comma ∷ y))
list_goes none x y = refl
list_goes (more a rest) x y = ap (words a) (rest_more rest x (mark Comma ∷ y))

pub all_more : (all : Phrases) (x : Phrase) → FitAll all → Fits x → FitAll (with_last all x)
all_more none x a w = (w, tt)
all_more (more b rest) x a w = (a.0, all_more rest x a.1 w)

pub items_more : (all : Sentences) (s : Sentence) (y : List Word) → written_all (with_item all s) y ≡ written_all all (written s y)
items_more no_more s y = refl
items_more (sentence a rest) s y = ap (written a) (items_more rest s y)

pub fit_more : (all : Sentences) (s : Sentence) → FitAllAs all → FitsAs s → FitAllAs (with_item all s)
fit_more no_more s a w = (w, tt)
fit_more (sentence b rest) s a w = (a.0, fit_more rest s a.1 w)

-- Types.

levels_moded : (first : Bool) (b : Base) (s : Sharing) (below : List (Option Sharing)) → FitsLevels first None below → (y : List Word) → levels_words first b (Some s) below y ≡ levels_words first b None below (sharing_words s y)
levels_moded true b s [] w y = absurd w
levels_moded false b s [] w y = refl
levels_moded first b s (n ∷ below) w y = refl

fits_moded : (first : Bool) (s : Sharing) (below : List (Option Sharing)) → FitsLevels first None below → FitsLevels first (Some s) below
fits_moded true s [] w = tt
fits_moded false s [] w = tt
fits_moded first s (n ∷ below) w = w

pub moded_sound : (p : ModePlace) (s : Sharing) → ModeAt p → Sound (moded p s)
moded_sound (before_base p) s a = a
moded_sound (at_level p first b below) s a = (a.0, fits_moded first s below a.2, λ f. never (takes_modes p) f a.1)

pub moded_says : (p : ModePlace) (s : Sharing) → ModeAt p → (y : List Word) → so_far (moded p s) y ≡ mode_place_words p (sharing_words s y)
moded_says (before_base p) s a y = refl
moded_says (at_level p first b below) s a y = ap (type_place_words p) (levels_moded first b s below a.2 y)

pub based_sound : (p : TypePlace) (m : Option Sharing) (b : Base) → TypeAt p → BaseAt p m → Sound (based p m b)
based_sound p None b a h = (a, tt, λ f. (refl, tt))
based_sound p (Some s) b a h = (a, tt, λ f. never (takes_modes p) f h)

pub based_says : (p : TypePlace) (m : Option Sharing) (b : Base) (y : List Word) → so_far (based p m b) y ≡ type_place_words p (level_words m (base_words b y))
based_says p None b y = refl
based_says p (Some s) b y = refl

-- Expressions.

pub may : (o : Outer) → MayStand o false
may o h = cc

-- Statements.

pub is_statement : (b : Bool) → (b ≡ true → false ≡ true) → b ≡ false
is_statement true h = cc (h refl)
is_statement false h = refl

-- Programs.
