-- The machine's steps over what follows the name of a global.
use Rattle.sharc_parse.proofs.Imports.{◌≡◌, ℕ, List, [], ◌∷◌, refl, true, false, Number, OpenParenthesis, OpenBracket, CloseBracket, Semicolon, Assign, Minus, Constant, Keyword, Word, keyword, mark, number, character, constant_word, Typing, Declaring, single, array, initially, Part, on_top, Named, ArrayWant, InitialWant, InitialNegative, Top, a_semicolon, a_bracket, At, declaring_of, StuckAt, reads_within, NotAt, NoConstant, NoNumber, IsSigned, NoSigned, with_form}

pub array_number : (all : List Part) (d : Declaring) (n : Number) (y : List Word) → reads_within (number n ∷ y) (At [] (ArrayWant all d)) ≡ reads_within y (At (a_bracket ∷ (a_semicolon ∷ [])) (Top (with_form all d (array n))))
array_number all d n y = refl

pub no_number : (all : List Part) (d : Declaring) (ts : List Word) → NoNumber ts → reads_within ts (At [] (ArrayWant all d)) ≡ StuckAt ts
no_number all d (number n ∷ y) h = absurd h
no_number all d _ h = refl

pub array_ends : (all : List Part) (y : List Word) → reads_within (mark CloseBracket ∷ y) (At (a_bracket ∷ (a_semicolon ∷ [])) (Top all)) ≡ reads_within y (At (a_semicolon ∷ []) (Top all))
array_ends all y = refl

pub form_ends : (all : List Part) (y : List Word) → reads_within (mark Semicolon ∷ y) (At (a_semicolon ∷ []) (Top all)) ≡ reads_within y (At [] (Top all))
form_ends all y = refl

pub minus_goes : (all : List Part) (d : Declaring) (y : List Word) → reads_within (mark Minus ∷ y) (At [] (InitialWant all d)) ≡ reads_within y (At [] (InitialNegative all d))
minus_goes all d y = refl

pub signed_goes : (all : List Part) (d : Declaring) (c : Constant) (y : List Word) → IsSigned c → reads_within (constant_word c ∷ y) (At [] (InitialNegative all d)) ≡ reads_within y (At (a_semicolon ∷ []) (Top (with_form all d (initially true c))))
signed_goes all d Constant.Null y h = absurd h
signed_goes all d _ y h = refl

pub no_signed : (all : List Part) (d : Declaring) (ts : List Word) → NoSigned ts → reads_within ts (At [] (InitialNegative all d)) ≡ StuckAt ts
no_signed all d (number n ∷ y) h = absurd h
no_signed all d (character n ∷ y) h = absurd h
no_signed all d _ h = refl

pub constant_goes : (all : List Part) (d : Declaring) (c : Constant) (y : List Word) → reads_within (constant_word c ∷ y) (At [] (InitialWant all d)) ≡ reads_within y (At (a_semicolon ∷ []) (Top (with_form all d (initially false c))))
constant_goes all d (Constant.Number n) y = refl
constant_goes all d _ y = refl

pub no_constant : (all : List Part) (d : Declaring) (ts : List Word) → NotAt (mark Minus) ts → NoConstant ts → reads_within ts (At [] (InitialWant all d)) ≡ StuckAt ts
no_constant all d (mark Minus ∷ y) m h = absurd (m refl)
no_constant all d (number n ∷ y) m h = absurd (h (Constant.Number n) refl)
no_constant all d (character n ∷ y) m h = absurd (h (Constant.Character n) refl)
no_constant all d (keyword Keyword.Null ∷ y) m h = absurd (h Constant.Null refl)
no_constant all d _ m h = refl

pub single_goes : (all : List Part) (t : Typing) (n : List ℕ) (y : List Word) → reads_within (mark Semicolon ∷ y) (At [] (Named (on_top all) t n)) ≡ reads_within y (At [] (Top (with_form all (declaring_of t n) single)))
single_goes all t n y = refl

pub array_goes : (all : List Part) (t : Typing) (n : List ℕ) (y : List Word) → reads_within (mark OpenBracket ∷ y) (At [] (Named (on_top all) t n)) ≡ reads_within y (At [] (ArrayWant all (declaring_of t n)))
array_goes all t n y = refl

pub initial_goes : (all : List Part) (t : Typing) (n : List ℕ) (y : List Word) → reads_within (mark Assign ∷ y) (At [] (Named (on_top all) t n)) ≡ reads_within y (At [] (InitialWant all (declaring_of t n)))
initial_goes all t n y = refl

pub no_form : (all : List Part) (t : Typing) (n : List ℕ) (ts : List Word) → NotAt (mark Semicolon) ts → NotAt (mark OpenBracket) ts → NotAt (mark Assign) ts → NotAt (mark OpenParenthesis) ts → reads_within ts (At [] (Named (on_top all) t n)) ≡ StuckAt ts
no_form all t n (mark Semicolon ∷ y) a b c d = absurd (a refl)
no_form all t n (mark OpenBracket ∷ y) a b c d = absurd (b refl)
no_form all t n (mark Assign ∷ y) a b c d = absurd (c refl)
no_form all t n (mark OpenParenthesis ∷ y) a b c d = absurd (d refl)
no_form all t n _ a b c d = refl
