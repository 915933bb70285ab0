-- What the machine makes of some words: a check of the definitions by computation.
use Rattle.sharc_parse.proofs.Imports.{◌≡◌, ℕ, zero, suc, List, [], ◌∷◌, ◌++◌, Some, None, true, false, replicate, pos, refl, Keyword, OpenParenthesis, CloseParenthesis, OpenBrace, CloseBrace, OpenBracket, CloseBracket, Semicolon, Comma, Arrow, Assign, Less, Plus, Minus, Star, AndAnd, OrOr, Int, Base, BinaryOperator, Constant, Word, name, keyword, mark, number, left_out, private, dynamic, locked, locked_through, Typing, of_cast, Phrase, identifier, constant, enclosed, binary, value, malloc, assign, nothing, does, declares, line, return, under, Sentences, no_more, sentence, if_of, else_of, while_of, for_of, array, initially, Part, structure, global, function, Read, Stuck, reads, first_state, StuckAt, Over, reads_within}

abbrev O : Word
O = mark OpenParenthesis

abbrev C : Word
C = mark CloseParenthesis

abbrev S : Word
S = mark Semicolon

abbrev n : ℕ → Word
n i = name (i ∷ [])

abbrev one : Word
one = number (record { value = pos 1; number_type = Int })

abbrev v : ℕ → Phrase
v i = identifier (i ∷ [])

abbrev first : Phrase
first = constant (Constant.Number (record { value = pos 1; number_type = Int }))

abbrev int : Typing
int = record { mode_first = false; base = Base.Int; levels = None ∷ [] }

-- `int 0(void) { WORDS }`
abbrev main_opens : List Word → List Word
main_opens y = keyword Keyword.Int ∷ n 0 ∷ O ∷ keyword Keyword.Void ∷ C ∷ mark OpenBrace ∷ y

abbrev main_is : Sentences → List Part
main_is all = function (record { result = int; named = 0 ∷ []; parameters = []; body = all }) ∷ []

-- `+ 0` this many times
abbrev operands : ℕ → List Word
operands zero = []
operands (suc i) = mark Plus ∷ n 0 ∷ operands i

-- `if (1) ; else` this many times
abbrev else_ifs : ℕ → List Word
else_ifs zero = []
else_ifs (suc i) = keyword Keyword.If ∷ O ∷ n 1 ∷ C ∷ S ∷ keyword Keyword.Else ∷ else_ifs i

-- 1 + 2 * 3 - 4 groups to the left, and `*` first
operators_group : reads (main_opens (n 9 ∷ mark Assign ∷ n 1 ∷ mark Plus ∷ n 2 ∷ mark Star ∷ n 3 ∷ mark Minus ∷ n 4 ∷ S ∷ mark CloseBrace ∷ [])) first_state ≡ Read (main_is (sentence (line (does (assign (v 9) (value (binary BinaryOperator.Subtract (binary BinaryOperator.Add (v 1) (binary BinaryOperator.Multiply (v 2) (v 3))) (v 4)))))) no_more))
operators_group = refl

-- `&&` binds tighter than `||`
and_before_or : reads (main_opens (keyword Keyword.Return ∷ n 1 ∷ mark OrOr ∷ n 2 ∷ mark AndAnd ∷ n 3 ∷ S ∷ mark CloseBrace ∷ [])) first_state ≡ Read (main_is (sentence (return (Some (binary BinaryOperator.LogicalOr (v 1) (binary BinaryOperator.LogicalAnd (v 2) (v 3))))) no_more))
and_before_or = refl

-- an `else` belongs to the nearest `if`, within a `while` too
nearest_if : reads (main_opens (keyword Keyword.If ∷ O ∷ n 1 ∷ C ∷ keyword Keyword.While ∷ O ∷ n 2 ∷ C ∷ keyword Keyword.If ∷ O ∷ n 3 ∷ C ∷ S ∷ keyword Keyword.Else ∷ S ∷ mark CloseBrace ∷ [])) first_state ≡ Read (main_is (sentence (under (if_of (v 1)) (under (while_of (v 2)) (under (else_of (v 3) (line nothing)) (line nothing)))) no_more))
nearest_if = refl

-- postfix chains, casts and prefixes
chains : reads (main_opens (mark Star ∷ n 1 ∷ mark Arrow ∷ n 2 ∷ mark OpenBracket ∷ one ∷ mark CloseBracket ∷ mark Assign ∷ keyword Keyword.Scast ∷ O ∷ keyword Keyword.Int ∷ keyword Keyword.Private ∷ mark Star ∷ C ∷ [])) first_state ≡ Stuck (C ∷ [])
chains = refl

cast_reads : reads (main_opens (n 1 ∷ mark Assign ∷ keyword Keyword.Scast ∷ O ∷ keyword Keyword.Int ∷ keyword Keyword.Private ∷ mark Star ∷ mark Comma ∷ n 2 ∷ C ∷ S ∷ mark CloseBrace ∷ [])) first_state ≡ Read (main_is (sentence (line (does (assign (v 1) (value (enclosed (of_cast (record { mode_first = false; base = Base.Int; levels = None ∷ Some private ∷ [] })) (v 2)))))) no_more))
cast_reads = refl

-- a malloc with a count, and without
counted_malloc : reads (main_opens (n 1 ∷ mark Assign ∷ keyword Keyword.Malloc ∷ O ∷ n 2 ∷ mark Star ∷ keyword Keyword.Sizeof ∷ O ∷ keyword Keyword.Int ∷ C ∷ C ∷ S ∷ mark CloseBrace ∷ [])) first_state ≡ Read (main_is (sentence (line (does (assign (v 1) (malloc (Some (v 2)) int)))) no_more))
counted_malloc = refl

-- the count is a `unary`
count_is_unary : reads (main_opens (n 1 ∷ mark Assign ∷ keyword Keyword.Malloc ∷ O ∷ n 2 ∷ mark Star ∷ n 3 ∷ [])) first_state ≡ Stuck (n 3 ∷ [])
count_is_unary = refl

-- a type in a malloc has no modes
malloc_is_plain : reads (main_opens (n 1 ∷ mark Assign ∷ keyword Keyword.Malloc ∷ O ∷ keyword Keyword.Sizeof ∷ O ∷ keyword Keyword.Int ∷ keyword Keyword.Private ∷ [])) first_state ≡ Stuck (keyword Keyword.Private ∷ [])
malloc_is_plain = refl

-- a declaration is allowed in a block only
declaration_in_block : reads (main_opens (keyword Keyword.If ∷ O ∷ n 1 ∷ C ∷ keyword Keyword.Int ∷ [])) first_state ≡ Stuck (keyword Keyword.Int ∷ [])
declaration_in_block = refl

-- only a call is a statement of its own
no_value_statement : reads (main_opens (n 1 ∷ S ∷ [])) first_state ≡ Stuck (S ∷ [])
no_value_statement = refl

-- the parts of a `for`
empty_for : reads (main_opens (keyword Keyword.For ∷ O ∷ S ∷ S ∷ C ∷ S ∷ mark CloseBrace ∷ [])) first_state ≡ Read (main_is (sentence (under (for_of (record { first = nothing; test = None; step = None })) (line nothing)) no_more))
empty_for = refl

full_for : reads (main_opens (keyword Keyword.For ∷ O ∷ keyword Keyword.Int ∷ n 1 ∷ mark Assign ∷ one ∷ S ∷ n 1 ∷ mark Less ∷ n 2 ∷ S ∷ n 1 ∷ mark Assign ∷ one ∷ C ∷ S ∷ mark CloseBrace ∷ [])) first_state ≡ Read (main_is (sentence (under (for_of (record { first = declares (record { declaring = record { typing = int; named = 1 ∷ [] }; initial = Some (value first) }); test = Some (binary BinaryOperator.Less (v 1) (v 2)); step = Some (assign (v 1) (value first)) })) (line nothing)) no_more))
full_for = refl

-- structs, globals, lock paths and parameters
parts : reads (keyword Keyword.Struct ∷ n 5 ∷ mark OpenBrace ∷ keyword Keyword.Int ∷ keyword Keyword.Locked ∷ O ∷ n 6 ∷ C ∷ mark Star ∷ keyword Keyword.Private ∷ n 7 ∷ S ∷ mark CloseBrace ∷ S ∷ keyword Keyword.Struct ∷ n 5 ∷ n 8 ∷ mark OpenBracket ∷ one ∷ mark CloseBracket ∷ S ∷ keyword Keyword.Int ∷ n 3 ∷ mark Assign ∷ mark Minus ∷ one ∷ S ∷ keyword Keyword.Void ∷ n 4 ∷ O ∷ keyword Keyword.Dynamic ∷ keyword Keyword.Int ∷ n 1 ∷ mark Comma ∷ keyword Keyword.Int ∷ keyword Keyword.Locked ∷ O ∷ n 1 ∷ mark Arrow ∷ n 2 ∷ C ∷ n 2 ∷ C ∷ mark OpenBrace ∷ mark CloseBrace ∷ []) first_state ≡ Read (
    structure (5 ∷ []) (record { typing = record { mode_first = false; base = Base.Int; levels = Some private ∷ Some (locked (6 ∷ [])) ∷ [] }; named = 7 ∷ [] } ∷ []) ∷
    global (record { typing = record { mode_first = false; base = Base.Struct (5 ∷ []); levels = None ∷ [] }; named = 8 ∷ [] }) (array (record { value = pos 1; number_type = Int })) ∷
    global (record { typing = int; named = 3 ∷ [] }) (initially true (Constant.Number (record { value = pos 1; number_type = Int }))) ∷
    function (record { result = record { mode_first = false; base = Base.Void; levels = None ∷ [] }; named = 4 ∷ []; parameters = record { typing = record { mode_first = true; base = Base.Int; levels = Some dynamic ∷ [] }; named = 1 ∷ [] } ∷ record { typing = record { mode_first = false; base = Base.Int; levels = Some (locked_through (1 ∷ []) (2 ∷ [])) ∷ [] }; named = 2 ∷ [] } ∷ []; body = no_more }) ∷ [])
parts = refl

-- a fault is at its own word, and at the end of what there is
in_an_argument : reads (main_opens (keyword Keyword.Print ∷ O ∷ one ∷ mark Plus ∷ C ∷ S ∷ [])) first_state ≡ Stuck (C ∷ S ∷ [])
in_an_argument = refl

at_the_end : reads (keyword Keyword.Struct ∷ n 5 ∷ mark OpenBrace ∷ keyword Keyword.Int ∷ n 6 ∷ S ∷ []) first_state ≡ Stuck []
at_the_end = refl

a_word_left_out : reads (main_opens (n 1 ∷ left_out ∷ [])) first_state ≡ Stuck (left_out ∷ [])
a_word_left_out = refl

-- eight stars, and the ninth
nine_stars : reads_within (keyword Keyword.Int ∷ (replicate 9 (mark Star) ++ n 1 ∷ S ∷ [])) first_state ≡ Over (mark Star ∷ n 1 ∷ S ∷ [])
nine_stars = refl

-- 64 parentheses, and one more
parentheses_64 : reads_within (main_opens (keyword Keyword.Return ∷ (replicate 64 O ++ one ∷ (replicate 64 C ++ S ∷ [])))) first_state ≡ StuckAt []
parentheses_64 = refl

parentheses_65 : reads_within (main_opens (keyword Keyword.Return ∷ (replicate 65 O ++ one ∷ []))) first_state ≡ Over (O ∷ one ∷ [])
parentheses_65 = refl

-- 64 operators of one strength, and one more
operators_65 : reads_within (main_opens (keyword Keyword.Return ∷ n 0 ∷ (operands 64 ++ mark Plus ∷ n 0 ∷ S ∷ []))) first_state ≡ Over (mark Plus ∷ n 0 ∷ S ∷ [])
operators_65 = refl

-- the body is the first of 64 blocks; a declaration still fits in the last, and a statement does not
braces_65 : reads_within (main_opens (replicate 63 (mark OpenBrace) ++ mark OpenBrace ∷ [])) first_state ≡ Over (mark OpenBrace ∷ [])
braces_65 = refl

declaration_at_64 : reads_within (main_opens (replicate 63 (mark OpenBrace) ++ keyword Keyword.Int ∷ n 1 ∷ S ∷ [])) first_state ≡ StuckAt []
declaration_at_64 = refl

statement_at_64 : reads_within (main_opens (replicate 63 (mark OpenBrace) ++ S ∷ [])) first_state ≡ Over (S ∷ [])
statement_at_64 = refl

call_at_64 : reads_within (main_opens (replicate 63 (mark OpenBrace) ++ n 1 ∷ O ∷ [])) first_state ≡ Over (n 1 ∷ O ∷ [])
call_at_64 = refl

-- what is under an `if` is one deeper than it
if_at_63 : reads_within (main_opens (replicate 61 (mark OpenBrace) ++ keyword Keyword.If ∷ O ∷ n 1 ∷ C ∷ S ∷ [])) first_state ≡ StuckAt []
if_at_63 = refl

if_at_64 : reads_within (main_opens (replicate 62 (mark OpenBrace) ++ keyword Keyword.If ∷ O ∷ [])) first_state ≡ Over (keyword Keyword.If ∷ O ∷ [])
if_at_64 = refl

-- each `else if` is one deeper
else_if_62 : reads_within (main_opens (else_ifs 62 ++ keyword Keyword.If ∷ O ∷ n 1 ∷ C ∷ S ∷ [])) first_state ≡ Over (keyword Keyword.If ∷ O ∷ n 1 ∷ C ∷ S ∷ [])
else_if_62 = refl

else_if_61 : reads_within (main_opens (else_ifs 61 ++ keyword Keyword.If ∷ O ∷ n 1 ∷ C ∷ S ∷ [])) first_state ≡ StuckAt []
else_if_61 = refl
