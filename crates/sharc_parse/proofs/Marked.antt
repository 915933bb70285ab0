-- The names and casts of a tree are those among its words, of which each phrase has as many as its size says.
use Rattle.sharc_parse.proofs.Imports.{◌≡◌, ℕ, ◌+◌, List, [], ◌∷◌, ◌++◌, Option, Some, None, refl, sym, ap, ◌∙◌, append_assoc, arith, Bool, true, false, Mark, a_name, a_cast, keyword_marks, kind_marks, marks_from, mode_marks, level_marks, base_marks, levels_marks, type_marks, declaration_marks, declarations_marks, marks, arguments_marks, option_marks, right_marks, simple_marks, local_marks, first_marks, head_marks, statement_marks, statements_marks, item_marks, items_marks, Site, Span, Token, TokenKind, Mode, Base, Constant, Jump, OpenParenthesis, CloseParenthesis, OpenBrace, CloseBrace, OpenBracket, CloseBracket, Semicolon, Comma, Assign, Star, ValueCall, PlaceCall, Keyword, Word, name, keyword, mark, Sharing, locked, locked_through, Typing, Declaring, Front, parenthesis, of_spawn, of_value, of_place, of_cast, Phrase, identifier, constant, enclosed, call, index, field, unary, binary, Phrases, none, more, Value, value, malloc, Doing, assign, invoke, Declared, Line, nothing, does, declares, Loop, Sentence, line, jump, return, block, under, Sentences, no_more, sentence, Opening, if_of, else_of, while_of, for_of, Form, single, array, initially, Callable, Part, structure, global, function, sharing_words, level_words, base_words, levels_words, list_words, type_words, declaring_words, access_mark, operator_mark, jump_word, constant_word, front_words, words, words_of_all, words_of_rest, option_words, count_words, value_words, doing_words, initial_words, line_words, step_words, loop_words, written, written_all, opening_words, form_words, fields_words, parameters_words, part_words, program_words, kind_word, words_of, sharing_size, level_size, base_size, levels_size, type_size, declaring_size, front_size, size, sizes, rest_size, option_size, count_size, value_size, doing_size, initial_size, local_size, line_size, step_size, sentence_size, all_size, opening_size, fields_size, parameters_size, form_size, part_size, mode_at, level_at, levels_at, base_name, base_place, type_at, declaration_at, front_at, expression_at, arguments_at, option_at, value_at, doing_at, initial_at, local_at, first_at, step_at, head_at, line_at, statement_at, statements_at, under_at, declarations_at, item_at, items_at, length, span_at}
use Rattle.sharc_tree.specs.Tree as tree

abbrev pub word_marks : Word → ℕ → List Mark
word_marks (name t) n = a_name n t ∷ []
word_marks (keyword k) n = keyword_marks k n
word_marks _ n = []

-- those among words, the first of which has the number n
abbrev pub marked : ℕ → List Word → List Mark
marked n [] = []
marked n (w ∷ ws) = word_marks w n ++ marked (n + 1) ws

kind_same : (k : TokenKind) (text : List ℕ) (n : ℕ) → kind_marks k text n ≡ word_marks (kind_word k text) n
kind_same (TokenKind.Number v) text n = refl
kind_same _ text n = refl

joined : (a b c d : List Mark) → a ≡ b → c ≡ d → a ++ c ≡ b ++ d
joined a b c d h k = ap (λ z. z ++ c) h ∙ ap (λ z. b ++ z) k

pub of_tokens : (n : ℕ) (all : List Token) → marks_from n all ≡ marked n (words_of all)
of_tokens n [] = refl
of_tokens n (t ∷ rest) = joined _ _ _ _ (kind_same t.kind t.text n) (of_tokens (n + 1) rest)

-- marks are those among the words x, the first of which has the number i, up to the words y from the number m on
abbrev Told : List Mark → ℕ → List Word → ℕ → List Word → Type 0
Told l m y i x = (l ++ marked m y ≡ marked i x) × (i + length x ≡ m + length y)

-- the number of a place
abbrev pub Numbered : (ℕ → Site) → Type 0
Numbered s = (n : ℕ) → (s n).token ≡ n

-- one part after the other
two : (a b c d e : List Mark) → b ++ c ≡ d → a ++ d ≡ e → (a ++ b) ++ c ≡ e
two a b c d e h k = append_assoc a b c ∙ ap (λ z. a ++ z) h ∙ k

-- the words that follow have another number, which is the same
renumbered : (m k : ℕ) (y : List Word) → m ≡ k → marked m y ≡ marked k y
renumbered m k y h = ap (λ z. marked z y) h

shifted : (a r : List Mark) (m k : ℕ) (y : List Word) → m ≡ k → a ++ marked k y ≡ r → a ++ marked m y ≡ r
shifted a r m k y h e = ap (λ z. a ++ marked z y) h ∙ e

named : (a b m k : ℕ) (t : List ℕ) (y : List Word) → a ≡ b → m ≡ k → a_name a t ∷ marked m y ≡ a_name b t ∷ marked k y
named a b m k t y h e = ap (λ z. a_name z t ∷ marked m y) h ∙ ap (λ z. a_name b t ∷ marked z y) e

also_named : (a b : ℕ) (t : List ℕ) (l r : List Mark) → a ≡ b → l ≡ r → a_name a t ∷ l ≡ a_name b t ∷ r
also_named a b t l r h e = ap (λ z. a_name z t ∷ l) h ∙ ap (λ z. a_name b t ∷ z) e

-- types

sharing_marked : (s : ℕ → Site) (v : Numbered s) (n i m : ℕ) (x : Sharing) (y : List Word) → i ≡ n → m ≡ n + sharing_size x → Told (mode_marks (mode_at s n x)) m y i (sharing_words x y)
sharing_marked s v n i m (locked t) y p q = (named (s (n + 2)).token (i + 1 + 1) m (i + 1 + 1 + 1 + 1) t y (let e = v (n + 2) in omega (arith, e, p)) (omega arith), omega (arith, p, q))
sharing_marked s v n i m (locked_through x t) y p q = (
  also_named (s (n + 2)).token (i + 1 + 1) x _ _ (let e = v (n + 2) in omega (arith, e, p))
      (named ((s (n + 2)).token + 2) (i + 1 + 1 + 1 + 1) m (i + 1 + 1 + 1 + 1 + 1 + 1) t y (let e = v (n + 2) in omega (arith, e, p)) (omega arith)),
  omega (arith, p, q),
)
sharing_marked s v n i m _ y p q = (renumbered m (i + 1) y (omega arith), omega (arith, p, q))

level_marked : (s : ℕ → Site) (v : Numbered s) (n i m : ℕ) (x : Option Sharing) (y : List Word) → i ≡ n → m ≡ n + level_size x → Told (level_marks (level_at s n x)) m y i (level_words x y)
level_marked s v n i m None y p q = (renumbered m i y (omega arith), omega (arith, p, q))
level_marked s v n i m (Some x) y p q = sharing_marked s v n i m x y p q

-- a base at n, whose name has the number k
base_marked : (n i m k : ℕ) (b : Base) (y : List Word) → i ≡ n → m ≡ n + base_size b → k ≡ base_name b n → Told (base_marks b k) m y i (base_words b y)
base_marked n i m k (Base.Struct x) y p q r = (named k (i + 1) m (i + 1 + 1) x y (omega (arith, p, r)) (omega arith), omega (arith, p, q))
base_marked n i m k _ y p q r = (renumbered m (i + 1) y (omega arith), omega (arith, p, q))

-- the levels below come before the star of the level above them
more_level : (s : ℕ → Site) (n : ℕ) (first : Bool) (b : Base) (l : Option Mode) (all : List Mark) (k : Option Sharing) (below : List (Option Sharing)) → levels_marks first all (l ∷ levels_at s n first b (k ∷ below)) ≡ levels_marks first all (levels_at s n first b (k ∷ below)) ++ level_marks l
more_level s n true b l all k [] = refl
more_level s n false b l all k [] = refl
more_level s n true b l all k (j ∷ below) = refl
more_level s n false b l all k (j ∷ below) = refl

levels_marked : (s : ℕ → Site) (v : Numbered s) (n i m k : ℕ) (first : Bool) (b : Base) (x : Option Sharing) (below : List (Option Sharing)) (y : List Word) → i ≡ n → m ≡ n + levels_size b (x ∷ below) → k ≡ base_place first b (x ∷ below) n → Told (levels_marks first (base_marks b k) (levels_at s n first b (x ∷ below))) m y i (levels_words first b x below y)
levels_marked s v n i m k true b x [] y p q r =
    let one = level_marked s v n i (n + level_size x) x (base_words b y) p refl in
    let other = base_marked (n + level_size x) (n + level_size x) m k b y refl (omega (arith, q)) r in
    (two (level_marks (level_at s n x)) (base_marks b k) (marked m y) _ _ other.0 one.0, omega (arith, one.1, other.1))
levels_marked s v n i m k false b x [] y p q r =
    let one = base_marked n i (n + base_size b) k b (level_words x y) p refl r in
    let other = level_marked s v (n + base_size b) (n + base_size b) m x y refl (omega (arith, q)) in
    (two (base_marks b k) (level_marks (level_at s (n + base_size b) x)) (marked m y) _ _ other.0 one.0, omega (arith, one.1, other.1))
levels_marked s v n i m k first b x (j ∷ below) y p q r =
    let at = n + levels_size b (j ∷ below) in
    let one = levels_marked s v n i at k first b j below (mark Star ∷ level_words x y) p refl r in
    let other = level_marked s v (at + 1) (at + 1) m x y refl (omega (arith, q)) in (
      ap (λ z. z ++ marked m y) (more_level s n first b (level_at s (at + 1) x) (base_marks b k) j below)
          ∙ two (levels_marks first (base_marks b k) (levels_at s n first b (j ∷ below))) (level_marks (level_at s (at + 1) x)) (marked m y) _ _ other.0 one.0,
      omega (arith, one.1, other.1),
    )

list_marked : (s : ℕ → Site) (v : Numbered s) (n i m k : ℕ) (first : Bool) (b : Base) (all : List (Option Sharing)) (y : List Word) → i ≡ n → m ≡ n + levels_size b all → k ≡ base_place first b all n → Told (levels_marks first (base_marks b k) (levels_at s n first b all)) m y i (list_words first b all y)
list_marked s v n i m k first b [] y p q r = (renumbered m i y (omega arith), omega (arith, p, q))
list_marked s v n i m k first b (x ∷ below) y p q r = levels_marked s v n i m k first b x below y p q r

type_marked : (s : ℕ → Site) (v : Numbered s) (n i m : ℕ) (t : Typing) (y : List Word) → i ≡ n → m ≡ n + type_size t → Told (type_marks (type_at s n t)) m y i (type_words t y)
type_marked s v n i m t y p q = list_marked s v n i m _ t.mode_first t.base t.levels y p q (v _)

declaration_marked : (s : ℕ → Site) (v : Numbered s) (n i m : ℕ) (d : Declaring) (y : List Word) → i ≡ n → m ≡ n + declaring_size d → Told (declaration_marks (declaration_at s n d)) m y i (declaring_words d y)
declaration_marked s v n i m d y p q =
    let at = n + type_size d.typing in
    let one = type_marked s v n i at d.typing (name d.named ∷ y) p refl in
    (two (type_marks (type_at s n d.typing)) (a_name (s at).token d.named ∷ []) (marked m y) _ _ (named (s at).token at m (at + 1) d.named y (v at) (omega (arith, q))) one.0, omega (arith, q, one.1))

-- expressions

constant_marked : (i m : ℕ) (c : Constant) (y : List Word) → m ≡ i + 1 → Told [] m y i (constant_word c ∷ y)
constant_marked i m (Constant.Number k) y q = (renumbered m (i + 1) y q, omega (arith, q))
constant_marked i m _ y q = (renumbered m (i + 1) y q, omega (arith, q))

-- what is marked after the front of an expression
abbrev pub Behind : List Mark → ℕ → List Word → Type 0
Behind r n z = (j : ℕ) → j ≡ n → r ≡ marked j z

front_marked : (s : ℕ → Site) (v : Numbered s) (n i : ℕ) (span : Span) (f : Front) (e : tree.Expression) (r : List Mark) (z : List Word) → i ≡ n → span.first.token ≡ n → Behind (marks e ++ r) (n + front_size f) z → (marks (front_at s n span f e) ++ r ≡ marked i (front_words f z)) × (i + length (front_words f z) ≡ n + front_size f + length z)
front_marked s v n i span parenthesis e r z p h b = (b (i + 1) (omega (arith, p)), omega (arith, p))
front_marked s v n i span (of_spawn x) e r z p h b = (also_named (s (n + 2)).token (i + 1 + 1) x _ _ (let t = v (n + 2) in omega (arith, t, p)) (b (i + 1 + 1 + 1 + 1) (omega (arith, p))), omega (arith, p))
front_marked s v n i span (of_value ValueCall.Join) e r z p h b = (b (i + 1 + 1) (omega (arith, p)), omega (arith, p))
front_marked s v n i span (of_place PlaceCall.Lock) e r z p h b = (b (i + 1 + 1 + 1) (omega (arith, p)), omega (arith, p))
front_marked s v n i span (of_place PlaceCall.Unlock) e r z p h b = (b (i + 1 + 1 + 1) (omega (arith, p)), omega (arith, p))
front_marked s v n i span (of_cast t) e r z p h b =
    let at = n + 2 + type_size t in
    let there : span.first.token ≡ i = omega (arith, p, h) in
    let one = type_marked s v (n + 2) (i + 1 + 1) at t (mark Comma ∷ z) (omega (arith, p)) refl in (
      ap (λ k. a_cast k ∷ ((type_marks (type_at s (n + 2) t) ++ marks e) ++ r)) there
          ∙ ap (λ l. a_cast i ∷ l) (two (type_marks (type_at s (n + 2) t)) (marks e) r _ _ (b (at + 1) (omega arith)) one.0),
      omega (arith, p, one.1),
    )
front_marked s v n i span _ e r z p h b = (b (i + 1 + 1) (omega (arith, p)), omega (arith, p))

mutual
  expression_marked : (s : ℕ → Site) (v : Numbered s) (n i m : ℕ) (x : Phrase) (y : List Word) → i ≡ n → m ≡ n + size x → Told (marks (expression_at s n x)) m y i (words x y)
  expression_marked s v n i m (identifier t) y p q = (named (s n).token i m (i + 1) t y (let e = v n in omega (arith, e, p)) (omega (arith, p, q)), omega (arith, p, q))
  expression_marked s v n i m (constant c) y p q = constant_marked i m c y (omega (arith, p, q))
  expression_marked s v n i m (enclosed f a) y p q =
      let at = n + front_size f in
      let inner = λ (j : ℕ) (h : j ≡ at). expression_marked s v at j (at + size a) a (mark CloseParenthesis ∷ y) h refl in
      let front = front_marked s v n i (span_at s n (size (enclosed f a))) f (expression_at s at a) (marked m y) (words a (mark CloseParenthesis ∷ y)) p (v n) (λ j h. shifted _ _ m (at + size a + 1) y (omega (arith, q)) (inner j h).0) in
      (front.0, omega (arith, q, front.1, (inner at refl).1))
  expression_marked s v n i m (call t all) y p q =
      let inner = all_marked s v (n + 2) (i + 1 + 1) (n + 2 + sizes all) all (mark CloseParenthesis ∷ y) (omega (arith, p)) refl in
      (also_named (s n).token i t _ _ (let e = v n in omega (arith, e, p)) (shifted _ _ m (n + 2 + sizes all + 1) y (omega (arith, q)) inner.0), omega (arith, q, inner.1))
  expression_marked s v n i m (index a j) y p q =
      let at = n + size a in
      let one = expression_marked s v n i at a (mark OpenBracket ∷ words j (mark CloseBracket ∷ y)) p refl in
      let other = expression_marked s v (at + 1) (at + 1) (at + 1 + size j) j (mark CloseBracket ∷ y) refl refl in
      (two (marks (expression_at s n a)) (marks (expression_at s (at + 1) j)) (marked m y) _ _ (shifted _ _ m (at + 1 + size j + 1) y (omega (arith, q)) other.0) one.0, omega (arith, q, one.1, other.1))
  expression_marked s v n i m (field a w t) y p q =
      let at = n + size a in
      let one = expression_marked s v n i at a (mark (access_mark w) ∷ (name t ∷ y)) p refl in
      (two (marks (expression_at s n a)) (a_name (s (at + 1)).token t ∷ []) (marked m y) _ _ (named (s (at + 1)).token (at + 1) m (at + 1 + 1) t y (v (at + 1)) (omega (arith, q))) one.0, omega (arith, q, one.1))
  expression_marked s v n i m (unary o a) y p q =
      let one = expression_marked s v (n + 1) (i + 1) m a y (omega (arith, p)) (omega (arith, q)) in
      (one.0, omega (arith, one.1))
  expression_marked s v n i m (binary o a b) y p q =
      let at = n + size a in
      let one = expression_marked s v n i at a (mark (operator_mark o) ∷ words b y) p refl in
      let other = expression_marked s v (at + 1) (at + 1) m b y refl (omega (arith, q)) in
      (two (marks (expression_at s n a)) (marks (expression_at s (at + 1) b)) (marked m y) _ _ other.0 one.0, omega (arith, one.1, other.1))

  all_marked : (s : ℕ → Site) (v : Numbered s) (n i m : ℕ) (all : Phrases) (y : List Word) → i ≡ n → m ≡ n + sizes all → Told (arguments_marks (arguments_at s n all)) m y i (words_of_all all y)
  all_marked s v n i m none y p q = (renumbered m i y (omega (arith, p, q)), omega (arith, p, q))
  all_marked s v n i m (more a rest) y p q =
      let at = n + size a in
      let one = expression_marked s v n i at a (words_of_rest rest y) p refl in
      let other = rest_marked s v (at + 1) at m rest y refl (omega (arith, q)) in
      (two (marks (expression_at s n a)) (arguments_marks (arguments_at s (at + 1) rest)) (marked m y) _ _ other.0 one.0, omega (arith, one.1, other.1))

  -- a comma comes before the first of them
  rest_marked : (s : ℕ → Site) (v : Numbered s) (n i m : ℕ) (all : Phrases) (y : List Word) → n ≡ i + 1 → m ≡ i + rest_size all → Told (arguments_marks (arguments_at s n all)) m y i (words_of_rest all y)
  rest_marked s v n i m none y p q = (renumbered m i y (omega (arith, q)), omega (arith, q))
  rest_marked s v n i m (more a rest) y p q =
      let at = n + size a in
      let one = expression_marked s v n (i + 1) at a (words_of_rest rest y) (sym p) refl in
      let other = rest_marked s v (at + 1) at m rest y refl (omega (arith, p, q)) in
      (two (marks (expression_at s n a)) (arguments_marks (arguments_at s (at + 1) rest)) (marked m y) _ _ other.0 one.0, omega (arith, one.1, other.1))

option_marked : (s : ℕ → Site) (v : Numbered s) (n i m : ℕ) (e : Option Phrase) (y : List Word) → i ≡ n → m ≡ n + option_size e → Told (option_marks marks (option_at s n e)) m y i (option_words e y)
option_marked s v n i m None y p q = (renumbered m i y (omega (arith, p, q)), omega (arith, p, q))
option_marked s v n i m (Some e) y p q = expression_marked s v n i m e y p q

-- the right side of `=`, and lines

count_marked : (s : ℕ → Site) (v : Numbered s) (n i m : ℕ) (e : Option Phrase) (y : List Word) → i ≡ n → m ≡ n + count_size e → Told (option_marks marks (option_at s n e)) m y i (count_words e y)
count_marked s v n i m None y p q = (renumbered m i y (omega (arith, p, q)), omega (arith, p, q))
count_marked s v n i m (Some e) y p q =
    let one = expression_marked s v n i (n + size e) e (mark Star ∷ y) p refl in
    (shifted _ _ m (n + size e + 1) y (omega (arith, q)) one.0, omega (arith, q, one.1))

value_marked : (s : ℕ → Site) (v : Numbered s) (n i m : ℕ) (x : Value) (y : List Word) → i ≡ n → m ≡ n + value_size x → Told (right_marks (value_at s n x)) m y i (value_words x y)
value_marked s v n i m (value e) y p q = expression_marked s v n i m e y p q
value_marked s v n i m (malloc c t) y p q =
    let at = n + 2 + count_size c in
    let to = n + count_size c + 4 + type_size t in
    let closing = mark CloseParenthesis ∷ (mark CloseParenthesis ∷ y) in
    let one = count_marked s v (n + 2) (i + 1 + 1) at c (keyword Keyword.Sizeof ∷ (mark OpenParenthesis ∷ type_words t closing)) (omega (arith, p)) refl in
    let other = type_marked s v (n + count_size c + 4) (at + 1 + 1) to t closing (omega arith) refl in
    (two (option_marks marks (option_at s (n + 2) c)) (type_marks (type_at s (n + count_size c + 4) t)) (marked m y) _ _ (shifted _ _ m (to + 1 + 1) y (omega (arith, q)) other.0) one.0, omega (arith, q, one.1, other.1))

doing_marked : (s : ℕ → Site) (v : Numbered s) (n i m : ℕ) (x : Doing) (y : List Word) → i ≡ n → m ≡ n + doing_size x → Told (simple_marks (doing_at s n x)) m y i (doing_words x y)
doing_marked s v n i m (assign u r) y p q =
    let at = n + size u in
    let one = expression_marked s v n i at u (mark Assign ∷ value_words r y) p refl in
    let other = value_marked s v (at + 1) (at + 1) m r y refl (omega (arith, q)) in
    (two (marks (expression_at s n u)) (right_marks (value_at s (at + 1) r)) (marked m y) _ _ other.0 one.0, omega (arith, one.1, other.1))
doing_marked s v n i m (invoke e) y p q = expression_marked s v n i m e y p q

initial_marked : (s : ℕ → Site) (v : Numbered s) (n i m : ℕ) (x : Option Value) (y : List Word) → i ≡ n → m ≡ n + initial_size x → Told (option_marks right_marks (initial_at s n x)) m y i (initial_words x y)
initial_marked s v n i m None y p q = (renumbered m i y (omega (arith, p, q)), omega (arith, p, q))
initial_marked s v n i m (Some r) y p q =
    let one = value_marked s v (n + 1) (i + 1) m r y (omega (arith, p)) (omega (arith, q)) in
    (one.0, omega (arith, one.1))

local_marked : (s : ℕ → Site) (v : Numbered s) (n i m : ℕ) (x : Declared) (y : List Word) → i ≡ n → m ≡ n + local_size x → Told (local_marks (local_at s n x)) m y i (declaring_words x.declaring (initial_words x.initial y))
local_marked s v n i m x y p q =
    let at = n + declaring_size x.declaring in
    let one = declaration_marked s v n i at x.declaring (initial_words x.initial y) p refl in
    let other = initial_marked s v at at m x.initial y refl (omega (arith, q)) in
    (two (declaration_marks (declaration_at s n x.declaring)) (option_marks right_marks (initial_at s at x.initial)) (marked m y) _ _ other.0 one.0, omega (arith, one.1, other.1))

first_marked : (s : ℕ → Site) (v : Numbered s) (n i m : ℕ) (x : Line) (y : List Word) → i ≡ n → m ≡ n + line_size x → Told (first_marks (first_at s n x)) m y i (line_words x y)
first_marked s v n i m nothing y p q = (renumbered m (i + 1) y (omega (arith, p, q)), omega (arith, p, q))
first_marked s v n i m (does x) y p q =
    let one = doing_marked s v n i (n + doing_size x) x (mark Semicolon ∷ y) p refl in
    (shifted _ _ m (n + doing_size x + 1) y (omega (arith, q)) one.0, omega (arith, q, one.1))
first_marked s v n i m (declares x) y p q =
    let one = local_marked s v n i (n + local_size x) x (mark Semicolon ∷ y) p refl in
    (shifted _ _ m (n + local_size x + 1) y (omega (arith, q)) one.0, omega (arith, q, one.1))

line_marked : (s : ℕ → Site) (v : Numbered s) (n i m : ℕ) (x : Line) (y : List Word) → i ≡ n → m ≡ n + line_size x → Told (statement_marks (line_at s n x)) m y i (line_words x y)
line_marked s v n i m nothing y p q = (renumbered m (i + 1) y (omega (arith, p, q)), omega (arith, p, q))
line_marked s v n i m k y p q = first_marked s v n i m k y p q

step_marked : (s : ℕ → Site) (v : Numbered s) (n i m : ℕ) (x : Option Doing) (y : List Word) → i ≡ n → m ≡ n + step_size x → Told (option_marks simple_marks (step_at s n x)) m y i (step_words x y)
step_marked s v n i m None y p q = (renumbered m i y (omega (arith, p, q)), omega (arith, p, q))
step_marked s v n i m (Some x) y p q = doing_marked s v n i m x y p q

-- the head of a `for`, with the `)` after it
loop_marked : (s : ℕ → Site) (v : Numbered s) (n i m : ℕ) (x : Loop) (y : List Word) → i ≡ n → m ≡ n + opening_size (for_of x) → Told (head_marks (head_at s n x)) m y i (loop_words x y)
loop_marked s v n i m x y p q =
    let first = first_at s (n + 2) x.first in
    let test = n + line_size x.first + 2 in
    let step = n + line_size x.first + option_size x.test + 3 in
    let closing = mark CloseParenthesis ∷ y in
    let one = first_marked s v (n + 2) (i + 1 + 1) test x.first (option_words x.test (mark Semicolon ∷ step_words x.step closing)) (omega (arith, p)) (omega arith) in
    let other = option_marked s v test test (test + option_size x.test) x.test (mark Semicolon ∷ step_words x.step closing) refl refl in
    let last = step_marked s v step (test + option_size x.test + 1) (step + step_size x.step) x.step closing (omega arith) refl in (
      two (first_marks first ++ option_marks marks (option_at s test x.test)) (option_marks simple_marks (step_at s step x.step)) (marked m y) _ _
          (shifted _ _ m (step + step_size x.step + 1) y (omega (arith, q)) last.0)
          (two (first_marks first) (option_marks marks (option_at s test x.test)) _ _ _ other.0 one.0),
      omega (arith, q, one.1, other.1, last.1),
    )

jump_marked : (i m : ℕ) (j : Jump) (y : List Word) → m ≡ i + 1 + 1 → Told [] m y i (jump_word j ∷ (mark Semicolon ∷ y))
jump_marked i m Jump.Break y q = (renumbered m (i + 1 + 1) y q, omega (arith, q))
jump_marked i m Jump.Continue y q = (renumbered m (i + 1 + 1) y q, omega (arith, q))

mutual
  sentence_marked : (s : ℕ → Site) (v : Numbered s) (n i m : ℕ) (a : Sentence) (y : List Word) → i ≡ n → m ≡ n + sentence_size a → Told (statement_marks (statement_at s n a)) m y i (written a y)
  sentence_marked s v n i m (line x) y p q = line_marked s v n i m x y p q
  sentence_marked s v n i m (jump j) y p q = jump_marked i m j y (omega (arith, p, q))
  sentence_marked s v n i m (return e) y p q =
      let one = option_marked s v (n + 1) (i + 1) (n + 1 + option_size e) e (mark Semicolon ∷ y) (omega (arith, p)) refl in
      (shifted _ _ m (n + 1 + option_size e + 1) y (omega (arith, q)) one.0, omega (arith, q, one.1))
  sentence_marked s v n i m (block all) y p q =
      let one = sentences_marked s v (n + 1) (i + 1) (n + 1 + all_size all) all (mark CloseBrace ∷ y) (omega (arith, p)) refl in
      (shifted _ _ m (n + 1 + all_size all + 1) y (omega (arith, q)) one.0, omega (arith, q, one.1))
  sentence_marked s v n i m (under w a) y p q =
      let at = n + opening_size w in
      let inner = λ (j : ℕ) (h : j ≡ at). sentence_marked s v at j m a y h (omega (arith, q)) in
      let front = under_marked s v n i w (span_at s n (opening_size w + sentence_size a)) (statement_at s at a) (marked m y) (written a y) p (λ j h. (inner j h).0) in
      (front.0, omega (arith, front.1, (inner at refl).1))

  sentences_marked : (s : ℕ → Site) (v : Numbered s) (n i m : ℕ) (all : Sentences) (y : List Word) → i ≡ n → m ≡ n + all_size all → Told (statements_marks (statements_at s n all)) m y i (written_all all y)
  sentences_marked s v n i m no_more y p q = (renumbered m i y (omega (arith, p, q)), omega (arith, p, q))
  sentences_marked s v n i m (sentence a rest) y p q =
      let at = n + sentence_size a in
      let one = sentence_marked s v n i at a (written_all rest y) p refl in
      let other = sentences_marked s v at at m rest y refl (omega (arith, q)) in
      (two (statement_marks (statement_at s n a)) (statements_marks (statements_at s at rest)) (marked m y) _ _ other.0 one.0, omega (arith, one.1, other.1))

  under_marked : (s : ℕ → Site) (v : Numbered s) (n i : ℕ) (w : Opening) (span : Span) (a : tree.Statement) (r : List Mark) (z : List Word) → i ≡ n → Behind (statement_marks a ++ r) (n + opening_size w) z → (statement_marks (under_at s n w span a) ++ r ≡ marked i (opening_words w z)) × (i + length (opening_words w z) ≡ n + opening_size w + length z)
  under_marked s v n i (if_of e) span a r z p b =
      let at = n + 2 + size e in
      let one = expression_marked s v (n + 2) (i + 1 + 1) at e (mark CloseParenthesis ∷ z) (omega (arith, p)) refl in
      (two (marks (expression_at s (n + 2) e)) (statement_marks a) r _ _ (b (at + 1) (omega arith)) one.0, omega (arith, p, one.1))
  under_marked s v n i (else_of e c) span a r z p b =
      let at = n + 2 + size e in
      let done = n + size e + 3 + sentence_size c in
      let one = expression_marked s v (n + 2) (i + 1 + 1) at e (mark CloseParenthesis ∷ written c (keyword Keyword.Else ∷ z)) (omega (arith, p)) refl in
      let other = sentence_marked s v (n + size e + 3) (at + 1) done c (keyword Keyword.Else ∷ z) (omega arith) refl in (
        two (marks (expression_at s (n + 2) e) ++ statement_marks (statement_at s (n + size e + 3) c)) (statement_marks a) r _ _
            (b (done + 1) (omega arith))
            (two (marks (expression_at s (n + 2) e)) (statement_marks (statement_at s (n + size e + 3) c)) _ _ _ other.0 one.0),
        omega (arith, p, one.1, other.1),
      )
  under_marked s v n i (while_of e) span a r z p b =
      let at = n + 2 + size e in
      let one = expression_marked s v (n + 2) (i + 1 + 1) at e (mark CloseParenthesis ∷ z) (omega (arith, p)) refl in
      (two (marks (expression_at s (n + 2) e)) (statement_marks a) r _ _ (b (at + 1) (omega arith)) one.0, omega (arith, p, one.1))
  under_marked s v n i (for_of x) span a r z p b =
      let one = loop_marked s v n i (n + opening_size (for_of x)) x z p refl in
      (two (head_marks (head_at s n x)) (statement_marks a) r _ _ (b (n + opening_size (for_of x)) refl) one.0, one.1)

-- programs

fields_marked : (s : ℕ → Site) (v : Numbered s) (n i m : ℕ) (all : List Declaring) (y : List Word) → i ≡ n → m ≡ n + fields_size all → Told (declarations_marks (declarations_at s n all)) m y i (fields_words all y)
fields_marked s v n i m [] y p q = (renumbered m i y (omega (arith, p, q)), omega (arith, p, q))
fields_marked s v n i m (d ∷ rest) y p q =
    let at = n + declaring_size d in
    let one = declaration_marked s v n i at d (mark Semicolon ∷ fields_words rest y) p refl in
    let other = fields_marked s v (at + 1) (at + 1) m rest y refl (omega (arith, q)) in
    (two (declaration_marks (declaration_at s n d)) (declarations_marks (declarations_at s (at + 1) rest)) (marked m y) _ _ other.0 one.0, omega (arith, one.1, other.1))

parameters_marked : (s : ℕ → Site) (v : Numbered s) (n i m : ℕ) (all : List Declaring) (y : List Word) → i ≡ n → m ≡ n + parameters_size all → Told (declarations_marks (declarations_at s n all)) m y i (parameters_words all y)
parameters_marked s v n i m [] y p q = (renumbered m (i + 1) y (omega (arith, p, q)), omega (arith, p, q))
parameters_marked s v n i m (d ∷ []) y p q =
    let one = declaration_marked s v n i m d y p q in
    (two (declaration_marks (declaration_at s n d)) [] (marked m y) _ _ refl one.0, one.1)
parameters_marked s v n i m (d ∷ (e ∷ rest)) y p q =
    let at = n + declaring_size d in
    let one = declaration_marked s v n i at d (mark Comma ∷ parameters_words (e ∷ rest) y) p refl in
    let other = parameters_marked s v (at + 1) (at + 1) m (e ∷ rest) y refl (omega (arith, q)) in
    (two (declaration_marks (declaration_at s n d)) (declarations_marks (declarations_at s (at + 1) (e ∷ rest))) (marked m y) _ _ other.0 one.0, omega (arith, one.1, other.1))

form_marked : (n m : ℕ) (x : Form) (y : List Word) → m ≡ n + form_size x → Told [] m y n (form_words x y)
form_marked n m single y q = (renumbered m n y (omega (arith, q)), omega (arith, q))
form_marked n m (array k) y q = (renumbered m (n + 1 + 1 + 1) y (omega (arith, q)), omega (arith, q))
form_marked n m (initially true c) y q =
    let one = constant_marked (n + 1 + 1) m c y (omega (arith, q)) in
    (one.0, omega (arith, one.1))
form_marked n m (initially false c) y q =
    let one = constant_marked (n + 1) m c y (omega (arith, q)) in
    (one.0, omega (arith, one.1))

global_marked : (s : ℕ → Site) (v : Numbered s) (n i m : ℕ) (d : Declaring) (x : Form) (y : List Word) → i ≡ n → m ≡ n + part_size (global d x) → Told (declaration_marks (declaration_at s n d)) m y i (part_words (global d x) y)
global_marked s v n i m d x y p q =
    let at = n + declaring_size d in
    let one = declaration_marked s v n i at d (form_words x (mark Semicolon ∷ y)) p refl in
    let other = form_marked at (at + form_size x) x (mark Semicolon ∷ y) refl in
    (ap (λ z. declaration_marks (declaration_at s n d) ++ z) (renumbered m (at + form_size x + 1) y (omega (arith, q)) ∙ other.0) ∙ one.0, omega (arith, q, one.1, other.1))

function_marked : (s : ℕ → Site) (v : Numbered s) (n i m : ℕ) (f : Callable) (y : List Word) → i ≡ n → m ≡ n + part_size (function f) → Told (item_marks (item_at s n (function f))) m y i (part_words (function f) y)
function_marked s v n i m f y p q =
    let at = n + type_size f.result in
    let given = at + 2 + parameters_size f.parameters in
    let opens = n + type_size f.result + parameters_size f.parameters + 3 in
    let result = type_marks (type_at s n f.result) in
    let parameters = declarations_marks (declarations_at s (at + 2) f.parameters) in
    let body = statements_marks (statements_at s (opens + 1) f.body) in
    let closing = mark CloseBrace ∷ y in
    let inside = mark CloseParenthesis ∷ (mark OpenBrace ∷ written_all f.body closing) in
    let one = type_marked s v n i at f.result (name f.named ∷ (mark OpenParenthesis ∷ parameters_words f.parameters inside)) p refl in
    let other = parameters_marked s v (at + 2) (at + 1 + 1) given f.parameters inside (omega arith) refl in
    let last = sentences_marked s v (opens + 1) (given + 1 + 1) (opens + 1 + all_size f.body) f.body closing (omega arith) refl in (
      two (result ++ (a_name (s at).token f.named ∷ []) ++ parameters) body (marked m y) _ _
          (shifted _ _ m (opens + 1 + all_size f.body + 1) y (omega (arith, q)) last.0)
          (two (result ++ (a_name (s at).token f.named ∷ [])) parameters _ _ _ other.0
          (two result (a_name (s at).token f.named ∷ []) _ _ _ (also_named (s at).token at f.named _ _ (v at) refl) one.0)),
      omega (arith, q, one.1, other.1, last.1),
    )

part_marked : (s : ℕ → Site) (v : Numbered s) (n i m : ℕ) (x : Part) (y : List Word) → i ≡ n → m ≡ n + part_size x → Told (item_marks (item_at s n x)) m y i (part_words x y)
part_marked s v n i m (structure t all) y p q =
    let at = n + 3 + fields_size all in
    let one = fields_marked s v (n + 3) (i + 1 + 1 + 1) at all (mark CloseBrace ∷ (mark Semicolon ∷ y)) (omega (arith, p)) refl in
    (also_named (s (n + 1)).token (i + 1) t _ _ (let e = v (n + 1) in omega (arith, e, p)) (shifted _ _ m (at + 1 + 1) y (omega (arith, q)) one.0), omega (arith, q, one.1))
part_marked s v n i m (global d x) y p q = global_marked s v n i m d x y p q
part_marked s v n i m (function f) y p q = function_marked s v n i m f y p q

-- the number of words of all parts
abbrev pub parts_size : List Part → ℕ
parts_size [] = 0
parts_size (p ∷ rest) = part_size p + parts_size rest

pub parts_marked : (s : ℕ → Site) (v : Numbered s) (n i : ℕ) (all : List Part) → i ≡ n → (items_marks (items_at s n all) ≡ marked i (program_words all [])) × (length (program_words all []) ≡ parts_size all)
parts_marked s v n i [] p = (refl, refl)
parts_marked s v n i (x ∷ rest) p =
    let at = n + part_size x in
    let one = part_marked s v n i at x (program_words rest []) p refl in
    let other = parts_marked s v at at rest refl in
    (ap (λ z. item_marks (item_at s n x) ++ z) other.0 ∙ one.0, omega (arith, p, one.1, other.1))
