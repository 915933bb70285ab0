-- The names and casts of a tree that lies at its tokens are there, in order, and its spans can be printed.
use Rattle.sharc_parse.proofs.Imports.{◌≡◌, ℕ, suc, zero, ◌+◌, ◌-◌, ◌≤◌, ◌<◌, List, [], ◌∷◌, ◌++◌, length, drop, get_or, HoldsAt, refl, sym, ap, ◌∙◌, arith, subst, length-drop, ⊎_elim, Contains, cases_lt, drop_more, Contains-append_right, AllPairs, span_of, span_of_statement, Mark, a_name, number_of, keyword_marks, kind_marks, marks_from, AreMarks, Stand, items_marks, IsSpan, Placed, PlacedStatement, Keyword, Scast, Span, Token, TokenKind}
use Rattle.sharc_tree.specs.Tree as tree
use Rattle.sharc_tree.specs.Placed.{IsPlaced}

-- they may be sought from an earlier token on
from_earlier : (all : List Token) (n m : ℕ) (l : List Mark) → n ≤ m → Stand all m l → Stand all n l
from_earlier all n m [] h s = tt
from_earlier all n m (x ∷ rest) h s = (omega (arith, h, s.0), s.1, s.2)

-- token number n is of that kind, with that text
abbrev pub HasKind : List Token → ℕ → TokenKind → List ℕ → Type 0
HasKind all n k text = (n < length all) × HoldsAt (λ t. (t.kind ≡ k) × (t.text ≡ text)) all n

keyword_stands : (all : List Token) (n : ℕ) (k : Keyword) (text : List ℕ) (rest : List Mark) → HasKind all n (TokenKind.Keyword k) text → Stand all (n + 1) rest → Stand all n (keyword_marks k n ++ rest)
keyword_stands all n Scast text rest h s = (omega arith, (h.0, λ d. (h.1 d).0), s)
keyword_stands all n _ text rest h s = from_earlier all n (n + 1) rest (omega arith) s

kind_stands : (all : List Token) (n : ℕ) (k : TokenKind) (text : List ℕ) (rest : List Mark) → HasKind all n k text → Stand all (n + 1) rest → Stand all n (kind_marks k text n ++ rest)
kind_stands all n (TokenKind.Keyword k) text rest h s = keyword_stands all n k text rest h s
kind_stands all n TokenKind.Identifier text rest h s = (omega arith, h, s)
kind_stands all n _ text rest h s = from_earlier all n (n + 1) rest (omega arith) s

marks_stand : (all : List Token) (n : ℕ) (l : List Token) → drop n all ≡ l → Stand all n (marks_from n l)
marks_stand all n [] is = tt
marks_stand all n (t ∷ rest) is =
    let size : length all - n ≡ length (t ∷ rest) = sym (length-drop n all) ∙ ap length is in
    let below : n < length all = omega (arith, size) in
    let same : (d : Token) → get_or all n d ≡ t = λ d. let e = drop_more all n d below in cc in
    let next : drop (n + 1) all ≡ rest = let e = drop_more all n t below in cc in
    kind_stands all n t.kind t.text (marks_from (n + 1) rest)
    (below, λ d. (ap (λ (x : Token). x.kind) (same d), ap (λ (x : Token). x.text) (same d)))
    (marks_stand all (n + 1) rest next)

-- marks that are there, in parts

pub left : (all : List Token) (a b : List Mark) → AreMarks all (a ++ b) → AreMarks all a
left all [] b w = tt
left all (x ∷ rest) b w = (w.0, left all rest b w.1)

pub right : (all : List Token) (a b : List Mark) → AreMarks all (a ++ b) → AreMarks all b
right all [] b w = w
right all (x ∷ rest) b w = right all rest b w.1

are_there : (all : List Token) (n : ℕ) (l : List Mark) → Stand all n l → AreMarks all l
are_there all n [] s = tt
are_there all n (x ∷ rest) s = (s.1, are_there all (number_of x + 1) rest s.2)

pub words_are_there : (all : List Token) → AreMarks all (marks_from 0 all)
words_are_there all = are_there all 0 (marks_from 0 all) (marks_stand all 0 all refl)

pub names_stand : (p : tree.Program) → IsPlaced p → Stand p.tokens.list 0 (items_marks p.items)
names_stand p h = subst (Stand p.tokens.list 0) (sym h.marked) (marks_stand p.tokens.list 0 p.tokens.list refl)

-- no two have one token

not_before : (all : List Token) (n : ℕ) (l : List Mark) (j : ℕ) (d : Mark) → Stand all n l → j < length l → n ≤ number_of (get_or l j d)
not_before all n [] j d s h = absurd (omega (arith, h))
not_before all n (x ∷ rest) zero d s h = s.0
not_before all n (x ∷ rest) (suc j) d s h = let e = not_before all (number_of x + 1) rest j d s.2 (omega (arith, h)) in omega (arith, e, s.0)

in_order : (all : List Token) (n : ℕ) (l : List Mark) (i j : ℕ) (d : Mark) → Stand all n l → i < j → j < length l → number_of (get_or l i d) < number_of (get_or l j d)
in_order all n [] i j d s less h = absurd (omega (arith, h))
in_order all n (x ∷ rest) i zero d s less h = absurd (omega (arith, less))
in_order all n (x ∷ rest) zero (suc j) d s less h = let e = not_before all (number_of x + 1) rest j d s.2 (omega (arith, h)) in omega (arith, e)
in_order all n (x ∷ rest) (suc i) (suc j) d s less h = in_order all (number_of x + 1) rest i j d s.2 (omega (arith, less)) (omega (arith, h))

pub names_apart : (p : tree.Program) → IsPlaced p → AllPairs (λ x y. number_of x < number_of y) (items_marks p.items)
names_apart p h i j d less high = in_order p.tokens.list 0 (items_marks p.items) i j d (names_stand p h) less high

-- no name is left out

either : (m n : ℕ) (P : Type 0) → (m < n → P) → (n ≤ m → P) → P
either m n P f g = ⊎_elim f g (cases_lt m n)

a_name_first : (n : ℕ) (k : TokenKind) (text : List ℕ) (l : List Mark) → k ≡ TokenKind.Identifier → Contains (kind_marks k text n ++ l) (a_name n text)
a_name_first n k text l is = subst (λ z. Contains (kind_marks z text n ++ l) (a_name n text)) (sym is) (0, omega arith, refl)

name_among : (all : List Token) (n m : ℕ) (l : List Token) (d : Token) → drop m all ≡ l → m ≤ n → n < length all → (get_or all n d).kind ≡ TokenKind.Identifier → Contains (marks_from m l) (a_name n (get_or all n d).text)
name_among all n m [] d is low high h =
    let size : length all - m ≡ 0 = sym (length-drop m all) ∙ ap length is in
    absurd (omega (arith, size, low, high))
name_among all n m (t ∷ rest) d is low high h =
    let below : m < length all = omega (arith, low, high) in
    let first : get_or all m d ≡ t = let e = drop_more all m d below in cc in
    let next : drop (m + 1) all ≡ rest = let e = drop_more all m d below in cc in
    either m n _
    (λ less. Contains-append_right (kind_marks t.kind t.text m) (marks_from (m + 1) rest) _ (name_among all n (m + 1) rest d next (omega (arith, less)) high h))
    (λ most.
    let same : m ≡ n = omega (arith, low, most) in
    let it : get_or all n d ≡ t = ap (λ z. get_or all z d) (sym same) ∙ first in
    let is_name : t.kind ≡ TokenKind.Identifier = ap (λ (x : Token). x.kind) (sym it) ∙ h in
    let mark : a_name m t.text ≡ a_name n (get_or all n d).text = ap (λ z. a_name z t.text) same ∙ ap (λ (x : Token). a_name n x.text) (sym it) in
    subst (Contains (kind_marks t.kind t.text m ++ marks_from (m + 1) rest)) mark (a_name_first m t.kind t.text (marks_from (m + 1) rest) is_name))

pub name_there : (p : tree.Program) → IsPlaced p → (n : ℕ) (t : Token) → n < length p.tokens.list → (get_or p.tokens.list n t).kind ≡ TokenKind.Identifier → Contains (items_marks p.items) (a_name n (get_or p.tokens.list n t).text)
name_there p placed n t high h = subst (λ l. Contains l (a_name n (get_or p.tokens.list n t).text)) (sym placed.marked) (name_among p.tokens.list n 0 p.tokens.list t refl (omega arith) high h)

-- what `print_span` asks

pub printable : (all : List Token) (s : Span) → IsSpan all s → (s.first.token ≤ s.last.token) × (s.last.token < length all)
printable all s h = (h.order, h.last.below)

pub expression_span : (all : List Token) (e : tree.Expression) → Placed all e → IsSpan all (span_of e)
expression_span all (tree.constant s c) p = p.0
expression_span all _ p = p.0.0

pub statement_span : (all : List Token) (a : tree.Statement) → PlacedStatement all a → IsSpan all (span_of_statement a)
statement_span all (tree.empty s) p = p.0
statement_span all (tree.jump s j) p = p.0
statement_span all _ p = p.0.0

pub expression_printable : (all : List Token) (e : tree.Expression) → Placed all e → ((span_of e).first.token ≤ (span_of e).last.token) × ((span_of e).last.token < length all)
expression_printable all e p = printable all (span_of e) (expression_span all e p)

pub statement_printable : (all : List Token) (a : tree.Statement) → PlacedStatement all a → ((span_of_statement a).first.token ≤ (span_of_statement a).last.token) × ((span_of_statement a).last.token < length all)
statement_printable all a p = printable all (span_of_statement a) (statement_span all a p)
