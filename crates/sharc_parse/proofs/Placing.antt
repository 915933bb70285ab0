-- The tree of a program lies at its tokens.
use Rattle.sharc_parse.proofs.{Imports.{◌≡◌, ℕ, ◌+◌, ◌≤◌, ◌<◌, List, [], ◌∷◌, ◌++◌, length, Option, Some, None, IfSome, refl, sym, ap, ◌∙◌, arith, subst, true, false, length-map, marks_from, name_marks, type_marks, declaration_marks, declarations_marks, marks, option_marks, right_marks, simple_marks, local_marks, first_marks, head_marks, statement_marks, statements_marks, item_marks, items_marks, AreMarks, span_of, span_of_right, span_of_simple, span_of_statement, span_of_item, Follow, option_spans, first_spans, head_spans, statement_spans, declaration_spans, form_spans, item_spans, Placed, PlacedRight, PlacedSimple, PlacedLocal, PlacedFirst, PlacedHead, PlacedStatement, PlacedStatements, PlacedItem, PlacedItems, Site, Span, Token, Tokens, Declaring, Phrase, Value, value, malloc, Doing, assign, invoke, Declared, Line, nothing, does, declares, Loop, Sentence, line, jump, return, block, under, Sentences, no_more, sentence, Opening, if_of, else_of, while_of, for_of, Form, single, array, initially, Callable, Part, structure, global, function, IsProgram, FitsCount, FitsValue, FitsDoing, FitsInitial, FitsLine, FitsStep, FitsAs, FitAllAs, FitsOpening, FitAllDeclaring, FitsFields, FitsPart, Reads, site_in, word_of, name_at, type_at, declaration_at, type_size, declaring_size, size, option_size, count_size, value_size, doing_size, initial_size, local_size, line_size, step_size, sentence_size, all_size, opening_size, fields_size, parameters_size, form_size, part_size, span_at, expression_at, option_at, value_at, doing_at, initial_at, local_at, first_at, step_at, head_at, line_at, statement_at, statements_at, under_at, declarations_at, form_at, item_at, items_at}, Marked.{marked, of_tokens, parts_marked, parts_size}, Marks.{left, right, words_are_there}, Standing.{Standing, standing, Lies, lies, lies_point, Row, part, last, whole, joined}, PlacedPhrases.{lies_type, placed_type, lies_declaration, placed_declaration, follow_declarations, placed_declarations, lies_expression, placed_expression, follow_option, placed_option}}
use Rattle.sharc_tree.specs.Tree as tree
use Rattle.sharc_tree.specs.Placed.{IsPlaced}

-- the right side of `=`

lies_right : (s : ℕ → Site) (n : ℕ) (r : Value) → Lies s n (value_size r) (span_of_right (value_at s n r))
lies_right s n (value e) = lies_expression s n e
lies_right s n (malloc c t) = lies s n (value_size (malloc c t)) (omega arith)

follow_count : (all : List Token) (s : ℕ → Site) (h : Standing all s) (from n until : ℕ) (e : Option Phrase) → from ≤ n → n + count_size e ≤ until → until ≤ length all → Row all from until (option_spans span_of (option_at s n e))
follow_count all s h from n until None a b c = record { follow = tt }
follow_count all s h from n until (Some e) a b c = follow_option all s h from n until (Some e) a (omega (arith, b)) c

placed_count : (all : List Token) (s : ℕ → Site) (h : Standing all s) (n : ℕ) (e : Option Phrase) → FitsCount e → n + count_size e ≤ length all → AreMarks all (option_marks marks (option_at s n e)) → IfSome (option_at s n e) (Placed all)
placed_count all s h n None f q w = tt
placed_count all s h n (Some e) f q w = placed_expression all s h n e f.1 (omega (arith, q)) w

placed_right : (all : List Token) (s : ℕ → Site) (h : Standing all s) (n : ℕ) (r : Value) → FitsValue r → n + value_size r ≤ length all → AreMarks all (right_marks (value_at s n r)) → PlacedRight all (value_at s n r)
placed_right all s h n (value e) f q w = placed_expression all s h n e f q w
placed_right all s h n (malloc c t) f q w =
    let k = count_size c + type_size t + 6 in
    let at = n + count_size c + 4 in
    let count = option_marks marks (option_at s (n + 2) c) in
    let inner = type_marks (type_at s at t) in (
      whole all s h n k _ (omega arith) q
          (joined all n (n + 2 + count_size c) at (n + k) (option_spans span_of (option_at s (n + 2) c)) _ (omega arith) (omega arith) (omega arith)
          (follow_count all s h n (n + 2) (n + 2 + count_size c) c (omega arith) (omega arith) (omega (arith, q)))
          (last all s h at at (type_size t) (n + k) _ (lies_type s at t f.1) (omega arith) (omega arith) q)),
      placed_count all s h (n + 2) c f.0 (omega (arith, q)) (left all count inner w),
      placed_type all s h at t f.1 (omega (arith, q)) (right all count inner w),
    )

-- lines

lies_simple : (s : ℕ → Site) (n : ℕ) (x : Doing) → Lies s n (doing_size x) (span_of_simple (doing_at s n x))
lies_simple s n (assign u r) = lies s n (doing_size (assign u r)) (omega arith)
lies_simple s n (invoke e) = lies_expression s n e

placed_simple : (all : List Token) (s : ℕ → Site) (h : Standing all s) (n : ℕ) (x : Doing) → FitsDoing x → n + doing_size x ≤ length all → AreMarks all (simple_marks (doing_at s n x)) → PlacedSimple all (doing_at s n x)
placed_simple all s h n (assign u r) f q w =
    let k = size u + value_size r + 1 in
    let one = marks (expression_at s n u) in
    let other = right_marks (value_at s (n + size u + 1) r) in (
      whole all s h n k _ (omega arith) q
          (part all s h n n (size u) (n + k) _ _ (lies_expression s n u) (omega arith) (omega arith) q
          (last all s h (n + size u) (n + size u + 1) (value_size r) (n + k) _ (lies_right s (n + size u + 1) r) (omega arith) (omega arith) q)),
      placed_expression all s h n u f.1 (omega (arith, q)) (left all one other w),
      placed_right all s h (n + size u + 1) r f.2 (omega (arith, q)) (right all one other w),
    )
placed_simple all s h n (invoke e) f q w = placed_expression all s h n e f.1 q w

follow_initial : (all : List Token) (s : ℕ → Site) (h : Standing all s) (n until : ℕ) (r : Option Value) → n + initial_size r ≤ until → until ≤ length all → Row all n until (option_spans span_of_right (initial_at s n r))
follow_initial all s h n until None b c = record { follow = tt }
follow_initial all s h n until (Some r) b c = last all s h n (n + 1) (value_size r) until _ (lies_right s (n + 1) r) (omega arith) (omega (arith, b)) c

placed_initial : (all : List Token) (s : ℕ → Site) (h : Standing all s) (n : ℕ) (r : Option Value) → FitsInitial r → n + initial_size r ≤ length all → AreMarks all (option_marks right_marks (initial_at s n r)) → IfSome (initial_at s n r) (PlacedRight all)
placed_initial all s h n None f q w = tt
placed_initial all s h n (Some r) f q w = placed_right all s h (n + 1) r f (omega (arith, q)) w

lies_local : (s : ℕ → Site) (n : ℕ) (x : Declared) → Lies s n (local_size x) (local_at s n x).span
lies_local s n x = lies s n (local_size x) (omega arith)

placed_local : (all : List Token) (s : ℕ → Site) (h : Standing all s) (n : ℕ) (x : Declared) → FitsLine (declares x) → n + local_size x ≤ length all → AreMarks all (local_marks (local_at s n x)) → PlacedLocal all (local_at s n x)
placed_local all s h n x f q w =
    let k = declaring_size x.declaring in
    let e = initial_size x.initial in
    let one = declaration_marks (declaration_at s n x.declaring) in
    let other = option_marks right_marks (initial_at s (n + k) x.initial) in (
      whole all s h n (k + e) _ (omega arith) q
          (part all s h n n k (n + (k + e)) _ _ (lies_declaration s n x.declaring) (omega arith) (omega arith) q
          (follow_initial all s h (n + k) (n + (k + e)) x.initial (omega arith) q)),
      placed_declaration all s h n x.declaring f.0 (omega (arith, q)) (left all one other w),
      placed_initial all s h (n + k) x.initial f.1 (omega (arith, q)) (right all one other w),
    )

follow_first : (all : List Token) (s : ℕ → Site) (h : Standing all s) (from n until : ℕ) (x : Line) → from ≤ n → n + line_size x ≤ until → until ≤ length all → Row all from until (first_spans (first_at s n x))
follow_first all s h from n until nothing a b c = record { follow = tt }
follow_first all s h from n until (does x) a b c = last all s h from n (doing_size x) until _ (lies_simple s n x) a (omega (arith, b)) c
follow_first all s h from n until (declares x) a b c = last all s h from n (local_size x) until _ (lies_local s n x) a (omega (arith, b)) c

placed_first : (all : List Token) (s : ℕ → Site) (h : Standing all s) (n : ℕ) (x : Line) → FitsLine x → n + line_size x ≤ length all → AreMarks all (first_marks (first_at s n x)) → PlacedFirst all (first_at s n x)
placed_first all s h n nothing f q w = tt
placed_first all s h n (does x) f q w = placed_simple all s h n x f (omega (arith, q)) w
placed_first all s h n (declares x) f q w = placed_local all s h n x f (omega (arith, q)) w

follow_step : (all : List Token) (s : ℕ → Site) (h : Standing all s) (n until : ℕ) (x : Option Doing) → n + step_size x ≤ until → until ≤ length all → Row all n until (option_spans span_of_simple (step_at s n x))
follow_step all s h n until None b c = record { follow = tt }
follow_step all s h n until (Some x) b c = last all s h n n (doing_size x) until _ (lies_simple s n x) (omega arith) b c

placed_step : (all : List Token) (s : ℕ → Site) (h : Standing all s) (n : ℕ) (x : Option Doing) → FitsStep x → n + step_size x ≤ length all → AreMarks all (option_marks simple_marks (step_at s n x)) → IfSome (step_at s n x) (PlacedSimple all)
placed_step all s h n None f q w = tt
placed_step all s h n (Some x) f q w = placed_simple all s h n x f q w

-- in front of the `)` of a `for`
follow_head : (all : List Token) (s : ℕ → Site) (h : Standing all s) (n until : ℕ) (x : Loop) → n + line_size x.first + option_size x.test + 3 + step_size x.step ≤ until → until ≤ length all → Row all n until (head_spans (head_at s n x))
follow_head all s h n until x b c =
    let test = n + line_size x.first + 2 in
    let step = n + line_size x.first + option_size x.test + 3 in
    let first = first_spans (first_at s (n + 2) x.first) in
    let middle = option_spans span_of (option_at s test x.test) in
    joined all n (test + option_size x.test) step until (first ++ middle) _ (omega arith) (omega arith) (omega (arith, b))
    (joined all n test test (test + option_size x.test) first middle (omega arith) (omega arith) (omega arith)
    (follow_first all s h n (n + 2) test x.first (omega arith) (omega arith) (omega (arith, b, c)))
    (follow_option all s h test test (test + option_size x.test) x.test (omega arith) (omega arith) (omega (arith, b, c))))
    (follow_step all s h step until x.step (omega (arith, b)) c)

placed_head : (all : List Token) (s : ℕ → Site) (h : Standing all s) (n : ℕ) (x : Loop) → FitsOpening (for_of x) → n + line_size x.first + option_size x.test + 3 + step_size x.step ≤ length all → AreMarks all (head_marks (head_at s n x)) → PlacedHead all (head_at s n x)
placed_head all s h n x f q w =
    let test = n + line_size x.first + 2 in
    let step = n + line_size x.first + option_size x.test + 3 in
    let one = first_marks (first_at s (n + 2) x.first) in
    let two = option_marks marks (option_at s test x.test) in
    let three = option_marks simple_marks (step_at s step x.step) in
    let front = left all (one ++ two) three w in (
      placed_first all s h (n + 2) x.first f.0 (omega (arith, q)) (left all one two front),
      placed_option all s h test x.test f.1 (omega (arith, q)) (right all one two front),
      placed_step all s h step x.step f.2 q (right all (one ++ two) three w),
    )

placed_line : (all : List Token) (s : ℕ → Site) (h : Standing all s) (n : ℕ) (x : Line) → FitsLine x → n + line_size x ≤ length all → AreMarks all (statement_marks (line_at s n x)) → PlacedStatement all (line_at s n x)
placed_line all s h n nothing f q w = whole all s h n 1 [] (omega arith) q (record { follow = tt })
placed_line all s h n (does x) f q w =
    let k = doing_size x + 1 in
    (whole all s h n k _ (omega arith) q (last all s h n n (doing_size x) (n + k) _ (lies_simple s n x) (omega arith) (omega arith) q), placed_simple all s h n x f (omega (arith, q)) w)
placed_line all s h n (declares x) f q w =
    let k = local_size x + 1 in
    (whole all s h n k _ (omega arith) q (last all s h n n (local_size x) (n + k) _ (lies_local s n x) (omega arith) (omega arith) q), placed_local all s h n x f (omega (arith, q)) w)

-- statements

under_span : (s : ℕ → Site) (n : ℕ) (w : Opening) (span : Span) (a : tree.Statement) → span_of_statement (under_at s n w span a) ≡ span
under_span s n (if_of e) span a = refl
under_span s n _ span a = refl

lies_line : (s : ℕ → Site) (n : ℕ) (x : Line) → Lies s n (line_size x) (span_of_statement (line_at s n x))
lies_line s n nothing = lies s n 1 (omega arith)
lies_line s n k = lies s n (line_size k) (omega arith)

opening_some : (w : Opening) → 0 < opening_size w
opening_some (if_of e) = omega arith
opening_some _ = omega arith

lies_statement : (s : ℕ → Site) (n : ℕ) (a : Sentence) → Lies s n (sentence_size a) (span_of_statement (statement_at s n a))
lies_statement s n (line x) = lies_line s n x
lies_statement s n (jump j) = lies s n 2 (omega arith)
lies_statement s n (return e) = lies s n (option_size e + 2) (omega arith)
lies_statement s n (block all) = lies s n (all_size all + 2) (omega arith)
lies_statement s n (under w a) = record { there = under_span s n w _ _; some = omega (arith, opening_some w) }

follow_statements : (all : List Token) (s : ℕ → Site) (h : Standing all s) (from n until : ℕ) (given : Sentences) → from ≤ n → n + all_size given ≤ until → until ≤ length all → Row all from until (statement_spans (statements_at s n given))
follow_statements all s h from n until no_more a b c = record { follow = tt }
follow_statements all s h from n until (sentence x rest) a b c =
    part all s h from n (sentence_size x) until _ _ (lies_statement s n x) a (omega (arith, b)) c
    (follow_statements all s h (n + sentence_size x) (n + sentence_size x) until rest (omega arith) (omega (arith, b)) c)

-- the statement after `(`, an expression and `)`
placed_test : (all : List Token) (s : ℕ → Site) (h : Standing all s) (n k m until : ℕ) (e : Phrase) (span : Span) (rest : List Span) → Lies s k m span → n + size e + 3 ≤ k → k + m ≤ until → until ≤ length all → Row all (k + m) until rest → Row all n until (span_of (expression_at s (n + 2) e) ∷ (span ∷ rest))
placed_test all s h n k m until e span rest l a b c f =
    part all s h n (n + 2) (size e) until _ _ (lies_expression s (n + 2) e) (omega arith) (omega (arith, a, b)) c
    (part all s h (n + 2 + size e) k m until span rest l (omega (arith, a)) b c f)

behind_opening : (all : List Token) (s : ℕ → Site) (n : ℕ) (v : Opening) (span : Span) (a : tree.Statement) → AreMarks all (statement_marks (under_at s n v span a)) → AreMarks all (statement_marks a)
behind_opening all s n (if_of e) span a w = right all (marks (expression_at s (n + 2) e)) (statement_marks a) w
behind_opening all s n (else_of e b) span a w = right all (marks (expression_at s (n + 2) e) ++ statement_marks (statement_at s (n + size e + 3) b)) (statement_marks a) w
behind_opening all s n (while_of e) span a w = right all (marks (expression_at s (n + 2) e)) (statement_marks a) w
behind_opening all s n (for_of x) span a w = right all (head_marks (head_at s n x)) (statement_marks a) w

mutual
  placed_statement : (all : List Token) (s : ℕ → Site) (h : Standing all s) (n : ℕ) (a : Sentence) → FitsAs a → n + sentence_size a ≤ length all → AreMarks all (statement_marks (statement_at s n a)) → PlacedStatement all (statement_at s n a)
  placed_statement all s h n (line x) f q w = placed_line all s h n x f q w
  placed_statement all s h n (jump j) f q w = whole all s h n 2 [] (omega arith) q (record { follow = tt })
  placed_statement all s h n (return e) f q w =
      let k = option_size e + 2 in
      (whole all s h n k _ (omega arith) q (follow_option all s h n (n + 1) (n + k) e (omega arith) (omega arith) q), placed_option all s h (n + 1) e f (omega (arith, q)) w)
  placed_statement all s h n (block given) f q w =
      let k = all_size given + 2 in
      (whole all s h n k _ (omega arith) q (follow_statements all s h n (n + 1) (n + k) given (omega arith) (omega arith) q), placed_statements all s h (n + 1) given f (omega (arith, q)) w)
  placed_statement all s h n (under v a) f q w =
      let inner = statement_at s (n + opening_size v) a in
      placed_under all s h n v (sentence_size a) inner f.1 q (lies_statement s (n + opening_size v) a) w
      (placed_statement all s h (n + opening_size v) a f.2 (omega (arith, q)) (behind_opening all s n v (span_at s n (opening_size v + sentence_size a)) inner w))

  placed_statements : (all : List Token) (s : ℕ → Site) (h : Standing all s) (n : ℕ) (given : Sentences) → FitAllAs given → n + all_size given ≤ length all → AreMarks all (statements_marks (statements_at s n given)) → PlacedStatements all (statements_at s n given)
  placed_statements all s h n no_more f q w = tt
  placed_statements all s h n (sentence a rest) f q w =
      let one = statement_marks (statement_at s n a) in
      let others = statements_marks (statements_at s (n + sentence_size a) rest) in
      (placed_statement all s h n a f.0 (omega (arith, q)) (left all one others w), placed_statements all s h (n + sentence_size a) rest f.1 (omega (arith, q)) (right all one others w))

  placed_under : (all : List Token) (s : ℕ → Site) (h : Standing all s) (n : ℕ) (v : Opening) (m : ℕ) (a : tree.Statement) → FitsOpening v → n + (opening_size v + m) ≤ length all → Lies s (n + opening_size v) m (span_of_statement a) → AreMarks all (statement_marks (under_at s n v (span_at s n (opening_size v + m)) a)) → PlacedStatement all a → PlacedStatement all (under_at s n v (span_at s n (opening_size v + m)) a)
  placed_under all s h n (if_of e) m a f q l w p =
      let k = size e + 3 + m in
      (whole all s h n k _ (omega arith) q (placed_test all s h n (n + (size e + 3)) m (n + k) e _ [] l (omega arith) (omega arith) q (record { follow = tt })), placed_expression all s h (n + 2) e f (omega (arith, q)) (left all (marks (expression_at s (n + 2) e)) (statement_marks a) w), p)
  placed_under all s h n (else_of e b) m a f q l w p =
      let k = size e + sentence_size b + 4 + m in
      let at = n + size e + 3 in
      let one = marks (expression_at s (n + 2) e) in
      let two = statement_marks (statement_at s at b) in
      let front = left all (one ++ two) (statement_marks a) w in (
        whole all s h n k _ (omega arith) q
            (placed_test all s h n at (sentence_size b) (n + k) e _ _ (lies_statement s at b) (omega arith) (omega arith) q
            (last all s h (at + sentence_size b) (n + (size e + sentence_size b + 4)) m (n + k) _ l (omega arith) (omega arith) q)),
        placed_expression all s h (n + 2) e f.2 (omega (arith, q)) (left all one two front),
        placed_statement all s h at b f.3 (omega (arith, q)) (right all one two front),
        p,
      )
  placed_under all s h n (while_of e) m a f q l w p =
      let k = size e + 3 + m in
      (whole all s h n k _ (omega arith) q (placed_test all s h n (n + (size e + 3)) m (n + k) e _ [] l (omega arith) (omega arith) q (record { follow = tt })), placed_expression all s h (n + 2) e f (omega (arith, q)) (left all (marks (expression_at s (n + 2) e)) (statement_marks a) w), p)
  placed_under all s h n (for_of x) m a f q l w p =
      let opening = opening_size (for_of x) in
      let closing = n + line_size x.first + option_size x.test + 3 + step_size x.step in (
        whole all s h n (opening + m) _ (omega arith) q
            (joined all n closing (n + opening) (n + (opening + m)) (head_spans (head_at s n x)) _ (omega arith) (omega arith) (omega arith)
            (follow_head all s h n closing x (omega arith) (omega (arith, q)))
            (last all s h (n + opening) (n + opening) m (n + (opening + m)) _ l (omega arith) (omega arith) q)),
        placed_head all s h n x f (omega (arith, q)) (left all (head_marks (head_at s n x)) (statement_marks a) w),
        p,
      )

-- programs

follow_form : (all : List Token) (s : ℕ → Site) (h : Standing all s) (n until : ℕ) (x : Form) → n + form_size x ≤ until → until ≤ length all → Row all n until (form_spans (form_at s n x))
follow_form all s h n until single b c = record { follow = tt }
follow_form all s h n until (array k) b c = last all s h n (n + 1) 1 until _ (lies_point s (n + 1)) (omega arith) (omega (arith, b)) c
follow_form all s h n until (initially true k) b c = last all s h n (n + 1) 2 until _ (lies s (n + 1) 2 (omega arith)) (omega arith) (omega (arith, b)) c
follow_form all s h n until (initially false k) b c = last all s h n (n + 1) 1 until _ (lies s (n + 1) 1 (omega arith)) (omega arith) (omega (arith, b)) c

pub fields_fit : (all : List Declaring) → FitsFields all → FitAllDeclaring all
fields_fit [] f = absurd f
fields_fit (d ∷ rest) f = f

few_parameters : (all : List Declaring) → fields_size all ≤ parameters_size all + 1
few_parameters (d ∷ (e ∷ rest)) = omega (arith, few_parameters (e ∷ rest))
few_parameters _ = omega arith

placed_function : (all : List Token) (s : ℕ → Site) (h : Standing all s) (n : ℕ) (f : Callable) → FitsPart (function f) → n + part_size (function f) ≤ length all → AreMarks all (item_marks (item_at s n (function f))) → PlacedItem all (item_at s n (function f))
placed_function all s h n f g q w =
    let t = type_size f.result in
    let few = few_parameters f.parameters in
    let opens = n + t + parameters_size f.parameters + 3 in
    let size = all_size f.body + 2 in
    let k = part_size (function f) in
    let result = type_marks (type_at s n f.result) in
    let name = name_marks (name_at s (n + t) f.named) in
    let given = declarations_marks (declarations_at s (n + t + 2) f.parameters) in
    let body = statements_marks (statements_at s (opens + 1) f.body) in
    let head = left all (result ++ name ++ given) body w in
    let front = left all (result ++ name) given head in (
      whole all s h n k _ (omega arith) q
          (part all s h n n t (n + k) _ _ (lies_type s n f.result g.0) (omega arith) (omega arith) q
          (part all s h (n + t) (n + t) 1 (n + k) _ _ (lies_point s (n + t)) (omega arith) (omega arith) q
          (joined all (n + t + 1) opens opens (n + k) (declaration_spans (declarations_at s (n + t + 2) f.parameters)) _ (omega arith) (omega arith) (omega arith)
          (follow_declarations all s h (n + t + 1) (n + t + 2) opens f.parameters (omega arith) (omega (arith, few)) (omega (arith, q)))
          (last all s h opens opens size (n + k) _ (lies s opens size (omega arith)) (omega arith) (omega arith) q)))),
      placed_type all s h n f.result g.0 (omega (arith, q)) (left all result name front),
      (right all result name front).0,
      placed_declarations all s h (n + t + 2) f.parameters g.1 (omega (arith, q, few)) (right all (result ++ name) given head),
      whole all s h opens size _ (omega arith) (omega (arith, q)) (follow_statements all s h opens (opens + 1) (opens + size) f.body (omega arith) (omega arith) (omega (arith, q))),
      placed_statements all s h (opens + 1) f.body g.2 (omega (arith, q)) (right all (result ++ name ++ given) body w),
    )

placed_item : (all : List Token) (s : ℕ → Site) (h : Standing all s) (n : ℕ) (x : Part) → FitsPart x → n + part_size x ≤ length all → AreMarks all (item_marks (item_at s n x)) → PlacedItem all (item_at s n x)
placed_item all s h n (structure x given) f q w =
    let k = fields_size given + 5 in (
      whole all s h n k _ (omega arith) q
          (part all s h n (n + 1) 1 (n + k) _ _ (lies_point s (n + 1)) (omega arith) (omega arith) q
          (follow_declarations all s h (n + 1 + 1) (n + 3) (n + k) given (omega arith) (omega arith) q)),
      w.0,
      placed_declarations all s h (n + 3) given (fields_fit given f) (omega (arith, q)) w.1,
    )
placed_item all s h n (global d x) f q w =
    let k = declaring_size d in
    let size = k + form_size x + 1 in (
      whole all s h n size _ (omega arith) q
          (part all s h n n k (n + size) _ _ (lies_declaration s n d) (omega arith) (omega arith) q
          (follow_form all s h (n + k) (n + size) x (omega arith) q)),
      placed_declaration all s h n d f.0 (omega (arith, q)) w,
    )
placed_item all s h n (function f) g q w = placed_function all s h n f g q w

lies_item : (s : ℕ → Site) (n : ℕ) (x : Part) → Lies s n (part_size x) (span_of_item (item_at s n x))
lies_item s n (global d x) = lies s n (part_size (global d x)) (omega arith)
lies_item s n k = lies s n (part_size k) (omega arith)

follow_items : (all : List Token) (s : ℕ → Site) (h : Standing all s) (n until : ℕ) (given : List Part) → n + parts_size given ≤ until → until ≤ length all → Row all n until (item_spans (items_at s n given))
follow_items all s h n until [] b c = record { follow = tt }
follow_items all s h n until (x ∷ rest) b c =
    part all s h n n (part_size x) until _ _ (lies_item s n x) (omega arith) (omega (arith, b)) c
    (follow_items all s h (n + part_size x) until rest (omega (arith, b)) c)

placed_items : (all : List Token) (s : ℕ → Site) (h : Standing all s) (n : ℕ) (given : List Part) → IsProgram given → n + parts_size given ≤ length all → AreMarks all (items_marks (items_at s n given)) → PlacedItems all (items_at s n given)
placed_items all s h n [] f q w = tt
placed_items all s h n (x ∷ rest) f q w =
    let one = item_marks (item_at s n x) in
    let others = items_marks (items_at s (n + part_size x) rest) in
    (placed_item all s h n x f.0 (omega (arith, q)) (left all one others w), placed_items all s h (n + part_size x) rest f.1 (omega (arith, q)) (right all one others w))

pub placed : (tokens : Tokens) (p : tree.Program) → Reads tokens p → IsPlaced p
placed tokens p r =
    let all = tokens.list in
    let h = standing all in
    let told = parts_marked (site_in all) h.numbered 0 0 r.phrases refl in
    let size : parts_size r.phrases ≡ length all = sym told.1 ∙ ap length r.spelled ∙ length-map all word_of in
    let same : items_marks (items_at (site_in all) 0 r.phrases) ≡ marks_from 0 all = told.0 ∙ ap (λ z. marked 0 z) r.spelled ∙ sym (of_tokens 0 all) in
    let there : AreMarks all (items_marks (items_at (site_in all) 0 r.phrases)) = subst (AreMarks all) (sym same) (words_are_there all) in
    let follow : Follow all 0 (length all) (item_spans p.items) = subst (λ z. Follow all 0 (length all) (item_spans z)) (sym r.placed) (follow_items all (site_in all) h 0 (length all) r.phrases (omega (arith, size)) (omega arith)).follow in
    let items : PlacedItems all p.items = subst (PlacedItems all) (sym r.placed) (placed_items all (site_in all) h 0 r.phrases r.is_program (omega (arith, size)) there) in
    let back = sym r.keeps_tokens in
    record {
      follow = subst (λ (t : Tokens). Follow t.list 0 (length t.list) (item_spans p.items)) back follow;
      items = subst (λ (t : Tokens). PlacedItems t.list p.items) back items;
      marked = subst (λ (t : Tokens). items_marks p.items ≡ marks_from 0 t.list) back (ap items_marks r.placed ∙ same);
      files = r.keeps_files ∙ ap (λ (t : Tokens). t.files) back;
    }
