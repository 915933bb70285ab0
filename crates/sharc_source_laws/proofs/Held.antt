-- Where the types of numbers and characters among the words of a program hold their values, so do those of the constants in its functions.
use Rattle.sharc_source_laws.proofs.{Imports.{◌≡◌, ℕ, zero, suc, ◌+◌, List, [], ◌∷◌, Option, Some, None, subst, slice_get, Site, Span, Constant, Function, functions_in, Word, name, keyword, mark, Front, of_cast, Phrase, identifier, constant, enclosed, call, index, field, unary, binary, Phrases, none, more, operator_mark, access_mark, constant_word, words, words_of_all, words_of_rest, Value, value, malloc, Doing, assign, invoke, Declared, Line, nothing, does, declares, Loop, Sentence, line, jump, return, block, under, Sentences, no_more, sentence, Opening, if_of, else_of, while_of, for_of, option_words, count_words, value_words, doing_words, initial_words, line_words, step_words, loop_words, written, written_all, opening_words, Part, structure, global, function, Callable, parameters_words, part_words, program_words, type_words, size, front_size, declaring_size, line_size, option_size, opening_size, sentence_size, part_size, front_at, expression_at, arguments_at, option_at, value_at, doing_at, initial_at, local_at, first_at, step_at, head_at, line_at, statement_at, statements_at, function_at, items_at, IsHeld, HeldIn, HeldInAll, HeldInOption, HeldInRight, HeldInSimple, HeldInInitial, HeldInFirst, HeldInStep, HeldInHead, HeldInStatement, HeldInStatements}, Ends.{IsPlainWord, Plainly, past, front_ends, words_end, option_ends, line_ends, loop_ends, written_ends, declaring_ends, type_ends, parameters_end, part_ends}}
use Rattle.sharc_tree.specs.Tree as tree

constant_held : (c : Constant) → IsPlainWord (constant_word c) → IsHeld c
constant_held (Constant.Number k) h = h.1
constant_held (Constant.Character byte) h = h
constant_held Constant.Null h = λ integer. absurd (cc)

module _ (s : ℕ → Site) where
  front_held : (f : Front) (n : ℕ) (span : Span) (a : tree.Expression) → HeldIn a → HeldIn (front_at s n span f a)
  front_held (of_cast t) n span a h = h
  front_held _ n span a h = h

  mutual
    held : (a : Phrase) (n : ℕ) (y : List Word) → Plainly (words a y) → HeldIn (expression_at s n a)
    held (identifier x) n y h = tt
    held (constant c) n y h = constant_held c h.0
    held (enclosed f a) n y h = front_held f n _ (expression_at s (n + front_size f) a) (held a (n + front_size f) (mark _ ∷ y) (past (front_ends f (words a (mark _ ∷ y))) h))
    held (call f all) n y h = held_all all (n + 2) (mark _ ∷ y) h.1.1
    held (index a i) n y h = (held a n (mark _ ∷ words i (mark _ ∷ y)) h, held i (n + size a + 1) (mark _ ∷ y) (past (words_end a (mark _ ∷ words i (mark _ ∷ y))) h).1)
    held (field a w x) n y h = held a n (mark (access_mark w) ∷ (name x ∷ y)) h
    held (unary o a) n y h = held a (n + 1) y h.1
    held (binary o a b) n y h = (held a n (mark (operator_mark o) ∷ words b y) h, held b (n + size a + 1) y (past (words_end a (mark (operator_mark o) ∷ words b y)) h).1)

    held_all : (all : Phrases) (n : ℕ) (y : List Word) → Plainly (words_of_all all y) → HeldInAll (arguments_at s n all)
    held_all none n y h = tt
    held_all (more a rest) n y h = (held a n (words_of_rest rest y) h, held_rest rest (n + size a + 1) y (past (words_end a (words_of_rest rest y)) h))

    held_rest : (rest : Phrases) (n : ℕ) (y : List Word) → Plainly (words_of_rest rest y) → HeldInAll (arguments_at s n rest)
    held_rest none n y h = tt
    held_rest (more a rest) n y h = (held a n (words_of_rest rest y) h.1, held_rest rest (n + size a + 1) y (past (words_end a (words_of_rest rest y)) h.1))

  held_option : (e : Option Phrase) (n : ℕ) (y : List Word) → Plainly (option_words e y) → HeldInOption (option_at s n e)
  held_option None n y h = tt
  held_option (Some e) n y h = held e n y h

  held_count : (e : Option Phrase) (n : ℕ) (y : List Word) → Plainly (count_words e y) → HeldInOption (option_at s n e)
  held_count None n y h = tt
  held_count (Some e) n y h = held e n (mark _ ∷ y) h

  held_value : (v : Value) (n : ℕ) (y : List Word) → Plainly (value_words v y) → HeldInRight (value_at s n v)
  held_value (value e) n y h = held e n y h
  held_value (malloc c t) n y h = held_count c (n + 2) (keyword _ ∷ (mark _ ∷ type_words t (mark _ ∷ (mark _ ∷ y)))) h.1.1

  held_doing : (d : Doing) (n : ℕ) (y : List Word) → Plainly (doing_words d y) → HeldInSimple (doing_at s n d)
  held_doing (assign u r) n y h = (held u n (mark _ ∷ value_words r y) h, held_value r (n + size u + 1) y (past (words_end u (mark _ ∷ value_words r y)) h).1)
  held_doing (invoke e) n y h = held e n y h

  held_initial : (v : Option Value) (n : ℕ) (y : List Word) → Plainly (initial_words v y) → HeldInInitial (initial_at s n v)
  held_initial None n y h = tt
  held_initial (Some r) n y h = held_value r (n + 1) y h.1

  held_local : (l : Declared) (n : ℕ) (y : List Word) → Plainly (line_words (declares l) y) → HeldInInitial (local_at s n l).initial
  held_local l n y h = held_initial l.initial (n + declaring_size l.declaring) (mark _ ∷ y) (past (declaring_ends l.declaring (initial_words l.initial (mark _ ∷ y))) h)

  held_first : (l : Line) (n : ℕ) (y : List Word) → Plainly (line_words l y) → HeldInFirst (first_at s n l)
  held_first nothing n y h = tt
  held_first (does x) n y h = held_doing x n (mark _ ∷ y) h
  held_first (declares l) n y h = held_local l n y h

  held_line : (l : Line) (n : ℕ) (y : List Word) → Plainly (line_words l y) → HeldInStatement (line_at s n l)
  held_line nothing n y h = tt
  held_line (does x) n y h = held_doing x n (mark _ ∷ y) h
  held_line (declares l) n y h = held_local l n y h

  held_step : (d : Option Doing) (n : ℕ) (y : List Word) → Plainly (step_words d y) → HeldInStep (step_at s n d)
  held_step None n y h = tt
  held_step (Some x) n y h = held_doing x n y h

  held_head : (l : Loop) (n : ℕ) (y : List Word) → Plainly (loop_words l y) → HeldInHead (head_at s n l)
  held_head l n y h =
      let test = past (line_ends l.first (option_words l.test (mark _ ∷ step_words l.step (mark _ ∷ y)))) h.1.1 in
      let step = (past (option_ends l.test (mark _ ∷ step_words l.step (mark _ ∷ y))) test).1 in (
        held_first l.first (n + 2) (option_words l.test (mark _ ∷ step_words l.step (mark _ ∷ y))) h.1.1,
        held_option l.test (n + line_size l.first + 2) (mark _ ∷ step_words l.step (mark _ ∷ y)) test,
        held_step l.step (n + line_size l.first + option_size l.test + 3) (mark _ ∷ y) step,
      )

  mutual
    held_sentence : (x : Sentence) (n : ℕ) (y : List Word) → Plainly (written x y) → HeldInStatement (statement_at s n x)
    held_sentence (line l) n y h = held_line l n y h
    held_sentence (jump j) n y h = tt
    held_sentence (return e) n y h = held_option e (n + 1) (mark _ ∷ y) h.1
    held_sentence (block all) n y h = held_sentences all (n + 1) (mark _ ∷ y) h.1
    held_sentence (under w a) n y h = held_under w a n y h (λ k g. held_sentence a k y g)

    held_sentences : (all : Sentences) (n : ℕ) (y : List Word) → Plainly (written_all all y) → HeldInStatements (statements_at s n all)
    held_sentences no_more n y h = tt
    held_sentences (sentence a rest) n y h = (held_sentence a n (written_all rest y) h, held_sentences rest (n + sentence_size a) y (past (written_ends a (written_all rest y)) h))

    held_under : (w : Opening) (a : Sentence) (n : ℕ) (y : List Word) → Plainly (opening_words w (written a y)) → ((k : ℕ) → Plainly (written a y) → HeldInStatement (statement_at s k a)) → HeldInStatement (statement_at s n (under w a))
    held_under (if_of e) a n y h rest = (held e (n + 2) (mark _ ∷ written a y) h.1.1, rest (n + opening_size (if_of e)) (past (words_end e (mark _ ∷ written a y)) h.1.1).1)
    held_under (else_of e b) a n y h rest =
        let first = (past (words_end e (mark _ ∷ written b (keyword _ ∷ written a y))) h.1.1).1 in (
          held e (n + 2) (mark _ ∷ written b (keyword _ ∷ written a y)) h.1.1,
          held_sentence b (n + size e + 3) (keyword _ ∷ written a y) first,
          rest (n + opening_size (else_of e b)) (past (written_ends b (keyword _ ∷ written a y)) first).1,
        )
    held_under (while_of e) a n y h rest = (held e (n + 2) (mark _ ∷ written a y) h.1.1, rest (n + opening_size (while_of e)) (past (words_end e (mark _ ∷ written a y)) h.1.1).1)
    held_under (for_of l) a n y h rest = (held_head l n (written a y) h, rest (n + opening_size (for_of l)) (past (loop_ends l (written a y)) h))

  held_function : (f : Callable) (n : ℕ) (y : List Word) → Plainly (part_words (function f) y) → HeldInStatements (function_at s n f).statements
  held_function f n y h =
      let parameters = (past (type_ends f.result (name f.named ∷ (mark _ ∷ parameters_words f.parameters (mark _ ∷ (mark _ ∷ written_all f.body (mark _ ∷ y)))))) h).1.1 in
      let body = (past (parameters_end f.parameters (mark _ ∷ (mark _ ∷ written_all f.body (mark _ ∷ y)))) parameters).1.1 in
      held_sentences f.body _ (mark _ ∷ y) body

  abbrev AllHeld : List Function → Type 0
  AllHeld fs = (n : ℕ) (f : Function) → slice_get fs n ≡ Some f → HeldInStatements f.statements

  one_more : (g : Function) (fs : List Function) → HeldInStatements g.statements → AllHeld fs → AllHeld (g ∷ fs)
  one_more g fs h all zero f e = subst (λ (f : Function). HeldInStatements f.statements) (let same : g ≡ f = cc in same) h
  one_more g fs h all (suc n) f e = all n f e

  pub functions_held : (ps : List Part) (n : ℕ) → Plainly (program_words ps []) → (k : ℕ) (f : Function) → slice_get (functions_in (items_at s n ps)) k ≡ Some f → HeldInStatements f.statements
  functions_held [] n h = λ k f e. absurd (let none : None ≡ Some f = e in cc)
  functions_held (structure x fields ∷ rest) n h = functions_held rest (n + part_size (structure x fields)) (past (part_ends (structure x fields) (program_words rest [])) h)
  functions_held (global d form ∷ rest) n h = functions_held rest (n + part_size (global d form)) (past (part_ends (global d form) (program_words rest [])) h)
  functions_held (function f ∷ rest) n h = one_more (function_at s n f) (functions_in (items_at s (n + part_size (function f)) rest)) (held_function f n (program_words rest []) h)
      (functions_held rest (n + part_size (function f)) (past (part_ends (function f) (program_words rest [])) h))
