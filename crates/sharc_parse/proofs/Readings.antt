-- There is one reading, and its measures are those of its tree.
use Rattle.sharc_parse.proofs.{Imports.{◌≡◌, ℕ, ◌+◌, ◌-◌, ◌≤◌, List, [], ◌++◌, length, take, drop, refl, sym, ap, ◌∙◌, arith, subst, length-append, max, inl, inr, take-append_seam, drop-append_seam, Site, Span, Tokens, Word, Front, of_cast, Phrase, enclosed, call, index, field, unary, binary, Phrases, none, more, Line, does, Sentence, line, block, under, Sentences, no_more, sentence, Opening, else_of, Callable, Part, program_words, IsProgram, height, highest, line_nesting, nesting, deepest, nesting_before, BeginsWithin, StuckAt, Over, reads_within, Read, reads, first_state, Reads, site_in, items_at, size, sentence_size, expression_at, arguments_at, front_at, statement_at, statements_at, under_at, line_at, function_at, IsFault, wrong_code, Deep}, Whole.only, WithinLaws.{first_wrong, first_excess}}
use Rattle.sharc_tree.specs.Tree as tree
use Rattle.sharc_tree.specs.Measures as measures

same_program : (p q : List Part) → IsProgram p → IsProgram q → program_words p [] ≡ program_words q [] → p ≡ q
same_program p q a b e = let h : Read p ≡ Read q = sym (only p a) ∙ ap (λ z. reads z first_state) e ∙ only q b in cc

abbrev made : List (List ℕ) → List tree.Item → Tokens → tree.Program
made f i t = record { files = f; items = i; tokens = t }

pub one_reading : (tokens : Tokens) (p q : tree.Program) → Reads tokens p → Reads tokens q → p ≡ q
one_reading tokens p q a b =
    let e = same_program a.phrases b.phrases a.is_program b.is_program (a.spelled ∙ sym b.spelled) in
    let i : p.items ≡ q.items = a.placed ∙ ap (items_at (site_in tokens.list) 0) e ∙ sym b.placed in
    let f : p.files ≡ q.files = a.keeps_files ∙ sym b.keeps_files in
    let t : p.tokens ≡ q.tokens = a.keeps_tokens ∙ sym b.keeps_tokens in
    ap (λ (z : List (List ℕ)). made z p.items p.tokens) f ∙ ap (λ (z : List tree.Item). made q.files z p.tokens) i ∙ ap (λ (z : Tokens). made q.files q.items z) t

-- heights and nesting of a tree are those of its phrase

both_same : (a b c d : ℕ) → a ≡ b → c ≡ d → max a c ≡ max b d
both_same a b c d e f = omega (arith, e, f)

front_height : (s : ℕ → Site) (n : ℕ) (span : Span) (f : Front) (a : tree.Expression) → measures.height (front_at s n span f a) ≡ measures.height a + 1
front_height s n span (of_cast t) a = refl
front_height s n span _ a = refl

mutual
  pub same_height : (s : ℕ → Site) (n : ℕ) (x : Phrase) → measures.height (expression_at s n x) ≡ height x
  same_height s n (enclosed f a) = front_height s n _ f _ ∙ ap (λ z. z + 1) (same_height s _ a)
  same_height s n (call f all) = ap (λ z. z + 1) (same_highest s _ all)
  same_height s n (index a i) = ap (λ z. z + 1) (both_same _ _ _ _ (same_height s n a) (same_height s (n + size a + 1) i))
  same_height s n (field a w x) = ap (λ z. z + 1) (same_height s _ a)
  same_height s n (unary o a) = ap (λ z. z + 1) (same_height s _ a)
  same_height s n (binary o a b) = ap (λ z. z + 1) (both_same _ _ _ _ (same_height s n a) (same_height s (n + size a + 1) b))
  same_height s n _ = refl

  same_highest : (s : ℕ → Site) (n : ℕ) (all : Phrases) → measures.highest (arguments_at s n all) ≡ highest all
  same_highest s n none = refl
  same_highest s n (more a rest) = both_same _ _ _ _ (same_height s n a) (same_highest s (n + size a + 1) rest)

line_same : (s : ℕ → Site) (n : ℕ) (l : Line) → measures.nesting (line_at s n l) ≡ line_nesting l
line_same s n (does x) = refl
line_same s n _ = refl

mutual
  pub same_nesting : (s : ℕ → Site) (n : ℕ) (a : Sentence) → measures.nesting (statement_at s n a) ≡ nesting a
  same_nesting s n (line l) = line_same s n l
  same_nesting s n (block all) = ap (λ z. z + 1) (same_deepest s _ all)
  same_nesting s n (under w a) = under_same s n w _ _ (nesting a) (same_nesting s _ a)
  same_nesting s n _ = refl

  pub same_deepest : (s : ℕ → Site) (n : ℕ) (all : Sentences) → measures.deepest (statements_at s n all) ≡ deepest all
  same_deepest s n no_more = refl
  same_deepest s n (sentence a rest) = both_same _ _ _ _ (same_nesting s n a) (same_deepest s (n + sentence_size a) rest)

  under_same : (s : ℕ → Site) (n : ℕ) (w : Opening) (span : Span) (a : tree.Statement) (m : ℕ) → measures.nesting a ≡ m → measures.nesting (under_at s n w span a) ≡ max (nesting_before w) m + 1
  under_same s n (else_of e b) span a m h = omega (arith, h, same_nesting s (n + size e + 3) b)
  under_same s n _ span a m h = omega (arith, h)

pub same_function : (s : ℕ → Site) (n : ℕ) (f : Callable) → measures.nesting_of (function_at s n f) ≡ deepest f.body + 1
same_function s n f = ap (λ z. z + 1) (same_deepest s _ f.body)

-- where the machine stops is the fault

in_front : (all front rest : List Word) (n : ℕ) → n ≡ length all - length rest → all ≡ front ++ rest → (n ≡ length front) × (take n all ≡ front) × (drop n all ≡ rest) × (n ≤ length all)
in_front all front rest n is whole =
    let l : length all ≡ length front + length rest = ap length whole ∙ length-append front rest in
    let m : n ≡ length front = omega (arith, is, l) in (
      m,
      ap (λ i. take i all) m ∙ ap (take (length front)) whole ∙ take-append_seam front rest,
      ap (λ i. drop i all) m ∙ ap (drop (length front)) whole ∙ drop-append_seam front rest,
      omega (arith, m, l),
    )

pub wrong_at : (all rest : List Word) (n : ℕ) → n ≡ length all - length rest → reads_within all first_state ≡ StuckAt rest → IsFault all (wrong_code rest) n
wrong_at all rest n is e =
    let f = first_wrong all rest e in
    let p = in_front all f.before rest n is f.whole in
    record { there = p.3; begins = subst BeginsWithin (sym p.1) f.begins; ends = inl (ap wrong_code (sym p.2), rw (p.1, p.2) f.ends) }

pub excess_at : (all rest : List Word) (n : ℕ) → n ≡ length all - length rest → reads_within all first_state ≡ Over rest → IsFault all Deep n
excess_at all rest n is e =
    let f = first_excess all rest e in
    let p = in_front all f.before rest n is f.whole in
    record { there = p.3; begins = subst BeginsWithin (sym p.1) f.begins; ends = inr (refl, rw (p.1, p.2) f.exceeds) }
