-- Which tokens begin a path with a known call: the word `locked` comes two before one, and no name does.
use Rattle.sharc_suggest_laws.proofs.Imports.{◌≡◌, ◌⊎◌, inl, inr, ⊎_elim, ℕ, zero, suc, ◌+◌, ◌-◌, ◌≤◌, ◌&&◌, Bool, true, false, List, [], ◌∷◌, ◌++◌, Contains, Option, Some, None, slice_get, refl, ap, sym, subst, ◌∙◌, arith, false≢true, and_parts, Keyword, Scast, Token, TokenKind, Mark, keyword_marks, kind_marks, marks_from, items_marks, name_tokens, Resolution, text_of, text_at, is_call_name, is_identifier, is_locked, begins_call, is_call_at, none, later}

-- ---- the name of the call

abbrev is_word : Option Token → Bool
is_word None = false
is_word (Some t) = is_identifier t.kind

call_word : (before name : Option Token) → begins_call before name ≡ true → is_word name ≡ true
call_word None name is = absurd (false≢true is)
call_word (Some b) None is = absurd (false≢true is)
call_word (Some b) (Some t) is = (and_parts (is_identifier t.kind) (is_call_name t.text) (and_parts (is_locked b.kind) _ is).1).0

call_name : (before name : Option Token) → begins_call before name ≡ true → is_call_name (text_of name) ≡ true
call_name None name is = absurd (false≢true is)
call_name (Some b) None is = absurd (false≢true is)
call_name (Some b) (Some t) is = (and_parts (is_identifier t.kind) (is_call_name t.text) (and_parts (is_locked b.kind) _ is).1).1

pub call_text : (r : Resolution) (t : ℕ) → is_call_at r t ≡ true → is_call_name (text_at r t) ≡ true
unfolding is_call_at
call_text r t is = call_name (slice_get r.program.tokens.list (t - 2)) (slice_get r.program.tokens.list t) is

-- ---- two tokens after a name no path begins

kind_apart : (k : TokenKind) → is_identifier k ≡ true → is_locked k ≡ false
kind_apart TokenKind.Identifier is = refl
kind_apart _ is = absurd (false≢true is)

word_apart : (before name : Option Token) → is_word before ≡ true → begins_call before name ≡ false
word_apart None name is = absurd (false≢true is)
word_apart (Some b) None is = refl
word_apart (Some b) (Some t) is = ap (λ (x : Bool). x && (is_identifier t.kind && is_call_name t.text)) (kind_apart b.kind is)

after_word : (r : Resolution) (t : ℕ) → is_word (slice_get r.program.tokens.list t) ≡ true → is_call_at r (t + 2) ≡ false
unfolding is_call_at
after_word r t is =
    let back : (t + 2) - 2 ≡ t = omega arith in
    word_apart (slice_get r.program.tokens.list ((t + 2) - 2)) (slice_get r.program.tokens.list (t + 2)) (ap (λ (k : ℕ). is_word (slice_get r.program.tokens.list k)) back ∙ is)

pub calls_apart : (r : Resolution) (t : ℕ) → is_call_at r t ≡ true → is_call_at r (t + 2) ≡ false
unfolding is_call_at
calls_apart r t is = after_word r t (call_word (slice_get r.program.tokens.list (t - 2)) (slice_get r.program.tokens.list t) is)

-- ---- the tokens of identifiers are those of the names

split : (n t : ℕ) (list : List ℕ) → Contains (n ∷ list) t → (n ≡ t) ⊎ Contains list t
split n t list (zero, low, is) = inl is
split n t list (suc k, low, is) = inr (k, omega (arith, low), is)

first_named : (n : ℕ) (k : TokenKind) (text : List ℕ) (more : List Mark) → is_identifier k ≡ true → Contains (name_tokens (kind_marks k text n ++ more)) n
first_named n TokenKind.Identifier text more is = (0, omega arith, refl)
first_named n _ text more is = absurd (false≢true is)

-- a keyword is no name
word_same : (n : ℕ) (w : Keyword) (more : List Mark) → name_tokens (keyword_marks w n ++ more) ≡ name_tokens more
word_same n Scast more = refl
word_same n _ more = refl

skip_kind : (n t : ℕ) (k : TokenKind) (text : List ℕ) (more : List Mark) → Contains (name_tokens more) t → Contains (name_tokens (kind_marks k text n ++ more)) t
skip_kind n t TokenKind.Identifier text more c = later n t (name_tokens more) c
skip_kind n t (TokenKind.Keyword w) text more c = subst (λ (l : List ℕ). Contains l t) (sym (word_same n w more)) c
skip_kind n t _ text more c = c

-- it is this one, an identifier, or a later one
either_kind : (n t : ℕ) (k : TokenKind) (text : List ℕ) (more : List Mark) → Contains (name_tokens (kind_marks k text n ++ more)) t → ((n ≡ t) × (is_identifier k ≡ true)) ⊎ Contains (name_tokens more) t
either_kind n t TokenKind.Identifier text more c = ⊎_elim (λ same. inl (same, refl)) (λ there. inr there) (split n t (name_tokens more) c)
either_kind n t (TokenKind.Keyword w) text more c = inr (subst (λ (l : List ℕ). Contains l t) (word_same n w more) c)
either_kind n t _ text more c = inr c

from_below : (n t : ℕ) (l : List Token) → Contains (name_tokens (marks_from n l)) t → n ≤ t
from_below n t [] c = absurd (none t c)
from_below n t (x ∷ rest) c = ⊎_elim (λ w. this w.0) (λ there. more (from_below (n + 1) t rest there)) (either_kind n t x.kind x.text (marks_from (n + 1) rest) c)
  where
    this : n ≡ t → n ≤ t
    this same = omega (arith, same)

    more : n + 1 ≤ t → n ≤ t
    more h = omega (arith, h)

word_named : (n k t : ℕ) (l : List Token) → n + k ≡ t → is_word (slice_get l k) ≡ true → Contains (name_tokens (marks_from n l)) t
word_named n k t [] at is = absurd (false≢true is)
word_named n zero t (x ∷ rest) at is =
    let same : n ≡ t = omega (arith, at) in
    subst (λ (j : ℕ). Contains (name_tokens (kind_marks x.kind x.text n ++ marks_from (n + 1) rest)) j) same (first_named n x.kind x.text (marks_from (n + 1) rest) is)
word_named n (suc k) t (x ∷ rest) at is =
    let next : (n + 1) + k ≡ t = omega (arith, at) in
    skip_kind n t x.kind x.text (marks_from (n + 1) rest) (word_named (n + 1) k t rest next is)

named_word : (n k t : ℕ) (l : List Token) → n + k ≡ t → Contains (name_tokens (marks_from n l)) t → is_word (slice_get l k) ≡ true
named_word n k t [] at c = absurd (none t c)
named_word n zero t (x ∷ rest) at c = ⊎_elim (λ w. w.1) (λ there. absurd (not_behind (from_below (n + 1) t rest there))) (either_kind n t x.kind x.text (marks_from (n + 1) rest) c)
  where
    not_behind : n + 1 ≤ t → ⊥
    not_behind h = omega (arith, h, at)
named_word n (suc k) t (x ∷ rest) at c =
    let next : (n + 1) + k ≡ t = omega (arith, at) in
    by (named_word (n + 1) k t rest next) (either_kind n t x.kind x.text (marks_from (n + 1) rest) c)
  where
    by : (Contains (name_tokens (marks_from (n + 1) rest)) t → is_word (slice_get rest k) ≡ true) → ((n ≡ t) × (is_identifier x.kind ≡ true)) ⊎ Contains (name_tokens (marks_from (n + 1) rest)) t → is_word (slice_get rest k) ≡ true
    by more (inl w) = let same : n ≡ t = w.0 in absurd (omega (arith, same, at))
    by more (inr there) = more there

pub name_there : (r : Resolution) (t : ℕ) → items_marks r.program.items ≡ marks_from 0 r.program.tokens.list → is_call_at r t ≡ true → Contains (name_tokens (items_marks r.program.items)) t
unfolding is_call_at
name_there r t marked is =
    let at : 0 + t ≡ t = omega arith in
    subst (λ (l : List Mark). Contains (name_tokens l) t) (sym marked)
    (word_named 0 t t r.program.tokens.list at (call_word (slice_get r.program.tokens.list (t - 2)) (slice_get r.program.tokens.list t) is))

pub name_apart : (r : Resolution) (t : ℕ) → items_marks r.program.items ≡ marks_from 0 r.program.tokens.list → Contains (name_tokens (items_marks r.program.items)) t → is_call_at r (t + 2) ≡ false
name_apart r t marked c =
    let at : 0 + t ≡ t = omega arith in
    after_word r t (named_word 0 t t r.program.tokens.list at (subst (λ (l : List Mark). Contains (name_tokens l) t) marked c))
