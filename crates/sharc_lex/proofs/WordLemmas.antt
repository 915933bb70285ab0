-- In a table of texts only those of the text's own length matter.
use Rattle.sharc_lex.proofs.Imports.{◌≡◌, ◌≢◌, ℕ, Bool, true, false, cond, ◌==◌, ◌||◌, List, [], ◌∷◌, length, Some, None, sym, refl, ap, ◌∙◌, inl, inr, eqb-false, ne_eqb, and_parts, false≢true, cases_Bool, bytes_eq-Decides, filter, list_all, list_any, bytes_eq, TokenKind, entry_at}

abbrev Table : Type 0
Table = List (List ℕ × TokenKind)

-- texts of different lengths differ
false_bytes_eq : (a b : List ℕ) → length a ≢ length b → bytes_eq a b ≡ false
false_bytes_eq a b differ = elim (cases_Bool (bytes_eq a b)) [ inl equal ↦ absurd (differ (ap length ((bytes_eq-Decides a b).0 equal))) | inr unequal ↦ unequal ]

-- the entry is kept where the lengths are the same, and else does not match
filter_step : (text : List ℕ) (e : List ℕ × TokenKind) (es kept : Table) (same : Bool) → (same ≡ false → bytes_eq text e.0 ≡ false) → entry_at es text ≡ entry_at kept text → entry_at (e ∷ es) text ≡ entry_at (cond same (e ∷ kept) kept) text
filter_step text e es kept true other rest = ap (λ x. cond (bytes_eq text e.0) (Some e.1) x) rest
filter_step text e es kept false other rest = ap (λ b. cond b (Some e.1) (entry_at es text)) (other refl) ∙ rest

pub entry_at-of_length : (table : Table) (text : List ℕ) (n : ℕ) → length text ≡ n → entry_at table text ≡ entry_at (filter (λ e. length e.0 == n) table) text
entry_at-of_length [] text n h = refl
entry_at-of_length (e ∷ es) text n h =
    filter_step text e es (filter (λ e. length e.0 == n) es) (length e.0 == n)
    (λ differ. false_bytes_eq text e.0 (λ same. eqb-false (length e.0) n differ (sym same ∙ h)))
    (entry_at-of_length es text n h)

-- a text whose length none of the entries has is in no entry
pub entry_at-other_length : (table : Table) (text : List ℕ) (lengths : List ℕ) → list_all (λ e. list_any (λ n. length e.0 == n) lengths) table ≡ true → list_any (λ n. length text == n) lengths ≡ false → entry_at table text ≡ None
entry_at-other_length [] text lengths all none = refl
entry_at-other_length (e ∷ es) text lengths all none =
    let parts = and_parts (list_any (λ n. length e.0 == n) lengths) (list_all (λ e. list_any (λ n. length e.0 == n) lengths) es) all in
    let other : length text ≢ length e.0 = λ same. false≢true (sym none ∙ ap (λ k. list_any (λ n. k == n) lengths) same ∙ parts.0) in
    ap (λ b. cond b (Some e.1) (entry_at es text)) (false_bytes_eq text e.0 other) ∙ entry_at-other_length es text lengths parts.1 none

-- a number differs from the first of a list and from those after it
pub not_among : (m n : ℕ) (ns : List ℕ) → m ≢ n → list_any (λ k. m == k) ns ≡ false → list_any (λ k. m == k) (n ∷ ns) ≡ false
not_among m n ns differs none = ap (λ b. b || list_any (λ k. m == k) ns) (ne_eqb m n differs) ∙ none
