-- The first fault of a program that is not typed is one.
use Rattle.sharc_reply_laws.proofs.Imports.{◌≡◌, inl, inr, ℕ, ◌≤◌, ◌==◌, false, ◌&&◌, ◌||◌, cond, List, [], ◌∷◌, refl, ap, sym, ◌∙◌, subst, arith, nat_lt, ltb-false, eq-eqb, or_parts, and_cases, false≢true, AllByRecursion, FaultAt, Tokens, FaultCode, UnknownName, DefinedTwice, TypeMismatch, ArgumentCount, NoLvalue, TypeNotAllowed, BadForm, NoMain, LimitPassed, Fault, digit, is_before, IsAmong, IsFirst, IsToldAt}

-- the code with this digit
code_of : ℕ → FaultCode
code_of n =
    cond (n == 1) UnknownName (cond (n == 2) DefinedTwice (cond (n == 3) TypeMismatch (cond (n == 4) ArgumentCount (cond (n == 5) NoLvalue (cond (n == 6) TypeNotAllowed (cond (n == 7) BadForm (cond (n == 8) NoMain LimitPassed)))))))

code_back : (c : FaultCode) → code_of (digit c) ≡ c
unfolding code_of
code_back NoMain = refl
code_back _ = refl

-- of two places with digits neither of which comes before the other
not_before : (p q c d : ℕ) → (nat_lt p q || (p == q && nat_lt c d)) ≡ false → q ≤ p
not_before p q c d is = ltb-false p q (or_parts (nat_lt p q) (p == q && nat_lt c d) is).0

not_below : (p q c d : ℕ) → p ≡ q → (nat_lt p q || (p == q && nat_lt c d)) ≡ false → d ≤ c
not_below p q c d same is =
    elim (and_cases (p == q) (nat_lt c d) (or_parts (nat_lt p q) (p == q && nat_lt c d) is).1) [
      | inl not ↦ absurd (false≢true (sym not ∙ eq-eqb p q same))
      | inr low ↦ ltb-false c d low
    ]

among : (P : Fault → Type 0) (f : Fault) (list : List Fault) → AllByRecursion P list → IsAmong f list → P f
among P f [] all has = absurd has
among P f (g ∷ rest) all (inl is) = subst P (sym is) all.0
among P f (g ∷ rest) all (inr has) = among P f rest all.1 has

same_fault : (f g : Fault) → f.place ≡ g.place → f.code ≡ g.code → f ≡ g
same_fault f g place code =
    let first : f ≡ record { place = g.place; code = f.code } = ap (λ (n : ℕ). record { place = n; code = f.code }) place in
    let second : record { place = g.place; code = f.code } ≡ g = ap (λ (c : FaultCode). record { place = g.place; code = c }) code in
    first ∙ second

pub one_first : (f g : Fault) (list : List Fault) → IsFirst f list → IsFirst g list → f ≡ g
one_first f g list a b =
    let there : is_before g f ≡ false = among (λ x. is_before x f ≡ false) g list a.1 b.0 in
    let back : is_before f g ≡ false = among (λ x. is_before x g ≡ false) f list b.1 a.0 in
    let up = not_before g.place f.place (digit g.code) (digit f.code) there in
    let down = not_before f.place g.place (digit f.code) (digit g.code) back in
    let place : f.place ≡ g.place = omega (arith, up, down) in
    let high = not_below g.place f.place (digit g.code) (digit f.code) (sym place) there in
    let low = not_below f.place g.place (digit f.code) (digit g.code) place back in
    let digits : digit f.code ≡ digit g.code = omega (arith, high, low) in
    same_fault f g place (sym (code_back f.code) ∙ ap code_of digits ∙ code_back g.code)

-- and so is what is reported of it
pub one_told : (tokens : Tokens) (f : Fault) (x y : FaultAt FaultCode) → IsToldAt tokens f x → IsToldAt tokens f y → x ≡ y
one_told tokens f x y a b =
    let code = a.code ∙ sym b.code in
    let file = a.file ∙ sym b.file in
    let line = a.line ∙ sym b.line in
    let offset = a.offset ∙ sym b.offset in
    let text = a.text ∙ sym b.text in
    let one : x ≡ record { code = y.code; file = x.file; line = x.line; offset = x.offset; text = x.text } = ap (λ (n : FaultCode). record { code = n; file = x.file; line = x.line; offset = x.offset; text = x.text }) code in
    let two : record { code = y.code; file = x.file; line = x.line; offset = x.offset; text = x.text } ≡ record { code = y.code; file = y.file; line = x.line; offset = x.offset; text = x.text } =
    ap (λ (l : List ℕ). record { code = y.code; file = l; line = x.line; offset = x.offset; text = x.text }) file in
    let three : record { code = y.code; file = y.file; line = x.line; offset = x.offset; text = x.text } ≡ record { code = y.code; file = y.file; line = y.line; offset = x.offset; text = x.text } =
    ap (λ (n : ℕ). record { code = y.code; file = y.file; line = n; offset = x.offset; text = x.text }) line in
    let four : record { code = y.code; file = y.file; line = y.line; offset = x.offset; text = x.text } ≡ record { code = y.code; file = y.file; line = y.line; offset = y.offset; text = x.text } =
    ap (λ (n : ℕ). record { code = y.code; file = y.file; line = y.line; offset = n; text = x.text }) offset in
    let five : record { code = y.code; file = y.file; line = y.line; offset = y.offset; text = x.text } ≡ y = ap (λ (l : List ℕ). record { code = y.code; file = y.file; line = y.line; offset = y.offset; text = l }) text in
    one ∙ two ∙ three ∙ four ∙ five
