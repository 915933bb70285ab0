-- In a tree at its tokens no two names have one token: so notes without a fault say what the tokens name, and each declaration is found by its token.
use Rattle.sharc_ctype_laws.proofs.{Imports.{◌≡◌, ⊎_elim, ℕ, ◌+◌, ◌≤◌, ◌<◌, zero, suc, Bool, true, false, cond, List, [], ◌∷◌, ◌++◌, length, fold, get_or, replicate, refl, ap, sym, ◌∙◌, subst, arith, Some, eq-eqb, ne_eqb, get_or-set_other, get_or-set_same, length-set, set, cases_eq, cases_lt, length-replicate, AllByRecursion, Keyword, Scast, Token, TokenKind, Declaration, IsLow, Mark, a_name, a_cast, keyword_marks, kind_marks, marks_from, name_marks, type_marks, declaration_marks, items_marks, IsPlaced, Program, Named, Note, fault, refers, yields, Findings, is_free, noted, faults, notes_about, nothing_found, Resolution, IsResolved, declared_at, named_at, together}, Counts.{one, told, written, told_refers, told_yields}, Exact.program_most, Held.{Held, Kept, no_faults}}
use Rattle.sharc_tree.specs.Marks.{number_of}
use Rattle.sharc_tree.specs.Tree as tree

pub one_same : (t : ℕ) → one t t ≡ 1
unfolding one
one_same t = ap (λ b. cond b 1 0) (eq-eqb t t refl)

pub one_other : (t n : ℕ) → (n ≡ t → ⊥) → one t n ≡ 0
unfolding one
one_other t n h = ap (λ b. cond b 1 0) (ne_eqb n t h)

pub one_low : (t n : ℕ) → one t n ≤ 1
one_low t n = ⊎_elim (λ e. let f = ap (one t) e in let g = one_same t in omega (arith, f, g)) (λ e. let f = one_other t n e in omega (arith, f)) (cases_eq n t)

-- how many of a list stand at a token

unfoldable pub times : {A : Type 0} → (A → ℕ) → ℕ → List A → ℕ
times f t [] = 0
times f t (x ∷ rest) = one t (f x) + times f t rest

times-append : {A : Type 0} (f : A → ℕ) (t : ℕ) (a b : List A) → times f t (a ++ b) ≡ times f t a + times f t b
unfolding times
times-append f t [] b = omega arith
times-append f t (x ∷ rest) b = let e = times-append f t rest b in omega (arith, e)

pub none_most : {A : Type 0} (f : A → ℕ) (t n : ℕ) → times f t [] ≤ n
unfolding times
none_most f t n = omega arith

pub side : {A : Type 0} (f : A → ℕ) (t : ℕ) (a b : List A) (x y : List Mark) → times f t a ≤ times number_of t x → times f t b ≤ times number_of t y → times f t (a ++ b) ≤ times number_of t (x ++ y)
side f t a b x y h k = let d = times-append f t a b in let e = times-append number_of t x y in omega (arith, d, e, h, k)

pub behind : {A : Type 0} (f : A → ℕ) (t : ℕ) (b : List A) (x y : List Mark) → times f t b ≤ times number_of t y → times f t b ≤ times number_of t (x ++ y)
behind f t b x y h = let e = times-append number_of t x y in omega (arith, e, h)

pub before : {A : Type 0} (f : A → ℕ) (t : ℕ) (b : List A) (x y : List Mark) → times f t b ≤ times number_of t x → times f t b ≤ times number_of t (x ++ y)
before f t b x y h = let e = times-append number_of t x y in omega (arith, e, h)

pub apart : {A : Type 0} (f : A → ℕ) (t : ℕ) (list : List A) → times f t list ≡ 0 → AllByRecursion (λ x. t ≡ f x → ⊥) list
unfolding times
apart f t [] h = tt
apart f t (x ∷ rest) h = ((λ is. let e = one_same t in let g = ap (one t) is in omega (arith, h, e, g)), apart f t rest (omega (arith, h)))

-- the marks among tokens

written_most : (t : ℕ) (list : List Mark) → written t list ≤ times number_of t list
unfolding written times
written_most t [] = omega arith
written_most t (a_name n text ∷ rest) = let e = written_most t rest in omega (arith, e)
written_most t (a_cast n ∷ rest) = let e = written_most t rest in omega (arith, e)

keyword_low : (t n : ℕ) (k : Keyword) → times number_of t (keyword_marks k n) ≤ one t n
unfolding times
keyword_low t n Scast = omega arith
keyword_low t n _ = omega arith

kind_low : (t n : ℕ) (k : TokenKind) (text : List ℕ) → times number_of t (kind_marks k text n) ≤ one t n
unfolding times
kind_low t n (TokenKind.Keyword k) text = keyword_low t n k
kind_low t n _ text = omega arith

record AreFew (t n : ℕ) (list : List Token) : Type 0 where
  once : times number_of t (marks_from n list) ≤ 1
  low : t < n → times number_of t (marks_from n list) ≡ 0
  high : n + length list ≤ t → times number_of t (marks_from n list) ≡ 0

few : (t n : ℕ) (list : List Token) → AreFew t n list
few t n [] = let e = none_most number_of t 0 in record { once = omega (arith, e); low = λ h. omega (arith, e); high = λ h. omega (arith, e) }
few t n (x ∷ rest) =
    let f = few t (n + 1) rest in
    let e = times-append number_of t (kind_marks x.kind x.text n) (marks_from (n + 1) rest) in
    let k = kind_low t n x.kind x.text in
    let f_once = f.once in
    let one_is = one_low t n in
    record {
      once = ⊎_elim (λ is. let z = f.low (omega (arith, is)) in omega (arith, e, k, z, one_is)) (λ is. let z = one_other t n is in omega (arith, e, k, z, f_once)) (cases_eq n t);
      low = λ h. let z = one_other t n (λ is. omega (arith, h, is)) in let y = f.low (omega (arith, h)) in omega (arith, e, k, z, y);
      high = λ h. let z = one_other t n (λ is. omega (arith, h, is)) in let y = f.high (omega (arith, h)) in omega (arith, e, k, z, y);
    }

-- names of a tree at its tokens

pub record HasOwnTokens (p : Program) : Type 0 where
  pub all : (t : ℕ) → times number_of t (items_marks p.items) ≤ 1
  pub once : (t : ℕ) → written t (items_marks p.items) ≤ 1
  pub within : (t : ℕ) → 0 < written t (items_marks p.items) → t < length p.tokens.list

pub own_tokens : (p : Program) → IsPlaced p → HasOwnTokens p
own_tokens p placed = record {
  all = λ t. subst (λ m. times number_of t m ≤ 1) (sym placed.marked) (few t 0 p.tokens.list).once;
  once = λ t. subst (λ m. written t m ≤ 1) (sym placed.marked) (let e = written_most t (marks_from 0 p.tokens.list) in let f = (few t 0 p.tokens.list).once in omega (arith, e, f));
  within = λ t h. below t (subst (λ m. 0 < written t m) placed.marked h);
}
  where
    below : (t : ℕ) → 0 < written t (marks_from 0 p.tokens.list) → t < length p.tokens.list
    below t h =
        let e = written_most t (marks_from 0 p.tokens.list) in
        ⊎_elim (λ less. less) (λ most. let z = (few t 0 p.tokens.list).high (omega (arith, most)) in absurd (omega (arith, z, h, e))) (cases_lt t (length p.tokens.list))

-- what is noted stays: no later note is of the same token

free_length : (b : Bool) (all : List Named) (n : ℕ) (what : Named) → length (cond b (set all n what) all) ≡ length all
free_length true all n what = length-set all n what
free_length false all n what = refl

free_other : (b : Bool) (all : List Named) (n t : ℕ) (what d : Named) → (t ≡ n → ⊥) → get_or (cond b (set all n what) all) t d ≡ get_or all t d
free_other true all n t what d other = get_or-set_other all n t what d other
free_other false all n t what d other = refl

length_kept : (f : Findings) (n : Note) → length (noted f n).named ≡ length f.named
length_kept f (fault place code) = refl
length_kept f (refers token what) = length-set f.named token what
length_kept f (yields token what) = free_length (is_free (get_or f.named token Named.Known)) f.named token what

untold : (t : ℕ) (d : Named) (f : Findings) (list : List Note) → told t list ≡ 0 → get_or (fold noted f list).named t d ≡ get_or f.named t d
unfolding told
untold t d f [] h = refl
untold t d f (fault place code ∷ rest) h = untold t d (noted f (fault place code)) rest h
untold t d f (refers n what ∷ rest) h =
    untold t d (noted f (refers n what)) rest (omega (arith, h))
    ∙ get_or-set_other f.named n t what d (λ is. let e = one_same t in let g = ap (one t) (sym is) in omega (arith, h, e, g))
untold t d f (yields n what ∷ rest) h =
    untold t d (noted f (yields n what)) rest (omega (arith, h))
    ∙ free_other (is_free (get_or f.named n Named.Known)) f.named n t what d (λ is. let e = one_same t in let g = ap (one t) (sym is) in omega (arith, h, e, g))

apart_from : (n t : ℕ) (rest : List Note) → told n rest ≡ 0 → 0 < told t rest → (t ≡ n → ⊥)
apart_from n t rest none some is = let e = ap (λ x. told x rest) is in omega (arith, none, some, e)

-- nothing is named where nothing is said yet
abbrev IsOpen : Findings → List Note → Type 0
IsOpen f list = (t : ℕ) → 0 < told t list → get_or f.named t Named.Known ≡ Named.Known

held_by : (r : Resolution) (f : Findings) (list : List Note) → ((t : ℕ) → told t list ≤ 1) → ((t : ℕ) → 0 < told t list → t < length f.named) → IsOpen f list → faults list ≡ []
    → ((t : ℕ) → named_at r t ≡ get_or (fold noted f list).named t Named.Known) → Held r list
unfolding Kept
held_by r f [] once within free clean is = tt
held_by r f (fault place code ∷ rest) once within free clean is = absurd (no_faults _ _ clean)
held_by r f (refers n what ∷ rest) once within free clean is =
    let more : (t : ℕ) → told t (refers n what ∷ rest) ≡ one t n + told t rest = λ t. told_refers t n what rest in
    let none : told n rest ≡ 0 = let e = more n in let o = once n in let s = one_same n in omega (arith, e, o, s) in
    let low : n < length f.named = within n (let e = more n in let s = one_same n in omega (arith, e, s)) in (
      is n ∙ untold n Named.Known (noted f (refers n what)) rest none ∙ get_or-set_same f.named n what Named.Known low,
      held_by r (noted f (refers n what)) rest (λ t. let e = more t in let o = once t in omega (arith, e, o))
          (λ t h. let l = length_kept f (refers n what) in let w = within t (let e = more t in omega (arith, e, h)) in omega (arith, l, w))
          (λ t h. get_or-set_other f.named n t what Named.Known (apart_from n t rest none h) ∙ free t (let e = more t in omega (arith, e, h))) clean is,
    )
held_by r f (yields n what ∷ rest) once within free clean is =
    let more : (t : ℕ) → told t (yields n what ∷ rest) ≡ one t n + told t rest = λ t. told_yields t n what rest in
    let none : told n rest ≡ 0 = let e = more n in let o = once n in let s = one_same n in omega (arith, e, o, s) in
    let some : 0 < told n (yields n what ∷ rest) = let e = more n in let s = one_same n in omega (arith, e, s) in (
      is n ∙ untold n Named.Known (noted f (yields n what)) rest none ∙ ap (λ x. get_or (cond (is_free x) (set f.named n what) f.named) n Named.Known) (free n some) ∙ get_or-set_same f.named n what Named.Known (within n some),
      held_by r (noted f (yields n what)) rest (λ t. let e = more t in let o = once t in omega (arith, e, o))
          (λ t h. let l = length_kept f (yields n what) in let w = within t (let e = more t in omega (arith, e, h)) in omega (arith, l, w))
          (λ t h. free_other (is_free (get_or f.named n Named.Known)) f.named n t what Named.Known (apart_from n t rest none h) ∙ free t (let e = more t in omega (arith, e, h))) clean is,
    )

blank : (n t : ℕ) → get_or (replicate n Named.Known) t Named.Known ≡ Named.Known
blank zero t = refl
blank (suc n) zero = refl
blank (suc n) (suc t) = blank n t

pub all_held : (r : Resolution) → IsResolved r → HasOwnTokens r.program → IsLow r.program → Held r (notes_about r.program)
all_held r resolved own low =
    held_by r (nothing_found (length r.program.tokens.list)) (notes_about r.program)
    (λ t. let m = program_most t r (length r.program.tokens.list) r.program.items low in let o = own.once t in omega (arith, m, o))
    (λ t h. let m = program_most t r (length r.program.tokens.list) r.program.items low in let w = own.within t (omega (arith, m, h)) in let l = length-replicate (length r.program.tokens.list) Named.Known in omega (arith, w, l))
    (λ t h. blank (length r.program.tokens.list) t)
    resolved.typed
    (λ t. ap (λ l. get_or l t Named.Known) resolved.named)

-- declarations

abbrev pub token_of : Declaration → ℕ
token_of d = d.name.site.token

pub one_written : (t : ℕ) (d : Declaration) → times token_of t (d ∷ []) ≤ times number_of t (declaration_marks d)
unfolding times
one_written t d = let e = times-append number_of t (type_marks d.written) (name_marks d.name) in omega (arith, e)

pub found_by_token : (list : List Declaration) → ((t : ℕ) → times token_of t list ≤ 1) → AllByRecursion (λ d. declared_at list d.name.site.token ≡ Some d) list
unfolding times
found_by_token [] once = tt
found_by_token (x ∷ rest) once =
    let n = x.name.site.token in (
      ap (λ b. cond b (Some x) (declared_at rest x.name.site.token)) (eq-eqb x.name.site.token x.name.site.token refl),
      together (λ d. x.name.site.token ≡ d.name.site.token → ⊥) (λ d. declared_at rest d.name.site.token ≡ Some d) (λ d. declared_at (x ∷ rest) d.name.site.token ≡ Some d)
          (λ d ne is. ap (λ b. cond b (Some x) (declared_at rest d.name.site.token)) (ne_eqb x.name.site.token d.name.site.token ne) ∙ is) rest
          (apart token_of x.name.site.token rest (let o = once x.name.site.token in let s = one_same x.name.site.token in omega (arith, o, s)))
          (found_by_token rest (λ t. let o = once t in omega (arith, o))),
    )
