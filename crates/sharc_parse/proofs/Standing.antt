-- Places of tokens, and parts that follow one another.
use Rattle.sharc_parse.proofs.Imports.{◌≡◌, ℕ, ◌+◌, ◌-◌, ◌≤◌, ◌<◌, List, [], ◌∷◌, ◌++◌, length, drop, get_or, refl, sym, ap, ◌∙◌, arith, subst, subst₂, at_drop_more, Site, Span, Token, site_of_token, IsSite, IsSpan, Follow, IsWhole, point, site_of, site_in, span_at}

-- the places of these tokens
pub record Standing (all : List Token) (s : ℕ → Site) : Type 0 where
  pub numbered : (n : ℕ) → (s n).token ≡ n
  pub there : (n : ℕ) → n < length all → IsSite all (s n)

number_at : (l : List Token) (n : ℕ) → (site_of l n).token ≡ n
number_at [] n = refl
number_at (t ∷ rest) n = refl

pub numbered_in : (all : List Token) (n : ℕ) → (site_in all n).token ≡ n
numbered_in all n = number_at (drop n all) n

there_in : (all : List Token) (n : ℕ) → n < length all → IsSite all (site_in all n)
there_in all n h =
    let e = numbered_in all n in
    record {
      below = omega (arith, e, h);
      there = λ t. at_drop_more (λ l. site_of l n) all n t h ∙ ap (λ k. site_of_token (get_or all k t) k) (sym e);
    }

pub standing : (all : List Token) → Standing all (site_in all)
standing all = record { numbered = numbered_in all; there = there_in all }

-- a span of k tokens, from number n on
pub record Lies (s : ℕ → Site) (n k : ℕ) (span : Span) : Type 0 where
  pub there : span ≡ span_at s n k
  pub some : 0 < k

pub lies : (s : ℕ → Site) (n k : ℕ) → 0 < k → Lies s n k (span_at s n k)
lies s n k h = record { there = refl; some = h }

pub lies_point : (s : ℕ → Site) (n : ℕ) → Lies s n 1 (point (s n))
lies_point s n = let e : n ≡ n + 1 - 1 = omega arith in record { there = ap (λ k. record { first = s n; last = s k }) e; some = omega arith }

span_there : (all : List Token) (s : ℕ → Site) (h : Standing all s) (n k : ℕ) → 0 < k → n + k ≤ length all → IsSpan all (span_at s n k)
span_there all s h n k some within =
    let e = h.numbered n in
    let f = h.numbered (n + k - 1) in
    record { first = h.there n (omega arith); last = h.there (n + k - 1) (omega arith); order = omega (arith, e, f, some) }

-- parts that follow one another
pub record Row (all : List Token) (from until : ℕ) (parts : List Span) : Type 0 where
  pub follow : Follow all from until parts

-- a part, and those after it
pub part : (all : List Token) (s : ℕ → Site) (h : Standing all s) (from n k until : ℕ) (span : Span) (rest : List Span) → Lies s n k span → from ≤ n → n + k ≤ until → until ≤ length all → Row all (n + k) until rest → Row all from until (span ∷ rest)
part all s h from n k until span rest l low high within r =
    let some = l.some in
    let a = h.numbered n in
    let b = h.numbered (n + k - 1) in
    let next : n + k ≡ (s (n + k - 1)).token + 1 = omega (arith, b, some) in
    record {
      follow =
          subst (λ z. Follow all from until (z ∷ rest)) (sym l.there)
          (span_there all s h n k some (omega arith), omega (arith, a, low), omega (arith, b, some, high), subst (λ z. Follow all z until rest) next r.follow);
    }

pub last : (all : List Token) (s : ℕ → Site) (h : Standing all s) (from n k until : ℕ) (span : Span) → Lies s n k span → from ≤ n → n + k ≤ until → until ≤ length all → Row all from until (span ∷ [])
last all s h from n k until span l low high within = part all s h from n k until span [] l low high within (record { follow = tt })

-- a whole of these parts
pub whole : (all : List Token) (s : ℕ → Site) (h : Standing all s) (n k : ℕ) (parts : List Span) → 0 < k → n + k ≤ length all → Row all n (n + k) parts → IsWhole all (span_at s n k) parts
whole all s h n k parts some within r =
    let a : n ≡ (s n).token = sym (h.numbered n) in
    let b = h.numbered (n + k - 1) in
    let next : n + k ≡ (s (n + k - 1)).token + 1 = omega (arith, b, some) in
    (span_there all s h n k some within, subst₂ (λ y z. Follow all y z parts) a next r.follow)

-- the parts may be sought from an earlier token on
earlier : (all : List Token) (from mid until : ℕ) (parts : List Span) → from ≤ mid → Follow all mid until parts → Follow all from until parts
earlier all from mid until [] h f = tt
earlier all from mid until (span ∷ rest) h f = (f.0, omega (arith, h, f.1), f.2, f.3)

put_before : (all : List Token) (from mid next until : ℕ) (xs ys : List Span) → from ≤ mid → mid ≤ next → next ≤ until → Follow all from mid xs → Follow all next until ys → Follow all from until (xs ++ ys)
put_before all from mid next until [] ys a b c f g = earlier all from next until ys (omega arith) g
put_before all from mid next until (span ∷ rest) ys a b c f g = (f.0, f.1, omega (arith, b, c, f.2), put_before all (span.last.token + 1) mid next until rest ys (omega (arith, f.2)) b c f.3 g)

-- parts that end before others begin
pub joined : (all : List Token) (from mid next until : ℕ) (xs ys : List Span) → from ≤ mid → mid ≤ next → next ≤ until → Row all from mid xs → Row all next until ys → Row all from until (xs ++ ys)
joined all from mid next until xs ys a b c f g = record { follow = put_before all from mid next until xs ys a b c f.follow g.follow }
