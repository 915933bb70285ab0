-- What has a type in an expression at its tokens with a cast written in it: what had one before, in its order, and that many times the cast, which is after all that begins before it.
use Rattle.sharc_suggest_laws.proofs.{Imports.{◌≡◌, ℕ, ◌+◌, ◌<◌, ◌≤◌, ◌==◌, Bool, true, false, ◌&&◌, ◌⊎◌, inl, inr, List, [], ◌∷◌, ◌++◌, map, refl, ap, sym, subst, subst₂, if◌then◌else◌, eqb-true, arith, and_parts, Span, Token, Declaration, expressions, in_arguments, Follow, point, argument_spans, declaration_spans, PlacedDeclaration, PlacedDeclarations, Placed, AllPlaced, span_of, Expression, identifier, constant, parentheses, call, spawn, on_value, on_place, cast, index, field, unary, binary, Arguments, no_arguments, argument, Role, Recast, type_at, is_there, around, with_cast, all_with_cast, count_of, met_by, met_inside, met_inside_all, met_at, Entity, declared, casts, cast_entity}, Follows.{split, named_in}}
use Rattle.sharc_tree.specs.Placed.{IsWhole}
use Rattle.sharc_tree.specs.Tree as tree

-- the cast, at a span of its tokens
pub record IsCastOf (c : Recast) (e : Entity) : Type 0 where
  pub span : Span
  pub is : e ≡ cast_entity span (type_at c span)
  pub first : span.first.token ≡ c.from
  pub last : span.last.token ≡ c.until

-- this many casts among the old; all begin at tokens from one on, below another, and what is old begins before all that comes after it
abbrev pub Grown : Recast → ℕ → ℕ → ℕ → List Entity → List Entity → Type 0
Grown c n from until old [] = (old ≡ []) × (n ≡ 0)
Grown c n from until old (e ∷ new) = ((rest : List Entity) × (old ≡ e ∷ rest) × (from ≤ e.token) × (e.token < until) × Grown c n (e.token + 1) until rest new)
    ⊎ ((k : ℕ) × (n ≡ k + 1) × IsCastOf c e × (from ≤ c.from) × (c.from < until) × Grown c k c.from until old new)

wider : (c : Recast) (n from until low high : ℕ) (old new : List Entity) → low ≤ from → until ≤ high → Grown c n from until old new → Grown c n low high old new
wider c n from until low high old [] le ge grown = grown
wider c n from until low high old (e ∷ new) le ge (inl (rest, is, begins, ends, more)) =
    inl (rest, is, omega (arith, le, begins), omega (arith, ge, ends), wider c n (e.token + 1) until (e.token + 1) high rest new (omega arith) ge more)
wider c n from until low high old (e ∷ new) le ge (inr (k, is, added, begins, ends, more)) =
    inr (k, is, added, omega (arith, le, begins), omega (arith, ge, ends), wider c k c.from until c.from high old new (omega arith) ge more)

both : (c : Recast) (n k from mid until : ℕ) (old new old' new' : List Entity) → from ≤ mid → mid ≤ until → Grown c n from mid old new → Grown c k mid until old' new' → Grown c (n + k) from until (old ++ old') (new ++ new')
both c n k from mid until old [] old' new' le ge (gone, no_more) after =
    let many : k ≡ n + k = omega (arith, no_more) in
    subst₂ (λ (i : ℕ) (l : List Entity). Grown c i from until (l ++ old') new') many (sym gone) (wider c k mid until from until old' new' le (omega arith) after)
both c n k from mid until old (e ∷ new) old' new' le ge (inl (rest, is, begins, ends, more)) after =
    inl (rest ++ old', ap (λ (l : List Entity). l ++ old') is, begins, omega (arith, ge, ends), both c n k (e.token + 1) mid until rest new old' new' (omega (arith, ends)) ge more after)
both c n k from mid until old (e ∷ new) old' new' le ge (inr (j, one, added, begins, ends, more)) after =
    inr (j + k, omega (arith, one), added, begins, omega (arith, ge, ends), both c j k c.from mid until old new old' new' (omega (arith, ends)) ge more after)

-- ---- in spans that follow one another

abbrev pub Grows : List Token → Recast → List Span → ℕ → List Entity → List Entity → Type 0
Grows all c spans n old new = (from until : ℕ) → from ≤ until → Follow all from until spans → Grown c n from until old new

pub joined : (all : List Token) (c : Recast) (xs ys : List Span) (n k : ℕ) (old new old' new' : List Entity) → Grows all c xs n old new → Grows all c ys k old' new' → Grows all c (xs ++ ys) (n + k) (old ++ old') (new ++ new')
joined all c xs ys n k old new old' new' left right from until le follow =
    let w = split all from until xs ys le follow in
    both c n k from w.0 until old new old' new' w.1 w.2 (left from w.0 w.1 w.3) (right w.0 until w.2 w.4)

pub whole : (all : List Token) (c : Recast) (s : Span) (parts : List Span) (n : ℕ) (old new : List Entity) → IsWhole all s parts → Grows all c parts n old new → Grows all c (s ∷ []) n old new
whole all c s parts n old new (span, follows) inner from until le (_, begins, ends, _) =
    wider c n s.first.token (s.last.token + 1) from until old new begins (omega (arith, ends)) (inner s.first.token (s.last.token + 1) (omega (arith, span.order)) follows)

pub none : (all : List Token) (c : Recast) (spans : List Span) → Grows all c spans 0 [] []
none all c spans from until le follow = (refl, refl)

-- after a span that has none
pub behind_span : (all : List Token) (c : Recast) (s : Span) (ys : List Span) (n : ℕ) (old new : List Entity) → Grows all c ys n old new → Grows all c (s ∷ ys) n old new
behind_span all c s ys n old new inner from until le (span, begins, ends, follow) =
    wider c n (s.last.token + 1) until from until old new (omega (arith, span.order, begins)) (omega arith) (inner (s.last.token + 1) until (omega (arith, ends)) follow)

-- before spans that have none
pub before_spans : (all : List Token) (c : Recast) (xs ys : List Span) (n : ℕ) (old new : List Entity) → Grows all c xs n old new → Grows all c (xs ++ ys) n old new
before_spans all c xs ys n old new inner from until le follow =
    let w = split all from until xs ys le follow in
    wider c n from w.0 from until old new (omega arith) w.2 (inner from w.0 w.1 w.3)

pub again : (all : List Token) (c : Recast) (spans : List Span) (n k : ℕ) (old new : List Entity) → n ≡ k → Grows all c spans n old new → Grows all c spans k old new
again all c spans n k old new same inner from until le follow = subst (λ (i : ℕ). Grown c i from until old new) same (inner from until le follow)

-- ---- what is declared

-- what begins in a span
pub one_in : (all : List Token) (c : Recast) (s : Span) (e : Entity) → s.first.token ≤ e.token → e.token ≤ s.last.token → Grows all c (s ∷ []) 0 (e ∷ []) (e ∷ [])
one_in all c s e low high from until le (_, begins, ends, _) = inl ([], refl, omega (arith, begins, low), omega (arith, ends, high), (refl, refl))

pub one_declared : (all : List Token) (c : Recast) (what : Role) (d : Declaration) → PlacedDeclaration all d → Grows all c (d.span ∷ []) 0 (declared what d ∷ []) (declared what d ∷ [])
one_declared all c what d placed = let here = named_in all d placed in one_in all c d.span (declared what d) here.0 (omega (arith, here.1))

pub all_declared : (all : List Token) (c : Recast) (what : Role) (ds : List Declaration) → PlacedDeclarations all ds → Grows all c (declaration_spans ds) 0 (map (declared what) ds) (map (declared what) ds)
all_declared all c what [] placed = none all c []
all_declared all c what (d ∷ rest) placed =
    let none_more : 0 + 0 ≡ 0 = omega arith in
    again all c (declaration_spans (d ∷ rest)) (0 + 0) 0 (map (declared what) (d ∷ rest)) (map (declared what) (d ∷ rest)) none_more
    (joined all c (d.span ∷ []) (declaration_spans rest) 0 0 (declared what d ∷ []) (declared what d ∷ []) (map (declared what) rest) (map (declared what) rest)
    (one_declared all c what d placed.0) (all_declared all c what rest placed.1))

-- ---- among expressions

abbrev GrowCasts : List Token → Recast → List Span → ℕ → List Expression → List Expression → Type 0
GrowCasts all c spans n old new = Grows all c spans n (casts old) (casts new)

pub casts_append : (xs ys : List Expression) → casts (xs ++ ys) ≡ casts xs ++ casts ys
casts_append [] ys = refl
casts_append (cast s t a ∷ rest) ys = ap (λ (all : List Entity). cast_entity s t ∷ all) (casts_append rest ys)
casts_append (_ ∷ rest) ys = casts_append rest ys

pub joined_casts : (all : List Token) (c : Recast) (xs ys : List Span) (n k : ℕ) (old new old' new' : List Expression) → GrowCasts all c xs n old new → GrowCasts all c ys k old' new'
    → GrowCasts all c (xs ++ ys) (n + k) (old ++ old') (new ++ new')
joined_casts all c xs ys n k old new old' new' left right from until le follow =
    subst₂ (λ (l m : List Entity). Grown c (n + k) from until l m) (sym (casts_append old old')) (sym (casts_append new new'))
    (joined all c xs ys n k (casts old) (casts new) (casts old') (casts new') left right from until le follow)

pub span_same : (c : Recast) (e : Expression) → span_of (with_cast c e) ≡ span_of e
span_same c (cast s t a) = refl
span_same c _ = refl

-- with the cast round it, or without
around_by : (c : Recast) (n from until : ℕ) (old : List Entity) (e : Expression) (b : Bool) → is_there c e ≡ b → from ≤ (span_of e).first.token → (span_of e).first.token < until
    → Grown c n (span_of e).first.token until old (casts (expressions e))
    → Grown c (n + count_of b) from until old (casts (expressions (if b then cast (span_of e) (type_at c (span_of e)) e else e)))
around_by c n from until old e false is low high grown =
    let many : n ≡ n + 0 = omega arith in
    subst (λ (k : ℕ). Grown c k from until old (casts (expressions e))) many (wider c n (span_of e).first.token until from until old (casts (expressions e)) low (omega arith) grown)
around_by c n from until old e true is low high grown =
    let at : (((span_of e).first.token == c.from) ≡ true) × (((span_of e).last.token == c.until) ≡ true) = and_parts ((span_of e).first.token == c.from) ((span_of e).last.token == c.until) is in
    let first : (span_of e).first.token ≡ c.from = eqb-true (span_of e).first.token c.from at.0 in
    let last : (span_of e).last.token ≡ c.until = eqb-true (span_of e).last.token c.until at.1 in
    inr (n, refl, record { span = span_of e; is = refl; first = first; last = last }, omega (arith, low, first), omega (arith, high, first), subst (λ (k : ℕ). Grown c n k until old (casts (expressions e))) first grown)

around_with : (c : Recast) (n from until : ℕ) (old : List Entity) (a e : Expression) → span_of e ≡ span_of a → from ≤ (span_of a).first.token → (span_of a).first.token < until
    → Grown c n (span_of a).first.token until old (casts (expressions e)) → Grown c (n + met_by (is_there c) a) from until old (casts (expressions (around c e)))
around_with c n from until old a e same low high grown =
    let start : (span_of a).first.token ≡ (span_of e).first.token = ap (λ (s : Span). s.first.token) (sym same) in
    let here : Grown c n (span_of e).first.token until old (casts (expressions e)) = subst (λ (k : ℕ). Grown c n k until old (casts (expressions e))) start grown in
    subst (λ (s : Span). Grown c (n + count_of (s.first.token == c.from && s.last.token == c.until)) from until old (casts (expressions (around c e)))) same
    (around_by c n from until old e (is_there c e) refl (omega (arith, low, start)) (omega (arith, high, start)) here)

-- a value, by what is in it
value_grows : (all : List Token) (c : Recast) (e : Expression) → GrowCasts all c (span_of e ∷ []) (met_inside (is_there c) e) (expressions e) (expressions (with_cast c e))
    → GrowCasts all c (span_of e ∷ []) (met_at (is_there c) e) (expressions e) (expressions (around c (with_cast c e)))
value_grows all c e inner from until le (span, begins, ends, _) =
    let below : (span_of e).first.token < until = omega (arith, span.order, ends) in
    around_with c (met_inside (is_there c) e) from until (casts (expressions e)) e (with_cast c e) (span_same c e) begins below
    (inner (span_of e).first.token until (omega (arith, below)) (span, omega arith, ends, tt))

-- a cast that was there begins before its source
cast_grows : (all : List Token) (c : Recast) (s t a : Span) (n : ℕ) (e : Entity) (old new : List Entity) → e.token ≡ s.first.token → IsWhole all s (t ∷ (a ∷ [])) → Grows all c (a ∷ []) n old new → Grows all c (s ∷ []) n (e ∷ old) (e ∷ new)
cast_grows all c s t a n e old new at (whole_span, (of_type, typed, _, (source_span, source, within, _))) inner from until le (_, begins, ends, _) =
    inl (
      old,
      refl,
      omega (arith, begins, at),
      omega (arith, whole_span.order, ends, at),
      inner (e.token + 1) until (omega (arith, whole_span.order, ends, at)) (source_span, omega (arith, at, typed, of_type.order, source), omega (arith, within, ends), tt),
    )

mutual
  pub grown_in : (all : List Token) (c : Recast) (e : Expression) → Placed all e → GrowCasts all c (span_of e ∷ []) (met_inside (is_there c) e) (expressions e) (expressions (with_cast c e))
  grown_in all c (identifier s i) placed = none all c (s ∷ [])
  grown_in all c (constant s k) placed = none all c (s ∷ [])
  grown_in all c (parentheses s a) placed = whole all c s (span_of a ∷ []) (met_inside (is_there c) a) (casts (expressions a)) (casts (expressions (with_cast c a))) placed.0 (grown_in all c a placed.1)
  grown_in all c (call s f args) placed =
      whole all c s (point f.site ∷ argument_spans args) (met_inside_all (is_there c) args) (casts (in_arguments args)) (casts (in_arguments (all_with_cast c args))) placed.0
      (behind_span all c (point f.site) (argument_spans args) (met_inside_all (is_there c) args) (casts (in_arguments args)) (casts (in_arguments (all_with_cast c args))) (grown_in_all all c args placed.2))
  grown_in all c (spawn s f a) placed =
      whole all c s (point f.site ∷ (span_of a ∷ [])) (met_at (is_there c) a) (casts (expressions a)) (casts (expressions (around c (with_cast c a)))) placed.0
      (behind_span all c (point f.site) (span_of a ∷ []) (met_at (is_there c) a) (casts (expressions a)) (casts (expressions (around c (with_cast c a)))) (value_grows all c a (grown_in all c a placed.2)))
  grown_in all c (on_value s w a) placed = whole all c s (span_of a ∷ []) (met_inside (is_there c) a) (casts (expressions a)) (casts (expressions (with_cast c a))) placed.0 (grown_in all c a placed.1)
  grown_in all c (on_place s w a) placed = whole all c s (span_of a ∷ []) (met_inside (is_there c) a) (casts (expressions a)) (casts (expressions (with_cast c a))) placed.0 (grown_in all c a placed.1)
  grown_in all c (cast s t a) placed =
      cast_grows all c s t.span (span_of a) (met_inside (is_there c) a) (cast_entity s t) (casts (expressions a)) (casts (expressions (with_cast c a))) refl placed.0 (grown_in all c a placed.2)
  grown_in all c (index s a i) placed =
      whole all c s (span_of a ∷ (span_of i ∷ [])) (met_inside (is_there c) a + met_inside (is_there c) i) (casts (expressions a ++ expressions i)) (casts (expressions (with_cast c a) ++ expressions (with_cast c i))) placed.0
      (joined_casts all c (span_of a ∷ []) (span_of i ∷ []) (met_inside (is_there c) a) (met_inside (is_there c) i) (expressions a) (expressions (with_cast c a)) (expressions i) (expressions (with_cast c i))
      (grown_in all c a placed.1) (grown_in all c i placed.2))
  grown_in all c (field s a w n) placed =
      whole all c s (span_of a ∷ (point n.site ∷ [])) (met_inside (is_there c) a) (casts (expressions a)) (casts (expressions (with_cast c a))) placed.0
      (before_spans all c (span_of a ∷ []) (point n.site ∷ []) (met_inside (is_there c) a) (casts (expressions a)) (casts (expressions (with_cast c a))) (grown_in all c a placed.1))
  grown_in all c (unary s o a) placed = whole all c s (span_of a ∷ []) (met_inside (is_there c) a) (casts (expressions a)) (casts (expressions (with_cast c a))) placed.0 (grown_in all c a placed.1)
  grown_in all c (binary s o at a b) placed =
      whole all c s (span_of a ∷ (point at ∷ (span_of b ∷ []))) (met_inside (is_there c) a + met_inside (is_there c) b) (casts (expressions a ++ expressions b)) (casts (expressions (with_cast c a) ++ expressions (with_cast c b))) placed.0
      (joined_casts all c (span_of a ∷ []) (point at ∷ (span_of b ∷ [])) (met_inside (is_there c) a) (met_inside (is_there c) b) (expressions a) (expressions (with_cast c a)) (expressions b) (expressions (with_cast c b))
      (grown_in all c a placed.1)
      (behind_span all c (point at) (span_of b ∷ []) (met_inside (is_there c) b) (casts (expressions b)) (casts (expressions (with_cast c b))) (grown_in all c b placed.2)))

  grown_in_all : (all : List Token) (c : Recast) (args : Arguments) → AllPlaced all args → GrowCasts all c (argument_spans args) (met_inside_all (is_there c) args) (in_arguments args) (in_arguments (all_with_cast c args))
  grown_in_all all c no_arguments placed = none all c []
  grown_in_all all c (argument a rest) placed =
      joined_casts all c (span_of a ∷ []) (argument_spans rest) (met_at (is_there c) a) (met_inside_all (is_there c) rest) (expressions a) (expressions (around c (with_cast c a))) (in_arguments rest) (in_arguments (all_with_cast c rest))
      (value_grows all c a (grown_in all c a placed.0)) (grown_in_all all c rest placed.1)

pub grown_value : (all : List Token) (c : Recast) (e : Expression) → Placed all e → GrowCasts all c (span_of e ∷ []) (met_at (is_there c) e) (expressions e) (expressions (around c (with_cast c e)))
grown_value all c e placed = value_grows all c e (grown_in all c e placed)
