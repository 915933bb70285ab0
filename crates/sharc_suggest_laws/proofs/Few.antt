-- In an expression at its tokens one value at most begins at a token: no other part begins there, and no value inside of it does.
use Rattle.sharc_suggest_laws.proofs.{Imports.{◌≡◌, ℕ, ◌+◌, ◌<◌, ◌≤◌, Bool, true, false, ◌⊎◌, inl, inr, List, [], ◌∷◌, ◌++◌, refl, eqb-true, arith, Span, Token, Follow, argument_spans, Placed, AllPlaced, span_of, Expression, constant, parentheses, call, spawn, on_value, on_place, cast, index, field, unary, binary, Arguments, no_arguments, argument, count_of, met_inside, met_inside_all, met_at, begins_at}, Follows.split}
use Rattle.sharc_tree.specs.Placed.{IsWhole}
use Rattle.sharc_tree.specs.Tree as tree

-- a test that only what begins at one token meets
pub record Test : Type 0 where
  pub token : ℕ
  pub test : Expression → Bool
  pub begins : (e : Expression) → test e ≡ true → (span_of e).first.token ≡ token

-- that begins at this token
abbrev pub at_token : ℕ → Test
at_token t = record { token = t; test = begins_at t; begins = λ e is. eqb-true (span_of e).first.token t is }

-- never, or once, and then it begins at a token from this one on, below that one
abbrev pub AtMostOnce : Test → ℕ → ℕ → ℕ → Type 0
AtMostOnce c from until n = (n ≡ 0) ⊎ ((n ≡ 1) × (from ≤ c.token) × (c.token < until))

wider : (c : Test) (from until low high n : ℕ) → AtMostOnce c from until n → low ≤ from → until ≤ high → AtMostOnce c low high n
wider c from until low high n (inl never_met) le ge = inl never_met
wider c from until low high n (inr (once, begins, ends)) le ge = inr (once, omega (arith, begins, le), omega (arith, ends, ge))

-- of two stretches, one after the other
side_by_side : (c : Test) (from mid until n k : ℕ) → AtMostOnce c from mid n → AtMostOnce c mid until k → from ≤ mid → mid ≤ until → AtMostOnce c from until (n + k)
side_by_side c from mid until n k (inl left) (inl right) le ge = inl (omega (arith, left, right))
side_by_side c from mid until n k (inl left) (inr (once, begins, ends)) le ge = inr (omega (arith, left, once), omega (arith, begins, le), ends)
side_by_side c from mid until n k (inr (once, begins, ends)) (inl right) le ge = inr (omega (arith, once, right), begins, omega (arith, ends, ge))
side_by_side c from mid until n k (inr (_, _, ends)) (inr (_, begins, _)) le ge = absurd (omega (arith, ends, begins))

-- ---- in spans that follow one another

abbrev pub Few : List Token → Test → List Span → ℕ → Type 0
Few all c spans n = (from until : ℕ) → from ≤ until → Follow all from until spans → AtMostOnce c from until n

pub few_both : (all : List Token) (c : Test) (xs ys : List Span) (n k : ℕ) → Few all c xs n → Few all c ys k → Few all c (xs ++ ys) (n + k)
few_both all c xs ys n k left right from until le follow =
    let w = split all from until xs ys le follow in
    side_by_side c from w.0 until n k (left from w.0 w.1 w.3) (right w.0 until w.2 w.4) w.1 w.2

-- a whole has what its parts have
pub whole : (all : List Token) (c : Test) (s : Span) (parts : List Span) (n : ℕ) → IsWhole all s parts → Few all c parts n → Few all c (s ∷ []) n
whole all c s parts n (span, inner) few from until le (_, begins, ends, _) =
    wider c s.first.token (s.last.token + 1) from until n (few s.first.token (s.last.token + 1) (omega (arith, span.order)) inner) begins (omega (arith, ends))

pub none : (all : List Token) (c : Test) (spans : List Span) → Few all c spans 0
none all c spans from until le follow = inl refl

-- ---- in an expression: after its first token

abbrev IsInner : Test → Span → ℕ → Type 0
IsInner c s n = AtMostOnce c (s.first.token + 1) (s.last.token + 1) n

inside_few : (all : List Token) (c : Test) (s : Span) (n : ℕ) → IsInner c s n → Few all c (s ∷ []) n
inside_few all c s n inner from until le (_, begins, ends, _) = wider c (s.first.token + 1) (s.last.token + 1) from until n inner (omega (arith, begins)) (omega (arith, ends))

-- one part alone
inner_part : (all : List Token) (c : Test) (s part : Span) (n : ℕ) → Follow all s.first.token (s.last.token + 1) (part ∷ []) → IsInner c part n → IsInner c s n
inner_part all c s part n (_, begins, ends, _) inner = wider c (part.first.token + 1) (part.last.token + 1) (s.first.token + 1) (s.last.token + 1) n inner (omega (arith, begins)) (omega (arith, ends))

-- the expression itself, or something inside of it, and not both
with_itself : (c : Test) (s : Span) (n : ℕ) (b : Bool) → (b ≡ true → s.first.token ≡ c.token) → s.first.token ≤ s.last.token → IsInner c s n → AtMostOnce c s.first.token (s.last.token + 1) (n + count_of b)
with_itself c s n false is order (inl never_met) = let many : n + 0 ≡ 0 = omega (arith, never_met) in inl many
with_itself c s n false is order (inr (once, begins, ends)) = let many : n + 0 ≡ 1 = omega (arith, once) in inr (many, omega (arith, begins), ends)
with_itself c s n true is order (inl never_met) =
    let at : s.first.token ≡ c.token = is refl in
    let many : n + 1 ≡ 1 = omega (arith, never_met) in
    inr (many, omega (arith, at), omega (arith, at, order))
with_itself c s n true is order (inr (_, begins, _)) = let at : s.first.token ≡ c.token = is refl in absurd (omega (arith, at, begins))

ordered : (all : List Token) (e : Expression) → Placed all e → (span_of e).first.token ≤ (span_of e).last.token
ordered all (constant s k) placed = placed.0.order
ordered all _ placed = placed.0.0.order

value_few : (all : List Token) (c : Test) (e : Expression) → Placed all e → IsInner c (span_of e) (met_inside c.test e) → Few all c (span_of e ∷ []) (met_at c.test e)
value_few all c e placed inner from until le (_, begins, ends, _) =
    wider c (span_of e).first.token ((span_of e).last.token + 1) from until (met_at c.test e)
    (with_itself c (span_of e) (met_inside c.test e) (c.test e) (c.begins e) (ordered all e placed) inner) begins (omega (arith, ends))

mutual
  inside : (all : List Token) (c : Test) (e : Expression) → Placed all e → IsInner c (span_of e) (met_inside c.test e)
  inside all c (parentheses s a) ((_, follow), placed) = inner_part all c s (span_of a) (met_inside c.test a) follow (inside all c a placed)
  inside all c (call s f args) ((_, (_, named, ends, follow)), _, placed) =
      wider c (f.site.token + 1) (s.last.token + 1) (s.first.token + 1) (s.last.token + 1) (met_inside_all c.test args)
      (inside_all all c args placed (f.site.token + 1) (s.last.token + 1) (omega (arith, ends)) follow) (omega (arith, named)) (omega arith)
  inside all c (spawn s f a) ((_, (_, named, ends, follow)), _, placed) =
      wider c (f.site.token + 1) (s.last.token + 1) (s.first.token + 1) (s.last.token + 1) (met_at c.test a)
      (value_few all c a placed (inside all c a placed) (f.site.token + 1) (s.last.token + 1) (omega (arith, ends)) follow) (omega (arith, named)) (omega arith)
  inside all c (on_value s w a) ((_, follow), placed) = inner_part all c s (span_of a) (met_inside c.test a) follow (inside all c a placed)
  inside all c (on_place s w a) ((_, follow), placed) = inner_part all c s (span_of a) (met_inside c.test a) follow (inside all c a placed)
  inside all c (cast s t a) ((_, (to, typed, _, (_, begins, ends, _))), _, placed) =
      wider c ((span_of a).first.token + 1) ((span_of a).last.token + 1) (s.first.token + 1) (s.last.token + 1) (met_inside c.test a) (inside all c a placed) (omega (arith, to.order, typed, begins)) (omega (arith, ends))
  inside all c (index s a i) ((_, (base, begins, ends, (_, next, last, _))), placed_a, placed_i) =
      side_by_side c (s.first.token + 1) ((span_of a).last.token + 1) (s.last.token + 1) (met_inside c.test a) (met_inside c.test i)
      (wider c ((span_of a).first.token + 1) ((span_of a).last.token + 1) (s.first.token + 1) ((span_of a).last.token + 1) (met_inside c.test a) (inside all c a placed_a) (omega (arith, begins)) (omega arith))
      (wider c ((span_of i).first.token + 1) ((span_of i).last.token + 1) ((span_of a).last.token + 1) (s.last.token + 1) (met_inside c.test i) (inside all c i placed_i) (omega (arith, next)) (omega (arith, last)))
      (omega (arith, base.order, begins)) (omega (arith, ends))
  inside all c (field s a w n) ((_, (_, begins, ends, _)), placed, _) =
      wider c ((span_of a).first.token + 1) ((span_of a).last.token + 1) (s.first.token + 1) (s.last.token + 1) (met_inside c.test a) (inside all c a placed) (omega (arith, begins)) (omega (arith, ends))
  inside all c (unary s o a) ((_, follow), placed) = inner_part all c s (span_of a) (met_inside c.test a) follow (inside all c a placed)
  inside all c (binary s o at a b) ((_, (left, begins, ends, (_, middle, _, (_, next, last, _)))), placed_a, placed_b) =
      side_by_side c (s.first.token + 1) ((span_of a).last.token + 1) (s.last.token + 1) (met_inside c.test a) (met_inside c.test b)
      (wider c ((span_of a).first.token + 1) ((span_of a).last.token + 1) (s.first.token + 1) ((span_of a).last.token + 1) (met_inside c.test a) (inside all c a placed_a) (omega (arith, begins)) (omega arith))
      (wider c ((span_of b).first.token + 1) ((span_of b).last.token + 1) ((span_of a).last.token + 1) (s.last.token + 1) (met_inside c.test b) (inside all c b placed_b) (omega (arith, middle, next)) (omega (arith, last)))
      (omega (arith, left.order, begins)) (omega (arith, ends))
  inside all c _ placed = inl refl

  inside_all : (all : List Token) (c : Test) (args : Arguments) → AllPlaced all args → Few all c (argument_spans args) (met_inside_all c.test args)
  inside_all all c no_arguments placed = none all c []
  inside_all all c (argument a rest) placed =
      few_both all c (span_of a ∷ []) (argument_spans rest) (met_at c.test a) (met_inside_all c.test rest) (value_few all c a placed.0 (inside all c a placed.0)) (inside_all all c rest placed.1)

pub few_in : (all : List Token) (c : Test) (e : Expression) → Placed all e → Few all c (span_of e ∷ []) (met_inside c.test e)
few_in all c e placed = inside_few all c (span_of e) (met_inside c.test e) (inside all c e placed)

pub few_value : (all : List Token) (c : Test) (e : Expression) → Placed all e → Few all c (span_of e ∷ []) (met_at c.test e)
few_value all c e placed = value_few all c e placed (inside all c e placed)

-- none after the rest
pub alone : (all : List Token) (c : Test) (xs ys : List Span) (n : ℕ) → Few all c xs n → Few all c (xs ++ ys) n
alone all c xs ys n few from until le follow =
    let w = split all from until xs ys le follow in
    wider c from w.0 from until n (few from w.0 w.1 w.3) (omega arith) w.2

-- after a span that has none
pub behind_span : (all : List Token) (c : Test) (s : Span) (ys : List Span) (n : ℕ) → Few all c ys n → Few all c (s ∷ ys) n
behind_span all c s ys n few from until le (span, begins, ends, follow) =
    wider c (s.last.token + 1) until from until n (few (s.last.token + 1) until (omega (arith, ends)) follow) (omega (arith, span.order, begins)) (omega arith)

pub at_most_one : (c : Test) (from until n : ℕ) → AtMostOnce c from until n → n ≤ 1
at_most_one c from until n (inl never_met) = omega (arith, never_met)
at_most_one c from until n (inr (once, _, _)) = omega (arith, once)
