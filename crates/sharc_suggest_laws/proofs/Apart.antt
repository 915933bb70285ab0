-- What is given is in the body of a function, after its name and its parameters.
use Rattle.sharc_suggest_laws.proofs.{Imports.{◌≡◌, inl, inr, ℕ, ◌+◌, ◌<◌, ◌≤◌, List, [], ◌∷◌, refl, ap, eq-eqb, arith, AllByRecursion, Token, Declaration, Follow, declaration_spans, PlacedDeclarations, PlacedItem, span_of, Function, function, Giving, count_of, met_by, met_in_statements, begins_at, each}, Counted.counted, Few.{AtMostOnce, at_token}, Spread.of_statements, Follows.{split, named_in}}

-- ---- what begins in a body

pub body_bounds : (all : List Token) (f : Function) → PlacedItem all (function f) → (t : ℕ) → 0 < met_in_statements (begins_at t) f.statements → (f.body.first.token ≤ t) × (t ≤ f.body.last.token)
body_bounds all f (_, _, _, _, (body, follow), placed) t some =
    by ((of_statements all f.statements placed).few (at_token t) f.body.first.token (f.body.last.token + 1) (omega (arith, body.order)) follow)
  where
    by : AtMostOnce (at_token t) f.body.first.token (f.body.last.token + 1) (met_in_statements (begins_at t) f.statements) → (f.body.first.token ≤ t) × (t ≤ f.body.last.token)
    by (inl none) = absurd (omega (arith, some, none))
    by (inr (_, begins, ends)) = let below : t < f.body.last.token + 1 = ends in (begins, omega (arith, below))

-- all that is given among these begins where one of them may begin
pub all_begin : (from : ℕ) (gs : List Giving) → ((t : ℕ) → 0 < counted (begins_at t) gs → from ≤ t) → AllByRecursion (λ (g : Giving). from ≤ (span_of g.given).first.token) gs
all_begin from [] low = tt
all_begin from (g ∷ rest) low =
    let t : ℕ = (span_of g.given).first.token in
    let one : met_by (begins_at t) g.given ≡ 1 = ap count_of (eq-eqb t t refl) in
    let some : 0 < met_by (begins_at t) g.given + counted (begins_at t) rest = omega (arith, one) in
    (low t some, all_begin from rest (λ k more. low k (further k more)))
  where
    further : (k : ℕ) → 0 < counted (begins_at k) rest → 0 < met_by (begins_at k) g.given + counted (begins_at k) rest
    further k more = omega (arith, more)

-- ---- the parts of a function

abbrev pub Between : ℕ → ℕ → Declaration → Type 0
Between from until d = (from ≤ d.name.site.token) × (d.name.site.token < until)

pub named_between : (all : List Token) (from until : ℕ) (ds : List Declaration) → Follow all from until (declaration_spans ds) → PlacedDeclarations all ds → AllByRecursion (Between from until) ds
named_between all from until [] follow placed = tt
named_between all from until (d ∷ rest) (_, begins, ends, follow) (placed, more) =
    let here = named_in all d placed in (
      (omega (arith, begins, here.0), omega (arith, here.1, ends)),
      each (Between (d.span.last.token + 1) until) (Between from until) (λ x h. (omega (arith, begins, here.0, here.1, h.0), h.1)) rest (named_between all (d.span.last.token + 1) until rest follow more),
    )

pub record HasParts (f : Function) : Type 0 where
  pub low : f.span.first.token ≤ f.body.first.token
  pub order : f.body.first.token ≤ f.body.last.token
  pub high : f.body.last.token ≤ f.span.last.token
  pub named : f.name.site.token < f.body.first.token
  pub parameters : AllByRecursion (Between f.span.first.token f.body.first.token) f.parameters

pub parts_of : (all : List Token) (f : Function) → PlacedItem all (function f) → HasParts f
parts_of all f ((_, (result, begins, _, (_, name, within, follow))), _, _, placed, (body, _), _) =
    let w = split all (f.name.site.token + 1) (f.span.last.token + 1) (declaration_spans f.parameters) (f.body ∷ []) (omega (arith, within)) follow in
    record {
      low = omega (arith, begins, result.order, name, w.1, w.4.1);
      order = body.order;
      high = omega (arith, w.4.2);
      named = omega (arith, w.1, w.4.1);
      parameters = each (Between (f.name.site.token + 1) w.0) (Between f.span.first.token f.body.first.token)
          (λ d h. (omega (arith, begins, result.order, name, h.0), omega (arith, h.1, w.4.1))) f.parameters (named_between all (f.name.site.token + 1) w.0 f.parameters w.3 placed);
    }
