-- A cast that is suggested is among what has a type once.
use Rattle.sharc_suggest_laws.proofs.{Imports.{◌≡◌, ℕ, ◌+◌, ◌<◌, ◌≤◌, ◌==◌, true, inl, inr, List, [], ◌∷◌, refl, ap, sym, ◌∙◌, ap₂, length, eqb-true, eq-eqb, Some, arith, and_parts, and_from, Span, span_of, Expression, Recast, is_there, recast_of, program_with, IsAddedOnce, SuggestedIsAddedOnce, count_of, met_by, met_in_items, Entity, entities_in, Cast, ModeError, Assignment, IsSuggested}, Few.{Test, AtMostOnce}, Spread.{begins_once, grown_items}, Grown.Grown, Counted.{counted, counted_append}, Beside.items_counted, Site.{HasSite, has_site}}

none_added : (c : Recast) (n from until : ℕ) (old new : List Entity) → n ≡ 0 → Grown c n from until old new → new ≡ old
none_added c n from until old [] zero_many grown = sym grown.0
none_added c n from until old (e ∷ new) zero_many (inl w) = ap (λ (l : List Entity). e ∷ l) (none_added c n (e.token + 1) until w.0 new zero_many w.4) ∙ sym w.1
none_added c n from until old (e ∷ new) zero_many (inr w) =
    absurd (omega (arith, zero_many, w.1))

-- it is added once, after what begins before it
record IsAddedFrom (c : Recast) (from : ℕ) (old new : List Entity) : Type 0 where
  once : IsAddedOnce c old new
  low : from ≤ c.from

-- an old one comes before the rest
before_rest : (c : Recast) (from : ℕ) (e : Entity) (old rest new : List Entity) → old ≡ e ∷ rest → from ≤ e.token → IsAddedFrom c (e.token + 1) rest new → IsAddedFrom c from old (e ∷ new)
before_rest c from e old rest new is begins more =
    record {
      once = record {
        before = e ∷ more.once.before;
        behind = more.once.behind;
        span = more.once.span;
        first = more.once.first;
        last = more.once.last;
        had = is ∙ ap (λ (l : List Entity). e ∷ l) more.once.had;
        has = ap (λ (l : List Entity). e ∷ l) more.once.has;
        earlier = (omega (arith, more.low), more.once.earlier);
      };
      low = omega (arith, more.low, begins);
    }

added_from : (c : Recast) (n from until : ℕ) (old new : List Entity) → n ≡ 1 → Grown c n from until old new → IsAddedFrom c from old new
added_from c n from until old [] one grown =
    absurd (omega (arith, one, grown.1))
added_from c n from until old (e ∷ new) one (inl w) = before_rest c from e old w.0 new w.1 w.2 (added_from c n (e.token + 1) until w.0 new one w.4)
added_from c n from until old (e ∷ new) one (inr w) =
    let zero_many : w.0 ≡ 0 = omega (arith, one, w.1) in
    record {
      once = record {
        before = [];
        behind = old;
        span = w.2.span;
        first = w.2.first;
        last = w.2.last;
        had = refl;
        has = ap₂ (λ (x : Entity) (l : List Entity). x ∷ l) w.2.is (none_added c w.0 c.from until old new zero_many w.5);
        earlier = tt;
      };
      low = w.3;
    }

some_once : (c : Test) (from until n : ℕ) → AtMostOnce c from until n → 0 < n → n ≡ 1
some_once c from until n (inl none) some =
    let zero_many : n ≡ 0 = none in
    absurd (omega (arith, zero_many, some))
some_once c from until n (inr w) some = w.0

-- only what begins at the first token of the cast has its tokens
pub has_first : (r : Recast) (e : Expression) → is_there r e ≡ true → (span_of e).first.token ≡ r.from
has_first r e is = eqb-true (span_of e).first.token r.from (and_parts ((span_of e).first.token == r.from) ((span_of e).last.token == r.until) is).0

abbrev pub at_tokens : Recast → Test
at_tokens r = record { token = r.from; test = is_there r; begins = has_first r }

-- what it is suggested for has its tokens
pub suggested_there : (m : Assignment) (e : ModeError) (c : Cast) (says : IsSuggested m e (Some c)) → 0 < met_in_items (is_there (recast_of m.typed c)) m.typed.program.items
suggested_there m e c says =
    let r : Recast = recast_of m.typed c in
    let site : HasSite m e c says = has_site m e c says in
    let s : Span = span_of site.for.giving.given in
    let first : s.first.token ≡ c.from = ap (λ (x : Cast). x.from) site.for.is in
    let last : s.last.token ≡ c.until = ap (λ (x : Cast). x.until) site.for.is in
    let here : met_by (is_there r) site.for.giving.given ≡ 1 = ap count_of (and_from (s.first.token == c.from) (s.last.token == c.until) (eq-eqb s.first.token c.from first) (eq-eqb s.last.token c.until last)) in
    let many : met_in_items (is_there r) m.typed.program.items ≡ counted (is_there r) site.for.before + counted (is_there r) (site.for.giving ∷ site.for.behind) =
    items_counted m (is_there r) m.typed.program.items ∙ ap (counted (is_there r)) site.for.split ∙ counted_append (is_there r) site.for.before (site.for.giving ∷ site.for.behind) in
    let rest : counted (is_there r) (site.for.giving ∷ site.for.behind) ≡ met_by (is_there r) site.for.giving.given + counted (is_there r) site.for.behind = refl in
    omega (arith, here, many, rest)

pub suggested_is_added_once : SuggestedIsAddedOnce
suggested_is_added_once m e c placed says =
    let r : Recast = recast_of m.typed c in
    let some : 0 < met_in_items (is_there r) m.typed.program.items = suggested_there m e c says in
    let most : AtMostOnce (at_tokens r) 0 (length m.typed.program.tokens.list) (met_in_items (is_there r) m.typed.program.items) =
    begins_once m.typed.program.tokens.list (at_tokens r) m.typed.program.items (length m.typed.program.tokens.list) placed.follow placed.items in
    (added_from r (met_in_items (is_there r) m.typed.program.items) 0 (length m.typed.program.tokens.list) (entities_in m.typed.program.items) (entities_in (program_with c m.typed).items)
    (some_once (at_tokens r) 0 (length m.typed.program.tokens.list) (met_in_items (is_there r) m.typed.program.items) most some)
    (grown_items m.typed.program.tokens.list r m.typed.program.items (length m.typed.program.tokens.list) placed.follow placed.items)).once
