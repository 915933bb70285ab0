-- Spans that follow one another, in two parts, and that of a declaration.
use Rattle.sharc_suggest_laws.proofs.Imports.{ℕ, ◌+◌, ◌<◌, ◌≤◌, List, [], ◌∷◌, ◌++◌, arith, Span, Token, Declaration, Follow, PlacedDeclaration}

-- there is a token between them
pub split : (all : List Token) (from until : ℕ) (xs ys : List Span) → from ≤ until → Follow all from until (xs ++ ys)
    → (mid : ℕ) × (from ≤ mid) × (mid ≤ until) × Follow all from mid xs × Follow all mid until ys
split all from until [] ys le follow = (from, omega arith, le, tt, follow)
split all from until (s ∷ rest) ys le (span, begins, ends, follow) =
    let more = split all (s.last.token + 1) until rest ys (omega (arith, ends)) follow in
    (more.0, omega (arith, span.order, begins, more.1), more.2, (span, begins, omega (arith, more.1), more.3), more.4)

-- a declaration is named in its span
pub named_in : (all : List Token) (d : Declaration) → PlacedDeclaration all d → (d.span.first.token ≤ d.name.site.token) × (d.name.site.token < d.span.last.token + 1)
named_in all d ((_, (of_type, typed, _, (_, named, within, _))), _, _) = (omega (arith, of_type.order, typed, named), within)
