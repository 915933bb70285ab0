-- A program that was read has no more items than tokens.
use Rattle.std.proofs.Common.{◌≡◌, ℕ, ◌+◌, ◌≤◌, List, [], ◌∷◌, length, refl, arith}
use Rattle.sharc_tree.specs.{Tree.{Item, Program}, declared.token.Span.Span, declared.token.Token.Token, Placed.{Follow, item_spans, IsPlaced}}

-- spans that follow one another are no more than the tokens
spans_fit : (all : List Token) (from until : ℕ) (spans : List Span) → from ≤ until → Follow all from until spans → length spans + from ≤ until
spans_fit all from until [] h f = omega (arith, h)
spans_fit all from until (s ∷ rest) h f =
    let more = spans_fit all (s.last.token + 1) until rest (omega (arith, f.2)) f.3 in
    omega (arith, more, f.0.order, f.1, f.2)

count_items : (items : List Item) → length (item_spans items) ≡ length items
count_items [] = refl
count_items (i ∷ rest) = omega (arith, count_items rest)

-- a program has no more items than tokens
pub few_items : (p : Program) → IsPlaced p → length p.items ≤ length p.tokens.list
few_items p placed = omega (arith, count_items p.items, spans_fit p.tokens.list 0 (length p.tokens.list) (item_spans p.items) (omega arith) placed.follow)
