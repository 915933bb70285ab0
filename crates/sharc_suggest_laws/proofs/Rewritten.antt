-- What is given in a program with a cast written in it: what was given, each with the cast round it where it has its tokens.
use Rattle.sharc_suggest_laws.proofs.Imports.{◌≡◌, Bool, true, false, cond, List, ◌++◌, map, refl, ap₂, sym, ◌∙◌, map-append, span_of, Expression, cast, First, does, Statement, Entry, Recast, type_at, is_there, around, with_cast, first_with_cast, statement_with_cast, receiver_with, giving_with, behind_first, after, Receiver, Giving, one_giving, givings, value_givings}
use Rattle.sharc_tree.specs.Tree as tree

abbrev pub givings_with : Recast → List Giving → List Giving
givings_with c gs = map (giving_with c) gs

pub both : (c : Recast) (xs ys new more : List Giving) → new ≡ givings_with c xs → more ≡ givings_with c ys → new ++ more ≡ givings_with c (xs ++ ys)
both c xs ys new more left right = ap₂ (λ (s t : List Giving). s ++ t) left right ∙ sym (map-append (giving_with c) xs ys)

-- the cast itself gives nothing
cast_gives : (c : Recast) (scope : List Entry) (e : Expression) (b : Bool) → givings scope (cond b (cast (span_of e) (type_at c (span_of e)) e) e) ≡ givings scope e
cast_gives c scope e true = refl
cast_gives c scope e false = refl

pub value_written : (c : Recast) (scope : List Entry) (r : Receiver) (e : Expression) → givings scope (with_cast c e) ≡ givings_with c (givings scope e)
    → value_givings scope (receiver_with c r) (around c (with_cast c e)) ≡ givings_with c (value_givings scope r e)
value_written c scope r e inner =
    both c (givings scope e) (one_giving scope r e) (givings scope (around c (with_cast c e))) (one_giving scope (receiver_with c r) (around c (with_cast c e)))
    (cast_gives c scope (with_cast c e) (is_there c (with_cast c e)) ∙ inner) refl

-- the same variables are in scope
pub first_same : (c : Recast) (scope : List Entry) (f : First) → behind_first scope (first_with_cast c f) ≡ behind_first scope f
first_same c scope (does x) = refl
first_same c scope _ = refl

pub after_same : (c : Recast) (scope : List Entry) (s : Statement) → after scope (statement_with_cast c s) ≡ after scope s
after_same c scope (tree.empty s) = refl
after_same c scope _ = refl
