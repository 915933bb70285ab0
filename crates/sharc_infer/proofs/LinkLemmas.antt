-- The links of what follows other things.
use Rattle.sharc_infer.proofs.Imports.{◌≡◌, ℕ, zero, suc, ◌+◌, ◌<◌, ◌≤◌, min, map, length, drop, get_or, arith, Some, inl, inr, List, [], ◌∷◌, ◌++◌, Result, OnOk, refl, ap, sym, ◌∙◌, subst, append_assoc, flat_map-append, cases_lt, drop_all, append-nil, get_or-map, length-map, Link, Declaration, Expr, Expression, no_arguments, argument, value, view_arguments, Resolution, numbered_from, positions_of, positions_in, Transfer, variable, gives, passed, Entity, Numbered, cast_links, equal_rows, written, declared_row, row_at, given, given_by, casts_in, from_place}

pub casts_both : (r : Resolution) (a b : List Expression) → casts_in r (a ++ b) ≡ casts_in r a ++ casts_in r b
casts_both r a b = flat_map-append (cast_links r) a b

pub given_both : (r : Resolution) (function : ℕ) (a b : List Transfer) → given r function (a ++ b) ≡ given r function a ++ given r function b
given_both r function a b = flat_map-append (given_by r function) a b

given_two : (r : Resolution) (function : ℕ) (old mid : List Link) (a b : List Transfer) → mid ≡ old ++ given r function a → mid ++ given r function b ≡ old ++ given r function (a ++ b)
given_two r function old mid a b is = ap (λ l. l ++ given r function b) is ∙ append_assoc old (given r function a) (given r function b) ∙ ap (λ l. old ++ l) (sym (given_both r function a b))

pub given_added : {T E : Type 0} (r : Resolution) (function : ℕ) (answer : Result T E) (old mid new : List Link) (a b : List Transfer) → mid ≡ old ++ given r function a → OnOk answer (new ≡ mid ++ given r function b)
    → OnOk answer (new ≡ old ++ given r function (a ++ b))
given_added r function answer old mid new a b is behind = subst (λ l. OnOk answer (new ≡ l)) (given_two r function old mid a b is) behind

-- the same of what is made of each
pub from_mapped : {A B : Type 0} (f : A → B) (xs : List A) (all : List B) (i : ℕ) (x : A) → map f xs ≡ all → i < length xs → x ≡ get_or xs i x → drop i all ≡ f x ∷ drop (i + 1) all
from_mapped f xs all i x are below is =
    let size = length-map xs f in
    subst (λ ys. drop i ys ≡ f x ∷ drop (i + 1) ys) are (from_place (map f xs) i (f x) (omega arith) (ap f is ∙ sym (get_or-map f xs i x (f x) below)))

-- ---- arguments
none_passed : (ds : List Declaration) → passed ds no_arguments ≡ []
none_passed [] = refl
none_passed (d ∷ rest) = refl

pub passed_end : (ds : List Declaration) (all : List Expr) (i : ℕ) → min (length ds) (length all) ≤ i → passed (drop i ds) (view_arguments (drop i all)) ≡ []
passed_end ds all i past =
    elim (cases_lt i (length ds)) [
      | inl before ↦ ap (λ l. passed (drop i ds) (view_arguments l)) (drop_all i all (omega arith)) ∙ none_passed (drop i ds)
      | inr behind ↦ ap (λ l. passed l (view_arguments (drop i all))) (drop_all i ds behind)
    ]

pub one_passed : (r : Resolution) (function : ℕ) (ds : List Declaration) (d : Declaration) (a : Expression) → 1 ≤ length ds → d ≡ get_or ds 0 d
    → equal_rows (Some (declared_row r written d.name.site.token)) (row_at r a) ≡ given r function (passed ds (argument a no_arguments))
one_passed r function [] d a some is = absurd (omega arith)
one_passed r function (x ∷ rest) d a some is =
    let row : Declaration → List Link = λ y. equal_rows (Some (declared_row r written y.name.site.token)) (row_at r a) in
    ap row is ∙ sym (append-nil (row x)) ∙ ap (λ l. given r function (gives (variable x) (value a) ++ l)) (sym (none_passed rest))

-- ---- numbered entities
pub numbered_within : (k : ℕ) (list : List Entity) (i : ℕ) (n : Numbered) → i < length (numbered_from k list) → n ≡ get_or (numbered_from k list) i n → n.first + positions_of n.entity ≤ k + positions_in list
numbered_within k [] i n below is = absurd (omega arith)
numbered_within k (e ∷ rest) zero n below is =
    let here : n.first + positions_of n.entity ≡ k + positions_of e = ap (λ (m : Numbered). m.first + positions_of m.entity) is in
    omega arith
numbered_within k (e ∷ rest) (suc i) n below is = let behind = numbered_within (k + positions_of e) rest i n (omega arith) is in omega arith

pub numbered_entities : (k : ℕ) (list : List Entity) → map (λ (n : Numbered). n.entity) (numbered_from k list) ≡ list
numbered_entities k [] = refl
numbered_entities k (e ∷ rest) = ap (λ l. e ∷ l) (numbered_entities (k + positions_of e) rest)
