-- The place of the first declaration of a token.
use Rattle.sharc_ctype.proofs.{Imports.{◌≡◌, ℕ, suc, ◌+◌, ◌<◌, ◌==◌, Bool, true, false, cond, List, [], ◌∷◌, ◌++◌, length, refl, ap, sym, ◌∙◌, arith, Option, Some, None, position_from, slice_get, option_or, option_map, option_and_then, Declaration, declared_at, place_of, PlaceRows, HasPlace, HasFirstPlaces}, EntityLemmas.{shifted_either, or_either}}

position_end : (t : Declaration → Bool) (k : ℕ) (list : List Declaration) (d : Declaration)
    → position_from t k (list ++ d ∷ []) ≡ option_or (position_from t k list) (cond (t d) (Some (k + length list)) None)
position_end t k [] d = ap (λ n. cond (t d) (Some n) None) (let e : k ≡ k + 0 = omega arith in e)
position_end t k (e ∷ rest) d =
    ap (cond (t e) (Some k)) (position_end t (k + 1) rest d ∙ ap (λ n. option_or (position_from t (k + 1) rest) (cond (t d) (Some n) None)) (let e : (k + 1) + length rest ≡ k + length (e ∷ rest) = omega arith in e))
    ∙ or_either (t e) k (position_from t (k + 1) rest) (cond (t d) (Some (k + length (e ∷ rest))) None)

-- one declaration more, at the end
pub first_pushed : (list : List Declaration) (d : Declaration) (place : ℕ) (old new : PlaceRows) → place ≡ length list → HasFirstPlaces list old → HasPlace d.name.site.token place old new → HasFirstPlaces (list ++ d ∷ []) new
first_pushed list d place old new last first has token =
    let t = λ (x : Declaration). x.name.site.token == token in
    has token
    ∙ ap (λ o. option_or o (cond (t d) (Some place) None)) (first token)
    ∙ ap (λ n. option_or (place_of list token) (cond (t d) (Some n) None)) (let e : place ≡ 0 + length list = omega arith in e)
    ∙ sym (position_end t 0 list d)

shifted : (t : Declaration → Bool) (k : ℕ) (list : List Declaration) → position_from t (k + 1) list ≡ option_map suc (position_from t k list)
shifted t k [] = refl
shifted t k (e ∷ rest) = ap (cond (t e) (Some (k + 1))) (shifted t (k + 1) rest) ∙ shifted_either (t e) k (position_from t (k + 1) rest)

behind_one : (e : Declaration) (rest : List Declaration) (o : Option ℕ) → option_and_then (slice_get (e ∷ rest)) (option_map suc o) ≡ option_and_then (slice_get rest) o
behind_one e rest None = refl
behind_one e rest (Some n) = refl

through_either : (b : Bool) (e : Declaration) (rest : List Declaration) (o : Option ℕ) → cond b (Some e) (option_and_then (slice_get (e ∷ rest)) o) ≡ option_and_then (slice_get (e ∷ rest)) (cond b (Some 0) o)
through_either true e rest o = refl
through_either false e rest o = refl

-- the place leads to the declaration
pub declared_place : (list : List Declaration) (token : ℕ) → declared_at list token ≡ option_and_then (slice_get list) (place_of list token)
declared_place [] token = refl
declared_place (e ∷ rest) token =
    let t = λ (x : Declaration). x.name.site.token == token in
    ap (cond (t e) (Some e)) (declared_place rest token ∙ sym (behind_one e rest (place_of rest token)) ∙ ap (option_and_then (slice_get (e ∷ rest))) (sym (shifted t 0 rest)))
    ∙ through_either (t e) e rest (position_from t 1 rest)

place_from : (t : Declaration → Bool) (k : ℕ) (list : List Declaration) (p : ℕ) → position_from t k list ≡ Some p → p < k + length list
place_from t k [] p is = let no : None ≡ Some p = is in cc
place_from t k (e ∷ rest) p is = by (t e) is (place_from t (k + 1) rest p)
  where
    by : (b : Bool) → cond b (Some k) (position_from t (k + 1) rest) ≡ Some p → (position_from t (k + 1) rest ≡ Some p → p < (k + 1) + length rest) → p < k + length (e ∷ rest)
    by true h later = let same : k ≡ p = cc in omega arith
    by false h later = let within : p < (k + 1) + length rest = later h in omega arith

pub place_within : (list : List Declaration) (token place : ℕ) → place_of list token ≡ Some place → place < length list
place_within list token place is = let within : place < 0 + length list = place_from (λ x. x.name.site.token == token) 0 list place is in omega arith

pub found_at : (list : List Declaration) (token place : ℕ) (d : Declaration) → place_of list token ≡ Some place → slice_get list place ≡ Some d → Some d ≡ declared_at list token
found_at list token place d is at = sym (declared_place list token ∙ ap (option_and_then (slice_get list)) is ∙ at)

pub none_at : (list : List Declaration) (token : ℕ) → place_of list token ≡ None → None ≡ declared_at list token
none_at list token is = sym (declared_place list token ∙ ap (option_and_then (slice_get list)) is)
