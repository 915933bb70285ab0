-- The place of the first entity that two tokens determine, and the numbers of first positions.
use Rattle.sharc_ctype.proofs.Imports.{◌≡◌, ℕ, suc, ◌+◌, ◌<◌, ◌==◌, ◌&&◌, Bool, true, false, cond, List, [], ◌∷◌, ◌++◌, length, add-one, refl, ap, sym, subst, ◌∙◌, arith, Option, Some, None, is_some, eqb-true, position_from, slice_get, find, option_or, option_map, option_and_then, option_copied, Entity, Numbered, is_told_by, numbered, numbered_from, numbered_at, positions_in, positions_of, row_at, entity_place, EntityRows, HasEntityPlace, HasFirstEntities, entities_of, AreNumbered}
use Rattle.std.proofs.Common.{Bor}

pub or_either : (b : Bool) (k : ℕ) (o p : Option ℕ) → cond b (Some k) (option_or o p) ≡ option_or (cond b (Some k) o) p
or_either true k o p = refl
or_either false k o p = refl

position_end : (t : Numbered → Bool) (k : ℕ) (list : List Numbered) (d : Numbered)
    → position_from t k (list ++ d ∷ []) ≡ option_or (position_from t k list) (cond (t d) (Some (k + length list)) None)
position_end t k [] d = ap (λ n. cond (t d) (Some n) None) (let e : k ≡ k + 0 = omega arith in e)
position_end t k (e ∷ rest) d =
    ap (cond (t e) (Some k)) (position_end t (k + 1) rest d ∙ ap (λ n. option_or (position_from t (k + 1) rest) (cond (t d) (Some n) None)) (let e : (k + 1) + length rest ≡ k + length (e ∷ rest) = omega arith in e))
    ∙ or_either (t e) k (position_from t (k + 1) rest) (cond (t d) (Some (k + length (e ∷ rest))) None)

-- one entity more, at the end
pub entity_pushed : (list : List Numbered) (n : Numbered) (place : ℕ) (old new : EntityRows) → place ≡ length list → HasFirstEntities list old → HasEntityPlace n.entity.token n.entity.last place old new → HasFirstEntities (list ++ n ∷ []) new
entity_pushed list n place old new at first has token last =
    let t = is_told_by token last in
    has token last
    ∙ ap (λ o. option_or o (cond (t n) (Some place) None)) (first token last)
    ∙ ap (λ m. option_or (entity_place list token last) (cond (t n) (Some m) None)) (let e : place ≡ 0 + length list = omega arith in e)
    ∙ sym (position_end t 0 list n)

pub shifted_either : (b : Bool) (k : ℕ) (o : Option ℕ) → cond b (Some (k + 1)) (option_map suc o) ≡ option_map suc (cond b (Some k) o)
shifted_either true k o = ap Some (add-one k)
shifted_either false k o = refl

shifted : (t : Numbered → Bool) (k : ℕ) (list : List Numbered) → position_from t (k + 1) list ≡ option_map suc (position_from t k list)
shifted t k [] = refl
shifted t k (e ∷ rest) = ap (cond (t e) (Some (k + 1))) (shifted t (k + 1) rest) ∙ shifted_either (t e) k (position_from t (k + 1) rest)

behind_one : (e : Numbered) (rest : List Numbered) (o : Option ℕ) → option_and_then (slice_get (e ∷ rest)) (option_map suc o) ≡ option_and_then (slice_get rest) o
behind_one e rest None = refl
behind_one e rest (Some n) = refl

through_either : (b : Bool) (e : Numbered) (rest : List Numbered) (o : Option ℕ) → cond b (Some e) (option_and_then (slice_get (e ∷ rest)) o) ≡ option_and_then (slice_get (e ∷ rest)) (cond b (Some 0) o)
through_either true e rest o = refl
through_either false e rest o = refl

-- the place leads to the entity
found_place : (t : Numbered → Bool) (list : List Numbered) → find t list ≡ option_and_then (slice_get list) (position_from t 0 list)
found_place t [] = refl
found_place t (e ∷ rest) =
    ap (cond (t e) (Some e)) (found_place t rest ∙ sym (behind_one e rest (position_from t 0 rest)) ∙ ap (option_and_then (slice_get (e ∷ rest))) (sym (shifted t 0 rest)))
    ∙ through_either (t e) e rest (position_from t 1 rest)

place_from : (t : Numbered → Bool) (k : ℕ) (list : List Numbered) (p : ℕ) → position_from t k list ≡ Some p → p < k + length list
place_from t k [] p is = let no : None ≡ Some p = is in cc
place_from t k (e ∷ rest) p is = by (t e) is (place_from t (k + 1) rest p)
  where
    by : (b : Bool) → cond b (Some k) (position_from t (k + 1) rest) ≡ Some p → (position_from t (k + 1) rest ≡ Some p → p < (k + 1) + length rest) → p < k + length (e ∷ rest)
    by true h later = let same : k ≡ p = cc in omega arith
    by false h later = let within : p < (k + 1) + length rest = later h in omega arith

pub entity_within : (list : List Numbered) (token last place : ℕ) → entity_place list token last ≡ Some place → place < length list
entity_within list token last place is = let within : place < 0 + length list = place_from (is_told_by token last) 0 list place is in omega arith

pub entity_found : (list : List Numbered) (token last place : ℕ) (n : Numbered) → list ≡ numbered (entities_of list) → entity_place list token last ≡ Some place → slice_get list place ≡ Some n → Some n ≡ numbered_at (entities_of list) token last
entity_found list token last place n numbers is at =
    sym (found_place (is_told_by token last) list ∙ ap (option_and_then (slice_get list)) is ∙ at) ∙ ap (find (is_told_by token last)) numbers

pub no_entity : (list : List Numbered) (token last : ℕ) → list ≡ numbered (entities_of list) → entity_place list token last ≡ None → None ≡ numbered_at (entities_of list) token last
no_entity list token last numbers is =
    sym (found_place (is_told_by token last) list ∙ ap (option_and_then (slice_get list)) is) ∙ ap (find (is_told_by token last)) numbers

or_none : (o : Option ℕ) → o ≡ option_or o None
or_none None = refl
or_none (Some n) = refl

-- a row that the table did not have is written
pub row_written : (old new : EntityRows) (token last place : ℕ) → row_at old token last ≡ None
    → ((q : ℕ × ℕ) → row_at new q.0 q.1 ≡ cond (token == q.0 && last == q.1) (Some place) (row_at old q.0 q.1)) → HasEntityPlace token last place old new
row_written old new token last place none has q p = has (q, p) ∙ by (token == q) (last == p) (eqb-true token q) (eqb-true last p)
  where
    by : (a b : Bool) → (a ≡ true → token ≡ q) → (b ≡ true → last ≡ p) → cond (a && b) (Some place) (row_at old q p) ≡ option_or (row_at old q p) (cond (a && b) (Some place) None)
    by true true h k = let here : row_at old q p ≡ None = subst (λ x. row_at old x p ≡ None) (h refl) (subst (λ y. row_at old token y ≡ None) (k refl) none) in ap (λ o. option_or o (Some place)) (sym here)
    by true false h k = or_none (row_at old q p)
    by false true h k = or_none (row_at old q p)
    by false false h k = or_none (row_at old q p)

-- what lends nothing has no copy
pub none_copied : {A : Type 0} (o : Option (Bor A)) → is_some o ≡ false → option_copied o ≡ None
none_copied None h = refl
none_copied (Some x) h = let no : true ≡ false = h in cc

-- the numbers of first positions

numbered_end : (n : ℕ) (list : List Entity) (e : Entity) → numbered_from n (list ++ e ∷ []) ≡ numbered_from n list ++ record { entity = e; first = n + positions_in list } ∷ []
numbered_end n [] e = ap (λ m. record { entity = e; first = m } ∷ []) (let same : n ≡ n + 0 = omega arith in same)
numbered_end n (d ∷ rest) e =
    ap (λ l. record { entity = d; first = n } ∷ l) (numbered_end (n + positions_of d) rest e ∙ ap (λ m. numbered_from (n + positions_of d) rest ++ record { entity = e; first = m } ∷ []) (let same : (n + positions_of d) + positions_in rest ≡ n + positions_in (d ∷ rest) = omega arith in same))

positions_end : (list : List Entity) (e : Entity) → positions_in (list ++ e ∷ []) ≡ positions_in list + positions_of e
positions_end [] e = let same : positions_of e + 0 ≡ 0 + positions_of e = omega arith in same
positions_end (d ∷ rest) e = let later = positions_end rest e in let same : positions_of d + positions_in (rest ++ e ∷ []) ≡ (positions_of d + positions_in rest) + positions_of e = omega arith in same

pub entities_end : (list : List Numbered) (n : Numbered) → entities_of (list ++ n ∷ []) ≡ entities_of list ++ n.entity ∷ []
entities_end [] n = refl
entities_end (m ∷ rest) n = ap (λ l. m.entity ∷ l) (entities_end rest n)

-- one entity more, at the end
pub numbered_pushed : (list : List Numbered) (e : Entity) (old new : ℕ) → AreNumbered list old → new ≡ old + positions_of e → AreNumbered (list ++ record { entity = e; first = old } ∷ []) new
numbered_pushed list e old new h is =
    let n : Numbered = record { entity = e; first = old } in
    record {
      numbers =
          ap (λ l. l ++ n ∷ []) h.numbers
          ∙ ap (λ m. numbered (entities_of list) ++ record { entity = e; first = m } ∷ []) (let same : old ≡ 0 + positions_in (entities_of list) = omega (arith, h.count) in same)
          ∙ sym (numbered_end 0 (entities_of list) e)
          ∙ ap numbered (sym (entities_end list n));
      count =
          is ∙ ap (λ m. m + positions_of e) h.count ∙ sym (positions_end (entities_of list) e) ∙ ap positions_in (sym (entities_end list n));
    }
