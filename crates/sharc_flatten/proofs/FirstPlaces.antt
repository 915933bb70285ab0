-- The place of the first that passes, counted from a number on.
use Rattle.sharc_flatten.proofs.Imports.{◌≡◌, ℕ, suc, ◌+◌, Bool, true, false, cond, List, [], ◌∷◌, length, Option, Some, None, unwrap_or, refl, ap, sym, ◌∙◌, arith, nat_tests, is_position_or_len, nat_lt, position, ◌==◌, if◌then◌else◌, bytes_eq, position_or_len, Declaration}

abbrev pub from_place : {X : Type 0} → (X → Bool) → ℕ → List X → Option ℕ
from_place p n [] = None
from_place p n (x ∷ rest) = cond (p x) (Some n) (from_place p (n + 1) rest)

lt_more : (a b : ℕ) → nat_lt (1 + a) (suc b) ≡ nat_lt a b
lt_more a b = grind (arith, nat_tests)

by : (b : Bool) (P len n : ℕ) (r : Option ℕ) → r ≡ cond (nat_lt P len) (Some (n + 1 + P)) None → cond b (Some n) r ≡ cond (nat_lt (cond b 0 (1 + P)) (suc len)) (Some (n + cond b 0 (1 + P))) None
by true P len n r h =
    let t : nat_lt 0 (suc len) ≡ true = grind (arith, nat_tests) in
    let e : n ≡ n + 0 = omega arith in
    ap Some e ∙ ap (λ b. cond b (Some (n + 0)) None) (sym t)
by false P len n r h =
    let e : n + 1 + P ≡ n + (1 + P) = omega arith in
    h ∙ ap (λ k. cond (nat_lt P len) (Some k) None) e ∙ ap (λ b. cond b (Some (n + (1 + P))) None) (sym (lt_more P len))

-- how many come before the first that passes
abbrev before : {X : Type 0} → (X → Bool) → List X → ℕ
before p [] = 0
before p (x ∷ rest) = cond (p x) 0 (1 + before p rest)

from_place_is : {X : Type 0} (p : X → Bool) (n : ℕ) (xs : List X) → from_place p n xs ≡ cond (nat_lt (before p xs) (length xs)) (Some (n + before p xs)) None
from_place_is p n [] = refl
from_place_is p n (x ∷ rest) = by (p x) (before p rest) (length rest) n (from_place p (n + 1) rest) (from_place_is p (n + 1) rest)

pub from_first : {X : Type 0} (p : X → Bool) (xs : List X) → from_place p 0 xs ≡ position p xs
from_first p xs =
    let same : before p xs ≡ position_or_len p xs = is_position_or_len (before p) p refl (λ _ _. refl) xs in
    let e : 0 + before p xs ≡ before p xs = omega arith in
    from_place_is p 0 xs ∙ ap (λ k. cond (nat_lt (before p xs) (length xs)) (Some k) None) e ∙ ap (λ k. cond (nat_lt k (length xs)) (Some k) None) same

-- ---- the places of fields
abbrev pub place_from : ℕ → List Declaration → ℕ → Option ℕ
place_from n fields token = from_place (λ d. d.name.site.token == token) n fields

abbrev pub named_from : ℕ → List Declaration → List ℕ → ℕ
named_from n [] name = 0
named_from n (d ∷ rest) name = if bytes_eq d.name.text name then n else named_from (n + 1) rest name

chosen : (b : Bool) (n x : ℕ) (o : Option ℕ) → unwrap_or o 0 ≡ x → unwrap_or (cond b (Some n) o) 0 ≡ cond b n x
chosen true n x o h = refl
chosen false n x o h = h

named_from_is : (n : ℕ) (fields : List Declaration) (name : List ℕ) → unwrap_or (from_place (λ d. bytes_eq d.name.text name) n fields) 0 ≡ named_from n fields name
named_from_is n [] name = refl
named_from_is n (d ∷ rest) name = chosen (bytes_eq d.name.text name) n (named_from (n + 1) rest name) (from_place (λ d. bytes_eq d.name.text name) (n + 1) rest) (named_from_is (n + 1) rest name)

pub named_first : (fields : List Declaration) (name : List ℕ) → named_from 0 fields name ≡ unwrap_or (position (λ d. bytes_eq d.name.text name) fields) 0
named_first fields name = sym (named_from_is 0 fields name) ∙ ap (λ o. unwrap_or o 0) (from_first (λ d. bytes_eq d.name.text name) fields)
