-- What threads get: which functions are spawned; and that it can be determined which globals they touch.
use Rattle.sharc_check.proofs.{Imports.{◌≡◌, ⊎_elim, ℕ, ◌==◌, Bool, true, false, List, [], ◌∷◌, refl, ap, sym, ◌∙◌, subst, eqb-true, Contains, false≢true, Contains-append_left, Contains-append_right, Contains-append_cases, flat_map, in_function, Named, spawns, of_all, Spawns, Resolution, functions_in, function_at, named_at, Sharing, private, readonly, locked, racy, dynamic, names_function, all_spawned, is_spawned, has_private_target, equal_number as same_number, some_there, and_some as there_some, head_there, head_or_tail, place_of_element, place_there, tail_there, none_there}, Lists.{passes_there, passes_by}}
use Rattle.sharc_ctype.specs.Reaches.{Names}

-- ---- words on lists

pub flat_there : {A B : Type 0} (f : A → List B) (list : List A) (x : A) (y : B) → Contains list x → Contains (f x) y → Contains (flat_map f list) y
flat_there f [] x y has in_it = absurd (none_there x has)
flat_there f (z ∷ rest) x y has in_it =
    ⊎_elim
    (λ is. Contains-append_left (f z) (flat_map f rest) y (subst (λ k. Contains (f k) y) (sym is) in_it))
    (λ later. Contains-append_right (f z) (flat_map f rest) y (flat_there f rest x y later in_it))
    (head_or_tail z x rest has)

next_flat : {A B : Type 0} (f : A → List B) (z : A) (rest : List A) (y : B) → (x : A) × Contains rest x × Contains (f x) y → (x : A) × Contains (z ∷ rest) x × Contains (f x) y
next_flat f z rest y found = (found.0, tail_there z found.0 rest found.1, found.2)

pub flat_from : {A B : Type 0} (f : A → List B) (list : List A) (y : B) → Contains (flat_map f list) y → (x : A) × Contains list x × Contains (f x) y
flat_from f [] y has = absurd (none_there y has)
flat_from f (z ∷ rest) y has = ⊎_elim (λ here. (z, head_there z rest, here)) (λ later. next_flat f z rest y (flat_from f rest y later)) (Contains-append_cases (f z) (flat_map f rest) y has)

-- ---- names of functions and globals

pub names_is : (n : ℕ) (what : Named) → names_function n what ≡ true → what ≡ Named.Function n
names_is n (Named.Function k) h = ap Named.Function (sym (eqb-true n k h))
names_is n _ h = absurd (false≢true h)

pub is_names : (n : ℕ) (what : Named) → what ≡ Named.Function n → names_function n what ≡ true
is_names n what is = ap (names_function n) is ∙ same_number n

abbrev pub names_global : ℕ → Named → Bool
names_global n (Named.Global k) = n == k
names_global n _ = false

pub global_is : (n : ℕ) (what : Named) → names_global n what ≡ true → what ≡ Named.Global n
global_is n (Named.Global k) h = ap Named.Global (sym (eqb-true n k h))
global_is n _ h = absurd (false≢true h)

pub is_global : (n : ℕ) (what : Named) → what ≡ Named.Global n → names_global n what ≡ true
is_global n what is = ap (names_global n) is ∙ same_number n

-- ---- which functions are spawned

pub spawned_by : (r : Resolution) (n k : ℕ) → Spawns r n k → is_spawned r k ≡ true
spawned_by r n k s =
    let f = some_there (λ f. Names r (Named.Function k) (of_all spawns (in_function f))) (function_at r n) s in
    passes_by (λ token. names_function k (named_at r token)) (all_spawned (functions_in r.program.items)) f.2.0
    (flat_there (λ f. of_all spawns (in_function f)) (functions_in r.program.items) f.0 f.2.0 (place_there (functions_in r.program.items) n f.0 f.1) f.2.1)
    (is_names k (named_at r f.2.0) f.2.2)

pub by_spawned : (r : Resolution) (k : ℕ) → is_spawned r k ≡ true → (n : ℕ) × Spawns r n k
by_spawned r k h =
    let token = passes_there (λ token. names_function k (named_at r token)) (all_spawned (functions_in r.program.items)) h in
    let f = flat_from (λ f. of_all spawns (in_function f)) (functions_in r.program.items) token.0 token.1 in
    let n = place_of_element (functions_in r.program.items) f.0 f.1 in
    (n.0, there_some (λ f. Names r (Named.Function k) (of_all spawns (in_function f))) (function_at r n.0) f.0 n.1 (token.0, f.2, names_is k (named_at r token.0) token.2))

pub private_target : (modes below : List Sharing) → modes ≡ private ∷ below → has_private_target modes ≡ true
private_target modes below is = ap has_private_target is

pub target_private : (modes : List Sharing) → has_private_target modes ≡ true → (below : List Sharing) × (modes ≡ private ∷ below)
target_private (private ∷ below) h = (below, refl)
target_private _ h = absurd (false≢true h)
