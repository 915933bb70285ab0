-- How many references to an object stand in lists, in frames and in states.
use Rattle.sharc_wants_laws.proofs.Imports.{◌≡◌, ℕ, ◌+◌, ◌≤◌, ◌==◌, Bool, true, false, ◌&&◌, cond, List, [], ◌∷◌, ◌++◌, refl, sym, ap, ◌∙◌, arith, take, drop, reverse, flat_map, count_by, eqb-true, append-nil, take-append-drop, true≢false, flat_map-append, is_sum_by, reverse-cons, ℤ, not, AllByRecursion, is_pointer, Resolution, declaration_at, variable_kind, GivenUp, Released, Variable, is_null, number_of, refers, Frame, State, all_released, pointers_among, value_in, with_value, held_by_frame, held_references, releases, released}

-- ---- one reference

pub one : ℕ → ℤ → ℕ
one n v = cond (refers n v) 1 0

pub gone : ℕ → GivenUp → ℕ
gone n g = cond (releases n g) 1 0

both_one : (b c : Bool) → cond (b && c) 1 0 ≤ cond c 1 0
both_one true true = omega arith
both_one true false = omega arith
both_one false true = omega arith
both_one false false = omega arith

pub one_gone : (n : ℕ) (v : ℤ) → one n v ≤ gone n (Released (number_of v))
unfolding one gone
one_gone n v = both_one (not (is_null v)) (number_of v == n)

null_none : (b c : Bool) → b ≡ true → ◌≡◌ {A = ℕ} (cond (not b && c) 1 0) 0
null_none true c h = refl
null_none false c h = absurd (true≢false (sym h))

pub one_null : (n : ℕ) (v : ℤ) → is_null v ≡ true → one n v ≡ 0
unfolding one
one_null n v h = null_none (is_null v) (number_of v == n) h

-- ---- lists

abbrev pub refs : ℕ → List ℤ → ℕ
refs n [] = 0
refs n (v ∷ vs) = one n v + refs n vs

abbrev pub rel : ℕ → List GivenUp → ℕ
rel n [] = 0
rel n (g ∷ gs) = gone n g + rel n gs

-- of variables those that are pointers
abbrev pub vars : ℕ → List Variable → ℕ
vars n [] = 0
vars n (x ∷ xs) = cond x.is_pointer (one n x.value) 0 + vars n xs

pub refs_append : (n : ℕ) (a b : List ℤ) → refs n (a ++ b) ≡ refs n a + refs n b
refs_append n [] b = omega arith
refs_append n (v ∷ a) b = let h : refs n (a ++ b) ≡ refs n a + refs n b = refs_append n a b in omega arith

pub rel_append : (n : ℕ) (a b : List GivenUp) → rel n (a ++ b) ≡ rel n a + rel n b
rel_append n [] b = omega arith
rel_append n (g ∷ a) b = let h : rel n (a ++ b) ≡ rel n a + rel n b = rel_append n a b in omega arith

pub vars_append : (n : ℕ) (a b : List Variable) → vars n (a ++ b) ≡ vars n a + vars n b
vars_append n [] b = omega arith
vars_append n (x ∷ a) b = let h : vars n (a ++ b) ≡ vars n a + vars n b = vars_append n a b in omega arith

pub refs_released : (n : ℕ) (vs : List ℤ) → refs n vs ≤ rel n (all_released vs)
refs_released n [] = omega arith
refs_released n (v ∷ vs) =
    let h : one n v ≤ gone n (Released (number_of v)) = one_gone n v in
    let k : refs n vs ≤ rel n (all_released vs) = refs_released n vs in
    omega arith

pointers_more : (n : ℕ) (b : Bool) (v : ℤ) (vs : List ℤ) → refs n (cond b (v ∷ vs) vs) ≡ cond b (one n v) 0 + refs n vs
pointers_more n true v vs = refl
pointers_more n false v vs = omega arith

pub refs_pointers : (n : ℕ) (xs : List Variable) → refs n (pointers_among xs) ≡ vars n xs
refs_pointers n [] = refl
refs_pointers n (x ∷ xs) = pointers_more n x.is_pointer x.value (pointers_among xs) ∙ ap (λ z. cond x.is_pointer (one n x.value) 0 + z) (refs_pointers n xs)

-- what is cut off is given up

pub cut_temporaries : (n k : ℕ) (ts : List ℤ) (gs : List GivenUp) → refs n ts + rel n gs ≤ refs n (take k ts) + rel n (gs ++ all_released (drop k ts))
cut_temporaries n k ts gs =
    let whole : refs n (take k ts ++ drop k ts) ≡ refs n ts = ap (refs n) (take-append-drop k ts) in
    let parts : refs n (take k ts ++ drop k ts) ≡ refs n (take k ts) + refs n (drop k ts) = refs_append n (take k ts) (drop k ts) in
    let given : rel n (gs ++ all_released (drop k ts)) ≡ rel n gs + rel n (all_released (drop k ts)) = rel_append n gs (all_released (drop k ts)) in
    let off : refs n (drop k ts) ≤ rel n (all_released (drop k ts)) = refs_released n (drop k ts) in
    omega arith

pub cut_variables : (n k : ℕ) (xs : List Variable) (gs : List GivenUp) → vars n xs + rel n gs ≤ vars n (take k xs) + rel n (gs ++ all_released (pointers_among (drop k xs)))
cut_variables n k xs gs =
    let whole : vars n (take k xs ++ drop k xs) ≡ vars n xs = ap (vars n) (take-append-drop k xs) in
    let parts : vars n (take k xs ++ drop k xs) ≡ vars n (take k xs) + vars n (drop k xs) = vars_append n (take k xs) (drop k xs) in
    let pointers : refs n (pointers_among (drop k xs)) ≡ vars n (drop k xs) = refs_pointers n (drop k xs) in
    let given : rel n (gs ++ all_released (pointers_among (drop k xs))) ≡ rel n gs + rel n (all_released (pointers_among (drop k xs))) = rel_append n gs (all_released (pointers_among (drop k xs))) in
    let off : refs n (pointers_among (drop k xs)) ≤ rel n (all_released (pointers_among (drop k xs))) = refs_released n (pointers_among (drop k xs)) in
    omega arith

-- ---- variables that are set

-- each is a pointer exactly where its declaration says so
abbrev pub Declared : Resolution → Variable → Type 0
Declared r x = x.is_pointer ≡ is_pointer (variable_kind (declaration_at r x.token))

at_most_one : (p : Bool) (k : ℕ) → cond p k 0 ≤ k
at_most_one true k = omega arith
at_most_one false k = omega arith

set_here : (n : ℕ) (b : Bool) (y : Variable) (rest rest' : List Variable) (v old : ℤ) → vars n rest ≤ vars n rest' + one n old
    → vars n (y ∷ rest) ≤ vars n (cond b (record y { value = v } ∷ rest) (y ∷ rest')) + one n (cond b y.value old)
set_here n true y rest rest' v old h = let k : cond y.is_pointer (one n y.value) 0 ≤ one n y.value = at_most_one y.is_pointer (one n y.value) in omega arith
set_here n false y rest rest' v old h = omega arith

-- the old value is lost, and no more
pub set_loses : (n : ℕ) (xs : List Variable) (x : ℕ) (v : ℤ) → vars n xs ≤ vars n (with_value xs x v) + one n (value_in xs x)
set_loses n [] x v = omega arith
set_loses n (y ∷ rest) x v = set_here n (y.token == x) y rest (with_value rest x v) v (value_in rest x) (set_loses n rest x v)

no_pointer : (p : Bool) (k : ℕ) → p ≡ false → cond p k 0 ≡ 0
no_pointer true k h = absurd (true≢false h)
no_pointer false k h = refl

set_plain : (n : ℕ) (b : Bool) (y : Variable) (rest rest' : List Variable) (v : ℤ) → (b ≡ true → y.is_pointer ≡ false) → vars n rest ≤ vars n rest' → vars n (y ∷ rest) ≤ vars n (cond b (record y { value = v } ∷ rest) (y ∷ rest'))
set_plain n true y rest rest' v h k = let none : cond y.is_pointer (one n y.value) 0 ≡ 0 = no_pointer y.is_pointer (one n y.value) (h refl) in omega arith
set_plain n false y rest rest' v h k = omega arith

-- of a variable that is no pointer nothing is
pub set_keeps : (r : Resolution) (n : ℕ) (xs : List Variable) (x : ℕ) (v : ℤ) → AllByRecursion (Declared r) xs → is_pointer (variable_kind (declaration_at r x)) ≡ false → vars n xs ≤ vars n (with_value xs x v)
set_keeps r n [] x v h plain = omega arith
set_keeps r n (y ∷ rest) x v h plain = set_plain n (y.token == x) y rest (with_value rest x v) v
    (λ same. h.0 ∙ ap (λ t. is_pointer (variable_kind (declaration_at r t))) (eqb-true y.token x same) ∙ plain) (set_keeps r n rest x v h.1 plain)

set_declared : (r : Resolution) (b : Bool) (y : Variable) (rest rest' : List Variable) (v : ℤ) → Declared r y → AllByRecursion (Declared r) rest → AllByRecursion (Declared r) rest' → AllByRecursion (Declared r) (cond b (record y { value = v } ∷ rest) (y ∷ rest'))
set_declared r true y rest rest' v own h k = (own, h)
set_declared r false y rest rest' v own h k = (own, k)

pub still_declared : (r : Resolution) (xs : List Variable) (x : ℕ) (v : ℤ) → AllByRecursion (Declared r) xs → AllByRecursion (Declared r) (with_value xs x v)
still_declared r [] x v h = tt
still_declared r (y ∷ rest) x v h = set_declared r (y.token == x) y rest (with_value rest x v) v h.0 h.1 (still_declared r rest x v h.1)

-- ---- states

abbrev pub outer : ℕ → List Frame → ℕ
outer n [] = 0
outer n (f ∷ rest) = outer n rest + (vars n f.variables + refs n f.temporaries)

-- the references to the object that are held or were given up
abbrev pub total : ℕ → State → ℕ
total n s = outer n s.callers + (vars n s.frame.variables + refs n s.frame.temporaries) + rel n s.given_up

refs_frame : (n : ℕ) (f : Frame) → refs n (held_by_frame f) ≡ vars n f.variables + refs n f.temporaries
refs_frame n f = refs_append n (pointers_among f.variables) f.temporaries ∙ ap (λ z. z + refs n f.temporaries) (refs_pointers n f.variables)

refs_outer : (n : ℕ) (fs : List Frame) → refs n (flat_map held_by_frame (reverse fs)) ≡ outer n fs
refs_outer n [] = refl
refs_outer n (f ∷ rest) =
    let one_more : flat_map held_by_frame (reverse rest ++ f ∷ []) ≡ flat_map held_by_frame (reverse rest) ++ (held_by_frame f ++ []) = flat_map-append held_by_frame (reverse rest) (f ∷ []) in
    let parts : refs n (flat_map held_by_frame (reverse rest) ++ (held_by_frame f ++ [])) ≡ refs n (flat_map held_by_frame (reverse rest)) + refs n (held_by_frame f ++ []) = refs_append n (flat_map held_by_frame (reverse rest)) (held_by_frame f ++ []) in
    let own : refs n (held_by_frame f ++ []) ≡ vars n f.variables + refs n f.temporaries = ap (refs n) (append-nil (held_by_frame f)) ∙ refs_frame n f in
    let others : refs n (flat_map held_by_frame (reverse rest)) ≡ outer n rest = refs_outer n rest in
    let whole : refs n (flat_map held_by_frame (reverse (f ∷ rest))) ≡ refs n (flat_map held_by_frame (reverse rest) ++ (held_by_frame f ++ [])) = ap (λ z. refs n (flat_map held_by_frame z)) (reverse-cons f rest) ∙ ap (refs n) one_more in
    omega arith

count_refs : (n : ℕ) (vs : List ℤ) → refs n vs ≡ count_by (refers n) vs
unfolding one
count_refs n vs = is_sum_by (refs n) (λ v. cond (refers n v) 1 0) refl (λ v rest. refl) vs

count_rel : (n : ℕ) (gs : List GivenUp) → rel n gs ≡ released n gs
unfolding gone
count_rel n gs = is_sum_by (rel n) (λ g. cond (releases n g) 1 0) refl (λ g rest. refl) gs

-- by the words of the law
pub total_is : (n : ℕ) (s : State) → count_by (refers n) (held_references s) + released n s.given_up ≡ total n s
total_is n s =
    let held : refs n (held_references s) ≡ count_by (refers n) (held_references s) = count_refs n (held_references s) in
    let given : rel n s.given_up ≡ released n s.given_up = count_rel n s.given_up in
    let parts : refs n (held_references s) ≡ refs n (flat_map held_by_frame (reverse s.callers)) + refs n (held_by_frame s.frame) = refs_append n (flat_map held_by_frame (reverse s.callers)) (held_by_frame s.frame) in
    let others : refs n (flat_map held_by_frame (reverse s.callers)) ≡ outer n s.callers = refs_outer n s.callers in
    let own : refs n (held_by_frame s.frame) ≡ vars n s.frame.variables + refs n s.frame.temporaries = refs_frame n s.frame in
    omega arith
