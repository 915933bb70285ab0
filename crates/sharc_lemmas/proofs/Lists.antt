-- Lists, and predicates of all their elements.
use Rattle.sharc_lemmas.proofs.{Equal.none_there, Options.same_some}
use Rattle.std.proofs.{Common.{Bool, Contains, Err, IfSome, List, None, Ok, OnOk, Option, Result, Some, [], add-one, ap, arith, below_more, cond, drop, drop-cons, false, filter, get_or, inl, inr, is_some, length, map, refl, reverse, rules, slice_index_or, subst, suc, sym, take, true, unwrap_or, zero, ℕ, ⊎_elim, ◌++◌, ◌+◌, ◌-◌, ◌<◌, ◌∙◌, ◌∷◌, ◌≡◌, ◌≤◌, ◌⊎◌}, KnownBytes.Appends-trans, lemmas.Bool.{cases_lt, false≢true}, lemmas.List.{drop_more, get_or-set_same, get_or_append_left, get_or_past, get_or_push, length-set, reverse-append}, lemmas.List.Elements.{Contains-append_left, Contains-append_right, Contains-push, filter-append}, lemmas.Option.{get_or_from_slice_get, slice_get_past, slice_get_within}, lemmas.Slice.Eq.bytes_eq-Decides}
use Rattle.std.specs.{Io.KnownBytes.Appends, List.{AllByRecursion, flat_map, list_any, range_with_len}, Prelude.{find, if◌then◌else◌, replicate, slice_get, slice_index, slice_set, ◌||◌}, Result.is_ok, Str.bytes_eq}
use lib.Seq.{take-add}

pub front : {A : Type 0} (P : A → Type 0) (a b : List A) → AllByRecursion P (a ++ b) → AllByRecursion P a
front P [] b all = tt
front P (x ∷ a) b all = (all.0, front P a b all.1)

pub back : {A : Type 0} (P : A → Type 0) (a b : List A) → AllByRecursion P (a ++ b) → AllByRecursion P b
back P [] b h = h
back P (x ∷ rest) b h = back P rest b h.1

pub both : {A : Type 0} (P : A → Type 0) (a b : List A) → AllByRecursion P a → AllByRecursion P b → AllByRecursion P (a ++ b)
both P [] b ha hb = hb
both P (x ∷ rest) b ha hb = (ha.0, both P rest b ha.1 hb)

pub there_is : {A : Type 0} (a : List A) (i : ℕ) (x : A) → slice_get a i ≡ Some x → i < length a
there_is a i x h = ⊎_elim (λ (lt : i < length a). lt) (λ (le : length a ≤ i). let p = slice_get_past a i le in absurd (cc)) (cases_lt i (length a))

pub each : {A : Type 0} (P Q : A → Type 0) → ((x : A) → P x → Q x) → (list : List A) → AllByRecursion P list → AllByRecursion Q list
each P Q f [] h = tt
each P Q f (x ∷ rest) h = (f x h.0, each P Q f rest h.1)

pub set_here : (words : List ℕ) (n v : ℕ) → n < length words → slice_index (slice_set words n v) n ≡ v
set_here [] n v lt = absurd (omega arith)
set_here (w ∷ ws) zero v lt = refl
set_here (w ∷ ws) (suc n) v lt = set_here ws n v (omega arith)

pub any_default : {X : Type 0} (xs : List X) (i : ℕ) (d e : X) → i < length xs → get_or xs i d ≡ get_or xs i e
any_default [] i d e h = absurd (omega (arith, h))
any_default (x ∷ xs) zero d e h = refl
any_default (x ∷ xs) (suc i) d e h = any_default xs i d e (omega (arith, h))

pub map_length : {A B : Type 0} (f : A → B) (list : List A) → length (map f list) ≡ length list
map_length f [] = refl
map_length f (x ∷ rest) = ap suc (map_length f rest)

pub set_same : (words : List ℕ) (n v : ℕ) → v ≡ slice_index words n → slice_index (slice_set words n v) n ≡ slice_index words n
set_same [] n v e = refl
set_same (w ∷ ws) zero v e = e
set_same (w ∷ ws) (suc n) v e = set_same ws n v e

pub same_name : (a b : List ℕ) → bytes_eq a b ≡ true → a ≡ b
same_name a b e = (bytes_eq-Decides a b).0 e

pub range_more : (a n : ℕ) → range_with_len a (suc n) ≡ range_with_len a n ++ (a + n) ∷ []
range_more a zero = ap (λ k. k ∷ []) (omega arith)
range_more a (suc n) = ap (λ xs. a ∷ xs) (range_more (a + 1) n ∙ ap (λ k. range_with_len (a + 1) n ++ k ∷ []) (omega arith))

pub all_null : (n k : ℕ) → slice_index (replicate n 0) k ≡ 0
all_null zero k = refl
all_null (suc n) zero = refl
all_null (suc n) (suc k) = all_null n k

pub first_of_rest : {A : Type 0} (list : List A) (i : ℕ) (e : A) → i < length list → e ≡ get_or list i e → drop i list ≡ e ∷ drop (i + 1) list
first_of_rest list i e below is = drop-cons list i e below ∙ ap (λ n. get_or list i e ∷ drop n list) (sym (add-one i)) ∙ ap (λ x. x ∷ drop (i + 1) list) (sym is)

pub at_place : {A : Type 0} (P : A → Type 0) (list : List A) (n : ℕ) (x : A) → AllByRecursion P list → slice_get list n ≡ Some x → P x
at_place P [] n x all is = absurd (false≢true (ap is_some is))
at_place P (y ∷ rest) zero x all is = subst P (same_some y x is) all.0
at_place P (y ∷ rest) (suc n) x all is = at_place P rest n x all.1 is

pub head_there : {A : Type 0} (x : A) (rest : List A) → Contains (x ∷ rest) x
head_there x rest = (zero, omega arith, refl)

pub reverse_cons : {A : Type 0} (x : A) (xs : List A) → reverse (x ∷ xs) ≡ reverse xs ++ x ∷ []
reverse_cons x xs = reverse-append (x ∷ []) xs

pub cases_at : {A : Type 0} (y x : A) (rest : List A) (k : ℕ) → k < length (y ∷ rest) → slice_index_or (y ∷ rest) k x ≡ x → (y ≡ x) ⊎ Contains rest x
cases_at y x rest zero inside is = inl is
cases_at y x rest (suc k) inside is = inr (k, omega arith, is)

pub head_or_tail : {A : Type 0} (y x : A) (rest : List A) → Contains (y ∷ rest) x → (y ≡ x) ⊎ Contains rest x
head_or_tail y x rest has = cases_at y x rest has.0 has.1 has.2

pub together : {A : Type 0} (P Q R : A → Type 0) → ((x : A) → P x → Q x → R x) → (list : List A) → AllByRecursion P list → AllByRecursion Q list → AllByRecursion R list
together P Q R f [] h k = tt
together P Q R f (x ∷ rest) h k = (f x h.0 k.0, together P Q R f rest h.1 k.1)

pub map_both : {A B : Type 0} (f : A → B) (a b : List A) → map f (a ++ b) ≡ map f a ++ map f b
map_both f [] b = refl
map_both f (x ∷ a) b = ap (λ z. f x ∷ z) (map_both f a b)

pub fails : (b : Bool) (n : ℕ) → b ≡ false → (if b then n ∷ [] else []) ≡ []
fails true n e = cc
fails false n e = refl

pub passes : (b : Bool) (n : ℕ) → b ≡ true → (if b then n ∷ [] else []) ≡ n ∷ []
passes true n e = refl
passes false n e = cc

pub set_null : (l : List ℕ) (n : ℕ) → slice_index (slice_set l n 0) n ≡ 0
set_null l n = ⊎_elim (λ (lt : n < length l). get_or-set_same l n 0 0 lt) (λ (le : length l ≤ n). get_or_past (slice_set l n 0) n 0 (let e = length-set l n 0 in omega arith)) (cases_lt n (length l))

pub bytes_same : (a : List ℕ) → bytes_eq a a ≡ true
bytes_same a = (bytes_eq-Decides a a).1 refl

pub nothing : (xs : List ℕ) → length xs ≡ 0 → xs ≡ []
nothing [] e = refl
nothing (x ∷ xs) e = absurd (omega (arith, e))

pub told_left : (left : Option (List ℕ)) → IfSome left (λ bytes. unwrap_or left [] ≡ bytes)
told_left None = tt
told_left (Some bytes) = refl

pub up_to : (p : ℕ → Bool) (n : ℕ) → filter p (range_with_len 0 (n + 1)) ≡ filter p (range_with_len 0 n) ++ (if p n then n ∷ [] else [])
up_to p n =
    ap (λ k. filter p (range_with_len 0 k)) (let e : n + 1 ≡ suc n = omega arith in e)
    ∙ ap (filter p) (range_more 0 n ∙ ap (λ k. range_with_len 0 n ++ k ∷ []) (let e : 0 + n ≡ n = omega arith in e))
    ∙ filter-append p (range_with_len 0 n) (n ∷ [])

pub same_bytes : (a b : List ℕ) → a ≡ b → bytes_eq a b ≡ true
same_bytes a b h = search (rules, bytes_eq-Decides a b)

pub filter_agrees : (f g : ℕ → Bool) (xs : List ℕ) → ((t : ℕ) → f t ≡ g t) → filter f xs ≡ filter g xs
filter_agrees f g [] same = refl
filter_agrees f g (x ∷ xs) same = ap (λ b. if b then x ∷ filter f xs else filter f xs) (same x) ∙ ap (λ (ys : List ℕ). if g x then x ∷ ys else ys) (filter_agrees f g xs same)

pub later : (n t : ℕ) (list : List ℕ) → Contains list t → Contains (n ∷ list) t
later n t list (k, low, is) = (suc k, omega (arith, low), is)

pub appends_front_more : (a b c : Option (List ℕ)) (bytes : List ℕ) (m n : ℕ)
    → Appends a b (take m bytes) → Appends b c (take n (drop m bytes)) → Appends a c (take (m + n) bytes)
appends_front_more a b c bytes m n before more =
    subst (Appends a c) (sym (take-add m n bytes)) (Appends-trans a b c _ _ before more)

pub pick : {A : Type 0} (c : Bool) (x : A) (l l1 l2 : List A) → l ≡ l1 ++ l2 → cond c (x ∷ l) l ≡ cond c (x ∷ l1) l1 ++ l2
pick true x l l1 l2 e = ap (λ z. x ∷ z) e
pick false x l l1 l2 e = e

pub some_within : {X : Type 0} (xs : List (Option X)) (n : ℕ) (x : X) → get_or xs n None ≡ Some x → n < length xs
some_within [] n x e = absurd (let h : None ≡ Some x = e in cc)
some_within (y ∷ ys) zero x e = omega arith
some_within (y ∷ ys) (suc n) x e = let h = some_within ys n x e in omega (arith, h)

pub next_place : {A : Type 0} (y x : A) (rest : List A) → (k : ℕ) × (slice_get rest k ≡ Some x) → (k : ℕ) × (slice_get (y ∷ rest) k ≡ Some x)
next_place y x rest found = (suc found.0, found.1)

pub place_of_element : {A : Type 0} (list : List A) (x : A) → Contains list x → (k : ℕ) × (slice_get list k ≡ Some x)
place_of_element [] x has = absurd (none_there x has)
place_of_element (y ∷ rest) x has = ⊎_elim (λ is. (zero, ap Some is)) (λ later. next_place y x rest (place_of_element rest x later)) (head_or_tail y x rest has)

pub length_push : {X : Type 0} (a : List X) (x : X) → length (a ++ x ∷ []) ≡ suc (length a)
length_push [] x = refl
length_push (y ∷ a) x = ap suc (length_push a x)

pub in_list : {A : Type 0} (l : List A) (n : ℕ) (f : A) → slice_get l n ≡ Some f → Contains l f
in_list [] n f e = absurd (cc)
in_list (g ∷ l) zero f e = let same : g ≡ f = cc in subst (λ z. Contains (g ∷ l) z) same (Contains-append_left (g ∷ []) l g (Contains-push [] g))
in_list (g ∷ l) (suc n) f e = Contains-append_right (g ∷ []) l f (in_list l n f e)

pub got : {X : Type 0} (xs : List X) (n : ℕ) (x : X) → slice_get xs n ≡ Some x → drop n xs ≡ x ∷ drop (n + 1) xs
got xs n x is = drop_more xs n x (slice_get_within xs n x is) ∙ ap (λ y. y ∷ drop (n + 1) xs) (get_or_from_slice_get xs n x x is)

pub same_or : {X : Type 0} (xs : List X) (k : ℕ) (d e : X) → k < length xs → slice_index_or xs k d ≡ slice_index_or xs k e
same_or [] k d e lt = absurd (omega arith)
same_or (x ∷ xs) zero d e lt = refl
same_or (x ∷ xs) (suc k) d e lt = same_or xs k d e (omega arith)

pub some_there : {A : Type 0} (list : List A) (k : ℕ) → k < length list → (x : A) × (slice_get list k ≡ Some x)
some_there [] k low = absurd (omega (arith, low))
some_there (x ∷ rest) zero low = (x, refl)
some_there (x ∷ rest) (suc k) low = some_there rest k (omega (arith, low))

pub find_none : {A : Type 0} (p : A → Bool) (xs ys : List A) → list_any p xs ≡ false → find p (xs ++ ys) ≡ find p ys
find_none p [] ys h = refl
find_none p (x ∷ xs) ys h = by_case (find_none p xs ys) (p x) refl
  where
    by_case : (list_any p xs ≡ false → find p (xs ++ ys) ≡ find p ys) → (b : Bool) → p x ≡ b → (if p x then Some x else find p (xs ++ ys)) ≡ find p ys
    by_case more true i = absurd (let z : true ≡ false = sym (ap (λ z. z || list_any p xs) i) ∙ h in cc)
    by_case more false i = ap (λ z. if z then Some x else find p (xs ++ ys)) i ∙ more (sym (ap (λ z. z || list_any p xs) i) ∙ h)

pub of_each : {A : Type 0} (P : A → Type 0) (list : List A) (x : A) → AllByRecursion P list → Contains list x → P x
of_each P [] x h has = absurd (none_there x has)
of_each P (y ∷ rest) x h has = ⊎_elim (λ is. subst P is h.0) (λ later. of_each P rest x h.1 later) (head_or_tail y x rest has)

pub tail_there : {A : Type 0} (y x : A) (rest : List A) → Contains rest x → Contains (y ∷ rest) x
tail_there y x rest has = let inside = has.1 in (suc has.0, omega arith, has.2)

pub to_each : {A : Type 0} (P : A → Type 0) (list : List A) → ((x : A) → Contains list x → P x) → AllByRecursion P list
to_each P [] h = tt
to_each P (y ∷ rest) h = (h y (head_there y rest), to_each P rest (λ x has. h x (tail_there y x rest has)))

pub contains_behind : {X : Type 0} (y : X) (rest : List X) (x : X) → Contains rest x → Contains (y ∷ rest) x
contains_behind y rest x has = let inside = has.1 in (suc has.0, omega arith, has.2)

pub no_cons : {A : Type 0} (x : A) (xs : List A) → [] ≡ x ∷ xs → ⊥
no_cons x xs h = cc

pub no_head : {A : Type 0} (x : A) (rest : List A) → x ∷ rest ≡ [] → ⊥
no_head x rest h = cc

pub front_got : {A : Type 0} (a b : List A) (k : ℕ) → k < length a → slice_get (a ++ b) k ≡ slice_get a k
front_got [] b k h = absurd (omega (arith, h))
front_got (x ∷ a) b zero h = refl
front_got (x ∷ a) b (suc k) h = front_got a b k (omega (arith, h))

pub parts : {A : Type 0} (a b : List A) → a ++ b ≡ [] → (a ≡ []) × (b ≡ [])
parts [] b h = (refl, h)
parts (x ∷ rest) b h = absurd (no_head x (rest ++ b) h)

pub taken : {T E : Type 0} (answer : Result T E) (new a b : List ℕ) → new ≡ cond (is_ok answer) a b → OnOk answer (new ≡ a)
taken (Ok x) new a b h = h
taken (Err e) new a b h = tt

pub none_of : {A B : Type 0} (f : A → List B) (xs : List A) → flat_map f xs ≡ [] → AllByRecursion (λ x. f x ≡ []) xs
none_of f [] h = tt
none_of f (x ∷ xs) h = let p = parts (f x) (flat_map f xs) h in (p.0, none_of f xs p.1)

pub map_take : {A B : Type 0} (f : A → B) (n : ℕ) (xs : List A) → map f (take n xs) ≡ take n (map f xs)
map_take f zero xs = refl
map_take f (suc n) [] = refl
map_take f (suc n) (x ∷ xs) = ap (λ z. f x ∷ z) (map_take f n xs)

pub mapped_each : {A B : Type 0} (P : B → Type 0) (f : A → B) (list : List A) → AllByRecursion (λ x. P (f x)) list → AllByRecursion P (map f list)
mapped_each P f [] h = tt
mapped_each P f (x ∷ rest) h = (h.0, mapped_each P f rest h.1)

pub pushed : {A B : Type 0} (P : ℕ → A → B → Type 0) (xs : List A) (ys : List B) (n : ℕ) (x : A) (y : B) (more : List A) (too : List B) → length xs ≡ n → length ys ≡ n
    → more ≡ xs ++ x ∷ [] → too ≡ ys ++ y ∷ []
    → ((m : ℕ) (a : A) (b : B) → m < n → P m (get_or xs m a) (get_or ys m b)) → P n x y
    → (m : ℕ) (a : A) (b : B) → m < n + 1 → P m (get_or more m a) (get_or too m b)
pushed P xs ys n x y more too e f is also each this m a b h =
    below_more (λ k. P k (get_or more k a) (get_or too k b)) n
    (λ k low.
    let p : get_or more k a ≡ get_or xs k a = ap (λ zs. get_or zs k a) is ∙ get_or_append_left xs (x ∷ []) a k (omega (arith, e, low)) in
    let q : get_or too k b ≡ get_or ys k b = ap (λ zs. get_or zs k b) also ∙ get_or_append_left ys (y ∷ []) b k (omega (arith, f, low)) in
    subst (λ v. P k v (get_or too k b)) (sym p) (subst (λ v. P k (get_or xs k a) v) (sym q) (each k a b low)))
    (let p : get_or more n a ≡ x = ap (λ zs. get_or zs n a) is ∙ get_or_push xs x a n e in
    let q : get_or too n b ≡ y = ap (λ zs. get_or zs n b) also ∙ get_or_push ys y b n f in
    subst (λ v. P n v (get_or too n b)) (sym p) (subst (λ v. P n x v) (sym q) this))
    m h

pub flat_same : {A B : Type 0} (f g : A → List B) → ((x : A) → f x ≡ g x) → (xs : List A) → flat_map f xs ≡ flat_map g xs
flat_same f g same [] = refl
flat_same f g same (x ∷ xs) = ap (λ z. z ++ flat_map f xs) (same x) ∙ ap (λ zs. g x ++ zs) (flat_same f g same xs)
