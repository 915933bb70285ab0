-- What holds of each element of a list, and what is an element.
use Rattle.sharc_accepted_laws.proofs.Imports.{◌≡◌, ⊎_elim, List, [], ◌∷◌, refl, ap, sym, ◌∙◌, subst, Option, Some, None, Contains, left_there, right_there, AllByRecursion, flat_map, filter_map, expressions, Expression, head_there, head_or_tail, to_each, tail_there, none_there}
use Rattle.sharc_tree.specs.Tree as tree

-- of what each element gives
pub flat_there : {A B : Type 0} (f : A → List B) (list : List A) (x : A) (y : B) → Contains list x → Contains (f x) y → Contains (flat_map f list) y
flat_there f [] x y has in_it = absurd (none_there x has)
flat_there f (z ∷ rest) x y has in_it = ⊎_elim
    (λ is. left_there (f z) (flat_map f rest) y (subst (λ k. Contains (f k) y) (sym is) in_it))
    (λ later. right_there (f z) (flat_map f rest) y (flat_there f rest x y later in_it))
    (head_or_tail z x rest has)

pub filter_there : {A B : Type 0} (p : A → Option B) (list : List A) (x : A) (y : B) → Contains list x → p x ≡ Some y → Contains (filter_map p list) y
filter_there {B = B} p [] x y has is = absurd (none_there x has)
filter_there {B = B} p (z ∷ rest) x y has is = ⊎_elim (λ (same : z ≡ x). here (ap p same ∙ is)) (λ later. by (p z) refl (filter_there p rest x y later is)) (head_or_tail z x rest has)
  where
    here : p z ≡ Some y → Contains (filter_map p (z ∷ rest)) y
    here e = rw e (head_there y (filter_map p rest))

    by : (o : Option B) → p z ≡ o → Contains (filter_map p rest) y → Contains (filter_map p (z ∷ rest)) y
    by None e more = rw e more
    by (Some w) e more = rw e (tail_there w y (filter_map p rest) more)

-- each element of a list is one of it
pub own_elements : {A : Type 0} (list : List A) → AllByRecursion (Contains list) list
own_elements list = to_each (Contains list) list (λ x has. has)

-- ---- expressions
-- an expression is the first of those that it has
pub first_of : (P : Expression → Type 0) (e : Expression) → AllByRecursion P (expressions e) → P e
first_of P (tree.cast s t a) h = h.0
first_of P _ h = h.0
