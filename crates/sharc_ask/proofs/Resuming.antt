-- What goes on with a value, where it is more than one step.
use Rattle.sharc_ask.proofs.{Imports.{◌≡◌, ℕ, Bool, true, false, refl, ℤ, pos, if◌then◌else◌, Site, BinaryOperator, Expression, Resolution, kind_at, Assignment, truth, tested, StorePlace, based, State, Run, then_on, ◌>>=◌, give, holds, ends_temporaries, number, place, number_in, gives, as_nothing, ends_above, step_then, test_then, truth_with, and_with, or_with, joined_with, left_with, element_behind, behind_pointer, element_in, assigned_to}, Outs.{begun, both_begun}}

truth_of_right : (r : Resolution) (b : Expression) (of_b : Run ℤ) (t : State) → then_on (then_on (tested r b of_b t) (λ right. give (truth right))) (λ x. give (number x)) ≡ then_on (gives number of_b t) (λ v. gives number (truth_with r b (number_in v)))
truth_of_right r b of_b t = begun number (λ v. gives number (truth_with r b (number_in v))) (of_b t) (λ out. then_on (then_on (tested r b (λ z. out) t) (λ right. give (truth right))) (λ x. give (number x))) (λ o u. refl) (λ x u. refl)

and_right : (r : Resolution) (b : Expression) (of_b : Run ℤ) (left : Bool) (t : State)
    → then_on (then_on ((if left then tested r b of_b else give false) t) (λ right. give (truth right))) (λ x. give (number x)) ≡ (if left then gives number of_b >>= (λ v. gives number (truth_with r b (number_in v))) else give (number (pos 0))) t
and_right r b of_b true t = truth_of_right r b of_b t
and_right r b of_b false t = refl

or_right : (r : Resolution) (b : Expression) (of_b : Run ℤ) (left : Bool) (t : State)
    → then_on (then_on ((if left then give true else tested r b of_b) t) (λ right. give (truth right))) (λ x. give (number x)) ≡ (if left then give (number (pos 1)) else gives number of_b >>= (λ v. gives number (truth_with r b (number_in v)))) t
or_right r b of_b true t = refl
or_right r b of_b false t = truth_of_right r b of_b t

pub and_goes : (r : Resolution) (e b : Expression) (of_b : Run ℤ) (x : ℤ) (s : State) → gives number (and_with r e b of_b x) s ≡ test_then (tested r e (give x)) (gives number of_b >>= (λ v. gives number (truth_with r b (number_in v)))) (give (number (pos 0))) s
and_goes r e b of_b x s =
    both_begun (tested r e (give x) s) (λ out. then_on (then_on out (λ left. (if left then tested r b of_b else give false) >>= (λ right. give (truth right)))) (λ y. give (number y)))
    (λ out. then_on out (λ left. if left then gives number of_b >>= (λ v. gives number (truth_with r b (number_in v))) else give (number (pos 0)))) (λ o t. refl) (λ left t. and_right r b of_b left t)

pub or_goes : (r : Resolution) (e b : Expression) (of_b : Run ℤ) (x : ℤ) (s : State) → gives number (or_with r e b of_b x) s ≡ test_then (tested r e (give x)) (give (number (pos 1))) (gives number of_b >>= (λ v. gives number (truth_with r b (number_in v)))) s
or_goes r e b of_b x s =
    both_begun (tested r e (give x) s) (λ out. then_on (then_on out (λ left. (if left then give true else tested r b of_b) >>= (λ right. give (truth right)))) (λ y. give (number y)))
    (λ out. then_on out (λ left. if left then give (number (pos 1)) else gives number of_b >>= (λ v. gives number (truth_with r b (number_in v))))) (λ o t. refl) (λ left t. or_right r b of_b left t)

pub left_goes : (r : Resolution) (bits : ℕ) (at : Site) (o : BinaryOperator) (e b : Expression) (of_b : Run ℤ) (x : ℤ) (mark : ℕ) (s : State)
    → gives number (ends_above mark (left_with r bits at o e b of_b x)) s ≡ step_then (holds (kind_at r e) x) (gives number of_b >>= (λ v. gives number (ends_above mark (joined_with r bits at o b x (give (number_in v)))))) s
left_goes r bits at o e b of_b x mark s =
    both_begun (holds (kind_at r e) x s) (λ out. then_on (ends_temporaries mark (then_on (then_on out (λ u. give x)) (λ y. joined_with r bits at o b y of_b))) (λ y. give (number y)))
    (λ out. then_on out (λ u. gives number of_b >>= (λ v. gives number (ends_above mark (joined_with r bits at o b x (give (number_in v))))))) (λ o t. refl)
    (λ u t. begun number (λ v. gives number (ends_above mark (joined_with r bits at o b x (give (number_in v))))) (of_b t) (λ out. gives number (ends_above mark (joined_with r bits at o b x (λ z. out))) t) (λ o t. refl) (λ y t. refl))

pub pointer_goes : (r : Resolution) (site : Site) (e : Expression) (of_i : Run ℤ) (p : ℤ) (s : State)
    → gives place (behind_pointer r site e p of_i) s ≡ step_then (based site (kind_at r e) p) (gives number of_i >>= (λ v. gives place (element_behind r site e p (number_in v)))) s
pointer_goes r site e of_i p s =
    both_begun (based site (kind_at r e) p s) (λ out. then_on (then_on out (λ u. of_i >>= (λ n. element_behind r site e p n))) (λ y. give (place y))) (λ out. then_on out (λ u. gives number of_i >>= (λ v. gives place (element_behind r site e p (number_in v))))) (λ o t. refl)
    (λ u t. begun number (λ v. gives place (element_behind r site e p (number_in v))) (of_i t) (λ out. then_on (then_on out (λ n. element_behind r site e p n)) (λ y. give (place y))) (λ o t. refl) (λ n t. refl))

pub array_goes : (r : Resolution) (site : Site) (e : Expression) (of_i : Run ℤ) (p : StorePlace) (s : State) → gives place (of_i >>= (λ n. element_in r site e p n)) s ≡ then_on (gives number of_i s) (λ v. gives place (element_in r site e p (number_in v)))
array_goes r site e of_i p s = begun number (λ v. gives place (element_in r site e p (number_in v))) (of_i s) (λ out. then_on (then_on out (λ n. element_in r site e p n)) (λ y. give (place y))) (λ o t. refl) (λ n t. refl)

pub assigned_goes : (m : Assignment) (e : Expression) (p : StorePlace) (right : Run ℤ) (mark : ℕ) (s : State)
    → gives as_nothing (ends_above mark (assigned_to m e p right)) s ≡ then_on (gives number right s) (λ v. gives as_nothing (ends_above mark (assigned_to m e p (give (number_in v)))))
assigned_goes m e p right mark s = begun number (λ v. gives as_nothing (ends_above mark (assigned_to m e p (give (number_in v))))) (right s) (λ out. gives as_nothing (ends_above mark (assigned_to m e p (λ z. out))) s) (λ o t. refl) (λ x t. refl)
