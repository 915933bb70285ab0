-- What is said of the paths of a call, among all that is said of paths.
use Rattle.sharc_suggest_laws.proofs.Imports.{◌≡◌, ℕ, ◌==◌, Bool, true, false, ◌||◌, List, [], ◌∷◌, ◌++◌, refl, false≢true, or_right, AllByRecursion, named_at, parameters_named, Finding, Wrong, Names, Takes, Assignment, names_at_call, is_named, Receiver, of_parameter, Giving}

-- what these say is said among those
abbrev pub Says : List Finding → List Finding → Type 0
Says l all = (x : ℕ) → is_named x l ≡ true → is_named x all ≡ true

or_kept : (a b c : Bool) → (b ≡ true → c ≡ true) → (a || b) ≡ true → (a || c) ≡ true
or_kept true b c more is = refl
or_kept false b c more is = more is

pub named_left : (x : ℕ) (a b : List Finding) → is_named x a ≡ true → is_named x (a ++ b) ≡ true
named_left x [] b is = absurd (false≢true is)
named_left x (Wrong e ∷ rest) b is = named_left x rest b is
named_left x (Names y ∷ rest) b is = or_kept (x == y) (is_named x rest) (is_named x (rest ++ b)) (named_left x rest b) is
named_left x (Takes s y ∷ rest) b is = named_left x rest b is

pub named_right : (x : ℕ) (a b : List Finding) → is_named x b ≡ true → is_named x (a ++ b) ≡ true
named_right x [] b is = is
named_right x (Wrong e ∷ rest) b is = named_right x rest b is
named_right x (Names y ∷ rest) b is = or_right (x == y) (is_named x (rest ++ b)) (named_right x rest b is)
named_right x (Takes s y ∷ rest) b is = named_right x rest b is

pub left : (a b all : List Finding) → Says (a ++ b) all → Says a all
left a b all h = λ x is. h x (named_left x a b is)

pub right : (a b all : List Finding) → Says (a ++ b) all → Says b all
right a b all h = λ x is. h x (named_right x a b is)

-- of a giving to a parameter: what is said of the call
abbrev pub SaidTo : Assignment → List Finding → Receiver → Type 0
SaidTo m all (of_parameter f args k) = Says (names_at_call m (parameters_named m.typed (named_at m.typed f)) args (parameters_named m.typed (named_at m.typed f))) all
SaidTo m all _ = Unit {0}

abbrev pub IsSaid : Assignment → List Finding → Giving → Type 0
IsSaid m all g = SaidTo m all g.receiver

abbrev pub AreSaid : Assignment → List Finding → List Giving → Type 0
AreSaid m all gs = AllByRecursion (IsSaid m all) gs
