-- What a cast was suggested for.
use Rattle.sharc_suggest_laws.proofs.Imports.{◌≡◌, ℕ, ◌==◌, Bool, true, false, cond, ◌⊎◌, inl, inr, List, [], ◌∷◌, ◌++◌, Option, Some, None, refl, ap, sym, subst, ◌∙◌, eqb-true, Cast, ModeError, is_mismatch, Assignment, modes_at, Sharing, suggested_for, suggested_in, cast_at, IsSuggested, repair_with, is_repairable, cast_to, Giving, items_givings, wanted, none_some, one_some}

-- it is one of these
abbrev pub IsAmong : Cast → List Cast → Type 0
IsAmong x [] = ⊥
IsAmong x (y ∷ rest) = (y ≡ x) ⊎ IsAmong x rest

-- ---- the first cast at a token is one of them, and lies there

record IsFirstAt (x : Cast) (casts : List Cast) (token : ℕ) : Type 0 where
  among : IsAmong x casts
  there : x.site.token ≡ token

first_by : (x y : Cast) (token : ℕ) (b : Bool) (found : Option Cast) (rest : List Cast) → y.site.token == token ≡ b → cond b (Some y) found ≡ Some x → (found ≡ Some x → IsFirstAt x rest token) → IsFirstAt x (y ∷ rest) token
first_by x y token true found rest at is more =
    let same : y ≡ x = one_some y x is in
    record { among = inl same; there = ap (λ (z : Cast). z.site.token) (sym same) ∙ eqb-true y.site.token token at }
first_by x y token false found rest at is more = let w = more is in record { among = inr w.among; there = w.there }

first_at : (x : Cast) (casts : List Cast) (token : ℕ) → cast_at casts token ≡ Some x → IsFirstAt x casts token
first_at x [] token is = absurd (none_some x is)
first_at x (y ∷ rest) token is = first_by x y token (y.site.token == token) (cast_at rest token) rest refl is (first_at x rest token)

for_by : (x : Cast) (casts : List Cast) (b : Bool) (token : ℕ) → cond b (cast_at casts token) None ≡ Some x → IsFirstAt x casts token
for_by x casts true token is = first_at x casts token is
for_by x casts false token is = absurd (none_some x is)

-- ---- and it is suggested for one of the givings

-- one of these givings, of which these modes are expected and those found
pub record IsFor (m : Assignment) (named : ℕ → Bool) (c : Cast) (gs : List Giving) : Type 0 where
  pub giving : Giving
  pub expected : List Sharing
  pub found : List Sharing
  pub before : List Giving
  pub behind : List Giving
  pub split : gs ≡ before ++ giving ∷ behind
  pub wants : wanted m giving.receiver ≡ Some expected
  pub finds : modes_at m giving.given ≡ Some found
  pub repairable : is_repairable m named giving.scope giving.given expected found ≡ true
  pub is : cast_to m giving.given expected ≡ c

among_either : (x : Cast) (xs ys : List Cast) → IsAmong x (xs ++ ys) → IsAmong x xs ⊎ IsAmong x ys
among_either x [] ys is = inr is
among_either x (y ∷ xs) ys (inl is) = inl (inl is)
among_either x (y ∷ xs) ys (inr is) = further (among_either x xs ys is)
  where
    further : IsAmong x xs ⊎ IsAmong x ys → IsAmong x (y ∷ xs) ⊎ IsAmong x ys
    further (inl at) = inl (inr at)
    further (inr at) = inr at

for_one : (m : Assignment) (named : ℕ → Bool) (c : Cast) (g : Giving) (rest : List Giving) (expected found : List Sharing) → wanted m g.receiver ≡ Some expected → modes_at m g.given ≡ Some found
    → (b : Bool) → is_repairable m named g.scope g.given expected found ≡ b → IsAmong c (cond b (cast_to m g.given expected ∷ []) []) → IsFor m named c (g ∷ rest)
for_one m named c g rest expected found wants finds true is_so (inl is) =
    record { giving = g; expected = expected; found = found; before = []; behind = rest; split = refl; wants = wants; finds = finds; repairable = is_so; is = is }
for_one m named c g rest expected found wants finds true is_so (inr is) = absurd is
for_one m named c g rest expected found wants finds false not_so is = absurd is

for_first : (m : Assignment) (named : ℕ → Bool) (c : Cast) (g : Giving) (rest : List Giving) (want found : Option (List Sharing)) → wanted m g.receiver ≡ want → modes_at m g.given ≡ found
    → IsAmong c (repair_with m named g.scope g.given want found) → IsFor m named c (g ∷ rest)
for_first m named c g rest None found wants finds is = absurd is
for_first m named c g rest (Some expected) None wants finds is = absurd is
for_first m named c g rest (Some expected) (Some found) wants finds is = for_one m named c g rest expected found wants finds (is_repairable m named g.scope g.given expected found) refl is

later : (m : Assignment) (named : ℕ → Bool) (c : Cast) (g : Giving) (rest : List Giving) → IsFor m named c rest → IsFor m named c (g ∷ rest)
later m named c g rest w = record {
  giving = w.giving;
  expected = w.expected;
  found = w.found;
  before = g ∷ w.before;
  behind = w.behind;
  split = ap (λ (l : List Giving). g ∷ l) w.split;
  wants = w.wants;
  finds = w.finds;
  repairable = w.repairable;
  is = w.is;
}

for_among : (m : Assignment) (named : ℕ → Bool) (c : Cast) (gs : List Giving) → IsAmong c (suggested_in m named gs) → IsFor m named c gs
for_among m named c [] is = absurd is
for_among m named c (g ∷ rest) is = either (among_either c (suggested_for m named g) (suggested_in m named rest) is) (for_among m named c rest)
  where
    either : IsAmong c (suggested_for m named g) ⊎ IsAmong c (suggested_in m named rest) → (IsAmong c (suggested_in m named rest) → IsFor m named c rest) → IsFor m named c (g ∷ rest)
    either (inl at) more = for_first m named c g rest (wanted m g.receiver) (modes_at m g.given) refl refl at
    either (inr at) more = later m named c g rest (more at)

pub record HasSite (m : Assignment) (e : ModeError) (c : Cast) (says : IsSuggested m e (Some c)) : Type 0 where
  pub for : IsFor m says.are.named c (items_givings m.typed.program.items)
  pub there : c.site.token ≡ e.site.token

pub has_site : (m : Assignment) (e : ModeError) (c : Cast) (says : IsSuggested m e (Some c)) → HasSite m e c says
has_site m e c says =
    let first : IsFirstAt c says.casts e.site.token = for_by c says.casts (is_mismatch e.code) e.site.token (sym says.says) in
    let among : IsAmong c (suggested_in m says.are.named (items_givings m.typed.program.items)) = subst (IsAmong c) says.are.are first.among in
    record { for = for_among m says.are.named c (items_givings m.typed.program.items) among; there = first.there }
