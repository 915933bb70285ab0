-- Options.
use Rattle.std.proofs.Common.{Bool, None, Option, Some, inl, inr, refl, subst, sym, true, ℕ, ◌≡◌, ◌⊎◌}
use Rattle.std.specs.Prelude.{IsSomeAnd, is_some, option_and_then}

pub same_some : {A : Type 0} (x y : A) → Some x ≡ Some y → x ≡ y
same_some x y h = cc

pub none_some : {A : Type 0} (x : A) → None ≡ Some x → ⊥
none_some x h = cc

pub no_guard : (k : ℕ) → None ≡ Some k → ⊥
no_guard k h = cc

pub some_there : {A : Type 0} (P : A → Type 0) (o : Option A) → IsSomeAnd o P → (x : A) × (o ≡ Some x) × P x
some_there P None h = absurd h
some_there P (Some x) h = (x, refl, h)

pub some_or : (o : Option ℕ) → ((z : ℕ) × (o ≡ Some z)) ⊎ (o ≡ None)
some_or None = inr refl
some_or (Some z) = inl (z, refl)

pub some_of : (o : Option ℕ) → is_some o ≡ true → (n : ℕ) × (o ≡ Some n)
some_of None e = absurd (cc)
some_of (Some n) e = (n, refl)

pub same_bool : (a b : Bool) → Some a ≡ Some b → a ≡ b
same_bool a b h = cc

pub some_is : (x k : ℕ) → Some x ≡ Some k → x ≡ k
some_is x k h = cc

pub some_and : {A : Type 0} (o : Option A) (P : A → Type 0) → IsSomeAnd o P → (x : A) × (o ≡ Some x) × P x
some_and None P h = absurd h
some_and (Some x) P h = (x, refl, h)

pub and_some : {A : Type 0} (P : A → Type 0) (o : Option A) (x : A) → o ≡ Some x → P x → IsSomeAnd o P
and_some {A} P o x is p = let Q : Option A → Type 0 = λ o. IsSomeAnd o P in subst Q (sym is) p

pub bind_some : {A B : Type 0} (o : Option A) (g : A → Option B) (b : B) → option_and_then g o ≡ Some b → (a : A) × (o ≡ Some a) × (g a ≡ Some b)
bind_some None g b e = cc
bind_some (Some a) g b e = (a, refl, e)
