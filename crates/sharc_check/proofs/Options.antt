-- The first of several options: that there is none, and that each is none.
use Rattle.sharc_check.proofs.Imports.{◌≡◌, Bool, true, false, refl, ap, sym, ◌∙◌, Option, Some, None, false≢true, option_or, unless, none_some}

pub or_none : {A : Type 0} (a b : Option A) → option_or a b ≡ None → (a ≡ None) × (b ≡ None)
or_none None b h = (refl, h)
or_none (Some x) b h = absurd (none_some x (sym h))

pub none_or : {A : Type 0} (a b : Option A) → a ≡ None → b ≡ None → option_or a b ≡ None
none_or a b h k = ap (λ z. option_or z b) h ∙ k

pub unless_none : {A : Type 0} (b : Bool) (x : A) → unless b x ≡ None → b ≡ true
unless_none true x h = refl
unless_none false x h = absurd (none_some x (sym h))

pub none_unless : {A : Type 0} (b : Bool) (x : A) → b ≡ true → unless b x ≡ None
none_unless true x h = refl
none_unless false x h = absurd (false≢true h)

pub none_of : {A : Type 0} (o : Option A) → ((x : A) → o ≡ Some x → ⊥) → o ≡ None
none_of None h = refl
none_of (Some x) h = absurd (h x refl)
