-- Booleans and tests.
use Rattle.std.proofs.{Common.{Bool, false, if◌then◌else◌, inl, inr, not, refl, sym, true, true≢false, ◌||◌, ◌∙◌, ◌≡◌, ◌⊎◌}, lemmas.Bool.false≢true}
use Rattle.std.specs.Prelude.{◌&&◌}

pub or_false : (b : Bool) → (b || false) ≡ b
or_false true = refl
or_false false = refl

pub and_left : (a b : Bool) → (a && b) ≡ true → a ≡ true
and_left true b e = refl
and_left false b e = e

pub or_split : (a b : Bool) → (a || b) ≡ true → (a ≡ true) ⊎ (b ≡ true)
or_split true b h = inl refl
or_split false b h = inr h

pub and_false : (b : Bool) → (b && false) ≡ false
and_false true = refl
and_false false = refl

pub not_true : (b : Bool) → not b ≡ true → b ≡ false
not_true true e = sym e
not_true false e = refl

pub both : (a b : Bool) → (a && b) ≡ true → (a ≡ true) × (b ≡ true)
both true b e = (refl, e)
both false b e = absurd (true≢false (sym e))

pub and_right : (a b : Bool) → (a && b) ≡ true → b ≡ true
and_right true b e = e
and_right false b e = cc

pub if_false : {A : Type 0} (b : Bool) (m n : A) → b ≡ false → (if b then m else n) ≡ n
if_false true m n e = absurd cc
if_false false m n e = refl

pub if_true : {A : Type 0} (b : Bool) (m n : A) → b ≡ true → (if b then m else n) ≡ m
if_true true m n e = refl
if_true false m n e = absurd cc

pub false_true : {A : Type 0} → false ≡ true → A
false_true e = absurd (false≢true e)

pub not_ended : (b : Bool) → b ≡ true → b ≡ false → ⊥
not_ended b e f = let g : true ≡ false = sym e ∙ f in cc

pub or_first : (a b : Bool) → (a || b) ≡ false → a ≡ false
or_first true b e = e
or_first false b e = refl

pub same_test : (a b : Bool) → (a ≡ true → b ≡ true) → (b ≡ true → a ≡ true) → a ≡ b
same_test true b there back = sym (there refl)
same_test false true there back = back refl
same_test false false there back = refl

pub and_true : (b : Bool) → (b && true) ≡ b
and_true true = refl
and_true false = refl

pub no : (A : Type 0) (b : Bool) → b ≡ false → b ≡ true → A
no A b f t = absurd (false≢true (sym f ∙ t))

pub either : (a b : Bool) (P : Type 0) → (a ≡ true → P) → (b ≡ true → P) → (a || b) ≡ true → P
either true b P f g e = f refl
either false b P f g e = g e

pub or_assoc : (a b c : Bool) → ((a || b) || c) ≡ (a || (b || c))
or_assoc true b c = refl
or_assoc false b c = refl

pub no_cell : false ≡ true → ⊥
no_cell h = false≢true h

pub yes : true ≡ false → ⊥
yes e = cc

pub or_false2 : (b : Bool) → b ≡ (b || false)
or_false2 true = refl
or_false2 false = refl

pub or_second : (a b : Bool) → (a || b) ≡ false → b ≡ false
or_second true b e = cc
or_second false b e = e

pub or_known : (a b : Bool) → (a ≡ true → b ≡ true) → (a || b) ≡ b
or_known true b h = sym (h refl)
or_known false b h = refl
