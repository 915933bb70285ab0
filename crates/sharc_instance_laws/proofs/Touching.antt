-- The locking program is well-moded: which globals its threads touch, and that no case of the rules arises.
use Rattle.sharc_instance_laws.proofs.{Imports.{◌≡◌, ℕ, zero, suc, ◌<◌, Bool, true, false, List, [], ◌∷◌, length, refl, subst, arith, nat_lt, slice_index_or, Named, IsReached, Names, NamesGlobal, named_at, TellsTouched, WellModed, left, right, clash, below}, Testing.all_pass, Locking.{locking, resolution}}

-- ---- which tokens name what
abbrev touched : ℕ → Bool
touched (suc (suc g)) = false
touched _ = true

abbrev is_few : Named → Bool
is_few (Named.Global g) = nat_lt g 2
is_few _ = true

abbrev names_few : ℕ → Bool
names_few token = is_few (named_at resolution token)

among : (test : ℕ → Bool) (xs : List ℕ) → all_pass test xs ≡ true → (d k : ℕ) → k < length xs → test (slice_index_or xs k d) ≡ true
among test [] e d k less = absurd (omega (arith, less))
among test (x ∷ xs) e d zero less = left (test x) (all_pass test xs) e
among test (x ∷ xs) e d (suc k) less = among test xs (right (test x) (all_pass test xs) e) d k (lower k (length xs) less)
  where
    lower : (k n : ℕ) → suc k < suc n → k < n
    lower k n less = omega (arith, less)

none_beyond : (xs : List ℕ) → all_pass names_few xs ≡ true → (g : ℕ) → Names resolution (Named.Global (suc (suc g))) xs → ⊥
none_beyond xs e g w =
    let few : names_few w.0 ≡ true = subst (λ (token : ℕ). names_few token ≡ true) w.1.2 (among names_few xs e w.0 w.1.0 w.1.1) in
    beyond g (below (suc (suc g)) 2 (subst (λ (n : Named). is_few n ≡ true) w.2 few))
  where
    beyond : (g : ℕ) → suc (suc g) < 2 → ⊥
    beyond g less = omega (arith, less)

not_named : (by g : ℕ) → NamesGlobal resolution by (suc (suc g)) → ⊥
not_named zero g w = none_beyond (11 ∷ 14 ∷ 20 ∷ 23 ∷ 30 ∷ []) refl g w
not_named (suc zero) g w = none_beyond (35 ∷ 43 ∷ 46 ∷ 54 ∷ 63 ∷ []) refl g w
not_named (suc (suc f)) g w = w

-- the function that is spawned is reached, and names both
reached : IsReached resolution 0
reached = record { spawner = 1; first = 0; spawned = (54, (0, below 0 1 refl, refl), refl); between = []; leads = refl }

tells : TellsTouched resolution touched
tells zero = (λ e. record { by = 0; reached = reached; names = (20, (2, below 2 5 refl, refl), refl) }, λ t. refl)
tells (suc zero) = (λ e. record { by = 0; reached = reached; names = (23, (3, below 3 5 refl, refl), refl) }, λ t. refl)
tells (suc (suc g)) = (λ e. absurd (clash e), λ t. absurd (not_named t.by g t.names))

pub well_moded : WellModed locking
well_moded = record { touched = touched; tells = tells; are = refl }
