-- Guarding looks at no name of a function: which checks are dropped, and where lines go, is the same for flat code whose functions have other names.
use Rattle.sharc_sound_laws.proofs.{Imports.{◌≡◌, ℕ, zero, suc, ◌+◌, ◌||◌, ◌==◌, Bool, cond, List, [], ◌∷◌, ◌++◌, length, slice_get, Some, refl, ap, ◌∙◌, Function, Instr, AreNamed, Op, Flat, head, body, own, tail, expand, width, offset, place, expanded, is_led_to, is_entry, is_target, nothing, know_after, known, drops_at, dropped}, Lists.ap2}

-- where other lines go the same way
body_same : (pl ql : ℕ → ℕ) → ((n : ℕ) → pl n ≡ ql n) → (n : ℕ) (o : Op) → body pl n o ≡ body ql n o
body_same pl ql same n (Op.Skip k) = ap (λ p. Some (Instr.Jump p)) (same (n + 1 + k))
body_same pl ql same n (Op.SkipIfZero i k) = ap (λ p. Some (Instr.JumpIfZero i p)) (same (n + 1 + k))
body_same pl ql same n (Op.SkipIfNull r k) = ap (λ p. Some (Instr.JumpIfNull r p)) (same (n + 1 + k))
body_same pl ql same n (Op.Jump to) = ap (λ p. Some (Instr.Jump p)) (same to)
body_same pl ql same n o = refl

offset_same : (d e : ℕ → Bool) → ((n : ℕ) → d n ≡ e n) → (k : ℕ) (os : List Op) (n : ℕ) → offset d k os n ≡ offset e k os n
offset_same d e same k [] n = refl
offset_same d e same k (o ∷ os) zero = refl
offset_same d e same k (o ∷ os) (suc n) = ap2 (λ w z. w + z) (ap (λ c. width c k o) (same k)) (offset_same d e same (k + 1) os n)

expanded_same : (pl ql : ℕ → ℕ) → ((n : ℕ) → pl n ≡ ql n) → (d e : ℕ → Bool) → ((n : ℕ) → d n ≡ e n) → (k : ℕ) (os : List Op) → expanded pl d k os ≡ expanded ql e k os
expanded_same pl ql go d e same k [] = refl
expanded_same pl ql go d e same k (o ∷ os) = ap2 (λ x y. x ++ y)
    (ap (λ c. expand pl c k o) (same k) ∙ ap (λ i. head (e k) k o ++ own i ++ tail o) (body_same pl ql go k o))
    (expanded_same pl ql go d e same (k + 1) os)

entry_same : (bytes : List ℕ) (xs : List Function) (names : List (List ℕ)) (ys : List Function) → AreNamed bytes xs names ys → (to : ℕ) → is_entry ys to ≡ is_entry xs to
entry_same bytes [] [] [] named to = refl
entry_same bytes (x ∷ xs) (n ∷ ns) (z ∷ zs) named to = ap2 (λ (f : Function) b. to == f.entry || b) named.0.is (entry_same bytes xs ns zs named.1 to)
entry_same bytes _ _ _ named to = absurd named

-- ---- what is known before each line, and which checks are dropped
module _ (told made : Flat) (lines : made.lines ≡ told.lines) (bytes : List ℕ) (names : List (List ℕ)) (named : AreNamed bytes told.functions names made.functions) where
  target_same : (to : ℕ) → is_target made to ≡ is_target told to
  target_same to = ap2 (λ x y. x || y) (ap (λ os. is_led_to os (length os) to) lines) (entry_same bytes told.functions names made.functions named to)

  known_same : (n : ℕ) → known made n ≡ known told n
  known_same zero = refl
  known_same (suc n) = ap2 (λ b k. cond b nothing k) (target_same (suc n)) (ap2 (λ os k. know_after (slice_get os n) k) lines (known_same n))

  dropped_same : (n : ℕ) → dropped made n ≡ dropped told n
  dropped_same n = ap2 (λ os k. drops_at k (slice_get os n)) lines (known_same n)

  pub place_same : (n : ℕ) → place (dropped made) made.lines n ≡ place (dropped told) told.lines n
  place_same n = ap (λ os. place (dropped made) os n) lines ∙ ap (λ k. 2 + k) (offset_same (dropped made) (dropped told) dropped_same 0 told.lines n)

  pub statements_same : expanded (place (dropped made) made.lines) (dropped made) 0 made.lines ≡ expanded (place (dropped told) told.lines) (dropped told) 0 told.lines
  statements_same = ap (λ os. expanded (place (dropped made) made.lines) (dropped made) 0 os) lines
      ∙ expanded_same (place (dropped made) made.lines) (place (dropped told) told.lines) place_same (dropped made) (dropped told) dropped_same 0 told.lines
