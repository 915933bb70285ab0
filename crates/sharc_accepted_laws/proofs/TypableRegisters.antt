-- The registers of variables that stand, by their types.
use Rattle.sharc_accepted_laws.proofs.Imports.{◌≡◌, ℕ, suc, ◌+◌, ◌<◌, ◌==◌, eqb-true, Bool, true, false, cond, List, [], ◌∷◌, slice_get, refl, ap, sym, ◌∙◌, subst, arith, Some, false≢true, Register, Int, Reference, Slot, slot_kind, int_count, register_from, integers, none_some, same_bool}

abbrev chosen : ℕ → ℕ → Slot → Bool → Bool → List Slot → ℕ → Register
chosen i r z t p rest x = cond t (cond p (Reference r) (Int i)) (cond p (register_from i (r + 1) rest x) (register_from (i + 1) r rest x))

-- ---- pointers
pub reference_found : (i r : ℕ) (list : List Slot) (x : ℕ) → slot_kind list x ≡ Some true → (q : ℕ) × (register_from i r list x ≡ Reference q)
reference_found i r [] x h = absurd (none_some true h)
reference_found i r (z ∷ rest) x h = by (z.token == x) z.is_pointer h (reference_found i (r + 1) rest x) (reference_found (i + 1) r rest x)
  where
    by : (t p : Bool) → cond t (Some p) (slot_kind rest x) ≡ Some true → (slot_kind rest x ≡ Some true → (q : ℕ) × (register_from i (r + 1) rest x ≡ Reference q))
        → (slot_kind rest x ≡ Some true → (q : ℕ) × (register_from (i + 1) r rest x ≡ Reference q)) → (q : ℕ) × (chosen i r z t p rest x ≡ Reference q)
    by true true h one two = (r, refl)
    by true false h one two = absurd (false≢true (same_bool false true h))
    by false true h one two = one h
    by false false h one two = two h

-- ---- integers
pub record IsIntegerAt (i r : ℕ) (list : List Slot) (x : ℕ) : Type 0 where
  pub at : ℕ
  pub low : at < int_count list
  pub is : register_from i r list x ≡ Int (i + at)
  pub token : slice_get (integers list) at ≡ Some x

pub integer_found : (i r : ℕ) (list : List Slot) (x : ℕ) → slot_kind list x ≡ Some false → IsIntegerAt i r list x
integer_found i r [] x h = absurd (none_some false h)
integer_found i r (z ∷ rest) x h = by (z.token == x) refl z.is_pointer refl h (integer_found i (r + 1) rest x) (integer_found (i + 1) r rest x)
  where
    by : (t : Bool) → (z.token == x) ≡ t → (p : Bool) → z.is_pointer ≡ p → cond t (Some p) (slot_kind rest x) ≡ Some false → (slot_kind rest x ≡ Some false → IsIntegerAt i (r + 1) rest x)
        → (slot_kind rest x ≡ Some false → IsIntegerAt (i + 1) r rest x) → IsIntegerAt i r (z ∷ rest) x
    by true same true pointer h one two = absurd (false≢true (sym (same_bool true false h)))
    by true same false integer h one two =
        let first : i ≡ i + 0 = omega arith in
        let more : 0 < int_count rest + 1 = omega arith in
        record {
          at = 0;
          low = subst (λ n. 0 < n) (sym (ap (λ p. cond p (int_count rest) (int_count rest + 1)) integer)) more;
          is = ap (λ t. chosen i r z t z.is_pointer rest x) same ∙ ap (λ p. chosen i r z true p rest x) integer ∙ ap Int first;
          token = ap (λ p. slice_get (cond p (integers rest) (z.token ∷ integers rest)) 0) integer ∙ ap Some (eqb-true z.token x same);
        }
    by false other true pointer h one two =
        let f = one h in
        record {
          at = f.at;
          low = subst (λ n. f.at < n) (sym (ap (λ p. cond p (int_count rest) (int_count rest + 1)) pointer)) f.low;
          is = ap (λ t. chosen i r z t z.is_pointer rest x) other ∙ ap (λ p. chosen i r z false p rest x) pointer ∙ f.is;
          token = ap (λ p. slice_get (cond p (integers rest) (z.token ∷ integers rest)) f.at) pointer ∙ f.token;
        }
    by false other false integer h one two =
        let f = two h in
        let next : i + 1 + f.at ≡ i + suc f.at = omega arith in
        let more : suc f.at < int_count rest + 1 = omega (arith, f.low) in
        record {
          at = suc f.at;
          low = subst (λ n. suc f.at < n) (sym (ap (λ p. cond p (int_count rest) (int_count rest + 1)) integer)) more;
          is = ap (λ t. chosen i r z t z.is_pointer rest x) other ∙ ap (λ p. chosen i r z false p rest x) integer ∙ f.is ∙ ap Int next;
          token = ap (λ p. slice_get (cond p (integers rest) (z.token ∷ integers rest)) (suc f.at)) integer ∙ f.token;
        }
