-- What is remembered of copies and of numbers after an operation, by what was remembered before it.
use Rattle.sharc_typed_laws.proofs.Imports.{◌≡◌, ℕ, ◌^◌, ◌<◌, ◌≤◌, Bool, true, false, Option, Some, None, refl, ap, ◌∙◌, arith, cond, pos, negsuc, ℤ, eqb-false, nat_tests, same_Some, none-some, nat_eq, nat_lt, Op, Know, know_next, writes_ref, writes_int, copy_given, number_given, unless_written, of_constant, Targets, Exactly, Label, IsNumberOf, Mark, Tells}

-- ---- by what the operation writes
pub told : (x : Targets) (o : Op) (k : Know) (s e : Mark) → Tells x k s
    → ((r v : ℕ) → writes_ref o r ≡ true → copy_given o ≡ Some v → e.label.same r ≡ v)
    → ((r : ℕ) → writes_ref o r ≡ false → writes_ref o (s.label.same r) ≡ false → e.label.same r ≡ s.label.same r)
    → ((i n : ℕ) → e.from ≤ i → i < e.until → writes_int o i ≡ true → number_given o (k.number i) ≡ Some n → IsNumberOf x e.label n (e.label.ints i))
    → ((i n : ℕ) → e.from ≤ i → i < e.until → writes_int o i ≡ false → k.number i ≡ Some n → IsNumberOf x e.label n (e.label.ints i))
    → Tells x (know_next o k) e
told x o k s e h new_copy old_copy new_number old_number = record { copies = copies; numbers = numbers }
  where
    unwritten : (c : Option ℕ) (r v : ℕ) → k.copy r ≡ c → unless_written o c ≡ Some v → writes_ref o r ≡ false → e.label.same r ≡ v
    unwritten None r v is g w = absurd (none-some v g)
    unwritten (Some y) r v is g w = by (writes_ref o y) refl g
      where
        by : (b : Bool) → writes_ref o y ≡ b → cond b None (Some y) ≡ Some v → e.label.same r ≡ v
        by true z g = absurd (none-some v g)
        by false z g =
            let same : s.label.same r ≡ y = h.copies r y is in
            old_copy r w (ap (writes_ref o) same ∙ z) ∙ same ∙ same_Some y v g

    copies : (r v : ℕ) → (know_next o k).copy r ≡ Some v → e.label.same r ≡ v
    copies r v = by (writes_ref o r) refl
      where
        by : (b : Bool) → writes_ref o r ≡ b → cond b (copy_given o) (unless_written o (k.copy r)) ≡ Some v → e.label.same r ≡ v
        by true w g = new_copy r v w g
        by false w g = unwritten (k.copy r) r v refl g w

    numbers : (i n : ℕ) → e.from ≤ i → i < e.until → (know_next o k).number i ≡ Some n → IsNumberOf x e.label n (e.label.ints i)
    numbers i n low high = by (writes_int o i) refl
      where
        by : (b : Bool) → writes_int o i ≡ b → cond b (number_given o (k.number i)) (k.number i) ≡ Some n → IsNumberOf x e.label n (e.label.ints i)
        by true w g = new_number i n low high w g
        by false w g = old_number i n low high w g

-- a register other than this one is written by nothing that writes this one alone
pub other_than : (a b : ℕ) → nat_eq a b ≡ false → a ≡ b → ⊥
other_than a b e z = eqb-false a b e z

pub same_as : (a b : ℕ) → nat_eq a b ≡ true → a ≡ b
same_as a b e = grind (arith, nat_tests, e)

-- the number of a constant
pub constant_number : (x : Targets) (l : Label) (v : ℤ) (n : ℕ) → of_constant v ≡ Some n → IsNumberOf x l n (Exactly v)
constant_number x l (pos m) n e = by (nat_lt m (2 ^ 32)) e
  where
    by : (b : Bool) → cond b (Some m) None ≡ Some n → pos m ≡ pos n
    by true e = ap pos (same_Some m n e)
    by false e = absurd (none-some n e)
constant_number x l (negsuc m) n e = absurd (none-some n e)
