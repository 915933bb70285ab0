-- What is said before a line fits itself, and what fits what fits a third fits that.
use Rattle.sharc_typed_laws.proofs.{Imports.{◌≡◌, ℕ, ◌<◌, ◌≤◌, ◌∙◌, arith, Targets, Less, less_refl, IsNumberOf, Mark, Fits}, Preorder.less_through}

pub fits_same : (x : Targets) (s : Mark) → Fits x s s
fits_same x s = record { less = less_refl s.label; tells = λ k h. h }

pub fits_through : (x : Targets) (s t u : Mark) → Fits x s t → Fits x t u → Fits x s u
fits_through x s t u a b = record { less = less_through s.label t.label u.label a.less b.less; tells = λ k h. b.tells k (a.tells k h) }

-- as many registers are copies, and the numbers of no more registers are told
pub fits_by : (x : Targets) (s t : Mark) → Less s.label t.label → ((r : ℕ) → t.label.same r ≡ s.label.same r) → s.from ≤ t.from → t.until ≤ s.until
    → ((i n : ℕ) → t.from ≤ i → i < t.until → IsNumberOf x s.label n (s.label.ints i) → IsNumberOf x t.label n (t.label.ints i)) → Fits x s t
fits_by x s t less same low high numbers = record {
  less = less;
  tells = λ k h. record {
    copies = λ r v e. same r ∙ h.copies r v e;
    numbers = λ i n a b e. numbers i n a b (h.numbers i n (omega (arith, low, a)) (omega (arith, high, b)) e);
  };
}
