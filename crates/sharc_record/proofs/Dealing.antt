-- The hands of a worker, one after the other.
use Rattle.sharc_record.proofs.Imports.{◌≡◌, ℕ, ◌+◌, ◌<◌, ◌≤◌, List, length, get_or, set, Option, Some, None, refl, sym, ap, ◌∙◌, subst, arith, ⊎_elim, cases_eq, get_or-set_same, get_or-set_other, length-set, Hand, MayRun, HasRun, MayRunAt, HasRunAt, SharedView, Code, Shape, SeatView}

-- ---- one worker's hands, one after the other
module _ (P : Option (Hand SeatView) → Option (Hand SeatView) → Type 0) (first now next : List (Option (Hand SeatView))) (n : ℕ) (x : Option (Hand SeatView))
    (low : n < length now) (is : next ≡ set (set now n None) n x) where
  pub at_it : get_or next n None ≡ x
  at_it = ap (λ (ys : List (Option (Hand SeatView))). get_or ys n None) is ∙ get_or-set_same (set now n None) n x None (omega (arith, low, length-set now n None))

  pub off_it : (m : ℕ) → (m ≡ n → ⊥) → get_or next m None ≡ get_or now m None
  off_it m ne = ap (λ (ys : List (Option (Hand SeatView))). get_or ys m None) is ∙ get_or-set_other (set now n None) n m x None ne ∙ get_or-set_other now n m None None ne

  pub same_length : length next ≡ length now
  same_length = ap (λ (ys : List (Option (Hand SeatView))). length ys) is ∙ length-set (set now n None) n x ∙ length-set now n None

  pub done_more : ((m : ℕ) → m < n → P (get_or first m None) (get_or now m None)) → P (get_or first n None) x → (m : ℕ) → m < n + 1 → P (get_or first m None) (get_or next m None)
  done_more done this m h =
      ⊎_elim
      (λ (e : m ≡ n). subst (λ k. P (get_or first k None) (get_or next k None)) (sym e) (subst (P (get_or first n None)) (sym at_it) this))
      (λ (f : m ≡ n → ⊥). subst (P (get_or first m None)) (sym (off_it m f)) (done m (omega (arith, h, f))))
      (cases_eq m n)

  pub left_less : ((m : ℕ) → n ≤ m → get_or now m None ≡ get_or first m None) → (m : ℕ) → n + 1 ≤ m → get_or next m None ≡ get_or first m None
  left_less left m h = off_it m (λ e. omega (arith, e, h)) ∙ left m (omega (arith, h))

-- ---- what may run, and what has run
pub may_at : (code : Code) (s : Shape) (limit : ℕ) (shared : SharedView) (x : Option (Hand SeatView)) → ((hand : Hand SeatView) → x ≡ Some hand → MayRun code s limit shared hand) → MayRunAt code s limit shared x
may_at code s limit shared None h = tt
may_at code s limit shared (Some hand) h = h hand refl

pub has_at : (code : Code) (s : Shape) (limit : ℕ) (x y : Option (Hand SeatView)) (old : Hand SeatView) → x ≡ Some old → HasRunAt code s limit x y → (new : Hand SeatView) × (y ≡ Some new)
has_at code s limit None y old e h = absurd (let f : None ≡ Some old = e in cc)
has_at code s limit (Some x) None old e h = absurd h
has_at code s limit (Some x) (Some y) old e h = (y, refl)

pub has_run : (code : Code) (s : Shape) (limit : ℕ) (x y : Option (Hand SeatView)) (old new : Hand SeatView) → x ≡ Some old → y ≡ Some new → HasRunAt code s limit x y → HasRun code s limit old new
has_run code s limit x y old new e f h = subst (λ b. HasRunAt code s limit (Some old) b) f (subst (λ a. HasRunAt code s limit a y) e h)
