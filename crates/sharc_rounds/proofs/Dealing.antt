-- The hands of all workers, when one is put in its place or taken from there.
use Rattle.std.proofs.{Common.{◌≡◌, ℕ, zero, suc, ◌+◌, ◌%◌, ◌<◌, ◌≤◌, List, [], ◌∷◌, ◌++◌, length, get_or, set, Option, Some, None, refl, sym, ap, ◌∙◌, subst, arith, ⊎_elim}, lemmas.Bool.cases_eq, lemmas.List.{get_or-set_same, get_or-set_other, length-set}}
use Rattle.sharc_rounds.specs.{declared.hand.Hand.Hand, declared.worker.Worker.Worker, Round.{MayRun, HasRun, MayRunAt, HasRunAt, hand_at}}
use Rattle.sharc_code.specs.{declared.code.Code.Code, declared.shape.Shape.Shape}
use Rattle.sharc_bus.specs.Bus.{BusView, SeatView}
use Rattle.sharc_lemmas.proofs.Lists.{any_default, some_within}

module _ {S : Type 0} (workers : List (Worker S)) (w : ℕ) (old new : Worker S) (n : ℕ) (x : Option (Hand S))
    (low : w < length workers) (is : old ≡ get_or workers w old) (put : new.hands.items ≡ set old.hands.items n x) where
  was : (m : ℕ) (d : Worker S) → hand_at workers w m d ≡ get_or old.hands.items m None
  was m d = ap (λ (y : Worker S). get_or y.hands.items m None) (any_default workers w d old low ∙ sym is)

  here : (m : ℕ) (d : Worker S) → hand_at (set workers w new) w m d ≡ get_or (set old.hands.items n x) m None
  here m d = ap (λ (y : Worker S). get_or y.hands.items m None) (get_or-set_same workers w new d low) ∙ ap (λ (ys : List (Option (Hand S))). get_or ys m None) put

  -- where it was put
  pub put_same : (d : Worker S) → n < length old.hands.items → hand_at (set workers w new) w n d ≡ x
  put_same d within = here n d ∙ get_or-set_same old.hands.items n x None within

  -- and anywhere else
  pub put_other : (v m : ℕ) (d : Worker S) → (v ≡ w → m ≡ n → ⊥) → hand_at (set workers w new) v m d ≡ hand_at workers v m d
  put_other v m d ne =
      ⊎_elim
      (λ (e : v ≡ w). subst (λ k. hand_at (set workers w new) k m d ≡ hand_at workers k m d) (sym e) (here m d ∙ get_or-set_other old.hands.items n m x None (λ f. ne e f) ∙ sym (was m d)))
      (λ (f : v ≡ w → ⊥). ap (λ (y : Worker S). get_or y.hands.items m None) (get_or-set_other workers w v new d f))
      (cases_eq v w)

  pub lengths : (v : ℕ) (d : Worker S) (k : ℕ) → (length old.hands.items ≡ k) → length (get_or workers v d).hands.items ≡ k → length new.hands.items ≡ length old.hands.items → length (get_or (set workers w new) v d).hands.items ≡ k
  lengths v d k one other same =
      ⊎_elim
      (λ (e : v ≡ w). subst (λ j. length (get_or (set workers w new) j d).hands.items ≡ k) (sym e) (ap (λ (y : Worker S). length y.hands.items) (get_or-set_same workers w new d low) ∙ same ∙ one))
      (λ (f : v ≡ w → ⊥). ap (λ (y : Worker S). length y.hands.items) (get_or-set_other workers w v new d f) ∙ other)
      (cases_eq v w)

-- one more place with none
pub none_more : {X : Type 0} (xs : List (Option X)) → ((n : ℕ) → get_or xs n None ≡ None) → (n : ℕ) → get_or (xs ++ None ∷ []) n None ≡ None
none_more [] none zero = refl
none_more [] none (suc n) = refl
none_more (x ∷ xs) none zero = none 0
none_more (x ∷ xs) none (suc n) = none_more xs (λ k. none (suc k)) n

-- a hand that is there, in the worker that an index found
pub hand_there : {S : Type 0} (ws : List (Worker S)) (n count many : ℕ) (d : Worker S) (hand : Hand S) → count ≡ many → d ≡ get_or ws (n % count) d → hand_at ws (n % many) n d ≡ Some hand → (get_or d.hands.items n None ≡ Some hand) × (n < length d.hands.items)
hand_there {S} ws n count many d hand same value is =
    let here : get_or d.hands.items n None ≡ Some hand = ap (λ (x : Worker S). get_or x.hands.items n None) (value ∙ ap (λ k. get_or ws (n % k) d) same) ∙ is in
    (here, some_within d.hands.items n hand here)

-- ---- one worker's hands, one after the other
module _ {S : Type 0} (P : Option (Hand S) → Option (Hand S) → Type 0) (first now next : List (Option (Hand S))) (n : ℕ) (x : Option (Hand S))
    (low : n < length now) (is : next ≡ set now n x) where
  pub at_it : get_or next n None ≡ x
  at_it = ap (λ (ys : List (Option (Hand S))). get_or ys n None) is ∙ get_or-set_same now n x None low

  pub off_it : (m : ℕ) → (m ≡ n → ⊥) → get_or next m None ≡ get_or now m None
  off_it m ne = ap (λ (ys : List (Option (Hand S))). get_or ys m None) is ∙ get_or-set_other now n m x None ne

  pub same_length : length next ≡ length now
  same_length = ap (λ (ys : List (Option (Hand S))). length ys) is ∙ length-set now n x

  pub done_more : ((m : ℕ) → m < n → P (get_or first m None) (get_or now m None)) → P (get_or first n None) x → (m : ℕ) → m < n + 1 → P (get_or first m None) (get_or next m None)
  done_more done this m h =
      ⊎_elim
      (λ (e : m ≡ n). subst (λ k. P (get_or first k None) (get_or next k None)) (sym e) (subst (P (get_or first n None)) (sym at_it) this))
      (λ (f : m ≡ n → ⊥). subst (P (get_or first m None)) (sym (off_it m f)) (done m (omega (arith, h, f))))
      (cases_eq m n)

  pub left_less : ((m : ℕ) → n ≤ m → get_or now m None ≡ get_or first m None) → (m : ℕ) → n + 1 ≤ m → get_or next m None ≡ get_or first m None
  left_less left m h = off_it m (λ e. omega (arith, e, h)) ∙ left m (omega (arith, h))

-- ---- dealing them out
-- what is left of a list from a place on, when its first is drawn
module _ {X : Type 0} (all xs ys : List X) (n : ℕ) (x : X) (is : xs ≡ x ∷ ys) (left : (k : ℕ) (d : X) → get_or xs k d ≡ get_or all (n + k) d) where
  pub drawn : (d : X) → get_or all n d ≡ x
  drawn d = ap (λ k. get_or all k d) (let e : n ≡ n + 0 = omega arith in e) ∙ sym (left 0 d) ∙ ap (λ zs. get_or zs 0 d) is

  pub drawn_rest : (k : ℕ) (d : X) → get_or ys k d ≡ get_or all (n + 1 + k) d
  drawn_rest k d = ap (λ zs. get_or zs (suc k) d) (sym is) ∙ left (suc k) d ∙ ap (λ j. get_or all j d) (let e : n + suc k ≡ n + 1 + k = omega arith in e)

  pub drawn_length : (most : ℕ) → n + length xs ≡ most → n + 1 + length ys ≡ most
  drawn_length most e = let f : length xs ≡ suc (length ys) = ap (λ zs. length zs) is in omega (arith, e, f)

-- ---- what may run, and what has run
pub may_at : (code : Code) (s : Shape) (limit : ℕ) (bus : BusView) (turns : ℕ) (x : Option (Hand SeatView)) → ((hand : Hand SeatView) → x ≡ Some hand → MayRun code s limit bus turns hand) → MayRunAt code s limit bus turns x
may_at code s limit bus turns None h = tt
may_at code s limit bus turns (Some hand) h = h hand refl

pub has_at : (code : Code) (s : Shape) (limit : ℕ) (x y : Option (Hand SeatView)) (old : Hand SeatView) → x ≡ Some old → HasRunAt code s limit x y → (new : Hand SeatView) × (y ≡ Some new)
has_at code s limit None y old e h = absurd (let f : None ≡ Some old = e in cc)
has_at code s limit (Some x) None old e h = absurd h
has_at code s limit (Some x) (Some y) old e h = (y, refl)

pub has_run : (code : Code) (s : Shape) (limit : ℕ) (x y : Option (Hand SeatView)) (old new : Hand SeatView) → x ≡ Some old → y ≡ Some new → HasRunAt code s limit x y → HasRun code s limit old new
has_run code s limit x y old new e f h = subst (λ b. HasRunAt code s limit (Some old) b) f (subst (λ a. HasRunAt code s limit a y) e h)
