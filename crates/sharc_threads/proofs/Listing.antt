-- The threads of a table, as a list.
use Rattle.sharc_threads.proofs.Imports.{◌≡◌, ℕ, suc, ◌+◌, ◌<◌, Bool, true, false, List, [], ◌∷◌, ◌++◌, length, map, filter, get_or, Option, Some, None, refl, sym, ap, ◌∙◌, subst, arith, All-nil, All-cons, if◌then◌else◌, range_with_len, All, THREADS, Code, Shape, ThreadView, Standing, IsAt, AreStarted, IsSeat, AreOf, present}

pub present_append : (seats more : List (Option ThreadView)) → present (seats ++ more) ≡ present seats ++ present more
present_append [] more = refl
present_append (None ∷ seats) more = present_append seats more
present_append (Some thread ∷ seats) more = ap (λ threads. thread ∷ threads) (present_append seats more)

passes : (b : Bool) (n : ℕ) (rest : List ℕ) → b ≡ true → (if b then n ∷ rest else rest) ≡ n ∷ rest
passes true n rest e = refl
passes false n rest e = cc

fails : (b : Bool) (n : ℕ) (rest : List ℕ) → b ≡ false → (if b then n ∷ rest else rest) ≡ rest
fails true n rest e = cc
fails false n rest e = refl

abbrev number_of : ThreadView → ℕ
number_of thread = thread.machine.own.number

module _ (code : Code) (s : Shape) (g : Standing) where
  one_number : (n : ℕ) (x : Option ThreadView) (seats : List (Option ThreadView)) (numbers : List ℕ) → IsSeat code s g.threads g.made g.started n x → map number_of (present seats) ≡ numbers
      → map number_of (present (x ∷ seats)) ≡ (if g.started n then n ∷ numbers else numbers)
  one_number n None seats numbers is e = e ∙ sym (fails (g.started n) n numbers is.0)
  one_number n (Some thread) seats numbers is e = ap (λ (k : ℕ). k ∷ map number_of (present seats)) is.1.number ∙ ap (λ ks. n ∷ ks) e ∙ sym (passes (g.started n) n numbers is.0)

  one_each : (n : ℕ) (x : Option ThreadView) (seats : List (Option ThreadView)) → IsSeat code s g.threads g.made g.started n x → All (IsAt code s g) (present seats) → All (IsAt code s g) (present (x ∷ seats))
  one_each n None seats is all = all
  one_each n (Some thread) seats is all = All-cons (IsAt code s g) thread (present seats) record {
    thread = is.1.thread_is;
    machine = is.1.machine ∙ ap g.threads (sym is.1.number);
    made = is.1.made_is ∙ ap g.made (sym is.1.number);
  } all

  abbrev From : ℕ → List (Option ThreadView) → Type 0
  From from seats = (k : ℕ) → k < length seats → IsSeat code s g.threads g.made g.started (from + k) (get_or seats k None)

  first : (from : ℕ) (x : Option ThreadView) (seats : List (Option ThreadView)) → From from (x ∷ seats) → IsSeat code s g.threads g.made g.started from x
  first from x seats each = subst (λ k. IsSeat code s g.threads g.made g.started k x) (let e : from + 0 ≡ from = omega arith in e) (each 0 (omega arith))

  later : (from : ℕ) (x : Option ThreadView) (seats : List (Option ThreadView)) → From from (x ∷ seats) → From (from + 1) seats
  later from x seats each = λ k low. subst (λ j. IsSeat code s g.threads g.made g.started j (get_or seats k None)) (let e : from + suc k ≡ from + 1 + k = omega arith in e) (each (suc k) (omega (arith, low)))

  numbers_from : (from : ℕ) (seats : List (Option ThreadView)) → From from seats → map number_of (present seats) ≡ filter g.started (range_with_len from (length seats))
  numbers_from from [] each = refl
  numbers_from from (x ∷ seats) each =
      one_number from x seats (filter g.started (range_with_len (from + 1) (length seats))) (first from x seats each) (numbers_from (from + 1) seats (later from x seats each))

  each_from : (from : ℕ) (seats : List (Option ThreadView)) → From from seats → All (IsAt code s g) (present seats)
  each_from from [] each = All-nil (IsAt code s g)
  each_from from (x ∷ seats) each = one_each from x seats (first from x seats each) (each_from (from + 1) seats (later from x seats each))

  pub are_started : (words : List ℕ) (seats : List (Option ThreadView)) → s.threads ≡ THREADS → AreOf code s g words seats → AreStarted code s g (present seats)
  are_started words seats fits of =
      let each : From 0 seats = λ k low. subst (λ j. IsSeat code s g.threads g.made g.started j (get_or seats k None)) (let e : k ≡ 0 + k = omega arith in e) (of.are.each k (omega (arith, low, of.are.count))) in
      record {
        numbers = numbers_from 0 seats each ∙ ap (λ n. filter g.started (range_with_len 0 n)) (of.are.count ∙ sym fits);
        each = each_from 0 seats each;
      }
