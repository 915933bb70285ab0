-- Places are below 31, and there are no more turns than all threads may make events.
use Rattle.sharc_schedule.proofs.{Imports.{◌≡◌, ℕ, zero, suc, ◌+◌, ◌*◌, ◌<◌, ◌≤◌, Bool, true, false, nat_eq, List, [], ◌∷◌, ◌++◌, length, refl, sym, ap, subst, arith, if◌then◌else◌, length-range_with_len, range_with_len, ℕ_discrete, dite, THREADS, Code, Shape, RunLaws, ThreadLaws, Turn, put, state_now, made_now, CheckedRun, one_thread, place_after, is_enabled, enabled, arranged, without_tries, scheduled_turns, place_in, places_of, counted_in, counted_together, schedule_of, ScheduledRuns, SchedulesFit, ArePlaces}, Trying.{NoTries, put_own, put_other}, Arranging.arrange, Among.{Among, place_within, among_filter, among_range}, Replaying.{Run, Few, started_low, few_before, some_counted, enabled_turn, places_length}, Plain.filter_less}

-- ---- sums over the first numbers
abbrev pub sum_to : ℕ → (ℕ → ℕ) → ℕ
sum_to zero f = 0
sum_to (suc n) f = sum_to n f + f n

sum_same : (n : ℕ) (f g : ℕ → ℕ) → ((k : ℕ) → k < n → f k ≡ g k) → sum_to n f ≡ sum_to n g
sum_same zero f g same = refl
sum_same (suc n) f g same = let a = sum_same n f g (λ k lt. same k (omega arith)) in let b = same n (omega arith) in omega arith

sum_put : (n : ℕ) (f : ℕ → ℕ) (t v : ℕ) → t < n → sum_to n (put f t v) + f t ≡ sum_to n f + v
sum_put zero f t v lt = absurd (omega arith)
sum_put (suc n) f t v lt = dite (ℕ_discrete n t)
    (λ e.
    let a = sum_same n (put f t v) f (λ k low. put_other f t v k (λ h. omega arith)) in
    let b = put_own f t v n e in
    let d : f n ≡ f t = ap f e in omega arith)
    (λ apart.
    let a = sum_put n f t v (omega (arith, lt, apart)) in
    let b = put_other f t v n apart in omega arith)

pub sum_bound : (n : ℕ) (f : ℕ → ℕ) (most : ℕ) → ((t : ℕ) → f t ≤ most) → sum_to n f ≤ n * most
sum_bound zero f most small = omega arith
sum_bound (suc n) f most small = let a = sum_bound n f most small in let b = small n in let d : suc n * most ≡ n * most + most = omega arith in omega arith

sum_none : (n : ℕ) → sum_to n (λ t. 0) ≡ 0
sum_none zero = refl
sum_none (suc n) = let a = sum_none n in omega arith

-- ---- places
abbrev pub Small : List ℕ → Type 0
Small [] = Unit {0}
Small (p ∷ ps) = (p ≤ 30) × Small ps

small_snoc : (ps : List ℕ) (p : ℕ) → Small ps → p ≤ 30 → Small (ps ++ p ∷ [])
small_snoc [] p h low = (low, tt)
small_snoc (q ∷ ps) p h low = (h.0, small_snoc ps p h.1 low)

-- counts of at most this many
abbrev pub Counted : ℕ → List (ℕ × ℕ) → Type 0
Counted most [] = Unit {0}
Counted most (first ∷ more) = ((first.0 ≤ 30) × (1 ≤ first.1) × (first.1 ≤ most)) × Counted most more

counted_more : (most : ℕ) (places : List (ℕ × ℕ)) → Counted most places → Counted (suc most) places
counted_more most [] h = tt
counted_more most (first ∷ more) h = let a = h.0.2 in ((h.0.0, h.0.1, omega arith), counted_more most more h.1)

one_counted : (place most : ℕ) (places : List (ℕ × ℕ)) → place ≤ 30 → Counted most places → Counted (suc most) (counted_in place places)
one_counted place most [] low h = ((low, omega arith, omega arith), tt)
one_counted place most (first ∷ more) low h = by (nat_eq place first.0) where
  by : (b : Bool) → Counted (suc most) (if b then (first.0, suc first.1) ∷ more else (place, 1) ∷ first ∷ more)
  by true = let a = h.0.2 in ((h.0.0, omega arith, omega arith), counted_more most more h.1)
  by false = ((low, omega arith, omega arith), counted_more most (first ∷ more) h)

pub all_counted : (ps : List ℕ) → Small ps → Counted (length ps) (counted_together ps)
all_counted [] h = tt
all_counted (p ∷ ps) h = one_counted p (length ps) (counted_together ps) h.0 (all_counted ps h.1)

are_places : (most : ℕ) (places : List (ℕ × ℕ)) → most ≤ 4294967295 → Counted most places → ArePlaces places
are_places most [] small h = tt
are_places most (first ∷ more) small h = let a = h.0.2 in ((h.0.0, h.0.1, omega arith), are_places most more small h.1)

module _ (laws : RunLaws) (threads : ThreadLaws) (code : Code) (s : Shape) (limit : ℕ) (shape : s.threads ≡ THREADS) where
  pub places_small : (turns : List Turn) → Run laws threads code s limit turns → NoTries threads code s turns → Few laws threads code s limit turns → Small (places_of code s limit turns)
  places_small [] run tried few = tt
  places_small (one ∷ earlier) run tried few =
      let among : List ℕ = enabled code s limit (place_after code s earlier) in
      let on = enabled_turn laws threads code s limit one earlier run.1 tried.1 few in
      let low = started_low laws threads code s limit one.thread earlier run.1.started in
      let inside : Among one.thread among = among_filter (is_enabled code s limit (place_after code s earlier)) one.thread (range_with_len 0 s.threads) (among_range one.thread 0 s.threads (omega arith) (omega (arith, shape))) on in
      let within = place_within one.thread among inside in
      let less = filter_less (is_enabled code s limit (place_after code s earlier)) (range_with_len 0 s.threads) in
      let all = length-range_with_len 0 s.threads in
      small_snoc (places_of code s limit earlier) (place_in one.thread among) (places_small earlier run.0 tried.0 (few_before laws threads code s limit one earlier few)) (omega (arith, shape))

  pub made_all : (turns : List Turn) → Run laws threads code s limit turns → NoTries threads code s turns → sum_to THREADS (place_after code s turns).made ≡ length turns
  made_all [] run tried = sum_none THREADS
  made_all (one ∷ earlier) run tried =
      let g = place_after code s earlier in
      let low = started_low laws threads code s limit one.thread earlier run.1.started in
      let next : ℕ = made_now (one_thread code s) g one in
      let sums = sum_put THREADS g.made one.thread next low in
      let more = some_counted laws threads code s limit (state_now (one_thread code s) g one).at.state tried.1 in
      let before = made_all earlier run.0 tried.0 in omega arith

pub fit : (laws : RunLaws) (threads : ThreadLaws) → ScheduledRuns → ((code : Code) (s : Shape) (turns : List Turn) → CheckedRun code s turns → NoTries threads code s (without_tries code s turns)) → SchedulesFit
fit laws threads schedule no_tries code s limit turns shape checked few small =
    let kept : List Turn = scheduled_turns code s turns in
    let ends = schedule code s turns checked in
    let run = (laws.checked code s kept).0 ends.0 in
    let tried = no_tries code s (arranged turns) (arrange laws code s turns checked).0 in
    let less : (t : ℕ) → (place_after code s kept).made t ≤ limit = (λ t. subst (λ n. n ≤ limit) (sym (ends.1.made t)) (few t)) in
    let all = made_all laws threads code s limit shape kept run tried in
    let most = sum_bound THREADS (place_after code s kept).made 200000 (λ t. let a = less t in omega arith) in
    let count = places_length laws threads code s limit kept in
    are_places (length (places_of code s limit kept)) (schedule_of code s limit turns) (omega arith)
    (all_counted (places_of code s limit kept) (places_small laws threads code s limit shape kept run tried less))
