-- All prints of the threads, in the order of their places, are those of the run, one after the other.
use Rattle.sharc_reply_laws.proofs.{Imports.{◌≡◌, ℕ, ℤ, pos, suc, ◌+◌, ◌<◌, ◌≤◌, Bool, true, false, not, ◌&&◌, List, [], ◌∷◌, ◌++◌, length, map, filter, refl, sym, ap, ◌∙◌, subst, arith, nat_tests, length-map, map-append, All-head, All-tail, filter_agree, ◌==◌, flat_map, get_or as slice_index_or, All, range_with_len, IsSortedByKey, ties, is_lt, nat_cmp, THREADS, Code, Shape, PrintAt as Print, Fits, Machine, Global, ThreadView, AreStarted, IsAt, AreInOrder, place_of, prints_of, flat_same}, Lists.{AreOnceIn, Climbs, Rises, at_key, filter_map_by, lower, map_flat, once, parts, same_by_keys}, Logged.{Keeps, Logged, of_thread, place, print_in, printer, value}}

-- ---- prints that are sorted rise
not_less : (x y : ℕ) → is_lt (nat_cmp y x) ≡ false → x ≤ y
not_less x y e = grind (arith, nat_tests)

rises : (x : Print) (xs : List Print) → IsSortedByKey place_of nat_cmp (x ∷ xs) → Rises place_of (place_of x) xs
rises x [] up = tt
rises x (y ∷ ys) up = (
  not_less (place_of x) (place_of y) (up 0 x (omega arith) (omega arith)),
  rises y ys (λ k d low high. subst (λ n. is_lt (nat_cmp (place_of (slice_index_or (x ∷ y ∷ ys) n d)) (place_of (slice_index_or (y ∷ ys) k d))) ≡ false)
      (let e : suc k + 1 ≡ suc (k + 1) = omega arith in e) (up (suc k) d (omega arith) (omega arith))),
)

all_rise : (xs : List Print) → IsSortedByKey place_of nat_cmp xs → Rises place_of 0 xs
all_rise [] up = tt
all_rise (x ∷ xs) up = (omega arith, rises x xs up)

-- two tie where their places are the same
ties_is : (k n : ℕ) → (not (is_lt (nat_cmp k n)) && not (is_lt (nat_cmp n k))) ≡ (n == k)
ties_is k n = grind (arith, nat_tests)

-- ---- places from 0 on
climbs : (log : List Logged) (n : ℕ) → map place log ≡ range_with_len n (length log) → Climbs place n log
climbs [] n e = tt
climbs (l ∷ log) n e =
    let head : place l ≡ n = head_of (place l) n (map place log) (range_with_len (n + 1) (length log)) e in
    let tail : map place log ≡ range_with_len (n + 1) (length log) = tail_of (place l) n (map place log) (range_with_len (n + 1) (length log)) e in
    (omega (arith, head), subst (λ k. Climbs place (k + 1) log) (sym head) (climbs log (n + 1) tail))
  where
    head_of : (a b : ℕ) (xs ys : List ℕ) → a ∷ xs ≡ b ∷ ys → a ≡ b
    head_of a b xs ys e = cc

    tail_of : (a b : ℕ) (xs ys : List ℕ) → a ∷ xs ≡ b ∷ ys → xs ≡ ys
    tail_of a b xs ys e = cc

-- the threads of these prints are started, each once
once_each : (started : ℕ → Bool) (low : (t : ℕ) → started t ≡ true → t < THREADS) (log : List Logged) → All (λ l. started (printer l) ≡ true) log
    → AreOnceIn place printer (filter started (range_with_len 0 THREADS)) log
once_each started low [] all = tt
once_each started low (l ∷ log) all =
    let is = All-head (λ (l : Logged). started (printer l) ≡ true) l log all in
    let few = low (printer l) is in
    (once started (printer l) (l ∷ []) is 0 THREADS (omega arith) (omega (arith, few)), once_each started low log (All-tail (λ (l : Logged). started (printer l) ≡ true) l log all))

-- ---- the prints of the threads as they stand
module _ (code : Code) (s : Shape) (g : Global Machine) where
  prints_at : (threads : List ThreadView) → All (IsAt code s g) threads → flat_map prints_of threads ≡ flat_map (λ u. (g.threads u).own.prints) (map (λ (t : ThreadView). t.machine.own.number) threads)
  prints_at [] all = refl
  prints_at (t ∷ threads) all =
      let is = All-head (IsAt code s g) t threads all in
      ap (λ (m : Machine). m.own.prints ++ flat_map prints_of threads) is.machine
      ∙ ap (λ l. (g.threads t.machine.own.number).own.prints ++ l) (prints_at threads (All-tail (IsAt code s g) t threads all))

module _ (code : Code) (s : Shape) (fits : Fits code s) (g : Global Machine) (log : List Logged) (values : List ℤ) (h : Keeps g.words g.threads g.started g.made log values)
    (threads : List ThreadView) (are : AreStarted code s g threads) (prints : List Print) (order : AreInOrder threads prints) where
  abbrev us : List ℕ
  us = filter g.started (range_with_len 0 THREADS)

  numbers : map (λ (t : ThreadView). t.machine.own.number) threads ≡ us
  numbers = are.numbers ∙ ap (λ n. filter g.started (range_with_len 0 n)) fits.threads

  all_are : flat_map prints_of threads ≡ map print_in (flat_map (λ u. of_thread u log) us)
  all_are =
      prints_at code s g threads are.each ∙ ap (flat_map (λ u. (g.threads u).own.prints)) numbers ∙ flat_same (λ u. (g.threads u).own.prints) (λ u. map print_in (of_thread u log)) h.own us
      ∙ sym (map_flat print_in (λ u. of_thread u log) (map-append print_in) us)

  climbing : Climbs place 0 log
  climbing = climbs log 0 h.places

  at_place : (k : ℕ) → filter (at_key place_of k) prints ≡ filter (at_key place_of k) (map print_in log)
  at_place k =
      let x : Print = record { place = k; value = pos 0 } in
      let tie : (y : Print) → ties (λ a b. is_lt (nat_cmp (place_of a) (place_of b))) x y ≡ at_key place_of k y = λ y. ties_is k (place_of y) in
      sym (filter_agree (ties (λ a b. is_lt (nat_cmp (place_of a) (place_of b))) x) (at_key place_of k) tie prints)
      ∙ order.ties x
      ∙ filter_agree (ties (λ a b. is_lt (nat_cmp (place_of a) (place_of b))) x) (at_key place_of k) tie (flat_map prints_of threads)
      ∙ ap (filter (at_key place_of k)) all_are
      ∙ filter_map_by print_in (at_key place_of k) (flat_map (λ u. of_thread u log) us)
      ∙ ap (map print_in) (parts place printer us k 0 log climbing (once_each g.started h.low log h.begun))
      ∙ sym (filter_map_by print_in (at_key place_of k) log)

  rising : (n : ℕ) (log : List Logged) → Rises place n log → Rises place_of n (map print_in log)
  rising n [] h = tt
  rising n (l ∷ log) h = (h.0, rising (place l) log h.1)

  pub one_by_one : prints ≡ map print_in log
  one_by_one = same_by_keys place_of prints (map print_in log) 0 0 (all_rise prints order.in_order) (rising 0 log (lower place 0 0 log (omega arith) climbing)) at_place

  value_of_print : (log : List Logged) → map (λ (p : Print). p.value) (map print_in log) ≡ map value log
  value_of_print [] = refl
  value_of_print (l ∷ log) = ap (λ vs. value l ∷ vs) (value_of_print log)

  place_of_print : (log : List Logged) → map place_of (map print_in log) ≡ map place log
  place_of_print [] = refl
  place_of_print (l ∷ log) = ap (λ ns. place l ∷ ns) (place_of_print log)

  pub values_are : map (λ (p : Print). p.value) prints ≡ values
  values_are = ap (map (λ (p : Print). p.value)) one_by_one ∙ value_of_print log ∙ h.values_are

  pub places_are : map place_of prints ≡ range_with_len 0 (length prints)
  places_are = ap (map place_of) one_by_one ∙ place_of_print log ∙ h.places ∙ ap (range_with_len 0) (sym (length-map log print_in) ∙ ap length (sym one_by_one))
