-- The prints of a run, one after the other: what each thread has of them, where they are, and which events of the source they are.
use Rattle.sharc_reply_laws.proofs.{Imports.{◌≡◌, ℕ, ℤ, zero, suc, ◌+◌, ◌%◌, ◌^◌, ◌<◌, ◌≤◌, ◌⊎◌, ⊎_elim, Bool, true, false, ◌||◌, ◌&&◌, ◌*◌, cond, List, [], ◌∷◌, ◌++◌, length, map, filter, reverse, Option, Some, None, refl, sym, ap, ◌∙◌, subst, arith, cases_eq, or_right, nat_tests, append-nil, get_or-set_other, length_push, map_push, reverse-append, All-nil, All-push, All-weaker, filter-append, filter_map-append, get_or-map-range_with_len, nat_eq, nat_lt, nat_le, ◌==◌, slice_index, All, cons_option, range_with_len, SourceEvent, THREADS, WordStep, WordEvent, word_after, words_after_step, WordOp, Code, Instr, Shape, PrintAt, prints_word, words_of, RunLaws, Machine, instr_at, step_of as step_at, act, int, opening_words, opens_with, opening_cell, first_global, turn, after, asked_by, counted, Answered, Global, IsRun, Said, Turn, is_started, opening_of, put, result_of, told_by, with_told, words_now, elements_in, said, speaks_of, StandingLaws, Erase, bounds, one_thread, place_after, events_in, printed_by, printed_in, same_is, other_is, or_split, set_here, set_same, range_more}, Sorts.{Elsewhere, IsQuiet, LeavesIt, Prints, Quiet, Sort, print_of, printed_of, sorted}, Stopping.{put_other, put_same}}
use Rattle.sharc_code.specs.Runs.{step_of}

-- ---- what is printed, one after the other
-- a print, with its thread
pub record Logged : Type 0 where
  pub thread : ℕ
  pub print : PrintAt

abbrev pub place : Logged → ℕ
place l = l.print.place

abbrev pub value : Logged → ℤ
value l = l.print.value

abbrev pub printer : Logged → ℕ
printer l = l.thread

abbrev pub with_print : ℕ → Option PrintAt → List Logged → List Logged
with_print t None log = log
with_print t (Some p) log = log ++ record { thread = t; print = p } ∷ []

-- the prints of a run, the first one first
abbrev pub logged : Code → Shape → List Turn → List Logged
logged code s [] = []
logged code s (turn ∷ earlier) =
    let m = (place_after code s earlier).threads turn.thread in
    with_print turn.thread (print_of (instr_at code m.at.pc) m (result_of turn.event)) (logged code s earlier)

abbrev pub of_thread : ℕ → List Logged → List Logged
of_thread t = filter (λ l. printer l == t)

abbrev pub print_in : Logged → PrintAt
print_in l = l.print

abbrev pub listed : Option ℤ → List ℤ
listed None = []
listed (Some v) = v ∷ []

-- ---- sums, and functions changed at one place
abbrev sum_to : ℕ → (ℕ → ℕ) → ℕ
sum_to zero f = 0
sum_to (suc n) f = f n + sum_to n f

sum_few : (n most : ℕ) (f : ℕ → ℕ) → ((t : ℕ) → f t ≤ most) → sum_to n f ≤ n * most
sum_few zero most f few = omega arith
sum_few (suc n) most f few = let a = sum_few n most f few in let b = few n in let c : suc n * most ≡ most + n * most = omega arith in omega arith

sum_grows : (n : ℕ) (f : ℕ → ℕ) (i more : ℕ) → sum_to n f ≤ sum_to n (put f i (f i + more))
sum_grows zero f i more = omega arith
sum_grows (suc n) f i more =
    let rest = sum_grows n f i more in
    ⊎_elim
    (λ (e : n ≡ i).
    let a : put f i (f i + more) n ≡ f i + more = ap (λ j. put f i (f i + more) j) e ∙ put_same f i (f i + more) in
    let b : f n ≡ f i = ap f e in omega arith)
    (λ (ne : n ≡ i → ⊥). let a = put_other f i n (f i + more) ne in omega arith)
    (cases_eq n i)

sum_more : (n : ℕ) (f : ℕ → ℕ) (i more : ℕ) → i < n → sum_to n f + more ≤ sum_to n (put f i (f i + more))
sum_more zero f i more lt = absurd (omega arith)
sum_more (suc n) f i more lt =
    ⊎_elim
    (λ (e : n ≡ i).
    let rest = sum_grows n f i more in
    let a : put f i (f i + more) n ≡ f i + more = ap (λ j. put f i (f i + more) j) e ∙ put_same f i (f i + more) in
    let b : f n ≡ f i = ap f e in omega arith)
    (λ (ne : n ≡ i → ⊥). let rest = sum_more n f i more (omega arith) in let a = put_other f i n (f i + more) ne in omega arith)
    (cases_eq n i)

-- ---- tests
is_low : (words : List ℕ) (t : ℕ) → is_started bounds words t ≡ true → t < THREADS
is_low words t e = by (nat_lt t THREADS) refl (nat_eq (slice_index words (4 + 3 * t)) 1) e
  where
    by : (b : Bool) → nat_lt t THREADS ≡ b → (c : Bool) → (b && c) ≡ true → t < THREADS
    by true f c e = grind (arith, nat_tests)
    by false f c e = cc

-- ---- words
step_keeps : (words : List ℕ) (step : WordStep) (w : ℕ) → (step.word ≡ w → (v : ℕ) → word_after step.op v ≡ v) → slice_index (words_after_step words step) w ≡ slice_index words w
step_keeps words step w keeps =
    ⊎_elim
    (λ (e : w ≡ step.word).
    let here = set_same words step.word (word_after step.op (slice_index words step.word)) (keeps (sym e) (slice_index words step.word)) in
    ap (λ n. slice_index (words_after_step words step) n) e ∙ here ∙ ap (λ n. slice_index words n) (sym e))
    (λ (ne : w ≡ step.word → ⊥). get_or-set_other words step.word w (word_after step.op (slice_index words step.word)) 0 ne)
    (cases_eq w step.word)

module _ (words : List ℕ) where
  elsewhere : (event : Option WordEvent) (asked : Option WordStep) → step_of event ≡ asked → Elsewhere asked → slice_index (words_now words event) prints_word ≡ slice_index words prints_word
  elsewhere None asked q away = refl
  elsewhere (Some e) None q away = absurd (let f : Some e.step ≡ None = q in cc)
  elsewhere (Some e) (Some step) q away = let same : step ≡ e.step = cc in step_keeps words e.step prints_word (subst LeavesIt same away).same

  after_set : (event : Option WordEvent) (step : WordStep) → step_of event ≡ Some step → Answered words event → slice_index (words_now words event) step.word ≡ word_after step.op (slice_index words step.word)
  after_set None step q a = absurd (let f : None ≡ Some step = q in cc)
  after_set (Some e) step q a =
      let same : e.step ≡ step = cc in
      subst (λ (x : WordStep). slice_index (words_after_step words e.step) x.word ≡ word_after x.op (slice_index words x.word)) same
      (set_here words e.step.word (word_after e.step.op (slice_index words e.step.word)) a.on_a_word)

  found_is : (event : Option WordEvent) (step : WordStep) → step_of event ≡ Some step → Answered words event → result_of event ≡ slice_index words step.word
  found_is None step q a = absurd (let f : None ≡ Some step = q in cc)
  found_is (Some e) step q a = let same : e.step ≡ step = cc in a.result_is ∙ ap (λ (y : WordStep). slice_index words y.word) same

-- ---- what holds wherever a run is
pub record Keeps (words : List ℕ) (threads : ℕ → Machine) (started : ℕ → Bool) (made : ℕ → ℕ) (log : List Logged) (values : List ℤ) : Type 0 where
  pub word : slice_index words prints_word ≡ length log
  pub places : map place log ≡ range_with_len 0 (length log)
  pub few : length log ≤ sum_to THREADS made
  pub own : (t : ℕ) → (threads t).own.prints ≡ map print_in (of_thread t log)
  pub values_are : map value log ≡ values
  pub low : (t : ℕ) → started t ≡ true → t < THREADS
  pub begun : All (λ l. started (printer l) ≡ true) log

-- ---- one turn
module _ (code : Code) (s : Shape) (g : Global Machine) (k : ℕ) (event : Option WordEvent) (log : List Logged) (values : List ℤ) (h : Keeps g.words g.threads g.started g.made log values)
    (was : g.started k ≡ true) (answered : Answered g.words event) (room : (u : ℕ) → g.made u ≤ 100000000) (elements : ℕ) where
  abbrev m : Machine
  m = g.threads k

  abbrev found : ℕ
  found = result_of event

  abbrev words : List ℕ
  words = words_now g.words event

  abbrev started : ℕ → Bool
  started u = is_started bounds words u || g.started u

  abbrev Still : Machine → List Logged → List ℤ → Type 0
  Still x = Keeps words (put g.threads k x) started (put g.made k (g.made k + counted x.at.state))

  low : (t : ℕ) → started t ≡ true → t < THREADS
  low t e = ⊎_elim (λ (new : is_started bounds words t ≡ true). is_low words t new) (λ (old : g.started t ≡ true). h.low t old) (or_split (is_started bounds words t) (g.started t) e)

  begun : All (λ l. started (printer l) ≡ true) log
  begun = All-weaker (λ (l : Logged). g.started (printer l) ≡ true) (λ (l : Logged). started (printer l) ≡ true) (λ l e. or_right (is_started bounds words (printer l)) (g.started (printer l)) e) log h.begun

  -- a turn that prints nothing
  quiet : (i : Instr) → step_of event ≡ asked_by (act code s i m) → IsQuiet code s m (act code s i m) → Still (after (act code s i m) found) log values
  quiet i asks q = record {
    word = elsewhere g.words event (asked_by (act code s i m)) asks q.step ∙ h.word;
    places = h.places;
    few = let a = h.few in let b = sum_grows THREADS g.made k (counted (after (act code s i m) found).at.state) in omega arith;
    own = λ t. ⊎_elim
        (λ (e : t ≡ k).
        ap (λ u. (put g.threads k (after (act code s i m) found) u).own.prints) e ∙ ap (λ (x : Machine). x.own.prints) (put_same g.threads k (after (act code s i m) found))
        ∙ (q.kept found ∙ (h.own k ∙ ap (λ u. map print_in (of_thread u log)) (sym e))))
        (λ (ne : t ≡ k → ⊥). ap (λ (x : Machine). x.own.prints) (put_other g.threads k t (after (act code s i m) found) ne) ∙ h.own t)
        (cases_eq t k);
    values_are = h.values_are;
    low = low;
    begun = begun;
  }

  -- a Print
  print_turn : (r site : ℕ) → step_of event ≡ asked_by (act code s (Instr.Print r site) m)
      → Still (after (act code s (Instr.Print r site) m) found) (log ++ record { thread = k; print = record { place = found; value = int m r } } ∷ []) (values ++ int m r ∷ [])
  print_turn r site asks =
      let one : Logged = record { thread = k; print = record { place = found; value = int m r } } in
      let step = step_at prints_word (WordOp.Add 1) in
      let x = after (act code s (Instr.Print r site) m) found in
      let found_at : found ≡ slice_index g.words prints_word = found_is g.words event step asks answered in
      let at : found ≡ length log = found_at ∙ h.word in
      let new : slice_index words prints_word ≡ (slice_index g.words prints_word + 1) % 2 ^ 64 = after_set g.words event step asks answered in
      let was_word = h.word in
      let old = h.few in
      let most = sum_few THREADS 100000000 g.made room in
      let long : length (log ++ one ∷ []) ≡ length log + 1 = length_push log one in
      let longer : length (log ++ one ∷ []) ≡ suc (length log) = omega (arith, long) in
      record {
        word = omega arith;
        places = map_push place log one ∙ ap (λ l. l ++ found ∷ []) h.places ∙ ap (λ n. range_with_len 0 (length log) ++ n ∷ []) (let e : found ≡ 0 + length log = omega arith in e)
            ∙ sym (range_more 0 (length log)) ∙ ap (range_with_len 0) (sym longer);
        few = let a = sum_more THREADS g.made k 1 (h.low k was) in omega arith;
        own = λ t. ⊎_elim
            (λ (e : t ≡ k).
            ap (λ u. (put g.threads k x u).own.prints) e ∙ ap (λ (y : Machine). y.own.prints) (put_same g.threads k x)
            ∙ (ap (λ l. l ++ record { place = found; value = int m r } ∷ []) (h.own k)
            ∙ (sym (map_push print_in (of_thread k log) one)
            ∙ (ap (map print_in) (sym (filter-append (λ l. printer l == k) log (one ∷ []) ∙ ap (λ b. of_thread k log ++ cond b (one ∷ []) []) (same_is k)))
            ∙ ap (λ u. map print_in (of_thread u (log ++ one ∷ []))) (sym e)))))
            (λ (ne : t ≡ k → ⊥).
            ap (λ (y : Machine). y.own.prints) (put_other g.threads k t x ne)
            ∙ (h.own t
            ∙ ap (map print_in) (sym (filter-append (λ l. printer l == t) log (one ∷ []) ∙ (ap (λ b. of_thread t log ++ cond b (one ∷ []) []) (other_is k t (λ (e : k ≡ t). ne (sym e))) ∙ append-nil (of_thread t log))))))
            (cases_eq t k);
        values_are = map_push value log one ∙ ap (λ l. l ++ int m r ∷ []) h.values_are;
        low = low;
        begun = All-push (λ (l : Logged). started (printer l) ≡ true) log one begun (or_right (is_started bounds words k) (g.started k) was);
      }

  pub still : (i : Instr) → Sort code s m i → step_of event ≡ asked_by (act code s i m)
      → Still (after (act code s i m) found) (with_print k (print_of i m found) log) (values ++ listed (printed_of (said code i m found elements)))
  still i (Quiet none q tells) asks =
      subst (λ v. Still (after (act code s i m) found) (with_print k (print_of i m found) log) v) (sym (ap (λ o. values ++ listed o) (tells found elements) ∙ append-nil values))
      (subst (λ l. Still (after (act code s i m) found) l values) (sym (ap (λ o. with_print k o log) (none found))) (quiet i asks q))
  still i (Prints r site is) asks =
      subst (λ (i : Instr). step_of event ≡ asked_by (act code s i m) → Still (after (act code s i m) found) (with_print k (print_of i m found) log) (values ++ listed (printed_of (said code i m found elements))))
      (sym is) (print_turn r site) asks

-- ---- the beginning
module _ (code : Code) (s : Shape) where
  abbrev opened : List ℕ
  opened = opening_words code s

  word_is : (i : ℕ) → i < words_of s → slice_index opened i ≡ opens_with code s i
  word_is i lt = get_or-map-range_with_len (opens_with code s) 0 (words_of s) i i 0 lt (omega arith)

  cell_low : (i : ℕ) → i < first_global s → opening_cell code s i ≡ 0
  cell_low i a = let p : nat_le (first_global s) i ≡ false = grind (arith, nat_tests) in rw p refl

  prints_none : slice_index opened prints_word ≡ 0
  prints_none = word_is prints_word (omega arith) ∙ cell_low prints_word (omega arith)

  abbrev from : Global Machine
  from = opening_of bounds (one_thread code s) opened

  opens : Keeps from.words from.threads from.started from.made [] []
  opens = record {
    word = prints_none;
    places = refl;
    few = omega arith;
    own = λ t. refl;
    values_are = refl;
    low = is_low opened;
    begun = All-nil (λ (l : Logged). from.started (printer l) ≡ true);
  }

-- ---- what is told
cons_listed : (o : Option ℤ) → cons_option o [] ≡ listed o
cons_listed None = refl
cons_listed (Some v) = refl

told_more : (t : ℕ) (o : Option SourceEvent) (says : List (Said SourceEvent))
    → printed_in (reverse (map (λ said. said.told) (with_told t o says))) ≡ printed_in (reverse (map (λ said. said.told) says)) ++ listed (printed_of o)
told_more t None says = sym (append-nil (printed_in (reverse (map (λ said. said.told) says))))
told_more t (Some e) says =
    ap printed_in (reverse-append (e ∷ []) (map (λ said. said.told) says))
    ∙ filter_map-append (λ (d : SourceEvent). printed_by d.act) (reverse (map (λ said. said.told) says)) (e ∷ [])
    ∙ ap (λ l. printed_in (reverse (map (λ said. said.told) says)) ++ l) (cons_listed (printed_by e.act))

-- ---- runs
module _ (laws : RunLaws) (standing : StandingLaws) (code : Code) (s : Shape) where
  abbrev pub Holds : List Turn → Type 0
  Holds run = let g = place_after code s run in Keeps g.words g.threads g.started g.made (logged code s run) (printed_in (events_in code s run))

  pub holds : (run : List Turn) → IsRun bounds (one_thread code s) (from code s) run → Holds run
  holds [] run = opens code s
  holds (one ∷ earlier) run =
      let g = place_after code s earlier in
      let k = one.thread in
      let may = run.1 in
      let i = instr_at code (g.threads k).at.pc in
      let told = told_by (one_thread code s) (Erase code s earlier) g one in
      let elements = elements_in (map (λ said. said.told) (Erase code s earlier)) (speaks_of i (g.threads k) (result_of one.event)) in
      subst (λ v. Keeps (words_now g.words one.event) (put g.threads k (after (turn code s (g.threads k)) (result_of one.event))) (λ u. is_started bounds (words_now g.words one.event) u || g.started u)
      (put g.made k (g.made k + counted (after (turn code s (g.threads k)) (result_of one.event)).at.state)) (logged code s (one ∷ earlier)) v)
      (sym (told_more k told (Erase code s earlier)))
      (still code s g k one.event (logged code s earlier) (printed_in (events_in code s earlier)) (holds earlier run.0) may.started may.answered (laws.few bounds code s (from code s) earlier (λ u. omega arith) run.0) elements
      i (sorted code s (g.threads k) laws.turns i (standing.stages code s earlier k)) may.next.asks)
