-- What the state words say wherever a run is.
use Rattle.sharc_history_laws.proofs.{Imports.{◌≡◌, ℕ, ◌+◌, ◌%◌, ◌^◌, ◌<◌, ◌≤◌, ◌⊎◌, Bool, true, false, ◌||◌, ◌&&◌, List, [], ◌∷◌, Option, Some, None, refl, sym, ap, ◌∙◌, subst, ⊎_elim, inl, inr, arith, cases_eq, or_right, or_left, nat_tests, get_or-set_other, get_or-map-range_with_len, nat_eq, nat_lt, nat_le, ◌==◌, slice_index, THREADS, WordStep, WordEvent, word_after, words_after_step, WordOp, Code, Shape, TurnState, Tries, Stopped, Ended, state_word, next_thread_word, words_of, Machine, StepTurn as Act, step_of as step_at, opening_words, opens_with, opening_cell, first_global, turn, after, asked_by, may_go, counted, Turn, Global, IsRun, put, words_now, result_of, is_started, opening_of, Answered, RunLaws, StandingLaws, is_ended, drawn_of, one_thread, bounds, place_after, state_of, or_split, not_ended, set_here, set_same, not_true, put_same, put_other, sum_to, sum_grows, sum_bound}, Places.sum_more, Sorts.{LeavesThem, Elsewhere, Plain, Drew, Spawned, Sort, Ordinary, Draws, Starts, Returns, Ends, sorted}, Tells.{Tells, StateChange, Same, Begins, Own, Changes, tells_still}}
use Rattle.sharc_code.specs.{declared.state.TurnState.TheVariants.Runs, Runs.step_of}

-- ---- words
step_keeps : (words : List ℕ) (step : WordStep) (w : ℕ) → (step.word ≡ w → (v : ℕ) → word_after step.op v ≡ v) → slice_index (words_after_step words step) w ≡ slice_index words w
step_keeps words step w keeps =
    ⊎_elim
    (λ (e : w ≡ step.word).
    let here = set_same words step.word (word_after step.op (slice_index words step.word)) (keeps (sym e) (slice_index words step.word)) in
    ap (λ n. slice_index (words_after_step words step) n) e ∙ here ∙ ap (λ n. slice_index words n) (sym e))
    (λ (ne : w ≡ step.word → ⊥). get_or-set_other words step.word w (word_after step.op (slice_index words step.word)) 0 ne)
    (cases_eq w step.word)

module _ (words : List ℕ) where
  elsewhere : (event : Option WordEvent) (asked : Option WordStep) (w : ℕ) → step_of event ≡ asked → ((step : WordStep) → asked ≡ Some step → step.word ≡ w → (v : ℕ) → word_after step.op v ≡ v)
      → slice_index (words_now words event) w ≡ slice_index words w
  elsewhere None asked w q keeps = refl
  elsewhere (Some e) asked w q keeps = step_keeps words e.step w (keeps e.step (sym q))

  after_set : (event : Option WordEvent) (step : WordStep) → step_of event ≡ Some step → Answered words event → slice_index (words_now words event) step.word ≡ word_after step.op (slice_index words step.word)
  after_set None step q a = absurd (let f : None ≡ Some step = q in cc)
  after_set (Some e) step q a =
      let same : e.step ≡ step = cc in
      subst (λ (x : WordStep). slice_index (words_after_step words e.step) x.word ≡ word_after x.op (slice_index words x.word)) same
      (set_here words e.step.word (word_after e.step.op (slice_index words e.step.word)) a.on_a_word)

  after_other : (event : Option WordEvent) (step : WordStep) (w : ℕ) → step_of event ≡ Some step → (w ≡ step.word → ⊥) → slice_index (words_now words event) w ≡ slice_index words w
  after_other None step w q ne = refl
  after_other (Some e) step w q ne =
      let same : e.step ≡ step = cc in
      get_or-set_other words e.step.word w (word_after e.step.op (slice_index words e.step.word)) 0 (λ (x : w ≡ e.step.word). ne (x ∙ ap (λ (y : WordStep). y.word) same))

  found_is : (event : Option WordEvent) (step : WordStep) → step_of event ≡ Some step → Answered words event → result_of event ≡ slice_index words step.word
  found_is None step q a = absurd (let f : None ≡ Some step = q in cc)
  found_is (Some e) step q a = let same : e.step ≡ step = cc in a.result_is ∙ ap (λ (y : WordStep). slice_index words y.word) same

-- ---- tests
low_and_one : (words : List ℕ) (t : ℕ) → is_started bounds words t ≡ true → (t < THREADS) × (slice_index words (state_word t) ≡ 1)
low_and_one words t e = by (nat_lt t THREADS) refl (nat_eq (slice_index words (state_word t)) 1) refl e
  where
    by : (b : Bool) → nat_lt t THREADS ≡ b → (c : Bool) → nat_eq (slice_index words (state_word t)) 1 ≡ c → (b && c) ≡ true → (t < THREADS) × (slice_index words (state_word t) ≡ 1)
    by true f true h e = (grind (arith, nat_tests), grind (arith, nat_tests))
    by true f false h e = cc
    by false f c h e = cc

pub is_one : (words : List ℕ) (t : ℕ) → t < THREADS → slice_index words (state_word t) ≡ 1 → is_started bounds words t ≡ true
is_one words t low e =
    let a : nat_lt t THREADS ≡ true = grind (arith, nat_tests) in
    let b : nat_eq (slice_index words (state_word t)) 1 ≡ true = grind (arith, nat_tests) in
    rw (a, b) refl

going : (state : TurnState) → may_go state ≡ true → is_ended state ≡ false
going Runs e = refl
going Tries e = refl
going Stopped e = absurd cc
going Ended e = absurd cc

-- ---- one turn
abbrev next_of : Global Machine → ℕ
next_of g = slice_index g.words next_thread_word

abbrev drawns : (ℕ → Machine) → ℕ → Option ℕ
drawns threads t = drawn_of (threads t).own.stage

abbrev endeds : (ℕ → Machine) → ℕ → Bool
endeds threads t = is_ended (threads t).at.state

pub record Holds (g : Global Machine) : Type 0 where
  pub tells : Tells (next_of g) (state_of g) (drawns g.threads) (endeds g.threads) g.started
  pub few : next_of g ≤ 1 + sum_to THREADS g.made
  pub first : g.started 0 ≡ true

module _ (g : Global Machine) (k : ℕ) (event : Option WordEvent) (h : Holds g) (t : Act) (was : g.started k ≡ true) (runs : may_go (g.threads k).at.state ≡ true)
    (asks : step_of event ≡ asked_by t) (answered : Answered g.words event) (number : (g.threads k).own.number ≡ k) (room : (u : ℕ) → g.made u ≤ 100000000) where
  abbrev m : Machine
  m = g.threads k

  abbrev x : Machine
  x = after t (result_of event)

  abbrev words : List ℕ
  words = words_now g.words event

  abbrev state : ℕ → ℕ
  state u = slice_index words (state_word u)

  abbrev next : ℕ
  next = slice_index words next_thread_word

  abbrev threads : ℕ → Machine
  threads = put g.threads k x

  abbrev started : ℕ → Bool
  started u = is_started bounds words u || g.started u

  k_low : k < THREADS
  k_low = h.tells.low k was

  on : is_ended m.at.state ≡ false
  on = going m.at.state runs

  x_is : threads k ≡ x
  x_is = put_same g.threads k x

  abbrev States : Type 0
  States = (u : ℕ) → u < THREADS → StateChange k (state_of g u) (state u) (drawns g.threads k) (drawns threads k) u

  changes : States → next_of g ≤ next → ((n : ℕ) → drawn_of x.own.stage ≡ Some n → (drawn_of m.own.stage ≡ Some n) ⊎ ((next_of g ≤ n) × (n < next) × (n < THREADS)))
      → (is_ended x.at.state ≡ true → state k ≡ 3) → (state k ≡ 3 → is_ended x.at.state ≡ true)
      → Changes k (next_of g) next (state_of g) state (drawns g.threads) (drawns threads) (endeds g.threads) (endeds threads) g.started started
  changes states grows own ends end = record {
    was = was;
    on = on;
    drawn_others = λ u ne. ap (λ (y : Machine). drawn_of y.own.stage) (put_other g.threads k u x ne);
    ended_others = λ u ne. ap (λ (y : Machine). is_ended y.at.state) (put_other g.threads k u x ne);
    states = states;
    grows = grows;
    drawn_own = λ n e. own n (sym (ap (λ (y : Machine). drawn_of y.own.stage) x_is) ∙ e);
    started_is = λ u e. ⊎_elim (λ (new : is_started bounds words u ≡ true). inr (low_and_one words u new)) (λ (old : g.started u ≡ true). inl old) (or_split (is_started bounds words u) (g.started u) e);
    started_old = λ u e. or_right (is_started bounds words u) (g.started u) e;
    started_new = λ u low e. or_left (is_started bounds words u) (g.started u) (is_one words u low e);
    ends_own = λ e. ends (sym (ap (λ (y : Machine). is_ended y.at.state) x_is) ∙ e);
    end_own = λ e. ap (λ (y : Machine). is_ended y.at.state) x_is ∙ end e;
  }

  -- the state word of a thread that goes on is not 3
  three : StateChange k (state_of g k) (state k) (drawns g.threads k) (drawns threads k) k → ((state k ≡ 3) → (state k ≡ 2) ⊎ (state k ≡ 3) → ⊥) → state k ≡ 3 → ⊥
  three (Same e) own is = not_ended (is_ended m.at.state) (h.tells.end k k_low (sym e ∙ is)) on
  three (Begins d e none) own is = omega arith
  three (Own e new) own is = own is new

  drawn_x : drawn_of x.own.stage ≡ None → drawns threads k ≡ None
  drawn_x e = ap (λ (y : Machine). drawn_of y.own.stage) x_is ∙ e

  made : ℕ → ℕ
  made = put g.made k (g.made k + counted x.at.state)

  few_same : next ≡ next_of g → next ≤ 1 + sum_to THREADS (put g.made k (g.made k + counted x.at.state))
  few_same e = let old = h.few in let more = sum_grows THREADS g.made k (counted x.at.state) in omega arith

  abbrev Told : Type 0
  Told = Changes k (next_of g) next (state_of g) state (drawns g.threads) (drawns threads) (endeds g.threads) (endeds threads) g.started started
      × (next ≤ 1 + sum_to THREADS (put g.made k (g.made k + counted x.at.state)))

  no : (u : ℕ) → next_thread_word ≡ state_word u → ⊥
  no u e = omega (arith, e)

  ordinary : Elsewhere (asked_by t) → Plain m x → Told
  ordinary away plain =
      let next_is : next ≡ next_of g = elsewhere g.words event (asked_by t) next_thread_word asks (λ step is. of_next (asked_by t) step is away) in
      let states : States = λ u low. Same (elsewhere g.words event (asked_by t) (state_word u) asks (λ step is. of_state (asked_by t) step is u low away)) in (
        changes states (omega arith) (λ n e. inl (plain.drawn n e)) (λ e. absurd (not_ended (is_ended x.at.state) e plain.on))
            (λ e. absurd (let s : state k ≡ state_of g k = elsewhere g.words event (asked_by t) (state_word k) asks (λ step is. of_state (asked_by t) step is k k_low away) in not_ended (is_ended m.at.state) (h.tells.end k k_low (sym s ∙ e)) on)),
        few_same next_is,
      )
    where
      of_next : (asked : Option WordStep) (step : WordStep) → asked ≡ Some step → Elsewhere asked → step.word ≡ next_thread_word → (v : ℕ) → word_after step.op v ≡ v
      of_next None step is away = absurd (cc)
      of_next (Some y) step is away = let same : y ≡ step = cc in (subst LeavesThem same away).next

      of_state : (asked : Option WordStep) (step : WordStep) → asked ≡ Some step → (u : ℕ) → u < THREADS → Elsewhere asked → step.word ≡ state_word u → (v : ℕ) → word_after step.op v ≡ v
      of_state None step is u low away = absurd (cc)
      of_state (Some y) step is u low away = let same : y ≡ step = cc in (subst LeavesThem same away).states u low

  draws : asked_by t ≡ Some (step_at next_thread_word (WordOp.Add 1)) → Drew (result_of event) x → Told
  draws is drew =
      let q = asks ∙ is in
      let step = step_at next_thread_word (WordOp.Add 1) in
      let found : result_of event ≡ next_of g = found_is g.words event step q answered in
      let new : next ≡ (next_of g + 1) % 2 ^ 64 = after_set g.words event step q answered in
      let old = h.few in
      let most = sum_bound THREADS 100000000 g.made room in
      let more : next ≡ next_of g + 1 = omega arith in
      let other : (u : ℕ) → state u ≡ state_of g u = λ u. after_other g.words event step (state_word u) q (λ e. no u (sym e)) in
      let states : States = λ u low. Same (other u) in
      let sums = sum_more THREADS g.made k (counted x.at.state) k_low in
      let one = drew.counts in (
        changes states (omega arith) (λ n e. inr (let d = drew.drawn n e in let same = d.0 in (omega arith, omega arith, d.1))) (λ e. absurd (not_ended (is_ended x.at.state) e drew.on))
            (λ e. absurd (not_ended (is_ended m.at.state) (h.tells.end k k_low (sym (other k) ∙ e)) on)),
        omega arith,
      )

  starts : (n : ℕ) → drawn_of m.own.stage ≡ Some n → asked_by t ≡ Some (step_at (state_word n) (WordOp.Swap 1)) → Spawned x → Told
  starts n drawn is over =
      let q = asks ∙ is in
      let step = step_at (state_word n) (WordOp.Swap 1) in
      let next_is : next ≡ next_of g = after_other g.words event step next_thread_word q (no n) in
      let here : state n ≡ 1 = after_set g.words event step q answered in
      let other : (u : ℕ) → (u ≡ n → ⊥) → state u ≡ state_of g u = λ u ne. after_other g.words event step (state_word u) q (λ e. ne (omega (arith, e))) in
      let one : (u : ℕ) → StateChange k (state_of g u) (state u) (drawns g.threads k) (drawns threads k) u =
      λ u. ⊎_elim (λ (e : u ≡ n). Begins (drawn ∙ ap (λ j. Some j) (sym e)) (ap state e ∙ here) (drawn_x over.drawn)) (λ (ne : u ≡ n → ⊥). Same (other u ne)) (cases_eq u n) in
      let k_three : state k ≡ 3 → ⊥ = λ e. ⊎_elim (λ (same : k ≡ n). let v : state k ≡ 1 = ap state same ∙ here in omega arith)
      (λ (ne : k ≡ n → ⊥). not_ended (is_ended m.at.state) (h.tells.end k k_low (sym (other k ne) ∙ e)) on) (cases_eq k n) in
      (changes (λ u low. one u) (omega arith) (λ j e. absurd (let f : None ≡ Some j = sym over.drawn ∙ e in cc)) (λ e. absurd (not_ended (is_ended x.at.state) e over.on)) (λ e. absurd (k_three e)), few_same next_is)

  own : (v : ℕ) → (v ≡ 2) ⊎ (v ≡ 3) → asked_by t ≡ Some (step_at (state_word m.own.number) (WordOp.Swap v))
      → (next ≡ next_of g) × (state k ≡ v) × States
  own v is_v is =
      let q = asks ∙ is in
      let step = step_at (state_word m.own.number) (WordOp.Swap v) in
      let next_is : next ≡ next_of g = after_other g.words event step next_thread_word q (no m.own.number) in
      let there : state m.own.number ≡ v = after_set g.words event step q answered in
      let here : state k ≡ v = ap state (sym number) ∙ there in
      let other : (u : ℕ) → (u ≡ k → ⊥) → state u ≡ state_of g u = λ u ne. after_other g.words event step (state_word u) q (λ e. ne (let same : u ≡ m.own.number = omega (arith, e) in same ∙ number)) in
      let is_own : (v ≡ 2) ⊎ (v ≡ 3) → (state k ≡ 2) ⊎ (state k ≡ 3) = λ w. ⊎_elim (λ (two : v ≡ 2). inl (here ∙ two)) (λ (three : v ≡ 3). inr (here ∙ three)) w in (
        next_is,
        here,
        λ u low. ⊎_elim (λ (e : u ≡ k). Own e (⊎_elim (λ (two : state k ≡ 2). inl (ap state e ∙ two)) (λ (three : state k ≡ 3). inr (ap state e ∙ three)) (is_own is_v)))
            (λ (ne : u ≡ k → ⊥). Same (other u ne)) (cases_eq u k),
      )

  returns : asked_by t ≡ Some (step_at (state_word m.own.number) (WordOp.Swap 2)) → Plain m x → Told
  returns is plain =
      let o = own 2 (inl refl) is in
      let next_is = o.0 in
      let two = o.1 in
      (changes o.2 (omega arith) (λ n e. inl (plain.drawn n e)) (λ e. absurd (not_ended (is_ended x.at.state) e plain.on)) (λ e. absurd (omega arith)), few_same next_is)

  ends : asked_by t ≡ Some (step_at (state_word m.own.number) (WordOp.Swap 3)) → is_ended x.at.state ≡ true → drawn_of x.own.stage ≡ None → Told
  ends is ended none =
      let o = own 3 (inr refl) is in
      let next_is = o.0 in
      (changes o.2 (omega arith) (λ n e. absurd (let f : None ≡ Some n = sym none ∙ e in cc)) (λ e. o.1) (λ e. ended), few_same next_is)

  told : Sort m t → Told
  told (Ordinary away plain) = ordinary away (plain (result_of event))
  told (Draws is drew) = draws is (drew (result_of event))
  told (Starts n drawn is over) = starts n drawn is (over (result_of event))
  told (Returns is plain) = returns is (plain (result_of event))
  told (Ends is ended none) = ends is (ended (result_of event)) (none (result_of event))

  pub still : Sort m t → Tells next state (drawns threads) (endeds threads) started × (next ≤ 1 + sum_to THREADS (put g.made k (g.made k + counted x.at.state)))
  still sort = let d = told sort in
      (tells_still k (next_of g) next (state_of g) state (drawns g.threads) (drawns threads) (endeds g.threads) (endeds threads) g.started started h.tells d.0, d.1)

-- ---- the beginning
module _ (code : Code) (s : Shape) where
  abbrev opened : List ℕ
  opened = opening_words code s

  word_is : (i : ℕ) → i < words_of s → slice_index opened i ≡ opens_with code s i
  word_is i lt = get_or-map-range_with_len (opens_with code s) 0 (words_of s) i i 0 lt (omega arith)

  cell_low : (i : ℕ) → i < first_global s → opening_cell code s i ≡ 0
  cell_low i a = let p : nat_le (first_global s) i ≡ false = grind (arith, nat_tests) in rw p refl

  ne_eq : (a b : ℕ) → (a ≡ b → ⊥) → nat_eq a b ≡ false
  ne_eq a b ne = grind (arith, nat_tests)

  first : slice_index opened (state_word 0) ≡ 1
  first = word_is (state_word 0) (omega arith)

  next_is : slice_index opened next_thread_word ≡ 1
  next_is = word_is next_thread_word (omega arith)

  others : (t : ℕ) → t < THREADS → (t ≡ 0 → ⊥) → slice_index opened (state_word t) ≡ 0
  others t low ne =
      let i = state_word t in
      let a : (i == 1) ≡ false = ne_eq i 1 (λ e. omega (arith, e)) in
      let b : (i == 2) ≡ false = ne_eq i 2 (λ e. omega (arith, e)) in
      let c : (i == 4) ≡ false = ne_eq i 4 (λ e. ne (omega (arith, e))) in
      let d : (i == 5) ≡ false = ne_eq i 5 (λ e. omega (arith, e)) in
      let cell : opens_with code s i ≡ opening_cell code s i = rw (a, b, c, d) refl in
      word_is i (omega (arith, low)) ∙ cell ∙ cell_low i (omega (arith, low))

  at_first : (t : ℕ) → t < THREADS → ((t ≡ 0) × (slice_index opened (state_word t) ≡ 1)) ⊎ ((t ≡ 0 → ⊥) × (slice_index opened (state_word t) ≡ 0))
  at_first t low = ⊎_elim (λ (e : t ≡ 0). inl (e, ap (λ u. slice_index opened (state_word u)) e ∙ first)) (λ (ne : t ≡ 0 → ⊥). inr (ne, others t low ne)) (cases_eq t 0)

  abbrev from : Global Machine
  from = opening_of bounds (one_thread code s) opened

  one_or_none : (t : ℕ) → t < THREADS → slice_index opened (state_word t) ≤ 1
  one_or_none t low = ⊎_elim (λ (e : (t ≡ 0) × (slice_index opened (state_word t) ≡ 1)). let v = e.1 in omega arith) (λ (e : (t ≡ 0 → ⊥) × (slice_index opened (state_word t) ≡ 0)). let v = e.1 in omega arith) (at_first t low)

  opens : Holds from
  opens = record {
    tells = record {
      low = λ t e. (low_and_one opened t e).0;
      undrawn = λ t e. refl;
      unended = λ t e. refl;
      number = λ u n d. absurd (let f : None ≡ Some n = d in cc);
      one = λ u v n d e. absurd (let f : None ≡ Some n = d in cc);
      fresh = λ n low le. others n low (λ e. let one = next_is in omega arith);
      few = λ t low. let one = one_or_none t low in omega arith;
      waits = λ t low z. not_true (is_started bounds opened t) (λ e. let one = (low_and_one opened t e).1 in omega arith);
      begun = λ t low off. ⊎_elim
          (λ (e : (t ≡ 0) × (slice_index opened (state_word t) ≡ 1)). absurd (not_ended (is_started bounds opened t) (is_one opened t low e.1) off))
          (λ (e : (t ≡ 0 → ⊥) × (slice_index opened (state_word t) ≡ 0)). e.1)
          (at_first t low);
      ends = λ t low e. absurd (let f : false ≡ true = e in cc);
      end = λ t low e. absurd (let one = one_or_none t low in omega arith);
    };
    few = let one = next_is in omega arith;
    first = is_one opened 0 (omega arith) first;
  }

-- ---- runs
module _ (laws : RunLaws) (standing : StandingLaws) (code : Code) (s : Shape) where
  pub holds : (turns : List Turn) → IsRun bounds (one_thread code s) (from code s) turns → Holds (place_after code s turns)
  holds [] run = opens code s
  holds (one ∷ earlier) run =
      let g = place_after code s earlier in
      let k = one.thread in
      let may = run.1 in
      let old = holds earlier run.0 in
      let d = still g k one.event old (turn code s (g.threads k)) may.started may.next.runs may.next.asks may.answered (standing.numbers code s earlier k)
      (laws.few bounds code s (from code s) earlier (λ u. omega arith) run.0) (sorted laws.turns code s (g.threads k) (standing.stages code s earlier k)) in
      record { tells = d.0; few = d.1; first = or_right (is_started bounds (words_now g.words one.event) 0) (g.started 0) old.first }
