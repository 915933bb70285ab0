-- Where a run is: the numbers of its threads, their stages, and who was started.
use Rattle.sharc_code.proofs.{Imports.{◌≡◌, ℕ, zero, suc, ◌<◌, Bool, true, false, ◌||◌, ◌&&◌, List, [], ◌∷◌, ◌++◌, Option, Some, None, refl, sym, ap, ◌∙◌, subst, arith, ⊎_elim, cases_eq, or_left, nat_tests, get_or-set_other, nat_eq, nat_lt, slice_index, slice_set, THREADS, WordStep, WordEvent, word_after, words_after_step, WordOp, Code, Shape, state_word, Machine, Act, Local, Asks, turn, asked_by, Turn, IsRun, MayTurn, at, after_turn, put, words_now, state_now, result_of, step_in as step_of, is_started, opening_of, Global, opening_words, one_thread, bounds, place_after, IsStageOf, begins_of}, Places.{put_same, put_other}, Keeps.keeps_turn, Touching.{OnState, Leaves_it, Starts_it, Ends_it, Leaves_for_good, Touches, touches}}

abbrev Standing : Type 0
Standing = Global Machine

-- ---- what holds at every place of a run
pub record IsSound (s : Shape) (g : Standing) : Type 0 where
  pub numbers : (t : ℕ) → (g.threads t).own.number ≡ t
  pub shapes : (t : ℕ) → IsStageOf s (g.threads t).own.stage
  pub started : (t : ℕ) → is_started bounds g.words t ≡ true → g.started t ≡ true

module _ (code : Code) (s : Shape) where
  at_thread : (P : ℕ → Machine → Type 0) (f : ℕ → Machine) (k : ℕ) (m : Machine) → ((t : ℕ) → P t (f t)) → P k m → (t : ℕ) → P t (put f k m t)
  at_thread P f k m all one t =
      ⊎_elim
      (λ (e : t ≡ k). subst (λ j. P j (put f k m j)) (sym e) (subst (P k) (sym (put_same f k m)) one))
      (λ (ne : t ≡ k → ⊥). subst (P t) (sym (put_other f k t m ne)) (all t))
      (cases_eq t k)

  sound_turn : (g : Standing) (turn : Turn) → IsSound s g → IsSound s (after_turn bounds (one_thread code s) g turn)
  sound_turn g one h =
      let k = one.thread in
      let m = g.threads k in
      let x = state_now (one_thread code s) g one in
      record {
        numbers = at_thread (λ t m. m.own.number ≡ t) g.threads k x h.numbers ((keeps_turn code s m (result_of one.event)).number ∙ h.numbers k);
        shapes = at_thread (λ t m. IsStageOf s m.own.stage) g.threads k x h.shapes ((keeps_turn code s m (result_of one.event)).stage (h.shapes k));
        started = λ t e. or_left (is_started bounds (words_now g.words one.event) t) (g.started t) e;
      }

  pub sound_on : (g : Standing) (turns : List Turn) → IsSound s g → IsSound s (at bounds (one_thread code s) g turns)
  sound_on g [] h = h
  sound_on g (one ∷ earlier) h = sound_turn (at bounds (one_thread code s) g earlier) one (sound_on g earlier h)

  pub sound : (turns : List Turn) → IsSound s (place_after code s turns)
  sound turns = sound_on (opening_of bounds (one_thread code s) (opening_words code s)) turns (record {
    numbers = λ t. refl;
    shapes = λ t. tt;
    started = λ t e. e;
  })

  -- ---- a state word that is 1 stays so, unless its own thread makes a turn
  leaves_one : (m : Machine) (t : ℕ) (op : WordOp) → (m.own.number ≡ t → ⊥) → OnState m t op → word_after op 1 ≡ 1
  leaves_one m t op other (Leaves_it h) = h 1
  leaves_one m t op other (Starts_it b is) = ap (λ o. word_after o 1) is
  leaves_one m t op other (Ends_it e is) = absurd (other e)
  leaves_one m t op other (Leaves_for_good e is) = absurd (other e)

  -- and it becomes 1 by the last turn of a Spawn
  was_one : (m : Machine) (t v : ℕ) (op : WordOp) → (begins_of m.own.stage ≡ Some t → ⊥) → OnState m t op → word_after op v ≡ 1 → v ≡ 1
  was_one m t v op unbegun (Leaves_it h) e = sym (h v) ∙ e
  was_one m t v op unbegun (Starts_it b is) e = absurd (unbegun b)
  was_one m t v op unbegun (Ends_it own is) e = absurd (let f : 2 ≡ 1 = sym (ap (λ o. word_after o v) is) ∙ e in omega (arith, f))
  was_one m t v op unbegun (Leaves_for_good own is) e = absurd (let f : 3 ≡ 1 = sym (ap (λ o. word_after o v) is) ∙ e in omega (arith, f))

  word_stays : (words : List ℕ) (step : WordStep) (t : ℕ) → (step.word ≡ state_word t → word_after step.op 1 ≡ 1) → slice_index words (state_word t) ≡ 1 → slice_index (words_after_step words step) (state_word t) ≡ 1
  word_stays words step t leaves e =
      ⊎_elim
      (λ (same : state_word t ≡ step.word).
      let here : slice_index words step.word ≡ 1 = ap (λ n. slice_index words n) (sym same) ∙ e in
      let new : word_after step.op (slice_index words step.word) ≡ 1 = ap (word_after step.op) here ∙ leaves (sym same) in
      ap (λ n. slice_index (words_after_step words step) n) same ∙ set_one words step.word _ new here)
      (λ (ne : state_word t ≡ step.word → ⊥). get_or-set_other words step.word (state_word t) (word_after step.op (slice_index words step.word)) 0 ne ∙ e)
      (cases_eq (state_word t) step.word)
    where
      set_one : (words : List ℕ) (n v : ℕ) → v ≡ 1 → slice_index words n ≡ 1 → slice_index (slice_set words n v) n ≡ 1
      set_one [] n v e h = h
      set_one (w ∷ ws) zero v e h = e
      set_one (w ∷ ws) (suc n) v e h = set_one ws n v e h

  event_stays : (m : Machine) (words : List ℕ) (a : Act) (event : Option WordEvent) (t : ℕ) → (m.own.number ≡ t → ⊥) → Touches m t a → step_of event ≡ asked_by a → slice_index words (state_word t) ≡ 1 → slice_index (words_now words event) (state_word t) ≡ 1
  event_stays m words (Local x) None t other leaves asks e = e
  event_stays m words (Local x) (Some event) t other leaves asks e = absurd (let f : Some event.step ≡ None = asks in cc)
  event_stays m words (Asks step go) None t other leaves asks e = absurd (let f : None ≡ Some step = asks in cc)
  event_stays m words (Asks step go) (Some event) t other leaves asks e =
      let same : event.step ≡ step = cc in
      subst (λ (x : WordStep). slice_index (words_after_step words x) (state_word t) ≡ 1) (sym same) (word_stays words step t (λ at. leaves_one m t step.op other (leaves at)) e)

  low_and_one : (words : List ℕ) (t : ℕ) → is_started bounds words t ≡ true → (t < THREADS) × (slice_index words (state_word t) ≡ 1)
  low_and_one words t e = by (nat_lt t THREADS) refl (nat_eq (slice_index words (state_word t)) 1) refl e
    where
      by : (b : Bool) → nat_lt t THREADS ≡ b → (c : Bool) → nat_eq (slice_index words (state_word t)) 1 ≡ c → (b && c) ≡ true → (t < THREADS) × (slice_index words (state_word t) ≡ 1)
      by true f true h e = (grind (arith, nat_tests), grind (arith, nat_tests))
      by true f false h e = cc
      by false f c h e = cc

  is_one : (words : List ℕ) (t : ℕ) → t < THREADS → slice_index words (state_word t) ≡ 1 → is_started bounds words t ≡ true
  is_one words t low e =
      let a : nat_lt t THREADS ≡ true = grind (arith, nat_tests) in
      let b : nat_eq (slice_index words (state_word t)) 1 ≡ true = grind (arith, nat_tests) in
      rw (a, b) refl

  pub started_stays : (g : Standing) (one : Turn) (t : ℕ) → IsSound s g → MayTurn bounds (one_thread code s) g one → (t ≡ one.thread → ⊥) → is_started bounds g.words t ≡ true → is_started bounds (words_now g.words one.event) t ≡ true
  started_stays g one t h may ne e =
      let is = low_and_one g.words t e in
      let m = g.threads one.thread in
      let other : m.own.number ≡ t → ⊥ = λ f. ne (sym f ∙ h.numbers one.thread) in
      is_one (words_now g.words one.event) t is.0 (event_stays m g.words (turn code s m) one.event t other (touches code s m t is.0 (h.shapes one.thread)) may.next.asks is.1)

  -- ---- a state word that was not 1 becomes so by a Spawn of its thread
  word_was : (m : Machine) (words : List ℕ) (step : WordStep) (t : ℕ) → (begins_of m.own.stage ≡ Some t → ⊥) → (step.word ≡ state_word t → OnState m t step.op) → slice_index (words_after_step words step) (state_word t) ≡ 1 → slice_index words (state_word t) ≡ 1
  word_was m words step t unbegun on e =
      ⊎_elim
      (λ (same : state_word t ≡ step.word).
      ap (λ n. slice_index words n) same
      ∙ by words step.word (word_after step.op (slice_index words step.word)) (was_one m t (slice_index words step.word) step.op unbegun (on (sym same))) (sym (ap (λ n. slice_index (words_after_step words step) n) same) ∙ e))
      (λ (ne : state_word t ≡ step.word → ⊥). sym (get_or-set_other words step.word (state_word t) (word_after step.op (slice_index words step.word)) 0 ne) ∙ e)
      (cases_eq (state_word t) step.word)
    where
      by : (words : List ℕ) (n v : ℕ) → (v ≡ 1 → slice_index words n ≡ 1) → slice_index (slice_set words n v) n ≡ 1 → slice_index words n ≡ 1
      by [] n v back e = e
      by (w ∷ ws) zero v back e = back e
      by (w ∷ ws) (suc n) v back e = by ws n v back e

  event_was : (m : Machine) (words : List ℕ) (a : Act) (event : Option WordEvent) (t : ℕ) → (begins_of m.own.stage ≡ Some t → ⊥) → Touches m t a → step_of event ≡ asked_by a → slice_index (words_now words event) (state_word t) ≡ 1 → slice_index words (state_word t) ≡ 1
  event_was m words (Local x) None t unbegun on asks e = e
  event_was m words (Local x) (Some event) t unbegun on asks e = absurd (let f : Some event.step ≡ None = asks in cc)
  event_was m words (Asks step go) None t unbegun on asks e = absurd (let f : None ≡ Some step = asks in cc)
  event_was m words (Asks step go) (Some event) t unbegun on asks e =
      let same : event.step ≡ step = cc in
      word_was m words step t unbegun on (subst (λ (x : WordStep). slice_index (words_after_step words x) (state_word t) ≡ 1) same e)

  pub started_before : (g : Standing) (one : Turn) (t : ℕ) → IsSound s g → MayTurn bounds (one_thread code s) g one → (begins_of (g.threads one.thread).own.stage ≡ Some t → ⊥)
      → is_started bounds (words_now g.words one.event) t ≡ true → is_started bounds g.words t ≡ true
  started_before g one t h may unbegun e =
      let is = low_and_one (words_now g.words one.event) t e in
      let m = g.threads one.thread in
      is_one g.words t is.0 (event_was m g.words (turn code s m) one.event t unbegun (touches code s m t is.0 (h.shapes one.thread)) may.next.asks is.1)

  -- so who was started in a run is determined by the words at its end, where only threads that were started before make turns
  or_or : (a b c : Bool) → (b ≡ true → c ≡ false → a ≡ true) → (a || (b || c)) ≡ (a || c)
  or_or true b c h = refl
  or_or false true true h = refl
  or_or false true false h = absurd (let f : false ≡ true = h refl refl in cc)
  or_or false false c h = refl

  pub started_then : (g : Standing) → IsSound s g → (turns : List Turn) → IsRun bounds (one_thread code s) g turns → ((one : Turn) (later earlier : List Turn) → turns ≡ later ++ one ∷ earlier → g.started one.thread ≡ true)
      → (t : ℕ) → (at bounds (one_thread code s) g turns).started t ≡ (is_started bounds (at bounds (one_thread code s) g turns).words t || g.started t)
  started_then g h [] run own t = by (is_started bounds g.words t) (g.started t) (h.started t)
    where
      by : (a b : Bool) → (a ≡ true → b ≡ true) → b ≡ (a || b)
      by true b f = f refl
      by false b f = refl
  started_then g h (one ∷ earlier) run own t =
      let before = at bounds (one_thread code s) g earlier in
      let old : before.started t ≡ (is_started bounds before.words t || g.started t) = started_then g h earlier run.0 (λ x later early e. own x (one ∷ later) early (ap (λ xs. one ∷ xs) e)) t in
      let mine : g.started one.thread ≡ true = own one [] earlier refl in
      ap (λ b. is_started bounds (words_now before.words one.event) t || b) old
      ∙ or_or (is_started bounds (words_now before.words one.event) t) (is_started bounds before.words t) (g.started t)
      (λ e off. started_stays before one t (sound_on g earlier h) run.1 (λ f. let x : true ≡ false = sym mine ∙ ap g.started (sym f) ∙ off in cc) e)
