-- The chooser of a schedule leads to the run of its turns.
use Rattle.sharc_schedule.proofs.{Imports.{◌≡◌, ℕ, ◌+◌, ◌<◌, ◌≤◌, Bool, true, false, not, ◌&&◌, ◌||◌, nat_eq, nat_lt, ⊎_elim, List, [], ◌∷◌, ◌++◌, Option, Some, None, length, refl, sym, ap, ◌∙◌, subst, arith, append_assoc, length-append, if◌then◌else◌, append-nil, lt-ltb, le-ltb, true_or_false, slice_index, range_with_len, dec_le, ℕ_discrete, dite, WordEvent, WordStep, THREADS, SourceEvent, Code, Shape, TurnState, Tries, Machine, state_word, opening_words, turn, after, asked_by, may_go, counted, Turn, Global, OneThread, MayTurn, IsRun, Answered, is_started, result_of, step_of, state_now, made_now, opening_of, scheduled, threads_of, RunLaws, ThreadLaws, found_now, behind, waits_now, one_thread, bounds, place_after, is_enabled, enabled, AreChosen, is_try, place_in, places_of, or_first}, Trying.{NoTries, put_own, put_other}, Among.{Among, place_within, place_is, among_filter, among_range, none_left, cut, index_seam}}
use Rattle.sharc_code.specs.Machine as Step

all_four : (a b c d : Bool) → a ≡ true → b ≡ true → c ≡ true → d ≡ false → (a && (b && (c && not d))) ≡ true
all_four a b c d e f g h = ap (λ x. x && (b && (c && not d))) e ∙ (ap (λ x. x && (c && not d)) f ∙ (ap (λ x. x && not d) g ∙ ap not h))

-- a turn leads where it leads with the words as they are
led : (words : List ℕ) (a : Step.Turn) (event : Option WordEvent) → step_of event ≡ asked_by a → Answered words event → after a (result_of event) ≡ after a (found_now words a)
led words (Step.Local x) event e answered = refl
led words (Step.Asks step go) None e answered = absurd (let f : None ≡ Some step = e in cc)
led words (Step.Asks step go) (Some event) e answered =
    let same : event.step ≡ step = cc in
    ap go (answered.result_is ∙ ap (λ (x : WordStep). slice_index words x.word) same)

nat_lt_threads : (t : ℕ) (b : Bool) → (nat_lt t THREADS && b) ≡ true → t < THREADS
nat_lt_threads t b on = dite (dec_le THREADS t) (λ le. absurd (let no = le-ltb t THREADS le in let f : (nat_lt t THREADS && b) ≡ false = ap (λ x. x && b) no in let g : true ≡ false = sym on ∙ f in cc)) (λ gt. omega arith)

or_either : (P : Type 0) (a b : Bool) → (a ≡ true → P) → (b ≡ true → P) → (a || b) ≡ true → P
or_either P true b f g on = f refl
or_either P false b f g on = g on

module _ (laws : RunLaws) (threads : ThreadLaws) (code : Code) (s : Shape) (limit : ℕ) where
  abbrev m : OneThread Machine SourceEvent
  m = one_thread code s

  abbrev pub Run : List Turn → Type 0
  Run turns = IsRun bounds m (opening_of bounds m (opening_words code s)) turns

  abbrev pub Place : List Turn → Global Machine
  Place turns = place_after code s turns

  -- ---- who makes a turn is enabled
  pub started_low : (t : ℕ) (turns : List Turn) → (Place turns).started t ≡ true → t < THREADS
  started_low t [] on = nat_lt_threads t (nat_eq (slice_index (opening_words code s) (state_word t)) 1) on
  started_low t (one ∷ earlier) on =
      or_either (t < THREADS) (is_started bounds (Place (one ∷ earlier)).words t) ((Place earlier).started t)
      (λ now. nat_lt_threads t (nat_eq (slice_index (Place (one ∷ earlier)).words (state_word t)) 1) now) (λ was. started_low t earlier was) on

  -- no thread has made more events than this at any place
  abbrev pub Few : List Turn → Type 0
  Few turns = (t : ℕ) → (Place turns).made t ≤ limit

  pub few_before : (one : Turn) (earlier : List Turn) → Few (one ∷ earlier) → Few earlier
  few_before one earlier few t =
      let g : Global Machine = Place earlier in
      dite (ℕ_discrete t one.thread)
      (λ e. let k : made_now m g one ≤ limit = subst (λ n. n ≤ limit) (put_own g.made one.thread (made_now m g one) t e) (few t) in let is : g.made t ≡ g.made one.thread = ap g.made e in omega (arith, k, is))
      (λ apart. subst (λ n. n ≤ limit) (put_other g.made one.thread (made_now m g one) t apart) (few t))

  pub some_counted : (state : TurnState) → is_try state ≡ false → counted state ≡ 1
  some_counted Tries e = absurd cc
  some_counted _ e = refl

  pub enabled_turn : (one : Turn) (earlier : List Turn) → MayTurn bounds m (Place earlier) one → is_try (state_now m (Place earlier) one).at.state ≡ false → Few (one ∷ earlier)
      → is_enabled code s limit (Place earlier) one.thread ≡ true
  enabled_turn one earlier may try few =
      let g : Global Machine = Place earlier in
      let t : ℕ = one.thread in
      let old : Machine = g.threads t in
      let k : made_now m g one ≤ limit = subst (λ n. n ≤ limit) (put_own g.made t (made_now m g one) t refl) (few t) in
      let one_more : counted (state_now m g one).at.state ≡ 1 = some_counted (state_now m g one).at.state try in
      let less : g.made t < limit = omega arith in
      let leads = led g.words (turn code s old) one.event may.next.asks may.answered in
      let no_wait : waits_now code s g.words old ≡ false =
      true_or_false (waits_now code s g.words old) (λ on.
      let fails : (behind code s g.words old).at.state ≡ Tries = (threads.waits code s g.words old may.next.runs).0 on in
      let now : (state_now m g one).at.state ≡ Tries = ap (λ (x : Machine). x.at.state) leads ∙ fails in
      let f : true ≡ false = sym (ap is_try now) ∙ try in cc) in
      all_four (g.started t) (may_go old.at.state) (nat_lt (g.made t) limit) (waits_now code s g.words old) may.started may.next.runs (lt-ltb (g.made t) limit less) no_wait

  -- ---- the places are chosen
  pub places_length : (turns : List Turn) → length (places_of code s limit turns) ≡ length turns
  places_length [] = refl
  places_length (one ∷ earlier) = length-append (places_of code s limit earlier) (place_in one.thread (enabled code s limit (Place earlier)) ∷ []) ∙ (ap (λ n. n + 1) (places_length earlier) ∙ omega arith)

  abbrev Written : List ℕ → ℕ → ℕ → ℕ → Type 0
  Written all i n place = place ≡ or_first (slice_index all i) n

  in_range : (place n : ℕ) → place < n → or_first place n ≡ place
  in_range place n lt = if_true (nat_lt place n) (lt-ltb place n lt) where
    if_true : (b : Bool) → b ≡ true → (if b then place else 0) ≡ place
    if_true true e = refl
    if_true false e = absurd cc

  pub chosen_by : (all rest : List ℕ) (turns : List Turn) → s.threads ≡ THREADS → Run turns → NoTries threads code s turns → Few turns → all ≡ places_of code s limit turns ++ rest
      → AreChosen (Written all) code s limit turns
  chosen_by all rest [] shape run tried few is = tt
  chosen_by all rest (one ∷ earlier) shape run tried few is =
      let among : List ℕ = enabled code s limit (Place earlier) in
      let place : ℕ = place_in one.thread among in
      let on = enabled_turn one earlier run.1 tried.1 few in
      let low = started_low one.thread earlier run.1.started in
      let inside : Among one.thread among = among_filter (is_enabled code s limit (Place earlier)) one.thread (range_with_len 0 s.threads) (among_range one.thread 0 s.threads (omega arith) (omega (arith, shape))) on in
      let within = place_within one.thread among inside in
      let split : all ≡ places_of code s limit earlier ++ place ∷ rest = is ∙ append_assoc (places_of code s limit earlier) (place ∷ []) rest in
      let written : slice_index all (length earlier) ≡ place = ap (λ ps. slice_index ps (length earlier)) split ∙ index_seam (places_of code s limit earlier) rest place (length earlier) (places_length earlier) in (
        chosen_by all (place ∷ rest) earlier shape run.0 tried.0 (few_before one earlier few) split,
        record {
          place = place;
          answered = sym (ap (λ p. or_first p (length among)) written ∙ in_range place (length among) within);
          within = within;
          is = place_is one.thread among inside;
        },
      )

  -- ---- there is one run of a chooser
  module _ (answers : ℕ → ℕ → ℕ → Type 0) (one_answer : (i n a b : ℕ) → answers i n a → answers i n b → a ≡ b) where
    abbrev Chosen : List Turn → Type 0
    Chosen turns = AreChosen answers code s limit turns

    abbrev Over : List Turn → Type 0
    Over turns = (t : ℕ) → is_enabled code s limit (Place turns) t ≡ false

    run_suffix : (later earlier : List Turn) → Run (later ++ earlier) → Run earlier
    run_suffix [] earlier run = run
    run_suffix (x ∷ later) earlier run = run_suffix later earlier run.0

    chosen_suffix : (later earlier : List Turn) → Chosen (later ++ earlier) → Chosen earlier
    chosen_suffix [] earlier chosen = chosen
    chosen_suffix (x ∷ later) earlier chosen = chosen_suffix later earlier chosen.0

    -- nobody is chosen where a run is over
    over_ends : (one : Turn) (earlier : List Turn) → Over earlier → ¬ Chosen (one ∷ earlier)
    over_ends one earlier over chosen =
        let none : enabled code s limit (Place earlier) ≡ [] = none_left (is_enabled code s limit (Place earlier)) (range_with_len 0 s.threads) over in
        let within : chosen.1.place < 0 = subst (λ (xs : List ℕ). chosen.1.place < length xs) none chosen.1.within in omega arith

    -- two next turns are one
    one_turn : (one other : Turn) (earlier : List Turn) → Run (one ∷ earlier) → Run (other ∷ earlier) → Chosen (one ∷ earlier) → Chosen (other ∷ earlier) → one ∷ earlier ≡ other ∷ earlier
    one_turn one other earlier run run' chosen chosen' =
        let among : List ℕ = enabled code s limit (Place earlier) in
        let places : chosen.1.place ≡ chosen'.1.place = one_answer (length earlier) (length among) chosen.1.place chosen'.1.place chosen.1.answered chosen'.1.answered in
        let same : one.thread ≡ other.thread = chosen.1.is ∙ (ap (λ p. slice_index among p) places ∙ sym chosen'.1.is) in
        let from : Global Machine = opening_of bounds m (opening_words code s) in
        laws.is_scheduled bounds code s from (one ∷ earlier) run
        ∙ (ap (λ t. scheduled bounds m from (t ∷ threads_of earlier)) same ∙ sym (laws.is_scheduled bounds code s from (other ∷ earlier) run'))

    -- a run that was chosen is the beginning of one that is over
    begins : (one other : List Turn) → Run one → Chosen one → Run other → Chosen other → Over other → (later : List Turn) × (other ≡ later ++ one)
    begins [] other run chosen run' chosen' over = (other, sym (append-nil other))
    begins (one ∷ earlier) other run chosen run' chosen' over =
        let r = begins earlier other run.0 chosen.0 run' chosen' over in
        ⊎_elim
        (λ none. absurd (over_ends one earlier (subst Over (r.1 ∙ ap (λ ts. ts ++ earlier) none) over) chosen))
        (λ last.
        let split : other ≡ last.before ++ last.last ∷ earlier = r.1 ∙ (ap (λ ts. ts ++ earlier) last.is ∙ append_assoc last.before (last.last ∷ []) earlier) in
        let run_there = run_suffix last.before (last.last ∷ earlier) (subst Run split run') in
        let chosen_there = chosen_suffix last.before (last.last ∷ earlier) (subst Chosen split chosen') in
        (last.before, split ∙ ap (λ ts. last.before ++ ts) (one_turn last.last one earlier run_there run chosen_there chosen)))
        (cut r.0)

    pub one_run : (one other : List Turn) → Run one → Chosen one → Over one → Run other → Chosen other → Over other → one ≡ other
    one_run one other run chosen over run' chosen' over' =
        let r = begins one other run chosen run' chosen' over' in
        ⊎_elim
        (λ none. sym (r.1 ∙ ap (λ ts. ts ++ one) none))
        (λ last.
        let split : other ≡ last.before ++ last.last ∷ one = r.1 ∙ (ap (λ ts. ts ++ one) last.is ∙ append_assoc last.before (last.last ∷ []) one) in
        absurd (over_ends last.last one over (chosen_suffix last.before (last.last ∷ one) (subst Chosen split chosen'))))
        (cut r.0)
