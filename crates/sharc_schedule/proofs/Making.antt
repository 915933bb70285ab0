-- The turns that are made for a journal are those of the schedule of each of its runs.
use Rattle.sharc_schedule.proofs.{Imports.{dite, ◌≡◌, ◌≢◌, ℕ, zero, suc, ◌+◌, ◌-◌, ◌<◌, ◌≤◌, Bool, true, false, not, nat_eq, ◌&&◌, ◌||◌, nat_lt, List, [], ◌∷◌, ◌++◌, Option, Some, None, length, get_or, refl, sym, ap, ◌∙◌, subst, arith, append_assoc, length-append, ◌⊎◌, inl, inr, if◌then◌else◌, append-nil, dec_le, ℕ_discrete, WordEvent, THREADS, Code, Shape, RunLaws, Machine, may_go, Turn, Owns, IsOf, is_started, state_now, made_now, words_now, word_events, event_list, ThreadLaws, waits_now, one_thread, bounds, place_after, Standing, is_enabled, has_event, loose, loose_by, firm, firm_by, all_loose, arranged, without_tries, scheduled_turns, SameEnds, IsJournalOf, Quiet, AllCount, Stepped, Followed, thread_at, no_both, or_known}, Arranged.loose_owned, Arranging.arrange, Following.{Runs_to, Split, split, owns_low, run_low, few_low, enough, follow_event}, Matching.{quiet_kept, as_many}, Among.{Last, cut}, Replaying.{Few, few_before, started_low, enabled_turn}, Showing.enabled_same, Trying.{NoTries, without, put_other, now_started}, Turning.no_tries}

-- ---- loose turns
pub loose_quiet : (t : ℕ) (turns : List Turn) → Quiet (loose t turns)
loose_quiet t [] = tt
loose_quiet t (turn ∷ earlier) = by (nat_eq t turn.thread) turn.event refl (loose_quiet t earlier) where
  by : (b : Bool) (event : Option WordEvent) → turn.event ≡ event → Quiet (loose t earlier) → Quiet (if b then loose_by event turn (loose t earlier) else loose t earlier)
  by true None e r = (r, ap has_event e)
  by true (Some event) e r = tt
  by false event e r = r

-- ---- the journal
-- the event at the end of a list
last_event : (earlier : List WordEvent) (event : WordEvent) (d : WordEvent) → get_or (earlier ++ event ∷ []) (length earlier) d ≡ event
last_event [] event d = refl
last_event (x ∷ earlier) event d = last_event earlier event d

-- the events before it
before_last : (earlier more : List WordEvent) (i : ℕ) → i < length earlier → thread_at (earlier ++ more) i ≡ thread_at earlier i
before_last [] more i low = absurd (omega (arith, low))
before_last (x ∷ earlier) more zero low = refl
before_last (x ∷ earlier) more (suc i) low = before_last earlier more i (omega (arith, low))

module _ (laws : RunLaws) (threads : ThreadLaws) (code : Code) (s : Shape) (limit : ℕ) where
  abbrev pub Run : List Turn → Type 0
  Run turns = Runs_to laws threads code s limit turns

  -- the turns in their places are a run
  pub firm_runs : (turns : List Turn) → Run turns → Run (firm turns)
  firm_runs turns run = run_low laws threads code s limit (all_loose THREADS turns) (firm turns) ((laws.checked code s (arranged turns)).0 (arrange laws code s turns ((laws.checked code s turns).1 run)).0)

  pub arranged_few : (turns : List Turn) → Run turns → Few laws threads code s limit turns → Few laws threads code s limit (arranged turns)
  arranged_few turns run few t = subst (λ n. n ≤ limit) (sym ((arrange laws code s turns ((laws.checked code s turns).1 run)).2.made t)) (few t)

  firm_few : (turns : List Turn) → Run turns → Few laws threads code s limit turns → Few laws threads code s limit (firm turns)
  firm_few turns run few = few_low laws threads code s limit (all_loose THREADS turns) (firm turns) (arranged_few turns run few)

  without_few : (turns : List Turn) → Run turns → Few laws threads code s limit turns → Few laws threads code s limit (without_tries code s turns)
  without_few turns run few t = subst (λ n. n ≤ limit) (sym ((without threads code s turns run).1.made t)) (few t)

  counts_low : (high low : List Turn) → AllCount code s (high ++ low) → AllCount code s low
  counts_low [] low h = h
  counts_low (x ∷ high) low h = counts_low high low h.0

  -- where a run is one that was made, the one that it goes on from is one too
  low_run : (t : ℕ) (before made : List Turn) → Stepped code s limit t before made → Run made → Run before
  low_run t before made step run = run_low laws threads code s limit step.more before (subst Run step.is run)

  low_counts : (t : ℕ) (before made : List Turn) → Stepped code s limit t before made → AllCount code s made → AllCount code s before
  low_counts t before made step counts = counts_low step.more before (subst (AllCount code s) step.is counts)

  low_few : (t : ℕ) (before made : List Turn) → Stepped code s limit t before made → Few laws threads code s limit made → Few laws threads code s limit before
  low_few t before made step few = few_low laws threads code s limit step.more before (subst (Few laws threads code s limit) step.is few)

  -- what was made for a beginning of the journal
  pub by_journal : (pick : ℕ → ℕ) (turns : List Turn) → Run turns → Few laws threads code s limit turns → (n : ℕ) → n ≡ length (word_events turns)
      → ((i : ℕ) → i < n → pick i ≡ thread_at (word_events turns) i) → (made : List Turn) → Followed code s limit pick [] n made → Run made → AllCount code s made
      → made ≡ without_tries code s (firm turns)
  by_journal pick [] run few zero many picks made followed run' counts = followed
  by_journal pick [] run few (suc n) many picks made followed run' counts = absurd (omega (arith, many))
  by_journal pick (one ∷ earlier) run few n many picks made followed run' counts = by one.event refl n many picks followed (by_journal pick earlier run.0 (few_before laws threads code s limit one earlier few)) where
    step_from : (event : WordEvent) → one.event ≡ Some event → (before : List Turn) → before ≡ without_tries code s (firm earlier) → Stepped code s limit one.thread before made → made ≡ without_tries code s (one ∷ (loose one.thread earlier ++ firm earlier))
    step_from event e before is step =
        let whole : firm (one ∷ earlier) ≡ one ∷ (loose one.thread earlier ++ firm earlier) = ap (λ o. firm_by o one (loose one.thread earlier) (firm earlier)) e in
        let runs : Run (one ∷ (loose one.thread earlier ++ firm earlier)) = subst Run whole (firm_runs (one ∷ earlier) run) in
        let small : Few laws threads code s limit (one ∷ (loose one.thread earlier ++ firm earlier)) = subst (Few laws threads code s limit) whole (firm_few (one ∷ earlier) run few) in
        follow_event laws threads code s limit one.thread (loose one.thread earlier) (firm earlier) made one
        (subst (λ (ts : List Turn). Stepped code s limit one.thread ts made) is step) run' (loose_quiet one.thread earlier) (refl, loose_owned one.thread earlier)
        (ap has_event e) runs counts (without_few (one ∷ (loose one.thread earlier ++ firm earlier)) runs small)

    by : (event : Option WordEvent) → one.event ≡ event → (n : ℕ) → n ≡ length (word_events earlier ++ event_list one.event) → ((i : ℕ) → i < n → pick i ≡ thread_at (word_events earlier ++ event_list one.event) i)
        → Followed code s limit pick [] n made
        → ((n : ℕ) → n ≡ length (word_events earlier) → ((i : ℕ) → i < n → pick i ≡ thread_at (word_events earlier) i) → (made : List Turn) → Followed code s limit pick [] n made → Run made → AllCount code s made
        → made ≡ without_tries code s (firm earlier))
        → made ≡ without_tries code s (firm_by one.event one (loose one.thread earlier) (firm earlier))
    by None e n many picks followed rest =
        let same : word_events earlier ++ event_list one.event ≡ word_events earlier = ap (λ o. word_events earlier ++ event_list o) e ∙ append-nil (word_events earlier) in
        rest n (many ∙ ap (λ (es : List WordEvent). length es) same) (λ i low. picks i low ∙ ap (λ es. thread_at es i) same) made followed run' counts ∙ ap (λ o. without_tries code s (firm_by o one (loose one.thread earlier) (firm earlier))) (sym e)
    by (Some event) e zero many picks followed rest =
        let long : length (word_events earlier ++ event_list one.event) ≡ length (word_events earlier) + 1 = length-append (word_events earlier) (event_list one.event) ∙ ap (λ o. length (word_events earlier) + length (event_list o)) e in
        absurd (omega (arith, many, long))
    by (Some event) e (suc n) many picks followed rest =
        let long : length (word_events earlier ++ event_list one.event) ≡ length (word_events earlier) + 1 = length-append (word_events earlier) (event_list one.event) ∙ ap (λ o. length (word_events earlier) + length (event_list o)) e in
        let fewer : n ≡ length (word_events earlier) = omega (arith, many, long) in
        let events : word_events earlier ++ event_list one.event ≡ word_events earlier ++ event ∷ [] = ap (λ o. word_events earlier ++ event_list o) e in
        let own : event.thread ≡ one.thread = subst (λ o. IsOf one.thread o) e run.1.next.own in
        let picked : pick n ≡ one.thread =
        picks n (omega arith) ∙ (ap (λ es. thread_at es n) events ∙ (ap (λ k. thread_at (word_events earlier ++ event ∷ []) k) fewer ∙ (ap (λ (x : WordEvent). x.thread) (last_event (word_events earlier) event _) ∙ own))) in
        let before : List Turn = followed.0 in
        let step = followed.2 in
        let is = rest n fewer (λ i low. picks i (omega (arith, low)) ∙ (ap (λ es. thread_at es i) events ∙ before_last (word_events earlier) (event ∷ []) i (omega (arith, low, fewer)))) before followed.1
        (low_run (pick n) before made step run') (low_counts (pick n) before made step counts) in
        step_from event e before is (subst (λ u. Stepped code s limit u before made) picked step) ∙ ap (λ o. without_tries code s (firm_by o one (loose one.thread earlier) (firm earlier))) (sym e)

  -- ---- the end
  -- whether a thread is enabled does not change by turns of others without a word operation
  same_enabled : (g h : Standing) (t : ℕ) → h.words ≡ g.words → h.threads t ≡ g.threads t → h.made t ≡ g.made t → h.started t ≡ g.started t → is_enabled code s limit h t ≡ is_enabled code s limit g t
  same_enabled g h t words state made started =
      ap (λ b. b && (may_go (h.threads t).at.state && (nat_lt (h.made t) limit && not (waits_now code s h.words (h.threads t))))) started
      ∙ (ap (λ (m : Machine). g.started t && (may_go m.at.state && (nat_lt (h.made t) limit && not (waits_now code s h.words m)))) state
      ∙ (ap (λ n. g.started t && (may_go (g.threads t).at.state && (nat_lt n limit && not (waits_now code s h.words (g.threads t))))) made
      ∙ ap (λ (ws : List ℕ). g.started t && (may_go (g.threads t).at.state && (nat_lt (g.made t) limit && not (waits_now code s ws (g.threads t))))) words))

  quiet_words : (words : List ℕ) (event : Option WordEvent) → has_event event ≡ false → words_now words event ≡ words
  quiet_words words None off = refl
  quiet_words words (Some event) off = absurd (let e : true ≡ false = off in cc)

  pub others_same : (t u : ℕ) → t ≢ u → (quiet before : List Turn) → Quiet quiet → Owns u quiet → is_enabled code s limit (place_after code s (quiet ++ before)) t ≡ is_enabled code s limit (place_after code s before) t
  others_same t u apart [] before q own = refl
  others_same t u apart (one ∷ quiet) before q own =
      let g : Standing = place_after code s (quiet ++ before) in
      let other : t ≢ one.thread = (λ e. apart (e ∙ own.0)) in
      let words : words_now g.words one.event ≡ g.words = quiet_words g.words one.event q.1 in
      same_enabled g (place_after code s (one ∷ (quiet ++ before))) t words
      (put_other g.threads one.thread (state_now (one_thread code s) g one) t other)
      (put_other g.made one.thread (made_now (one_thread code s) g one) t other)
      (ap (λ (ws : List ℕ). is_started bounds ws t || g.started t) words ∙ or_known (is_started bounds g.words t) (g.started t) (λ on. now_started threads code s t (quiet ++ before) on))
      ∙ others_same t u apart quiet before q.0 own.1

  abbrev up_to : ℕ → List Turn → List Turn
  up_to n turns = all_loose n turns ++ firm turns

  next_up : (n : ℕ) (turns : List Turn) → up_to (suc n) turns ≡ loose n turns ++ up_to n turns
  next_up n turns = append_assoc (loose n turns) (all_loose n turns) (firm turns)

  -- so a thread that is not enabled at the end is not enabled once its own turns are made
  off_since : (turns : List Turn) (t more : ℕ) → is_enabled code s limit (place_after code s (up_to (suc t + more) turns)) t ≡ false → is_enabled code s limit (place_after code s (up_to (suc t) turns)) t ≡ false
  off_since turns t zero off = subst (λ k. is_enabled code s limit (place_after code s (up_to k turns)) t ≡ false) (let e : suc t + zero ≡ suc t = omega arith in e) off
  off_since turns t (suc more) off =
      let k : ℕ = suc t + more in
      let next : suc t + suc more ≡ suc k = omega arith in
      let apart : t ≢ k = (λ e. omega (arith, e)) in
      off_since turns t more
      (sym (others_same t k apart (loose k turns) (up_to k turns) (loose_quiet k turns) (loose_owned k turns))
      ∙ (ap (λ (ts : List Turn). is_enabled code s limit (place_after code s ts) t) (sym (next_up k turns))
      ∙ subst (λ j. is_enabled code s limit (place_after code s (up_to j turns)) t ≡ false) next off))

  module _ (turns : List Turn) (run : Run turns) (small : Few laws threads code s limit turns) (over : (t : ℕ) → is_enabled code s limit (place_after code s turns) t ≡ false) where
    ends : SameEnds (place_after code s (arranged turns)) (place_after code s turns)
    ends = (arrange laws code s turns ((laws.checked code s turns).1 run)).2

    arranged_run : Run (arranged turns)
    arranged_run = (laws.checked code s (arranged turns)).0 (arrange laws code s turns ((laws.checked code s turns).1 run)).0

    -- the first threads' turns are the beginning of all
    beginning : (n more : ℕ) → Run (up_to (n + more) turns) × Few laws threads code s limit (up_to (n + more) turns) → Run (up_to n turns) × Few laws threads code s limit (up_to n turns)
    beginning n zero h = subst (λ k. Run (up_to k turns) × Few laws threads code s limit (up_to k turns)) (let e : n + zero ≡ n = omega arith in e) h
    beginning n (suc more) h =
        let k : ℕ = n + more in
        let next : n + suc more ≡ suc k = omega arith in
        let there = subst (λ j. Run (up_to j turns) × Few laws threads code s limit (up_to j turns)) next h in
        beginning n more (
          run_low laws threads code s limit (loose k turns) (up_to k turns) (subst Run (next_up k turns) there.0),
          few_low laws threads code s limit (loose k turns) (up_to k turns) (subst (Few laws threads code s limit) (next_up k turns) there.1),
        )

    part : (n : ℕ) → n ≤ THREADS → Run (up_to n turns) × Few laws threads code s limit (up_to n turns)
    part n le =
        let all : n + (THREADS - n) ≡ THREADS = omega (arith, le) in
        beginning n (THREADS - n) (subst (λ k. Run (up_to k turns) × Few laws threads code s limit (up_to k turns)) (sym all) (arranged_run, arranged_few turns run small))

    off_at : (t : ℕ) → t < THREADS → is_enabled code s limit (place_after code s (up_to (suc t) turns)) t ≡ false
    off_at t low =
        let all : suc t + (THREADS - suc t) ≡ THREADS = omega (arith, low) in
        off_since turns t (THREADS - suc t)
        (subst (λ k. is_enabled code s limit (place_after code s (up_to k turns)) t ≡ false) (sym all) (enabled_same code s (place_after code s (arranged turns)) (place_after code s turns) ends limit t ∙ over t))

    -- one thread's turns at the end
    module _ (t : ℕ) (low : t < THREADS) (made : List Turn) (step : Stepped code s limit t (without_tries code s (up_to t turns)) made) (run' : Run made) (counts : AllCount code s made)
        (few : Few laws threads code s limit made) where
      abbrev before : List Turn
      before = without_tries code s (up_to t turns)

      abbrev quiet : List Turn
      quiet = loose t turns

      whole : Run (quiet ++ up_to t turns) × Few laws threads code s limit (quiet ++ up_to t turns)
      whole = subst (λ (ts : List Turn). Run ts × Few laws threads code s limit ts) (next_up t turns) (part (suc t) (omega (arith, low)))

      kept : without_tries code s (quiet ++ up_to t turns) ≡ quiet ++ before
      kept = quiet_kept laws threads code s quiet (up_to t turns) (loose_quiet t turns) whole.0

      there : Run (quiet ++ before)
      there = subst Run kept (without threads code s (quiet ++ up_to t turns) whole.0).0

      same : SameEnds (place_after code s (quiet ++ before)) (place_after code s (quiet ++ up_to t turns))
      same = subst (λ ts. SameEnds (place_after code s ts) (place_after code s (quiet ++ up_to t turns))) kept (without threads code s (quiet ++ up_to t turns) whole.0).1

      tried : NoTries threads code s (quiet ++ before)
      tried = subst (NoTries threads code s) kept (without threads code s (quiet ++ up_to t turns) whole.0).2

      few_there : Few laws threads code s limit (quiet ++ before)
      few_there u = subst (λ n. n ≤ limit) (sym (same.made u)) (whole.1 u)

      -- the thread is not enabled there
      off : is_enabled code s limit (place_after code s (quiet ++ before)) t ≡ false
      off =
          enabled_same code s (place_after code s (quiet ++ before)) (place_after code s (quiet ++ up_to t turns)) same limit t
          ∙ (ap (λ (ts : List Turn). is_enabled code s limit (place_after code s ts) t) (sym (next_up t turns)) ∙ off_at t low)

      more_run : Run (step.more ++ before)
      more_run = subst Run step.is run'

      as_long : (part : Split step.more (length quiet)) → (part.high ≡ []) ⊎ Last part.high → made ≡ quiet ++ before
      as_long part (inl none) =
          let is : step.more ≡ part.low = part.is ∙ ap (λ (ts : List Turn). ts ++ part.low) none in
          let many : length step.more ≡ length quiet = ap (λ (ts : List Turn). length ts) is ∙ part.many in
          step.is ∙ as_many laws threads code s t step.more quiet before more_run there step.own (loose_owned t turns) many
      as_long part (inr last) =
          let is : step.more ≡ last.before ++ last.last ∷ part.low = part.is ∙ (ap (λ (ts : List Turn). ts ++ part.low) last.is ∙ append_assoc last.before (last.last ∷ []) part.low) in
          let all : step.more ++ before ≡ last.before ++ last.last ∷ (part.low ++ before) = ap (λ (ts : List Turn). ts ++ before) is ∙ append_assoc last.before (last.last ∷ part.low) before in
          let run_here = run_low laws threads code s limit last.before (last.last ∷ (part.low ++ before)) (subst Run all more_run) in
          let own_here = owns_low t last.before (last.last ∷ part.low) (subst (Owns t) is step.own) in
          let e : part.low ++ before ≡ quiet ++ before = as_many laws threads code s t part.low quiet before run_here.0 there own_here.1 (loose_owned t turns) part.many in
          let counts_here = no_tries laws threads code s limit (last.last ∷ (part.low ++ before)) (counts_low last.before (last.last ∷ (part.low ++ before)) (subst (AllCount code s) (step.is ∙ all) counts)) in
          let few_here = few_low laws threads code s limit last.before (last.last ∷ (part.low ++ before)) (subst (Few laws threads code s limit) (step.is ∙ all) few) in
          let on = enabled_turn laws threads code s limit last.last (part.low ++ before) run_here.1 counts_here.1 few_here in
          absurd (no_both (is_enabled code s limit (place_after code s (quiet ++ before)) t)
          (ap (λ (ts : List Turn). is_enabled code s limit (place_after code s ts) t) (sym e) ∙ (ap (is_enabled code s limit (place_after code s (part.low ++ before))) (sym own_here.0) ∙ on))
          off)

      by_length : Dec (length quiet ≤ length step.more) → made ≡ quiet ++ before
      by_length (yes le) = as_long (split step.more (length quiet) le) (cut (split step.more (length quiet) le).high)
      by_length (no gt) = absurd (enough laws threads code s limit t quiet before made step run' (loose_quiet t turns) (loose_owned t turns) there tried few_there (omega (arith, gt)))

      pub at_end : made ≡ without_tries code s (up_to (suc t) turns)
      at_end = by_length (dec_le (length quiet) (length step.more)) ∙ (sym kept ∙ ap (without_tries code s) (sym (next_up t turns)))

    pub by_number : (first : List Turn) → first ≡ without_tries code s (firm turns) → (n : ℕ) → n ≤ THREADS → (made : List Turn) → Followed code s limit (λ t. t) first n made → Run made → AllCount code s made
        → Few laws threads code s limit made → made ≡ without_tries code s (up_to n turns)
    by_number first is zero le made followed run' counts few = followed ∙ is
    by_number first is (suc n) le made followed run' counts few =
        let before : List Turn = followed.0 in
        let step = followed.2 in
        let so_far : before ≡ without_tries code s (up_to n turns) =
        by_number first is n (omega (arith, le)) before followed.1 (low_run n before made step run') (low_counts n before made step counts) (low_few n before made step few) in
        at_end n (omega (arith, le)) made (subst (λ (ts : List Turn). Stepped code s limit n ts made) so_far step) run' counts few

  -- what was made for the whole journal
  pub all_made : (journal : List WordEvent) (turns first made : List Turn) → IsJournalOf code s limit journal turns → Followed code s limit (thread_at journal) [] (length journal) first
      → Followed code s limit (λ t. t) first THREADS made → Run first → AllCount code s first → Run made → AllCount code s made → Few laws threads code s limit made → made ≡ scheduled_turns code s turns
  all_made journal turns first made is firsts followed run_first counts_first run counts few =
      let there = (laws.checked code s turns).0 is.checked in
      let many : length journal ≡ length (word_events turns) = ap (λ (es : List WordEvent). length es) (sym is.events) in
      by_number turns there is.few is.over first
      (by_journal (thread_at journal) turns there is.few (length journal) many (λ i low. ap (λ es. thread_at es i) (sym is.events)) first firsts run_first counts_first)
      THREADS (omega arith) made followed run counts few

  -- each event was made by a thread that was started
  events_low : (turns : List Turn) → Run turns → (i : ℕ) → i < length (word_events turns) → thread_at (word_events turns) i < THREADS
  events_low [] run i low = absurd (omega (arith, low))
  events_low (one ∷ earlier) run i low = by one.event refl low (events_low earlier run.0 i) where
    by : (event : Option WordEvent) → one.event ≡ event → i < length (word_events earlier ++ event_list one.event) → (i < length (word_events earlier) → thread_at (word_events earlier) i < THREADS)
        → thread_at (word_events earlier ++ event_list one.event) i < THREADS
    by None e low rest =
        let same : word_events earlier ++ event_list one.event ≡ word_events earlier = ap (λ o. word_events earlier ++ event_list o) e ∙ append-nil (word_events earlier) in
        subst (λ es. thread_at es i < THREADS) (sym same) (rest (subst (λ (es : List WordEvent). i < length es) same low))
    by (Some event) e low rest =
        let events : word_events earlier ++ event_list one.event ≡ word_events earlier ++ event ∷ [] = ap (λ o. word_events earlier ++ event_list o) e in
        let own : event.thread ≡ one.thread = subst (λ o. IsOf one.thread o) e run.1.next.own in
        let within : i < length (word_events earlier) + 1 = subst (λ n. i < n) (ap (λ (es : List WordEvent). length es) events ∙ length-append (word_events earlier) (event ∷ [])) low in
        let started = started_low laws threads code s limit one.thread earlier run.1.started in
        subst (λ es. thread_at es i < THREADS) (sym events) (dite (ℕ_discrete i (length (word_events earlier)))
        (λ here. let is : thread_at (word_events earlier ++ event ∷ []) i ≡ one.thread = ap (thread_at (word_events earlier ++ event ∷ [])) here ∙ (ap (λ (x : WordEvent). x.thread) (last_event (word_events earlier) event _) ∙ own) in
        omega (arith, is, started))
        (λ apart. let low : i < length (word_events earlier) = omega (arith, within, apart) in
        let is = before_last (word_events earlier) (event ∷ []) i low in
        let r = rest low in
        omega (arith, is, r)))

  pub journal_low : (journal : List WordEvent) (turns : List Turn) → IsJournalOf code s limit journal turns → (i : ℕ) → i < length journal → thread_at journal i < THREADS
  journal_low journal turns is i low =
      subst (λ es. thread_at es i < THREADS) is.events (events_low turns ((laws.checked code s turns).0 is.checked) i (subst (λ (es : List WordEvent). i < length es) (sym is.events) low))
