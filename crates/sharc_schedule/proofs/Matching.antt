-- Turns of one thread on top of one run are determined by how many they are.
use Rattle.sharc_schedule.proofs.{Imports.{◌≡◌, ℕ, ◌==◌, true, false, List, [], ◌∷◌, ◌++◌, Option, Some, None, length, refl, sym, ap, ◌∙◌, arith, bit_at-zero, true_or_false, WordEvent, waits_in, Code, Shape, Tries, Wait, Machine, Local, Asks, opening_words, turn, after, asked_by, may_go, Turn, IsRun, Owns, result_of, step_of as step_in, state_now, opening_of, threads_of, scheduled, RunLaws, ThreadLaws, found_now, behind, held_up, wait_of, waits_now, one_thread, bounds, place_after, has_event, is_try, without_tries, Quiet, if_no}, Trying.tries_where}
use Rattle.sharc_code.specs.Machine as Step

-- ---- a turn without a step is no failed try: it would be one whatever the words are, and where all words are 0 nobody waits
nobody_in_zero : (number : ℕ) → waits_in 0 number ≡ false
unfolding waits_in
nobody_in_zero number = ap (λ b. b == 1) (bit_at-zero number)

nothing_held : (number : ℕ) (wait : Option Wait) → held_up [] number wait ≡ false
nothing_held number (Some (Wait.Cond word site)) = nobody_in_zero number
nothing_held number _ = refl

-- it leads where it leads whatever it finds
leads_alike : (a : Step.Turn) (event : Option WordEvent) → step_in event ≡ asked_by a → has_event event ≡ false → after a (result_of event) ≡ after a (found_now [] a)
leads_alike (Local x) event e off = refl
leads_alike (Asks step go) None e off = absurd (let f : None ≡ Some step = e in cc)
leads_alike (Asks step go) (Some event) e off = absurd (let f : true ≡ false = off in cc)

pub quiet_goes : ThreadLaws → (code : Code) (s : Shape) (m : Machine) (event : Option WordEvent) → may_go m.at.state ≡ true → step_in event ≡ asked_by (turn code s m) → has_event event ≡ false
    → is_try (after (turn code s m) (result_of event)).at.state ≡ false
quiet_goes laws code s m event may e off =
    true_or_false (is_try (after (turn code s m) (result_of event)).at.state) (λ on.
    let now : (behind code s [] m).at.state ≡ Tries =
    ap (λ (x : Machine). x.at.state) (sym (leads_alike (turn code s m) event e off)) ∙ tries_where (after (turn code s m) (result_of event)).at.state on in
    let waits : waits_now code s [] m ≡ true = (laws.waits code s [] m may).1 now in
    let f : true ≡ false = sym waits ∙ nothing_held m.own.number (wait_of code s m) in cc)

module _ (laws : RunLaws) (threads : ThreadLaws) (code : Code) (s : Shape) where
  abbrev pub Run : List Turn → Type 0
  Run turns = IsRun bounds (one_thread code s) (opening_of bounds (one_thread code s) (opening_words code s)) turns

  -- quiet turns are kept
  pub quiet_kept : (more before : List Turn) → Quiet more → Run (more ++ before) → without_tries code s (more ++ before) ≡ more ++ without_tries code s before
  quiet_kept [] before quiet run = refl
  quiet_kept (one ∷ more) before quiet run =
      let g = place_after code s (more ++ before) in
      let off = quiet_goes threads code s (g.threads one.thread) one.event run.1.next.runs run.1.next.asks quiet.1 in
      if_no (is_try (state_now (one_thread code s) g one).at.state) (without_tries code s (more ++ before)) (one ∷ without_tries code s (more ++ before)) off
      ∙ ap (λ (ts : List Turn). one ∷ ts) (quiet_kept more before quiet.0 run.0)

  threads_same : (t : ℕ) (more other before : List Turn) → Owns t more → Owns t other → length more ≡ length other → threads_of (more ++ before) ≡ threads_of (other ++ before)
  threads_same t [] [] before own own' e = refl
  threads_same t [] (b ∷ bs) before own own' e = absurd (omega (arith, e))
  threads_same t (a ∷ others) [] before own own' e = absurd (omega (arith, e))
  threads_same t (a ∷ others) (b ∷ bs) before own own' e =
      ap (λ (ts : List ℕ). a.thread ∷ ts) (threads_same t others bs before own.1 own'.1 (omega (arith, e))) ∙ ap (λ u. u ∷ threads_of (bs ++ before)) (own.0 ∙ sym own'.0)

  -- as many turns of one thread on one run are the same
  pub as_many : (t : ℕ) (more other before : List Turn) → Run (more ++ before) → Run (other ++ before) → Owns t more → Owns t other → length more ≡ length other → more ++ before ≡ other ++ before
  as_many t more other before run run' own own' e =
      let from = opening_of bounds (one_thread code s) (opening_words code s) in
      laws.is_scheduled bounds code s from (more ++ before) run
      ∙ (ap (scheduled bounds (one_thread code s) from) (threads_same t more other before own own' e) ∙ sym (laws.is_scheduled bounds code s from (other ++ before) run'))
