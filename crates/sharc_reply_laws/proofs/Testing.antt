-- A thread that was refused at the check of an access, or at a test of a sole reference, stands there to the end of the run.
use Rattle.sharc_reply_laws.proofs.{Imports.{◌≡◌, ℕ, ◌==◌, Bool, true, false, List, [], ◌∷◌, ◌++◌, Option, Some, None, if◌then◌else◌, refl, sym, ap, ◌∙◌, ⊎_elim, eqb-true, cases_eq, false≢true, slice_index, WordEvent, WordStep, WordOp, Read, Write, conflicts_in, epoch_of, Code, Instr, Shape, Stopped, Stop, NotSole, count_word, granule_at, granule_of, Machine, Own, act, goes, instr_at, place, ref, stopped, tested, with_note, with_own, wrote, opening_words, after, asked_by, may_go, turn, Answered, Global, IsRun, Turn, opening_of, result_of, bounds, one_thread, place_after, count_found, is_access_check, tester}, Stopping.{put_other, put_same}}
use Rattle.sharc_code.specs.Runs.{step_of}

-- the result of a step is the word there
found_is : (words : List ℕ) (event : Option WordEvent) (step : WordStep) → step_of event ≡ Some step → Answered words event → result_of event ≡ slice_index words step.word
found_is words None step q a = absurd (let f : None ≡ Some step = q in cc)
found_is words (Some e) step q a = let same : e.step ≡ step = cc in a.result_is ∙ ap (λ (y : WordStep). slice_index words y.word) same

-- a test that finds another number than 1 stops
refused : (m : Machine) (site found : ℕ) → (found ≡ 1 → ⊥) → tested m site found ≡ stopped m (NotSole site found)
refused m site found other = by (found == 1) refl
  where
    by : (b : Bool) → (found == 1) ≡ b → (if b then goes m else stopped m (NotSole site found)) ≡ stopped m (NotSole site found)
    by true e = absurd (other (eqb-true found 1 e))
    by false e = refl

-- nor does the check of an access that stops go on
halted : (m : Machine) (b : Bool) (stop : Stop) (own : Own) → may_go (if b then stopped m stop else with_own m own).at.state ≡ false
    → (st : Stop) × ((if b then stopped m stop else with_own m own) ≡ stopped m st)
halted m true stop own off = (stop, refl)
halted m false stop own off = let here : true ≡ false = off in absurd (false≢true (sym here))

at_check : (code : Code) (s : Shape) (m : Machine) (i : Instr) (found : ℕ) → is_access_check i ≡ true → may_go (after (act code s i m) found).at.state ≡ false
    → (st : Stop) × (after (act code s i m) found ≡ stopped m st)
at_check code s m (Instr.ChkRead c site) found is off =
    let granule = granule_at s (granule_of (place m c)) in
    halted m (conflicts_in found m.own.number Read (wrote m granule found)) _ (with_note m.own granule Read (epoch_of found) site) off
at_check code s m (Instr.ChkWrite c site) found is off =
    let granule = granule_at s (granule_of (place m c)) in
    halted m (conflicts_in found m.own.number Write (wrote m granule found)) _ (with_note m.own granule Write (epoch_of found) site) off
at_check code s m _ found is off = absurd (false≢true is)

-- ---- a thread that is stopped stays so
no_more : (m x : Machine) (stop : Stop) → m ≡ stopped x stop → may_go m.at.state ≡ true → ⊥
no_more m x stop is on = let f : may_go Stopped ≡ true = ap (λ (y : Machine). may_go y.at.state) (sym is) ∙ on in cc

module _ (code : Code) (s : Shape) (test : Turn) (earlier : List Turn) where
  abbrev from : Global Machine
  from = opening_of bounds (one_thread code s) (opening_words code s)

  abbrev m : Machine
  m = (place_after code s earlier).threads test.thread

  -- if its turn stops it
  stays_by : (stop : Stop) → after (turn code s m) (result_of test.event) ≡ stopped m stop → (later : List Turn) → IsRun bounds (one_thread code s) from (later ++ test ∷ earlier)
      → (place_after code s (later ++ test ∷ earlier)).threads test.thread ≡ stopped m stop
  stays_by stop is [] run = put_same (place_after code s earlier).threads test.thread (after (turn code s m) (result_of test.event)) ∙ is
  stays_by stop is (one ∷ later) run =
      let g : Global Machine = place_after code s (later ++ test ∷ earlier) in
      let x : Machine = after (turn code s (g.threads one.thread)) (result_of one.event) in
      let there : g.threads test.thread ≡ stopped m stop = stays_by stop is later run.0 in
      ⊎_elim
      (λ (e : test.thread ≡ one.thread). absurd (no_more (g.threads one.thread) m stop (ap g.threads (sym e) ∙ there) run.1.next.runs))
      (λ (ne : test.thread ≡ one.thread → ⊥). put_other g.threads one.thread test.thread x ne ∙ there)
      (cases_eq test.thread one.thread)

  -- the turn of it is one of the run
  made_there : (later : List Turn) → IsRun bounds (one_thread code s) from (later ++ test ∷ earlier) → IsRun bounds (one_thread code s) from (test ∷ earlier)
  made_there [] run = run
  made_there (one ∷ later) run = made_there later run.0

  pub checks_stay : (later : List Turn) → IsRun bounds (one_thread code s) from (later ++ test ∷ earlier) → is_access_check (instr_at code (tester code s test earlier).at.pc) ≡ true
      → may_go ((place_after code s (test ∷ earlier)).threads test.thread).at.state ≡ false
      → (stop : Stop) × ((place_after code s (later ++ test ∷ earlier)).threads test.thread ≡ stopped (tester code s test earlier) stop)
  checks_stay later run is off =
      let here : (place_after code s (test ∷ earlier)).threads test.thread ≡ after (turn code s m) (result_of test.event) =
      put_same (place_after code s earlier).threads test.thread (after (turn code s m) (result_of test.event)) in
      let k = at_check code s m (instr_at code m.at.pc) (result_of test.event) is (ap (λ (y : Machine). may_go y.at.state) (sym here) ∙ off) in
      (k.0, stays_by k.0 k.1 later run)

  module _ (register site : ℕ) (is : instr_at code (tester code s test earlier).at.pc ≡ Instr.TestSole register site) (other : count_found code s test earlier register ≡ 1 → ⊥) where
    abbrev found : ℕ
    found = slice_index (place_after code s earlier).words (count_word s (ref m register))

    at_test : IsRun bounds (one_thread code s) from (test ∷ earlier) → after (turn code s m) (result_of test.event) ≡ stopped m (NotSole site found)
    at_test run =
        let step : WordStep = record { word = count_word s (ref m register); op = WordOp.Load } in
        let asked : asked_by (turn code s m) ≡ Some step = ap (λ (i : Instr). asked_by (act code s i m)) is in
        let result : result_of test.event ≡ found = found_is (place_after code s earlier).words test.event step (run.1.next.asks ∙ asked) run.1.answered in
        ap (λ (i : Instr). after (act code s i m) (result_of test.event)) is ∙ ap (tested m site) result ∙ refused m site found other

    pub tests_stay : (later : List Turn) → IsRun bounds (one_thread code s) from (later ++ test ∷ earlier) → (place_after code s (later ++ test ∷ earlier)).threads test.thread ≡ stopped m (NotSole site found)
    tests_stay later run = stays_by (NotSole site found) (at_test (made_there later run)) later run
