-- The path of a thread of a checked run.
use Rattle.sharc_compile.proofs.Imports.{◌≡◌, ℕ, suc, ◌<◌, true, false, cond, List, [], ◌∷◌, ◌++◌, length, reverse, refl, sym, ap, ◌∙◌, arith, Option, Some, None, le-leb, lt-leb, eqb-true, reverse-append, length-map, nat_eq, if◌then◌else◌, option_to_list, SourceEvent, WordEvent, Code, Shape, Machine, instr_at, RunLaws, opening_words, begun, machine_after, IsPath, Said, result_of, turns_of, with_told, state_after, path_says, pairs_of, opening_of, at, one_thread, bounds, CheckedRun, says, speaks_of, Elements, said_in, said_now, founds_of, told_in, table_of, elements_before, AreQuiet, IsPathIn}
use Rattle.sharc_code.specs.Runs.{Turn, Global, step_of}
use Rattle.sharc_code.specs.Runs as Run

module _ (code : Code) (s : Shape) where
  state_is : (m : Machine) (turns : List Turn) → state_after (one_thread code s) m turns ≡ machine_after code s m (founds_of turns)
  state_is m [] = refl
  state_is m (x ∷ earlier) = ap (λ n. (one_thread code s).goes n (result_of x.event)) (state_is m earlier)

  path_is : (m : Machine) (turns : List Turn) → Run.IsPath (one_thread code s) m turns → IsPath code s m (founds_of turns)
  path_is m [] h = tt
  path_is m (x ∷ earlier) h = (path_is m earlier h.0, sym (ap (λ n. (one_thread code s).runs n) (state_is m earlier)) ∙ h.1.runs)

  quiet_are : (m : Machine) (turns : List Turn) → Run.IsPath (one_thread code s) m turns → AreQuiet code s m (founds_of turns)
  quiet_are m [] h = tt
  quiet_are m (x ∷ earlier) h = (quiet_are m earlier h.0, λ e. none x.event (h.1.asks ∙ ap (λ n. (one_thread code s).asks n) (state_is m earlier) ∙ e))
    where
      none : (ev : Option WordEvent) → step_of ev ≡ None → result_of ev ≡ 0
      none None e = refl
      none (Some ev) e = absurd (cc)

  -- what turns are paired with is what the elements give
  abbrev ArePaired : Machine → (ℕ → Elements) → List Turn → List ℕ → Type 0
  ArePaired m elements [] ps = Unit {0}
  ArePaired m elements (x ∷ earlier) [] = ⊥
  ArePaired m elements (x ∷ earlier) (p ∷ ps) =
      ArePaired m elements earlier ps
      × (p ≡ elements (length earlier) (speaks_of (instr_at code (state_after (one_thread code s) m earlier).at.pc) (state_after (one_thread code s) m earlier) (result_of x.event)))

  says_are : (t : ℕ) (m : Machine) (elements : ℕ → Elements) (turns : List Turn) (ps : List ℕ) → ArePaired m elements turns ps
      → told_in (path_says (one_thread code s) t m turns ps) ≡ reverse (said_in code s m elements (founds_of turns))
  says_are t m elements [] ps h = refl
  says_are t m elements (x ∷ earlier) [] h = absurd h
  says_are t m elements (x ∷ earlier) (p ∷ ps) h =
      let now = state_after (one_thread code s) m earlier in
      let found = result_of x.event in
      let T : Elements = elements (length earlier) in
      let one : told_in (with_told t (says code now found p) (path_says (one_thread code s) t m earlier ps)) ≡ reverse (option_to_list (says code now found p)) ++ told_in (path_says (one_thread code s) t m earlier ps) = push (says code now found p) (path_says (one_thread code s) t m earlier ps) in
      let there = state_is m earlier in
      let n : length (founds_of earlier) ≡ length earlier = length-map earlier (λ x. result_of x.event) in
      one
      ∙ ap (λ q. reverse (option_to_list (says code now found q)) ++ told_in (path_says (one_thread code s) t m earlier ps)) h.1
      ∙ ap (λ m2. reverse (option_to_list (said_now code T m2 found)) ++ told_in (path_says (one_thread code s) t m earlier ps)) there
      ∙ ap (λ k. reverse (option_to_list (said_now code (elements k) (machine_after code s m (founds_of earlier)) found)) ++ told_in (path_says (one_thread code s) t m earlier ps)) (sym n)
      ∙ ap (λ es. reverse (option_to_list (said_now code (elements (length (founds_of earlier))) (machine_after code s m (founds_of earlier)) found)) ++ es) (says_are t m elements earlier ps h.0)
      ∙ sym (reverse-append (said_in code s m elements (founds_of earlier)) (option_to_list (said_now code (elements (length (founds_of earlier))) (machine_after code s m (founds_of earlier)) found)))
    where
      push : (e : Option SourceEvent) (es : List (Said SourceEvent)) → told_in (with_told t e es) ≡ reverse (option_to_list e) ++ told_in es
      push None es = refl
      push (Some e) es = refl

  abbrev from : Global Machine
  from = opening_of bounds (one_thread code s) (opening_words code s)

  now_is : (t : ℕ) (run : List Turn) → elements_before code s t run (length (turns_of t run)) ≡ table_of code s run
  now_is t [] = refl
  now_is t (x ∷ earlier) = ap (λ b. if b then table_of code s (x ∷ earlier) else elements_before code s t earlier (length (turns_of t (x ∷ earlier)))) (le-leb (length (turns_of t (x ∷ earlier))) (length (turns_of t (x ∷ earlier))) (omega arith))

  before_is : (t : ℕ) (x : Turn) (earlier : List Turn) (k : ℕ) → k < length (turns_of t (x ∷ earlier)) → elements_before code s t (x ∷ earlier) k ≡ elements_before code s t earlier k
  before_is t x earlier k lt = ap (λ b. if b then table_of code s (x ∷ earlier) else elements_before code s t earlier k) (lt-leb (length (turns_of t (x ∷ earlier))) k lt)

  module _ (laws : RunLaws) (t : ℕ) where
    pairs_are : (run : List Turn) (E : ℕ → Elements) → ((k : ℕ) → k < length (turns_of t run) → E k ≡ elements_before code s t run k)
        → ArePaired (begun code s t) E (turns_of t run) (pairs_of bounds (one_thread code s) from t run)
    pairs_are [] E agree = tt
    pairs_are (x ∷ earlier) E agree =
        elim (nat_eq t x.thread) as (λ b. nat_eq t x.thread ≡ b → ArePaired (begun code s t) E (cond b (x ∷ turns_of t earlier) (turns_of t earlier))
        (cond b (Run.paired (one_thread code s) (Run.erase bounds (one_thread code s) from earlier) (at bounds (one_thread code s) from earlier) x ∷ pairs_of bounds (one_thread code s) from t earlier) (pairs_of bounds (one_thread code s) from t earlier))) [
          | true ↦ λ e.
              let count : length (turns_of t (x ∷ earlier)) ≡ suc (length (turns_of t earlier)) = ap (λ b. length (cond b (x ∷ turns_of t earlier) (turns_of t earlier))) e in
              let th : (at bounds (one_thread code s) from earlier).threads x.thread ≡ state_after (one_thread code s) (begun code s t) (turns_of t earlier) =
              ap (at bounds (one_thread code s) from earlier).threads (sym (eqb-true t x.thread e)) ∙ (laws.stands bounds code s from earlier).threads t in
              let E_is : E (length (turns_of t earlier)) ≡ table_of code s earlier = agree (length (turns_of t earlier)) (omega arith) ∙ before_is t x earlier (length (turns_of t earlier)) (omega arith) ∙ now_is t earlier in
              let G : Machine → ℕ = λ m. speaks_of (instr_at code m.at.pc) m (result_of x.event) in
              (pairs_are earlier E (λ k lt. agree k (omega arith) ∙ before_is t x earlier k (omega arith)), ap (λ m. table_of code s earlier (G m)) th ∙ ap (λ (T : Elements). T (G (state_after (one_thread code s) (begun code s t) (turns_of t earlier)))) (sym E_is))
          | false ↦ λ e.
              let count : length (turns_of t (x ∷ earlier)) ≡ length (turns_of t earlier) = ap (λ b. length (cond b (x ∷ turns_of t earlier) (turns_of t earlier))) e in
              pairs_are earlier E (λ k lt. agree k (omega arith) ∙ before_is t x earlier k (omega arith))
        ] refl

    pub path_in : (run : List Turn) → CheckedRun code s run → IsPathIn code s t run
    path_in run checked =
        let own = turns_of t run in
        record {
          path = path_is (begun code s t) own (checked.paths t);
          machine = (laws.stands bounds code s from run).threads t ∙ state_is (begun code s t) own;
          said = ap told_in (laws.erased bounds code s from run t) ∙ says_are t (begun code s t) (elements_before code s t run) own (pairs_of bounds (one_thread code s) from t run) (pairs_are run (elements_before code s t run) (λ k lt. refl));
          quiet = quiet_are (begun code s t) own (checked.paths t);
        }
