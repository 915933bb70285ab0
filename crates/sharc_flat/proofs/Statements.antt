-- Lists of statements, choices, loops, jumps and returns.
use Rattle.sharc_flat.proofs.{Imports.{◌≡◌, ℕ, zero, suc, ◌+◌, ◌≤◌, Bool, true, false, cond, List, [], ◌∷◌, ◌++◌, length, Some, refl, sym, ap, ◌∙◌, subst, arith, append_assoc, length-append, append-nil, ℤ, slice_get, not, Kind, Assignment, State, Run, ◌>>=◌, ◌>>◌, give, spent, is_zero, Flow, next, on_next, turns, loop, left_by, Op, Spot, goes, on, over_lines, int_count, ref_count, Slot, Around, looping, turns_code, jump_code, Jump, Break, Continue}, Runs.{HasAt, has_front, has_back, Fin, fin_of, fin_then, Same, weaken, step, Holds, bind}, Agreeing.{Standing, place, holding}, Accessing.context, Testing.TestAs, Executing.{Stand, After, Here, Beyond, StatementAs, after_less, after_at}}
use Rattle.sharc_meaning.specs.Statements.{on_turn}

module _ (m : Assignment) (z : Standing) (kind : Kind) (ints0 : ℕ → ℤ) where
  spent_here : (c : ℕ) (s : State) (pc : ℕ) (ints refs : ℕ → ℤ) → Holds refs s → Same z.flat s.fuel c (fin_of spent s) s.answers (place z pc ints refs s)
  spent_here c s pc ints refs h = record { turns = 0; tells = record { events = refl; outcome = refl; held = h; given = refl }; low = omega arith; high = omega arith }

  abbrev S : List Slot → List ℤ → (ℕ → ℤ) → (ℕ → ℤ) → State → Type 0
  S scope L ints refs s = Stand m z kind ints0 scope L ints refs s

  -- ---- lists
  pub no_more : (a : Around) (scope : List Slot) → StatementAs m z kind ints0 a (Beyond m z kind ints0 scope) scope scope 1 (give next) (λ pc. [])
  no_more a scope pc c ints refs s k has st rest =
      let p : pc + 0 ≡ pc = omega arith in
      subst (λ q. Same z.flat s.fuel (c + 1 + ref_count scope) (k next s) s.answers (place z q ints refs s)) p (rest.next_runs ints refs s st)

  pub one_more : (a : Around) (scope more scope2 : List Slot) (first second : Run Flow) (ca cb : ℕ → List Op)
      → StatementAs m z kind ints0 a (Here m z kind ints0 scope) scope (scope ++ more) 0 first ca → StatementAs m z kind ints0 a (Beyond m z kind ints0 (scope ++ more)) (scope ++ more) scope2 1 second cb
      → StatementAs m z kind ints0 a (Beyond m z kind ints0 scope) scope scope2 1 (first >>= λ flow. on_next flow second) (λ pc. ca pc ++ cb (pc + length (ca pc)))
  one_more a scope more scope2 first second ca cb runs_a runs_b pc c ints refs s k has st rest =
      let A = ca pc in
      let B = cb (pc + length A) in
      let end : pc + length A + length B ≡ pc + length (A ++ B) = omega (arith, length-append A B) in
      let front : (at : List Slot) → at ≡ scope → at ≡ scope ++ [] = λ at e. e ∙ sym (append-nil scope) in
      bind z.flat s.fuel (c + 1 + ref_count scope) s.answers (first s) (λ flow. on_next flow second) k (place z pc ints refs s)
      (weaken z.flat s.fuel (c + 0 + ref_count scope) (c + 1 + ref_count scope) _ s.answers _ (omega arith)
      (runs_a pc c ints refs s (λ flow u. fin_then (on_next flow second u) k) (has_front z.flat.lines pc A B has) st (record {
        next_runs = λ ints1 refs1 s1 st1. runs_b (pc + length A) c ints1 refs1 s1 k (has_back z.flat.lines pc A B has) st1 (record {
          next_runs = λ ints2 refs2 s2 st2. subst (λ q. Same z.flat s2.fuel (c + 1 + ref_count scope2) (k next s2) s2.answers (place z q ints2 refs2 s2)) (sym end) (rest.next_runs ints2 refs2 s2 st2);
          broken_runs = λ il at l. rest.broken_runs il at (more ++ l.0, l.1 ∙ append_assoc scope more l.0);
          continued_runs = λ il at l. rest.continued_runs il at (more ++ l.0, l.1 ∙ append_assoc scope more l.0);
          returned_runs = λ at l. rest.returned_runs at (more ++ l.0, l.1 ∙ append_assoc scope more l.0);
        });
        broken_runs = λ il at l. rest.broken_runs il at ([], front at l);
        continued_runs = λ il at l. rest.continued_runs il at ([], front at l);
        returned_runs = λ at l. rest.returned_runs at ([], front at l);
      })))

  -- ---- jumps
  pub jump_runs : (a : Around) (scope : List Slot) (j : Jump) → (a.broken ≡ 0 → ⊥) → StatementAs m z kind ints0 a (Here m z kind ints0 scope) scope scope 3 (give (left_by j)) (λ pc. jump_code (context m z scope) a j)
  jump_runs a scope Break il pc c ints refs s k has st rest = rest.broken_runs il scope refl pc ints refs s has st
  jump_runs a scope Continue il pc c ints refs s k has st rest = rest.continued_runs il scope refl pc ints refs s has st

  pub empty_runs : (a : Around) (scope : List Slot) → StatementAs m z kind ints0 a (Here m z kind ints0 scope) scope scope 1 (give next) (λ pc. [])
  empty_runs a scope pc c ints refs s k has st rest =
      let p : pc + 0 ≡ pc = omega arith in
      subst (λ q. Same z.flat s.fuel (c + 1 + ref_count scope) (k next s) s.answers (place z q ints refs s)) p (rest.next_runs ints refs s st)

  -- ---- steps: what is done without a way out
  abbrev pub StepAs : List Slot → List Slot → ℕ → Run (Unit {0}) → List Op → Type 0
  StepAs scope scope' need run code = (pc c : ℕ) (ints refs : ℕ → ℤ) (s : State) (k : Unit {0} → State → Fin) → HasAt z.flat.lines pc code → S scope [] ints refs s
      → ((ints' refs' : ℕ → ℤ) (s' : State) → S scope' [] ints' refs' s' → Same z.flat s'.fuel (c + ref_count scope') (k tt s') s'.answers (place z (pc + length code) ints' refs' s'))
      → Same z.flat s.fuel (c + need + ref_count scope) (fin_then (run s) k) s.answers (place z pc ints refs s)

  pub step_then : (a : Around) (scope scope' : List Slot) (need : ℕ) (run : Run (Unit {0})) (code : List Op) → StepAs scope scope' need run code → StatementAs m z kind ints0 a (Here m z kind ints0 scope) scope scope' (need + 1) (run >> give next) (λ pc. code)
  step_then a scope scope' need run code of_run pc c ints refs s k has st rest =
      let e : c + 1 + need + ref_count scope ≡ c + (need + 1) + ref_count scope = omega arith in
      bind z.flat s.fuel (c + (need + 1) + ref_count scope) s.answers (run s) (λ _. give next) k (place z pc ints refs s)
      (subst (λ q. Same z.flat s.fuel q (fin_then (run s) (λ _ u. k next u)) s.answers (place z pc ints refs s)) e
      (of_run pc (c + 1) ints refs s (λ _ u. k next u) has st (λ ints1 refs1 s1 st1. rest.next_runs ints1 refs1 s1 st1)))

  -- ---- tests
  -- on to what follows, or over this many statements
  abbrev pub DecidesAs : List Slot → ℕ → Run Bool → (ℕ → List Op) → Type 0
  DecidesAs scope gain run code = (n pc c : ℕ) (ints refs : ℕ → ℤ) (s : State) (k : Bool → State → Fin) → HasAt z.flat.lines pc (code n) → S scope [] ints refs s
      → ((ints' refs' : ℕ → ℤ) (s' : State) → S scope [] ints' refs' s' → Same z.flat s'.fuel (c + gain + ref_count scope) (k true s') s'.answers (place z (pc + length (code n)) ints' refs' s'))
      → ((ints' refs' : ℕ → ℤ) (s' : State) → S scope [] ints' refs' s' → Same z.flat s'.fuel (c + 1 + ref_count scope) (k false s') s'.answers (place z (pc + length (code n) + n) ints' refs' s'))
      → Same z.flat s.fuel (c + ref_count scope) (fin_then (run s) k) s.answers (place z pc ints refs s)

  chooses : (b : Bool) (i n pc c : ℕ) (ints refs : ℕ → ℤ) (s : State) (k : Bool → State → Fin) → slice_get z.flat.lines pc ≡ Some (Op.SkipIfZero i n) → is_zero (ints (z.ints + i)) ≡ not b
      → Same z.flat s.fuel c (k true s) s.answers (place z (pc + 1) ints refs s) → Same z.flat s.fuel c (k false s) s.answers (place z (pc + 1 + n) ints refs s) → Same z.flat s.fuel (c + 1) (k b s) s.answers (place z pc ints refs s)
  chooses true i n pc c ints refs s k at e yes_runs no_runs = step z.flat (Op.SkipIfZero i n) s.fuel c (k true s) s.answers (place z pc ints refs s) _ at (ap (λ b. goes (cond b (over_lines n (place z pc ints refs s)) (on (place z pc ints refs s)))) e) yes_runs
  chooses false i n pc c ints refs s k at e yes_runs no_runs = step z.flat (Op.SkipIfZero i n) s.fuel c (k false s) s.answers (place z pc ints refs s) _ at (ap (λ b. goes (cond b (over_lines n (place z pc ints refs s)) (on (place z pc ints refs s)))) e) no_runs

  pub decides_runs : (scope : List Slot) (run : Run Bool) (ct : ℕ → ℕ → List Op) → TestAs m z scope run ct → DecidesAs scope 1 run (λ n. ct (int_count scope) (ref_count scope) ++ Op.SkipIfZero (int_count scope) n ∷ [])
  decides_runs scope run ct of_run n pc c ints refs s k has st yes_runs no_runs =
      let i = int_count scope in
      let r = ref_count scope in
      let t = ct i r in
      let o = Op.SkipIfZero i n in
      let has_o = (has_back z.flat.lines pc t (o ∷ []) has).0 in
      let r_is : r ≡ r + 0 = omega arith in
      let behind_is : pc + length t + 1 ≡ pc + length (t ++ o ∷ []) = omega (arith, length-append t (o ∷ [])) in
      let over_is : pc + length t + 1 + n ≡ pc + length (t ++ o ∷ []) + n = ap (λ q. q + n) behind_is in
      of_run [] i r pc (c + r) ints refs s k (has_front z.flat.lines pc t (o ∷ []) has) (omega arith) r_is st.agree
      (λ b ints1 refs1 s1 a1 kept value.
      let st1 : S scope [] ints1 refs1 s1 = record { agree = a1; kept = λ q lt. kept q (omega arith) ∙ st.kept q lt } in
      let two : c + 1 + r + 1 ≡ c + r + 2 = omega arith in
      subst (λ q. Same z.flat s1.fuel q (k b s1) s1.answers (place z (pc + length t) ints1 refs1 s1)) two
      (chooses b i n (pc + length t) (c + 1 + r) ints1 refs1 s1 k has_o value
      (subst (λ q. Same z.flat s1.fuel (c + 1 + r) (k true s1) s1.answers (place z q ints1 refs1 s1)) (sym behind_is) (yes_runs ints1 refs1 s1 st1))
      (subst (λ q. Same z.flat s1.fuel (c + 1 + r) (k false s1) s1.answers (place z q ints1 refs1 s1)) (sym over_is) (no_runs ints1 refs1 s1 st1))))

  pub always_runs : (scope : List Slot) → DecidesAs scope 0 (give true) (λ n. [])
  always_runs scope n pc c ints refs s k has st yes_runs no_runs =
      let p : pc + 0 ≡ pc = omega arith in
      weaken z.flat s.fuel (c + 0 + ref_count scope) (c + ref_count scope) _ s.answers _ (omega arith) (subst (λ q. Same z.flat s.fuel (c + 0 + ref_count scope) (k true s) s.answers (place z q ints refs s)) p (yes_runs ints refs s st))

  -- ---- choices
  pub if_runs : (a : Around) (scope : List Slot) (run : Run Bool) (ct : ℕ → List Op) (body : Run Flow) (cb : ℕ → List Op) → DecidesAs scope 1 run ct → StatementAs m z kind ints0 a (Here m z kind ints0 scope) scope scope 0 body cb
      → ((n : ℕ) → length (ct n) ≡ length (ct 0))
      → StatementAs m z kind ints0 a (Here m z kind ints0 scope) scope scope 0 (run >>= λ b. cond b body (give next)) (λ pc. ct (length (cb (pc + length (ct 0)))) ++ cb (pc + length (ct 0)))
  if_runs a scope run ct body cb decides of_body len pc c ints refs s k has st rest =
      let B = cb (pc + length (ct 0)) in
      let t = ct (length B) in
      let same : pc + length t ≡ pc + length (ct 0) = ap (λ q. pc + q) (len (length B)) in
      let end : pc + length (ct 0) + length B ≡ pc + length (t ++ B) = omega (arith, length-append t B, len (length B)) in
      let end2 : pc + length t + length B ≡ pc + length (t ++ B) = omega (arith, length-append t B) in
      let has_b : HasAt z.flat.lines (pc + length (ct 0)) B = subst (λ q. HasAt z.flat.lines q B) same (has_back z.flat.lines pc t B has) in
      weaken z.flat s.fuel (c + ref_count scope) (c + 0 + ref_count scope) _ s.answers _ (omega arith)
      (bind z.flat s.fuel (c + ref_count scope) s.answers (run s) (λ b. cond b body (give next)) k (place z pc ints refs s)
      (decides (length B) pc c ints refs s (λ b u. fin_then ((cond b body (give next)) u) k) (has_front z.flat.lines pc t B has) st
      (λ ints1 refs1 s1 st1. subst (λ q. Same z.flat s1.fuel (c + 1 + ref_count scope) (fin_then (body s1) k) s1.answers (place z q ints1 refs1 s1)) (sym same)
      (weaken z.flat s1.fuel (c + 0 + ref_count scope) (c + 1 + ref_count scope) _ s1.answers _ (omega arith)
      (of_body (pc + length (ct 0)) c ints1 refs1 s1 k has_b st1 (after_at m z kind ints0 a (Here m z kind ints0 scope) _ _ scope c k end rest))))
      (λ ints1 refs1 s1 st1. subst (λ q. Same z.flat s1.fuel (c + 1 + ref_count scope) (k next s1) s1.answers (place z q ints1 refs1 s1)) (sym end2) (rest.next_runs ints1 refs1 s1 st1))))

  pub choice_runs : (a : Around) (scope : List Slot) (run : Run Bool) (ct : ℕ → List Op) (first second : Run Flow) (ca cb : ℕ → List Op) → DecidesAs scope 1 run ct
      → StatementAs m z kind ints0 a (Here m z kind ints0 scope) scope scope 0 first ca → StatementAs m z kind ints0 a (Here m z kind ints0 scope) scope scope 0 second cb → ((n : ℕ) → length (ct n) ≡ length (ct 0))
      → StatementAs m z kind ints0 a (Here m z kind ints0 scope) scope scope 0 (run >>= λ b. cond b first second)
      (λ pc. ct (length (ca (pc + length (ct 0))) + 1) ++ (ca (pc + length (ct 0)) ++ (Op.Skip (length (cb (pc + length (ct 0) + length (ca (pc + length (ct 0))) + 1))) ∷ cb (pc + length (ct 0) + length (ca (pc + length (ct 0))) + 1))))
  choice_runs a scope run ct first second ca cb decides of_a of_b len pc c ints refs s k has st rest =
      let A = ca (pc + length (ct 0)) in
      let pb = pc + length (ct 0) + length A + 1 in
      let B = cb pb in
      let t = ct (length A + 1) in
      let tail = Op.Skip (length B) ∷ B in
      let same : pc + length t ≡ pc + length (ct 0) = ap (λ q. pc + q) (len (length A + 1)) in
      let has1 : HasAt z.flat.lines (pc + length (ct 0)) (A ++ tail) = subst (λ q. HasAt z.flat.lines q (A ++ tail)) same (has_back z.flat.lines pc t (A ++ tail) has) in
      let has2 = has_back z.flat.lines (pc + length (ct 0)) A tail has1 in
      let end : pb + length B ≡ pc + length (t ++ (A ++ tail)) = omega (arith, length-append t (A ++ tail), length-append A tail, len (length A + 1)) in
      let over_is : pc + length (ct 0) + length A + 1 + length B ≡ pc + length (t ++ (A ++ tail)) = end in
      let to_b : pb ≡ pc + length t + (length A + 1) = omega (arith, len (length A + 1)) in
      weaken z.flat s.fuel (c + ref_count scope) (c + 0 + ref_count scope) _ s.answers _ (omega arith)
      (bind z.flat s.fuel (c + ref_count scope) s.answers (run s) (λ b. cond b first second) k (place z pc ints refs s)
      (decides (length A + 1) pc c ints refs s (λ b u. fin_then ((cond b first second) u) k) (has_front z.flat.lines pc t (A ++ tail) has) st
      (λ ints1 refs1 s1 st1. subst (λ q. Same z.flat s1.fuel (c + 1 + ref_count scope) (fin_then (first s1) k) s1.answers (place z q ints1 refs1 s1)) (sym same)
      (weaken z.flat s1.fuel (c + 1 + 0 + ref_count scope) (c + 1 + ref_count scope) _ s1.answers _ (omega arith)
      (of_a (pc + length (ct 0)) (c + 1) ints1 refs1 s1 k (has_front z.flat.lines (pc + length (ct 0)) A tail has1) st1 (record {
        next_runs = λ ints2 refs2 s2 st2.
            let credit : c + 1 + ref_count scope + 1 ≡ c + 1 + 1 + ref_count scope = omega arith in
            subst (λ q. Same z.flat s2.fuel q (k next s2) s2.answers (place z (pc + length (ct 0) + length A) ints2 refs2 s2)) credit
            (step z.flat (Op.Skip (length B)) s2.fuel (c + 1 + ref_count scope) (k next s2) s2.answers (place z (pc + length (ct 0) + length A) ints2 refs2 s2) (place z (pc + length (ct 0) + length A + 1 + length B) ints2 refs2 s2) has2.0 refl
            (subst (λ q. Same z.flat s2.fuel (c + 1 + ref_count scope) (k next s2) s2.answers (place z q ints2 refs2 s2)) (sym over_is) (rest.next_runs ints2 refs2 s2 st2)));
        broken_runs = (after_less m z kind ints0 a (Here m z kind ints0 scope) _ scope c (c + 1) k (omega arith) rest).broken_runs;
        continued_runs = (after_less m z kind ints0 a (Here m z kind ints0 scope) _ scope c (c + 1) k (omega arith) rest).continued_runs;
        returned_runs = (after_less m z kind ints0 a (Here m z kind ints0 scope) _ scope c (c + 1) k (omega arith) rest).returned_runs;
      }))))
      (λ ints1 refs1 s1 st1. subst (λ q. Same z.flat s1.fuel (c + 1 + ref_count scope) (fin_then (second s1) k) s1.answers (place z q ints1 refs1 s1)) to_b
      (weaken z.flat s1.fuel (c + 0 + ref_count scope) (c + 1 + ref_count scope) _ s1.answers _ (omega arith)
      (of_b pb c ints1 refs1 s1 k has2.1 st1 (after_at m z kind ints0 a (Here m z kind ints0 scope) _ _ scope c k end rest))))))

  -- ---- loops
  module _ (a : Around) (scope : List Slot) (pc : ℕ) (gain : ℕ) (test : Run Bool) (ct : ℕ → List Op) (update : Run (Unit {0})) (cs : List Op) (body : Run Flow) (cb : ℕ → List Op)
      (decides : DecidesAs scope gain test ct) (len : (n : ℕ) → length (ct n) ≡ length (ct 0)) (updates : StepAs scope scope 0 update cs)
      (of_body : StatementAs m z kind ints0 (looping a (pc + 1) (pc + 2)) (Here m z kind ints0 scope) scope scope 0 body cb) where
    abbrev at_body : ℕ
    at_body = pc + 3 + length (ct 0)

    abbrev body_code : List Op
    body_code = cb at_body

    abbrev test_of : List Op
    test_of = ct (length body_code + length cs + 1)

    abbrev back : List Op
    back = Op.Jump (pc + 3) ∷ []

    abbrev at_step : ℕ
    at_step = at_body + length body_code

    abbrev whole : List Op
    whole = turns_code pc cs test_of body_code

    module _ (c : ℕ) (k : Flow → State → Fin) (has : HasAt z.flat.lines pc whole) (rest : After m z kind ints0 a (Here m z kind ints0 scope) (pc + length whole) scope c k) where
      has_test : HasAt z.flat.lines (pc + 3) (test_of ++ (body_code ++ (cs ++ back)))
      has_test = let e : pc + 1 + 1 + 1 ≡ pc + 3 = omega arith in subst (λ q. HasAt z.flat.lines q (test_of ++ (body_code ++ (cs ++ back)))) e has.1.1.1

      has_body : HasAt z.flat.lines at_body (body_code ++ (cs ++ back))
      has_body = subst (λ q. HasAt z.flat.lines (pc + 3 + q) (body_code ++ (cs ++ back))) (len (length body_code + length cs + 1)) (has_back z.flat.lines (pc + 3) test_of _ has_test)

      has_step : HasAt z.flat.lines at_step (cs ++ back)
      has_step = has_back z.flat.lines at_body body_code _ has_body

      has_jump : slice_get z.flat.lines (at_step + length cs) ≡ Some (Op.Jump (pc + 3))
      has_jump = (has_back z.flat.lines at_step cs _ has_step).0

      whole_length : length whole ≡ 3 + length test_of + length body_code + length cs + 1
      whole_length = omega (arith, length-append test_of (body_code ++ (cs ++ back)), length-append body_code (cs ++ back), length-append cs back)

      -- from the way out
      out_runs : (ints refs : ℕ → ℤ) (s : State) → S scope [] ints refs s → Same z.flat s.fuel (c + 2 + ref_count scope) (k next s) s.answers (place z (pc + 1) ints refs s)
      out_runs ints refs s st =
          let over = length test_of + length body_code + length cs + 2 in
          let credit : c + 1 + ref_count scope + 1 ≡ c + 2 + ref_count scope = omega arith in
          let to : pc + length whole ≡ pc + 1 + 1 + over = omega (arith, whole_length) in
          subst (λ q. Same z.flat s.fuel q (k next s) s.answers (place z (pc + 1) ints refs s)) credit
          (step z.flat (Op.Skip over) s.fuel (c + 1 + ref_count scope) (k next s) s.answers (place z (pc + 1) ints refs s) (place z (pc + 1 + 1 + over) ints refs s) has.1.0 refl
          (subst (λ q. Same z.flat s.fuel (c + 1 + ref_count scope) (k next s) s.answers (place z q ints refs s)) to (rest.next_runs ints refs s st)))

      -- from the step, and back
      again_runs : (again : Run Flow) → ((ints refs : ℕ → ℤ) (s : State) → S scope [] ints refs s → Same z.flat s.fuel (c + ref_count scope) (fin_then (again s) k) s.answers (place z (pc + 3) ints refs s))
          → (ints refs : ℕ → ℤ) (s : State) → S scope [] ints refs s → Same z.flat s.fuel (c + 1 + ref_count scope) (fin_then ((update >> again) s) k) s.answers (place z at_step ints refs s)
      again_runs again ih ints refs s st =
          let credit : c + ref_count scope + 1 ≡ c + 1 + ref_count scope = omega arith in
          bind z.flat s.fuel (c + 1 + ref_count scope) s.answers (update s) (λ _. again) k (place z at_step ints refs s)
          (weaken z.flat s.fuel (c + 1 + 0 + ref_count scope) (c + 1 + ref_count scope) _ s.answers _ (omega arith)
          (updates at_step (c + 1) ints refs s (λ _ u. fin_then (again u) k) (has_front z.flat.lines at_step cs _ has_step) st (λ ints1 refs1 s1 st1.
          subst (λ q. Same z.flat s1.fuel q (fin_then (again s1) k) s1.answers (place z (at_step + length cs) ints1 refs1 s1)) credit
          (step z.flat (Op.Jump (pc + 3)) s1.fuel (c + ref_count scope) _ s1.answers (place z (at_step + length cs) ints1 refs1 s1) (place z (pc + 3) ints1 refs1 s1) has_jump refl (ih ints1 refs1 s1 st1)))))

      -- from the way to the step
      way_runs : (again : Run Flow) → ((ints refs : ℕ → ℤ) (s : State) → S scope [] ints refs s → Same z.flat s.fuel (c + ref_count scope) (fin_then (again s) k) s.answers (place z (pc + 3) ints refs s))
          → (ints refs : ℕ → ℤ) (s : State) → S scope [] ints refs s → Same z.flat s.fuel (c + 2 + ref_count scope) (fin_then ((update >> again) s) k) s.answers (place z (pc + 2) ints refs s)
      way_runs again ih ints refs s st =
          let over = length test_of + length body_code in
          let credit : c + 1 + ref_count scope + 1 ≡ c + 2 + ref_count scope = omega arith in
          let to : at_step ≡ pc + 2 + 1 + over = omega (arith, len (length body_code + length cs + 1)) in
          let two : pc + 1 + 1 ≡ pc + 2 = omega arith in
          subst (λ q. Same z.flat s.fuel q (fin_then ((update >> again) s) k) s.answers (place z (pc + 2) ints refs s)) credit
          (step z.flat (Op.Skip over) s.fuel (c + 1 + ref_count scope) _ s.answers (place z (pc + 2) ints refs s) (place z (pc + 2 + 1 + over) ints refs s) (subst (λ q. slice_get z.flat.lines q ≡ Some (Op.Skip over)) two has.1.1.0) refl
          (subst (λ q. Same z.flat s.fuel (c + 1 + ref_count scope) (fin_then ((update >> again) s) k) s.answers (place z q ints refs s)) to (again_runs again ih ints refs s st)))

      turns_run : (n : ℕ) (ints refs : ℕ → ℤ) (s : State) → S scope [] ints refs s → Same z.flat s.fuel (c + ref_count scope) (fin_then (turns n test update body s) k) s.answers (place z (pc + 3) ints refs s)
      turns_run zero ints refs s st = spent_here (c + ref_count scope) s (pc + 3) ints refs (holding z [] scope ints refs s st.agree)
      turns_run (suc n) ints refs s st =
          let again = turns n test update body in
          let end : pc + 3 + length test_of + (length body_code + length cs + 1) ≡ pc + length whole = omega (arith, whole_length) in
          let inner : pc + 3 + length test_of ≡ at_body = ap (λ q. pc + 3 + q) (len (length body_code + length cs + 1)) in
          bind z.flat s.fuel (c + ref_count scope) s.answers (test s) (λ b. cond b (body >>= λ flow. on_turn flow (update >> again)) (give next)) k (place z (pc + 3) ints refs s)
          (decides (length body_code + length cs + 1) (pc + 3) c ints refs s (λ b u. fin_then ((cond b (body >>= λ flow. on_turn flow (update >> again)) (give next)) u) k) (has_front z.flat.lines (pc + 3) test_of _ has_test) st
          (λ ints1 refs1 s1 st1.
          subst (λ q. Same z.flat s1.fuel (c + gain + ref_count scope) (fin_then ((body >>= λ flow. on_turn flow (update >> again)) s1) k) s1.answers (place z q ints1 refs1 s1)) (sym inner)
          (bind z.flat s1.fuel (c + gain + ref_count scope) s1.answers (body s1) (λ flow. on_turn flow (update >> again)) k (place z at_body ints1 refs1 s1)
          (weaken z.flat s1.fuel (c + 0 + ref_count scope) (c + gain + ref_count scope) _ s1.answers _ (omega arith)
          (of_body at_body c ints1 refs1 s1 (λ flow u. fin_then (on_turn flow (update >> again) u) k) (has_front z.flat.lines at_body body_code _ has_body) st1 (record {
            next_runs = λ ints2 refs2 s2 st2. again_runs again (turns_run n) ints2 refs2 s2 st2;
            broken_runs = λ il at l pc2 ints2 refs2 s2 has2 st2.
                subst (λ q. Same z.flat s2.fuel (c + 3 + ref_count q) (k next s2) s2.answers (place z pc2 ints2 refs2 s2)) (sym l)
                (let credit : c + 2 + ref_count scope + 1 ≡ c + 3 + ref_count scope = omega arith in
                subst (λ q. Same z.flat s2.fuel q (k next s2) s2.answers (place z pc2 ints2 refs2 s2)) credit
                (step z.flat (Op.Jump (pc + 1)) s2.fuel (c + 2 + ref_count scope) (k next s2) s2.answers (place z pc2 ints2 refs2 s2) (place z (pc + 1) ints2 refs2 s2) has2.0 refl
                (out_runs ints2 refs2 s2 (subst (λ q. S q [] ints2 refs2 s2) l st2))));
            continued_runs = λ il at l pc2 ints2 refs2 s2 has2 st2.
                subst (λ q. Same z.flat s2.fuel (c + 3 + ref_count q) (fin_then ((update >> again) s2) k) s2.answers (place z pc2 ints2 refs2 s2)) (sym l)
                (let credit : c + 2 + ref_count scope + 1 ≡ c + 3 + ref_count scope = omega arith in
                subst (λ q. Same z.flat s2.fuel q (fin_then ((update >> again) s2) k) s2.answers (place z pc2 ints2 refs2 s2)) credit
                (step z.flat (Op.Jump (pc + 2)) s2.fuel (c + 2 + ref_count scope) _ s2.answers (place z pc2 ints2 refs2 s2) (place z (pc + 2) ints2 refs2 s2) has2.0 refl
                (way_runs again (turns_run n) ints2 refs2 s2 (subst (λ q. S q [] ints2 refs2 s2) l st2))));
            returned_runs = λ at l. rest.returned_runs at l;
          })))))
          (λ ints1 refs1 s1 st1. subst (λ q. Same z.flat s1.fuel (c + 1 + ref_count scope) (k next s1) s1.answers (place z q ints1 refs1 s1)) (sym end) (rest.next_runs ints1 refs1 s1 st1)))

      pub loop_runs : (ints refs : ℕ → ℤ) (s : State) → S scope [] ints refs s → Same z.flat s.fuel (c + 1 + ref_count scope) (fin_then (loop test update body s) k) s.answers (place z pc ints refs s)
      loop_runs ints refs s st =
          let credit : c + ref_count scope + 1 ≡ c + 1 + ref_count scope = omega arith in
          let to : pc + 1 + 2 ≡ pc + 3 = omega arith in
          subst (λ q. Same z.flat s.fuel q (fin_then (loop test update body s) k) s.answers (place z pc ints refs s)) credit
          (step z.flat (Op.Skip 2) s.fuel (c + ref_count scope) _ s.answers (place z pc ints refs s) (place z (pc + 1 + 2) ints refs s) has.0 refl
          (subst (λ q. Same z.flat s.fuel (c + ref_count scope) (fin_then (loop test update body s) k) s.answers (place z q ints refs s)) (sym to) (turns_run s.fuel ints refs s st)))
