-- A count of 1 is that of the register that is tested.
use Rattle.sharc_wants_laws.proofs.Imports.{◌≡◌, ◌≢◌, ℕ, zero, suc, ◌+◌, ◌*◌, ◌/◌, ◌<◌, ◌≤◌, ⊎_elim, true, false, ◌&&◌, List, ◌∷◌, Option, Some, None, refl, sym, ap, ◌∙◌, subst, arith, cond, nat_lt, ltb-true, cases_Bool, cases_eq, cases_lt, and_parts, nat_tests, slice_index, nat_eq, if◌then◌else◌, THREADS, WordEvent, WordStep, test_of, Code, Instr, TestSole, Shape, Stage, FRAMES, Fits, granules, granule_at, words_of, cell_word, count_word, length_word, Machine, instr_at, act, ref, most_refs, Answered, Global, IsRun, Turn, result_of, step_of, one_thread, bounds, place_after, one, sum_to, Targets, cells_of, Label, Labels, Fine, IsWellTyped, ArgumentOf, In, RegisterOf, LogOf, Staged, World, ObjectState, argument_of, is_freed, IsSmall, label_now, first_place, IsAlone, MachineInvariant, cells_now, is_pointer_now, cell_refers, register_refers, log_refers, hand_refers, references_to, RunsTest, RunsFromTheBeginning, RunsStand, Passes, objects_there, not_zero}
use Rattle.sharc_code.specs.{Layout.cell_of, Path.{turn, asked_by}}
use Rattle.sharc_invariant.specs.{Types.{field_in, is_pointer}, State.State}
use Rattle.sharc_invariant.specs.Words as Words

-- ---- sums
one_here : (a o : ℕ) → a ≡ o → one a o ≡ 1
one_here a o e = let q : nat_eq a o ≡ true = grind (arith, nat_tests) in ap (λ b. if b then 1 else 0) q

part : (n : ℕ) (f : ℕ → ℕ) (i : ℕ) → i < n → f i ≤ sum_to n f
part zero f i lt = absurd (omega (arith, lt))
part (suc n) f i lt = ⊎_elim
    (λ (e : i ≡ n). let q : f i ≡ f n = ap f e in omega (arith, q))
    (λ (ne : i ≡ n → ⊥). let k = part n f i (below i n lt ne) in omega (arith, k))
    (cases_eq i n)
  where
    below : (i n : ℕ) → i < suc n → (i ≡ n → ⊥) → i < n
    below i n lt ne = ⊎_elim (λ (l : i < n). l) (λ (ge : n ≤ i). absurd (ne (omega (arith, lt, ge)))) (cases_lt i n)

parts : (n : ℕ) (f : ℕ → ℕ) (i k : ℕ) → i < n → k < n → (i ≡ k → ⊥) → f i + f k ≤ sum_to n f
parts zero f i k li lk ne = absurd (omega (arith, li))
parts (suc n) f i k li lk ne = ⊎_elim
    (λ (e : i ≡ n). let q : f i ≡ f n = ap f e in let rest = part n f k (below k lk (λ z. ne (e ∙ sym z))) in omega (arith, q, rest))
    (λ (ni : i ≡ n → ⊥). ⊎_elim
    (λ (e : k ≡ n). let q : f k ≡ f n = ap f e in let rest = part n f i (below i li ni) in omega (arith, q, rest))
    (λ (nk : k ≡ n → ⊥). let rest = parts n f i k (below i li ni) (below k lk nk) ne in omega (arith, rest))
    (cases_eq k n))
    (cases_eq i n)
  where
    below : (i : ℕ) → i < suc n → (i ≡ n → ⊥) → i < n
    below i lt ne = ⊎_elim (λ (l : i < n). l) (λ (ge : n ≤ i). absurd (ne (omega (arith, lt, ge)))) (cases_lt i n)

-- ---- what a test finds
found_is : (words : List ℕ) (event : Option WordEvent) (step : WordStep) → step_of event ≡ Some step → Answered words event → result_of event ≡ slice_index words step.word
found_is words None step q a = absurd (let f : None ≡ Some step = q in cc)
found_is words (Some e) step q a = let same : e.step ≡ step = cc in a.result_is ∙ ap (λ (y : WordStep). slice_index words y.word) same

length_is : (s : Shape) (o : ℕ) → o < granules s → length_word s o ≡ Words.length_at s o
length_is s o lt = let e : nat_lt o (granules s) ≡ true = grind (arith, nat_tests) in let q : granule_at s o ≡ o = rw e refl in omega arith

known_there : (l : Label) (i : Instr) (stage : Stage) (r site : ℕ) → i ≡ TestSole r site → label_now l i stage ≡ l
known_there l i stage r site e = ap (λ i. label_now l i stage) e

-- ---- at a place
module _ (x : Targets) (code : Code) (s : Shape) (ls : Labels) (wt : IsWellTyped x code ls) (g : Global Machine) (world : World) (st : State x code s ls g world) (obj : ℕ → ObjectState) (same : world.obj ≡ obj) (inv : MachineInvariant x code s ls g obj)
    (t r site o : ℕ) (object : ref (g.threads t) r ≡ o) (nz : o ≢ 0) (is_test : instr_at code (g.threads t).at.pc ≡ TestSole r site) (number : references_to x code s g obj o ≡ 1) where
  abbrev k : ℕ
  k = (g.threads t).at.refs + r

  -- the register that is tested is one of a thread
  tested : register_refers code g t ((g.threads t).at.refs + r) ≡ o
  tested = ap (λ i. cond (is_freed i (g.threads t).own.stage (g.threads t).at.refs k) 0 (slice_index (g.threads t).refs k)) is_test ∙ object

  nonzero : (v : ℕ) → v ≡ o → v ≢ 0
  nonzero v e z = nz (sym e ∙ z)

  register_in : (u i : ℕ) → register_refers code g u i ≡ o → (u < THREADS) × (i < FRAMES * most_refs code.functions.items)
  register_in u i e = st.inv.words.inside (In (RegisterOf u i)) (λ z. nonzero (register_refers code g u i) e (sym (st.sim.regs u i) ∙ z))

  log_in : (u word : ℕ) → log_refers g u word ≡ o → (u < THREADS) × (word < words_of s)
  log_in u word e = st.inv.words.inside (In (LogOf u word)) (λ z. nonzero (log_refers g u word) e (sym (st.sim.logs u word) ∙ z))

  hand_in : (u : ℕ) → hand_refers g u ≡ o → u < THREADS
  hand_in u e = st.inv.words.inside (In (Staged u)) (λ z. nonzero (hand_refers g u) e (sym (st.sim.staged u) ∙ z))

  argument_in : (u : ℕ) → argument_of code g u ≡ o → u < THREADS
  argument_in u e = st.inv.words.inside (In (ArgumentOf u)) (λ z. nonzero (argument_of code g u) e (sym (st.sim.args u) ∙ z))

  cells_are : (p : ℕ) → (obj p).live ≡ true → cells_now x s g obj p ≡ st.cells p
  cells_are zero live = sym st.globals_cells
  cells_are (suc q) live =
      let p = suc q in
      let some : p ≢ 0 = λ e. cc in
      let was : (world.obj p).live ≡ true = ap (λ (f : ℕ → ObjectState). (f p).live) same ∙ live in
      let long : st.elements p ≡ slice_index g.words (length_word s p) = st.sim.lengths p some was ∙ ap (λ i. slice_index g.words i) (sym (length_is s p (st.apart.headers p was))) in
      ap (λ b. cond b (2 * s.globals) (slice_index g.words (length_word s p) * cells_of x (obj p).ty.target)) (not_zero p some)
      ∙ ap (λ n. n * cells_of x (obj p).ty.target) (sym long) ∙ ap (λ (f : ℕ → ObjectState). st.elements p * cells_of x (f p).ty.target) (sym same) ∙ sym (st.whole p some was).1

  cell_in : (p i : ℕ) → cell_refers x s g obj p i ≡ o → (p < granules s) × (i < 2 * granules s)
  cell_in p i e =
      let b = is_pointer_now x s g obj p i in
      let is_there : b ≡ true = ⊎_elim (λ (e : b ≡ true). e) (λ (f : b ≡ false). absurd (nz (sym e ∙ ap (λ b. cond b (slice_index g.words (cell_word s (cell_of p i))) 0) f))) (cases_Bool b) in
      let both = and_parts (obj p).live (nat_lt i (cells_now x s g obj p) && is_pointer (field_in x (obj p).ty i).holds) is_there in
      let more = and_parts (nat_lt i (cells_now x s g obj p)) (is_pointer (field_in x (obj p).ty i).holds) both.1 in
      let inside : i < st.cells p = subst (λ n. i < n) (cells_are p both.0) (ltb-true i (cells_now x s g obj p) more.0) in
      let was : (world.obj p).live ≡ true = ap (λ (f : ℕ → ObjectState). (f p).live) same ∙ both.0 in
      let low = st.apart.within p (i / 2) was (omega (arith, inside)) in
      (st.apart.headers p was, omega (arith, low))

  -- ---- two are too many
  abbrev registers : ℕ → ℕ → ℕ
  registers u i = one (register_refers code g u i) o

  abbrev of_thread : ℕ → ℕ
  of_thread u = sum_to (FRAMES * most_refs code.functions.items) (λ i. one (register_refers code g u i) o)

  abbrev of_log : ℕ → ℕ
  of_log u = sum_to (words_of s) (λ word. one (log_refers g u word) o)

  abbrev of_object : ℕ → ℕ
  of_object p = sum_to (2 * granules s) (λ i. one (cell_refers x s g obj p i) o)

  in_thread : (u i : ℕ) → register_refers code g u i ≡ o → 1 ≤ of_thread u
  in_thread u i e = let lt = register_in u i e in let q = one_here (register_refers code g u i) o e in let p = part (FRAMES * most_refs code.functions.items) (registers u) i lt.1 in omega (arith, q, p)

  own : 1 ≤ sum_to THREADS of_thread
  own = let q = in_thread t k tested in let p = part THREADS of_thread t (register_in t k tested).0 in omega (arith, q, p)

  few : (a b c d e : ℕ) → sum_to THREADS of_thread ≡ a → a + (b + (c + (d + e))) ≡ 1 → (a ≡ 1) × (b ≡ 0) × (c ≡ 0) × (d ≡ 0) × (e ≡ 0)
  few a b c d e is all = let low : 1 ≤ a = subst (λ n. 1 ≤ n) is own in (omega (arith, low, all), omega (arith, low, all), omega (arith, low, all), omega (arith, low, all), omega (arith, low, all))

  sums : (sum_to THREADS of_thread ≡ 1) × (sum_to THREADS (λ u. one (argument_of code g u) o) ≡ 0) × (sum_to THREADS of_log ≡ 0) × (sum_to THREADS (λ u. one (hand_refers g u) o) ≡ 0) × (sum_to (granules s) of_object ≡ 0)
  sums = few _ _ _ _ _ refl number

  no_register : (u i : ℕ) → register_refers code g u i ≡ o → (u ≡ t) × (i ≡ k)
  no_register u i e = ⊎_elim
      (λ (a : u ≡ t). ⊎_elim
      (λ (b : i ≡ k). (a, b))
      (λ (nb : i ≡ k → ⊥).
      let e' : register_refers code g t i ≡ o = ap (λ u. register_refers code g u i) (sym a) ∙ e in
      let q = one_here (register_refers code g t i) o e' in
      let q' = one_here (register_refers code g t k) o tested in
      let two = parts (FRAMES * most_refs code.functions.items) (registers t) i k (register_in t i e').1 (register_in t k tested).1 nb in
      let p = part THREADS of_thread t (register_in t k tested).0 in
      let only = sums.0 in
      absurd (omega (arith, q, q', two, p, only)))
      (cases_eq i k))
      (λ (na : u ≡ t → ⊥).
      let q = in_thread u i e in
      let q' = in_thread t k tested in
      let two = parts THREADS of_thread u t (register_in u i e).0 (register_in t k tested).0 na in
      let only = sums.0 in
      absurd (omega (arith, q, q', two, only)))
      (cases_eq u t)

  pub is_alone : slice_index g.words (count_word s o) ≡ 1 → IsAlone x code s g obj t ((g.threads t).at.refs + r) o
  is_alone count = record {
    some = nz;
    live = subst (λ v. (obj v).live ≡ true) tested (inv.registers t k (nonzero (register_refers code g t k) tested)).live;
    count = count;
    registers = no_register;
    arguments = λ u e. let q = one_here (argument_of code g u) o e in let p = part THREADS (λ u. one (argument_of code g u) o) u (argument_in u e) in let none = sums.1 in omega (arith, q, p, none);
    logs = λ u word e.
        let lt = log_in u word e in
        let q = one_here (log_refers g u word) o e in
        let p = part (words_of s) (λ word. one (log_refers g u word) o) word lt.1 in
        let p' = part THREADS of_log u lt.0 in
        let none = sums.2 in
        omega (arith, q, p, p', none);
    hands = λ u e. let q = one_here (hand_refers g u) o e in let p = part THREADS (λ u. one (hand_refers g u) o) u (hand_in u e) in let none = sums.3 in omega (arith, q, p, none);
    cells = λ p i e.
        let lt = cell_in p i e in
        let q = one_here (cell_refers x s g obj p i) o e in
        let low = part (2 * granules s) (λ i. one (cell_refers x s g obj p i) o) i lt.1 in
        let low' = part (granules s) of_object p lt.0 in
        let none = sums.4 in
        omega (arith, q, low, low', none);
  }

-- ---- of a run
pub passed_alone : (stay : RunsFromTheBeginning) (stand : RunsStand) (tests : RunsTest) (x : Targets) (code : Code) (s : Shape) (ls : Labels) (wt : IsWellTyped x code ls) (fits : Fits code s) (small : IsSmall code s)
    (test : Turn) (earlier : List Turn) (run : IsRun bounds (one_thread code s) (first_place code s) (test ∷ earlier)) (r : ℕ) (passes : Passes code s test earlier r)
    → IsAlone x code s (place_after code s earlier) (objects_there x code s ls earlier) test.thread (((place_after code s earlier).threads test.thread).at.refs + r) (ref ((place_after code s earlier).threads test.thread) r)
passed_alone stay stand tests x code s ls wt fits small test earlier run r passes =
    let g = place_after code s earlier in
    let t = test.thread in
    let m = g.threads t in
    let obj = objects_there x code s ls earlier in
    let behind = stay x code s ls wt fits small earlier run.0 in
    let st = behind.stands.state in
    let may = run.1 in
    let stands = tests x code s ls wt fits small earlier test run r passes.site passes.is_test in
    let fine : Fine x code ls m.at.pc (ls.at m.at.pc) (TestSole r passes.site) = subst (Fine x code ls m.at.pc (ls.at m.at.pc)) passes.is_test (wt.fine m.at.pc) in
    let top = ((st.threads t).runs may.started may.next.runs).top (suc r) 0 in
    let label : (label_now (ls.at m.at.pc) (instr_at code m.at.pc) m.own.stage).known r ≡ true = ap (λ (l : Label). l.known r) (known_there (ls.at m.at.pc) (instr_at code m.at.pc) m.own.stage r passes.site passes.is_test) ∙ fine.2 in
    let some = top.known r (omega arith) label in
    let reads : register_refers code g t (m.at.refs + r) ≡ ref m r = ap (λ i. cond (is_freed i m.own.stage m.at.refs (m.at.refs + r)) 0 (slice_index m.refs (m.at.refs + r))) passes.is_test in
    let nz : ref m r ≢ 0 = λ z. some (st.sim.regs t (m.at.refs + r) ∙ reads ∙ z) in
    let asked : asked_by (turn code s m) ≡ Some (test_of (count_word s (ref m r))) = ap (λ j. asked_by (act code s j m)) passes.is_test in
    let count : slice_index g.words (count_word s (ref m r)) ≡ 1 = sym (found_is g.words test.event (test_of (count_word s (ref m r))) (may.next.asks ∙ asked) may.answered) ∙ passes.found in
    is_alone x code s ls wt g behind.stands.world st obj behind.objects (stand x code s ls wt fits small earlier run.0) t r passes.site (ref m r) refl nz passes.is_test (sym stands.number ∙ passes.found) count
