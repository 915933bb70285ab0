-- A thread that stopped at a test of a sole reference found the number of references to its object, of which there is another one.
use Rattle.sharc_history_laws.proofs.{Imports.{◌≡◌, ℕ, zero, suc, ◌+◌, ◌*◌, ◌<◌, ◌≤◌, ◌⊎◌, inl, inr, true, false, List, [], ◌∷◌, Option, Some, None, is_some, if◌then◌else◌, refl, sym, ap, ◌∙◌, subst, ⊎_elim, arith, eqb-true, cases_eq, nat_eq, slice_index, THREADS, test_of, FRAMES, Code, Shape, Stop, NotSole, Fits, granules, words_of, count_word, Machine, instr_at, act, ref, opening_words, TurnsComeOut, MayStop, turn, after, may_go, most_refs, asked_by, Turn, Global, IsRun, MayTurn, after_turn, put, state_now, result_of, opening_of, one_thread, bounds, place_after, Instr, one, sum_to, Targets, Labels, IsWellTyped, Fine, ObjectState, argument_of, IsSmall, StageStands, first_world, first_place, objects_after, register_refers, log_refers, hand_refers, cell_refers, references_to, RunsTest, TestStands, OtherReference, InRegister, InArgument, InLog, InHand, InCell, FindsOthers, yes, put_same, put_other, one_low}, TurnAt.{turn_at, RunOf}, Consists.{Consists, found_is}, Outcomes.reports, Single.rests_hold, Stands.known_ref}

above : (k : ℕ) → (k ≡ 0 → ⊥) → 1 ≤ k
above zero nz = absurd (nz refl)
above (suc k) nz = omega arith

-- ---- what a machine has is of its thread's last turn, or was there before
module _ (code : Code) (s : Shape) (Q : Machine → Type 0) (P : List Turn → ℕ → Type 0) (none : (t : ℕ) → Q ((place_after code s []).threads t) → P [] t)
    (before : (one : Turn) (earlier : List Turn) (t : ℕ) → (t ≡ one.thread → ⊥) → P earlier t → P (one ∷ earlier) t)
    (last : (one : Turn) (earlier : List Turn) → RunOf code s (one ∷ earlier) → (Q ((place_after code s earlier).threads one.thread) → P earlier one.thread)
    → Q (after (turn code s ((place_after code s earlier).threads one.thread)) (result_of one.event)) → P (one ∷ earlier) one.thread) where
  pub by_last_turn : (run : List Turn) → RunOf code s run → (t : ℕ) → Q ((place_after code s run).threads t) → P run t
  by_last_turn [] run t q = none t q
  by_last_turn (one ∷ earlier) run t q =
      let g = place_after code s earlier in
      let now = state_now (one_thread code s) g one in
      ⊎_elim
      (λ (same : t ≡ one.thread). subst (P (one ∷ earlier)) (sym same) (last one earlier run (by_last_turn earlier run.0 one.thread) (subst Q (put_same g.threads one.thread now) (subst (λ u. Q (put g.threads one.thread now u)) same q))))
      (λ (ne : t ≡ one.thread → ⊥). before one earlier t ne (by_last_turn earlier run.0 t (subst Q (put_other g.threads one.thread t now ne) q)))
      (cases_eq t one.thread)

-- ---- sums
some_of : (n : ℕ) (f : ℕ → ℕ) → ((i : ℕ) × (i < n) × (1 ≤ f i)) ⊎ (sum_to n f ≡ 0)
some_of zero f = inr refl
some_of (suc n) f = ⊎_elim
    (λ (z : f n ≡ 0). ⊎_elim
    (λ (k : (i : ℕ) × (i < n) × (1 ≤ f i)). let lt = k.1 in inl (k.0, omega arith, k.2))
    (λ (e : sum_to n f ≡ 0). inr (omega arith))
    (some_of n f))
    (λ (nz : f n ≡ 0 → ⊥). inl (n, omega arith, above (f n) nz))
    (cases_eq (f n) 0)

other_of : (n : ℕ) (f : ℕ → ℕ) (k : ℕ) → ((i : ℕ) × ((i ≡ k → ⊥) × (1 ≤ f i))) ⊎ (sum_to n f ≤ f k)
other_of zero f k = inr (omega arith)
other_of (suc n) f k = ⊎_elim
    (λ (same : n ≡ k). ⊎_elim
    (λ (z : (i : ℕ) × (i < n) × (1 ≤ f i)). let lt = z.1 in inl (z.0, ((λ e. omega arith), z.2)))
    (λ (e : sum_to n f ≡ 0). let q : f n ≡ f k = ap f same in inr (omega arith))
    (some_of n f))
    (λ (ne : n ≡ k → ⊥). ⊎_elim
    (λ (z : f n ≡ 0). ⊎_elim (λ (y : (i : ℕ) × ((i ≡ k → ⊥) × (1 ≤ f i))). inl y) (λ (le : sum_to n f ≤ f k). inr (omega arith)) (other_of n f k))
    (λ (nz : f n ≡ 0 → ⊥). inl (n, (ne, above (f n) nz)))
    (cases_eq (f n) 0))
    (cases_eq n k)

one_is : (a o : ℕ) → 1 ≤ one a o → a ≡ o
one_is a o le = elim (nat_eq a o) as (λ b. nat_eq a o ≡ b → 1 ≤ (if b then 1 else 0) → a ≡ o) [
  | true ↦ λ e z. eqb-true a o e
  | false ↦ λ e z. absurd (omega arith)
] refl le

module _ (x : Targets) (code : Code) (s : Shape) (g : Global Machine) (obj : ℕ → ObjectState) (t k o : ℕ) where
  abbrev Other : Type 0
  Other = OtherReference x code s g obj t k o

  abbrev registers : ℕ → ℕ → ℕ
  registers u i = one (register_refers code g u i) o

  abbrev of_thread : ℕ → ℕ
  of_thread u = sum_to (FRAMES * most_refs code.functions.items) (registers u)

  abbrev of_log : ℕ → ℕ
  of_log u = sum_to (words_of s) (λ word. one (log_refers g u word) o)

  abbrev of_object : ℕ → ℕ
  of_object p = sum_to (2 * granules s) (λ i. one (cell_refers x s g obj p i) o)

  in_registers : 2 ≤ sum_to THREADS of_thread → Other
  in_registers le = ⊎_elim
      (λ (z : (u : ℕ) × ((u ≡ t → ⊥) × (1 ≤ of_thread u))). ⊎_elim
      (λ (y : (i : ℕ) × (i < FRAMES * most_refs code.functions.items) × (1 ≤ registers z.0 i)). InRegister z.0 y.0 (λ e. z.1.0 e.0) (one_is (register_refers code g z.0 y.0) o y.2))
      (λ (e : of_thread z.0 ≡ 0). let q = z.1.1 in absurd (omega arith))
      (some_of (FRAMES * most_refs code.functions.items) (registers z.0)))
      (λ (few : sum_to THREADS of_thread ≤ of_thread t). ⊎_elim
      (λ (y : (i : ℕ) × ((i ≡ k → ⊥) × (1 ≤ registers t i))). InRegister t y.0 (λ e. y.1.0 e.1) (one_is (register_refers code g t y.0) o y.1.1))
      (λ (low : of_thread t ≤ registers t k). let q = one_low (register_refers code g t k) o in absurd (omega arith))
      (other_of (FRAMES * most_refs code.functions.items) (registers t) k))
      (other_of THREADS of_thread t)

  in_cells : 1 ≤ sum_to (granules s) of_object → Other
  in_cells le = ⊎_elim
      (λ (z : (p : ℕ) × (p < granules s) × (1 ≤ of_object p)). ⊎_elim
      (λ (y : (i : ℕ) × (i < 2 * granules s) × (1 ≤ one (cell_refers x s g obj z.0 i) o)). InCell z.0 y.0 (one_is (cell_refers x s g obj z.0 y.0) o y.2))
      (λ (e : of_object z.0 ≡ 0). let q = z.2 in absurd (omega arith))
      (some_of (2 * granules s) (λ i. one (cell_refers x s g obj z.0 i) o)))
      (λ (e : sum_to (granules s) of_object ≡ 0). absurd (omega arith))
      (some_of (granules s) of_object)

  in_logs : 1 ≤ sum_to THREADS of_log → Other
  in_logs le = ⊎_elim
      (λ (z : (u : ℕ) × (u < THREADS) × (1 ≤ of_log u)). ⊎_elim
      (λ (y : (word : ℕ) × (word < words_of s) × (1 ≤ one (log_refers g z.0 word) o)). InLog z.0 y.0 (one_is (log_refers g z.0 y.0) o y.2))
      (λ (e : of_log z.0 ≡ 0). let q = z.2 in absurd (omega arith))
      (some_of (words_of s) (λ word. one (log_refers g z.0 word) o)))
      (λ (e : sum_to THREADS of_log ≡ 0). absurd (omega arith))
      (some_of THREADS of_log)

  another : (r a l h c : ℕ) → r ≡ sum_to THREADS of_thread → a ≡ sum_to THREADS (λ u. one (argument_of code g u) o) → l ≡ sum_to THREADS of_log → h ≡ sum_to THREADS (λ u. one (hand_refers g u) o) → c ≡ sum_to (granules s) of_object
      → 2 ≤ r + (a + (l + (h + c))) → Other
  another r a l h c er ea el eh ec le = ⊎_elim
      (λ (z : (u : ℕ) × (u < THREADS) × (1 ≤ one (argument_of code g u) o)). InArgument z.0 (one_is (argument_of code g z.0) o z.2))
      (λ (na : sum_to THREADS (λ u. one (argument_of code g u) o) ≡ 0). ⊎_elim
      (λ (z : (u : ℕ) × (u < THREADS) × (1 ≤ one (hand_refers g u) o)). InHand z.0 (one_is (hand_refers g z.0) o z.2))
      (λ (nh : sum_to THREADS (λ u. one (hand_refers g u) o) ≡ 0). ⊎_elim
      (λ (z : l ≡ 0). ⊎_elim
      (λ (y : c ≡ 0). let a0 = ea ∙ na in let h0 = eh ∙ nh in in_registers (subst (λ n. 2 ≤ n) er (omega arith)))
      (λ (nz : c ≡ 0 → ⊥). in_cells (subst (λ n. 1 ≤ n) ec (above c nz)))
      (cases_eq c 0))
      (λ (nz : l ≡ 0 → ⊥). in_logs (subst (λ n. 1 ≤ n) el (above l nz)))
      (cases_eq l 0))
      (some_of THREADS (λ u. one (hand_refers g u) o)))
      (some_of THREADS (λ u. one (argument_of code g u) o))

  pub other_reference : 2 ≤ references_to x code s g obj o → Other
  other_reference le = another _ _ _ _ _ refl refl refl refl refl le

-- ---- runs
pub record Halting (code : Code) (s : Shape) (run : List Turn) : Type 0 where
  pub halts : (u : ℕ) → is_some ((place_after code s run).threads u).own.stop ≡ true → may_go ((place_after code s run).threads u).at.state ≡ false

pub stop_none : (o : Option Stop) → (is_some o ≡ true → ⊥) → o ≡ None
stop_none None h = refl
stop_none (Some w) h = absurd (h refl)

module _ (outs : TurnsComeOut) (tests : RunsTest) (x : Targets) (code : Code) (s : Shape) (ls : Labels) (wt : IsWellTyped x code ls) (fits : Fits code s) (few : IsSmall code s)
    (all : (run : List Turn) → IsRun bounds (one_thread code s) (opening_of bounds (one_thread code s) (opening_words code s)) run → Halting code s run)
    (each : (run : List Turn) → IsRun bounds (one_thread code s) (opening_of bounds (one_thread code s) (opening_words code s)) run → Consists x code s ls run) where
  -- the turn that stopped the thread
  module _ (one : Turn) (earlier : List Turn) (run : RunOf code s (one ∷ earlier)) (site count : ℕ) (is : (after (turn code s ((place_after code s earlier).threads one.thread)) (result_of one.event)).own.stop ≡ Some (NotSole site count)) where
    open turn_at code s (place_after code s earlier) one use {g, m}

    may : MayTurn bounds (one_thread code s) (place_after code s earlier) one
    may = run.1

    fresh : ((place_after code s earlier).threads one.thread).own.stop ≡ None
    fresh = stop_none m.own.stop (λ z. yes (sym may.next.runs ∙ (all earlier run.0).halts one.thread z))

    stop : MayStop s (instr_at code ((place_after code s earlier).threads one.thread).at.pc) ((place_after code s earlier).threads one.thread) (result_of one.event) (NotSole site count)
    stop = (reports s (instr_at code m.at.pc) (result_of one.event) m _ (outs code s (instr_at code m.at.pc) m (result_of one.event)) (NotSole site count) refl fresh is).0

    stands : TestStands (result_of one.event)
        (references_to x code s (place_after code s earlier) (objects_after code s ls (first_place code s) (first_world x).obj earlier) (ref ((place_after code s earlier).threads one.thread) stop.0))
        (may_go ((after_turn bounds (one_thread code s) (place_after code s earlier) one).threads one.thread).at.state)
    stands = tests x code s ls wt fits few earlier one run stop.0 site stop.1

    stopped_now : may_go ((after_turn bounds (one_thread code s) (place_after code s earlier) one).threads one.thread).at.state ≡ false
    stopped_now = (all (one ∷ earlier) run).halts one.thread (ap (λ (y : Machine). is_some y.own.stop) (put_same g.threads one.thread (state_now (one_thread code s) g one)) ∙ ap (λ (o : Option Stop). is_some o) is)

    word_is : slice_index (place_after code s earlier).words (count_word s (ref ((place_after code s earlier).threads one.thread) stop.0)) ≡ count
    word_is =
        let asked : asked_by (turn code s m) ≡ Some (test_of (count_word s (ref m stop.0))) = ap (λ j. asked_by (act code s j m)) stop.1 in
        sym (found_is g.words one.event (test_of (count_word s (ref m stop.0))) (may.next.asks ∙ asked) may.answered) ∙ stop.2

    -- its register is known not to be NULL
    some : 0 < ref ((place_after code s earlier).threads one.thread) stop.0
    some =
        let h = each earlier run.0 in
        let rn = (h.state.threads one.thread).runs may.started may.next.runs in
        let test = Instr.TestSole stop.0 site in
        let stands = subst (λ i. StageStands code s h.state.elements h.world h.state.heap g.words one.thread m i m.own.stage) stop.1 rn.stage in
        let hold = rests_hold code s h.state.elements h.world h.state.heap g.words one.thread m test m.own.stage refl stands in
        let fine = subst (Fine x code ls m.at.pc (ls.at m.at.pc)) stop.1 (wt.fine m.at.pc) in
        above (ref m stop.0) (known_ref x code s ls wt fits g h.world h.state one.thread (may.started, may.next.runs) hold stop.0 fine.2)
      where
        above : (k : ℕ) → (k ≡ 0 → ⊥) → 0 < k
        above zero nz = absurd (nz refl)
        above (suc k) nz = omega arith

    pub finds_others : FindsOthers x code s ls (one ∷ earlier) one.thread site count
    finds_others =
        let obj = objects_after code s ls (first_place code s) (first_world x).obj earlier in
        let two : 2 ≤ references_to x code s g obj (ref m stop.0) = stands.refused stopped_now in
        let number : count ≡ references_to x code s g obj (ref m stop.0) = sym stop.2 ∙ stands.number in
        record {
          later = [];
          test = one;
          earlier = earlier;
          parts = refl;
          thread = refl;
          register = stop.0;
          is_test = stop.1;
          some = some;
          counts = record {
            word = word_is;
            number = number;
            some = subst (λ n. 2 ≤ n) (sym number) two;
            other = other_reference x code s g obj one.thread (m.at.refs + stop.0) (ref m stop.0) two;
          };
        }

  further : (one : Turn) (earlier : List Turn) (t site count : ℕ) → FindsOthers x code s ls earlier t site count → FindsOthers x code s ls (one ∷ earlier) t site count
  further one earlier t site count k = record {
    later = one ∷ k.later;
    test = k.test;
    earlier = k.earlier;
    parts = ap (λ (l : List Turn). one ∷ l) k.parts;
    thread = k.thread;
    register = k.register;
    is_test = k.is_test;
    some = k.some;
    counts = k.counts;
  }

  pub casts_show : (run : List Turn) → RunOf code s run → (t site count : ℕ) → ((place_after code s run).threads t).own.stop ≡ Some (NotSole site count) → FindsOthers x code s ls run t site count
  casts_show run is_run t site count = by_last_turn code s (λ y. y.own.stop ≡ Some (NotSole site count)) (λ run t. FindsOthers x code s ls run t site count) (λ t is. absurd (let f : None ≡ Some (NotSole site count) = is in cc))
      (λ one earlier t _ k. further one earlier t site count k) (λ one earlier run _ is. finds_others one earlier run site count is) run is_run t
