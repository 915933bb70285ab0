-- Turns that ask the words nothing: the thread's place and one of its integers change, and what is known there.
use Rattle.sharc_invariant.proofs.{Imports.{◌≡◌, ℕ, ℤ, suc, ◌+◌, ◌<◌, ◌≤◌, ◌≢◌, Bool, true, false, cond, not, Result, Ok, Err, refl, sym, ap, ◌∙◌, subst, ⊎_elim, arith, eqb-true, nat_tests, neg_ℤ, length, nat_lt, ◌==◌, Code, Cell, Width, Char, Int, Long, Instr, Shape, Stop, Trap as Trapped, holds, in_range, negated, truth, is_zero, Machine, Local, instr_at, int, ref, goes, goes_to, set_int, with_result, asserts, stopped, is_held, word, turn, counted, Turn, Global, put, MayTurn, one_thread, bounds, put_same, put_other, put_all, Targets, ObjectType, Element, Named, Nth, IsNamed, HasName, Fresh, Number, Anything, Within, Exactly, Indexes, OfElement, OfGlobal, empty, Closed, Label, Labels, Less, Leads, set_number, knows, IsWellTyped, Numbers, World, RegisterOf, in_ref, made_turn, State, View, view_of, NumberStands, ElementStands, TopStands, refs_at, types_at, Turned, fun_ext}, TurnAt.turn_at, Frames.{empty_stands, filled}, Quiet.put_self, Turns.{local_turn, room_of, unseen}, Own.{is_single, runs, rests, top, fine}, Plain.{register_plain, is_shut, jump_state, stop_state, numbers_state}}
use Rattle.sharc_tree.specs.declared.trap.Trap.{Trap}

-- the gate of a label that a check leaves open
pub knows_top : (x : Targets) (t : ℕ) (v : View) (base ints : ℕ) (names : ℕ → ℤ) (l : Label) (r : ℕ) → refs_at v base r ≢ 0 → TopStands x t v base ints names l → TopStands x t v base ints names (knows l r)
knows_top x t v base ints names l r ne tp n k = let h = tp n k in record {
  env = h.env;
  same = h.same;
  numbers = h.numbers;
  passed = h.passed;
  known = λ q lt. put_all (λ q (b : Bool). b ≡ true → refs_at v base q ≢ 0) l.known r true (λ _. ne) (λ q _. (tp (suc q) 0).known q (omega arith)) q;
}

pub number_stands : (x : Targets) (t : ℕ) (v : View) (base ints : ℕ) (names : ℕ → ℤ) (l : Label) (r : ℕ) (n : Number) → NumberStands x v.elements (refs_at v base) (types_at v base) names (v.vals (ints + r)) n
    → TopStands x t v base ints names l → TopStands x t v base ints names (set_number l r n)
number_stands x t v base ints names l r n e tp a b = let h = tp a b in record {
  env = h.env;
  same = h.same;
  known = h.known;
  passed = h.passed;
  numbers = λ j lt. put_all (λ j (y : Number). NumberStands x v.elements (refs_at v base) (types_at v base) names (v.vals (ints + j)) y) l.ints r n e (λ j _. (tp 0 (suc j)).numbers j (omega arith)) j;
}

-- a new name for the value of a register
element_named : (names : ℕ → ℤ) (name : ℕ) (z : ℤ) (n : ℕ) (e : Element) → (IsNamed e name → ⊥) → ElementStands names n e → ElementStands (put names name z) n e
element_named names name z n (Named k) ne h = put_other names name k z (λ q. ne q) ∙ h
element_named names name z n (Nth k) ne h = h

pub number_named : (x : Targets) (elements refs : ℕ → ℕ) (types : ℕ → ObjectType) (names : ℕ → ℤ) (name : ℕ) (z v : ℤ) (n : Number) → (HasName n name → ⊥) → NumberStands x elements refs types names v n → NumberStands x elements refs types (put names name z) v n
number_named x elements refs types names name z v Anything ne h = tt
number_named x elements refs types names name z v (Indexes k) ne h = h ∙ sym (put_other names name k z (λ q. ne q))
number_named x elements refs types names name z v (OfElement b field e) ne h = (h.0, h.1, h.2, element_named names name z h.0 e ne h.3)
number_named x elements refs types names name z v (OfGlobal first count all e) ne h = (h.0, h.1, h.2, element_named names name z h.0 e ne h.3)
number_named x elements refs types names name z v _ ne h = h

named_top : (x : Targets) (t : ℕ) (v : View) (base ints : ℕ) (names : ℕ → ℤ) (l : Label) (from name : ℕ) → Fresh l name → TopStands x t v base ints names l
    → TopStands x t v base ints (put names name (v.vals (ints + from))) (record l { ints = put l.ints from (Indexes name) })
named_top x t v base ints names l from name fresh tp n k = let h = tp n k in record {
  env = h.env;
  same = h.same;
  known = h.known;
  passed = h.passed;
  numbers = λ j lt. put_all (λ j (y : Number). NumberStands x v.elements (refs_at v base) (types_at v base) (put names name (v.vals (ints + from))) (v.vals (ints + j)) y) l.ints from (Indexes name)
      (sym (put_same names name (v.vals (ints + from))))
      (λ j _. number_named x v.elements (refs_at v base) (types_at v base) names name (v.vals (ints + from)) (v.vals (ints + j)) (l.ints j) (fresh j) ((tp 0 (suc j)).numbers j (omega arith))) j;
}

abbrev in_result : Bool → ℤ → Result ℤ Trap
in_result b z = cond b (Ok z) (Err Trap.OutOfRange)

ok_value : (z v : ℤ) → in_result true z ≡ Ok v → z ≡ v
ok_value z v e = ap (value_in z) e
  where
    value_in : ℤ → Result ℤ Trap → ℤ
    value_in z (Ok y) = y
    value_in z (Err c) = z

in_range_ok : (w : Width) (z v : ℤ) → in_range w z ≡ Ok v → holds w v ≡ true
in_range_ok w z v = in_cases (holds w z) refl
  where
    in_cases : (b : Bool) → holds w z ≡ b → in_result b z ≡ Ok v → holds w v ≡ true
    in_cases true h e = let q : z ≡ v = ok_value z v e in ap (holds w) (sym q) ∙ h
    in_cases false h e = let q : in_result false z ≡ Ok v = e in cc

truth_char : (b : Bool) → holds Char (truth b) ≡ true
truth_char true = refl
truth_char false = refl

module _ (x : Targets) (code : Code) (s : Shape) (ls : Labels) (wt : IsWellTyped x code ls) (g : Global Machine) (world : World) (st : State x code s ls g world) (tr : Turn)
    (may : MayTurn bounds (one_thread code s) g tr) (i : Instr) (is : instr_at code (g.threads tr.thread).at.pc ≡ i) (single : is_single i ≡ true) where
  open turn_at st tr use {t, m, here, view}

  abbrev After : Type 0
  After = Turned x code s ls g world tr

  abbrev names : ℕ → ℤ
  names = (runs x code s ls wt g world st tr.thread may.started may.next.runs i is single).names

  pub top_here : TopStands x tr.thread view (g.threads tr.thread).at.refs (g.threads tr.thread).at.ints names here
  top_here = top x code s ls wt g world st t may.started may.next.runs i is single

  pub reads : (r : ℕ) → ref (g.threads tr.thread) r ≡ in_ref world (RegisterOf tr.thread ((g.threads tr.thread).at.refs + r))
  reads r = sym (st.sim.regs t (m.at.refs + r) ∙ register_plain code m (rests x code s ls wt g world st t may.started may.next.runs i is single) (m.at.refs + r))

  local : (m' : Machine) → turn code s m ≡ Local m' → State x code s ls (made_turn g tr.thread g.words m') world → After
  local m' e k = unseen x code s ls g world tr _ (local_turn code s g tr may m' e) k

  room_at : (m' : Machine) → turn code s m ≡ Local m' → g.made tr.thread + counted m'.at.state ≤ 100000000
  room_at m' e = room_of code s g tr may g.words m' (local_turn code s g tr may m' e)

  pub stops : (why : Stop) → turn code s m ≡ Local (stopped m why) → here.gate ≡ Closed → After
  stops why e gt = local (stopped m why) e (stop_state x code s ls wt g world st t may.started may.next.runs i is single why (is_shut x code s ls wt g world st t may.started may.next.runs i is single gt) (room_at (stopped m why) e))

  pub jumps : (pc : ℕ) (k : Label) → turn code s m ≡ Local (goes_to m pc) → here.gate ≡ Closed → Less k (ls.at pc) → k.function ≡ here.function → k.gate ≡ Closed → (k.room ≡ true → length m.own.held < 16)
      → TopStands x tr.thread view (g.threads tr.thread).at.refs (g.threads tr.thread).at.ints names k → After
  jumps pc k e gt less fn kg room tp = local (goes_to m pc) e (jump_state x code s ls wt g world st t may.started may.next.runs i is single pc k gt less fn kg room tp (room_at (goes_to m pc) e))

  pub room_here : here.room ≡ true → length m.own.held < 16
  room_here = (runs x code s ls wt g world st t may.started may.next.runs i is single).room

  -- to a place of which no more is known
  pub leads : (pc : ℕ) → turn code s m ≡ Local (goes_to m pc) → here.gate ≡ Closed → Leads ls pc here → After
  leads pc e gt less = jumps pc here e gt less refl gt room_here top_here

  pub numbers : (r : ℕ) (z : ℤ) (n : Number) → turn code s m ≡ Local (goes (set_int m r z)) → Numbers code ls here m.at.pc r n
      → NumberStands x st.elements (refs_at view (g.threads tr.thread).at.refs) (types_at view (g.threads tr.thread).at.refs) names z n → After
  numbers r z n e f k = local (goes (set_int m r z)) e (numbers_state x code s ls wt g world st t may.started may.next.runs i is single r z n here names refl refl f.0 f.1 top_here k f.2 (room_at (goes (set_int m r z)) e))

  pub results : (r : ℕ) (site : ℕ) (z : Result ℤ Trap) (n : Number) → turn code s m ≡ Local (with_result m r site z) → Numbers code ls here m.at.pc r n
      → ((v : ℤ) → z ≡ Ok v → NumberStands x st.elements (refs_at view (g.threads tr.thread).at.refs) (types_at view (g.threads tr.thread).at.refs) names v n) → After
  results r site (Ok v) n e f k = numbers r v n e f (k v refl)
  results r site (Err c) n e f k = stops (Trapped c site) e f.0

  pub asserted : (b : Bool) (c : Trap) (site : ℕ) → turn code s m ≡ Local (asserts m b c site) → here.gate ≡ Closed → (b ≡ true → turn code s m ≡ Local (goes m) → After) → After
  asserted true c site e gt k = k refl e
  asserted false c site e gt k = stops (Trapped c site) e gt

  pub of_turn : (y : Rattle.sharc_code.specs.Machine.Turn) → Rattle.sharc_code.specs.Machine.act code s i (g.threads tr.thread) ≡ y → turn code s (g.threads tr.thread) ≡ y
  of_turn y e = ap (λ i. Rattle.sharc_code.specs.Machine.act code s i m) is ∙ e

module _ (x : Targets) (code : Code) (s : Shape) (ls : Labels) (wt : IsWellTyped x code ls) (g : Global Machine) (world : World) (st : State x code s ls g world) (tr : Turn) (may : MayTurn bounds (one_thread code s) g tr) where
  open turn_at st tr use {here as l, m as mm}

  abbrev pc : ℕ
  pc = (g.threads tr.thread).at.pc

  abbrev Done : Type 0
  Done = Turned x code s ls g world tr

  pub Constant_keeps : (r : ℕ) (v : ℤ) → instr_at code pc ≡ Instr.Constant r v → Done
  Constant_keeps r v is = let i = Instr.Constant r v in
      numbers x code s ls wt g world st tr may i is refl r v (Exactly v) (of_turn x code s ls wt g world st tr may i is refl _ refl) (fine x code s ls wt g world st tr.thread may.started may.next.runs i is refl) refl

  pub Negate_int_keeps : (r a site : ℕ) → instr_at code pc ≡ Instr.NegateInt r a site → Done
  Negate_int_keeps r a site is = let i = Instr.NegateInt r a site in
      results x code s ls wt g world st tr may i is refl r site (negated Int (int mm a)) (Within Int) (of_turn x code s ls wt g world st tr may i is refl _ refl) (fine x code s ls wt g world st tr.thread may.started may.next.runs i is refl) (in_range_ok Int (neg_ℤ (int mm a)))

  pub Negate_long_keeps : (r a site : ℕ) → instr_at code pc ≡ Instr.NegateLong r a site → Done
  Negate_long_keeps r a site is = let i = Instr.NegateLong r a site in
      results x code s ls wt g world st tr may i is refl r site (negated Long (int mm a)) (Within Long) (of_turn x code s ls wt g world st tr may i is refl _ refl) (fine x code s ls wt g world st tr.thread may.started may.next.runs i is refl) (in_range_ok Long (neg_ℤ (int mm a)))

  pub Not_keeps : (r a : ℕ) → instr_at code pc ≡ Instr.Not r a → Done
  Not_keeps r a is = let i = Instr.Not r a in
      numbers x code s ls wt g world st tr may i is refl r (truth (is_zero (int mm a))) (Within Char) (of_turn x code s ls wt g world st tr may i is refl _ refl) (fine x code s ls wt g world st tr.thread may.started may.next.runs i is refl) (truth_char (is_zero (int mm a)))

  pub Same_keeps : (r a b : ℕ) → instr_at code pc ≡ Instr.SameReference r a b → Done
  Same_keeps r a b is = let i = Instr.SameReference r a b in
      numbers x code s ls wt g world st tr may i is refl r (truth (ref mm a == ref mm b)) (Within Char) (of_turn x code s ls wt g world st tr may i is refl _ refl) (fine x code s ls wt g world st tr.thread may.started may.next.runs i is refl) (truth_char (ref mm a == ref mm b))

  pub Jump_keeps : (to : ℕ) → instr_at code pc ≡ Instr.Jump to → Done
  Jump_keeps to is = let i = Instr.Jump to in let f = fine x code s ls wt g world st tr.thread may.started may.next.runs i is refl in
      leads x code s ls wt g world st tr may i is refl to (of_turn x code s ls wt g world st tr may i is refl _ refl) f.0 f.1

  pub Jump_zero_keeps : (r to : ℕ) → instr_at code pc ≡ Instr.JumpIfZero r to → Done
  Jump_zero_keeps r to is = let i = Instr.JumpIfZero r to in let f = fine x code s ls wt g world st tr.thread may.started may.next.runs i is refl in
      elim (is_zero (int mm r)) as (λ b. turn code s mm ≡ Local (cond b (goes_to mm to) (goes mm)) → Done) [
        | true ↦ λ e. leads x code s ls wt g world st tr may i is refl to e f.0 f.1
        | false ↦ λ e. leads x code s ls wt g world st tr may i is refl (pc + 1) e f.0 f.2
      ] (of_turn x code s ls wt g world st tr may i is refl _ refl)

  pub Positive_keeps : (r site : ℕ) → instr_at code pc ≡ Instr.ChkPositive r site → Done
  Positive_keeps r site is = let i = Instr.ChkPositive r site in let f = fine x code s ls wt g world st tr.thread may.started may.next.runs i is refl in
      asserted x code s ls wt g world st tr may i is refl (Rattle.sharc_code.specs.Machine.is_positive (int mm r)) Trap.SizeNotPositive site (of_turn x code s ls wt g world st tr may i is refl _ refl) f.0
      (λ _ e. leads x code s ls wt g world st tr may i is refl (pc + 1) e f.0 f.1)

  pub Not_held_keeps : (c : Cell) (site : ℕ) → instr_at code pc ≡ Instr.ChkNotHeld c site → Done
  Not_held_keeps c site is = let i = Instr.ChkNotHeld c site in let f = fine x code s ls wt g world st tr.thread may.started may.next.runs i is refl in
      asserted x code s ls wt g world st tr may i is refl (not (is_held mm (word s mm c))) Trap.MutexAlreadyHeld site (of_turn x code s ls wt g world st tr may i is refl _ refl) f.0
      (λ _ e. leads x code s ls wt g world st tr may i is refl (pc + 1) e f.0 f.2)

  pub Room_keeps : (site : ℕ) → instr_at code pc ≡ Instr.ChkRoom site → Done
  Room_keeps site is = let i = Instr.ChkRoom site in let f = fine x code s ls wt g world st tr.thread may.started may.next.runs i is refl in
      asserted x code s ls wt g world st tr may i is refl (nat_lt (length mm.own.held) 16) Trap.TooManyLocks site (of_turn x code s ls wt g world st tr may i is refl _ refl) f.0
      (λ lt e. jumps x code s ls wt g world st tr may i is refl (pc + 1) (record l { room = true }) e f.0 f.1 refl f.0 (λ _. grind (arith, nat_tests))
      (λ n k. let h = top_here x code s ls wt g world st tr may i is refl n k in record { env = h.env; same = h.same; known = h.known; numbers = h.numbers; passed = h.passed }))

  pub Null_check_keeps : (r site : ℕ) → instr_at code pc ≡ Instr.ChkNull r site → Done
  Null_check_keeps r site is = let i = Instr.ChkNull r site in let f = fine x code s ls wt g world st tr.thread may.started may.next.runs i is refl in
      asserted x code s ls wt g world st tr may i is refl (not (ref mm r == 0)) Trap.NullPointer site (of_turn x code s ls wt g world st tr may i is refl _ refl) f.0
      (λ b e. jumps x code s ls wt g world st tr may i is refl (pc + 1) (knows l r) e f.0 f.1 refl f.0 (room_here x code s ls wt g world st tr may i is refl)
      (knows_top x tr.thread (view_of st.elements world tr.thread mm) mm.at.refs mm.at.ints (names x code s ls wt g world st tr may i is refl) l r
      (λ z. let q : ref mm r ≡ 0 = reads x code s ls wt g world st tr may i is refl r ∙ z in let k : not (ref mm r == 0) ≡ false = ap (λ n. not (n == 0)) q in cc)
      (top_here x code s ls wt g world st tr may i is refl)))

  pub Width_keeps : (w : Width) (r site : ℕ) → instr_at code pc ≡ Instr.ChkWidth w r site → Done
  Width_keeps w r site is = let i = Instr.ChkWidth w r site in let f = fine x code s ls wt g world st tr.thread may.started may.next.runs i is refl in
      let gt : l.gate ≡ Closed = ⊎_elim (λ p. p.0) (λ n. n.0) f in
      asserted x code s ls wt g world st tr may i is refl (holds w (int mm r)) Trap.OutOfRange site (of_turn x code s ls wt g world st tr may i is refl _ refl) gt
      (λ b e. ⊎_elim
      (λ p. leads x code s ls wt g world st tr may i is refl (pc + 1) e gt p.1)
      (λ n. jumps x code s ls wt g world st tr may i is refl (pc + 1) (set_number l r (Within w)) e gt n.2 refl refl (room_here x code s ls wt g world st tr may i is refl)
      (number_stands x tr.thread (view_of st.elements world tr.thread mm) mm.at.refs mm.at.ints (names x code s ls wt g world st tr may i is refl) l r (Within w) b (top_here x code s ls wt g world st tr may i is refl)))
      f)

  pub Jump_null_keeps : (r to : ℕ) → instr_at code pc ≡ Instr.JumpIfNull r to → Done
  Jump_null_keeps r to is = let i = Instr.JumpIfNull r to in let f = fine x code s ls wt g world st tr.thread may.started may.next.runs i is refl in
      let view = view_of st.elements world tr.thread mm in
      let here_top = top_here x code s ls wt g world st tr may i is refl in
      let names' = names x code s ls wt g world st tr may i is refl in
      let is_ref = reads x code s ls wt g world st tr may i is refl r in
      let room' = room_here x code s ls wt g world st tr may i is refl in
      elim (ref mm r == 0) as (λ b. (ref mm r == 0) ≡ b → turn code s mm ≡ Local (cond b (goes_to mm to) (goes mm)) → Done) [
        | true ↦ λ b e. ⊎_elim
            (λ k. leads x code s ls wt g world st tr may i is refl to e f.0 k)
            (λ k.
            let z : view.refs (mm.at.refs + r) ≡ 0 = sym is_ref ∙ (let q = eqb-true (ref mm r) 0 b in q) in
            let same : filled view (mm.at.refs + r) 0 (types_at view mm.at.refs r) ≡ view =
            let c = fun_ext (put_self view.types (mm.at.refs + r) (types_at view mm.at.refs r) refl) in
            λ j. record view { refs = (fun_ext (put_self view.refs (mm.at.refs + r) 0 (sym z))) j; types = c j } in
            jumps x code s ls wt g world st tr may i is refl to (empty l r) e f.0 k.1 refl refl room'
            (subst (λ v. TopStands x tr.thread v mm.at.refs mm.at.ints names' (empty l r)) same
            (empty_stands x tr.thread view mm.at.refs mm.at.ints names' l r (types_at view mm.at.refs r) k.0.paths here_top)))
            f.1
        | false ↦ λ b e. jumps x code s ls wt g world st tr may i is refl (pc + 1) (knows l r) e f.0 f.2 refl f.0 room'
            (knows_top x tr.thread view mm.at.refs mm.at.ints names' l r (λ z. let q : ref mm r ≡ 0 = is_ref ∙ z in let k : (ref mm r == 0) ≡ true = ap (λ n. n == 0) q in cc) here_top)
      ] refl (of_turn x code s ls wt g world st tr may i is refl _ refl)

  -- an integer comes from another register
  pub Move_keeps : (r from : ℕ) → instr_at code pc ≡ Instr.Move r from → Done
  Move_keeps r from is = let i = Instr.Move r from in let f = fine x code s ls wt g world st tr.thread may.started may.next.runs i is refl in
      let view = view_of st.elements world tr.thread mm in
      let here_top = top_here x code s ls wt g world st tr may i is refl in
      let names' = names x code s ls wt g world st tr may i is refl in
      let e = of_turn x code s ls wt g world st tr may i is refl _ refl in
      let z = int mm from in
      let m' = goes (set_int mm r z) in
      let room' = room_at x code s ls wt g world st tr may i is refl m' e in
      ⊎_elim
      (λ n. numbers x code s ls wt g world st tr may i is refl r z (l.ints from) e n ((here_top 0 (suc from)).numbers from (omega arith)))
      (λ k.
      let name = k.0 in
      let l' = record l { ints = put l.ints from (Indexes name) } in
      let names2 = put names' name z in
      local x code s ls wt g world st tr may i is refl m' e
      (numbers_state x code s ls wt g world st tr.thread may.started may.next.runs i is refl r z (Indexes name) l' names2 refl refl k.3.0 k.3.1
      (named_top x tr.thread view mm.at.refs mm.at.ints names' l from name k.1 here_top) (sym (put_same names' name z)) k.3.2 room'))
      f
