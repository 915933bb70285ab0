-- A return keeps the invariant: what the callee gives back comes to stand in the caller's frame.
use Rattle.sharc_invariant.proofs.{Imports.{◌≡◌, ℕ, ℤ, zero, suc, ◌+◌, ◌-◌, ◌<◌, ◌≤◌, ◌≢◌, true, false, cond, ◌&&◌, not, List, [], ◌∷◌, Some, None, refl, sym, ap, ◌∙◌, subst, ⊎_elim, arith, cases_eq, cases_order, nat_tests, length, nat_lt, slice_index_or, ◌==◌, FRAMES, Code, Instr, Shape, Frame, Trap, Fits, Machine, Local, instr_at, back_to, goes_to, holds_none, stopped, no_frame, turn, counted, Turn, Global, MayTurn, one_thread, bounds, Targets, ObjectType, type_of, Entry, Empty, Refers, Unknown, Named, HasName, HasBase, Number, Anything, Indexes, OfElement, OfGlobal, Closed, IsIn, Label, Labels, Leads, EntryMentions, IsWellTyped, Fine, IsPlain, called_label, below, below_copy, below_number, World, Shut, made_turn, State, View, frame_at, EntryStands, NumberStands, FrameStands, TopStands, BelowStands, FramesStand, GateStands, refs_at, types_at, Turned, ne_eq}, TurnAt.turn_at, Frames.{type_kept, less_entry, less_number, number_kept, less_stands}, Quiet.heap_now, Turns.{local_turn, room_of, unseen}, Own.{runs, rests, top, fine, closed_less, runs_at}, Plain.{is_shut, plain_state, stop_state, keeps_own}, Calls.number_below}
use Rattle.sharc_tree.specs.declared.trap.Trap.TheVariants as traps
use Rattle.sharc_invariant.specs.Typed.{Returns}

below_here : {A : Type 0} (k : ℕ) (f : ℕ → A) (a b : A) (r : ℕ) → r ≡ k → below k f a b r ≡ a
below_here k f a b r e = let e1 : nat_lt r k ≡ false = grind (arith, nat_tests) in let e2 : (r == k) ≡ true = grind (arith, nat_tests) in ap (λ x. cond x (f r) (cond (r == k) a b)) e1 ∙ ap (λ x. cond x a b) e2

below_above : {A : Type 0} (k : ℕ) (f : ℕ → A) (a b : A) (r : ℕ) → k < r → below k f a b r ≡ b
below_above k f a b r lt = let e1 : nat_lt r k ≡ false = grind (arith, nat_tests) in let e2 : (r == k) ≡ false = ne_eq r k (λ e. omega arith) in ap (λ x. cond x (f r) (cond (r == k) a b)) e1 ∙ ap (λ x. cond x a b) e2

-- a number without a name
number_names : (x : Targets) (elements refs : ℕ → ℕ) (types : ℕ → ObjectType) (f g : ℕ → ℤ) (z : ℤ) (n : Number) → ((name : ℕ) → HasName n name → ⊥) → NumberStands x elements refs types f z n → NumberStands x elements refs types g z n
number_names x elements refs types f g z (Indexes m) none h = absurd (none m refl)
number_names x elements refs types f g z (OfElement b d (Named m)) none h = absurd (none m refl)
number_names x elements refs types f g z (OfGlobal a b c (Named m)) none h = absurd (none m refl)
number_names x elements refs types f g z _ none h = h

module _ (x : Targets) (t : ℕ) (v : View) (base ints : ℕ) (names names' : ℕ → ℤ) (ls : Labels) (l lc : Label) (f first k : ℕ) (frame : FrameStands x t v base ints names (called_label ls l f first k) k first)
    (tp : TopStands x t v (base + k) (ints + first) names' lc) (ret : Returns ls lc f) (plain : IsPlain (ls.signature f)) where
  abbrev refs : ℕ → ℕ
  refs = refs_at v base

  abbrev refs' : ℕ → ℕ
  refs' = refs_at v (base + k)

  alls : (r : ℕ) → refs' (lc.same r) ≡ refs' r
  alls r = (tp (suc r) 0).same r (omega arith)

  result_entry : (e : Entry) → ((q : ℕ) → EntryMentions e q → ⊥) → EntryStands refs' (types_at v (base + k)) 0 e → EntryStands refs (types_at v base) k e
  result_entry Empty none h = ap v.refs (omega arith) ∙ h
  result_entry Unknown none h = tt
  result_entry (Refers ty) none h = λ nz.
      let er : refs k ≡ refs' 0 = ap v.refs (omega arith) in
      ap v.types (omega arith) ∙ h (λ z. nz (er ∙ z)) ∙ ap (λ o. type_of refs' o ty) (sym er) ∙ type_kept refs' refs (refs k) ty (λ q m. absurd (none q m))

  -- the caller's frame, with what the callee gives back
  returned_top : TopStands x t v base ints names (called_label ls l f first k)
  returned_top n m = record {
    env = λ r _.
        let P : Entry → Type 0 = EntryStands refs (types_at v base) r in
        ⊎_elim
        (λ (e : r ≡ k). subst P (sym (below_here k l.env (ls.signature f).result Empty r e)) (subst (λ r. EntryStands refs (types_at v base) r (ls.signature f).result) (sym e)
        (result_entry (ls.signature f).result plain.result (less_entry lc refs' (types_at v (base + k)) alls 0 (lc.env 0) (ls.signature f).result ret.result ((tp 1 0).env 0 (omega arith))))))
        (⊎_elim
        (λ (lt : r < k). frame.env r lt)
        (λ (gt : k < r). subst P (sym (below_above k l.env (ls.signature f).result Empty r gt))
        (let q = subst (EntryStands refs' (types_at v (base + k)) (r - k)) (ret.empty (r - k) (λ z. omega arith)) ((tp (suc (r - k)) 0).env (r - k) (omega arith)) in
        let i : base + r ≡ base + k + (r - k) = omega arith in ap v.refs i ∙ q)))
        (cases_order r k);
    same = λ r _. elim (nat_lt r k) as (λ b. nat_lt r k ≡ b → refs (cond (b && nat_lt (l.same r) k) (l.same r) r) ≡ refs r) [
      | true ↦ λ b. let lt : r < k = grind (arith, nat_tests) in
          elim (nat_lt (l.same r) k) as (λ c. refs (below_copy k l.same r) ≡ refs r → nat_lt (l.same r) k ≡ c → refs (cond c (l.same r) r) ≡ refs r) [
            | true ↦ λ h c. subst (λ n. refs n ≡ refs r) (ap (λ a. cond (a && nat_lt (l.same r) k) (l.same r) r) b ∙ ap (λ c. cond c (l.same r) r) c) h
            | false ↦ λ h c. refl
          ] (frame.same r lt) refl
      | false ↦ λ b. refl
    ] refl;
    known = λ r _ e. elim (nat_lt r k) as (λ b. nat_lt r k ≡ b → refs r ≢ 0) [
      | true ↦ λ b. let lt : r < k = grind (arith, nat_tests) in frame.known r lt e
      | false ↦ λ b. ⊎_elim
          (λ (q : r ≡ k). let z : false ≡ true = sym (below_here k l.known false false r q) ∙ e in absurd (cc))
          (⊎_elim (λ (lt : r < k). absurd (let z : nat_lt r k ≡ true = grind (arith, nat_tests) in let y : false ≡ true = sym b ∙ z in cc))
          (λ (gt : k < r). let z : false ≡ true = sym (below_above k l.known false false r gt) ∙ e in absurd (cc)))
          (cases_order r k)
    ] refl;
    numbers = λ i _.
        let N : Number → Type 0 = NumberStands x v.elements refs (types_at v base) names (v.vals (ints + i)) in
        ⊎_elim
        (λ (e : i ≡ first).
        let a = less_number x v.elements refs' (types_at v (base + k)) names' (v.vals (ints + first + 0)) (lc.ints 0) (ls.signature f).result_int ret.result_int ((tp 0 1).numbers 0 (omega arith)) in
        let b = number_kept x v.elements v.elements refs' refs (types_at v (base + k)) (types_at v base) names' (v.vals (ints + first + 0)) (ls.signature f).result_int
        (λ b field d q. absurd (plain.result_base b (subst (λ y. HasBase y b) (sym q) refl))) a in
        let c = number_names x v.elements refs (types_at v base) names' names (v.vals (ints + first + 0)) (ls.signature f).result_int plain.result_name b in
        let d = subst (λ z. NumberStands x v.elements refs (types_at v base) names z (ls.signature f).result_int) (let q : ints + first + 0 ≡ ints + i = omega arith in ap v.vals q) c in
        subst (λ y. N (below_number k y)) (sym (below_here first l.ints (ls.signature f).result_int Anything i e)) (number_below x v.elements refs (types_at v base) names (v.vals (ints + i)) k (ls.signature f).result_int d))
        (⊎_elim
        (λ (lt : i < first). frame.numbers i lt)
        (λ (gt : first < i). subst (λ y. N (below_number k y)) (sym (below_above first l.ints (ls.signature f).result_int Anything i gt)) tt))
        (cases_order i first);
    passed = frame.passed;
  }

module _ (x : Targets) (code : Code) (s : Shape) (ls : Labels) (wt : IsWellTyped x code ls) (fits : Fits code s) (g : Global Machine) (world : World) (st : State x code s ls g world) (tr : Turn)
    (may : MayTurn bounds (one_thread code s) g tr) (site : ℕ) (is : instr_at code (g.threads tr.thread).at.pc ≡ Instr.Return site) where
  open turn_at st tr use {t, m, here, view}

  abbrev i : Instr
  i = Instr.Return site

  abbrev Done : Type 0
  Done = Turned x code s ls g world tr

  f_now : Fine x code ls (g.threads tr.thread).at.pc here (Instr.Return site)
  f_now = fine x code s ls wt g world st t may.started may.next.runs i is refl

  shut : world.win tr.thread ≡ Shut
  shut = is_shut x code s ls wt g world st t may.started may.next.runs i is refl f_now.0

  tops : TopStands x tr.thread view (g.threads tr.thread).at.refs (g.threads tr.thread).at.ints (runs x code s ls wt g world st tr.thread may.started may.next.runs i is refl).names here
  tops = top x code s ls wt g world st t may.started may.next.runs i is refl

  settled : (n : Machine) → turn code s (g.threads tr.thread) ≡ Local n → State x code s ls (made_turn g tr.thread g.words n) world → Done
  settled n e k = unseen x code s ls g world tr _ (local_turn code s g tr may n e) k

  room_at : (n : Machine) → turn code s (g.threads tr.thread) ≡ Local n → g.made tr.thread + counted n.at.state ≤ 100000000
  room_at n e = room_of code s g tr may g.words n (local_turn code s g tr may n e)

  stops_at : turn code s (g.threads tr.thread) ≡ Local (stopped (g.threads tr.thread) (Trap traps.ReturnWithLockHeld site)) → Done
  stops_at e = settled (stopped m (Trap traps.ReturnWithLockHeld site)) e (stop_state x code s ls wt g world st t may.started may.next.runs i is refl (Trap traps.ReturnWithLockHeld site) shut (room_at (stopped m (Trap traps.ReturnWithLockHeld site)) e))

  -- back at a place whose label stands
  back : (d : ℕ) (fr : Frame) (names : ℕ → ℤ) (l : Label) → turn code s (g.threads tr.thread) ≡ Local (back_to (g.threads tr.thread) d fr) → (fr.pc ≡ 0 → ⊥) → Leads ls fr.pc l → l.gate ≡ Closed → (l.room ≡ true → length (g.threads tr.thread).own.held < 16)
      → TopStands x tr.thread view fr.refs fr.ints names l → FramesStand x code ls tr.thread view (back_to (g.threads tr.thread) d fr) l.function → Done
  back d fr names l e nz leads gt room tp below =
      let m' = back_to m d fr in
      let rest = rests x code s ls wt g world st t may.started may.next.runs i is refl in
      let gate' : (ls.at fr.pc).gate ≡ Closed = closed_less (ls.at fr.pc).gate (subst (λ y. Rattle.sharc_invariant.specs.Labels.LessGate y (ls.at fr.pc).gate) gt leads.gate) in
      settled m' e (plain_state x code s ls wt g world st t may.started may.next.runs i is refl m' (keeps_own x code s ls wt g world st t may.started may.next.runs i is refl m' refl refl refl refl (ne_eq fr.pc 0 nz) refl) refl refl
      (λ _. runs_at x code s ls st.elements world (heap_now st.heap g.words) (made_turn g t g.words m') t m' names rest
      (less_stands x t view fr.refs fr.ints names l (ls.at fr.pc) leads tp)
      (subst (FramesStand x code ls t view m') (sym leads.function) below)
      (subst (GateStands s world t m') (sym gate') shut)
      (λ q. room (leads.room q)))
      (λ q. absurd (cc)) (room_at m' e))

  -- the end of a thread's first function: every register holds NULL
  last_top : (f : ℕ) → here.function ≡ Some f → Returns ls here f → ls.starts f ≡ true → (g.threads tr.thread).at.refs ≡ 0 → (base' ints' : ℕ) → base' ≡ 0 → ((r : ℕ) → refs_at view base' r ≡ 0)
  last_top f ef ret starts base base' ints' eb r =
      let ms = wt.starts f starts in
      let none' : here.env 0 ≡ Empty = subst (λ e. Rattle.sharc_invariant.specs.Labels.LessEntry here 0 (here.env 0) e) ms.result ret.result in
      let empty : here.env r ≡ Empty = ⊎_elim (λ (z : r ≡ 0). ap here.env z ∙ none') (λ (nz : r ≡ 0 → ⊥). ret.empty r nz) (cases_eq r 0) in
      let q = subst (EntryStands (refs_at view m.at.refs) (types_at view m.at.refs) r) empty ((tops (suc r) 0).env r (omega arith)) in
      let e : base' + r ≡ m.at.refs + r = omega arith in ap view.refs e ∙ q

  start_fine : Fine x code ls 0 (ls.at 0) (Instr.Start wt.begin.0)
  start_fine = subst (Fine x code ls 0 (ls.at 0)) wt.begin.1 (wt.fine 0)

  abbrev goes_back : ℕ → Machine
  goes_back d = cond (d == 0) (goes_to (g.threads tr.thread) (length code.instrs.items))
      (cond ((d == 1) && not (holds_none (g.threads tr.thread).own.held)) (stopped (g.threads tr.thread) (Trap traps.ReturnWithLockHeld site)) (back_to (g.threads tr.thread) (d - 1) (slice_index_or (g.threads tr.thread).frames (d - 1) no_frame)))

  none_held : (log : List _) → holds_none log ≡ true → length log ≡ 0
  none_held [] e = refl
  none_held (h ∷ log) e = absurd (cc)

  not_null : (n : ℕ) → (suc (suc n) == 0) ≡ false
  not_null n = ne_eq (suc (suc n)) 0 (λ e. absurd (omega arith))

  not_one : (n : ℕ) → (suc (suc n) == 1) ≡ false
  not_one n = ne_eq (suc (suc n)) 1 (λ e. absurd (omega arith))

  at_depth : (f : ℕ) → here.function ≡ Some f → Returns ls here f → (d : ℕ) → BelowStands x code ls tr.thread view (g.threads tr.thread).frames d (g.threads tr.thread).at.refs (g.threads tr.thread).at.ints f → d ≤ FRAMES
      → turn code s (g.threads tr.thread) ≡ Local (goes_back d) → Done
  at_depth f ef ret zero h le e = absurd h
  at_depth f ef ret (suc zero) h le e =
      let fr = frame_at m.frames 0 in
      let k = h.0 in
      let l0 = ls.at 0 in
      let sc = wt.scoped 0 in
      let fn : l0.function ≡ None = wt.first.0 in
      let scr : Rattle.sharc_invariant.specs.Labels.IsScoped 0 0 l0 = subst (λ o. Rattle.sharc_invariant.specs.Labels.IsScoped (Rattle.sharc_invariant.specs.Typed.ints_in code o) (Rattle.sharc_invariant.specs.Typed.refs_in code o) l0) fn sc in
      let zeros = last_top f ef ret h.1 k.base_is fr.refs fr.ints k.refs in
      let names = (runs x code s ls wt g world st t may.started may.next.runs i is refl).names in
      let tp : TopStands x t view fr.refs fr.ints names l0 = λ n j. record {
        env = λ r _. subst (EntryStands (refs_at view fr.refs) (types_at view fr.refs) r) (sym (scr.few r (omega arith))) (zeros r);
        same = λ r _. zeros (l0.same r) ∙ sym (zeros r);
        known = λ r _ q. absurd (scr.known r q (scr.few r (omega arith)));
        numbers = λ a _. subst (NumberStands x view.elements (refs_at view fr.refs) (types_at view fr.refs) names (view.vals (fr.ints + a))) (sym (scr.numbers a (omega arith))) tt;
        passed = λ p q. absurd (subst (IsIn p) wt.first.2 q);
      } in
      let leads : Leads ls fr.pc l0 = subst (λ p. Leads ls p l0) (sym k.pc) start_fine.2 in
      elim (holds_none m.own.held) as (λ b. holds_none m.own.held ≡ b → turn code s m ≡ Local (cond (not b) (stopped m (Trap traps.ReturnWithLockHeld site)) (back_to m 0 fr)) → Done) [
        | true ↦ λ b e. back 0 fr names l0 e (λ z. absurd (let q = k.pc in omega arith)) leads wt.first.1 (λ _. let q = none_held m.own.held b in omega arith) tp
            (subst (FramesStand x code ls t view (back_to m 0 fr)) (sym fn) (refl, k.refs, k.first))
        | false ↦ λ b e. stops_at e
      ] refl e
  at_depth f ef ret (suc (suc d)) h le e =
      let k = h.1 in
      let fr = frame_at m.frames (suc d) in
      let e1 : turn code s m ≡ Local (cond ((suc (suc d) == 1) && not (holds_none m.own.held)) (stopped m (Trap traps.ReturnWithLockHeld site)) (back_to m (suc (suc d) - 1) (slice_index_or m.frames (suc (suc d) - 1) no_frame))) =
      subst (λ b. turn code s m ≡ Local (cond b (goes_to m (length code.instrs.items)) (cond ((suc (suc d) == 1) && not (holds_none m.own.held)) (stopped m (Trap traps.ReturnWithLockHeld site)) (back_to m (suc (suc d) - 1) (slice_index_or m.frames (suc (suc d) - 1) no_frame))))) (not_null d) e in
      let e2 : turn code s m ≡ Local (back_to m (suc (suc d) - 1) (slice_index_or m.frames (suc (suc d) - 1) no_frame)) =
      subst (λ b. turn code s m ≡ Local (cond (b && not (holds_none m.own.held)) (stopped m (Trap traps.ReturnWithLockHeld site)) (back_to m (suc (suc d) - 1) (slice_index_or m.frames (suc (suc d) - 1) no_frame)))) (not_one d) e1 in
      let e3 : turn code s m ≡ Local (back_to m (suc d) fr) = subst (λ n. turn code s m ≡ Local (back_to m n (slice_index_or m.frames n no_frame))) (let q : suc (suc d) - 1 ≡ suc d = omega arith in q) e2 in
      let l = called_label ls (ls.at k.call) f k.first k.refs in
      let names' = (runs x code s ls wt g world st t may.started may.next.runs i is refl).names in
      let tops1 : TopStands x t view (fr.refs + k.refs) (fr.ints + k.first) names' here = subst (λ b. TopStands x t view b (fr.ints + k.first) names' here) k.base_is (subst (λ c. TopStands x t view m.at.refs c names' here) k.ints_are tops) in
      back (suc d) fr k.names l e3 (λ z. absurd (let q = k.place in omega arith)) (subst (λ p. Leads ls p l) (sym k.place) k.leads) refl (λ q. absurd (cc))
      (returned_top x t view fr.refs fr.ints k.names names' ls (ls.at k.call) here f k.first k.refs k.frame tops1 ret (wt.plain f))
      (subst (FramesStand x code ls t view (back_to m (suc d) fr)) (sym k.caller) (h.2, omega arith, k.alone))

  pub Return_keeps : Done
  Return_keeps =
      let f = f_now.1.0 in
      let below = subst (FramesStand x code ls t view m) f_now.1.1 (runs x code s ls wt g world st t may.started may.next.runs i is refl).below in
      at_depth f f_now.1.1 f_now.1.2 m.at.depth below.0 below.1 (ap (λ i. Rattle.sharc_code.specs.Machine.act code s i m) is)
