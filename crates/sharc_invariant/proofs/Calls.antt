-- A call keeps the invariant: the callee's frame stands above the caller's.
use Rattle.sharc_invariant.proofs.{Imports.{◌≡◌, ℕ, ℤ, zero, suc, ◌+◌, ◌^◌, ◌<◌, ◌≤◌, Bool, true, false, cond, ◌&&◌, List, [], ◌∷◌, Some, None, refl, sym, ap, ◌∙◌, subst, inl, inr, ⊎_elim, arith, ltb-true, nat_tests, length-set, get_or-set_same, get_or-set_other, length, filter, map, nat_lt, slice_set, ◌==◌, FRAMES, Code, Shape, Frame, RunsOn, Trap, Fits, Machine, Local, instr_at, has_room, stopped, no_frame, turn, counted, Turn, Global, MayTurn, one_thread, bounds, Instr, Targets, ObjectType, Lock, mutex_of, Entry, Empty, Refers, Unknown, Number, Anything, OfElement, Closed, Pass, IsIn, Label, Labels, Leads, Less, HasBase, IsWellTyped, Calls, Passes, PassesLock, called_label, entry_label, below, below_number, below_pass, World, made_turn, State, View, frame_at, EntryStands, NumberStands, FrameStands, TopStands, StartStands, CallerStands, BelowStands, FramesStand, GateStands, refs_at, types_at, Turned, ne_eq}, TurnAt.turn_at, Frames.{map_same, at_cell, with_locks, same_ref, less_number, number_kept, less_stands}, Quiet.heap_now, Turns.{local_turn, room_of, unseen}, Own.{runs, rests, top, fine, closed_less, runs_at}, Plain.{is_shut, plain_state, stop_state, keeps_own}}
use Rattle.sharc_tree.specs.declared.trap.Trap.TheVariants as traps
use Rattle.sharc_invariant.specs.Types.{Global as OfGlobals, Through, Self}

-- ---- the caller's frame
pub below_at : {A : Type 0} (k : ℕ) (f : ℕ → A) (a b : A) (r : ℕ) → r < k → below k f a b r ≡ f r
below_at k f a b r lt = let e : nat_lt r k ≡ true = grind (arith, nat_tests) in rw e refl

in_filter : (f : Pass → Bool) (ps : List Pass) (p : Pass) → IsIn p (filter f ps) → IsIn p ps
in_filter f [] p h = h
in_filter f (q ∷ ps) p h = elim (f q) as (λ b. IsIn p (cond b (q ∷ filter f ps) (filter f ps)) → IsIn p (q ∷ ps)) [ true ↦ ⊎_elim (λ e. inl e) (λ k. inr (in_filter f ps p k)) | false ↦ λ k. inr (in_filter f ps p k) ] h

pub number_below : (x : Targets) (elements refs : ℕ → ℕ) (types : ℕ → ObjectType) (names : ℕ → ℤ) (z : ℤ) (k : ℕ) (n : Number) → NumberStands x elements refs types names z n → NumberStands x elements refs types names z (below_number k n)
number_below x elements refs types names z k (OfElement b f e) h = elim (nat_lt b k) as (λ y. NumberStands x elements refs types names z (cond y (OfElement b f e) Anything)) [ true ↦ h | false ↦ tt ]
number_below x elements refs types names z k _ h = h

caller_frame : (x : Targets) (t : ℕ) (v : View) (base ints : ℕ) (names : ℕ → ℤ) (ls : Labels) (l : Label) (f first k : ℕ) → TopStands x t v base ints names l → FrameStands x t v base ints names (called_label ls l f first k) k first
caller_frame x t v base ints names ls l f first k tp = record {
  env = λ r lt. subst (EntryStands (refs_at v base) (types_at v base) r) (sym (below_at k l.env (ls.signature f).result Empty r lt)) ((tp (suc r) 0).env r (omega arith));
  same = λ r lt. elim (nat_lt r k && nat_lt (l.same r) k) as (λ b. refs_at v base (cond b (l.same r) r) ≡ refs_at v base r) [ true ↦ (tp (suc r) 0).same r (omega arith) | false ↦ refl ];
  known = λ r lt e. (tp (suc r) 0).known r (omega arith) (sym (below_at k l.known false false r lt) ∙ e);
  numbers = λ i lt. number_below x v.elements (refs_at v base) (types_at v base) names (v.vals (ints + i)) k (below first l.ints (ls.signature f).result_int Anything i)
      (subst (NumberStands x v.elements (refs_at v base) (types_at v base) names (v.vals (ints + i))) (sym (below_at first l.ints (ls.signature f).result_int Anything i lt)) ((tp 0 (suc i)).numbers i (omega arith)));
  passed = λ p h. (tp 0 0).passed p (in_filter (λ p. below_pass k p.base) l.passed p h);
}

-- frames that are not the one on top stay
below_frames : (x : Targets) (code : Code) (ls : Labels) (t : ℕ) (v : View) (frames frames' : List Frame) (d base ints f : ℕ) → ((i : ℕ) → i < d → frame_at frames i ≡ frame_at frames' i) → BelowStands x code ls t v frames d base ints f → BelowStands x code ls t v frames' d base ints f
below_frames x code ls t v frames frames' zero base ints f e h = h
below_frames x code ls t v frames frames' (suc zero) base ints f e h = (subst (λ y. StartStands y base ints) (e 0 (omega arith)) h.0, h.1)
below_frames x code ls t v frames frames' (suc (suc d)) base ints f e h =
    let q = e (suc d) (omega arith) in
    let rec = below_frames x code ls t v frames frames' (suc d) (frame_at frames (suc d)).refs (frame_at frames (suc d)).ints h.0 (λ i lt. e i (omega arith)) h.2 in
    (h.0, subst (λ y. CallerStands x code ls t v y base ints f h.0) q h.1, subst (λ (y : Frame). BelowStands x code ls t v frames' (suc d) y.refs y.ints h.0) q rec)

-- ---- the callee's frame
module _ (x : Targets) (t : ℕ) (v : View) (base ints : ℕ) (names : ℕ → ℤ) (l : Label) (tp : TopStands x t v base ints names l) (k first : ℕ) where
  abbrev refs : ℕ → ℕ
  refs = refs_at v base

  abbrev refs' : ℕ → ℕ
  refs' = refs_at v (base + k)

  shifted : (r : ℕ) → refs (k + r) ≡ refs' r
  shifted r = ap v.refs (omega arith)

  alls : (r : ℕ) → refs (l.same r) ≡ refs r
  alls r = (tp (suc r) 0).same r (omega arith)

  passed_lock : (r : ℕ) (a b : Lock) → PassesLock l k (k + r) a b → mutex_of refs (refs (k + r)) a ≡ mutex_of refs' (refs' r) b
  passed_lock r (OfGlobals i) (OfGlobals j) h = ap (at_cell 0) h
  passed_lock r (Through y i) (Through q j) h = ap (at_cell (refs y)) h.0 ∙ ap (λ o. at_cell o j) (same_ref l refs alls y (k + q) h.1 ∙ shifted q)
  passed_lock r (Self i) (Through q j) h = ap (at_cell (refs (k + r))) h.0 ∙ ap (λ o. at_cell o j) (same_ref l refs alls (k + r) (k + q) h.1 ∙ shifted q)
  passed_lock r (Through y i) (Self j) h = ap (at_cell (refs y)) h.0 ∙ ap (λ o. at_cell o j) (same_ref l refs alls y (k + r) h.1 ∙ shifted r)
  passed_lock r (Self i) (Self j) h = ap (at_cell (refs (k + r))) h ∙ ap (λ o. at_cell o j) (shifted r)
  passed_lock r _ _ h = absurd h

  pub passed_entry : (r : ℕ) (given want : Entry) → Passes l k (k + r) given want → EntryStands refs (types_at v base) (k + r) given → EntryStands refs' (types_at v (base + k)) r want
  passed_entry r Empty Empty h st = sym (shifted r) ∙ st
  passed_entry r (Refers s) Empty h st = let z : Refers s ≡ Empty = h in cc
  passed_entry r Unknown Empty h st = let z : Unknown ≡ Empty = h in cc
  passed_entry r Unknown (Refers q) h st = absurd h
  passed_entry r given Unknown h st = tt
  passed_entry r Empty (Refers q) h st = λ nz. absurd (nz (sym (shifted r) ∙ st))
  passed_entry r (Refers s) (Refers q) h st = λ nz.
      let ty : types_at v base (k + r) ≡ types_at v (base + k) r = ap v.types (omega arith) in
      sym ty ∙ st (λ z. nz (sym (shifted r) ∙ z))
      ∙ ap (λ n. with_locks n (map (mutex_of refs (refs (k + r))) s.locks)) h.0
      ∙ ap (with_locks q.target) (map_same (PassesLock l k (k + r)) (mutex_of refs (refs (k + r))) (mutex_of refs' (refs' r)) (passed_lock r) s.locks q.locks h.1)

  entry_top : (code : Code) (ls : Labels) (to f : ℕ) → Calls code ls l to first k f → ((i b : ℕ) → HasBase ((ls.signature f).takes_ints i) b → ⊥) → TopStands x t v (base + k) (ints + first) names (entry_label ls f)
  entry_top code ls to f c plain n m = record {
    env = λ r lt. passed_entry r (l.env (k + r)) ((ls.signature f).takes r) (c.passes r) ((tp (suc (k + r)) 0).env (k + r) (omega arith));
    same = λ r lt. refl;
    known = λ r lt e. absurd (cc);
    numbers = λ i lt.
        let a = less_number x v.elements refs (types_at v base) names (v.vals (ints + (first + i))) (l.ints (first + i)) ((ls.signature f).takes_ints i) (c.numbers i) ((tp 0 (suc (first + i))).numbers (first + i) (omega arith)) in
        let b = number_kept x v.elements v.elements refs refs' (types_at v base) (types_at v (base + k)) names (v.vals (ints + (first + i))) ((ls.signature f).takes_ints i)
        (λ b field e q. absurd (plain i b (subst (λ y. HasBase y b) (sym q) refl))) a in
        subst (λ z. NumberStands x v.elements refs' (types_at v (base + k)) names z ((ls.signature f).takes_ints i)) (ap v.vals (omega arith)) b;
    passed = λ p h. absurd h;
  }

module _ (x : Targets) (code : Code) (s : Shape) (ls : Labels) (wt : IsWellTyped x code ls) (fits : Fits code s) (g : Global Machine) (world : World) (st : State x code s ls g world) (tr : Turn)
    (may : MayTurn bounds (one_thread code s) g tr) where
  open turn_at st tr use {t, m, here, view}

  both : (a b : Bool) → (a && b) ≡ true → a ≡ true
  both true b h = refl
  both false b h = absurd (cc)

  -- the frames with the caller's on top
  stacked : (to ints refs site f : ℕ) → instr_at code (g.threads tr.thread).at.pc ≡ Instr.Call to ints refs site → Calls code ls here to ints refs f → Leads ls ((g.threads tr.thread).at.pc + 1) (called_label ls here f ints refs)
      → (names : ℕ → ℤ) → TopStands x tr.thread view (g.threads tr.thread).at.refs (g.threads tr.thread).at.ints names here → (caller : ℕ) → here.function ≡ Some caller → (d : ℕ) → (g.threads tr.thread).at.depth ≡ d → d < length (g.threads tr.thread).frames
      → BelowStands x code ls tr.thread view (g.threads tr.thread).frames d (g.threads tr.thread).at.refs (g.threads tr.thread).at.ints caller → ((ls.signature caller).alone ≡ true → tr.thread ≡ 0)
      → BelowStands x code ls tr.thread view (slice_set (g.threads tr.thread).frames d record { pc = (g.threads tr.thread).at.pc + 1; ints = (g.threads tr.thread).at.ints; refs = (g.threads tr.thread).at.refs }) (suc d) ((g.threads tr.thread).at.refs + refs) ((g.threads tr.thread).at.ints + ints) f
  stacked to ints refs site f is calls leads names tp caller ec zero ed lt h only = absurd h
  stacked to ints refs site f is calls leads names tp caller ec (suc d) ed lt h only =
      let fr : Frame = record { pc = m.at.pc + 1; ints = m.at.ints; refs = m.at.refs } in
      let frames = slice_set m.frames (suc d) fr in
      let at : fr ≡ frame_at frames (suc d) = sym (get_or-set_same m.frames (suc d) fr no_frame lt) in
      let rest = below_frames x code ls t view m.frames frames (suc d) m.at.refs m.at.ints caller (λ i li. sym (get_or-set_other m.frames (suc d) i fr no_frame (λ e. omega arith))) h in
      let c : CallerStands x code ls t view fr (m.at.refs + refs) (m.at.ints + ints) f caller = record {
        call = m.at.pc;
        refs = refs;
        first = ints;
        to = to;
        site = site;
        place = refl;
        is_call = is;
        calls = calls;
        leads = leads;
        caller = ec;
        alone = only;
        base_is = refl;
        ints_are = refl;
        names = names;
        frame = caller_frame x t view m.at.refs m.at.ints names ls here f ints refs tp;
      } in
      (caller, subst (λ y. CallerStands x code ls t view y (m.at.refs + refs) (m.at.ints + ints) f caller) at c, subst (λ (y : Frame). BelowStands x code ls t view frames (suc d) y.refs y.ints caller) at rest)

  pub Call_keeps : (to ints refs site : ℕ) → instr_at code (g.threads tr.thread).at.pc ≡ Instr.Call to ints refs site → Turned x code s ls g world tr
  Call_keeps to ints refs site is =
      let i = Instr.Call to ints refs site in
      let fi = fine x code s ls wt g world st t may.started may.next.runs i is refl in
      let f = fi.1.0 in
      let calls = fi.1.1 in
      let leads = fi.1.2 in
      let rn = runs x code s ls wt g world st t may.started may.next.runs i is refl in
      let tp = top x code s ls wt g world st t may.started may.next.runs i is refl in
      let rest = rests x code s ls wt g world st t may.started may.next.runs i is refl in
      let shut = is_shut x code s ls wt g world st t may.started may.next.runs i is refl fi.0 in
      let fr : Frame = record { pc = m.at.pc + 1; ints = m.at.ints; refs = m.at.refs } in
      let m' : Machine = record m { at = record { pc = to; ints = m.at.ints + ints; refs = m.at.refs + refs; depth = m.at.depth + 1; state = RunsOn }; frames = slice_set m.frames m.at.depth fr } in
      let settled : (n : Machine) → turn code s m ≡ Local n → State x code s ls (made_turn g t g.words n) world → Turned x code s ls g world tr = λ n e k.
      unseen x code s ls g world tr _ (local_turn code s g tr may n e) k in
      let room_at : (n : Machine) → turn code s m ≡ Local n → g.made t + counted n.at.state ≤ 100000000 = λ n e. room_of code s g tr may g.words n (local_turn code s g tr may n e) in
      elim (has_room m ints refs) as (λ b. has_room m ints refs ≡ b → turn code s m ≡ Local (cond b m' (stopped m (Trap traps.CallDepth site))) → Turned x code s ls g world tr) [
        | true ↦ λ b e.
            let caller = calls.caller.0 in
            let ec : here.function ≡ Some caller = calls.caller.1 in
            let below = subst (FramesStand x code ls t view m) ec rn.below in
            let lt : m.at.depth < length m.frames = ltb-true m.at.depth (length m.frames) (both (nat_lt m.at.depth (length m.frames)) (nat_lt (m.at.depth + 1) (2 ^ 32)) (both _ _ b)) in
            let entry : Less (entry_label ls f) (ls.at to) = subst (λ p. Less (entry_label ls f) (ls.at p)) calls.entry (wt.entries f calls.is) in
            let stack = stacked to ints refs site f is calls leads rn.names tp caller ec m.at.depth refl lt below.0 below.2 in
            let stack' : BelowStands x code ls t view m'.frames m'.at.depth m'.at.refs m'.at.ints f = subst (λ d. BelowStands x code ls t view m'.frames d m'.at.refs m'.at.ints f) (let q : suc m.at.depth ≡ m.at.depth + 1 = omega arith in q) stack in
            let few : m.at.depth + 1 ≤ FRAMES = let q = (st.threads t).has.frames in omega arith in
            let gate' : (ls.at to).gate ≡ Closed = closed_less (ls.at to).gate entry.gate in
            let begun : (to == 0) ≡ false = ne_eq to 0 (λ z. let q : Some f ≡ None = sym entry.function ∙ ap (λ p. (ls.at p).function) z ∙ wt.first.0 in cc) in
            settled m' e (plain_state x code s ls wt g world st t may.started may.next.runs i is refl m' (keeps_own x code s ls wt g world st t may.started may.next.runs i is refl m' refl refl refl (length-set m.frames m.at.depth fr) begun refl) refl refl
            (λ _. runs_at x code s ls st.elements world (heap_now st.heap g.words) (made_turn g t g.words m') t m' rn.names rest
            (less_stands x t view (m.at.refs + refs) (m.at.ints + ints) rn.names (entry_label ls f) (ls.at to) entry (entry_top x t view m.at.refs m.at.ints rn.names here tp refs ints code ls to f calls (wt.plain f).bases))
            (subst (FramesStand x code ls t view m') (sym entry.function) (stack', few, λ q. below.2 (calls.caller.2 q)))
            (subst (GateStands s world t m') (sym gate') shut)
            (λ q. let z : false ≡ true = entry.room q in absurd (cc)))
            (λ q. absurd (cc)) (room_at m' e))
        | false ↦ λ b e. settled (stopped m (Trap traps.CallDepth site)) e (stop_state x code s ls wt g world st t may.started may.next.runs i is refl (Trap traps.CallDepth site) shut (room_at (stopped m (Trap traps.CallDepth site)) e))
      ] refl (ap (λ i. Rattle.sharc_code.specs.Machine.act code s i m) is)
