-- Indexes are within their objects.
use Rattle.sharc_invariant.proofs.{Imports.{◌≡◌, ℕ, ℤ, pos, negsuc, suc, ◌+◌, ◌-◌, ◌*◌, ◌/◌, ◌^◌, ◌<◌, ◌≤◌, ◌≢◌, true, false, cond, refl, sym, ap, ◌∙◌, subst, ⊎_elim, arith, ltb-true, cases_eq, nat_tests, mul-le-mul_left, mul_comm, slice_index, nat_lt, Load, Code, Instr, Long, Shape, Trap, int_of, Fits, granules, granule_at, length_word, Machine, instr_at, int, ref, goes, set_int, indexed, field_of, stopped, step_of, Turn, Global, put, MayTurn, one_thread, bounds, put_same, Targets, ObjectType, cells_of, Element, Named, Nth, Fresh, Number, Exactly, Indexes, OfElement, OfGlobal, Closed, Label, Labels, Leads, set_number, IsWellTyped, IsInt, IsElement, World, RegisterOf, In, in_ref, length_at, made_turn, State, View, NumberStands, ElementStands, EntryStands, TopStands, refs_at, types_at, Turned}, TurnAt.turn_at, Turns.{asks_turn, local_turn, room_of, unseen}, Own.{is_single, runs, rests, top, fine}, Plain.{register_plain, is_shut, stop_state, numbers_state}, Accesses.{back_again, loaded_words}, Steps.number_named}
use Rattle.sharc_tree.specs.declared.trap.Trap.TheVariants as traps

-- a new name for a value
fresh_top : (x : Targets) (t : ℕ) (v : View) (base ints : ℕ) (names : ℕ → ℤ) (l : Label) (name : ℕ) (z : ℤ) → Fresh l name → TopStands x t v base ints names l → TopStands x t v base ints (put names name z) l
fresh_top x t v base ints names l name z fresh tp n k = let h = tp n k in record {
  env = h.env;
  same = h.same;
  known = h.known;
  passed = h.passed;
  numbers = λ j lt. number_named x v.elements (refs_at v base) (types_at v base) names name z (v.vals (ints + j)) (l.ints j) (fresh j) (h.numbers j lt);
}

-- the name of an element
record Names (x : Targets) (t : ℕ) (v : View) (base ints : ℕ) (l : Label) (n : ℕ) (e : Element) : Type 0 where
  names : ℕ → ℤ
  top : TopStands x t v base ints names l
  stands : ElementStands names n e

module _ (x : Targets) (t : ℕ) (v : View) (base ints : ℕ) (names : ℕ → ℤ) (l : Label) (tp : TopStands x t v base ints names l) (n : ℕ) where
  fresh_names : (name : ℕ) → Fresh l name → Names x t v base ints l n (Named name)
  fresh_names name fr = record { names = put names name (pos n); top = fresh_top x t v base ints names l name (pos n) fr tp; stands = put_same names name (pos n) }

  names_of : (num : Number) (e : Element) → IsElement l num e → NumberStands x v.elements (refs_at v base) (types_at v base) names (pos n) num → Names x t v base ints l n e
  names_of (Exactly z) (Nth k) h st = record { names = names; top = tp; stands = let q : pos n ≡ pos k = st ∙ h in cc }
  names_of (Indexes m) (Named name) h st = record { names = names; top = tp; stands = ap names h ∙ sym st }
  names_of _ (Named name) h st = fresh_names name h
  names_of _ (Nth k) h st = absurd h

-- the number of a field
field_number : (n count field : ℕ) → n * count + field < 2 ^ 63 → int_of (field_of n count field) ≡ pos (n * count + field)
field_number n count field lt =
    let e : field_of n count field ≡ n * count + field = omega arith in
    let l : nat_lt (n * count + field) (2 ^ 63) ≡ true = grind (arith, nat_tests) in
    ap int_of e ∙ (back_again Long (pos (n * count + field)) l).0

times_le : (n all count : ℕ) → n < all → n * count + count ≤ all * count
times_le n all count lt =
    let a : count * (n + 1) ≤ count * all = mul-le-mul_left count (omega arith) in
    let b = mul_comm count (n + 1) in let c = mul_comm count all in
    let d : (n + 1) * count ≡ n * count + count = grind arith in
    omega arith

module _ (x : Targets) (code : Code) (s : Shape) (ls : Labels) (wt : IsWellTyped x code ls) (fits : Fits code s) (g : Global Machine) (world : World) (st : State x code s ls g world) (tr : Turn)
    (may : MayTurn bounds (one_thread code s) g tr) where
  open turn_at st tr use {t, m, here, after, view}

  module _ (i : Instr) (is : instr_at code (g.threads tr.thread).at.pc ≡ i) (single : is_single i ≡ true) where
    abbrev names : ℕ → ℤ
    names = (runs x code s ls wt g world st tr.thread may.started may.next.runs i is single).names

    tops : TopStands x tr.thread view (g.threads tr.thread).at.refs (g.threads tr.thread).at.ints names here
    tops = top x code s ls wt g world st t may.started may.next.runs i is single

    same_world : (m' : Machine) → after ≡ made_turn g tr.thread g.words m' → State x code s ls (made_turn g tr.thread g.words m') world → Turned x code s ls g world tr
    same_world m' e k = unseen x code s ls g world tr _ e k

    stops_at : (site : ℕ) → here.gate ≡ Closed → after ≡ made_turn g tr.thread g.words (stopped (g.threads tr.thread) (Trap traps.IndexOutOfBounds site)) → Turned x code s ls g world tr
    stops_at site gt e = same_world (stopped m (Trap traps.IndexOutOfBounds site)) e (stop_state x code s ls wt g world st t may.started may.next.runs i is single (Trap traps.IndexOutOfBounds site)
        (is_shut x code s ls wt g world st t may.started may.next.runs i is single gt) (room_of code s g tr may g.words (stopped m (Trap traps.IndexOutOfBounds site)) e))

    indexed_keeps : (r count field site elements : ℕ) (N : Element → Number) (d : Element) → here.gate ≡ Closed → IsInt code here r → IsElement here (here.ints r) d → Leads ls ((g.threads tr.thread).at.pc + 1) (set_number here r (N d))
        → ((n : ℕ) → n < elements → (f : ℕ → ℤ) → ElementStands f n d → NumberStands x st.elements (refs_at view (g.threads tr.thread).at.refs) (types_at view (g.threads tr.thread).at.refs) f (int_of (field_of n count field)) (N d))
        → (z : ℤ) → int (g.threads tr.thread) r ≡ z → after ≡ made_turn g tr.thread g.words (indexed (g.threads tr.thread) r z count field site elements) → Turned x code s ls g world tr
    indexed_keeps r count field site elements N d gt isi isd leads stands (negsuc n) ez e = stops_at site gt e
    indexed_keeps r count field site elements N d gt isi isd leads stands (pos n) ez e =
        elim (nat_lt n elements) as (λ b. nat_lt n elements ≡ b → after ≡ made_turn g t g.words (cond b (goes (set_int m r (int_of (field_of n count field)))) (stopped m (Trap traps.IndexOutOfBounds site))) → Turned x code s ls g world tr) [
          | true ↦ λ b e.
              let z = int_of (field_of n count field) in
              let m' = goes (set_int m r z) in
              let nm = names_of x t view m.at.refs m.at.ints names here tops n (here.ints r) d isd
              (subst (λ z. NumberStands x st.elements (refs_at view m.at.refs) (types_at view m.at.refs) names z (here.ints r)) ez ((tops 0 (suc r)).numbers r (omega arith))) in
              same_world m' e (numbers_state x code s ls wt g world st t may.started may.next.runs i is single r z (N d) here nm.names refl refl gt isi nm.top (stands n (ltb-true n elements b) nm.names nm.stands) leads
              (room_of code s g tr may g.words m' e))
          | false ↦ λ b e. stops_at site gt e
        ] refl e

  pub Global_bounds_keeps : (r elements count field site : ℕ) → instr_at code (g.threads tr.thread).at.pc ≡ Instr.GlobalBounds r elements count field site → Turned x code s ls g world tr
  Global_bounds_keeps r elements count field site is =
      let i = Instr.GlobalBounds r elements count field site in
      let f = fine x code s ls wt g world st t may.started may.next.runs i is refl in
      indexed_keeps i is refl r count field site elements (OfGlobal field count elements) f.3.0 f.0 f.1 f.3.1 f.3.2
      (λ n lt names q. let le = times_le n elements count lt in let h = f.2 in (n, lt, field_number n count field (omega arith) ∙ ap pos (omega arith), q))
      (int m r) refl (local_turn code s g tr may (indexed m r (int m r) count field site elements) (ap (λ i. Rattle.sharc_code.specs.Machine.act code s i m) is))

  pub Bounds_keeps : (r base count field site : ℕ) → instr_at code (g.threads tr.thread).at.pc ≡ Instr.Bounds r base count field site → Turned x code s ls g world tr
  Bounds_keeps r base count field site is =
      let i = Instr.Bounds r base count field site in
      let f = fine x code s ls wt g world st t may.started may.next.runs i is refl in
      let d = f.5.0 in
      let ty = f.4.0 in
      let tp = tops i is refl in
      let k = m.at.refs + base in
      let refs = refs_at view m.at.refs in
      let reads : ref m base ≡ in_ref world (RegisterOf t k) = sym (st.sim.regs t k ∙ register_plain code m (rests x code s ls wt g world st t may.started may.next.runs i is refl) k) in
      let nz : in_ref world (RegisterOf t k) ≢ 0 = (tp (suc base) 0).known base (omega arith) f.3 in
      let o = in_ref world (RegisterOf t k) in
      let fit = st.inv.words.fits (In (RegisterOf t k)) nz in
      let st_r = subst (EntryStands refs (types_at view m.at.refs) base) f.4.1 ((tp (suc base) 0).env base (omega arith)) nz in
      let target : (types_at view m.at.refs base).target ≡ ty.target = ap (λ (y : ObjectType). y.target) st_r in
      let target_o : (world.obj o).ty.target ≡ ty.target = ap (λ (y : ObjectType). y.target) fit.typed ∙ target in
      let lw = length_word s (ref m base) in
      let found = slice_index g.words lw in
      let head = st.apart.headers o fit.live in
      let at_o : granule_at s o ≡ o = let e : nat_lt o (granules s) ≡ true = grind (arith, nat_tests) in rw e refl in
      let lw_is : lw ≡ length_at s o = ap (length_word s) reads ∙ (let q = at_o in omega arith) in
      let len : st.elements o ≡ found = st.sim.lengths o nz fit.live ∙ ap (slice_index g.words) (sym lw_is) in
      let whole : st.cells o ≡ st.elements o * cells_of x (world.obj o).ty.target = (st.whole o nz fit.live).1 in
      let count_o : count ≡ cells_of x (world.obj o).ty.target = f.4.2 ∙ ap (cells_of x) (sym target_o) in
      let count_v : count ≡ cells_of x (types_at view m.at.refs base).target = f.4.2 ∙ ap (cells_of x) (sym target) in
      let cells : st.cells o ≡ found * count = whole ∙ ap (λ n. n * cells_of x (world.obj o).ty.target) len ∙ ap (λ c. found * c) (sym count_o) in
      let few : st.cells o < 2 ^ 62 = ⊎_elim (λ (z : st.cells o ≡ 0). omega arith)
      (λ (nc : st.cells o ≡ 0 → ⊥). let w = st.heap_stands.room o nz fit.live in
      let q = st.apart.within o ((st.cells o - 1) / 2) fit.live (omega arith) in
      let g1 = fits.globals in let g2 = wt.globals.few in let g3 = fits.most in omega arith)
      (cases_eq (st.cells o) 0) in
      let done0 = asks_turn code s g tr may (step_of lw Load) (indexed m r (int m r) count field site) (ap (λ i. Rattle.sharc_code.specs.Machine.act code s i m) is) in
      indexed_keeps i is refl r count field site found (OfElement base field) d f.0 f.1 f.5.1 f.5.2
      (λ n lt names q.
      let le = times_le n found count lt in
      let fc = f.4.3 in
      (n, subst (λ e. n < e) (sym len) lt, field_number n count field (omega arith) ∙ ap (λ c. pos (n * c + field)) count_v, q))
      (int m r) refl (loaded_words x code s ls wt fits g world st tr may i is refl lw (indexed m r (int m r) count field site found) done0.0)
