-- Turns that put a reference into a register of the frame on top, or take it away, perhaps with a store of one word.
use Rattle.sharc_invariant.proofs.{Imports.{◌≡◌, ℕ, ℤ, pos, ◌+◌, ◌<◌, ◌≤◌, ◌≢◌, true, List, Option, refl, sym, ap, ◌∙◌, subst, arith, get_or-set_same, get_or-set_other, length-set, fun_ext, length, slice_index, slice_index_or, slice_set, Code, Instr, Shape, Frame, Rests, first_cell, At, Own as Own', next, Machine, instr_at, may_go, counted, Global, put, HeldMutex, put_other, put_all, GranuleState, Passed, Targets, ObjectType, Closed, Label, Labels, Less, Leads, IsWellTyped, IsRef, TypedReference, Holder, RegisterOf, ArgumentOf, World, Window, Shut, Sole, In, Slot, CellOf as Cell, in_ref, place, Uses, WorldInvariant, By, put2, Heap, Built, InBlock, lang_of, conc_of, Shows, register_of, is_ended, set_reg, made_turn, made_conc, KeepsOthers, State, View, view_of, vals_of, TopStands, FramesStand, size_of_run}, TurnAt.thread_at, Effects.{place_same, place_other}, Frames.{filled, frames_agree}, Quiet.{KeepsOwn, KeepsWords, heap_now, quiet_state, noted_same, conc_plain}, Own.{is_single, ref_inside, runs, rests, not_begun}, Plain.{register_plain, next_runs, keeps_own, with_own}, Others.loses}
use Rattle.sharc_invariant.specs.World.{Free}

-- ---- the registers of a machine in which one is set
pub refs_set : (code : Code) (m m' : Machine) (k o : ℕ) → m.own.stage ≡ Rests → m'.own.stage ≡ Rests → m'.refs ≡ slice_set m.refs k o → k < length m.refs → (j : ℕ) → register_of code m' j ≡ put (register_of code m) k o j
refs_set code m m' k o e e' r lt j =
    register_plain code m' e' j ∙ ap (λ l. slice_index l j) r
    ∙ put_all (λ j y. slice_index (slice_set m.refs k o) j ≡ y) (register_of code m) k o (get_or-set_same m.refs k o 0 lt) (λ j ne. get_or-set_other m.refs k j o 0 ne ∙ sym (register_plain code m e j)) j

-- the view of a world in which it is
pub view_filled : (elements : ℕ → ℕ) (w w' : World) (t k : ℕ) (h : TypedReference) (m m' : Machine) → ((a : Holder) → w'.slots (In a) ≡ place w.slots (In (RegisterOf t k)) h (In a)) → w'.gran ≡ w.gran → m'.ints ≡ m.ints
    → view_of elements w' t m' ≡ filled (view_of elements w t m) k h.reference h.ty
view_filled elements w w' t k h m m' es eg ei =
    let slots : (j : ℕ) → w'.slots (In (RegisterOf t j)) ≡ place w.slots (In (RegisterOf t k)) h (In (RegisterOf t j)) = λ j. es (RegisterOf t j) in
    let other : (j : ℕ) → (j ≡ k → ⊥) → place w.slots (In (RegisterOf t k)) h (In (RegisterOf t j)) ≡ w.slots (In (RegisterOf t j)) = λ j ne. place_other w.slots (In (RegisterOf t k)) (In (RegisterOf t j)) h (λ e. ne (cc)) in
    let same : place w.slots (In (RegisterOf t k)) h (In (RegisterOf t k)) ≡ h = place_same w.slots (In (RegisterOf t k)) h in
    let fr : (λ i. in_ref w' (RegisterOf t i)) ≡ put (λ i. in_ref w (RegisterOf t i)) k h.reference = fun_ext (λ j. put_all (λ j y. in_ref w' (RegisterOf t j) ≡ y) (λ i. in_ref w (RegisterOf t i)) k h.reference
    (ap (λ (h : TypedReference). h.reference) (slots k ∙ same)) (λ j ne. ap (λ (h : TypedReference). h.reference) (slots j ∙ other j ne)) j) in
    let ft : (λ i. (w'.slots (In (RegisterOf t i))).ty) ≡ put (λ i. (w.slots (In (RegisterOf t i))).ty) k h.ty = fun_ext (λ j. put_all (λ j y. (w'.slots (In (RegisterOf t j))).ty ≡ y) (λ i. (w.slots (In (RegisterOf t i))).ty) k h.ty
    (ap (λ (h : TypedReference). h.ty) (slots k ∙ same)) (λ j ne. ap (λ (h : TypedReference). h.ty) (slots j ∙ other j ne)) j) in
    let fv : vals_of m' ≡ vals_of m = ap (λ l i. slice_index_or l i (pos 0)) ei in
    λ i. record { refs = fr i; types = ft i; vals = fv i; gran = eg i; elements = elements }

pub below_filled : (x : Targets) (code : Code) (ls : Labels) (t : ℕ) (v : View) (m m' : Machine) (d o : ℕ) (ty : ObjectType) → m'.frames ≡ m.frames → m'.at.depth ≡ m.at.depth → m'.at.refs ≡ m.at.refs → m'.at.ints ≡ m.at.ints
    → (f : Option ℕ) → FramesStand x code ls t v m f → FramesStand x code ls t (filled v (m.at.refs + d) o ty) m' f
below_filled x code ls t v m m' d o ty = frames_agree x code ls t v (filled v (m.at.refs + d) o ty) m m' (record {
  refs = λ j lt. sym (put_other v.refs (m.at.refs + d) j o (λ q. omega arith));
  types = λ j lt. sym (put_other v.types (m.at.refs + d) j ty (λ q. omega arith));
  vals = λ j _. refl;
  elements = λ j _. refl;
  passed = λ o p b _ k. k;
})

-- where no window is open a register may change
pub free_shut : (w : World) (t k : ℕ) → w.win t ≡ Shut → Free w (RegisterOf t k)
free_shut w t k e u r us q = let eu : t ≡ u = cc in let P : Window → Type 0 = λ x. Uses x (By r) in subst P (ap w.win (sym eu) ∙ e) us

-- the other threads, where a register of this one and perhaps a count change
pub filled_others : (s : Shape) (w w' : World) (heap : Heap) (words words' : List ℕ) (t k : ℕ) (h : TypedReference) → ((a : Holder) → w'.slots (In a) ≡ place w.slots (In (RegisterOf t k)) h (In a))
    → ((u : ℕ) → u ≢ t → (r : ℕ) → w.win u ≡ Sole r → (i : ℕ) → (w'.slots (Cell (in_ref w (RegisterOf u r)) i)).reference ≡ (w.slots (Cell (in_ref w (RegisterOf u r)) i)).reference) → w'.gran ≡ w.gran → ((u : ℕ) → u ≢ t → w'.win u ≡ w.win u)
    → ((u b j : ℕ) → heap.state b ≡ Built u → InBlock (record { first = 1 + s.globals; words = first_cell s }) heap b j → slice_index words' j ≡ slice_index words j)
    → KeepsOthers s w w' heap (heap_now heap words') words words' t
filled_others s w w' heap words words' t k h es cs eg ew within = record {
  regs = λ u ne r. es (RegisterOf u r) ∙ place_other w.slots (In (RegisterOf t k)) (In (RegisterOf u r)) h (λ e. ne (cc));
  win = ew;
  passed = λ u ne o p b _ q. subst (λ (f : ℕ → ℕ → GranuleState). Passed (f o p) u b) (sym eg) q;
  sole = λ u ne r _ p. loses (ap (λ (f : ℕ → ℕ → GranuleState). f (in_ref w (RegisterOf u r)) p) eg);
  cells = cs;
  built = λ u _ b e. (e, refl);
  within = λ u _ b e j i. within u b j e i;
}

-- a machine that has made its turn, with another reference in one register
pub record SetsRef (m m' : Machine) (d o : ℕ) : Type 0 where
  pub at : m'.at ≡ next m.at
  pub refs : m'.refs ≡ slice_set m.refs (m.at.refs + d) o
  pub ints : m'.ints ≡ m.ints
  pub frames : m'.frames ≡ m.frames
  pub own : m'.own ≡ m.own

module _ (x : Targets) (code : Code) (s : Shape) (ls : Labels) (wt : IsWellTyped x code ls) (g : Global Machine) (world : World) (st : State x code s ls g world) (t : ℕ) (on : g.started t ≡ true) (go : may_go (g.threads t).at.state ≡ true)
    (i : Instr) (is : instr_at code (g.threads t).at.pc ≡ i) (single : is_single i ≡ true) where
  open thread_at st t use {m, here, view}

  abbrev names : ℕ → ℤ
  names = (runs x code s ls wt g world st t on go i is single).names

  pub inside : (d : ℕ) → IsRef code here d → (g.threads t).at.refs + d < length (g.threads t).refs
  inside d isr = subst (λ b. m.at.refs + d < b) (sym (st.threads t).has.refs) (ref_inside x code ls t view m here.function d (runs x code s ls wt g world st t on go i is single).below isr)

  -- as a register of the world
  pub inside_world : (d : ℕ) → IsRef code here d → (t < Rattle.sharc_word.specs.declared.step.TheConstants.THREADS) × ((g.threads t).at.refs + d < (size_of_run code s).regs)
  inside_world d isr = (st.begins.few t on, ref_inside x code ls t view m here.function d (runs x code s ls wt g world st t on go i is single).below isr)

  pub filled_slots : (d : ℕ) (h : TypedReference) (m' : Machine) (w' : World) (words : List ℕ) (k : Label) → SetsRef (g.threads t) m' d h.reference → IsRef code here d
      → ((a : Holder) → w'.slots (In a) ≡ place world.slots (In (RegisterOf t ((g.threads t).at.refs + d))) h (In a))
      → ((u : ℕ) → u ≢ t → (r : ℕ) → world.win u ≡ Sole r → (i : ℕ) → (w'.slots (Cell (in_ref world (RegisterOf u r)) i)).reference ≡ (world.slots (Cell (in_ref world (RegisterOf u r)) i)).reference) → w'.gran ≡ world.gran → w'.obj ≡ world.obj → w'.mutex ≡ world.mutex → ((u : ℕ) → u ≢ t → w'.win u ≡ world.win u) → w'.win t ≡ Shut
      → KeepsWords s st.heap g.words words
      → ((u b j : ℕ) → st.heap.state b ≡ Built u → InBlock (record { first = 1 + s.globals; words = first_cell s }) st.heap b j → slice_index words j ≡ slice_index g.words j)
      → WorldInvariant (size_of_run code s) (lang_of x) w'
      → Shows x s st.cells st.elements (set_reg (record (conc_of code g) { words = λ j. slice_index words j }) t ((g.threads t).at.refs + d) h.reference) w'
      → TopStands x t (filled view ((g.threads t).at.refs + d) h.reference h.ty) (g.threads t).at.refs (g.threads t).at.ints names k
      → Leads ls ((g.threads t).at.pc + 1) k → k.function ≡ here.function → k.gate ≡ Closed → (k.room ≡ true → length (g.threads t).own.held < 16) → g.made t + counted m'.at.state ≤ 100000000
      → State x code s ls (made_turn g t words m') w'
  filled_slots d h m' w' words k sets isr es cs eg eo em ew shut kw within inv sim tp leads fn gt room few =
      let lt = inside d isr in
      let base = m.at.refs in
      let rest = rests x code s ls wt g world st t on go i is single in
      let rest' = ap (λ (o : Own'). o.stage) sets.own ∙ rest in
      let pc : m'.at.pc ≡ m.at.pc + 1 = ap (λ (a : At). a.pc) sets.at in
      let fnc : (ls.at m'.at.pc).function ≡ here.function = ap (λ p. (ls.at p).function) pc ∙ leads.function ∙ fn in
      let own : KeepsOwn m m' = keeps_own x code s ls wt g world st t on go i is single m' (ap (with_own m'.own) sets.own) (ap (λ (l : List ℕ). length l) sets.refs ∙ length-set m.refs (base + d) h.reference) (ap (λ (l : List ℤ). length l) sets.ints) (ap (λ (l : List Frame). length l) sets.frames)
      (not_begun x code s ls wt g world st t on go i is single m'.at.pc fnc) (ap (λ (a : At). is_ended a.state) sets.at) in
      let regs : put (λ u. register_of code (g.threads u)) t (register_of code m') ≡ put2 (λ u. register_of code (g.threads u)) t (base + d) h.reference =
      ap (put (λ u. register_of code (g.threads u)) t) (fun_ext (refs_set code m m' (base + d) h.reference rest rest' sets.refs lt)) in
      let sim0 : Shows x s st.cells st.elements (record (conc_of code g) { words = λ j. slice_index words j; regs = put (λ u. register_of code (g.threads u)) t (register_of code m') }) w' = subst (λ r. Shows x s st.cells st.elements (record (conc_of code g) { words = λ j. slice_index words j; regs = r }) w') (sym regs) sim in
      let sim' : Shows x s st.cells st.elements (made_conc code (conc_of code g) t words m') w' = subst (λ c. Shows x s st.cells st.elements c w') (sym (conc_plain code g t words m' (noted_same m m' (ap (λ (o : Own'). o.table) sets.own) rest rest' own.ended_before own.ended))) sim0 in
      let v = view_filled st.elements world w' t (base + d) h m m' es eg sets.ints in
      let er = ap (λ (a : At). a.refs) sets.at in
      let ei = ap (λ (a : At). a.ints) sets.at in
      quiet_state x code s ls g world st t on words m' own kw w' (record { obj = eo; mutex = em; args = λ u. es (ArgumentOf u) ∙ place_other world.slots (In (RegisterOf t (base + d))) (In (ArgumentOf u)) h (λ e. cc) })
      (filled_others s world w' st.heap g.words words t (base + d) h es cs eg ew within) wt inv sim'
      (λ _. next_runs x code s ls wt g world st t on go i is single w' (heap_now st.heap words) (made_turn g t words m') m' names k rest' fn gt (subst (λ p. Less k (ls.at p)) (sym pc) leads)
      (subst (λ v. TopStands x t v m'.at.refs m'.at.ints names k) (sym v) (subst (λ b. TopStands x t (filled view (base + d) h.reference h.ty) b m'.at.ints names k) (sym er) (subst (λ c. TopStands x t (filled view (base + d) h.reference h.ty) base c names k) (sym ei) tp)))
      (subst (λ v. FramesStand x code ls t v m' here.function) (sym v) (below_filled x code ls t view m m' d h.reference h.ty sets.frames (ap (λ (a : At). a.depth) sets.at) er ei here.function (runs x code s ls wt g world st t on go i is single).below))
      shut (λ q. subst (λ (l : List HeldMutex). length l < 16) (sym (ap (λ (o : Own'). o.held) sets.own)) (room q)))
      (λ q. let z : may_go m'.at.state ≡ true = ap (λ (a : At). may_go a.state) sets.at in absurd (cc))
      few

  pub filled_state : (d : ℕ) (h : TypedReference) (m' : Machine) (w' : World) (words : List ℕ) (k : Label) → SetsRef (g.threads t) m' d h.reference → IsRef code here d
      → w'.slots ≡ place world.slots (In (RegisterOf t ((g.threads t).at.refs + d))) h → w'.gran ≡ world.gran → w'.obj ≡ world.obj → w'.mutex ≡ world.mutex → ((u : ℕ) → u ≢ t → w'.win u ≡ world.win u) → w'.win t ≡ Shut
      → KeepsWords s st.heap g.words words
      → ((u b j : ℕ) → st.heap.state b ≡ Built u → InBlock (record { first = 1 + s.globals; words = first_cell s }) st.heap b j → slice_index words j ≡ slice_index g.words j)
      → WorldInvariant (size_of_run code s) (lang_of x) w'
      → Shows x s st.cells st.elements (set_reg (record (conc_of code g) { words = λ j. slice_index words j }) t ((g.threads t).at.refs + d) h.reference) w'
      → TopStands x t (filled view ((g.threads t).at.refs + d) h.reference h.ty) (g.threads t).at.refs (g.threads t).at.ints names k
      → Leads ls ((g.threads t).at.pc + 1) k → k.function ≡ here.function → k.gate ≡ Closed → (k.room ≡ true → length (g.threads t).own.held < 16) → g.made t + counted m'.at.state ≤ 100000000
      → State x code s ls (made_turn g t words m') w'
  filled_state d h m' w' words k sets isr es =
      filled_slots d h m' w' words k sets isr (λ a. ap (λ (f : Slot → TypedReference). f (In a)) es)
      (λ u _ r _ i. ap (λ (f : Slot → TypedReference). (f (Cell (in_ref world (RegisterOf u r)) i)).reference) es ∙ ap (λ (h : TypedReference). h.reference) (place_other world.slots (In (RegisterOf t ((g.threads t).at.refs + d))) (Cell (in_ref world (RegisterOf u r)) i) h (λ e. cc)))
