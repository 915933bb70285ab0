-- Give keeps the invariant: the object that a thread has alone comes to stand under another type, whose cells are the same.
use Rattle.sharc_invariant.proofs.{Imports.{◌≡◌, ℕ, ℤ, suc, ◌+◌, ◌<◌, ◌≢◌, true, false, refl, sym, ap, ◌∙◌, subst, inl, arith, ◌*◌, ◌≤◌, set-get_or, length, slice_index, ◌↔◌, ◌==◌, is_some, Contains, Code, Shape, Fits, granules, count_word, Machine, instr_at, goes, ref, act, Turn, Global, put, MayTurn, after_turn, one_thread, bounds, Rests, Instr, put_same, put_other, put_all, Targets, ObjectType, StaticType, type_at, type_of, Mentions, cells_of, field_in, Empty, Refers, Label, Labels, fill, empty, Unknown, LessEntry, IsWellTyped, refs_in, ints_in, Fine, Recasts, TypedReference, RegisterOf, In, Slot, CellOf, World, Shut, Sole, WorldInvariant, in_ref, ArgumentOf, give, LogOf, Staged, ObjectState, lang_of, conc_of, Shows, cell_at, Apart, head_of, made_turn, KeepsOthers, State, view_of, TopStands, EntryStands, GateStands, refs_at, types_at, size_of_run, HeapStands, Locks, Runs, FramesStand, Turned, sum_to, Gives, Heap, changes_objects, objects_now, objects_behind, owned, type_held, THREADS, object_of, epoch_of, test_of}, TurnAt.turn_at, Effects.{place_other, place_all, sole_at, place_same, give_ok}, Frames.{filled, fill_stands, empty_stands, type_kept, put_base}, Turns.{asks_turn, room_of}, Plain.{same_words, register_plain, next_runs}, CheckTurns.put_put, Scoped.scoped_empty, Loads.lang_laws, Quiet.{heap_now, sizes_kept}, Changes.{KeepsPart, KeepsLow, lower, held_same, changed_state}, Walks.{IsWalk, conc_walked}, Clears.sum_more, Filled.{view_filled, below_filled}, Own.{begun_before, not_begun, fine, runs, rests, top, gate}, Recasts.{IsAlike, recast_types, recast_alike}, Others.loses, Owned.owned_is}

module _ (x : Targets) (code : Code) (s : Shape) (ls : Labels) (wt : IsWellTyped x code ls) (fits : Fits code s) (g : Global Machine) (world : World) (st : State x code s ls g world) (tr : Turn)
    (may : MayTurn bounds (one_thread code s) g tr) (r site : ℕ) (is : instr_at code (g.threads tr.thread).at.pc ≡ Instr.Give r site) where
  open turn_at st tr use {t, m, here, base, view, refs}

  abbrev k : ℕ
  k = (g.threads tr.thread).at.refs + r

  abbrev o : ℕ
  o = in_ref world (RegisterOf tr.thread ((g.threads tr.thread).at.refs + r))

  abbrev m' : Machine
  m' = goes (g.threads tr.thread)

  f : Fine x code ls (g.threads tr.thread).at.pc here (Instr.Give r site)
  f = fine x code s ls wt g world st t may.started may.next.runs (Instr.Give r site) is refl

  rest : (g.threads tr.thread).own.stage ≡ Rests
  rest = rests x code s ls wt g world st t may.started may.next.runs (Instr.Give r site) is refl

  abbrev names : ℕ → ℤ
  names = (runs x code s ls wt g world st tr.thread may.started may.next.runs (Instr.Give r site) is refl).names

  tp : TopStands x tr.thread view (g.threads tr.thread).at.refs (g.threads tr.thread).at.ints names here
  tp = top x code s ls wt g world st t may.started may.next.runs (Instr.Give r site) is refl

  win : world.win tr.thread ≡ Sole k
  win = subst (GateStands s world t m) f.0 (gate x code s ls wt g world st t may.started may.next.runs (Instr.Give r site) is refl)

  abbrev was : StaticType
  was = f.2.0

  abbrev to : StaticType
  to = f.2.1

  rc : Recasts x here r was to
  rc = f.2.3

  nz : o ≢ 0
  nz = (sole_at (size_of_run code s) (lang_of x) world st.inv t k win).0

  live : (world.obj o).live ≡ true
  live = (st.inv.words.fits (In (RegisterOf t k)) nz).live

  typed : (world.slots (In (RegisterOf tr.thread k))).ty ≡ type_of refs o was
  typed = subst (EntryStands refs (types_at view base) r) f.2.2 ((tp (suc r) 0).env r (omega arith)) nz

  obj_typed : (world.obj o).ty ≡ type_of refs o was
  obj_typed = (st.inv.words.fits (In (RegisterOf t k)) nz).typed ∙ typed

  same : (q : ℕ) → refs (here.same q) ≡ refs q
  same q = (tp (suc q) 0).same q (omega arith)

  row : was.target < length x.rows
  row = subst (λ n. n < length x.rows) (ap (λ (y : ObjectType). y.target) obj_typed) (st.rows o nz live).1

  abbrev T : ObjectType
  T = type_of refs o to

  abbrev new : ObjectState
  new = record { live = true; global = false; ty = T; owner = tr.thread }

  abbrev h : TypedReference
  h = record { ty = T; reference = o }

  abbrev O : ℕ → ObjectState
  O = put world.obj o new

  abbrev w' : World
  w' = give world tr.thread k T

  lived : (p : ℕ) → (O p).live ≡ (world.obj p).live
  lived = put_all (λ p (y : ObjectState). y.live ≡ (world.obj p).live) world.obj o new (sym live) (λ p _. refl)

  alive : (p : ℕ) → (O p).live ≡ true → (world.obj p).live ≡ true
  alive p e = sym (lived p) ∙ e

  alike : (p j : ℕ) → IsAlike (field_in x (world.obj p).ty j).holds (field_in x (O p).ty j).holds
  alike p j = put_all (λ p (y : ObjectState). IsAlike (field_in x (world.obj p).ty j).holds (field_in x y.ty j).holds) world.obj o new
      (subst (λ y. IsAlike (field_in x y j).holds (field_in x T j).holds) (sym obj_typed) (recast_alike x here refs same r was to rc row j))
      (λ p _. record { pointer = refl; mutex = refl; fits = λ v h. h }) p

  refs_same : (q : Slot) → (w'.slots q).reference ≡ (world.slots q).reference
  refs_same = place_all (λ q y. y.reference ≡ (world.slots q).reference) world.slots (In (RegisterOf t k)) h refl (λ q _. refl)

  inv : WorldInvariant (size_of_run code s) (lang_of x) w'
  inv = give_ok (size_of_run code s) (lang_of x) world st.inv (lang_laws x code ls wt) t k T win (λ e. rc.some (ap (λ (y : ObjectType). y.target) e))
      (λ j. recast_types x here refs same r was to rc row o j ∙ ap (λ y. type_at x y o j) (sym typed))

  sim : Shows x s st.cells st.elements (conc_of code g) w'
  sim = record {
    regs = λ u j. refs_same (In (RegisterOf u j)) ∙ st.sim.regs u j;
    args = λ u. refs_same (In (ArgumentOf u)) ∙ st.sim.args u;
    logs = λ u j. refs_same (In (LogOf u j)) ∙ st.sim.logs u j;
    staged = λ u. refs_same (In (Staged u)) ∙ st.sim.staged u;
    pointers = λ p j lp lt pt. refs_same (CellOf p j) ∙ st.sim.pointers p j (alive p lp) lt (sym (alike p j).pointer ∙ pt);
    others = λ p j ne. let z = st.sim.others p j (λ e. ne (refs_same (CellOf p j) ∙ e)) in (z.0, (alike p j).pointer ∙ z.1);
    integers = λ p j lp lt. (alike p j).fits (slice_index g.words (cell_at s p j)) (st.sim.integers p j (alive p lp) lt);
    counts = λ p nz lp. st.sim.counts p nz (alive p lp);
    lengths = λ p nz lp. st.sim.lengths p nz (alive p lp);
    mutexes = λ p j lp lt mx. st.sim.mutexes p j (alive p lp) lt (sym (alike p j).mutex ∙ mx);
    shadows = λ p q lp lq. st.sim.shadows p q (alive p lp) lq;
    stale = λ p lt none' u. st.sim.stale p lt (λ q j lq lj e. none' q j (lived q ∙ lq) lj e) u;
  }

  low : KeepsLow g.words g.words
  low = record { count = refl; low = λ j _ _. refl; are_words = st.are_words }

  begun : ((g.threads tr.thread).at.pc == 0) ≡ false
  begun = begun_before x code s ls wt g world st t may.started may.next.runs (Instr.Give r site) is refl

  begun' : ((g.threads tr.thread).at.pc + 1 == 0) ≡ false
  begun' = not_begun x code s ls wt g world st t may.started may.next.runs (Instr.Give r site) is refl (m.at.pc + 1) f.2.5.function

  walk : IsWalk (g.threads tr.thread).own.stage
  walk = subst IsWalk (sym rest) tt

  own : KeepsPart (g.threads tr.thread) m'
  own = record { sizes = sizes_kept (g.threads tr.thread) m' (st.threads t).has.table refl refl refl refl; held = refl; heads = refl; spawns = λ n h. h; begun_before = begun; begun = begun' }

  abbrev now : Global Machine
  now = made_turn g tr.thread g.words m'

  abbrev heap' : Heap
  heap' = heap_now st.heap g.words

  conc_is : conc_of code now ≡ conc_of code g
  conc_is = conc_walked x code s ls wt g world st t may.started may.next.runs begun walk (m.at.pc + 1) m.own.stage walk begun' g.words low refl

  others : KeepsOthers s world w' st.heap heap' g.words g.words tr.thread
  others = record {
    regs = λ u ne q. place_other world.slots (In (RegisterOf t k)) (In (RegisterOf u q)) h (λ e. ne (cc));
    win = λ u ne. put_other world.win t u Shut ne;
    passed = λ u _ q p b _ z. z;
    sole = λ u _ q _ p. loses refl;
    cells = λ u _ q _ n. refs_same (CellOf (in_ref world (RegisterOf u q)) n);
    built = λ u _ b e. (e, refl);
    within = λ u _ b e j n. refl;
  }

  stands : HeapStands s st.cells now O heap'
  stands =
      let q = st.heap_stands in
      record {
        kept = (same_words x code s ls g world st).kept;
        words = λ i. refl;
        top = q.top;
        within = q.within;
        heads = λ u b lu lb. q.heads u b lu lb ∙ put_all (λ u (n : Machine). head_of (g.threads u) b ≡ head_of n b) g.threads t m' refl (λ u _. refl) u;
        powers = q.powers;
        live = λ p nz. ((λ e. (q.live p nz).0 (alive p e)), (λ e. lived p ∙ (q.live p nz).1 e));
        room = λ p nz lp. q.room p nz (alive p lp);
        sizes = λ p nz lp. q.sizes p nz (alive p lp);
      }

  locks : Locks x s st.cells w' now
  locks =
      let held_now : (u : ℕ) → (now.threads u).own.held ≡ (g.threads u).own.held = held_same x code s ls wt g world st t may.started g.words m' own (lower low) in
      record {
        held = λ u p j lt lp lj mx. subst (λ hd. (world.mutex p j ≡ suc u) ↔ (is_some (object_of hd (cell_at s p j)) ≡ true)) (sym (held_now u)) (st.locks.held u p j lt (alive p lp) lj (sym (alike p j).mutex ∙ mx));
        logged = λ u e c. let z = st.locks.logged u e (subst (λ hd. Contains hd e) (held_now u) c) in (z.0, (z.1.0, lived e.object ∙ z.1.1, z.1.2, (alike e.object z.0).mutex ∙ z.1.3));
        few = st.locks.few;
        only = λ p j ne. let z = st.locks.only p j ne in (lived p ∙ z.0, z.1, (alike p j).mutex ∙ z.2);
      }

  abbrev k' : Label
  k' = fill (empty here r) r (Refers to) r true

  same_view : view_of st.elements w' tr.thread m' ≡ filled view k o T
  same_view = view_filled st.elements world w' t k h m m' (λ a. refl) refl refl

  top_now : TopStands x tr.thread (view_of st.elements w' tr.thread m') (g.threads tr.thread).at.refs (g.threads tr.thread).at.ints names k'
  top_now =
      let v0 = filled view k 0 T in
      let top0 = empty_stands x t view base m.at.ints names here r T f.1.paths tp in
      let sc = scoped_empty (ints_in code here.function) (refs_in code here.function) here r f.1.paths (wt.scoped m.at.pc) in
      let kept : T ≡ type_of (refs_at v0 base) o to = type_kept refs (refs_at v0 base) o to (λ q mq. sym (put_base view.refs base r q 0 (λ e. f.2.4 (subst (Mentions to) e mq)))) in
      let top1 = fill_stands x t v0 base m.at.ints names (empty here r) (ints_in code here.function) (refs_in code here.function) r o T (Refers to) r true sc (put_same here.env r Empty) f.2.4 (λ _. kept) (inl refl) (λ _. nz) top0 in
      let e1 = put_put view.refs k 0 o in
      let e2 = put_put view.types k T T in
      let both : filled v0 k o T ≡ filled view k o T = λ i. record view { refs = e1 i; types = e2 i } in
      subst (λ v. TopStands x t v base m.at.ints names k') (both ∙ sym same_view) top1

  runs_now : Runs x code s ls st.elements w' heap' now tr.thread m'
  runs_now =
      let rn = runs x code s ls wt g world st t may.started may.next.runs (Instr.Give r site) is refl in
      next_runs x code s ls wt g world st t may.started may.next.runs (Instr.Give r site) is refl w' heap' now m' names k' rest refl refl f.2.5 top_now
      (subst (λ v. FramesStand x code ls t v m' here.function) (sym same_view) (below_filled x code ls t view m m' r o T refl refl refl refl here.function rn.below))
      (put_same world.win t Shut) rn.room

  gives_now : after_turn bounds (one_thread code s) g tr ≡ now
  gives_now =
      let done0 = asks_turn code s g tr may (test_of (count_word s (ref m r))) (λ found. m') (ap (λ i. act code s i m) is) in
      done0.0 ∙ ap (λ ws. made_turn g t ws m') (set-get_or g.words (count_word s (ref m r)) 0)

  give_turned : Turned x code s ls g world tr
  give_turned =
      let done = gives_now in
      let later : (i : ℕ) → i < granules s → epoch_of (slice_index g.words (97 + i)) ≤ sum_to THREADS (put g.made t (g.made t + 1)) =
      λ i lt. let a = st.epochs i lt in let b = sum_more g.made t 1 (st.begins.few t may.started) in omega arith in
      let rows : (p : ℕ) → p ≢ 0 → (O p).live ≡ true → ((O p).global ≡ false) × ((O p).ty.target < length x.rows) = λ p.
      put_all (λ p (y : ObjectState). p ≢ 0 → y.live ≡ true → (y.global ≡ false) × (y.ty.target < length x.rows)) world.obj o new (λ _ _. (refl, rc.is_row)) (λ p _ n l. st.rows p n l) p in
      let cells_was : cells_of x (world.obj o).ty.target ≡ cells_of x to.target = ap (λ (y : ObjectType). cells_of x y.target) obj_typed ∙ rc.cells in
      let here_whole : (1 ≤ st.elements o) × (st.cells o ≡ st.elements o * cells_of x to.target) = let z = st.whole o nz live in (z.0, z.1 ∙ ap (λ c. st.elements o * c) cells_was) in
      let whole : (p : ℕ) → p ≢ 0 → (O p).live ≡ true → (1 ≤ st.elements p) × (st.cells p ≡ st.elements p * cells_of x (O p).ty.target) = λ p.
      put_all (λ p (y : ObjectState). p ≢ 0 → y.live ≡ true → (1 ≤ st.elements p) × (st.cells p ≡ st.elements p * cells_of x y.ty.target)) world.obj o new (λ _ _. here_whole) (λ p _ n l. st.whole p n l) p in
      let apart : Apart s O st.cells = record { apart = λ a b la lb. st.apart.apart a b (alive a la) (alive b lb); within = λ a q la. st.apart.within a q (alive a la); headers = λ a la. st.apart.headers a (alive a la) } in (
        w',
        subst (λ y. State x code s ls y w') (sym done)
            (changed_state x code s ls wt g world st t may.started g.words m' own (lower low) st.cells st.elements heap' w' others (λ u. place_other world.slots (In (RegisterOf t k)) (In (ArgumentOf u)) h (λ e. cc)) (λ u q _. refl)
            inv (subst (λ c. Shows x s st.cells st.elements c w') (sym conc_is) sim) apart stands locks (put_other world.obj o 0 new (λ e. nz (sym e))) refl rows whole later (λ _. runs_now) (λ q. absurd (cc))
            (room_of code s g tr may g.words m' done)),
        Gives k T (ap (λ i. changes_objects i m) is) win refl,
      )

  reads_object : ref (g.threads tr.thread) r ≡ o
  reads_object = sym (st.sim.regs tr.thread k ∙ register_plain code m rest k)

  told : (ls.at (m.at.pc + 1)).env r ≢ Unknown
  told e = let a : k'.env r ≡ Unknown = subst (LessEntry k' r (k'.env r)) e (f.2.5.env r) in let z : Refers to ≡ Unknown = sym (put_same (put here.env r Empty) r (Refers to)) ∙ a in cc

  given_objects : give_turned.0.obj ≡ objects_now code s ls g tr world.obj
  unfolding give_turned
  given_objects =
      let m'' = (after_turn bounds (one_thread code s) g tr).threads t in
      let held = owned_is x code s ls g tr may.started w' give_turned.1 m' g.words gives_now rest refl r o T (place_same world.slots (In (RegisterOf t k)) h) nz told in
      ap (λ T. put world.obj o (owned t T)) held ∙ ap (λ q. put world.obj q (owned t (type_held ls m'' r))) (sym reads_object)
      ∙ sym (ap (λ i. objects_behind ls t i m m'' world.obj) is)

  pub Give_keeps : (k : Turned x code s ls g world tr) × (k.0.obj ≡ objects_now code s ls g tr world.obj)
  Give_keeps = (give_turned, given_objects)
