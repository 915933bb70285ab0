-- A thread at a place may make the access that its label lets it make.
use Rattle.sharc_invariant.proofs.{Imports.{◌≡◌, ℕ, ℤ, pos, zero, suc, ◌+◌, ◌-◌, ◌*◌, ◌/◌, ◌<◌, ◌≤◌, ◌⊎◌, ◌≢◌, Bool, true, false, List, [], ◌∷◌, Option, Some, None, refl, sym, ap, ◌∙◌, subst, inl, inr, ⊎_elim, arith, mod-eq_of_lt, mul-le-mul_right, suc-mul, length, slice_index_or, map, THREADS, Code, Cell, Shape, word_of, Fits, cell_word, cell_of, Machine, ref, int, word, is_held, Global as Place, GranuleState, Passed, Targets, ObjectType, StaticType, Mutex, Lock, FieldLock, FieldMode, CellMode, Field, mode_at, mode_in, lock_mode, lock_number, no_mutex, field_mutex, type_at, cells_of, field_at, field_of_cell, type_in, field_in, is_mutex, is_private, mutex_of, type_of, Through, Self, OfType, OfGlobals, OfSameElement as OfElement, Under, MutexWord, Refers, Element, Named, Nth, Number, OfElement as OfElementCell, OfGlobal as OfGlobalCells, HoldsLoaded, Label, Labels, SameReference, PointsTo, AreFieldLocks, IsGlobalLock, IsAnyGlobalLock, IsFieldLock, IsAnyLock, IsPlace, PointsToMutex, IsWellTyped, HasCell, MayAccess, IsChecked, Directly, Earlier, Covers, IsOwn, IsMutexOf, IsLockCell, IsSibling, no_lock, ObjectState, RegisterOf, In, World, May, base_of, CanBy, Can, Right, in_ref, lang_of, IsThere, PassStands, NumberStands, ElementStands, State, view_of, TopStands, FramesStand, GateStands, EntryStands, types_at, base_of_cell, object_of_cell, number_in}, TurnAt.thread_at, Frames.{same_ref, same_lock, map_same, with_locks}, Cells.{cell_there, cell_word_is, field_row}}
use Rattle.sharc_code.specs.Machine.{place}
use Rattle.sharc_invariant.specs.{Types.Lock.Global, Types.FieldMode.{Private, Readonly, Racy, Dynamic, Behind}, World.Base.{By, Global as OfGlobal}}

nth_map : {A B : Type 0} (f : A → B) (xs : List A) (k : ℕ) (a : A) (b : B) → k < length xs → slice_index_or (map f xs) k b ≡ f (slice_index_or xs k a)
nth_map f [] k a b lt = absurd (omega arith)
nth_map f (x ∷ xs) zero a b lt = refl
nth_map f (x ∷ xs) (suc k) a b lt = nth_map f xs k a b (omega arith)

covers_read : (x : GranuleState) (t : ℕ) (was write : Bool) → Covers was write → Passed x t was → Passed x t write
covers_read x t true true c h = h
covers_read x t true false c h = inr h
covers_read x t false true c h = absurd (cc)
covers_read x t false false c h = h

module _ (x : Targets) (code : Code) (s : Shape) (ls : Labels) (wt : IsWellTyped x code ls) (fits : Fits code s) (g : Place Machine) (world : World) (st : State x code s ls g world) (t : ℕ) (low : t < THREADS) (names : ℕ → ℤ) (l : Label)
    (top : TopStands x t (view_of st.elements world t (g.threads t)) (g.threads t).at.refs (g.threads t).at.ints names l) (reads : (r : ℕ) → ref (g.threads t) r ≡ in_ref world (RegisterOf t ((g.threads t).at.refs + r)))
    (below : FramesStand x code ls t (view_of st.elements world t (g.threads t)) (g.threads t) l.function) (gate : GateStands s world t (g.threads t) l.gate) where
  open thread_at st t use {m, view, refs}

  there : (c : Cell) (f : Field) → HasCell x code l c f → IsThere x s st.cells world t (g.threads t) c f
  there c f h = cell_there x code s ls wt fits g world st t m names l top reads c f h

  alls : (r : ℕ) → refs (l.same r) ≡ refs r
  alls r = (top (suc r) 0).same r (omega arith)

  same_refs : (a b : ℕ) → SameReference l a b → ref m a ≡ ref m b
  same_refs a b h = reads a ∙ same_ref l refs alls a b h ∙ sym (reads b)

  -- a mutex that the log has is held
  held_mutex : (c : Cell) (f : Field) → IsThere x s st.cells world t (g.threads t) c f → f.holds ≡ MutexWord → is_held (g.threads t) (word s (g.threads t) c) ≡ true → world.mutex (object_of_cell (g.threads t) c) (number_in (g.threads t) c) ≡ suc t
  held_mutex c f th e h =
      (st.locks.held t (object_of_cell m c) (number_in m c) low th.live th.number (ap (λ (f : Field). is_mutex f.holds) th.field ∙ ap is_mutex e)).1 (ap (is_held m) (sym th.word_is) ∙ h)

  number_at : (i : ℕ) (n : Number) → l.ints i ≡ n → NumberStands x st.elements refs (types_at view (g.threads t).at.refs) names (int (g.threads t) i) n
  number_at i n e = subst (NumberStands x st.elements refs (types_at view m.at.refs) names (int m i)) e ((top 0 (suc i)).numbers i (omega arith))

  one_element : (e : Element) (a b : ℕ) → ElementStands names a e → ElementStands names b e → a ≡ b
  one_element (Named n) a b ha hb = let q : pos a ≡ pos b = sym ha ∙ hb in cc
  one_element (Nth n) a b ha hb = ha ∙ sym hb

  -- the target of what a register refers to
  target_of : (r : ℕ) (ty : StaticType) → l.env r ≡ Refers ty → l.known r ≡ true → (types_at view (g.threads t).at.refs r).target ≡ (world.obj (ref (g.threads t) r)).ty.target
  target_of r ty e k =
      let nz : in_ref world (RegisterOf t (m.at.refs + r)) ≢ 0 = (top (suc r) 0).known r (omega arith) k in
      let fit = st.inv.words.fits (In (RegisterOf t (m.at.refs + r))) nz in
      sym (ap (λ o. (world.obj o).ty.target) (reads r) ∙ ap (λ (y : ObjectType). y.target) fit.typed)

  -- the mutex of an element stands beside the cell
  sibling : (field other : ℕ) (c d : Cell) (f h : Field) → HasCell x code l c f → HasCell x code l d h → IsSibling l field other c d
      → (object_of_cell m d ≡ object_of_cell m c) × (number_in m d ≡ number_in m c - field + other)
  sibling field other (Cell.Global a p) (Cell.Global b q) f h hc hd k = (refl, (let a = k.1 in let b = k.2 in omega arith))
  sibling field other (Cell.GlobalAt a i) (Cell.GlobalAt b j) f h hc hd k =
      let q = k.1 in
      let ni = number_at i (OfGlobalCells q.0 q.1 q.2 q.3) q.4 in
      let nj = number_at j (OfGlobalCells (q.0 - field + other) q.1 q.2 q.3) q.6 in
      let same : nj.0 ≡ ni.0 = one_element q.3 nj.0 ni.0 nj.3 ni.3 in
      let times : nj.0 * q.1 ≡ ni.0 * q.1 = ap (λ n. n * q.1) same in
      let pi : place m (Cell.GlobalAt a i) ≡ q.0 + ni.0 * q.1 = ap word_of ni.2 in
      let pj : place m (Cell.GlobalAt b j) ≡ q.0 - field + other + nj.0 * q.1 = ap word_of nj.2 in
      let lo = q.5 in
      (refl, omega arith)
  sibling field other (Cell.Object r i) (Cell.Object q j) f h hc hd k =
      let e = same_refs r q k.0 in
      (sym e, (let a : number_in m (Cell.Object q j) ≡ j = omega arith in let b : number_in m (Cell.Object r i) ≡ i = omega arith in a ∙ k.2 ∙ ap (λ n. n - field + other) (sym b)))
  sibling field other (Cell.ObjectAt r i) (Cell.ObjectAt q j) f h hc hd k =
      let e = k.1 in
      let ni = number_at i (OfElementCell r field e.0) e.1 in
      let nj = number_at j (OfElementCell q other e.0) e.2 in
      let same : nj.0 ≡ ni.0 = one_element e.0 nj.0 ni.0 nj.3 ni.3 in
      let eo = same_refs r q k.0 in
      let size : cells_of x (types_at view m.at.refs q).target ≡ cells_of x (types_at view m.at.refs r).target = ap (cells_of x) (target_of q hd.field.1.0 hd.field.1.3 hd.base ∙ ap (λ o. (world.obj o).ty.target) (sym eo) ∙ sym (target_of r hc.field.1.0 hc.field.1.3 hc.base)) in
      let start : nj.0 * cells_of x (types_at view m.at.refs q).target ≡ ni.0 * cells_of x (types_at view m.at.refs r).target = ap (λ n. n * cells_of x (types_at view m.at.refs q).target) same ∙ ap (λ c. ni.0 * c) size in
      let pi : word_of (int m i) ≡ ni.0 * cells_of x (types_at view m.at.refs r).target + field = ap word_of ni.2 in
      let pj : word_of (int m j) ≡ nj.0 * cells_of x (types_at view m.at.refs q).target + other = ap word_of nj.2 in
      (sym eo, omega arith)
  sibling field other _ _ f h hc hd k = absurd k

  -- the lock of the type of the object in a register
  type_lock : (r : ℕ) (ty : StaticType) (k : ℕ) → l.env r ≡ Refers ty → l.known r ≡ true → k < length ty.locks → lock_number (world.obj (ref (g.threads t) r)).ty k ≡ mutex_of refs (refs r) (slice_index_or ty.locks k no_lock)
  type_lock r ty k e kn lt =
      let nz : in_ref world (RegisterOf t (m.at.refs + r)) ≢ 0 = (top (suc r) 0).known r (omega arith) kn in
      let fit = st.inv.words.fits (In (RegisterOf t (m.at.refs + r))) nz in
      let st_r = subst (EntryStands refs (types_at view m.at.refs) r) e ((top (suc r) 0).env r (omega arith)) nz in
      let ty_is : (world.obj (ref m r)).ty ≡ type_of refs (refs r) ty = ap (λ o. (world.obj o).ty) (reads r) ∙ fit.typed ∙ st_r in
      ap (λ (y : ObjectType). lock_number y k) ty_is ∙ nth_map (mutex_of refs (refs r)) ty.locks k no_lock no_mutex lt

  -- the cell that a lock names is where its mutex is
  lock_cell : (r : ℕ) (lock : Lock) (d : Cell) (h : Field) → HasCell x code l d h → IsLockCell code l r lock d
      → ((mutex_of refs (refs r) lock).object ≡ object_of_cell (g.threads t) d) × ((mutex_of refs (refs r) lock).cell ≡ number_in (g.threads t) d)
  lock_cell r (Global j) (Cell.Global a p) h hd k = (refl, (let a = k.0 in omega arith))
  lock_cell r (Through q j) (Cell.Object a i) h hd k = (sym (reads q) ∙ sym (same_refs a q k.1), (let b : number_in m (Cell.Object a i) ≡ i = omega arith in sym k.0 ∙ sym b))
  lock_cell r (Self j) (Cell.Object a i) h hd k = (sym (reads r) ∙ sym (same_refs a r k.1), (let b : number_in m (Cell.Object a i) ≡ i = omega arith in sym k.0 ∙ sym b))
  lock_cell r _ _ h hd k = absurd k

  -- a lock in a cell's mode is held where the mutex in that cell is
  lock_held : (write : Bool) (c d : Cell) (f h : Field) (lock : FieldLock) → HasCell x code l c f → HasCell x code l d h → IsMutexOf code l lock c d → world.mutex (object_of_cell (g.threads t) d) (number_in (g.threads t) d) ≡ suc t
      → CanBy (lang_of x) world t write (object_of_cell (g.threads t) c) (number_in (g.threads t) c) (lock_mode (world.obj (object_of_cell (g.threads t) c)).ty (number_in (g.threads t) c) lock)
  lock_held write c d f h (OfElement field mutex) hc hd k held =
      let e = sibling field mutex c d f h hc hd k in
      ap (λ o. world.mutex o (number_in m c - field + mutex)) (sym e.0) ∙ ap (world.mutex (object_of_cell m d)) (sym e.1) ∙ held
  lock_held write c d f h (OfGlobals j) hc hd k held =
      let e = lock_cell 0 (Global j) d h hd k in
      ap (λ o. world.mutex o j) e.0 ∙ ap (world.mutex (object_of_cell m d)) e.1 ∙ held
  lock_held write (Cell.Object r i) d f h (OfType n) hc hd k held =
      let e = lock_cell r (slice_index_or k.0.locks n no_lock) d h hd k.3 in
      let q = type_lock r k.0 n k.1 hc.base k.2 in
      let P : Mutex → Type 0 = λ u. world.mutex u.object u.cell ≡ suc t in
      subst P (sym q) (ap (λ o. world.mutex o (mutex_of refs (refs r) (slice_index_or k.0.locks n no_lock)).cell) e.0 ∙ ap (world.mutex (object_of_cell m d)) e.1 ∙ held)
  lock_held write (Cell.ObjectAt r i) d f h (OfType n) hc hd k held =
      let e = lock_cell r (slice_index_or k.0.locks n no_lock) d h hd k.3 in
      let q = type_lock r k.0 n k.1 hc.base k.2 in
      let P : Mutex → Type 0 = λ u. world.mutex u.object u.cell ≡ suc t in
      subst P (sym q) (ap (λ o. world.mutex o (mutex_of refs (refs r) (slice_index_or k.0.locks n no_lock)).cell) e.0 ∙ ap (world.mutex (object_of_cell m d)) e.1 ∙ held)
  lock_held write _ d f h (OfType n) hc hd k held = absurd k

  -- a private object that a register is known to hold is the thread's
  owner_in : (r : ℕ) → l.known r ≡ true → is_private x (world.obj (ref (g.threads t) r)).ty ≡ true → (world.obj (ref (g.threads t) r)).owner ≡ t
  owner_in r k priv =
      let nz : in_ref world (RegisterOf t (m.at.refs + r)) ≢ 0 = (top (suc r) 0).known r (omega arith) k in
      let fit = st.inv.words.fits (In (RegisterOf t (m.at.refs + r))) nz in
      ap (λ o. (world.obj o).owner) (reads r) ∙ fit.own (sym (ap (is_private x) (ap (λ o. (world.obj o).ty) (reads r) ∙ fit.typed)) ∙ priv)

  -- a private cell's object is the thread's
  owner_is : (c : Cell) (f : Field) → HasCell x code l c f → IsOwn ls l c → is_private x (world.obj (object_of_cell (g.threads t) c)).ty ≡ true → (world.obj (object_of_cell (g.threads t) c)).owner ≡ t
  owner_is (Cell.Object r i) f hc own priv = owner_in r hc.base priv
  owner_is (Cell.ObjectAt r i) f hc own priv = owner_in r hc.base priv
  owner_is _ f hc own priv = ap (λ (y : ObjectState). y.owner) st.globals ∙ sym ((subst (FramesStand x code ls t view m) own.1.0 below).2 own.1.1)

  -- the cell of a check that is remembered
  pub pass_at : (c : Cell) (f : Field) (b : Option ℕ) (n : ℕ) → HasCell x code l c f → IsPlace x l c b n
      → (number_in (g.threads t) c ≡ n) × (((b ≡ None) × (object_of_cell (g.threads t) c ≡ 0)) ⊎ ((v : ℕ) × ((b ≡ Some v) × ((refs v ≡ object_of_cell (g.threads t) c) × (refs v ≢ 0)))))
  pass_at (Cell.Global a p) f b n hc k = ((let e = k.1 in omega arith), inl (k.0, refl))
  pass_at (Cell.GlobalAt a i) f b n hc k =
      let q = k.1 in
      let ni = number_at i (OfGlobalCells q.0 q.1 q.2 (Nth q.3)) q.4 in
      let pl : place m (Cell.GlobalAt a i) ≡ q.0 + ni.0 * q.1 = ap word_of ni.2 in
      let e : ni.0 * q.1 ≡ q.3 * q.1 = ap (λ n. n * q.1) ni.3 in
      let is = q.5 in
      (omega arith, inl (k.0, refl))
  pass_at (Cell.Object r i) f b n hc k =
      let v = k.1.0 in
      let nz : in_ref world (RegisterOf t (m.at.refs + r)) ≢ 0 = (top (suc r) 0).known r (omega arith) hc.base in
      let e : refs v ≡ ref m r = sym (same_ref l refs alls r v k.1.2) ∙ sym (reads r) in
      ((let z : number_in m (Cell.Object r i) ≡ i = omega arith in z ∙ k.0), inr (v, (k.1.1, (e, λ z. nz (same_ref l refs alls r v k.1.2 ∙ z)))))
  pass_at (Cell.ObjectAt r i) f b n hc k =
      let v = k.0 in
      let nz : in_ref world (RegisterOf t (m.at.refs + r)) ≢ 0 = (top (suc r) 0).known r (omega arith) hc.base in
      let e : refs v ≡ ref m r = sym (same_ref l refs alls r v k.5) ∙ sym (reads r) in
      let ni = number_at i (OfElementCell r k.1 (Nth k.2)) k.7 in
      let st_r = subst (EntryStands refs (types_at view m.at.refs) r) k.6 ((top (suc r) 0).env r (omega arith)) nz in
      let tg : (types_at view m.at.refs r).target ≡ k.3.target = ap (λ (y : ObjectType). y.target) st_r in
      let pl : word_of (int m i) ≡ ni.0 * cells_of x (types_at view m.at.refs r).target + k.1 = ap word_of ni.2 in
      let times : ni.0 * cells_of x (types_at view m.at.refs r).target ≡ k.2 * cells_of x k.3.target = ap (λ n. n * cells_of x (types_at view m.at.refs r).target) ni.3 ∙ ap (λ c. k.2 * cells_of x c) tg in
      let is = k.8 in
      (omega arith, inr (v, (k.4, (e, λ z. nz (same_ref l refs alls r v k.5 ∙ z)))))

  -- a check of the cell has passed
  passed_here : (write : Bool) (c : Cell) (f : Field) → HasCell x code l c f → f.mode ≡ Dynamic → IsChecked x l write c f.holds → Passed (world.gran (object_of_cell (g.threads t) c) (number_in (g.threads t) c / 2)) t write
  passed_here write c f hc dyn (Directly was e cov) =
      let th = there c f hc in
      let win : world.win t ≡ May was (base_of_cell m c) (number_in m c) = subst (GateStands s world t m) e gate in
      let right : Right (lang_of x) world t was (base_of_cell m c) (number_in m c) = subst (Rattle.sharc_invariant.specs.World.WinOk (lang_of x) world t) win (st.inv.wins t) in
      let can1 : Can (lang_of x) world t was (object_of_cell m c) (number_in m c) = subst (λ o. Can (lang_of x) world t was o (number_in m c)) th.base right.can in
      let mode : mode_at x (world.obj (object_of_cell m c)).ty (number_in m c) ≡ CellMode.Dynamic = ap (λ (f : Field). mode_in (world.obj (object_of_cell m c)).ty (number_in m c) f.mode) th.field ∙ ap (mode_in (world.obj (object_of_cell m c)).ty (number_in m c)) dyn in
      covers_read (world.gran (object_of_cell m c) (number_in m c / 2)) t was write cov (subst (CanBy (lang_of x) world t was (object_of_cell m c) (number_in m c)) mode can1)
  passed_here write c f hc dyn (Earlier p is cov pl np) =
      let at = pass_at c f p.base p.cell hc pl in
      let ps = (top 0 0).passed p is in
      let P : ℕ → ℕ → Type 0 = λ o n. Passed (world.gran o (n / 2)) t p.write in
      let got : P (object_of_cell m c) p.cell = ⊎_elim
      (λ z. subst (λ o. P o p.cell) (sym z.1) (subst (PassStands world.gran t refs p) z.0 ps))
      (λ z. let q : PassStands world.gran t refs p (Some z.0) = subst (PassStands world.gran t refs p) z.1.0 ps in subst (λ o. P o p.cell) z.1.1.0 (q z.1.1.1)) at.1 in
      covers_read (world.gran (object_of_cell m c) (number_in m c / 2)) t p.write write cov (subst (P (object_of_cell m c)) (sym at.0) got)

  -- the lock behind a pointer is held
  behind_held : (write : Bool) (c d : Cell) (f h : Field) (field pointer : ℕ) → HasCell x code l c f → HasCell x code l d h → PointsToMutex x h → IsSibling l field pointer c d → l.gate ≡ HoldsLoaded d
      → CanBy (lang_of x) world t write (object_of_cell (g.threads t) c) (number_in (g.threads t) c) (CellMode.Behind (number_in (g.threads t) c - field + pointer))
  behind_held write c d f h field pointer hc hd pm k e =
      let th = there d h hd in
      let sb = sibling field pointer c d f h hc hd k in
      let gt = subst (GateStands s world t m) e gate in
      let pend = m.pending in
      let loaded = subst (Rattle.sharc_invariant.specs.World.WinOk (lang_of x) world t) gt.0 (st.inv.wins t) in
      let o = object_of_cell m c in
      let j = number_in m c - field + pointer in
      let slot : (world.slots (Rattle.sharc_invariant.specs.World.Cell o j)).reference ≡ pend =
      ap (λ o. (world.slots (Rattle.sharc_invariant.specs.World.Cell o j)).reference) (sym (th.base ∙ sb.0)) ∙ ap (λ i. (world.slots (Rattle.sharc_invariant.specs.World.Cell (base_of world t (base_of_cell m d)) i)).reference) (sym sb.1) ∙ loaded.1 in
      let nz : (world.slots (Rattle.sharc_invariant.specs.World.Cell o j)).reference ≢ 0 = λ z. gt.1 (sym slot ∙ z) in
      let fit = st.inv.words.fits (Rattle.sharc_invariant.specs.World.Cell o j) nz in
      let live : (world.obj pend).live ≡ true = subst (λ p. (world.obj p).live ≡ true) slot fit.live in
      let live_o : (world.obj o).live ≡ true = (there c f hc).live in
      let field_d : field_in x (world.obj o).ty j ≡ h = ap (λ o. field_in x (world.obj o).ty j) (sym sb.0) ∙ ap (field_in x (world.obj (object_of_cell m d)).ty) (sym sb.1) ∙ th.field in
      let typed : (world.obj pend).ty.target ≡ pm.to.target =
      ap (λ p. (world.obj p).ty.target) (sym slot) ∙ ap (λ (y : ObjectType). y.target) (fit.typed ∙ st.inv.words.cells o j live_o)
      ∙ ap (λ (f : Field). (type_in (world.obj o).ty o j f.holds).target) field_d ∙ ap (λ h. (type_in (world.obj o).ty o j h).target) pm.holds in
      let rows = (st.rows pend gt.1 live).1 in
      let first : field_in x (world.obj pend).ty 0 ≡ field_at x pm.to.target 0 =
      field_row x (world.obj pend).ty 0 rows ∙ ap (λ y. field_of_cell x y 0) typed ∙ ap (field_at x pm.to.target) (mod-eq_of_lt pm.some) in
      let whole = st.whole pend gt.1 live in
      let cells_of_pend : st.cells pend ≡ st.elements pend * cells_of x pm.to.target = whole.1 ∙ ap (λ y. st.elements pend * cells_of x y) typed in
      let some : 1 * cells_of x pm.to.target ≤ st.elements pend * cells_of x pm.to.target = mul-le-mul_right (cells_of x pm.to.target) whole.0 in
      let one' = suc-mul 0 (cells_of x pm.to.target) in
      let lt : 0 < st.cells pend = let z = pm.some in omega arith in
      let w0 = cell_word_is x code s ls wt fits g world st t m names l top reads pend 0 live lt in
      let eq : cell_of pend 0 ≡ 2 * (pend + 1) + 0 = omega arith in
      let held : world.mutex pend 0 ≡ suc t = (st.locks.held t pend 0 low live lt (ap (λ (f : Field). is_mutex f.holds) first ∙ ap is_mutex pm.mutex)).1 (ap (is_held m) (sym (ap (cell_word s) eq ∙ w0)) ∙ gt.2) in
      ap (λ v. world.mutex v 0) slot ∙ held

  -- the thread may make the access
  can_access : (write : Bool) (c : Cell) (f : Field) (mode : FieldMode) → f.mode ≡ mode → HasCell x code l c f → MayAccess x code ls l write c f.holds mode
      → CanBy (lang_of x) world t write (object_of_cell (g.threads t) c) (number_in (g.threads t) c) (mode_in (world.obj (object_of_cell (g.threads t) c)).ty (number_in (g.threads t) c) mode)
  can_access write c f Private e hc k =
      let th = there c f hc in
      owner_is c f hc k (wt.targets.whole (world.obj (object_of_cell m c)).ty (number_in m c) (ap (λ (f : Field). mode_in (world.obj (object_of_cell m c)).ty (number_in m c) f.mode) th.field ∙ ap (mode_in (world.obj (object_of_cell m c)).ty (number_in m c)) e))
  can_access write c f Readonly e hc k = k
  can_access write c f Racy e hc k = tt
  can_access write c f Dynamic e hc k = passed_here write c f hc e k
  can_access write c f (Under lock) e hc k =
      let gt = subst (GateStands s world t m) k.2 gate in
      lock_held write c k.0 f k.1 lock hc k.3 k.5 (held_mutex k.0 k.1 (there k.0 k.1 k.3) k.4 gt.1)
  can_access write c f (Behind field pointer) e hc k = behind_held write c k.0 f k.1 field pointer hc k.3 k.4 k.5 k.2

  pub right : (write : Bool) (c : Cell) (f : Field) → HasCell x code l c f → MayAccess x code ls l write c f.holds f.mode → Right (lang_of x) world t write (base_of_cell (g.threads t) c) (number_in (g.threads t) c)
  right write c f hc k =
      let th = there c f hc in
      let can0 = can_access write c f f.mode refl hc k in
      let can1 : Can (lang_of x) world t write (object_of_cell m c) (number_in m c) =
      subst (λ (f : Field). CanBy (lang_of x) world t write (object_of_cell m c) (number_in m c) (mode_in (world.obj (object_of_cell m c)).ty (number_in m c) f.mode)) (sym th.field) can0 in
      record { based = th.based; can = subst (λ o. Can (lang_of x) world t write o (number_in m c)) (sym th.base) can1 }

  -- ---- the type of what a cell refers to
  global_lock : (ty : ObjectType) (v place : ℕ) (a : Lock) (b : FieldLock) → IsGlobalLock place a b → mutex_of refs v a ≡ field_mutex ty 0 (place - 2) b
  global_lock ty v place (Global i) (OfGlobals k) h = ap (λ j. record { object = 0; cell = j }) h
  global_lock ty v place (Global i) (OfElement field mutex) h = ap (λ j. record { object = 0; cell = j }) (let a = h.0 in let b = h.1 in let e : i ≡ place - 2 - field + mutex = omega arith in e)
  global_lock ty v place (Through q i) (OfGlobals k) h = absurd h
  global_lock ty v place (Self i) (OfGlobals k) h = absurd h
  global_lock ty v place _ _ h = absurd h

  any_global_lock : (ty : ObjectType) (v j : ℕ) (a : Lock) (b : FieldLock) → IsAnyGlobalLock a b → mutex_of refs v a ≡ field_mutex ty 0 j b
  any_global_lock ty v j (Global i) (OfGlobals k) h = ap (λ j. record { object = 0; cell = j }) h
  any_global_lock ty v j (Through q i) (OfGlobals k) h = absurd h
  any_global_lock ty v j (Self i) (OfGlobals k) h = absurd h
  any_global_lock ty v j _ _ h = absurd h

  object_lock : (r : ℕ) (s0 : StaticType) (v i : ℕ) → l.env r ≡ Refers s0 → l.known r ≡ true → (a : Lock) (b : FieldLock) → IsFieldLock l r i s0 a b → mutex_of refs v a ≡ field_mutex (world.obj (ref (g.threads t) r)).ty (ref (g.threads t) r) i b
  object_lock r s0 v i e kn (Global j) (OfGlobals k) h = ap (λ j. record { object = 0; cell = j }) h
  object_lock r s0 v i e kn (Through q j) (OfElement field mutex) h =
      ap (λ o. record { object = o; cell = j }) (sym (same_ref l refs alls r q h.2) ∙ sym (reads r)) ∙ ap (λ j. record { object = ref m r; cell = j }) h.1
  object_lock r s0 v i e kn (Global j) (OfType k) h = same_lock l refs alls r (Global j) (slice_index_or s0.locks k no_lock) h.1 ∙ sym (type_lock r s0 k e kn h.0)
  object_lock r s0 v i e kn (Through q j) (OfType k) h = same_lock l refs alls r (Through q j) (slice_index_or s0.locks k no_lock) h.1 ∙ sym (type_lock r s0 k e kn h.0)
  object_lock r s0 v i e kn (Self j) (OfGlobals k) h = absurd h
  object_lock r s0 v i e kn _ _ h = absurd h

  any_lock : (r : ℕ) (s0 : StaticType) (v i : ℕ) → l.env r ≡ Refers s0 → l.known r ≡ true → (a : Lock) (b : FieldLock) → IsAnyLock l r s0 a b → mutex_of refs v a ≡ field_mutex (world.obj (ref (g.threads t) r)).ty (ref (g.threads t) r) i b
  any_lock r s0 v i e kn (Global j) (OfGlobals k) h = ap (λ j. record { object = 0; cell = j }) h
  any_lock r s0 v i e kn (Global j) (OfType k) h = object_lock r s0 v 0 e kn (Global j) (OfType k) h
  any_lock r s0 v i e kn (Through q j) (OfType k) h = object_lock r s0 v 0 e kn (Through q j) (OfType k) h
  any_lock r s0 v i e kn (Self j) (OfGlobals k) h = absurd h
  any_lock r s0 v i e kn _ _ h = absurd h

  locks_are : (c : Cell) (f : Field) (v : ℕ) (locks : List Lock) (fields : List FieldLock) → HasCell x code l c f → AreFieldLocks l c locks fields
      → map (mutex_of refs v) locks ≡ map (field_mutex (world.obj (object_of_cell (g.threads t) c)).ty (object_of_cell (g.threads t) c) (number_in (g.threads t) c)) fields
  locks_are (Cell.Global a p) f v locks fields hc h =
      map_same (IsGlobalLock p) (mutex_of refs v) (field_mutex (world.obj 0).ty 0 (number_in m (Cell.Global a p)))
      (λ x y k. global_lock (world.obj 0).ty v p x y k) locks fields h
  locks_are (Cell.GlobalAt a p) f v locks fields hc h =
      map_same IsAnyGlobalLock (mutex_of refs v) (field_mutex (world.obj 0).ty 0 (number_in m (Cell.GlobalAt a p))) (λ x y k. any_global_lock (world.obj 0).ty v (number_in m (Cell.GlobalAt a p)) x y k) locks fields h
  locks_are (Cell.Object r i) f v locks fields hc h =
      map_same (IsFieldLock l r i h.0) (mutex_of refs v) (field_mutex (world.obj (ref m r)).ty (ref m r) (number_in m (Cell.Object r i)))
      (λ x y k. object_lock r h.0 v i h.1 hc.base x y k ∙ ap (λ i. field_mutex (world.obj (ref m r)).ty (ref m r) i y) (let e : i ≡ number_in m (Cell.Object r i) = omega arith in e)) locks fields h.2
  locks_are (Cell.ObjectAt r i) f v locks fields hc h =
      map_same (IsAnyLock l r h.0) (mutex_of refs v) (field_mutex (world.obj (ref m r)).ty (ref m r) (number_in m (Cell.ObjectAt r i))) (λ x y k. any_lock r h.0 v (number_in m (Cell.ObjectAt r i)) h.1 hc.base x y k) locks fields h.2

  pub points_to : (c : Cell) (f : Field) (ty : StaticType) (v : ℕ) → HasCell x code l c f → PointsTo l c f ty
      → type_at x (world.obj (object_of_cell (g.threads t) c)).ty (object_of_cell (g.threads t) c) (number_in (g.threads t) c) ≡ type_of refs v ty
  points_to c f ty v hc p =
      let th = there c f hc in
      let o = object_of_cell m c in
      let j = number_in m c in
      ap (λ (f : Field). type_in (world.obj o).ty o j f.holds) th.field ∙ ap (type_in (world.obj o).ty o j) p.holds
      ∙ ap (λ target. with_locks target (map (field_mutex (world.obj o).ty o j) p.to.locks)) (sym p.target)
      ∙ ap (with_locks ty.target) (sym (locks_are c f v ty.locks p.to.locks hc p.locks))
