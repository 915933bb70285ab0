-- A mutex is taken or given back: what the words and the logs then show of the world, and who holds which.
use Rattle.sharc_invariant.proofs.{Imports.{◌≡◌, ℕ, suc, ◌<◌, ◌≢◌, true, List, refl, sym, ap, ◌∙◌, subst, ⊎_elim, ◌↔◌, is_some, Contains, THREADS, HeldMutex, object_of, Shape, Machine, Global, put_all, Targets, Content, field_in, is_mutex, Integer, TypedReference, Slot, LogOf, In, World, place, put2, MachineView, Shows, Apart, FitsContent, cell_at, store, made_turn, Locks}, Effects.{place_same, place_other}, Seen.{pointer_no_mutex, put2_at, put2_off, cell_cell, set_cell, holder_stored}, Listed.pair_cases}

mutex_fits : (h : Content) (v : ℕ) → is_mutex h ≡ true → FitsContent h v
mutex_fits (Integer w) v e = absurd (cc)
mutex_fits _ v e = tt

-- ---- what words and logs show
module _ (x : Targets) (s : Shape) (cells elements : ℕ → ℕ) (c : MachineView) (w : World) (sim : Shows x s cells elements c w) (lie : Apart s w.obj cells) where
  -- the cell of a mutex
  pub mutex_stored : (o i v : ℕ) → (w.obj o).live ≡ true → i < cells o → is_mutex (field_in x (w.obj o).ty i).holds ≡ true
      → Shows x s cells elements (store c (cell_at s o i) v) (record w { mutex = put2 w.mutex o i v })
  mutex_stored o i v lo li mx = set_cell x s cells elements c w sim lie o i v lo li w.slots (put2 w.mutex o i v) (λ a. refl) sim.others (λ z. absurd (pointer_no_mutex (field_in x (w.obj o).ty i).holds z mx)) (λ p j ne. refl)
      (mutex_fits (field_in x (w.obj o).ty i).holds v mx) (λ _. put2_at w.mutex o i v) (λ p j ne. sym (put2_off w.mutex o i p j v ne))

  -- the entry of a log
  pub log_stored : (t k : ℕ) (y : TypedReference) → Shows x s cells elements (record c { logs = put2 c.logs t k y.reference }) (record w { slots = place w.slots (In (LogOf t k)) y })
  log_stored t k y = holder_stored x s cells elements c w sim (LogOf t k) y c.regs c.args (put2 c.logs t k y.reference) c.staged sim.regs sim.args
      (λ u j. ⊎_elim
      (λ (e : (u ≡ t) × (j ≡ k)). let P : ℕ → ℕ → Type 0 = λ u j. (place w.slots (In (LogOf t k)) y (In (LogOf u j))).reference ≡ put2 c.logs t k y.reference u j in
      subst (λ u. P u j) (sym e.0) (subst (P t) (sym e.1) (ap (λ (h : TypedReference). h.reference) (place_same w.slots (In (LogOf t k)) y) ∙ sym (put2_at c.logs t k y.reference))))
      (λ (ne : u ≡ t → j ≡ k → ⊥). ap (λ (h : TypedReference). h.reference) (place_other w.slots (In (LogOf t k)) (In (LogOf u j)) y (λ e. ne (cc) (cc))) ∙ sim.logs u j ∙ put2_off c.logs t k u j y.reference ne)
      (pair_cases u t j k))
      sim.staged

-- ---- who holds which
-- an entry of a log is of a mutex of a live object
abbrev pub IsLogged : Targets → Shape → (ℕ → ℕ) → World → HeldMutex → Type 0
IsLogged x s cells w h = (j : ℕ) × ((h.word ≡ cell_at s h.object j) × ((w.obj h.object).live ≡ true) × (j < cells h.object) × (is_mutex (field_in x (w.obj h.object).ty j).holds ≡ true))

-- mutex j of object o, at word k, is now v, and thread t has this log
pub record Changes (x : Targets) (s : Shape) (cells : ℕ → ℕ) (w : World) (t o j v : ℕ) (old new : List HeldMutex) : Type 0 where
  pub away : (n : ℕ) → n ≢ cell_at s o j → object_of new n ≡ object_of old n
  pub here : (v ≡ suc t) ↔ (is_some (object_of new (cell_at s o j)) ≡ true)
  pub mine : (u : ℕ) → u ≢ t → v ≡ suc u → ⊥
  pub was : (u : ℕ) → u ≢ t → w.mutex o j ≡ suc u → ⊥
  pub logged : (h : HeldMutex) → Contains new h → IsLogged x s cells w h
  pub few : (u : ℕ) → v ≡ suc u → u < THREADS

pub locks_changed : (x : Targets) (s : Shape) (cells elements : ℕ → ℕ) (c : MachineView) (w : World) (g : Global Machine) (sim : Shows x s cells elements c w) (lie : Apart s w.obj cells) (locks : Locks x s cells w g) (t o j v : ℕ)
    → (w.obj o).live ≡ true → j < cells o → is_mutex (field_in x (w.obj o).ty j).holds ≡ true → (words : List ℕ) (m' : Machine) (f : Slot → TypedReference) → Changes x s cells w t o j v (g.threads t).own.held m'.own.held
    → Locks x s cells (record w { slots = f; mutex = put2 w.mutex o j v }) (made_turn g t words m')
locks_changed x s cells elements c w g sim lie locks t o j v lo lj mx words m' f ch =
    let Q : ℕ → ℕ → ℕ → List HeldMutex → Type 0 = λ p q u hd. (put2 w.mutex o j v p q ≡ suc u) ↔ (is_some (object_of hd (cell_at s p q)) ≡ true) in
    record {
      held = λ u p q lt lp lq mq. put_all (λ u (y : Machine). u < THREADS → Q p q u y.own.held) g.threads t m'
          (λ lt. ⊎_elim
          (λ (e : (p ≡ o) × (q ≡ j)). let P : ℕ → ℕ → Type 0 = λ p q. Q p q t m'.own.held in
          let at : P o j = (λ h. ch.here.0 (sym (put2_at w.mutex o j v) ∙ h), λ h. put2_at w.mutex o j v ∙ ch.here.1 h) in
          subst (λ p. P p q) (sym e.0) (subst (P o) (sym e.1) at))
          (λ (ne : p ≡ o → q ≡ j → ⊥).
          let b = ch.away (cell_at s p q) (λ e. let z = cell_cell x s cells elements c w sim lie o j p q lo lp lj lq e in ne z.0 z.1) in
          let a = locks.held t p q lt lp lq mq in
          (λ h. ap is_some b ∙ a.0 (put2_off w.mutex o j p q v ne ∙ h), λ h. sym (put2_off w.mutex o j p q v ne) ∙ a.1 (ap is_some (sym b) ∙ h)))
          (pair_cases p o q j))
          (λ u nu lt.
          let a = locks.held u p q lt lp lq mq in
          ⊎_elim
          (λ (e : (p ≡ o) × (q ≡ j)).
          let v_is : put2 w.mutex o j v p q ≡ v = ap (λ p. put2 w.mutex o j v p q) e.0 ∙ ap (put2 w.mutex o j v o) e.1 ∙ put2_at w.mutex o j v in
          let was : w.mutex p q ≡ w.mutex o j = ap (λ p. w.mutex p q) e.0 ∙ ap (w.mutex o) e.1 in
          (λ h. absurd (ch.mine u nu (sym v_is ∙ h)), λ h. absurd (ch.was u nu (sym was ∙ a.1 h))))
          (λ (ne : p ≡ o → q ≡ j → ⊥). (λ h. a.0 (put2_off w.mutex o j p q v ne ∙ h), λ h. sym (put2_off w.mutex o j p q v ne) ∙ a.1 h))
          (pair_cases p o q j))
          u lt;
      logged = put_all (λ u (y : Machine). (h : HeldMutex) → Contains y.own.held h → IsLogged x s cells w h) g.threads t m' ch.logged (λ u _. locks.logged u);
      few = λ p q u e. ⊎_elim
          (λ (z : (p ≡ o) × (q ≡ j)). ch.few u (sym (ap (λ p. put2 w.mutex o j v p q) z.0 ∙ ap (put2 w.mutex o j v o) z.1 ∙ put2_at w.mutex o j v) ∙ e))
          (λ (ne : p ≡ o → q ≡ j → ⊥). locks.few p q u (put2_off w.mutex o j p q v ne ∙ e))
          (pair_cases p o q j);
      only = λ p q nz. ⊎_elim
          (λ (z : (p ≡ o) × (q ≡ j)).
          let P : ℕ → ℕ → Type 0 = λ p q. ((w.obj p).live ≡ true) × (q < cells p) × (is_mutex (field_in x (w.obj p).ty q).holds ≡ true) in
          subst (λ p. P p q) (sym z.0) (subst (P o) (sym z.1) (lo, lj, mx)))
          (λ (ne : p ≡ o → q ≡ j → ⊥). locks.only p q (λ e. nz (sym (put2_off w.mutex o j p q v ne) ∙ e)))
          (pair_cases p o q j);
    }
