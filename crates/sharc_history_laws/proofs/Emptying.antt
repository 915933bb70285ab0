-- An object whose pointer cells a Free empties: the thread goes on with it until the object is gone.
use Rattle.sharc_history_laws.proofs.{Imports.{◌≡◌, ℕ, zero, suc, ◌+◌, ◌*◌, ◌⊎◌, inl, inr, min, true, false, nat_lt, Some, if◌then◌else◌, refl, sym, ap, ◌∙◌, subst, ⊎_elim, cases_eq, Code, Layout, Shape, Stage, Empties, Lowers, FreeLooks, FreeClears, Uncounts, Machine, instr_at, ref, act, free, layout_at, empties, emptied, free_looks, at_stage, data_granules, fields, largest, turn, after, may_go, Turn, Global, after_turn, state_now, result_of, words_now, is_started, one_thread, bounds, Instr, is_clearing, or_right, put_same, put_other}, Acts.{freed_at, freed_in}}

-- the thread is in the middle of a Free of this object
pub record IsFreeing (code : Code) (m : Machine) (o : ℕ) : Type 0 where
  pub register : ℕ
  pub layout : ℕ
  pub site : ℕ
  pub is_free : instr_at code m.at.pc ≡ Instr.Free register layout site
  pub emptying : is_clearing m.own.stage ≡ true
  pub object : ref m register ≡ o
  pub on : may_go m.at.state ≡ true

-- where a Free empties a cell of it
pub begins_freeing : (code : Code) (m : Machine) (o : ℕ) → may_go m.at.state ≡ true → (q layout site n all : ℕ) → instr_at code m.at.pc ≡ Instr.Free q layout site → m.own.stage ≡ Empties n all → ref m q ≡ o → IsFreeing code m o
begins_freeing code m o on q layout site n all is at e = record { register = q; layout = layout; site = site; is_free = is; emptying = ap is_clearing at; object = e; on = on }

abbrev pub IsEmptied : Code → Global Machine → ℕ → Type 0
IsEmptied code g o = (u : ℕ) × ((g.started u ≡ true) × IsFreeing code (g.threads u) o)

-- ---- one turn of the Free
module _ (code : Code) (s : Shape) (m : Machine) (r : ℕ) where
  -- it goes on with the same object
  pub record GoesOn (y : Machine) : Type 0 where
    pub pc : y.at.pc ≡ m.at.pc
    pub refs : ref y r ≡ ref m r
    pub emptying : is_clearing y.own.stage ≡ true
    pub on : may_go y.at.state ≡ true

  at : (stage : Stage) → is_clearing stage ≡ true → GoesOn (at_stage m stage)
  at stage e = record { pc = refl; refs = refl; emptying = e; on = refl }

  at_looks : (l : Layout) (done elements : ℕ) → GoesOn (free_looks m l done elements)
  at_looks l done elements = elim (nat_lt done (data_granules elements l.cells)) as (λ b. GoesOn (if b then at_stage m (FreeLooks done elements) else at_stage m (Uncounts elements))) [
    | true ↦ at (FreeLooks done elements) refl
    | false ↦ at (Uncounts elements) refl
  ]

  at_empties : (l : Layout) (i elements : ℕ) → GoesOn (empties m l i elements)
  at_empties l i elements = elim (nat_lt i (min (elements * fields l) largest)) as (λ b. GoesOn (if b then at_stage m (Empties i elements) else free_looks m l 0 elements)) [
    | true ↦ at (Empties i elements) refl
    | false ↦ at_looks l 0 elements
  ]

  at_emptied : (l : Layout) (i elements found : ℕ) → GoesOn (emptied m l i elements found)
  at_emptied l i elements zero = at_empties l (i + 1) elements
  at_emptied l i elements (suc k) = at (Lowers i elements (suc k)) refl

  goes_on : (l : Layout) (stage : Stage) (found : ℕ) → is_clearing stage ≡ true → (freed_in stage (ref m r) ≡ Some (ref m r)) ⊎ GoesOn (after (free code s m r l stage) found)
  goes_on l (Empties i elements) found e = inr (at_emptied l i elements found)
  goes_on l (Lowers i elements was) found e = inr (at_empties l (i + 1) elements)
  goes_on l (FreeLooks done elements) found e = inr (at (FreeClears done elements found) refl)
  goes_on l (FreeClears done elements seen) found e = inr (at_looks l (done + 1) elements)
  goes_on l (Uncounts elements) found e = inl refl
  goes_on l _ found e = absurd (cc)

-- the turn frees the object, or goes on with it
pub freeing_then : (code : Code) (s : Shape) (m : Machine) (o found : ℕ) → IsFreeing code m o → (freed_at (instr_at code m.at.pc) m ≡ Some o) ⊎ IsFreeing code (after (turn code s m) found) o
freeing_then code s m o found k = ⊎_elim
    (λ (e : freed_in m.own.stage (ref m k.register) ≡ Some (ref m k.register)). inl (ap (λ i. freed_at i m) k.is_free ∙ e ∙ ap (λ n. Some n) k.object))
    (λ (y : GoesOn code s m k.register (after (free code s m k.register (layout_at code k.layout) m.own.stage) found)).
    inr (subst (λ i. IsFreeing code (after (act code s i m) found) o) (sym k.is_free) (record {
      register = k.register;
      layout = k.layout;
      site = k.site;
      is_free = ap (instr_at code) y.pc ∙ k.is_free;
      emptying = y.emptying;
      object = y.refs ∙ k.object;
      on = y.on;
    })))
    (goes_on code s m k.register (layout_at code k.layout) m.own.stage found k.emptying)

-- ---- one turn of all threads
module _ (code : Code) (s : Shape) (g : Global Machine) (one : Turn) where
  abbrev t : ℕ
  t = one.thread

  abbrev after' : Global Machine
  after' = after_turn bounds (one_thread code s) g one

  started_still : (u : ℕ) → g.started u ≡ true → (after_turn bounds (one_thread code s) g one).started u ≡ true
  started_still u e = or_right (is_started bounds (words_now g.words one.event) u) (g.started u) e

  -- the thread that makes the turn
  pub own_emptied : (o : ℕ) → g.started one.thread ≡ true → IsFreeing code (after (turn code s (g.threads one.thread)) (result_of one.event)) o → IsEmptied code (after_turn bounds (one_thread code s) g one) o
  own_emptied o on k = (t, (started_still t on, subst (λ (y : Machine). IsFreeing code y o) (sym (put_same g.threads t (state_now (one_thread code s) g one))) k))

  -- an object that is emptied is so still, or the turn frees it
  pub emptied_then : (o : ℕ) → IsEmptied code g o → (freed_at (instr_at code (g.threads one.thread).at.pc) (g.threads one.thread) ≡ Some o) ⊎ IsEmptied code (after_turn bounds (one_thread code s) g one) o
  emptied_then o k = ⊎_elim
      (λ (same : k.0 ≡ t).
      let mine : IsFreeing code (g.threads t) o = subst (λ u. IsFreeing code (g.threads u) o) same k.1.1 in
      let on : g.started t ≡ true = subst (λ u. g.started u ≡ true) same k.1.0 in
      ⊎_elim
      (λ (e : freed_at (instr_at code (g.threads t).at.pc) (g.threads t) ≡ Some o). inl e)
      (λ (y : IsFreeing code (after (turn code s (g.threads t)) (result_of one.event)) o). inr (own_emptied o on y))
      (freeing_then code s (g.threads t) o (result_of one.event) mine))
      (λ (ne : k.0 ≡ t → ⊥).
      inr (k.0, (started_still k.0 k.1.0, subst (λ (y : Machine). IsFreeing code y o) (sym (put_other g.threads t k.0 (state_now (one_thread code s) g one) ne)) k.1.1)))
      (cases_eq k.0 t)
