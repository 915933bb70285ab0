-- A lock check that is refused is of an access whose mode names the mutex that the check looks for.
use Rattle.sharc_history_laws.proofs.{Imports.{◌≡◌, ℕ, inl, inr, zero, suc, ◌+◌, Bool, true, false, List, [], ◌∷◌, ◌++◌, Some, None, refl, sym, ap, ◌∙◌, subst, ◌==◌, CellAt, SourceEvent, CellMode, Code, PlaceMode, Cell, Instr, Shape, Stop, NoLock, Fits, Machine, instr_at, word, is_of_null, stopped, opening_words, TurnsComeOut, MayStop, turn, after, Turn, Global, IsRun, MayTurn, state_now, result_of, opening_of, cell_at, made_cell, mode_of, place_at, lock_through, one_thread, bounds, place_after, IsThere, Access, access_by, events_of, holds_mutex, History, Obeys, Until, Targets, Field, FieldMode, Content, Gate, Closed, Checked, Holds, Loaded, HoldsLoaded, Sole, Label, Labels, LessGate, LessNumber, SameReference, gated, IsWellTyped, Fine, Accesses as TypedAccess, MayAccess, IsMode, knows_base, State, OnHold, IsOn, CellsAreThere, IsLockCheck, LacksLock, IsLocked, IsFollowed, ChecksAreFollowed, access_to, access_of, access_checked, ShowsLock, yes, TurnState, put_same, put_other}, TurnAt.{turn_at, thread_at, RunOf}, Consists.Consists, Finds.is_there, Followed.{accessed_is, same_cell, same_access as moved_access}, LockModes.{same_copies, lock_mode_now}, Outcomes.reports, Single.rests_hold, Sole.{Halting, by_last_turn, stop_none}}
use Rattle.sharc_history_laws.specs.Followed.{Accesses}

-- ---- the access that the check is of
-- of the instruction, which accesses this cell at this site
record IsTypedAccess (x : Targets) (code : Code) (ls : Labels) (l : Label) (c : Cell) (site : ℕ) : Type 0 where
  pub write : Bool
  pub field : Field
  pub accesses : TypedAccess x code ls l write c site field

typed_access : (x : Targets) (code : Code) (ls : Labels) (pc : ℕ) (l : Label) (write : Bool) (c : Cell) (site : ℕ) (i : Instr) → Accesses write c site i → Fine x code ls pc l i → IsTypedAccess x code ls l c site
typed_access x code ls pc l write c site i h fine = by write i h fine
  where
    moved : (d : Cell) (at : ℕ) (write : Bool) (f : Field) → c ≡ d → site ≡ at → TypedAccess x code ls l write d at f → IsTypedAccess x code ls l c site
    moved d at write f e g k = record { write = write; field = f; accesses = subst (λ at. TypedAccess x code ls l write c at f) (sym g) (subst (λ d. TypedAccess x code ls l write d at f) (sym e) k) }

    reads : (i : Instr) → Accesses false c site i → Fine x code ls pc l i → IsTypedAccess x code ls l c site
    reads (Instr.Load r d at) h f = moved d at false f.1.0 h.0 h.1 f.1.2
    reads (Instr.LoadRef d at) h f = moved d at false f.0 h.0 h.1 f.2
    reads _ h f = absurd h

    writes : (i : Instr) → Accesses true c site i → Fine x code ls pc l i → IsTypedAccess x code ls l c site
    writes (Instr.Store r d at) h f = moved d at true f.0 h.0 h.1 f.2
    writes (Instr.Exchange r d at) h f = moved d at true f.1.0 h.0 h.1 f.1.2
    writes (Instr.TakeCell r d at) h f = moved d at true f.1.0 h.0 h.1 f.1.2
    writes _ h f = absurd h

    by : (write : Bool) (i : Instr) → Accesses write c site i → Fine x code ls pc l i → IsTypedAccess x code ls l c site
    by true i h f = writes i h f
    by false i h f = reads i h f

holds_is : (c d : Cell) (y : Gate) → LessGate (Holds c) y → y ≡ Holds d → c ≡ d
holds_is c d Closed h e = let f : Closed ≡ Holds d = e in cc
holds_is c d (Checked w b) h e = let f : Checked w b ≡ Holds d = e in cc
holds_is c d (Holds b) h e = let f : Holds b ≡ Holds c = h in let k : Holds b ≡ Holds d = e in cc
holds_is c d (Loaded b) h e = let f : Loaded b ≡ Holds d = e in cc
holds_is c d (HoldsLoaded b) h e = let f : HoldsLoaded b ≡ Holds d = e in cc
holds_is c d (Sole r b) h e = let f : Sole r b ≡ Holds d = e in cc

base_copies : (l : Label) (c : Cell) (g : Gate) (r : ℕ) → (gated (knows_base l c) g).same r ≡ l.same r
base_copies l (Cell.Global h p) g r = refl
base_copies l _ g r = refl

base_numbers : (l : Label) (c : Cell) (g : Gate) (i : ℕ) → (gated (knows_base l c) g).ints i ≡ l.ints i
base_numbers l (Cell.Global h p) g i = refl
base_numbers l _ g i = refl

base_gate : (l : Label) (c : Cell) (g : Gate) → (gated (knows_base l c) g).gate ≡ g
base_gate l (Cell.Global h p) g = refl
base_gate l _ g = refl

-- a lock that a ChkLock looks for is that of a field that is under a lock
module _ (x : Targets) (code : Code) (ls : Labels) (l : Label) (c : Cell) (write : Bool) (holds : Content) where
  record IsUnder (mode : PlaceMode) : Type 0 where
    pub lock : Rattle.sharc_invariant.specs.Types.FieldLock
    pub is : IsMode code l c (FieldMode.Under lock) mode
    pub may : MayAccess x code ls l write c holds (FieldMode.Under lock)

  under : (f : FieldMode) (mode : PlaceMode) → IsLocked mode → IsMode code l c f mode → MayAccess x code ls l write c holds f → IsUnder mode
  under (FieldMode.Under lock) mode locked is may = record { lock = lock; is = is; may = may }
  under _ mode locked is may = absurd (subst IsLocked is locked)

module _ (cell_laws : CellsAreThere) (x : Targets) (code : Code) (s : Shape) (ls : Labels) (wt : IsWellTyped x code ls) (fits : Fits code s) (followed : ChecksAreFollowed code) (g : Global Machine) (world : Rattle.sharc_invariant.specs.World.World) (st : State x code s ls g world) (t : ℕ) (on : IsOn g t) where
  open thread_at st t use {m, here}

  abbrev next : Label
  next = ls.at ((g.threads t).at.pc + 1)

  fine_here : (i : Instr) → instr_at code (g.threads t).at.pc ≡ i → Fine x code ls (g.threads t).at.pc here i
  fine_here i is = subst (Fine x code ls m.at.pc here) is (wt.fine m.at.pc)

  -- the access that was refused, by the machine before its check
  pub record NamesLock (mutex : CellAt) : Type 0 where
    pub access : Access
    pub is : access_of code (g.threads t) (instr_at code ((g.threads t).at.pc + 1)) ≡ Some access
    pub mode : access.mode ≡ CellMode.Locked (Some mutex)

  pub of_cell : (d : Cell) (site : ℕ) → instr_at code (g.threads t).at.pc ≡ Instr.ChkLock d site → is_of_null (g.threads t) d ≡ false → NamesLock (cell_at code (g.threads t) d)
  of_cell d site is some =
      let i = Instr.ChkLock d site in
      let pc = m.at.pc in
      let f : IsFollowed code i (instr_at code (pc + 1)) = subst (λ j. IsFollowed code j (instr_at code (pc + 1))) is (followed pc) in
      let locked = f.0 in
      let write = f.1.0 in
      let c = f.1.1 in
      let fine = fine_here i is in
      let leads = fine.2 in
      let a = typed_access x code ls (pc + 1) next write c site (instr_at code (pc + 1)) f.1.2 (wt.fine (pc + 1)) in
      let u = under x code ls next c a.write a.field.holds a.field.mode (place_at code site).mode locked a.accesses.mode a.accesses.may in
      let same : d ≡ u.may.0 = holds_is d u.may.0 next.gate (subst (λ g. LessGate g next.gate) (base_gate here d (Holds d)) leads.gate) u.may.2 in
      let hold : OnHold m.own.stage = rests_hold code s st.elements world st.heap g.words t m i m.own.stage refl (subst (λ i. Rattle.sharc_invariant.specs.State.StageStands code s st.elements world st.heap g.words t m i m.own.stage) is ((st.threads t).runs on.0 on.1).stage) in
      let copies : (r : ℕ) → SameReference here r (next.same r) = λ r. same_copies (gated (knows_base here d) (Holds d)) here (base_copies here d (Holds d)) r (next.same r) (leads.same r) in
      let values : (j : ℕ) → LessNumber (here.ints j) (next.ints j) = λ j. subst (λ n. LessNumber n (next.ints j)) (base_numbers here d (Holds d) j) (leads.ints j) in
      let there : IsThere code m d = is_there cell_laws x code s ls wt fits g world st t on hold d fine.1.0 fine.1.1 some in
      let mutex_of = subst (λ d. Rattle.sharc_invariant.specs.Typed.IsMutexOf code next u.lock c d) (sym same) u.may.5 in
      record {
        access = access_to code m c site write;
        is = accessed_is code m c site write (instr_at code (pc + 1)) f.1.2;
        mode = lock_mode_now x code s ls wt fits g world st t on hold next copies values c d u.lock (place_at code site).mode mutex_of u.is there;
      }

  pub of_loaded : (site : ℕ) → instr_at code (g.threads t).at.pc ≡ Instr.ChkLockLoaded site → ((g.threads t).pending == 0) ≡ false → NamesLock (made_cell (g.threads t).pending 0)
  of_loaded site is some =
      let pc = m.at.pc in
      let f : IsFollowed code (Instr.ChkLockLoaded site) (instr_at code (pc + 1)) = subst (λ j. IsFollowed code j (instr_at code (pc + 1))) is (followed pc) in
      let write = f.1.0 in
      let c = f.1.1 in
      record {
        access = access_to code m c site write;
        is = accessed_is code m c site write (instr_at code (pc + 1)) f.1.2;
        mode = ap (mode_of code m (cell_at code m c)) f.0 ∙ ap (λ mutex. CellMode.Locked mutex) (through m.pending some);
      }
    where
      through : (n : ℕ) → (n == 0) ≡ false → lock_through n 0 ≡ Some (made_cell n 0)
      through zero e = absurd (yes e)
      through (suc n) e = refl

-- ---- the machine that stopped has the same registers
module _ (code : Code) (m : Machine) (stop : Stop) where
  same_to : (c : Cell) (site : ℕ) (write : Bool) → access_to code (stopped m stop) c site write ≡ access_to code m c site write
  same_to = moved_access code m m.at.pc TurnState.Stopped (record m.own { stop = Some stop })

  pub same_access : (i : Instr) → access_of code (stopped m stop) i ≡ access_of code m i
  same_access (Instr.Load r c site) = ap (λ a. Some a) (same_to c site false)
  same_access (Instr.LoadRef c site) = ap (λ a. Some a) (same_to c site false)
  same_access (Instr.Store r c site) = ap (λ a. Some a) (same_to c site true)
  same_access (Instr.Exchange r c site) = ap (λ a. Some a) (same_to c site true)
  same_access (Instr.TakeCell r c site) = ap (λ a. Some a) (same_to c site true)
  same_access _ = refl

-- ---- runs
module _ (outs : TurnsComeOut) (cell_laws : CellsAreThere) (x : Targets) (code : Code) (s : Shape) (ls : Labels) (wt : IsWellTyped x code ls) (fits : Fits code s) (followed : ChecksAreFollowed code)
    (all : (run : List Turn) → IsRun bounds (one_thread code s) (opening_of bounds (one_thread code s) (opening_words code s)) run → Halting code s run)
    (stands : (run : List Turn) → IsRun bounds (one_thread code s) (opening_of bounds (one_thread code s) (opening_words code s)) run → Consists x code s ls run) where
  -- the mutex that the check looks for, and the access
  pub record Names (m : Machine) (site : ℕ) : Type 0 where
    pub mutex : CellAt
    pub check : IsLockCheck code m (instr_at code m.at.pc) site mutex
    pub access : Access
    pub is : access_checked code m ≡ Some access
    pub mode : access.mode ≡ CellMode.Locked (Some mutex)

  module _ (one : Turn) (earlier : List Turn) (run : RunOf code s (one ∷ earlier)) (site word : ℕ) where
    open turn_at code s (place_after code s earlier) one use {g, m as checker, i}

    abbrev now : Machine
    now = after (turn code s ((place_after code s earlier).threads one.thread)) (result_of one.event)

    may : MayTurn bounds (one_thread code s) (place_after code s earlier) one
    may = run.1

    on : IsOn (place_after code s earlier) one.thread
    on = (may.started, may.next.runs)

    fresh : ((place_after code s earlier).threads one.thread).own.stop ≡ None
    fresh = stop_none checker.own.stop (λ z. yes (sym may.next.runs ∙ (all earlier run.0).halts one.thread z))

    abbrev st : State x code s ls (place_after code s earlier) (stands earlier run.0).world
    st = (stands earlier run.0).state

    names_now : MayStop s i ((place_after code s earlier).threads one.thread) (result_of one.event) (NoLock site word) → now ≡ stopped ((place_after code s earlier).threads one.thread) (NoLock site word) → Names now site
    names_now (inl stop_at) y =
        let c = stop_at.0 in
        let is = stop_at.1 in
        let some = stop_at.2 in
        let k = of_cell cell_laws x code s ls wt fits followed g (stands earlier run.0).world st one.thread on c site is some in
        let stop = NoLock site word in
        subst (λ y. Names y site) (sym y) (record {
          mutex = cell_at code checker c;
          check = subst (λ j. IsLockCheck code (stopped checker stop) j site (cell_at code checker c)) (sym is) (refl, sym (same_cell code checker checker.at.pc TurnState.Stopped (record checker.own { stop = Some stop }) c));
          access = k.access;
          is = same_access code checker stop (instr_at code (checker.at.pc + 1)) ∙ k.is;
          mode = k.mode;
        })
    names_now (inr stop_at) y =
        let is = stop_at.0 in
        let some = stop_at.1 in
        let k = of_loaded cell_laws x code s ls wt fits followed g (stands earlier run.0).world st one.thread on site is some in
        let stop = NoLock site word in
        subst (λ y. Names y site) (sym y) (record {
          mutex = made_cell checker.pending 0;
          check = subst (λ j. IsLockCheck code (stopped checker stop) j site (made_cell checker.pending 0)) (sym is) (refl, refl);
          access = k.access;
          is = same_access code checker stop (instr_at code (checker.at.pc + 1)) ∙ k.is;
          mode = k.mode;
        })

    pub names_then : now.own.stop ≡ Some (NoLock site word) → Names now site
    names_then is = let k = reports s i (result_of one.event) checker now (outs code s i checker (result_of one.event)) (NoLock site word) refl fresh is in names_now k.0 k.1

  pub locks_named : (run : List Turn) → RunOf code s run → (t site word : ℕ) → ((place_after code s run).threads t).own.stop ≡ Some (NoLock site word) → Names ((place_after code s run).threads t) site
  locks_named run is_run t site word = by_last_turn code s (λ y. y.own.stop ≡ Some (NoLock site word)) (λ run t. Names ((place_after code s run).threads t) site) (λ t is. absurd (let f : None ≡ Some (NoLock site word) = is in cc))
      (λ one earlier t ne k. subst (λ y. Names y site) (sym (put_other (place_after code s earlier).threads one.thread t (state_now (one_thread code s) (place_after code s earlier) one) ne)) k)
      (λ one earlier run _ is. subst (λ y. Names y site) (sym (put_same (place_after code s earlier).threads one.thread (state_now (one_thread code s) (place_after code s earlier) one))) (names_then one earlier run site word is)) run is_run t

-- the check looks for one mutex
one_mutex : (code : Code) (m : Machine) (i : Instr) (a b : ℕ) (c d : CellAt) → IsLockCheck code m i a c → IsLockCheck code m i b d → c ≡ d
one_mutex code m (Instr.ChkLock cell at) a b c d h k = h.1 ∙ sym k.1
one_mutex code m (Instr.ChkLockLoaded at) a b c d h k = h.1 ∙ sym k.1
one_mutex code m _ a b c d h k = absurd h

pub shows_lock : (code : Code) (R : History) (t : ℕ) (m : Machine) (site : ℕ) → LacksLock code R t m site → (mutex : CellAt) → IsLockCheck code m (instr_at code m.at.pc) site mutex → (a : Access) → access_checked code m ≡ Some a → a.mode ≡ CellMode.Locked (Some mutex) → ShowsLock code R t m site
shows_lock code R t m site k mutex check a is mode =
    let same : k.mutex ≡ mutex = one_mutex code m (instr_at code m.at.pc) site site k.mutex mutex k.check check in
    record { mutex = mutex; check = check; access = a; is = is; mode = mode; unheld = subst (λ c. holds_mutex (events_of t R) c ≡ false) same k.unheld }

-- ---- the rules
pub breaks : (code : Code) (R : History) (t : ℕ) (m : Machine) (site : ℕ) → ShowsLock code R t m site → (e : SourceEvent) → e.thread ≡ t → access_by e.act ≡ access_checked code m → (until : Until) → Obeys (R ++ e ∷ []) until → ⊥
breaks code R t m site k e thread is until obeys =
    let held : holds_mutex (events_of e.thread R) k.mutex ≡ true = obeys.under_lock R e [] k.access k.mutex refl (is ∙ k.is) k.mode in
    yes (sym held ∙ ap (λ t. holds_mutex (events_of t R) k.mutex) thread ∙ k.unheld)
