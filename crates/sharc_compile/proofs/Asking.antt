-- The statements of one turn that ask for an event.
use Rattle.sharc_compile.proofs.{Imports.{is_some, length, eqb-true, ◌≡◌, ℕ, ℤ, zero, suc, pos, negsuc, ◌+◌, ◌<◌, ◌≤◌, inr, Bool, true, false, ◌||◌, List, [], ◌∷◌, ◌++◌, refl, sym, ap, ◌∙◌, subst, arith, ◌==◌, nat_lt, Option, None, ne_eqb, lt-ltb, if◌then◌else◌, Act, CellAt, CellMode, SourceEvent, Taken, HeldMutex, object_of, without, waits_in, THREADS, WordOp, Code, GlobalCells, PlaceMode, Cell, Global, GlobalAt, InObject, ObjectAt, Instr, Shape, Runs, Rests, Trapped as Trap, int_of, first_cell, state_word, Machine, int, ref, set_int, set_ref, move_ref, goes, fails, trapped, accessed, place, object, word, raise, test, reference_of, taken, locked, unlocked, joined, join, woken, Local, AsksStep, step_of, after, asked_by, is_failed_try, reference, cell_at, mode_of, place_at, kind_of, variable_of, access, event_at, take_local, BaseWithin, Program, Thread, Turn, Running, event_of, source_at, statement_at, NULL, is_null, program_over, Elements, IsNumber, IsFree, IsHeld, elements_told, Same, AreHeld, IsReference, Refuses}, Registers.no_reference, Logs.{Apart, without_is, object_held, log_pushed}, Sames.{all_ints, all_refs, int_is, ref_is, null_at, set_int_same, set_ref_same, null_same, pending_same, base_is, cell_is, mode_is, is_cell, word_is}, Turns.{Turned, event_is, asks_on, plain, halts, tries_again}}
use Rattle.sharc_tree.specs.declared.trap.Trap.TheVariants as traps
use Rattle.sharc_guard.specs.Machine as Form

-- a turn that may ask for a step leads to the same machine in any case
pub raised : (s : Shape) (n : ℕ) (x : Machine) (found : ℕ) → after (raise s n x) found ≡ x
raised s zero x found = refl
raised s (suc n) x found = refl

tests : (s : Shape) (n : ℕ) (x : Machine) (found : ℕ) → after (test s n x) found ≡ x
tests s zero x found = refl
tests s (suc n) x found = refl

module _ (code : Code) (s : Shape) (statements : List Instr) (T : Elements) (m : Machine) (a : Thread) (cost : ℕ) (one : cost ≤ 1) (rest : m.own.stage ≡ Rests)
    (same : Same code s T m a) (pc : a.pc ≡ m.at.pc) (running : a.phase ≡ Running)
    (fi fr : ℕ) (int_ok : (r : ℕ) → r < fi → a.ints_from + r < all_ints code) (ref_ok : (r : ℕ) → r < fr → a.refs_from + r < all_refs code) where
  abbrev p : Program
  p = program_over code statements

  abbrev Done : Turn → Machine → Option SourceEvent → Type 0
  Done t m' e = Turned code s statements T m a cost t 1 m' e

  act_is : (cell : Cell) (mode : PlaceMode) (of of' : CellAt → CellMode → Act) → ((c : CellAt) (md : CellMode) → of c md ≡ of' c md)
      → of (cell_at code m cell) (mode_of code m (cell_at code m cell) mode) ≡ of' (Form.cell_at p a cell) (Form.mode_of p a (Form.cell_at p a cell) mode)
  act_is cell mode of of' e =
      let c = cell_at code m cell in
      e c (mode_of code m c mode) ∙ sym (ap (λ c. of' c (Form.mode_of p a c mode)) (cell_is code s T m a same statements cell) ∙ ap (of' c) (mode_is code s T m a same statements c mode))

  -- an event at a site
  pub asks : (w : ℕ) → 1 ≤ w → (site : ℕ) (act act' : Act) → act ≡ act' → (answering : ℤ → ℤ) (answer x : ℤ) → answer ≡ answering x → (go : ℤ → Thread → Thread) (m' : Machine)
      → (go x (Form.told a (source_at p site).site act' (answering x))).events ≡ a.events ++ event_of (source_at p site).site act' (answering x) ∷ []
      → Same code s (elements_told (event_at code m site answer act) T) m' (go x (Form.told a (source_at p site).site act' (answering x)))
      → (go x (Form.told a (source_at p site).site act' (answering x))).pc ≡ a.pc + 1 → m'.at.pc ≡ m.at.pc + 1
      → (go x (Form.told a (source_at p site).site act' (answering x))).phase ≡ a.phase → m'.at.state ≡ Runs → m'.own.stage ≡ m.own.stage
      → Turned code s statements T m a cost (Form.asks_at p a site act' answering go) w m' (event_at code m site answer act)
  asks w some site act act' e answering answer x f go m' events k pc1 pc2 phase runs rests =
      asks_on code s statements T m a cost one rest w some m' (source_at p site).site act' (λ x. go x (Form.told a (source_at p site).site act' (answering x))) x (answering x) (event_at code m site answer act)
      (event_is m.own.number (source_at p site).site act act' answer (answering x) e f) events k (pc1 ∙ ap (λ n. n + 1) pc ∙ sym pc2) (phase ∙ running) runs (rests ∙ rest)

  -- an access
  accesses : (site : ℕ) (cell : Cell) (of of' : CellAt → CellMode → Act) → ((c : CellAt) (md : CellMode) → of c md ≡ of' c md) → (answering : ℤ → ℤ) (answer x : ℤ) → answer ≡ answering x → (go : ℤ → Thread → Thread) (m' : Machine)
      → let act' = of' (Form.cell_at p a cell) (Form.mode_of p a (Form.cell_at p a cell) (source_at p site).mode) in
      let b = Form.told a (source_at p site).site act' (answering x) in
      (go x b).events ≡ b.events → Same code s (elements_told (access code m site cell answer of) T) m' (go x b)
      → (go x b).pc ≡ a.pc + 1 → m'.at.pc ≡ m.at.pc + 1 → (go x b).phase ≡ a.phase → m'.at.state ≡ Runs → m'.own.stage ≡ m.own.stage
      → Done (Form.access_at p a site cell of' answering go) m' (access code m site cell answer of)
  accesses site cell of of' e answering answer x f go m' events k pc1 pc2 phase runs rests =
      asks 1 (omega arith) site (of (cell_at code m cell) (mode_of code m (cell_at code m cell) (place_at code site).mode)) (of' (Form.cell_at p a cell) (Form.mode_of p a (Form.cell_at p a cell) (source_at p site).mode))
      (act_is cell (place_at code site).mode of of' e) answering answer x f go m' events k pc1 pc2 phase runs rests

  pub loads : (r : ℕ) (cell : Cell) (site found : ℕ) → r < fi
      → Done (Form.access_at p a site cell Act.Read Form.given (λ x b. Form.next (Form.accessed (Form.set_int b r x)))) (goes (accessed (set_int m r (int_of found)))) (access code m site cell (int_of found) Act.Read)
  loads r cell site found lt =
      accesses site cell Act.Read Act.Read (λ c md. refl) Form.given (int_of found) (int_of found) refl (λ x b. Form.next (Form.accessed (Form.set_int b r x))) (goes (accessed (set_int m r (int_of found)))) refl
      (pending_same code s T (set_int m r (int_of found)) (Form.set_int a r (int_of found)) (set_int_same code s T m a same r (int_of found) (int_of found) refl (int_ok r lt)) 0 NULL (no_reference T))
      refl refl refl refl refl

  pub stores : (r : ℕ) (cell : Cell) (site : ℕ)
      → Done (Form.access_at p a site cell (λ at mode. Act.Write at mode (Form.int a r)) Form.no_answer (λ x b. Form.next (Form.accessed b))) (goes (accessed m)) (access code m site cell (pos 0) (λ at mode. Act.Write at mode (int m r)))
  stores r cell site =
      accesses site cell (λ at mode. Act.Write at mode (int m r)) (λ at mode. Act.Write at mode (Form.int a r)) (λ c md. ap (Act.Write c md) (sym (int_is code s T m a same r))) Form.no_answer (pos 0) (pos 0) refl
      (λ x b. Form.next (Form.accessed b)) (goes (accessed m)) refl (pending_same code s T m a same 0 NULL (no_reference T)) refl refl refl refl refl

  pub loads_ref : (cell : Cell) (site found : ℕ) → IsNumber found
      → Done (Form.access_at p a site cell Act.Read Form.given (λ x b. Form.next (record b { pending = x }))) (goes (record m { pending = found })) (access code m site cell (reference found (T found)) Act.Read)
  loads_ref cell site found small =
      accesses site cell Act.Read Act.Read (λ c md. refl) Form.given (reference found (T found)) (reference found (T found)) refl (λ x b. Form.next (record b { pending = x })) (goes (record m { pending = found })) refl
      (pending_same code s T m a same found (reference found (T found)) (record { is = refl; small = small })) refl refl refl refl refl

  -- the register has what was found
  put_found : (r found : ℕ) → IsNumber found → r < fr → Same code s T (accessed (set_ref m r found)) (Form.accessed (Form.set_ref a r (reference found (T found))))
  put_found r found small lt =
      pending_same code s T (set_ref m r found) (Form.set_ref a r (reference found (T found))) (set_ref_same code s T m a same r found (reference found (T found)) (record { is = refl; small = small }) (ref_ok r lt)) 0 NULL (no_reference T)

  pub exchanges : (r : ℕ) (cell : Cell) (site found : ℕ) → IsNumber found → r < fr
      → Done (Form.access_at p a site cell (λ at mode. Act.Write at mode (Form.ref a r)) Form.no_answer (λ x b. Form.next (Form.accessed (Form.set_ref b r x)))) (goes (accessed (set_ref m r found)))
      (access code m site cell (pos 0) (λ at mode. Act.Write at mode (reference (ref m r) (T (ref m r)))))
  exchanges r cell site found small lt =
      accesses site cell (λ at mode. Act.Write at mode (reference (ref m r) (T (ref m r)))) (λ at mode. Act.Write at mode (Form.ref a r)) (λ c md. ap (Act.Write c md) (sym (ref_is code s T m a same r).is)) Form.no_answer (pos 0) (reference found (T found)) refl
      (λ x b. Form.next (Form.accessed (Form.set_ref b r x))) (goes (accessed (set_ref m r found))) refl (put_found r found small lt) refl refl refl refl refl

  pub takes_cell : (r : ℕ) (cell : Cell) (site found : ℕ) → IsNumber found → r < fr
      → Done (Form.access_at p a site cell (λ at mode. Act.Take (Taken.Cell at mode) (kind_of (source_at p site).at)) Form.given (λ x b. Form.next (Form.accessed (Form.set_ref b r x)))) (goes (accessed (set_ref m r found)))
      (access code m site cell (reference found (T found)) (λ at mode. Act.Take (Taken.Cell at mode) (kind_of (place_at code site).at)))
  takes_cell r cell site found small lt =
      accesses site cell (λ at mode. Act.Take (Taken.Cell at mode) (kind_of (place_at code site).at)) (λ at mode. Act.Take (Taken.Cell at mode) (kind_of (source_at p site).at)) (λ c md. refl) Form.given (reference found (T found)) (reference found (T found)) refl
      (λ x b. Form.next (Form.accessed (Form.set_ref b r x))) (goes (accessed (set_ref m r found))) refl (put_found r found small lt) refl refl refl refl refl

  moved_same : (r from : ℕ) → r < fr → from < fr → Same code s T (move_ref m r from) (Form.move_ref a r from)
  moved_same r from lr lf =
      set_ref_same code s T (set_ref m from 0) (Form.set_ref a from NULL) (null_same code s T m a same from (ref_ok from lf)) r (ref m from) (Form.ref a from) (ref_is code s T m a same from) (ref_ok r lr)

  pub takes_local : (r from site found : ℕ) → r < fr → from < fr
      → Done (Form.taken_local p a r from site) (after (test s (ref m from) (goes (move_ref m r from))) found) (take_local code m site (ref m from) (T (ref m from)))
  takes_local r from site found lr lf =
      subst (λ x. Done (Form.taken_local p a r from site) x (take_local code m site (ref m from) (T (ref m from)))) (sym (tests s (ref m from) (goes (move_ref m r from)) found))
      (each (ref m from) refl)
    where
      taking : Turn
      taking = Form.asks_at p a site (Act.Take (Taken.Local (variable_of (source_at p site).at)) (kind_of (source_at p site).at)) (λ x. Form.ref a from) (λ x b. Form.next (Form.move_ref b r from))

      some : (n : ℕ) → ref m from ≡ suc n → is_null (Form.ref a from) ≡ false
      some n e = null_at code s T m a same from ∙ ap (λ k. k == 0) e ∙ ne_eqb (suc n) 0 (λ q. omega arith)

      each : (n : ℕ) → ref m from ≡ n → Done (Form.taken_local p a r from site) (goes (move_ref m r from)) (take_local code m site n (T n))
      each zero e = subst (λ b. Done (if b then Form.goes (Form.move_ref a r from) else taking) (goes (move_ref m r from)) None) (sym (null_at code s T m a same from ∙ ap (λ k. k == 0) e))
          (plain code s statements T m a cost one rest same pc running 1 (omega arith) (goes (move_ref m r from)) (Form.next (Form.move_ref a r from)) (moved_same r from lr lf) refl refl refl refl refl refl)
      each (suc n) e = subst (λ b. Done (if b then Form.goes (Form.move_ref a r from) else taking) (goes (move_ref m r from)) (take_local code m site (suc n) (T (suc n)))) (sym (some n e))
          (asks 1 (omega arith) site (Act.Take (Taken.Local (variable_of (place_at code site).at)) (kind_of (place_at code site).at)) (Act.Take (Taken.Local (variable_of (source_at p site).at)) (kind_of (source_at p site).at)) refl
          (λ x. Form.ref a from) (reference (suc n) (T (suc n))) (pos 0) (ap (λ n. reference n (T n)) (sym e) ∙ sym (ref_is code s T m a same from).is) (λ x b. Form.next (Form.move_ref b r from)) (goes (move_ref m r from)) refl
          (moved_same r from lr lf) refl refl refl refl refl)

  -- an event that changes nothing
  pub tells : (site : ℕ) (act act' : Act) → act ≡ act' → (m' : Machine) → Same code s (elements_told (event_at code m site (pos 0) act) T) m' a → m'.at.pc ≡ m.at.pc + 1 → m'.at.state ≡ Runs → m'.own.stage ≡ m.own.stage
      → Done (Form.tells_at p a site act') m' (event_at code m site (pos 0) act)
  tells site act act' e m' k pc2 runs rests =
      asks 1 (omega arith) site act act' e Form.no_answer (pos 0) (pos 0) refl (λ x b. Form.next b) m' refl k refl pc2 refl runs rests

  -- ---- mutexes
  abbrev gs : List GlobalCells
  gs = code.globals.items

  module _ (apart : Apart gs) where
    relogged : (m2 : Machine) (b : Thread) (log : List HeldMutex) (log' : List CellAt) → Same code s T m2 b → b.function ≡ m.own.function → AreHeld gs (first_cell s) log' log
        → Same code s T (record m2 { own = record m.own { held = log } }) (record b { held = log' })
    relogged m2 b log log' k f l = record {
      from_ints = k.from_ints;
      from_refs = k.from_refs;
      in_ints = k.in_ints;
      in_refs = k.in_refs;
      loaded = k.loaded;
      slot_count = k.slot_count;
      in_frames = k.in_frames;
      in_log = l;
      function_is = f;
    }

    pub unlocks : (r : ℕ) (cell : Cell) (site : ℕ) → IsHeld code s m cell → r < fr
        → Done (Form.asks_at p a site (Act.Unlock (Form.cell_at p a cell)) Form.no_answer (λ x b. Form.next (record (Form.set_ref b r (Form.base_of a cell)) { held = Form.without_mutex a.held (Form.cell_at p a cell) })))
        (unlocked m r (word s m cell)) (event_at code m site (pos 0) (Act.Unlock (cell_at code m cell)))
    unlocks r cell site h lt =
        let k = h.mutex in
        let c = Form.cell_at p a cell in
        let isc = is_cell code s T m a same statements cell k.there in
        let w = word_is code s T m a same (place m cell) k.apart.inside in
        let some : is_some (object_of m.own.held (first_cell s + place m cell)) ≡ true = subst (λ w. is_some (object_of m.own.held w) ≡ true) w h.own in
        let object_is : reference_of (object_of m.own.held (word s m cell)) ≡ object m cell = ap (λ w. reference_of (object_of m.own.held w)) w ∙ object_held (object m cell) (first_cell s + place m cell) m.own.held k.apart.apart some in
        let kept = subst (λ n. IsReference T n (Form.base_of a cell)) (sym object_is) (base_is code s T m a same cell) in
        let log = subst (λ w. AreHeld gs (first_cell s) (Form.without_mutex a.held c) (without m.own.held w)) (sym w) (without_is gs (first_cell s) apart (object m cell) (place m cell) c isc a.held m.own.held same.in_log k.apart.apart) in
        asks 1 (omega arith) site (Act.Unlock (cell_at code m cell)) (Act.Unlock (Form.cell_at p a cell)) (ap Act.Unlock (sym (cell_is code s T m a same statements cell))) Form.no_answer (pos 0) (pos 0) refl
        (λ x b. Form.next (record (Form.set_ref b r (Form.base_of a cell)) { held = Form.without_mutex a.held (Form.cell_at p a cell) })) (unlocked m r (word s m cell)) refl
        (relogged (set_ref m r (reference_of (object_of m.own.held (word s m cell)))) (Form.set_ref a r (Form.base_of a cell)) _ _
        (set_ref_same code s T m a same r (reference_of (object_of m.own.held (word s m cell))) (Form.base_of a cell) kept (ref_ok r lt)) same.function_is log)
        refl refl refl refl refl

    abbrev locking : Cell → (Thread → Thread) → Thread → Thread
    locking cell f b = Form.next (record (f b) { held = a.held ++ Form.cell_at p a cell ∷ [] })

    -- a Lock, whose base is given to the log
    locks_at : (cell : Cell) (site found : ℕ) → (found ≡ 0 → IsFree code s m cell) → (m2 : Machine) (f : Thread → Thread) → ((b : Thread) → (f b).pc ≡ b.pc) → ((b : Thread) → (f b).phase ≡ b.phase) → ((b : Thread) → (f b).events ≡ b.events)
        → m2.at.pc ≡ m.at.pc
        → ((log : List HeldMutex) (log' : List CellAt) → AreHeld gs (first_cell s) log' log
        → Same code s T (record m2 { own = record m.own { held = log } }) (record (f (Form.told a (source_at p site).site (Act.Lock (Form.cell_at p a cell)) (pos 0))) { held = log' }))
        → (is_failed_try (if found == 0 then goes (record m2 { own = record m.own { held = taken m (word s m cell) (object m cell) } }) else fails m).at.state ≡ true → cost ≡ 0)
        → Done (Form.asks_at p a site (Act.Lock (Form.cell_at p a cell)) Form.no_answer (λ x b. locking cell f b))
        (if found == 0 then goes (record m2 { own = record m.own { held = taken m (word s m cell) (object m cell) } }) else fails m) (if found == 0 then event_at code m site (pos 0) (Act.Lock (cell_at code m cell)) else None)
    locks_at cell site found k m2 f fpc fphase fevents mpc rel tried = each (found == 0) refl tried
      where
        log_is : IsFree code s m cell → AreHeld gs (first_cell s) (a.held ++ Form.cell_at p a cell ∷ []) (taken m (word s m cell) (object m cell))
        log_is h =
            let w = word_is code s T m a same (place m cell) h.mutex.apart.inside in
            let pushed = log_pushed gs (first_cell s) a.held m.own.held (Form.cell_at p a cell) record { word = word s m cell; object = object m cell } same.in_log (record { place = place m cell; cell = is_cell code s T m a same statements cell h.mutex.there; word = w }) in
            let room = lt-ltb (length m.own.held) 16 h.room in
            let other = h.other in
            rw (other, room) pushed

        each : (b : Bool) → (found == 0) ≡ b → (is_failed_try (if b then goes (record m2 { own = record m.own { held = taken m (word s m cell) (object m cell) } }) else fails m).at.state ≡ true → cost ≡ 0)
            → Done (Form.asks_at p a site (Act.Lock (Form.cell_at p a cell)) Form.no_answer (λ x b. locking cell f b))
            (if b then goes (record m2 { own = record m.own { held = taken m (word s m cell) (object m cell) } }) else fails m) (if b then event_at code m site (pos 0) (Act.Lock (cell_at code m cell)) else None)
        each true e tried =
            asks 1 (omega arith) site (Act.Lock (cell_at code m cell)) (Act.Lock (Form.cell_at p a cell)) (ap Act.Lock (sym (cell_is code s T m a same statements cell))) Form.no_answer (pos 0) (pos 0) refl
            (λ x b. locking cell f b) (goes (record m2 { own = record m.own { held = taken m (word s m cell) (object m cell) } }))
            (fevents _) (rel _ _ (log_is (k (eqb-true found 0 e)))) (ap (λ n. n + 1) (fpc _)) (ap (λ n. n + 1) mpc) (fphase _) refl refl
        each false e tried = tries_again code s statements T m a cost one rest same pc running _ 1 (tried refl)

    pub locks : (cell : Cell) (site found : ℕ) → (found ≡ 0 → IsFree code s m cell) → BaseWithin fr cell → (is_failed_try (locked m cell (word s m cell) found).at.state ≡ true → cost ≡ 0)
        → Done (Form.asks_at p a site (Act.Lock (Form.cell_at p a cell)) Form.no_answer (λ x b. locking cell (λ b. Form.without_base b cell) b))
        (locked m cell (word s m cell) found) (if found == 0 then event_at code m site (pos 0) (Act.Lock (cell_at code m cell)) else None)
    locks (Global g c) site found k within tried = locks_at (Global g c) site found k m (λ b. b) (λ b. refl) (λ b. refl) (λ b. refl) refl (λ log log' l. relogged m a log log' same same.function_is l) tried
    locks (GlobalAt g r) site found k within tried = locks_at (GlobalAt g r) site found k m (λ b. b) (λ b. refl) (λ b. refl) (λ b. refl) refl (λ log log' l. relogged m a log log' same same.function_is l) tried
    locks (InObject r c) site found k within tried =
        locks_at (InObject r c) site found k (set_ref m r 0) (λ b. Form.set_ref b r NULL) (λ b. refl) (λ b. refl) (λ b. refl) refl
        (λ log log' l. relogged (set_ref m r 0) (Form.set_ref a r NULL) log log' (null_same code s T m a same r (ref_ok r within)) same.function_is l) tried
    locks (ObjectAt r at) site found k within tried =
        locks_at (ObjectAt r at) site found k (set_ref m r 0) (λ b. Form.set_ref b r NULL) (λ b. refl) (λ b. refl) (λ b. refl) refl
        (λ log log' l. relogged (set_ref m r 0) (Form.set_ref a r NULL) log log' (null_same code s T m a same r (ref_ok r within)) same.function_is l) tried

  -- ---- waiting
  pub wakes : (cell : Cell) (site found : ℕ) → (is_failed_try (woken m found).at.state ≡ true → cost ≡ 0)
      → Done (Form.tells_at p a site (Act.Woken (Form.cell_at p a cell))) (woken m found) (if waits_in found m.own.number then None else event_at code m site (pos 0) (Act.Woken (cell_at code m cell)))
  wakes cell site found tried = each (waits_in found m.own.number) tried
    where
      each : (b : Bool) → (is_failed_try (if b then fails m else goes m).at.state ≡ true → cost ≡ 0)
          → Done (Form.tells_at p a site (Act.Woken (Form.cell_at p a cell))) (if b then fails m else goes m) (if b then None else event_at code m site (pos 0) (Act.Woken (cell_at code m cell)))
      each true tried = tries_again code s statements T m a cost one rest same pc running _ 1 (tried refl)
      each false tried = tells site (Act.Woken (cell_at code m cell)) (Act.Woken (Form.cell_at p a cell)) (ap Act.Woken (sym (cell_is code s T m a same statements cell))) (goes m) same refl refl refl

  -- a Join: the thread is gone, or not yet, or there is none
  no_thread : (r site : ℕ) (t : Turn) → statement_at p a.pc ≡ Instr.Join r site → Done t (trapped m traps.NoSuchThread site) None
  no_thread r site t st = halts code s statements T m a cost one rest same pc running (Trap traps.NoSuchThread site) t 1 (inr (subst (λ i. Refuses i traps.NoSuchThread site) (sym st) (refl, refl)))

  pub joins : (r site found : ℕ) (z : ℤ) → z ≡ Form.int a r → statement_at p a.pc ≡ Instr.Join r site
      → (asked_by (join m z site) ≡ None → found ≡ 0) → (is_failed_try (after (join m z site) found).at.state ≡ true → cost ≡ 0)
      → Done (Form.tells_at p a site (Act.Join (Form.int a r))) (after (join m z site) found) (if found == 0 || (found == 1 || found == 2) then None else event_at code m site (pos 0) (Act.Join z))
  joins r site found (negsuc n) e st quiet tried =
      let q = quiet refl in
      subst (λ found. Done (Form.tells_at p a site (Act.Join (Form.int a r))) (trapped m traps.NoSuchThread site) (if found == 0 || (found == 1 || found == 2) then None else event_at code m site (pos 0) (Act.Join (negsuc n)))) (sym q) (no_thread r site _ st)
  joins r site found (pos n) e st quiet tried = each (nat_lt n THREADS) quiet tried
    where
      tell : Turn
      tell = Form.tells_at p a site (Act.Join (Form.int a r))

      found_at : (b c : Bool) → (is_failed_try (if b then trapped m traps.NoSuchThread site else (if c then fails m else goes m)).at.state ≡ true → cost ≡ 0)
          → Done tell (if b then trapped m traps.NoSuchThread site else (if c then fails m else goes m)) (if b || c then None else event_at code m site (pos 0) (Act.Join (pos n)))
      found_at true c tried = no_thread r site tell st
      found_at false true tried = tries_again code s statements T m a cost one rest same pc running tell 1 (tried refl)
      found_at false false tried = tells site (Act.Join (pos n)) (Act.Join (Form.int a r)) (ap Act.Join e) (goes m) same refl refl refl

      each : (b : Bool) → (asked_by (if b then AsksStep (step_of (state_word n) WordOp.Load) (joined m site) else Local (trapped m traps.NoSuchThread site)) ≡ None → found ≡ 0)
          → (is_failed_try (after (if b then AsksStep (step_of (state_word n) WordOp.Load) (joined m site) else Local (trapped m traps.NoSuchThread site)) found).at.state ≡ true → cost ≡ 0)
          → Done tell (after (if b then AsksStep (step_of (state_word n) WordOp.Load) (joined m site) else Local (trapped m traps.NoSuchThread site)) found) (if found == 0 || (found == 1 || found == 2) then None else event_at code m site (pos 0) (Act.Join (pos n)))
      each true quiet tried = found_at (found == 0) (found == 1 || found == 2) tried
      each false quiet tried =
          let q = quiet refl in
          subst (λ found. Done tell (trapped m traps.NoSuchThread site) (if found == 0 || (found == 1 || found == 2) then None else event_at code m site (pos 0) (Act.Join (pos n)))) (sym q) (no_thread r site tell st)
