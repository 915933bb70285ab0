-- From the place of a thread of code to what the program wants.
use Rattle.sharc_wants_laws.proofs.{Imports.{◌≡◌, ℕ, suc, ℤ, pos, inl, inr, ⊎_elim, Bool, true, false, List, [], map, refl, sym, ap, ◌∙◌, Some, subst, IsSomeAnd, get_or as slice_index_or, Act, CellAt, CellMode, SourceEvent, Site, Taken, Assignment, Access, access_by, held_mutexes, is_null, number_of, Outcome, wants, ended, stopped, event_of, Code, Row as Function, SourcePlace, Cell, Instr, CondWait, Load, Store, LoadRef, Exchange, TakeCell, ChkRead, ChkWrite, ChkLock, ChkLockLoaded, Shape, Runs, Stopped, Ended, Stop, Conflict, NoLock, NotSole, Trapped as Trap, Machine, instr_at, kind_of, made_cell, place_at, no_place, Flat, At, asks, halts, turn, on_turn, exec, MayStart, Program, Thread, Check, Accesses, Locks, IsSole, is_held, source_at, statement_at, IsAccess, IsOf, IsUnder, Tells, LogsAreHeld, Elements, instr_of, IsAt, IsLinking, IsOver, Same, StopsAt, ChecksNext, IsRefused, IsReport, site_of, WantsAct, WantsAccess, WantsBy, StopsOrWantsUnder, IsWhere, IsThere, access_at, access_tested, int}, Coming.{Coming, asked_events, begun_with, comes, instr_is, rest, there, told, with_some}, Cells.{int_is, cell_is, access_is, pending_number}}
use Rattle.sharc_tree.specs.declared.trap.Trap.TheVariants as traps
use Rattle.sharc_heap.specs.declared.shadow_word.Kind.{Kind}
use Rattle.sharc_code.specs.{declared.instr.Instr.TheVariants.{Lock, Join}, Says.cell_at}
use Rattle.sharc_flat.specs.{Machine.Turn}
use Rattle.sharc_guard.specs.Machine as Form
use Rattle.sharc_compile.specs.Correct.{by}

-- ---- one turn of flat code
module _ (flat : Flat) (m2 : At) (k : ℕ) (p : Program) where
  abbrev o : Outcome
  o = (exec flat (suc k) [] m2).outcome

  -- what guarded code asks for it wants
  asked_wants : (site : Site) (act : Act) (go : ℤ → Thread) (t : Turn) → turn flat m2 ≡ t → Tells p (Form.Asks site act go) t → o ≡ wants (event_of site act (pos 0))
  asked_wants site act go (asks m3 site2 act2 held f) e h =
      ap (λ t. (on_turn t [] m2 (exec flat k)).outcome) e ∙ ap (λ s. wants (event_of s act2 (pos 0))) (sym h.0) ∙ ap (λ c. wants (event_of site c (pos 0))) (sym h.1)
  asked_wants site act go _ e h = absurd h

  -- and what it checks
  checked_wants : (check : Check) (n : ℕ) (b : Thread) (t : Turn) → turn flat m2 ≡ t → Tells p (Form.Checks check n b) t
      → (act : Act) × (o ≡ wants (event_of (source_at p n).site act (pos 0))) × IsOf check act
  checked_wants check n b (asks m3 site act held go) e h =
      (act, ap (λ t. (on_turn t [] m2 (exec flat k)).outcome) e ∙ ap (λ s. wants (event_of s act (pos 0))) (sym h.0), h.1)
  checked_wants check n b _ e h = absurd h

  halted : (t : Turn) → turn flat m2 ≡ t → Tells p (Form.Halts Form.Ended) t → o ≡ ended
  halted (halts x) e h = ap (λ t. (on_turn t [] m2 (exec flat k)).outcome) e ∙ h
  halted _ e h = absurd h

-- how a thread goes on with what it is answered
abbrev go_of : Form.Turn → ℤ → Thread
go_of (Form.Goes b) x = b
go_of (Form.Asks site act go) x = go x
go_of (Form.Checks check site b) x = b
go_of (Form.Halts o) x = record { pc = 0; ints_from = 0; refs_from = 0; ints = λ k. pos 0; refs = λ k. pos 0; pending = pos 0; frames = []; held = []; function = 0; lowered = []; events = []; phase = Form.Left }

-- ---- the statement of a thread that is where the machine is
module _ (flat : Flat) (m2 : At) (k : ℕ) (code : Code) (p : Program) (globals : p.globals ≡ code.globals.items) (sites : (n : ℕ) → source_at p n ≡ place_at code n)
    (s : Shape) (T : Elements) (at : Machine) (a : Thread) (same : Same code s T at a) (functions : List Function) where
  wanted_at : (site : ℕ) (act act' : Act) (go : ℤ → Thread) → act ≡ act' → Tells p (Form.Asks (source_at p site).site act go) (turn flat m2) → WantsAct code (o flat m2 k p) site act'
  wanted_at site act act' go e h =
      asked_wants flat m2 k p (source_at p site).site act go (turn flat m2) refl h ∙ ap (λ (q : SourcePlace). wants (event_of q.site act (pos 0))) (sites site) ∙ ap (λ c. wants (event_of (place_at code site).site c (pos 0))) e

  access_wanted : (c : Cell) (site : ℕ) (write : Bool) (act : Act) (go : ℤ → Thread) (b : Access) → access_by act ≡ Some b → b.cell ≡ Form.cell_at p a c → b.mode ≡ Form.mode_of p a (Form.cell_at p a c) (source_at p site).mode
      → b.is_write ≡ write → Tells p (Form.Asks (source_at p site).site act go) (turn flat m2) → WantsAccess code (o flat m2 k p) site (access_at code at c site write)
  access_wanted c site write act go b is cell mode is_write h = (act, wanted_at site act act go refl h, is ∙ ap Some (access_is code p globals sites s T at a same c site write b cell mode is_write))

  tested : (cell : CellAt) (write : Bool) → Access
  tested cell write = record { cell = cell; mode = CellMode.Dynamic; is_write = write }

  checked_at : (c : Cell) (site : ℕ) (check : Check) (b : Thread) (write : Bool) → ((act : Act) → IsOf check act → access_by act ≡ Some (record { cell = Form.cell_at p a c; mode = CellMode.Dynamic; is_write = write }))
      → Tells p (Form.Checks check site b) (turn flat m2) → WantsAccess code (o flat m2 k p) site (access_tested code at c write)
  checked_at c site check b write is h =
      let w = checked_wants flat m2 k p check site b (turn flat m2) refl h in (
        w.0,
        w.1 ∙ ap (λ (q : SourcePlace). wants (event_of q.site w.0 (pos 0))) (sites site),
        is w.0 w.2 ∙ ap (λ (d : CellAt). Some (record { cell = d; mode = CellMode.Dynamic; is_write = write })) (cell_is code p globals sites s T at a same c),
      )

  -- the mutex of a lock that is looked for, where its path does not lead through NULL
  lock_wanted : (null : Bool) (mutex mutex' : CellAt) (site : ℕ) → mutex ≡ mutex' → Tells p (Form.lock_checked a null mutex site) (turn flat m2) → StopsOrWantsUnder code (o flat m2 k p) site mutex'
  lock_wanted true mutex mutex' site e h = inl (ends_at (turn flat m2) refl h ∙ ap (λ (q : SourcePlace). stopped traps.NullPointer q.site) (sites site))
    where
      ends_at : (t : Turn) → turn flat m2 ≡ t → Tells p (Form.Halts (Form.Stopped traps.NullPointer site)) t → o flat m2 k p ≡ stopped traps.NullPointer (source_at p site).site
      ends_at (halts x) q h = ap (λ t. (on_turn t [] m2 (exec flat k)).outcome) q ∙ h
      ends_at _ q h = absurd h
  lock_wanted false mutex mutex' site e h =
      let w = checked_wants flat m2 k p (Locks mutex) site (Form.next a) (turn flat m2) refl h in
      inr (w.0, w.1 ∙ ap (λ (q : SourcePlace). wants (event_of q.site w.0 (pos 0))) (sites site), subst (λ c. IsUnder c w.0) e w.2)

  abbrev Told : Instr → Type 0
  Told i = Tells p (Form.step p i a) (turn flat m2) → WantsBy code at (o flat m2 k p) (instr_of functions i)

  abbrev mode_here : Cell → ℕ → CellMode
  mode_here c site = Form.mode_of p a (Form.cell_at p a c) (source_at p site).mode

  wants_by : (i : Instr) → Told i
  wants_by (Lock c site) h = wanted_at site (Act.Lock (Form.cell_at p a c)) (Act.Lock (cell_at code at c)) (go_of (Form.step p (Lock c site) a)) (ap Act.Lock (cell_is code p globals sites s T at a same c)) h
  wants_by (Join r site) h = wanted_at site (Act.Join (Form.int a r)) (Act.Join (int at r)) (go_of (Form.step p (Join r site) a)) (ap Act.Join (int_is code p globals sites s T at a same r)) h
  wants_by (CondWait c site) h = wanted_at site (Act.Woken (Form.cell_at p a c)) (Act.Woken (cell_at code at c)) (go_of (Form.step p (CondWait c site) a)) (ap Act.Woken (cell_is code p globals sites s T at a same c)) h
  wants_by (Load r c site) h = access_wanted c site false (Act.Read (Form.cell_at p a c) (mode_here c site)) (go_of (Form.step p (Load r c site) a)) _ refl refl refl refl h
  wants_by (Store r c site) h = access_wanted c site true (Act.Write (Form.cell_at p a c) (mode_here c site) (Form.int a r)) (go_of (Form.step p (Store r c site) a)) _ refl refl refl refl h
  wants_by (LoadRef c site) h = access_wanted c site false (Act.Read (Form.cell_at p a c) (mode_here c site)) (go_of (Form.step p (LoadRef c site) a)) _ refl refl refl refl h
  wants_by (Exchange r c site) h = access_wanted c site true (Act.Write (Form.cell_at p a c) (mode_here c site) (Form.ref a r)) (go_of (Form.step p (Exchange r c site) a)) _ refl refl refl refl h
  wants_by (TakeCell r c site) h =
      access_wanted c site true (Act.Take (Taken.Cell (Form.cell_at p a c) (mode_here c site)) (kind_of (source_at p site).at)) (go_of (Form.step p (TakeCell r c site) a)) _ refl refl refl refl h
  wants_by (ChkRead c site) h = checked_at c site (Accesses Kind.Read (Form.cell_at p a c)) (Form.next a) false (λ act e. ap access_by e) h
  wants_by (ChkWrite c site) h = checked_at c site (Accesses Kind.Write (Form.cell_at p a c)) (Form.next a) true writes h
    where
      writes : (act : Act) → IsAccess Kind.Write (Form.cell_at p a c) act → access_by act ≡ Some (record { cell = Form.cell_at p a c; mode = CellMode.Dynamic; is_write = true })
      writes act (inl e) = ap access_by e.1
      writes act (inr e) = ap access_by e.1
  wants_by (ChkLock c site) h = lock_wanted (Form.is_of_null a c) (Form.cell_at p a c) (cell_at code at c) site (cell_is code p globals sites s T at a same c) h
  wants_by (ChkLockLoaded site) h = lock_wanted (is_null a.pending) (made_cell (number_of a.pending) 0) (made_cell at.pending 0) site (ap (λ n. made_cell n 0) (pending_number code p globals sites s T at a same)) h
  wants_by _ h = tt

  -- ---- why it was refused
  refused_by : Tells p (Form.turn p a) (turn flat m2) → a.held ≡ held_mutexes a.events → IsOver p a at.at.state at.own.stop
      → at.at.state ≡ Stopped → (stop : Stop) → at.own.stop ≡ Some stop → IsReport stop
      → (act : Act) × ((o flat m2 k p) ≡ wants (event_of (place_at code (site_of stop)).site act (pos 0))) × IsRefused stop act a.events
  refused_by tells log over was stop e report = by_stop stop report (subst (λ q. IsSomeAnd q (StopsAt p a)) e (subst (λ st. IsOver p a st at.own.stop) was over))
    where
      wanted : (check : Check) (n : ℕ) → ChecksNext p a check n → (act : Act) × ((o flat m2 k p) ≡ wants (event_of (place_at code n).site act (pos 0))) × IsOf check act
      wanted check n c =
          let w = checked_wants flat m2 k p check n c.next (turn flat m2) refl (subst (λ t. Tells p t (turn flat m2)) c.checks tells) in
          (w.0, w.1 ∙ ap (λ (q : SourcePlace). wants (event_of q.site w.0 (pos 0))) (sites n), w.2)

      by_stop : (stop : Stop) → IsReport stop → StopsAt p a stop → (act : Act) × ((o flat m2 k p) ≡ wants (event_of (place_at code (site_of stop)).site act (pos 0))) × IsRefused stop act a.events
      by_stop (Conflict c) r h = let w = wanted (Accesses c.kind h.0) c.site h.1 in (w.0, w.1, (h.0, w.2))
      by_stop (NoLock n mutex) r h = let w = wanted (Locks h.0) n h.1 in (w.0, w.1, (h.0, w.2, sym (ap (λ log. is_held log h.0) log) ∙ h.2))
      by_stop (NotSole n count) r h = let w = wanted (IsSole h.0) n h.1 in (w.0, w.1, (h.0, w.2))
      by_stop (Trap trap n) r h = absurd r

-- ---- a path
module _ (logs : LogsAreHeld) {m : Assignment} {code : Code} {s : Shape} {T : Elements} {thread : ℕ} {at : Machine} {said : List SourceEvent} {lowered : List ℕ} (w : Coming m code s T thread at said lowered) where
  sites : (n : ℕ) → source_at w.p n ≡ place_at code n
  sites n = sym (ap (λ v. slice_index_or v.items n no_place) w.is.sites ∙ ap (λ (q : Program). source_at q n) w.made)

  globals : w.p.globals ≡ code.globals.items
  globals = ap (λ (q : Program). q.globals) (sym w.made) ∙ ap (λ v. v.items) (sym w.is.globals)

  abbrev a : Thread
  a = there w

  -- what is said of the turn of flat code that is next
  module _ (k : ℕ) where
    next_by : WantsBy code at (o w.flat (rest w) k w.p) (instr_at code at.at.pc)
    next_by = ⊎_elim
        (λ (y : IsAt code s w.p T at a). subst (WantsBy code at (o w.flat (rest w) k w.p)) (ap (λ pc. instr_of w.g.functions.items (statement_at w.p pc)) y.pc_is ∙ sym (instr_is w at.at.pc))
        (wants_by w.flat (rest w) k code w.p globals sites s T at a y.same w.g.functions.items (statement_at w.p a.pc) (comes w).stands.tells))
        (λ (l : IsLinking code s w.p T at a). subst (WantsBy code at (o w.flat (rest w) k w.p)) (sym (instr_is w at.at.pc ∙ ap (instr_of w.g.functions.items) l.statement)) tt)
        w.has.stands

    refused_now : at.at.state ≡ Stopped → (stop : Stop) → at.own.stop ≡ Some stop → IsReport stop
        → (act : Act) × ((o w.flat (rest w) k w.p) ≡ wants (event_of (place_at code (site_of stop)).site act (pos 0))) × IsRefused stop act a.events
    refused_now was stop e report = ⊎_elim
        (λ (y : IsAt code s w.p T at a). refused_by w.flat (rest w) k code w.p globals sites s T at a y.same w.g.functions.items (comes w).stands.tells (logs w.p w.has.function w.has.argument w.has.answers) y.over was stop e report)
        (λ (l : IsLinking code s w.p T at a). let z : Runs ≡ Stopped = sym l.state_is ∙ was in absurd (cc))
        w.has.stands

    gone_now : at.at.state ≡ Ended → o w.flat (rest w) k w.p ≡ ended
    gone_now gone = ⊎_elim
        (λ (y : IsAt code s w.p T at a). let over : IsOver w.p a Ended at.own.stop = subst (λ st. IsOver w.p a st at.own.stop) gone y.over in
        halted w.flat (rest w) k w.p (turn w.flat (rest w)) refl (subst (λ t. Tells w.p t (turn w.flat (rest w))) over (comes w).stands.tells))
        (λ (l : IsLinking code s w.p T at a). let z : Runs ≡ Ended = sym l.state_is ∙ gone in absurd (cc))
        w.has.stands

  where_by : MayStart m w.has.function → IsWhere m code thread w.has.function w.has.argument (told w) at
  where_by may =
      let f = with_some w may in
      let r = f.1 in
      record {
        fuel = f.0;
        events = ap (map (by thread)) (sym (asked_events w f.0 r));
        next = subst (λ o. WantsBy code at o (instr_at code at.at.pc)) r.1.outcome (next_by r.0);
        refused = λ was stop e report. let q = refused_now r.0 was stop e report in (q.0, sym r.1.outcome ∙ q.1, subst (IsRefused stop q.0) (asked_events w f.0 r) q.2);
        gone = λ gone. sym r.1.outcome ∙ gone_now r.0 gone;
      }

  pub is_there : IsThere m code thread at said
  is_there = begun_with w (λ f argument told. IsWhere m code thread f argument told at) where_by
