-- Accesses of cells, with the mutex of their mode.
use Rattle.sharc_flat.proofs.{Imports.{◌≡◌, ℕ, ◌+◌, ◌-◌, ◌<◌, ◌≤◌, Bool, true, false, cond, List, [], ◌∷◌, ◌++◌, length, get_or, Option, Some, None, refl, sym, ap, ◌∙◌, subst, arith, get_or-append-add, get_or_append_left, ℤ, pos, slice_get, not, Act, CellAt, CellMode, Global, Made, SourceEvent, Site, Span, Trap, Named, PlaceMode, Cell, Reference, named_at, is_behind_pointer, Assignment, Sharing, private, readonly, locked, racy, dynamic, GivenUp, cell_of, through, guard_named, guard_beside, guard_by, mutex_named, field_place, field_place_behind, behind, guarding, access_mode, is_null, number_of, State, stopped, Run, then_on, ◌>>◌, give, unless_stop, happens, answered, answer_of, event_of, value_in, value_of, pointers_among, Op, Spot, At, asks, halts, cell_at, accessed, on, op_turn, first_cell, Lvalue, Context, ref_count, register_of, number_in, slot_kind, Slot, Target, guard_field, beside_field, place_mode, mode_named, mode_beside, guard_code, guard_cell, field_of, spot_of, PathNamed, PathStands}, Under.{under, under_lock, mutex_of, accesses_under}, Runs.{HasAt, Fin, fin_of, fin_then, Same, weaken, Holds, ends, bind, asks_at, after_event}, Agreeing.{PointerAt, pointer_at, Standing, place, Agree, below, holding, refs_length, same_frame}}
use Rattle.sharc_mode.specs.Sharings.{Lock}
use Rattle.sharc_flat.specs.Places as places_of

-- with what was read for a lock
abbrev pub pending_place : Standing → ℕ → (ℕ → ℤ) → (ℕ → ℤ) → State → ℤ → At
pending_place z pc ints refs s p = record (place z pc ints refs s) { pending = p }

-- a pointer variable's register
pub record RefOf (z : Standing) (scope : List Slot) (bank : ℕ → ℤ) (s : State) (x : ℕ) : Type 0 where
  pub n : ℕ
  pub register : register_of scope x ≡ Reference n
  pub value : bank (z.refs + n) ≡ value_of s x
  pub within : n < ref_count scope

pub variable_ref : (z : Standing) (T : List ℤ) (scope : List Slot) (L : List ℤ) (ints refs : ℕ → ℤ) (s : State) (x : ℕ) → slot_kind scope x ≡ Some true → Agree z T scope L ints refs s → RefOf z scope refs s x
variable_ref z T scope L ints refs s x h a =
    let w : PointerAt 0 0 s.frame.variables x = pointer_at s.frame.variables x 0 0 (subst (λ sc. slot_kind sc x ≡ Some true) (sym a.shape) h) in
    let reg : register_of scope x ≡ Reference (0 + w.n) = subst (λ sc. register_of sc x ≡ Reference (0 + w.n)) a.shape w.register in
    let e : 0 + w.n ≡ w.n = omega arith in
    let ptrs = pointers_among s.frame.variables in
    let l = refs_length s.frame.variables ∙ ap ref_count a.shape in
    let lt = w.within in
    record {
      n = w.n;
      register = reg ∙ ap Reference e;
      value = a.refs (z.refs + w.n) ∙ ap (λ k. get_or (below z.callers ++ (ptrs ++ (T ++ L))) (k + w.n) (pos 0)) z.first
          ∙ get_or-append-add (below z.callers) (ptrs ++ (T ++ L)) w.n (pos 0) ∙ get_or_append_left ptrs (T ++ L) (pos 0) w.n w.within ∙ sym w.value;
      within = omega arith;
    }

abbrev pub context : Assignment → Standing → List Slot → Context
context m z scope = record { program = m; globals = z.flat.globals; scope = scope }

null_mutex : (p : ℤ) (n : ℕ) → is_null p ≡ true → through p n ≡ None
null_mutex p n e = rw e refl

some_mutex : (p : ℤ) (n : ℕ) → is_null p ≡ false → through p n ≡ Some (cell_of (Made (number_of p)) n)
some_mutex p n e = rw e refl

module _ (m : Assignment) (z : Standing) (scope : List Slot) where
  -- an access under this mode, which asks for an event and goes on
  module _ {B : Type 0} (T : List ℤ) (site : Site) (spot : Spot) (site_is : spot.site ≡ site) (ints refs : ℕ → ℤ) (s : State) (agree : Agree z T scope [] ints refs s)
      (o : Op) (cell : CellAt) (act : CellMode → Act) (then_ : ℤ → At → At) (lands : ℕ → ℤ → State → At)
      (turn_is : (pc : ℕ) (p : ℤ) (u : State) → op_turn z.flat o (pending_place z pc ints refs u p)
      ≡ under spot.mode (mutex_of z.flat.globals (pending_place z pc ints refs u p) cell spot.mode) spot (λ mode. asks (pending_place z pc ints refs u p) spot.site (act mode) (pos 0) (λ v n. accessed (on (then_ v n)))))
      (landing : (pc : ℕ) (p v : ℤ) (u : State) → accessed (on (then_ v (pending_place z pc ints refs u p))) ≡ lands pc v u)
      (answers_as : (mode : CellMode) (x : ℤ) → answer_of (value_in s.frame.variables) (act mode) x ≡ answer_of (λ token. pos 0) (act mode) x)
      (f : CellMode → Run B) (k : B → State → Fin) (k' : ℤ → State → Fin)
      (f_is : (mode : CellMode) (u : State) → fin_then (f mode u) k ≡ fin_then (happens u.answers site (act mode) u) k') where
    -- what the source goes on with after the event
    abbrev Goes : ℕ → ℕ → Type 0
    Goes pc c = (v : ℤ) (answers : List ℤ) (events : List SourceEvent) → Same z.flat s.fuel c (k' v (after_event s answers events)) answers (lands pc v (after_event s answers events))

    -- where its mode is known
    asks_access : (mode : CellMode) (pc c : ℕ) (p : ℤ) (ys : List ℤ) (es : List SourceEvent) (gs : List GivenUp) → slice_get z.flat.lines pc ≡ Some o
        → (let u = record s { answers = ys; events = es; given_up = gs } in
        op_turn z.flat o (pending_place z pc ints refs u p) ≡ asks (pending_place z pc ints refs u p) spot.site (act mode) (pos 0) (λ v n. accessed (on (then_ v n))))
        → Goes pc c → (let u = record s { answers = ys; events = es; given_up = gs } in Same z.flat s.fuel (c + 1) (fin_then (f mode u) k) ys (pending_place z pc ints refs u p))
    asks_access mode pc c p ys es gs at is rest =
        let u : State = record s { answers = ys; events = es; given_up = gs } in
        let held : Holds refs u = holding z T scope ints refs u (same_frame z T scope [] ints refs s u refl refl agree) in
        let is' = is ∙ ap (λ w. asks (pending_place z pc ints refs u p) w (act mode) (pos 0) (λ v n. accessed (on (then_ v n)))) site_is in
        subst (λ fin. Same z.flat s.fuel (c + 1) fin ys (pending_place z pc ints refs u p)) (sym (f_is mode u))
        (asks_at z.flat o site (act mode) (pos 0) (λ v n. accessed (on (then_ v n))) c ys u (pending_place z pc ints refs u p) (pending_place z pc ints refs u p) k' held refl refl at is' (answers_as mode)
        (λ x rest_of. subst (λ w. Same z.flat s.fuel c (k' x (after_event u rest_of (u.events ++ event_of site (act mode) x ∷ []))) rest_of w) (sym (landing pc p x (after_event u rest_of (u.events ++ event_of site (act mode) x ∷ []))))
        (rest x rest_of (u.events ++ event_of site (act mode) x ∷ []))))

    -- where its path leads through NULL
    stops_access : (pc c : ℕ) (p : ℤ) (ys : List ℤ) (es : List SourceEvent) (gs : List GivenUp) → slice_get z.flat.lines pc ≡ Some o
        → (let u = record s { answers = ys; events = es; given_up = gs } in op_turn z.flat o (pending_place z pc ints refs u p) ≡ halts (stopped Trap.NullPointer spot.site))
        → (let u = record s { answers = ys; events = es; given_up = gs } in Same z.flat s.fuel (c + 1) (fin_of (stopped Trap.NullPointer site) u) ys (pending_place z pc ints refs u p))
    stops_access pc c p ys es gs at is =
        let u : State = record s { answers = ys; events = es; given_up = gs } in
        ends z.flat o (stopped Trap.NullPointer site) c u (pending_place z pc ints refs u p) (holding z T scope ints refs u (same_frame z T scope [] ints refs s u refl refl agree)) refl refl at (is ∙ ap (λ w. halts (stopped Trap.NullPointer w)) site_is)

    -- a mutex behind a variable
    by_variable : (b : Bool) (x n field pc c : ℕ) → is_null (value_of s x) ≡ b → refs (z.refs + n) ≡ value_of s x → spot.mode ≡ PlaceMode.LockedThrough n field → slice_get z.flat.lines pc ≡ Some o → Goes pc c
        → Same z.flat s.fuel (c + 1) (fin_then (then_on (then_on (guarding site (guard_by (through (value_of s x) field)) s) (λ mutex. give (CellMode.Locked (Some mutex)))) f) k) s.answers (place z pc ints refs s)
    by_variable true x n field pc c e is mode at rest =
        let none : through (refs (z.refs + n)) field ≡ None = ap (λ v. through v field) is ∙ null_mutex (value_of s x) field e in
        subst (λ t. Same z.flat s.fuel (c + 1) (fin_then (then_on (then_on (guarding site (guard_by t) s) (λ mutex. give (CellMode.Locked (Some mutex)))) f) k) s.answers (place z pc ints refs s)) (sym (null_mutex (value_of s x) field e))
        (stops_access pc c (pos 0) s.answers s.events s.given_up at
        (turn_is pc (pos 0) s ∙ ap (λ w. under w (mutex_of z.flat.globals (place z pc ints refs s) cell w) spot (λ mode. asks (place z pc ints refs s) spot.site (act mode) (pos 0) (λ v n. accessed (on (then_ v n))))) mode
        ∙ ap (λ t. under_lock t spot (λ mode. asks (place z pc ints refs s) spot.site (act mode) (pos 0) (λ v n. accessed (on (then_ v n))))) none))
    by_variable false x n field pc c e is mode at rest =
        let some : through (refs (z.refs + n)) field ≡ Some (cell_of (Made (number_of (value_of s x))) field) = ap (λ v. through v field) is ∙ some_mutex (value_of s x) field e in
        subst (λ t. Same z.flat s.fuel (c + 1) (fin_then (then_on (then_on (guarding site (guard_by t) s) (λ mutex. give (CellMode.Locked (Some mutex)))) f) k) s.answers (place z pc ints refs s)) (sym (some_mutex (value_of s x) field e))
        (asks_access (CellMode.Locked (Some (cell_of (Made (number_of (value_of s x))) field))) pc c (pos 0) s.answers s.events s.given_up at
        (turn_is pc (pos 0) s ∙ ap (λ w. under w (mutex_of z.flat.globals (place z pc ints refs s) cell w) spot (λ mode. asks (place z pc ints refs s) spot.site (act mode) (pos 0) (λ v n. accessed (on (then_ v n))))) mode
        ∙ ap (λ t. under_lock t spot (λ mode. asks (place z pc ints refs s) spot.site (act mode) (pos 0) (λ v n. accessed (on (then_ v n))))) some) rest)

    -- a mutex in a cell that is known
    by_cell : (at_mutex : CellAt) (pc c : ℕ) → (mode : PlaceMode) → spot.mode ≡ mode
        → ((u : State) → under mode (mutex_of z.flat.globals (place z pc ints refs u) cell mode) spot (λ mode. asks (place z pc ints refs u) spot.site (act mode) (pos 0) (λ v n. accessed (on (then_ v n))))
        ≡ asks (place z pc ints refs u) spot.site (act (CellMode.Locked (Some at_mutex))) (pos 0) (λ v n. accessed (on (then_ v n))))
        → slice_get z.flat.lines pc ≡ Some o → Goes pc c
        → Same z.flat s.fuel (c + 1) (fin_then (f (CellMode.Locked (Some at_mutex)) s) k) s.answers (place z pc ints refs s)
    by_cell at_mutex pc c mode is turn at rest =
        asks_access (CellMode.Locked (Some at_mutex)) pc c (pos 0) s.answers s.events s.given_up at
        (turn_is pc (pos 0) s ∙ ap (λ w. under w (mutex_of z.flat.globals (place z pc ints refs s) cell w) spot (λ mode. asks (place z pc ints refs s) spot.site (act mode) (pos 0) (λ v n. accessed (on (then_ v n))))) is ∙ turn s) rest

    -- no mutex at all
    by_none : (pc c : ℕ) → spot.mode ≡ PlaceMode.LockedLoaded → slice_get z.flat.lines pc ≡ Some o → Same z.flat s.fuel (c + 1) (fin_of (stopped Trap.NullPointer site) s) s.answers (place z pc ints refs s)
    by_none pc c mode at =
        stops_access pc c (pos 0) s.answers s.events s.given_up at
        (turn_is pc (pos 0) s ∙ ap (λ w. under w (mutex_of z.flat.globals (place z pc ints refs s) cell w) spot (λ mode. asks (place z pc ints refs s) spot.site (act mode) (pos 0) (λ v n. accessed (on (then_ v n))))) mode)

    -- a mutex behind a pointer, which has been read
    behind_read : (b : Bool) (p : ℤ) (pc c : ℕ) (ys : List ℤ) (es : List SourceEvent) → is_null p ≡ b → spot.mode ≡ PlaceMode.LockedLoaded → slice_get z.flat.lines pc ≡ Some o → Goes pc c
        → Same z.flat s.fuel (c + 1) (fin_then (then_on (unless_stop (not (is_null p)) Trap.NullPointer site (after_event s ys es)) (λ _. give (cell_of (Made (number_of p)) 0))) (λ mutex u. fin_then (f (CellMode.Locked (Some mutex)) u) k)) ys (pending_place z pc ints refs (after_event s ys es) p)
    behind_read true p pc c ys es e mode at rest =
        subst (λ b. Same z.flat s.fuel (c + 1) (fin_then (then_on (unless_stop (not b) Trap.NullPointer site (after_event s ys es)) (λ _. give (cell_of (Made (number_of p)) 0))) (λ mutex u. fin_then (f (CellMode.Locked (Some mutex)) u) k)) ys (pending_place z pc ints refs (after_event s ys es) p)) (sym e)
        (stops_access pc c p ys es [] at
        (turn_is pc p (after_event s ys es) ∙ ap (λ w. under w (mutex_of z.flat.globals (pending_place z pc ints refs (after_event s ys es) p) cell w) spot (λ mode. asks (pending_place z pc ints refs (after_event s ys es) p) spot.site (act mode) (pos 0) (λ v n. accessed (on (then_ v n))))) mode
        ∙ ap (λ t. under_lock t spot (λ mode. asks (pending_place z pc ints refs (after_event s ys es) p) spot.site (act mode) (pos 0) (λ v n. accessed (on (then_ v n))))) (null_mutex p 0 e)))
    behind_read false p pc c ys es e mode at rest =
        subst (λ b. Same z.flat s.fuel (c + 1) (fin_then (then_on (unless_stop (not b) Trap.NullPointer site (after_event s ys es)) (λ _. give (cell_of (Made (number_of p)) 0))) (λ mutex u. fin_then (f (CellMode.Locked (Some mutex)) u) k)) ys (pending_place z pc ints refs (after_event s ys es) p)) (sym e)
        (asks_access (CellMode.Locked (Some (cell_of (Made (number_of p)) 0))) pc c p ys es [] at
        (turn_is pc p (after_event s ys es) ∙ ap (λ w. under w (mutex_of z.flat.globals (pending_place z pc ints refs (after_event s ys es) p) cell w) spot (λ mode. asks (pending_place z pc ints refs (after_event s ys es) p) spot.site (act mode) (pos 0) (λ v n. accessed (on (then_ v n))))) mode
        ∙ ap (λ t. under_lock t spot (λ mode. asks (pending_place z pc ints refs (after_event s ys es) p) spot.site (act mode) (pos 0) (λ v n. accessed (on (then_ v n))))) (some_mutex p 0 e)) rest)

    by_behind : (guard : Op) (gspot : Spot) (gcell : Cell) (at_guard : CellAt) (pc c : ℕ) → guard ≡ Op.LoadGuard gcell gspot → gspot.site ≡ site → ((u : State) → cell_at z.flat.globals (place z pc ints refs u) gcell ≡ at_guard)
        → spot.mode ≡ PlaceMode.LockedLoaded → slice_get z.flat.lines pc ≡ Some guard → slice_get z.flat.lines (pc + 1) ≡ Some o → Goes (pc + 1) c
        → Same z.flat s.fuel (c + 2) (fin_then (then_on (then_on (guarding site (behind at_guard) s) (λ mutex. give (CellMode.Locked (Some mutex)))) f) k) s.answers (place z pc ints refs s)
    by_behind guard gspot gcell at_guard pc c g gsite cell_is mode at_g at rest =
        let m0 = place z pc ints refs s in
        let two : c + 1 + 1 ≡ c + 2 = omega arith in
        bind z.flat s.fuel (c + 2) s.answers (then_on (guarding site (behind at_guard) s) (λ mutex. give (CellMode.Locked (Some mutex)))) f k m0
        (bind z.flat s.fuel (c + 2) s.answers (guarding site (behind at_guard) s) (λ mutex. give (CellMode.Locked (Some mutex))) (λ mode u. fin_then (f mode u) k) m0
        (bind z.flat s.fuel (c + 2) s.answers (answered site (Act.Read at_guard CellMode.Readonly) s) (λ p. unless_stop (not (is_null p)) Trap.NullPointer site >> give (cell_of (Made (number_of p)) 0)) (λ mutex u. fin_then (give (CellMode.Locked (Some mutex)) u) (λ mode u. fin_then (f mode u) k)) m0
        (subst (λ n. Same z.flat s.fuel n (fin_then (happens s.answers site (Act.Read at_guard CellMode.Readonly) s) (λ p u. fin_then ((unless_stop (not (is_null p)) Trap.NullPointer site >> give (cell_of (Made (number_of p)) 0)) u) (λ mutex u. fin_then (give (CellMode.Locked (Some mutex)) u) (λ mode u. fin_then (f mode u) k)))) s.answers m0) two
        (asks_at z.flat guard site (Act.Read at_guard CellMode.Readonly) (pos 0) (λ v n. on (record n { pending = v })) (c + 1) s.answers s m0 m0 _ (holding z T scope ints refs s agree) refl refl at_g
        (ap (λ q. op_turn z.flat q m0) g ∙ ap (λ w. asks m0 gspot.site (Act.Read w CellMode.Readonly) (pos 0) (λ v n. on (record n { pending = v }))) (cell_is s) ∙ ap (λ w. asks m0 w (Act.Read at_guard CellMode.Readonly) (pos 0) (λ v n. on (record n { pending = v }))) gsite)
        (λ x. refl)
        (λ x rest_of. behind_read (is_null x) x (pc + 1) c rest_of (s.events ++ event_of site (Act.Read at_guard CellMode.Readonly) x ∷ []) refl mode at rest)))))

    -- where the guard's statement lies, and that of the access after it
    module _ (i r first n : ℕ) (lvalue : Lvalue) (t : Target) (cell_is : cell ≡ cell_of cell.object (first + field_of t))
        (guard : Option ℕ) (guard_is : (mutex : ℕ) (u : State) → guard ≡ Some mutex → cell_at z.flat.globals (place z 0 ints refs u) (guard_cell z.flat.globals mutex i r t) ≡ cell_of cell.object (first + mutex)) where
      abbrev ctx : Context
      ctx = context m z scope

      abbrev Guarded : Sharing → ℕ → List Op → Type 0
      Guarded mode pc os = HasAt z.flat.lines pc (guard_code ctx i r site lvalue t (guard_field m.typed mode) ++ o ∷ os)

      here : (pc c : ℕ) → Goes (pc + 0) c → Goes pc c
      here pc c h = let e : pc + 0 ≡ pc = omega arith in subst (λ n. Goes n c) e h

      plain : (mode : CellMode) (pc c : ℕ) (os : List Op) → HasAt z.flat.lines pc (o ∷ os)
          → op_turn z.flat o (place z pc ints refs s) ≡ asks (place z pc ints refs s) spot.site (act mode) (pos 0) (λ v n. accessed (on (then_ v n)))
          → Goes (pc + 0) c → Same z.flat s.fuel (c + 1 + 0) (fin_then (f mode s) k) s.answers (place z pc ints refs s)
      plain mode pc c os has is rest =
          weaken z.flat s.fuel (c + 1) (c + 1 + 0) _ s.answers _ (omega arith) (asks_access mode pc c (pos 0) s.answers s.events s.given_up has.0 is (here pc c rest))

      turn_at : (mode : PlaceMode) (pc : ℕ) → spot.mode ≡ mode → op_turn z.flat o (place z pc ints refs s)
          ≡ under mode (mutex_of z.flat.globals (place z pc ints refs s) cell mode) spot (λ mode. asks (place z pc ints refs s) spot.site (act mode) (pos 0) (λ v n. accessed (on (then_ v n))))
      turn_at mode pc is = turn_is pc (pos 0) s ∙ ap (λ w. under w (mutex_of z.flat.globals (place z pc ints refs s) cell w) spot (λ mode. asks (place z pc ints refs s) spot.site (act mode) (pos 0) (λ v n. accessed (on (then_ v n))))) is

      -- a sibling guards it
      sibling_runs : (b : Bool) (mutex pc c : ℕ) (os : List Op) → guard ≡ Some mutex → spot.mode ≡ mode_beside b (field_of t) mutex
          → HasAt z.flat.lines pc (guard_code ctx i r site lvalue t (cond b (Some mutex) None) ++ o ∷ os)
          → Goes (pc + length (guard_code ctx i r site lvalue t (cond b (Some mutex) None))) c
          → Same z.flat s.fuel (c + 1 + length (guard_code ctx i r site lvalue t (cond b (Some mutex) None))) (fin_then (then_on (then_on (guarding site (guard_beside b (cell_of cell.object (first + mutex))) s) (λ mutex. give (CellMode.Locked (Some mutex)))) f) k) s.answers (place z pc ints refs s)
      sibling_runs true mutex pc c os ge mode has rest =
          weaken z.flat s.fuel (c + 2) (c + 1 + 1) _ s.answers _ (omega arith) (by_behind _ _ (guard_cell z.flat.globals mutex i r t) (cell_of cell.object (first + mutex)) pc c refl refl (λ u. guard_is mutex u ge) mode has.0 has.1.0 rest)
      sibling_runs false mutex pc c os ge mode has rest =
          let e : cell.cell ≡ first + field_of t = ap (λ (w : CellAt). w.cell) cell_is in
          let at : cell.cell - field_of t + mutex ≡ first + mutex = omega (arith, e) in
          weaken z.flat s.fuel (c + 1) (c + 1 + 0) _ s.answers _ (omega arith)
          (by_cell (cell_of cell.object (first + mutex)) pc c (PlaceMode.LockedSibling (field_of t) mutex) mode
          (λ u. ap (λ w. asks (place z pc ints refs u) spot.site (act (CellMode.Locked (Some (cell_of cell.object w)))) (pos 0) (λ v n. accessed (on (then_ v n)))) at)
          has.0 (here pc c rest))

      path_runs : (l : Lock) (what : Named) (second : Option (List ℕ)) (pc c : ℕ) (os : List Op) → guard ≡ places_of.beside_named m.typed l what → spot.mode ≡ mode_named ctx (field_of t) l what second → PathNamed scope what second
          → HasAt z.flat.lines pc (guard_code ctx i r site lvalue t (places_of.guard_named m.typed l what) ++ o ∷ os)
          → Goes (pc + length (guard_code ctx i r site lvalue t (places_of.guard_named m.typed l what))) c → l.second ≡ second
          → Same z.flat s.fuel (c + 1 + length (guard_code ctx i r site lvalue t (places_of.guard_named m.typed l what))) (fin_then (then_on (then_on (guarding site (guard_named m.typed (value_of s) cell.object first l what) s) (λ mutex. give (CellMode.Locked (Some mutex)))) f) k) s.answers (place z pc ints refs s)
      path_runs l (Named.Field token) second pc c os ge mode path has rest e =
          sibling_runs (is_behind_pointer m.typed l) (field_place m.typed token) pc c os ge mode has rest
      path_runs l (Named.Global g) second pc c os ge mode path has rest e =
          let zero_is : first_cell z.flat.globals g - first_cell z.flat.globals g ≡ 0 = omega arith in
          weaken z.flat s.fuel (c + 1) (c + 1 + 0) _ s.answers _ (omega arith)
          (by_cell (cell_of (Global g) 0) pc c (PlaceMode.LockedGlobal g (first_cell z.flat.globals g)) mode
          (λ u. ap (λ w. asks (place z pc ints refs u) spot.site (act (CellMode.Locked (Some (cell_of (Global g) w)))) (pos 0) (λ v n. accessed (on (then_ v n)))) zero_is)
          has.0 (here pc c rest))
      path_runs l (Named.Variable x) (Some field) pc c os ge mode path has rest e =
          let w = variable_ref z T scope [] ints refs s x path agree in
          let num : number_in (register_of scope x) ≡ w.n = ap number_in w.register in
          subst (λ sec. Same z.flat s.fuel (c + 1 + 0) (fin_then (then_on (then_on (guarding site (guard_by (mutex_named m.typed (value_of s) (Named.Variable x) sec)) s) (λ mutex. give (CellMode.Locked (Some mutex)))) f) k) s.answers (place z pc ints refs s)) (sym e)
          (weaken z.flat s.fuel (c + 1) (c + 1 + 0) _ s.answers _ (omega arith)
          (by_variable (is_null (value_of s x)) x w.n (field_place_behind m.typed x field) pc c refl w.value (mode ∙ ap (λ n. PlaceMode.LockedThrough n (field_place_behind m.typed x field)) num) has.0 (here pc c rest)))
      path_runs l (Named.Variable x) None pc c os ge mode path has rest e =
          subst (λ sec. Same z.flat s.fuel (c + 1 + 0) (fin_then (then_on (then_on (guarding site (guard_by (mutex_named m.typed (value_of s) (Named.Variable x) sec)) s) (λ mutex. give (CellMode.Locked (Some mutex)))) f) k) s.answers (place z pc ints refs s)) (sym e)
          (weaken z.flat s.fuel (c + 1) (c + 1 + 0) _ s.answers _ (omega arith) (by_none pc c mode has.0))
      path_runs l _ second pc c os ge mode path has rest e = weaken z.flat s.fuel (c + 1) (c + 1 + 0) _ s.answers _ (omega arith) (by_none pc c mode has.0)

      pub access_exact : (mode : Sharing) (pc c : ℕ) (os : List Op) → guard ≡ beside_field m.typed mode → spot.mode ≡ place_mode ctx (field_of t) mode → PathStands m.typed scope mode
          → HasAt z.flat.lines pc (guard_code ctx i r site lvalue t (guard_field m.typed mode) ++ o ∷ os)
          → Goes (pc + length (guard_code ctx i r site lvalue t (guard_field m.typed mode))) c
          → Same z.flat s.fuel (c + 1 + length (guard_code ctx i r site lvalue t (guard_field m.typed mode))) (fin_then (then_on (access_mode m.typed site mode cell.object first s) f) k) s.answers (place z pc ints refs s)
      access_exact private pc c os ge mode path has rest = plain CellMode.Private pc c os has (turn_at PlaceMode.Private pc mode) rest
      access_exact readonly pc c os ge mode path has rest = plain CellMode.Readonly pc c os has (turn_at PlaceMode.Readonly pc mode) rest
      access_exact racy pc c os ge mode path has rest = plain CellMode.Racy pc c os has (turn_at PlaceMode.Racy pc mode) rest
      access_exact dynamic pc c os ge mode path has rest = plain CellMode.Dynamic pc c os has (turn_at PlaceMode.Dynamic pc mode) rest
      access_exact (locked l) pc c os ge mode path has rest = path_runs l (named_at m.typed l.first) l.second pc c os ge mode path has rest refl

      guard_length : (g : Option ℕ) → length (guard_code ctx i r site lvalue t g) ≤ 1
      guard_length None = omega arith
      guard_length (Some n) = omega arith

      pub access_runs : (mode : Sharing) (pc c : ℕ) (os : List Op) → guard ≡ beside_field m.typed mode → spot.mode ≡ place_mode ctx (field_of t) mode → PathStands m.typed scope mode
          → HasAt z.flat.lines pc (guard_code ctx i r site lvalue t (guard_field m.typed mode) ++ o ∷ os)
          → Goes (pc + length (guard_code ctx i r site lvalue t (guard_field m.typed mode))) c
          → Same z.flat s.fuel (c + 2) (fin_then (then_on (access_mode m.typed site mode cell.object first s) f) k) s.answers (place z pc ints refs s)
      access_runs mode pc c os ge is path has rest =
          weaken z.flat s.fuel (c + 1 + length (guard_code ctx i r site lvalue t (guard_field m.typed mode))) (c + 2) _ s.answers _ (omega (arith, guard_length (guard_field m.typed mode))) (access_exact mode pc c os ge is path has rest)
