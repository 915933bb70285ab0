-- One statement of flat code and its own guarded statement.
use Rattle.sharc_guard.proofs.{Imports.{spot_of, ◌≡◌, ◌≢◌, ℕ, ℤ, pos, negsuc, suc, ◌+◌, ◌*◌, ◌<◌, ◌≤◌, inl, inr, Bool, true, false, not, List, [], ◌∷◌, ◌++◌, length, Some, None, refl, sym, ap, ◌∙◌, subst, arith, cond, ⊎_elim, Result, Ok, Err, cases_eq, cases_lt, nat_tests, fun_ext, nat_lt, ◌==◌, Act, CellAt, CellMode, SourceEvent, Site, Trap, Taken, Function, Readonly, Use, Cell, Instr, Register, Char, Int, Long, computed, negated, holds, complement, truth, GivenUp, Released, Replaced, Emptied, is_zero, is_equal, held_mutexes, holds_mutex, locked_by, unlocked_by, number_of, elements_of, stopped, event_of, answer_of, is_positive, Op, Spot, Flat, Caller, At, Turn, goes, asks, put, int, ref, set_int, set_ref, gives_up, popped, moved, settled, next, over_lines, goes_on, stops, asserts, with_result, cell_at, base_of, without_base, cell_mode_of, lock_is_null, instance_mode, accessed, accesses, event, indexed, take_kind_of, variable_of, takes_local, called, returned, argument, handed, op_turn, with_event, Program, Thread, source_at, place, guarded, own, body, tail, Slot, free, full, Slots, with_slot, with_moved, without_cell, slot_of, without_handed, Enters, Calls, Resumes, Leaves, Level, IsLevel, IsEnd, AreLowered}, Places.IsPlaceOf, Holding.{quiet_held, lock_held, unlock_held}, Beside.{zero_same, kind_same, variable_same, callers, callers_length, beside, cell_same, mode_same, argument_same, object_same}, Ready.{put_at, put_other, moved_same, Is, Hold, hold_as, Frames, Ready, enters, keeps as keeps_at, puts as puts_at, moves as moves_at, call_ready as call_ready_at, return_ready as return_ready_at, null_here as null_here_at, is_free as is_free_at}, Near.{Near, Follow, lands}, Placing.{entered_is}}
use Rattle.sharc_code.specs.Arithmetic as Code
use Rattle.sharc_code.specs.Machine as CodeMachine
use Rattle.sharc_code.specs.Says as Says
use Rattle.sharc_guard.specs.Machine as Form

-- the path of an access's lock leads not through NULL
abbrev pub IsOpenFor : Op → At → Type 0
IsOpenFor (Op.Load i cell spot) m = lock_is_null m spot spot.mode ≡ false
IsOpenFor (Op.Store i cell spot) m = lock_is_null m spot spot.mode ≡ false
IsOpenFor (Op.LoadRef r cell spot) m = lock_is_null m spot spot.mode ≡ false
IsOpenFor (Op.StoreRef r cell spot) m = lock_is_null m spot spot.mode ≡ false
IsOpenFor (Op.TakeCell r cell spot) m = lock_is_null m spot spot.mode ≡ false
IsOpenFor _ m = Unit {0}

lowered_more : (gs : List GivenUp) (ns : List ℕ) (n : ℕ) → AreLowered gs ns → AreLowered (gs ++ Released n ∷ []) (ns ++ n ∷ [])
lowered_more [] [] n h = (refl, tt)
lowered_more (Released g ∷ gs) (k ∷ ns) n h = (h.0, lowered_more gs ns n h.1)
lowered_more (Replaced c ∷ gs) (k ∷ ns) n h = lowered_more gs ns n h
lowered_more (Emptied g ∷ gs) ns n h = lowered_more gs ns n h
lowered_more _ _ n h = absurd h

module _ (dropped : ℕ → Bool) (flat : Flat) (level : IsLevel flat) (m : At) (q : ℕ) (low : List ℕ) (lows : AreLowered m.given low) (rd : Ready flat level m) where
  abbrev s : ℕ
  s = m.pc

  abbrev pl : ℕ → ℕ
  pl = place dropped flat.lines

  abbrev p : Program
  p = guarded dropped flat

  abbrev log : List CellAt
  log = held_mutexes m.events

  abbrev me : Thread
  me = beside pl m q log low

  abbrev F : List Instr → Turn → Form.Turn → Type 0
  F = Follow dropped flat level

  abbrev N : At → Thread → List Instr → Type 0
  N = Near dropped flat level

  abbrev pub R : At → Type 0
  R = Ready flat level

  abbrev pub En : Slots → ℕ → Type 0
  En = Enters flat level.owner level.gives level.slots (level.owner m.pc)

  abbrev pub here : Slots
  here = level.slots m.pc

  keeps : (m2 : At) → En here m2.pc → m2.refs ≡ m.refs → m2.ref_base ≡ m.ref_base → m2.frames ≡ m.frames → R m2
  keeps = keeps_at flat level m rd

  puts : (m2 : At) (r : ℕ) (x : Slot) (v : ℤ) → Is x v → En (with_slot here r x) m2.pc → m2.refs ≡ put m.refs (m.ref_base + r) v → m2.ref_base ≡ m.ref_base → m2.frames ≡ m.frames → R m2
  puts = puts_at flat level m rd

  moves : (m2 : At) (r from : ℕ) → En (with_moved here r from) m2.pc → m2.refs ≡ put (put m.refs (m.ref_base + from) (pos 0)) (m.ref_base + r) (m.refs (m.ref_base + from)) → m2.ref_base ≡ m.ref_base → m2.frames ≡ m.frames → R m2
  moves = moves_at flat level m rd

  call_ready : (f ints_at refs_at : ℕ) → Calls flat level.owner level.gives level.slots f here refs_at → Resumes flat level.owner level.gives level.slots (level.owner m.pc) here refs_at (m.pc + 1) f → R (called flat f ints_at refs_at m)
  call_ready = call_ready_at flat level m rd

  return_ready : (c : Caller) (rest : List Caller) → Frames flat level (level.owner m.pc) m.ref_base m.refs (c ∷ rest) → Leaves flat level.owner level.gives level.slots (level.owner m.pc) here
      → R (record m { pc = c.pc; int_base = c.ints; ref_base = c.refs; frames = rest })
  return_ready = return_ready_at flat level m rd

  null_here : (r : ℕ) → here r ≡ free → m.refs (m.ref_base + r) ≡ pos 0
  null_here = null_here_at flat level m rd

  is_free : (r : ℕ) → is_zero (ref m r) ≡ true → Is free (m.refs (m.ref_base + r))
  is_free = is_free_at flat level m rd

  -- the registers stay, or one changes

  -- ---- goes on
  stays : (e : q + 1 ≡ pl (m.pc + 1)) (m2 : At) → R m2 → m2.events ≡ m.events → m2.given ≡ m.given → m2.pc ≡ m.pc + 1 → N m2 (beside pl m2 (q + 1) log low) []
  stays e m2 r ev gi pc = lands dropped flat level m2 (q + 1) log low (e ∙ ap pl (sym pc)) r (ap held_mutexes (sym ev)) (subst (λ g. AreLowered g low) (sym gi) lows)

  jumps : (to : ℕ) (s2 : Slots) → Enters flat level.owner level.gives level.slots (level.owner m.pc) s2 to → Hold s2 m.ref_base m.refs → N (record m { pc = to }) (beside pl (record m { pc = to }) (pl to) log low) []
  jumps to s2 en h = lands dropped flat level (record m { pc = to }) (pl to) log low refl (enters flat level m (record m { pc = to }) s2 rd.frames en h (λ k lt. refl) refl refl) refl lows

  ints : (e : q + 1 ≡ pl (m.pc + 1)) (i : ℕ) (v : ℤ) → En here (m.pc + 1) → N (next (set_int i v m)) (beside pl (next (set_int i v m)) (q + 1) log low) []
  ints e i v en = stays e (next (set_int i v m)) (keeps (next (set_int i v m)) en refl refl refl) refl refl refl

  on : (e : q + 1 ≡ pl (m.pc + 1)) → En here (m.pc + 1) → N (next m) (beside pl (next m) (q + 1) log low) []
  on e en = stays e (next m) (keeps (next m) en refl refl refl) refl refl refl

  -- ---- chooses
  chooses : (b b2 : Bool) (m1 m2 : At) (a1 a2 : Thread) → b2 ≡ b → (b ≡ true → N m1 a1 []) → (b ≡ false → N m2 a2 []) → F [] (goes (cond b m1 m2)) (cond b2 (Form.Goes a1) (Form.Goes a2))
  chooses b b2 m1 m2 a1 a2 e f g = subst (λ b2. F [] (goes (cond b m1 m2)) (cond b2 (Form.Goes a1) (Form.Goes a2))) (sym e) (each b refl)
    where
      each : (c : Bool) → b ≡ c → F [] (goes (cond c m1 m2)) (cond c (Form.Goes a1) (Form.Goes a2))
      each true h = inl (f h)
      each false h = inl (g h)

  stops_so : (trap : Trap) (spot : Spot) → IsPlaceOf spot (source_at p s) → IsEnd p (Form.Stopped trap s) (stopped trap spot.site)
  stops_so trap spot k = ap (stopped trap) (sym k.site)

  asserted : (b b2 : Bool) (trap : Trap) (spot : Spot) → IsPlaceOf spot (source_at p s) → b2 ≡ b → (b ≡ true → N (next m) (Form.next me) []) → F [] (asserts b trap spot m) (Form.asserts me b2 trap s)
  asserted b b2 trap spot k e f = subst (λ b2. F [] (asserts b trap spot m) (Form.asserts me b2 trap s)) (sym e) (each b refl)
    where
      each : (c : Bool) → b ≡ c → F [] (asserts c trap spot m) (Form.asserts me c trap s)
      each true h = inl (f h)
      each false h = stops_so trap spot k

  resulted : (e : q + 1 ≡ pl (m.pc + 1)) (i : ℕ) (spot : Spot) → IsPlaceOf spot (source_at p s) → En here (m.pc + 1) → (z : Result ℤ Trap) → F [] (with_result i spot m z) (Form.with_result me i s z)
  resulted e i spot k en (Ok v) = inl (ints e i v en)
  resulted e i spot k en (Err trap) = stops_so trap spot k

  index_follows : (e : q + 1 ≡ pl (m.pc + 1)) (i cells field elements : ℕ) (spot : Spot) → IsPlaceOf spot (source_at p s) → En here (m.pc + 1) → (z : ℤ) → F [] (indexed i cells field z elements spot m) (Form.indexed me i z cells field s elements)
  index_follows e i cells field elements spot k en (pos n) = each (nat_lt n elements)
    where
      each : (b : Bool) → F [] (cond b (goes_on (set_int i (pos (n * cells + field)) m)) (stops Trap.IndexOutOfBounds spot)) (cond b (Form.goes (Form.set_int me i (pos (n * cells + field)))) (Form.Halts (Form.Stopped Trap.IndexOutOfBounds s)))
      each true = inl (ints e i (pos (n * cells + field)) en)
      each false = stops_so Trap.IndexOutOfBounds spot k
  index_follows e i cells field elements spot k en (negsuc n) = stops_so Trap.IndexOutOfBounds spot k

  -- ---- asks
  asked : (rest : List Instr) (site site2 : Site) (act act2 : Act) (held : ℤ) (f : ℤ → At → At) (answer : ℤ → ℤ) (go : ℤ → Thread → Thread) (m2 : At) → site2 ≡ site → act2 ≡ act
      → ((x : ℤ) → N (f (answer_of (λ token. held) act x) (with_event (event_of site act (answer_of (λ token. held) act x)) m2)) (go x (Form.told me site act (answer x))) rest)
      → F rest (asks m2 site act held f) (Form.asks me site2 act2 answer go)
  asked rest site site2 act act2 held f answer go m2 es ea h = (
    es,
    ea,
    λ x. subst (λ site2. N (f (answer_of (λ token. held) act x) (with_event (event_of site act (answer_of (λ token. held) act x)) m2)) (go x (Form.told me site2 act2 (answer x))) rest) (sym es)
        (subst (λ act2. N (f (answer_of (λ token. held) act x) (with_event (event_of site act (answer_of (λ token. held) act x)) m2)) (go x (Form.told me site act2 (answer x))) rest) (sym ea) (h x)),
  )

  -- an access, whose lock is one
  accessing : (rest : List Instr) (cell : Cell) (spot : Spot) (act : CellAt → CellMode → Act) (then_ : CellAt → ℤ → At → At) (answer : ℤ → ℤ) (go : ℤ → Thread → Thread)
      → IsPlaceOf spot (source_at p s) → lock_is_null m spot spot.mode ≡ false
      → ((mode : CellMode) (x : ℤ) → let c = cell_at flat.globals m cell in let v = answer_of (λ token. pos 0) (act c mode) x in
      N (accessed (next (then_ c v (with_event (event_of spot.site (act c mode) v) m)))) (go x (Form.told me spot.site (act c mode) (answer x))) rest)
      → F rest (accesses flat.globals cell spot act then_ m) (Form.access_at p me s cell act answer go)
  accessing rest cell spot act then_ answer go k way h =
      subst (λ b. F rest (cond b (stops Trap.NullPointer spot) (asks m spot.site (act c mode) (pos 0) (λ v n. accessed (next (then_ c v n))))) (Form.access_at p me s cell act answer go)) (sym way)
      (asked rest spot.site (source_at p s).site (act c mode) (act (Form.cell_at p me cell) (Form.mode_of p me (Form.cell_at p me cell) (source_at p s).mode)) (pos 0) (λ v n. accessed (next (then_ c v n))) answer go m
      k.site (ap (λ z. act z (Form.mode_of p me z (source_at p s).mode)) (cell_same dropped flat m q log low cell) ∙ ap (λ z. act c (Form.mode_of p me c z)) k.mode ∙ ap (act c) (mode_same dropped flat m q log low c spot.mode))
      (h mode))
    where
      c : CellAt
      c = cell_at flat.globals m cell

      mode : CellMode
      mode = cell_mode_of flat.globals m c spot.mode

  -- after an event that takes and gives no mutex
  behind : (e : q + 1 ≡ pl (m.pc + 1)) (m2 : At) → R m2 → log ≡ held_mutexes m2.events → m2.given ≡ [] → m2.pc ≡ m.pc + 1 → N m2 (beside pl m2 (q + 1) log []) []
  behind e m2 r eh gi pc = lands dropped flat level m2 (q + 1) log [] (e ∙ ap pl (sym pc)) r eh (subst (λ g. AreLowered g []) (sym gi) tt)

  plain : (site : Site) (act : Act) (v : ℤ) → locked_by act ≡ None → unlocked_by act ≡ None → log ≡ held_mutexes (m.events ++ event_of site act v ∷ [])
  plain site act v l u = sym (quiet_held m.events (event_of site act v) l u)

  -- ---- functions
  few_frames : nat_lt (length (callers pl m.frames)) 256 ≡ nat_lt (length m.frames) 255
  few_frames = ap (λ n. nat_lt n 256) (callers_length pl m.frames) ∙ less (length m.frames)
    where
      less : (n : ℕ) → nat_lt (suc n) 256 ≡ nat_lt n 255
      less n = ⊎_elim
          (λ (lt : n < 255). let a : nat_lt (suc n) 256 ≡ true = grind (arith, nat_tests) in let b : nat_lt n 255 ≡ true = grind (arith, nat_tests) in a ∙ sym b)
          (λ (le : 255 ≤ n). let a : nat_lt (suc n) 256 ≡ false = grind (arith, nat_tests) in let b : nat_lt n 255 ≡ false = grind (arith, nat_tests) in a ∙ sym b)
          (cases_lt n 255)

  calls : (e : q + 1 ≡ pl (m.pc + 1)) (f i r : ℕ) (spot : Spot) → IsPlaceOf spot (source_at p s) → Calls flat level.owner level.gives level.slots f here r → Resumes flat level.owner level.gives level.slots (level.owner m.pc) here r (m.pc + 1) f
      → F [] (cond (nat_lt (length m.frames) 255) (goes (called flat f i r m)) (stops Trap.CallDepth spot)) (Form.called p me f i r s)
  calls e f i r spot k c back = subst (λ b. F [] (cond (nat_lt (length m.frames) 255) (goes (called flat f i r m)) (stops Trap.CallDepth spot)) (cond b (Form.Goes there) (Form.Halts (Form.Stopped Trap.CallDepth s)))) (sym few_frames) (each (nat_lt (length m.frames) 255))
    where
      there : Thread
      there = record me {
        pc = (Form.function_at p f).entry;
        ints_from = m.int_base + i;
        refs_from = m.ref_base + r;
        frames = record { pc = q + 1; ints = m.int_base; refs = m.ref_base } ∷ callers pl m.frames;
      }

      m2 : At
      m2 = called flat f i r m

      is_there : there ≡ beside pl m2 (pl m2.pc) log low
      is_there =
          ap (λ z. record me { pc = z; ints_from = m.int_base + i; refs_from = m.ref_base + r; frames = record { pc = q + 1; ints = m.int_base; refs = m.ref_base } ∷ callers pl m.frames }) (ap (λ (g : Function). g.entry) (entered_is dropped flat f c.known))
          ∙ ap (λ z. record me { pc = pl m2.pc; ints_from = m.int_base + i; refs_from = m.ref_base + r; frames = record { pc = z; ints = m.int_base; refs = m.ref_base } ∷ callers pl m.frames }) e

      each : (b : Bool) → F [] (cond b (goes m2) (stops Trap.CallDepth spot)) (cond b (Form.Goes there) (Form.Halts (Form.Stopped Trap.CallDepth s)))
      each true = inl (subst (λ a. N m2 a []) (sym is_there) (lands dropped flat level m2 (pl m2.pc) log low refl (call_ready f i r c back) refl lows))
      each false = stops_so Trap.CallDepth spot k

  -- back in a caller's frame

  returns : (spot : Spot) → IsPlaceOf spot (source_at p s) → Leaves flat level.owner level.gives level.slots (level.owner m.pc) here → (cs : List Caller) → Frames flat level (level.owner m.pc) m.ref_base m.refs cs
      → F [] (returned flat cs spot m) (Form.returned p me s (callers pl cs))
  returns spot k lv [] fr = each (nat_lt 0 (length log))
    where
      each : (b : Bool) → F [] (cond (not b) (goes (record m { pc = length flat.lines })) (stops Trap.ReturnWithLockHeld spot)) (cond b (Form.Halts (Form.Stopped Trap.ReturnWithLockHeld s)) (Form.Goes (Form.back_to me (record { pc = 1; ints = 0; refs = 0 }) [])))
      each true = stops_so Trap.ReturnWithLockHeld spot k
      each false = inr (record { steps = 0; few = omega arith; pc_is = omega arith; at_exit = refl; phase_is = refl; refs = refl; events = refl; function = refl; lows = lows })
  returns spot k lv (c ∷ []) fr = inl (lands dropped flat level (record m { pc = c.pc; int_base = c.ints; ref_base = c.refs; frames = [] }) (pl c.pc) log low refl (return_ready c [] fr lv) refl lows)
  returns spot k lv (c ∷ d ∷ rest) fr = inl (lands dropped flat level (record m { pc = c.pc; int_base = c.ints; ref_base = c.refs; frames = d ∷ rest }) (pl c.pc) log low refl (return_ready c (d ∷ rest) fr lv) refl lows)

  -- ---- references that go from one register to another in two statements
  pub put_twice : (bank : ℕ → ℤ) (r : ℕ) (v w : ℤ) → put (put bank r v) r w ≡ put bank r w
  put_twice bank r v w = fun_ext (λ k. ⊎_elim
      (λ (e : k ≡ r). put_at (put bank r v) r k w e ∙ sym (put_at bank r k w e))
      (λ (ne : k ≡ r → ⊥). put_other (put bank r v) r w k ne ∙ put_other bank r v k ne ∙ sym (put_other bank r w k ne))
      (cases_eq k r))

  put_moved : (bank : ℕ → ℤ) (x from : ℕ) → x ≢ from → put (put (put bank x (pos 0)) from (pos 0)) x (put bank x (pos 0) from) ≡ put (put bank from (pos 0)) x (bank from)
  put_moved bank x from ne = fun_ext (λ k. ⊎_elim
      (λ (e : k ≡ x). put_at (put (put bank x (pos 0)) from (pos 0)) x k (put bank x (pos 0) from) e ∙ put_other bank x (pos 0) from (λ q. ne (sym q)) ∙ sym (put_at (put bank from (pos 0)) x k (bank from) e))
      (λ (n1 : k ≡ x → ⊥). put_other (put (put bank x (pos 0)) from (pos 0)) x (put bank x (pos 0) from) k n1 ∙ ⊎_elim
      (λ (e : k ≡ from). put_at (put bank x (pos 0)) from k (pos 0) e ∙ sym (put_at bank from k (pos 0) e))
      (λ (n2 : k ≡ from → ⊥). put_other (put bank x (pos 0)) from (pos 0) k n2 ∙ put_other bank x (pos 0) k n1 ∙ sym (put_other bank from (pos 0) k n2))
      (cases_eq k from) ∙ sym (put_other (put bank from (pos 0)) x (bank from) k n1))
      (cases_eq k x))

  -- a reference was loaded, and is raised next
  loads : (e : q + 2 ≡ pl (m.pc + 1)) (r : ℕ) (x : ℤ) (ev : SourceEvent) → log ≡ held_mutexes (m.events ++ ev ∷ []) → here r ≡ free → En (with_slot here r full) (m.pc + 1)
      → N (accessed (next (set_ref r x (with_event ev m)))) (record me { pc = q + 1; pending = x; lowered = []; events = m.events ++ ev ∷ [] }) (Instr.RaiseLoaded r ∷ [])
  loads e r x ev eh fr en =
      let m2 = accessed (next (set_ref r x (with_event ev m))) in
      let i = m.ref_base + r in
      record {
        ready = puts m2 r full x tt en refl refl refl;
        few = refl;
        pc_is = omega arith;
        low = [];
        is = ap (λ z. beside pl m2 z log []) (omega arith) ∙ ap (λ z. beside pl m2 (pl (m.pc + 1)) z []) eh;
        lows = tt;
        events = refl;
        function = refl;
        counted = λ k. ⊎_elim
            (λ (q2 : k ≡ i). inr (q2, ap m.refs q2 ∙ null_here r fr, sym (put_at m.refs i k x q2)))
            (λ (ne : k ≡ i → ⊥). inl (sym (put_other m.refs i x k ne)))
            (cases_eq k i);
        lowers = inl tt;
        clear = null_here r fr;
        replaced = λ z. absurd z;
      }

  -- a reference went into a cell, and the old one is lowered next
  stores : (e : q + 2 ≡ pl (m.pc + 1)) (r : ℕ) (c : CellAt) (x : ℤ) (ev : SourceEvent) → log ≡ held_mutexes (m.events ++ ev ∷ []) → En (with_slot here r free) (m.pc + 1)
      → N (accessed (next (gives_up (Replaced c) (set_ref r (pos 0) (with_event ev m))))) (record me { pc = q + 1; refs = put m.refs (m.ref_base + r) x; pending = pos 0; lowered = []; events = m.events ++ ev ∷ [] }) (Instr.Lower r ∷ [])
  stores e r c x ev eh en =
      let m2 = accessed (next (gives_up (Replaced c) (set_ref r (pos 0) (with_event ev m)))) in
      let i = m.ref_base + r in
      let n = number_of (put m.refs i x i) in
      record {
        ready = puts m2 r free (pos 0) refl en refl refl refl;
        few = refl;
        pc_is = omega arith;
        low = n ∷ [];
        is =
            ap (λ z. record (beside pl m2 (q + 1 + 1) log (n ∷ [])) { refs = z }) (put_twice m.refs i x (pos 0))
            ∙ ap (λ z. beside pl m2 z log (n ∷ [])) (omega arith) ∙ ap (λ z. beside pl m2 (pl (m.pc + 1)) z (n ∷ [])) eh;
        lows = tt;
        events = refl;
        function = refl;
        counted = λ k. ⊎_elim
            (λ (q2 : k ≡ i). inr (q2, put_at m.refs i k (pos 0) q2))
            (λ (ne : k ≡ i → ⊥). inl (put_other m.refs i x k ne ∙ sym (put_other m.refs i (pos 0) k ne)))
            (cases_eq k i);
        lowers = inr (c, refl, refl);
        clear = tt;
        replaced = λ z. (c, refl, refl);
      }

  -- a variable's reference was lowered, and its new one moves next
  settles : (e : q + 2 ≡ pl (m.pc + 1)) (x from : ℕ) → x ≢ from → En (with_moved here x from) (m.pc + 1) → N (next (settled x from m)) (Form.next (Form.lowered me x)) (Instr.MoveReference x from ∷ [])
  settles e x from ne en =
      let m2 = next (settled x from m) in
      let i = m.ref_base + x in
      let j = m.ref_base + from in
      let nij : i ≢ j = λ (z : i ≡ j). ne (omega arith) in
      let n = number_of (ref m x) in
      record {
        ready = moves m2 x from en refl refl refl;
        few = refl;
        pc_is = omega arith;
        low = low ++ n ∷ [];
        is =
            ap (λ z. record (beside pl m2 (q + 1 + 1) log (low ++ n ∷ [])) { refs = z }) (put_moved m.refs i j nij)
            ∙ ap (λ z. beside pl m2 z log (low ++ n ∷ [])) (omega arith);
        lows = lowered_more m.given low n lows;
        events = refl;
        function = refl;
        counted = λ k. ⊎_elim
            (λ (q2 : k ≡ i). inr (inl (q2, put_at m.refs i k (pos 0) q2, put_other m.refs i (pos 0) j (λ z. nij (sym z)) ∙ sym (put_at (put m.refs j (pos 0)) i k (m.refs j) q2))))
            (λ (n1 : k ≡ i → ⊥). ⊎_elim
            (λ (q2 : k ≡ j). inr (inr (
              q2,
              put_other (put m.refs j (pos 0)) i (m.refs j) k n1 ∙ put_at m.refs j k (pos 0) q2,
              put_other m.refs i (pos 0) k n1 ∙ ap m.refs q2 ∙ sym (put_at (put m.refs j (pos 0)) i i (m.refs j) refl),
            )))
            (λ (n2 : k ≡ j → ⊥). inl (put_other m.refs i (pos 0) k n1 ∙ sym (put_other (put m.refs j (pos 0)) i (m.refs j) k n1 ∙ put_other m.refs j (pos 0) k n2)))
            (cases_eq k j))
            (cases_eq k i);
        lowers = inl (lowered_more m.given low n lows);
        clear = inr (put_at m.refs i i (pos 0) refl);
        replaced = λ z. absurd z;
      }

  -- ---- what is taken from a local
  takes : (e : q + 1 ≡ pl (m.pc + 1)) (r x : ℕ) (spot : Spot) → IsPlaceOf spot (source_at p s) → En (with_moved here r x) (m.pc + 1) → F [] (takes_local r x spot m (is_zero (ref m x))) (Form.taken_local p me r x s)
  takes e r x spot k en = each (is_zero (ref m x))
    where
      act : Act
      act = Act.Take (Taken.Local (variable_of spot.at)) (take_kind_of spot.at)

      same_act : Act.Take (Taken.Local (Says.variable_of (source_at p s).at)) (Says.kind_of (source_at p s).at) ≡ act
      same_act =
          ap (λ u. Act.Take (Taken.Local (Says.variable_of u)) (Says.kind_of u)) k.at
          ∙ ap (λ v. Act.Take (Taken.Local v) (Says.kind_of spot.at)) (variable_same spot.at) ∙ ap (λ w. Act.Take (Taken.Local (variable_of spot.at)) w) (kind_same spot.at)

      each : (b : Bool) → F [] (takes_local r x spot m b)
          (cond b (Form.goes (Form.move_ref me r x)) (Form.asks_at p me s (Act.Take (Taken.Local (Says.variable_of (source_at p s).at)) (Says.kind_of (source_at p s).at)) (λ y. ref m x) (λ y b. Form.next (Form.move_ref b r x))))
      each true = inl (stays e (next (moved r x m)) (moves (next (moved r x m)) r x en refl refl refl) refl refl refl)
      each false =
          asked [] spot.site (source_at p s).site act _ (ref m x) (λ v n. next (moved r x n)) (λ y. ref m x) (λ y b. Form.next (Form.move_ref b r x)) m k.site same_act
          (λ y. let m2 = next (moved r x (with_event (event_of spot.site act (ref m x)) m)) in
          behind e m2 (moves m2 r x en refl refl refl) (plain spot.site act (ref m x) refl refl) refl refl)

  -- ---- mutexes
  locks : (e : q + 1 ≡ pl (m.pc + 1)) (cell : Cell) (spot : Spot) → IsPlaceOf spot (source_at p s) → En (without_cell here cell) (m.pc + 1)
      → F [] (event spot (Act.Lock (cell_at flat.globals m cell)) (λ v. without_base cell) m)
      (Form.asks_at p me s (Act.Lock (Form.cell_at p me cell)) Form.no_answer (λ x b. Form.next (record (Form.without_base b cell) { held = log ++ Form.cell_at p me cell ∷ [] })))
  locks e cell spot k en =
      asked [] spot.site (source_at p s).site (Act.Lock c) (Act.Lock (Form.cell_at p me cell)) (pos 0) (λ v n. next (without_base cell n)) Form.no_answer (λ x b. Form.next (record (Form.without_base b cell) { held = log ++ Form.cell_at p me cell ∷ [] })) m
      k.site (ap Act.Lock same)
      (λ x. subst (λ c2. N (next (without_base cell (with_event ev m))) (Form.next (record (Form.without_base (Form.told me spot.site (Act.Lock c) (pos 0)) cell) { held = log ++ c2 ∷ [] })) []) (sym same) (each cell en))
    where
      c : CellAt
      c = cell_at flat.globals m cell

      same : Form.cell_at p me cell ≡ c
      same = cell_same dropped flat m q log low cell

      ev : SourceEvent
      ev = event_of spot.site (Act.Lock c) (pos 0)

      eh : log ++ c ∷ [] ≡ held_mutexes (m.events ++ ev ∷ [])
      eh = sym (lock_held m.events ev c refl refl)

      land : (m2 : At) → R m2 → m2.events ≡ m.events ++ ev ∷ [] → m2.given ≡ [] → m2.pc ≡ m.pc + 1 → N m2 (beside pl m2 (q + 1) (log ++ c ∷ []) []) []
      land m2 r e1 e2 e3 = lands dropped flat level m2 (q + 1) (log ++ c ∷ []) [] (e ∙ ap pl (sym e3)) r (eh ∙ ap held_mutexes (sym e1)) (subst (λ g. AreLowered g []) (sym e2) tt)

      each : (cell : Cell) → En (without_cell here cell) (m.pc + 1)
          → N (next (without_base cell (with_event ev m))) (Form.next (record (Form.without_base (Form.told me spot.site (Act.Lock c) (pos 0)) cell) { held = log ++ c ∷ [] })) []
      each (Cell.Object r n) en = let m2 = next (set_ref r (pos 0) (with_event ev m)) in land m2 (puts m2 r free (pos 0) refl en refl refl refl) refl refl refl
      each (Cell.ObjectAt r i) en = let m2 = next (set_ref r (pos 0) (with_event ev m)) in land m2 (puts m2 r free (pos 0) refl en refl refl refl) refl refl refl
      each _ en = let m2 = next (with_event ev m) in land m2 (keeps m2 en refl refl refl) refl refl refl

  unlocks : (e : q + 1 ≡ pl (m.pc + 1)) (r : ℕ) (cell : Cell) (spot : Spot) → IsPlaceOf spot (source_at p s) → En (with_slot here r (slot_of here cell)) (m.pc + 1)
      → F [] (event spot (Act.Unlock (cell_at flat.globals m cell)) (λ v n. set_ref r (base_of n cell) n) m)
      (Form.asks_at p me s (Act.Unlock (Form.cell_at p me cell)) Form.no_answer (λ x b. Form.next (record (Form.set_ref b r (Form.base_of me cell)) { held = Form.without_mutex log (Form.cell_at p me cell) })))
  unlocks e r cell spot k en =
      asked [] spot.site (source_at p s).site (Act.Unlock c) (Act.Unlock (Form.cell_at p me cell)) (pos 0) (λ v n. next (set_ref r (base_of n cell) n)) Form.no_answer
      (λ x b. Form.next (record (Form.set_ref b r (Form.base_of me cell)) { held = Form.without_mutex log (Form.cell_at p me cell) })) m
      k.site (ap Act.Unlock same)
      (λ x. subst (λ c2. N (next (set_ref r (base_of (with_event ev m) cell) (with_event ev m))) (Form.next (record (Form.set_ref (Form.told me spot.site (Act.Unlock c) (pos 0)) r (Form.base_of me cell)) { held = Form.without_mutex log c2 })) []) (sym same)
      (each cell en))
    where
      c : CellAt
      c = cell_at flat.globals m cell

      same : Form.cell_at p me cell ≡ c
      same = cell_same dropped flat m q log low cell

      ev : SourceEvent
      ev = event_of spot.site (Act.Unlock c) (pos 0)

      eh : Form.without_mutex log c ≡ held_mutexes (m.events ++ ev ∷ [])
      eh = sym (unlock_held m.events ev c refl refl)

      land : (v : ℤ) (x : Slot) → Is x v → En (with_slot here r x) (m.pc + 1) → let m2 = next (set_ref r v (with_event ev m)) in N m2 (beside pl m2 (q + 1) (Form.without_mutex log c) []) []
      land v x i en = let m2 = next (set_ref r v (with_event ev m)) in lands dropped flat level m2 (q + 1) (Form.without_mutex log c) [] e (puts m2 r x v i en refl refl refl) eh tt

      each : (cell : Cell) → En (with_slot here r (slot_of here cell)) (m.pc + 1)
          → N (next (set_ref r (base_of (with_event ev m) cell) (with_event ev m))) (Form.next (record (Form.set_ref (Form.told me spot.site (Act.Unlock c) (pos 0)) r (Form.base_of me cell)) { held = Form.without_mutex log c })) []
      each (Cell.Object b n) en = land (m.refs (m.ref_base + b)) (here b) (rd.hold b) en
      each (Cell.ObjectAt b i) en = land (m.refs (m.ref_base + b)) (here b) (rd.hold b) en
      each _ en = land (pos 0) free refl en

  -- ---- threads
  spawns : (e : q + 1 ≡ pl (m.pc + 1)) (i f : ℕ) (from : Register) (spot : Spot) → IsPlaceOf spot (source_at p s) → En (without_handed here from) (m.pc + 1)
      → F [] (event spot (Act.Spawn f (argument m from)) (λ v n. set_int i v (handed from n)) m)
      (Form.asks_at p me s (Act.Spawn f (Form.argument me from)) Form.given (λ x b. Form.next (Form.set_int (Form.handed b from) i x)))
  spawns e i f from spot k en =
      asked [] spot.site (source_at p s).site (Act.Spawn f v) (Act.Spawn f (Form.argument me from)) (pos 0) (λ v n. next (set_int i v (handed from n))) Form.given (λ x b. Form.next (Form.set_int (Form.handed b from) i x)) m
      k.site (ap (Act.Spawn f) (argument_same dropped flat m q log low from)) (each from en)
    where
      v : ℤ
      v = argument m from

      each : (from : Register) → En (without_handed here from) (m.pc + 1) → (x : ℤ)
          → N (next (set_int i x (handed from (with_event (event_of spot.site (Act.Spawn f v) x) m)))) (Form.next (Form.set_int (Form.handed (Form.told me spot.site (Act.Spawn f v) x) from) i x)) []
      each (Register.Int j) en x = let m2 = next (set_int i x (with_event (event_of spot.site (Act.Spawn f v) x) m)) in
          behind e m2 (keeps m2 en refl refl refl) (plain spot.site (Act.Spawn f v) x refl refl) refl refl
      each (Register.Reference r) en x = let m2 = next (set_int i x (set_ref r (pos 0) (with_event (event_of spot.site (Act.Spawn f v) x) m))) in
          behind e m2 (puts m2 r free (pos 0) refl en refl refl refl) (plain spot.site (Act.Spawn f v) x refl refl) refl refl

  -- an event that leaves the registers
  tells : (e : q + 1 ≡ pl (m.pc + 1)) (spot : Spot) (act act2 : Act) → IsPlaceOf spot (source_at p s) → En here (m.pc + 1) → act2 ≡ act → locked_by act ≡ None → unlocked_by act ≡ None → answer_of (λ token. pos 0) act ≡ (λ x. pos 0)
      → F [] (event spot act (λ v n. n) m) (Form.tells_at p me s act2)
  tells e spot act act2 k en ea l u an =
      asked [] spot.site (source_at p s).site act act2 (pos 0) (λ v n. next n) Form.no_answer (λ x b. Form.next b) m k.site ea
      (λ x. let m2 : ℤ → At = λ v. next (with_event (event_of spot.site act v) m) in
      subst (λ (f : ℤ → ℤ). N (m2 (f x)) (Form.next (Form.told me spot.site act (pos 0))) []) (sym an)
      (behind e (m2 (pos 0)) (keeps (m2 (pos 0)) en refl refl refl) (plain spot.site act (pos 0) l u) refl refl))

  -- ---- all
  abbrev pub FollowsBy : Op → List Instr → Type 0
  FollowsBy o [] = Unit {0}
  FollowsBy o (i ∷ is) = F (tail o) (op_turn flat o m) (Form.step p i me)

  abbrev En2x : Slots → ℕ → Type 0
  En2x s2 pc = Enters flat level.owner level.gives level.slots (level.owner m.pc) s2 pc

  same_cells : (c : Cell) → Form.cell_at p me c ≡ cell_at flat.globals m c
  same_cells c = cell_same dropped flat m q log low c

  positive_same : (z : ℤ) → CodeMachine.is_positive z ≡ is_positive z
  positive_same (pos (suc n)) = let e : (suc n == 0) ≡ false = grind (arith, nat_tests) in ap not e
  positive_same _ = refl

  pub follows : (o : Op) → Level flat level.owner level.gives level.slots m.pc (level.owner m.pc) here o → ((spot : Spot) → spot_of o ≡ Some spot → IsPlaceOf spot (source_at p s)) → IsOpenFor o m
      → q + (1 + length (tail o)) ≡ pl (m.pc + 1) → FollowsBy o (own (body pl m.pc o))
  follows (Op.Constant i v) lv k way e = inl (ints (omega arith) i v lv)
  follows (Op.Move i from) lv k way e = inl (ints (omega arith) i (int m from) lv)
  follows (Op.Compute Char o i a b spot) lv k way e = absurd lv.0
  follows (Op.Compute Int o i a b spot) lv k way e = resulted (omega arith) i spot (k spot refl) lv.1 (computed Int o (int m a) (int m b))
  follows (Op.Compute Long o i a b spot) lv k way e = resulted (omega arith) i spot (k spot refl) lv.1 (computed Long o (int m a) (int m b))
  follows (Op.Negate Char i a spot) lv k way e = absurd lv.0
  follows (Op.Negate Int i a spot) lv k way e = resulted (omega arith) i spot (k spot refl) lv.1 (negated Int (int m a))
  follows (Op.Negate Long i a spot) lv k way e = resulted (omega arith) i spot (k spot refl) lv.1 (negated Long (int m a))
  follows (Op.Complement i a) lv k way e = inl (ints (omega arith) i (complement (int m a)) lv)
  follows (Op.IsFalse i a) lv k way e =
      subst (λ b. F [] (goes (next (set_int i (truth (is_zero (int m a))) m))) (Form.goes (Form.set_int me i (truth b)))) (sym (zero_same (int m a))) (inl (ints (omega arith) i (truth (is_zero (int m a))) lv))
  follows (Op.SameReference i a b) lv k way e = inl (ints (omega arith) i (truth (is_equal (ref m a) (ref m b))) lv)
  follows (Op.ChkWidth width i spot) lv k way e = asserted (holds width (int m i)) (holds width (int m i)) Trap.OutOfRange spot (k spot refl) refl (λ t. on (omega arith) lv)
  follows (Op.Skip n) lv k way e = inl (jumps (m.pc + 1 + n) here lv rd.hold)
  follows (Op.SkipIfZero i n) lv k way e =
      chooses (is_zero (int m i)) (Code.is_zero (int m i)) (over_lines n m) (next m) _ _ (zero_same (int m i)) (λ t. jumps (m.pc + 1 + n) here lv.0 rd.hold) (λ t. on (omega arith) lv.1)
  follows (Op.SkipIfNull r n) lv k way e =
      chooses (is_zero (ref m r)) (is_zero (ref m r)) (over_lines n m) (next m) _ _ refl
      (λ t. jumps (m.pc + 1 + n) (with_slot here r free) lv.0 (hold_as here m.ref_base m.refs r free (is_free r t) rd.hold))
      (λ t. stays (omega arith) (next m) (enters flat level m (next m) here rd.frames lv.1 rd.hold (λ j lt. refl) refl refl) refl refl refl)
  follows (Op.Jump to) lv k way e = inl (jumps to here lv rd.hold)
  follows (Op.Call f i r spot) lv k way e = calls (omega arith) f i r spot (k spot refl) lv.0 lv.1
  follows (Op.Return spot) lv k way e = returns spot (k spot refl) lv m.frames rd.frames
  follows (Op.Null r) lv k way e = inl (stays (omega arith) (next (set_ref r (pos 0) m)) (null_ready r lv.0 lv.1) refl refl refl)
    where
      null_ready : (r : ℕ) → here r ≡ free → En2x here (m.pc + 1) → R (next (set_ref r (pos 0) m))
      null_ready r fr en =
          let same : put m.refs (m.ref_base + r) (pos 0) ≡ m.refs = fun_ext (λ k. ⊎_elim
          (λ (e : k ≡ m.ref_base + r). put_at m.refs (m.ref_base + r) k (pos 0) e ∙ sym (ap m.refs e ∙ null_here r fr))
          (λ (ne : k ≡ m.ref_base + r → ⊥). put_other m.refs (m.ref_base + r) (pos 0) k ne)
          (cases_eq k (m.ref_base + r))) in
          keeps (next (set_ref r (pos 0) m)) en same refl refl
  follows (Op.Local r x) lv k way e = inl (stays (omega arith) (next (set_ref r (ref m x) m)) (puts (next (set_ref r (ref m x) m)) r (here x) (ref m x) (rd.hold x) lv.1 refl refl refl) refl refl refl)
  follows (Op.MoveReference r from) lv k way e = inl (stays (omega arith) (next (moved r from m)) (⊎_elim
      (λ (z : (r ≡ from) × En2x here (m.pc + 1)). keeps (next (moved r from m)) z.1 (moved_same m.refs (m.ref_base + r) (m.ref_base + from) (ap (λ n. m.ref_base + n) z.0)) refl refl)
      (λ (z : (here r ≡ free) × (r ≢ from) × En2x (with_moved here r from) (m.pc + 1)). moves (next (moved r from m)) r from z.2 refl refl refl)
      lv) refl refl refl)
  follows (Op.Pop r) lv k way e =
      let m2 = next (popped r m) in
      inl (lands dropped flat level m2 (q + 1) log (low ++ number_of (ref m r) ∷ []) (omega arith) (puts m2 r free (pos 0) refl lv refl refl refl) refl (lowered_more m.given low (number_of (ref m r)) lows))
  follows (Op.Settle x from) lv k way e = inl (settles (omega arith) x from lv.0 lv.1)
  follows (Op.ChkNull r spot) lv k way e =
      asserted (not (is_zero (ref m r))) (not (is_zero (ref m r))) Trap.NullPointer spot (k spot refl) refl
      (λ t. stays (omega arith) (next m) (enters flat level m (next m) here rd.frames lv rd.hold (λ j lt. refl) refl refl) refl refl refl)
  follows (Op.ChkPositive i spot) lv k way e = asserted (is_positive (int m i)) (CodeMachine.is_positive (int m i)) Trap.SizeNotPositive spot (k spot refl) (positive_same (int m i)) (λ t. on (omega arith) lv)
  follows (Op.ChkHeld cell spot) lv k way e =
      asserted (holds_mutex m.events (cell_at flat.globals m cell)) (Form.is_held log (Form.cell_at p me cell)) Trap.MutexNotHeld spot (k spot refl) (ap (Form.is_held log) (same_cells cell)) (λ t. on (omega arith) lv)
  follows (Op.ChkNotHeld cell spot) lv k way e =
      asserted (not (holds_mutex m.events (cell_at flat.globals m cell))) (not (Form.is_held log (Form.cell_at p me cell))) Trap.MutexAlreadyHeld spot (k spot refl) (ap (λ c. not (Form.is_held log c)) (same_cells cell)) (λ t. on (omega arith) lv)
  follows (Op.ChkRoom spot) lv k way e = asserted (nat_lt (length log) 16) (nat_lt (length log) 16) Trap.TooManyLocks spot (k spot refl) refl (λ t. on (omega arith) lv)
  follows (Op.Bounds i r cells field spot) lv k way e = index_follows (omega arith) i cells field (elements_of (ref m r)) spot (k spot refl) lv (int m i)
  follows (Op.GlobalBounds i elements cells field spot) lv k way e = index_follows (omega arith) i cells field elements spot (k spot refl) lv (int m i)
  follows (Op.Load i cell spot) lv k way e =
      accessing [] cell spot Act.Read (λ c v. set_int i v) Form.given (λ x b. Form.next (Form.accessed (Form.set_int b i x))) (k spot refl) way
      (λ mode x. let c = cell_at flat.globals m cell in let m2 = accessed (next (set_int i x (with_event (event_of spot.site (Act.Read c mode) x) m))) in
      behind (omega arith) m2 (keeps m2 lv refl refl refl) (plain spot.site (Act.Read c mode) x refl refl) refl refl)
  follows (Op.Store i cell spot) lv k way e =
      accessing [] cell spot (λ c mode. Act.Write c mode (int m i)) (λ c v n. n) Form.no_answer (λ x b. Form.next (Form.accessed b)) (k spot refl) way
      (λ mode x. let c = cell_at flat.globals m cell in let m2 = accessed (next (with_event (event_of spot.site (Act.Write c mode (int m i)) (pos 0)) m)) in
      behind (omega arith) m2 (keeps m2 lv refl refl refl) (plain spot.site (Act.Write c mode (int m i)) (pos 0) refl refl) refl refl)
  follows (Op.LoadRef r cell spot) lv k way e =
      accessing (Instr.RaiseLoaded r ∷ []) cell spot Act.Read (λ c v. set_ref r v) Form.given (λ x b. Form.next (record b { pending = x })) (k spot refl) way
      (λ mode x. let c = cell_at flat.globals m cell in
      loads (omega arith) r x (event_of spot.site (Act.Read c mode) x) (plain spot.site (Act.Read c mode) x refl refl) lv.0 lv.1)
  follows (Op.StoreRef r cell spot) lv k way e =
      accessing (Instr.Lower r ∷ []) cell spot (λ c mode. Act.Write c mode (ref m r)) (λ c v n. gives_up (Replaced c) (set_ref r (pos 0) n)) Form.no_answer (λ x b. Form.next (Form.accessed (Form.set_ref b r x))) (k spot refl) way
      (λ mode x. let c = cell_at flat.globals m cell in
      stores (omega arith) r c x (event_of spot.site (Act.Write c mode (ref m r)) (pos 0)) (plain spot.site (Act.Write c mode (ref m r)) (pos 0) refl refl) lv)
  follows (Op.LoadGuard cell spot) lv k way e =
      let kk = k (record spot { mode = Readonly }) refl in
      let c = cell_at flat.globals m cell in
      asked [] spot.site (source_at p s).site (Act.Read c CellMode.Readonly) (Act.Read (Form.cell_at p me cell) (Form.mode_of p me (Form.cell_at p me cell) (source_at p s).mode)) (pos 0) (λ v n. next (record n { pending = v })) Form.given (λ x b. Form.next (record b { pending = x })) m
      kk.site (ap (λ z. Act.Read z (Form.mode_of p me z (source_at p s).mode)) (same_cells cell) ∙ ap (λ z. Act.Read c (Form.mode_of p me c z)) kk.mode)
      (λ x. let m2 = next (record (with_event (event_of spot.site (Act.Read c CellMode.Readonly) x) m) { pending = x }) in
      behind (omega arith) m2 (keeps m2 lv refl refl refl) (plain spot.site (Act.Read c CellMode.Readonly) x refl refl) refl refl)
  follows (Op.New r count cells spot) lv k way e =
      let mode = instance_mode flat.globals m spot.mode in
      let elements = CodeMachine.elements_of (int m count) in
      asked [] spot.site (source_at p s).site (Act.New cells elements mode) (Act.New cells elements (Form.object_mode p me s)) (pos 0) (λ v n. next (set_ref r v n)) Form.given (λ x b. Form.next (Form.set_ref b r x)) m
      (k spot refl).site (ap (λ z. Act.New cells elements (Form.mode_of p me (Says.made_cell 0 0) z)) (k spot refl).mode ∙ ap (Act.New cells elements) (object_same dropped flat m q log low spot.mode))
      (λ x. let m2 = next (set_ref r x (with_event (event_of spot.site (Act.New cells elements mode) x) m)) in
      behind (omega arith) m2 (puts m2 r full x tt lv.1 refl refl refl) (plain spot.site (Act.New cells elements mode) x refl refl) refl refl)
  follows (Op.TakeCell r cell spot) lv k way e =
      let f : Use → CellAt → CellMode → Act = λ u c mode. Act.Take (Taken.Cell c mode) (Says.kind_of u) in
      let same : f (source_at p s).at ≡ (λ c mode. Act.Take (Taken.Cell c mode) (take_kind_of spot.at)) =
      ap f (k spot refl).at ∙ ap (λ w. λ c mode. Act.Take (Taken.Cell c mode) w) (kind_same spot.at) in
      subst (λ (of : CellAt → CellMode → Act). F [] (op_turn flat (Op.TakeCell r cell spot) m) (Form.access_at p me s cell of Form.given (λ x b. Form.next (Form.accessed (Form.set_ref b r x))))) (sym same)
      (accessing [] cell spot (λ c mode. Act.Take (Taken.Cell c mode) (take_kind_of spot.at)) (λ c v. set_ref r v) Form.given (λ x b. Form.next (Form.accessed (Form.set_ref b r x))) (k spot refl) way
      (λ mode x. let c = cell_at flat.globals m cell in let act = Act.Take (Taken.Cell c mode) (take_kind_of spot.at) in let m2 = accessed (next (set_ref r x (with_event (event_of spot.site act x) m))) in
      behind (omega arith) m2 (puts m2 r full x tt lv.1 refl refl refl) (plain spot.site act x refl refl) refl refl))
  follows (Op.TakeLocal r x spot) lv k way e = takes (omega arith) r x spot (k spot refl) lv.2
  follows (Op.Give r cells spot) lv k way e =
      tells (omega arith) spot (Act.Give (ref m r) (instance_mode flat.globals m spot.mode)) (Act.Give (ref m r) (Form.object_mode p me s)) (k spot refl) lv
      (ap (λ z. Act.Give (ref m r) (Form.mode_of p me (Says.made_cell 0 0) z)) (k spot refl).mode ∙ ap (Act.Give (ref m r)) (object_same dropped flat m q log low spot.mode)) refl refl refl
  follows (Op.Free r layout spot) lv k way e =
      let from = gives_up (Emptied (number_of (ref m r))) m in
      asked [] spot.site (source_at p s).site (Act.Freed (ref m r)) (Act.Freed (ref m r)) (pos 0) (λ v n. next (set_ref r (pos 0) n)) Form.no_answer (λ x b. Form.next (Form.set_ref b r (pos 0))) from
      (k spot refl).site refl
      (λ x. let m2 = next (set_ref r (pos 0) (with_event (event_of spot.site (Act.Freed (ref m r)) (pos 0)) from)) in
      behind (omega arith) m2 (puts m2 r free (pos 0) refl lv refl refl refl) (plain spot.site (Act.Freed (ref m r)) (pos 0) refl refl) refl refl)
  follows (Op.Lock cell spot) lv k way e = locks (omega arith) cell spot (k spot refl) lv
  follows (Op.Unlock r cell spot) lv k way e = unlocks (omega arith) r cell spot (k spot refl) lv.1
  follows (Op.CondEnter cell spot) lv k way e = tells (omega arith) spot (Act.Enter (cell_at flat.globals m cell)) (Act.Enter (Form.cell_at p me cell)) (k spot refl) lv (ap Act.Enter (same_cells cell)) refl refl refl
  follows (Op.CondWait cell spot) lv k way e = tells (omega arith) spot (Act.Woken (cell_at flat.globals m cell)) (Act.Woken (Form.cell_at p me cell)) (k spot refl) lv (ap Act.Woken (same_cells cell)) refl refl refl
  follows (Op.CondSignal cell spot) lv k way e =
      let act = Act.Signal (cell_at flat.globals m cell) in
      asked [] spot.site (source_at p s).site act (Act.Signal (Form.cell_at p me cell)) (pos 0) (λ v n. next n) Form.given (λ x b. Form.next b) m (k spot refl).site (ap Act.Signal (same_cells cell))
      (λ x. let m2 = next (with_event (event_of spot.site act x) m) in behind (omega arith) m2 (keeps m2 lv refl refl refl) (plain spot.site act x refl refl) refl refl)
  follows (Op.CondBroadcast cell spot) lv k way e = tells (omega arith) spot (Act.Broadcast (cell_at flat.globals m cell)) (Act.Broadcast (Form.cell_at p me cell)) (k spot refl) lv (ap Act.Broadcast (same_cells cell)) refl refl refl
  follows (Op.Spawn i f from spot) lv k way e = spawns (omega arith) i f from spot (k spot refl) lv
  follows (Op.Join i spot) lv k way e = tells (omega arith) spot (Act.Join (int m i)) (Act.Join (int m i)) (k spot refl) lv refl refl refl refl
  follows (Op.Print i spot) lv k way e = tells (omega arith) spot (Act.Print (int m i)) (Act.Print (int m i)) (k spot refl) lv refl refl refl refl
  follows _ lv k way e = tt
