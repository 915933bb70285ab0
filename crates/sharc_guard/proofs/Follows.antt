-- One operation of flat code and its own guarded statement.
use Rattle.sharc_guard.proofs.{Imports.{◌≡◌, ℕ, ℤ, zero, suc, pos, negsuc, ◌+◌, ◌*◌, ◌<◌, ◌⊎◌, inl, inr, Bool, true, false, not, List, [], ◌∷◌, ◌++◌, length, map, refl, sym, ap, ◌∙◌, subst, arith, Some, None, Option, Result, Ok, Err, nat_lt, slice_get, nat_tests, ne_eqb, length-append, length-map, append-nil, nat_eq, if◌then◌else◌, Act, CellAt, CellMode, SourceEvent, Trap, Taken, Function, SourcePlace, Width, Char, Cell, Object as InObject, ObjectAt, Register, Instr, Operator, computed, negated, elements_made, kind_of, made_cell, Readonly, is_positive as positive, GivenUp, Released, Replaced, Emptied, held_mutexes, locked_by, unlocked_by, NULL, is_null, number_of, stopped, ended, event_of, answer_of, Op, Spot, goes, asks, halts, op_turn, after, IsFlat, Leads, IsWide, Program, Thread, Phase, Running, Leaving, Left, Goes, Asks, Halts, Stopped, step, source_at, statement_at, weight, source_of, source_at_spot, compute, negate, body, tail, Resolved, bottom, image, LineTexts, with_texts}, Holding.{quiet_held, lock_held, unlock_held, funext}, Placing.{HasAt, entered_is, pl, p}, Beside.{variable_same, kind_same}}
use Rattle.sharc_code.specs.{Machine.is_positive, Says.variable_of, Runs.put}
use Rattle.sharc_flat.specs.Machine as Flat
use Rattle.sharc_guard.specs.Machine as Form
use Rattle.sharc_guard.specs.{Machine.Turn, Correct.moved}

resolved_push : (gs : List GivenUp) (ks : List ℕ) (n : ℕ) → Resolved gs ks → Resolved (gs ++ Released n ∷ []) (ks ++ n ∷ [])
resolved_push [] [] n h = (refl, tt)
resolved_push (Released j ∷ gs) (k ∷ ks) n h = (h.0, resolved_push gs ks n h.1)
resolved_push (Replaced c ∷ gs) (k ∷ ks) n h = resolved_push gs ks n h
resolved_push (Emptied j ∷ gs) ks n h = resolved_push gs ks n h
resolved_push _ _ n h = absurd h

-- an access finds its lock's path not leading through NULL
abbrev pub Unlocked : Flat.At → Op → Type 0
Unlocked m (Op.Load i cell spot) = Flat.lock_is_null m spot spot.mode ≡ false
Unlocked m (Op.Store i cell spot) = Flat.lock_is_null m spot spot.mode ≡ false
Unlocked m (Op.LoadRef r cell spot) = Flat.lock_is_null m spot spot.mode ≡ false
Unlocked m (Op.StoreRef r cell spot) = Flat.lock_is_null m spot spot.mode ≡ false
Unlocked m (Op.TakeCell r cell spot) = Flat.lock_is_null m spot spot.mode ≡ false
Unlocked m _ = Unit {0}

module _ (dropped : ℕ → Bool) (flat : Flat.Flat) where
  abbrev pub g : Program
  g = p dropped flat

  abbrev pub at : ℕ → ℕ
  at = pl dropped flat

  -- the callers' places are those of lines
  abbrev pub Callers : List Flat.Caller → Type 0
  Callers [] = Unit {0}
  Callers (c ∷ cs) = (c.pc < length flat.lines) × Callers cs

  -- the guarded thread is the image of flat code's place
  pub record Is (m : Flat.At) (b : Thread) : Type 0 where
    pub lowered : List ℕ
    pub is : b ≡ image at m (at m.pc) lowered
    pub resolved : Resolved m.given lowered
    pub inside : m.pc < length flat.lines
    pub callers : Callers m.frames

  -- one more statement, and it is
  pub record Trailing (m : Flat.At) (b : Thread) : Type 0 where
    pub statement : Instr
    pub stands : slice_get g.statements b.pc ≡ Some statement
    pub later : Thread
    pub goes_there : step g statement b ≡ Goes later
    pub there : Is m later
    pub events : b.events ≡ m.events
    pub more : List ℕ
    pub resolved : Resolved m.given (b.lowered ++ more)
    pub light : weight statement ≡ 1

  abbrev pub leaving : ℕ → Phase
  leaving zero = Running
  leaving (suc zero) = Leaving
  leaving (suc (suc n)) = Left

  -- after the last return
  pub record AtEnd (m : Flat.At) (b : Thread) : Type 0 where
    pub steps : ℕ
    pub pc_is : m.pc ≡ length flat.lines + steps
    pub statement : statement_at g b.pc ≡ Instr.Exit
    pub phase_is : b.phase ≡ leaving steps
    pub function_is : b.function ≡ m.function
    pub events : b.events ≡ m.events
    pub resolved : Resolved m.given b.lowered

  abbrev pub Near : Flat.At → Thread → Type 0
  Near m b = Is m b ⊎ (Trailing m b ⊎ AtEnd m b)

  -- one turn of guarded code does what one of flat code does
  abbrev pub Follow : Flat.Turn → Turn → Type 0
  Follow (goes m2) (Goes b) = Near m2 b
  Follow (asks m2 site act held f) (Asks site' act' go) = (site' ≡ site) × (act' ≡ act) × ((x : ℤ) → (y : ℤ) × Near (after m2 (asks m2 site act held f) y) (go x))
  Follow (halts o) (Halts (Stopped trap site)) = o ≡ stopped trap (source_at g site).site
  Follow (halts o) (Halts Form.Ended) = o ≡ ended
  Follow _ _ = ⊥

  module _ (m : Flat.At) (q : ℕ) (L : List ℕ) (res : Resolved m.given L) (calls : Callers m.frames) where
    abbrev me : Thread
    me = image at m q L

    -- ---- events
    module _ (n : ℕ) (spot : Spot) {t : LineTexts} (s : source_at g n ≡ with_texts t (source_at_spot spot)) where
      told : (m1 : Flat.At) (act : Act) (held : ℤ) (f : ℤ → Flat.At → Flat.At) (answering : ℤ → ℤ) (go : ℤ → Thread → Thread)
          → ((x : ℤ) → (y : ℤ) × Near (after m1 (asks m1 spot.site act held f) y) (go x (Form.told me spot.site act (answering x))))
          → Follow (asks m1 spot.site act held f) (Form.asks_at g me n act answering go)
      told m1 act held f answering go k = subst (λ sp. Follow (asks m1 spot.site act held f) (Form.asks me sp.site act answering go)) (sym s) (refl, refl, k)

      accessed : (cell : Cell) (of : CellAt → CellMode → Act) (then_ : CellAt → ℤ → Flat.At → Flat.At) (answering : ℤ → ℤ) (go : ℤ → Thread → Thread) → Flat.lock_is_null m spot spot.mode ≡ false
          → let act = of (Flat.cell_at flat.globals m cell) (Flat.cell_mode_of flat.globals m (Flat.cell_at flat.globals m cell) spot.mode) in
          ((x : ℤ) → (y : ℤ) × Near (Flat.accessed (Flat.next (then_ (Flat.cell_at flat.globals m cell) (answer_of (λ token. pos 0) act y) (Flat.with_event (event_of spot.site act (answer_of (λ token. pos 0) act y)) m)))) (go x (Form.told me spot.site act (answering x))))
          → Follow (Flat.accesses flat.globals cell spot of then_ m) (Form.access_at g me n cell of answering go)
      accessed cell of then_ answering go free k =
          subst (λ b. Follow (if b then Flat.stops Trap.NullPointer spot else asks m spot.site (of (Flat.cell_at flat.globals m cell) (Flat.cell_mode_of flat.globals m (Flat.cell_at flat.globals m cell) spot.mode)) (pos 0) (λ v n. Flat.accessed (Flat.next (then_ (Flat.cell_at flat.globals m cell) v n)))) (Form.access_at g me n cell of answering go)) (sym free)
          (subst (λ sp. Follow (asks m spot.site (of (Flat.cell_at flat.globals m cell) (Flat.cell_mode_of flat.globals m (Flat.cell_at flat.globals m cell) spot.mode)) (pos 0) (λ v n. Flat.accessed (Flat.next (then_ (Flat.cell_at flat.globals m cell) v n))))
          (Form.asks me sp.site (of (Form.cell_at g me cell) (Form.mode_of g me (Form.cell_at g me cell) sp.mode)) answering go)) (sym s) (refl, act_is, λ x. (k x)))
        where
          act_is : of (Form.cell_at g me cell) (Form.mode_of g me (Form.cell_at g me cell) spot.mode) ≡ of (Flat.cell_at flat.globals m cell) (Flat.cell_mode_of flat.globals m (Flat.cell_at flat.globals m cell) spot.mode)
          act_is = refl

    -- the next line
    module _ (e : q + 1 ≡ at (m.pc + 1)) (lt : m.pc + 1 < length flat.lines) where
      near : (m2 : Flat.At) (L2 : List ℕ) (h : List CellAt) → h ≡ held_mutexes m2.events → m2.pc ≡ m.pc + 1 → Resolved m2.given L2 → Callers m2.frames → Near m2 (record (image at m2 (q + 1) L2) { held = h })
      near m2 L2 h eh epc r cs = inl (record {
        lowered = L2;
        is = ap (λ h. record (image at m2 (q + 1) L2) { held = h }) eh ∙ ap (λ z. image at m2 z L2) (e ∙ ap at (sym epc));
        resolved = r;
        inside = omega arith;
        callers = cs;
      })

      plain : (m2 : Flat.At) → m2.pc ≡ m.pc + 1 → m2.events ≡ m.events → m2.given ≡ m.given → Callers m2.frames → Near m2 (record (image at m2 (q + 1) L) { held = held_mutexes m.events })
      plain m2 epc ee eg cs = near m2 L (held_mutexes m.events) (ap held_mutexes (sym ee)) epc (subst (λ gs. Resolved gs L) (sym eg) res) cs

      -- an event that takes and gives no mutex
      quiet : (m2 : Flat.At) (ev : SourceEvent) → m2.events ≡ m.events ++ ev ∷ [] → locked_by ev.act ≡ None → unlocked_by ev.act ≡ None → m2.pc ≡ m.pc + 1 → m2.given ≡ [] → Callers m2.frames → Near m2 (record (image at m2 (q + 1) []) { held = held_mutexes m.events })
      quiet m2 ev ee l u epc eg cs = near m2 [] (held_mutexes m.events) (sym (ap held_mutexes ee ∙ quiet_held m.events ev l u)) epc (subst (λ gs. Resolved gs []) (sym eg) tt) cs

      asserted : (b : Bool) (c : Trap) (n : ℕ) (spot : Spot) → spot.site ≡ (source_at g n).site → Follow (Flat.asserts b c spot m) (Form.asserts me b c n)
      asserted true c n spot s = plain (Flat.next m) refl refl refl calls
      asserted false c n spot s = ap (stopped c) s

      results : (i n : ℕ) (spot : Spot) (z : Result ℤ Trap) → spot.site ≡ (source_at g n).site → Follow (Flat.with_result i spot m z) (Form.with_result me i n z)
      results i n spot (Ok v) s = plain (Flat.next (Flat.set_int i v m)) refl refl refl calls
      results i n spot (Err c) s = ap (stopped c) s

      indexes : (i cells field n : ℕ) (z : ℤ) (elements : ℕ) (spot : Spot) → spot.site ≡ (source_at g n).site → Follow (Flat.indexed i cells field z elements spot m) (Form.indexed me i z cells field n elements)
      indexes i cells field n (pos k) elements spot s = each (nat_lt k elements)
        where
          each : (b : Bool) → Follow (if b then Flat.goes_on (Flat.set_int i (pos (k * cells + field)) m) else Flat.stops Trap.IndexOutOfBounds spot) (if b then Form.goes (Form.set_int me i (pos (k * cells + field))) else Halts (Stopped Trap.IndexOutOfBounds n))
          each true = plain (Flat.next (Flat.set_int i (pos (k * cells + field)) m)) refl refl refl calls
          each false = ap (stopped Trap.IndexOutOfBounds) s
      indexes i cells field n (negsuc k) elements spot s = ap (stopped Trap.IndexOutOfBounds) s

    -- ---- what the operations of one statement and of two do
    abbrev pub Bodied : Op → Option Instr → Type 0
    Bodied o None = Unit {0}
    Bodied o (Some i) = Follow (op_turn flat o m) (step g i me)

    jumped : (to : ℕ) → to < length flat.lines → Near (record m { pc = to }) (Form.to me (at to))
    jumped to lt = inl (record { lowered = L; is = refl; resolved = res; inside = lt; callers = calls })

    chosen : (b : Bool) (m2 m3 : Flat.At) (c d : Thread) → Near m2 c → Near m3 d → Follow (goes (if b then m2 else m3)) (if b then Goes c else Goes d)
    chosen true m2 m3 c d h k = h
    chosen false m2 m3 c d h k = k

    entry_is : (f : ℕ) → f < length flat.functions → (Form.function_at g f).entry ≡ at (Flat.function_of flat f).entry
    entry_is f lt = ap (λ (x : Function). x.entry) (entered_is dropped flat f lt)

    depth_is : nat_lt (length (map (moved at) m.frames ++ bottom ∷ [])) 256 ≡ nat_lt (length m.frames) 255
    depth_is =
        let n = length-append (map (moved at) m.frames) (bottom ∷ []) in
        let k = length-map m.frames (moved at) in
        let e : length (map (moved at) m.frames ++ bottom ∷ []) ≡ suc (length m.frames) = omega arith in
        ap (λ n. nat_lt n 256) e ∙ one_less (length m.frames)
      where
        one_less : (n : ℕ) → nat_lt (suc n) 256 ≡ nat_lt n 255
        one_less n = grind (arith, nat_tests)

    called : (ok : IsFlat flat) (f ints refs : ℕ) (spot : Spot) → f < length flat.functions → q + 1 ≡ at (m.pc + 1) → m.pc + 1 < length flat.lines → spot.site ≡ (source_at g m.pc).site
        → Follow (if nat_lt (length m.frames) 255 then goes (Flat.called flat f ints refs m) else Flat.stops Trap.CallDepth spot) (Form.called g me f ints refs m.pc)
    called ok f ints refs spot lf e lt s =
        subst (λ b. Follow (if nat_lt (length m.frames) 255 then goes (Flat.called flat f ints refs m) else Flat.stops Trap.CallDepth spot) (if b then Goes inner else Halts (Stopped Trap.CallDepth m.pc))) (sym depth_is) (each (nat_lt (length m.frames) 255))
      where
        inner : Thread
        inner = record me {
          pc = (Form.function_at g f).entry;
          ints_from = m.int_base + ints;
          refs_from = m.ref_base + refs;
          frames = record { pc = q + 1; ints = m.int_base; refs = m.ref_base } ∷ me.frames;
        }

        placed : ℕ → ℕ → Thread
        placed x y = record me {
          pc = x;
          ints_from = m.int_base + ints;
          refs_from = m.ref_base + refs;
          frames = record { pc = y; ints = m.int_base; refs = m.ref_base } ∷ me.frames;
        }

        each : (b : Bool) → Follow (if b then goes (Flat.called flat f ints refs m) else Flat.stops Trap.CallDepth spot) (if b then Goes inner else Halts (Stopped Trap.CallDepth m.pc))
        each true = inl (record {
          lowered = L;
          is = ap (λ x. placed x (q + 1)) (entry_is f lf) ∙ ap (placed (at (Flat.function_of flat f).entry)) e;
          resolved = res;
          inside = ok.entries f lf;
          callers = (lt, calls);
        })
        each false = ap (stopped Trap.CallDepth) s

    returns : (spot : Spot) (fs : List Flat.Caller) → m.frames ≡ fs → Callers fs → spot.site ≡ (source_at g m.pc).site → Follow (Flat.returned flat fs spot m) (Form.returned g me m.pc (map (moved at) fs ++ bottom ∷ []))
    returns spot [] e cs s = each (nat_lt 0 (length (held_mutexes m.events)))
      where
        each : (b : Bool) → Follow (if not b then goes (record m { pc = length flat.lines }) else Flat.stops Trap.ReturnWithLockHeld spot) (if b then Halts (Stopped Trap.ReturnWithLockHeld m.pc) else Goes (Form.back_to me bottom []))
        each true = ap (stopped Trap.ReturnWithLockHeld) s
        each false = inr (inr (record { steps = 0; pc_is = omega arith; statement = refl; phase_is = refl; function_is = refl; events = refl; resolved = res }))
    returns spot (c ∷ []) e cs s = inl (record { lowered = L; is = refl; resolved = res; inside = cs.0; callers = tt })
    returns spot (c ∷ d ∷ ds) e cs s = inl (record { lowered = L; is = refl; resolved = res; inside = cs.0; callers = cs.1 })

    -- a register that is written twice
    twice : (f : ℕ → ℤ) (k : ℕ) (v w : ℤ) → put (put f k v) k w ≡ put f k w
    twice f k v w = funext (put (put f k v) k w) (put f k w) (λ i. each i (nat_eq i k))
      where
        split : (b : Bool) (x : ℤ) → (if b then w else (if b then v else x)) ≡ (if b then w else x)
        split true x = refl
        split false x = refl

        each : (i : ℕ) (b : Bool) → put (put f k v) k w i ≡ put f k w i
        each i b = split (nat_eq i k) (f i)

    -- the statement that settles the counts raises what was loaded, lowers what was exchanged away, or moves a reference
    module _ (e : q + 2 ≡ at (m.pc + 1)) (lt : m.pc + 1 < length flat.lines) where
      after_two : (m2 : Flat.At) (L2 : List ℕ) (h : List CellAt) → h ≡ held_mutexes m2.events → m2.pc ≡ m.pc + 1 → Resolved m2.given L2 → Callers m2.frames → Is m2 (record (image at m2 (q + 1 + 1) L2) { held = h })
      after_two m2 L2 h eh epc r cs = record {
        lowered = L2;
        is = ap (λ h. record (image at m2 (q + 1 + 1) L2) { held = h }) eh ∙ ap (λ z. image at m2 z L2) (two ∙ e ∙ ap at (sym epc));
        resolved = r;
        inside = omega arith;
        callers = cs;
      }
        where
          two : q + 1 + 1 ≡ q + 2
          two = omega arith

      settles : (x from : ℕ) → (x ≡ from → ⊥) → HasAt g.statements (q + 1) (Instr.MoveReference x from ∷ []) → Near (Flat.next (Flat.settled x from m)) (Form.next (Form.lowered me x))
      settles x from ne has = inr (inl (record {
        statement = Instr.MoveReference x from;
        stands = has.0;
        later = Form.next (Form.move_ref (Form.next (Form.lowered me x)) x from);
        goes_there = refl;
        there = subst (λ (rs : ℕ → ℤ). Is (Flat.next (Flat.settled x from m)) (record (Form.next (Form.move_ref (Form.next (Form.lowered me x)) x from)) { refs = rs })) (sym refs_are)
            (after_two (Flat.next (Flat.settled x from m)) (L ++ number_of (Flat.ref m x) ∷ []) (held_mutexes m.events) refl refl (resolved_push m.given L (number_of (Flat.ref m x)) res) calls);
        events = refl;
        more = [];
        resolved = subst (Resolved (m.given ++ Released (number_of (Flat.ref m x)) ∷ [])) (sym (append-nil (L ++ number_of (Flat.ref m x) ∷ []))) (resolved_push m.given L (number_of (Flat.ref m x)) res);
        light = refl;
      }))
        where
          X : ℕ
          X = m.ref_base + x

          Y : ℕ
          Y = m.ref_base + from

          refs_are : put (put (put m.refs (m.ref_base + x) NULL) (m.ref_base + from) NULL) (m.ref_base + x) (put m.refs (m.ref_base + x) NULL (m.ref_base + from)) ≡ put (put m.refs (m.ref_base + from) NULL) (m.ref_base + x) (m.refs (m.ref_base + from))
          refs_are = funext _ _ (λ i. each i)
            where
              apart : nat_eq (m.ref_base + from) (m.ref_base + x) ≡ false
              apart = ne_eqb (m.ref_base + from) (m.ref_base + x) (λ k. ne (omega arith))

              value_is : put m.refs (m.ref_base + x) NULL (m.ref_base + from) ≡ m.refs (m.ref_base + from)
              value_is = ap (λ b. if b then NULL else m.refs (m.ref_base + from)) apart

              split : (b c : Bool) (v w : ℤ) → v ≡ w → (if b then v else (if c then NULL else (if b then NULL else m.refs 0))) ≡ (if b then w else (if c then NULL else m.refs 0))
              split true c v w k = k
              split false c v w k = refl

              each : (i : ℕ) → put (put (put m.refs (m.ref_base + x) NULL) (m.ref_base + from) NULL) (m.ref_base + x) (put m.refs (m.ref_base + x) NULL (m.ref_base + from)) i ≡ put (put m.refs (m.ref_base + from) NULL) (m.ref_base + x) (m.refs (m.ref_base + from)) i
              each i = cases (nat_eq i (m.ref_base + x)) (nat_eq i (m.ref_base + from))
                where
                  cases : (b c : Bool) → (if b then put m.refs (m.ref_base + x) NULL (m.ref_base + from) else (if c then NULL else (if b then NULL else m.refs i))) ≡ (if b then m.refs (m.ref_base + from) else (if c then NULL else m.refs i))
                  cases true c = value_is
                  cases false c = refl

      loads : (r : ℕ) (x : ℤ) (ev : SourceEvent) → locked_by ev.act ≡ None → unlocked_by ev.act ≡ None → HasAt g.statements (q + 1) (Instr.RaiseLoaded r ∷ [])
          → Near (Flat.accessed (Flat.next (Flat.set_ref r x (Flat.with_event ev m)))) (Form.next (record me { events = m.events ++ ev ∷ []; lowered = []; pending = x }))
      loads r x ev l u has = inr (inl (record {
        statement = Instr.RaiseLoaded r;
        stands = has.0;
        later = Form.next (Form.accessed (Form.set_ref (Form.next (record me { events = m.events ++ ev ∷ []; lowered = []; pending = x })) r x));
        goes_there = refl;
        there = after_two (Flat.accessed (Flat.next (Flat.set_ref r x (Flat.with_event ev m)))) [] (held_mutexes m.events) (sym (quiet_held m.events ev l u)) refl tt calls;
        events = refl;
        more = [];
        resolved = tt;
        light = refl;
      }))

      exchanges : (r : ℕ) (c : CellAt) (x : ℤ) (ev : SourceEvent) → locked_by ev.act ≡ None → unlocked_by ev.act ≡ None → HasAt g.statements (q + 1) (Instr.Lower r ∷ [])
          → Near (Flat.accessed (Flat.next (Flat.gives_up (Replaced c) (Flat.set_ref r (pos 0) (Flat.with_event ev m))))) (Form.next (Form.accessed (Form.set_ref (record me { events = m.events ++ ev ∷ []; lowered = [] }) r x)))
      exchanges r c x ev l u has = inr (inl (record {
        statement = Instr.Lower r;
        stands = has.0;
        later = Form.next (Form.lowered (Form.next (Form.accessed (Form.set_ref (record me { events = m.events ++ ev ∷ []; lowered = [] }) r x))) r);
        goes_there = refl;
        there = subst (λ (rs : ℕ → ℤ). Is m3 (record (Form.next (Form.lowered (Form.next (Form.accessed (Form.set_ref (record me { events = m.events ++ ev ∷ []; lowered = [] }) r x))) r)) { refs = rs })) (sym (twice m.refs (m.ref_base + r) x NULL))
            (after_two m3 (number_of (put m.refs (m.ref_base + r) x (m.ref_base + r)) ∷ []) (held_mutexes m.events) (sym (quiet_held m.events ev l u)) refl tt calls);
        events = refl;
        more = number_of x ∷ [];
        resolved = tt;
        light = refl;
      }))
        where
          m3 : Flat.At
          m3 = Flat.accessed (Flat.next (Flat.gives_up (Replaced c) (Flat.set_ref r (pos 0) (Flat.with_event ev m))))

    -- ---- each operation
    module _ (ok : IsFlat flat) where
      -- the place after an operation of one statement
      abbrev After : Op → Type 0
      After o = q + (1 + length (tail o)) ≡ at (m.pc + 1)

      one : q + 1 ≡ at (m.pc + 1) → q + 1 ≡ at (m.pc + 1)
      one e = e

      computes : (width : Width) (operator : Operator) (i a b : ℕ) (spot : Spot) → IsWide width → q + 1 ≡ at (m.pc + 1) → m.pc + 1 < length flat.lines → spot.site ≡ (source_at g m.pc).site
          → Follow (Flat.with_result i spot m (computed width operator (Flat.int m a) (Flat.int m b))) (step g (compute width operator i a b m.pc) me)
      computes Char operator i a b spot w e lt s = absurd w
      computes _ operator i a b spot w e lt s = results e lt i m.pc spot _ s

      negates : (width : Width) (i a : ℕ) (spot : Spot) → IsWide width → q + 1 ≡ at (m.pc + 1) → m.pc + 1 < length flat.lines → spot.site ≡ (source_at g m.pc).site
          → Follow (Flat.with_result i spot m (negated width (Flat.int m a))) (step g (negate width i a m.pc) me)
      negates Char i a spot w e lt s = absurd w
      negates _ i a spot w e lt s = results e lt i m.pc spot _ s

      -- an event that changes nothing else
      tells : (e : q + 1 ≡ at (m.pc + 1)) (lt : m.pc + 1 < length flat.lines) (spot : Spot) {t : LineTexts} (s : source_at g m.pc ≡ with_texts t (source_at_spot spot)) (act : Act) → locked_by act ≡ None → unlocked_by act ≡ None
          → ((x : ℤ) → answer_of (λ token. pos 0) act x ≡ pos 0)
          → Follow (Flat.event spot act (λ v n. n) m) (Form.tells_at g me m.pc act)
      tells e lt spot s act l u silent =
          told m.pc spot s m act (pos 0) (λ v n. Flat.next n) Form.no_answer (λ x b. Form.next b)
          (λ x. (
            pos 0,
            subst (λ z. Near (Flat.next (Flat.with_event (event_of spot.site act z) m)) (Form.next (Form.told me spot.site act (pos 0)))) (sym (silent (pos 0)))
                (quiet e lt (Flat.next (Flat.with_event (event_of spot.site act (pos 0)) m)) (event_of spot.site act (pos 0)) refl l u refl refl calls),
          ))

      abbrev taking : ℕ → ℕ → Turn
      taking r x = Form.asks_at g me m.pc (Act.Take (Taken.Local (variable_of (source_at g m.pc).at)) (kind_of (source_at g m.pc).at)) (λ y. Form.ref me x) (λ y b. Form.next (Form.move_ref b r x))

      takes : (e : q + 1 ≡ at (m.pc + 1)) (lt : m.pc + 1 < length flat.lines) (r x : ℕ) (spot : Spot) {t : LineTexts} (s : source_at g m.pc ≡ with_texts t (source_at_spot spot)) (b : Bool) → is_null (Flat.ref m x) ≡ b
          → Follow (Flat.takes_local r x spot m b) (Form.taken_local g me r x m.pc)
      takes e lt r x spot s true k = subst (λ b. Follow (Flat.goes_on (Flat.moved r x m)) (if b then Form.goes (Form.move_ref me r x) else taking r x)) (sym k) (plain e lt (Flat.next (Flat.moved r x m)) refl refl refl calls)
      takes e lt r x spot s false k =
          subst (λ b. Follow (Flat.takes_local r x spot m false) (if b then Form.goes (Form.move_ref me r x) else taking r x)) (sym k)
          (subst (λ sp. Follow (Flat.takes_local r x spot m false) (Form.asks me sp.site (Act.Take (Taken.Local (variable_of sp.at)) (kind_of sp.at)) (λ y. Form.ref me x) (λ y b. Form.next (Form.move_ref b r x)))) (sym s) (
            refl,
            ap (λ v. Act.Take (Taken.Local v) (kind_of spot.at)) (variable_same spot.at) ∙ ap (Act.Take (Taken.Local (Flat.variable_of spot.at))) (kind_same spot.at),
            λ y. (pos 0, quiet e lt (Flat.next (Flat.moved r x (Flat.with_event (event_of spot.site (Act.Take (Taken.Local (Flat.variable_of spot.at)) (Flat.take_kind_of spot.at)) (Flat.ref m x)) m))) (event_of spot.site (Act.Take (Taken.Local (Flat.variable_of spot.at)) (Flat.take_kind_of spot.at)) (Flat.ref m x)) refl refl refl refl refl calls),
          ))

      locks : (e : q + 1 ≡ at (m.pc + 1)) (lt : m.pc + 1 < length flat.lines) (cell : Cell) (spot : Spot) {t : LineTexts} (s : source_at g m.pc ≡ with_texts t (source_at_spot spot)) → Follow (op_turn flat (Op.Lock cell spot) m) (step g (Instr.Lock cell m.pc) me)
      locks e lt cell spot s =
          let c = Flat.cell_at flat.globals m cell in
          let ev = event_of spot.site (Act.Lock c) (pos 0) in
          told m.pc spot s m (Act.Lock c) (pos 0) (λ v n. Flat.next (Flat.without_base cell n)) Form.no_answer (λ x b. Form.next (record (Form.without_base b cell) { held = me.held ++ Form.cell_at g me cell ∷ [] }))
          (λ x. (pos 0, by_cell cell c))
        where
          by_cell : (cell : Cell) (c : CellAt) → Near (Flat.next (Flat.without_base cell (Flat.with_event (event_of spot.site (Act.Lock c) (pos 0)) m))) (Form.next (record (Form.without_base (Form.told me spot.site (Act.Lock c) (pos 0)) cell) { held = held_mutexes m.events ++ c ∷ [] }))
          by_cell (InObject r n) c = near e lt (Flat.next (Flat.set_ref r (pos 0) (Flat.with_event (event_of spot.site (Act.Lock c) (pos 0)) m))) [] (held_mutexes m.events ++ c ∷ []) (sym (lock_held m.events (event_of spot.site (Act.Lock c) (pos 0)) c refl refl)) refl tt calls
          by_cell (ObjectAt r n) c = near e lt (Flat.next (Flat.set_ref r (pos 0) (Flat.with_event (event_of spot.site (Act.Lock c) (pos 0)) m))) [] (held_mutexes m.events ++ c ∷ []) (sym (lock_held m.events (event_of spot.site (Act.Lock c) (pos 0)) c refl refl)) refl tt calls
          by_cell _ c = near e lt (Flat.next (Flat.with_event (event_of spot.site (Act.Lock c) (pos 0)) m)) [] (held_mutexes m.events ++ c ∷ []) (sym (lock_held m.events (event_of spot.site (Act.Lock c) (pos 0)) c refl refl)) refl tt calls

      spawns : (e : q + 1 ≡ at (m.pc + 1)) (lt : m.pc + 1 < length flat.lines) (i f : ℕ) (from : Register) (spot : Spot) {t : LineTexts} (s : source_at g m.pc ≡ with_texts t (source_at_spot spot))
          → Follow (op_turn flat (Op.Spawn i f from spot) m) (step g (Instr.Spawn i f from m.pc) me)
      spawns e lt i f (Register.Int k) spot s =
          told m.pc spot s m (Act.Spawn f (Flat.int m k)) (pos 0) (λ v n. Flat.next (Flat.set_int i v n)) Form.given (λ x b. Form.next (Form.set_int b i x))
          (λ x. (x, quiet e lt (Flat.next (Flat.set_int i x (Flat.with_event (event_of spot.site (Act.Spawn f (Flat.int m k)) x) m))) (event_of spot.site (Act.Spawn f (Flat.int m k)) x) refl refl refl refl refl calls))
      spawns e lt i f (Register.Reference k) spot s =
          told m.pc spot s m (Act.Spawn f (Flat.ref m k)) (pos 0) (λ v n. Flat.next (Flat.set_int i v (Flat.set_ref k (pos 0) n))) Form.given (λ x b. Form.next (Form.set_int (Form.set_ref b k NULL) i x))
          (λ x. (x, quiet e lt (Flat.next (Flat.set_int i x (Flat.set_ref k (pos 0) (Flat.with_event (event_of spot.site (Act.Spawn f (Flat.ref m k)) x) m)))) (event_of spot.site (Act.Spawn f (Flat.ref m k)) x) refl refl refl refl refl calls))

      positive_same : (z : ℤ) → is_positive z ≡ positive z
      positive_same (pos (suc n)) = ap not (ne_eqb (suc n) 0 (λ k. omega arith))
      positive_same _ = refl

      taken_same : (r : ℕ) (cell : Cell) (spot : Spot) {t : LineTexts} → source_at g m.pc ≡ with_texts t (source_at_spot spot)
          → step g (Instr.TakeCell r cell m.pc) me ≡ Form.access_at g me m.pc cell (λ c mode. Act.Take (Taken.Cell c mode) (Flat.take_kind_of spot.at)) Form.given (λ x b. Form.next (Form.accessed (Form.set_ref b r x)))
      taken_same r cell spot s =
          ap (λ k. Form.access_at g me m.pc cell (λ c mode. Act.Take (Taken.Cell c mode) k) Form.given (λ x b. Form.next (Form.accessed (Form.set_ref b r x)))) (ap (λ (sp : SourcePlace). kind_of sp.at) s ∙ kind_same spot.at)

      unlocks : (e : q + 1 ≡ at (m.pc + 1)) (lt : m.pc + 1 < length flat.lines) (r : ℕ) (cell : Cell) (spot : Spot)
          → let ev = event_of spot.site (Act.Unlock (Flat.cell_at flat.globals m cell)) (pos 0) in
          Near (Flat.next (Flat.set_ref r (Flat.base_of (Flat.with_event ev m) cell) (Flat.with_event ev m)))
          (Form.next (record (Form.set_ref (Form.told me spot.site (Act.Unlock (Flat.cell_at flat.globals m cell)) (pos 0)) r (Form.base_of me cell)) { held = Form.without_mutex (held_mutexes m.events) (Flat.cell_at flat.globals m cell) }))
      unlocks e lt r cell spot =
          let ev = event_of spot.site (Act.Unlock (Flat.cell_at flat.globals m cell)) (pos 0) in
          near e lt (Flat.next (Flat.set_ref r (Flat.base_of (Flat.with_event ev m) cell) (Flat.with_event ev m))) [] (Form.without_mutex (held_mutexes m.events) (Flat.cell_at flat.globals m cell))
          (sym (unlock_held m.events ev (Flat.cell_at flat.globals m cell) refl refl)) refl tt calls

      -- the site of an event is that of its line
      site_of : (o : Op) (spot : Spot) {t : LineTexts} → source_at g m.pc ≡ with_texts t (source_of o) → (source_of o).site ≡ spot.site → spot.site ≡ (source_at g m.pc).site
      site_of o spot s k = sym (ap (λ (sp : SourcePlace). sp.site) s ∙ k)

      pub follows : (o : Op) {t : LineTexts} → source_at g m.pc ≡ with_texts t (source_of o) → Leads flat m.pc o → q + (1 + length (tail o)) ≡ at (m.pc + 1) → HasAt g.statements (q + 1) (tail o) → Unlocked m o → Bodied o (body at m.pc o)
      follows (Op.Constant i v) s lead e has un = plain (omega arith) lead (Flat.next (Flat.set_int i v m)) refl refl refl calls
      follows (Op.Move i from) s lead e has un = plain (omega arith) lead (Flat.next (Flat.set_int i (Flat.int m from) m)) refl refl refl calls
      follows (Op.Compute width operator i a b spot) s lead e has un = computes width operator i a b spot lead.0 (omega arith) lead.1 (site_of (Op.Compute width operator i a b spot) spot s refl)
      follows (Op.Negate width i a spot) s lead e has un = negates width i a spot lead.0 (omega arith) lead.1 (site_of (Op.Negate width i a spot) spot s refl)
      follows (Op.Complement i a) s lead e has un = plain (omega arith) lead (Flat.next (Flat.set_int i _ m)) refl refl refl calls
      follows (Op.IsFalse i a) s lead e has un = plain (omega arith) lead (Flat.next (Flat.set_int i _ m)) refl refl refl calls
      follows (Op.SameReference i a b) s lead e has un = plain (omega arith) lead (Flat.next (Flat.set_int i _ m)) refl refl refl calls
      follows (Op.ChkWidth width i spot) s lead e has un = asserted (omega arith) lead _ Trap.OutOfRange m.pc spot (site_of (Op.ChkWidth width i spot) spot s refl)
      follows (Op.Skip k) s lead e has un = jumped (m.pc + 1 + k) lead
      follows (Op.SkipIfZero i k) s lead e has un = chosen _ (Flat.over_lines k m) (Flat.next m) (Form.to me (at (m.pc + 1 + k))) (Form.next me) (jumped (m.pc + 1 + k) lead.0) (plain (omega arith) lead.1 (Flat.next m) refl refl refl calls)
      follows (Op.SkipIfNull r k) s lead e has un = chosen _ (Flat.over_lines k m) (Flat.next m) (Form.to me (at (m.pc + 1 + k))) (Form.next me) (jumped (m.pc + 1 + k) lead.0) (plain (omega arith) lead.1 (Flat.next m) refl refl refl calls)
      follows (Op.Jump to) s lead e has un = jumped to lead
      follows (Op.Call f ints refs spot) s lead e has un = called ok f ints refs spot lead.0 (omega arith) lead.1 (site_of (Op.Call f ints refs spot) spot s refl)
      follows (Op.Return spot) s lead e has un = returns spot m.frames refl calls (site_of (Op.Return spot) spot s refl)
      follows (Op.Null r) s lead e has un = plain (omega arith) lead (Flat.next (Flat.set_ref r (pos 0) m)) refl refl refl calls
      follows (Op.Local r x) s lead e has un = plain (omega arith) lead (Flat.next (Flat.set_ref r (Flat.ref m x) m)) refl refl refl calls
      follows (Op.MoveReference r from) s lead e has un = plain (omega arith) lead (Flat.next (Flat.moved r from m)) refl refl refl calls
      follows (Op.Pop r) s lead e has un = near (omega arith) lead (Flat.next (Flat.popped r m)) (L ++ number_of (Flat.ref m r) ∷ []) (held_mutexes m.events) refl refl (resolved_push m.given L (number_of (Flat.ref m r)) res) calls
      follows (Op.Settle x from) s lead e has un = settles (omega arith) lead.1 x from lead.0 has
      follows (Op.ChkNull r spot) s lead e has un = asserted (omega arith) lead _ Trap.NullPointer m.pc spot (site_of (Op.ChkNull r spot) spot s refl)
      follows (Op.ChkPositive i spot) s lead e has un =
          subst (λ b. Follow (Flat.asserts b Trap.SizeNotPositive spot m) (Form.asserts me (is_positive (Flat.int m i)) Trap.SizeNotPositive m.pc)) (positive_same (Flat.int m i))
          (asserted (omega arith) lead (is_positive (Flat.int m i)) Trap.SizeNotPositive m.pc spot (site_of (Op.ChkPositive i spot) spot s refl))
      follows (Op.ChkHeld cell spot) s lead e has un = asserted (omega arith) lead _ Trap.MutexNotHeld m.pc spot (site_of (Op.ChkHeld cell spot) spot s refl)
      follows (Op.ChkNotHeld cell spot) s lead e has un = asserted (omega arith) lead _ Trap.MutexAlreadyHeld m.pc spot (site_of (Op.ChkNotHeld cell spot) spot s refl)
      follows (Op.ChkRoom spot) s lead e has un = asserted (omega arith) lead _ Trap.TooManyLocks m.pc spot (site_of (Op.ChkRoom spot) spot s refl)
      follows (Op.Bounds i r cells field spot) s lead e has un = indexes (omega arith) lead i cells field m.pc (Flat.int m i) _ spot (site_of (Op.Bounds i r cells field spot) spot s refl)
      follows (Op.GlobalBounds i elements cells field spot) s lead e has un = indexes (omega arith) lead i cells field m.pc (Flat.int m i) elements spot (site_of (Op.GlobalBounds i elements cells field spot) spot s refl)
      follows (Op.Load i cell spot) s lead e has un =
          accessed m.pc spot s cell Act.Read (λ c v. Flat.set_int i v) Form.given (λ x b. Form.next (Form.accessed (Form.set_int b i x))) un
          (λ x. (x, quiet (omega arith) lead (Flat.accessed (Flat.next (Flat.set_int i x (Flat.with_event _ m)))) _ refl refl refl refl refl calls))
      follows (Op.Store i cell spot) s lead e has un =
          accessed m.pc spot s cell (λ c mode. Act.Write c mode (Flat.int m i)) (λ c v n. n) Form.no_answer (λ x b. Form.next (Form.accessed b)) un
          (λ x. (pos 0, quiet (omega arith) lead (Flat.accessed (Flat.next (Flat.with_event _ m))) _ refl refl refl refl refl calls))
      follows (Op.LoadRef r cell spot) s lead e has un =
          accessed m.pc spot s cell Act.Read (λ c v. Flat.set_ref r v) Form.given (λ x b. Form.next (record b { pending = x })) un
          (λ x. (x, loads (omega arith) lead r x _ refl refl has))
      follows (Op.StoreRef r cell spot) s lead e has un =
          accessed m.pc spot s cell (λ c mode. Act.Write c mode (Flat.ref m r)) (λ c v n. Flat.gives_up (Replaced c) (Flat.set_ref r (pos 0) n)) Form.no_answer (λ x b. Form.next (Form.accessed (Form.set_ref b r x))) un
          (λ x. (pos 0, exchanges (omega arith) lead r _ x _ refl refl has))
      follows (Op.LoadGuard cell spot) s lead e has un =
          guarding s
        where
          guarding : {t : LineTexts} → source_at g m.pc ≡ with_texts t (record (source_at_spot spot) { mode = Readonly }) → Follow (op_turn flat (Op.LoadGuard cell spot) m) (step g (Instr.LoadRef cell m.pc) me)
          guarding s = subst (λ (sp : SourcePlace). Follow (op_turn flat (Op.LoadGuard cell spot) m) (Form.asks me sp.site (Act.Read (Form.cell_at g me cell) (Form.mode_of g me (Form.cell_at g me cell) sp.mode)) Form.given (λ x b. Form.next (record b { pending = x })))) (sym s)
              (refl, refl, λ x. (x, quiet (omega arith) lead (Flat.next (record (Flat.with_event _ m) { pending = x })) _ refl refl refl refl refl calls))
      follows (Op.New r count cells spot) s lead e has un =
          subst (λ (sp : SourcePlace). Follow (op_turn flat (Op.New r count cells spot) m) (Form.asks me sp.site (Act.New cells (elements_made (Flat.int m count)) (Form.mode_of g me (made_cell 0 0) sp.mode)) Form.given (λ x b. Form.next (Form.set_ref b r x)))) (sym s)
          (refl, refl, λ x. (x, quiet (omega arith) lead (Flat.next (Flat.set_ref r x (Flat.with_event _ m))) _ refl refl refl refl refl calls))
      follows (Op.TakeCell r cell spot) s lead e has un =
          subst (λ act. Follow (op_turn flat (Op.TakeCell r cell spot) m) act) (sym (taken_same r cell spot s))
          (accessed m.pc spot s cell (λ c mode. Act.Take (Taken.Cell c mode) (Flat.take_kind_of spot.at)) (λ c v. Flat.set_ref r v) Form.given (λ x b. Form.next (Form.accessed (Form.set_ref b r x))) un
          (λ x. (x, quiet (omega arith) lead (Flat.accessed (Flat.next (Flat.set_ref r x (Flat.with_event _ m)))) _ refl refl refl refl refl calls)))
      follows (Op.TakeLocal r x spot) s lead e has un = takes (omega arith) lead r x spot s (is_null (Flat.ref m x)) refl
      follows (Op.Give r cells spot) s lead e has un =
          subst (λ (sp : SourcePlace). Follow (op_turn flat (Op.Give r cells spot) m) (Form.asks me sp.site (Act.Give (Flat.ref m r) (Form.mode_of g me (made_cell 0 0) sp.mode)) Form.no_answer (λ x b. Form.next b))) (sym s)
          (refl, refl, λ x. (pos 0, quiet (omega arith) lead (Flat.next (Flat.with_event _ m)) _ refl refl refl refl refl calls))
      follows (Op.Free r layout spot) s lead e has un =
          told m.pc spot s (Flat.gives_up (Emptied (number_of (Flat.ref m r))) m) (Act.Freed (Flat.ref m r)) (pos 0) (λ v n. Flat.next (Flat.set_ref r (pos 0) n)) Form.no_answer (λ x b. Form.next (Form.set_ref b r NULL))
          (λ x. (pos 0, quiet (omega arith) lead (Flat.next (Flat.set_ref r (pos 0) (Flat.with_event _ m))) _ refl refl refl refl refl calls))
      follows (Op.Lock cell spot) s lead e has un = locks (omega arith) lead cell spot s
      follows (Op.Unlock r cell spot) s lead e has un =
          told m.pc spot s m (Act.Unlock (Flat.cell_at flat.globals m cell)) (pos 0) (λ v n. Flat.next (Flat.set_ref r (Flat.base_of n cell) n)) Form.no_answer
          (λ x b. Form.next (record (Form.set_ref b r (Form.base_of me cell)) { held = Form.without_mutex me.held (Form.cell_at g me cell) }))
          (λ x. (pos 0, unlocks (omega arith) lead r cell spot))
      follows (Op.CondEnter cell spot) s lead e has un = tells (omega arith) lead spot s (Act.Enter (Flat.cell_at flat.globals m cell)) refl refl (λ x. refl)
      follows (Op.CondWait cell spot) s lead e has un = tells (omega arith) lead spot s (Act.Woken (Flat.cell_at flat.globals m cell)) refl refl (λ x. refl)
      follows (Op.CondSignal cell spot) s lead e has un =
          told m.pc spot s m (Act.Signal (Flat.cell_at flat.globals m cell)) (pos 0) (λ v n. Flat.next n) Form.given (λ x b. Form.next b)
          (λ x. (x, quiet (omega arith) lead (Flat.next (Flat.with_event _ m)) _ refl refl refl refl refl calls))
      follows (Op.CondBroadcast cell spot) s lead e has un = tells (omega arith) lead spot s (Act.Broadcast (Flat.cell_at flat.globals m cell)) refl refl (λ x. refl)
      follows (Op.Spawn i f from spot) s lead e has un = spawns (omega arith) lead i f from spot s
      follows (Op.Join i spot) s lead e has un = tells (omega arith) lead spot s (Act.Join (Flat.int m i)) refl refl (λ x. refl)
      follows (Op.Print i spot) s lead e has un = tells (omega arith) lead spot s (Act.Print (Flat.int m i)) refl refl (λ x. refl)
      follows _ s lead e has un = tt
