-- What comes before a statement: checks of what it asks for.
use Rattle.sharc_guard.proofs.{Imports.{spot_of, ◌≡◌, ℕ, ℤ, pos, ◌+◌, ◌-◌, inl, inr, Bool, true, false, List, [], ◌∷◌, Some, None, refl, sym, ap, ◌∙◌, subst, cond, Act, CellAt, CellMode, Taken, Trap, Kind, PlaceMode, Dynamic, LockedGlobal, LockedSibling, LockedThrough, LockedLoaded, Cell, Instr, Replaced, cell_of, through, held_mutexes, is_null, number_of, stopped, Op, Spot, Flat, At, Turn, asks, halts, ref, next, stops, cell_at, global_cell, cell_mode_of, is_of_null, lock_is_null, accesses, accessed, op_turn, take_kind_of, int, set_int, set_ref, gives_up, Program, Thread, source_at, weight, place, guarded, check_under, head, IsAccess, IsUnder, Tells, OverwritesNone, LockStands}, Places.IsPlaceOf, Beside.{beside, cell_same, null_same}, Turning.IsOpenFor}
use Rattle.sharc_tree.specs.declared.event.Object.{Object}
use Rattle.sharc_guard.specs.Machine as Form
use Rattle.sharc_guard.specs.Counted.{IsBeside}

module _ (dropped : ℕ → Bool) (flat : Flat) (m : At) where
  abbrev pl : ℕ → ℕ
  pl = place dropped flat.lines

  abbrev p : Program
  p = guarded dropped flat

  -- a turn that leads on where its check passes, and reports what flat code wants
  abbrev pub Passes : Type 0 → Turn → Thread → Form.Turn → Type 0
  Passes rest t a (Form.Goes b) = (b ≡ Form.next a) × rest
  Passes rest t a (Form.Checks check site b) = (b ≡ Form.next a) × rest × Tells p (Form.Checks check site b) t
  Passes rest t a (Form.Halts o) = Tells p (Form.Halts o) t
  Passes rest t a (Form.Asks site act go) = ⊥

  -- only what gives an object has a quiet statement before it
  abbrev pub GivesNow : Turn → Type 0
  GivesNow (asks n site (Act.Give v mode) held f) = Unit {0}
  GivesNow _ = ⊥

  abbrev pub Guards : Type 0 → Turn → List Instr → Type 0
  Guards way t [] = way
  Guards way t (i ∷ is) = (weight i ≡ 1) × ((a : Thread) → OverwritesNone i a) × ((a b : Thread) → Form.step p i a ≡ Form.Goes b → GivesNow t) × ((q : ℕ) (low : List ℕ) → let a = beside pl m q (held_mutexes m.events) low in Passes (Guards way t is) t a (Form.step p i a))

  abbrev s : ℕ
  s = m.pc

  module _ (cell : Cell) (spot : Spot) (k : IsPlaceOf spot (source_at p s)) (act : CellAt → CellMode → Act) (then_ : CellAt → ℤ → At → At) (kind : Kind) (is_under : (c mutex : CellAt) → IsUnder mutex (act c (CellMode.Locked (Some mutex)))) where
    abbrev c : CellAt
    c = cell_at flat.globals m cell

    abbrev mode : CellMode
    mode = cell_mode_of flat.globals m c spot.mode

    abbrev wants : Turn
    wants = asks m spot.site (act c mode) (pos 0) (λ v n. accessed (next (then_ c v n)))

    abbrev turn_of : Turn
    turn_of = accesses flat.globals cell spot act then_ m

    abbrev Way : Type 0
    Way = lock_is_null m spot spot.mode ≡ false

    opens : Way → turn_of ≡ wants
    opens way = ap (λ b. cond b (stops Trap.NullPointer spot) wants) way

    shut : lock_is_null m spot spot.mode ≡ true → turn_of ≡ halts (stopped Trap.NullPointer spot.site)
    shut way = ap (λ b. cond b (stops Trap.NullPointer spot) wants) way

    lock_loud : {A : Type 0} (a : Thread) (b : Bool) (mutex : CellAt) (c : Thread) → Form.lock_checked a b mutex s ≡ Form.Goes c → A
    lock_loud a true mutex c e = absurd (cc)
    lock_loud a false mutex c e = absurd (cc)

    -- the check of a lock
    locks : (a : Thread) (mutex : CellAt) (b : Bool) → lock_is_null m spot spot.mode ≡ b → (b ≡ false → IsUnder mutex (act c mode)) → Passes Way turn_of a (Form.lock_checked a b mutex s)
    locks a mutex true e under = subst (λ t. Passes Way t a (Form.Halts (Form.Stopped Trap.NullPointer s))) (sym (shut e)) (ap (stopped Trap.NullPointer) (sym k.site))
    locks a mutex false e under = subst (λ t. Passes Way t a (Form.Checks (Form.Locks mutex) s (Form.next a))) (sym (opens e)) (refl, e, (k.site, under refl))

    through_open : (v : ℤ) (n : ℕ) → is_null v ≡ false → through v n ≡ Some (cell_of (Object.Made (number_of v)) n)
    through_open v n e = ap (λ b. cond b None (Some (cell_of (Object.Made (number_of v)) n))) e

    -- the mode of the access names this mutex
    under_mode : (mutex : CellAt) (pm : PlaceMode) → spot.mode ≡ pm → cell_mode_of flat.globals m c pm ≡ CellMode.Locked (Some mutex) → IsUnder mutex (act c mode)
    under_mode mutex pm e h = subst (λ z. IsUnder mutex (act c z)) (sym (ap (cell_mode_of flat.globals m c) e ∙ h)) (is_under c mutex)

    module _ (chk : Instr) (one : weight chk ≡ 1) (none : (a : Thread) → OverwritesNone chk a)
        (chk_is : (a : Thread) → Form.step p chk a ≡ Form.Checks (Form.Accesses kind (Form.cell_at p a cell)) s (Form.next a)) (is_access : IsAccess kind c (act c CellMode.Dynamic)) where
      in_mode : (d : Bool) (pm : PlaceMode) → spot.mode ≡ pm → IsBeside flat m cell spot pm → Guards Way turn_of (check_under d chk spot s pm)
      in_mode false Dynamic e g = (
        one,
        none,
        λ a b h. (let z : Form.Checks (Form.Accesses kind (Form.cell_at p a cell)) s (Form.next a) ≡ Form.Goes b = sym (chk_is a) ∙ h in absurd (cc)),
        λ q low.
            let a = beside pl m q (held_mutexes m.events) low in
            let way : Way = ap (lock_is_null m spot) e in
            let access : IsAccess kind c (act c mode) = subst (λ z. IsAccess kind c (act c z)) (sym (ap (cell_mode_of flat.globals m c) e)) is_access in
            subst (Passes Way turn_of a) (sym (chk_is a))
            (subst (λ t. Passes Way t a (Form.Checks (Form.Accesses kind (Form.cell_at p a cell)) s (Form.next a))) (sym (opens way))
            (refl, way, (k.site, subst (λ z. IsAccess kind z (act c mode)) (sym (cell_same dropped flat m q (held_mutexes m.events) low cell)) access))),
      )
      in_mode d (LockedGlobal g n) e h = (
        refl,
        λ a. tt,
        λ a b h. lock_loud a false _ b h,
        λ q low. locks (beside pl m q (held_mutexes m.events) low) (global_cell flat.globals g n) false (ap (lock_is_null m spot) e) (λ z. under_mode (global_cell flat.globals g n) (LockedGlobal g n) e refl),
      )
      in_mode d (LockedSibling f n) e h = (
        refl,
        λ a. tt,
        λ a b h. lock_loud a (Form.is_of_null a spot.lock) _ b h,
        λ q low.
            let a = beside pl m q (held_mutexes m.events) low in
            let null = ap (lock_is_null m spot) e in
            subst (λ b. Passes Way turn_of a (Form.lock_checked a b (Form.cell_at p a spot.lock) s)) (sym (null_same dropped flat m q (held_mutexes m.events) low spot.lock))
            (locks a (Form.cell_at p a spot.lock) (is_of_null m spot.lock) null
            (λ z. subst (λ y. IsUnder y (act c mode)) (sym (cell_same dropped flat m q (held_mutexes m.events) low spot.lock ∙ h (null ∙ z))) (under_mode (record { object = c.object; cell = c.cell - f + n }) (LockedSibling f n) e refl))),
      )
      in_mode d (LockedThrough r n) e h = (
        refl,
        λ a. tt,
        λ a b h. lock_loud a (Form.is_of_null a (Cell.Object r n)) _ b h,
        λ q low. locks (beside pl m q (held_mutexes m.events) low) (cell_of (Object.Made (number_of (ref m r))) n) (is_null (ref m r)) (ap (lock_is_null m spot) e)
            (λ z. under_mode (cell_of (Object.Made (number_of (ref m r))) n) (LockedThrough r n) e (ap CellMode.Locked (through_open (ref m r) n z))),
      )
      in_mode d LockedLoaded e h = (
        refl,
        λ a. tt,
        λ a b h. lock_loud a (is_null a.pending) _ b h,
        λ q low. locks (beside pl m q (held_mutexes m.events) low) (cell_of (Object.Made (number_of m.pending)) 0) (is_null m.pending) (ap (lock_is_null m spot) e)
            (λ z. under_mode (cell_of (Object.Made (number_of m.pending)) 0) LockedLoaded e (ap CellMode.Locked (through_open m.pending 0 z))),
      )
      in_mode _ _ e g = ap (lock_is_null m spot) e

  pub heads : (d : Bool) (o : Op) → LockStands flat m o → ((spot : Spot) → spot_of o ≡ Some spot → IsPlaceOf spot (source_at p s)) → Guards (IsOpenFor o m) (op_turn flat o m) (head d s o)
  heads d (Op.Load i cell spot) lk k =
      in_mode cell spot (k spot refl) Act.Read (λ c v. set_int i v) Kind.Read (λ c x. refl) (Instr.ChkRead cell s) refl (λ a. tt) (λ a. refl) refl d spot.mode refl lk
  heads d (Op.Store i cell spot) lk k =
      in_mode cell spot (k spot refl) (λ c mode. Act.Write c mode (int m i)) (λ c v n. n) Kind.Write (λ c x. refl) (Instr.ChkWrite cell s) refl (λ a. tt) (λ a. refl) (inl (_, refl)) d spot.mode refl lk
  heads d (Op.LoadRef r cell spot) lk k =
      in_mode cell spot (k spot refl) Act.Read (λ c v. set_ref r v) Kind.Read (λ c x. refl) (Instr.ChkRead cell s) refl (λ a. tt) (λ a. refl) refl false spot.mode refl lk
  heads d (Op.StoreRef r cell spot) lk k =
      in_mode cell spot (k spot refl) (λ c mode. Act.Write c mode (ref m r)) (λ c v n. gives_up (Replaced c) (set_ref r (pos 0) n)) Kind.Write (λ c x. refl) (Instr.ChkWrite cell s) refl (λ a. tt) (λ a. refl) (inl (_, refl)) false spot.mode refl lk
  heads d (Op.TakeCell r cell spot) lk k =
      in_mode cell spot (k spot refl) (λ c mode. Act.Take (Taken.Cell c mode) (take_kind_of spot.at)) (λ c v. set_ref r v) Kind.Write (λ c x. refl) (Instr.ChkWrite cell s) refl (λ a. tt) (λ a. refl) (inr (_, refl)) false spot.mode refl lk
  heads d (Op.Give r cells spot) lk k = (refl, λ a. tt, λ a b e. absurd (cc), λ q low. (refl, (refl, λ a. tt, λ a b e. tt, λ q low. (refl, tt)), ((k spot refl).site, refl)))
  heads d (Op.Free r layout spot) lk k = (refl, λ a. tt, λ a b e. absurd (cc), λ q low. (refl, tt, ((k spot refl).site, refl)))
  heads d _ lk k = tt
