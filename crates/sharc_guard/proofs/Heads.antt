-- What comes before an operation's own statement: it passes, or stops where flat code stops.
use Rattle.sharc_guard.proofs.{Imports.{◌≡◌, ℕ, ℤ, pos, ◌+◌, Bool, true, false, List, [], ◌∷◌, refl, sym, ap, ◌∙◌, subst, if◌then◌else◌, Act, CellAt, CellMode, Taken, Trap, PlaceMode, Dynamic, LockedGlobal, LockedSibling, LockedThrough, LockedLoaded, Cell, Global, Object, Instr, Replaced, Emptied, number_of, stopped, Op, Spot, asks, halts, op_turn, Thread, Goes, Checks, Halts, Stopped, step, weight, source_of, check_under, head, image}, Follows.{g, at, Unlocked}}
use Rattle.sharc_flat.specs.Machine as Flat
use Rattle.sharc_guard.specs.Machine as Form
use Rattle.sharc_guard.specs.Machine.{Turn}

-- a turn that leads on, where what it checks is well
abbrev pub IsPass : ℕ → Turn → Thread → Type 0
IsPass site (Goes b) c = b ≡ c
IsPass site (Checks check n b) c = (n ≡ site) × (b ≡ c)
IsPass site _ c = ⊥

module _ (dropped : ℕ → Bool) (flat : Flat.Flat) (m : Flat.At) where
  -- flat code asks for an event at this site
  pub record Asking (o : Op) : Type 0 where
    pub from : Flat.At
    pub act : Act
    pub held : ℤ
    pub go : ℤ → Flat.At → Flat.At
    pub asks_it : op_turn flat o m ≡ asks from (source_of o).site act held go

  pub record IsHead (o : Op) (h : Instr) (rest : Type 0) : Type 0 where
    pub blocked : Bool
    pub passes : (q : ℕ) (L : List ℕ) → blocked ≡ false → IsPass m.pc (step (g dropped flat) h (image (at dropped flat) m q L)) (image (at dropped flat) m (q + 1) L)
    pub stops : (q : ℕ) (L : List ℕ) → blocked ≡ true → step (g dropped flat) h (image (at dropped flat) m q L) ≡ Halts (Stopped Trap.NullPointer m.pc)
    pub flat_stops : blocked ≡ true → op_turn flat o m ≡ halts (stopped Trap.NullPointer (source_of o).site)
    pub wants : blocked ≡ false → Asking o
    pub then_ : blocked ≡ false → rest
    pub light : weight h ≡ 1

  abbrev pub AreHeads : Op → List Instr → Type 0
  AreHeads o [] = Unlocked m o
  AreHeads o (h ∷ hs) = IsHead o h (AreHeads o hs)

  -- ---- accesses
  -- an operation that accesses a cell at this spot
  record IsAccess (o : Op) (spot : Spot) : Type 0 where
    unlocked : Flat.lock_is_null m spot spot.mode ≡ false → Unlocked m o
    stops_at : Flat.lock_is_null m spot spot.mode ≡ true → op_turn flat o m ≡ halts (stopped Trap.NullPointer (source_of o).site)
    asks_for : Flat.lock_is_null m spot spot.mode ≡ false → Asking o

  -- a check that passes or reports
  looks : (o : Op) (spot : Spot) (k : IsAccess o spot) → Flat.lock_is_null m spot spot.mode ≡ false → (h : Instr) → ((q : ℕ) (L : List ℕ) → IsPass m.pc (step (g dropped flat) h (image (at dropped flat) m q L)) (image (at dropped flat) m (q + 1) L)) → weight h ≡ 1 → AreHeads o (h ∷ [])
  looks o spot k free h pass light = record {
    blocked = false;
    passes = λ q L e. pass q L;
    stops = λ q L e. absurd (cc);
    flat_stops = λ e. absurd (cc);
    wants = λ e. k.asks_for free;
    then_ = λ e. k.unlocked free;
    light = light;
  }

  -- a check of a lock
  locks : (o : Op) (spot : Spot) (k : IsAccess o spot) (b : Bool) → Flat.lock_is_null m spot spot.mode ≡ b → (h : Instr) → ((q : ℕ) (L : List ℕ) → (c : CellAt) × (step (g dropped flat) h (image (at dropped flat) m q L) ≡ Form.lock_checked (image (at dropped flat) m q L) b c m.pc)) → weight h ≡ 1 → AreHeads o (h ∷ [])
  locks o spot k b e h turn light = record {
    blocked = b;
    passes = λ q L f. subst (λ t. IsPass m.pc t (image (at dropped flat) m (q + 1) L)) (sym ((turn q L).1 ∙ ap (λ b. Form.lock_checked (image (at dropped flat) m q L) b (turn q L).0 m.pc) f)) (refl, refl);
    stops = λ q L f. (turn q L).1 ∙ ap (λ b. Form.lock_checked (image (at dropped flat) m q L) b (turn q L).0 m.pc) f;
    flat_stops = λ f. k.stops_at (e ∙ f);
    wants = λ f. k.asks_for (e ∙ f);
    then_ = λ f. k.unlocked (e ∙ f);
    light = light;
  }

  checked : (o : Op) (spot : Spot) (drop : Bool) (dynamic : Instr) → IsAccess o spot → ((q : ℕ) (L : List ℕ) → IsPass m.pc (step (g dropped flat) dynamic (image (at dropped flat) m q L)) (image (at dropped flat) m (q + 1) L)) → weight dynamic ≡ 1
      → (mode : PlaceMode) → spot.mode ≡ mode → AreHeads o (check_under drop dynamic spot m.pc mode)
  checked o spot false dynamic k pass light Dynamic e = looks o spot k (ap (Flat.lock_is_null m spot) e) dynamic pass light
  checked o spot drop dynamic k pass light (LockedGlobal h place) e = locks o spot k false (ap (Flat.lock_is_null m spot) e) (Instr.ChkLock (Global h place) m.pc) (λ q L. (_, refl)) refl
  checked o spot drop dynamic k pass light (LockedSibling field mutex) e = locks o spot k (Flat.is_of_null m spot.lock) (ap (Flat.lock_is_null m spot) e) (Instr.ChkLock spot.lock m.pc) (λ q L. (_, refl)) refl
  checked o spot drop dynamic k pass light (LockedThrough r place) e = locks o spot k _ (ap (Flat.lock_is_null m spot) e) (Instr.ChkLock (Object r place) m.pc) (λ q L. (_, refl)) refl
  checked o spot drop dynamic k pass light LockedLoaded e = locks o spot k _ (ap (Flat.lock_is_null m spot) e) (Instr.ChkLockLoaded m.pc) (λ q L. (_, refl)) refl
  checked o spot _ dynamic k pass light _ e = k.unlocked (ap (Flat.lock_is_null m spot) e)

  -- an access, as flat code has it
  access : (o : Op) (cell : Cell) (spot : Spot) (of : CellAt → CellMode → Act) (then_ : CellAt → ℤ → Flat.At → Flat.At) → op_turn flat o m ≡ Flat.accesses flat.globals cell spot of then_ m → (source_of o).site ≡ spot.site
      → (Flat.lock_is_null m spot spot.mode ≡ false → Unlocked m o) → IsAccess o spot
  access o cell spot of then_ e s un = record {
    unlocked = un;
    stops_at = λ f. e ∙ ap (λ b. if b then Flat.stops Trap.NullPointer spot else asking) f ∙ ap (λ site. halts (stopped Trap.NullPointer site)) (sym s);
    asks_for = λ f. record { from = m; act = of (Flat.cell_at flat.globals m cell) (Flat.cell_mode_of flat.globals m (Flat.cell_at flat.globals m cell) spot.mode); held = pos 0; go = λ v n. Flat.accessed (Flat.next (then_ (Flat.cell_at flat.globals m cell) v n)); asks_it = e ∙ ap (λ b. if b then Flat.stops Trap.NullPointer spot else asking) f ∙ ap (λ site. asks m site (of (Flat.cell_at flat.globals m cell) (Flat.cell_mode_of flat.globals m (Flat.cell_at flat.globals m cell) spot.mode)) (pos 0) (λ v n. Flat.accessed (Flat.next (then_ (Flat.cell_at flat.globals m cell) v n)))) (sym s) };
  }
    where
      asking : Flat.Turn
      asking = asks m spot.site (of (Flat.cell_at flat.globals m cell) (Flat.cell_mode_of flat.globals m (Flat.cell_at flat.globals m cell) spot.mode)) (pos 0) (λ v n. Flat.accessed (Flat.next (then_ (Flat.cell_at flat.globals m cell) v n)))

  -- a test or a clearing before a Give or a Freed
  before : (o : Op) (h : Instr) (rest : Type 0) → Asking o → rest → ((q : ℕ) (L : List ℕ) → IsPass m.pc (step (g dropped flat) h (image (at dropped flat) m q L)) (image (at dropped flat) m (q + 1) L)) → weight h ≡ 1 → IsHead o h rest
  before o h rest want r pass light = record {
    blocked = false;
    passes = λ q L e. pass q L;
    stops = λ q L e. absurd (cc);
    flat_stops = λ e. absurd (cc);
    wants = λ e. want;
    then_ = λ e. r;
    light = light;
  }

  pub heads : (drop : Bool) (o : Op) → AreHeads o (head drop m.pc o)
  heads drop (Op.Load i cell spot) = checked (Op.Load i cell spot) spot drop (Instr.ChkRead cell m.pc) (access (Op.Load i cell spot) cell spot Act.Read (λ c v. Flat.set_int i v) refl refl (λ e. e)) (λ q L. (refl, refl)) refl spot.mode refl
  heads drop (Op.Store i cell spot) = checked (Op.Store i cell spot) spot drop (Instr.ChkWrite cell m.pc) (access (Op.Store i cell spot) cell spot (λ c mode. Act.Write c mode (Flat.int m i)) (λ c v n. n) refl refl (λ e. e)) (λ q L. (refl, refl)) refl spot.mode refl
  heads drop (Op.LoadRef r cell spot) = checked (Op.LoadRef r cell spot) spot false (Instr.ChkRead cell m.pc) (access (Op.LoadRef r cell spot) cell spot Act.Read (λ c v. Flat.set_ref r v) refl refl (λ e. e)) (λ q L. (refl, refl)) refl spot.mode refl
  heads drop (Op.StoreRef r cell spot) = checked (Op.StoreRef r cell spot) spot false (Instr.ChkWrite cell m.pc) (access (Op.StoreRef r cell spot) cell spot (λ c mode. Act.Write c mode (Flat.ref m r)) (λ c v n. Flat.gives_up (Replaced c) (Flat.set_ref r (pos 0) n)) refl refl (λ e. e)) (λ q L. (refl, refl)) refl spot.mode refl
  heads drop (Op.TakeCell r cell spot) = checked (Op.TakeCell r cell spot) spot false (Instr.ChkWrite cell m.pc) (access (Op.TakeCell r cell spot) cell spot (λ c mode. Act.Take (Taken.Cell c mode) (Flat.take_kind_of spot.at)) (λ c v. Flat.set_ref r v) refl refl (λ e. e)) (λ q L. (refl, refl)) refl spot.mode refl
  heads drop (Op.Give r cells spot) =
      let want : Asking (Op.Give r cells spot) = record { from = m; act = _; held = pos 0; go = λ v n. Flat.next n; asks_it = refl } in
      before (Op.Give r cells spot) (Instr.TestSole r m.pc) _ want (before (Op.Give r cells spot) (Instr.Clear r cells) _ want tt (λ q L. refl) refl) (λ q L. (refl, refl)) refl
  heads drop (Op.Free r layout spot) =
      before (Op.Free r layout spot) (Instr.TestSole r m.pc) _ (record { from = Flat.gives_up (Emptied (number_of (Flat.ref m r))) m; act = _; held = pos 0; go = λ v n. Flat.next (Flat.set_ref r (pos 0) n); asks_it = refl }) tt (λ q L. (refl, refl)) refl
  heads drop _ = tt
