-- What is known of integer registers holds on all paths, so the mutexes of accesses are named.
use Rattle.sharc_compile_laws.proofs.{Imports.{ℤ, pos, negsuc, Result, Ok, Err, slice_get, ◌≡◌, ◌⊎◌, inl, inr, ⊎_elim, ℕ, zero, suc, ◌+◌, ◌-◌, ◌*◌, ◌<◌, ◌≤◌, Bool, true, false, not, cond, List, [], ◌∷◌, length, refl, ap, sym, ◌∙◌, subst, arith, eq-eqb, ne_eqb, Option, Some, None, nat_lt, false≢true, Act, Site, Trap, Parameter, Cell, Register, is_null, elements_of, is_zero, held_mutexes, Op, Spot, Flat, At, Caller, Turn, goes, stops, over_lines, first_at, put, int, ref, set_int, next, asserts, with_result, lock_is_null, indexed, takes_local, moved, function_of, called, returned, begun, start, end_turn, op_turn, line_turn, after, may_go, at_after, IsPath, LocksStand}, Ties.{Tie, copied, scaled, beside, register_in, Holds, Ties, In, Fit, Apart, Kept, Copied, IsFirst, IsSecond, Bounded, Called, AllHold, Next, Needs}}
use Rattle.sharc_flat.specs.Machine.{asks}

put_same : (bank : ℕ → ℤ) (r : ℕ) (v : ℤ) → put bank r v r ≡ v
put_same bank r v = ap (λ b. cond b v (bank r)) (eq-eqb r r refl)

put_other : (bank : ℕ → ℤ) (r : ℕ) (v : ℤ) (k : ℕ) → (k ≡ r → ⊥) → put bank r v k ≡ bank k
put_other bank r v k other = ap (λ b. cond b v (bank k)) (ne_eqb k r other)

-- where both registers hold what they held
still : (x : Tie) (f g : ℕ → ℤ) → f (register_in x) ≡ g (register_in x) → f (register_in x + 1) ≡ g (register_in x + 1) → Holds x f → Holds x g
still (copied i) f g a b h = sym b ∙ h ∙ a
still (scaled i cells n) f g a b h = (h.0, sym a ∙ h.1, sym b ∙ h.2)
still (beside i n mutex) f g a b h = (h.0, sym a ∙ h.1, sym b ∙ h.2)

same_pos : (a b : ℕ) → pos a ≡ pos b → a ≡ b
same_pos a b h = cc

module _ (flat : Flat) (table : ℕ → Ties) (last : (q : ℕ) → length flat.lines ≤ q → table q ≡ []) (begins : (f : ℕ) → table (function_of flat f).entry ≡ []) where
  -- what is known of the callers' frames is of registers before those of the frames that they called
  Below : ℕ → (ℕ → ℤ) → List Caller → Type 0
  Below base ints [] = Unit {0}
  Below base ints (c ∷ rest) = ((x : Tie) → In (table c.pc) x → (c.ints + (register_in x + 1) < base) × Holds x (λ k. ints (c.ints + k))) × (c.ints ≤ base) × Below c.ints ints rest

  kept_below : (base : ℕ) (ints ints2 : ℕ → ℤ) (frames : List Caller) → ((k : ℕ) → k < base → ints2 k ≡ ints k) → Below base ints frames → Below base ints2 frames
  unfolding Below
  kept_below base ints ints2 [] same h = tt
  kept_below base ints ints2 (c ∷ rest) same h =
      let low = h.1 in (
        (λ x y. let z = h.0 x y in let lt = z.0 in (z.0, still x (λ k. ints (c.ints + k)) (λ k. ints2 (c.ints + k)) (sym (same (c.ints + register_in x) (omega (arith, lt)))) (sym (same (c.ints + (register_in x + 1)) lt)) z.1)),
        h.1,
        kept_below c.ints ints ints2 rest (λ k lt. same k (omega (arith, lt, low))) h.2,
      )

  record IsTied (m : At) : Type 0 where
    holds : AllHold flat (table m.pc) m
    below : Below m.int_base m.ints m.frames

  -- ---- a turn

  -- no integer is written
  leaves : (m m2 : At) → m2.int_base ≡ m.int_base → m2.frames ≡ m.frames → ((k : ℕ) → m2.ints k ≡ m.ints k) → Fit (table m.pc) (table m2.pc) → IsTied m → IsTied m2
  leaves m m2 base frames same fit h = record {
    holds = λ x y. let r = register_in x in still x (λ k. m.ints (m.int_base + k)) (λ k. m2.ints (m2.int_base + k)) (sym (same (m2.int_base + r) ∙ ap (λ b. m.ints (b + r)) base)) (sym (same (m2.int_base + (r + 1)) ∙ ap (λ b. m.ints (b + (r + 1))) base)) (h.holds x (fit x y));
    below = subst (λ b. Below b m2.ints m2.frames) (sym base) (subst (Below m.int_base m2.ints) (sym frames) (kept_below m.int_base m.ints m2.ints m.frames (λ k lt. same k) h.below));
  }

  -- one is
  writes : (m m2 : At) (j : ℕ) → m2.int_base ≡ m.int_base → m2.frames ≡ m.frames → ((k : ℕ) → (k ≡ m.int_base + j → ⊥) → m2.ints k ≡ m.ints k)
      → ((x : Tie) → In (table m2.pc) x → (In (table m.pc) x × Apart j x) ⊎ Holds x (λ k. m2.ints (m.int_base + k))) → IsTied m → IsTied m2
  writes m m2 j base frames same known h = record {
    holds = λ x y. subst (λ b. Holds x (λ k. m2.ints (b + k))) (sym base) (⊎_elim (λ w. old x w) (λ w. w) (known x y));
    below = subst (λ b. Below b m2.ints m2.frames) (sym base) (subst (Below m.int_base m2.ints) (sym frames) (kept_below m.int_base m.ints m2.ints m.frames (λ k lt. same k (λ e. omega (arith, e, lt))) h.below));
  }
    where
      old : (x : Tie) → In (table m.pc) x × Apart j x → Holds x (λ k. m2.ints (m.int_base + k))
      old x w =
          let r = register_in x in
          still x (λ k. m.ints (m.int_base + k)) (λ k. m2.ints (m.int_base + k)) (sym (same (m.int_base + r) (λ e. w.1.first (let z : j ≡ r = omega (arith, e) in z)))) (sym (same (m.int_base + (r + 1)) (λ e. w.1.second (let z : j ≡ r + 1 = omega (arith, e) in z)))) (h.holds x w.0)

  keeps : (m m2 : At) (j : ℕ) → m2.int_base ≡ m.int_base → m2.frames ≡ m.frames → ((k : ℕ) → (k ≡ m.int_base + j → ⊥) → m2.ints k ≡ m.ints k) → Kept (table m.pc) j (table m2.pc) → IsTied m → IsTied m2
  keeps m m2 j base frames same known h = writes m m2 j base frames same (λ x y. inl (known x y)) h

  abbrev Tied : At → Turn → ℤ → Type 0
  Tied m t x = may_go t ≡ true → IsTied (after m t x)

  tried : (b : Bool) (m m2 : At) (x : ℤ) (trap : Trap) (spot : Spot) → IsTied m2 → Tied m (cond b (goes m2) (stops trap spot)) x
  tried true m m2 x trap spot h go = h
  tried false m m2 x trap spot h go = absurd (false≢true go)

  asked : (b : Bool) (m : At) (x : ℤ) (trap : Trap) (spot : Spot) (m2 : At) (site : Site) (act : Act) (held : ℤ) (f : ℤ → At → At) → IsTied (after m (asks m2 site act held f) x) → Tied m (cond b (stops trap spot) (asks m2 site act held f)) x
  asked true m x trap spot m2 site act held f h go = absurd (false≢true go)
  asked false m x trap spot m2 site act held f h go = h

  asserted : (b : Bool) (trap : Trap) (spot : Spot) (m : At) (x : ℤ) → Fit (table m.pc) (table (m.pc + 1)) → IsTied m → Tied m (asserts b trap spot m) x
  asserted b trap spot m x fit h = tried b m (next m) x trap spot (leaves m (next m) refl refl (λ k. refl) fit h)

  resulted : (i : ℕ) (spot : Spot) (m : At) (r : Result ℤ Trap) (x : ℤ) → Kept (table m.pc) i (table (m.pc + 1)) → IsTied m → Tied m (with_result i spot m r) x
  resulted i spot m (Ok v) x known h go = keeps m (next (set_int i v m)) i refl refl (λ k other. put_other m.ints (m.int_base + i) v k other) known h
  resulted i spot m (Err code) x known h go = absurd (false≢true go)

  -- an integer is set
  set_to : (i : ℕ) (v : ℤ) (m : At) → Kept (table m.pc) i (table (m.pc + 1)) → IsTied m → IsTied (next (set_int i v m))
  set_to i v m known h = keeps m (next (set_int i v m)) i refl refl (λ k other. put_other m.ints (m.int_base + i) v k other) known h

  copied_to : (i from : ℕ) (m : At) → Copied (table m.pc) i from (table (m.pc + 1)) → IsTied m → IsTied (next (set_int i (int m from) m))
  copied_to i from m known h =
      writes m (next (set_int i (int m from) m)) i refl refl (λ k other. put_other m.ints (m.int_base + i) (int m from) k other)
      (λ t y. ⊎_elim (λ w. inl w) (λ w. inr (subst (λ z. Holds z (λ k. put m.ints (m.int_base + i) (int m from) (m.int_base + k))) (sym w.0) (here w.1))) (known t y)) h
    where
      here : i ≡ from + 1 → put m.ints (m.int_base + i) (int m from) (m.int_base + (from + 1)) ≡ put m.ints (m.int_base + i) (int m from) (m.int_base + from)
      here e =
          let z : m.int_base + (from + 1) ≡ m.int_base + i = omega (arith, e) in
          ap (put m.ints (m.int_base + i) (int m from)) z ∙ put_same m.ints (m.int_base + i) (int m from) ∙ sym (put_other m.ints (m.int_base + i) (int m from) (m.int_base + from) (λ q. omega (arith, q, e)))

  -- an index
  indexed_to : (i cells n : ℕ) (m : At) (k : ℕ) → int m i ≡ pos k → Bounded (table m.pc) i cells n (table (m.pc + 1)) → IsTied m → IsTied (next (set_int i (pos (k * cells + n)) m))
  indexed_to i cells n m k is known h =
      writes m (next (set_int i v m)) i refl refl (λ q other. put_other m.ints (m.int_base + i) v q other) (λ t y. ⊎_elim (λ w. inl w) (λ w. inr (⊎_elim (λ z. first t z) (λ z. second t z) w)) (known t y)) h
    where
      v : ℤ
      v = pos (k * cells + n)

      first : (t : Tie) → IsFirst (table m.pc) i cells n t → Holds t (λ j. put m.ints (m.int_base + i) v (m.int_base + j))
      first t w =
          let c : m.ints (m.int_base + (i + 1)) ≡ m.ints (m.int_base + i) = h.holds (copied i) w.1 in
          subst (λ z. Holds z (λ j. put m.ints (m.int_base + i) v (m.int_base + j))) (sym w.0) (k, put_same m.ints (m.int_base + i) v, put_other m.ints (m.int_base + i) v (m.int_base + (i + 1)) (λ e. omega (arith, e)) ∙ c ∙ is)

      second : (t : Tie) → IsSecond (table m.pc) i cells n t → Holds t (λ j. put m.ints (m.int_base + i) v (m.int_base + j))
      second t w =
          let b = w.before in
          let at = w.after in
          let s = h.holds (scaled b cells w.field) w.known in
          let z : m.int_base + (b + 1) ≡ m.int_base + i = omega (arith, at) in
          let same : s.0 ≡ k = same_pos s.0 k (sym s.2 ∙ ap m.ints z ∙ is) in
          subst (λ y. Holds y (λ j. put m.ints (m.int_base + i) v (m.int_base + j))) (sym w.is) (
            k * cells,
            put_other m.ints (m.int_base + i) v (m.int_base + b) (λ e. omega (arith, e, at)) ∙ s.1 ∙ ap (λ q. pos (q * cells + w.field)) same,
            ap (put m.ints (m.int_base + i) v) z ∙ put_same m.ints (m.int_base + i) v,
          )

  bounded : (i cells n elements : ℕ) (spot : Spot) (m : At) (x : ℤ) (v : ℤ) → int m i ≡ v → Bounded (table m.pc) i cells n (table (m.pc + 1)) → IsTied m → Tied m (indexed i cells n v elements spot m) x
  bounded i cells n elements spot m x (negsuc k) is known h go = absurd (false≢true go)
  bounded i cells n elements spot m x (pos k) is known h go = tried (nat_lt k elements) m (next (set_int i (pos (k * cells + n)) m)) x Trap.IndexOutOfBounds spot (indexed_to i cells n m k is known h) go

  taken : (b : Bool) (r y : ℕ) (spot : Spot) (m : At) (x : ℤ) → Fit (table m.pc) (table (m.pc + 1)) → IsTied m → Tied m (takes_local r y spot m b) x
  taken true r y spot m x fit h go = leaves m (next (moved r y m)) refl refl (λ k. refl) fit h
  taken false r y spot m x fit h go = leaves m (after m (takes_local r y spot m false) x) refl refl (λ k. refl) fit h

  back : (frames : List Caller) (spot : Spot) (m : At) (x : ℤ) → Below m.int_base m.ints frames → IsTied m → Tied m (returned flat frames spot m) x
  unfolding Below
  back [] spot m x b h go =
      tried (not (nat_lt 0 (length (held_mutexes m.events)))) m (record m { pc = length flat.lines }) x Trap.ReturnWithLockHeld spot
      (record { holds = λ t y. absurd (subst (λ z. In z t) (last (length flat.lines) (omega arith)) y); below = h.below }) go
  back (c ∷ rest) spot m x b h go = record { holds = λ t y. (b.0 t y).1; below = b.2 }

  called_to : (f ints refs : ℕ) (m : At) → table (function_of flat f).entry ≡ [] → Called (table m.pc) ints (table (m.pc + 1)) → IsTied m → IsTied (called flat f ints refs m)
  unfolding Below
  called_to f ints refs m none known h = record {
    holds = λ t y. absurd (subst (λ z. In z t) none y);
    below = ((λ t y. let w = known t y in let lt = w.1 in (omega (arith, lt), h.holds t w.0)), omega arith, h.below);
  }

  skipped : (b : Bool) (k : ℕ) (m : At) → Fit (table m.pc) (table (m.pc + 1 + k)) × Fit (table m.pc) (table (m.pc + 1)) → IsTied m → IsTied (cond b (over_lines k m) (next m))
  skipped true k m n h = leaves m (over_lines k m) refl refl (λ k. refl) n.0 h
  skipped false k m n h = leaves m (next m) refl refl (λ k. refl) n.1 h

  op_tied : (o : Op) (m : At) → Next flat table m.pc (table m.pc) o → IsTied m → (x : ℤ) → Tied m (op_turn flat o m) x
  op_tied Op.Enter m n h x go = leaves m (next m) refl refl (λ k. refl) n h
  op_tied (Op.Constant i v) m n h x go = set_to i v m n h
  op_tied (Op.Move i from) m n h x go = copied_to i from m n h
  op_tied (Op.Compute width o i a b spot) m n h x go = resulted i spot m _ x n h go
  op_tied (Op.Negate width i a spot) m n h x go = resulted i spot m _ x n h go
  op_tied (Op.Complement i a) m n h x go = set_to i _ m n h
  op_tied (Op.IsFalse i a) m n h x go = set_to i _ m n h
  op_tied (Op.SameReference i a b) m n h x go = set_to i _ m n h
  op_tied (Op.ChkWidth width i spot) m n h x go = asserted _ _ spot m x n h go
  op_tied (Op.Skip k) m n h x go = leaves m (after m (op_turn flat (Op.Skip k) m) x) refl refl (λ k. refl) n h
  op_tied (Op.SkipIfZero i k) m n h x go = skipped (is_zero (int m i)) k m n h
  op_tied (Op.SkipIfNull r k) m n h x go = skipped (is_null (ref m r)) k m n h
  op_tied (Op.Jump to) m n h x go = leaves m (record m { pc = to }) refl refl (λ k. refl) n h
  op_tied (Op.Call f ints refs spot) m n h x go = tried (nat_lt (length m.frames) 255) m (called flat f ints refs m) x Trap.CallDepth spot (called_to f ints refs m n.0 n.1 h) go
  op_tied (Op.Return spot) m n h x go = back m.frames spot m x h.below h go
  op_tied Op.BlockEnd m n h x go = leaves m (next m) refl refl (λ k. refl) n h
  op_tied (Op.ChkNull r spot) m n h x go = asserted _ _ spot m x n h go
  op_tied (Op.ChkPositive i spot) m n h x go = asserted _ _ spot m x n h go
  op_tied (Op.ChkHeld cell spot) m n h x go = asserted _ _ spot m x n h go
  op_tied (Op.ChkNotHeld cell spot) m n h x go = asserted _ _ spot m x n h go
  op_tied (Op.ChkRoom spot) m n h x go = asserted _ _ spot m x n h go
  op_tied (Op.Bounds i r cells k spot) m n h x go = bounded i cells k (elements_of (ref m r)) spot m x (int m i) refl n h go
  op_tied (Op.GlobalBounds i elements cells k spot) m n h x go = bounded i cells k elements spot m x (int m i) refl n h go
  op_tied (Op.Load i cell spot) m n h x go = asked (lock_is_null m spot spot.mode) m x Trap.NullPointer spot m spot.site _ (pos 0) _ (keeps m _ i refl refl (λ k other. put_other m.ints (m.int_base + i) _ k other) n h) go
  op_tied (Op.Store i cell spot) m n h x go = asked (lock_is_null m spot spot.mode) m x Trap.NullPointer spot m spot.site _ (pos 0) _ (leaves m _ refl refl (λ k. refl) n h) go
  op_tied (Op.LoadRef r cell spot) m n h x go = asked (lock_is_null m spot spot.mode) m x Trap.NullPointer spot m spot.site _ (pos 0) _ (leaves m _ refl refl (λ k. refl) n h) go
  op_tied (Op.StoreRef r cell spot) m n h x go = asked (lock_is_null m spot spot.mode) m x Trap.NullPointer spot m spot.site _ (pos 0) _ (leaves m _ refl refl (λ k. refl) n h) go
  op_tied (Op.New r count cells spot) m n h x go = leaves m (after m (op_turn flat (Op.New r count cells spot) m) x) refl refl (λ k. refl) n h
  op_tied (Op.TakeCell r cell spot) m n h x go = asked (lock_is_null m spot spot.mode) m x Trap.NullPointer spot m spot.site _ (pos 0) _ (leaves m _ refl refl (λ k. refl) n h) go
  op_tied (Op.TakeLocal r y spot) m n h x go = taken (is_null (ref m y)) r y spot m x n h go
  op_tied (Op.Give r cells spot) m n h x go = leaves m (after m (op_turn flat (Op.Give r cells spot) m) x) refl refl (λ k. refl) n h
  op_tied (Op.Lock (Cell.Object r k) spot) m n h x go = leaves m (after m (op_turn flat (Op.Lock (Cell.Object r k) spot) m) x) refl refl (λ k. refl) n h
  op_tied (Op.Spawn i f (Register.Int j) spot) m n h x go = keeps m (after m (op_turn flat (Op.Spawn i f (Register.Int j) spot) m) x) i refl refl (λ k other. put_other m.ints (m.int_base + i) _ k other) n h
  op_tied (Op.Spawn i f (Register.Reference r) spot) m n h x go = keeps m (after m (op_turn flat (Op.Spawn i f (Register.Reference r) spot) m) x) i refl refl (λ k other. put_other m.ints (m.int_base + i) _ k other) n h
  op_tied j m n h x go = leaves m (after m (op_turn flat j m) x) refl refl (λ k. refl) n h

  -- ---- paths
  module _ (needs : (pc : ℕ) (o : Op) → slice_get flat.lines pc ≡ Some o → Needs flat table pc (table pc) o) where
    after_last : (m m2 : At) → m2.pc ≡ m.pc + 1 → m2.int_base ≡ m.int_base → m2.frames ≡ m.frames → ((k : ℕ) → m2.ints k ≡ m.ints k) → length flat.lines ≤ m.pc → IsTied m → IsTied m2
    after_last m m2 pc base frames same le h =
        let none : table m2.pc ≡ [] = ap table pc ∙ last (m.pc + 1) (omega (arith, le)) in
        leaves m m2 base frames same (λ t y. absurd (subst (λ z. In z t) none y)) h

    end_tied : (m : At) (k : ℕ) (x : ℤ) → length flat.lines ≤ m.pc → IsTied m → Tied m (end_turn flat m k) x
    end_tied m zero x le h go = after_last m (after m (end_turn flat m 0) x) refl refl refl (λ k. refl) le h
    end_tied m (suc zero) x le h go = after_last m (after m (end_turn flat m 1) x) refl refl refl (λ k. refl) le h
    end_tied m (suc (suc k)) x le h go = absurd (false≢true go)

    beyond : (lines : List Op) (n : ℕ) → slice_get lines n ≡ None → length lines ≤ n
    beyond [] n e = omega arith
    beyond (o ∷ rest) zero e = absurd (cc)
    beyond (o ∷ rest) (suc n) e = let z = beyond rest n e in omega (arith, z)

    line_tied : (m : At) (o : Option Op) (x : ℤ) → slice_get flat.lines m.pc ≡ o → IsTied m → Tied m (line_turn flat o m) x
    line_tied m None x e h = end_tied m (m.pc - length flat.lines) x (beyond flat.lines m.pc e) h
    line_tied m (Some o) x e h = op_tied o m (needs m.pc o e).next h x

    path_tied : (m : At) → IsTied m → (answers : List ℤ) → IsPath flat m answers → IsTied (at_after flat m answers)
    path_tied m h [] path = h
    path_tied m h (x ∷ earlier) path = let now = at_after flat m earlier in line_tied now (slice_get flat.lines now.pc) x refl (path_tied m h earlier path.0) path.1

    begun_tied : (f : ℕ) (v : ℤ) (p : Parameter) → IsTied (begun p v (first_at flat f))
    unfolding Below
    begun_tied f v Parameter.Int = record { holds = λ t y. absurd (subst (λ z. In z t) (begins f) y); below = tt }
    begun_tied f v _ = record { holds = λ t y. absurd (subst (λ z. In z t) (begins f) y); below = tt }

    pub locks_stand : LocksStand flat
    locks_stand f v known answers path o at = let m = at_after flat (start flat f v) answers in (needs m.pc o at).stands m (path_tied (start flat f v) (begun_tied f v (function_of flat f).parameter) answers path).holds
