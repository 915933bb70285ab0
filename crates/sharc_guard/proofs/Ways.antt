-- What flat code holds stays held until it is given up.
use Rattle.sharc_guard.proofs.{Imports.{turn, fun_ext, ◌≡◌, ◌≢◌, ℕ, ℤ, pos, negsuc, zero, suc, ◌+◌, ◌-◌, ◌*◌, ◌≤◌, ◌⊎◌, inl, inr, Bool, true, false, not, List, [], ◌∷◌, ◌++◌, length, None, refl, sym, ap, ◌∙◌, subst, arith, cond, ⊎_elim, append-nil, append_assoc, Result, Ok, Err, cases_eq, slice_get_past, slice_get-get_or, slice_get, nat_lt, Act, CellAt, CellMode, Trap, Taken, Cell, computed, negated, holds, GivenUp, Released, Replaced, Emptied, is_zero, held_mutexes, holds_mutex, number_of, elements_of, is_positive, Op, Spot, Flat, Caller, At, Turn, goes, asks, put, int, ref, set_int, set_ref, popped, moved, settled, next, over_lines, goes_on, stops, asserts, with_result, cell_at, cell_mode_of, lock_is_null, accesses, accessed, gives_up, take_kind_of, indexed, takes_local, called, returned, end_turn, line_turn, op_turn, free, Slots, with_slot, with_moved, Enters, Leaves, Level, IsLevel, IsReleased, Quietly, OnWay}, Ready.{Is, Hold, put_at, put_other, Frames, Ready, enters, hold_as, slot_same, moved_same, keeps, puts, moves, null_here, call_ready, return_ready, is_free}}

released_left : (a b : List GivenUp) (n : ℕ) → IsReleased a n → IsReleased (a ++ b) n
released_left [] b n h = absurd h
released_left (Released g ∷ a) b n h = ⊎_elim inl (λ t. inr (released_left a b n t)) h
released_left (Replaced c ∷ a) b n h = released_left a b n h
released_left (Emptied g ∷ a) b n h = released_left a b n h

released_right : (a b : List GivenUp) (n : ℕ) → IsReleased b n → IsReleased (a ++ b) n
released_right [] b n h = h
released_right (Released g ∷ a) b n h = inr (released_right a b n h)
released_right (Replaced c ∷ a) b n h = released_right a b n h
released_right (Emptied g ∷ a) b n h = released_right a b n h

module _ (flat : Flat) (level : IsLevel flat) where
  -- after the last return, or still on its way
  abbrev pub Later : At → Type 0
  Later m = Ready flat level m ⊎ (length flat.lines ≤ m.pc)

  -- what was given up on the way, and where a reference is then
  record Way (v : ℤ) (m m2 : At) : Type 0 where
    more : List GivenUp
    given_is : m2.given ≡ m.given ++ more
    stays : v ≢ pos 0 → ((k : ℕ) × (m2.refs k ≡ v)) ⊎ IsReleased more (number_of v)

  -- after a turn that asks for nothing
  abbrev After : At → ℤ → Turn → Type 0
  After m v (goes m2) = Later m2 × Way v m m2
  After m v _ = Unit {0}

  module _ (m : At) (rd : Ready flat level m) (k : ℕ) (v : ℤ) (is : m.refs k ≡ v) where
    abbrev En2 : Slots → ℕ → Type 0
    En2 = Enters flat level.owner level.gives level.slots (level.owner m.pc)

    abbrev s : Slots
    s = level.slots m.pc

    same : (m2 : At) → m2.given ≡ m.given → (v ≢ pos 0 → m2.refs k ≡ m.refs k) → Way v m m2
    same m2 g r = record { more = []; given_is = g ∙ sym (append-nil m.given); stays = λ some. inl (k, r some ∙ is) }

    base : ℕ
    base = m.ref_base

    stays : (m2 : At) → En2 s m2.pc → m2.refs ≡ m.refs → m2.ref_base ≡ m.ref_base → m2.frames ≡ m.frames → m2.given ≡ m.given → Later m2 × Way v m m2
    stays m2 en e1 e2 e3 g = (inl (keeps flat level m rd m2 en e1 e2 e3), same m2 g (λ some. ap (λ r. r k) e1))

    -- the same registers, of which more is known
    known : (m2 : At) (s2 : Slots) → En2 s2 m2.pc → Hold s2 m.ref_base m.refs → m2.refs ≡ m.refs → m2.ref_base ≡ m.ref_base → m2.frames ≡ m.frames → m2.given ≡ m.given → Later m2 × Way v m m2
    known m2 s2 en h e1 e2 e3 g =
        (inl (enters flat level m m2 s2 rd.frames en (λ j. subst (λ rs. Is (s2 j) (rs (m.ref_base + j))) (sym e1) (h j)) (λ j lt. ap (λ r. r j) e1) e2 e3), same m2 g (λ some. ap (λ r. r k) e1))

    -- a register that is NULL gets another
    not_null : v ≢ pos 0 → (r : ℕ) → s r ≡ free → k ≢ m.ref_base + r
    not_null some r fr e = some (sym is ∙ ap m.refs e ∙ null_here flat level m rd r fr)

    goes_if : (b : Bool) (m1 m2 : At) → (b ≡ true → Later m1 × Way v m m1) → (b ≡ false → Later m2 × Way v m m2) → After m v (goes (cond b m1 m2))
    goes_if true m1 m2 f g = f refl
    goes_if false m1 m2 f g = g refl

    asserts_way : (b : Bool) (trap : Trap) (spot : Spot) → (b ≡ true → Later (next m) × Way v m (next m)) → After m v (asserts b trap spot m)
    asserts_way true trap spot f = f refl
    asserts_way false trap spot f = tt

    on : En2 s (m.pc + 1) → Later (next m) × Way v m (next m)
    on en = stays (next m) en refl refl refl refl

    int_way : (i : ℕ) (x : ℤ) → En2 s (m.pc + 1) → Later (next (set_int i x m)) × Way v m (next (set_int i x m))
    int_way i x en = stays (next (set_int i x m)) en refl refl refl refl

    result_way : (i : ℕ) (spot : Spot) (z : Result ℤ Trap) → En2 s (m.pc + 1) → After m v (with_result i spot m z)
    result_way i spot (Ok x) en = int_way i x en
    result_way i spot (Err c) en = tt

    index_way : (i cells field elements : ℕ) (spot : Spot) (z : ℤ) → En2 s (m.pc + 1) → After m v (indexed i cells field z elements spot m)
    index_way i cells field elements spot (pos n) en = each (nat_lt n elements)
      where
        each : (b : Bool) → After m v (cond b (goes_on (set_int i (pos (n * cells + field)) m)) (stops Trap.IndexOutOfBounds spot))
        each true = int_way i (pos (n * cells + field)) en
        each false = tt
    index_way i cells field elements spot (negsuc n) en = tt

    access_way : (cell : Cell) (spot : Spot) (act : CellAt → CellMode → Act) (then_ : CellAt → ℤ → At → At) → After m v (accesses flat.globals cell spot act then_ m)
    access_way cell spot act then_ = each (lock_is_null m spot spot.mode)
      where
        c : CellAt
        c = cell_at flat.globals m cell

        each : (b : Bool) → After m v (cond b (stops Trap.NullPointer spot) (asks m spot.site (act c (cell_mode_of flat.globals m c spot.mode)) (pos 0) (λ v n. accessed (next (then_ c v n)))))
        each true = tt
        each false = tt

    -- a reference goes from one register to a NULL one
    moved_way : v ≢ pos 0 → (r from : ℕ) → s r ≡ free → r ≢ from → (k2 : ℕ) × ((moved r from m).refs k2 ≡ v)
    moved_way some r from fr ne = ⊎_elim
        (λ (e : k ≡ m.ref_base + from). (m.ref_base + r, put_at (put m.refs (m.ref_base + from) (pos 0)) (m.ref_base + r) (m.ref_base + r) (m.refs (m.ref_base + from)) refl ∙ ap m.refs (sym e) ∙ is))
        (λ (n1 : k ≡ m.ref_base + from → ⊥). (k, put_other (put m.refs (m.ref_base + from) (pos 0)) (m.ref_base + r) (m.refs (m.ref_base + from)) k (not_null some r fr) ∙ put_other m.refs (m.ref_base + from) (pos 0) k n1 ∙ is))
        (cases_eq k (m.ref_base + from))

    settled_way : (x from : ℕ) → x ≢ from → Way v m (next (settled x from m))
    settled_way x from ne = record {
      more = Released (number_of (ref m x)) ∷ [];
      given_is = refl;
      stays = λ some. ⊎_elim
          (λ (e : k ≡ m.ref_base + x). inr (inl (ap number_of (ap m.refs (sym e) ∙ is))))
          (λ (n1 : k ≡ m.ref_base + x → ⊥). inl (⊎_elim
          (λ (e : k ≡ m.ref_base + from). (m.ref_base + x, put_at (put m.refs (m.ref_base + from) (pos 0)) (m.ref_base + x) (m.ref_base + x) (m.refs (m.ref_base + from)) refl ∙ ap m.refs (sym e) ∙ is))
          (λ (n2 : k ≡ m.ref_base + from → ⊥). (k, put_other (put m.refs (m.ref_base + from) (pos 0)) (m.ref_base + x) (m.refs (m.ref_base + from)) k n1 ∙ put_other m.refs (m.ref_base + from) (pos 0) k n2 ∙ is))
          (cases_eq k (m.ref_base + from))))
          (cases_eq k (m.ref_base + x));
    }

    takes_way : (r x : ℕ) (spot : Spot) (b : Bool) → s r ≡ free → r ≢ x → Enters flat level.owner level.gives level.slots (level.owner m.pc) (with_moved s r x) (m.pc + 1) → After m v (takes_local r x spot m b)
    takes_way r x spot true fr ne en = let m2 = next (moved r x m) in
        (inl (moves flat level m rd m2 r x en refl refl refl), record { more = []; given_is = sym (append-nil m.given); stays = λ some. inl (moved_way some r x fr ne) })
    takes_way r x spot false fr ne en = tt

    return_way : (spot : Spot) (cs : List Caller) → Frames flat level (level.owner m.pc) m.ref_base m.refs cs → Leaves flat level.owner level.gives level.slots (level.owner m.pc) s → After m v (returned flat cs spot m)
    return_way spot [] fr lv = each (nat_lt 0 (length (held_mutexes m.events)))
      where
        each : (b : Bool) → After m v (cond (not b) (goes (record m { pc = length flat.lines })) (stops Trap.ReturnWithLockHeld spot))
        each true = tt
        each false = (inr (omega arith), same (record m { pc = length flat.lines }) refl (λ some. refl))
    return_way spot (c ∷ rest) fr lv = let m2 = record m { pc = c.pc; int_base = c.ints; ref_base = c.refs; frames = rest } in (inl (return_ready flat level m rd c rest fr lv), same m2 refl (λ some. refl))

    way : (o : Op) → Level flat level.owner level.gives level.slots m.pc (level.owner m.pc) s o → After m v (op_turn flat o m)
    way Op.Enter lv = on lv
    way Op.BlockEnd lv = on lv
    way (Op.Constant i x) lv = int_way i x lv
    way (Op.Move i from) lv = int_way i (int m from) lv
    way (Op.Compute w o i a b spot) lv = result_way i spot (computed w o (int m a) (int m b)) lv.1
    way (Op.Negate w i a spot) lv = result_way i spot (negated w (int m a)) lv.1
    way (Op.Complement i a) lv = int_way i _ lv
    way (Op.IsFalse i a) lv = int_way i _ lv
    way (Op.SameReference i a b) lv = int_way i _ lv
    way (Op.ChkWidth w i spot) lv = asserts_way (holds w (int m i)) _ spot (λ t. on lv)
    way (Op.Skip n) lv = stays (over_lines n m) lv refl refl refl refl
    way (Op.SkipIfZero i n) lv = goes_if (is_zero (int m i)) (over_lines n m) (next m) (λ t. stays (over_lines n m) lv.0 refl refl refl refl) (λ t. on lv.1)
    way (Op.SkipIfNull r n) lv = goes_if (is_zero (ref m r)) (over_lines n m) (next m)
        (λ t. known (over_lines n m) (with_slot s r free) lv.0 (hold_as s m.ref_base m.refs r free (is_free flat level m rd r t) rd.hold) refl refl refl refl)
        (λ t. on lv.1)
    way (Op.Jump to) lv = stays (record m { pc = to }) lv refl refl refl refl
    way (Op.Call f i r spot) lv = each (nat_lt (length m.frames) 255)
      where
        each : (b : Bool) → After m v (cond b (goes (called flat f i r m)) (stops Trap.CallDepth spot))
        each true = (inl (call_ready flat level m rd f i r lv.0 lv.1), same (called flat f i r m) refl (λ some. refl))
        each false = tt
    way (Op.Return spot) lv = return_way spot m.frames rd.frames lv
    way (Op.Null r) lv = let m2 = next (set_ref r (pos 0) m) in
        (inl (puts flat level m rd m2 r free (pos 0) refl (null_enters r lv.0 lv.1) refl refl refl), same m2 refl (λ some. put_other m.refs (m.ref_base + r) (pos 0) k (not_null some r lv.0)))
      where
        null_enters : (r : ℕ) → s r ≡ free → En2 s (m.pc + 1) → En2 (with_slot s r free) (m.pc + 1)
        null_enters r fr en = subst (λ s2. En2 s2 (m.pc + 1)) (sym (fun_ext (λ j. slot_same s r j fr))) en
    way (Op.Local r x) lv = let m2 = next (set_ref r (ref m x) m) in
        (inl (puts flat level m rd m2 r (s x) (ref m x) (rd.hold x) lv.1 refl refl refl), same m2 refl (λ some. put_other m.refs (m.ref_base + r) (ref m x) k (not_null some r lv.0)))
    way (Op.MoveReference r from) lv = let m2 = next (moved r from m) in ⊎_elim
        (λ (z : (r ≡ from) × En2 s (m.pc + 1)).
        let e = moved_same m.refs (m.ref_base + r) (m.ref_base + from) (ap (λ n. m.ref_base + n) z.0) in
        (inl (keeps flat level m rd m2 z.1 e refl refl), same m2 refl (λ some. ap (λ b. b k) e)))
        (λ (z : (s r ≡ free) × (r ≢ from) × En2 (with_moved s r from) (m.pc + 1)).
        (inl (moves flat level m rd m2 r from z.2 refl refl refl), record { more = []; given_is = sym (append-nil m.given); stays = λ some. inl (moved_way some r from z.0 z.1) }))
        lv
    way (Op.Pop r) lv = let m2 = next (popped r m) in (
      inl (puts flat level m rd m2 r free (pos 0) refl lv refl refl refl),
      record {
        more = Released (number_of (ref m r)) ∷ [];
        given_is = refl;
        stays = λ some. ⊎_elim
            (λ (e : k ≡ m.ref_base + r). inr (inl (ap number_of (ap m.refs (sym e) ∙ is))))
            (λ (ne : k ≡ m.ref_base + r → ⊥). inl (k, put_other m.refs (m.ref_base + r) (pos 0) k ne ∙ is))
            (cases_eq k (m.ref_base + r));
      },
    )
    way (Op.Settle x from) lv = (inl (moves flat level m rd (next (settled x from m)) x from lv.1 refl refl refl), settled_way x from lv.0)
    way (Op.ChkNull r spot) lv = asserts_way (not (is_zero (ref m r))) _ spot (λ t. on lv)
    way (Op.ChkPositive i spot) lv = asserts_way (is_positive (int m i)) _ spot (λ t. on lv)
    way (Op.ChkHeld cell spot) lv = asserts_way (holds_mutex m.events (cell_at flat.globals m cell)) _ spot (λ t. on lv)
    way (Op.ChkNotHeld cell spot) lv = asserts_way (not (holds_mutex m.events (cell_at flat.globals m cell))) _ spot (λ t. on lv)
    way (Op.ChkRoom spot) lv = asserts_way (nat_lt (length (held_mutexes m.events)) 16) _ spot (λ t. on lv)
    way (Op.Bounds i r cells field spot) lv = index_way i cells field (elements_of (ref m r)) spot (int m i) lv
    way (Op.GlobalBounds i elements cells field spot) lv = index_way i cells field elements spot (int m i) lv
    way (Op.Load i cell spot) lv = access_way cell spot Act.Read (λ c v. set_int i v)
    way (Op.Store i cell spot) lv = access_way cell spot (λ c mode. Act.Write c mode (int m i)) (λ c v n. n)
    way (Op.LoadRef r cell spot) lv = access_way cell spot Act.Read (λ c v. set_ref r v)
    way (Op.StoreRef r cell spot) lv = access_way cell spot (λ c mode. Act.Write c mode (ref m r)) (λ c v n. gives_up (Replaced c) (set_ref r (pos 0) n))
    way (Op.TakeCell r cell spot) lv = access_way cell spot (λ c mode. Act.Take (Taken.Cell c mode) (take_kind_of spot.at)) (λ c v. set_ref r v)
    way (Op.TakeLocal r x spot) lv = takes_way r x spot (is_zero (ref m x)) lv.0 lv.1 lv.2
    way _ lv = tt

  -- ---- any number of turns
  -- no turn after the last return asks for nothing
  no_end : (m mid : At) (n : ℕ) → end_turn flat m n ≡ goes mid → ⊥
  no_end m mid (suc (suc n)) e = absurd (cc)
  no_end m mid _ e = absurd (cc)

  one_turn : (m mid : At) → Later m → turn flat m ≡ goes mid → (k : ℕ) (v : ℤ) → m.refs k ≡ v → Later mid × Way v m mid
  one_turn m mid (inr e) t k v is =
      let at : slice_get flat.lines m.pc ≡ None = slice_get_past flat.lines m.pc (omega arith) in
      absurd (no_end m mid (m.pc - length flat.lines) (sym (ap (λ o. line_turn flat o m) at) ∙ t))
  one_turn m mid (inl rd) t k v is =
      let at = slice_get-get_or flat.lines m.pc Op.Enter rd.inside in
      subst (After m v) (sym (ap (λ o. line_turn flat o m) at) ∙ t) (way m rd k v is _ (level.each m.pc _ at))

  -- what was given up stays so
  grown : (n : ℕ) (m m2 : At) → Later m → Quietly flat n m m2 → (more : List GivenUp) × (m2.given ≡ m.given ++ more)
  grown zero m m2 l q = ([], ap (λ (z : At). z.given) (sym q) ∙ sym (append-nil m.given))
  grown (suc n) m m2 l q =
      let a = one_turn m q.0 l q.1 0 (m.refs 0) refl in
      let w = a.1 in
      let r = grown n q.0 m2 a.0 q.2 in
      (w.more ++ r.0, r.1 ∙ ap (λ l. l ++ r.0) w.given_is ∙ append_assoc m.given w.more r.0)

  pub ways : (n : ℕ) (m m2 : At) → Later m → (k : ℕ) (v : ℤ) → m.refs k ≡ v → v ≢ pos 0 → Quietly flat n m m2 → OnWay v m m2
  ways zero m m2 l k v is some q = record { more = []; given_is = ap (λ (z : At). z.given) (sym q) ∙ sym (append-nil m.given); stays = inl (k, ap (λ (z : At). z.refs k) (sym q) ∙ is) }
  ways (suc n) m m2 l k v is some q =
      let mid = q.0 in
      let a = one_turn m mid l q.1 k v is in
      let w = a.1 in
      each mid a.0 w (w.stays some) (grown n mid m2 a.0 q.2) (λ k2 e. ways n mid m2 a.0 k2 v e some q.2)
    where
      each : (mid : At) → Later mid → (w : Way v m mid) → ((k : ℕ) × (mid.refs k ≡ v)) ⊎ IsReleased w.more (number_of v) → (more : List GivenUp) × (m2.given ≡ mid.given ++ more) → ((k : ℕ) → mid.refs k ≡ v → OnWay v mid m2) → OnWay v m m2
      each mid l w (inl h) g f = let r = f h.0 h.1 in record {
        more = w.more ++ r.more;
        given_is = r.given_is ∙ ap (λ l. l ++ r.more) w.given_is ∙ append_assoc m.given w.more r.more;
        stays = ⊎_elim inl (λ t. inr (released_right w.more r.more (number_of v) t)) r.stays;
      }
      each mid l w (inr h) g f = record {
        more = w.more ++ g.0;
        given_is = g.1 ∙ ap (λ l. l ++ g.0) w.given_is ∙ append_assoc m.given w.more g.0;
        stays = inr (released_left w.more g.0 (number_of v) h);
      }
