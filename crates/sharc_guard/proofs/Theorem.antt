-- The paths of guarded code are those of flat code.
use Rattle.sharc_guard.proofs.{Imports.{Taken, is_positive, elements_of, is_zero, Replaced, held_mutexes, holds_mutex, holds, Private, Readonly, Racy, Dynamic, PlaceMode, Cell, Function, Parameter, Instr, Char, CellMode, Act, Site, CellAt, Trap, ◌≡◌, ◌≢◌, ℕ, ℤ, pos, suc, ◌+◌, ◌*◌, ◌<◌, ◌≤◌, ◌⊎◌, inl, inr, Bool, List, [], ◌∷◌, length, refl, sym, ap, ◌∙◌, subst, arith, ⊎_elim, cond, Result, Ok, Err, false, true, not, negsuc, nat_lt, cases_eq, slice_get_past, Op, Spot, Flat, At, Turn, goes, asks, halts, function_of, end_turn, line_turn, op_turn, turn, first_at, begun, start, Caller, indexed, asserts, with_result, takes_local, goes_on, stops, returned, called, set_int, int, ref, cell_at, cell_mode_of, lock_is_null, accesses, accessed, next, set_ref, gives_up, take_kind_of, at_after, Program, Thread, statement_at, with_parameter, fresh, started, thread_after, IsPath, weight_in, place, guarded, entered_at, own, body, tail, head, check_under, Takes, Level, IsLevel, Tells, IsSettling, AreLowered, OverwritesNone, Quietly, OnWay, IsReplaced, MatchesFlat, HasCome, LocksFrom, GuardedCounts, NeedsCheck, IsPassed, WasChecked, IsOf, false_true}, Gates.{Guards as GuardsOf, Passes, GivesNow}, Turning.IsOpenFor, Beside.beside, Ready.{Is, null_is, put_other, Ready}, Near.{IsLowering, Near, Ending, leaving, Follow, lands}, Phases.{Ahead, Stage, ahead, behind_it, leaves, Bound}, Steps.{statement_is, quiet_turn, Coming, landed, Was, PassedBy, LastPassed}, Ways.ways, Comes.{at_body, at_check, comes}, Placing.{entered_is, part_is}}
use Rattle.sharc_guard.specs.Machine as Form
use Rattle.sharc_guard.specs.Level.{IsEntry}

module _ (dropped : ℕ → Bool) (flat : Flat) (level : IsLevel flat) where
  abbrev pl : ℕ → ℕ
  pl = place dropped flat.lines

  abbrev p : Program
  p = guarded dropped flat

  told_check : (rest : Type 0) (m : At) (t : Turn) (a : Thread) (t2 : Form.Turn) → Passes dropped flat m rest t a t2 → Tells p t2 t
  told_check rest m t a (Form.Goes b) h = tt
  told_check rest m t a (Form.Checks c s b) h = h.2
  told_check rest m t a (Form.Halts o) h = h
  told_check rest m t a (Form.Asks s act g) h = absurd h

  told_follow : (rest : List Instr) (t : Turn) (t2 : Form.Turn) → Follow dropped flat level rest t t2 → Tells p t2 t
  told_follow rest (goes m) (Form.Goes a) h = tt
  told_follow rest (asks m s act held f) (Form.Asks s2 act2 g) h = (h.0, h.1)
  told_follow rest (halts o) (Form.Halts o2) h = h
  told_follow rest _ _ h = absurd h

  abbrev ClearBody : List Instr → Thread → Type 0
  ClearBody [] a = Unit {0}
  ClearBody (i ∷ is) a = OverwritesNone i a

  clear_body : (m : At) (q : ℕ) (low : List ℕ) → Ready flat level m → (s : ℕ) (o : Op) → Level flat level.owner level.gives level.slots m.pc (level.owner m.pc) (level.slots m.pc) o → ClearBody (own (body pl s o)) (beside pl m q (held_mutexes m.events) low)
  clear_body m q low rd s (Op.Compute Char o i a b spot) lv = tt
  clear_body m q low rd s (Op.Negate Char i a spot) lv = tt
  clear_body m q low rd s (Op.Null r) lv = subst (λ x. Is x (m.refs (m.ref_base + r))) lv.0 (rd.hold r)
  clear_body m q low rd s (Op.Local r x) lv = subst (λ x. Is x (m.refs (m.ref_base + r))) lv.0 (rd.hold r)
  clear_body m q low rd s (Op.MoveReference r from) (inl lv) = inl lv.0
  clear_body m q low rd s (Op.MoveReference r from) (inr lv) = inr (subst (λ x. Is x (m.refs (m.ref_base + r))) lv.0 (rd.hold r))
  clear_body m q low rd s (Op.New r count cells spot) lv = subst (λ x. Is x (m.refs (m.ref_base + r))) lv.0 (rd.hold r)
  clear_body m q low rd s (Op.TakeCell r cell spot) lv = subst (λ x. Is x (m.refs (m.ref_base + r))) lv.0 (rd.hold r)
  clear_body m q low rd s (Op.TakeLocal r x spot) lv = subst (λ x. Is x (m.refs (m.ref_base + r))) lv.0 (rd.hold r)
  clear_body m q low rd s (Op.Unlock r cell spot) lv = subst (λ x. Is x (m.refs (m.ref_base + r))) lv.0 (rd.hold r)
  clear_body m q low rd s _ lv = tt

  stand_ahead : (m : At) (a : Thread) (x : Ahead dropped flat level m a) (hs : List Instr) → x.hs ≡ hs → Tells p (Form.turn p a) (turn flat m) × OverwritesNone (statement_at p a.pc) a
  stand_ahead m a x [] e =
      let b = at_body dropped flat level m a x e in
      let c : ClearBody (own (body pl m.pc x.o)) a = subst (ClearBody (own (body pl m.pc x.o))) (sym x.is) (clear_body m a.pc x.low x.ready m.pc x.o (level.each m.pc x.o x.at)) in (
        subst (λ t. Tells p (Form.turn p a) t) (sym b.flat_turn) (subst (λ t. Tells p t (op_turn flat x.o m)) (sym b.guarded_turn) (told_follow (tail x.o) (op_turn flat x.o m) (Form.step p b.i a) b.follow)),
        subst (λ i. OverwritesNone i a) (sym b.statement) (subst (λ l. ClearBody l a) b.body_is c),
      )
  stand_ahead m a x (h ∷ hs) e =
      let k = at_check dropped flat level m a x h hs e in (
        subst (λ t. Tells p (Form.turn p a) t) (sym k.flat_turn) (subst (λ t. Tells p t (op_turn flat x.o m)) (sym k.guarded_turn) (told_check _ m (op_turn flat x.o m) a (Form.step p h a) k.passes)),
        subst (λ i. OverwritesNone i a) (sym k.statement) k.none,
      )

  leaving_told : (m : At) (a : Thread) (x : Ending dropped flat level m a) (n : ℕ) → x.steps ≡ n → Tells p (Form.exit p a (leaving n)) (end_turn flat m n)
  leaving_told m a x (suc (suc n)) e = refl
  leaving_told m a x _ e = (ap (λ n. (Form.function_at p n).site) x.function ∙ part_is dropped flat (λ (g : Function). g.site) (λ g. refl) m.function, refl)

  settling_flight : (m : At) (a : Thread) → Ready flat level m → (k : ℕ) → a.refs k ≢ pos 0 → (i : Instr) → statement_at p a.pc ≡ i → IsSettling i a m k → (IsLowering (i ∷ []) → (c : CellAt) × (m.given ≡ Replaced c ∷ []) × (a.lowered ≡ []))
      → IsReplaced p m a k ⊎ ((n : ℕ) (m2 : At) → Quietly flat n m m2 → OnWay (a.refs k) m m2)
  settling_flight m a rd k some (Instr.RaiseLoaded r) st z l = absurd (some z.1)
  settling_flight m a rd k some (Instr.Lower r) st z l = let c = l tt in inl (record { register = r; next = st; at = z.0; cell = c.0; given = c.1; none = c.2 })
  settling_flight m a rd k some (Instr.MoveReference r from) st z l = ⊎_elim
      (λ (h : (k ≡ a.refs_from + r) × (a.refs k ≡ pos 0) × (a.refs (a.refs_from + from) ≡ m.refs k)). absurd (some h.1))
      (λ (h : (k ≡ a.refs_from + from) × (m.refs k ≡ pos 0) × (a.refs k ≡ m.refs (a.refs_from + r))). inr (λ n m2 q. ways flat level n m m2 (inl rd) (a.refs_from + r) (a.refs k) (sym h.2) some q))
      z
  settling_flight m a rd k some _ st z l = absurd z

  stand : (m : At) (a : Thread) → Stage dropped flat level m a → MatchesFlat flat p m a
  stand m a (ahead x) =
      let s = stand_ahead m a x x.hs refl in
      record {
        events = ap (λ (b : Thread). b.events) x.is;
        function = ap (λ (b : Thread). b.function) x.is;
        tells = s.0;
        held = λ k. inl (ap (λ (b : Thread). b.refs k) x.is);
        lowered = inl (subst (AreLowered m.given) (sym (ap (λ (b : Thread). b.lowered) x.is)) x.lows);
        overwrites = s.1;
        flight = λ k some. inr (λ n m2 q. ways flat level n m m2 (inl x.ready) k (a.refs k) (sym (ap (λ (b : Thread). b.refs k) x.is)) some q);
      }
  stand m a (behind_it x) =
      let st = statement_is p.statements a.pc x.i x.has in
      let q = quiet_turn dropped flat level x.i a x.near.few in
      let t : Form.turn p a ≡ Form.Goes _ = ap (λ j. Form.step p j a) st ∙ q.0 in
      record {
        events = x.near.events;
        function = x.near.function;
        tells = subst (λ t. Tells p t (turn flat m)) (sym t) tt;
        held = λ k. ⊎_elim (λ (z : a.refs k ≡ m.refs k). inl z) (λ (z : IsSettling x.i a m k). inr (subst (λ i. IsSettling i a m k) (sym st) z)) (x.near.counted k);
        lowered = x.near.lowers;
        overwrites = subst (λ i. OverwritesNone i a) (sym st) x.near.clear;
        flight = λ k some. ⊎_elim
            (λ (z : a.refs k ≡ m.refs k). inr (λ n m2 q. ways flat level n m m2 (inl x.near.ready) k (a.refs k) (sym z) some q))
            (λ (z : IsSettling x.i a m k). settling_flight m a x.near.ready k some x.i st z x.near.replaced)
            (x.near.counted k);
      }
  stand m a (leaves x) =
      let gt : Form.turn p a ≡ Form.exit p a (leaving x.steps) = ap (λ q. Form.step p (statement_at p q) a) x.at_exit ∙ ap (Form.exit p a) x.phase_is in
      let ft : turn flat m ≡ end_turn flat m x.steps =
      ap (λ z. line_turn flat z m) (slice_get_past flat.lines m.pc (omega (arith, x.pc_is))) ∙ ap (end_turn flat m) (omega (arith, x.pc_is)) in
      record {
        events = x.events;
        function = x.function;
        tells = subst (λ t. Tells p (Form.turn p a) t) (sym ft) (subst (λ t. Tells p t (end_turn flat m x.steps)) (sym gt) (leaving_told m a x x.steps refl));
        held = λ k. inl (ap (λ r. r k) x.refs);
        lowered = inl x.lows;
        overwrites = subst (λ q. OverwritesNone (statement_at p q) a) (sym x.at_exit) tt;
        flight = λ k some. inr (λ n m2 q. ways flat level n m m2 (inr (let e = x.pc_is in omega arith)) k (a.refs k) (sym (ap (λ r. r k) x.refs)) some q);
      }

  -- ---- what needs a check
  abbrev NeedsTurn : Turn → Type 0
  NeedsTurn (asks m s act held f) = NeedsCheck act
  NeedsTurn _ = ⊥

  needs_cond : (b : Bool) (t t2 : Turn) → (NeedsTurn t → ⊥) → (NeedsTurn t2 → ⊥) → NeedsTurn (cond b t t2) → ⊥
  needs_cond true t t2 f g h = f h
  needs_cond false t t2 f g h = g h

  needs_result : (m : At) (i : ℕ) (spot : Spot) (z : Result ℤ Trap) → NeedsTurn (with_result i spot m z) → ⊥
  needs_result m i spot (Ok v) h = h
  needs_result m i spot (Err c) h = h

  needs_index : (m : At) (i cells field elements : ℕ) (spot : Spot) (z : ℤ) → NeedsTurn (indexed i cells field z elements spot m) → ⊥
  needs_index m i cells field elements spot (pos n) h = needs_cond (nat_lt n elements) (goes_on (set_int i (pos (n * cells + field)) m)) (stops Trap.IndexOutOfBounds spot) (λ z. z) (λ z. z) h
  needs_index m i cells field elements spot (negsuc n) h = h

  needs_assert : (m : At) (b : Bool) (trap : Trap) (spot : Spot) → NeedsTurn (asserts b trap spot m) → ⊥
  needs_assert m b trap spot h = needs_cond b (goes_on m) (stops trap spot) (λ z. z) (λ z. z) h

  needs_return : (m : At) (spot : Spot) (cs : List Caller) → NeedsTurn (returned flat cs spot m) → ⊥
  needs_return m spot [] h = needs_cond (not (nat_lt 0 (length (held_mutexes m.events)))) (goes (record m { pc = length flat.lines })) (stops Trap.ReturnWithLockHeld spot) (λ z. z) (λ z. z) h
  needs_return m spot (c ∷ rest) h = h

  needs_take : (m : At) (r x : ℕ) (spot : Spot) (b : Bool) → NeedsTurn (takes_local r x spot m b) → ⊥
  needs_take m r x spot true h = h
  needs_take m r x spot false h = h

  -- an access whose check is none, in such a mode, has a check that is dropped
  unchecked : (m : At) (chk : Instr) (d : Bool) (cell : Cell) (spot : Spot) (act : CellAt → CellMode → Act) (then_ : CellAt → ℤ → At → At) (s : ℕ) (pm : PlaceMode) → spot.mode ≡ pm
      → ((c : CellAt) → NeedsCheck (act c CellMode.Private) → ⊥) → ((c : CellAt) → NeedsCheck (act c CellMode.Readonly) → ⊥) → ((c : CellAt) → NeedsCheck (act c CellMode.Racy) → ⊥)
      → check_under d chk spot s pm ≡ [] → NeedsTurn (accesses flat.globals cell spot act then_ m) → d ≡ true
  unchecked m chk d cell spot act then_ s pm e n1 n2 n3 none h = by d pm e none (wanted (lock_is_null m spot spot.mode) h)
    where
      c : CellAt
      c = cell_at flat.globals m cell

      mode : CellMode
      mode = cell_mode_of flat.globals m c spot.mode

      wanted : (b : Bool) → NeedsTurn (cond b (stops Trap.NullPointer spot) (asks m spot.site (act c mode) (pos 0) (λ v n. accessed (next (then_ c v n))))) → NeedsCheck (act c mode)
      wanted true h = absurd h
      wanted false h = h

      in_mode : (pm : PlaceMode) → spot.mode ≡ pm → NeedsCheck (act c mode) → NeedsCheck (act c (cell_mode_of flat.globals m c pm))
      in_mode pm e h = subst (λ q. NeedsCheck (act c (cell_mode_of flat.globals m c q))) e h

      by : (d : Bool) (pm : PlaceMode) → spot.mode ≡ pm → check_under d chk spot s pm ≡ [] → NeedsCheck (act c mode) → d ≡ true
      by d Private e z h = absurd (n1 c (in_mode Private e h))
      by d Readonly e z h = absurd (n2 c (in_mode Readonly e h))
      by d Racy e z h = absurd (n3 c (in_mode Racy e h))
      by true Dynamic e z h = refl
      by _ _ e z h = absurd (cc)

  no_head : (m : At) (d : Bool) (s : ℕ) (o : Op) → head d s o ≡ [] → NeedsTurn (op_turn flat o m) → d ≡ true
  no_head m d s (Op.Compute w o i a b spot) e h = absurd (needs_result m i spot _ h)
  no_head m d s (Op.Negate w i a spot) e h = absurd (needs_result m i spot _ h)
  no_head m d s (Op.ChkWidth w i spot) e h = absurd (needs_assert m (holds w (int m i)) _ spot h)
  no_head m d s (Op.Call f i r spot) e h = absurd (needs_cond (nat_lt (length m.frames) 255) (goes (called flat f i r m)) (stops Trap.CallDepth spot) (λ z. z) (λ z. z) h)
  no_head m d s (Op.Return spot) e h = absurd (needs_return m spot m.frames h)
  no_head m d s (Op.ChkNull r spot) e h = absurd (needs_assert m (not (is_zero (ref m r))) _ spot h)
  no_head m d s (Op.ChkPositive i spot) e h = absurd (needs_assert m (is_positive (int m i)) _ spot h)
  no_head m d s (Op.ChkHeld cell spot) e h = absurd (needs_assert m (holds_mutex m.events (cell_at flat.globals m cell)) _ spot h)
  no_head m d s (Op.ChkNotHeld cell spot) e h = absurd (needs_assert m (not (holds_mutex m.events (cell_at flat.globals m cell))) _ spot h)
  no_head m d s (Op.ChkRoom spot) e h = absurd (needs_assert m (nat_lt (length (held_mutexes m.events)) 16) _ spot h)
  no_head m d s (Op.Bounds i r cells field spot) e h = absurd (needs_index m i cells field (elements_of (ref m r)) spot (int m i) h)
  no_head m d s (Op.GlobalBounds i elements cells field spot) e h = absurd (needs_index m i cells field elements spot (int m i) h)
  no_head m d s (Op.TakeLocal r x spot) e h = absurd (needs_take m r x spot (is_zero (ref m x)) h)
  no_head m d s (Op.Load i cell spot) e h = unchecked m (Instr.ChkRead cell s) d cell spot Act.Read (λ c v. set_int i v) s spot.mode refl (λ c z. z) (λ c z. z) (λ c z. z) e h
  no_head m d s (Op.Store i cell spot) e h = unchecked m (Instr.ChkWrite cell s) d cell spot (λ c mode. Act.Write c mode (int m i)) (λ c v n. n) s spot.mode refl (λ c z. z) (λ c z. z) (λ c z. z) e h
  no_head m d s (Op.LoadRef r cell spot) e h = false_true (unchecked m (Instr.ChkRead cell s) false cell spot Act.Read (λ c v. set_ref r v) s spot.mode refl (λ c z. z) (λ c z. z) (λ c z. z) e h)
  no_head m d s (Op.StoreRef r cell spot) e h = false_true (unchecked m (Instr.ChkWrite cell s) false cell spot (λ c mode. Act.Write c mode (ref m r)) (λ c v n. gives_up (Replaced c) (set_ref r (pos 0) n)) s spot.mode refl (λ c z. z) (λ c z. z) (λ c z. z) e h)
  no_head m d s (Op.TakeCell r cell spot) e h = false_true (unchecked m (Instr.ChkWrite cell s) false cell spot (λ c mode. Act.Take (Taken.Cell c mode) (take_kind_of spot.at)) (λ c v. set_ref r v) s spot.mode refl (λ c z. z) (λ c z. z) (λ c z. z) e h)
  no_head m d s _ e h = absurd h

  needs_told : (site : Site) (act : Act) (go : ℤ → Thread) (t : Turn) → Tells p (Form.Asks site act go) t → NeedsCheck act → NeedsTurn t
  needs_told site act go (asks m s2 act2 held f) h n = subst NeedsCheck h.1 n
  needs_told site act go _ h n = h

  passed_told : (m : At) (begun : Thread) (answers : List ℤ) (site : Site) (act : Act) (go : ℤ → Thread) (from : At) (locks : LocksFrom flat from) (t : Turn) → Tells p (Form.Asks site act go) t → NeedsCheck act → LastPassed dropped flat level from begun locks m answers t → WasChecked p begun answers act
  passed_told m begun [] site act go from locks t h n l = l
  passed_told m begun (x ∷ earlier) site act go from locks t h n l = by (Form.turn p (thread_after p begun earlier)) t h l
    where
      by : (t2 : Form.Turn) (t : Turn) → Tells p (Form.Asks site act go) t → PassedBy dropped flat level from begun locks m t t2 → IsPassed act t2
      by (Form.Checks check s b) (asks m3 s2 act2 held f) h l = subst (IsOf check) (sym h.1) l.1
      by (Form.Goes b) (asks m3 s2 act2 held f) h l = absurd (no_give act2 (subst NeedsCheck h.1 n) l)
        where
          no_give : (act2 : Act) → NeedsCheck act2 → GivesNow dropped flat m (asks m3 s2 act2 held f) → ⊥
          no_give (Act.Give v mode) n g = n
          no_give _ n g = g
      by (Form.Halts o) t h l = absurd l
      by (Form.Asks s2 act2 g) t h l = absurd l
      by _ _ h l = absurd h

  leaving_free : (m : At) (a : Thread) (n : ℕ) (site : Site) (act : Act) (go : ℤ → Thread) → Tells p (Form.Asks site act go) (end_turn flat m n) → NeedsCheck act → ⊥
  leaving_free m a (suc (suc k)) site act go h n = h
  leaving_free m a _ site act go h n = subst NeedsCheck h.1 n

  is_checked : (from : At) (begun : Thread) (locks : LocksFrom flat from) (answers ys : List ℤ) → let m = at_after flat from ys in let a = thread_after p begun answers in (s : Stage dropped flat level m a) → Was dropped flat level from begun locks m a s answers
      → (site : Site) (act : Act) (go : ℤ → Thread) → Form.turn p a ≡ Form.Asks site act go → NeedsCheck act → (dropped m.pc ≡ true) ⊎ WasChecked p begun answers act
  is_checked from begun locks answers ys (ahead y) was site act go e n = by y.hs refl
    where
      m : At
      m = at_after flat from ys

      a : Thread
      a = thread_after p begun answers

      by : (hs : List Instr) → y.hs ≡ hs → (dropped m.pc ≡ true) ⊎ WasChecked p begun answers act
      by [] eh =
          let b = at_body dropped flat level m a y eh in
          let told : Tells p (Form.turn p a) (op_turn flat y.o m) = subst (λ t. Tells p t (op_turn flat y.o m)) (sym b.guarded_turn) (told_follow (tail y.o) (op_turn flat y.o m) (Form.step p b.i a) b.follow) in
          let told2 : Tells p (Form.Asks site act go) (op_turn flat y.o m) = subst (λ t. Tells p t (op_turn flat y.o m)) e told in
          ⊎_elim
          (λ (z : head (dropped m.pc) m.pc y.o ≡ []). inl (no_head m (dropped m.pc) m.pc y.o z (needs_told site act go (op_turn flat y.o m) told2 n)))
          (λ (z : LastPassed dropped flat level from begun locks m answers (op_turn flat y.o m)). inr (passed_told m begun answers site act go from locks (op_turn flat y.o m) told2 n z))
          (was eh)
      by (h ∷ hs) eh =
          let k = at_check dropped flat level m a y h hs eh in
          let G = GuardsOf dropped flat m (IsOpenFor y.o m) (op_turn flat y.o m) hs in
          let z : Passes dropped flat m G (op_turn flat y.o m) a (Form.Asks site act go) = subst (Passes dropped flat m G (op_turn flat y.o m) a) (sym k.guarded_turn ∙ e) k.passes in absurd z
  is_checked from begun locks answers ys (behind_it x) was site act go e n =
      let a = thread_after p begun answers in
      let st = statement_is p.statements a.pc x.i x.has in
      let q = quiet_turn dropped flat level x.i a x.near.few in
      let z : Form.Goes _ ≡ Form.Asks site act go = sym (ap (λ j. Form.step p j a) st ∙ q.0) ∙ e in absurd (cc)
  is_checked from begun locks answers ys (leaves x) was site act go e n =
      let m = at_after flat from ys in
      let a = thread_after p begun answers in
      let s = stand m a (leaves x) in
      let ft : turn flat m ≡ end_turn flat m x.steps =
      ap (λ z. line_turn flat z m) (slice_get_past flat.lines m.pc (omega (arith, x.pc_is))) ∙ ap (end_turn flat m) (omega (arith, x.pc_is)) in
      absurd (leaving_free m a x.steps site act go (subst (Tells p (Form.Asks site act go)) ft (subst (λ t. Tells p t (turn flat m)) e s.tells)) n)

  -- ---- a thread's start
  module _ (f : ℕ) (v : ℤ) (known : f < length flat.functions) (locks : LocksFrom flat (start flat f v)) where
    abbrev F : Function
    F = function_of flat f

    entry : IsEntry flat level.owner level.gives level.slots f
    entry = level.entries f known

    abbrev begun_of : Function → Thread
    begun_of g = with_parameter (record (fresh p f) { pc = g.entry }) g.parameter v

    begins : (q : Parameter) → Takes flat level.owner level.gives level.slots (level.slots F.entry) q → Near dropped flat level (begun q v (first_at flat f)) (with_parameter (record (fresh p f) { pc = pl F.entry }) q v) []
    begins Parameter.None t = lands dropped flat level (first_at flat f) (pl F.entry) [] [] refl
        (record { inside = entry.inside; hold = λ k. null_is (level.slots F.entry k) (pos 0) refl; frames = tt }) refl tt
    begins Parameter.Int t = let m = begun Parameter.Int v (first_at flat f) in lands dropped flat level m (pl F.entry) [] [] refl
        (record { inside = entry.inside; hold = λ k. null_is (level.slots F.entry k) (pos 0) refl; frames = tt }) refl tt
    begins Parameter.Reference t = let m = begun Parameter.Reference v (first_at flat f) in lands dropped flat level m (pl F.entry) [] [] refl
        (record {
          inside = entry.inside;
          hold = λ k. let z : 0 + k ≡ k = omega arith in subst (λ n. Is (level.slots F.entry k) (m.refs n)) (sym z) (⊎_elim
              (λ (e : k ≡ 0). subst (λ n. Is (level.slots F.entry n) (m.refs n)) (sym e) (subst (λ x. Is x (m.refs 0)) (sym t) tt))
              (λ (ne : k ≡ 0 → ⊥). null_is (level.slots F.entry k) (m.refs k) (put_other (λ k. pos 0) 0 v k ne))
              (cases_eq k 0));
          frames = tt;
        }) refl tt

    first : Coming dropped flat level (start flat f v) (started p f v) locks []
    first =
        let same : started p f v ≡ begun_of (entered_at pl F) = ap begun_of (entered_is dropped flat f known) in
        landed dropped flat level (start flat f v) (started p f v) locks [] [] [] tt
        (subst (λ a. Near dropped flat level (start flat f v) a []) (sym same) (begins F.parameter entry.takes)) tt refl (omega arith) (omega arith)

    final_bound : (answers : List ℤ) (c : Coming dropped flat level (start flat f v) (started p f v) locks answers) (s : Stage dropped flat level (at_after flat (start flat f v) c.ys) (thread_after p (started p f v) answers))
        → Bound dropped flat level (at_after flat (start flat f v) c.ys) (thread_after p (started p f v) answers) s (weight_in p (started p f v) answers) (length c.ys) → weight_in p (started p f v) answers ≤ 4 * length c.ys + 4
    final_bound answers c (ahead x) b = omega arith
    final_bound answers c _ b = omega arith

    pub guards_one : (answers : List ℤ) → IsPath p (started p f v) answers → HasCome dropped flat p (start flat f v) (started p f v) answers
    guards_one answers path =
        let c = comes dropped flat level (start flat f v) (started p f v) locks first answers path in
        record {
          flat_answers = c.ys;
          path = c.path;
          stands = stand (at_after flat (start flat f v) c.ys) (thread_after p (started p f v) answers) c.stage;
          same_answers = c.same_answers;
          few = c.few;
          pace = final_bound answers c c.stage c.bound;
          checked = is_checked (start flat f v) (started p f v) locks answers c.ys c.stage c.was;
        }

pub guards : GuardedCounts
guards dropped flat level locks f v known answers path = guards_one dropped flat level f v known (locks f v known) answers path
