-- Where guarded code is, beside flat code.
use Rattle.sharc_guard.proofs.{Imports.{◌≡◌, ℕ, ℤ, pos, zero, suc, ◌+◌, ◌*◌, ◌<◌, ◌≤◌, ◌⊎◌, inl, inr, Bool, true, false, List, [], ◌∷◌, ◌++◌, length, Some, refl, sym, ap, ◌∙◌, subst, arith, ⊎_elim, append-nil, slice_get-get_or, slice_get, PlaceMode, Dynamic, Instr, Char, held_mutexes, Op, Spot, Flat, At, goes, next, line_turn, op_turn, turn, may_go, at_after, IsFlatPath, asked_by, asked, Program, Thread, weight, place, guarded, check_under, head, own, body, tail, Enters, Level, IsLevel, is_enter, moves, AreLowered, LockStands}, Placing.HasAt, Places.{pieces, stands, place_next, place_of}, Walking.IsIdle, Turns.behind, Beside.beside, Ready.{Ready, enters}, Near.{IsQuiet, SettlingBy, Near, Ending}, Turning.IsOpenFor, Gates.{Guards, heads}}

-- it does not only enter an expression
abbrev pub IsMoving : Op → Type 0
IsMoving Op.Enter = ⊥
IsMoving Op.BlockEnd = ⊥
IsMoving _ = Unit {0}

-- ---- turns of one statement
abbrev pub weight_all : List Instr → ℕ
weight_all [] = 0
weight_all (i ∷ is) = weight i

few_checks : (chk : Instr) (spot : Spot) (d : Bool) (pm : PlaceMode) (s : ℕ) → length (check_under d chk spot s pm) ≤ 1
few_checks chk spot true Dynamic s = omega arith
few_checks chk spot false Dynamic s = omega arith
few_checks chk spot d _ s = omega arith

pub few_turns : (pl : ℕ → ℕ) (s : ℕ) (d : Bool) (o : Op) → length (head d s o) + (weight_all (own (body pl s o)) + length (tail o)) ≤ 4
few_turns pl s d (Op.Compute Char o i a b spot) = omega arith
few_turns pl s d (Op.Negate Char i a spot) = omega arith
few_turns pl s d (Op.Load i cell spot) = let f = few_checks (Instr.ChkRead cell s) spot d spot.mode s in omega arith
few_turns pl s d (Op.Store i cell spot) = let f = few_checks (Instr.ChkWrite cell s) spot d spot.mode s in omega arith
few_turns pl s d (Op.LoadRef r cell spot) = let f = few_checks (Instr.ChkRead cell s) spot false spot.mode s in omega arith
few_turns pl s d (Op.StoreRef r cell spot) = let f = few_checks (Instr.ChkWrite cell s) spot false spot.mode s in omega arith
few_turns pl s d (Op.TakeCell r cell spot) = let f = few_checks (Instr.ChkWrite cell s) spot false spot.mode s in omega arith
few_turns pl s d _ = omega arith

settling_next : (m : At) (a : Thread) (k : ℕ) (rest : List Instr) → IsQuiet rest → SettlingBy rest a m k → SettlingBy rest a (next m) k
settling_next m a k [] q h = h
settling_next m a k (Instr.RaiseLoaded r ∷ is) q h = h
settling_next m a k (Instr.Lower r ∷ is) q h = h
settling_next m a k (Instr.MoveReference r from ∷ is) q h = h
settling_next m a k (_ ∷ is) q h = absurd q

module _ (dropped : ℕ → Bool) (flat : Flat) (level : IsLevel flat) where
  abbrev pl : ℕ → ℕ
  pl = place dropped flat.lines

  abbrev p : Program
  p = guarded dropped flat

  -- its own statement is yet to come, after these
  pub record Ahead (m : At) (a : Thread) : Type 0 where
    pub ready : Ready flat level m
    pub o : Op
    pub at : slice_get flat.lines m.pc ≡ Some o
    pub moving : IsMoving o
    pub hs : List Instr
    pub guards : Guards dropped flat m (IsOpenFor o m) (op_turn flat o m) hs
    pub few : length hs + (weight_all (own (body pl m.pc o)) + length (tail o)) ≤ 4
    pub has : HasAt p.statements a.pc (hs ++ (own (body pl m.pc o) ++ tail o))
    pub to : a.pc + length (hs ++ (own (body pl m.pc o) ++ tail o)) ≡ pl (m.pc + 1)
    pub low : List ℕ
    pub lows : AreLowered m.given low
    pub is : a ≡ beside pl m a.pc (held_mutexes m.events) low

  -- it was made, and what settles the counts is yet to come
  pub record Behind (m : At) (a : Thread) : Type 0 where
    pub i : Instr
    pub near : Near dropped flat level m a (i ∷ [])
    pub has : slice_get p.statements a.pc ≡ Some i
    pub o : Op
    pub at : slice_get flat.lines m.pc ≡ Some o
    pub moving : IsMoving o

  pub data Stage (m : At) (a : Thread) : Type 0 where
    ahead : Ahead m a → Stage m a
    behind_it : Behind m a → Stage m a
    leaves : Ending dropped flat level m a → Stage m a

  -- how many counted turns are still to come for turns that flat code has made, less those that came ahead
  abbrev pub Bound : (m : At) (a : Thread) → Stage m a → ℕ → ℕ → Type 0
  Bound m a (ahead x) turns steps = turns + (length x.hs + (weight_all (own (body pl m.pc x.o)) + length (tail x.o))) ≤ 4 * steps + 4
  Bound m a (behind_it x) turns steps = turns + 1 ≤ 4 * steps
  Bound m a (leaves x) turns steps = turns ≤ 4 * steps

  -- the first of a statement's
  abbrev pub opens : (m : At) (a : Thread) → Near dropped flat level m a [] → (o : Op) → slice_get flat.lines m.pc ≡ Some o → IsMoving o → LockStands flat m o → Ahead m a
  opens m a n o at mv lk =
      let pc : a.pc ≡ pl m.pc = omega (arith, n.pc_is) in
      record {
        ready = n.ready;
        o = o;
        at = at;
        moving = mv;
        hs = head (dropped m.pc) m.pc o;
        guards = heads dropped flat m (dropped m.pc) o lk (λ spot e. place_of dropped flat m.pc o spot at e);
        few = few_turns pl m.pc (dropped m.pc) o;
        has = subst (λ q. HasAt p.statements q (pieces pl (dropped m.pc) m.pc o)) (sym pc) (stands dropped flat m.pc o at);
        to = ap (λ q. q + length (pieces pl (dropped m.pc) m.pc o)) pc ∙ sym (place_next dropped flat m.pc o at);
        low = n.low;
        lows = n.lows;
        is = n.is ∙ ap (λ q. beside pl m q (held_mutexes m.events) n.low) (sym pc);
      }

  -- ---- over what only enters an expression
  idle_length : (q : ℕ) (d : Bool) (o : Op) → IsIdle o → length (pieces pl d q o) ≡ 0
  idle_length q d Op.Enter h = refl
  idle_length q d Op.BlockEnd h = refl
  idle_length q d _ h = absurd h

  idle_enters : (q : ℕ) (o : Op) → IsIdle o → Level flat level.owner level.gives level.slots q (level.owner q) (level.slots q) o → Enters flat level.owner level.gives level.slots (level.owner q) (level.slots q) (q + 1)
  idle_enters q Op.Enter h l = l
  idle_enters q Op.BlockEnd h l = l
  idle_enters q _ h l = absurd h

  idle_turn : (m : At) (o : Op) → IsIdle o → op_turn flat o m ≡ goes (next m)
  idle_turn m Op.Enter h = refl
  idle_turn m Op.BlockEnd h = refl
  idle_turn m _ h = absurd h

  idle_enter : (o : Op) → IsIdle o → is_enter (Some o) ≡ 0
  idle_enter Op.Enter h = refl
  idle_enter Op.BlockEnd h = refl
  idle_enter _ h = absurd h

  entered : (m : At) (a : Thread) (rest : List Instr) (o : Op) → IsIdle o → Near dropped flat level m a rest → slice_get flat.lines m.pc ≡ Some o → Near dropped flat level (next m) a rest
  entered m a rest o idle n at =
      let en = idle_enters m.pc o idle (level.each m.pc o at) in
      let none = idle_length m.pc (dropped m.pc) o idle in
      let same : pl (m.pc + 1) ≡ pl m.pc = place_next dropped flat m.pc o at ∙ ap (λ n. pl m.pc + n) none ∙ omega arith in
      record {
        ready = enters flat level m (next m) (level.slots m.pc) n.ready.frames en n.ready.hold (λ k lt. refl) refl refl;
        few = n.few;
        pc_is = n.pc_is ∙ sym same;
        low = n.low;
        is = n.is ∙ ap (λ q. beside pl m q (held_mutexes m.events) n.low) (sym same);
        lows = n.lows;
        events = n.events;
        function = n.function;
        counted = λ k. ⊎_elim (λ (z : a.refs k ≡ m.refs k). inl z) (λ (z : SettlingBy rest a m k). inr (settling_next m a k rest n.few z)) (n.counted k);
        lowers = n.lowers;
        clear = n.clear;
        replaced = n.replaced;
      }

  -- further flat turns that enter expressions alone
  pub record Entered (from : At) (a : Thread) (rest : List Instr) (zs : List ℤ) : Type 0 where
    pub ys : List ℤ
    pub path : IsFlatPath flat from ys
    pub near : Near dropped flat level (at_after flat from ys) a rest
    pub o : Op
    pub at : slice_get flat.lines (at_after flat from ys).pc ≡ Some o
    pub moving : IsMoving o
    pub same_answers : asked flat from ys ≡ asked flat from zs
    pub same_moves : moves flat from ys ≡ moves flat from zs
    pub more : length zs ≤ length ys

  line_at : (pc : ℕ) → pc < length flat.lines → (o : Op) × (slice_get flat.lines pc ≡ Some o)
  line_at pc lt = (_, slice_get-get_or flat.lines pc Op.Enter lt)

  is_entering : (o : Op) → IsIdle o ⊎ IsMoving o
  is_entering Op.Enter = inl tt
  is_entering Op.BlockEnd = inl tt
  is_entering _ = inr tt

  pub enters_all : (n : ℕ) (from : At) (a : Thread) (rest : List Instr) (zs : List ℤ) → IsFlatPath flat from zs → Near dropped flat level (at_after flat from zs) a rest → length flat.lines ≤ (at_after flat from zs).pc + n → Entered from a rest zs
  enters_all zero from a rest zs path near le = let lt = near.ready.inside in absurd (omega arith)
  enters_all (suc n) from a rest zs path near le =
      let m = at_after flat from zs in
      let l = line_at m.pc near.ready.inside in
      ⊎_elim
      (λ (e : IsIdle l.0).
      let at : slice_get flat.lines m.pc ≡ Some l.0 = l.1 in
      let t : turn flat m ≡ goes (next m) = ap (λ x. line_turn flat x m) at ∙ idle_turn m l.0 e in
      let now : at_after flat from (pos 0 ∷ zs) ≡ next m = ap (λ t. behind t m (pos 0)) t in
      let near2 : Near dropped flat level (at_after flat from (pos 0 ∷ zs)) a rest = subst (λ m. Near dropped flat level m a rest) (sym now) (entered m a rest l.0 e near at) in
      let pc2 : (at_after flat from (pos 0 ∷ zs)).pc ≡ m.pc + 1 = ap (λ (z : At). z.pc) now in
      let r = enters_all n from a rest (pos 0 ∷ zs) (path, ap may_go t) near2 (omega arith) in
      record {
        ys = r.ys;
        path = r.path;
        near = r.near;
        o = r.o;
        at = r.at;
        moving = r.moving;
        same_answers = r.same_answers ∙ ap (λ t. asked flat from zs ++ asked_by t (pos 0)) t ∙ append-nil (asked flat from zs);
        same_moves = r.same_moves ∙ ap (λ x. moves flat from zs + is_enter x) at ∙ ap (λ x. moves flat from zs + x) (idle_enter l.0 e) ∙ omega arith;
        more = let z = r.more in omega arith;
      })
      (λ (mv : IsMoving l.0). record { ys = zs; path = path; near = near; o = l.0; at = l.1; moving = mv; same_answers = refl; same_moves = refl; more = omega arith })
      (is_entering l.0)
