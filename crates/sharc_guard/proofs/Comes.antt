-- Flat code comes to wherever guarded code comes.
use Rattle.sharc_guard.proofs.{Imports.{Function, ◌≡◌, ℕ, ℤ, pos, zero, suc, ◌+◌, ◌*◌, ◌≤◌, ◌⊎◌, Bool, true, List, [], ◌∷◌, ◌++◌, length, None, refl, sym, ap, ◌∙◌, subst, arith, append-nil, inr, slice_get_past, slice_get, Act, Instr, held_mutexes, event_of, answer_of, Op, Flat, At, Turn, asks, next, function_of, end_turn, line_turn, op_turn, turn, with_event, may_go, at_after, asked_by, asked, Program, Thread, Phase, Leaving, Left, statement_at, thread_after, IsPath, weight, weight_in, place, guarded, own, body, tail, IsLevel, guarded_asked_by, guarded_asked, is_enter, OverwritesNone, LocksFrom}, Placing.HasAt, Turns.behind, Places.place_of, Beside.beside, Near.{quiet, leaving, Near, Ending, Follow, lands}, Turning.{IsOpenFor, FollowsBy, follows}, Gates.{Passes, GivesNow, Guards}, Phases.{weight_all, Ahead, Behind, Stage, ahead, behind_it, leaves, Bound}, Steps.{statement_is, one_body, StraightBy, straight, quiet_turn, Coming, Was, PassedBy, landed, own_turn}, Placing.{part_is}}
use Rattle.sharc_guard.specs.Machine as Form
use Rattle.sharc_guard.specs.Path as Path

-- at a statement's own turn
pub record Own (o : Op) (is : List Instr) : Type 0 where
  pub i : Instr
  pub is_one : is ≡ i ∷ []

module _ (dropped : ℕ → Bool) (flat : Flat) (level : IsLevel flat) where
  abbrev pl : ℕ → ℕ
  pl = place dropped flat.lines

  abbrev p : Program
  p = guarded dropped flat

  abbrev A : At → Thread → Type 0
  A = Ahead dropped flat level

  -- after the checks: the statement, and what both make of it
  pub record AtBody (m : At) (a : Thread) (o : Op) : Type 0 where
    pub i : Instr
    pub body_is : own (body pl m.pc o) ≡ i ∷ []
    pub statement : statement_at p a.pc ≡ i
    pub has : HasAt p.statements (a.pc + 1) (tail o)
    pub guarded_turn : Form.turn p a ≡ Form.step p i a
    pub flat_turn : turn flat m ≡ op_turn flat o m
    pub follow : Follow dropped flat level (tail o) (op_turn flat o m) (Form.step p i a)

  pub at_body : (m : At) (a : Thread) (x : A m a) → x.hs ≡ [] → AtBody m a x.o
  at_body m a x none =
      let s = m.pc in
      let b = one_body pl m.pc x.o x.moving in
      let i = b.0 in
      let has : HasAt p.statements a.pc (i ∷ tail x.o) =
      subst (λ l. HasAt p.statements a.pc (l ++ tail x.o)) b.1 (subst (λ hs. HasAt p.statements a.pc (hs ++ (own (body pl m.pc x.o) ++ tail x.o))) none x.has) in
      let st = statement_is p.statements a.pc i has.0 in
      let way : IsOpenFor x.o m = subst (Guards dropped flat m (IsOpenFor x.o m) (op_turn flat x.o m)) none x.guards in
      let to : a.pc + length (i ∷ tail x.o) ≡ pl (m.pc + 1) =
      subst (λ l. a.pc + length (l ++ tail x.o) ≡ pl (m.pc + 1)) b.1 (subst (λ hs. a.pc + length (hs ++ (own (body pl m.pc x.o) ++ tail x.o)) ≡ pl (m.pc + 1)) none x.to) in
      let to2 : a.pc + (1 + length (tail x.o)) ≡ pl (m.pc + 1) = omega arith in
      let main : FollowsBy dropped flat level m a.pc x.low x.lows x.ready x.o (own (body pl m.pc x.o)) =
      follows dropped flat level m a.pc x.low x.lows x.ready x.o (level.each m.pc x.o x.at) (λ spot e. place_of dropped flat m.pc x.o spot x.at e) way to2 in
      let main2 : FollowsBy dropped flat level m a.pc x.low x.lows x.ready x.o (i ∷ []) = subst (FollowsBy dropped flat level m a.pc x.low x.lows x.ready x.o) b.1 main in
      record {
        i = i;
        body_is = b.1;
        statement = st;
        has = has.1;
        guarded_turn = ap (λ j. Form.step p j a) st;
        flat_turn = ap (λ y. line_turn flat y m) x.at;
        follow = subst (λ a. Follow dropped flat level (tail x.o) (op_turn flat x.o m) (Form.step p i a)) (sym x.is) main2;
      }

  -- at a check
  pub record AtCheck (m : At) (a : Thread) (x : A m a) (h : Instr) (hs : List Instr) : Type 0 where
    pub statement : statement_at p a.pc ≡ h
    pub guarded_turn : Form.turn p a ≡ Form.step p h a
    pub one : weight h ≡ 1
    pub none : OverwritesNone h a
    pub loud : (b : Thread) → Form.step p h a ≡ Form.Goes b → GivesNow dropped flat m (op_turn flat x.o m)
    pub passes : Passes dropped flat m (Guards dropped flat m (IsOpenFor x.o m) (op_turn flat x.o m) hs) (op_turn flat x.o m) a (Form.step p h a)
    pub flat_turn : turn flat m ≡ op_turn flat x.o m
    pub has : HasAt p.statements (a.pc + 1) (hs ++ (own (body pl m.pc x.o) ++ tail x.o))
    pub to : a.pc + 1 + length (hs ++ (own (body pl m.pc x.o) ++ tail x.o)) ≡ pl (m.pc + 1)

  pub at_check : (m : At) (a : Thread) (x : A m a) (h : Instr) (hs : List Instr) → x.hs ≡ h ∷ hs → AtCheck m a x h hs
  at_check m a x h hs e =
      let s = m.pc in
      let rest = own (body pl m.pc x.o) ++ tail x.o in
      let has : HasAt p.statements a.pc (h ∷ (hs ++ rest)) = subst (λ l. HasAt p.statements a.pc (l ++ rest)) e x.has in
      let g : Guards dropped flat m (IsOpenFor x.o m) (op_turn flat x.o m) (h ∷ hs) = subst (Guards dropped flat m (IsOpenFor x.o m) (op_turn flat x.o m)) e x.guards in
      let st = statement_is p.statements a.pc h has.0 in
      let to : a.pc + length (h ∷ (hs ++ rest)) ≡ pl (m.pc + 1) = subst (λ l. a.pc + length (l ++ rest) ≡ pl (m.pc + 1)) e x.to in
      record {
        statement = st;
        guarded_turn = ap (λ j. Form.step p j a) st;
        one = g.0;
        none = g.1 a;
        loud = λ b e. g.2 a b e;
        passes = subst (λ a. Passes dropped flat m (Guards dropped flat m (IsOpenFor x.o m) (op_turn flat x.o m) hs) (op_turn flat x.o m) a (Form.step p h a)) (sym x.is) (g.3 a.pc x.low);
        flat_turn = ap (λ y. line_turn flat y m) x.at;
        has = has.1;
        to = omega arith;
      }

  -- a turn that leads on
  pub passed : (rest : Type 0) (t : Turn) (a : Thread) (t2 : Form.Turn) (x : ℤ) → Passes dropped flat (record { pc = 0; int_base = 0; ref_base = 0; ints = λ k. pos 0; refs = λ k. pos 0; frames = []; pending = pos 0; function = 0; events = []; given = [] }) rest t a t2 → Path.may_go t2 ≡ true
      → (Path.after a t2 x ≡ Form.next a) × rest × (guarded_asked_by t2 x ≡ [])
  passed rest t a (Form.Halts o) x h go = absurd (cc)
  passed rest t a (Form.Asks site act g) x h go = absurd h
  passed rest t a _ x h go = (h.0, h.1, refl)

  module _ (from : At) (begun : Thread) (locks : LocksFrom flat from) where
    abbrev C : List ℤ → Type 0
    C = Coming dropped flat level from begun locks

    passed_by : (m : At) (a : Thread) (rest : Type 0) (t : Turn) (t2 : Form.Turn) → Passes dropped flat m rest t a t2 → ((b : Thread) → t2 ≡ Form.Goes b → GivesNow dropped flat m t) → Path.may_go t2 ≡ true → PassedBy dropped flat level from begun locks m t t2
    passed_by m a rest t (Form.Goes b) h l go = l b refl
    passed_by m a rest t (Form.Checks check s b) h l go = h.2
    passed_by m a rest t (Form.Halts o) h l go = absurd (cc)
    passed_by m a rest t (Form.Asks s act g) h l go = absurd h

    step_ahead : (earlier : List ℤ) (x : ℤ) (c : C earlier) (y : A (at_after flat from c.ys) (thread_after p begun earlier)) (hs : List Instr) → y.hs ≡ hs
        → Bound dropped flat level (at_after flat from c.ys) (thread_after p begun earlier) (ahead y) (weight_in p begun earlier) (length c.ys)
        → Path.may_go (Form.turn p (thread_after p begun earlier)) ≡ true → C (x ∷ earlier)
    step_ahead earlier x c y [] e w go =
        let m = at_after flat from c.ys in
        let a = thread_after p begun earlier in
        let b = at_body m a y e in
        let n : length y.hs ≡ 0 = ap length e in
        let wb : weight_all (own (body pl m.pc y.o)) ≡ weight b.i = ap weight_all b.body_is in
        let st : (tail y.o ≡ []) ⊎ ((Path.after a (Form.step p b.i a) x).pc ≡ a.pc + 1) =
        subst (StraightBy dropped flat level y.o) b.body_is (straight dropped flat level m.pc y.o) a x in
        own_turn dropped flat level from begun locks earlier c.ys x y.o b.i c.path c.same_answers c.few y.at y.moving b.statement b.has
        (subst (λ t. (tail y.o ≡ []) ⊎ ((Path.after a t x).pc ≡ a.pc + 1)) (sym b.guarded_turn) st)
        (omega arith)
        (op_turn flat y.o m) (Form.step p b.i a) b.flat_turn b.guarded_turn (subst (λ t. Path.may_go t ≡ true) b.guarded_turn go) b.follow
    step_ahead earlier x c y (h ∷ hs) e w go =
        let m = at_after flat from c.ys in
        let a = thread_after p begun earlier in
        let k = at_check m a y h hs e in
        let n : length y.hs ≡ length (h ∷ hs) = ap length e in
        let r = passed (Guards dropped flat m (IsOpenFor y.o m) (op_turn flat y.o m) hs) (op_turn flat y.o m) a (Form.step p h a) x k.passes (subst (λ t. Path.may_go t ≡ true) k.guarded_turn go) in
        let eb : thread_after p begun (x ∷ earlier) ≡ Form.next a = ap (λ t. Path.after a t x) k.guarded_turn ∙ r.0 in
        let later : A m (Form.next a) = record {
          ready = y.ready;
          o = y.o;
          at = y.at;
          moving = y.moving;
          hs = hs;
          guards = r.1;
          few = let f = y.few in omega arith;
          has = k.has;
          to = k.to;
          low = y.low;
          lows = y.lows;
          is = ap Form.next y.is;
        } in
        let wh : weight (statement_at p a.pc) ≡ 1 = ap weight k.statement ∙ k.one in
        moves_on (Form.next a) eb later (c.same_answers ∙ sym (append-nil (guarded_asked p begun earlier)) ∙ ap (λ l. guarded_asked p begun earlier ++ l) (sym r.2) ∙ sym (ap (λ t. guarded_asked p begun earlier ++ guarded_asked_by t x) k.guarded_turn))
        (omega arith)
        (λ none. inr (subst (PassedBy dropped flat level from begun locks m (op_turn flat y.o m)) (sym k.guarded_turn) (passed_by m a _ (op_turn flat y.o m) (Form.step p h a) k.passes k.loud (subst (λ t. Path.may_go t ≡ true) k.guarded_turn go))))
      where
        moves_on : (b : Thread) → thread_after p begun (x ∷ earlier) ≡ b → (z : A (at_after flat from c.ys) b) → asked flat from c.ys ≡ guarded_asked p begun (x ∷ earlier)
            → Bound dropped flat level (at_after flat from c.ys) b (ahead z) (weight_in p begun (x ∷ earlier)) (length c.ys) → Was dropped flat level from begun locks (at_after flat from c.ys) b (ahead z) (x ∷ earlier) → C (x ∷ earlier)
        moves_on b eb z ea w u =
            let st : (s : Stage dropped flat level (at_after flat from c.ys) (thread_after p begun (x ∷ earlier))) × Bound dropped flat level (at_after flat from c.ys) (thread_after p begun (x ∷ earlier)) s (weight_in p begun (x ∷ earlier)) (length c.ys) × Was dropped flat level from begun locks (at_after flat from c.ys) (thread_after p begun (x ∷ earlier)) s (x ∷ earlier) =
            subst (λ b. (s : Stage dropped flat level (at_after flat from c.ys) b) × Bound dropped flat level (at_after flat from c.ys) b s (weight_in p begun (x ∷ earlier)) (length c.ys) × Was dropped flat level from begun locks (at_after flat from c.ys) b s (x ∷ earlier)) (sym eb) (ahead z, w, u) in
            record { ys = c.ys; path = c.path; stage = st.0; same_answers = ea; few = let f = c.few in omega arith; bound = st.1; was = st.2 }

    step_behind : (earlier : List ℤ) (x : ℤ) (c : C earlier) (y : Behind dropped flat level (at_after flat from c.ys) (thread_after p begun earlier)) → weight_in p begun earlier + 1 ≤ 4 * length c.ys → C (x ∷ earlier)
    step_behind earlier x c y w =
        let m = at_after flat from c.ys in
        let a = thread_after p begun earlier in
        let st = statement_is p.statements a.pc y.i y.has in
        let q = quiet_turn dropped flat level y.i a y.near.few in
        let t : Form.turn p a ≡ Form.Goes (quiet y.i a) = ap (λ j. Form.step p j a) st ∙ q.0 in
        let eb : thread_after p begun (x ∷ earlier) ≡ quiet y.i a = ap (λ t. Path.after a t x) t in
        let low = y.near.low in
        let near : Near dropped flat level m (beside pl m (pl m.pc) (held_mutexes m.events) low) [] = lands dropped flat level m (pl m.pc) (held_mutexes m.events) low refl y.near.ready refl y.near.lows in
        let wh : weight (statement_at p a.pc) ≡ 1 = ap weight st ∙ q.1 in
        landed dropped flat level from begun locks (x ∷ earlier) c.ys [] c.path
        (subst (λ b. Near dropped flat level m b []) (sym (eb ∙ y.near.is)) near) tt
        (c.same_answers ∙ sym (append-nil (guarded_asked p begun earlier)) ∙ sym (ap (λ t. guarded_asked p begun earlier ++ guarded_asked_by t x) t))
        (let f = c.few in omega arith) (omega arith)

    -- ---- after the last return
    past : (n : ℕ) → length flat.lines ≤ n → slice_get flat.lines n ≡ None
    past n le = slice_get_past flat.lines n le

    step_leaves : (earlier : List ℤ) (x : ℤ) (c : C earlier) (y : Ending dropped flat level (at_after flat from c.ys) (thread_after p begun earlier)) → weight_in p begun earlier ≤ 4 * length c.ys
        → Path.may_go (Form.turn p (thread_after p begun earlier)) ≡ true → C (x ∷ earlier)
    step_leaves earlier x c y w go = by y.steps refl
      where
        m : At
        m = at_after flat from c.ys

        a : Thread
        a = thread_after p begun earlier

        guarded_turn : Form.turn p a ≡ Form.exit p a (leaving y.steps)
        guarded_turn = ap (λ q. Form.step p (statement_at p q) a) y.at_exit ∙ ap (Form.exit p a) y.phase_is

        flat_turn : turn flat m ≡ end_turn flat m y.steps
        flat_turn =
            ap (λ z. line_turn flat z m) (past m.pc (omega (arith, y.pc_is))) ∙ ap (end_turn flat m) (omega (arith, y.pc_is))

        site_same : (Form.function_at p a.function).site ≡ (function_of flat m.function).site
        site_same = ap (λ n. (Form.function_at p n).site) y.function ∙ part_is dropped flat (λ (g : Function). g.site) (λ g. refl) m.function

        wh : weight (statement_at p a.pc) ≡ 1
        wh = ap (λ q. weight (statement_at p q)) y.at_exit

        told : (n : ℕ) (act : Act) (phase : Phase) → answer_of (λ token. pos 0) act ≡ (λ x. pos 0) → suc n ≤ 2 → y.steps ≡ n → leaving (suc n) ≡ phase
            → turn flat m ≡ asks m (function_of flat m.function).site act (pos 0) (λ v z. next z) → Form.turn p a ≡ Form.own_event p a act phase → C (x ∷ earlier)
        told n act phase an le en ph et et2 =
            let site = (function_of flat m.function).site in
            let site2 = (Form.function_at p a.function).site in
            let m2 = next (with_event (event_of site act (pos 0)) m) in
            let b = record (Form.told a site2 act (pos 0)) { phase = phase } in
            let em : at_after flat from (x ∷ c.ys) ≡ m2 = ap (λ t. behind t m x) et ∙ ap (λ (f : ℤ → ℤ). next (with_event (event_of site act (f x)) m)) an in
            let eb : thread_after p begun (x ∷ earlier) ≡ b = ap (λ t. Path.after a t x) et2 in
            let ending : Ending dropped flat level m2 b = record {
              steps = suc n;
              few = le;
              pc_is = let z = y.pc_is in omega arith;
              at_exit = y.at_exit;
              phase_is = sym ph;
              refs = y.refs;
              events = ap (λ es. es ++ Form.event_of site2 act (pos 0) ∷ []) y.events ∙ ap (λ s. m.events ++ Form.event_of s act (pos 0) ∷ []) site_same;
              function = y.function;
              lows = tt;
            } in
            record {
              ys = x ∷ c.ys;
              path = (c.path, ap may_go et);
              stage = leaves (subst (λ m. Ending dropped flat level m (thread_after p begun (x ∷ earlier))) (sym em) (subst (Ending dropped flat level m2) (sym eb) ending));
              same_answers = ap (λ t. asked flat from c.ys ++ asked_by t x) et ∙ ap (λ l. l ++ x ∷ []) c.same_answers ∙ sym (ap (λ t. guarded_asked p begun earlier ++ guarded_asked_by t x) et2);
              few = let f = c.few in let z : is_enter (slice_get flat.lines m.pc) ≡ 1 = ap is_enter (past m.pc (omega (arith, y.pc_is))) in omega arith;
              bound = let z = wh in let z2 = w in omega arith;
              was = tt;
            }

        by : (n : ℕ) → y.steps ≡ n → C (x ∷ earlier)
        by zero e = told zero Act.Return Leaving refl (omega arith) e refl (flat_turn ∙ ap (end_turn flat m) e) (guarded_turn ∙ ap (λ n. Form.exit p a (leaving n)) e)
        by (suc zero) e = told (suc zero) Act.Gone Left refl (omega arith) e refl (flat_turn ∙ ap (end_turn flat m) e) (guarded_turn ∙ ap (λ n. Form.exit p a (leaving n)) e)
        by (suc (suc n)) e = let z : Form.turn p a ≡ Form.Halts Form.Ended = guarded_turn ∙ ap (λ n. Form.exit p a (leaving n)) e in let z2 : Path.may_go (Form.Halts Form.Ended) ≡ true = subst (λ t. Path.may_go t ≡ true) z go in absurd (cc)

    step : (earlier : List ℤ) (x : ℤ) (c : C earlier) (s : Stage dropped flat level (at_after flat from c.ys) (thread_after p begun earlier))
        → Bound dropped flat level (at_after flat from c.ys) (thread_after p begun earlier) s (weight_in p begun earlier) (length c.ys) → Path.may_go (Form.turn p (thread_after p begun earlier)) ≡ true → C (x ∷ earlier)
    step earlier x c (ahead y) w go = step_ahead earlier x c y y.hs refl w go
    step earlier x c (behind_it y) w go = step_behind earlier x c y w
    step earlier x c (leaves y) w go = step_leaves earlier x c y w go

    pub comes : C [] → (answers : List ℤ) → IsPath p begun answers → C answers
    comes c [] path = c
    comes c (x ∷ earlier) path = let r = comes c earlier path.0 in step earlier x r r.stage r.bound path.1
