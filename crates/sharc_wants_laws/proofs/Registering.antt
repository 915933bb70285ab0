-- From what the program holds to the registers of the code, by the answers of its own events.
use Rattle.sharc_wants_laws.proofs.{Imports.{◌≡◌, ℕ, zero, suc, ℤ, pos, ◌+◌, ◌<◌, ◌≤◌, ◌⊎◌, inl, inr, ⊎_elim, Bool, true, false, not, ◌==◌, List, [], refl, sym, ap, ◌∙◌, subst, arith, get_or, cond, eq-eqb, eqb-true, Option, Some, None, false≢true, and_parts, other_register, get_or-set_other, slice_index, slice_set, IsSomeAnd, SourceEvent, Assignment, is_null, number_of, refers, answers_of, Code, Instr, Free, Lower, MoveReference, RaiseLoaded, TestSole, Shape, Stage, Links, TurnState, Stopped, Ended, Stop, Trapped, Machine, instr_at, may_go, reference, At, exec, turn, MayStart, Program, Thread, statement_at, Held, IsSettling, Tells, place, Elements, IsNumber, instr_of, IsAt, IsAtStage, IsLinking, IsOver, Refuses, StopsAt, is_freed, register_of, IsLoadedHere, IsPlaceOf, IsReference, IsRegistered, set_none}, Copying.quietly_from, Holding.{Way, way}, Testing.{Wants, test_is, no_free, stays, wants_it}, Coming.{Coming, Rests, asked_by, comes, enough, instr_is, rest, there, told, with_more}, Cells.number_is}
use Rattle.sharc_meaning.specs.Meaning as Meaning
use Rattle.sharc_guard.specs.Machine as Form

-- ---- references and numbers
-- what refers is the reference to an object
referred : (n v e : ℕ) → IsNumber v → refers n (reference v e) ≡ true → (v ≡ n) × (0 < v)
referred n zero e small is = absurd (false≢true is)
referred n (suc k) e small is =
    let parts = and_parts (not (is_null (reference (suc k) e))) (number_of (reference (suc k) e) == n) is in
    (sym (number_is (suc k) e small) ∙ eqb-true (number_of (reference (suc k) e)) n parts.1, omega arith)

refers_as : (n : ℕ) (a b : ℤ) → a ≡ b → refers n a ≡ true → refers n b ≡ true
refers_as n a b same is = subst (λ v. refers n v ≡ true) same is

-- ---- registers that are not freed
not_linking : (i : Instr) (stage : Stage) (base k : ℕ) → ((e : ℕ) → stage ≡ Links e → ⊥) → is_freed i stage base k ≡ false
not_linking (Free r layout site) (Links e) base k never = absurd (never e refl)
not_linking _ stage base k never = refl

at_no_link : (m : Machine) (i : Instr) (stage : Stage) → IsAtStage m i stage → (e : ℕ) → stage ≡ Links e → ⊥
at_no_link m i stage there e is = subst (IsAtStage m i) is there

chosen : (b : Bool) (v n : ℕ) → b ≡ false → v ≡ n → cond b 0 v ≡ n
chosen b v n none is = ap (λ b. cond b 0 v) none ∙ is

-- ---- where a reference that was loaded is raised, the thread goes on
goes_no_halt : (b : Thread) (o : Form.Outcome) → Form.Goes b ≡ Form.Halts o → ⊥
goes_no_halt b o h = cc

goes_no_check : (b c : Thread) (k : Form.Check) (site : ℕ) → Form.Goes b ≡ Form.Checks k site c → ⊥
goes_no_check b c k site h = cc

module _ (p : Program) (a : Thread) (register : ℕ) (raises : statement_at p a.pc ≡ RaiseLoaded register) where
  goes_on : (b : Thread) × (Form.turn p a ≡ Form.Goes b)
  goes_on = (_, ap (λ i. Form.step p i a) raises)

  no_stop : (stop : Stop) → StopsAt p a stop → ⊥
  no_stop (Trapped trap site) h = ⊎_elim
      (λ halts. goes_no_halt goes_on.0 _ (sym goes_on.1 ∙ halts))
      (λ refuses. subst (λ i. Refuses i trap site) raises refuses)
      h
  no_stop _ h = goes_no_check goes_on.0 h.1.next _ _ (sym goes_on.1 ∙ h.1.checks)

  not_stopped : (stop : Option Stop) → IsSomeAnd stop (StopsAt p a) → ⊥
  not_stopped None h = h
  not_stopped (Some stop) h = no_stop stop h

  pub on : (state : TurnState) (stop : Option Stop) → IsOver p a state stop → may_go state ≡ true
  on Stopped stop h = absurd (not_stopped stop h)
  on Ended stop h = absurd (goes_no_halt goes_on.0 _ (sym goes_on.1 ∙ h))
  on _ stop h = refl

-- ---- what flat code holds, guarded code counts, but for what was loaded
record IsLoaded (p : Program) (a : Thread) (n : ℕ) : Type 0 where
  register : ℕ
  raises : statement_at p a.pc ≡ RaiseLoaded register
  refers_there : refers n a.pending ≡ true

abbrev IsCounted : Program → Thread → ℕ → Type 0
IsCounted p a n = ((j : ℕ) × (refers n (a.refs j) ≡ true)) ⊎ IsLoaded p a n

null_refers : (n : ℕ) (v : ℤ) → v ≡ pos 0 → refers n v ≡ true → ⊥
null_refers n v null is = false≢true (refers_as n v (pos 0) null is)

settling : (p : Program) (m : At) (a : Thread) (k n : ℕ) → refers n (m.refs k) ≡ true → (i : Instr) → statement_at p a.pc ≡ i → IsSettling i a m k → IsCounted p a n
settling p m a k n is (RaiseLoaded r) next h = inr (record { register = r; raises = next; refers_there = refers_as n (m.refs k) a.pending (sym h.2) is })
settling p m a k n is (Lower r) next h = absurd (null_refers n (m.refs k) h.1 is)
settling p m a k n is (MoveReference r from) next (inl h) = inl (a.refs_from + from, refers_as n (m.refs k) (a.refs (a.refs_from + from)) (sym h.2) is)
settling p m a k n is (MoveReference r from) next (inr h) = absurd (null_refers n (m.refs k) h.1 is)
settling p m a k n is _ next h = absurd h

counted : (p : Program) (m : At) (a : Thread) → Held p m a → (k n : ℕ) → refers n (m.refs k) ≡ true → IsCounted p a n
counted p m a held k n is = ⊎_elim
    (λ (e : a.refs k ≡ m.refs k). inl (k, refers_as n (m.refs k) (a.refs k) (sym e) is))
    (λ (h : IsSettling (statement_at p a.pc) a m k). settling p m a k n is (statement_at p a.pc) refl h)
    (held k)

no_settling : (p : Program) (m : At) (a : Thread) (register site : ℕ) → statement_at p a.pc ≡ TestSole register site → Held p m a → (k : ℕ) → a.refs k ≡ m.refs k
no_settling p m a register site tests held k = ⊎_elim
    (λ (e : a.refs k ≡ m.refs k). e)
    (λ (h : IsSettling (statement_at p a.pc) a m k). absurd (subst (λ i. IsSettling i a m k) tests h))
    (held k)

-- ---- by the path of a thread
-- the same of what is asked for by these events
pub record HoldsThere (m : Assignment) (code : Code) (f : ℕ) (argument : ℤ) (told : List SourceEvent) (at : Machine) : Type 0 where
  pub fuel : ℕ
  pub held : (later : ℕ) → fuel ≤ later → (k n : ℕ) → refers n (get_or (Meaning.asks m f argument (answers_of told) later).held k (pos 0)) ≡ true → IsRegistered code at n
  pub tested : (register site : ℕ) → instr_at code at.at.pc ≡ TestSole register site
      → (later : ℕ) → fuel ≤ later → (k n : ℕ) → refers n (get_or (Meaning.asks m f argument (answers_of told) later).held k (pos 0)) ≡ true → slice_index at.refs k ≡ n

module _ {m : Assignment} {code : Code} {s : Shape} {T : Elements} {thread : ℕ} {at : Machine} {said : List SourceEvent} {lowered : List ℕ} (w : Coming m code s T thread at said lowered) where
  abbrev a : Thread
  a = there w

  -- ---- guarded code's registers are those of the code
  in_register : (k n : ℕ) → IsAt code s w.p T at a → refers n (a.refs k) ≡ true → (slice_index at.refs k ≡ n) × (register_of code at k ≡ n)
  in_register k n y is =
      let r = y.same.in_refs.are k in
      let e = (referred n (slice_index at.refs k) (T (slice_index at.refs k)) r.small (refers_as n (a.refs k) (reference (slice_index at.refs k) (T (slice_index at.refs k))) r.is is)).0 in
      (e, chosen (is_freed (instr_at code at.at.pc) at.own.stage at.at.refs k) (slice_index at.refs k) n (not_linking (instr_at code at.at.pc) at.own.stage at.at.refs k (at_no_link at (statement_at w.p a.pc) at.own.stage y.stage)) e)

  linked_register : (k n : ℕ) → IsLinking code s w.p T at a → refers n (a.refs k) ≡ true → register_of code at k ≡ n
  linked_register k n l is =
      let freed = at.at.refs + l.register in
      let xs = slice_set at.refs (at.at.refs + l.register) 0 in
      let r = l.same.in_refs.are k in
      let there = referred n (slice_index xs k) (T (slice_index xs k)) r.small (refers_as n (a.refs k) (reference (slice_index xs k) (T (slice_index xs k))) r.is is) in
      let test : is_freed (instr_at code at.at.pc) at.own.stage at.at.refs k ≡ (k == at.at.refs + l.register) =
      ap (λ i. is_freed i at.own.stage at.at.refs k) (instr_is w at.at.pc ∙ ap (instr_of w.g.functions.items) l.statement) ∙ ap (λ st. is_freed (Free l.register l.layout l.site) st at.at.refs k) l.stage in
      let apart : (k == freed) ≡ false = other_register (k == freed) (λ e. let none : slice_index xs k ≡ 0 = ap (λ i. slice_index (slice_set at.refs i 0) k) (sym (eqb-true k freed e)) ∙ set_none at.refs k in let some = there.1 in omega (arith, none, some)) in
      let kept : slice_index xs k ≡ slice_index at.refs k = get_or-set_other at.refs freed k 0 0 (λ same. false≢true (sym apart ∙ eq-eqb k freed same)) in
      chosen (is_freed (instr_at code at.at.pc) at.own.stage at.at.refs k) (slice_index at.refs k) n (test ∙ apart) (sym kept ∙ there.0)

  loaded : (n place : ℕ) → IsPlaceOf code at place → a.pc ≡ place → may_go at.at.state ≡ true → IsReference T at.pending a.pending → IsLoaded w.p a n → IsLoadedHere code at n
  loaded n place near pc on r c = record {
    place = place;
    near = near;
    register = c.register;
    next = instr_is w place ∙ ap (instr_of w.g.functions.items) (ap (statement_at w.p) (sym pc) ∙ c.raises);
    on = on;
    loaded = (referred n at.pending (T at.pending) r.small (refers_as n a.pending (reference at.pending (T at.pending)) r.is c.refers_there)).0;
  }

  registered : (n : ℕ) → IsAt code s w.p T at a ⊎ IsLinking code s w.p T at a → IsCounted w.p a n → IsRegistered code at n
  registered n (inl y) (inl c) = inl (c.0, (in_register c.0 n y c.1).1)
  registered n (inl y) (inr c) = inr (loaded n at.at.pc (inl refl) y.pc_is (on w.p a c.register c.raises at.at.state at.own.stop y.over) y.same.loaded c)
  registered n (inr l) (inl c) = inl (c.0, linked_register c.0 n l c.1)
  registered n (inr l) (inr c) = inr (loaded n (at.at.pc + 1) (inr (refl, (l.register, l.layout, l.site, instr_is w at.at.pc ∙ ap (instr_of w.g.functions.items) l.statement))) l.pc_is (ap may_go l.state_is) l.same.loaded c)

  -- ---- with more fuel than flat code has turns on the path
  module _ (later : ℕ) (r : Rests w later) where
    abbrev x : Meaning.Asked
    x = asked_by w later

    y : Way w.flat (rest w) (exec w.flat (suc r.0) [] (rest w)).at
    y = way w.paths w.flat (suc r.0) (rest w)

    held_is : (k : ℕ) → get_or x.held k (pos 0) ≡ y.mid.refs k
    held_is k = sym (r.1.held k) ∙ ap (λ (f : ℕ → ℤ). f k) y.refs

    -- what is held then was held at the place
    held_by : (k n : ℕ) → refers n (get_or x.held k (pos 0)) ≡ true → IsRegistered code at n
    held_by k n there =
        let was = quietly_from w.paths w.flat y.turns (rest w) y.mid y.quietly k n (refers_as n (get_or x.held k (pos 0)) (y.mid.refs k) (held_is k) there) in
        registered n w.has.stands (counted w.p (rest w) a (comes w).stands.held was.0 n was.1)

    tested_by : (register site : ℕ) → instr_at code at.at.pc ≡ TestSole register site → (k n : ℕ) → refers n (get_or x.held k (pos 0)) ≡ true → slice_index at.refs k ≡ n
    tested_by register site tests k n there =
        let statement = test_is w.g.functions.items (statement_at w.p at.at.pc) register site (sym (instr_is w at.at.pc) ∙ tests) in
        let i : IsAt code s w.p T at a = ⊎_elim (λ (i : IsAt code s w.p T at a). i) (λ (l : IsLinking code s w.p T at a). absurd (no_free l.register l.layout l.site register site (sym l.statement ∙ statement))) w.has.stands in
        let here : statement_at w.p a.pc ≡ TestSole register site = ap (statement_at w.p) i.pc_is ∙ statement in
        let v = Form.ref a register in
        let wanted : Wants v (turn w.flat (rest w)) = wants_it w.p v site (Form.next a) (turn w.flat (rest w)) (subst (λ i. Tells w.p (Form.step w.p i a) (turn w.flat (rest w))) here (comes w).stands.tells) in
        let rests : rest w ≡ y.mid = stays w.flat v (rest w) y.mid y.turns wanted y.quietly in
        let value : get_or x.held k (pos 0) ≡ a.refs k = held_is k ∙ ap (λ (n : At). n.refs k) (sym rests) ∙ sym (no_settling w.p (rest w) a register site here (comes w).stands.held k) in
        (in_register k n i (refers_as n (get_or x.held k (pos 0)) (a.refs k) value there)).0

  pub holds_by : MayStart m w.has.function → HoldsThere m code w.has.function w.has.argument (told w) at
  holds_by may = record {
    fuel = enough w;
    held = λ later le. held_by later (with_more w may later le);
    tested = λ register site tests later le. tested_by later (with_more w may later le) register site tests;
  }
