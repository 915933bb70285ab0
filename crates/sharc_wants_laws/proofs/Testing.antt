-- Where a reference is tested, flat code wants what comes after the test, and its registers are those of the code.
use Rattle.sharc_wants_laws.proofs.Imports.{◌≡◌, ℕ, zero, suc, ℤ, pos, ◌+◌, ◌<◌, ⊎_elim, true, false, not, ◌&&◌, ◌==◌, List, [], refl, sym, ap, ◌∙◌, subst, arith, eq-eqb, get_or, slice_index, Act, Freed, Give, Site, is_zero, Asked, number_of, refers, event_of, Row, Instr, Call, Free, TestSole, Machine, ref, Flat, At, goes, asks, turn, on_turn, exec, Program, Thread, IsSole, statement_at, Held, IsGivenAway, IsSettling, Quietly, Tells, instr_of, IsTested}
use Rattle.sharc_flat.specs.Machine.{Turn}
use Rattle.sharc_guard.specs.Machine as Form

-- ---- references
no_zero : (v : ℤ) (n : ℕ) → number_of v ≡ n → 0 < n → is_zero v ≡ false
no_zero (pos zero) n is some = let e : 0 ≡ n = is in absurd (omega (arith, e, some))
no_zero _ n is some = refl

refers_is : (v : ℤ) (n : ℕ) → number_of v ≡ n → 0 < n → refers n v ≡ true
refers_is v n is some = ap (λ b. not b && (number_of v == n)) (no_zero v n is some) ∙ ap (λ k. k == n) is ∙ eq-eqb n n refl

-- ---- the statement of a test
no_call : (entry ints refs at register site : ℕ) → Call entry ints refs at ≡ TestSole register site → ⊥
no_call entry ints refs at register site h = cc

pub test_is : (rows : List Row) (i : Instr) (register site : ℕ) → instr_of rows i ≡ TestSole register site → i ≡ TestSole register site
test_is rows (Call f ints refs at) register site h = absurd (no_call _ ints refs at register site h)
test_is rows _ register site h = h

pub no_free : (r layout at register site : ℕ) → Free r layout at ≡ TestSole register site → ⊥
no_free r layout at register site h = cc

-- ---- flat code wants what comes after it
pub record Wants (v : ℤ) (t : Turn) : Type 0 where
  from : At
  place : Site
  act : Act
  held : ℤ
  go : ℤ → At → At
  is : t ≡ asks from place act held go
  away : IsGivenAway v act

pub wants_it : (p : Program) (v : ℤ) (n : ℕ) (b : Thread) (t : Turn) → Tells p (Form.Checks (IsSole v) n b) t → Wants v t
wants_it p v n b (asks m site act held go) h = record { from = m; place = site; act = act; held = held; go = go; is = refl; away = h.1 }
wants_it p v n b _ h = absurd h

-- one reference is given or freed
one_away : (v w : ℤ) (act : Act) → IsGivenAway v act → IsGivenAway w act → w ≡ v
one_away v w (Give x mode) first second = sym second ∙ first
one_away v w (Freed x) first second = sym second ∙ first
one_away v w _ first second = absurd first

no_goes : (m from : At) (site : Site) (act : Act) (held : ℤ) (go : ℤ → At → At) → goes m ≡ asks from site act held go → ⊥
no_goes m from site act held go h = cc

-- so nothing is done before
pub stays : (flat : Flat) (v : ℤ) (m mid : At) (turns : ℕ) → Wants v (turn flat m) → Quietly flat turns m mid → m ≡ mid
stays flat v m mid zero w q = q
stays flat v m mid (suc n) w q = absurd (no_goes q.0 w.from w.place w.act w.held w.go (sym q.1 ∙ w.is))

-- ---- at the test
-- Flat code at m is where the thread a of guarded code is, before a test; with more turns it comes to `last`, from where it goes on to what it wants.
pub tested : (flat : Flat) (p : Program) (m mid last : At) (a : Thread) (at : Machine) (x : Asked) (more turns register site : ℕ) → statement_at p a.pc ≡ TestSole register site → Tells p (Form.turn p a) (turn flat m) → Held p m a
    → Quietly flat turns m mid → last.refs ≡ mid.refs → ((k : ℕ) → last.refs k ≡ get_or x.held k (pos 0)) → (exec flat (suc more) [] m).outcome ≡ x.outcome
    → a.refs_from ≡ at.at.refs → ((k n : ℕ) → slice_index at.refs k ≡ n → number_of (a.refs k) ≡ n) → IsTested x at register
tested flat p m mid last a at x more turns register site statement tells held quietly refs final outcome from numbers =
    let v = Form.ref a register in
    let wanted : Wants v (turn flat m) = wants_it p v site (Form.next a) (turn flat m) (subst (λ i. Tells p (Form.step p i a) (turn flat m)) statement tells) in
    let beside : (k : ℕ) → a.refs k ≡ m.refs k = λ k. ⊎_elim (λ (e : a.refs k ≡ m.refs k). e) (λ (settles : IsSettling (statement_at p a.pc) a m k). absurd (subst (λ i. IsSettling i a m k) statement settles)) (held k) in
    let last_is : (k : ℕ) → last.refs k ≡ m.refs k = λ k. ap (λ (f : ℕ → ℤ). f k) refs ∙ ap (λ (n : At). n.refs k) (sym (stays flat v m mid turns wanted quietly)) in
    record {
      wanted = event_of wanted.place wanted.act (pos 0);
      outcome = sym outcome ∙ ap (λ t. (on_turn t [] m (exec flat more)).outcome) wanted.is;
      registers = λ k n e some. subst (λ v. refers n v ≡ true) (sym (sym (final k) ∙ last_is k ∙ sym (beside k))) (refers_is (a.refs k) n (numbers k n e) some);
      gives = λ w away. ap number_of (one_away v w wanted.act wanted.away away) ∙ numbers (a.refs_from + register) (ref at register) (ap (λ k. slice_index at.refs (k + register)) from);
    }
