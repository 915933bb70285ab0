-- How far a thread came, as the code reports it.
use Rattle.sharc_ask.proofs.Imports.{◌≡◌, ℕ, zero, suc, Bool, true, false, Result, List, ◌++◌, length, refl, sym, ap, ◌∙◌, subst, arith, lt-ltb, ne_eqb, ℤ, ◌==◌, nat_lt, not, held_mutexes, goes_away, asked_by, then_on, ◌>>◌, unless_stop, Out, held_references, pointers_among, Ends, Does, Known, Over, RunEnd, RustAsked, Wants, StoppedX, all_held, leaves, told, Tells, SourceEvent, Site, Trap, trap_number}

abbrev pub held_of : Known → List ℤ
held_of k = k.below ++ (pointers_among k.variables ++ k.temporaries)

tells_over : (e : RunEnd) (k : Known) (out : Out (Unit {0})) (a : RustAsked) → (w : Over e k out) → a.events ≡ k.events → a.outcome ≡ told w.outcome (held_references w.state) → a.given_up ≡ k.given_up → Tells a (asked_by out)
tells_over e k out a w ev oc gu = (ev ∙ sym (ap (λ (z : Known). z.events) w.looks) ∙ ap (λ z. (asked_by z).events) (sym w.is), oc ∙ ap (λ z. told (asked_by z).outcome (asked_by z).held) (sym w.is), gu ∙ sym (ap (λ (z : Known). z.given_up) w.looks) ∙ ap (λ z. (asked_by z).given_up) (sym w.is))

pub tells_wants : (x : SourceEvent) (k : Known) (out : Out (Unit {0})) (a : RustAsked) → Over (RunEnd.Wants x) k out → a.events ≡ k.events → a.outcome ≡ Wants x (held_of k) → a.given_up ≡ k.given_up → Tells a (asked_by out)
tells_wants x k out a w ev oc gu = tells_over (RunEnd.Wants x) k out a w ev (oc ∙ ap (Wants x) (sym (ap held_of w.looks)) ∙ ap (λ o. told o (held_references w.state)) (sym w.ends_so)) gu

pub tells_stopped : (trap : Trap) (site : Site) (k : Known) (out : Out (Unit {0})) (a : RustAsked) → Over (RunEnd.Stopped trap site) k out → a.events ≡ k.events → a.outcome ≡ StoppedX (trap_number trap) site → a.given_up ≡ k.given_up → Tells a (asked_by out)
tells_stopped trap site k out a w ev oc gu = tells_over (RunEnd.Stopped trap site) k out a w ev (oc ∙ ap (λ o. told o (held_references w.state)) (sym w.ends_so)) gu

-- what a thread holds where its run is over
pub held_over : (e : RunEnd) (k : Known) (out : Out (Unit {0})) → Over e k out → all_held k ≡ (asked_by out).held
held_over e k out w = sym (ap all_held w.looks) ∙ ap (λ z. (asked_by z).held) (sym w.is)

-- ---- a thread goes away

is_none : (n : ℕ) → not (nat_lt 0 n) ≡ (n == 0)
is_none zero = refl
is_none (suc n) =
    let less : nat_lt 0 (suc n) ≡ true = lt-ltb 0 (suc n) (omega arith) in
    let some : (suc n == 0) ≡ false = ne_eqb (suc n) 0 (λ e. omega (arith, e)) in
    ap not less ∙ sym some

pub goes_when_free : (k k1 : Known) (name site : Site) (free : Bool) (r : Result (Unit {0}) RunEnd) → free ≡ (length k.held == 0) → Does k r k1 (unless_stop free Trap.ReturnWithLockHeld site >> leaves name) → Does k r k1 (goes_away name site)
goes_when_free k k1 name site free r is_free h = λ s is.
    let held : length (held_mutexes s.events) ≡ length k.held = ap (λ (z : Known). length z.held) is in
    let same : not (nat_lt 0 (length (held_mutexes s.events))) ≡ free = is_none (length (held_mutexes s.events)) ∙ ap (λ n. n == 0) held ∙ sym is_free in
    subst (λ z. Ends r k1 (then_on (unless_stop z Trap.ReturnWithLockHeld site s) (λ x. leaves name))) (sym same) (h s is)
