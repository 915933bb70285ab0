-- Waits, put together.
use Rattle.sharc_ask.proofs.{Imports.{◌≡◌, ℤ, Bool, true, not, List, ℕ, codes, bytes_eq, slice_index_or, if◌then◌else◌, Result, Ok, Err, sym, ap, ◌∙◌, subst, CellAt, Site, Trap, holds_mutex, pointee, NULL, is_null, Step, ◌>>=◌, ◌>>◌, unless_stop, looks_at, cell_at_place, wait_call, signal_call, broadcast_call, condition_call, RunEnd, Known, Does, stops_unless_held, waits}, OwnSteps.{does_then, over_then}}

abbrev first_cell : ℤ → CellAt
first_cell p = cell_at_place (pointee p)

-- the values c1 and m1 that a call is given are c and m

-- a wait after its tests of NULL
abbrev held_waits : Site → ℤ → ℤ → Step
held_waits site c m = do
  own ← looks_at (λ s. s.events)
  unless_stop (holds_mutex own (first_cell m)) Trap.MutexNotHeld site
  waits site c m

mutex_test : (k k1 : Known) (site : Site) (c m m1 : ℤ) (no_c no_m : Bool) (c1 : ℤ) (x : Unit {0}) (r : Result (Unit {0}) RunEnd) → c1 ≡ c → m1 ≡ m → no_c ≡ is_null c1 → no_m ≡ is_null m1
    → Does k (Ok x) k (unless_stop (not no_c) Trap.NullPointer site) → Does k r k1 (unless_stop (not (is_null m)) Trap.NullPointer site >> held_waits site c m) → Does k r k1 (wait_call site c m)
mutex_test k k1 site c m m1 no_c no_m c1 x r ec em nc nm h1 h =
    let g1 : Does k (Ok x) k (unless_stop (not (is_null c)) Trap.NullPointer site) = subst (λ b. Does k (Ok x) k (unless_stop (not b) Trap.NullPointer site)) (nc ∙ ap is_null ec) h1 in
    does_then k k k1 x r (unless_stop (not (is_null c)) Trap.NullPointer site) (λ u. unless_stop (not (is_null m)) Trap.NullPointer site >> held_waits site c m) g1 h

pub wait_of_null_mutex : (k : Known) (site : Site) (c m c1 m1 : ℤ) (no_c no_m : Bool) (x : Unit {0}) (e : RunEnd) → c1 ≡ c → m1 ≡ m → no_c ≡ is_null c1 → no_m ≡ is_null m1
    → Does k (Ok x) k (unless_stop (not no_c) Trap.NullPointer site) → Does {A = Unit {0}} k (Err e) k (unless_stop (not no_m) Trap.NullPointer site) → Does {A = Unit {0}} k (Err e) k (wait_call site c m)
wait_of_null_mutex k site c m c1 m1 no_c no_m x e ec em nc nm h1 h2 =
    let g2 : Does {A = Unit {0}} k (Err e) k (unless_stop (not (is_null m)) Trap.NullPointer site) = subst (λ b. Does {A = Unit {0}} k (Err e) k (unless_stop (not b) Trap.NullPointer site)) (nm ∙ ap is_null em) h2 in
    mutex_test k k site c m m1 no_c no_m c1 x (Err e) ec em nc nm h1 (over_then k k e (unless_stop (not (is_null m)) Trap.NullPointer site) (λ u. held_waits site c m) g2)

held_test : (k k1 : Known) (site : Site) (c m c1 m1 : ℤ) (no_c no_m : Bool) (x y : Unit {0}) (r : Result (Unit {0}) RunEnd) → c1 ≡ c → m1 ≡ m → no_c ≡ is_null c1 → no_m ≡ is_null m1
    → Does k (Ok x) k (unless_stop (not no_c) Trap.NullPointer site) → Does k (Ok y) k (unless_stop (not no_m) Trap.NullPointer site) → Does k r k1 (held_waits site c m) → Does k r k1 (wait_call site c m)
held_test k k1 site c m c1 m1 no_c no_m x y r ec em nc nm h1 h2 h =
    let g2 : Does k (Ok y) k (unless_stop (not (is_null m)) Trap.NullPointer site) = subst (λ b. Does k (Ok y) k (unless_stop (not b) Trap.NullPointer site)) (nm ∙ ap is_null em) h2 in
    mutex_test k k1 site c m m1 no_c no_m c1 x r ec em nc nm h1 (does_then k k k1 y r (unless_stop (not (is_null m)) Trap.NullPointer site) (λ u. held_waits site c m) g2 h)

pub wait_not_held : (k : Known) (site : Site) (c m c1 m1 : ℤ) (no_c no_m : Bool) (at_m : CellAt) (x y : Unit {0}) (e : RunEnd) → c1 ≡ c → m1 ≡ m → no_c ≡ is_null c1 → no_m ≡ is_null m1 → at_m ≡ first_cell m1
    → Does k (Ok x) k (unless_stop (not no_c) Trap.NullPointer site) → Does k (Ok y) k (unless_stop (not no_m) Trap.NullPointer site) → Does {A = Unit {0}} k (Err e) k (stops_unless_held at_m site) → Does {A = Unit {0}} k (Err e) k (wait_call site c m)
wait_not_held k site c m c1 m1 no_c no_m at_m x y e ec em nc nm am h1 h2 h3 =
    let g3 : Does {A = Unit {0}} k (Err e) k (stops_unless_held (first_cell m) site) = subst (λ z. Does {A = Unit {0}} k (Err e) k (stops_unless_held z site)) (am ∙ ap first_cell em) h3 in
    held_test k k site c m c1 m1 no_c no_m x y (Err e) ec em nc nm h1 h2 (over_then k k e (stops_unless_held (first_cell m) site) (λ u. waits site c m) g3)

pub wait_goes : (k k1 : Known) (site : Site) (c m c1 m1 : ℤ) (no_c no_m : Bool) (at_m : CellAt) (x y z : Unit {0}) (r : Result (Unit {0}) RunEnd) → c1 ≡ c → m1 ≡ m → no_c ≡ is_null c1 → no_m ≡ is_null m1 → at_m ≡ first_cell m1
    → Does k (Ok x) k (unless_stop (not no_c) Trap.NullPointer site) → Does k (Ok y) k (unless_stop (not no_m) Trap.NullPointer site) → Does k (Ok z) k (stops_unless_held at_m site) → Does k r k1 (waits site c1 m1) → Does k r k1 (wait_call site c m)
wait_goes k k1 site c m c1 m1 no_c no_m at_m x y z r ec em nc nm am h1 h2 h3 h4 =
    let g3 : Does k (Ok z) k (stops_unless_held (first_cell m) site) = subst (λ a. Does k (Ok z) k (stops_unless_held a site)) (am ∙ ap first_cell em) h3 in
    let g4 : Does k r k1 (waits site c m) = subst (λ a. Does k r k1 (waits site a m)) ec (subst (λ a. Does k r k1 (waits site c1 a)) em h4) in
    held_test k k1 site c m c1 m1 no_c no_m x y r ec em nc nm h1 h2 (does_then k k k1 z r (stops_unless_held (first_cell m) site) (λ u. waits site c m) g3 g4)

-- a known call of the name `wait`
pub wait_named : (k k1 : Known) (site : Site) (name : List ℕ) (vs : List ℤ) (c m : ℤ) (r : Result (Unit {0}) RunEnd) → bytes_eq name (codes "wait") ≡ true → c ≡ slice_index_or vs 0 NULL → m ≡ slice_index_or vs 1 NULL
    → Does k r k1 (wait_call site c m) → Does k r k1 (condition_call site name vs)
wait_named k k1 site name vs c m r named ec em h =
    let g : Does k r k1 (wait_call site (slice_index_or vs 0 NULL) (slice_index_or vs 1 NULL)) = subst (λ z. Does k r k1 (wait_call site z (slice_index_or vs 1 NULL))) ec (subst (λ z. Does k r k1 (wait_call site c z)) em h) in
    subst (λ b. Does k r k1 (if b then wait_call site (slice_index_or vs 0 NULL) (slice_index_or vs 1 NULL) else if bytes_eq name (codes "signal") then signal_call site (slice_index_or vs 0 NULL) else broadcast_call site (slice_index_or vs 0 NULL))) (sym named) g
