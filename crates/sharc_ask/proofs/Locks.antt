-- Locks, put together.
use Rattle.sharc_ask.proofs.{Imports.{◌≡◌, ℕ, length, nat_lt, Result, Ok, Err, sym, ap, ◌∙◌, subst, Act, CellAt, Site, Trap, held_mutexes, StorePlace, Step, ◌>>◌, performs, unless_stop, cell_at_place, moves_base, lock_call, RunEnd, Known, Does, stops_where_held}, OwnSteps.{does_then, over_then}}

abbrev locks : Site → StorePlace → Step
locks site p = do
  performs site (Act.Lock (cell_at_place p))
  moves_base p

-- where this many mutexes are held
abbrev locks_with : ℕ → Site → StorePlace → Step
locks_with n site p = do
  unless_stop (nat_lt n 16) Trap.TooManyLocks site
  locks site p

-- what follows the first test knows only how many mutexes are held
not_held : (k k1 : Known) (site : Site) (p : StorePlace) (at : CellAt) (x : Unit {0}) (r : Result (Unit {0}) RunEnd) → at ≡ cell_at_place p → Does k (Ok x) k (stops_where_held at site)
    → ((n : ℕ) → n ≡ length k.held → Does k r k1 (locks_with n site p)) → Does k r k1 (lock_call site p)
not_held k k1 site p at x r same h later =
    let g : Does k (Ok x) k (stops_where_held (cell_at_place p) site) = subst (λ a. Does k (Ok x) k (stops_where_held a site)) same h in
    λ s is. does_then k k k1 x r (stops_where_held (cell_at_place p) site) (λ u. locks_with (length (held_mutexes s.events)) site p) g (later (length (held_mutexes s.events)) (ap (λ (z : Known). length z.held) is)) s is

pub lock_of_too_many : (k : Known) (site : Site) (p : StorePlace) (at : CellAt) (n : ℕ) (x : Unit {0}) (e : RunEnd) → at ≡ cell_at_place p → n ≡ length k.held → Does k (Ok x) k (stops_where_held at site)
    → Does {A = Unit {0}} k (Err e) k (unless_stop (nat_lt n 16) Trap.TooManyLocks site) → Does {A = Unit {0}} k (Err e) k (lock_call site p)
lock_of_too_many k site p at n x e same all h1 h2 =
    not_held k k site p at x (Err e) same h1 (λ i is.
    let g : Does {A = Unit {0}} k (Err e) k (unless_stop (nat_lt i 16) Trap.TooManyLocks site) = subst (λ j. Does {A = Unit {0}} k (Err e) k (unless_stop (nat_lt j 16) Trap.TooManyLocks site)) (all ∙ sym is) h2 in
    over_then k k e (unless_stop (nat_lt i 16) Trap.TooManyLocks site) (λ u. locks site p) g)

few_held : (k k1 : Known) (site : Site) (p : StorePlace) (at : CellAt) (n : ℕ) (x y : Unit {0}) (r : Result (Unit {0}) RunEnd) → at ≡ cell_at_place p → n ≡ length k.held → Does k (Ok x) k (stops_where_held at site)
    → Does k (Ok y) k (unless_stop (nat_lt n 16) Trap.TooManyLocks site) → Does k r k1 (locks site p) → Does k r k1 (lock_call site p)
few_held k k1 site p at n x y r same all h1 h2 h =
    not_held k k1 site p at x r same h1 (λ i is.
    let g : Does k (Ok y) k (unless_stop (nat_lt i 16) Trap.TooManyLocks site) = subst (λ j. Does k (Ok y) k (unless_stop (nat_lt j 16) Trap.TooManyLocks site)) (all ∙ sym is) h2 in
    does_then k k k1 y r (unless_stop (nat_lt i 16) Trap.TooManyLocks site) (λ u. locks site p) g h)

pub lock_not_done : (k k1 : Known) (site : Site) (p : StorePlace) (at : CellAt) (n : ℕ) (x y : Unit {0}) (e : RunEnd) → at ≡ cell_at_place p → n ≡ length k.held → Does k (Ok x) k (stops_where_held at site)
    → Does k (Ok y) k (unless_stop (nat_lt n 16) Trap.TooManyLocks site) → Does {A = Unit {0}} k (Err e) k1 (performs site (Act.Lock at)) → Does {A = Unit {0}} k (Err e) k1 (lock_call site p)
lock_not_done k k1 site p at n x y e same all h1 h2 h3 =
    let g : Does {A = Unit {0}} k (Err e) k1 (performs site (Act.Lock (cell_at_place p))) = subst (λ a. Does {A = Unit {0}} k (Err e) k1 (performs site (Act.Lock a))) same h3 in
    few_held k k1 site p at n x y (Err e) same all h1 h2 (over_then k k1 e (performs site (Act.Lock (cell_at_place p))) (λ u. moves_base p) g)

pub lock_goes : (k k1 k2 : Known) (site : Site) (p : StorePlace) (at : CellAt) (n : ℕ) (x y z : Unit {0}) (r : Result (Unit {0}) RunEnd) → at ≡ cell_at_place p → n ≡ length k.held → Does k (Ok x) k (stops_where_held at site)
    → Does k (Ok y) k (unless_stop (nat_lt n 16) Trap.TooManyLocks site) → Does k (Ok z) k1 (performs site (Act.Lock at)) → Does k1 r k2 (moves_base p) → Does k r k2 (lock_call site p)
lock_goes k k1 k2 site p at n x y z r same all h1 h2 h3 h4 =
    let g : Does k (Ok z) k1 (performs site (Act.Lock (cell_at_place p))) = subst (λ a. Does k (Ok z) k1 (performs site (Act.Lock a))) same h3 in
    few_held k k2 site p at n x y r same all h1 h2 (does_then k k1 k2 z r (performs site (Act.Lock (cell_at_place p))) (λ u. moves_base p) g h4)
