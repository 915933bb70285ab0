-- A run grows by a round.
use Rattle.std.proofs.{Common.{◌≡◌, ◌≢◌, ℕ, zero, suc, ◌+◌, ◌-◌, ◌<◌, ◌≤◌, Bool, true, false, List, [], ◌∷◌, ◌++◌, length, get_or, Some, None, refl, sym, ap, ◌∙◌, subst, arith, ◌⊎◌, inl, inr, ⊎_elim, cond, eq-eqb}, lemmas.List.Sums.sum_by-cons, lemmas.Bool.cases_lt, lemmas.List.get_or_past}
use Rattle.std.specs.{Prelude.nat_eq, List.sum_by}
use Rattle.sharc_word.specs.{declared.step.TheConstants.THREADS, declared.step.WordEvent.WordEvent}
use Rattle.sharc_code.specs.{declared.code.Code.Code, declared.shape.Shape.Shape, Machine.Machine, Path.{may_go, machine_after, events_of_path, made_in as made_in_path, IsPath as IsCodePath}, Runs.{Turn, Parts, Round, IsRun, at, made_in, turns_of, word_events}, Whole.{one_thread, bounds, turns_by}, Laws.{RunLaws, IsPathOf, IsMerged}}
use Rattle.sharc_threads.specs.{Ends.Standing, Seats.{IsSeat, AreSeats, left, left_to}}
use Rattle.sharc_rounds.specs.Round.{Seat, MadeQuantumAt, MadeRound}

-- ---- sums
sum_less : {X : Type 0} (f : X → ℕ) (d : X) (xs ys : List X) → length ys ≡ length xs → ((k : ℕ) → k < length xs → f (get_or ys k d) ≤ f (get_or xs k d)) → sum_by f ys ≤ sum_by f xs
sum_less f d [] [] e each = omega arith
sum_less f d [] (y ∷ ys) e each = absurd (omega (arith, e))
sum_less f d (x ∷ xs) [] e each = absurd (omega (arith, e))
sum_less f d (x ∷ xs) (y ∷ ys) e each =
    let first : f y ≤ f x = each 0 (omega arith) in
    let rest = sum_less f d xs ys (omega (arith, e)) (λ k low. each (suc k) (omega (arith, low))) in
    let a = sum_by-cons f x xs in
    let b = sum_by-cons f y ys in
    omega (arith, a, b, first, rest)

-- where no element of a list gives more than that of another, and all together no less, none gives less
no_less : {X : Type 0} (f : X → ℕ) (d : X) (xs ys : List X) → length ys ≡ length xs → ((k : ℕ) → k < length xs → f (get_or ys k d) ≤ f (get_or xs k d)) → sum_by f xs ≤ sum_by f ys
    → (k : ℕ) → k < length xs → f (get_or xs k d) ≤ f (get_or ys k d)
no_less f d [] ys e each le k low = absurd (omega (arith, low))
no_less f d (x ∷ xs) [] e each le k low = absurd (omega (arith, e))
no_less f d (x ∷ xs) (y ∷ ys) e each le zero low =
    let rest = sum_less f d xs ys (omega (arith, e)) (λ k low. each (suc k) (omega (arith, low))) in
    let a = sum_by-cons f x xs in
    let b = sum_by-cons f y ys in
    omega (arith, a, b, rest, le)
no_less f d (x ∷ xs) (y ∷ ys) e each le (suc k) low =
    let first : f y ≤ f x = each 0 (omega arith) in
    let a = sum_by-cons f x xs in
    let b = sum_by-cons f y ys in
    no_less f d xs ys (omega (arith, e)) (λ k low. each (suc k) (omega (arith, low))) (omega (arith, a, b, first, le)) k (omega (arith, low))

-- ---- one place of the table, in a round from this place of the run
module _ (code : Code) (s : Shape) (g : Standing) (limit t : ℕ) (events : List WordEvent) where
  -- the turns of its thread, if one is there
  abbrev pub founds_in : (x y : Seat) → MadeQuantumAt code s limit x y events → List ℕ
  founds_in (Some old) (Some new) q = q.founds
  founds_in (Some old) None q = absurd q
  founds_in None (Some new) q = absurd q
  founds_in None None q = []

  -- what is known of them
  pub record Went (founds : List ℕ) : Type 0 where
    pub path : IsCodePath code s (g.threads t) founds
    pub told : events_of_path code s (g.threads t) founds ≡ events
    pub room : g.made t + made_in_path code s (g.threads t) founds ≤ limit
    pub started : founds ≢ [] → g.started t ≡ true
    pub own : founds ≢ [] → t ≡ (g.threads t).own.number

  pub went_in : (x y : Seat) (q : MadeQuantumAt code s limit x y events) → IsSeat code s g.threads g.made g.started t x → g.made t ≤ limit → Went (founds_in x y q)
  went_in (Some old) (Some new) q is bound = record {
    path = subst (λ (m : Machine). IsCodePath code s m q.founds) is.1.machine q.path;
    told = ap (λ (m : Machine). events_of_path code s m q.founds) (sym is.1.machine) ∙ sym q.events_are;
    room = let e : made_in_path code s (g.threads t) q.founds ≡ made_in_path code s old.machine q.founds = ap (λ (m : Machine). made_in_path code s m q.founds) (sym is.1.machine) in
        omega (arith, e, q.made, q.within, is.1.made_is);
    started = λ ne. is.0;
    own = λ ne. sym is.1.number ∙ ap (λ (m : Machine). m.own.number) is.1.machine;
  }
  went_in (Some old) None q is bound = absurd q
  went_in None (Some new) q is bound = absurd q
  went_in None None q is bound = record {
    path = tt;
    told = sym q;
    room = omega (arith, bound);
    started = λ ne. absurd (ne refl);
    own = λ ne. absurd (ne refl);
  }

  -- its place after them
  pub seat_in : (x y : Seat) (q : MadeQuantumAt code s limit x y events) → IsSeat code s g.threads g.made g.started t x → (threads : ℕ → Machine) (made : ℕ → ℕ)
      → threads t ≡ machine_after code s (g.threads t) (founds_in x y q) → made t ≡ g.made t + made_in_path code s (g.threads t) (founds_in x y q) → IsSeat code s threads made g.started t y
  seat_in (Some old) (Some new) q is threads made e f = (
    is.0,
    record {
      thread_is = q.thread;
      number = q.number ∙ is.1.number;
      machine = q.machine ∙ ap (λ (m : Machine). machine_after code s m q.founds) is.1.machine ∙ sym e;
      made_is = q.made ∙ ap (λ n. n + made_in_path code s old.machine q.founds) is.1.made_is ∙ ap (λ (m : Machine). g.made t + made_in_path code s m q.founds) is.1.machine ∙ sym f;
    },
  )
  seat_in (Some old) None q is threads made e f = absurd q
  seat_in None (Some new) q is threads made e f = absurd q
  seat_in None None q is threads made e f = (is.0, e ∙ is.1, f ∙ (let z = is.2 in omega (arith, z)))

  -- a thread that may make a turn made one
  pub some_in : (x y : Seat) (q : MadeQuantumAt code s limit x y events) → IsSeat code s g.threads g.made g.started t x → g.started t ≡ true → may_go (g.threads t).at.state ≡ true → g.made t < limit → founds_in x y q ≢ []
  some_in (Some old) (Some new) q is started on low = q.some (ap (λ (m : Machine). may_go m.at.state) is.1.machine ∙ on) (let e = is.1.made_is in omega (arith, e, low))
  some_in (Some old) None q is started on low = absurd q
  some_in None (Some new) q is started on low = absurd q
  some_in None None q is started on low = absurd (let e : false ≡ true = sym is.0 ∙ started in cc)

-- what is left to it
left_is : (code : Code) (s : Shape) (threads : ℕ → Machine) (made : ℕ → ℕ) (started : ℕ → Bool) (limit t : ℕ) (x : Seat) → IsSeat code s threads made started t x → left_to limit x ≡ limit - made t
left_is code s threads made started limit t None is = let e = is.2 in omega (arith, e)
left_is code s threads made started limit t (Some thread) is = ap (λ n. limit - n) is.1.made_is

-- the seats of a place
module _ (code : Code) (s : Shape) (g : Standing) (old new : List Seat) (are : AreSeats code s g.threads g.made g.started old) (limit : ℕ) (few : limit ≤ 100000000) (now : List ℕ)
    (round : MadeRound code s limit g.words now old new) where
  pub within : (t : ℕ) → t < THREADS → t < length old
  within t low = omega (arith, low, are.count)

  pub quantum : (t : ℕ) (low : t < THREADS) → MadeQuantumAt code s limit (get_or old t None) (get_or new t None) (get_or round.lists t [])
  quantum t low = round.each t (within t low)

  -- the turns of each thread: those of its quantum, and none of a number that is none
  abbrev pub founds_at : (t : ℕ) → (t < THREADS) ⊎ (THREADS ≤ t) → List ℕ
  founds_at t (inl low) = founds_in code s g limit t (get_or round.lists t []) (get_or old t None) (get_or new t None) (quantum t low)
  founds_at t (inr high) = []

  abbrev pub founds_of : ℕ → List ℕ
  founds_of t = founds_at t (cases_lt t THREADS)

  abbrev pub paths : ℕ → List Turn
  paths t = turns_by code s t (g.threads t) (founds_of t)

  went_at : ((t : ℕ) → g.made t ≤ limit) → (t : ℕ) (c : (t < THREADS) ⊎ (THREADS ≤ t)) → Went code s g limit t (get_or round.lists t []) (founds_at t c)
  went_at bound t (inl low) = went_in code s g limit t (get_or round.lists t []) (get_or old t None) (get_or new t None) (quantum t low) (are.each t low) (bound t)
  went_at bound t (inr high) = record {
    path = tt;
    told = sym (get_or_past round.lists t [] (omega (arith, high, round.as_many, are.count)));
    room = omega (arith, bound t);
    started = λ ne. absurd (ne refl);
    own = λ ne. absurd (ne refl);
  }

  module _ (laws : RunLaws) (bound : (t : ℕ) → g.made t ≤ limit) where
    pub went : (t : ℕ) → Went code s g limit t (get_or round.lists t []) (founds_of t)
    went t = went_at bound t (cases_lt t THREADS)

    turns_are : (t : ℕ) → IsPathOf code s t (g.threads t) (founds_of t) (paths t)
    turns_are t = laws.paths code s t (g.threads t) (founds_of t) (went t).path

    empty_events : (t : ℕ) (founds : List ℕ) → (founds ≢ [] → t ≡ (g.threads t).own.number)
        → word_events (turns_by code s t (g.threads t) founds) ≡ events_of_path code s (g.threads t) founds ⊎ (founds ≢ [])
    empty_events t [] own = inl refl
    empty_events t (found ∷ earlier) own = inr (λ e. cc)

    events_are : (t : ℕ) → word_events (paths t) ≡ events_of_path code s (g.threads t) (founds_of t)
    events_are t = ⊎_elim (λ e. e) (λ ne. (turns_are t).events ((went t).own ne)) (empty_events t (founds_of t) (went t).own)

    no_turns : (t : ℕ) (founds : List ℕ) → founds ≡ [] → turns_by code s t (g.threads t) founds ≡ []
    no_turns t founds e = ap (turns_by code s t (g.threads t)) e

    past : (t : ℕ) (c : (t < THREADS) ⊎ (THREADS ≤ t)) → THREADS ≤ t → founds_at t c ≡ []
    past t (inl low) h = absurd (omega (arith, low, h))
    past t (inr high) h = refl

    some_found : (t : ℕ) (founds : List ℕ) → turns_by code s t (g.threads t) founds ≢ [] → founds ≢ []
    some_found t founds ne e = ne (no_turns t founds e)

    parts : Parts THREADS paths round.history.history
    parts = record {
      events = λ t. events_are t ∙ (went t).told ∙ sym (round.history.parts t);
      few = λ t high. no_turns t (founds_of t) (past t (cases_lt t THREADS) high);
      own = λ t. (turns_are t).own;
    }

    ahead : Round bounds (one_thread code s) g paths round.history.history
    ahead = record {
      legal = round.history.legal;
      goes = λ t. (turns_are t).path;
      started = λ t ne. (went t).started (some_found t (founds_of t) ne);
      room = λ t. let e = (turns_are t).made in let r = (went t).room in omega (arith, e, r, few);
    }

    pub merged : IsMerged bounds (one_thread code s) g paths round.history.history
    merged = laws.rounds bounds code s g THREADS paths round.history.history parts ahead

    -- the turns of the round, as a run on from there
    abbrev pub turns : List Turn
    turns = merged.turns

    pub run_on : IsRun bounds (one_thread code s) g turns
    run_on = (laws.from_places bounds code s g turns (λ t. omega (arith, bound t, few))).0 merged.run

    pub words_then : (at bounds (one_thread code s) g turns).words ≡ now
    words_then = merged.words ∙ sym round.history.words_are

    pub machine_then : (t : ℕ) → (at bounds (one_thread code s) g turns).threads t ≡ machine_after code s (g.threads t) (founds_of t)
    machine_then t = merged.threads t ∙ (turns_are t).machine

    pub made_then : (t : ℕ) → (at bounds (one_thread code s) g turns).made t ≡ g.made t + made_in_path code s (g.threads t) (founds_of t)
    made_then t =
        (laws.stands bounds code s g turns).made t
        ∙ ap (λ ts. g.made t + made_in (one_thread code s) (g.threads t) ts) (merged.parts t)
        ∙ ap (λ n. g.made t + n) (turns_are t).made

    pub bound_then : (t : ℕ) → (at bounds (one_thread code s) g turns).made t ≤ limit
    bound_then t = let r = (went t).room in let e = made_then t in omega (arith, r, e)

    -- ---- the seats after the round
    -- a thread that made a turn in it had been started
    among : (t : ℕ) (one : Turn) (later earlier : List Turn) → one.thread ≡ t → turns_of t (later ++ one ∷ earlier) ≢ []
    among t one [] earlier e =
        elim (nat_eq t one.thread) as (λ b. nat_eq t one.thread ≡ b → cond b (one ∷ turns_of t earlier) (turns_of t earlier) ≢ []) [
          | true ↦ λ f is. cc
          | false ↦ λ f is. absurd (let x : true ≡ false = sym (eq-eqb t t refl) ∙ ap (λ n. nat_eq t n) (sym e) ∙ f in cc)
        ] refl
    among t one (x ∷ later) earlier e =
        elim (nat_eq t x.thread) as (λ b. cond b (x ∷ turns_of t (later ++ one ∷ earlier)) (turns_of t (later ++ one ∷ earlier)) ≢ []) [
          | true ↦ λ is. cc
          | false ↦ among t one later earlier e
        ]

    pub were_started : (one : Turn) (later earlier : List Turn) → turns ≡ later ++ one ∷ earlier → g.started one.thread ≡ true
    were_started one later earlier e =
        let t = one.thread in
        let some : turns_of t turns ≢ [] = subst (λ (xs : List Turn). turns_of t xs ≢ []) (sym e) (among t one later earlier refl) in
        (went t).started (some_found t (founds_of t) (subst (λ (xs : List Turn). xs ≢ []) (merged.parts t) some))

    seat_by : (t : ℕ) (c : (t < THREADS) ⊎ (THREADS ≤ t)) → cases_lt t THREADS ≡ c → t < THREADS
        → IsSeat code s (at bounds (one_thread code s) g turns).threads (at bounds (one_thread code s) g turns).made g.started t (get_or new t None)
    seat_by t (inl low) e h =
        let same : founds_of t ≡ founds_at t (inl low) = ap (founds_at t) e in
        seat_in code s g limit t (get_or round.lists t []) (get_or old t None) (get_or new t None) (quantum t low) (are.each t low)
        (at bounds (one_thread code s) g turns).threads (at bounds (one_thread code s) g turns).made
        (machine_then t ∙ ap (machine_after code s (g.threads t)) same)
        (made_then t ∙ ap (λ fs. g.made t + made_in_path code s (g.threads t) fs) same)
    seat_by t (inr high) e h = absurd (omega (arith, h, high))

    pub seats_then : AreSeats code s (at bounds (one_thread code s) g turns).threads (at bounds (one_thread code s) g turns).made g.started new
    seats_then = record {
      count = round.count ∙ are.count;
      few = are.few;
      each = λ t low. seat_by t (cases_lt t THREADS) refl low;
    }

    -- ---- what is left of the events
    some_by : (t : ℕ) (c : (t < THREADS) ⊎ (THREADS ≤ t)) → t < THREADS → g.started t ≡ true → may_go (g.threads t).at.state ≡ true → g.made t < limit → founds_at t c ≢ []
    some_by t (inl low) h started on below = some_in code s g limit t (get_or round.lists t []) (get_or old t None) (get_or new t None) (quantum t low) (are.each t low) started on below
    some_by t (inr high) h started on below = absurd (omega (arith, h, high))

    some_turn : (t : ℕ) (founds : List ℕ) → founds ≢ [] → turns_by code s t (g.threads t) founds ≢ []
    some_turn t [] ne e = ne refl
    some_turn t (found ∷ earlier) ne e = cc

    pub made_turn : (t : ℕ) → g.started t ≡ true → may_go (g.threads t).at.state ≡ true → g.made t < limit → turns_of t turns ≢ []
    made_turn t started on below =
        subst (λ (xs : List Turn). xs ≢ []) (sym (merged.parts t)) (some_turn t (founds_of t) (some_by t (cases_lt t THREADS) (are.few t started) started on below))

    -- no thread has more left
    left_less : (t : ℕ) → t < length old → left_to limit (get_or new t None) ≤ left_to limit (get_or old t None)
    left_less t low =
        let below : t < THREADS = omega (arith, low, are.count) in
        let a = left_is code s g.threads g.made g.started limit t (get_or old t None) (are.each t below) in
        let b = left_is code s (at bounds (one_thread code s) g turns).threads (at bounds (one_thread code s) g turns).made g.started limit t (get_or new t None) (seats_then.each t below) in
        let e = made_then t in
        omega (arith, a, b, e)

    -- so as much is left to all only where no thread made an event
    none_made : left limit old ≤ left limit new → (t : ℕ) (c : (t < THREADS) ⊎ (THREADS ≤ t)) → cases_lt t THREADS ≡ c → (at bounds (one_thread code s) g turns).made t ≤ g.made t
    none_made le t (inl low) e =
        let same : left_to limit (get_or old t None) ≤ left_to limit (get_or new t None) = no_less (left_to limit) None old new round.count left_less le t (within t low) in
        let a = left_is code s g.threads g.made g.started limit t (get_or old t None) (are.each t low) in
        let b = left_is code s (at bounds (one_thread code s) g turns).threads (at bounds (one_thread code s) g turns).made g.started limit t (get_or new t None) (seats_then.each t low) in
        let r = bound t in
        let k = bound_then t in
        omega (arith, same, a, b, r, k)
    none_made le t (inr high) e =
        let f : founds_of t ≡ [] = ap (founds_at t) e in
        let m = made_then t in
        let n : made_in_path code s (g.threads t) (founds_of t) ≡ 0 = ap (made_in_path code s (g.threads t)) f in
        omega (arith, m, n)

    pub no_event : left limit old ≤ left limit new → (t : ℕ) → (at bounds (one_thread code s) g turns).made t ≤ g.made t
    no_event le t = none_made le t (cases_lt t THREADS) refl
