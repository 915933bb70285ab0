-- A run grows by the turn that was made.
use Rattle.sharc_seq.proofs.{Imports.{◌≡◌, ℕ, suc, ◌+◌, ◌-◌, ◌<◌, ◌≤◌, Bool, true, List, [], ◌∷◌, ◌++◌, length, get_or, set, filter, Option, Some, None, refl, sym, ap, ◌∙◌, subst, arith, ⊎_elim, cases_eq, get_or-set_same, get_or-set_other, length-set, length-reverse, reverse-append, sum_by-set, nat_lt, ◌||◌, is_some, reverse, range_with_len, PortState, LeadsInWords, place_of_words, THREADS, Code, Shape, Machine, Turn as Act, Local, Asks, turn, after, asked_by, TurnLeads, may_go, counted, turn_with, result_of, step_of, IsOf, put, words_now, state_now, made_now, after_turn, Answered, MayTurn, is_started, threads_of, begins_of, StandingLaws, found_now, one_thread, bounds, place_after, event_in, ThreadView, Standing, is_enabled, TableLaws, Sits, IsSeat, AreSeats, AreOf, may_turn_at, left, left_to, Walk, enabled, IsChosen, IsThreadAt, MadeTurn, MadeTurnAt, MayGoOn, ToldAt, FoundAt, Began, StandsAt, WentOn, numbers_of, has_step, has_event, both, or_known, ne_eq, lt_true, eq_refl, any_default, filter_same}, Choosing.{picked, filter_less}}
use Rattle.sharc_code.specs.Runs.{Turn}

-- ---- functions changed at one place
pub put_same : {A : Type 0} (f : ℕ → A) (i : ℕ) (v : A) → put f i v i ≡ v
put_same f i v = rw (eq_refl i) refl

pub put_other : {A : Type 0} (f : ℕ → A) (i j : ℕ) (v : A) → (j ≡ i → ⊥) → put f i v j ≡ f j
put_other f i j v ne = rw (ne_eq j i ne) refl

-- ---- one turn
after_found : (t : ℕ) (a : Act) (found : ℕ) → after a (result_of (event_in t a found)) ≡ after a found
after_found t (Local m) found = refl
after_found t (Asks step go) found = refl

asked : (t : ℕ) (a : Act) (found : ℕ) → step_of (event_in t a found) ≡ asked_by a
asked t (Local m) found = refl
asked t (Asks step go) found = refl

has_both : (t : ℕ) (a : Act) (found : ℕ) → has_event (event_in t a found) ≡ has_step (asked_by a)
has_both t (Local m) found = refl
has_both t (Asks step go) found = refl

found_both : (t : ℕ) (a : Act) (found : ℕ) (words now : List ℕ) → TurnLeads LeadsInWords t a found (place_of_words words) (place_of_words now) → found_now words a ≡ result_of (event_in t a found)
found_both t (Local m) found words now h = refl
found_both t (Asks step go) found words now h = sym h.may_follow.result_is

own : (t : ℕ) (a : Act) (found : ℕ) → IsOf t (event_in t a found)
own t (Local m) found = tt
own t (Asks step go) found = refl

answered : (t : ℕ) (a : Act) (found : ℕ) (words now : List ℕ) → TurnLeads LeadsInWords t a found (place_of_words words) (place_of_words now) → Answered words (event_in t a found)
answered t (Local m) found words now h = tt
answered t (Asks step go) found words now h = h.may_follow

words_are : (t : ℕ) (a : Act) (found : ℕ) (words now : List ℕ) → TurnLeads LeadsInWords t a found (place_of_words words) (place_of_words now) → words_now words (event_in t a found) ≡ now
words_are t (Local m) found words now h = ap (λ (p : PortState). p.words) h
words_are t (Asks step go) found words now h = sym (ap (λ (p : PortState). p.words) h.to_is)

-- ---- a table in which one seat changed
module _ (code : Code) (s : Shape) (threads threads_then : ℕ → Machine) (made made_then : ℕ → ℕ) (started started_then : ℕ → Bool) (t : ℕ) (same_threads : (u : ℕ) → (u ≡ t → ⊥) → threads_then u ≡ threads u)
    (same_made : (u : ℕ) → (u ≡ t → ⊥) → made_then u ≡ made u) (same_started : (u : ℕ) → started_then u ≡ started u) where
  elsewhere : (k : ℕ) (x : Option ThreadView) → (k ≡ t → ⊥) → IsSeat code s threads made started k x → IsSeat code s threads_then made_then started_then k x
  elsewhere k None ne at_k = (same_started k ∙ at_k.0, same_threads k ne ∙ at_k.1, same_made k ne ∙ at_k.2)
  elsewhere k (Some thread) ne at_k = (
    same_started k ∙ at_k.0,
    record {
      thread_is = at_k.1.thread_is;
      number = at_k.1.number;
      machine = at_k.1.machine ∙ sym (same_threads k ne);
      made_is = at_k.1.made_is ∙ sym (same_made k ne);
    },
  )

  pub seats_now : (seats : List (Option ThreadView)) (now : ThreadView) → IsSeat code s threads_then made_then started_then t (Some now) → AreSeats code s threads made started seats
      → AreSeats code s threads_then made_then started_then (set seats t (Some now))
  seats_now seats now here are = record {
    count = length-set seats t (Some now) ∙ are.count;
    few = λ u e. are.few u (sym (same_started u) ∙ e);
    each = λ k low.
        ⊎_elim
        (λ (e : k ≡ t). subst (λ j. IsSeat code s threads_then made_then started_then j (get_or (set seats t (Some now)) j None)) (sym e)
        (subst (IsSeat code s threads_then made_then started_then t) (sym (get_or-set_same seats t (Some now) None (omega (arith, low, e, are.count)))) here))
        (λ (ne : k ≡ t → ⊥). subst (IsSeat code s threads_then made_then started_then k) (sym (get_or-set_other seats t k (Some now) None ne)) (elsewhere k (get_or seats k None) ne (are.each k low)))
        (cases_eq k t);
  }

-- ---- the turn of a seat that is enabled, as one of the run
module _ (code : Code) (s : Shape) (g : Standing) (t : ℕ) (old new : ThreadView) (now : List ℕ)
    (started_t : g.started t ≡ true) (is : Sits code s g.threads g.made t old) (made : MadeTurn code s g.words now old new) where
  abbrev pub this_turn : Turn
  this_turn = turn_with t (event_in t (turn code s (g.threads t)) made.found)

  led : TurnLeads LeadsInWords t (turn code s (g.threads t)) made.found (place_of_words g.words) (place_of_words now)
  led = subst (λ (m : Machine). TurnLeads LeadsInWords t (turn code s m) made.found (place_of_words g.words) (place_of_words now)) is.machine
      (subst (λ (n : ℕ). TurnLeads LeadsInWords n (turn code s old.machine) made.found (place_of_words g.words) (place_of_words now)) is.number made.led)

  stands : new.machine ≡ state_now (one_thread code s) g this_turn
  stands = made.machine ∙ ap (λ (m : Machine). after (turn code s m) made.found) is.machine ∙ sym (after_found t (turn code s (g.threads t)) made.found)

  made_more : made_now (one_thread code s) g this_turn ≡ g.made t + 1
  made_more = ap (λ (m : Machine). g.made t + counted m.at.state) (sym stands) ∙ ap (λ n. g.made t + n) made.event

  new_made : new.made ≡ made_now (one_thread code s) g this_turn
  new_made = made.made ∙ ap (λ n. n + 1) is.made_is ∙ sym made_more

  pub found_this : found_now g.words (turn code s (g.threads t)) ≡ result_of this_turn.event
  found_this = found_both t (turn code s (g.threads t)) made.found g.words now led

  pub new_words : words_now g.words this_turn.event ≡ now
  new_words = words_are t (turn code s (g.threads t)) made.found g.words now led

  pub may_turn_now : (limit : ℕ) → limit ≤ 100000000 → g.started t ≡ true → may_go (g.threads t).at.state ≡ true → g.made t < limit → MayTurn bounds (one_thread code s) g this_turn
  may_turn_now limit few started may low = record {
    started = started;
    next = record { runs = may; asks = asked t (turn code s (g.threads t)) made.found; own = own t (turn code s (g.threads t)) made.found };
    answered = answered t (turn code s (g.threads t)) made.found g.words now led;
    room = omega (arith, made_more);
  }

  abbrev pub then_ : Standing
  then_ = after_turn bounds (one_thread code s) g this_turn

  here : IsSeat code s then_.threads then_.made g.started t (Some new)
  here = (
    started_t,
    record {
      thread_is = made.thread;
      number = made.number ∙ is.number;
      machine = stands ∙ sym (put_same g.threads t (state_now (one_thread code s) g this_turn));
      made_is = new_made ∙ sym (put_same g.made t (made_now (one_thread code s) g this_turn));
    },
  )

  pub set_seats : (seats : List (Option ThreadView)) → AreSeats code s g.threads g.made g.started seats → AreSeats code s then_.threads then_.made g.started (set seats t (Some new))
  set_seats seats are = seats_now code s g.threads then_.threads g.made then_.made g.started g.started t
      (λ u ne. put_other g.threads t u (state_now (one_thread code s) g this_turn) ne) (λ u ne. put_other g.made t u (made_now (one_thread code s) g this_turn) ne) (λ u. refl) seats new here are

-- ---- the schedule
threads_many : (turns : List Turn) → length (threads_of turns) ≡ length turns
threads_many [] = refl
threads_many (turn ∷ earlier) = ap suc (threads_many earlier)

pub as_many : (schedule : List ℕ) (turns : List Turn) → schedule ≡ reverse (threads_of turns) → length schedule ≡ length turns
as_many schedule turns e = ap (λ (xs : List ℕ). length xs) e ∙ length-reverse (threads_of turns) ∙ threads_many turns

pub one_later : (schedule more : List ℕ) (turns : List Turn) (turn : Turn) → schedule ≡ reverse (threads_of turns) → more ≡ schedule ++ turn.thread ∷ [] → more ≡ reverse (threads_of (turn ∷ turns))
one_later schedule more turns turn e f = f ∙ ap (λ (xs : List ℕ). xs ++ turn.thread ∷ []) e ∙ sym (reverse-append (turn.thread ∷ []) (threads_of turns))

-- ---- who is enabled
enabled_started : (code : Code) (s : Shape) (limit : ℕ) (g : Standing) (t : ℕ) → is_enabled code s limit g t ≡ true → g.started t ≡ true
enabled_started code s limit g t e = (both (g.started t) _ e).0

-- the threads that may make a turn among those that are there are those that are enabled
pub enabled_are : (laws : TableLaws) (code : Code) (s : Shape) (limit : ℕ) (g : Standing) (words : List ℕ) (seats : List (Option ThreadView)) → s.threads ≡ THREADS → AreOf code s g words seats
    → filter (λ t. may_turn_at words limit (get_or seats t None)) (numbers_of seats) ≡ enabled code s limit g
enabled_are laws code s limit g words seats fits of =
    filter_same (λ t. may_turn_at words limit (get_or seats t None)) (is_enabled code s limit g) (numbers_of seats) (laws.enabled code s limit g words seats of)
    ∙ filter_less (is_enabled code s limit g) (λ t. is_some (get_or seats t None)) (range_with_len 0 THREADS) (λ t e. laws.there code s g.threads g.made g.started seats of.are t ∙ enabled_started code s limit g t e)
    ∙ ap (λ n. filter (is_enabled code s limit g) (range_with_len 0 n)) (sym fits)

-- ---- the table after the turn
pub record Chose (answers : ℕ → ℕ → ℕ → Type 0) (code : Code) (s : Shape) (limit : ℕ) (g : Standing) (count t : ℕ) : Type 0 where
  pub chosen : IsChosen answers count (enabled code s limit g) t
  pub low : t < s.threads
  pub yes : is_enabled code s limit g t ≡ true

pub chose : (answers : ℕ → ℕ → ℕ → Type 0) (code : Code) (s : Shape) (limit : ℕ) (g : Standing) (count : ℕ) (among : List ℕ) (place t turns many : ℕ) → among ≡ enabled code s limit g
    → turns ≡ count → many ≡ length among → place < many → t ≡ get_or among place t → answers turns many place → Chose answers code s limit g count t
chose answers code s limit g count among place t turns many all of_turns of_among below is answered =
    let low : place < length among = omega (arith, of_among, below) in
    let p = picked code s limit g among place t all low is in
    record {
      chosen = record {
        place = place;
        answered = subst (λ n. answers n (length (enabled code s limit g)) place) of_turns (subst (λ n. answers turns n place) (of_among ∙ ap (λ (xs : List ℕ). length xs) all) answered);
        within = subst (λ (xs : List ℕ). place < length xs) all low;
        is = is ∙ any_default among place t 0 low ∙ ap (λ (xs : List ℕ). get_or xs place 0) all;
      };
      low = omega (arith, p.low);
      yes = p.yes;
    }

-- the place of that thread
thread_at : (code : Code) (s : Shape) (threads : ℕ → Machine) (made : ℕ → ℕ) (started : ℕ → Bool) (t : ℕ) (x : Option ThreadView) → IsSeat code s threads made started t x → IsThreadAt code s x
thread_at code s threads made started t None is = tt
thread_at code s threads made started t (Some thread) is = is.1.thread_is

-- the seat of a thread that may go on, as an index into the table finds it
pub record SitsAt (code : Code) (s : Shape) (limit t : ℕ) (walk : Walk) (x : Option ThreadView) : Type 0 where
  pub is : get_or walk.threads.seats.items t None ≡ x
  pub thread : IsThreadAt code s x
  pub may : may_turn_at walk.port.port limit x ≡ true

module _ (laws : TableLaws) (code : Code) (s : Shape) (limit t : ℕ) (walk : Walk) (m : MayGoOn code s limit t walk) where
  below_threads : t < THREADS
  below_threads = m.1.seats.few t (enabled_started code s limit (place_after code s m.0) t m.2)

  pub seat_low : t < length walk.threads.seats.items
  seat_low = omega (arith, below_threads, m.1.seats.count)

  pub sits : (x : Option ThreadView) → x ≡ get_or walk.threads.seats.items t x → SitsAt code s limit t walk x
  sits x value =
      let place : Standing = place_after code s m.0 in
      let is : get_or walk.threads.seats.items t None ≡ x = sym (value ∙ any_default walk.threads.seats.items t x None seat_low) in
      record {
        is = is;
        thread = thread_at code s place.threads place.made place.started t x (subst (IsSeat code s place.threads place.made place.started t) is (m.1.seats.each t below_threads));
        may = ap (may_turn_at walk.port.port limit) (sym is) ∙ laws.enabled code s limit place walk.port.port walk.threads.seats.items record { words_are = m.1.words; are = m.1.seats } t ∙ m.2;
      }

  -- it does not matter by which run it is determined who is enabled
  pub enabled_too : (turns : List Turn) → StandsAt code s turns walk → is_enabled code s limit (place_after code s turns) t ≡ true
  enabled_too turns stands =
      sym (laws.enabled code s limit (place_after code s turns) walk.port.port walk.threads.seats.items record { words_are = stands.words; are = stands.seats } t)
      ∙ laws.enabled code s limit (place_after code s m.0) walk.port.port walk.threads.seats.items record { words_are = m.1.words; are = m.1.seats } t ∙ m.2

same_some : (seats : List (Option ThreadView)) (t : ℕ) (old new : ThreadView) → t < length seats → get_or seats t None ≡ Some old → (k : ℕ) → is_some (get_or (set seats t (Some new)) k None) ≡ is_some (get_or seats k None)
same_some seats t old new low is k =
    ⊎_elim
    (λ (e : k ≡ t). subst (λ j. is_some (get_or (set seats t (Some new)) j None) ≡ is_some (get_or seats j None)) (sym e)
    (ap is_some (get_or-set_same seats t (Some new) None low) ∙ sym (ap is_some is)))
    (λ (ne : k ≡ t → ⊥). ap is_some (get_or-set_other seats t k (Some new) None ne))
    (cases_eq k t)

pub numbers_stay : (seats : List (Option ThreadView)) (t : ℕ) (old new : ThreadView) → t < length seats → get_or seats t None ≡ Some old → numbers_of (set seats t (Some new)) ≡ numbers_of seats
numbers_stay seats t old new low is = filter_same (λ k. is_some (get_or (set seats t (Some new)) k None)) (λ k. is_some (get_or seats k None)) (range_with_len 0 THREADS) (same_some seats t old new low is)

-- a walk after one more turn of the run
pub record Grown (code : Code) (s : Shape) (limit t : ℕ) (turns : List Turn) (old new : Walk) : Type 0 where
  pub went : WentOn code s t turns new.port.told new
  pub less : left limit new.threads.seats.items < left limit old.threads.seats.items

module _ (standing : StandingLaws) (laws : TableLaws) (code : Code) (s : Shape) (limit : ℕ) (turns : List Turn) (old new : Walk) (t : ℕ) (few : limit ≤ 100000000)
    (walk : StandsAt code s turns old) (on : is_enabled code s limit (place_after code s turns) t ≡ true) where
  abbrev g : Standing
  g = place_after code s turns

  started_g : g.started t ≡ true
  started_g = (both (g.started t) _ on).0

  low_of_all : t < THREADS
  low_of_all = walk.seats.few t started_g

  module _ (was now : ThreadView) (at : get_or old.threads.seats.items t None ≡ Some was) (made : MadeTurn code s g.words new.port.port was now) where
    sits_t : Sits code s g.threads g.made t was
    sits_t = (subst (IsSeat code s g.threads g.made g.started t) at (walk.seats.each t low_of_all)).1

    abbrev this : Turn
    this = this_turn code s g t was now new.port.port started_g sits_t made

    abbrev place : Standing
    place = after_turn bounds (one_thread code s) g this

    abbrev seats : List (Option ThreadView)
    seats = set old.threads.seats.items t (Some now)

    words : words_now g.words this.event ≡ new.port.port
    words = new_words code s g t was now new.port.port started_g sits_t made

    now_seats : AreSeats code s place.threads place.made g.started seats
    now_seats = set_seats code s g t was now new.port.port started_g sits_t made old.threads.seats.items walk.seats

    may : MayTurn bounds (one_thread code s) g this
    may =
        let parts = both (g.started t) _ on in
        let goes = both (may_go (g.threads t).at.state) _ parts.1 in
        let left = both (nat_lt (g.made t) limit) _ goes.1 in
        may_turn_now code s g t was now new.port.port started_g sits_t made limit few started_g goes.0 (lt_true (g.made t) limit left.0)

    -- a turn that starts no thread
    unstarted : begins_of was.machine.own.stage ≡ None → (k : ℕ) → g.started k ≡ place.started k
    unstarted none k = sym (or_known (is_started bounds (words_now g.words this.event) k) (g.started k)
        (λ e. standing.started code s turns k
        (standing.spawns code s turns this k may (λ is. let f : None ≡ Some k = sym none ∙ ap (λ (m : Machine). begins_of m.own.stage) sits_t.machine ∙ is in cc) e)))

    same_now : (k : ℕ) → (is_started bounds new.port.port k || g.started k) ≡ place.started k
    same_now k = ap (λ (ws : List ℕ). is_started bounds ws k || g.started k) (sym words)

    low_t : t < length old.threads.seats.items
    low_t = omega (arith, low_of_all, walk.seats.count)

    record Then_ : Type 0 where
      seats_are : AreSeats code s place.threads place.made place.started new.threads.seats.items
      numbers : new.started.items ≡ numbers_of new.threads.seats.items

    began : (begins : Option ℕ) → begins ≡ begins_of was.machine.own.stage → Began code s new.port.port begins seats new.threads.seats.items old.started.items new.started.items → Then_
    began None is all = record {
      seats_are = subst (AreSeats code s place.threads place.made place.started) (sym all.0) (laws.same code s place.threads place.made g.started place.started seats (unstarted (sym is)) now_seats);
      numbers = all.1 ∙ walk.numbers
          ∙ sym (numbers_stay old.threads.seats.items t was now low_t at)
          ∙ ap numbers_of (sym all.0);
    }
    began (Some n) is all = record {
      seats_are = laws.same code s place.threads place.made (λ k. is_started bounds new.port.port k || g.started k) place.started new.threads.seats.items same_now
          (laws.begin code s place.threads place.made g.started new.port.port seats new.threads.seats.items now_seats all.count all.each).0;
      numbers = all.numbers;
    }

    went_by : (begins : Option ℕ) → begins ≡ begins_of was.machine.own.stage → Began code s new.port.port begins seats new.threads.seats.items old.started.items new.started.items
        → new.port.told ≡ has_step (asked_by (turn code s was.machine)) → new.port.found ≡ found_now g.words (turn code s was.machine) → WentOn code s t turns new.port.told new
    went_by begins is all told found =
        let then = began begins is all in
        record {
          one = this;
          own = refl;
          counts = ap (λ (m : Machine). counted m.at.state) (sym (stands code s g t was now new.port.port started_g sits_t made)) ∙ made.event;
          told_is = told ∙ ap (λ (m : Machine). has_step (asked_by (turn code s m))) sits_t.machine ∙ sym (has_both t (turn code s (g.threads t)) made.found);
          found_is = found ∙ ap (λ (m : Machine). found_now g.words (turn code s m)) sits_t.machine ∙ found_this code s g t was now new.port.port started_g sits_t made;
          stands = record {
            count = made.count ∙ ap (λ (ws : List ℕ). length ws) (sym walk.words) ∙ walk.count;
            run = (walk.run, may);
            words = sym words;
            seats = then.seats_are;
            numbers = then.numbers;
          };
        }

    -- what is left
    left_begun : (begins : Option ℕ) → Began code s new.port.port begins seats new.threads.seats.items old.started.items new.started.items → left limit new.threads.seats.items ≡ left limit seats
    left_begun None all = ap (left limit) all.0
    left_begun (Some n) all = (laws.begin code s place.threads place.made g.started new.port.port seats new.threads.seats.items now_seats all.count all.each).1 limit

    less_by : (begins : Option ℕ) → Began code s new.port.port begins seats new.threads.seats.items old.started.items new.started.items → left limit new.threads.seats.items < left limit old.threads.seats.items
    less_by begins all =
        let e = left_begun begins all in
        let f : left limit seats + left_to limit (get_or old.threads.seats.items t None) ≡ left limit old.threads.seats.items + left_to limit (Some now) = sum_by-set (left_to limit) old.threads.seats.items t (Some now) None low_t in
        let h : left_to limit (get_or old.threads.seats.items t None) ≡ limit - was.made = ap (left_to limit) at in
        let parts = both (g.started t) _ on in
        let goes = both (may_go (g.threads t).at.state) _ parts.1 in
        let left = both (nat_lt (g.made t) limit) _ goes.1 in
        let low : g.made t < limit = lt_true (g.made t) limit left.0 in
        omega (arith, e, f, h, made.made, sits_t.made_is, low)

  pub grown : (x y : Option ThreadView) (begins : Option ℕ) → get_or old.threads.seats.items t None ≡ x → MadeTurnAt code s g.words new.port.port x y begins → ToldAt code s x new.port.told → FoundAt code s g.words x new.port.found
      → Began code s new.port.port begins (set old.threads.seats.items t y) new.threads.seats.items old.started.items new.started.items → Grown code s limit t turns old new
  grown None y begins at made told found all = absurd made
  grown (Some was) None begins at made told found all = absurd made
  grown (Some was) (Some now) begins at made told found all = record { went = went_by was now at made.0 begins made.1 all told found; less = less_by was now at made.0 begins all }
