-- More fuel and more answers change nothing but an end for want of them, and what was wanted then comes.
use Rattle.sharc_meaning.proofs.{Imports.{◌≡◌, ℕ, zero, suc, ◌+◌, Bool, true, false, cond, List, [], ◌∷◌, ◌++◌, refl, sym, ap, ◌∙◌, subst, arith, length, append-nil, drop, ℤ, pos, Act, SourceEvent, Site, Taken, GivenUp, IsPrefix, IsAnswer, Frame, State, all_released, pointers_among, Outcome, wants, spent, Out, go, over, Run, Step, then_on, ◌>>◌, give, enters_with, happens, answer_of, event_of, ends_temporaries, value_of, ends_variables, without_temporaries, Flow, next, broken, returned, on_turn, turns, back_in, with_frame}, Closed.Closed, Growing.{Grows, grows_refl, grows_on, one_more, prefix_refl, prefix_on, state_of, Growing, growing, grows_then, grows_turn, grows_turns, grows_cond, gives_more}}

abbrev pub with_more : ℕ → List ℤ → State → State
with_more d ys s = record s { answers = s.answers ++ ys; fuel = s.fuel + d }

-- there is no more of what the run ended for
abbrev pub NoMore : Outcome → ℕ → List ℤ → Type 0
NoMore spent d ys = d ≡ 0
NoMore (wants e) d ys = ys ≡ []
NoMore _ d ys = Unit {0}

-- the event comes with this answer of the list
pub record ComesIn (e : SourceEvent) (y : ℤ) (before all : List SourceEvent) : Type 0 where
  pub answer : ℤ
  pub is : IsAnswer e.act y answer
  pub events : IsPrefix (before ++ record e { answer = answer } ∷ []) all

-- where there is an answer more, what was wanted comes
abbrev pub Comes : Outcome → List ℤ → List SourceEvent → List SourceEvent → Type 0
Comes (wants e) (y ∷ ys) before all = ComesIn e y before all
Comes _ _ before all = Unit {0}

pub comes_on : (o : Outcome) (ys : List ℤ) (before all more : List SourceEvent) → Comes o ys before all → IsPrefix all more → Comes o ys before more
comes_on (wants e) (y ∷ ys) before all more h k = record { answer = h.answer; is = h.is; events = prefix_on _ all more h.events k }
comes_on _ _ before all more h k = tt

is_answer : (held : ℕ → ℤ) (act : Act) (y : ℤ) → IsAnswer act y (answer_of held act y)
is_answer held (Act.Take (Taken.Local x) kind) y = tt
is_answer held _ y = refl

pub record GoesPast {A : Type 0} (d : ℕ) (ys : List ℤ) (o : Outcome) (s : State) (o' : Out A) : Type 0 where
  pub grows : Grows s (state_of o')
  pub comes : Comes o ys s.events (state_of o').events
  pub same : NoMore o d ys → o' ≡ over o (with_more d ys s)

abbrev pub GoesOn : {A : Type 0} → ℕ → List ℤ → Out A → Out A → Type 0
GoesOn d ys (go x s) o' = o' ≡ go x (with_more d ys s)
GoesOn d ys (over o s) o' = GoesPast d ys o s o'

-- the same events and trace, and more is given up
record Behind (s t : State) : Type 0 where
  more : List GivenUp
  events : t.events ≡ s.events
  trace : t.trace ≡ s.trace
  given : t.given_up ≡ s.given_up ++ more

module _ (d : ℕ) (ys : List ℤ) where
  abbrev pub Going : Bool → (A : Type 0) → Run A → Type 0
  Going b A m = Growing b A m × ((s : State) → GoesOn d ys (m s) (m (with_more d ys s)))

  past_then : {A B : Type 0} (o : Outcome) (s : State) (o' : Out A) (g : A → Run B) → GoesPast d ys o s o' → ((x : A) → Growing false B (g x)) → GoesPast d ys o s (then_on o' g)
  past_then o s (go x t) g h k = record {
    grows = grows_on s t (state_of (g x t)) h.grows (k x t);
    comes = comes_on o ys s.events t.events (state_of (g x t)).events h.comes (k x t).events;
    same = λ n. ap (λ z. then_on z g) (h.same n);
  }
  past_then o s (over o2 t) g h k = record { grows = h.grows; comes = h.comes; same = λ n. ap (λ z. then_on z g) (h.same n) }

  goes_then : {A B : Type 0} (o o' : Out A) (g g' : A → Run B) → GoesOn d ys o o' → ((x : A) → Growing false B (g' x)) → ((x : A) (s : State) → GoesOn d ys (g x s) (g' x (with_more d ys s))) → GoesOn d ys (then_on o g) (then_on o' g')
  goes_then (go x s) o' g g' h k l = subst (λ z. GoesOn d ys (g x s) (then_on z g')) (sym h) (l x s)
  goes_then (over o s) o' g g' h k l = past_then o s o' g' h k

  past_entered : {A : Type 0} (m : Run A) (s : State) → Growing false A m → (k : ℕ) → k ≡ d → GoesPast d ys spent s (then_on (enters_with k (with_more d ys s)) (λ _. m))
  past_entered m s h zero e = record { grows = grows_refl s; comes = tt; same = λ n. refl }
  past_entered m s h (suc k) e = record { grows = h (record (with_more d ys s) { fuel = k }); comes = tt; same = λ n. absurd (omega arith) }

  goes_entered : {A : Type 0} (n : ℕ) (m : Run A) (s : State) → Going false A m → GoesOn d ys (then_on (enters_with n s) (λ _. m)) (then_on (enters_with (n + d) (with_more d ys s)) (λ _. m))
  goes_entered zero m s h = let z : zero + d ≡ d = omega arith in rw z (past_entered m s h.0 d refl)
  goes_entered (suc n) m s h = let z : suc n + d ≡ suc (n + d) = omega arith in rw z (h.1 (record s { fuel = n }))

  past_event : (zs : List ℤ) → zs ≡ ys → (site : Site) (act : Act) (s : State) → GoesPast d ys (wants (event_of site act (pos 0))) s (happens zs site act (with_more d ys s))
  past_event [] e site act s = record { grows = grows_refl s; comes = subst (λ l. Comes (wants (event_of site act (pos 0))) l s.events s.events) e tt; same = λ n. refl }
  past_event (z ∷ zs) e site act s = record {
    grows = one_more (event_of site act (answer_of (value_of s) act z)) s [];
    comes = subst (λ l. Comes (wants (event_of site act (pos 0))) l s.events (s.events ++ event_of site act (answer_of (value_of s) act z) ∷ [])) e
        (record { answer = answer_of (value_of s) act z; is = is_answer (value_of s) act z; events = prefix_refl _ });
    same = λ n. absurd (cc);
  }

  goes_event : (xs : List ℤ) (site : Site) (act : Act) (s : State) → GoesOn d ys (happens xs site act s) (happens (xs ++ ys) site act (with_more d ys s))
  goes_event [] site act s = past_event ys refl site act s
  goes_event (x ∷ xs) site act s = refl

  goes_turn : (fl : Flow) (m m' : Run Flow) (s : State) → GoesOn d ys (m s) (m' (with_more d ys s)) → GoesOn d ys (on_turn fl m s) (on_turn fl m' (with_more d ys s))
  goes_turn broken m m' s h = refl
  goes_turn (returned site v) m m' s h = refl
  goes_turn _ m m' s h = h

  goes_cond : {A : Type 0} (b : Bool) (m m' n n' : Run A) (s : State) → GoesOn d ys (m s) (m' (with_more d ys s)) → GoesOn d ys (n s) (n' (with_more d ys s)) → GoesOn d ys (cond b m n s) (cond b m' n' (with_more d ys s))
  goes_cond true m m' n n' s h k = h
  goes_cond false m m' n n' s h k = k

  past_turns : (test : Run Bool) (step : Step) (body : Run Flow) → Growing false Bool test → Growing false (Unit {0}) step → Growing false Flow body → (s : State) (k : ℕ) → k ≡ d → GoesPast d ys spent s (turns k test step body (with_more d ys s))
  past_turns test step body ht hs hb s zero e = record { grows = grows_refl s; comes = tt; same = λ n. refl }
  past_turns test step body ht hs hb s (suc k) e = record { grows = grows_turns (suc k) test step body ht hs hb (with_more d ys s); comes = tt; same = λ n. absurd (omega arith) }

  goes_turns : (n : ℕ) (test : Run Bool) (step : Step) (body : Run Flow) → Going false Bool test → Going false (Unit {0}) step → Going false Flow body → (s : State)
      → GoesOn d ys (turns n test step body s) (turns (n + d) test step body (with_more d ys s))
  goes_turns zero test step body ht hs hb s = let z : zero + d ≡ d = omega arith in rw z (past_turns test step body ht.0 hs.0 hb.0 s d refl)
  goes_turns (suc n) test step body ht hs hb s = let z : suc n + d ≡ suc (n + d) = omega arith in rw z
      (goes_then (test s) (test (with_more d ys s)) _ _ (ht.1 s)
      (λ b. grows_cond b _ (give next) (λ t. grows_then t (body t) _ (hb.0 t) grown) (λ t. grows_refl t))
      (λ b t. goes_cond b _ _ (give next) (give next) t (goes_then (body t) (body (with_more d ys t)) _ _ (hb.1 t) grown (λ fl u. goes_turn fl _ _ u (again (goes_turns n test step body ht hs hb) u))) refl))
    where
      grown : (fl : Flow) → Growing false Flow (on_turn fl (step >> turns (n + d) test step body))
      grown fl = grows_turn fl (step >> turns (n + d) test step body) (λ u. grows_then u (step u) (λ _. turns (n + d) test step body) (hs.0 u) (λ _. grows_turns (n + d) test step body ht.0 hs.0 hb.0))

      again : ((t : State) → GoesOn d ys (turns n test step body t) (turns (n + d) test step body (with_more d ys t))) → (u : State) → GoesOn d ys ((step >> turns n test step body) u) ((step >> turns (n + d) test step body) (with_more d ys u))
      again ih u = goes_then (step u) (step (with_more d ys u)) (λ _. turns n test step body) (λ _. turns (n + d) test step body) (hs.1 u) (λ _. grows_turns (n + d) test step body ht.0 hs.0 hb.0) (λ _ t. ih t)

  -- what is done to the state after a run
  module _ {A : Type 0} (W : Out A → Out A) (w : State → State) (on_go : (x : A) (s : State) → W (go x s) ≡ go x (w s)) (on_over : (o : Outcome) (s : State) → W (over o s) ≡ over o s)
      (same : (o : Out A) → Behind (state_of o) (state_of (W o))) (commutes : (s : State) → w (with_more d ys s) ≡ with_more d ys (w s)) where
    goes_behind : (o o' : Out A) → GoesOn d ys o o' → GoesOn d ys (W o) (W o')
    goes_behind (go x s) o' h = rw (on_go x s) (ap W h ∙ on_go x (with_more d ys s) ∙ ap (go x) (commutes s))
    goes_behind (over o s) o' h = rw (on_over o s) (record {
      grows = gives_more s (state_of o') (state_of (W o')) (same o').more h.grows (same o').events (same o').trace (same o').given;
      comes = rw ((same o').events) h.comes;
      same = λ n. ap W (h.same n) ∙ on_over o (with_more d ys s);
    })

  goes_temporaries : {A : Type 0} (n : ℕ) (o o' : Out A) → GoesOn d ys o o' → GoesOn d ys (ends_temporaries n o) (ends_temporaries n o')
  goes_temporaries n o o' h = goes_behind (ends_temporaries n) (λ s. state_of (ends_temporaries n (go (pos 0) s))) (λ x s. refl) (λ o s. refl) (same n) (λ s. refl) o o' h
    where
      same : {A : Type 0} (n : ℕ) (o : Out A) → Behind (state_of o) (state_of (ends_temporaries n o))
      same n (go x s) = record { more = all_released (drop n s.frame.temporaries); events = refl; trace = refl; given = refl }
      same n (over o s) = record { more = []; events = refl; trace = refl; given = sym (append-nil s.given_up) }

  goes_variables : {A : Type 0} (n : ℕ) (o o' : Out A) → GoesOn d ys o o' → GoesOn d ys (ends_variables n o) (ends_variables n o')
  goes_variables n o o' h = goes_behind (ends_variables n) (λ s. state_of (ends_variables n (go (pos 0) s))) (λ x s. refl) (λ o s. refl) (same n) (λ s. refl) o o' h
    where
      same : {A : Type 0} (n : ℕ) (o : Out A) → Behind (state_of o) (state_of (ends_variables n o))
      same n (go x s) = record { more = all_released (pointers_among (drop n s.frame.variables)); events = refl; trace = refl; given = refl }
      same n (over o s) = record { more = []; events = refl; trace = refl; given = sym (append-nil s.given_up) }

  goes_back : {A : Type 0} (caller : Frame) (others : List Frame) (o o' : Out A) → GoesOn d ys o o' → GoesOn d ys (back_in caller others o) (back_in caller others o')
  goes_back caller others o o' h = goes_behind (back_in caller others) (λ s. state_of (back_in caller others (go (pos 0) s))) (λ x s. refl) (λ o s. refl) (same caller others) (λ s. refl) o o' h
    where
      same : {A : Type 0} (caller : Frame) (others : List Frame) (o : Out A) → Behind (state_of o) (state_of (back_in caller others o))
      same caller others (go x s) = record { more = []; events = refl; trace = refl; given = sym (append-nil s.given_up) }
      same caller others (over o s) = record { more = []; events = refl; trace = refl; given = sym (append-nil s.given_up) }

  pub going : Closed false Going
  going = record {
    eases = λ A m h. h;
    give = λ A x. (growing.give A x, λ s. refl);
    stop = λ A trap site. (growing.stop A trap site, λ s. record { grows = grows_refl s; comes = tt; same = λ n. refl });
    enters = λ A m h. (growing.enters A m h.0, λ s. goes_entered s.fuel m s h);
    event = λ site act other. (growing.event site act other, λ s. goes_event s.answers site act s);
    events = (growing.events, λ s. refl);
    values = (growing.values, λ s. refl);
    trace = λ u token site. (growing.trace u token site, λ s. refl);
    frame = λ f. (growing.frame f, λ s. refl);
    given = λ more other. (growing.given more other, λ s. refl);
    binds = λ A B m g hm hg. (growing.binds A B m g hm.0 (λ x. (hg x).0), λ s. goes_then (m s) (m (with_more d ys s)) g g (hm.1 s) (λ x. (hg x).0) (λ x t. (hg x).1 t));
    scope = λ A m h. (growing.scope A m h.0, λ s. goes_temporaries (length s.frame.temporaries) (m s) (m (with_more d ys s)) (h.1 s));
    block = λ A m h. (growing.block A m h.0, λ s. goes_variables (length s.frame.variables) (m s) (m (with_more d ys s)) (h.1 s));
    call = λ A n m h. (growing.call A n m h.0, λ s. goes_back (without_temporaries n s.frame) s.callers (m (with_frame (without_temporaries n s.frame) s)) (m (with_more d ys (with_frame (without_temporaries n s.frame) s))) (h.1 (with_frame (without_temporaries n s.frame) s)));
    loops = λ test step body ht hs hb. (growing.loops test step body ht.0 hs.0 hb.0, λ s. goes_turns s.fuel test step body ht hs hb s);
    frees = λ apart m s a place _ _. absurd (cc);
  }
