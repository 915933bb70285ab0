-- The paths of some threads, whose word events are the parts of one history, are the parts of one list of turns with that history.
use Rattle.sharc_code.proofs.{Imports.{◌≡◌, ℕ, zero, suc, ◌+◌, ◌<◌, ◌≤◌, true, false, cond, List, [], ◌∷◌, ◌++◌, Option, Some, None, refl, sym, ap, ◌∙◌, subst, ⊎_elim, arith, eq-eqb, ne_eqb, cases_eq, cases_lt, or_right, append-nil, append_assoc, filter-append, nat_eq, WordEvent, words_after, LegalHistory, events_of, HistoryLaws, put, OneThread, made_in, Bounds, Turn, event_list, word_events, turns_of, IsPath, is_started, was_started, CheckedFrom, Global, Owns, Parts, Round, at, ne_eq, eq_refl}, ByTurns.{words_are, threads_are}, Places.{put_same, put_other, put_all}}
use Rattle.sharc_code.specs.Runs.{state_after}

-- ---- lists
same_end : {A : Type 0} (xs ys : List A) (x y : A) → xs ++ x ∷ [] ≡ ys ++ y ∷ [] → (xs ≡ ys) × (x ≡ y)
same_end [] [] x y e = (refl, cc)
same_end [] (b ∷ []) x y e = absurd cc
same_end [] (b ∷ c ∷ ys) x y e = absurd cc
same_end (a ∷ []) [] x y e = absurd cc
same_end (a ∷ c ∷ xs) [] x y e = absurd cc
same_end (a ∷ xs) (b ∷ ys) x y e =
    let rest = same_end xs ys x y (cc) in
    let first : a ≡ b = cc in
    (ap (λ z. z ∷ xs) first ∙ ap (λ zs. b ∷ zs) rest.0, rest.1)

no_end : {A : Type 0} (xs : List A) (x : A) → [] ≡ xs ++ x ∷ [] → ⊥
no_end [] x e = cc
no_end (a ∷ xs) x e = cc

not_none : (later earlier : List Turn) (turn : Turn) → later ++ turn ∷ earlier ≡ [] → ⊥
not_none [] earlier turn e = cc
not_none (x ∷ later) earlier turn e = cc

-- the earliest first
abbrev chrono : List WordEvent → List WordEvent
chrono [] = []
chrono (e ∷ es) = chrono es ++ e ∷ []

chrono_front : (es : List WordEvent) (e : WordEvent) → chrono (es ++ e ∷ []) ≡ e ∷ chrono es
chrono_front [] e = refl
chrono_front (x ∷ es) e = ap (λ ys. ys ++ x ∷ []) (chrono_front es e)

chrono_of : (l : List WordEvent) → (es : List WordEvent) × (chrono es ≡ l)
chrono_of [] = ([], refl)
chrono_of (e ∷ l) = let r = chrono_of l in (r.0 ++ e ∷ [], chrono_front r.0 e ∙ ap (λ ys. e ∷ ys) r.1)

events_same : (t : ℕ) (l : List WordEvent) (e : WordEvent) → e.thread ≡ t → events_of t (l ++ e ∷ []) ≡ events_of t l ++ e ∷ []
events_same t l e is = rw (filter-append, eq-eqb e.thread t is)

events_other : (t : ℕ) (l : List WordEvent) (e : WordEvent) → (e.thread ≡ t → ⊥) → events_of t (l ++ e ∷ []) ≡ events_of t l
events_other t l e not = rw (filter-append, ne_eqb e.thread t not) (append-nil (events_of t l))

-- ---- turns
turns_of-append : (t : ℕ) (xs ys : List Turn) → turns_of t (xs ++ ys) ≡ turns_of t xs ++ turns_of t ys
turns_of-append t [] ys = refl
turns_of-append t (x ∷ xs) ys =
    let old = turns_of-append t xs ys in
    elim (nat_eq t x.thread) as (λ b. cond b (x ∷ turns_of t (xs ++ ys)) (turns_of t (xs ++ ys)) ≡ cond b (x ∷ turns_of t xs) (turns_of t xs) ++ turns_of t ys) [ true ↦ ap (λ zs. x ∷ zs) old | false ↦ old ]

word_events-append : (xs ys : List Turn) → word_events (xs ++ ys) ≡ word_events ys ++ word_events xs
word_events-append [] ys = sym (append-nil (word_events ys))
word_events-append (x ∷ xs) ys = ap (λ zs. zs ++ event_list x.event) (word_events-append xs ys) ∙ append_assoc (word_events ys) (word_events xs) (event_list x.event)

owned : (t : ℕ) (xs : List Turn) → Owns t xs → turns_of t xs ≡ xs
owned t [] o = refl
owned t (x ∷ xs) o = rw (ap (nat_eq t) o.0 ∙ eq_refl t) (ap (λ zs. x ∷ zs) (owned t xs o.1))

not_owned : (t u : ℕ) (xs : List Turn) → (t ≡ u → ⊥) → Owns u xs → turns_of t xs ≡ []
not_owned t u [] ne o = refl
not_owned t u (x ∷ xs) ne o = rw (ap (nat_eq t) o.0 ∙ ne_eq t u ne) (not_owned t u xs ne o.1)

owns_parts : (t : ℕ) (xs ys : List Turn) → Owns t (xs ++ ys) → Owns t xs × Owns t ys
owns_parts t [] ys o = (tt, o)
owns_parts t (x ∷ xs) ys o = let r = owns_parts t xs ys o.1 in ((o.0, r.0), r.1)

-- the last word event of a path
pub record Split (e : WordEvent) (l : List WordEvent) (xs : List Turn) : Type 0 where
  pub later : List Turn
  pub turn : Turn
  pub rest : List Turn
  pub is : xs ≡ later ++ turn ∷ rest
  pub event : turn.event ≡ Some e
  pub silent : word_events later ≡ []
  pub before : word_events rest ≡ l

split : (e : WordEvent) (l : List WordEvent) (xs : List Turn) → word_events xs ≡ l ++ e ∷ [] → Split e l xs
split e l [] h = absurd (no_end l e h)
split e l (x ∷ xs) h = by (λ k. split e l xs k) x.event refl
  where
    by : (word_events xs ≡ l ++ e ∷ [] → Split e l xs) → (o : Option WordEvent) → x.event ≡ o → Split e l (x ∷ xs)
    by more None n =
        let s = more (sym (append-nil (word_events xs)) ∙ ap (λ o. word_events xs ++ event_list o) (sym n) ∙ h) in
        record {
          later = x ∷ s.later;
          turn = s.turn;
          rest = s.rest;
          is = ap (λ ys. x ∷ ys) s.is;
          event = s.event;
          silent = ap (λ o. word_events s.later ++ event_list o) n ∙ append-nil (word_events s.later) ∙ s.silent;
          before = s.before;
        }
    by more (Some f) n =
        let ends = same_end (word_events xs) l f e (ap (λ o. word_events xs ++ event_list o) (sym n) ∙ h) in
        record { later = []; turn = x; rest = xs; is = refl; event = n ∙ ap Some ends.1; silent = refl; before = ends.0 }

-- the silent turns of all threads
abbrev gather : ℕ → (ℕ → List Turn) → List Turn
gather zero paths = []
gather (suc n) paths = paths n ++ gather n paths

gather_above : (n : ℕ) (paths : ℕ → List Turn) → ((t : ℕ) → Owns t (paths t)) → (t : ℕ) → n ≤ t → turns_of t (gather n paths) ≡ []
gather_above zero paths o t le = refl
gather_above (suc n) paths o t le =
    turns_of-append t (paths n) (gather n paths)
    ∙ ap (λ xs. xs ++ turns_of t (gather n paths)) (not_owned t n (paths n) (λ e. omega arith) (o n))
    ∙ gather_above n paths o t (omega arith)

gather_below : (n : ℕ) (paths : ℕ → List Turn) → ((t : ℕ) → Owns t (paths t)) → (t : ℕ) → t < n → turns_of t (gather n paths) ≡ paths t
gather_below zero paths o t lt = absurd (omega arith)
gather_below (suc n) paths o t lt =
    turns_of-append t (paths n) (gather n paths)
    ∙ ⊎_elim
    (λ (e : t ≡ n).
    ap (λ xs. turns_of t (paths n) ++ xs) (gather_above n paths o t (omega arith)) ∙ append-nil (turns_of t (paths n))
    ∙ ap (λ n. turns_of t (paths n)) (sym e) ∙ owned t (paths t) (o t))
    (λ (ne : t ≡ n → ⊥). ap (λ xs. xs ++ turns_of t (gather n paths)) (not_owned t n (paths n) ne (o n)) ∙ gather_below n paths o t (omega arith))
    (cases_eq t n)

gather_silent : (n : ℕ) (paths : ℕ → List Turn) → ((t : ℕ) → word_events (paths t) ≡ []) → word_events (gather n paths) ≡ []
gather_silent zero paths h = refl
gather_silent (suc n) paths h = word_events-append (paths n) (gather n paths) ∙ ap (λ xs. word_events (gather n paths) ++ xs) (h n) ∙ append-nil (word_events (gather n paths)) ∙ gather_silent n paths h

-- ---- the merge, by the last event
pub record Merged (paths : ℕ → List Turn) (history : List WordEvent) : Type 0 where
  pub turns : List Turn
  pub parts : (t : ℕ) → turns_of t turns ≡ paths t
  pub events : word_events turns ≡ history

merge_by : (n : ℕ) (es : List WordEvent) (paths : ℕ → List Turn) → Parts n paths (chrono es) → Merged paths (chrono es)
merge_by n [] paths p = record {
  turns = gather n paths;
  parts = λ t. ⊎_elim
      (λ (lt : t < n). gather_below n paths p.own t lt)
      (λ (le : n ≤ t). gather_above n paths p.own t le ∙ sym (p.few t le))
      (cases_lt t n);
  events = gather_silent n paths p.events;
}
merge_by n (e ∷ es) paths p =
    let t = e.thread in
    let l = chrono es in
    let s = split e (events_of t l) (paths t) (p.events t ∙ events_same t l e refl) in
    let paths' : ℕ → List Turn = put paths t s.rest in
    let owns = owns_parts t s.later (s.turn ∷ s.rest) (subst (Owns t) s.is (p.own t)) in
    let p' : Parts n paths' l = record {
      events = put_all (λ u xs. word_events xs ≡ events_of u l) paths t s.rest s.before (λ u ne. p.events u ∙ events_other u l e (λ i. ne (sym i)));
      few = put_all (λ u xs. n ≤ u → xs ≡ []) paths t s.rest (λ le. absurd (not_none s.later s.rest s.turn (sym s.is ∙ p.few t le))) (λ u _ le. p.few u le);
      own = put_all Owns paths t s.rest owns.1.1 (λ u _. p.own u);
    } in
    let m = merge_by n es paths' p' in
    let all = s.later ++ s.turn ∷ m.turns in
    record {
      turns = all;
      parts = λ u. turns_of-append u s.later (s.turn ∷ m.turns) ∙ ⊎_elim
          (λ (i : u ≡ t).
          let here : turns_of t (s.turn ∷ m.turns) ≡ s.turn ∷ turns_of t m.turns = rw (ap (nat_eq t) owns.1.0 ∙ eq_refl t) refl in
          let mine : turns_of t s.later ++ turns_of t (s.turn ∷ m.turns) ≡ paths t =
          ap (λ xs. xs ++ turns_of t (s.turn ∷ m.turns)) (owned t s.later owns.0) ∙ ap (λ xs. s.later ++ xs) (here ∙ ap (λ xs. s.turn ∷ xs) (m.parts t ∙ put_same paths t s.rest)) ∙ sym s.is in
          subst (λ u. turns_of u s.later ++ turns_of u (s.turn ∷ m.turns) ≡ paths u) (sym i) mine)
          (λ (ne : u ≡ t → ⊥).
          let there : turns_of u (s.turn ∷ m.turns) ≡ turns_of u m.turns = rw (ap (nat_eq u) owns.1.0 ∙ ne_eq u t ne) refl in
          ap (λ xs. xs ++ turns_of u (s.turn ∷ m.turns)) (not_owned u t s.later ne owns.0) ∙ there ∙ m.parts u ∙ put_other paths t u s.rest ne)
          (cases_eq u t);
      events =
          word_events-append s.later (s.turn ∷ m.turns)
          ∙ ap (λ xs. word_events (s.turn ∷ m.turns) ++ xs) s.silent ∙ append-nil (word_events (s.turn ∷ m.turns))
          ∙ ap (λ o. word_events m.turns ++ event_list o) s.event ∙ ap (λ xs. xs ++ e ∷ []) m.events;
    }

pub merge : (n : ℕ) (paths : ℕ → List Turn) (history : List WordEvent) → Parts n paths history → Merged paths history
merge n paths history p =
    let r = chrono_of history in
    subst (Merged paths) r.1 (merge_by n r.0 paths (subst (Parts n paths) (sym r.1) p))

-- ---- a round is a part of a checked run
started_stays : {S : Type 0} (b : Bounds) (from : Global S) (t : ℕ) (turns : List Turn) → from.started t ≡ true → was_started b from t turns ≡ true
started_stays b from t [] e = e
started_stays b from t (turn ∷ earlier) e = or_right (is_started b (words_after from.words (word_events (turn ∷ earlier))) t) (was_started b from t earlier) (started_stays b from t earlier e)

stands : (later earlier : List Turn) (turn : Turn) → turns_of turn.thread (later ++ turn ∷ earlier) ≡ [] → ⊥
stands later earlier turn e =
    let t = turn.thread in
    let here : turns_of t (turn ∷ earlier) ≡ turn ∷ turns_of t earlier = rw (eq_refl t) refl in
    not_none (turns_of t later) (turns_of t earlier) turn (ap (λ xs. turns_of t later ++ xs) (sym here) ∙ sym (turns_of-append t later (turn ∷ earlier)) ∙ e)

pub round_checked : {S E : Type 0} (b : Bounds) (m : OneThread S E) (from : Global S) (paths : ℕ → List Turn) (history : List WordEvent) (r : Round b m from paths history) (x : Merged paths history) → CheckedFrom b m from x.turns
round_checked b m from paths history r x = record {
  legal = subst (LegalHistory from.words) (sym x.events) r.legal;
  paths = λ t. subst (IsPath m (from.threads t)) (sym (x.parts t)) (r.goes t);
  begun = λ later earlier turn is.
      let t = turn.thread in
      started_stays b from t earlier (r.started t (λ e. stands later earlier turn (ap (turns_of t) (sym is) ∙ x.parts t ∙ e)));
  few = λ t. subst (λ xs. from.made t + made_in m (from.threads t) xs ≤ b.limit) (sym (x.parts t)) (r.room t);
}

-- where a round leads
pub round_words : {S E : Type 0} (laws : HistoryLaws) (b : Bounds) (m : OneThread S E) (from : Global S) (paths : ℕ → List Turn) (history : List WordEvent) (x : Merged paths history) → (at b m from x.turns).words ≡ words_after from.words history
round_words laws b m from paths history x = words_are laws b m from x.turns ∙ ap (words_after from.words) x.events

pub round_threads : {S E : Type 0} (laws : HistoryLaws) (b : Bounds) (m : OneThread S E) (from : Global S) (paths : ℕ → List Turn) (history : List WordEvent) (x : Merged paths history) (t : ℕ) → (at b m from x.turns).threads t ≡ state_after m (from.threads t) (paths t)
round_threads laws b m from paths history x t = threads_are laws b m from x.turns t ∙ ap (state_after m (from.threads t)) (x.parts t)
