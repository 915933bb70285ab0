-- A legal history with a path of each thread is a run by turns, and the other way round.
use Rattle.sharc_code.proofs.{Imports.{◌≡◌, ℕ, ◌+◌, ◌≤◌, true, false, cond, ◌||◌, List, [], ◌∷◌, ◌++◌, Option, Some, None, refl, sym, ap, ◌∙◌, subst, arith, eqb-true, append-nil, nat_eq, WordEvent, words_after, event_of, LegalHistory, HistoryLaws, OneThread, Bounds, Turn, turn_with, result_of, step_in as step_of, event_list, IsOf, word_events, turns_of, IsNext, IsPath, made_in, is_started, was_started, CheckedFrom, Global, words_now, state_now, made_now, after_turn, at, Answered, MayTurn, IsRun, Said, with_told, paired, told_by, erase, said_by, path_says, pairs_of, made_event, turn_by, scheduled, threads_of, eq_refl}, Places.put_all}
use Rattle.sharc_code.specs.Runs.{state_after}

-- ---- one event more
words_push : (e : Option WordEvent) (words : List ℕ) → words_after words (event_list e) ≡ words_now words e
words_push None words = refl
words_push (Some e) words = refl

-- ---- runs in parts
module _ {S E : Type 0} (b : Bounds) (m : OneThread S E) where
  pub at_join : (from : Global S) (later earlier : List Turn) → at b m from (later ++ earlier) ≡ at b m (at b m from earlier) later
  at_join from [] earlier = refl
  at_join from (turn ∷ later) earlier = ap (λ g. after_turn b m g turn) (at_join from later earlier)

  pub runs_join : (from : Global S) (later earlier : List Turn) → IsRun b m from earlier → IsRun b m (at b m from earlier) later → IsRun b m from (later ++ earlier)
  runs_join from [] earlier h k = h
  runs_join from (turn ∷ later) earlier h k = (runs_join from later earlier h k.0, subst (λ g. MayTurn b m g turn) (sym (at_join from later earlier)) k.1)

  pub runs_part : (from : Global S) (later earlier : List Turn) → IsRun b m from (later ++ earlier) → IsRun b m from earlier × IsRun b m (at b m from earlier) later
  runs_part from [] earlier h = (h, tt)
  runs_part from (turn ∷ later) earlier h = let r = runs_part from later earlier h.0 in (r.0, (r.1, subst (λ g. MayTurn b m g turn) (at_join from later earlier) h.1))

module _ {S E : Type 0} (laws : HistoryLaws) (b : Bounds) (m : OneThread S E) (from : Global S) where
  legal_answered : (opening : List ℕ) (events : List WordEvent) (e : Option WordEvent) → LegalHistory opening (events ++ event_list e) → Answered (words_after opening events) e
  legal_answered opening events None h = tt
  legal_answered opening events (Some e) h = ((laws.goes_on opening events e).0 h).1

  answered_legal : (opening : List ℕ) (events : List WordEvent) (e : Option WordEvent) → LegalHistory opening events → Answered (words_after opening events) e → LegalHistory opening (events ++ event_list e)
  answered_legal opening events None h a = subst (LegalHistory opening) (sym (append-nil events)) h
  answered_legal opening events (Some e) h a = (laws.goes_on opening events e).1 (h, a)

  -- ---- the parts of a place
  pub words_are : (turns : List Turn) → (at b m from turns).words ≡ words_after from.words (word_events turns)
  words_are [] = refl
  words_are (turn ∷ earlier) =
      ap (λ words. words_now words turn.event) (words_are earlier)
      ∙ sym (words_push turn.event (words_after from.words (word_events earlier)))
      ∙ sym (laws.parts from.words (word_events earlier) (event_list turn.event))

  pub threads_are : (turns : List Turn) (t : ℕ) → (at b m from turns).threads t ≡ state_after m (from.threads t) (turns_of t turns)
  threads_are [] t = refl
  threads_are (turn ∷ earlier) t =
      let g = at b m from earlier in
      let r = result_of turn.event in
      let mine = turns_of t earlier in
      elim (nat_eq t turn.thread) as (λ x. nat_eq t turn.thread ≡ x → cond x (m.goes (g.threads turn.thread) r) (g.threads t) ≡ state_after m (from.threads t) (cond x (turn ∷ mine) mine)) [
        | true ↦ λ e. ap (λ s. m.goes s r) (ap g.threads (sym (eqb-true t turn.thread e)) ∙ threads_are earlier t)
        | false ↦ λ e. threads_are earlier t
      ] refl

  pub started_are : (turns : List Turn) (t : ℕ) → (at b m from turns).started t ≡ was_started b from t turns
  started_are [] t = refl
  started_are (turn ∷ earlier) t =
      ap (λ words. is_started b words t || (at b m from earlier).started t) (words_are (turn ∷ earlier))
      ∙ ap (λ x. is_started b (words_after from.words (word_events (turn ∷ earlier))) t || x) (started_are earlier t)

  pub made_are : (turns : List Turn) (t : ℕ) → (at b m from turns).made t ≡ from.made t + made_in m (from.threads t) (turns_of t turns)
  made_are [] t = omega arith
  made_are (turn ∷ earlier) t =
      let g = at b m from earlier in
      let mine = turns_of t earlier in
      let s = from.threads t in
      let old = made_are earlier t in
      let there = threads_are earlier t in
      elim (nat_eq t turn.thread) as (λ x. nat_eq t turn.thread ≡ x → cond x (made_now m g turn) (g.made t) ≡ from.made t + made_in m s (cond x (turn ∷ mine) mine)) [
        | true ↦ λ e.
            let q = eqb-true t turn.thread e in
            let same : g.made turn.thread ≡ g.made t = ap g.made (sym q) in
            let counted : m.counts (state_now m g turn) ≡ m.counts (state_after m s (turn ∷ mine)) = ap (λ x. m.counts (m.goes x (result_of turn.event))) (ap g.threads (sym q) ∙ there) in
            omega arith
        | false ↦ λ e. old
      ] refl

  -- ---- from histories and paths to turns
  path_earlier : (t : ℕ) (turn : Turn) (earlier : List Turn) → IsPath m (from.threads t) (turns_of t (turn ∷ earlier)) → IsPath m (from.threads t) (turns_of t earlier)
  path_earlier t turn earlier =
      let mine = turns_of t earlier in
      elim (nat_eq t turn.thread) as (λ x. IsPath m (from.threads t) (cond x (turn ∷ mine) mine) → IsPath m (from.threads t) mine) [ true ↦ λ h. h.0 | false ↦ λ h. h ]

  few_earlier : (t : ℕ) (turn : Turn) (earlier : List Turn) → from.made t + made_in m (from.threads t) (turns_of t (turn ∷ earlier)) ≤ b.limit → from.made t + made_in m (from.threads t) (turns_of t earlier) ≤ b.limit
  few_earlier t turn earlier =
      let mine = turns_of t earlier in
      elim (nat_eq t turn.thread) as (λ x. from.made t + made_in m (from.threads t) (cond x (turn ∷ mine) mine) ≤ b.limit → from.made t + made_in m (from.threads t) mine ≤ b.limit) [ true ↦ λ h. omega arith | false ↦ λ h. h ]

  checked_earlier : (turn : Turn) (earlier : List Turn) → CheckedFrom b m from (turn ∷ earlier) → CheckedFrom b m from earlier
  checked_earlier turn earlier h = record {
    legal = ((laws.join from.words (word_events earlier) (event_list turn.event)).0 h.legal).0;
    paths = λ t. path_earlier t turn earlier (h.paths t);
    begun = λ xs ys x is. h.begun (turn ∷ xs) ys x (ap (λ turns. turn ∷ turns) is);
    few = λ t. few_earlier t turn earlier (h.few t);
  }

  checked_may : (turn : Turn) (earlier : List Turn) → CheckedFrom b m from (turn ∷ earlier) → MayTurn b m (at b m from earlier) turn
  checked_may turn earlier h =
      let t = turn.thread in
      let g = at b m from earlier in
      let mine = turns_of t earlier in
      let own : IsPath m (from.threads t) (turn ∷ mine) = subst (λ x. IsPath m (from.threads t) (cond x (turn ∷ mine) mine)) (eq_refl t) (h.paths t) in
      let few : from.made t + made_in m (from.threads t) (turn ∷ mine) ≤ b.limit = subst (λ x. from.made t + made_in m (from.threads t) (cond x (turn ∷ mine) mine) ≤ b.limit) (eq_refl t) (h.few t) in
      let made = made_are earlier t in
      let counted : m.counts (state_now m g turn) ≡ m.counts (state_after m (from.threads t) (turn ∷ mine)) = ap (λ x. m.counts (m.goes x (result_of turn.event))) (threads_are earlier t) in
      record {
        started = started_are earlier t ∙ h.begun [] earlier turn refl;
        next = subst (λ s. IsNext m s turn) (sym (threads_are earlier t)) own.1;
        answered = subst (λ words. Answered words turn.event) (sym (words_are earlier)) (legal_answered from.words (word_events earlier) turn.event h.legal);
        room = omega arith;
      }

  pub checked_runs : (turns : List Turn) → CheckedFrom b m from turns → IsRun b m from turns
  checked_runs [] h = tt
  checked_runs (turn ∷ earlier) h = (checked_runs earlier (checked_earlier turn earlier h), checked_may turn earlier h)

  -- ---- and back
  path_push : (t : ℕ) (turn : Turn) (earlier : List Turn) → IsPath m (from.threads t) (turns_of t earlier) → IsNext m ((at b m from earlier).threads turn.thread) turn → IsPath m (from.threads t) (turns_of t (turn ∷ earlier))
  path_push t turn earlier h next =
      let mine = turns_of t earlier in
      elim (nat_eq t turn.thread) as (λ x. nat_eq t turn.thread ≡ x → IsPath m (from.threads t) (cond x (turn ∷ mine) mine)) [
        | true ↦ λ e. (h, subst (λ s. IsNext m s turn) (ap (at b m from earlier).threads (sym (eqb-true t turn.thread e)) ∙ threads_are earlier t) next)
        | false ↦ λ e. h
      ] refl

  begun_push : (turn : Turn) (earlier : List Turn) → ((xs ys : List Turn) (x : Turn) → earlier ≡ xs ++ x ∷ ys → was_started b from x.thread ys ≡ true) → was_started b from turn.thread earlier ≡ true
      → (xs ys : List Turn) (x : Turn) → turn ∷ earlier ≡ xs ++ x ∷ ys → was_started b from x.thread ys ≡ true
  begun_push turn earlier old new [] ys x is =
      let same : turn ≡ x = cc in
      let rest : earlier ≡ ys = cc in
      subst (λ (x : Turn). was_started b from x.thread ys ≡ true) same (subst (λ ys. was_started b from turn.thread ys ≡ true) rest new)
  begun_push turn earlier old new (y ∷ xs) ys x is = old xs ys x (cc)

  pub runs_checked : ((t : ℕ) → from.made t ≤ b.limit) → (turns : List Turn) → IsRun b m from turns → CheckedFrom b m from turns
  runs_checked fits [] h = record {
    legal = laws.nothing from.words;
    paths = λ t. tt;
    begun = none;
    few = λ t. let f = fits t in omega arith;
  }
    where
      none : (xs ys : List Turn) (x : Turn) → [] ≡ xs ++ x ∷ ys → was_started b from x.thread ys ≡ true
      none [] ys x is = absurd cc
      none (z ∷ zs) ys x is = absurd cc
  runs_checked fits (turn ∷ earlier) h =
      let old = runs_checked fits earlier h.0 in
      let g = at b m from earlier in
      let t = turn.thread in
      record {
        legal = answered_legal from.words (word_events earlier) turn.event old.legal (subst (λ words. Answered words turn.event) (words_are earlier) h.1.answered);
        paths = λ u. path_push u turn earlier (old.paths u) h.1.next;
        begun = begun_push turn earlier old.begun (sym (started_are earlier t) ∙ h.1.started);
        few = λ u. subst (λ n. n ≤ b.limit) (made_are (turn ∷ earlier) u)
            (put_all (λ u n. n ≤ b.limit) g.made t (made_now m g turn) h.1.room (λ u _. subst (λ n. n ≤ b.limit) (sym (made_are earlier u)) (old.few u)) u);
      }

  pub room : ((t : ℕ) → from.made t ≤ b.limit) → (turns : List Turn) → IsRun b m from turns → (t : ℕ) → (at b m from turns).made t ≤ b.limit
  room fits [] h t = fits t
  room fits (turn ∷ earlier) h t =
      let g = at b m from earlier in
      put_all (λ u n. n ≤ b.limit) g.made turn.thread (made_now m g turn) h.1.room (λ u _. room fits earlier h.0 u) t

  -- ---- the source events of a run are by thread those of the paths
  pub erased : (turns : List Turn) (t : ℕ) → said_by t (erase b m from turns) ≡ path_says m t (from.threads t) (turns_of t turns) (pairs_of b m from t turns)
  erased [] t = refl
  erased (turn ∷ earlier) t =
      let g = at b m from earlier in
      let s0 = g.threads turn.thread in
      let r = result_of turn.event in
      let mine = turns_of t earlier in
      let ps = pairs_of b m from t earlier in
      let old = erase b m from earlier in
      let p = paired m old g turn in
      let said = told_by m old g turn in
      elim (nat_eq t turn.thread) as (λ x. nat_eq t turn.thread ≡ x → said_by t (with_told turn.thread said old) ≡ path_says m t (from.threads t) (cond x (turn ∷ mine) mine) (cond x (p ∷ ps) ps)) [
        | true ↦ λ e.
            let q = eqb-true t turn.thread e in
            let s : s0 ≡ state_after m (from.threads t) mine = ap g.threads (sym q) ∙ threads_are earlier t in
            told_same said t turn.thread old q ∙ ap (λ xs. with_told t said xs) (erased earlier t) ∙ ap (λ s. with_told t (m.says s r p) (path_says m t (from.threads t) mine ps)) s
        | false ↦ λ e. told_other said t turn.thread old e ∙ erased earlier t
      ] refl
    where
      told_same : (said : Option E) (t u : ℕ) (old : List (Said E)) → t ≡ u → said_by t (with_told u said old) ≡ with_told t said (said_by t old)
      told_same None t u old e = refl
      told_same (Some x) t u old e = subst (λ u. said_by t (with_told u (Some x) old) ≡ with_told t (Some x) (said_by t old)) e (rw (eq_refl t) refl)

      told_other : (said : Option E) (t u : ℕ) (old : List (Said E)) → nat_eq t u ≡ false → said_by t (with_told u said old) ≡ said_by t old
      told_other None t u old e = refl
      told_other (Some x) t u old e = rw e refl

  -- ---- a run is that of its schedule
  event_is : (t : ℕ) (words : List ℕ) (e : Option WordEvent) → IsOf t e → Answered words e → e ≡ made_event t words (step_of e)
  event_is t words None o a = refl
  event_is t words (Some e) o a = ap (λ n. Some (event_of n e.step e.result)) o ∙ ap (λ r. Some (event_of t e.step r)) a.result_is

  turn_is : (g : Global S) (turn : Turn) → MayTurn b m g turn → turn ≡ turn_by m g turn.thread
  turn_is g turn may =
      let e = event_is turn.thread g.words turn.event may.next.own may.answered ∙ ap (made_event turn.thread g.words) may.next.asks in
      ap (turn_with turn.thread) e

  pub is_scheduled : (turns : List Turn) → IsRun b m from turns → turns ≡ scheduled b m from (threads_of turns)
  is_scheduled [] h = refl
  is_scheduled (turn ∷ earlier) h =
      ap (λ x. x ∷ earlier) (turn_is (at b m from earlier) turn h.1)
      ∙ ap (λ xs. turn_by m (at b m from xs) turn.thread ∷ xs) (is_scheduled earlier h.0)
