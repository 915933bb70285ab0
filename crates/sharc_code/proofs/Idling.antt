-- A run in which no thread makes an event leaves the words as they are, and each thread that made a turn waits.
use Rattle.sharc_code.proofs.{Imports.{◌≡◌, ℕ, ◌≤◌, true, false, List, [], ◌∷◌, Option, Some, None, cond, refl, sym, ap, ◌∙◌, subst, arith, ◌⊎◌, inl, inr, ⊎_elim, eqb-true, cases_eq, nat_eq, slice_index, WordStep, WordEvent, Code, Shape, TurnState, Runs, Tries, Stopped, Ended, Machine, Act, Local, Asks, turn, after, asked_by, counted, Turn, IsRun, MayTurn, at, put, words_now, state_now, made_now, result_of, step_in as step_of, Answered, turns_of, Global, waits_now, one_thread, bounds, found_now, behind, IsIdle}, Places.{put_same, put_other}, Failing.failed_stays, Trying.waits_where}

uncounted : (state : TurnState) → counted state ≡ 0 → state ≡ Tries
uncounted Runs e = absurd (omega (arith, e))
uncounted Tries e = refl
uncounted Stopped e = absurd (omega (arith, e))
uncounted Ended e = absurd (omega (arith, e))

-- a turn that was made found what the word held
found_is : (words : List ℕ) (a : Act) (event : Option WordEvent) → step_of event ≡ asked_by a → Answered words event → after a (result_of event) ≡ after a (found_now words a)
found_is words (Local m) event asks answered = refl
found_is words (Asks step go) None asks answered = absurd (let f : None ≡ Some step = asks in cc)
found_is words (Asks step go) (Some event) asks answered =
    let same : event.step ≡ step = cc in
    ap go (answered.result_is ∙ ap (λ (x : WordStep). slice_index words x.word) same)

-- the turns of others are not those of a thread
not_of : (t : ℕ) (one : Turn) (earlier : List Turn) → (t ≡ one.thread → ⊥) → turns_of t (one ∷ earlier) ≡ turns_of t earlier
not_of t one earlier ne = elim (nat_eq t one.thread) as (λ b. nat_eq t one.thread ≡ b → cond b (one ∷ turns_of t earlier) (turns_of t earlier) ≡ turns_of t earlier) [
  | true ↦ λ e. absurd (ne (eqb-true t one.thread e))
  | false ↦ λ e. refl
] refl

module _ (code : Code) (s : Shape) (g : Global Machine) where
  there : List Turn → Global Machine
  there turns = at bounds (one_thread code s) g turns

  -- a thread waits here, or made no turn and is where it was
  Idles : List Turn → ℕ → Type 0
  Idles turns t = (waits_now code s g.words (g.threads t) ≡ true) ⊎ (((there turns).threads t ≡ g.threads t) × (turns_of t turns ≡ []))

  record Idle (turns : List Turn) : Type 0 where
    words : (there turns).words ≡ g.words
    each : (t : ℕ) → Idles turns t

  -- events grow
  grows : (turns : List Turn) (t : ℕ) → g.made t ≤ (there turns).made t
  unfolding there
  grows [] t = omega arith
  grows (one ∷ earlier) t =
      let k = one.thread in
      let before = at bounds (one_thread code s) g earlier in
      let old = grows earlier t in
      ⊎_elim
      (λ (e : t ≡ k). let same : (there (one ∷ earlier)).made t ≡ made_now (one_thread code s) before one = ap (put before.made k (made_now (one_thread code s) before one)) e ∙ put_same before.made k (made_now (one_thread code s) before one) in
      let f : before.made t ≡ before.made k = ap before.made e in
      omega (arith, old, same, f))
      (λ (ne : t ≡ k → ⊥). let same : (there (one ∷ earlier)).made t ≡ before.made t = put_other before.made k t (made_now (one_thread code s) before one) ne in omega (arith, old, same))
      (cases_eq t k)

  idle_turn : (one : Turn) (earlier : List Turn) → IsRun bounds (one_thread code s) g (one ∷ earlier) → ((t : ℕ) → (there (one ∷ earlier)).made t ≤ g.made t) → Idle earlier → Idle (one ∷ earlier)
  unfolding there Idles
  idle_turn one earlier run none idle =
      let k = one.thread in
      let before = at bounds (one_thread code s) g earlier in
      let m = before.threads k in
      let may : MayTurn bounds (one_thread code s) before one = run.1 in
      let same : (there (one ∷ earlier)).made k ≡ made_now (one_thread code s) before one = put_same before.made k (made_now (one_thread code s) before one) in
      let quiet : counted (state_now (one_thread code s) before one).at.state ≡ 0 = omega (arith, none k, same, grows earlier k) in
      let tries : (after (turn code s m) (result_of one.event)).at.state ≡ Tries = uncounted (state_now (one_thread code s) before one).at.state quiet in
      let stays : words_now before.words one.event ≡ before.words = failed_stays code s before.words m one.event may.next.asks may.answered tries in
      let waits : ((before.threads k ≡ g.threads k) × (turns_of k earlier ≡ [])) → waits_now code s g.words (g.threads k) ≡ true =
      λ at_start.
      let found : after (turn code s m) (result_of one.event) ≡ behind code s before.words m = found_is before.words (turn code s m) one.event may.next.asks may.answered in
      let here : waits_now code s before.words m ≡ true = (waits_where code s before.words m may.next.runs).1 (ap (λ (x : Machine). x.at.state) (sym found) ∙ tries) in
      subst (λ (ws : List ℕ). waits_now code s ws (g.threads k) ≡ true) idle.words (subst (λ (x : Machine). waits_now code s before.words x ≡ true) at_start.0 here) in
      let mine : waits_now code s g.words (g.threads k) ≡ true = ⊎_elim (λ w. w) waits (idle.each k) in
      record {
        words = stays ∙ idle.words;
        each = λ t.
            ⊎_elim
            (λ (e : t ≡ k). inl (ap (λ j. waits_now code s g.words (g.threads j)) e ∙ mine))
            (λ (ne : t ≡ k → ⊥).
            ⊎_elim (λ w. inl w)
            (λ (h : (before.threads t ≡ g.threads t) × (turns_of t earlier ≡ [])). inr (put_other before.threads k t (state_now (one_thread code s) before one) ne ∙ h.0, not_of t one earlier ne ∙ h.1))
            (idle.each t))
            (cases_eq t k);
      }

  less_before : (one : Turn) (earlier : List Turn) → ((t : ℕ) → (there (one ∷ earlier)).made t ≤ g.made t) → (t : ℕ) → (there earlier).made t ≤ g.made t
  unfolding there
  less_before one earlier none t =
      let k = one.thread in
      let before = at bounds (one_thread code s) g earlier in
      ⊎_elim
      (λ (e : t ≡ k). let same : (there (one ∷ earlier)).made t ≡ made_now (one_thread code s) before one = ap (put before.made k (made_now (one_thread code s) before one)) e ∙ put_same before.made k (made_now (one_thread code s) before one) in
      let f : before.made t ≡ before.made k = ap before.made e in
      omega (arith, none t, same, f))
      (λ (ne : t ≡ k → ⊥). let same : (there (one ∷ earlier)).made t ≡ before.made t = put_other before.made k t (made_now (one_thread code s) before one) ne in omega (arith, none t, same))
      (cases_eq t k)

  all_idle : (turns : List Turn) → IsRun bounds (one_thread code s) g turns → ((t : ℕ) → (there turns).made t ≤ g.made t) → Idle turns
  unfolding there Idles
  all_idle [] run none = record { words = refl; each = λ t. inr (refl, refl) }
  all_idle (one ∷ earlier) run none = idle_turn one earlier run none (all_idle earlier run.0 (less_before one earlier none))

  -- so each thread that made a turn waits
  pub idles : (turns : List Turn) → IsRun bounds (one_thread code s) g turns → ((t : ℕ) → (at bounds (one_thread code s) g turns).made t ≤ g.made t) → IsIdle code s g turns
  unfolding there Idles
  idles turns run none =
      let all = all_idle turns run none in
      record {
        words = all.words;
        waits = λ t ne. ⊎_elim (λ w. w) (λ h. absurd (ne h.1)) (all.each t);
      }
