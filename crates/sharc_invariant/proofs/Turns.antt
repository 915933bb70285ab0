-- A turn of a checked run, as what it makes of the whole machine.
use Rattle.sharc_invariant.proofs.Imports.{◌≡◌, ℕ, ◌+◌, ◌<◌, ◌||◌, List, Option, Some, None, refl, ap, ◌∙◌, subst, ◌≤◌, arith, length, slice_index, slice_set, WordStep, WordEvent, word_after, words_after_step, MayFollow, Code, Shape, Machine, StepTurn, Local, Asks, turn, after, counted, Turn, Global, put, MayTurn, after_turn, made_now, is_started, words_now, result_of, Answered, one_thread, bounds, put_same, made_turn, Targets, Labels, World, State, Turned, Silently, sym}
use Rattle.sharc_code.specs.Runs.{step_of}

no_step : (o : Option WordEvent) → step_of o ≡ None → o ≡ None
no_step None e = refl
no_step (Some x) e = absurd (cc)

pub some_step : (o : Option WordEvent) (s : WordStep) → step_of o ≡ Some s → (e : WordEvent) × ((o ≡ Some e) × (e.step ≡ s))
some_step None s h = absurd (cc)
some_step (Some e) s h = (e, (refl, (cc)))

module _ (code : Code) (s : Shape) (g : Global Machine) (x : Turn) (may : MayTurn bounds (one_thread code s) g x) where
  abbrev m : Machine
  m = g.threads x.thread

  abbrev build : Option WordEvent → StepTurn → Global Machine
  build e tr = record {
    words = words_now g.words e;
    threads = put g.threads x.thread (after tr (result_of e));
    started = λ u. is_started bounds (words_now g.words e) u || g.started u;
    made = put g.made x.thread (g.made x.thread + counted (after tr (result_of e)).at.state);
  }

  abbrev step : WordStep → ℕ → (ℕ → Machine) → Global Machine
  step st r go = made_turn g x.thread (words_after_step g.words st) (go r)

  pub local_turn : (m' : Machine) → turn code s m ≡ Local m' → after_turn bounds (one_thread code s) g x ≡ made_turn g x.thread g.words m'
  local_turn m' e =
      let none : x.event ≡ None = no_step x.event (may.next.asks ∙ ap (λ (tr : StepTurn). Rattle.sharc_code.specs.Path.asked_by tr) e) in
      ap (build x.event) e ∙ ap (λ o. build o (Local m')) none

  pub asks_turn : (st : WordStep) (go : ℕ → Machine) → turn code s m ≡ Asks st go
      → (after_turn bounds (one_thread code s) g x ≡ made_turn g x.thread (slice_set g.words st.word (word_after st.op (slice_index g.words st.word))) (go (slice_index g.words st.word))) × (st.word < length g.words)
  asks_turn st go e =
      let some = some_step x.event st (may.next.asks ∙ ap (λ (tr : StepTurn). Rattle.sharc_code.specs.Path.asked_by tr) e) in
      let ev = some.0 in
      let a : MayFollow g.words ev = subst (Answered g.words) some.1.0 may.answered in
      let q : ev.step ≡ st = some.1.1 in
      let r : ev.result ≡ slice_index g.words st.word = a.result_is ∙ ap (λ (y : WordStep). slice_index g.words y.word) q in (
        ap (build x.event) e ∙ ap (λ o. build o (Asks st go)) some.1.0 ∙ ap (λ y. step y ev.result go) q ∙ ap (λ y. step st y go) r,
        subst (λ (y : WordStep). y.word < length g.words) q a.on_a_word,
      )

  -- no thread makes more events than it may
  pub room_of : (words : List ℕ) (m' : Machine) → after_turn bounds (one_thread code s) g x ≡ made_turn g x.thread words m' → g.made x.thread + counted m'.at.state ≤ 100000000
  room_of words m' e =
      let a : (after_turn bounds (one_thread code s) g x).made x.thread ≡ made_now (one_thread code s) g x = put_same g.made x.thread (made_now (one_thread code s) g x) in
      let b : (made_turn g x.thread words m').made x.thread ≡ g.made x.thread + counted m'.at.state = put_same g.made x.thread (g.made x.thread + counted m'.at.state) in
      let c : (after_turn bounds (one_thread code s) g x).made x.thread ≡ (made_turn g x.thread words m').made x.thread = ap (λ (y : Global Machine). y.made x.thread) e in
      let d = may.room in
      omega arith

-- a turn of which the source sees nothing
pub unseen : (x : Targets) (code : Code) (s : Shape) (ls : Labels) (g : Global Machine) (world : World) (tr : Turn) (g' : Global Machine) → after_turn bounds (one_thread code s) g tr ≡ g' → State x code s ls g' world → Turned x code s ls g world tr
unseen x code s ls g world tr g' e st = (world, subst (λ y. State x code s ls y world) (sym e) st, Silently (record { obj = refl; mutex = refl; passed = λ o p u b q. q; sole = λ u r e. (e, refl) }))
