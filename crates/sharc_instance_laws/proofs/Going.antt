-- A schedule of which each turn may be made gives a checked run, and a test of the place where it ends holds there: both by computing.
use Rattle.sharc_instance_laws.proofs.Imports.{◌≡◌, ℕ, zero, suc, ◌<◌, ◌≤◌, Bool, true, ◌&&◌, List, [], ◌∷◌, length, replicate, None, Some, refl, Option, nat_lt, nat_le, WordStep, SourceEvent, Code, Shape, Machine, opening_words, may_go, OneThread, Turn, Global, IsRun, MayTurn, IsOf, Answered, Owns, at, after_turn, made_event, made_now, opening_of, step_of, turn_by, bounds, one_thread, left, right, below, within}

-- ---- booleans
-- ---- one turn
abbrev has_word : List ℕ → Option WordStep → Bool
has_word words None = true
has_word words (Some step) = nat_lt step.word (length words)

abbrev may : Code → Shape → Global Machine → ℕ → Turn → Bool
may code s g t turn =
    (g.started t && may_go (g.threads t).at.state)
    && (has_word g.words ((one_thread code s).asks (g.threads t)) && nat_le (made_now (one_thread code s) g turn) 100000000)

steps_are : (t : ℕ) (words : List ℕ) (o : Option WordStep) → step_of (made_event t words o) ≡ o
steps_are t words None = refl
steps_are t words (Some step) = refl

are_own : (t : ℕ) (words : List ℕ) (o : Option WordStep) → IsOf t (made_event t words o)
are_own t words None = tt
are_own t words (Some step) = refl

are_answered : (t : ℕ) (words : List ℕ) (o : Option WordStep) → has_word words o ≡ true → Answered words (made_event t words o)
are_answered t words None e = tt
are_answered t words (Some step) e = record { on_a_word = below step.word (length words) e; result_is = refl }

module _ (code : Code) (s : Shape) where
  abbrev m : OneThread Machine SourceEvent
  m = one_thread code s

  turns : (g : Global Machine) (t : ℕ) → may code s g t (turn_by m g t) ≡ true → MayTurn bounds m g (turn_by m g t)
  turns g t e =
      let turn = turn_by m g t in
      let a = g.started t && may_go (g.threads t).at.state in
      let w = has_word g.words (m.asks (g.threads t)) in
      let r = nat_le (made_now m g turn) 100000000 in
      record {
        started = left (g.started t) (may_go (g.threads t).at.state) (left a (w && r) e);
        next = record {
          runs = right (g.started t) (may_go (g.threads t).at.state) (left a (w && r) e);
          asks = steps_are t g.words (m.asks (g.threads t));
          own = are_own t g.words (m.asks (g.threads t));
        };
        answered = are_answered t g.words (m.asks (g.threads t)) (left w r (right a (w && r) e));
        room = within (made_now m g turn) 100000000 (right w r (right a (w && r) e));
      }

  -- ---- a schedule, the first turn first
  -- with a value that is computed once
  abbrev with_value : {A B : Type 0} → A → (A → B) → B
  with_value x f = f x

  abbrev pub passes : (Global Machine → Bool) → Global Machine → List ℕ → Bool
  passes test g [] = test g
  passes test g (t ∷ ts) = with_value (turn_by m g t) (λ turn. may code s g t turn && with_value (after_turn bounds m g turn) (λ next. passes test next ts))

  abbrev pub from : Global Machine
  from = opening_of bounds m (opening_words code s)

  pub record Ends (test : Global Machine → Bool) : Type 0 where
    pub turns : List Turn
    pub run : IsRun bounds m from turns
    pub passed : test (at bounds m from turns) ≡ true

  goes : (test : Global Machine → Bool) (ts : List ℕ) (turns : List Turn) → IsRun bounds m from turns → passes test (at bounds m from turns) ts ≡ true → Ends test
  goes test [] done run e = record { turns = done; run = run; passed = e }
  goes test (t ∷ ts) done run e =
      let g = at bounds m from done in
      let turn = turn_by m g t in
      let now = may code s g t turn in
      let rest = passes test (after_turn bounds m g turn) ts in
      goes test ts (turn ∷ done) (run, turns g t (left now rest e)) (right now rest e)

  pub ends : (test : Global Machine → Bool) (schedule : List ℕ) → passes test from schedule ≡ true → Ends test
  ends test schedule e = goes test schedule [] tt e

  -- ---- the same of thread 0 alone
  pub record EndsAlone (test : Global Machine → Bool) : Type 0 where
    pub turns : List Turn
    pub run : IsRun bounds m from turns
    pub own : Owns 0 turns
    pub passed : test (at bounds m from turns) ≡ true

  goes_alone : (test : Global Machine → Bool) (more : ℕ) (turns : List Turn) → IsRun bounds m from turns → Owns 0 turns → passes test (at bounds m from turns) (replicate more 0) ≡ true → EndsAlone test
  goes_alone test zero done run own e = record { turns = done; run = run; own = own; passed = e }
  goes_alone test (suc more) done run own e =
      let g = at bounds m from done in
      let turn = turn_by m g 0 in
      let now = may code s g 0 turn in
      let rest = passes test (after_turn bounds m g turn) (replicate more 0) in
      goes_alone test more (turn ∷ done) (run, turns g 0 (left now rest e)) (refl, own) (right now rest e)

  pub ends_alone : (test : Global Machine → Bool) (turns : ℕ) → passes test from (replicate turns 0) ≡ true → EndsAlone test
  ends_alone test turns e = goes_alone test turns [] tt tt e
