-- One turn of code beside guarded code: the guarded turn is made with it, or guarded code stays where it is.
use Rattle.sharc_compile.proofs.Imports.{◌≡◌, ℕ, ℤ, pos, ◌+◌, ◌≤◌, ◌⊎◌, inl, inr, Bool, true, false, List, [], ◌∷◌, ◌++◌, refl, sym, ap, ◌∙◌, subst, arith, Option, Some, None, append-nil, option_map, option_to_list, Act, SourceEvent, Site, Trap, Code, Instr, Shape, Runs, Stage, Rests, Links, Stop, Trapped, Machine, goes, trapped, stopped, fails, asserts, Program, Thread, Turn, Goes, Asks, Checks, Halts, Running, event_of, statement_at, turn, program_over, Elements, elements_told, Same, MatchesThread, IsAtStage, phase_of, phase_at, StopsAt, IsOver, spent_at, by, stop_turn}
use Rattle.sharc_guard.specs.Machine as Form
use Rattle.sharc_guard.specs.Path.{after, may_go}

-- the counted turns that are to come after an event that was reported before them
abbrev pub left_at : Stage → ℕ
left_at (Links elements) = 1
left_at _ = 0

-- what a thread says of an event, by an act and an answer that are the same
pub event_is : (number : ℕ) (site : Site) (act act' : Act) (answer answer' : ℤ) → act ≡ act' → answer ≡ answer' → Some record { thread = number; site = site; answer = answer; act = act } ≡ Some (by number (event_of site act' answer'))
event_is number site act act' answer answer' e f = ap (λ act. Some (by number (event_of site act answer))) e ∙ ap (λ answer. Some (by number (event_of site act' answer))) f

module _ (code : Code) (s : Shape) (statements : List Instr) (T : Elements) (m : Machine) (a : Thread) (cost : ℕ) where
  abbrev pub over : Program
  over = program_over code statements

  pub record Moved (t : Turn) (weight : ℕ) (m' : Machine) (e : Option SourceEvent) : Type 0 where
    pub answer : ℤ
    pub go : may_go t ≡ true
    pub event : Option SourceEvent
    pub said : e ≡ option_map (by m.own.number) event
    pub events : (after a t answer).events ≡ a.events ++ option_to_list event
    pub stands : MatchesThread code s over (elements_told e T) m' (after a t answer)
    pub pace : cost + spent_at m.own.stage + left_at m'.own.stage ≤ weight + spent_at m'.own.stage + left_at m.own.stage + stop_turn m'.at.state

  pub record Stayed (m' : Machine) (e : Option SourceEvent) : Type 0 where
    pub said : e ≡ None
    pub stands : MatchesThread code s over T m' a
    pub pace : cost + spent_at m.own.stage + left_at m'.own.stage ≤ spent_at m'.own.stage + left_at m.own.stage + stop_turn m'.at.state

  abbrev pub Turned : Turn → ℕ → Machine → Option SourceEvent → Type 0
  Turned t weight m' e = Moved t weight m' e ⊎ Stayed m' e

  -- ---- statements of one turn
  module _ (one : cost ≤ 1) (rest : m.own.stage ≡ Rests) where
    stays_at : (i : Instr) (m' : Machine) (stage : Stage) → stage ≡ Rests → IsAtStage m' i stage
    stays_at i m' stage e = subst (IsAtStage m' i) (sym e) tt

    phase_is_rest : (stage : Stage) → stage ≡ Rests → phase_at stage ≡ Running
    phase_is_rest stage e = ap phase_at e

    no_spent : spent_at m.own.stage ≡ 0
    no_spent = ap spent_at rest

    no_left : left_at m.own.stage ≡ 0
    no_left = ap left_at rest

    -- an event is reported, or none; the place after it is reached
    module _ (w : ℕ) (some : 1 ≤ w) (m' : Machine) (b : Thread) where
      paced : m'.own.stage ≡ Rests → (k : ℕ) → cost + spent_at m.own.stage + left_at m'.own.stage ≤ w + spent_at m'.own.stage + left_at m.own.stage + k
      paced e k =
          let q1 = no_spent in
          let q2 = ap left_at e in
          omega arith

      reached : (T' : Elements) → Same code s T' m' b → b.pc ≡ m'.at.pc → b.phase ≡ Running → m'.at.state ≡ Runs → m'.own.stage ≡ Rests → MatchesThread code s over T' m' b
      reached T' same pc phase runs rests = inl (record {
        same = same;
        pc_is = pc;
        stage = stays_at (statement_at over b.pc) m' m'.own.stage rests;
        phase_is = phase ∙ sym (ap (λ st. phase_of st m'.own.stage) runs ∙ phase_is_rest m'.own.stage rests);
        over = subst (λ st. IsOver over b st m'.own.stop) (sym runs) tt;
      })

      pub goes_on : Same code s T m' b → b.pc ≡ m'.at.pc → b.events ≡ a.events ++ [] → b.phase ≡ Running → m'.at.state ≡ Runs → m'.own.stage ≡ Rests → Turned (Goes b) w m' None
      goes_on same pc events phase runs rests = inl (record {
        answer = pos 0;
        go = refl;
        event = None;
        said = refl;
        events = events;
        stands = reached (λ n. T n) same pc phase runs rests;
        pace = paced rests _;
      })

      pub passes : (check : Form.Check) (site : ℕ) → Same code s T m' b → b.pc ≡ m'.at.pc → b.events ≡ a.events ++ [] → b.phase ≡ Running → m'.at.state ≡ Runs → m'.own.stage ≡ Rests → Turned (Checks check site b) w m' None
      passes check site same pc events phase runs rests = inl (record {
        answer = pos 0;
        go = refl;
        event = None;
        said = refl;
        events = events;
        stands = reached (λ n. T n) same pc phase runs rests;
        pace = paced rests _;
      })

    -- an event is reported
    pub asks_on : (w : ℕ) → 1 ≤ w → (m' : Machine) (site : Site) (act : Act) (go : ℤ → Thread) (x answer : ℤ) (e : Option SourceEvent) → e ≡ Some (by m.own.number (event_of site act answer))
        → (go x).events ≡ a.events ++ event_of site act answer ∷ [] → Same code s (elements_told e T) m' (go x) → (go x).pc ≡ m'.at.pc → (go x).phase ≡ Running → m'.at.state ≡ Runs → m'.own.stage ≡ Rests
        → Turned (Asks site act go) w m' e
    asks_on w some m' site act go x answer e is events same pc phase runs rests = inl (record {
      answer = x;
      go = refl;
      event = Some (event_of site act answer);
      said = is;
      events = events;
      stands = reached w some m' (go x) (elements_told e T) same pc phase runs rests;
      pace = paced w some m' (go x) rests _;
    })

    module _ (same : Same code s T m a) (pc : a.pc ≡ m.at.pc) (running : a.phase ≡ Running) where
      -- a stop, or a report
      pub halts : (stop : Stop) (t : Turn) (w : ℕ) → StopsAt over a stop → Turned t w (stopped m stop) None
      halts stop t w at = inr (record {
        said = refl;
        stands = inl (record {
          same = same;
          pc_is = pc;
          stage = stays_at (statement_at over a.pc) (stopped m stop) m.own.stage rest;
          phase_is = running ∙ sym (phase_is_rest m.own.stage rest);
          over = at;
        });
        pace = let q1 = no_spent in let q2 = no_left in omega arith;
      })

      pub trapped_now : (c : Trap) (site : ℕ) (w : ℕ) → turn over a ≡ Halts (Form.Stopped c site) → Turned (Halts (Form.Stopped c site)) w (trapped m c site) None
      trapped_now c site w is = halts (Trapped c site) (Halts (Form.Stopped c site)) w (inl is)

      -- a failed try
      pub tries_again : (t : Turn) (w : ℕ) → cost ≡ 0 → Turned t w (fails m) None
      tries_again t w none = inr (record {
        said = refl;
        stands = inl (record {
          same = same;
          pc_is = pc;
          stage = stays_at (statement_at over a.pc) (fails m) m.own.stage rest;
          phase_is = running ∙ sym (phase_is_rest m.own.stage rest);
          over = tt;
        });
        pace = let q1 = no_spent in let q2 = no_left in omega arith;
      })

      -- some machine, and some thread
      pub plain : (w : ℕ) → 1 ≤ w → (m' : Machine) (b : Thread) → Same code s T m' b → b.pc ≡ a.pc + 1 → m'.at.pc ≡ m.at.pc + 1 → b.events ≡ a.events → b.phase ≡ a.phase → m'.at.state ≡ Runs → m'.own.stage ≡ m.own.stage → Turned (Goes b) w m' None
      plain w some m' b k pc1 pc2 events phase runs rests =
          goes_on w some m' b k (pc1 ∙ ap (λ n. n + 1) pc ∙ sym pc2) (events ∙ sym (append-nil a.events)) (phase ∙ running) runs (rests ∙ rest)

      pub asserted : (w : ℕ) → 1 ≤ w → (b b' : Bool) (c : Trap) (site : ℕ) → b' ≡ b → turn over a ≡ Form.asserts a b' c site → Turned (Form.asserts a b' c site) w (asserts m b c site) None
      asserted w some b b' c site e is =
          subst (λ b'. Turned (Form.asserts a b' c site) w (asserts m b c site) None) (sym e) (each b (is ∙ ap (λ b. Form.asserts a b c site) e))
        where
          each : (b : Bool) → turn over a ≡ Form.asserts a b c site → Turned (Form.asserts a b c site) w (asserts m b c site) None
          each true is = plain w some (goes m) (Form.next a) same refl refl refl refl refl refl
          each false is = trapped_now c site w is
