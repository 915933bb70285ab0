-- Loops: each turn goes along the code of a turn, and all of them along that of the loop.
use Rattle.sharc_live_laws.proofs.{Imports.{◌≡◌, ℕ, zero, suc, ◌<◌, Bool, true, false, cond, List, [], Some, None, refl, ◌∙◌, subst, append-nil, Resolution, Act, To, Next, Broken, Continued, Ends, Leaves, Code, goes_to, first_then, one_of, catches, repeats, turn_flow, State, Out, go, over, Run, Step, then_on, ◌>>=◌, ◌>>◌, give, Flow, next, broken, continued, returned, on_turn, turns, loop}, Ways.{Way, way_goes, way_then, way_leaves, way_stays, way_one, way_other, way_as_is, way_caught, way_left, way_ended, way_again}, Along.{Any, onward, Moved, Went, Reached, Along, Mix, moved_both, moved_as, moved_not, reached_behind, still_ready}}

-- the exit of a statement that is left so
abbrev pub exit_of : Flow → To
exit_of next = Next
exit_of broken = Broken
exit_of continued = Continued
exit_of (returned site v) = Ends

module _ (r : Resolution) (x : ℕ) where
  went_behind : (a b c : Code) (to t2 : To) (s t u : State) → Mix r x a to b c → t.frame.call ≡ s.frame.call → Went r x a to s t → Went r x b t2 t u → Went r x c t2 s u
  went_behind a b c to t2 s t u mix e p q = moved_both r x a b c to t2 s.frame.call s.calls t.calls u.calls s.trace t.trace u.trace mix p (subst (λ z. Moved r x b t2 z t.calls u.calls t.trace u.trace) e q)

  went_as : (a c : Code) (to t2 : To) (s t : State) → ((us : List Act) → Way x a to us → Way x c t2 us) → Went r x a to s t → Went r x c t2 s t
  went_as a c to t2 s t h p = moved_as r x a c to t2 s.frame.call s.calls t.calls s.trace t.trace h p

  -- what the test does: it ends, it leads out of the loop, or what comes after it makes a turn
  abbrev Tried : Code → Code → State → Out Bool → Type 0
  Tried turn rest s (go true t) = (t.frame.call ≡ s.frame.call) × (t.frame.call < t.calls) × ((to : To) (u : State) → Went r x rest to t u → Went r x turn to s u)
  Tried turn rest s (go false t) = (t.frame.call ≡ s.frame.call) × Went r x turn Broken s t
  Tried turn rest s (over o t) = Went r x turn Ends s t

  pub record Trying (turn rest : Code) (test : Run Bool) : Type 0 where
    pub from_state : (s : State) → s.frame.call < s.calls → Tried turn rest s (test s)

  -- without a test, and with one
  pub tries_none : (body step : Code) → Trying (turn_flow None body step) (first_then (catches body) step) (give true)
  tries_none body step = record { from_state = λ s ready. (refl, ready, λ to u p. p) }

  pub tries_some : (of_test body step : Code) (test : Run Bool) → Along r x of_test onward Any test → Trying (turn_flow (Some of_test) body step) (first_then (catches body) step) test
  tries_some of_test body step test h = record { from_state = λ s ready. tried s ready (test s) (h.from_state s ready) }
    where
      leads_out : (us : List Act) → Way x of_test Next us → Way x (turn_flow (Some of_test) body step) Broken us
      leads_out us w = subst (λ z. Way x (turn_flow (Some of_test) body step) Broken z) (append-nil us)
          (way_then x of_test (one_of (goes_to Broken) (first_then (catches body) step)) Broken us [] w (way_one x (goes_to Broken) (first_then (catches body) step) Broken [] (way_goes x Broken)))

      tried : (s : State) → s.frame.call < s.calls → (o : Out Bool) → Reached r x of_test onward Any s o → Tried (turn_flow (Some of_test) body step) (first_then (catches body) step) s o
      tried s ready (go true t) k = (
        k.0,
        still_ready r x s t of_test Next ready k.0 k.1,
        λ to u p.
            went_behind of_test (one_of (goes_to Broken) (first_then (catches body) step)) (turn_flow (Some of_test) body step) Next to s t u
            (λ t3 us vs w v. way_then x of_test (one_of (goes_to Broken) (first_then (catches body) step)) t3 us vs w v) k.0 k.1
            (went_as (first_then (catches body) step) (one_of (goes_to Broken) (first_then (catches body) step)) to to t u (λ us w. way_other x (goes_to Broken) (first_then (catches body) step) to us w) p),
      )
      tried s ready (go false t) k = (k.0, went_as of_test (turn_flow (Some of_test) body step) Next Broken s t leads_out k.1)
      tried s ready (over o t) k = went_as of_test (turn_flow (Some of_test) body step) Ends Ends s t (λ us w. way_leaves x of_test (one_of (goes_to Broken) (first_then (catches body) step)) Ends us tt w) k

  -- ---- one turn, and what comes after it

  module _ (turn body step : Code) (test : Run Bool) (step_run : Step) (body_run : Run Flow) (ht : Trying turn (first_then (catches body) step) test) (hb : Along r x body exit_of Any body_run) (hs : Along r x step onward Any step_run) where
    abbrev Looped : State → Out Flow → Type 0
    Looped s o = Reached r x (repeats turn) exit_of Any s o

    ended : (s t : State) → Went r x turn Ends s t → Went r x (repeats turn) Ends s t
    ended s t p = went_as turn (repeats turn) Ends Ends s t (λ us w. way_ended x turn us w) p

    left_out : (s t : State) → Went r x turn Broken s t → Went r x (repeats turn) Next s t
    left_out s t p = went_as turn (repeats turn) Broken Next s t (λ us w. way_left x turn us w) p

    body_leaves : (to : To) (t u : State) → Leaves to → Went r x body to t u → Went r x (first_then (catches body) step) to t u
    body_leaves to t u l p = went_as body (first_then (catches body) step) to to t u (λ us w. way_leaves x (catches body) step to us l (way_as_is x body to us w)) p

    module _ (rest : Run Flow) (again : (s : State) → s.frame.call < s.calls → Looped s (rest s)) where
      on_step : (s t u : State) → Tried turn (first_then (catches body) step) s (go true t) → u.frame.call ≡ t.frame.call → Went r x (catches body) Next t u → Looped s ((step_run >> rest) u)
      on_step s t u k e p = stepped (step_run u) (hs.from_state u (still_ready r x t u (catches body) Next k.1 e p))
        where
          both : (to : To) (w : State) → Went r x step to u w → Went r x turn to s w
          both to w q = k.2 to w (went_behind (catches body) step (first_then (catches body) step) Next to t u w (λ t3 us vs a b. way_then x (catches body) step t3 us vs a b) e p q)

          stepped : (o : Out (Unit {0})) → Reached r x step onward Any u o → Looped s (then_on o (λ v. rest))
          stepped (go v w) h = reached_behind r x turn (repeats turn) (repeats turn) Next exit_of Any s w (rest w) (λ to us vs a b. way_again x turn to us vs a b) (h.0 ∙ e ∙ k.0) (both Next w h.1)
              (again w (still_ready r x u w step Next (still_ready r x t u (catches body) Next k.1 e p) h.0 h.1))
          stepped (over o w) h = ended s w (both Ends w h)

      on_body : (s t : State) → Tried turn (first_then (catches body) step) s (go true t) → (o : Out Flow) → Reached r x body exit_of Any t o → Looped s (then_on o (λ flow. on_turn flow (step_run >> rest)))
      on_body s t k (go next u) h = on_step s t u k h.0 (went_as body (catches body) Next Next t u (λ us w. way_as_is x body Next us w) h.1)
      on_body s t k (go continued u) h = on_step s t u k h.0 (went_as body (catches body) Continued Next t u (λ us w. way_caught x body us w) h.1)
      on_body s t k (go broken u) h = (h.0 ∙ k.0, left_out s u (k.2 Broken u (body_leaves Broken t u tt h.1)), tt)
      on_body s t k (go (returned site v) u) h = (h.0 ∙ k.0, ended s u (k.2 Ends u (body_leaves Ends t u tt h.1)), tt)
      on_body s t k (over o u) h = ended s u (k.2 Ends u (body_leaves Ends t u tt h))

      on_test : (s : State) (o : Out Bool) → Tried turn (first_then (catches body) step) s o → Looped s (then_on o (λ goes_on. cond goes_on (body_run >>= λ flow. on_turn flow (step_run >> rest)) (give next)))
      on_test s (go true t) k = on_body s t k (body_run t) (hb.from_state t k.1)
      on_test s (go false t) k = (k.0, left_out s t k.1, tt)
      on_test s (over o t) k = ended s t k

    turns_along : (n : ℕ) (s : State) → s.frame.call < s.calls → Looped s (turns n test step_run body_run s)
    turns_along zero s ready = moved_not r x (repeats turn) Ends s.frame.call s.calls s.calls s.trace s.trace refl refl (way_stays x (repeats turn))
    turns_along (suc n) s ready = on_test (turns n test step_run body_run) (turns_along n) s (test s) (ht.from_state s ready)

    pub loop_along : Along r x (repeats turn) exit_of Any (loop test step_run body_run)
    loop_along = record { from_state = λ s ready. turns_along s.fuel s ready }
