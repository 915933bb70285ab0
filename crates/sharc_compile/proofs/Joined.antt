-- From code over guarded code to flat code.
use Rattle.sharc_compile.proofs.Imports.{◌≡◌, ℕ, ℤ, ◌<◌, ◌≤◌, inl, inr, Bool, List, ◌∷◌, ◌++◌, length, map, refl, sym, ap, ◌∙◌, subst, arith, Some, None, Option, length-map, get_or as slice_index_or, Act, SourceEvent, Trap, Code, Shape, Instr, TurnState, Runs, Tries, Stopped, Ended, Stage, Makes, Stop, Conflict, NoLock, NotSole, Trapped, Machine, place_at, no_place, NewStage, Guarded, Program, Thread, source_at, statement_at, turn, step, started, thread_after, GuardedKeepsPaths, Resolved, Wants, guarded, entered_at, Elements, by, begins, stop_turn, HasCome, IsGenerated, program_of, MatchesThread, IsOver, StopsAt, Refuses, spent_at, spent_in_new, WantsAt, IsRefusal, StopsFor, IsOverFor, FollowsFlat, IsFlat}
use Rattle.sharc_heap.specs.declared.stage.NewStage.TheVariants.{Cell}
use Rattle.sharc_meaning.specs.State.{stopped}
use Rattle.sharc_flat.specs.Machine as Flat
use Rattle.sharc_guard.specs.Guard.{place}
use Rattle.sharc_guard.specs.Machine as Form
use Rattle.sharc_flat.specs.Path as Flow

few_in_new : (st : NewStage) → spent_in_new st ≤ 3
few_in_new (Cell c) = omega arith
few_in_new _ = omega arith

few_spent : (st : Stage) → spent_at st ≤ 3
few_spent (Makes state) = few_in_new state.stage
few_spent _ = omega arith

one_stop : (st : TurnState) → stop_turn st ≤ 1
one_stop Runs = omega arith
one_stop Tries = omega arith
one_stop Stopped = omega arith
one_stop Ended = omega arith

module _ (flat : Flat.Flat) (p : Program) (code : Code) (sites : (n : ℕ) → (place_at code n).site ≡ (source_at p n).site) where
  -- a statement that the world may refuse asks for an event at its site
  record Asking (a : Thread) (site : ℕ) : Type 0 where
    act : Act
    go : ℤ → Thread
    asks : turn p a ≡ Form.Asks (source_at p site).site act go

  refused : (a : Thread) (i : Instr) (x : Trap) (site : ℕ) → statement_at p a.pc ≡ i → Refuses i x site → Asking a site × IsRefusal x
  refused a (Instr.Join r at) x site e h = (record { act = _; go = _; asks = ap (λ i. step p i a) e ∙ ap (λ n. step p (Instr.Join r n) a) (sym h.1) }, inl h.0)
  refused a (Instr.Spawn r f from at) x site e h = (record { act = _; go = _; asks = ap (λ i. step p i a) e ∙ ap (λ n. step p (Instr.Spawn r f from n) a) (sym h.1) }, inr (inl h.0))
  refused a (Instr.New r count cells at) x site e h = (record { act = _; go = _; asks = ap (λ i. step p i a) e ∙ ap (λ n. step p (Instr.New r count cells n) a) (sym h.1) }, inr (inr h.0))
  refused a _ x site e h = absurd h

  module _ (m : Flat.At) (a : Thread) (w : Wants flat p m (turn p a)) where
    asked : (n : ℕ) (act : Act) (go : ℤ → Thread) → turn p a ≡ Form.Asks (source_at p n).site act go → WantsAt flat m (place_at code n).site
    asked n act go e =
        let k = w.asks (source_at p n).site act go e in
        record { from = k.0; act = act; held = k.1; go = k.2; wants = k.3 ∙ ap (λ s. Flat.asks k.0 s act k.1 k.2) (sym (sites n)) }

    looked : (check : Form.Check) (n : ℕ) (b : Thread) → turn p a ≡ Form.Checks check n b → WantsAt flat m (place_at code n).site
    looked check n b e =
        let k = w.checks check n b e in
        record { from = k.0; act = k.1; held = k.2; go = k.3; wants = k.4 ∙ ap (λ s. Flat.asks k.0 s k.1 k.2 k.3) (sym (sites n)) }

    stops : (stop : Stop) → StopsAt p a stop → StopsFor code flat m stop
    stops (Trapped x n) (inl e) = inl (w.halts x n e ∙ ap (λ s. Flat.halts (stopped x s)) (sym (sites n)))
    stops (Trapped x n) (inr h) = let k = refused a (statement_at p a.pc) x n refl h in inr (k.1, asked n k.0.act k.0.go k.0.asks)
    stops (Conflict c) h = looked _ c.site h.1.next h.1.checks
    stops (NoLock n mutex) h = looked _ n h.1.next h.1.checks
    stops (NotSole n count) h = looked _ n h.1.next h.1.checks

    over : (st : TurnState) (stop : Option Stop) → IsOver p a st stop → IsOverFor code flat m st stop
    over Runs stop h = tt
    over Tries stop h = tt
    over Stopped None h = h
    over Stopped (Some x) h = stops x h
    over Ended stop h = w.ends h

-- the sites of code are those of guarded code
pub sites_are : (g : Guarded) (code : Code) (p : Program) → IsGenerated g code → program_of g ≡ p → (n : ℕ) → (place_at code n).site ≡ (source_at p n).site
sites_are g code p h e n =
    ap (λ v. (slice_index_or v.items n no_place).site) h.sites ∙ ap (λ (p : Program). (source_at p n).site) e

module _ (law : GuardedKeepsPaths) (flat : Flat.Flat) (dropped : ℕ → Bool) (g : Guarded) (code : Code) (ok : IsFlat flat) (same : program_of g ≡ guarded dropped flat) (made : IsGenerated g code) (s : Shape) where
  abbrev p : Program
  p = guarded dropped flat

  pub joined : (T : Elements) (thread : ℕ) (m : Machine) (said : List SourceEvent) (lowered : List ℕ) (paced : ℕ) → HasCome code s (program_of g) T thread m said lowered paced → FollowsFlat code g flat thread m said lowered paced
  joined T thread m said lowered paced h0 =
      let h : HasCome code s p T thread m said lowered paced = subst (λ p. HasCome code s p T thread m said lowered paced) same h0 in
      let l = length-map flat.functions (entered_at (place dropped flat.lines)) in
      let known = h.known in
      let lf : h.function < length flat.functions = omega arith in
      let b = law flat dropped ok h.function h.argument h.answers lf h.path in
      let a = thread_after p (started p h.function h.argument) h.answers in
      let fm = Flow.at_after flat (Flat.start flat h.function h.argument) b.answers in
      let q1 = h.pace in
      let q2 = b.pace in
      let q3 = few_spent m.own.stage in
      let q4 = one_stop m.at.state in
      record {
        function = h.function;
        known = lf;
        argument = h.argument;
        answers = b.answers;
        path = b.path;
        events = h.events ∙ ap (λ q. by thread (begins q h.function h.argument) ∷ map (by thread) a.events) (sym same) ∙ ap (λ es. by thread (begins (program_of g) h.function h.argument) ∷ map (by thread) es) b.events;
        over = by_place fm a b.wants h.stands;
        given = (b.given.0, subst (λ xs. Resolved fm.given (xs ++ b.given.0)) (sym h.lowers) b.given.1);
        pace = omega arith;
      }
    where
      by_place : (fm : Flat.At) (a : Thread) → Wants flat p fm (turn p a) → MatchesThread code s p T m a → IsOverFor code flat fm m.at.state m.own.stop
      by_place fm a w (inl x) = over flat p code (sites_are g code p made same) fm a w m.at.state m.own.stop x.over
      by_place fm a w (inr x) = subst (λ st. IsOverFor code flat fm st m.own.stop) (sym x.state_is) tt
