-- From flat code to the source.
use Rattle.sharc_compile.proofs.Imports.{◌≡◌, ℕ, suc, ℤ, ◌+◌, ◌≤◌, inl, inr, List, [], ◌∷◌, ◌++◌, length, map, refl, sym, ap, ◌∙◌, subst, arith, Some, None, Option, append_assoc, SourceEvent, Site, Assignment, GivenUp, Emptied, Released, Replaced, Outcome, ended, answers_of, Code, TurnState, Runs, Tries, Stopped, Ended, Stop, Conflict, NoLock, NotSole, Trapped, Machine, place_at, Flat, At, Came, halts, on_turn, exec, start, at_after, asked, AsksTheSame, MayStart, Guarded, Resolved, by, begins, program_of, WantsAt, StopsFor, IsOverFor, FollowsFlat, WantsEventAt, IsStopOf, IsOverAs, IsToldBy, FollowsSource}
use Rattle.sharc_meaning.specs.{State.{stopped}}
use Rattle.sharc_meaning.specs.Meaning as Meaning
use Rattle.sharc_flat.specs.{Machine.{Turn, turn}, Quiet.{PathLaws, given_in}}

-- ---- what is given up
-- what is given up besides may be lowered later
all_resolved : (extra : List GivenUp) → (more : List ℕ) × Resolved extra more
all_resolved [] = ([], tt)
all_resolved (Released n ∷ gs) = let r = all_resolved gs in (n ∷ r.0, (refl, r.1))
all_resolved (Replaced c ∷ gs) = let r = all_resolved gs in (0 ∷ r.0, r.1)
all_resolved (Emptied n ∷ gs) = all_resolved gs

more_resolved : (gs extra : List GivenUp) (ks : List ℕ) → Resolved gs ks → (more : List ℕ) × Resolved (gs ++ extra) (ks ++ more)
more_resolved [] extra [] h = all_resolved extra
more_resolved [] extra (k ∷ ks) h = absurd h
more_resolved (Released n ∷ gs) extra [] h = absurd h
more_resolved (Released n ∷ gs) extra (k ∷ ks) h = let r = more_resolved gs extra ks h.1 in (r.0, (h.0, r.1))
more_resolved (Replaced c ∷ gs) extra [] h = absurd h
more_resolved (Replaced c ∷ gs) extra (k ∷ ks) h = let r = more_resolved gs extra ks h in (r.0, r.1)
more_resolved (Emptied n ∷ gs) extra ks h = more_resolved gs extra ks h

-- ---- how it is over
module _ (code : Code) (flat : Flat) (m : At) (k : ℕ) where
  abbrev o : Outcome
  o = (exec flat (suc k) [] m).outcome

  wanted : (site : Site) → WantsAt flat m site → WantsEventAt o site
  wanted site w = (w.act, ap (λ (t : Turn). (on_turn t [] m (exec flat k)).outcome) w.wants)

  halted : (x : Outcome) → turn flat m ≡ halts x → o ≡ x
  halted x e = ap (λ (t : Turn). (on_turn t [] m (exec flat k)).outcome) e

  stop_is : (stop : Stop) → StopsFor code flat m stop → IsStopOf code o stop
  stop_is (Trapped x site) (inl e) = inl (halted (stopped x (place_at code site).site) e)
  stop_is (Trapped x site) (inr h) = inr (h.0, wanted (place_at code site).site h.1)
  stop_is (Conflict c) h = wanted (place_at code c.site).site h
  stop_is (NoLock site mutex) h = wanted (place_at code site).site h
  stop_is (NotSole site count) h = wanted (place_at code site).site h

  over_is : (state : TurnState) (stop : Option Stop) → IsOverFor code flat m state stop → IsOverAs code o state stop
  over_is Runs stop h = tt
  over_is Tries stop h = tt
  over_is Stopped None h = h
  over_is Stopped (Some stop) h = stop_is stop h
  over_is Ended stop h = halted ended h

-- ---- all together
-- the answers are those of the path's own events
abbrev AreOwn : Flat → At → List ℤ → Type 0
AreOwn flat m answers = asked flat m answers ≡ answers_of (at_after flat m answers).events

told : (paths : PathLaws) (m : Assignment) (flat : Flat) (same : AsksTheSame m flat) (code : Code) (g : Guarded) (thread : ℕ) (at : Machine) (said : List SourceEvent) (lowered : List ℕ) (paced : ℕ)
    → (h : FollowsFlat code g flat thread at said lowered paced) → AreOwn flat (start flat h.function h.argument) h.answers → MayStart m h.function → IsToldBy m code (program_of g) thread h.function h.argument (asked flat (start flat h.function h.argument) h.answers) at said lowered paced
told paths m flat same code g thread at said lowered paced h own may =
    let st = start flat h.function h.argument in
    let answers = asked flat st h.answers in
    let m2 = at_after flat st h.answers in
    let b = same.back h.function may h.argument answers (length h.answers + 1) in
    let f = paths.beyond flat st h.answers h.path b.later b.reached in
    let outcome : (exec flat (suc f.more) [] m2).outcome ≡ (Meaning.asks m h.function h.argument answers b.fuel).outcome = ap (λ (c : Came). c.outcome) (sym f.is) ∙ b.same.outcome in
    let events : m2.events ≡ (Meaning.asks m h.function h.argument answers b.fuel).events = sym (paths.still flat (suc f.more) m2).0 ∙ ap (λ (c : Came). c.at.events) (sym f.is) ∙ b.same.events in
    let s = paths.still flat (suc f.more) m2 in
    let rest = more_resolved m2.given s.1 (lowered ++ h.given.0) h.given.1 in
    let given : m2.given ++ s.1 ≡ (Meaning.asks m h.function h.argument answers b.fuel).given_up = sym s.2 ∙ ap (λ (c : Came). c.at.given) (sym f.is) ∙ b.same.given_up in
    record {
      fuel = b.fuel;
      own = own ∙ ap answers_of events;
      given = (
        h.given.0 ++ rest.0,
        subst (λ (gs : List GivenUp). Resolved gs (lowered ++ (h.given.0 ++ rest.0))) given (subst (Resolved (m2.given ++ s.1)) (append_assoc lowered h.given.0 rest.0) rest.1),
      );
      events = h.events ∙ ap (λ (es : List SourceEvent). by thread (begins (program_of g) h.function h.argument) ∷ map (by thread) es) events;
      over = subst (λ (o : Outcome). IsOverAs code o at.at.state at.own.stop) outcome (over_is code flat m2 f.more at.at.state at.own.stop h.over);
      pace = λ few lt.
          let q = same.forth h.function may h.argument answers few in
          let high = q.high in
          let low = q.few in
          let pace = h.pace in
          let le : q.turns ≤ length h.answers = omega arith in
          sym q.same.outcome ∙ paths.within flat st h.answers h.path q.turns le;
    }

-- the same path by those answers
abbrev by_own : (paths : PathLaws) (flat : Flat) (code : Code) (g : Guarded) (thread : ℕ) (at : Machine) (said : List SourceEvent) (lowered : List ℕ) (paced : ℕ) → FollowsFlat code g flat thread at said lowered paced → FollowsFlat code g flat thread at said lowered paced
by_own paths flat code g thread at said lowered paced h =
    let st = start flat h.function h.argument in
    let same = sym (paths.same flat st h.answers) in
    let count = paths.count flat st h.answers in
    let pace = h.pace in
    record {
      function = h.function;
      known = h.known;
      argument = h.argument;
      answers = given_in flat st h.answers;
      path = paths.path flat st h.answers h.path;
      events = h.events ∙ ap (λ (m : At). by thread (begins (program_of g) h.function h.argument) ∷ map (by thread) m.events) same;
      over = subst (λ m. IsOverFor code flat m at.at.state at.own.stop) same h.over;
      given = (h.given.0, subst (λ (m : At). Resolved m.given (lowered ++ h.given.0)) same h.given.1);
      pace = omega arith;
    }

pub follows : (paths : PathLaws) (m : Assignment) (flat : Flat) (same : AsksTheSame m flat) (code : Code) (g : Guarded) (thread : ℕ) (at : Machine) (said : List SourceEvent) (lowered : List ℕ) (paced : ℕ)
    → FollowsFlat code g flat thread at said lowered paced → FollowsSource m code (program_of g) (length flat.functions) thread at said lowered paced
follows paths m flat same code g thread at said lowered paced h =
    let st = start flat h.function h.argument in
    record {
      function = h.function;
      known = h.known;
      argument = h.argument;
      after = (at_after flat st h.answers).events;
      starts = h.events;
      answers = asked flat st (given_in flat st h.answers);
      told = told paths m flat same code g thread at said lowered paced (by_own paths flat code g thread at said lowered paced h) (paths.own flat h.function h.argument h.answers ∙ ap (λ (m : At). answers_of m.events) (sym (paths.same flat st h.answers)));
    }
