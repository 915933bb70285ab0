-- What a thread holds with some fuel and not with more it has given up between.
use Rattle.sharc_wants_laws.proofs.Imports.{◌≡◌, ℕ, ◌+◌, ◌<◌, ◌⊎◌, inl, inr, Bool, true, false, cond, List, [], ◌∷◌, ◌++◌, length, map, refl, sym, ap, ◌∙◌, arith, append_assoc, append-nil, ◌==◌, eqb-true, length-append, length-map, sum_by-append, sum_by-cons, IsLow, IsPlaced, SourceEvent, IsResolved, Assignment, GivenUp, Emptied, Released, Replaced, events_of, AskLaws, Begun, asked_with, held_count, answers_of, by, HeldAreHeldOn, released, releases, IsLowered, IsInFlight, IsPastEvents, is_given, Code, Machine, IsReleased}

-- ---- lists
none_of : (A : Type 0) (xs : List A) → length xs ≡ 0 → xs ≡ []
none_of A [] e = refl
none_of A (x ∷ xs) e = absurd (omega (arith, e))

counts_one : (n : ℕ) (g : GivenUp) (gs : List GivenUp) → released n (g ∷ gs) ≡ cond (releases n g) 1 0 + released n gs
counts_one n g gs = sum_by-cons (λ g. cond (releases n g) 1 0) g gs

-- what is released so many times is among what is given up
is_released : (n : ℕ) (gs : List GivenUp) → 0 < released n gs → IsReleased gs n
is_released n [] some = absurd (omega (arith, some))
is_released n (Released k ∷ gs) some = by (k == n) refl (is_released n gs)
  where
    by : (b : Bool) → (k == n) ≡ b → (0 < released n gs → IsReleased gs n) → (k ≡ n) ⊎ IsReleased gs n
    by true e rest = inl (eqb-true k n e)
    by false e rest = inr (rest (let c = counts_one n (Released k) gs ∙ ap (λ b. cond b 1 0 + released n gs) e in omega (arith, c, some)))
is_released n (Replaced c ∷ gs) some = is_released n gs (let e = counts_one n (Replaced c) gs in omega (arith, e, some))
is_released n (Emptied k ∷ gs) some = is_released n gs (let e = counts_one n (Emptied k) gs in omega (arith, e, some))

released_after : (gs more : List GivenUp) (n : ℕ) → IsReleased more n → IsReleased (gs ++ more) n
released_after [] more n h = h
released_after (Released g ∷ gs) more n h = inr (released_after gs more n h)
released_after (Replaced c ∷ gs) more n h = released_after gs more n h
released_after (Emptied g ∷ gs) more n h = released_after gs more n h

-- ---- more fuel
module _ (laws : AskLaws) (m : Assignment) (R : List SourceEvent) (thread : ℕ) (b : Begun m R thread) (fuel : ℕ) (past : IsPastEvents b fuel) (more : ℕ) where
  no_more : (rest : List SourceEvent) → (asked_with b (fuel + more)).events ≡ (asked_with b fuel).events ++ rest → rest ≡ []
  no_more rest is =
      let few = laws.events m b.own.function b.own.argument (answers_of (events_of thread b.own.after)) (fuel + more) in
      let answers : length (answers_of (events_of thread b.own.after)) ≡ length (events_of thread b.own.after) = length-map (events_of thread b.own.after) (λ (e : SourceEvent). e.answer) in
      let asked : length (events_of thread b.own.after) ≡ length (asked_with b fuel).events = ap (λ (es : List SourceEvent). length es) (sym past) ∙ length-map (asked_with b fuel).events (by thread) in
      let both : length (asked_with b (fuel + more)).events ≡ length (asked_with b fuel).events + length rest = ap (λ (es : List SourceEvent). length es) is ∙ length-append (asked_with b fuel).events rest in
      none_of SourceEvent rest (omega (arith, few, answers, asked, both))

  same_events : (asked_with b (fuel + more)).events ≡ (asked_with b fuel).events
  same_events =
      let goes = (laws.fuel m b.own.function b.own.argument (answers_of (events_of thread b.own.after)) fuel more).events in
      goes.1 ∙ ap (λ rest. (asked_with b fuel).events ++ rest) (no_more goes.0 goes.1) ∙ append-nil (asked_with b fuel).events

  pub still_past : IsPastEvents b (fuel + more)
  still_past = ap (map (by thread)) same_events ∙ past

  -- so it is in flight, where what was lowered is a first part of what was given up at first
  pub left_is_given : HeldAreHeldOn → IsResolved m.typed → IsPlaced m.typed.program → IsLow m.typed.program → (code : Code) (at : Machine) (lowered : List ℕ) → IsLowered (asked_with b fuel).given_up lowered
      → (n : ℕ) → 0 < held_count (asked_with b fuel) n → held_count (asked_with b (fuel + more)) n ≡ 0 → IsInFlight code at lowered b n
  left_is_given held resolved placed low code at lowered l n some none =
      let given = (asked_with b fuel).given_up in
      let rest = laws.given_up m b.own.function b.own.argument (answers_of (events_of thread b.own.after)) fuel more same_events in
      let total = held m resolved placed low b.own.function b.own.argument (answers_of (events_of thread b.own.after)) fuel more n same_events in
      let parts : released n (asked_with b (fuel + more)).given_up ≡ released n given + released n rest.0 = ap (λ (gs : List GivenUp). released n gs) rest.1 ∙ sum_by-append (λ (g : GivenUp). cond (releases n g) 1 0) given rest.0 in
      let now : 0 < released n rest.0 = omega (arith, total, parts, some, none) in
      is_given (fuel + more) still_past (record {
        before = l.before;
        later = l.later ++ rest.0;
        is = rest.1 ∙ ap (λ gs. gs ++ rest.0) l.is ∙ append_assoc l.before l.later rest.0;
        lowers = l.lowers;
        released = released_after l.later rest.0 n (is_released n rest.0 now);
      })
