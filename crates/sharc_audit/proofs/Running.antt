-- The lines of a source run that obeys never fail.
use Rattle.sharc_audit.proofs.{Imports.{◌≡◌, ◌⊎◌, inl, inr, ℕ, suc, ◌+◌, ◌<◌, Bool, true, false, List, [], ◌∷◌, ◌++◌, length, take, Option, Some, None, refl, ap, sym, subst, ◌∙◌, arith, cases_order, ℤ, slice_get, if◌then◌else◌, SourceEvent, Assignment, AskLaws, StoreLaws, RunLaws, AskedFor, asks, Obeys, until_return, SourceRun, SourceRunWith, Outcome, spent, RuleLaws, EventFault, EventLine, Wants, Spent, IsSpent, Accepted, Audits, FailsBy, IsAsked, IsFirstRefused, entry, event_at, has_begun, is_spent, next_in, next_of, next_told, own_answers, start_of, without_event, AreLines, IsLine, told, FindsEntries, Verdict}, Answering.{asked_is, computed_asked, is_spent_at, spent_is}, Auditing.{FrontLines, LastLine, front_lines, last_line, lines_more, same_events, take_one}, Fuels.{more_run, one_fuel}, Telling.{at_front, past_end}}

-- ---- one thread: more fuel changes what it asks for next only where its fuel was spent
module _ (ask : AskLaws) (m : Assignment) (fuel more t place f : ℕ) (v : ℤ) (answers : List ℤ) where
  abbrev IsNextOrSpent : Type 0
  IsNextOrSpent = (next_in t place (asks m f v answers fuel) ≡ Spent) ⊎ (next_in t place (asks m f v answers fuel) ≡ next_in t place (asks m f v answers (fuel + more)))

  at_spent : (asks m f v answers fuel).outcome ≡ spent → (place ≡ length (asks m f v answers fuel).events) ⊎ ((place < length (asks m f v answers fuel).events) ⊎ (length (asks m f v answers fuel).events < place)) → IsNextOrSpent
  at_spent o (inl e) = inl (past_end t (is_spent (asks m f v answers fuel).outcome) (asks m f v answers fuel).events place (omega (arith, e)) ∙ ap (λ z. without_event (is_spent z)) o)
  at_spent o (inr (inl low)) =
      let p = (ask.fuel m f v answers fuel more).events in
      inr (sym (ap (λ (l : List SourceEvent). event_at t (is_spent (asks m f v answers (fuel + more)).outcome) (slice_get l place)) p.1
      ∙ at_front t (is_spent (asks m f v answers (fuel + more)).outcome) (is_spent (asks m f v answers fuel).outcome) (asks m f v answers fuel).events p.0 place low))
  at_spent o (inr (inr high)) = inl (past_end t (is_spent (asks m f v answers fuel).outcome) (asks m f v answers fuel).events place (omega (arith, high)) ∙ ap (λ z. without_event (is_spent z)) o)

  unspent : ((asks m f v answers fuel).outcome ≡ spent → ⊥) → IsNextOrSpent
  unspent other = inr (ap (next_in t place) (sym (ask.fuel_same m f v answers fuel more other)))

  by_outcome : (o : Outcome) → (asks m f v answers fuel).outcome ≡ o → IsNextOrSpent
  by_outcome spent o = at_spent o (cases_order place (length (asks m f v answers fuel).events))
  by_outcome _ o = unspent (λ s. absurd (cc))

  next_more : IsNextOrSpent
  next_more = by_outcome (asks m f v answers fuel).outcome refl

module _ (ask : AskLaws) (m : Assignment) (fuel more : ℕ) (R : List SourceEvent) (t : ℕ) (one : ℤ) where
  told_by_begun : (b : Bool) (o : Option (ℕ × ℤ)) → let before = if b then next_of m fuel t (own_answers R t) one o else start_of m.typed t o in
      (before ≡ Spent) ⊎ (before ≡ (if b then next_of m (fuel + more) t (own_answers R t) one o else start_of m.typed t o))
  told_by_begun true None = inr refl
  told_by_begun true (Some (f, v)) = next_more ask m fuel more t (length (own_answers R t)) f v (own_answers R t ++ one ∷ [])
  told_by_begun false o = inr refl

  told_more : (next_told m fuel R t one ≡ Spent) ⊎ (next_told m fuel R t one ≡ next_told m (fuel + more) R t one)
  told_more = told_by_begun (has_begun R t) (entry m.typed R t)

module _ (ask : AskLaws) (store : StoreLaws) (runs : RunLaws) (rules : RuleLaws) (m : Assignment) (one : FindsEntries m.typed) (fuel : ℕ) where
  -- ---- one line
  module _ (R : List SourceEvent) (run : SourceRunWith fuel m R) (l : EventLine) where
    -- an event that is asked for with more fuel is asked for, or the fuel is spent
    asked_or_spent : (more : ℕ) (e : SourceEvent) → IsLine m.typed l e → AskedFor m (fuel + more) R e → IsSpent m fuel R l.thread ⊎ AskedFor m fuel R e
    asked_or_spent more e line asked = elim (told_more ask m fuel more R l.thread (told l)) [
      | inl s ↦ inl (is_spent_at ask m one fuel R run.legal l.thread (told l) run s)
      | inr same ↦ inr (computed_asked ask m one fuel R run.legal run l e (same ∙ asked_is ask m one (fuel + more) R run.legal l e line asked) line)
    ]

    -- where the fuel is spent nothing fails
    not_asked : IsSpent m fuel R l.thread → IsAsked m fuel R l → ⊥
    not_asked s a = let z : Spent ≡ Wants a.event = sym (spent_is ask m one fuel R run.legal l.thread (told l) s) ∙ asked_is ask m one fuel R run.legal l a.event a.line_is a.asked in absurd (cc)

    not_failed : (why : EventFault) → FailsBy m fuel R l why → IsSpent m fuel R l.thread → ⊥
    not_failed EventFault.NotAsked f s = f.unspent s
    not_failed _ f s = not_asked s f.asked

  -- ---- the first line that is refused
  -- the events of a run that obeys, up to that line
  record Reaches (lines : List EventLine) (place : ℕ) (l : EventLine) (before : List SourceEvent) : Type 0 where
    event : SourceEvent
    line_is : IsLine m.typed l event
    more : ℕ
    run : SourceRunWith (fuel + more) m (before ++ event ∷ [])
    obeys : Obeys (before ++ event ∷ []) until_return

  module _ (lines : List EventLine) (place : ℕ) (l : EventLine) (first : IsFirstRefused m fuel lines place l) where
    abbrev before : List SourceEvent
    before = first.before.events

    reaches : (R : List SourceEvent) → SourceRun m R → Obeys R until_return → AreLines m.typed lines R → Reaches lines place l before
    reaches R run obeys are =
        let front : FrontLines m.typed (suc place) lines R = front_lines m.typed (suc place) lines R are in
        let last : LastLine m.typed (take place lines) l front.front = last_line m.typed (take place lines) l front.front (subst (λ z. AreLines m.typed z front.front) (take_one lines place l first.stands) front.lines_are) in
        let whole = one_fuel ask m R run in
        let some : SourceRunWith whole.0 m (last.front ++ last.event ∷ []) = subst (SourceRunWith whole.0 m) last.parts (runs.prefixes_with whole.0 m front.front front.rest (subst (SourceRunWith whole.0 m) front.parts whole.1)) in
        let long : SourceRunWith (fuel + whole.0) m (last.front ++ last.event ∷ []) =
        subst (λ k. SourceRunWith k m (last.front ++ last.event ∷ [])) (let s : whole.0 + fuel ≡ fuel + whole.0 = omega arith in s) (more_run ask m (last.front ++ last.event ∷ []) whole.0 fuel some) in
        let same : last.front ≡ before =
        same_events ask store runs rules m one (fuel + whole.0) (take place lines) last.front before last.lines_are first.before.lines_are
        (runs.prefixes_with (fuel + whole.0) m last.front (last.event ∷ []) long) (more_run ask m before fuel whole.0 first.before.run) in
        let kept : Obeys (last.front ++ last.event ∷ []) until_return =
        subst (λ z. Obeys z until_return) last.parts (runs.obeying until_return front.front front.rest (subst (λ z. Obeys z until_return) front.parts obeys)) in
        record {
          event = last.event;
          line_is = last.line_is;
          more = whole.0;
          run = subst (λ z. SourceRunWith (fuel + whole.0) m (z ++ last.event ∷ [])) same long;
          obeys = subst (λ z. Obeys (z ++ last.event ∷ []) until_return) same kept;
        }

    accepted : (r : Reaches lines place l before) → AskedFor m fuel before r.event → Accepted m fuel (take (suc place) lines)
    accepted r asked = record {
      events = before ++ r.event ∷ [];
      lines_are = subst (λ z. AreLines m.typed z (before ++ r.event ∷ [])) (sym (take_one lines place l first.stands)) (lines_more m.typed (take place lines) l before r.event first.before.lines_are r.line_is);
      run = runs.grow_with m fuel before r.event first.before.run (r.run.legal before r.event [] refl) asked;
      obeys = r.obeys;
    }

    not_here : (why : EventFault) → FailsBy m fuel before l why → (r : Reaches lines place l before) → IsSpent m fuel before l.thread ⊎ AskedFor m fuel before r.event → ⊥
    not_here why fails r (inl s) = not_failed before first.before.run l why fails s
    not_here why fails r (inr asked) = first.refused (accepted r asked)

    no_fault : (why : EventFault) → FailsBy m fuel before l why → (R : List SourceEvent) → SourceRun m R → Obeys R until_return → AreLines m.typed lines R → ⊥
    no_fault why fails R run obeys are =
        let r = reaches R run obeys are in
        not_here why fails r (asked_or_spent before first.before.run l r.more r.event r.line_is (runs.last_asked m (fuel + r.more) before r.event r.run))

  pub never_fails : (R : List SourceEvent) (lines : List EventLine) (n : ℕ) (why : EventFault) → SourceRun m R → Obeys R until_return → AreLines m.typed lines R → Audits m fuel lines (Verdict.Fails n why) → ⊥
  never_fails R lines n why run obeys are audits = no_fault lines audits.0.place audits.0.line_at audits.0.first why audits.1 R run obeys are
