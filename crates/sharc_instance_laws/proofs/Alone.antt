-- Of a run in which one thread makes all turns each event is that thread's; so no other thread has begun, and nothing is in flight.
use Rattle.sharc_instance_laws.proofs.Imports.{◌≡◌, ℕ, ◌+◌, List, [], ◌∷◌, ◌++◌, None, Some, sym, subst, ◌∙◌, Option, if◌then◌else◌, SourceEvent, Code, Instr, Shape, Machine, instr_at, Said, Turn, Owns, paired, result_of, told_by, with_told, NumbersAreOwn, Erase, one_thread, place_after, told_in, Assignment, Begun, Labels, history_of, NothingIsInFlight, reverse_aux, IsSaidBy, TurnsTell}

-- ---- the thread of an event is that of the machine that says it
abbrev Is : ℕ → Option SourceEvent → Type 0
Is n None = Unit {0}
Is n (Some e) = e.thread ≡ n

of_said : (i : Instr) (m : Machine) (told : Option SourceEvent) → IsSaidBy i m told → Is m.own.number told
of_said i m None h = tt
of_said i m (Some e) h = h.0

-- ---- the events of a run
abbrev AreOf : ℕ → List SourceEvent → Type 0
AreOf n [] = Unit {0}
AreOf n (e ∷ rest) = (e.thread ≡ n) × AreOf n rest

told_with : (n t : ℕ) (o : Option SourceEvent) (says : List (Said SourceEvent)) → Is n o → AreOf n (told_in says) → AreOf n (told_in (with_told t o says))
told_with n t None says is rest = rest
told_with n t (Some e) says is rest = (is, rest)

reversed : (n : ℕ) (events onto : List SourceEvent) → AreOf n events → AreOf n onto → AreOf n (reverse_aux events onto)
reversed n [] onto own done = done
reversed n (e ∷ events) onto own done = reversed n events (e ∷ onto) own.1 (own.0, done)

among : (n : ℕ) (before : List SourceEvent) (e : SourceEvent) (after : List SourceEvent) → AreOf n (before ++ e ∷ after) → e.thread ≡ n
among n [] e after own = own.0
among n (x ∷ before) e after own = among n before e after own.1

module _ (tell : TurnsTell) (numbers : NumbersAreOwn) (code : Code) (s : Shape) where
  erased : (run : List Turn) → Owns 0 run → AreOf 0 (told_in (Erase code s run))
  erased [] own = tt
  erased (turn ∷ earlier) own =
      let g = place_after code s earlier in
      let m = g.threads turn.thread in
      let o = told_by (one_thread code s) (Erase code s earlier) g turn in
      told_with 0 turn.thread o (Erase code s earlier)
      (subst (λ (n : ℕ). Is n o) (numbers code s earlier turn.thread ∙ own.0) (of_said (instr_at code m.at.pc) m o (tell code (instr_at code m.at.pc) m (result_of turn.event) (paired (one_thread code s) (Erase code s earlier) g turn))))
      (erased earlier own.1)

  own_history : (run : List Turn) → Owns 0 run → AreOf 0 (history_of code s run)
  own_history run own = reversed 0 (told_in (Erase code s run)) [] (erased run own) tt

  none_begun : (a : Assignment) (run : List Turn) → Owns 0 run → (u : ℕ) → (u ≡ 0 → ⊥) → Begun a (history_of code s run) u → ⊥
  none_begun a run own u other b =
      other (sym b.own.own ∙ among 0 b.own.before b.own.begins b.own.after (subst (λ (l : List SourceEvent). AreOf 0 l) b.own.stands (own_history run own)))

  pub alone : (a : Assignment) (ls : Labels) (run : List Turn) → Owns 0 run → (n : ℕ) → NothingIsInFlight a code s ls run 0 n
  alone a ls run own n = record {
    given_up = λ u other b flight. none_begun a run own u other b;
    freed = λ u other b flight. none_begun a run own u other b;
  }

-- an earlier part of such a run is one
pub earlier_owns : (later earlier : List Turn) → Owns 0 (later ++ earlier) → Owns 0 earlier
earlier_owns [] earlier own = own
earlier_owns (turn ∷ later) earlier own = earlier_owns later earlier own.1
