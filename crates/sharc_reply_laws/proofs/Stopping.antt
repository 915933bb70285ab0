-- A thread that has a stop is stopped.
use Rattle.sharc_reply_laws.proofs.Imports.{◌≡◌, ℕ, true, Some, None, refl, ◌⊎◌, inl, inr, ⊎_elim, subst, List, [], ◌∷◌, sym, ap, ◌∙◌, cases_eq, Code, Instr, Shape, Machine, instr_at, after, may_go, turn, TurnState, Stopped, Stop, opening_words, Global, IsRun, Turn as RunTurn, opening_of, put, result_of, bounds, one_thread, place_after, ne_eq, eq_refl, RunLaws, Own, TurnOutcome, own_after, state_after, ComesOut}

-- ---- one turn
-- the thread has the stop that it had, or it is stopped
abbrev Stays : Machine → Machine → Type 0
Stays m x = (x.own.stop ≡ m.own.stop) ⊎ (x.at.state ≡ Stopped)

stays : (s : Shape) (i : Instr) (found : ℕ) (m x : Machine) → ComesOut s i found m x → Stays m x
stays s i found m x out = by out.outcome out.own out.state
  where
    by : (o : TurnOutcome) → x.own ≡ own_after o m.own → x.at.state ≡ state_after o → Stays m x
    by (TurnOutcome.Stops stop) own state = inr state
    by (TurnOutcome.Refused function site) own state = inr state
    by _ own state = inl (ap (λ (o : Own). o.stop) own)

-- ---- runs
abbrev pub IsStop : Machine → Type 0
IsStop m = (stop : Stop) → m.own.stop ≡ Some stop → m.at.state ≡ Stopped

pub put_same : {A : Type 0} (f : ℕ → A) (i : ℕ) (v : A) → put f i v i ≡ v
put_same f i v = rw (eq_refl i) refl

pub put_other : {A : Type 0} (f : ℕ → A) (i j : ℕ) (v : A) → (j ≡ i → ⊥) → put f i v j ≡ f j
put_other f i j v ne = rw (ne_eq j i ne) refl

not_going : (state : TurnState) → may_go state ≡ true → state ≡ Stopped → ⊥
not_going state on e = let f : may_go Stopped ≡ true = ap may_go (sym e) ∙ on in cc

module _ (laws : RunLaws) (code : Code) (s : Shape) where
  of_turn : (m x : Machine) → may_go m.at.state ≡ true → IsStop m → Stays m x → IsStop x
  of_turn m x on h (inl e) stop is = absurd (not_going m.at.state on (h stop (sym e ∙ is)))
  of_turn m x on h (inr e) stop is = e

  abbrev from : Global Machine
  from = opening_of bounds (one_thread code s) (opening_words code s)

  pub stopped : (run : List RunTurn) → IsRun bounds (one_thread code s) from run → (t : ℕ) → IsStop ((place_after code s run).threads t)
  stopped [] run t = λ stop is. absurd (let f : None ≡ Some stop = is in cc)
  stopped (one ∷ earlier) run t =
      let x : Machine = after (turn code s ((place_after code s earlier).threads one.thread)) (result_of one.event) in
      ⊎_elim
      (λ (e : t ≡ one.thread). subst IsStop (sym (ap (put (place_after code s earlier).threads one.thread x) e ∙ put_same (place_after code s earlier).threads one.thread x))
      (of_turn ((place_after code s earlier).threads one.thread) x run.1.next.runs (stopped earlier run.0 one.thread)
      (stays s (instr_at code ((place_after code s earlier).threads one.thread).at.pc) (result_of one.event) ((place_after code s earlier).threads one.thread) x (laws.turns.outcomes code s (instr_at code ((place_after code s earlier).threads one.thread).at.pc) ((place_after code s earlier).threads one.thread) (result_of one.event)))))
      (λ (ne : t ≡ one.thread → ⊥). subst IsStop (sym (put_other (place_after code s earlier).threads one.thread t x ne)) (stopped earlier run.0 t))
      (cases_eq t one.thread)
