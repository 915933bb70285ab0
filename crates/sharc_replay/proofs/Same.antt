-- Runs whose places have the same ends have one text and one outcome.
use Rattle.std.proofs.Common.{◌≡◌, ℕ, suc, Bool, not, ◌&&◌, ◌||◌, List, [], ◌∷◌, length, map, filter, None, refl, sym, ap, ◌∙◌, subst, arith, if◌then◌else◌}
use Rattle.std.specs.List.{range_with_len, All, list_any}
use Rattle.sharc_word.specs.declared.step.TheConstants.{THREADS}
use Rattle.sharc_code.specs.{declared.code.Code.Code, declared.instr.Instr.Instr, declared.instr.Instr.TheVariants.{Lock, Join, CondWait}, declared.shape.Shape.Shape, declared.state.TurnState.TurnState, Machine.{Machine, Own, instr_at}, Path.may_go, Runs.Turn, ThreadLaws.{settle, settled}, Waits.{asks_for, wait_of, held_up}, Whole.place_after}
use Rattle.sharc_cpu.specs.Thread.{ThreadView, is_stop}
use Rattle.sharc_threads.specs.Ends.{Standing, IsAt, AreStarted}
use Rattle.sharc_schedule.specs.Laws.{SameEnds}
use Rattle.sharc_run.specs.{TextLaws.{shown, TextIsOne}, Others.number_of, RunText.{is_gone, IsRunText}, declared.outcome.Outcome.TheVariants.{Done, Reported, Stopped, Stuck, Limit}, declared.run.Ran.Ran, Laws.{is_on, goes_on, outcome_told, OutcomeIsTold}, Outcome.{is_report, has_reported, was_stopped}, Run.IsEnd}
use Rattle.sharc_replay.specs.Laws.{SaysSame}

-- ---- a thread of which it is forgotten whether its last turn was a failed try
may_settle : (c : TurnState) → may_go (settle c) ≡ may_go c
may_settle TurnState.Runs = refl
may_settle TurnState.Tries = refl
may_settle TurnState.Stopped = refl
may_settle TurnState.Ended = refl

gone_settle : (c : TurnState) → is_gone (settle c) ≡ is_gone c
gone_settle TurnState.Runs = refl
gone_settle TurnState.Tries = refl
gone_settle TurnState.Stopped = refl
gone_settle TurnState.Ended = refl

stop_settle : (c : TurnState) → is_stop (settle c) ≡ is_stop c
stop_settle TurnState.Runs = refl
stop_settle TurnState.Tries = refl
stop_settle TurnState.Stopped = refl
stop_settle TurnState.Ended = refl

-- what does not look at that is the same
same_test : (p : TurnState → Bool) → ((c : TurnState) → p (settle c) ≡ p c) → (m n : Machine) → settled m ≡ settled n → p m.at.state ≡ p n.at.state
same_test p forgets m n e = sym (forgets m.at.state) ∙ (ap (λ (x : Machine). p x.at.state) e ∙ forgets n.at.state)

same_asks : (s : Shape) (i : Instr) (m : Machine) → asks_for s i (settled m) ≡ asks_for s i m
same_asks s (Lock cell site) m = refl
same_asks s (Join r site) m = refl
same_asks s (CondWait cell site) m = refl
same_asks s i m = refl

wait_settled : (code : Code) (s : Shape) (m : Machine) → wait_of code s (settled m) ≡ wait_of code s m
wait_settled code s m =
    ap (λ b. if b then asks_for s (instr_at code m.at.pc) (settled m) else None) (may_settle m.at.state)
    ∙ ap (λ w. if may_go m.at.state then w else None) (same_asks s (instr_at code m.at.pc) m)

same_wait : (code : Code) (s : Shape) (m n : Machine) → settled m ≡ settled n → wait_of code s m ≡ wait_of code s n
same_wait code s m n e = sym (wait_settled code s m) ∙ (ap (λ x. wait_of code s x) e ∙ wait_settled code s n)

-- ---- two threads
pub record Twins (t u : ThreadView) : Type 0 where
  pub machine : settled t.machine ≡ settled u.machine
  pub wait : t.wait ≡ u.wait
  pub made : t.made ≡ u.made

same_own : (t u : ThreadView) → Twins t u → t.machine.own ≡ u.machine.own
same_own t u are = ap (λ (x : Machine). x.own) are.machine

shown_same : (t u : ThreadView) → Twins t u → shown t ≡ shown u
shown_same t u are = λ i. record {
  gone = same_test is_gone gone_settle t.machine u.machine are.machine i;
  number = (same_own t u are i).number;
  stop = (same_own t u are i).stop;
  wait = are.wait i;
  made = are.made i;
  prints = (same_own t u are i).prints;
  table = (same_own t u are i).table;
}

reported_same : (t u : ThreadView) → Twins t u → has_reported t ≡ has_reported u
reported_same t u are = ap (λ (o : Own). is_report o.stop) (same_own t u are)

stopped_same : (t u : ThreadView) → Twins t u → was_stopped t ≡ was_stopped u
stopped_same t u are = same_test is_stop stop_settle t.machine u.machine are.machine

on_same : (t u : ThreadView) → Twins t u → is_on t ≡ is_on u
on_same t u are = same_test may_go may_settle t.machine u.machine are.machine

goes_same : (words : List ℕ) (t u : ThreadView) → Twins t u → goes_on words t ≡ goes_on words u
goes_same words t u are = λ i. on_same t u are i && not (held_up words (same_own t u are i).number (are.wait i))

-- ---- lists of them
abbrev AreTwins : List ThreadView → List ThreadView → Type 0
AreTwins [] [] = Unit {0}
AreTwins (t ∷ ts) (u ∷ us) = Twins t u × AreTwins ts us
AreTwins [] (u ∷ us) = ⊥
AreTwins (t ∷ ts) [] = ⊥

any_same : (p : ThreadView → Bool) → ((t u : ThreadView) → Twins t u → p t ≡ p u) → (ts us : List ThreadView) → AreTwins ts us → list_any p ts ≡ list_any p us
any_same p same [] [] are = refl
any_same p same (t ∷ ts) (u ∷ us) are = λ i. same t u are.0 i || any_same p same ts us are.1 i
any_same p same [] (u ∷ us) are = absurd are
any_same p same (t ∷ ts) [] are = absurd are

shown_all : (ts us : List ThreadView) → AreTwins ts us → map shown ts ≡ map shown us
shown_all [] [] are = refl
shown_all (t ∷ ts) (u ∷ us) are = λ i. shown_same t u are.0 i ∷ shown_all ts us are.1 i
shown_all [] (u ∷ us) are = absurd are
shown_all (t ∷ ts) [] are = absurd are

told_same : (words : List ℕ) (ts us : List ThreadView) → AreTwins ts us → outcome_told words ts ≡ outcome_told words us
told_same words ts us are = λ i.
    if any_same has_reported reported_same ts us are i then Reported
    else (if any_same was_stopped stopped_same ts us are i then Stopped
    else (if not (any_same is_on on_same ts us are i) then Done
    else (if any_same (goes_on words) (goes_same words) ts us are i then Limit
    else Stuck)))

abbrev first_of : ℕ → List ℕ → ℕ
first_of n [] = n
first_of n (k ∷ ks) = k

abbrev rest_of : List ℕ → List ℕ
rest_of [] = []
rest_of (k ∷ ks) = ks

-- ---- the ends of two runs
module _ (code : Code) (s : Shape) (one other : Standing) (same : SameEnds one other) where
  twins : (t u : ThreadView) → number_of t ≡ number_of u → IsAt code s one t → IsAt code s other u → Twins t u
  twins t u e a b =
      let n = number_of t in
      let settled_same : settled t.machine ≡ settled u.machine = ap settled a.machine ∙ (same.threads n ∙ (ap (λ k. settled (other.threads k)) e ∙ ap settled (sym b.machine))) in record {
        machine = settled_same;
        wait = a.thread.waits ∙ (same_wait code s t.machine u.machine settled_same ∙ sym b.thread.waits);
        made = a.made ∙ (same.made n ∙ (ap other.made e ∙ sym b.made));
      }

  are_twins : (ts us : List ThreadView) → map number_of ts ≡ map number_of us → All (IsAt code s one) ts → All (IsAt code s other) us → AreTwins ts us
  are_twins [] [] e a b = tt
  are_twins (t ∷ ts) (u ∷ us) e a b = (
    twins t u (ap (first_of 0) e) (a 0 t (omega arith)) (b 0 u (omega arith)),
    are_twins ts us (ap rest_of e) (λ k d low. a (suc k) d (omega (arith, low))) (λ k d low. b (suc k) d (omega (arith, low))),
  )
  are_twins [] (u ∷ us) e a b = absurd (let h : 0 ≡ suc (length (map number_of us)) = ap length e in omega (arith, h))
  are_twins (t ∷ ts) [] e a b = absurd (let h : suc (length (map number_of ts)) ≡ 0 = ap length e in omega (arith, h))

  started_twins : (ts us : List ThreadView) → AreStarted code s one ts → AreStarted code s other us → AreTwins ts us
  started_twins ts us a b = are_twins ts us (a.numbers ∙ ((λ i. filter (λ t. same.started t i) (range_with_len 0 s.threads)) ∙ sym b.numbers)) a.each b.each

pub same_end : TextIsOne → OutcomeIsTold → (code : Code) (s : Shape) (limit : ℕ) (turns others : List Turn) (ran again : Ran) → s.threads ≡ THREADS
    → SameEnds (place_after code s turns) (place_after code s others) → IsEnd code s limit (place_after code s turns) ran → IsEnd code s limit (place_after code s others) again → SaysSame ran again
same_end one_text told code s limit turns others ran again fits same a b =
    let g : Standing = place_after code s turns in
    let h : Standing = place_after code s others in
    let are : AreTwins a.threads b.threads = started_twins code s g h same a.threads b.threads a.started b.started in
    let text : IsRunText code g.words b.threads again.text.items = subst (λ w. IsRunText code w b.threads again.text.items) (sym same.words) b.text in record {
      text = one_text code g.words a.threads b.threads ran.text.items again.text.items (shown_all a.threads b.threads are) a.text text;
      outcome =
          told code s limit turns a.threads ran.outcome fits a.started a.outcome
          ∙ (told_same g.words a.threads b.threads are
          ∙ (ap (λ w. outcome_told w b.threads) same.words
          ∙ sym (told code s limit others b.threads again.outcome fits b.started b.outcome)));
    }
