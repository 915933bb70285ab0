-- What a replay shows: places with the same ends enable the same threads, end alike and show the same.
use Rattle.sharc_schedule.proofs.{Imports.{◌≡◌, ℕ, ◌≤◌, false, not, ◌&&◌, nat_lt, List, [], ◌++◌, None, filter, refl, sym, ap, ◌∙◌, subst, if◌then◌else◌, append-nil, range_with_len, Code, Instr, Lock, Join, CondWait, Shape, Machine, Own, instr_at, may_go, Turn, RunLaws, ThreadLaws, settled, asks_for, wait_of, waits_now, held_up, CheckedRun, place_after, IsOn, IsStuck, ThreadView, End, AllDone, Stuck, Budget, Standing, is_enabled, AllAreDone, EndIs, IsAt, arranged, without_tries, scheduled_turns, places_of, one_by_one, schedule_of, Stored, SameEnds, Shows, RunsWithoutTries, ScheduledRuns, SchedulesReplay, ReplaysShow, ScheduleLaws}, Arranging.arrange, Trying.{may_settle, same_may, without, NoTries}, Together.counted, Fitting.fit, Replaying.{chosen_by, one_run}}

same_asks : (s : Shape) (i : Instr) (m : Machine) → asks_for s i (settled m) ≡ asks_for s i m
same_asks s (Lock cell site) m = refl
same_asks s (Join r site) m = refl
same_asks s (CondWait cell site) m = refl
same_asks s i m = refl

wait_settled : (code : Code) (s : Shape) (m : Machine) → wait_of code s (settled m) ≡ wait_of code s m
wait_settled code s m =
    ap (λ b. if b then asks_for s (instr_at code m.at.pc) (settled m) else None) (may_settle m.at.state)
    ∙ ap (λ w. if may_go m.at.state then w else None) (same_asks s (instr_at code m.at.pc) m)

same_wait : (code : Code) (s : Shape) (m n : Machine) → settled m ≡ settled n → wait_of code s m ≡ wait_of code s n
same_wait code s m n e = sym (wait_settled code s m) ∙ (ap (λ x. wait_of code s x) e ∙ wait_settled code s n)

same_own : (m n : Machine) → settled m ≡ settled n → m.own ≡ n.own
same_own m n e = ap (λ (x : Machine). x.own) e

turned : (one other : Standing) → SameEnds one other → SameEnds other one
turned one other same = record { words = sym same.words; threads = (λ t. sym (same.threads t)); started = (λ t. sym (same.started t)); made = (λ t. sym (same.made t)) }

joined : (one other third : Standing) → SameEnds one other → SameEnds other third → SameEnds one third
joined one other third a b = record { words = a.words ∙ b.words; threads = (λ t. a.threads t ∙ b.threads t); started = (λ t. a.started t ∙ b.started t); made = (λ t. a.made t ∙ b.made t) }

module _ (code : Code) (s : Shape) (one other : Standing) (same : SameEnds one other) where
  waits_same : (t : ℕ) → waits_now code s one.words (one.threads t) ≡ waits_now code s other.words (other.threads t)
  waits_same t =
      ap (λ ws. waits_now code s ws (one.threads t)) same.words
      ∙ (ap (λ (o : Own). held_up other.words o.number (wait_of code s (one.threads t))) (same_own (one.threads t) (other.threads t) (same.threads t))
      ∙ ap (λ w. held_up other.words (other.threads t).own.number w) (same_wait code s (one.threads t) (other.threads t) (same.threads t)))

  pub enabled_same : (limit t : ℕ) → is_enabled code s limit one t ≡ is_enabled code s limit other t
  enabled_same limit t =
      ap (λ b. b && (may_go (one.threads t).at.state && (nat_lt (one.made t) limit && not (waits_now code s one.words (one.threads t))))) (same.started t)
      ∙ (ap (λ b. other.started t && (b && (nat_lt (one.made t) limit && not (waits_now code s one.words (one.threads t))))) (same_may (one.threads t) (other.threads t) (same.threads t))
      ∙ (ap (λ n. other.started t && (may_go (other.threads t).at.state && (nat_lt n limit && not (waits_now code s one.words (one.threads t))))) (same.made t)
      ∙ ap (λ b. other.started t && (may_go (other.threads t).at.state && (nat_lt (other.made t) limit && not b))) (waits_same t)))

  done_same : AllAreDone one → AllAreDone other
  done_same done t on = sym (same_may (one.threads t) (other.threads t) (same.threads t)) ∙ done t (same.started t ∙ on)

  is_on : (t : ℕ) → IsOn one t → IsOn other t
  is_on t on = (sym (same.started t) ∙ on.0, sym (same_may (one.threads t) (other.threads t) (same.threads t)) ∙ on.1)

  was_on : (t : ℕ) → IsOn other t → IsOn one t
  was_on t on = (same.started t ∙ on.0, same_may (one.threads t) (other.threads t) (same.threads t) ∙ on.1)

  stuck_same : IsStuck code s one → IsStuck code s other
  stuck_same stuck = record { some = (stuck.some.0, is_on stuck.some.0 stuck.some.1); all = (λ t on. sym (waits_same t) ∙ stuck.all t (was_on t on)) }

pub end_same : (code : Code) (s : Shape) (one other : Standing) → SameEnds one other → (end : End) → EndIs code s one end → EndIs code s other end
end_same code s one other same AllDone is = done_same code s one other same is
end_same code s one other same Stuck is = stuck_same code s one other same is
end_same code s one other same Budget is =
    ((λ done. is.0 (done_same code s other one (turned one other same) done)), (λ stuck. is.1 (stuck_same code s other one (turned one other same) stuck)))

shows : (code : Code) (s : Shape) (one other : Standing) → SameEnds one other → (t : ThreadView) → IsAt code s one t → Shows code s other t
shows code s one other same t is =
    let n : ℕ = t.machine.own.number in
    let owns : t.machine.own ≡ (other.threads n).own = ap (λ (m : Machine). m.own) is.machine ∙ same_own (one.threads n) (other.threads n) (same.threads n) in record {
      stop = ap (λ (o : Own). o.stop) owns;
      wait = ap (λ m. wait_of code s m) is.machine ∙ same_wait code s (one.threads n) (other.threads n) (same.threads n);
      prints = ap (λ (o : Own). o.prints) owns;
      table = ap (λ (o : Own). o.table) owns;
      made = is.made ∙ same.made n;
    }

module _ (laws : RunLaws) (threads : ThreadLaws) where
  pub drop_tries : RunsWithoutTries
  drop_tries code s turns run =
      let r = without threads code s turns ((laws.checked code s turns).0 run) in
      ((laws.checked code s (without_tries code s turns)).1 r.0, r.1)

  no_tries : (code : Code) (s : Shape) (turns : List Turn) → CheckedRun code s turns → NoTries threads code s (without_tries code s turns)
  no_tries code s turns run = (without threads code s turns ((laws.checked code s turns).0 run)).2

  pub schedule : ScheduledRuns
  schedule code s turns run =
      let first = arrange laws code s turns run in
      let second = drop_tries code s (arranged turns) first.0 in
      (second.0, joined (place_after code s (scheduled_turns code s turns)) (place_after code s (arranged turns)) (place_after code s turns) second.1 first.2)

  pub replay : SchedulesReplay
  replay code s limit turns chosen shape run few over checked are over' =
      let kept : List Turn = scheduled_turns code s turns in
      let places : List ℕ = places_of code s limit kept in
      let all : List ℕ = one_by_one (schedule_of code s limit turns) in
      let ends = schedule code s turns run in
      let tried = no_tries code s (arranged turns) (arrange laws code s turns run).0 in
      let small : (t : ℕ) → (place_after code s kept).made t ≤ limit = (λ t. subst (λ n. n ≤ limit) (sym (ends.1.made t)) (few t)) in
      let off : (t : ℕ) → is_enabled code s limit (place_after code s kept) t ≡ false = (λ t. enabled_same code s (place_after code s kept) (place_after code s turns) ends.1 limit t ∙ over t) in
      let written : all ≡ places ++ [] = counted places ∙ sym (append-nil places) in
      let by = chosen_by laws threads code s limit all [] kept shape ((laws.checked code s kept).0 ends.0) tried small written in
      one_run laws threads code s limit (Stored (schedule_of code s limit turns)) (λ i n a b one other. one ∙ sym other) chosen kept
      ((laws.checked code s chosen).0 checked) are over' ((laws.checked code s kept).0 ends.0) by off

  pub show : ReplaysShow
  show code s limit turns run shape checked few over is =
      let kept : List Turn = scheduled_turns code s turns in
      let ends = schedule code s turns checked in
      let same : is.turns ≡ kept = replay code s limit turns is.turns shape checked few over is.checked is.chosen is.over in
      let alike : SameEnds (place_after code s is.turns) (place_after code s turns) = subst (λ ts. SameEnds (place_after code s ts) (place_after code s turns)) (sym same) ends.1 in record {
        words = is.words ∙ alike.words;
        numbers = is.threads.numbers ∙ (λ i. filter (λ t. alike.started t i) (range_with_len 0 s.threads));
        each = (λ k d lt. shows code s (place_after code s is.turns) (place_after code s turns) alike _ (is.threads.each k d lt));
        end_is = end_same code s (place_after code s is.turns) (place_after code s turns) alike run.end is.end_is;
      }

  pub all_laws : ScheduleLaws
  all_laws = record { arrange = arrange laws; without = drop_tries; scheduled = schedule; together = counted; replay = replay; show = show; fit = fit laws threads schedule no_tries }
