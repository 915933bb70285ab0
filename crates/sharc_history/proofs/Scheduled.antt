-- What the run of a schedule tells.
use Rattle.std.proofs.Common.{◌≡◌, ℕ, Bool, true, false, List, [], ◌∷◌, Option, None, map, if◌then◌else◌, refl, sym, ap, ◌∙◌}
use Rattle.sharc_tree.specs.declared.event.SourceEvent.{SourceEvent}
use Rattle.sharc_code.specs.{declared.code.Code.Code, declared.shape.Shape.Shape, declared.state.TurnState.TurnState, declared.state.TurnState.TheVariants.{Runs, Tries, Stopped, Ended}, Laws.RunLaws, Machine.{Machine, instr_at}, Opening.opening_words, Runs.{Said, OneThread, Turn, IsRun, opening_of, result_of, state_now, with_told}, Says.{elements_in, says, speaks_of}, ThreadLaws.ThreadLaws, Whole.{Erase, bounds, one_thread, place_after}}
use Rattle.sharc_schedule.specs.{Laws.ScheduleLaws, Schedule.{arranged, is_try, scheduled_turns, without_tries}}
use Rattle.sharc_history.specs.Laws.{HistoryLaws, OneHistory, SchedulesTell, TriesTellNothing}
use Rattle.sharc_history.proofs.{Erased.one_history, Settling.{told_from, told_alike}, Silent.try_silent}

try_is : (state : TurnState) → is_try state ≡ true → state ≡ Tries
try_is Runs e = absurd (cc)
try_is Tries e = refl
try_is Stopped e = absurd (cc)
try_is Ended e = absurd (cc)

module _ (runs : RunLaws) (schedules : ScheduleLaws) (code : Code) (s : Shape) where
  abbrev m : OneThread Machine SourceEvent
  m = one_thread code s

  abbrev Run : List Turn → Type 0
  Run turns = IsRun bounds m (opening_of bounds m (opening_words code s)) turns

  abbrev sources : List (Said SourceEvent) → List SourceEvent
  sources earlier = map (λ (told : Said SourceEvent). told.told) earlier

  -- a failed try
  dropped : (one : Turn) (earlier : List Turn) → is_try (state_now m (place_after code s earlier) one).at.state ≡ true → Erase code s (one ∷ earlier) ≡ Erase code s earlier
  dropped one earlier e =
      let x : Machine = (place_after code s earlier).threads one.thread in
      let elements : ℕ = elements_in (sources (Erase code s earlier)) (speaks_of (instr_at code x.at.pc) x (result_of one.event)) in
      let told : says code x (result_of one.event) elements ≡ None = try_silent code s x (result_of one.event) elements runs.turns.outcomes (try_is (state_now m (place_after code s earlier) one).at.state e) in
      ap (λ o. with_told one.thread o (Erase code s earlier)) told

  -- a turn that is none, where the run before it is without its failed tries
  kept : (one : Turn) (before earlier : List Turn) → Run earlier → before ≡ without_tries code s earlier → Erase code s before ≡ Erase code s earlier → Erase code s (one ∷ before) ≡ Erase code s (one ∷ earlier)
  kept one before earlier run is same =
      let t : ℕ = one.thread in
      let found : ℕ = result_of one.event in
      let ends = (schedules.without code s earlier ((runs.checked code s earlier).1 run)).1 in
      let there = told_alike code (sources (Erase code s earlier)) found ((place_after code s (without_tries code s earlier)).threads t) ((place_after code s earlier).threads t) (ends.threads t) in
      ap (λ (past : List (Said SourceEvent)). with_told t (told_from code (sources past) found ((place_after code s before).threads t)) past) same
      ∙ ap (λ (turns : List Turn). with_told t (told_from code (sources (Erase code s earlier)) found ((place_after code s turns).threads t)) (Erase code s earlier)) is
      ∙ ap (λ (o : Option SourceEvent). with_told t o (Erase code s earlier)) there

  tries_tell : (turns : List Turn) → Run turns → Erase code s (without_tries code s turns) ≡ Erase code s turns
  tries_tell [] run = refl
  tries_tell (one ∷ earlier) run = by_try (is_try (state_now m (place_after code s earlier) one).at.state) refl (tries_tell earlier run.0)
    where
      by_try : (b : Bool) → is_try (state_now m (place_after code s earlier) one).at.state ≡ b → Erase code s (without_tries code s earlier) ≡ Erase code s earlier
          → Erase code s (if b then without_tries code s earlier else one ∷ without_tries code s earlier) ≡ Erase code s (one ∷ earlier)
      by_try true e h = h ∙ sym (dropped one earlier e)
      by_try false e h = kept one (without_tries code s earlier) earlier run.0 refl h

tries_tell_nothing : RunLaws → ScheduleLaws → TriesTellNothing
tries_tell_nothing runs schedules code s turns run = tries_tell runs schedules code s turns ((runs.checked code s turns).0 run)

schedules_tell : OneHistory → TriesTellNothing → ScheduleLaws → SchedulesTell
schedules_tell one tries schedules code s limit turns chosen threads run few over again picks done =
    let same : chosen ≡ scheduled_turns code s turns = schedules.replay code s limit turns chosen threads run few over again picks done in
    let moved = schedules.arrange code s turns run in
    ap (Erase code s) same ∙ tries code s (arranged turns) moved.0 ∙ one code s (arranged turns) turns moved.0 run moved.1

pub all_laws : RunLaws → ThreadLaws → ScheduleLaws → HistoryLaws
all_laws runs threads schedules =
    let one : OneHistory = one_history runs in
    let tries : TriesTellNothing = tries_tell_nothing runs schedules in
    record { one = one; tries = tries; schedules = schedules_tell one tries schedules }
