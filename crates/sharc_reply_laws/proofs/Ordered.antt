-- A reply to each order tells what the run does of which it is.
use Rattle.sharc_reply_laws.proofs.{Imports.{◌≡◌, ℕ, ◌+◌, ◌≤◌, false, List, ◌++◌, length, Option, Some, None, refl, sym, ap, ◌∙◌, All-contains, Contains, Assignment, MeetsRules, Code, Shape, Stop, Fits, Machine, NumbersFit, Turn, CheckedRun, IsStuck, place_after, ThreadView, AreStarted, IsAt, Standing, is_enabled, source_of, written, stored, Ran, HasOutcome, stuck, IsEnd, seeded, Labels, IsBuilt, IsCompiled, IsFront, TextsBeginWithPrints, StopsAreStopped, IsRunning, RunsAreOnly, SourceLaws, RecordLaws, ChosenAreFew, Alone, Any, AreTurnsBy, Drawn, Order, by_load, by_record, by_replay, by_run, choice_of, written_of, LineTells, RepliesTell, ReplyTells, BuiltRunsTell, RunTells, RunNumbers, Status, size_lines, task_in, IsRunBy, status_of}, Asked.loading}
use Rattle.sharc_run.specs.{declared.outcome.Outcome.Outcome, Outcome.stopped}

-- status 5 is that of a run that is stuck
stuck_is : (code : Code) (s : Shape) (limit : ℕ) (g : Standing) (threads : List ThreadView) (outcome : Outcome) → HasOutcome code s limit g threads outcome → status_of outcome ≡ Status.Stuck → IsStuck code s g
stuck_is code s limit g threads outcome (stuck a is) e = is
stuck_is code s limit g threads outcome _ e = absurd (cc)

-- ---- the lines of threads
module _ (stops : StopsAreStopped) (m : Assignment) (code : Code) (s : Shape) (ls : Labels) (run : List Turn) (checked : CheckedRun code s run) (tells : RunTells m code s ls run)
    (threads : List ThreadView) (are : AreStarted code s (place_after code s run) threads) where
  pub line : (t : ThreadView) → Contains threads t → (stop : Stop) → t.machine.own.stop ≡ Some stop → LineTells m code s ls run threads t stop
  line t inside stop is =
      let n = t.machine.own.number in
      let at = (All-contains (IsAt code s (place_after code s run)) threads t are.each inside).machine in
      let there : ((place_after code s run).threads n).own.stop ≡ Some stop = ap (λ (m : Machine). m.own.stop) (sym at) ∙ is in
      record {
        number = n;
        is = refl;
        stopped = stops code s run checked n stop there;
        stop_is = there;
        report = tells.reports threads are n stop there;
        source = tells.threads n;
      }

module _ (runs : BuiltRunsTell) (texts : TextsBeginWithPrints) (stops : StopsAreStopped) where
  module _ (o : Order) (m : Assignment) (front : IsFront o.source m) (meets : MeetsRules m) (code : Code) (compiled : IsCompiled m code) (numbers : NumbersFit code)
      (shape : Shape) (fits : Fits code shape) (heap : shape.heap ≡ o.heap) (turns : List Turn) (checked : CheckedRun code shape turns)
      (few : (t : ℕ) → (place_after code shape turns).made t ≤ o.limit) (chosen : AreTurnsBy o.choice code shape o.limit turns)
      (over : (t : ℕ) → is_enabled code shape o.limit (place_after code shape turns) t ≡ false) (ran : Ran) (ends : IsEnd code shape o.limit (place_after code shape turns) ran) where
    told : (s : Status) (reply : List ℕ) → s ≡ status_of ran.outcome → reply ≡ written_of o o.form code shape turns ran.text.items → ReplyTells o m s reply
    told s reply status_is reply_is =
        let built : IsBuilt o.source record { checked = m; code = code } =
        record { front = front; accepted = meets; compiled = compiled; numbers = numbers }
        in
        let all = runs o.source record { checked = m; code = code } built in
        let tells = all.runs shape fits turns checked in
        record {
          code = code;
          built = built;
          shape = shape;
          fits = fits;
          heap_is = heap;
          turns = turns;
          checked = checked;
          few = few;
          chosen = chosen;
          over = over;
          threads = ends.threads;
          started = ends.started;
          text = ran.text.items;
          text_is = ends.text;
          outcome = ran.outcome;
          outcome_is = ends.outcome;
          status_is = status_is;
          reply_is = reply_is;
          prints = texts code shape fits turns checked ends.threads ends.started ran.text.items ends.text;
          ls = all.ls;
          typed = all.typed;
          tells = tells;
          lines = line stops m code shape all.ls turns checked tells ends.threads ends.started;
          deadlock = λ e. tells.deadlock (stuck_is code shape o.limit (place_after code shape turns) ends.threads ran.outcome ends.outcome (sym status_is ∙ e));
        }

  module _ (chosen_few : ChosenAreFew) (sources : SourceLaws) (run_only : RunsAreOnly) (recorded : RecordLaws) where
    -- of the words of `run`
    of_run : (source : List ℕ) (workers heap limit : ℕ) (seed : Option ℕ) (m : Assignment) → IsFront source m → MeetsRules m → (s : Status) (reply : List ℕ)
        → (is : IsRunning (record { workers = workers; granules = heap; events = limit; seed = seed }) m s reply)
        → IsRunBy seed (record { workers = workers; granules = heap; events = limit; seed = seed }) is.code is.runs.shape is.ran
        → ReplyTells (record { source = source; heap = heap; limit = limit; choice = choice_of seed; form = Alone }) m s reply
    of_run source workers heap limit (Some seed) m front meets s reply is run =
        told (record { source = source; heap = heap; limit = limit; choice = Drawn seed; form = Alone }) m front meets is.code is.compiled is.fits is.runs.shape is.runs.fits is.runs.heap
        run.turns run.checked (chosen_few (seeded seed) is.code is.runs.shape limit run.turns run.drawn) run.drawn run.over is.ran run.ends s reply is.ends is.written
    of_run source workers heap limit None m front meets s reply is run =
        told (record { source = source; heap = heap; limit = limit; choice = Any; form = Alone }) m front meets is.code is.compiled is.fits is.runs.shape is.runs.fits is.runs.heap
        run.turns run.checked run.few tt run.over is.ran run.ends s reply is.ends is.written

    pub replies : RepliesTell
    replies words input o (by_run workers heap limit seed asked within) m front meets s reply replied =
        let n : RunNumbers = record { workers = workers; granules = heap; events = limit; seed = seed } in
        let is = run_only words n input m (record { asked = ap task_in asked; within = within; front = front }) meets s reply (record { input = input; told = refl; reply = replied }) in
        of_run input workers heap limit seed m front meets s reply is is.runs.run
    replies words input o (by_load number workers asked within) m front meets s reply replied =
        let l = loading sources number workers m front meets words input asked within s reply replied in
        let is = l.running in
        let run = is.runs.run in
        told o m front meets is.code is.compiled is.fits is.runs.shape is.runs.fits is.runs.heap run.turns run.checked run.few tt run.over is.ran run.ends s reply is.ends
        (l.is ∙ ap (λ text. size_lines (length (source_of number)) (number + 2) ++ text) is.written)
    replies words input o (by_record workers heap limit asked within) m front meets s reply replied =
        let is = recorded.records words heap limit input m (record { workers = workers; asked = asked; within = within; front = front; meets = meets }) s reply (record { input = input; told = refl; reply = replied }) in
        let shape = is.records.shape in
        let made = is.records.record_is in
        let run = made.run in
        told o m front meets is.code is.compiled is.fits shape is.records.fits is.records.heap_is run.turns run.checked run.few tt run.over made.ran run.ends s reply (is.ends ∙ ap status_of made.outcome)
        (is.written ∙ made.file ∙ ap (λ h. written (record { source = input; heap = h; limit = limit; places = made.places }) made.ran.text.items) is.records.heap_is
        ∙ ap (λ places. written (record { source = input; heap = heap; limit = limit; places = places }) made.ran.text.items) run.places_are)
    replies words input o (by_replay file asked short is_file within) m front meets s reply replied =
        let is = recorded.replays words input file m (record { asked = asked; short = short; is = is_file; within = within; front = front; meets = meets }) s reply (record { input = input; told = refl; reply = replied }) in
        let run = is.replays.run in
        told o m front meets is.code is.compiled is.fits is.replays.shape is.replays.fits is.replays.heap_is run.turns run.checked
        (chosen_few (stored file.places) is.code is.replays.shape file.limit run.turns run.chosen) run.chosen run.over is.ran run.ends s reply is.ends is.written
