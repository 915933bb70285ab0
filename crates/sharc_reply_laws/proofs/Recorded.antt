-- Which replies `record` and `replay` have where the source is a program with accepted modes.
use Rattle.sharc_reply_laws.proofs.Imports.{◌≡◌, ℕ, ◌<◌, ◌≤◌, Bool, true, false, List, length, Option, Some, None, is_some, refl, ap, sym, ◌∙◌, subst, false≢true, Assignment, MeetsRules, Code, Shape, Fits, AreWithin, commands, Command, Record, Replay, Audit, FileView, IsFile, HoldsNoSchedule, written, ReplayLaws, file_of, IsScheduledRun, Ran, IsFront, ProgramsHoldNoSchedule, Status, SourceTask, source_limit, recording_limit, Records, Replays, GivesRun, not_made, made, GivesSource, at_fault, by_program, RecordReplies, long_input, ReplayReplies, long_recording, no_recording, long_source_in, was_recorded, was_replayed, task_in, Replies, usage, too_long, answered, loaded, recorded, replayed, audited, IsReply, SourceLaws, IsReplayable, IsRecorded, IsRecording, IsReplayed, IsReplaying, not_long}
use Rattle.sharc_cli.specs.declared.command.Command.TheVariants.{Load}
use Rattle.sharc_schedule.specs.FileLaws.{FileLaws}

-- ---- the words
pub command_or_none : (o : Option Command) (c : Command) → o ≡ Some c → o ≡ None → ⊥
command_or_none o c is not = cc

pub task_or_none : (o : Option SourceTask) (t : SourceTask) → o ≡ Some t → o ≡ None → ⊥
task_or_none o t is not = cc

pub no_reader : (o : Option SourceTask) → o ≡ None → is_some o ≡ true → ⊥
no_reader o none reads = false≢true (sym (ap is_some none) ∙ reads)

pub same_command : (o : Option Command) (a b : Command) → o ≡ Some a → o ≡ Some b → a ≡ b
same_command o a b is also = cc

abbrev is_record : Command → Bool
is_record (Record workers heap limit) = true
is_record _ = false

abbrev is_replay : Command → Bool
is_replay Replay = true
is_replay _ = false

-- two commands that a test tells apart
other_command : (p : Command → Bool) (o : Option Command) (a b : Command) → p a ≡ true → p b ≡ false → o ≡ Some a → o ≡ Some b → ⊥
other_command p o a b yes' no' is also = false≢true (sym no' ∙ (ap p (sym (same_command o a b is also)) ∙ yes'))

abbrev heap_in : Command → ℕ
heap_in (Record workers heap limit) = heap
heap_in _ = 0

abbrev limit_in : Command → ℕ
limit_in (Record workers heap limit) = limit
limit_in _ = 0

no_task : (o : Option Command) (c : Command) → o ≡ Some c → task_in (Some c) ≡ None → task_in o ≡ None
no_task o c is none = ap task_in is ∙ none

-- a reply to the words of `record` is what `record` writes
of_record : (words : List (List ℕ)) (input : List ℕ) (workers heap limit : ℕ) (s : Status) (text : List ℕ) → commands words ≡ Some (Record workers heap limit) → Replies words input s text → RecordReplies heap limit input s text
of_record words input workers heap limit s text asked (usage none) = absurd (command_or_none (commands words) (Record workers heap limit) asked none)
of_record words input workers heap limit s text asked (too_long reads long) = absurd (no_reader (task_in (commands words)) (no_task (commands words) (Record workers heap limit) asked refl) reads)
of_record words input workers heap limit s text asked (answered t z other is short does) = absurd (task_or_none (task_in (commands words)) t is (no_task (commands words) (Record workers heap limit) asked refl))
of_record words input workers heap limit s text asked (loaded number n z other is reply) = absurd (other_command is_record (commands words) (Record workers heap limit) (Load number n) refl refl asked is)
of_record words input workers heap limit s text asked (replayed z other is reply) = absurd (other_command is_record (commands words) (Record workers heap limit) Replay refl refl asked is)
of_record words input workers heap limit s text asked (audited z other is reply) = absurd (other_command is_record (commands words) (Record workers heap limit) Audit refl refl asked is)
of_record words input workers heap limit s text asked (recorded n h l z other is reply) =
    let same = same_command (commands words) (Record n h l) (Record workers heap limit) is asked in
    subst (λ k. RecordReplies heap k input z other) (ap limit_in same) (subst (λ k. RecordReplies k l input z other) (ap heap_in same) reply)

-- and one to the words of `replay` is what `replay` writes
of_replay : (words : List (List ℕ)) (input : List ℕ) (s : Status) (text : List ℕ) → commands words ≡ Some Replay → Replies words input s text → ReplayReplies input s text
of_replay words input s text asked (usage none) = absurd (command_or_none (commands words) Replay asked none)
of_replay words input s text asked (too_long reads long) = absurd (no_reader (task_in (commands words)) (no_task (commands words) Replay asked refl) reads)
of_replay words input s text asked (answered t z other is short does) = absurd (task_or_none (task_in (commands words)) t is (no_task (commands words) Replay asked refl))
of_replay words input s text asked (loaded number n z other is reply) = absurd (other_command is_replay (commands words) Replay (Load number n) refl refl asked is)
of_replay words input s text asked (recorded n h l z other is reply) = absurd (other_command is_replay (commands words) Replay (Record n h l) refl refl asked is)
of_replay words input s text asked (audited z other is reply) = absurd (other_command is_replay (commands words) Replay Audit refl refl asked is)
of_replay words input s text asked (replayed z other is reply) = reply

-- ---- the source
module _ (sources : SourceLaws) where
  -- of a source that is this program with accepted modes a run is made
  run_of_source : (source : List ℕ) (m : Assignment) (Makes : Code → Ran → Type 0) (s : Status) (text : List ℕ) → IsFront source m → GivesSource source Makes s text → GivesRun m Makes s text
  run_of_source source m Makes s text front (at_fault fault is) = absurd (sources.faultless source m front fault is)
  run_of_source source m Makes s text front (by_program n z other also gives) = subst (λ (k : Assignment). GivesRun k Makes z other) (sources.program source n m also front) gives

  -- ---- `replay`
  replaying : (file : FileView) (m : Assignment) (s : Status) (text : List ℕ) → MeetsRules m → GivesRun m (Replays file) s text → IsReplaying file m s text
  replaying file m s text meets (not_made other is) = absurd (is.breaks_rules meets)
  replaying file m s text meets (made code run also compiled fit is) = record { code = code; compiled = compiled; fits = fit; ran = run; replays = is; ends = refl; written = refl }

  module _ (files : FileLaws) where
    replay_reply : (input : List ℕ) (file : FileView) (m : Assignment) (s : Status) (text : List ℕ) → length input ≤ recording_limit → IsFile input file → length file.source ≤ source_limit → IsFront file.source m → MeetsRules m
        → ReplayReplies input s text → IsReplaying file m s text
    replay_reply input file m s text short is within front meets (long_recording long) = absurd (not_long recording_limit (length input) long short)
    replay_reply input file m s text short is within front meets (no_recording n short' fault) = absurd (fault.none file is)
    replay_reply input file m s text short is within front meets (long_source_in other short' also long) =
        absurd (not_long source_limit (length file.source) (subst (λ (f : FileView). source_limit < length f.source) (files.one input other file also is) long) within)
    replay_reply input file m s text short is within front meets (was_replayed other short' also within' z text' gives) =
        replaying file m z text' meets
        (run_of_source file.source m (Replays file) z text' front
        (subst (λ (f : FileView). GivesSource f.source (Replays f) z text') (files.one input other file also is) gives))

    pub replay_only : (words : List (List ℕ)) (input : List ℕ) (file : FileView) (m : Assignment) → IsReplayed words input file m → (s : Status) (text : List ℕ) → IsReply words (Some input) s text → IsReplaying file m s text
    replay_only words input file m is s text reply =
        replay_reply input file m s text is.short is.is is.within is.front is.meets
        (of_replay words input s text is.asked (subst (λ (l : List ℕ). Replies words l s text) reply.told reply.reply))

  -- ---- `record`
  module _ (laws : ReplayLaws) (programs : ProgramsHoldNoSchedule) (bounds : (words : List (List ℕ)) (command : Command) → commands words ≡ Some command → AreWithin command) where
    holds_none : (source : List ℕ) (m : Assignment) → IsFront source m → HoldsNoSchedule source
    holds_none source m front = programs source front.typed.tokens m.typed.program front.typed.read front.typed.reads

    -- two shapes that fit a code, with heaps of one size, are one
    same_shape : (code : Code) (s t : Shape) → Fits code s → Fits code t → s.heap ≡ t.heap → s ≡ t
    same_shape code s t a b heap = λ i. record { threads = (a.threads ∙ sym b.threads) i; globals = (a.globals ∙ sym b.globals) i; heap = heap i }

    replayable : (source : List ℕ) (m : Assignment) (heap limit : ℕ) (code : Code) (run : Ran) → IsFront source m → 1 ≤ limit → limit ≤ 200000 → Records source heap limit code run → IsReplayable source heap limit code run
    replayable source m heap limit code run front some few is =
        let shape = is.shape in
        let record_is = is.record_is in
        let file = file_of source shape limit record_is.places in
        let one = laws.files source code shape limit run record_is is.fits some few (holds_none source m front) in
        record {
          file = file;
          is = one.file;
          only = one.only;
          source_is = refl;
          heap_is = is.heap_is;
          limit_is = refl;
          again = λ ran by.
              let same : by.shape ≡ shape = same_shape code by.shape shape by.fits is.fits by.heap_is in
              let scheduled = subst (λ (t : Shape). IsScheduledRun code t record_is.places limit ran) same by.run in
              let says = laws.again source code shape limit run ran record_is is.fits scheduled in
              record { text = says.file; outcome = says.outcome };
        }

    recording : (source : List ℕ) (heap limit : ℕ) (m : Assignment) (s : Status) (text : List ℕ) → IsFront source m → MeetsRules m → 1 ≤ limit → limit ≤ 200000 → GivesRun m (Records source heap limit) s text
        → IsRecording source heap limit m s text
    recording source heap limit m s text front meets some few (not_made other is) = absurd (is.breaks_rules meets)
    recording source heap limit m s text front meets some few (made code run also compiled fit is) =
        record { code = code; compiled = compiled; fits = fit; made = run; records = is; replayable = replayable source m heap limit code run front some few is; ends = refl; written = refl }

    record_reply_only : (source : List ℕ) (heap limit : ℕ) (m : Assignment) (s : Status) (text : List ℕ) → length source ≤ source_limit → IsFront source m → MeetsRules m → 1 ≤ limit → limit ≤ 200000
        → RecordReplies heap limit source s text → IsRecording source heap limit m s text
    record_reply_only source heap limit m s text within front meets some few (long_input long) = absurd (not_long source_limit (length source) long within)
    record_reply_only source heap limit m s text within front meets some few (was_recorded short z other gives) =
        recording source heap limit m z other front meets some few (run_of_source source m (Records source heap limit) z other front gives)

    pub record_only : (words : List (List ℕ)) (heap limit : ℕ) (source : List ℕ) (m : Assignment) → IsRecorded words heap limit source m → (s : Status) (text : List ℕ) → IsReply words (Some source) s text → IsRecording source heap limit m s text
    record_only words heap limit source m is s text reply =
        let numbers = bounds words (Record is.workers heap limit) is.asked in
        record_reply_only source heap limit m s text is.within is.front is.meets numbers.few_events.least numbers.few_events.most
        (of_record words source is.workers heap limit s text is.asked (subst (λ (l : List ℕ). Replies words l s text) reply.told reply.reply))
