-- The event file of what `record` wrote is of the events of the recorded run.
use Rattle.sharc_trace_laws.proofs.Imports.{◌≡◌, ℕ, ◌<◌, ◌≤◌, List, [], length, map, Some, None, ap, sym, subst, ◌∙◌, reverse, SourceEvent, Assignment, MeetsRules, Code, Shape, Fits, Said, Turn, AreAlike, CompiledAreAlike, HistoriesAreAlike, Built, IsBuilt, HistoryLaws, AreNumbers, FileView, IsFile, HoldsNoSchedule, Stored, IsOneFile, ReplayLaws, IsRecord, file_of, Ran, AreChosen, IsCompiled, IsFront, ProgramsHoldNoSchedule, Status, source_limit, recording_limit, Refuses, source_refused, modes_refused, SourceLaws, IsRecording, RecordLaws, Reply, Form, FileReplies, InputReplies, IsFileOf, IsRunOf, IsTraced, TraceReplies, form_of, history, long_recording, long_source, no_recording, read, recorded, refused, traced, usage, IsOfRecorded, RecordingsAreTraced, too_long}

-- ---- the reply to a recorded file of a program
no_usage : form_of [] ≡ None → ⊥
no_usage none = cc

file_form : (f : Form) → form_of [] ≡ Some f → f ≡ Form.File
file_form f is = cc

record IsOfProgram (file : FileView) (m : Assignment) (reply : Reply) : Type 0 where
  built : Built
  is_built : IsBuilt file.source built
  same : built.checked ≡ m
  traced_is : IsTraced Form.File file built reply

module _ (sources : SourceLaws) (m : Assignment) (meets : MeetsRules m) where
  not_refused : (source : List ℕ) (s : Status) (text : List ℕ) → IsFront source m → Refuses source s text → ⊥
  not_refused source s text front (source_refused fault is) = sources.faultless source m front fault is
  not_refused source s text front (modes_refused n other also is) = is.breaks_rules (subst MeetsRules (sym (sources.program source n m also front)) meets)

  of_file : (file : FileView) (reply : Reply) → length file.source ≤ source_limit → IsFront file.source m → FileReplies Form.File file reply → IsOfProgram file m reply
  of_file file reply within front (long_source long plain) = absurd (too_long source_limit (length file.source) long within)
  of_file file reply within front (refused s text is plain) = absurd (not_refused file.source s text front is)
  of_file file reply within front (traced built is t) = record { built = built; is_built = is; same = sources.program file.source built.checked m is.front front; traced_is = t }

  module _ (input : List ℕ) (file : FileView) (is_file : IsFile input file) (only : (other : FileView) → IsFile input other → other ≡ file) (short : length input ≤ recording_limit) (within : length file.source ≤ source_limit) (front : IsFront file.source m) where
    of_input : (reply : Reply) → InputReplies Form.File input reply → IsOfProgram file m reply
    of_input reply (no_recording n fault plain) = absurd (fault.none file is_file)
    of_input reply (recorded other also replies) = of_file file reply within front (subst (λ (k : FileView). FileReplies Form.File k reply) (only other also) replies)

    of_trace : (reply : Reply) → TraceReplies [] input reply → IsOfProgram file m reply
    of_trace reply (usage none plain) = absurd (no_usage none)
    of_trace reply (long_recording f is long plain) = absurd (too_long recording_limit (length input) long short)
    of_trace reply (read f is few replies) = of_input reply (subst (λ (k : Form). InputReplies k input reply) (file_form f is) replies)

-- ---- the two runs
-- shapes that fit codes with as many granules, with heaps of one size, are one
same_shape : (a b : Code) (s t : Shape) → a.granules ≡ b.granules → Fits a s → Fits b t → s.heap ≡ t.heap → s ≡ t
same_shape a b s t granules one other heap = λ i. record { threads = (one.threads ∙ sym other.threads) i; globals = (one.globals ∙ granules ∙ sym other.globals) i; heap = heap i }

abbrev told_in : List (Said SourceEvent) → List SourceEvent
told_in all = reverse (map (λ (x : Said SourceEvent). x.told) all)

module _ (alike_histories : HistoriesAreAlike) (histories : HistoryLaws) where
  -- the run by the schedule of a recorded run of an alike code has its events
  same_history : (a b : Code) → AreAlike a b → (source : List ℕ) (s : Shape) (limit : ℕ) (made : Ran) (is : IsRecord source b s limit made) → Fits b s
      → (turns : List Turn) → IsRunOf (file_of source s limit is.places) a s turns → history a s turns ≡ history b s is.run.turns
  same_history a b alike source s limit made is fits turns run =
      let both = alike_histories a b alike s is.places limit turns run.checked run.chosen run.over in
      let chosen = subst (λ (ps : List (ℕ × ℕ)). AreChosen (Stored ps) b s limit turns) is.run.places_are both.chosen in
      ap told_in (both.events ∙ histories.schedules b s limit is.run.turns turns fits.threads is.run.checked is.run.few is.run.over both.checked chosen both.over)

module _ (sources : SourceLaws) (records : RecordLaws) (replays : ReplayLaws) (programs : ProgramsHoldNoSchedule) (compiled : CompiledAreAlike) (alike_histories : HistoriesAreAlike) (histories : HistoryLaws) where
  holds_none : (source : List ℕ) (m : Assignment) → IsFront source m → HoldsNoSchedule source
  holds_none source m front = programs source front.typed.tokens m.typed.program front.typed.read front.typed.reads

  one_file : (source : List ℕ) (heap limit : ℕ) (m : Assignment) (s : Status) (text : List ℕ) → IsFront source m → (r : IsRecording source heap limit m s text)
      → IsOneFile source text r.records.shape limit r.records.record_is.places
  one_file source heap limit m s text front r =
      let numbers : AreNumbers r.replayable.file.heap r.replayable.file.limit = r.replayable.is.numbers in
      let limits : AreNumbers r.replayable.file.heap limit = subst (λ n. AreNumbers r.replayable.file.heap n) r.replayable.limit_is numbers in
      subst (λ (t : List ℕ). IsOneFile source t r.records.shape limit r.records.record_is.places) (sym r.written)
      (replays.files source r.code r.records.shape limit r.made r.records.record_is r.records.fits limits.some limits.few (holds_none source m front))

  of_recording : (source : List ℕ) (heap limit : ℕ) (m : Assignment) (s : Status) (text : List ℕ) (reply : Reply) → IsFront source m → (r : IsRecording source heap limit m s text)
      → IsOfProgram (file_of source r.records.shape limit r.records.record_is.places) m reply → IsOfRecorded source heap limit m text reply
  of_recording source heap limit m s text reply front r p =
      let a : Code = p.built.code in
      let b : Code = r.code in
      let shape : Shape = r.records.shape in
      let is = r.records.record_is in
      let file : FileView = file_of source shape limit is.places in
      let alike : AreAlike a b = compiled m front.typed.resolved a b (subst (λ (k : Assignment). IsCompiled k a) p.same p.is_built.compiled) r.compiled in
      let turns : List Turn = p.traced_is.turns in
      let one : p.traced_is.shape ≡ shape = same_shape a b p.traced_is.shape shape alike.granules p.traced_is.run.fits r.records.fits p.traced_is.run.heap in
      let run : IsRunOf file a shape turns = subst (λ (k : Shape). IsRunOf file a k turns) one p.traced_is.run in
      let told : history a p.traced_is.shape turns ≡ history b shape is.run.turns = ap (λ (k : Shape). history a k turns) one ∙ same_history alike_histories histories a b alike source shape limit r.made is r.records.fits turns run in
      record {
        code = b;
        compiled = r.compiled;
        shape = shape;
        fits = r.records.fits;
        heap_is = r.records.heap_is;
        places = is.places;
        ran = is.ran;
        run = is.run;
        recording = r.written ∙ is.file;
        built = p.built;
        is_built = p.is_built;
        same = p.same;
        file = subst (λ (h : List SourceEvent). IsFileOf p.built.checked a source h reply) told p.traced_is.is.is;
      }

  pub recordings_traced : RecordingsAreTraced
  recordings_traced words heap limit source m asked s text reply short answer is =
      let r : IsRecording source heap limit m s text = records.records words heap limit source m asked s text reply in
      let file : FileView = file_of source r.records.shape limit r.records.record_is.places in
      let one = one_file source heap limit m s text asked.front r in
      let replies : TraceReplies [] text answer = subst (λ (l : List ℕ). TraceReplies [] l answer) is.told is.reply_is in
      of_recording source heap limit m s text answer asked.front r (of_trace sources m asked.meets text file one.file one.only short asked.within asked.front answer replies)
