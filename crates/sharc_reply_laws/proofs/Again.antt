-- `replay` writes what follows in the file that `record` wrote, whichever code each of them made.
use Rattle.sharc_reply_laws.proofs.Imports.{◌≡◌, ℕ, ◌≤◌, List, length, Some, sym, ap, ◌∙◌, subst, Assignment, Code, commands, Replay, FileView, IsFile, written, Ran, IsFront, AreAlike, RunsAreAlike, CompiledAreAlike, Status, source_limit, recording_limit, Replays, IsReply, status_of, IsRecorded, IsRecording, RecordsAreOnly, IsReplaying, ReplaysAreOnly, SaysTheSame, ReplaysSayAgain}

module _ (compiled : CompiledAreAlike) (runs : RunsAreAlike) where
  -- a run of one code is one of the other
  other_code : (file : FileView) (a b : Code) (ran : Ran) → AreAlike a b → Replays file a ran → Replays file b ran
  other_code file a b ran alike is = record {
    shape = is.shape;
    fits = record { threads = is.fits.threads; globals = is.fits.globals ∙ alike.granules; least = is.fits.least; most = is.fits.most };
    heap_is = is.heap_is;
    run = runs a b alike is.shape file.places file.limit ran is.run;
  }

  same : (source : List ℕ) (heap limit : ℕ) (m : Assignment) (s : Status) (text : List ℕ) → IsFront source m → (recorded : IsRecording source heap limit m s text)
      → (t : Status) (again : List ℕ) → IsReplaying recorded.replayable.file m t again → SaysTheSame text s again t
  same source heap limit m s text front recorded t again replayed =
      let file = recorded.replayable.file in
      let says = recorded.replayable.again replayed.ran (other_code file replayed.code recorded.code replayed.ran (compiled m front.typed.resolved replayed.code recorded.code replayed.compiled recorded.compiled) replayed.replays) in
      record {
        file = file;
        is = subst (λ x. IsFile x file) (sym recorded.written) recorded.replayable.is;
        follows = recorded.written ∙ says.text ∙ ap (written file) (sym replayed.written);
        status = replayed.ends ∙ ap status_of (sym says.outcome) ∙ sym recorded.ends;
      }

  pub says_again : RecordsAreOnly → ReplaysAreOnly → ReplaysSayAgain
  says_again records replays words heap limit source m asked s text reply short other is_replay t again answer =
      let recorded = records words heap limit source m asked s text reply in
      let file = recorded.replayable.file in
      same source heap limit m s text asked.front recorded t again (replays other text file m (record {
        asked = is_replay;
        short = short;
        is = subst (λ x. IsFile x file) (sym recorded.written) recorded.replayable.is;
        within = subst (λ (x : List ℕ). length x ≤ source_limit) (sym recorded.replayable.source_is) asked.within;
        front = subst (λ x. IsFront x m) (sym recorded.replayable.source_is) asked.front;
        meets = asked.meets;
      }) t again answer)
