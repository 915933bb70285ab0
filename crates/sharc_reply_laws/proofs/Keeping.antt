-- Each run of which a reply tells is an interleaving of built code, so it keeps to the source.
use Rattle.sharc_reply_laws.proofs.Imports.{◌≡◌, ℕ, List, Option, Some, None, refl, ◌∙◌, ap, Assignment, MeetsRules, Code, Shape, Fits, NumbersFit, Turn, CheckedRun, place_after, history_of, Ran, IsEnd, IsBuilt, IsCompiled, IsFront, BuiltIsSound, KeepsTo, RunNumbers, status_of, IsRunBy, RunsAreOnly, RecordLaws, IsKept, RunsKeep, ReplaysKeep, RecordsKeep, KeptLaws}

-- the turns of a run that a seed draws, or of some run
record HasTurns (code : Code) (s : Shape) (limit : ℕ) (ran : Ran) : Type 0 where
  turns : List Turn
  checked : CheckedRun code s turns
  ends : IsEnd code s limit (place_after code s turns) ran

turns_of : (seed : Option ℕ) (n : RunNumbers) (code : Code) (s : Shape) (ran : Ran) → IsRunBy seed n code s ran → HasTurns code s n.events ran
turns_of (Some seed) n code s ran run = record { turns = run.turns; checked = run.checked; ends = run.ends }
turns_of None n code s ran run = record { turns = run.turns; checked = run.checked; ends = run.ends }

module _ (sound : BuiltIsSound) where
  keeps : (source : List ℕ) (m : Assignment) → IsFront source m → MeetsRules m → (code : Code) → IsCompiled m code → NumbersFit code → (s : Shape) → Fits code s → (turns : List Turn) → CheckedRun code s turns
      → KeepsTo m (history_of code s turns)
  keeps source m front meets code compiled numbers s fits turns checked =
      let built : IsBuilt source record { checked = m; code = code } = record { front = front; accepted = meets; compiled = compiled; numbers = numbers } in
      sound source record { checked = m; code = code } built s fits turns checked

  runs_keep : RunsAreOnly → RunsKeep
  runs_keep only words n input m asked meets s text reply =
      let run = only words n input m asked meets s text reply in
      let shape = run.runs.shape in
      let has = turns_of n.seed n run.code shape run.ran run.runs.run in
      record {
        ran = run.ran;
        kept = record {
          code = run.code;
          compiled = run.compiled;
          shape = shape;
          heap_is = run.runs.heap;
          turns = has.turns;
          checked = has.checked;
          keeps = keeps input m asked.front meets run.code run.compiled run.fits shape run.runs.fits has.turns has.checked;
          ends = has.ends;
        };
        ends = run.ends;
        written = run.written;
      }

  module _ (recorded : RecordLaws) where
    replays_keep : ReplaysKeep
    replays_keep words input file m asked s text reply =
        let run = recorded.replays words input file m asked s text reply in
        let shape = run.replays.shape in
        record {
          ran = run.ran;
          kept = record {
            code = run.code;
            compiled = run.compiled;
            shape = shape;
            heap_is = run.replays.heap_is;
            turns = run.replays.run.turns;
            checked = run.replays.run.checked;
            keeps = keeps file.source m asked.front asked.meets run.code run.compiled run.fits shape run.replays.fits run.replays.run.turns run.replays.run.checked;
            ends = run.replays.run.ends;
          };
          ends = run.ends;
          written = run.written;
        }

    records_keep : RecordsKeep
    records_keep words heap limit source m asked s text reply =
        let run = recorded.records words heap limit source m asked s text reply in
        let shape = run.records.shape in
        let made = run.records.record_is in
        record {
          ran = made.ran;
          kept = record {
            code = run.code;
            compiled = run.compiled;
            shape = shape;
            heap_is = run.records.heap_is;
            turns = made.run.turns;
            checked = made.run.checked;
            keeps = keeps source m asked.front asked.meets run.code run.compiled run.fits shape run.records.fits made.run.turns made.run.checked;
            ends = made.run.ends;
          };
          ends = run.ends ∙ ap status_of made.outcome;
        }

  pub kept_laws : RunsAreOnly → RecordLaws → KeptLaws
  kept_laws only recorded = record { runs = runs_keep only; replays = replays_keep recorded; records = records_keep recorded }
