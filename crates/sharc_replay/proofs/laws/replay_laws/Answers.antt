use Rattle.std.proofs.Common.{ℕ, List, sym, ap, ◌∙◌, subst}
use Rattle.sharc_code.specs.Whole.{place_after}
use Rattle.sharc_schedule.specs.{File.{FileView, IsFile, ArePlaces, written}, Laws.SameEnds, Schedule.Stored}
use Rattle.sharc_seq.specs.Run.{AreChosen}
use Rattle.sharc_replay.specs.{Laws.ReplaysMakeSame, Run.file_of}
use Rattle.sharc_replay.proofs.Same.{same_end}
use Rattle.sharc_replay.proofs.laws.replay_laws.Goals as goal

pub returns : goal.returns
returns c =
    let files = c.file_laws.ensures in
    let schedules = c.schedule_laws.ensures in
    let same : ReplaysMakeSame =
    λ code s limit places ran again is by fits.
    let chosen = subst (λ (ps : List (ℕ × ℕ)). AreChosen (Stored ps) code s limit by.turns) is.places_are by.chosen in
    let turns = schedules.replay code s limit is.turns by.turns fits.threads is.checked is.few is.over by.checked chosen by.over in
    record { turns = turns; ends = subst (λ ts. SameEnds (place_after code s ts) (place_after code s is.turns)) (sym turns) (schedules.scheduled code s is.turns is.checked).1 } in
    record {
      files = λ source code s limit made is fits some few holds.
          let run = is.run in
          let file : FileView = file_of source s limit is.places in
          let places : ArePlaces is.places = subst ArePlaces (sym run.places_are) (schedules.fit code s limit run.turns fits.threads run.checked run.few few) in
          let there = files.again file is.ran.text.items holds record { least = fits.least; most = fits.most; some = some; few = few } places in
          let bytes : IsFile made.text.items file = subst (λ (b : List ℕ). IsFile b file) (sym is.file) there in
          record { file = bytes; only = λ other was. files.one made.text.items other file was bytes };
      same = same;
      again = λ source code s limit made again is fits by.
          let ends = (same code s limit is.places is.ran again is.run by fits).ends in
          let says = same_end c.text_is_one.ensures c.outcome_is_told.ensures code s limit by.turns is.run.turns again is.ran fits.threads ends by.ends is.run.ends in
          record {
            file = is.file ∙ ap (written (file_of source s limit is.places)) (sym says.text);
            outcome = is.outcome ∙ sym says.outcome;
          };
    }
