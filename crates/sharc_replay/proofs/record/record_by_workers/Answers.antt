use Rattle.std.proofs.Common.{ap, ◌∙◌, refl}
use Rattle.sharc_schedule.specs.File.{written}
use Rattle.sharc_replay.specs.Run.{file_of}
use Rattle.sharc_replay.proofs.record.record_by_workers.Goals as goal

pub returns : goal.returns
returns g c =
    let code = c.args.code.now in
    let s = c.args.shape.now in
    let run = c.in_ok-run.run' in
    let is = c.in_ok-run.ensures in
    let j = is.journal_is in
    let ran = c.in_ok-ran.ran in
    record {
      places = run.places;
      ran = ran;
      run = record {
        turns = is.turns;
        checked = j.checked;
        few = j.few;
        over = j.over;
        places_are = is.places_are;
        ends = c.in_ok-ran.ensures.ends s c.args.limit is.turns c.requires.fits record { over = j.over; words_are = c.deref.ensures.value ∙ is.words; started = rw c.deref-2.ensures.value is.threads; end_is = is.end_is };
      };
      file = c.in_ok-file.ensures ∙ ap (written (file_of c.args.source.now s c.args.limit run.places)) c.deref-3.ensures.value;
      outcome = refl;
    }
