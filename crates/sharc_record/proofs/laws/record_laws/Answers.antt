use Rattle.sharc_record.proofs.Imports.{ℕ, List, sym, subst, ArePlaces, written, Stored, IsSeqRun, file_of}
use Rattle.sharc_record.proofs.laws.record_laws.Goals as goal

pub returns : goal.returns
returns c = λ code s limit source text run is fits some few holds.
    let files = c.file_laws.ensures in
    let schedules = c.schedule_laws.ensures in
    let j = is.journal_is in
    let places : ArePlaces run.places = subst ArePlaces (sym is.places_are) (schedules.fit code s limit is.turns fits.threads j.checked j.few few) in
    let there = files.again (file_of source s limit run) text holds record { least = fits.least; most = fits.most; some = some; few = few } places in
    record {
      file = there;
      only = λ other was. files.one (written (file_of source s limit run) text) other (file_of source s limit run) was there;
      shows = λ again by. schedules.show code s limit is.turns again fits.threads j.checked j.few j.over (subst (λ (ps : List (ℕ × ℕ)). IsSeqRun (Stored ps) code s limit again) is.places_are by);
    }
