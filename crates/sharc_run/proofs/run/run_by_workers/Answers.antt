use Rattle.sharc_run.proofs.{Imports.{◌∙◌, IsWorkersRun}, Ending.{ended, both_ok}}
use Rattle.sharc_run.proofs.run.run_by_workers.Goals as goal

pub returns : goal.returns
returns g c =
    let code = c.args.code.now in
    let s = c.args.shape.now in
    let run = c.in_ok-run.run' in
    let is = c.in_ok-run.ensures in
    both_ok c.told.result _ _ (IsWorkersRun code s c.args.limit)
    (λ ran text outcome. record {
      turns = is.turns;
      checked = is.checked;
      few = is.few;
      over = is.over;
      ends = ended code s c.args.limit is.turns run.threads.items c.requires.fits.threads is.threads is.over run.end is.end_is _ _ (c.deref.ensures.value ∙ is.words) c.deref-2.ensures.value ran text outcome;
    })
    c.told.ensures.text c.told.ensures.outcome
