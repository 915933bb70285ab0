use Rattle.sharc_sound_laws.proofs.{Imports.{ℕ, List, Turn, CheckedRun}, Reported.reported, Starts.first_is}
use Rattle.sharc_sound_laws.proofs.sound.reports_show_if_typed.Goals as goal

pub returns : goal.returns
returns c = λ m p flat flattens fits code is x ls wt s shape few run checked t stop stopped at report.
    reported c.run_laws.ensures c.causes_law.ensures.causes c.causes_law.ensures.named c.reports_law.ensures.accesses c.followed_law.ensures.locks c.reports_law.ensures.casts m x code s ls wt shape few
    (c.followed_law-2.ensures flat code is) (first_is flat code is)
    (λ (run : List Turn) (checked : CheckedRun code s run) (t : ℕ). c.threads_stand_if_typed.ensures m p flat flattens fits code is x ls wt s shape few run checked t)
    run checked t stop stopped at report
