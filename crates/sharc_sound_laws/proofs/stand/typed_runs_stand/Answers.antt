use Rattle.sharc_sound_laws.proofs.StandStanding.{threads_stand, places_stand, conflicts_stand, locks_stand}
use Rattle.sharc_sound_laws.proofs.stand.typed_runs_stand.Goals as goal

pub returns : goal.returns
returns c = λ m typed flat flattens fits_made code is x ls wt s fits few run checked.
    let followed = c.made_is_followed.ensures flat code is in
    record {
      threads = threads_stand x code s ls wt fits few run checked m c.paths_law.ensures (c.typed_paths_tell.ensures.threads m typed flat flattens fits_made code is);
      places = places_stand x code s ls wt fits few run checked c.run_laws.ensures c.runs_stand.ensures c.runs_bits.ensures;
      checks = λ later check earlier parts. c.followed_law.ensures.accesses x code s ls wt fits few followed run later check earlier checked parts;
      conflicts = conflicts_stand x code s ls wt fits few run checked followed c.reports_law.ensures.accesses c.causes_law.ensures.causes c.causes_law.ensures.named c.others_law.ensures c.causes_law.ensures.rules;
      locks = locks_stand x code s ls wt fits few run checked followed c.followed_law.ensures.locks c.followed_law.ensures.rules;
      casts = c.reports_law.ensures.casts x code s ls wt fits few run checked;
    }
