use Rattle.sharc_sound_laws.proofs.{Imports.place_after, Picked.picked}
use Rattle.sharc_sound_laws.proofs.causes.others_law.Goals as goal

pub returns : goal.returns
returns c = λ x code s ls wt fits few followed run checked threads started t conflict stop.
    let laws = c.causes_law.ensures in
    let k = picked code s (place_after code s run) threads started fits (laws.unstarted x code s ls wt fits few run checked) t conflict (laws.named x code s ls wt fits few run checked t conflict stop) in
    record { other = k.0; is = k.1; cause = laws.causes x code s ls wt fits few followed run checked t conflict stop k.0.thread k.0.kind k.0.site k.2 }
