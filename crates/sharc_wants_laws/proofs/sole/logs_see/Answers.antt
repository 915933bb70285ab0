use Rattle.sharc_wants_laws.proofs.sole.logs_see.Goals as goal

pub returns : goal.returns
returns c = λ m code x s ls wt fits few first run checked u word o nz refers.
    let k = c.seen_law.ensures.logs x code s ls wt fits few m.typed first run checked u word o nz refers in
    (k.0, (k.1, k.2))
