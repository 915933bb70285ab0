use Rattle.sharc_graph.proofs.{Imports.arith, RoundSteps.begun}
use Rattle.sharc_graph.proofs.rounds.go_rounds.Goals as goal

pub loop-round-init : goal.loop-round-init
loop-round-init c =
    let start = begun c.args.places.now c.args.links.now c.args.ranks.now.items c.requires.ranks in
    let few = start.2 in
    record { ranks = start.0; low = start.1; few = omega arith }
