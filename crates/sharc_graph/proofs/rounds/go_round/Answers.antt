use Rattle.sharc_graph.proofs.{Imports.{◌<◌, false, length, sym, ◌∙◌, subst, false≢true, flow_of, link_of, unranked}, RoundSteps.{stepped, fewer_still}, rounds.go_round.Goals.{then-follow, else-follow}}
use Rattle.sharc_graph.proofs.rounds.go_round.Goals as goal

pub loop-link-preserved : goal.loop-link-preserved
loop-link-preserved c =
    let f = flow_of c.args.places.now c.args.links.now in
    let i = c.loop-link.link-index in
    let ranks = c.loop-link.ranks.items in
    let inside : i < length c.args.links.now = c.loop-link-test.true in
    let within = c.requires.within i (link_of 0 0 false) inside in
    let step = stepped f ranks i c.args.round c.loop-link.invariant.ranks inside within.1 c.follow.new.ranks.items c.follow.result c.follow.ensures.ranks c.follow.ensures.found in
    elim c.if-follow.branch [
      | then-follow w ↦ record {
        ranks = step.0;
        more = λ _. fewer_still c.follow.new.ranks.items ranks c.args.ranks.now.items c.loop-link.more (step.1 w.if-follow.true) c.loop-link.invariant.more c.loop-link.invariant.same;
        same = λ no. absurd (false≢true (sym no ∙ w.more-is));
      }
      | else-follow w ↦ record {
        ranks = step.0;
        more = λ yes. subst (λ rs. unranked rs < unranked c.args.ranks.now.items) (sym (step.2 w.if-follow.false)) (c.loop-link.invariant.more (sym w.more-is ∙ yes));
        same = λ no. step.2 w.if-follow.false ∙ c.loop-link.invariant.same (sym w.more-is ∙ no);
      }
    ]
