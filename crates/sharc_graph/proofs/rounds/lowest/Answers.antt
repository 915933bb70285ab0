use Rattle.sharc_graph.proofs.{Imports.{◌∙◌, sym, flow_of}, RoundSteps.{lower, no_lower}, rounds.lowest.Goals.{then-leads_at, else-leads_at}}
use Rattle.sharc_graph.proofs.rounds.lowest.Goals as goal

pub loop-link-preserved : goal.loop-link-preserved
loop-link-preserved c =
    let f = flow_of c.args.places.now c.args.links.now in
    elim c.if-leads_at.branch [
      | then-leads_at w ↦
          let step = lower f c.args.ranks.now c.loop-link.link-index c.args.to c.args.below c.loop-link.lowest c.if-leads_at.lowest 4294967295 (sym c.leads_at.ensures ∙ w.if-leads_at.true) (w.lowest-is ∙ w.min-lowest.ensures) c.loop-link.invariant.lowest c.loop-link.invariant.some in
          record { lowest = step.0; some = step.1 }
      | else-leads_at w ↦
          let step = no_lower f c.args.ranks.now c.loop-link.link-index c.args.to c.args.below c.loop-link.lowest c.if-leads_at.lowest 4294967295 (sym c.leads_at.ensures ∙ w.if-leads_at.false) w.lowest-is c.loop-link.invariant.lowest c.loop-link.invariant.some in
          record { lowest = step.0; some = step.1 }
    ]
