use Rattle.sharc_graph.proofs.{Imports.{◌≡◌, ◌<◌, false, length, sym, ap, ◌∙◌, get_or_default, Root, Private, place_at, leads, link_of}, Edges.{link_at, link_kept, link_left}, assignment.edges.Goals.{then-leads+in_ok-push, else-leads}}
use Rattle.sharc_graph.proofs.assignment.edges.Goals as goal

pub loop-link-preserved : goal.loop-link-preserved
loop-link-preserved c =
    let links = c.args.links.now in
    let places = c.args.places.now in
    let i = c.loop-link.link-index in
    let link = link_at links i in
    let inside : i < length links = c.loop-link-test.true in
    let within = c.requires.within i (link_of 0 0 false) inside in
    let leads_is : c.leads.result ≡ leads (place_at places link.edge.from) link.below = c.leads.ensures ∙ ap (λ x. leads x link.below) (get_or_default places link.edge.from Root Private within.0) in
    elim c.if-leads.branch [
      | then-leads+in_ok-push w ↦ link_kept places links i c.loop-link.edges.items c.if-leads.edges.items inside (sym leads_is ∙ w.if-leads.true) c.loop-link.invariant (ap (λ v. v.items) w.edges-is ∙ w.in_ok-push.ensures.items)
      | else-leads w ↦ link_left places links i c.loop-link.edges.items c.if-leads.edges.items inside (sym leads_is ∙ w.if-leads.false) c.loop-link.invariant (ap (λ v. v.items) w.edges-is)
    ]
