use Rattle.sharc_graph.proofs.{Imports.{◌≡◌, length, sym, ap, ◌∙◌, subst, arith, length-map, IfOk-weaker, All, graph_of, IsWithin, AreFindings, flow_of, node_of, kept_edges, AreInferred}, Edges.{kept_short, kept_within}, SamePaths.all_inferred}
use Rattle.sharc_graph.proofs.assignment.least_assignment.Goals as goal

pub find-requires-clause-few_edges : goal.find-requires-clause-few_edges
find-requires-clause-few_edges c =
    let short = kept_short c.args.places.now c.args.links.now in
    let same = ap length (c.deref-2.ensures.value ∙ c.in_ok-edges.ensures.edges) in
    let few = c.requires.few_links in
    omega arith

pub find-requires-clause-within : goal.find-requires-clause-within
find-requires-clause-within c =
    let edges_are = c.deref-2.ensures.value ∙ c.in_ok-edges.ensures.edges in
    let size : length c.args.places.now ≡ length c.deref.result.now = sym (ap length (c.deref.ensures.value ∙ c.in_ok-nodes.ensures) ∙ length-map c.args.places.now node_of) in
    subst (λ n. All (IsWithin n) c.deref-2.result.now) size
    (subst (All (IsWithin (length c.args.places.now))) (sym edges_are) (kept_within (length c.args.places.now) c.args.places.now c.args.links.now c.requires.within))

pub returns : goal.returns
returns c =
    let places = c.args.places.now in
    let links = c.args.links.now in
    let nodes_are = c.deref.ensures.value ∙ c.in_ok-nodes.ensures in
    let edges_are = c.deref-2.ensures.value ∙ c.in_ok-edges.ensures.edges in
    IfOk-weaker c.find.result (λ findings. AreFindings (graph_of c.deref.result.now c.deref-2.result.now) findings.items) (λ findings. AreInferred (flow_of places links) findings.items)
    (λ findings are.
    all_inferred (flow_of places links) findings.items
    (subst (λ nodes. AreFindings (graph_of nodes (kept_edges places links)) findings.items) nodes_are (subst (λ edges. AreFindings (graph_of c.deref.result.now edges) findings.items) edges_are are)))
    c.find.ensures
