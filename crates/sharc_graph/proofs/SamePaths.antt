-- The paths of the graph are those of the positions and links.
use Rattle.sharc_graph.proofs.{Imports.{◌≡◌, ℕ, zero, suc, ◌<◌, ◌⊎◌, Bool, true, false, List, [], ◌∷◌, length, map, refl, sym, ap, ◌∙◌, subst, inl, inr, arith, false≢true, cases_lt, length-map, get_or_past, Contains, Node, NodeFinding, Apart, Source, Behind, finding_at, Graph, graph_of, last_of, AreFindings, IsFinding, HasEdge as GraphEdge, IsSource as GraphSource, IsFree as GraphFree, Follow as GraphFollow, LeadsTo as GraphPath, IsRank as GraphRank, IsReason as GraphReason, PositionKind, Root, Unwritten, Dynamic, Private, Other, Flow, place_at, is_unwritten, is_source, IsUnwritten, LeadsDown, HasLink, IsFirstFor, FollowLinks, FlowsTo, IsInferredRank, IsRankFor, IsInferredReason, IsInferred, AreInferred, node_of, leads, link_of, kept_edges}, Edges.{node_is, link_from_edge, edge_from_link}}

abbrev pub graph : Flow → Graph
graph f = graph_of (map node_of f.places) (kept_edges f.places f.links)

-- ---- places
free_is : (x : PositionKind) → (node_of x).free ≡ is_unwritten x
free_is Root = refl
free_is _ = refl

source_cases : (x : PositionKind) → (node_of x).source ≡ true → (is_source x ≡ true) ⊎ (x ≡ Other)
source_cases Unwritten is = absurd (false≢true is)
source_cases Private is = absurd (false≢true is)
source_cases Other is = inr refl
source_cases _ is = inl refl

node_from_source : (x : PositionKind) → is_source x ≡ true → (node_of x).source ≡ true
node_from_source Unwritten is = is
node_from_source Private is = is
node_from_source _ is = refl

leads_from_source : (x : PositionKind) (below : Bool) → is_source x ≡ true → leads x below ≡ true
leads_from_source Private below is = is
leads_from_source Other below is = absurd (false≢true is)
leads_from_source _ below is = refl

leads_from_unwritten : (x : PositionKind) (below : Bool) → is_unwritten x ≡ true → leads x below ≡ true
leads_from_unwritten Dynamic below is = absurd (false≢true is)
leads_from_unwritten Private below is = is
leads_from_unwritten Other below is = absurd (false≢true is)
leads_from_unwritten _ below is = refl

other_is_written : (x : PositionKind) → x ≡ Other → is_unwritten x ≡ true → ⊥
other_is_written x is unwritten = false≢true (sym (ap is_unwritten is) ∙ unwritten)

-- ---- edges
module _ (f : Flow) where
  free_from_unwritten : (p : ℕ) → IsUnwritten f p → GraphFree (graph f) p
  free_from_unwritten p is = ap (λ (n : Node). n.free) (node_is f.places p) ∙ free_is (place_at f.places p) ∙ is

  unwritten_from_free : (p : ℕ) → GraphFree (graph f) p → IsUnwritten f p
  unwritten_from_free p is = sym (free_is (place_at f.places p)) ∙ sym (ap (λ (n : Node). n.free) (node_is f.places p)) ∙ is

  node_source : (p : ℕ) → GraphSource (graph f) p → (node_of (place_at f.places p)).source ≡ true
  node_source p is = sym (ap (λ (n : Node). n.source) (node_is f.places p)) ∙ is

  graph_source : (p : ℕ) → (node_of (place_at f.places p)).source ≡ true → GraphSource (graph f) p
  graph_source p is = ap (λ (n : Node). n.source) (node_is f.places p) ∙ is

  by_kind : (below : Bool) (p q : ℕ) → Contains f.links (link_of p q below) → HasLink f p q
  by_kind true p q has = inl has
  by_kind false p q has = inr has

  flow_edge : (p q : ℕ) → GraphEdge (kept_edges f.places f.links) p q → HasLink f p q
  flow_edge p q has = let link = link_from_edge f.places f.links p q has in by_kind link.0 p q link.1

  graph_edge : (p q : ℕ) → ((below : Bool) → leads (place_at f.places p) below ≡ true) → HasLink f p q → GraphEdge (kept_edges f.places f.links) p q
  graph_edge p q all (inl down) = edge_from_link f.places f.links p q true down (all true)
  graph_edge p q all (inr equal) = edge_from_link f.places f.links p q false equal (all false)

  down_from_other : (below : Bool) (p q : ℕ) → place_at f.places p ≡ Other → Contains f.links (link_of p q below) → leads (place_at f.places p) below ≡ true → LeadsDown f p q
  down_from_other true p q is has passes = has
  down_from_other false p q is has passes = absurd (false≢true (sym (ap (λ x. leads x false) is) ∙ passes))

  -- ---- the first edge
  first_from_graph : (p q : ℕ) → GraphSource (graph f) p → GraphEdge (kept_edges f.places f.links) p q → IsFirstFor f p q
  first_from_graph p q source edge =
      elim (source_cases (place_at f.places p) (node_source p source)) [
        | inl is ↦ inl (is, flow_edge p q edge)
        | inr other ↦ let link = link_from_edge f.places f.links p q edge in inr (other, down_from_other link.0 p q other link.1 link.2)
      ]

  source_from_first : (p q : ℕ) → IsFirstFor f p q → GraphSource (graph f) p
  source_from_first p q (inl has) = graph_source p (node_from_source (place_at f.places p) has.0)
  source_from_first p q (inr has) = graph_source p (ap (λ x. (node_of x).source) has.0)

  edge_from_first : (p q : ℕ) → IsFirstFor f p q → GraphEdge (kept_edges f.places f.links) p q
  edge_from_first p q (inl has) = graph_edge p q (λ below. leads_from_source (place_at f.places p) below has.0) has.1
  edge_from_first p q (inr has) = edge_from_link f.places f.links p q true has.1 (ap (λ x. leads x true) has.0)

  -- ---- paths
  follow_from_graph : (p : ℕ) (rest : List ℕ) → GraphFollow (graph f) p rest → FollowLinks f p rest
  follow_from_graph p [] follow = tt
  follow_from_graph p (q ∷ rest) follow = (flow_edge p q follow.0, unwritten_from_free q follow.1, follow_from_graph q rest follow.2)

  follow_to_graph : (p : ℕ) (rest : List ℕ) → IsUnwritten f p → FollowLinks f p rest → GraphFollow (graph f) p rest
  follow_to_graph p [] unwritten follow = tt
  follow_to_graph p (q ∷ rest) unwritten follow =
      (graph_edge p q (λ below. leads_from_unwritten (place_at f.places p) below unwritten) follow.0, free_from_unwritten q follow.1, follow_to_graph q rest follow.1 follow.2)

  path_from_graph : (first : ℕ) (rest : List ℕ) (q : ℕ) → IsUnwritten f q → GraphPath (graph f) first rest q → FlowsTo f first rest q
  path_from_graph first [] q unwritten path =
      record {
        begins = elim (source_cases (place_at f.places first) (node_source first path.begins)) [
          | inl is ↦ is
          | inr other ↦ absurd (other_is_written (place_at f.places first) other (subst (IsUnwritten f) (sym path.ends) unwritten))
        ];
        follow = tt;
        ends = path.ends;
      }
  path_from_graph first (next ∷ rest) q unwritten path =
      record {
        begins = first_from_graph first next path.begins path.follow.0;
        follow = follow_from_graph first (next ∷ rest) path.follow;
        ends = path.ends;
      }

  path_to_graph : (first : ℕ) (rest : List ℕ) (q : ℕ) → FlowsTo f first rest q → GraphPath (graph f) first rest q
  path_to_graph first [] q path = record { begins = graph_source first (node_from_source (place_at f.places first) path.begins); follow = tt; ends = path.ends }
  path_to_graph first (next ∷ rest) q path =
      record {
        begins = source_from_first first next path.begins;
        follow = (edge_from_first first next path.begins, free_from_unwritten next path.follow.1, follow_to_graph next rest path.follow.1 path.follow.2);
        ends = path.ends;
      }

  -- the end of a path that has an edge is unwritten
  last_unwritten : (p : ℕ) (rest : List ℕ) → IsUnwritten f p → FollowLinks f p rest → IsUnwritten f (last_of p rest)
  last_unwritten p [] unwritten follow = unwritten
  last_unwritten p (q ∷ rest) unwritten follow = last_unwritten q rest follow.1 follow.2

  pub end_unwritten : (first : ℕ) (rest : List ℕ) (q : ℕ) → 0 < length rest → FlowsTo f first rest q → IsUnwritten f q
  end_unwritten first [] q some path = absurd (omega arith)
  end_unwritten first (next ∷ rest) q some path = subst (IsUnwritten f) path.ends (last_unwritten next rest path.follow.1 path.follow.2)

  graph_last_free : (p : ℕ) (rest : List ℕ) → GraphFree (graph f) p → GraphFollow (graph f) p rest → GraphFree (graph f) (last_of p rest)
  graph_last_free p [] free follow = free
  graph_last_free p (q ∷ rest) free follow = graph_last_free q rest follow.1 follow.2

  graph_end_free : (first : ℕ) (rest : List ℕ) (q : ℕ) → 0 < length rest → GraphPath (graph f) first rest q → GraphFree (graph f) q
  graph_end_free first [] q some path = absurd (omega arith)
  graph_end_free first (next ∷ rest) q some path = subst (GraphFree (graph f)) path.ends (graph_last_free next rest path.follow.1 path.follow.2)

  -- ---- ranks
  rank_from_graph : (q rank : ℕ) → IsUnwritten f q → GraphRank (graph f) q rank → IsInferredRank f q rank
  rank_from_graph q rank unwritten has =
      record {
        first = has.first;
        rest = has.rest;
        path = path_from_graph has.first has.rest q unwritten has.path;
        edges = has.edges;
        least = λ other others path. has.least other others (path_to_graph other others q path);
      }

  rank_to_graph : (q rank : ℕ) → IsUnwritten f q → IsInferredRank f q rank → GraphRank (graph f) q rank
  rank_to_graph q rank unwritten has =
      record {
        first = has.first;
        rest = has.rest;
        path = path_to_graph has.first has.rest q has.path;
        edges = has.edges;
        least = λ other others path. has.least other others (path_from_graph other others q unwritten path);
      }

  source_of_rank_zero : (first : ℕ) (rest : List ℕ) (p : ℕ) → length rest ≡ 0 → GraphPath (graph f) first rest p → GraphSource (graph f) p
  source_of_rank_zero first [] p none path = subst (GraphSource (graph f)) path.ends path.begins
  source_of_rank_zero first (x ∷ rest) p none path = absurd (omega arith)

  rank_zero_of_source : (p : ℕ) → GraphSource (graph f) p → GraphRank (graph f) p 0
  rank_zero_of_source p source = record { first = p; rest = []; path = record { begins = source; follow = tt; ends = refl }; edges = refl; least = λ other others path. omega arith }

  -- ---- reasons
  before_from_graph : (p q below : ℕ) → GraphRank (graph f) p below → GraphEdge (kept_edges f.places f.links) p q → IsRankFor f p q below
  before_from_graph p q zero has edge = first_from_graph p q (source_of_rank_zero has.first has.rest p has.edges has.path) edge
  before_from_graph p q (suc below) has edge =
      let edges = has.edges in
      let unwritten = unwritten_from_free p (graph_end_free has.first has.rest p (omega arith) has.path) in
      (rank_from_graph p (suc below) unwritten has, flow_edge p q edge)

  rank_of_before : (p q below : ℕ) → IsRankFor f p q below → GraphRank (graph f) p below
  rank_of_before p q zero before = rank_zero_of_source p (source_from_first p q before)
  rank_of_before p q (suc below) before =
      let has = before.0 in
      let edges = has.edges in
      rank_to_graph p (suc below) (end_unwritten has.first has.rest p (omega arith) has.path) has

  edge_of_before : (p q below : ℕ) → IsRankFor f p q below → GraphEdge (kept_edges f.places f.links) p q
  edge_of_before p q zero before = edge_from_first p q before
  edge_of_before p q (suc below) before =
      let has = before.0 in
      let edges = has.edges in
      let unwritten = end_unwritten has.first has.rest p (omega arith) has.path in
      graph_edge p q (λ b. leads_from_unwritten (place_at f.places p) b unwritten) before.1

  reason_from_graph : (q rank reason : ℕ) → GraphReason (graph f) q rank reason → IsInferredReason f q rank reason
  reason_from_graph q rank reason has =
      record {
        below = has.below;
        one_below = has.one_below;
        before = before_from_graph reason q has.below has.ranked has.edge;
        lowest = λ other before. has.lowest other (rank_of_before other q has.below before) (edge_of_before other q has.below before);
      }

  -- ---- what is found
  inferred : (q : ℕ) (finding : NodeFinding) → IsUnwritten f q → IsFinding (graph f) q finding → IsInferred f q finding
  inferred q Apart unwritten found = λ first rest path. found first rest (path_to_graph first rest q path)
  inferred q Source unwritten found =
      elim (source_cases (place_at f.places q) (node_source q found)) [
        | inl is ↦ is
        | inr other ↦ absurd (other_is_written (place_at f.places q) other unwritten)
      ]
  inferred q (Behind rank reason) unwritten found = (rank_from_graph q rank unwritten found.0, reason_from_graph q rank reason found.1)

  pub all_inferred : (findings : List NodeFinding) → AreFindings (graph f) findings → AreInferred f findings
  all_inferred findings are =
      record {
        size = are.size ∙ length-map f.places node_of;
        each = λ q unwritten. inferred q (finding_at findings q) unwritten (are.each q (among q unwritten));
      }
    where
      among : (q : ℕ) → IsUnwritten f q → q < length (graph f).nodes
      among q unwritten =
          elim (cases_lt q (length f.places)) [
            | inl inside ↦ let same = length-map f.places node_of in omega arith
            | inr past ↦ absurd (false≢true (ap is_unwritten (sym (get_or_past f.places q Private past)) ∙ unwritten))
          ]
