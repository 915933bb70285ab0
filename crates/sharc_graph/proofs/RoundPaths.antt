-- Final ranks are those of the shortest paths, and the lowest links to a position its reason.
use Rattle.sharc_graph.proofs.{Imports.{◌≡◌, ℕ, zero, suc, ◌+◌, ◌<◌, ◌≤◌, ◌⊎◌, Bool, true, false, List, [], ◌∷◌, ◌++◌, length, get_or, Option, Some, None, refl, sym, ap, ◌∙◌, subst, inl, inr, arith, false≢true, get_or_default, Contains, last_of, PositionKind, Root, Unwritten, Dynamic, Private, Other, Link, Flow, place_at, link_of, is_unwritten, is_source, IsUnwritten, IsOrigin, LeadsDown, HasLink, IsFirstFor, FollowLinks, FlowsTo, IsInferredRank, IsRankFor, IsInferredReason, Ranks, rank_in, link_at, rank_by, rank_for, IsFound, HasRank, IsServed, AreFinal, IsLowest, IsSome}, Closed.path_more, SamePaths.end_unwritten, RoundSteps.{none_some, same_rank}}

-- ---- places
root_of : (place : PositionKind) → is_source place ≡ true → is_unwritten place ≡ true → place ≡ Root
root_of Root source unwritten = refl
root_of Dynamic source unwritten = absurd (false≢true unwritten)
root_of _ source unwritten = absurd (false≢true source)

by_source : (place : PositionKind) (o : Option ℕ) (below : Bool) → is_source place ≡ true → rank_by place o below ≡ Some 0
by_source Root o below source = refl
by_source Dynamic o below source = refl
by_source _ o below source = absurd (false≢true source)

by_unwritten : (place : PositionKind) (o : Option ℕ) (below : Bool) (rank : ℕ) → is_unwritten place ≡ true → (place ≡ Root → o ≡ Some 0) → o ≡ Some rank → rank_by place o below ≡ Some rank
by_unwritten Root o below rank unwritten root is = sym (root refl) ∙ is
by_unwritten Unwritten o below rank unwritten root is = is
by_unwritten _ o below rank unwritten root is = absurd (false≢true unwritten)

-- for which links a position is of a rank
by_cases : (place : PositionKind) (o : Option ℕ) (below : Bool) (rank : ℕ) → rank_by place o below ≡ Some rank
    → (is_source place ≡ true × rank ≡ 0) ⊎ ((place ≡ Other) × (below ≡ true) × (rank ≡ 0)) ⊎ (o ≡ Some rank)
by_cases Unwritten o below rank is = inr (inr is)
by_cases Private o below rank is = absurd (none_some None rank refl is)
by_cases Other o true rank is = inr (inl (refl, refl, same_rank (Some 0) rank 0 is refl))
by_cases Other o false rank is = absurd (none_some None rank refl is)
by_cases _ o below rank is = inl (refl, same_rank (Some 0) rank 0 is refl)

module _ (f : Flow) where
  -- ---- links and edges
  contains : (i : ℕ) → i < length f.links → Contains f.links (link_at f.links i)
  contains i within = (i, within, get_or_default f.links i (link_at f.links i) (link_of 0 0 false) within)

  edge_by : (from to : ℕ) (below : Bool) → Contains f.links (link_of from to below) → HasLink f from to
  edge_by from to true has = inl has
  edge_by from to false has = inr has

  link_by : (from to : ℕ) → HasLink f from to → (below : Bool) × Contains f.links (link_of from to below)
  link_by from to (inl has) = (true, has)
  link_by from to (inr has) = (false, has)

  down_by : (from to : ℕ) (below : Bool) → below ≡ true → Contains f.links (link_of from to below) → LeadsDown f from to
  down_by from to below is has = subst (λ b. Contains f.links (link_of from to b)) is has

  place_in : (link : ℕ) (x : Link) → link < length f.links → get_or f.links link x ≡ x → link_at f.links link ≡ x
  place_in link x within is = get_or_default f.links link (link_of 0 0 false) x within ∙ is

  module _ (ranks : Ranks) (final : AreFinal f ranks) where
    -- a link of this edge, for which its first end is of this rank
    abbrev LeadsAt : ℕ → ℕ → ℕ → Type 0
    LeadsAt from to rank = (below : Bool) × Contains f.links (link_of from to below) × (rank_by (place_at f.places from) (rank_in ranks from) below ≡ Some rank)

    served : (from to rank : ℕ) → LeadsAt from to rank → IsUnwritten f to → HasRank ranks to (rank + 1)
    served from to rank leads unwritten =
        let has = leads.1 in
        let is = place_in has.0 (link_of from to leads.0) has.1 has.2 in
        subst (λ x. IsServed f ranks x rank) is (final.served has.0 rank has.1) leads.2 unwritten

    leads_first : (from to : ℕ) → IsFirstFor f from to → LeadsAt from to 0
    leads_first from to (inl has) =
        let link = link_by from to has.1 in
        (link.0, link.1, by_source (place_at f.places from) (rank_in ranks from) link.0 has.0)
    leads_first from to (inr has) = (true, has.1, ap (λ x. rank_by x (rank_in ranks from) true) has.0)

    unwritten_found : (p rank : ℕ) → IsFound f ranks p rank → IsUnwritten f p
    unwritten_found p zero found = ap is_unwritten found
    unwritten_found p (suc rank) found = found.0

    leads_onward : (from to rank : ℕ) → rank_in ranks from ≡ Some rank → HasLink f from to → LeadsAt from to rank
    leads_onward from to rank is edge =
        let link = link_by from to edge in
        (link.0, link.1, by_unwritten (place_at f.places from) (rank_in ranks from) link.0 rank (unwritten_found from rank (final.found from rank is)) (final.roots from) is)

    -- ---- each path's end is of no higher a rank
    along : (p : ℕ) (rest : List ℕ) (most : ℕ) → HasRank ranks p most → FollowLinks f p rest → HasRank ranks (last_of p rest) (most + length rest)
    along p [] most has follow = let low = has.2 in (has.0, has.1, omega arith)
    along p (q ∷ rest) most has follow =
        let next = served p q has.0 (leads_onward p q has.0 has.1 follow.0) follow.1 in
        let low = has.2 in
        let low_next = next.2 in
        let end = along q rest (most + 1) (next.0, next.1, omega arith) follow.2 in
        let low_end = end.2 in
        (end.0, end.1, omega arith)

    reached : (first : ℕ) (rest : List ℕ) (p : ℕ) → FlowsTo f first rest p → IsUnwritten f p → HasRank ranks p (length rest)
    reached first [] p path unwritten = (0, final.roots p (root_of (place_at f.places p) (subst (IsOrigin f) path.ends path.begins) unwritten), omega arith)
    reached first (q ∷ rest) p path unwritten =
        let next = served first q 0 (leads_first first q path.begins) path.follow.1 in
        let end = along q rest 1 next path.follow.2 in
        let low_end = end.2 in
        subst (λ x. HasRank ranks x (length (q ∷ rest))) path.ends (end.0, end.1, omega arith)

    -- ---- and each rank is that of a path
    -- what a link says of its first end
    abbrev Ends : ℕ → ℕ → ℕ → Type 0
    Ends from to rank = (IsFirstFor f from to × rank ≡ 0) ⊎ (rank_in ranks from ≡ Some rank)

    ends : (i rank : ℕ) → i < length f.links → rank_for f.places ranks (link_at f.links i) ≡ Some rank → Ends (link_at f.links i).edge.from (link_at f.links i).edge.to rank
    ends i rank within is =
        let link = link_at f.links i in
        let has = contains i within in
        elim (by_cases (place_at f.places link.edge.from) (rank_in ranks link.edge.from) link.below rank is) [
          | inl source ↦ inl (inl (source.0, edge_by link.edge.from link.edge.to link.below has), source.1)
          | inr (inl other) ↦ inl (inr (other.0, down_by link.edge.from link.edge.to link.below other.1 has), other.2)
          | inr (inr ranked) ↦ inr ranked
        ]

    record HasPath (p rank : ℕ) : Type 0 where
      pub first : ℕ
      pub rest : List ℕ
      pub path : FlowsTo f first rest p
      pub edges : length rest ≡ rank

    one_more : (rest : List ℕ) (q : ℕ) → length (rest ++ q ∷ []) ≡ suc (length rest)
    one_more [] q = refl
    one_more (x ∷ rest) q = ap (λ n. suc n) (one_more rest q)

    path_by : (from p rank : ℕ) → IsUnwritten f p → HasLink f from p → HasPath from rank → HasPath p (suc rank)
    path_by from p rank unwritten edge has =
        record { first = has.first; rest = has.rest ++ p ∷ []; path = path_more f has.first has.rest from p has.path edge unwritten; edges = one_more has.rest p ∙ ap (λ n. suc n) has.edges }

    path_of : (rank p : ℕ) → rank_in ranks p ≡ Some rank → HasPath p rank
    path_of zero p is =
        let root = final.found p 0 is in
        record { first = p; rest = []; path = record { begins = ap is_source root; follow = tt; ends = refl }; edges = refl }
    path_of (suc rank) p is =
        let found = final.found p (suc rank) is in
        let link = link_at f.links found.1.link in
        let edge = edge_by link.edge.from link.edge.to link.below (contains found.1.link found.1.within) in
        let here : HasLink f link.edge.from p = subst (HasLink f link.edge.from) found.1.to edge in
        elim (ends found.1.link rank found.1.within found.1.from) [
          | inl first ↦
              let begins : IsFirstFor f link.edge.from p = subst (IsFirstFor f link.edge.from) found.1.to first.0 in
              record { first = link.edge.from; rest = p ∷ []; path = record { begins = begins; follow = (here, found.0, tt); ends = refl }; edges = ap (λ n. suc n) (sym first.1) }
          | inr ranked ↦ path_by link.edge.from p rank found.0 here (path_of rank link.edge.from ranked)
        ]

    pub is_rank_of : (p rank : ℕ) → IsUnwritten f p → rank_in ranks p ≡ Some rank → IsInferredRank f p rank
    is_rank_of p rank unwritten is =
        let has = path_of rank p is in
        record {
          first = has.first;
          rest = has.rest;
          path = has.path;
          edges = has.edges;
          least = λ other others path.
              let low = reached other others p path unwritten in
              let same = same_rank (rank_in ranks p) rank low.0 is low.1 in
              let most = low.2 in
              omega arith;
        }

    pub none_leads : (p : ℕ) → IsUnwritten f p → rank_in ranks p ≡ None → (first : ℕ) (rest : List ℕ) → FlowsTo f first rest p → ⊥
    none_leads p unwritten none first rest path = let has = reached first rest p path unwritten in none_some (rank_in ranks p) has.0 none has.1

    pub source_of : (p : ℕ) → rank_in ranks p ≡ Some 0 → IsOrigin f p
    source_of p is = ap is_source (final.found p 0 is)

    -- ---- reasons
    rank_before : (from to rank : ℕ) → HasLink f from to → Ends from to rank → IsRankFor f from to rank
    rank_before from to zero edge (inl first) = first.0
    rank_before from to zero edge (inr is) = inl (source_of from is, edge)
    rank_before from to (suc rank) edge (inl first) = let none = first.1 in absurd (omega arith)
    rank_before from to (suc rank) edge (inr is) = (is_rank_of from (suc rank) (unwritten_found from (suc rank) (final.found from (suc rank) is)) is, edge)

    leads_before : (from to rank : ℕ) → IsRankFor f from to rank → LeadsAt from to rank
    leads_before from to zero before = leads_first from to before
    leads_before from to (suc rank) before =
        let has = before.0 in
        let edges = has.edges in
        let unwritten = end_unwritten f has.first has.rest from (omega arith) has.path in
        let low = reached has.first has.rest from has.path unwritten in
        let most = low.2 in
        let other = path_of low.0 from low.1 in
        let least = has.least other.first other.rest other.path in
        let other_edges = other.edges in
        let same : low.0 ≡ suc rank = omega arith in
        leads_onward from to (suc rank) (low.1 ∙ ap (λ n. Some n) same) before.1

    pub reason_of : (p below lowest none : ℕ) → ((i : ℕ) → i < length f.links → (link_at f.links i).edge.from < none) → rank_in ranks p ≡ Some (suc below) → IsLowest f ranks (length f.links) p below lowest → IsSome f ranks (length f.links) p below lowest none → IsInferredReason f p (suc below) lowest
    reason_of p below lowest none small is low some =
        record { below = below; one_below = next below; before = before some; lowest = λ other has. least other (leads_before other p below has) }
      where
        next : (n : ℕ) → n + 1 ≡ suc n
        next n = omega arith

        before : IsSome f ranks (length f.links) p below lowest none → IsRankFor f lowest p below
        before (inl all) =
            let found = (final.found p (suc below) is).1 in
            let less = low found.link found.within found.to found.from in
            let most = small found.link found.within in
            absurd (omega arith)
        before (inr has) =
            let link = link_at f.links has.0 in
            let ranked = rank_before link.edge.from link.edge.to below (edge_by link.edge.from link.edge.to link.below (contains has.0 has.1)) (ends has.0 below has.1 has.3) in
            subst (λ n. IsRankFor f n p below) has.4 (subst (λ n. IsRankFor f link.edge.from n below) has.2 ranked)

        least : (other : ℕ) → LeadsAt other p below → lowest ≤ other
        least other leads =
            let has = leads.1 in
            let at = place_in has.0 (link_of other p leads.0) has.1 has.2 in
            let less = low has.0 has.1 (ap (λ (x : Link). x.edge.to) at) (ap (λ (x : Link). rank_for f.places ranks x) at ∙ leads.2) in
            let from = ap (λ (x : Link). x.edge.from) at in
            omega arith
