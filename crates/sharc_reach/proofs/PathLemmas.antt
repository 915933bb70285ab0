-- The paths of the graph of the functions are the lists of functions in which each calls or spawns the next.
use Rattle.sharc_reach.proofs.{Imports.{◌≡◌, ℕ, ◌<◌, ◌≤◌, ◌⊎◌, true, false, ◌&&◌, List, [], ◌∷◌, Option, Some, None, length, get_or, set, fold, replicate, map, refl, ap, sym, ◌∙◌, subst, inl, inr, arith, cases_eq, cases_lt, cases_Bool, and_parts, ltb-true, lt-ltb, false≢true, length-set, get_or-set_same, get_or-set_other, get_or_past, get_or_default, get_or-replicate, length-replicate, length-map, get_or-map, nat_lt, Contains, filter_map, All, Node, Edge, NodeFinding, Apart, Source, Behind, finding_at, Graph, graph_of, IsWithin, no_node, node_at, IsSource, IsFree, edge_of, HasEdge, Follow, last_of, LeadsTo, IsFinding, AreFindings, Named, in_function, Resolution, functions_in, runs, spawns, of_all, Names, Spawns, Runs, Leads, IsReached, Mention, mentions_below, ran, spawned, edge_within, edge_of_mention, quiet_node, source_node, marked, marked_by, is_found, is_source, is_chosen, IsSpawned}, MemberLemmas.{Has, has_same, has_contained, contained, has_made, has_source, below_has, has_below, of_function_below, below_of_function, runs_of, of_runs, spawns_of, of_spawns, some_within}}

-- ---- edges
within_edge : (count a b : ℕ) → a < count → b < count → edge_within count a (Some b) ≡ Some (edge_of a b)
within_edge count a b low high = rw (lt-ltb a count low, lt-ltb b count high)

record Parts (count a : ℕ) (o : Option ℕ) (x y : ℕ) : Type 0 where
  from : a ≡ x
  to : o ≡ Some y
  low : x < count
  high : y < count

edge_parts : (count a : ℕ) (o : Option ℕ) (x y : ℕ) → edge_within count a o ≡ Some (edge_of x y) → Parts count a o x y
edge_parts count a None x y is = absurd (let no : None ≡ Some (edge_of x y) = is in cc)
edge_parts count a (Some b) x y is =
    elim (cases_Bool (nat_lt a count && nat_lt b count)) [
      | inl passes ↦
          let tests = and_parts (nat_lt a count) (nat_lt b count) passes in
          let same : Some (edge_of a b) ≡ Some (edge_of x y) = rw passes at is in
          let made : edge_of a b ≡ edge_of x y = cc in
          let from : a ≡ x = ap (λ (e : Edge). e.from) made in
          let to : b ≡ y = ap (λ (e : Edge). e.to) made in
          let low = ltb-true a count tests.0 in
          let high = ltb-true b count tests.1 in
          record { from = from; to = ap (λ i. Some i) to; low = omega arith; high = omega arith }
      | inr fails ↦ let no : None ≡ Some (edge_of x y) = rw fails at is in absurd (cc)
    ]

within_made : (count a : ℕ) (o : Option ℕ) (e : Edge) → edge_within count a o ≡ Some e → IsWithin count e
within_made count a None e is = absurd (let no : None ≡ Some e = is in cc)
within_made count a (Some b) e is =
    elim (cases_Bool (nat_lt a count && nat_lt b count)) [
      | inl passes ↦
          let tests = and_parts (nat_lt a count) (nat_lt b count) passes in
          let same : Some (edge_of a b) ≡ Some e = rw passes at is in
          let made : edge_of a b ≡ e = cc in
          subst (IsWithin count) made (ltb-true a count tests.0, ltb-true b count tests.1)
      | inr fails ↦ let no : None ≡ Some e = rw fails at is in absurd (cc)
    ]

has_of_made : (r : Resolution) (count : ℕ) (all : List Mention) (e : Edge) → Has (λ m. edge_of_mention r count m ≡ Some e) all → IsWithin count e
has_of_made r count [] e h = absurd h
has_of_made r count (m ∷ all) e (inl here) = within_made count m.function (ran r m) e here
has_of_made r count (m ∷ all) e (inr there) = has_of_made r count all e there

-- each edge is between functions
pub edges_within : (r : Resolution) (count : ℕ) (all : List Mention) → All (IsWithin count) (filter_map (edge_of_mention r count) all)
edges_within r count all k d below =
    let edges = filter_map (edge_of_mention r count) all in
    let e = get_or edges k d in
    has_of_made r count all e (has_source (edge_of_mention r count) all e (has_contained (λ z. z ≡ e) edges e (k, below, get_or_default edges k e d below) refl))

-- ---- nodes
marked_size : (nodes : List Node) (o : Option ℕ) → length (marked nodes o) ≡ length nodes
marked_size nodes None = refl
marked_size nodes (Some n) = length-set nodes n source_node

pub marks_size : (r : Resolution) (all : List Mention) (nodes : List Node) → length (fold (marked_by r) nodes all) ≡ length nodes
marks_size r [] nodes = refl
marks_size r (m ∷ all) nodes = marks_size r all (marked_by r nodes m) ∙ marked_size nodes (spawned r m)

-- a source stays one, and a free node stays free
source_stays : (nodes : List Node) (o : Option ℕ) (n : ℕ) → n < length nodes → (node_at nodes n).source ≡ true → (node_at (marked nodes o) n).source ≡ true
source_stays nodes None n below is = is
source_stays nodes (Some k) n below is =
    elim (cases_eq n k) [
      | inl same ↦ subst (λ i. (node_at (set nodes k source_node) i).source ≡ true) (sym same) (ap (λ (x : Node). x.source) (get_or-set_same nodes k source_node no_node (omega arith)))
      | inr ne ↦ ap (λ (x : Node). x.source) (get_or-set_other nodes k n source_node no_node ne) ∙ is
    ]

free_stays : (nodes : List Node) (o : Option ℕ) (n : ℕ) → n < length nodes → (node_at nodes n).free ≡ true → (node_at (marked nodes o) n).free ≡ true
free_stays nodes None n below is = is
free_stays nodes (Some k) n below is =
    elim (cases_eq n k) [
      | inl same ↦ subst (λ i. (node_at (set nodes k source_node) i).free ≡ true) (sym same) (ap (λ (x : Node). x.free) (get_or-set_same nodes k source_node no_node (omega arith)))
      | inr ne ↦ ap (λ (x : Node). x.free) (get_or-set_other nodes k n source_node no_node ne) ∙ is
    ]

sources_stay : (r : Resolution) (all : List Mention) (nodes : List Node) (n : ℕ) → n < length nodes → (node_at nodes n).source ≡ true → (node_at (fold (marked_by r) nodes all) n).source ≡ true
sources_stay r [] nodes n below is = is
sources_stay r (m ∷ all) nodes n below is = let size = marked_size nodes (spawned r m) in sources_stay r all (marked_by r nodes m) n (omega arith) (source_stays nodes (spawned r m) n below is)

free_after : (r : Resolution) (all : List Mention) (nodes : List Node) (n : ℕ) → n < length nodes → (node_at nodes n).free ≡ true → (node_at (fold (marked_by r) nodes all) n).free ≡ true
free_after r [] nodes n below is = is
free_after r (m ∷ all) nodes n below is = let size = marked_size nodes (spawned r m) in free_after r all (marked_by r nodes m) n (omega arith) (free_stays nodes (spawned r m) n below is)

marked_here : (nodes : List Node) (o : Option ℕ) (n : ℕ) → n < length nodes → o ≡ Some n → (node_at (marked nodes o) n).source ≡ true
marked_here nodes None n below is = absurd (let no : None ≡ Some n = is in cc)
marked_here nodes (Some k) n below is =
    let same : n ≡ k = cc in
    subst (λ i. (node_at (set nodes k source_node) i).source ≡ true) (sym same) (ap (λ (x : Node). x.source) (get_or-set_same nodes k source_node no_node (omega arith)))

spawned_after : (r : Resolution) (all : List Mention) (nodes : List Node) (n : ℕ) → n < length nodes → Has (λ m. spawned r m ≡ Some n) all → (node_at (fold (marked_by r) nodes all) n).source ≡ true
spawned_after r [] nodes n below h = absurd h
spawned_after r (m ∷ all) nodes n below (inl here) = let size = marked_size nodes (spawned r m) in sources_stay r all (marked_by r nodes m) n (omega arith) (marked_here nodes (spawned r m) n below here)
spawned_after r (m ∷ all) nodes n below (inr there) = let size = marked_size nodes (spawned r m) in spawned_after r all (marked_by r nodes m) n (omega arith) there

was_source : (nodes : List Node) (o : Option ℕ) (n : ℕ) → (node_at (marked nodes o) n).source ≡ true → ((node_at nodes n).source ≡ true) ⊎ (o ≡ Some n)
was_source nodes None n is = inl is
was_source nodes (Some k) n is =
    elim (cases_eq n k) [
      | inl same ↦ inr (ap (λ i. Some i) (sym same))
      | inr ne ↦ inl (ap (λ (x : Node). x.source) (sym (get_or-set_other nodes k n source_node no_node ne)) ∙ is)
    ]

source_from : (r : Resolution) (all : List Mention) (nodes : List Node) (n : ℕ) → (node_at (fold (marked_by r) nodes all) n).source ≡ true → ((node_at nodes n).source ≡ true) ⊎ Has (λ m. spawned r m ≡ Some n) all
source_from r [] nodes n is = inl is
source_from r (m ∷ all) nodes n is =
    elim (source_from r all (marked_by r nodes m) n is) [
      | inl before ↦ elim (was_source nodes (spawned r m) n before) [ inl had ↦ inl had | inr here ↦ inr (inl here) ]
      | inr there ↦ inr (inr there)
    ]

quiet_at : (count n : ℕ) → (node_at (replicate count quiet_node) n).source ≡ true → ⊥
quiet_at count n is =
    elim (cases_lt n count) [
      | inl below ↦ false≢true (sym (ap (λ (x : Node). x.source) (get_or-replicate count n quiet_node no_node below)) ∙ is)
      | inr past ↦ let size = length-replicate count quiet_node in false≢true (sym (ap (λ (x : Node). x.source) (get_or_past (replicate count quiet_node) n no_node (omega arith))) ∙ is)
    ]

-- ---- the graph of a program
abbrev pub call_edges : Resolution → ℕ → List Edge
call_edges r count = filter_map (edge_of_mention r count) (mentions_below r count)

abbrev pub function_nodes : Resolution → ℕ → List Node
function_nodes r count = fold (marked_by r) (replicate count quiet_node) (mentions_below r count)

abbrev pub graph_in : Resolution → ℕ → Graph
graph_in r count = graph_of (function_nodes r count) (call_edges r count)

pub nodes_size : (r : Resolution) (count : ℕ) → length (function_nodes r count) ≡ count
nodes_size r count = marks_size r (mentions_below r count) (replicate count quiet_node) ∙ length-replicate count quiet_node

has_edge : (r : Resolution) (count a b : ℕ) → a < count → b < count → Runs r a b → HasEdge (call_edges r count) a b
has_edge r count a b low high run =
    let all = mentions_below r count in
    let e = edge_of a b in
    let named = below_of_function r (λ m. ran r m ≡ Some b) count a low (of_runs r a b run) in
    let edged =
    has_same (λ m. (m.function ≡ a) × (ran r m ≡ Some b)) (λ m. edge_of_mention r count m ≡ Some e)
    (λ m both. ap (λ i. edge_within count i (ran r m)) both.0 ∙ ap (edge_within count a) both.1 ∙ within_edge count a b low high) all named in
    let found = contained (λ z. z ≡ e) (call_edges r count) (has_made (edge_of_mention r count) all e edged) in
    subst (Contains (call_edges r count)) found.2 found.1

edge_runs : (r : Resolution) (count a b : ℕ) → HasEdge (call_edges r count) a b → Runs r a b
edge_runs r count a b has =
    let all = mentions_below r count in
    let e = edge_of a b in
    let edged = has_source (edge_of_mention r count) all e (has_contained (λ z. z ≡ e) (call_edges r count) e has refl) in
    let named =
    has_same (λ m. edge_of_mention r count m ≡ Some e) (λ m. (m.function ≡ a) × (ran r m ≡ Some b)) (λ m is. let parts = edge_parts count m.function (ran r m) a b is in (parts.from, parts.to)) all edged in
    let one = of_function_below r (λ m. ran r m ≡ Some b) count a named in
    runs_of r a b one.1

source_spawned : (r : Resolution) (count n : ℕ) → IsSource (graph_in r count) n → (k : ℕ) × Spawns r k n
source_spawned r count n is =
    elim (source_from r (mentions_below r count) (replicate count quiet_node) n is) [
      | inl had ↦ absurd (quiet_at count n had)
      | inr h ↦ let found = below_has r (λ m. spawned r m ≡ Some n) count h in (found.0, spawns_of r found.0 n found.2)
    ]

module _ (r : Resolution) (count : ℕ) (counted : count ≡ length (functions_in r.program.items)) where
  spawner_within : (k n : ℕ) → Spawns r k n → k < count
  spawner_within k n spawn = let below = some_within (λ f. Names r (Named.Function n) (of_all spawns (in_function f))) (functions_in r.program.items) k spawn in omega arith

  caller_within : (a b : ℕ) → Runs r a b → a < count
  caller_within a b run = let below = some_within (λ f. Names r (Named.Function b) (of_all runs (in_function f))) (functions_in r.program.items) a run in omega arith

  spawned_source : (k n : ℕ) → n < count → Spawns r k n → IsSource (graph_in r count) n
  spawned_source k n below spawn =
      let size = length-replicate count quiet_node in
      spawned_after r (mentions_below r count) (replicate count quiet_node) n (omega arith) (has_below r (λ m. spawned r m ≡ Some n) count k (spawner_within k n spawn) (of_spawns r k n spawn))

  free_node : (n : ℕ) → n < count → IsFree (graph_in r count) n
  free_node n below =
      let size = length-replicate count quiet_node in
      free_after r (mentions_below r count) (replicate count quiet_node) n (omega arith) (ap (λ (x : Node). x.free) (get_or-replicate count n quiet_node no_node below))

  leads_within : (n : ℕ) (rest : List ℕ) (m : ℕ) → m < count → Leads r n rest m → n < count
  leads_within n [] m below leads = let same : n ≡ m = leads in omega arith
  leads_within n (k ∷ rest) m below leads = caller_within n k leads.0

  follow_leads : (n : ℕ) (rest : List ℕ) (m : ℕ) → m < count → Leads r n rest m → Follow (graph_in r count) n rest
  follow_leads n [] m below leads = tt
  follow_leads n (k ∷ rest) m below leads =
      let within = leads_within k rest m below leads.1 in
      (has_edge r count n k (caller_within n k leads.0) within leads.0, free_node k within, follow_leads k rest m below leads.1)

  ends_leads : (n : ℕ) (rest : List ℕ) (m : ℕ) → Leads r n rest m → last_of n rest ≡ m
  ends_leads n [] m leads = leads
  ends_leads n (k ∷ rest) m leads = ends_leads k rest m leads.1

  leads_follow : (n : ℕ) (rest : List ℕ) → Follow (graph_in r count) n rest → Leads r n rest (last_of n rest)
  leads_follow n [] follow = refl
  leads_follow n (k ∷ rest) follow = (edge_runs r count n k follow.0, leads_follow k rest follow.2)

  reached_from_path : (first : ℕ) (rest : List ℕ) (m : ℕ) → LeadsTo (graph_in r count) first rest m → IsReached r m
  reached_from_path first rest m path =
      let source = source_spawned r count first path.begins in
      record {
        spawner = source.0;
        first = first;
        spawned = source.1;
        between = rest;
        leads = subst (Leads r first rest) path.ends (leads_follow first rest path.follow);
      }

  path_from_reached : (m : ℕ) (below : m < count) (reached : IsReached r m) → LeadsTo (graph_in r count) reached.first reached.between m
  path_from_reached m below reached =
      record {
        begins = spawned_source reached.spawner reached.first (leads_within reached.first reached.between m below reached.leads) reached.spawned;
        follow = follow_leads reached.first reached.between m below reached.leads;
        ends = ends_leads reached.first reached.between m reached.leads;
      }

  -- ---- what is found
  reached_from_finding : (m : ℕ) (finding : NodeFinding) → IsFinding (graph_in r count) m finding → is_found finding ≡ true → IsReached r m
  reached_from_finding m Apart found passes = absurd (false≢true passes)
  reached_from_finding m Source found passes = reached_from_path m [] m record { begins = found; follow = tt; ends = refl }
  reached_from_finding m (Behind rank reason) found passes = let has = found.0 in reached_from_path has.first has.rest m has.path

  finding_from_reached : (m : ℕ) (finding : NodeFinding) → m < count → IsFinding (graph_in r count) m finding → IsReached r m → is_found finding ≡ true
  finding_from_reached m Apart below found has = absurd (found has.first has.between (path_from_reached m below has))
  finding_from_reached m Source below found has = refl
  finding_from_reached m (Behind rank reason) below found has = refl

  -- a source is found as one
  spawned_from_finding : (n : ℕ) (finding : NodeFinding) → IsFinding (graph_in r count) n finding → is_source finding ≡ true → IsSpawned r n
  spawned_from_finding n Apart found is = absurd (false≢true is)
  spawned_from_finding n Source found is = source_spawned r count n found
  spawned_from_finding n (Behind rank reason) found is = absurd (false≢true is)

  finding_from_spawned : (n : ℕ) (finding : NodeFinding) → n < count → IsFinding (graph_in r count) n finding → IsSpawned r n → is_source finding ≡ true
  finding_from_spawned n Apart below found has = absurd (found n [] record { begins = spawned_source has.0 n below has.1; follow = tt; ends = refl })
  finding_from_spawned n Source below found has = refl
  finding_from_spawned n (Behind rank reason) below found has =
      let least : rank ≤ 0 = found.0.least n [] record { begins = spawned_source has.0 n below has.1; follow = tt; ends = refl } in
      let above = found.1.one_below in
      absurd (omega arith)

  module _ (findings : List NodeFinding) (found : AreFindings (graph_in r count) findings) where
    found_size : length findings ≡ count
    found_size = found.size ∙ nodes_size r count

    pub chosen_size : length (map is_found findings) ≡ count
    chosen_size = length-map findings is_found ∙ found_size

    chosen_at : (m : ℕ) → m < count → is_chosen (map is_found findings) m ≡ is_found (finding_at findings m)
    chosen_at m below = let size = found_size in get_or-map is_found findings m Apart false (omega arith)

    finding_is : (m : ℕ) → m < count → IsFinding (graph_in r count) m (finding_at findings m)
    finding_is m below = let size = nodes_size r count in found.each m (omega arith)

    pub chosen_reached : (m : ℕ) → m < count → is_chosen (map is_found findings) m ≡ true → IsReached r m
    chosen_reached m below is = reached_from_finding m (finding_at findings m) (finding_is m below) (sym (chosen_at m below) ∙ is)

    pub reached_chosen : (m : ℕ) → m < count → IsReached r m → is_chosen (map is_found findings) m ≡ true
    reached_chosen m below has = chosen_at m below ∙ finding_from_reached m (finding_at findings m) below (finding_is m below) has

    pub spawned_size : length (map is_source findings) ≡ count
    spawned_size = length-map findings is_source ∙ found_size

    spawned_at : (m : ℕ) → m < count → is_chosen (map is_source findings) m ≡ is_source (finding_at findings m)
    spawned_at m below = let size = found_size in get_or-map is_source findings m Apart false (omega arith)

    pub source_is_spawned : (m : ℕ) → m < count → is_chosen (map is_source findings) m ≡ true → IsSpawned r m
    source_is_spawned m below is = spawned_from_finding m (finding_at findings m) (finding_is m below) (sym (spawned_at m below) ∙ is)

    pub spawned_is_source : (m : ℕ) → m < count → IsSpawned r m → is_chosen (map is_source findings) m ≡ true
    spawned_is_source m below has = spawned_at m below ∙ finding_from_spawned m (finding_at findings m) below (finding_is m below) has
