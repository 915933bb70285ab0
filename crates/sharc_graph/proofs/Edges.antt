-- The edges that are kept are those by which a path may go on.
use Rattle.sharc_graph.proofs.Imports.{◌≡◌, ℕ, zero, suc, ◌+◌, ◌<◌, ◌≤◌, ◌⊎◌, Bool, true, false, cond, List, [], ◌∷◌, ◌++◌, length, get_or, take, map, refl, sym, ap, ◌∙◌, inl, inr, arith, cases_Bool, take_more, append-nil, All-nil, All-cons, All-head, All-tail, Contains, All, Edge, edge_of, node_at, IsWithin, PositionKind, Link, place_at, link_of, leads, kept_edges, node_of, contains_behind}

-- ---- as they are made
kept_push : (places : List PositionKind) (links : List Link) (link : Link) → kept_edges places (links ++ link ∷ []) ≡ kept_edges places links ++ kept_edges places (link ∷ [])
kept_push places [] link = refl
kept_push places (x ∷ rest) link =
    elim (cases_Bool (leads (place_at places x.edge.from) x.below)) [
      | inl passes ↦ rw passes (ap (λ es. x.edge ∷ es) (kept_push places rest link))
      | inr fails ↦ rw fails (kept_push places rest link)
    ]

pub kept_more : (places : List PositionKind) (links : List Link) (i : ℕ) (d : Link) → i < length links → kept_edges places (take (i + 1) links) ≡ kept_edges places (take i links) ++ kept_edges places (get_or links i d ∷ [])
kept_more places links i d inside = ap (kept_edges places) (take_more links i d inside) ∙ kept_push places (take i links) (get_or links i d)

pub kept_short : (places : List PositionKind) (links : List Link) → length (kept_edges places links) ≤ length links
kept_short places [] = omega arith
kept_short places (x ∷ rest) =
    let short = kept_short places rest in
    elim (cases_Bool (leads (place_at places x.edge.from) x.below)) [
      | inl passes ↦ rw passes (omega arith)
      | inr fails ↦ rw fails (omega arith)
    ]

pub kept_within : (n : ℕ) (places : List PositionKind) (links : List Link) → All (λ link. IsWithin n link.edge) links → All (IsWithin n) (kept_edges places links)
kept_within n places [] all = All-nil (IsWithin n)
kept_within n places (x ∷ rest) all =
    let within = kept_within n places rest (All-tail (λ link. IsWithin n link.edge) x rest all) in
    elim (cases_Bool (leads (place_at places x.edge.from) x.below)) [
      | inl passes ↦ rw passes (All-cons (IsWithin n) x.edge (kept_edges places rest) (All-head (λ link. IsWithin n link.edge) x rest all) within)
      | inr fails ↦ rw fails within
    ]

-- ---- the links of an edge
contains_here : {X : Type 0} (y : X) (rest : List X) (x : X) → y ≡ x → Contains (y ∷ rest) x
contains_here y rest x is = (0, omega arith, is)

contains_cases_at : {X : Type 0} (y : X) (rest : List X) (x : X) (k : ℕ) → k < length (y ∷ rest) → get_or (y ∷ rest) k x ≡ x → (y ≡ x) ⊎ Contains rest x
contains_cases_at y rest x zero inside is = inl is
contains_cases_at y rest x (suc k) inside is = inr (k, omega arith, is)

-- a link by which a path may go on
abbrev pub HasLink : List PositionKind → List Link → ℕ → ℕ → Type 0
HasLink places links from to = (below : Bool) × Contains links (link_of from to below) × (leads (place_at places from) below ≡ true)

later : (places : List PositionKind) (x : Link) (rest : List Link) (from to : ℕ) → HasLink places rest from to → HasLink places (x ∷ rest) from to
later places x rest from to has = (has.0, contains_behind x rest (link_of from to has.0) has.1, has.2)

first_link : (places : List PositionKind) (x : Link) (rest : List Link) (from to : ℕ) → leads (place_at places x.edge.from) x.below ≡ true → x.edge ≡ edge_of from to → HasLink places (x ∷ rest) from to
first_link places x rest from to passes is =
    let same : x ≡ link_of from to x.below = ap (λ (e : Edge). record { edge = e; below = x.below }) is in
    (x.below, contains_here x rest (link_of from to x.below) same, ap (λ n. leads (place_at places n) x.below) (sym (ap (λ (e : Edge). e.from) is)) ∙ passes)

pub link_from_edge : (places : List PositionKind) (links : List Link) (from to : ℕ) → Contains (kept_edges places links) (edge_of from to) → HasLink places links from to
link_from_edge places [] from to has = let inside = has.1 in absurd (omega arith)
link_from_edge places (x ∷ rest) from to has =
    elim (cases_Bool (leads (place_at places x.edge.from) x.below)) [
      | inl passes ↦
          let found : Contains (x.edge ∷ kept_edges places rest) (edge_of from to) = rw passes at has in
          elim (contains_cases_at x.edge (kept_edges places rest) (edge_of from to) found.0 found.1 found.2) [
            | inl is ↦ first_link places x rest from to passes is
            | inr behind ↦ later places x rest from to (link_from_edge places rest from to behind)
          ]
      | inr fails ↦ later places x rest from to (link_from_edge places rest from to (rw fails at has))
    ]

pub edge_from_link : (places : List PositionKind) (links : List Link) (from to : ℕ) (below : Bool) → Contains links (link_of from to below) → leads (place_at places from) below ≡ true → Contains (kept_edges places links) (edge_of from to)
edge_from_link places [] from to below has passes = let inside = has.1 in absurd (omega arith)
edge_from_link places (x ∷ rest) from to below has passes =
    elim (contains_cases_at x rest (link_of from to below) has.0 has.1 has.2) [
      | inl is ↦
          let kept : leads (place_at places x.edge.from) x.below ≡ true = ap (λ (l : Link). leads (place_at places l.edge.from) l.below) is ∙ passes in
          rw kept (contains_here x.edge (kept_edges places rest) (edge_of from to) (ap (λ (l : Link). l.edge) is))
      | inr behind ↦
          let found = edge_from_link places rest from to below behind passes in
          elim (cases_Bool (leads (place_at places x.edge.from) x.below)) [
            | inl kept ↦ rw kept (contains_behind x.edge (kept_edges places rest) (edge_of from to) found)
            | inr fails ↦ rw fails found
          ]
    ]

-- ---- the nodes
pub node_is : (places : List PositionKind) (position : ℕ) → node_at (map node_of places) position ≡ node_of (place_at places position)
node_is [] position = refl
node_is (x ∷ rest) zero = refl
node_is (x ∷ rest) (suc position) = node_is rest position

-- ---- one link more
abbrev pub link_at : List Link → ℕ → Link
link_at links i = get_or links i (link_of 0 0 false)

pub link_kept : (places : List PositionKind) (links : List Link) (i : ℕ) (edges new : List Edge) → i < length links → leads (place_at places (link_at links i).edge.from) (link_at links i).below ≡ true → edges ≡ kept_edges places (take i links) → new ≡ edges ++ (link_at links i).edge ∷ []
    → new ≡ kept_edges places (take (i + 1) links)
link_kept places links i edges new inside passes are is =
    let link = link_at links i in
    is ∙ ap (λ es. es ++ link.edge ∷ []) are ∙ ap (λ b. kept_edges places (take i links) ++ cond b (link.edge ∷ []) []) (sym passes) ∙ sym (kept_more places links i (link_of 0 0 false) inside)

pub link_left : (places : List PositionKind) (links : List Link) (i : ℕ) (edges new : List Edge) → i < length links → leads (place_at places (link_at links i).edge.from) (link_at links i).below ≡ false → edges ≡ kept_edges places (take i links) → new ≡ edges
    → new ≡ kept_edges places (take (i + 1) links)
link_left places links i edges new inside fails are is =
    let link = link_at links i in
    is ∙ are ∙ sym (append-nil (kept_edges places (take i links))) ∙ ap (λ b. kept_edges places (take i links) ++ cond b (link.edge ∷ []) []) (sym fails) ∙ sym (kept_more places links i (link_of 0 0 false) inside)
