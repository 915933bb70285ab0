-- One depth more.
use Rattle.sharc_graph.proofs.Imports.{◌≡◌, ℕ, ◌+◌, true, false, List, [], ◌∷◌, ◌++◌, ap, ◌∙◌, append_assoc, Link, link_of, equal_links, below_links, next}

pub equal_more : (links new : List Link) (first second depth : ℕ) → new ≡ ((links ++ equal_links first second depth) ++ link_of (first + depth) (second + depth) false ∷ []) ++ link_of (second + depth) (first + depth) false ∷ [] → new ≡ links ++ equal_links first second (depth + 1)
equal_more links new first second depth is =
    is
    ∙ append_assoc (links ++ equal_links first second depth) (link_of (first + depth) (second + depth) false ∷ []) (link_of (second + depth) (first + depth) false ∷ [])
    ∙ append_assoc links (equal_links first second depth) (link_of (first + depth) (second + depth) false ∷ link_of (second + depth) (first + depth) false ∷ [])
    ∙ ap (λ n. links ++ equal_links first second n) (next depth)

pub below_more : (links new : List Link) (first depth : ℕ) → new ≡ (links ++ below_links first depth) ++ link_of (first + depth) (first + depth + 1) true ∷ [] → new ≡ links ++ below_links first (depth + 1)
below_more links new first depth is =
    is
    ∙ append_assoc links (below_links first depth) (link_of (first + depth) (first + depth + 1) true ∷ [])
    ∙ ap (λ n. links ++ below_links first n) (next depth)
