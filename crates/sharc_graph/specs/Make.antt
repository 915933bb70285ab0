-- The links that types give.
use Rattle.std.specs.Prelude.{ℕ, zero, suc, ◌+◌, true, false, List, [], ◌∷◌, ◌++◌}
use Rattle.sharc_graph.specs.{declared.place.Link.Link, Flow.link_of}

-- this many positions from the first on are equal to those from the second on
abbrev pub equal_links : (first second depths : ℕ) → List Link
equal_links first second zero = []
equal_links first second (suc depth) = equal_links first second depth ++ link_of (first + depth) (second + depth) false
    ∷ link_of (second + depth) (first + depth) false ∷ []

-- each of this many positions leads to the one directly below
abbrev pub below_links : (first depths : ℕ) → List Link
below_links first zero = []
below_links first (suc depth) = below_links first depth ++ link_of (first + depth) (first + depth + 1) true ∷ []
