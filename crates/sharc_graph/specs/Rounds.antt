-- Ranks as rounds over all links find them.
use Rattle.std.specs.Prelude.{◌≡◌, ℕ, zero, suc, ◌+◌, ◌<◌, ◌≤◌, ◌⊎◌, Bool, true, false, ◌&&◌, List, length}
use Rattle.std.specs.Prelude.{slice_index_or, slice_set, count_by, if◌then◌else◌, Option, Some, None, nat_eq}
use Rattle.sharc_graph.specs.declared.place.PositionKind.{PositionKind}
use Rattle.sharc_graph.specs.declared.place.PositionKind.TheVariants.{Root, Unwritten, Dynamic, Private, Other}
use Rattle.sharc_graph.specs.{declared.place.Link.Link, Flow.{Flow, place_at, link_of, is_unwritten}}

abbrev pub Ranks : Type 0
Ranks = List (Option ℕ)

abbrev pub rank_in : Ranks → ℕ → Option ℕ
rank_in ranks position = slice_index_or ranks position None

abbrev pub link_at : List Link → ℕ → Link
link_at links i = slice_index_or links i (link_of 0 0 false)

abbrev pub first_rank : PositionKind → Option ℕ
first_rank Root = Some 0
first_rank Unwritten = None
first_rank Dynamic = None
first_rank Private = None
first_rank Other = None

-- of which rank a position is for a link of it
abbrev pub rank_by : PositionKind → Option ℕ → Bool → Option ℕ
rank_by Root rank below = Some 0
rank_by Unwritten rank below = rank
rank_by Dynamic rank below = Some 0
rank_by Private rank below = None
rank_by Other rank below = if below then Some 0 else None

-- of which rank the position that this link comes from is for it
abbrev pub rank_for : List PositionKind → Ranks → Link → Option ℕ
rank_for places ranks link = rank_by (place_at places link.edge.from) (rank_in ranks link.edge.from) link.below

abbrev pub is_none : Option ℕ → Bool
is_none None = true
is_none (Some rank) = false

abbrev pub is_rank : Option ℕ → ℕ → Bool
is_rank None wanted = false
is_rank (Some rank) wanted = nat_eq rank wanted

-- ---- one link
-- the link leads from a position of this rank to one without a written mode that has none yet
abbrev pub is_next : List PositionKind → Ranks → Link → ℕ → Bool
is_next places ranks link rank = is_rank (rank_for places ranks link) rank
    && (is_unwritten (place_at places link.edge.to) && is_none (rank_in ranks link.edge.to))

abbrev pub ranks_behind : List PositionKind → Ranks → Link → ℕ → Ranks
ranks_behind places ranks link rank =
    if is_next places ranks link rank then slice_set ranks link.edge.to (Some (rank + 1)) else ranks

-- ---- the ranks so far
-- one of the links leads to the position, from one that is of this rank for it
pub record IsBehind (f : Flow) (ranks : Ranks) (position below : ℕ) : Type 0 where
  pub link : ℕ
  pub within : link < length f.links
  pub to : (link_at f.links link).edge.to ≡ position
  pub from : rank_for f.places ranks (link_at f.links link) ≡ Some below

abbrev pub IsFound : Flow → Ranks → ℕ → ℕ → Type 0
IsFound f ranks position zero = place_at f.places position ≡ Root
IsFound f ranks position (suc below) =
    (is_unwritten (place_at f.places position) ≡ true) × IsBehind f ranks position below

abbrev pub HasRank : Ranks → ℕ → ℕ → Type 0
HasRank ranks position most = (rank : ℕ) × (rank_in ranks position ≡ Some rank) × (rank ≤ most)

-- what the link leads to is of at most one rank more
abbrev pub IsServed : Flow → Ranks → Link → ℕ → Type 0
IsServed f ranks link rank = rank_for f.places ranks link ≡ Some rank
    → is_unwritten (place_at f.places link.edge.to) ≡ true → HasRank ranks link.edge.to (rank + 1)

-- this many of the links have been gone over in this round, and all of them in those before
pub record AreRanks (f : Flow) (ranks : Ranks) (round links : ℕ) : Type 0 where
  pub size : length ranks ≡ length f.places
  pub roots : (position : ℕ) → place_at f.places position ≡ Root → rank_in ranks position ≡ Some 0
  pub found : (position rank : ℕ) → rank_in ranks position ≡ Some rank → IsFound f ranks position rank
  pub low : (position rank : ℕ) → rank_in ranks position ≡ Some rank → rank ≤ round + 1
  pub before : (i rank : ℕ) → i < length f.links → rank < round → IsServed f ranks (link_at f.links i) rank
  pub now : (i : ℕ) → i < length f.links → i < links → IsServed f ranks (link_at f.links i) round

-- none is of a higher rank than the round
abbrev pub AreUpTo : Ranks → ℕ → Type 0
AreUpTo ranks round = (position rank : ℕ) → rank_in ranks position ≡ Some rank → rank ≤ round

abbrev pub unranked : Ranks → ℕ
unranked ranks = count_by is_none ranks

-- each link is served
pub record AreFinal (f : Flow) (ranks : Ranks) : Type 0 where
  pub size : length ranks ≡ length f.places
  pub roots : (position : ℕ) → place_at f.places position ≡ Root → rank_in ranks position ≡ Some 0
  pub found : (position rank : ℕ) → rank_in ranks position ≡ Some rank → IsFound f ranks position rank
  pub low : (position rank : ℕ) → rank_in ranks position ≡ Some rank → rank ≤ length f.places
  pub served : (i rank : ℕ) → i < length f.links → IsServed f ranks (link_at f.links i) rank

-- ---- reasons
-- no position is lower that is of this rank for a link to this one
abbrev pub IsLowest : Flow → Ranks → ℕ → (position below lowest : ℕ) → Type 0
IsLowest f ranks links position below lowest =
    (i : ℕ) → i < links → (link_at f.links i).edge.to ≡ position
    → rank_for f.places ranks (link_at f.links i) ≡ Some below → lowest ≤ (link_at f.links i).edge.from

-- it is such a position, or stands for none
abbrev pub IsSome : Flow → Ranks → ℕ → (position below lowest none : ℕ) → Type 0
IsSome f ranks links position below lowest none =
    (lowest ≡ none) ⊎ ((i : ℕ) × (i < links) × ((link_at f.links i).edge.to ≡ position)
    × (rank_for f.places ranks (link_at f.links i) ≡ Some below) × ((link_at f.links i).edge.from ≡ lowest))
