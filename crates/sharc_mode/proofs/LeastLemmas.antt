-- What the least assignment is among all that are enough.
use Rattle.sharc_mode.proofs.{Imports.{◌≡◌, ◌⊎◌, ℕ, ◌+◌, ◌<◌, Bool, true, false, List, [], ◌∷◌, length, length-append, Option, Some, None, refl, ap, sym, ◌∙◌, subst, inl, inr, arith, cases_lt, false≢true, get_or_past, All-get_or, get_or as slice_index_or, Contains, NodeFinding, Apart, Source, Behind, finding_at, IsWithin, edge_of, PositionKind, Link, flow_of, link_of, place_at, is_unwritten, is_source, IsUnwritten, IsOrigin, IsFirstFor, HasLink, FlowLaws, IsClosed, IsDynamic, Base, Mode, Private, Readonly, Locked, Racy, Dynamic, entities_in, written_modes, positions_of, positions_in, Resolution, Entity, IsLeastAssignment, IsRoot, IsPlaceFor, ArePlaces, written_place, inferred_mode, mode_found, links_of, Assignment, position_count, AreEquated, IsBelow, IsEnough, mode_given, mode_by, settled, otherwise_of, settled_modes, settled_in, settled_at, sharing_of, is_dynamic}, LawLemmas.inferred, PairLemmas.{below_from, below_to, equal_from, equal_to}, WithinLemmas.links_within}

-- ---- places and modes
open_place : (r : Resolution) (p : ℕ) (at : PositionKind) → IsPlaceFor r p None at → is_unwritten at ≡ true
open_place r p PositionKind.Root is = refl
open_place r p PositionKind.Unwritten is = refl
open_place r p PositionKind.Dynamic is = absurd is
open_place r p PositionKind.Private is = absurd is
open_place r p PositionKind.Other is = absurd is

shut_place : (m : Mode) → is_unwritten (written_place m) ≡ false
shut_place Private = refl
shut_place Readonly = refl
shut_place (Locked path) = refl
shut_place Racy = refl
shut_place Dynamic = refl

root_place : (r : Resolution) (p : ℕ) (at : PositionKind) → IsPlaceFor r p None at → IsRoot r p → is_source at ≡ true
root_place r p PositionKind.Root is root = refl
root_place r p PositionKind.Unwritten is root = absurd (is root)
root_place r p PositionKind.Dynamic is root = refl
root_place r p PositionKind.Private is root = absurd is
root_place r p PositionKind.Other is root = absurd is

source_root : (r : Resolution) (p : ℕ) (at : PositionKind) → IsPlaceFor r p None at → is_source at ≡ true → IsRoot r p
source_root r p PositionKind.Root is source = is
source_root r p PositionKind.Unwritten is source = absurd (false≢true source)
source_root r p PositionKind.Dynamic is source = absurd is
source_root r p PositionKind.Private is source = absurd is
source_root r p PositionKind.Other is source = absurd is

source_dynamic : (m : Mode) → is_source (written_place m) ≡ true → m ≡ Dynamic
source_dynamic Private is = absurd (false≢true is)
source_dynamic Readonly is = absurd (false≢true is)
source_dynamic (Locked path) is = absurd (false≢true is)
source_dynamic Racy is = absurd (false≢true is)
source_dynamic Dynamic is = refl

not_both : (m : Mode) → m ≡ Dynamic → m ≡ Private → ⊥
not_both m is not = let same : Dynamic ≡ Private = sym is ∙ not in cc

other_private : (m : Mode) → written_place m ≡ PositionKind.Other → m ≡ Private → ⊥
other_private m is not = let same : PositionKind.Private ≡ PositionKind.Other = sym (ap written_place not) ∙ is in cc

-- a mode is private, or its place a source or another mode's
written_cases : (m : Mode) → (m ≡ Private) ⊎ (is_source (written_place m) ≡ true) ⊎ (written_place m ≡ PositionKind.Other)
written_cases Private = inl refl
written_cases Readonly = inr (inr refl)
written_cases (Locked path) = inr (inr refl)
written_cases Racy = inr (inr refl)
written_cases Dynamic = inr (inl refl)

-- what is settled of a position, or not
settled_cases : (o : Option Mode) → (o ≡ None) ⊎ ((m : Mode) × (o ≡ Some m))
settled_cases None = inl refl
settled_cases (Some m) = inr (m, refl)

none_some : (m : Mode) → None ≡ Some m → ⊥
none_some m is = cc

finding_dynamic : (finding : NodeFinding) → (finding ≡ Apart → ⊥) → inferred_mode finding ≡ Dynamic
finding_dynamic Apart not = absurd (not refl)
finding_dynamic Source not = refl
finding_dynamic (Behind rank reason) not = refl

given_inferred : (finding : NodeFinding) → mode_given None (is_dynamic (sharing_of (inferred_mode finding))) ≡ inferred_mode finding
given_inferred Apart = refl
given_inferred Source = refl
given_inferred (Behind rank reason) = refl

modes_agree : (a b : Mode) → (a ≡ Private) ⊎ (a ≡ Dynamic) → (b ≡ Private) ⊎ (b ≡ Dynamic) → (a ≡ Dynamic → b ≡ Dynamic) → (b ≡ Dynamic → a ≡ Dynamic) → a ≡ b
modes_agree a b (inl one) (inl two) there back = one ∙ sym two
modes_agree a b (inl one) (inr two) there back = back two ∙ sym two
modes_agree a b (inr one) two there back = one ∙ sym (there one)

-- ---- how many positions are settled
levels_size : (base : Base) (otherwise : Option Mode) (levels : List (Option Mode)) → length (settled base otherwise levels) ≡ length levels
levels_size base otherwise [] = refl
levels_size base otherwise (level ∷ below) = let size = levels_size base otherwise below in omega arith

pub settled_size : (list : List Entity) → length (settled_in list) ≡ positions_in list
settled_size [] = refl
settled_size (e ∷ rest) =
    let here = levels_size e.written.ctype.base (otherwise_of e.role e.written.ctype.levels) (written_modes e) in
    let behind = settled_size rest in
    length-append (settled_modes e) (settled_in rest) ∙ ap (λ n. n + length (settled_in rest)) here ∙ ap (λ n. positions_of e + n) behind

settled_within : (r : Resolution) (p : ℕ) → settled_at r p ≡ None → p < position_count r
settled_within r p is =
    let size = settled_size (entities_in r.program.items) in
    elim (cases_lt p (position_count r)) [
      | inl inside ↦ inside
      | inr past ↦ absurd (none_some Private (sym is ∙ get_or_past (settled_in (entities_in r.program.items)) p (Some Private) (omega arith)))
    ]

link_inside : (r : Resolution) (x y : ℕ) (below : Bool) → Contains (links_of r) (link_of x y below) → IsWithin (position_count r) (edge_of x y)
link_inside r x y below has =
    let P : Link → Type 0 = λ l. IsWithin (position_count r) l.edge in
    subst P has.2 (All-get_or P (links_of r) has.0 (link_of x y below) has.1 (links_within r))

-- ---- the places of a program
module _ (r : Resolution) (places : List PositionKind) (are : ArePlaces r places) where
  at_open : (p : ℕ) → settled_at r p ≡ None → IsPlaceFor r p None (place_at places p)
  at_open p is = let P : Option Mode → Type 0 = λ o. IsPlaceFor r p o (place_at places p) in subst P is (are.each p)

  at_written : (p : ℕ) (m : Mode) → settled_at r p ≡ Some m → place_at places p ≡ written_place m
  at_written p m is = let P : Option Mode → Type 0 = λ o. IsPlaceFor r p o (place_at places p) in subst P is (are.each p)

  unwritten : (p : ℕ) → settled_at r p ≡ None → IsUnwritten (flow_of places (links_of r)) p
  unwritten p is = open_place r p (place_at places p) (at_open p is)

  unsettled : (p : ℕ) → IsUnwritten (flow_of places (links_of r)) p → settled_at r p ≡ None
  unsettled p free =
      elim (settled_cases (settled_at r p)) [
        | inl is ↦ is
        | inr some ↦ absurd (false≢true (sym (ap is_unwritten (at_written p some.0 some.1) ∙ shut_place some.0) ∙ free))
      ]

  module _ (dynamic : ℕ → Bool) (enough : IsEnough r dynamic) where
    from_root : (p : ℕ) → settled_at r p ≡ None → IsOrigin (flow_of places (links_of r)) p → dynamic p ≡ true
    from_root p none source = enough.roots p none (source_root r p (place_at places p) (at_open p none) source)

    by_dynamic : (p : ℕ) → settled_at r p ≡ None → dynamic p ≡ true → mode_by r dynamic p ≡ Dynamic
    by_dynamic p none is = ap (λ o. mode_given o (dynamic p)) none ∙ ap (mode_given None) is

    by_written : (p : ℕ) (m : Mode) → settled_at r p ≡ Some m → mode_by r dynamic p ≡ m
    by_written p m is = ap (λ o. mode_given o (dynamic p)) is

    source_mode : (p : ℕ) → IsOrigin (flow_of places (links_of r)) p → mode_by r dynamic p ≡ Dynamic
    source_mode p source =
        elim (settled_cases (settled_at r p)) [
          | inl none ↦ by_dynamic p none (from_root p none source)
          | inr some ↦ by_written p some.0 some.1 ∙ source_dynamic some.0 (sym (ap is_source (at_written p some.0 some.1)) ∙ source)
        ]

    step : (x y : ℕ) → mode_by r dynamic x ≡ Dynamic → HasLink (flow_of places (links_of r)) x y → settled_at r y ≡ None → dynamic y ≡ true
    step x y is (inl down) none = enough.below x y (below_from r x y down) (not_both (mode_by r dynamic x) is) none
    step x y is (inr equal) none = enough.equal x y (equal_from r x y equal) is none

    first : (x y : ℕ) → IsFirstFor (flow_of places (links_of r)) x y → settled_at r y ≡ None → dynamic y ≡ true
    first x y (inl source) none = step x y (source_mode x source.0) source.1 none
    first x y (inr other) none =
        elim (settled_cases (settled_at r x)) [
          | inl free ↦ absurd (false≢true (sym (ap is_unwritten other.0) ∙ unwritten x free))
          | inr some ↦ enough.below x y (below_from r x y other.1) (λ private. other_private some.0 (sym (at_written x some.0 some.1) ∙ other.0) (sym (by_written x some.0 some.1) ∙ private)) none
        ]

    pub closed : IsClosed (flow_of places (links_of r)) (λ p. dynamic p ≡ true)
    closed =
        record {
          roots = λ p source free. from_root p (unsettled p free) source;
          written = λ x y leads free. first x y leads (unsettled y free);
          onward = λ x y is before edge free. step x y (by_dynamic x (unsettled x before) is) edge (unsettled y free);
        }

-- ---- the least assignment
module _ (laws : FlowLaws) (m : Assignment) (least : IsLeastAssignment m) where
  found_mode : (p : ℕ) → settled_at m.typed p ≡ None → slice_index_or m.modes p Private ≡ inferred_mode (finding_at least.findings p)
  found_mode p none = least.mode p (settled_within m.typed p none) ∙ ap (λ s. mode_found s (finding_at least.findings p)) none

  free : (p : ℕ) → settled_at m.typed p ≡ None → IsUnwritten (flow_of least.places (links_of m.typed)) p
  free p none = unwritten m.typed least.places least.are_places p none

  led : (p : ℕ) → settled_at m.typed p ≡ None → IsDynamic (flow_of least.places (links_of m.typed)) p → slice_index_or m.modes p Private ≡ Dynamic
  led p none has =
      found_mode p none ∙ finding_dynamic (finding_at least.findings p) (λ apart. (laws.told (flow_of least.places (links_of m.typed)) least.findings least.are_inferred p (free p none)).0 apart has)

  has_path : (p : ℕ) → settled_at m.typed p ≡ None → slice_index_or m.modes p Private ≡ Dynamic → IsDynamic (flow_of least.places (links_of m.typed)) p
  has_path p none is =
      (laws.told (flow_of least.places (links_of m.typed)) least.findings least.are_inferred p (free p none)).1 (λ apart. not_both Private (sym (found_mode p none ∙ ap inferred_mode apart) ∙ is) refl)

  written_mode : (p : ℕ) (k : Mode) → p < position_count m.typed → settled_at m.typed p ≡ Some k → slice_index_or m.modes p Private ≡ k
  written_mode p k inside is = least.mode p inside ∙ ap (λ s. mode_found s (finding_at least.findings p)) is

  closed_flow : IsClosed (flow_of least.places (links_of m.typed)) (IsDynamic (flow_of least.places (links_of m.typed)))
  closed_flow = laws.enough (flow_of least.places (links_of m.typed))

  mode_same : (p : ℕ) → p < position_count m.typed → mode_by m.typed (λ q. is_dynamic (sharing_of (slice_index_or m.modes q Private))) p ≡ slice_index_or m.modes p Private
  mode_same p inside =
      elim (settled_cases (settled_at m.typed p)) [
        | inl none ↦
            ap (λ o. mode_given o (is_dynamic (sharing_of (slice_index_or m.modes p Private)))) none
            ∙ ap (λ k. mode_given None (is_dynamic (sharing_of k))) (found_mode p none)
            ∙ given_inferred (finding_at least.findings p)
            ∙ sym (found_mode p none)
        | inr some ↦ ap (λ o. mode_given o (is_dynamic (sharing_of (slice_index_or m.modes p Private)))) some.1 ∙ sym (written_mode p some.0 inside some.1)
      ]

  written_source : (p : ℕ) (k : Mode) → settled_at m.typed p ≡ Some k → k ≡ Dynamic → IsOrigin (flow_of least.places (links_of m.typed)) p
  written_source p k is dynamic = ap is_source (at_written m.typed least.places least.are_places p k is ∙ ap written_place dynamic)

  along : (x y : ℕ) → x < position_count m.typed → slice_index_or m.modes x Private ≡ Dynamic → HasLink (flow_of least.places (links_of m.typed)) x y → settled_at m.typed y ≡ None → slice_index_or m.modes y Private ≡ Dynamic
  along x y inside is edge none =
      elim (settled_cases (settled_at m.typed x)) [
        | inl before ↦ led y none (closed_flow.onward x y (has_path x before is) (free x before) edge (free y none))
        | inr some ↦ led y none (closed_flow.written x y (inl (written_source x some.0 some.1 (sym (written_mode x some.0 inside some.1) ∙ is), edge)) (free y none))
      ]

  down : (x y : ℕ) → IsBelow m.typed x y → (slice_index_or m.modes x Private ≡ Private → ⊥) → settled_at m.typed y ≡ None → slice_index_or m.modes y Private ≡ Dynamic
  down x y is shared none =
      let link = below_to m.typed x y is in
      let inside = (link_inside m.typed x y true link).0 in
      elim (settled_cases (settled_at m.typed x)) [
        | inl before ↦ elim (inferred m least x inside before) [ inl private ↦ absurd (shared private) | inr dynamic ↦ along x y inside dynamic (inl link) none ]
        | inr some ↦ elim (written_cases some.0) [
          | inl private ↦ absurd (shared (written_mode x some.0 inside some.1 ∙ private))
          | inr rest ↦ elim rest [
            | inl source ↦ along x y inside (written_mode x some.0 inside some.1 ∙ source_dynamic some.0 source) (inl link) none
            | inr other ↦ led y none (closed_flow.written x y (inr (at_written m.typed least.places least.are_places x some.0 some.1 ∙ other, link)) (free y none))
          ]
        ]
      ]

  across : (x y : ℕ) → AreEquated m.typed x y → slice_index_or m.modes x Private ≡ Dynamic → settled_at m.typed y ≡ None → slice_index_or m.modes y Private ≡ Dynamic
  across x y are is none = let link = equal_to m.typed x y are in along x y (link_inside m.typed x y false link).0 is (inr link) none

  pub itself_enough : IsEnough m.typed (λ position. is_dynamic (sharing_of (slice_index_or m.modes position Private)))
  itself_enough =
      record {
        roots = λ p none root. ap (λ k. is_dynamic (sharing_of k)) (led p none (closed_flow.roots p (root_place m.typed p (place_at least.places p) (at_open m.typed least.places least.are_places p none) root) (free p none)));
        equal = λ x y are is none.
            let inside = (link_inside m.typed x y false (equal_to m.typed x y are)).0 in
            ap (λ k. is_dynamic (sharing_of k)) (across x y are (sym (mode_same x inside) ∙ is) none);
        below = λ x y are shared none.
            let inside = (link_inside m.typed x y true (below_to m.typed x y are)).0 in
            ap (λ k. is_dynamic (sharing_of k)) (down x y are (λ private. shared (mode_same x inside ∙ private)) none);
      }

  pub below_dynamic : (x y : ℕ) → IsBelow m.typed x y → (slice_index_or m.modes x Private ≡ Private → ⊥) → settled_at m.typed y ≡ None → slice_index_or m.modes y Private ≡ Dynamic
  below_dynamic = down

  turned : (x y : ℕ) → AreEquated m.typed x y → AreEquated m.typed y x
  turned x y (inl p) = inr p
  turned x y (inr p) = inl p

  pub equated_agree : (x y : ℕ) → AreEquated m.typed x y → settled_at m.typed x ≡ None → settled_at m.typed y ≡ None → slice_index_or m.modes x Private ≡ slice_index_or m.modes y Private
  equated_agree x y are left right =
      modes_agree (slice_index_or m.modes x Private) (slice_index_or m.modes y Private) (inferred m least x (settled_within m.typed x left) left) (inferred m least y (settled_within m.typed y right) right)
      (λ is. across x y are is right) (λ is. across y x (turned x y are) is left)

  pub least_of_all : (dynamic : ℕ → Bool) → IsEnough m.typed dynamic → (p : ℕ) → settled_at m.typed p ≡ None → slice_index_or m.modes p Private ≡ Dynamic → dynamic p ≡ true
  least_of_all dynamic enough p none is = laws.least (flow_of least.places (links_of m.typed)) dynamic (closed m.typed least.places least.are_places dynamic enough) p (has_path p none is)
