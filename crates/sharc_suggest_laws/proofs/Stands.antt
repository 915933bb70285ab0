-- Where a cast that is suggested lies among what has a type.
use Rattle.sharc_suggest_laws.proofs.{Imports.{◌≡◌, ℕ, ◌+◌, ◌≤◌, ◌==◌, ◌&&◌, Bool, true, List, length, Some, refl, ap, ◌∙◌, eq-eqb, arith, and_from, find, IsPlaced, type_at, recast_of, program_with, resolution_with, first_of, first_new, SuggestedStands, IsAddedOnce, Entity, Numbered, cast_entity, entities_in, entity_at, is_told_by, numbered_from, positions_in, Cast, Assignment, IsWhole}, Added.suggested_is_added_once, Found.{found_itself, none_told}, Positions.new_within}

-- what has a type before, and now
abbrev pub IsAdded : Assignment → Cast → Type 0
IsAdded m c = IsAddedOnce (recast_of m.typed c) (entities_in m.typed.program.items) (entities_in (program_with c m.typed).items)

abbrev pub entity_of : (m : Assignment) (c : Cast) → IsAdded m c → Entity
entity_of m c added = cast_entity added.span (type_at (recast_of m.typed c) added.span)

abbrev pub first_place : (m : Assignment) (c : Cast) → IsAdded m c → ℕ
first_place m c added = 0 + positions_in added.before

abbrev pub numbered_cast : (m : Assignment) (c : Cast) → IsAdded m c → Numbered
numbered_cast m c added = record { entity = entity_of m c added; first = first_place m c added }

pub stands : (m : Assignment) (c : Cast) (added : IsAdded m c) → entity_at (resolution_with c m.typed) c.from c.until ≡ Some (numbered_cast m c added)
stands m c added =
    let test : Numbered → Bool = is_told_by c.from c.until in
    let told : (added.span.first.token == c.from && added.span.last.token == c.until) ≡ true =
    and_from (added.span.first.token == c.from) (added.span.last.token == c.until) (eq-eqb added.span.first.token c.from added.first) (eq-eqb added.span.last.token c.until added.last) in
    ap (λ (l : List Entity). find test (numbered_from 0 l)) added.has
    ∙ found_itself test (entity_of m c added) (λ k. told) 0 added.before added.behind (none_told c.from c.until 0 added.before added.earlier)

pub first_is : (m : Assignment) (c : Cast) (added : IsAdded m c) → first_new c m.typed ≡ first_place m c added
first_is m c added = ap first_of (stands m c added)

pub first_fits : (m : Assignment) (c : Cast) (added : IsAdded m c) → IsWhole m → IsPlaced m.typed.program → first_place m c added ≤ length m.modes
first_fits m c added whole placed =
    let low : first_new c m.typed ≤ 0 + positions_in (entities_in m.typed.program.items) = new_within m c placed in
    let same : first_new c m.typed ≡ first_place m c added = first_is m c added in
    omega (arith, low, whole.modes, same)

pub suggested_stands : SuggestedStands
suggested_stands m e c whole placed says =
    let added : IsAdded m c = suggested_is_added_once m e c placed says in (
      first_place m c added,
      record {
        span = added.span;
        written = type_at (recast_of m.typed c) added.span;
        stands = stands m c added;
        ctype = refl;
        within = first_fits m c added whole placed;
      },
    )
