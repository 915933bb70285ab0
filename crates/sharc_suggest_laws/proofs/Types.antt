-- What is declared, and each other cast, keeps its modes.
use Rattle.sharc_suggest_laws.proofs.{Imports.{◌≡◌, ℕ, ◌==◌, ◌&&◌, Bool, true, false, List, ◌∷◌, ◌++◌, length, drop, Option, refl, ap, sym, subst, subst₂, ◌∙◌, eqb-true, and_parts, false_from_ne_true, length-map, find, Mode, Entity, Numbered, entity_at, is_told_by, numbered_from, positions_of, Cast, Assignment, resolution_with, written_or, targets, inserted, assignment_with, TypesStay}, Added.suggested_is_added_once, Found.{AreMoved, all_moved}, Rows.entity_same, Stands.{IsAdded, entity_of, first_place, first_is, first_fits}}

pub targets_counted : (levels : List (Option Mode)) → length (drop 1 levels) ≡ length (targets levels)
targets_counted levels = sym (length-map (drop 1 levels) written_or)

not_told : (m : Assignment) (c : Cast) (added : IsAdded m c) (token last : ℕ) → (token ≡ c.from → last ≡ c.until → ⊥) → (added.span.first.token == token && added.span.last.token == last) ≡ false
not_told m c added token last other =
    false_from_ne_true (added.span.first.token == token && added.span.last.token == last)
    (λ told.
    let parts : ((added.span.first.token == token) ≡ true) × ((added.span.last.token == last) ≡ true) = and_parts (added.span.first.token == token) (added.span.last.token == last) told in
    other (sym (eqb-true added.span.first.token token parts.0) ∙ added.first) (sym (eqb-true added.span.last.token last parts.1) ∙ added.last))

-- what is determined by other tokens is where it was, or after the cast
pub all_others : (m : Assignment) (c : Cast) (added : IsAdded m c) (token last : ℕ) → (token ≡ c.from → last ≡ c.until → ⊥)
    → AreMoved (first_place m c added) (length (targets c.to.levels)) (entity_at m.typed token last) (entity_at (resolution_with c m.typed) token last)
all_others m c added token last other =
    let test : Numbered → Bool = is_told_by token last in
    let first : ℕ = first_place m c added in
    let moved : AreMoved first (positions_of (entity_of m c added)) (find test (numbered_from 0 (added.before ++ added.behind))) (find test (numbered_from 0 (added.before ++ entity_of m c added ∷ added.behind))) =
    all_moved test (λ e j k. refl) (entity_of m c added) (λ k. not_told m c added token last other) first 0 added.before added.behind refl in
    let there : AreMoved first (length (drop 1 c.to.levels)) (entity_at m.typed token last) (entity_at (resolution_with c m.typed) token last) =
    subst₂ (λ (old new : List Entity). AreMoved first (length (drop 1 c.to.levels)) (find test (numbered_from 0 old)) (find test (numbered_from 0 new))) (sym added.had) (sym added.has) moved in
    subst (λ (n : ℕ). AreMoved first n (entity_at m.typed token last) (entity_at (resolution_with c m.typed) token last)) (targets_counted c.to.levels) there

pub types_stay : TypesStay
types_stay m e c whole placed says token last other =
    let added : IsAdded m c = suggested_is_added_once m e c placed says in
    let first : ℕ = first_place m c added in
    let modes : (assignment_with c m).modes ≡ inserted first (targets c.to.levels) m.modes = ap (λ (n : ℕ). inserted n (targets c.to.levels) m.modes) (first_is m c added) in
    entity_same first (targets c.to.levels) m (assignment_with c m) modes (first_fits m c added whole placed) (entity_at m.typed token last) (entity_at (resolution_with c m.typed) token last) (all_others m c added token last other)
