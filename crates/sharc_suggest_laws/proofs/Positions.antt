-- Positions under their new numbers.
use Rattle.sharc_suggest_laws.proofs.{Imports.{◌≡◌, ℕ, ◌+◌, ◌≤◌, ◌==◌, Bool, true, false, ◌&&◌, cond, inl, inr, List, [], ◌∷◌, Option, Some, None, length, replicate, get_or, refl, ap, sym, ◌∙◌, true≢false, eq-eqb, arith, get_or-map, and_from, length-replicate, find, Private, IsPlaced, Recast, is_there, recast_of, program_with, resolution_with, targets, inserted, moved, first_of, first_new, renumbered, PositionsStay, met_in_items, Entity, Numbered, entities_in, entity_at, positions_of, positions_in, numbered_from, is_told_by, Cast, Reason, Assignment, sharing_of, none_some, one_some}, Grown.{IsCastOf, Grown}, Spread.grown_items, Inserted.{among, renumbered_kept}}

-- ---- the first that is determined by the cast's tokens has a number that is not past the old ones

pub cast_is_told : (c : Recast) (k : ℕ) (e : Entity) → IsCastOf c e → is_told_by c.from c.until (record { entity = e; first = k }) ≡ true
cast_is_told c k e w =
    ap (λ (x : Entity). x.token == c.from && x.last == c.until) w.is
    ∙ and_from (w.span.first.token == c.from) (w.span.last.token == c.until) (eq-eqb w.span.first.token c.from w.first) (eq-eqb w.span.last.token c.until w.last)

within_by : (room : ℕ) (here x : Numbered) (b : Bool) (found : Option Numbered) → here.first ≤ room → cond b (Some here) found ≡ Some x → (b ≡ false → found ≡ Some x → x.first ≤ room) → x.first ≤ room
within_by room here x true found low is more =
    let same : here.first ≡ x.first = ap (λ (n : Numbered). n.first) (one_some here x is) in
    omega (arith, same, low)
within_by room here x false found low is more = more refl is

first_within : (c : Recast) (n from until k : ℕ) (old new : List Entity) (x : Numbered) → Grown c n from until old new → find (is_told_by c.from c.until) (numbered_from k new) ≡ Some x → x.first ≤ k + positions_in old
first_within c n from until k old [] x grown is = absurd (none_some x is)
first_within c n from until k old (e ∷ new) x (inl w) is =
    let here : Numbered = record { entity = e; first = k } in
    let begins : k ≤ k + positions_in old = omega arith in
    let many : positions_in old ≡ positions_of e + positions_in w.0 = ap positions_in w.1 in
    within_by (k + positions_in old) here x (is_told_by c.from c.until here) (find (is_told_by c.from c.until) (numbered_from (k + positions_of e) new)) begins is
    (λ no later. let low : x.first ≤ k + positions_of e + positions_in w.0 = first_within c n (e.token + 1) until (k + positions_of e) w.0 new x w.4 later in omega (arith, low, many))
first_within c n from until k old (e ∷ new) x (inr w) is =
    let here : Numbered = record { entity = e; first = k } in
    let begins : k ≤ k + positions_in old = omega arith in
    within_by (k + positions_in old) here x (is_told_by c.from c.until here) (find (is_told_by c.from c.until) (numbered_from (k + positions_of e) new)) begins is
    (λ no later. absurd (true≢false (sym (cast_is_told c k e w.2) ∙ no)))

none_within : (room : ℕ) (found : Option Numbered) → ((x : Numbered) → found ≡ Some x → x.first ≤ room) → first_of found ≤ room
none_within room None low = let least : 0 ≤ room = omega arith in least
none_within room (Some x) low = low x refl

pub new_within : (m : Assignment) (c : Cast) → IsPlaced m.typed.program → first_new c m.typed ≤ 0 + positions_in (entities_in m.typed.program.items)
new_within m c placed =
    let r : Recast = recast_of m.typed c in
    let items = m.typed.program.items in
    let end : ℕ = length m.typed.program.tokens.list in
    none_within (0 + positions_in (entities_in items)) (entity_at (resolution_with c m.typed) c.from c.until)
    (λ x is. first_within r (met_in_items (is_there r) items) 0 end 0 (entities_in items) (entities_in (program_with c m.typed).items) x (grown_items m.typed.program.tokens.list r items end placed.follow placed.items) is)

-- ---- so the modes and the reasons are kept

pub positions_stay : PositionsStay
positions_stay m c whole placed =
    let first : ℕ = first_new c m.typed in
    let count : ℕ = length (targets c.to.levels) in
    let low : first ≤ 0 + positions_in (entities_in m.typed.program.items) = new_within m c placed in
    let in_modes : first ≤ length m.modes = omega (arith, low, whole.modes) in
    let in_reasons : first ≤ length m.reasons = omega (arith, low, whole.reasons) in
    let none : List (Option Reason) = replicate count None in
    let counted : length none ≡ count = length-replicate count None in
    record {
      modes = λ position. ap sharing_of (renumbered_kept first (targets c.to.levels) m.modes position Private in_modes);
      reasons = λ position.
          get_or-map (moved first count) (inserted first none m.reasons) (renumbered first count position) None
          ∙ ap (moved first count) (ap (λ (n : ℕ). get_or (inserted first none m.reasons) (renumbered first n position) None) (sym counted) ∙ renumbered_kept first none m.reasons position None in_reasons);
      added = λ depth below. ap sharing_of (among first (targets c.to.levels) m.modes depth Private in_modes below);
    }
