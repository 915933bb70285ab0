-- The least assignment, from what is settled, why positions are roots and what is found.
use Rattle.sharc_infer.proofs.{Imports.{◌≡◌, ℕ, ◌<◌, ◌≤◌, true, List, Option, Some, None, length, refl, ap, sym, ◌∙◌, subst, inl, inr, arith, cases_lt, false≢true, get_or_default, get_or_past, get_or as slice_index_or, NodeFinding, Apart, Source, Behind, finding_at, PositionKind, flow_of, place_at, is_unwritten, is_source, IsUnwritten, IsOrigin, IsInferred, AreInferred, Mode, Private, entities_in, Resolution, Reason, Touched, Spawned, From, IsRoot, IsRootReason, IsPlaceFor, ArePlaces, IsReasonFor, IsLeastAssignment, mode_found, links_of, position_count, settled_in, settled_at, Reaching, AreReached, place_of, reason_of, settled_of, root_of, ArePlacesOf, AreModesOf, AreReasonsOf, Roots, roots_of}, RootLemmas.{HasRoot, Sound, roots_size, roots_sound, roots_complete}}

is_root : (r : Resolution) (p : ℕ) (reason : Reason) → IsRootReason r p (Some reason) → IsRoot r p
is_root r p (Touched f) is = (f, inl is)
is_root r p (Spawned f) is = (f, inr is)
is_root r p (From other) is = absurd is

is_place : (r : Resolution) (p : ℕ) (o : Option Mode) (root : Option Reason) → ((root ≡ None → ⊥) → IsRoot r p) → (root ≡ None → IsRoot r p → ⊥) → IsPlaceFor r p o (place_of o root)
is_place r p (Some m) root some none = refl
is_place r p None None some none = none refl
is_place r p None (Some reason) some none = some (λ none. let bad : Some reason ≡ None = none in cc)

is_reason : (r : Resolution) (p : ℕ) (o : Option Mode) (finding : NodeFinding) (root : Option Reason) → (o ≡ None → finding ≡ Source → IsRootReason r p root) → IsReasonFor r p o finding (reason_of o finding root)
is_reason r p (Some m) finding root source = refl
is_reason r p None Apart root source = refl
is_reason r p None Source root source = source refl refl
is_reason r p None (Behind rank other) root source = refl

unwritten_place : (o : Option Mode) (root : Option Reason) → o ≡ None → is_unwritten (place_of o root) ≡ true
unwritten_place (Some m) root none = absurd (let bad : Some m ≡ None = none in cc)
unwritten_place None None none = refl
unwritten_place None (Some reason) none = refl

source_reason : (r : Resolution) (p : ℕ) (o : Option Mode) (root : Option Reason) → o ≡ None → is_source (place_of o root) ≡ true → ((reason : Reason) → root ≡ Some reason → IsRootReason r p (Some reason)) → IsRootReason r p root
source_reason r p (Some m) root none source each = absurd (let bad : Some m ≡ None = none in cc)
source_reason r p None None none source each = absurd (false≢true source)
source_reason r p None (Some reason) none source each = each reason refl

root_reason : (r : Resolution) (p : ℕ) (root : Option Reason) → ((reason : Reason) → root ≡ Some reason → IsRootReason r p (Some reason)) → (root ≡ None → ⊥) → IsRoot r p
root_reason r p None each some = absurd (some refl)
root_reason r p (Some reason) each some = is_root r p reason (each reason refl)

module _ (r : Resolution) (a : Reaching) (are : AreReached r a) (settled : List (Option Mode)) (settled_are : settled ≡ settled_in (entities_in r.program.items)) (counted : length (settled_in (entities_in r.program.items)) ≡ position_count r) (roots : Roots) (roots_are : roots ≡ roots_of r a) where
  pub count : length settled ≡ position_count r
  count = ap length settled_are ∙ counted

  pub root_count : length roots ≡ position_count r
  root_count = ap length roots_are ∙ roots_size r a are

  sound : Sound r roots
  sound = subst (Sound r) (sym roots_are) (roots_sound r a are)

  complete : (p : ℕ) → p < position_count r → IsRoot r p → HasRoot roots p
  complete p inside root = subst (λ l. HasRoot l p) (sym roots_are) (roots_complete r a are p inside root)

  settled_is : (p : ℕ) → p < position_count r → settled_of settled p ≡ settled_at r p
  settled_is p inside = ap (λ l. settled_of l p) settled_are ∙ get_or_default (settled_in (entities_in r.program.items)) p None (Some Private) (omega arith)

  module _ (places : List PositionKind) (places_are : ArePlacesOf settled roots places) where
    place_is : (p : ℕ) → p < position_count r → place_at places p ≡ place_of (settled_at r p) (root_of roots p)
    place_is p inside = let size = count in places_are.each p (omega arith) ∙ ap (λ o. place_of o (root_of roots p)) (settled_is p inside)

    place_size : length places ≡ position_count r
    place_size = places_are.size ∙ count

    inside_place : (p : ℕ) → p < position_count r → IsPlaceFor r p (settled_at r p) (place_at places p)
    inside_place p inside =
        subst (IsPlaceFor r p (settled_at r p)) (sym (place_is p inside))
        (is_place r p (settled_at r p) (root_of roots p) (root_reason r p (root_of roots p) (sound p)) (λ none root. complete p inside root none))

    past_place : (p : ℕ) → position_count r ≤ p → IsPlaceFor r p (settled_at r p) (place_at places p)
    past_place p past =
        let size = place_size in
        let none : settled_at r p ≡ Some Private = get_or_past (settled_in (entities_in r.program.items)) p (Some Private) (omega arith) in
        let P : Option Mode → Type 0 = λ o. IsPlaceFor r p o (place_at places p) in
        subst P (sym none) (get_or_past places p PositionKind.Private (omega arith))

    pub are_places : ArePlaces r places
    are_places = record { size = place_size; each = λ p. elim (cases_lt p (position_count r)) [ inl inside ↦ inside_place p inside | inr past ↦ past_place p past ] }

    module _ (findings : List NodeFinding) (inferred : AreInferred (flow_of places (links_of r)) findings) (modes : List Mode) (modes_are : AreModesOf settled findings modes) (reasons : List (Option Reason)) (reasons_are : AreReasonsOf settled findings roots reasons) where
      mode_is : (p : ℕ) → p < position_count r → slice_index_or modes p Private ≡ mode_found (settled_at r p) (finding_at findings p)
      mode_is p inside = let size = count in modes_are.each p (omega arith) ∙ ap (λ o. mode_found o (finding_at findings p)) (settled_is p inside)

      reason_is : (p : ℕ) → p < position_count r → root_of reasons p ≡ reason_of (settled_at r p) (finding_at findings p) (root_of roots p)
      reason_is p inside = let size = count in reasons_are.each p (omega arith) ∙ ap (λ o. reason_of o (finding_at findings p) (root_of roots p)) (settled_is p inside)

      by_source : (p : ℕ) → p < position_count r → settled_at r p ≡ None → finding_at findings p ≡ Source → IsRootReason r p (root_of roots p)
      by_source p inside none is =
          let free : IsUnwritten (flow_of places (links_of r)) p = ap is_unwritten (place_is p inside) ∙ unwritten_place (settled_at r p) (root_of roots p) none in
          let source : IsOrigin (flow_of places (links_of r)) p = subst (IsInferred (flow_of places (links_of r)) p) is (inferred.each p free) in
          source_reason r p (settled_at r p) (root_of roots p) none (sym (ap is_source (place_is p inside)) ∙ source) (sound p)

      pub least : IsLeastAssignment (record { typed = r; modes = modes; reasons = reasons })
      least =
          record {
            places = places;
            are_places = are_places;
            findings = findings;
            are_inferred = inferred;
            modes = modes_are.size ∙ count;
            mode = λ p inside. mode_is p inside;
            reasons = reasons_are.size ∙ count;
            reason = λ p inside.
                subst (IsReasonFor r p (settled_at r p) (finding_at findings p)) (sym (reason_is p inside))
                (is_reason r p (settled_at r p) (finding_at findings p) (root_of roots p) (by_source p inside));
          }
