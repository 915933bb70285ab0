-- The least assignment of a program is one.
use Rattle.sharc_infer_laws.proofs.Imports.{◌≡◌, ℕ, ◌<◌, true, List, Option, Some, None, refl, ap, sym, ◌∙◌, subst, ext_get_or, Mode, Private, NodeFinding, Source, finding_at, PositionKind, flow_of, place_at, is_unwritten, AreInferred, Resolution, Reason, Touched, Spawned, From, IsUnsettledPlace, IsPlaceFor, ArePlaces, links_of, inferred_mode, mode_found, IsRootReason, IsReasonBy, IsReasonFor, IsLeastAssignment, Assignment, position_count, reason_at, settled_at, FindingsAreOne, IsOneRoot}

-- ---- places

unsettled : (r : Resolution) (p : ℕ) (x y : PositionKind) → IsUnsettledPlace r p x → IsUnsettledPlace r p y → x ≡ y
unsettled r p PositionKind.Root PositionKind.Root l h = refl
unsettled r p PositionKind.Root PositionKind.Unwritten l h = absurd (h l)
unsettled r p PositionKind.Unwritten PositionKind.Root l h = absurd (l h)
unsettled r p PositionKind.Unwritten PositionKind.Unwritten l h = refl
unsettled r p PositionKind.Dynamic y l h = absurd l
unsettled r p PositionKind.Private y l h = absurd l
unsettled r p PositionKind.Other y l h = absurd l
unsettled r p _ _ l h = absurd h

one_place : (r : Resolution) (p : ℕ) (o : Option Mode) (x y : PositionKind) → IsPlaceFor r p o x → IsPlaceFor r p o y → x ≡ y
one_place r p None x y l h = unsettled r p x y l h
one_place r p (Some m) x y l h = l ∙ sym h

same_places : (r : Resolution) (x y : List PositionKind) → ArePlaces r x → ArePlaces r y → x ≡ y
same_places r x y a b = ext_get_or PositionKind.Private x y (a.size ∙ sym b.size) (λ p low. one_place r p (settled_at r p) (place_at x p) (place_at y p) (a.each p) (b.each p))

is_open : (r : Resolution) (p : ℕ) (x : PositionKind) → IsUnsettledPlace r p x → is_unwritten x ≡ true
is_open r p PositionKind.Root is = refl
is_open r p PositionKind.Unwritten is = refl
is_open r p _ is = absurd is

-- ---- modes and reasons of one position

one_mode : (o : Option Mode) (x y : NodeFinding) → (o ≡ None → x ≡ y) → mode_found o x ≡ mode_found o y
one_mode None x y same = ap inferred_mode (same refl)
one_mode (Some m) x y same = refl

module _ (r : Resolution) (p : ℕ) (root : IsOneRoot r p) where
  one_root_reason : (s t : Option Reason) → IsRootReason r p s → IsRootReason r p t → s ≡ t
  one_root_reason None t l h = absurd l
  one_root_reason (Some (From n)) t l h = absurd l
  one_root_reason (Some (Touched f)) (Some (Touched g)) l h = ap (λ (n : ℕ). Some (Touched n)) (root.touched f g l h)
  one_root_reason (Some (Touched f)) (Some (Spawned g)) l h = absurd (root.apart f g l h)
  one_root_reason (Some (Spawned f)) (Some (Touched g)) l h = absurd (root.apart g f h l)
  one_root_reason (Some (Spawned f)) (Some (Spawned g)) l h = ap (λ (n : ℕ). Some (Spawned n)) (root.passed f g l h)
  one_root_reason _ _ l h = absurd h

  one_reason_by : (x : NodeFinding) (s t : Option Reason) → IsReasonBy r p x s → IsReasonBy r p x t → s ≡ t
  one_reason_by Source s t l h = one_root_reason s t l h
  one_reason_by _ s t l h = l ∙ sym h

  one_reason : (o : Option Mode) (x y : NodeFinding) (s t : Option Reason) → (o ≡ None → x ≡ y) → IsReasonFor r p o x s → IsReasonFor r p o y t → s ≡ t
  one_reason None x y s t same l h = one_reason_by x s t l (subst (λ (z : NodeFinding). IsReasonBy r p z t) (sym (same refl)) h)
  one_reason (Some m) x y s t same l h = l ∙ sym h

-- ---- all positions

module _ (findings : FindingsAreOne) (r : Resolution) (roots : (p : ℕ) → IsOneRoot r p) (a b : Assignment) (left : IsLeastAssignment a) (right : IsLeastAssignment b) (is : a.typed ≡ r) (also : b.typed ≡ r) where
  one_finding : (p : ℕ) → settled_at r p ≡ None → finding_at left.findings p ≡ finding_at right.findings p
  one_finding p none =
      let here = subst (λ (q : Resolution). ArePlaces q left.places) is left.are_places in
      let there = subst (λ (q : Resolution). ArePlaces q right.places) also right.are_places in
      let found = subst (λ (q : Resolution). AreInferred (flow_of left.places (links_of q)) left.findings) is left.are_inferred in
      let other = subst (λ (q : Resolution). AreInferred (flow_of right.places (links_of q)) right.findings) also right.are_inferred in
      let same = same_places r left.places right.places here there in
      let moved = subst (λ (l : List PositionKind). AreInferred (flow_of l (links_of r)) right.findings) (sym same) other in
      let P : Option Mode → Type 0 = λ o. IsPlaceFor r p o (place_at left.places p) in
      let free = is_open r p (place_at left.places p) (subst P none (here.each p)) in
      findings (flow_of left.places (links_of r)) left.findings right.findings found moved p free

  same_modes : a.modes ≡ b.modes
  same_modes =
      let count = ap position_count is in
      let other = ap position_count also in
      ext_get_or Private a.modes b.modes (left.modes ∙ count ∙ sym (right.modes ∙ other)) (λ p low.
      let inside : p < position_count a.typed = subst (λ (n : ℕ). p < n) left.modes low in
      let within : p < position_count b.typed = subst (λ (n : ℕ). p < n) (count ∙ sym other) inside in
      left.mode p inside
      ∙ ap (λ (q : Resolution). mode_found (settled_at q p) (finding_at left.findings p)) is
      ∙ one_mode (settled_at r p) (finding_at left.findings p) (finding_at right.findings p) (one_finding p)
      ∙ sym (right.mode p within ∙ ap (λ (q : Resolution). mode_found (settled_at q p) (finding_at right.findings p)) also))

  same_reasons : a.reasons ≡ b.reasons
  same_reasons =
      let count = ap position_count is in
      let other = ap position_count also in
      ext_get_or None a.reasons b.reasons (left.reasons ∙ count ∙ sym (right.reasons ∙ other)) (λ p low.
      let inside : p < position_count a.typed = subst (λ (n : ℕ). p < n) left.reasons low in
      let within : p < position_count b.typed = subst (λ (n : ℕ). p < n) (count ∙ sym other) inside in
      one_reason r p (roots p) (settled_at r p) (finding_at left.findings p) (finding_at right.findings p) (reason_at a p) (reason_at b p) (one_finding p)
      (subst (λ (q : Resolution). IsReasonFor q p (settled_at q p) (finding_at left.findings p) (reason_at a p)) is (left.reason p inside))
      (subst (λ (q : Resolution). IsReasonFor q p (settled_at q p) (finding_at right.findings p) (reason_at b p)) also (right.reason p within)))

  pub same_assignments : a ≡ b
  same_assignments =
      let typed = is ∙ sym also in
      let first : a ≡ record { typed = b.typed; modes = a.modes; reasons = a.reasons } = ap (λ (q : Resolution). record { typed = q; modes = a.modes; reasons = a.reasons }) typed in
      let second : record { typed = b.typed; modes = a.modes; reasons = a.reasons } ≡ record { typed = b.typed; modes = b.modes; reasons = a.reasons } = ap (λ (l : List Mode). record { typed = b.typed; modes = l; reasons = a.reasons }) same_modes in
      let third : record { typed = b.typed; modes = b.modes; reasons = a.reasons } ≡ b = ap (λ (l : List (Option Reason)). record { typed = b.typed; modes = b.modes; reasons = l }) same_reasons in
      first ∙ second ∙ third
