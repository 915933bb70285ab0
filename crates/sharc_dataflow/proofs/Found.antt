-- The warnings that are found are those of the paths.
use Rattle.sharc_dataflow.proofs.{Imports.{◌≡◌, ℕ, List, [], ◌∷◌, ◌++◌, ◌⊎◌, inl, inr, Option, Some, None, Contains, ap, sym, subst, ◌∙◌, append-nil, arith, zero, suc, ◌+◌, ◌<◌, length, Contains-append_left, Contains-append_right, Contains-append_cases, slice_index_or, Step, FlowWarning, Inside, Ends, Reaches, Code, paths, listing, warns, Summing, Telling, summed, sum_start, told, tell_start, nowhere, heads, all_nulled, all_warns, warning, IsUse, AddsUses}, Exact.{Warned, ShownPath}, Codes.exact_code, Named.{hit_nulls, in_code}, Summed.summed_piece, Told.told_piece}

-- the two passes, one after the other
pub heads_are : (x : ℕ) (c : Code) → (summed x (listing c) sum_start).heads ≡ heads x c
heads_are x c = ap (λ z. (summed x z sum_start).heads) (sym (append-nil (listing c))) ∙ ap (λ (s : Summing). s.heads) (summed_piece x c [] sum_start)

pub told_is : (x : ℕ) (c : Code) (list : List Step) (hs : List (Option ℕ)) (found : List FlowWarning) → list ≡ listing c → hs ≡ (summed x list sum_start).heads → (told x list (tell_start hs found)).found ≡ found ++ warns x c None
told_is x c list hs found is heads =
    ap (λ z. (told x z (tell_start hs found)).found) (is ∙ sym (append-nil (listing c)))
    ∙ ap (λ z. (told x (listing c ++ []) (tell_start z found)).found) (heads ∙ ap (λ z. (summed x z sum_start).heads) is ∙ heads_are x c)
    ∙ ap (λ (t : Telling). t.found) (told_piece x c [] nowhere [] [] found)

has_cases : (c : Code) (list : List ℕ) (k r : ℕ) → Contains (all_warns c list) (warning r k) → (x : ℕ) × Contains (warns x c None) (warning r k)
has_cases c [] k r h = absurd (omega (arith, h.1))
has_cases c (x ∷ list) k r h = found (has_cases c list k r) (Contains-append_cases (warns x c None) (all_warns c list) (warning r k) h)
  where
    found : (Contains (all_warns c list) (warning r k) → (y : ℕ) × Contains (warns y c None) (warning r k)) → Contains (warns x c None) (warning r k) ⊎ Contains (all_warns c list) (warning r k) → (y : ℕ) × Contains (warns y c None) (warning r k)
    found ih (inl i) = (x, i)
    found ih (inr i) = ih i

pub one_is : {A : Type 0} (x y : A) → Contains (x ∷ []) y → x ≡ y
one_is x y h = first h.0 h.1 h.2
  where
    first : (k : ℕ) → k < length (x ∷ []) → slice_index_or (x ∷ []) k y ≡ y → x ≡ y
    first zero l e = e
    first (suc k) l e = absurd (omega (arith, l))

has_all : (c : Code) (list : List ℕ) (x : ℕ) (w : FlowWarning) → Contains list x → Contains (warns x c None) w → Contains (all_warns c list) w
has_all c [] x w i h = absurd (omega (arith, i.1))
has_all c (y ∷ list) x w i h = found (λ j. has_all c list x w j h) (Contains-append_cases (y ∷ []) list x i)
  where
    found : (Contains list x → Contains (all_warns c list) w) → Contains (y ∷ []) x ⊎ Contains list x → Contains (all_warns c (y ∷ list)) w
    found ih (inl j) = Contains-append_left (warns y c None) (all_warns c list) w (subst (λ z. Contains (warns z c None) w) (sym (one_is y x j)) h)
    found ih (inr j) = Contains-append_right (warns y c None) (all_warns c list) w (ih j)

use_of : (x : ℕ) (c : Code) (k r : ℕ) → Reaches (paths c) x k r ⊎ ((None ≡ Some k) × ShownPath x (paths c) r) → IsUse c k r
use_of x c k r (inl h) = record { variable = x; reaches = h }
use_of x c k r (inr h) = let e = h.0 in absurd (cc)

pub adds_uses : (c : Code) (list : List ℕ) (before after : List FlowWarning) → ((x : ℕ) → Contains (all_nulled (listing c)) x → Contains list x) → after ≡ before ++ all_warns c list → AddsUses c before after
adds_uses c list before after every is = record {
  kept = λ w h. subst (λ l. Contains l w) (sym is) (Contains-append_left before (all_warns c list) w h);
  only = λ k r h. found k r (Contains-append_cases before (all_warns c list) (warning r k) (subst (λ l. Contains l (warning r k)) is h));
  all = λ k r u. let x = u.variable in
      let e = exact_code x c in
      let w : Warned (warns x c None) k r = e.is_hit Inside Ends u.reaches.acts None k r u.reaches.is_path u.reaches.hits in
      let i : Contains list x = every x (in_code x c Inside Ends u.reaches.acts u.reaches.is_path (hit_nulls x k r u.reaches.acts u.reaches.hits)) in
      record { since = w.since; first = w.first; has = subst (λ l. Contains l (warning r w.since)) (sym is) (Contains-append_right before (all_warns c list) (warning r w.since) (has_all c list x (warning r w.since) i w.has)) };
}
  where
    found : (k r : ℕ) → Contains before (warning r k) ⊎ Contains (all_warns c list) (warning r k) → Contains before (warning r k) ⊎ IsUse c k r
    found k r (inl h) = inl h
    found k r (inr h) = let i = has_cases c list k r h in inr (use_of i.0 c k r ((exact_code i.0 c).warned_path None k r i.1))
