-- From the warnings by numbers of tokens to those by places.
use Rattle.sharc_live.proofs.Imports.{◌≡◌, ℕ, ◌<◌, ◌≤◌, List, [], ◌∷◌, length, map, ◌⊎◌, inl, inr, Option, Some, None, Contains, refl, ap, sym, subst, arith, zero, suc, ◌+◌, ◌++◌, drop, add-one, drop-cons, Contains-append_left, Contains-append_right, Contains-append_cases, Contains-push, slice_get, slice_index_or, Token, Function, Item, view_item, view_items, Resolution, functions_in, Warning, FlowWarning, warning, HasWarning, IsUse, AddsUses, Rising, AreFirsts, function_flow, AddsAll, site_of, site_at, warning_at, IsUseAmong, IsUseIn, IsWarned, InOrder, IsWarning, AreWarnings, from_cons}
use Rattle.sharc_tree.specs.Tree as tree

from_map : {A B : Type 0} (f : A → B) (l : List A) (b : B) → Contains (map f l) b → (a : A) × Contains l a × (f a ≡ b)
from_map f [] b h = absurd (omega (arith, h.1))
from_map f (a ∷ l) b h = found (from_map f l b) (from_cons (f a) b (map f l) h)
  where
    found : (Contains (map f l) b → (c : _) × Contains l c × (f c ≡ b)) → (f a ≡ b) ⊎ Contains (map f l) b → (c : _) × Contains (a ∷ l) c × (f c ≡ b)
    found ih (inl e) = (a, Contains-append_left (a ∷ []) l a (Contains-push [] a), e)
    found ih (inr i) = let j = ih i in (j.0, Contains-append_right (a ∷ []) l j.0 j.1, j.2)

in_map : {A B : Type 0} (f : A → B) (l : List A) (a : A) → Contains l a → Contains (map f l) (f a)
in_map f [] a h = absurd (omega (arith, h.1))
in_map f (b ∷ l) a h = found (in_map f l a) (from_cons b a l h)
  where
    found : (Contains l a → Contains (map f l) (f a)) → (b ≡ a) ⊎ Contains l a → Contains (map f (b ∷ l)) (f a)
    found ih (inl e) = subst (λ z. Contains (map f (b ∷ l)) (f z)) e (Contains-append_left (f b ∷ []) (map f l) (f b) (Contains-push [] (f b)))
    found ih (inr i) = Contains-append_right (f b ∷ []) (map f l) (f a) (ih i)

site_of_token : (n : ℕ) (o : Option Token) → (site_of n o).token ≡ n
site_of_token n None = refl
site_of_token n (Some t) = refl

site_token : (r : Resolution) (n : ℕ) → (site_at r n).token ≡ n
site_token r n = site_of_token n (slice_get r.program.tokens.list n)

in_order : (r : Resolution) (l : List FlowWarning) → Rising l → InOrder (map (warning_at r) l)
in_order r [] h = tt
in_order r (a ∷ []) h = tt
in_order r (a ∷ (b ∷ l)) h = (let e = site_token r a.read in let f = site_token r b.read in omega (arith, e, f, h.0), in_order r (b ∷ l) h.1)

module _ (r : Resolution) (found firsts : List FlowWarning) (adds : AddsAll r (functions_in r.program.items) [] found) (are : AreFirsts found firsts) where
  is_use : (w : FlowWarning) → Contains found w → IsUseIn r w.since w.read
  is_use w h = cases (adds.only w.since w.read h)
    where
      cases : Contains [] (warning w.read w.since) ⊎ IsUseIn r w.since w.read → IsUseIn r w.since w.read
      cases (inl i) = absurd (omega (arith, i.1))
      cases (inr i) = i

  only : (w : Warning) → Contains (map (warning_at r) firsts) w → IsWarning r w
  only w h =
      let i = from_map (warning_at r) firsts w h in
      let f = i.0 in
      subst (IsWarning r) i.2 (record {
        is = let e = site_token r f.read in let g = site_token r f.since in rw (e, g) refl;
        is_use = let e = site_token r f.read in let g = site_token r f.since in rw (e, g) (is_use f (are.only f i.1));
      })

  all : (k read : ℕ) → IsUseIn r k read → IsWarned (map (warning_at r) firsts) k read
  all k read u =
      let h = adds.all k read u in
      let w = are.all h.since read h.has in
      let f = warning read w.since in
      record {
        warning = warning_at r f;
        has = in_map (warning_at r) firsts f w.has;
        reads = site_token r read;
        first = let e = site_token r w.since in omega (arith, e, w.first, h.first);
      }

  pub are_warnings : AreWarnings r (map (warning_at r) firsts)
  are_warnings = record { ordered = in_order r firsts are.rising; only = only; all = all }

-- ---- function by function

pub adds_none : (r : Resolution) (l : List FlowWarning) → AddsAll r [] l l
adds_none r l = record { kept = λ w h. h; only = λ k read h. inl h; all = λ k read u. absurd (omega (arith, u.among.1)) }

pub adds_next : (r : Resolution) (f : Function) (rest : List Function) (before between after : List FlowWarning) → AddsUses (function_flow r f) before between → AddsAll r rest between after → AddsAll r (f ∷ rest) before after
adds_next r f rest before between after one more = record {
  kept = λ w h. more.kept w (one.kept w h);
  only = λ k read h. cases k read (more.only k read h);
  all = λ k read u. each k read u (from_cons f u.function rest u.among);
}
  where
    cases : (k read : ℕ) → Contains between (warning read k) ⊎ IsUseAmong r rest k read → Contains before (warning read k) ⊎ IsUseAmong r (f ∷ rest) k read
    cases k read (inl h) = first (one.only k read h)
      where
        first : Contains before (warning read k) ⊎ IsUse (function_flow r f) k read → Contains before (warning read k) ⊎ IsUseAmong r (f ∷ rest) k read
        first (inl i) = inl i
        first (inr i) = inr (record { function = f; among = Contains-append_left (f ∷ []) rest f (Contains-push [] f); is_use = i })
    cases k read (inr u) = inr (record { function = u.function; among = Contains-append_right (f ∷ []) rest u.function u.among; is_use = u.is_use })

    each : (k read : ℕ) (u : IsUseAmong r (f ∷ rest) k read) → (f ≡ u.function) ⊎ Contains rest u.function → HasWarning after k read
    each k read u (inl e) = let h = one.all k read (subst (λ g. IsUse (function_flow r g) k read) (sym e) u.is_use) in record { since = h.since; first = h.first; has = more.kept (warning read h.since) h.has }
    each k read u (inr i) = more.all k read (record { function = u.function; among = i; is_use = u.is_use })

functions_cons : (i : tree.Item) (l : List tree.Item) → functions_in (i ∷ l) ≡ functions_in (i ∷ []) ++ functions_in l
functions_cons (tree.structure s) l = refl
functions_cons (tree.global g) l = refl
functions_cons (tree.function f) l = refl

adds_append : (r : Resolution) (fs gs : List Function) (before between after : List FlowWarning) → AddsAll r fs before between → AddsAll r gs between after → AddsAll r (fs ++ gs) before after
adds_append r fs gs before between after one more = record {
  kept = λ w h. more.kept w (one.kept w h);
  only = λ k read h. cases k read (more.only k read h);
  all = λ k read u. each k read u (Contains-append_cases fs gs u.function u.among);
}
  where
    cases : (k read : ℕ) → Contains between (warning read k) ⊎ IsUseAmong r gs k read → Contains before (warning read k) ⊎ IsUseAmong r (fs ++ gs) k read
    cases k read (inl h) = first (one.only k read h)
      where
        first : Contains before (warning read k) ⊎ IsUseAmong r fs k read → Contains before (warning read k) ⊎ IsUseAmong r (fs ++ gs) k read
        first (inl i) = inl i
        first (inr u) = inr (record { function = u.function; among = Contains-append_left fs gs u.function u.among; is_use = u.is_use })
    cases k read (inr u) = inr (record { function = u.function; among = Contains-append_right fs gs u.function u.among; is_use = u.is_use })

    each : (k read : ℕ) (u : IsUseAmong r (fs ++ gs) k read) → Contains fs u.function ⊎ Contains gs u.function → HasWarning after k read
    each k read u (inl i) = let h = one.all k read (record { function = u.function; among = i; is_use = u.is_use }) in record { since = h.since; first = h.first; has = more.kept (warning read h.since) h.has }
    each k read u (inr i) = more.all k read (record { function = u.function; among = i; is_use = u.is_use })

pub adds_one : (r : Resolution) (f : Function) (before after : List FlowWarning) → AddsUses (function_flow r f) before after → AddsAll r (f ∷ []) before after
adds_one r f before after one = adds_next r f [] before after after one (adds_none r after)

pub item_next : (r : Resolution) (items : List Item) (i : ℕ) (item : Item) (before between last : List FlowWarning) → i < length items → item ≡ slice_index_or items i item → AddsAll r (functions_in (view_items (item ∷ []))) before between
    → AddsAll r (functions_in (view_items (drop (i + 1) items))) between last → AddsAll r (functions_in (view_items (drop i items))) before last
item_next r items i item before between last h is one more =
    let rest = drop (i + 1) items in
    let next : drop i items ≡ item ∷ rest = rw (add-one, drop-cons items i item) (ap (λ z. z ∷ drop (suc i) items) (sym is)) in
    subst (λ l. AddsAll r (functions_in (view_items l)) before last) (sym next)
    (subst (λ l. AddsAll r l before last) (sym (functions_cons (view_item item) (view_items rest))) (adds_append r (functions_in (view_items (item ∷ []))) (functions_in (view_items rest)) before between last one more))

none_left : {A : Type 0} (l : List A) (n : ℕ) → length l ≤ n → drop n l ≡ []
none_left [] zero h = refl
none_left [] (suc n) h = refl
none_left (a ∷ l) zero h = absurd (omega (arith, h))
none_left (a ∷ l) (suc n) h = none_left l n (omega (arith, h))

pub items_end : (r : Resolution) (items : List Item) (i : ℕ) (found : List FlowWarning) → length items ≤ i → AddsAll r (functions_in (view_items (drop i items))) found found
items_end r items i found h = subst (λ l. AddsAll r (functions_in (view_items l)) found found) (sym (none_left items i h)) (adds_none r found)
