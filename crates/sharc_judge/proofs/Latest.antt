-- The last event that meets a test.
use Rattle.std.proofs.{Common.{◌≡◌, ◌⊎◌, inl, inr, ℕ, ◌+◌, ◌<◌, Bool, true, false, not, ◌||◌, List, [], ◌∷◌, ◌++◌, length, Option, Some, None, refl, ap, sym, subst, ◌∙◌, arith}, lemmas.Bool.{le-leb, lt-leb}, lemmas.List.reverse-append}
use Rattle.std.specs.{Prelude.{is_some, if◌then◌else◌}, List.{find, list_any}}
use Rattle.sharc_tree.specs.declared.event.SourceEvent.{SourceEvent}
use Rattle.sharc_meaning.specs.Events.{Stands, latest}
use Rattle.sharc_judge.specs.{declared.table.Noted.Noted, Latest.{latest_from, latest_at, is_behind}}
use Rattle.sharc_judge.proofs.GrowingLists.{by_growing}

abbrev noted_at : ℕ → SourceEvent → Noted
noted_at n e = record { place = n; event = e }

-- ---- one event more

from_next : (test : SourceEvent → Bool) (n p : ℕ) (f : Option Noted) (l : List SourceEvent) (e : SourceEvent) → p ≡ n + length l
    → latest_from test n f (l ++ e ∷ []) ≡ (if test e then Some (noted_at p e) else latest_from test n f l)
from_next test n p f [] e h = ap (λ (z : ℕ). if test e then Some (noted_at z e) else f) (omega (arith, h))
from_next test n p f (x ∷ l) e h = from_next test (n + 1) p (if test x then Some (noted_at n x) else f) l e (omega (arith, h))

pub latest_more : (test : SourceEvent → Bool) (l : List SourceEvent) (e : SourceEvent) → latest_at test (l ++ e ∷ []) ≡ (if test e then Some (record { place = length l; event = e }) else latest_at test l)
latest_more test l e = from_next test 0 (length l) None l e (omega arith)

-- ---- tests that say the same

from_same : (test other : SourceEvent → Bool) (n : ℕ) (f : Option Noted) (l : List SourceEvent) → ((e : SourceEvent) → test e ≡ other e) → latest_from test n f l ≡ latest_from other n f l
from_same test other n f [] h = refl
from_same test other n f (e ∷ l) h =
    ap (λ b. latest_from test (n + 1) (if b then Some (noted_at n e) else f) l) (h e)
    ∙ from_same test other (n + 1) (if other e then Some (noted_at n e) else f) l h

pub latest_same : (test other : SourceEvent → Bool) (l : List SourceEvent) → ((e : SourceEvent) → test e ≡ other e) → latest_at test l ≡ latest_at other l
latest_same test other l h = from_same test other 0 None l h

from_never : (test : SourceEvent → Bool) (n : ℕ) (l : List SourceEvent) → ((e : SourceEvent) → test e ≡ false) → latest_from test n None l ≡ None
from_never test n [] h = refl
from_never test n (e ∷ l) h = ap (λ b. latest_from test (n + 1) (if b then Some (noted_at n e) else None) l) (h e) ∙ from_never test (n + 1) l h

pub latest_never : (test : SourceEvent → Bool) (l : List SourceEvent) → ((e : SourceEvent) → test e ≡ false) → latest_at test l ≡ None
latest_never test l h = from_never test 0 l h

-- ---- it, without its place

abbrev pub event_of : Option Noted → Option SourceEvent
event_of None = None
event_of (Some noted) = Some noted.event

latest_next : (test : SourceEvent → Bool) (l : List SourceEvent) (e : SourceEvent) → latest test (l ++ e ∷ []) ≡ (if test e then Some e else latest test l)
latest_next test l e = ap (find test) (reverse-append l (e ∷ []))

pub latest_is : (test : SourceEvent → Bool) (l : List SourceEvent) → latest test l ≡ event_of (latest_at test l)
latest_is test = by_growing (λ l. latest test l ≡ event_of (latest_at test l)) refl (λ l e h. latest_next test l e ∙ by_case l e h (test e) ∙ ap event_of (sym (latest_more test l e)))
  where
    by_case : (l : List SourceEvent) (e : SourceEvent) → latest test l ≡ event_of (latest_at test l) → (b : Bool)
        → (if b then Some e else latest test l) ≡ event_of (if b then Some (noted_at (length l) e) else latest_at test l)
    by_case l e h true = refl
    by_case l e h false = h

-- ---- where it stands

pub record IsLast (test : SourceEvent → Bool) (n : ℕ) (l : List SourceEvent) (noted : Noted) : Type 0 where
  pub before : List SourceEvent
  pub after : List SourceEvent
  pub stands : Stands l before noted.event after
  pub place : noted.place ≡ n + length before
  pub meets : test noted.event ≡ true
  pub none : list_any test after ≡ false

from_none : (test : SourceEvent → Bool) (n : ℕ) (f : Option Noted) (l : List SourceEvent) → latest_from test n f l ≡ None → (f ≡ None) × (list_any test l ≡ false)
from_none test n f [] h = (h, refl)
from_none test n f (e ∷ l) h =
    let more = from_none test (n + 1) (if test e then Some (noted_at n e) else f) l h in
    by_case (test e) refl more.0 more.1
  where
    by_case : (b : Bool) → test e ≡ b → (if test e then Some (noted_at n e) else f) ≡ None → list_any test l ≡ false → (f ≡ None) × ((test e || list_any test l) ≡ false)
    by_case true i j k = let z : Some (noted_at n e) ≡ None = sym (ap (λ b. if b then Some (noted_at n e) else f) i) ∙ j in absurd (cc)
    by_case false i j k = (sym (ap (λ b. if b then Some (noted_at n e) else f) i) ∙ j, ap (λ b. b || list_any test l) i ∙ k)

pub none_meets : (test : SourceEvent → Bool) (l : List SourceEvent) → latest_at test l ≡ None → list_any test l ≡ false
none_meets test l h = (from_none test 0 None l h).1

from_some : (test : SourceEvent → Bool) (n : ℕ) (f : Option Noted) (l : List SourceEvent) (noted : Noted) → latest_from test n f l ≡ Some noted
    → ((f ≡ Some noted) × (list_any test l ≡ false)) ⊎ IsLast test n l noted
from_some test n f [] noted h = inl (h, refl)
from_some test n f (e ∷ l) noted h = by_rest (from_some test (n + 1) (if test e then Some (noted_at n e) else f) l noted h)
  where
    by_case : (b : Bool) → test e ≡ b → (if test e then Some (noted_at n e) else f) ≡ Some noted → list_any test l ≡ false
        → ((f ≡ Some noted) × ((test e || list_any test l) ≡ false)) ⊎ IsLast test n (e ∷ l) noted
    by_case true i j k =
        let same : Some (noted_at n e) ≡ Some noted = sym (ap (λ b. if b then Some (noted_at n e) else f) i) ∙ j in
        let is : noted_at n e ≡ noted = cc in
        inr (subst (IsLast test n (e ∷ l)) is (record { before = []; after = l; stands = refl; place = omega arith; meets = i; none = k }))
    by_case false i j k = inl (sym (ap (λ b. if b then Some (noted_at n e) else f) i) ∙ j, ap (λ b. b || list_any test l) i ∙ k)

    by_rest : (((if test e then Some (noted_at n e) else f) ≡ Some noted) × (list_any test l ≡ false)) ⊎ IsLast test (n + 1) l noted
        → ((f ≡ Some noted) × ((test e || list_any test l) ≡ false)) ⊎ IsLast test n (e ∷ l) noted
    by_rest (inl h) = by_case (test e) refl h.0 h.1
    by_rest (inr s) = inr (record { before = e ∷ s.before; after = s.after; stands = ap (λ z. e ∷ z) s.stands; place = (let p = s.place in omega (arith, p)); meets = s.meets; none = s.none })

pub last_stands : (test : SourceEvent → Bool) (l : List SourceEvent) (noted : Noted) → latest_at test l ≡ Some noted → IsLast test 0 l noted
last_stands test l noted h = elim (from_some test 0 None l noted h) [ inl k ↦ absurd (let z = k.0 in cc) | inr s ↦ s ]

pub any_is : (test : SourceEvent → Bool) (l : List SourceEvent) → is_some (latest_at test l) ≡ list_any test l
any_is test l = by_case (latest_at test l) refl
  where
    among : (before : List SourceEvent) (e : SourceEvent) (after : List SourceEvent) → test e ≡ true → list_any test (before ++ e ∷ after) ≡ true
    among [] e after h = ap (λ b. b || list_any test after) h
    among (x ∷ before) e after h = ap (λ b. test x || b) (among before e after h) ∙ or_true (test x)
      where
        or_true : (b : Bool) → (b || true) ≡ true
        or_true true = refl
        or_true false = refl

    by_case : (o : Option Noted) → latest_at test l ≡ o → is_some o ≡ list_any test l
    by_case None h = sym (none_meets test l h)
    by_case (Some noted) h =
        let s = last_stands test l noted h in
        sym (ap (list_any test) s.stands ∙ among s.before noted.event s.after s.meets)

-- ---- places behind it

either : {A : Type 0} (P : A → Type 0) (b : Bool) (x y : A) → P x → P y → P (if b then x else y)
either P true x y h k = h
either P false x y h k = k

late : (test : SourceEvent → Bool) (p n : ℕ) (noted : Noted) (l : List SourceEvent) → p < noted.place → p < n → is_behind p (latest_from test n (Some noted) l) ≡ false
late test p n noted [] h k = lt-leb noted.place p h
late test p n noted (e ∷ l) h k = either (λ f. is_behind p (latest_from test (n + 1) f l) ≡ false) (test e) (Some (noted_at n e)) (Some noted) (late test p (n + 1) (noted_at n e) l k (omega (arith, k))) (late test p (n + 1) noted l h (omega (arith, k)))

none_behind : (test : SourceEvent → Bool) (p n : ℕ) (f : Option Noted) (l : List SourceEvent) → p < n → is_behind p f ≡ true → is_behind p (latest_from test n f l) ≡ not (list_any test l)
none_behind test p n f [] h k = k
none_behind test p n f (e ∷ l) h k = by_case (test e) (late test p (n + 1) (noted_at n e) l h (omega (arith, h))) (none_behind test p (n + 1) f l (omega (arith, h)) k)
  where
    by_case : (b : Bool) → is_behind p (latest_from test (n + 1) (Some (noted_at n e)) l) ≡ false → is_behind p (latest_from test (n + 1) f l) ≡ not (list_any test l)
        → is_behind p (latest_from test (n + 1) (if b then Some (noted_at n e) else f) l) ≡ not (b || list_any test l)
    by_case true new old = new
    by_case false new old = old

from_behind : (test : SourceEvent → Bool) (n p : ℕ) (f : Option Noted) (before : List SourceEvent) (e : SourceEvent) (after : List SourceEvent) → p ≡ n + length before → is_behind p f ≡ true
    → is_behind p (latest_from test n f (before ++ e ∷ after)) ≡ not (list_any test after)
from_behind test n p f [] e after h k = none_behind test p (n + 1) (if test e then Some (noted_at n e) else f) after (omega (arith, h)) (by_case (test e))
  where
    by_case : (b : Bool) → is_behind p (if b then Some (noted_at n e) else f) ≡ true
    by_case true = le-leb n p (omega (arith, h))
    by_case false = k
from_behind test n p f (x ∷ before) e after h k = from_behind test (n + 1) p (if test x then Some (noted_at n x) else f) before e after (omega (arith, h)) (by_case (test x))
  where
    by_case : (b : Bool) → is_behind p (if b then Some (noted_at n x) else f) ≡ true
    by_case true = le-leb n p (omega (arith, h))
    by_case false = k

-- a place is behind it exactly where no event after the place meets the test
pub behind_is : (test : SourceEvent → Bool) (R before : List SourceEvent) (e : SourceEvent) (after : List SourceEvent) → Stands R before e after
    → is_behind (length before) (latest_at test R) ≡ not (list_any test after)
behind_is test R before e after h = ap (λ z. is_behind (length before) (latest_at test z)) h ∙ from_behind test 0 (length before) None before e after (omega arith) refl

pub place_below : (test : SourceEvent → Bool) (l : List SourceEvent) (noted : Noted) → latest_at test l ≡ Some noted → noted.place < length l
place_below test l noted h =
    let s = last_stands test l noted h in
    let long : length l ≡ length (s.before ++ noted.event ∷ s.after) = ap length s.stands in
    let place = s.place in
    let far = inside s.before noted.event s.after in
    omega (arith, long, place, far)
  where
    inside : (before : List SourceEvent) (e : SourceEvent) (after : List SourceEvent) → length before < length (before ++ e ∷ after)
    inside [] e after = omega arith
    inside (x ∷ before) e after = let h = inside before e after in omega (arith, h)
