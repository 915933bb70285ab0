-- The function and the argument of a thread, after the events of a legal store.
use Rattle.std.proofs.{Common.{◌≡◌, ◌≢◌, ◌⊎◌, inl, inr, ℕ, zero, suc, ◌+◌, ◌==◌, Bool, true, false, ◌&&◌, List, [], ◌∷◌, ◌++◌, length, length-append, Option, Some, None, refl, ap, sym, subst, ◌∙◌, arith, append_assoc, slice_index_or}, lemmas.Bool.{and_parts, cases_Bool, eq-eqb, eqb-true, ne_eqb}}
use Rattle.std.specs.{Prelude.{Any, IsTrue, codes, find, if◌then◌else◌, negsuc, pos, slice_get, ℤ}, Str.bytes_eq}
use Rattle.sharc_lemmas.proofs.Lists.{find_none}
use Rattle.sharc_tree.specs.{Tree.Function, declared.event.Act.Act, declared.event.SourceEvent.SourceEvent}
use Rattle.sharc_ctype.specs.Resolved.{Resolution, function_at, functions_in}
use Rattle.sharc_meaning.specs.{Runs.{IsFirst, IsSpawned, is_named_main}, Store.{IsNewThread, LegalStore, MayCome, is_natural, is_spawn, spawns, was_spawned}}
use Rattle.sharc_judge.specs.Starting.{entry, main_from, main_of, spawned_by_event, spawned_with, with_zero}
use Rattle.sharc_judge.proofs.Mains.{OneMain}

-- ---- finding

-- an element with a property is at some place
pub record Placed {A : Type 0} (P : A → Type 0) (xs : List A) : Type 0 where
  pub before : List A
  pub element : A
  pub after : List A
  pub stands : xs ≡ before ++ element ∷ after
  pub is : P element

pub behind_one : {A : Type 0} {P : A → Type 0} (y : A) (xs : List A) → Placed P xs → Placed P (y ∷ xs)
behind_one y xs i = record { before = y ∷ i.before; element = i.element; after = i.after; stands = ap (λ z. y ∷ z) i.stands; is = i.is }

pub found : {A : Type 0} (p : A → Bool) (x : A) (xs : List A) → find p xs ≡ Some x → Placed (λ y. (y ≡ x) × (p y ≡ true)) xs
found p x [] h = absurd (cc)
found {A} p x (y ∷ xs) h = elim (cases_Bool (p y)) [
  | inl i ↦
      let same : y ≡ x = let s : Some y ≡ Some x = sym (ap (λ z. if z then Some y else find p xs) i) ∙ h in cc in
      record { before = []; element = y; after = xs; stands = refl; is = (same, i) }
  | inr i ↦ behind_one y xs ((found p x xs) (sym (ap (λ z. if z then Some y else find p xs) i) ∙ h))
]

pub placed : {A : Type 0} (P : A → Type 0) (xs : List A) → Any P xs → Placed P xs
placed P [] (k, x, less, at, is) = absurd (omega (arith, less))
placed P (y ∷ xs) (zero, x, less, at, is) = record { before = []; element = y; after = xs; stands = refl; is = subst P (sym at) is }
placed P (y ∷ xs) (suc k, x, less, at, is) = behind_one y xs (placed P xs (k, x, omega (arith, less), at, is))

pub any_placed : {A : Type 0} (P : A → Type 0) (before : List A) (x : A) (after : List A) → P x → Any P (before ++ x ∷ after)
any_placed {A = A} P before x after is = (length before, x, (let l = length-append before (x ∷ after) in omega (arith, l)), at before, is)
  where
    at : (b : List A) → slice_index_or (b ++ x ∷ after) (length b) x ≡ x
    at [] = refl
    at (y ∷ b) = at b

-- ---- the threads that were spawned

abbrev pub SpawnedBy : ℕ → ℕ → ℤ → SourceEvent → Type 0
SpawnedBy thread f v e = (e.act ≡ Act.Spawn f v) × (e.answer ≡ pos thread)

spawns_it : (thread f : ℕ) (v : ℤ) (e : SourceEvent) → SpawnedBy thread f v e → spawns thread e ≡ true
spawns_it thread f v e (a, n) = ap (λ z. is_spawn z && is_natural thread e.answer) a ∙ ap (is_natural thread) n ∙ eq-eqb thread thread refl

natural_is : (thread : ℕ) (v : ℤ) → is_natural thread v ≡ true → v ≡ pos thread
natural_is thread (pos n) h = ap pos (sym (eqb-true thread n h))
natural_is thread (negsuc n) h = absurd (cc)

abbrev first_of_pair : Option (ℕ × ℤ) → ℕ
first_of_pair None = 0
first_of_pair (Some p) = p.0

abbrev second_of_pair : Option (ℕ × ℤ) → ℤ
second_of_pair None = pos 0
second_of_pair (Some p) = p.1

pub pair_of_some : (g f : ℕ) (w v : ℤ) → ◌≡◌ {A = Option (ℕ × ℤ)} (Some (g, w)) (Some (f, v)) → (g ≡ f) × (w ≡ v)
pair_of_some g f w v h = (ap first_of_pair h, ap second_of_pair h)

by_spawn : (a : Act) (f : ℕ) (v : ℤ) → spawned_with a ≡ Some (f, v) → a ≡ Act.Spawn f v
by_spawn (Act.Spawn g w) f v h = let p = pair_of_some g f w v h in ap (λ z. Act.Spawn z w) p.0 ∙ ap (Act.Spawn f) p.1
by_spawn _ f v h = absurd (cc)

module _ (r : Resolution) (R : List SourceEvent) (legal : LegalStore r R) (thread f : ℕ) (v : ℤ) where
  new_thread : (p : Placed (SpawnedBy thread f v) R) → was_spawned p.before thread ≡ false
  new_thread p =
      let new : IsNewThread p.before p.element.answer = subst (MayCome r p.before p.element) p.is.0 (legal p.before p.element p.after p.stands) in
      let same : pos new.thread ≡ pos thread = sym new.tells ∙ p.is.1 in
      let is : new.thread ≡ thread = cc in
      subst (λ n. was_spawned p.before n ≡ false) is new.fresh

  pub spawn_found : (p : Placed (SpawnedBy thread f v) R) → find (spawns thread) R ≡ Some p.element
  spawn_found p = ap (find (spawns thread)) p.stands ∙ find_none (spawns thread) p.before (p.element ∷ p.after) (new_thread p) ∙ ap (λ z. if z then Some p.element else find (spawns thread) p.after) (spawns_it thread f v p.element p.is)

-- ---- main

pub record MainAt (n : ℕ) (functions : List Function) : Type 0 where
  pub place : ℕ
  pub is : main_from n functions ≡ Some (n + place)
  pub named : IsTrue (is_named_main (slice_get functions place))

pub main_found : (n : ℕ) (functions : List Function) (k : ℕ) → IsTrue (is_named_main (slice_get functions k)) → MainAt n functions
main_found n (f ∷ rest) k h = by_case k h (main_found (n + 1) rest) (bytes_eq f.name.text (codes "main")) refl
  where
    by_case : (k : ℕ) → IsTrue (is_named_main (slice_get (f ∷ rest) k)) → ((k : ℕ) → IsTrue (is_named_main (slice_get rest k)) → MainAt (n + 1) rest) → (b : Bool) → bytes_eq f.name.text (codes "main") ≡ b → MainAt n (f ∷ rest)
    by_case k h more true i = record { place = 0; is = ap (λ z. if z then Some n else main_from (n + 1) rest) i ∙ ap Some (omega arith); named = i }
    by_case zero h more false i = absurd (let z : true ≡ false = sym h ∙ i in cc)
    by_case (suc k) h more false i = let p = more k h in
        record { place = suc p.place; is = ap (λ z. if z then Some n else main_from (n + 1) rest) i ∙ p.is ∙ ap Some (omega arith); named = p.named }
main_found n [] zero h = absurd (cc)
main_found n [] (suc k) h = absurd (cc)

pub main_is : (n : ℕ) (functions : List Function) (g : ℕ) → main_from n functions ≡ Some g → (place : ℕ) × (g ≡ n + place) × IsTrue (is_named_main (slice_get functions place))
main_is n [] g h = absurd (cc)
main_is n (f ∷ rest) g h = elim (cases_Bool (bytes_eq f.name.text (codes "main"))) [
  | inl i ↦ let s : Some n ≡ Some g = sym (ap (λ z. if z then Some n else main_from (n + 1) rest) i) ∙ h in let same : n ≡ g = cc in (0, omega (arith, same), i)
  | inr i ↦ let p = (main_is (n + 1) rest g) (sym (ap (λ z. if z then Some n else main_from (n + 1) rest) i) ∙ h) in (suc p.0, (let e = p.1 in omega (arith, e)), p.2)
]

-- ---- the entry of a thread

module _ (r : Resolution) (R : List SourceEvent) (thread f : ℕ) (v : ℤ) where
  abbrev chosen : Bool → Option (ℕ × ℤ)
  chosen b = if b then with_zero (main_of r) else spawned_by_event (find (spawns thread) R)

  first_of : thread ≡ 0 → with_zero (main_of r) ≡ Some (f, v) → IsFirst r thread f v
  first_of z h = by_main (main_of r) refl h
    where
      by_main : (o : Option ℕ) → main_of r ≡ o → with_zero o ≡ Some (f, v) → IsFirst r thread f v
      by_main None i h = absurd (cc)
      by_main (Some g) i h =
          let p = main_is 0 (functions_in r.program.items) g i in
          let both = pair_of_some g f (pos 0) v h in
          let is = both.0 in
          let e = p.1 in
          let place : p.0 ≡ f = omega (arith, e, is) in
          record { first = z; main = subst (λ n. IsTrue (is_named_main (function_at r n))) place p.2; nothing = sym both.1 }

  spawned_of : thread ≢ 0 → spawned_by_event (find (spawns thread) R) ≡ Some (f, v) → IsSpawned R thread f v
  spawned_of other h = by_event (find (spawns thread) R) refl h
    where
      by_event : (o : Option SourceEvent) → find (spawns thread) R ≡ o → spawned_by_event o ≡ Some (f, v) → IsSpawned R thread f v
      by_event None i h = absurd (cc)
      by_event (Some e) i h =
          let p = found (spawns thread) e R i in
          let parts = and_parts (is_spawn p.element.act) (is_natural thread p.element.answer) p.is.1 in
          let act : p.element.act ≡ Act.Spawn f v = ap (λ (z : SourceEvent). z.act) p.is.0 ∙ by_spawn e.act f v h in
          record { other = other; spawned = subst (Any (SpawnedBy thread f v)) (sym p.stands) (any_placed (SpawnedBy thread f v) p.before p.element p.after (act, natural_is thread p.element.answer parts.1)) }

  pub right_by_entry : entry r R thread ≡ Some (f, v) → IsFirst r thread f v ⊎ IsSpawned R thread f v
  right_by_entry h = elim (cases_Bool (thread == 0)) [
    | inl i ↦ inl (first_of (eqb-true thread 0 i) (sym (ap chosen i) ∙ h))
    | inr i ↦ inr (spawned_of (λ z. let t : true ≡ false = sym (eq-eqb thread 0 z) ∙ i in absurd (cc)) (sym (ap chosen i) ∙ h))
  ]

module _ (r : Resolution) (one : OneMain r) (R : List SourceEvent) (legal : LegalStore r R) (thread f : ℕ) (v : ℤ) where
  of_first : IsFirst r thread f v → entry r R thread ≡ Some (f, v)
  of_first h =
      let p = main_found 0 (functions_in r.program.items) f h.main in
      let same : p.place ≡ f = one p.place f p.named h.main in
      ap (chosen r R thread f v) (eq-eqb thread 0 h.first) ∙ ap with_zero p.is ∙ ap (λ z. Some (z, pos 0)) (let i : 0 + p.place ≡ f = omega (arith, same) in i) ∙ ap (λ z. Some (f, z)) (sym h.nothing)

  of_spawned : (R0 S : List SourceEvent) → R ≡ R0 ++ S → IsSpawned R0 thread f v → entry r R thread ≡ Some (f, v)
  of_spawned R0 S parts h =
      let p = placed (SpawnedBy thread f v) R0 h.spawned in
      let q : Placed (SpawnedBy thread f v) R = record { before = p.before; element = p.element; after = p.after ++ S; stands = parts ∙ ap (λ z. z ++ S) p.stands ∙ append_assoc p.before (p.element ∷ p.after) S; is = p.is } in
      ap (chosen r R thread f v) (ne_eqb thread 0 h.other) ∙ ap spawned_by_event (spawn_found r R legal thread f v q) ∙ ap spawned_with p.is.0

  pub entry_found : (R0 S : List SourceEvent) → R ≡ R0 ++ S → IsFirst r thread f v ⊎ IsSpawned R0 thread f v → entry r R thread ≡ Some (f, v)
  entry_found R0 S parts (inl h) = of_first h
  entry_found R0 S parts (inr h) = of_spawned R0 S parts h
