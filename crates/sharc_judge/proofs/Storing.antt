-- What the events leave, by the last event about each topic.
use Rattle.std.proofs.{Common.{◌≡◌, ℕ, Bool, true, false, not, ◌&&◌, ◌||◌, List, [], ◌∷◌, ◌++◌, length, Option, Some, None, refl, ap, sym, ◌∙◌, arith, append_assoc}, lemmas.Bool.{lt-leb, le-leb, or_parts, not-true, not_from_false}, lemmas.List.reverse-append}
use Rattle.std.specs.{Prelude.{ℤ, pos, negsuc, int_lt, IsTrue, ◌==◌, is_some, if◌then◌else◌}, List.{list_any, find}}
use Rattle.sharc_tree.specs.{declared.event.Act.Act, declared.event.CellAt.CellAt, declared.event.Object.Object, declared.event.Object.TheVariants.{Global, Made}, declared.event.SourceEvent.SourceEvent}
use Rattle.sharc_tree.specs.declared.event.Act.TheVariants as acts
use Rattle.sharc_ctype.specs.Resolved.{Resolution}
use Rattle.sharc_meaning.specs.{Events.{makes, frees, begins, is_cell, locks, unlocks, latest}, Obeys.is_owner, Store.{cell_changed, changes, value_left, value_by, value_after, initial_value, meets, is_live, is_locked, was_locked_by, spawns, was_spawned, is_gone, went, is_natural, IsNewThread}}
use Rattle.sharc_judge.specs.{declared.table.Noted.Noted, Kept.IsSpawnedOnce, Latest.{latest_at, latest_about, last_make, is_behind}, Topics.cell_key}
use Rattle.sharc_judge.specs.declared.topics.Topic.TheVariants as topic
use Rattle.sharc_judge.proofs.{About.{about_make, about_change, about_life, about_begin, about_mutex, about_lock, about_spawn, about_gone}, Latest.{latest_more, latest_same, latest_never, latest_is, event_of, place_below, any_is}, GrowingLists.by_growing}

latest_next : (test : SourceEvent → Bool) (l : List SourceEvent) (e : SourceEvent) → latest test (l ++ e ∷ []) ≡ (if test e then Some e else latest test l)
latest_next test l e = ap (find test) (reverse-append l (e ∷ []))

-- ---- a test of the last event

abbrev pub meets_noted : (SourceEvent → Bool) → Option Noted → Bool
meets_noted test None = false
meets_noted test (Some noted) = test noted.event

pub meets_is : (test among other : SourceEvent → Bool) (R : List SourceEvent) → ((e : SourceEvent) → other e ≡ among e) → meets_noted test (latest_at other R) ≡ meets test (latest among R)
meets_is test among other R same = ap (meets_noted test) (latest_same other among R same) ∙ by_case (latest_at among R) ∙ ap (meets test) (sym (latest_is among R))
  where
    by_case : (o : Option Noted) → meets_noted test o ≡ meets test (event_of o)
    by_case None = refl
    by_case (Some noted) = refl

pub live_is : (n : ℕ) (R : List SourceEvent) → meets_noted (makes (Made n)) (latest_about (topic.Life n) R) ≡ is_live R (Made n)
live_is n R = meets_is (makes (Made n)) (λ e. makes (Made n) e || frees (Made n) e) _ R (λ e. about_life n e e.act)

pub locked_is : (c : CellAt) (R : List SourceEvent) → meets_noted (locks c) (latest_about (topic.Mutex (cell_key c)) R) ≡ is_locked R c
locked_is c R = meets_is (locks c) (λ e. locks c e || unlocks c e) _ R (λ e. about_mutex c e e.act)

pub locked_by_is : (c : CellAt) (t : ℕ) (R : List SourceEvent) → meets_noted (λ e. e.thread == t) (latest_about (topic.Lock (cell_key c)) R) ≡ was_locked_by R c t
locked_by_is c t R = meets_is (λ e. e.thread == t) (locks c) _ R (λ e. about_lock c e e.act)

pub owner_is : (n t : ℕ) (R : List SourceEvent) → meets_noted (λ e. e.thread == t) (latest_about (topic.Begin n) R) ≡ is_owner R (Made n) t
owner_is n t R = meets_is (λ e. e.thread == t) (begins (Made n)) _ R (λ e. about_begin n e e.act)

-- ---- whether there is one

pub some_is : (test other : SourceEvent → Bool) (R : List SourceEvent) → ((e : SourceEvent) → other e ≡ test e) → is_some (latest_at other R) ≡ list_any test R
some_is test other R same = ap is_some (latest_same other test R same) ∙ any_is test R

pub spawned_is : (n : ℕ) (R : List SourceEvent) → is_some (latest_about (topic.Spawn (pos n)) R) ≡ was_spawned R n
spawned_is n R = some_is (spawns n) _ R (λ e. about_spawn n e e.act)

pub went_is : (v : ℤ) (R : List SourceEvent) → is_some (latest_about (topic.Gone v) R) ≡ went R v
went_is v R = some_is (λ e. is_gone e.act && is_natural e.thread v) _ R (λ e. about_gone v e e.act)

-- a number that is not 0 and that no spawn answered is a new thread's
opposite : (b w : Bool) → w ≡ not b → b ≡ not w
opposite true w h = sym (ap not h)
opposite false w h = sym (ap not h)

pub new_thread : (R : List SourceEvent) (v : ℤ) (b : Bool) → int_lt (pos 0) v ≡ true → is_some (latest_about (topic.Spawn v) R) ≡ not b → (IsTrue b → IsNewThread R v) × (IsNewThread R v → IsTrue b)
new_thread R (negsuc n) b above is = absurd (cc)
new_thread R (pos n) b above is = (λ t. record { thread = n; tells = refl; other = not_zero; fresh = not-true (was_spawned R n) (sym says ∙ t) }, λ h. says ∙ not_from_false (was_spawned R n) (ap (was_spawned R) (same h.thread h.tells) ∙ h.fresh))
  where
    says : b ≡ not (was_spawned R n)
    says = opposite b (is_some (latest_about (topic.Spawn (pos n)) R)) is ∙ ap not (spawned_is n R)

    not_zero : n ≡ 0 → ⊥
    not_zero h = let z : false ≡ true = sym (ap (λ (k : ℕ). int_lt (pos 0) (pos k)) h) ∙ above in absurd (cc)

    same : (m : ℕ) → pos n ≡ pos m → n ≡ m
    same m h = cc

-- ---- the spawn of a thread

module _ (n : ℕ) where
  abbrev else_last : Option SourceEvent → Bool → SourceEvent → Option SourceEvent
  else_last (Some d) b e = Some d
  else_last None b e = if b then Some e else None

  find_more : (l : List SourceEvent) (e : SourceEvent) → find (spawns n) (l ++ e ∷ []) ≡ else_last (find (spawns n) l) (spawns n e) e
  find_more [] e = refl
  find_more (x ∷ l) e = by_case (spawns n x) (find_more l e)
    where
      by_case : (b : Bool) → find (spawns n) (l ++ e ∷ []) ≡ else_last (find (spawns n) l) (spawns n e) e
          → (if b then Some x else find (spawns n) (l ++ e ∷ [])) ≡ else_last (if b then Some x else find (spawns n) l) (spawns n e) e
      by_case true more = refl
      by_case false more = more

  find_none : (l : List SourceEvent) → was_spawned l n ≡ false → find (spawns n) l ≡ None
  find_none [] h = refl
  find_none (x ∷ l) h =
      let p = or_parts (spawns n x) (was_spawned l n) h in
      ap (λ b. if b then Some x else find (spawns n) l) p.0 ∙ find_none l p.1

  same_find : (R : List SourceEvent) → IsSpawnedOnce R → find (spawns n) R ≡ event_of (latest_at (spawns n) R)
  same_find = by_growing (λ R. IsSpawnedOnce R → find (spawns n) R ≡ event_of (latest_at (spawns n) R)) (λ h. refl) one_more
    where
      shorter : (R : List SourceEvent) (e : SourceEvent) → IsSpawnedOnce (R ++ e ∷ []) → IsSpawnedOnce R
      shorter R e h before d after k stands spawned = h before d (after ++ e ∷ []) k (ap (λ z. z ++ e ∷ []) stands ∙ append_assoc before (d ∷ after) (e ∷ [])) spawned

      by_case : (R : List SourceEvent) (e : SourceEvent) → IsSpawnedOnce (R ++ e ∷ []) → find (spawns n) R ≡ event_of (latest_at (spawns n) R) → (b : Bool) → spawns n e ≡ b
          → else_last (find (spawns n) R) b e ≡ event_of (if b then Some (record { place = length R; event = e }) else latest_at (spawns n) R)
      by_case R e once old true i = ap (λ z. else_last z true e) (find_none R (once R e [] n refl i))
      by_case R e once old false i = by_found (find (spawns n) R) ∙ old
        where
          by_found : (o : Option SourceEvent) → else_last o false e ≡ o
          by_found None = refl
          by_found (Some d) = refl

      one_more : (R : List SourceEvent) (e : SourceEvent) → (IsSpawnedOnce R → find (spawns n) R ≡ event_of (latest_at (spawns n) R)) → IsSpawnedOnce (R ++ e ∷ [])
          → find (spawns n) (R ++ e ∷ []) ≡ event_of (latest_at (spawns n) (R ++ e ∷ []))
      one_more R e old once =
          find_more R e
          ∙ by_case R e once (old (shorter R e once)) (spawns n e) refl
          ∙ ap event_of (sym (latest_more (spawns n) R e))

  pub spawn_is : (R : List SourceEvent) → IsSpawnedOnce R → event_of (latest_about (topic.Spawn (pos n)) R) ≡ find (spawns n) R
  spawn_is R once = ap event_of (latest_same _ (spawns n) R (λ e. about_spawn n e e.act)) ∙ sym (same_find R once)

abbrev noted_behind : List SourceEvent → SourceEvent → Noted
noted_behind R e = record { place = length R; event = e }

-- ---- the value of a cell

pub last_make_is : (o : Object) (R : List SourceEvent) → last_make o R ≡ latest_at (makes o) R
last_make_is (Global g) R = sym (latest_never (makes (Global g)) R (λ e. refl))
last_make_is (Made n) R = latest_same _ (makes (Made n)) R (λ e. about_make n e e.act)

abbrev pub value_of : ℤ → Option Noted → Option Noted → ℤ
value_of initial None make = initial
value_of initial (Some noted) make = if is_behind noted.place make then value_left noted.event.act else initial

made_value : (r : Resolution) (o : Object) (e : SourceEvent) (a : Act) → e.act ≡ a → makes o (record e { act = a }) ≡ true → value_left a ≡ initial_value r o
made_value r (Global g) e a is h = absurd (cc)
made_value r (Made n) e (acts.Write c mode v) is h = absurd (cc)
made_value r (Made n) e _ is h = refl

module _ (r : Resolution) (c : CellAt) where
  abbrev changed : SourceEvent → Bool
  changed e = is_cell c (cell_changed e.act)

  abbrev initial : ℤ
  initial = initial_value r c.object

  grown : (R : List SourceEvent) → value_by initial (latest (changes c) R) ≡ value_of initial (latest_at changed R) (latest_at (makes c.object) R)
  grown = by_growing (λ R. value_by initial (latest (changes c) R) ≡ value_of initial (latest_at changed R) (latest_at (makes c.object) R)) refl one_more
    where
      below : (R : List SourceEvent) (o : Option Noted) → latest_at (makes c.object) R ≡ o → is_behind (length R) o ≡ true
      below R None h = refl
      below R (Some m) h = le-leb m.place (length R) (let s = place_below (makes c.object) R m h in omega (arith, s))

      old_change : (R : List SourceEvent) (e : SourceEvent) (o : Option Noted) → latest_at changed R ≡ o → value_of initial o (Some (noted_behind R e)) ≡ initial
      old_change R e None h = refl
      old_change R e (Some m) h = ap (λ b. if b then value_left m.event.act else initial) (lt-leb (length R) m.place (place_below changed R m h))

      by_case : (R : List SourceEvent) (e : SourceEvent) → value_by initial (latest (changes c) R) ≡ value_of initial (latest_at changed R) (latest_at (makes c.object) R)
          → (x : Bool) → changed e ≡ x → (y : Bool) → makes c.object e ≡ y
          → value_by initial (if x || y then Some e else latest (changes c) R) ≡ value_of initial (if x then Some (noted_behind R e) else latest_at changed R) (if y then Some (noted_behind R e) else latest_at (makes c.object) R)
      by_case R e h true i true j = sym (ap (λ b. if b then value_left e.act else initial) (le-leb (length R) (length R) (omega arith)))
      by_case R e h true i false j = sym (ap (λ b. if b then value_left e.act else initial) (below R (latest_at (makes c.object) R) refl))
      by_case R e h false i true j = made_value r c.object e e.act refl j ∙ sym (old_change R e (latest_at changed R) refl)
      by_case R e h false i false j = h

      one_more : (R : List SourceEvent) (e : SourceEvent) → value_by initial (latest (changes c) R) ≡ value_of initial (latest_at changed R) (latest_at (makes c.object) R)
          → value_by initial (latest (changes c) (R ++ e ∷ [])) ≡ value_of initial (latest_at changed (R ++ e ∷ [])) (latest_at (makes c.object) (R ++ e ∷ []))
      one_more R e h =
          ap (value_by initial) (latest_next (changes c) R e)
          ∙ by_case R e h (changed e) refl (makes c.object e) refl
          ∙ ap (value_of initial (if changed e then Some (noted_behind R e) else latest_at changed R)) (sym (latest_more (makes c.object) R e))
          ∙ ap (λ z. value_of initial z (latest_at (makes c.object) (R ++ e ∷ []))) (sym (latest_more changed R e))

  pub value_is : (R : List SourceEvent) → value_of initial (latest_about (topic.Change (cell_key c)) R) (last_make c.object R) ≡ value_after r R c
  value_is R =
      ap (λ z. value_of initial z (last_make c.object R)) (latest_same _ changed R (λ e. about_change c e e.act))
      ∙ ap (value_of initial (latest_at changed R)) (last_make_is c.object R)
      ∙ sym (grown R)
