-- A rule of the modes holds exactly where no access breaks it.
use Rattle.std.proofs.{Common.{◌≡◌, ◌≢◌, ◌↔◌, inl, inr, ℕ, ◌==◌, Bool, true, false, not, ◌&&◌, ◌||◌, List, [], ◌∷◌, ◌++◌, Option, Some, None, refl, ap, sym, subst, ◌∙◌, append_assoc, length, length-append, arith}, lemmas.Bool.{cases_Bool, not-true, not-false, not_from_true, not_from_false, both_ways, and_parts, and_from, and_cases, and_left, and_right, or_parts, or_from, eqb-true, eq-eqb, ne_eqb, false_from_ne_true as no_conflict}, lemmas.List.Folds.list_any-append, Math.Bool.or_comm}
use Rattle.std.specs.List.{list_any}
use Rattle.sharc_tree.specs.{declared.event.Act.Act, declared.event.Act.TheVariants.{Read, Write, Take}, declared.event.CellAt.CellAt, declared.event.CellMode.CellMode, declared.event.CellMode.TheVariants.{Private, Readonly, Locked, Dynamic}, declared.event.Object.Object, declared.event.Object.TheVariants.{Global, Made}, declared.event.SourceEvent.SourceEvent}
use Rattle.sharc_meaning.specs.{Events.{same_object, same_cell, granule_of, Access, access_by, begins, frees, locks, unlocks, unless_unlocked, locked_by, held_mutexes, holds_mutex, is_of, events_of, Stands}, Obeys.{IsAccess, AccessSet, ends, IsThere, ToLive, UnderOneMode, is_owner, ByOwner, Unwritten, UnderLock, ReadSharedOrOwn}}
use Rattle.sharc_meaning.specs.Obeys as obeys
use Rattle.sharc_judge.specs.declared.history.Test.TheVariants as test
use Rattle.sharc_judge.specs.declared.pair.Pair.TheVariants as pair
use Rattle.sharc_judge.specs.{declared.pair.Until.Until, declared.rule.Rule.Rule, Deciding.{view_until, same_mode, is_dynamic, test_of, any_place, any_pair, pair_of, disagrees, conflicts, is_there, not_by_owner, is_written, without_lock, beside, breaks, of_access, breaks_with, breaks_by}, Judged.Holds, Laws.{Unbroken, HoldsUnbroken, UnbrokenMore}}
use Rattle.sharc_judge.specs.declared.rule.Rule.TheVariants as rule
use Rattle.sharc_judge.proofs.{Alike.{equal_objects, same_as_itself, equal_cells, same_cell_itself, equal_modes, same_mode_itself, dynamic_is}, Pairs.{at_each, from_each}, PlacePairs.{at_each_pair, from_each_pair, Behind, Order, in_order}}

unbroken : (rule : Rule) (u : Until) (R : List SourceEvent) → any_place (breaks_by rule u) [] R ≡ false → Unbroken rule u R
unbroken rule u R h before e after a stands is = ap (breaks_with rule u before e.thread) (sym is) ∙ at_each (breaks_by rule u) [] R h before e after stands

found_unbroken : (rule : Rule) (u : Until) (R : List SourceEvent) → Unbroken rule u R → any_place (breaks_by rule u) [] R ≡ false
found_unbroken rule u R h = from_each (breaks_by rule u) [] R (λ b e a stands. by_access b e a stands (access_by e.act) refl)
  where
    by_access : (b : List SourceEvent) (e : SourceEvent) (a : List SourceEvent) → Stands R b e a → (o : Option Access) → access_by e.act ≡ o → breaks_by rule u b e ≡ false
    by_access b e a stands None is = ap (breaks_with rule u b e.thread) is
    by_access b e a stands (Some x) is = ap (breaks_with rule u b e.thread) is ∙ h b e a x stands is

pub unbroken_more : UnbrokenMore
unbroken_more rule u R e old new before d after a stands is = by_order (in_order (R ++ e ∷ []) before d after R e [] stands refl)
  where
    by_order : Order before d after R e [] → breaks rule u before d.thread (of_access a) ≡ false
    by_order (inl s) = ap (breaks_with rule u before d.thread) (sym is) ∙ ap (λ z. breaks_by rule u z d) s.before ∙ ap (breaks_by rule u R) s.event ∙ new
    by_order (inr (inl o)) = old before d o.between a o.before is
    by_order (inr (inr o)) = absurd (let k = ap length o.after in let l = length-append o.between (d ∷ after) in omega (arith, k, l))

-- ---- 1

there : (before : List SourceEvent) (o : Object) → not (is_there before o) ≡ false → IsThere before o
there before (Global g) h = tt
there before (Made n) h = not-false _ h

not_there : (before : List SourceEvent) (o : Object) → IsThere before o → not (is_there before o) ≡ false
not_there before (Global g) h = refl
not_there before (Made n) h = not_from_true _ h

live_is : (u : Until) (R : List SourceEvent) → Unbroken rule.Live u R ↔ ToLive R
live_is u R = (λ h before e after a stands is. there before a.cell.object (h before e after a stands is), λ h before e after a stands is. not_there before a.cell.object (h before e after a stands is))

-- ---- 2

-- an access neither makes nor gives nor frees an object, and ends nothing
record IsPlain (e : SourceEvent) : Type 0 where
  begins_none : (o : Object) → begins o e ≡ false
  ends_none : (u : obeys.Until) → ends u e.act ≡ false

plain : (e : SourceEvent) (a : Access) → IsAccess e a → IsPlain e
plain e a is = record { begins_none = act_begins e.act is; ends_none = act_ends e.act is }
  where
    act_begins : (act : Act) → access_by act ≡ Some a → (o : Object) → begins o (record e { act = act }) ≡ false
    act_begins (Read c m) h (Global g) = refl
    act_begins (Read c m) h (Made n) = refl
    act_begins (Write c m v) h (Global g) = refl
    act_begins (Write c m v) h (Made n) = refl
    act_begins (Take p k) h (Global g) = refl
    act_begins (Take p k) h (Made n) = refl
    act_begins _ h o = absurd (cc)

    act_ends : (act : Act) → access_by act ≡ Some a → (u : obeys.Until) → ends u act ≡ false
    act_ends (Read c m) h obeys.until_return = refl
    act_ends (Read c m) h obeys.until_gone = refl
    act_ends (Write c m v) h obeys.until_return = refl
    act_ends (Write c m v) h obeys.until_gone = refl
    act_ends (Take p k) h obeys.until_return = refl
    act_ends (Take p k) h obeys.until_gone = refl
    act_ends _ h u = absurd (cc)

other_mode : (a b : Access) → disagrees b (Some a) ≡ false → a.cell ≡ b.cell → a.mode ≡ b.mode
other_mode a b h e = elim (cases_Bool (same_mode a.mode b.mode)) [
  | inl i ↦ equal_modes a.mode b.mode i
  | inr i ↦ absurd (both_ways _ h (and_from _ _ (subst (λ z. same_cell a.cell z ≡ true) e (same_cell_itself a.cell)) (not_from_false _ i)))
]

-- where the pair is not refused
pair_agrees : (b a : Access) (d : SourceEvent) (between : List SourceEvent) → pair_of (pair.OtherMode (of_access b)) d between ≡ false → IsAccess d a → a.cell ≡ b.cell
    → list_any (λ x. begins a.cell.object x || frees a.cell.object x) between ≡ false → a.mode ≡ b.mode
pair_agrees b a d between h is e quiet = elim (and_cases _ _ (sym (ap (λ z. disagrees b z && not (list_any (test_of (test.BeginsOrFrees b.cell.object)) between)) is) ∙ h)) [
  | inl i ↦ other_mode a b i e
  | inr i ↦ absurd (both_ways _ (subst (λ (z : CellAt). list_any (λ x. begins z.object x || frees z.object x) between ≡ false) e quiet) (not-false _ i))
]

agrees_pair : (b : Access) (d : SourceEvent) (between : List SourceEvent)
    → ((a : Access) → IsAccess d a → a.cell ≡ b.cell → list_any (λ x. begins a.cell.object x || frees a.cell.object x) between ≡ false → a.mode ≡ b.mode)
    → pair_of (pair.OtherMode (of_access b)) d between ≡ false
agrees_pair b d between h = by_access (access_by d.act) refl
  where
    by_access : (o : Option Access) → access_by d.act ≡ o → pair_of (pair.OtherMode (of_access b)) d between ≡ false
    by_access None i = ap (λ z. disagrees b z && not (list_any (test_of (test.BeginsOrFrees b.cell.object)) between)) i
    by_access (Some a) i = ap (λ z. disagrees b z && not (list_any (test_of (test.BeginsOrFrees b.cell.object)) between)) i ∙ found (same_cell a.cell b.cell) refl (list_any (test_of (test.BeginsOrFrees b.cell.object)) between) refl
      where
        found : (s : Bool) → same_cell a.cell b.cell ≡ s → (t : Bool) → list_any (test_of (test.BeginsOrFrees b.cell.object)) between ≡ t
            → disagrees b (Some a) && not (list_any (test_of (test.BeginsOrFrees b.cell.object)) between) ≡ false
        found false j t k = and_left _ _ (and_left _ _ j)
        found true j true k = and_right _ _ (not_from_true _ k)
        found true j false k =
            let e = equal_cells a.cell b.cell j in
            let m = h a i e (subst (λ (z : CellAt). list_any (λ x. begins z.object x || frees z.object x) between ≡ false) (sym e) k) in
            and_left _ _ (and_right _ _ (not_from_true _ (subst (λ z. same_mode a.mode z ≡ true) m (same_mode_itself a.mode))))

one_mode_is : (u : Until) (R : List SourceEvent) → Unbroken rule.OneMode u R ↔ UnderOneMode R
one_mode_is u R = (
  λ h before d between e after a b stands is_a is_b same quiet.
      pair_agrees b a d between
      (at_each_pair (pair_of (pair.OtherMode (of_access b))) (before ++ d ∷ between) (h (before ++ d ∷ between) e after b (stands ∙ sym (append_assoc before (d ∷ between) (e ∷ after))) is_b) before d between refl)
      is_a same quiet,
  λ h before e after b stands is_b.
      from_each_pair (pair_of (pair.OtherMode (of_access b))) before
      (λ first d between parts. agrees_pair b d between (λ a is_a same quiet.
      h first d between e after a b (stands ∙ ap (λ z. z ++ e ∷ after) parts ∙ append_assoc first (d ∷ between) (e ∷ after)) is_a is_b same quiet)),
)

-- ---- 3 and 4

owned : (m : CellMode) (before : List SourceEvent) (o : Object) (thread : ℕ) → not_by_owner m before o thread ≡ false → m ≡ Private → is_owner before o thread ≡ true
owned Private before o thread h e = not-false _ h
owned _ before o thread h e = absurd (cc)

not_owned : (m : CellMode) (before : List SourceEvent) (o : Object) (thread : ℕ) → (m ≡ Private → is_owner before o thread ≡ true) → not_by_owner m before o thread ≡ false
not_owned Private before o thread h = not_from_true _ (h refl)
not_owned _ before o thread h = refl

owner_is : (u : Until) (R : List SourceEvent) → Unbroken rule.Owner u R ↔ ByOwner R
owner_is u R = (
  λ h before e after a stands is m. owned a.mode before a.cell.object e.thread (h before e after a stands is) m,
  λ h before e after a stands is. not_owned a.mode before a.cell.object e.thread (h before e after a stands is),
)

unwritten : (m : CellMode) (w : Bool) → is_written m w ≡ false → m ≡ Readonly → w ≡ false
unwritten Readonly w h e = h
unwritten _ w h e = absurd (cc)

not_written : (m : CellMode) (w : Bool) → (m ≡ Readonly → w ≡ false) → is_written m w ≡ false
not_written Readonly w h = h refl
not_written _ w h = refl

unwritten_is : (u : Until) (R : List SourceEvent) → Unbroken rule.NotWritten u R ↔ Unwritten R
unwritten_is u R = (λ h before e after a stands is m. unwritten a.mode a.is_write (h before e after a stands is) m, λ h before e after a stands is. not_written a.mode a.is_write (h before e after a stands is))

-- ---- 5

-- what none of the events of the thread does, none of all does by this thread
own_any : (p : SourceEvent → Bool) (thread : ℕ) (l : List SourceEvent) → list_any p (events_of thread l) ≡ list_any (λ e. (e.thread == thread) && p e) l
own_any p thread [] = refl
own_any p thread (e ∷ l) = elim (cases_Bool (is_of thread e)) [ inl i ↦ rw (i) (ap (λ z. p e || z) (own_any p thread l)) | inr i ↦ rw (i) (own_any p thread l) ]

-- a Lock of the mutex that no later event unlocks
abbrev locks_on : CellAt → Option CellAt → List SourceEvent → Bool
locks_on c None later = false
locks_on c (Some d) later = same_cell c d && not (list_any (unlocks c) later)

locks_on_is : (c : CellAt) (e : SourceEvent) (later : List SourceEvent) → locks_on c (locked_by e.act) later ≡ (locks c e && not (list_any (unlocks c) later))
locks_on_is c e later = by_lock (locked_by e.act) refl
  where
    by_lock : (o : Option CellAt) → locked_by e.act ≡ o → locks_on c (locked_by e.act) later ≡ (locks c e && not (list_any (unlocks c) later))
    by_lock None i = rw (i) refl
    by_lock (Some d) i = rw (i) refl

held_first : (c : CellAt) (o : Option CellAt) (later : List SourceEvent) → list_any (same_cell c) (unless_unlocked later o (held_mutexes later)) ≡ (locks_on c o later || list_any (same_cell c) (held_mutexes later))
held_first c None later = refl
held_first c (Some d) later = at_cell (same_cell c d) refl (list_any (unlocks d) later) refl
  where
    at_cell : (s : Bool) → same_cell c d ≡ s → (t : Bool) → list_any (unlocks d) later ≡ t
        → list_any (same_cell c) (unless_unlocked later (Some d) (held_mutexes later)) ≡ (locks_on c (Some d) later || list_any (same_cell c) (held_mutexes later))
    at_cell true j true k = let same = equal_cells c d j in let u : list_any (unlocks c) later ≡ true = subst (λ z. list_any (unlocks z) later ≡ true) (sym same) k in rw (j, k, u) refl
    at_cell true j false k = let same = equal_cells c d j in let u : list_any (unlocks c) later ≡ false = subst (λ z. list_any (unlocks z) later ≡ false) (sym same) k in rw (k, u) (ap (λ z. z || list_any (same_cell c) (held_mutexes later)) (j ∙ sym (and_from _ _ j refl)))
    at_cell false j true k = rw (j, k) refl
    at_cell false j false k = rw (k) (ap (λ z. z || list_any (same_cell c) (held_mutexes later)) (j ∙ sym (and_left _ _ j)))

-- the mutex is held where some Lock of it by the thread has no later Unlock by it
held_is : (c : CellAt) (thread : ℕ) (l : List SourceEvent) → holds_mutex (events_of thread l) c ≡ any_pair (pair_of (pair.Holds c thread)) l
held_is c thread [] = refl
held_is c thread (e ∷ l) = by_cases (held_is c thread l) (is_of thread e) refl
  where
    by_cases : holds_mutex (events_of thread l) c ≡ any_pair (pair_of (pair.Holds c thread)) l → (b : Bool) → is_of thread e ≡ b → holds_mutex (events_of thread (e ∷ l)) c ≡ any_pair (pair_of (pair.Holds c thread)) (e ∷ l)
    by_cases more true i = rw (i)
        (held_first c (locked_by e.act) (events_of thread l) ∙ ap (λ z. z || holds_mutex (events_of thread l) c) (locks_on_is c e (events_of thread l))
        ∙ ap (λ z. (locks c e && not z) || holds_mutex (events_of thread l) c) (own_any (unlocks c) thread l) ∙ ap (λ z. (locks c e && not (list_any (test_of (test.Unlocks c thread)) l)) || z) more)
    by_cases more false i = rw (i) more

under : (m : CellMode) (before : List SourceEvent) (thread : ℕ) → without_lock m before thread ≡ false → (c : CellAt) → m ≡ Locked (Some c) → holds_mutex (events_of thread before) c ≡ true
under (Locked (Some d)) before thread h c e = let same : d ≡ c = cc in held_is c thread before ∙ subst (λ z. any_pair (pair_of (pair.Holds z thread)) before ≡ true) same (not-false _ h)
under _ before thread h c e = absurd (cc)

is_under : (m : CellMode) (before : List SourceEvent) (thread : ℕ) → ((c : CellAt) → m ≡ Locked (Some c) → holds_mutex (events_of thread before) c ≡ true) → without_lock m before thread ≡ false
is_under (Locked (Some d)) before thread h = not_from_true _ (sym (held_is d thread before) ∙ h d refl)
is_under _ before thread h = refl

under_lock_is : (u : Until) (R : List SourceEvent) → Unbroken rule.UnderItsLock u R ↔ UnderLock R
under_lock_is u R = (
  λ h before e after a mutex stands is m. under a.mode before e.thread (h before e after a stands is) mutex m,
  λ h before e after a stands is. is_under a.mode before e.thread (λ c m. h before e after a c stands is m),
)

-- ---- 6

front_none : (p : SourceEvent → Bool) (l m : List SourceEvent) → list_any p (l ++ m) ≡ false → list_any p l ≡ false
front_none p l m h = (or_parts _ _ (sym (list_any-append p l m) ∙ h)).0

with_one : (p : SourceEvent → Bool) (l : List SourceEvent) (e : SourceEvent) → list_any p l ≡ false → p e ≡ false → list_any p (l ++ e ∷ []) ≡ false
with_one p l e h i = list_any-append p l (e ∷ []) ∙ or_from _ _ h (or_from _ _ i refl)

-- a pair that conflicts
record Conflict (u : Until) (thread : ℕ) (b : Access) (d : SourceEvent) (between : List SourceEvent) : Type 0 where
  access : Access
  is : IsAccess d access
  other : d.thread ≢ thread
  mode : access.mode ≡ Dynamic
  object : access.cell.object ≡ b.cell.object
  granule : granule_of access.cell ≡ granule_of b.cell
  write : access.is_write || b.is_write ≡ true
  begun : list_any (begins b.cell.object) between ≡ false
  ended : list_any (test_of (test.Ends u d.thread)) between ≡ false

conflict : (u : Until) (thread : ℕ) (b : Access) (d : SourceEvent) (between : List SourceEvent) → pair_of (pair.Conflicts u thread (of_access b)) d between ≡ true → Conflict u thread b d between
conflict u thread b d between h = by_access (access_by d.act) refl (and_parts _ _ h)
  where
    by_access : (o : Option Access) → access_by d.act ≡ o
        → (not (d.thread == thread) && conflicts b (access_by d.act) ≡ true) × (not (list_any (begins b.cell.object) between) && not (list_any (test_of (test.Ends u d.thread)) between) ≡ true) → Conflict u thread b d between
    by_access None i p = absurd (both_ways _ (ap (conflicts b) i) (and_parts _ _ p.0).1)
    by_access (Some a) i p =
        let first = and_parts _ _ p.0 in
        let second = and_parts _ _ p.1 in
        let same = and_parts _ _ (sym (ap (conflicts b) i) ∙ first.1) in
        let places = and_parts _ _ same.1 in
        let last = and_parts _ _ places.1 in
        record {
          access = a;
          is = i;
          other = λ e. both_ways _ (not-true _ first.0) (eq-eqb d.thread thread e);
          mode = dynamic_is a.mode same.0;
          object = equal_objects a.cell.object b.cell.object places.0;
          granule = eqb-true _ _ last.0;
          write = last.1;
          begun = not-true _ second.0;
          ended = not-true _ second.1;
        }

conflicting : (u : Until) (thread : ℕ) (b : Access) (d : SourceEvent) (between : List SourceEvent) → Conflict u thread b d between → pair_of (pair.Conflicts u thread (of_access b)) d between ≡ true
conflicting u thread b d between c =
    let a = c.access in
    and_from _ _
    (and_from _ _ (not_from_false _ (ne_eqb d.thread thread c.other))
    (ap (conflicts b) c.is ∙ and_from _ _ (ap is_dynamic c.mode) (and_from _ _ (subst (λ z. same_object a.cell.object z ≡ true) c.object (same_as_itself a.cell.object)) (and_from _ _ (eq-eqb _ _ c.granule) c.write))))
    (and_from _ _ (not_from_false _ c.begun) (not_from_false _ c.ended))

beside_none : (m : CellMode) (u : Until) (before : List SourceEvent) (thread : ℕ) (b : Access) → (m ≡ Dynamic → any_pair (pair_of (pair.Conflicts u thread (of_access b))) before ≡ false) → beside m u before thread (of_access b) ≡ false
beside_none Dynamic u before thread b h = h refl
beside_none _ u before thread b h = refl

-- of two accesses in a set, the later is at a place where the earlier comes before it
later_breaks : (u : Until) (R : List SourceEvent) (o : Object) (granule : ℕ) (earlier later : List SourceEvent) (d e : SourceEvent) (a b : Access)
    → R ≡ earlier ++ later → (x : AccessSet earlier o granule (view_until u) d a) → (y : AccessSet earlier o granule (view_until u) e b) → d.thread ≢ e.thread
    → Behind x.before d x.after y.before e y.after → Unbroken rule.ReadSharedOrOneThread u R → a.is_write || b.is_write ≡ false
later_breaks u R o granule earlier later d e a b parts x y other order h = no_conflict _ (λ w. both_ways _ quiet (conflicting u e.thread b d order.between (pair w)))
  where
    stands : Stands R y.before e (y.after ++ later)
    stands = parts ∙ ap (λ z. z ++ later) y.stands ∙ append_assoc y.before (e ∷ y.after) later

    at_place : beside Dynamic u y.before e.thread (of_access b) ≡ false
    at_place = subst (λ m. beside m u y.before e.thread (of_access b) ≡ false) y.is_dynamic (h y.before e (y.after ++ later) b stands y.access)

    quiet : pair_of (pair.Conflicts u e.thread (of_access b)) d order.between ≡ false
    quiet = at_each_pair (pair_of (pair.Conflicts u e.thread (of_access b))) y.before at_place x.before d order.between order.before

    pair : a.is_write || b.is_write ≡ true → Conflict u e.thread b d order.between
    pair w = record {
      access = a;
      is = x.access;
      other = other;
      mode = x.is_dynamic;
      object = x.object ∙ sym y.object;
      granule = x.granule_is ∙ sym y.granule_is;
      write = w;
      begun = front_none (begins b.cell.object) order.between (e ∷ y.after) (subst (λ z. list_any (begins z) (order.between ++ e ∷ y.after) ≡ false) (sym y.object) (ap (list_any (begins o)) (sym order.after) ∙ x.begun));
      ended = front_none (test_of (test.Ends u d.thread)) order.between (e ∷ y.after) (ap (list_any (test_of (test.Ends u d.thread))) (sym order.after) ∙ sym (own_any (λ x. ends (view_until u) x.act) d.thread x.after) ∙ x.ended);
    }

shared_is : (u : Until) (R : List SourceEvent) → Unbroken rule.ReadSharedOrOneThread u R ↔ ReadSharedOrOwn R (view_until u)
shared_is u R = (there_is_none, none_is_there)
  where
    there_is_none : Unbroken rule.ReadSharedOrOneThread u R → ReadSharedOrOwn R (view_until u)
    there_is_none h earlier later o granule d e a b parts x y other = by_order (in_order earlier x.before d x.after y.before e y.after x.stands y.stands)
      where
        by_order : Order x.before d x.after y.before e y.after → a.is_write || b.is_write ≡ false
        by_order (inl same) = absurd (other (ap (λ (z : SourceEvent). z.thread) same.event))
        by_order (inr (inl order)) = later_breaks u R o granule earlier later d e a b parts x y other order h
        by_order (inr (inr order)) = or_comm a.is_write b.is_write ∙ later_breaks u R o granule earlier later e d b a parts y x (λ i. other (sym i)) order h

    none_is_there : ReadSharedOrOwn R (view_until u) → Unbroken rule.ReadSharedOrOneThread u R
    none_is_there h before e after b stands is = beside_none b.mode u before e.thread b (λ m. from_each_pair (pair_of (pair.Conflicts u e.thread (of_access b))) before
        (λ first d between parts. no_conflict _ (λ t. refused m first d between parts (conflict u e.thread b d between t))))
      where
        refused : b.mode ≡ Dynamic → (first : List SourceEvent) (d : SourceEvent) (between : List SourceEvent) → Stands before first d between → Conflict u e.thread b d between → ⊥
        refused m first d between parts c =
            let p = plain e b is in
            let o = b.cell.object in
            let early : AccessSet (before ++ e ∷ []) o (granule_of b.cell) (view_until u) d c.access = record {
              before = first;
              after = between ++ e ∷ [];
              stands = ap (λ z. z ++ e ∷ []) parts ∙ append_assoc first (d ∷ between) (e ∷ []);
              access = c.is;
              object = c.object;
              granule_is = c.granule;
              is_dynamic = c.mode;
              begun = with_one (begins o) between e c.begun (p.begins_none o);
              ended = own_any (λ x. ends (view_until u) x.act) d.thread (between ++ e ∷ []) ∙ with_one (test_of (test.Ends u d.thread)) between e c.ended (and_right _ _ (p.ends_none (view_until u)));
            } in
            let late : AccessSet (before ++ e ∷ []) o (granule_of b.cell) (view_until u) e b = record {
              before = before;
              after = [];
              stands = refl;
              access = is;
              object = refl;
              granule_is = refl;
              is_dynamic = m;
              begun = refl;
              ended = refl;
            } in
            both_ways _ (h (before ++ e ∷ []) after o (granule_of b.cell) d e c.access b (stands ∙ sym (append_assoc before (e ∷ []) after)) early late c.other) c.write

-- ---- all

pub rule_is : HoldsUnbroken
rule_is rule.Live u R = live_is u R
rule_is rule.OneMode u R = one_mode_is u R
rule_is rule.Owner u R = owner_is u R
rule_is rule.NotWritten u R = unwritten_is u R
rule_is rule.UnderItsLock u R = under_lock_is u R
rule_is rule.ReadSharedOrOneThread u R = shared_is u R

pub holds_is : (rule : Rule) (u : Until) (R : List SourceEvent) (breaks : Bool) → breaks ≡ any_place (breaks_by rule u) [] R → (not breaks ≡ true) ↔ Holds R (view_until u) rule
holds_is rule u R breaks e =
    let r = rule_is rule u R in
    (λ h. r.0 (unbroken rule u R (sym e ∙ not-true _ h)), λ h. not_from_false _ (e ∙ found_unbroken rule u R (r.1 h)))
