-- Accesses of a granule by several threads: where no two so far conflict, the last write tells, and the reads since.
use Rattle.std.proofs.{Common.{◌≡◌, ◌⊎◌, inl, inr, ℕ, ◌+◌, ◌==◌, Bool, true, false, not, ◌&&◌, ◌||◌, List, [], length, Option, Some, None, refl, ap, sym, ◌∙◌, arith}, lemmas.Bool.{and_parts, and_from, and_cases, or_cases, or_from, or_left, or_right, not_from_false, not-true, not-false, both_ways, false_from_ne_true, eqb-true, eq-eqb}}
use Rattle.std.specs.List.{list_any}
use Rattle.sharc_tree.specs.{declared.event.Object.Object, declared.event.Object.TheVariants.{Global, Made}, declared.event.SourceEvent.SourceEvent}
use Rattle.sharc_meaning.specs.Events.{same_object, granule_of, Access, access_by, Stands}
use Rattle.sharc_judge.specs.{declared.access.CellAccess.CellAccess, declared.pair.Until.TheVariants.Return, Deciding.{is_dynamic, conflicts, test_of, any_pair, pair_of, view_access, of_access, beside}, Laws.{Unbroken, SameLaws}, declared.keys.GranuleKey.GranuleKey, declared.table.Noted.Noted, Latest.{latest_at, latest_about, last_begin, is_behind}, Reads.{same_granule, is_shared, is_write, reads_of, is_against, against_noted, against_write, against_reads}, Topics.granule_key}
use Rattle.sharc_judge.specs.declared.history.Test.TheVariants as test
use Rattle.sharc_judge.specs.declared.pair.Pair.TheVariants as pair
use Rattle.sharc_judge.specs.declared.rule.Rule.TheVariants as rule
use Rattle.sharc_judge.specs.declared.topics.Topic.TheVariants as topic
use Rattle.sharc_judge.proofs.{Alike.dynamic_is, About.{same_granules_on, about_shared, about_begin, about_return}, Latest.{IsLast, last_stands, none_meets, latest_same, latest_never, behind_is}, PlacePairs.{at_each_pair, from_each_pair, pair_found, Behind, Order, in_order, none_between, none_after, none_at}, Reading.{read_found, writes, read_is_there}}

pub last_begin_is : (o : Object) (R : List SourceEvent) → last_begin o R ≡ latest_at (test_of (test.Begins o)) R
last_begin_is (Global g) R = sym (latest_never (test_of (test.Begins (Global g))) R (λ e. refl))
last_begin_is (Made n) R = latest_same _ (test_of (test.Begins (Made n))) R (λ e. about_begin n e e.act)

all_true : (b : Bool) → (b && (true && true)) ≡ b
all_true true = refl
all_true false = refl

module _ (laws : SameLaws) (t : ℕ) (a : CellAccess) (R : List SourceEvent) (unbroken : Unbroken rule.ReadSharedOrOneThread Return R) where
  abbrev key : GranuleKey
  key = granule_key a.cell

  abbrev begins_again : SourceEvent → Bool
  begins_again = test_of (test.Begins a.cell.object)

  abbrev returns_of : ℕ → SourceEvent → Bool
  returns_of u = test_of (test.Ends Return u)

  abbrev against : Noted → Bool
  against = is_against t a R

  abbrev q : SourceEvent → List SourceEvent → Bool
  q = pair_of (pair.Conflicts Return t a)

  -- at its place an event that was noted is against this access as a pair says it
  against_is : (before : List SourceEvent) (d : SourceEvent) (after : List SourceEvent) (n : ℕ) → n ≡ length before → Stands R before d after → against (record { place = n; event = d }) ≡ q d after
  against_is before d after n place stands =
      ap (λ b. b && (is_behind n (last_begin a.cell.object R) && is_behind n (latest_about (topic.Return d.thread) R))) (all_true (not (d.thread == t) && conflicts (view_access a) (access_by d.act)))
      ∙ ap (λ b. (not (d.thread == t) && conflicts (view_access a) (access_by d.act)) && (b && is_behind n (latest_about (topic.Return d.thread) R))) begun
      ∙ ap (λ b. (not (d.thread == t) && conflicts (view_access a) (access_by d.act)) && (not (list_any begins_again after) && b)) ended
    where
      begun : is_behind n (last_begin a.cell.object R) ≡ not (list_any begins_again after)
      begun = ap (is_behind n) (last_begin_is a.cell.object R) ∙ ap (λ m. is_behind m (latest_at begins_again R)) place ∙ behind_is begins_again R before d after stands

      ended : is_behind n (latest_about (topic.Return d.thread) R) ≡ not (list_any (returns_of d.thread) after)
      ended =
          ap (is_behind n) (latest_same _ (returns_of d.thread) R (λ e. about_return d.thread e e.act))
          ∙ ap (λ m. is_behind m (latest_at (returns_of d.thread) R)) place
          ∙ behind_is (returns_of d.thread) R before d after stands

  -- ---- what is found is there

  found_write : (noted : Noted) → latest_at (writes key against) R ≡ Some noted → against noted ≡ true → any_pair q R ≡ true
  found_write noted h k =
      let s = last_stands (writes key against) R noted h in
      pair_found q R s.before noted.event s.after s.stands (sym (against_is s.before noted.event s.after noted.place (let p = s.place in omega (arith, p)) s.stands) ∙ k)

  found_read : list_any against (reads_of key R) ≡ true → any_pair q R ≡ true
  found_read h = elim (read_found key against 0 [] R h) [
    | inl k ↦ absurd (cc)
    | inr s ↦ pair_found q R s.before s.event s.after s.stands (sym (against_is s.before s.event s.after (0 + length s.before) (omega arith) s.stands) ∙ s.meets)
  ]

  -- ---- what is there is found

  -- an access that counts and must not be made beside this one
  record Conflict (d : SourceEvent) (after : List SourceEvent) : Type 0 where
    access : Access
    is : access_by d.act ≡ Some access
    other : (d.thread == t) ≡ false
    is_dynamic_at : is_dynamic access.mode ≡ true
    object : same_object access.cell.object a.cell.object ≡ true
    granule : (granule_of access.cell == granule_of a.cell) ≡ true
    written : (access.is_write || a.is_write) ≡ true
    begun : list_any begins_again after ≡ false
    ended : list_any (returns_of d.thread) after ≡ false

  conflict_of : (d : SourceEvent) (after : List SourceEvent) → q d after ≡ true → Conflict d after
  conflict_of d after h = by_access (access_by d.act) refl (and_parts _ _ parts.0).1
    where
      parts : ((not (d.thread == t) && conflicts (view_access a) (access_by d.act)) ≡ true) × ((not (list_any begins_again after) && not (list_any (returns_of d.thread) after)) ≡ true)
      parts = and_parts _ _ h

      by_access : (o : Option Access) → access_by d.act ≡ o → conflicts (view_access a) o ≡ true → Conflict d after
      by_access None i k = absurd (cc)
      by_access (Some x) i k =
          let p = and_parts (is_dynamic x.mode) _ k in
          let r = and_parts (same_object x.cell.object a.cell.object) _ p.1 in
          let g = and_parts (granule_of x.cell == granule_of a.cell) (x.is_write || a.is_write) r.1 in
          let ends = and_parts _ _ parts.1 in
          record {
            access = x;
            is = i;
            other = not-true _ (and_parts _ _ parts.0).0;
            is_dynamic_at = p.0;
            object = r.0;
            granule = g.0;
            written = g.1;
            begun = not-true _ ends.0;
            ended = not-true _ ends.1;
          }

  shared_by : (d : SourceEvent) (after : List SourceEvent) → Conflict d after → is_shared key (access_by d.act) ≡ true
  shared_by d after c =
      ap (is_shared key) c.is
      ∙ and_from (is_dynamic c.access.mode) (same_granule (granule_key c.access.cell) key) c.is_dynamic_at (same_granules_on c.access.cell a.cell ∙ and_from _ _ c.object c.granule)

  -- a read since the last write is found
  read_counts : (before : List SourceEvent) (d : SourceEvent) (after : List SourceEvent) → Stands R before d after → Conflict d after → q d after ≡ true → (writes key against d) ≡ false
      → list_any (writes key against) after ≡ false → (a.is_write && list_any against (reads_of key R)) ≡ false → ⊥
  read_counts before d after stands c h own quiet none =
      both_ways _ none
      (and_from a.is_write (list_any against (reads_of key R)) this
      (read_is_there key against R before d after stands (shared_by d after c) read quiet (against_is before d after (length before) refl stands ∙ h)))
    where
      read : is_write (access_by d.act) ≡ false
      read = elim (and_cases (is_shared key (access_by d.act)) (is_write (access_by d.act)) own) [ inl i ↦ absurd (both_ways _ i (shared_by d after c)) | inr i ↦ i ]

      this : a.is_write ≡ true
      this = elim (or_cases c.access.is_write a.is_write c.written) [ inl i ↦ absurd (both_ways _ (sym (ap is_write c.is) ∙ read) i) | inr i ↦ i ]

  -- an access before the last write that counts still is by the thread of that write
  module _ (noted : Noted) (s : IsLast (writes key against) 0 R noted) (b : List SourceEvent) (d : SourceEvent) (after : List SourceEvent) (c : Conflict d after) (o : Behind b d after s.before noted.event s.after) where
    write_counts : q noted.event s.after ≡ true
    write_counts = by_access (access_by noted.event.act) refl
      where
        meets : (is_shared key (access_by noted.event.act) ≡ true) × (is_write (access_by noted.event.act) ≡ true)
        meets = and_parts _ _ s.meets

        by_access : (z : Option Access) → access_by noted.event.act ≡ z → q noted.event s.after ≡ true
        by_access None i = let z : false ≡ true = sym (ap (is_shared key) i) ∙ meets.0 in absurd (cc)
        by_access (Some y) i =
            and_from _ _ (and_from _ _ (ap not own_thread ∙ ap not c.other) against_this)
            (and_from _ _ (not_from_false _ (none_after begins_again o.between noted.event s.after after o.after c.begun))
            (not_from_false _ (none_after (returns_of noted.event.thread) o.between noted.event s.after after o.after (ap (λ u. list_any (returns_of u) after) same_thread ∙ c.ended))))
          where
            shared : (is_dynamic y.mode ≡ true) × (same_granule (granule_key y.cell) key ≡ true)
            shared = and_parts _ _ (sym (ap (is_shared key) i) ∙ meets.0)

            written : y.is_write ≡ true
            written = sym (ap is_write i) ∙ meets.1

            places : (same_object y.cell.object a.cell.object ≡ true) × ((granule_of y.cell == granule_of a.cell) ≡ true)
            places = and_parts _ _ (sym (same_granules_on y.cell a.cell) ∙ shared.1)

            objects : c.access.cell.object ≡ y.cell.object
            objects = (laws.objects c.access.cell.object a.cell.object).0 c.object ∙ sym ((laws.objects y.cell.object a.cell.object).0 places.0)

            granules : granule_of c.access.cell ≡ granule_of y.cell
            granules = eqb-true _ _ c.granule ∙ sym (eqb-true _ _ places.1)

            against_this : conflicts (view_access a) (access_by noted.event.act) ≡ true
            against_this = ap (conflicts (view_access a)) i ∙ and_from _ _ shared.0 (and_from _ _ places.0 (and_from _ _ places.1 (or_left y.is_write a.is_write written)))

            old : any_pair (pair_of (pair.Conflicts Return noted.event.thread (of_access y))) s.before ≡ false
            old = sym (ap (λ m. beside m Return s.before noted.event.thread (of_access y)) (dynamic_is y.mode shared.0)) ∙ unbroken s.before noted.event s.after y s.stands i

            pair_y : pair_of (pair.Conflicts Return noted.event.thread (of_access y)) d o.between ≡ false
            pair_y = at_each_pair (pair_of (pair.Conflicts Return noted.event.thread (of_access y))) s.before old b d o.between o.before

            against_y : conflicts y (access_by d.act) ≡ true
            against_y =
                ap (conflicts y) c.is
                ∙ and_from _ _ c.is_dynamic_at
                (and_from _ _ ((laws.objects c.access.cell.object y.cell.object).1 objects) (and_from _ _ (eq-eqb _ _ granules) (or_right c.access.is_write y.is_write written)))

            begun_y : list_any (test_of (test.Begins y.cell.object)) o.between ≡ false
            begun_y =
                ap (λ (z : Object). list_any (test_of (test.Begins z)) o.between) ((laws.objects y.cell.object a.cell.object).0 places.0)
                ∙ none_between begins_again o.between noted.event s.after after o.after c.begun

            ended_y : list_any (returns_of d.thread) o.between ≡ false
            ended_y = none_between (returns_of d.thread) o.between noted.event s.after after o.after c.ended

            same : (d.thread == noted.event.thread) ≡ true
            same = by_first (and_cases _ _ pair_y)
              where
                by_second : (not (d.thread == noted.event.thread) ≡ false) ⊎ (conflicts y (access_by d.act) ≡ false) → (d.thread == noted.event.thread) ≡ true
                by_second (inl j) = not-false _ j
                by_second (inr j) = absurd (both_ways _ j against_y)

                by_first : ((not (d.thread == noted.event.thread) && conflicts y (access_by d.act)) ≡ false)
                    ⊎ ((not (list_any (test_of (test.Begins y.cell.object)) o.between) && not (list_any (returns_of d.thread) o.between)) ≡ false) → (d.thread == noted.event.thread) ≡ true
                by_first (inl j) = by_second (and_cases _ _ j)
                by_first (inr j) = absurd (both_ways _ j (and_from _ _ (not_from_false _ begun_y) (not_from_false _ ended_y)))

            same_thread : noted.event.thread ≡ d.thread
            same_thread = sym (eqb-true _ _ same)

            own_thread : (noted.event.thread == t) ≡ (d.thread == t)
            own_thread = ap (λ u. u == t) same_thread

  none_found : (z : Option Noted) → latest_at (writes key against) R ≡ z → against_noted t a R z ≡ false → (a.is_write && list_any against (reads_of key R)) ≡ false → any_pair q R ≡ false
  none_found None h k none =
      from_each_pair q R
      (λ b d after is.
      false_from_ne_true _
      (λ j.
      read_counts b d after is (conflict_of d after j) j (none_at (writes key against) b d after R is (none_meets (writes key against) R h))
      (none_after (writes key against) b d after R is (none_meets (writes key against) R h)) none))
  none_found (Some noted) h k none = from_each_pair q R (λ b d after is. false_from_ne_true _ (λ j. by_order b d after is j (in_order R b d after s.before noted.event s.after is s.stands)))
    where
      s : IsLast (writes key against) 0 R noted
      s = last_stands (writes key against) R noted h

      is_noted : against noted ≡ q noted.event s.after
      is_noted = against_is s.before noted.event s.after noted.place (let p = s.place in omega (arith, p)) s.stands

      by_order : (b : List SourceEvent) (d : SourceEvent) (after : List SourceEvent) → Stands R b d after → q d after ≡ true → Order b d after s.before noted.event s.after → ⊥
      by_order b d after is j (inl o) = both_ways _ k (is_noted ∙ ap (λ z. q z s.after) (sym o.event) ∙ ap (q d) (sym o.after) ∙ j)
      by_order b d after is j (inr (inl o)) = both_ways _ k (is_noted ∙ write_counts noted s b d after (conflict_of d after j) o)
      by_order b d after is j (inr (inr o)) =
          read_counts b d after is (conflict_of d after j) j (none_at (writes key against) o.between d after s.after o.after s.none) (none_after (writes key against) o.between d after s.after o.after s.none) none

  pub beside_is : (against_write t a R || (a.is_write && against_reads t a R)) ≡ any_pair (pair_of (pair.Conflicts Return t a)) R
  beside_is =
      ap (λ z. against_noted t a R z || (a.is_write && list_any against (reads_of key R))) (latest_same _ (writes key against) R (λ e. about_shared key e e.act))
      ∙ by_case (latest_at (writes key against) R) refl (a.is_write && list_any against (reads_of key R)) refl
    where
      by_case : (z : Option Noted) → latest_at (writes key against) R ≡ z → (r : Bool) → (a.is_write && list_any against (reads_of key R)) ≡ r → (against_noted t a R z || r) ≡ any_pair q R
      by_case None h true k = sym (found_read (and_parts a.is_write _ k).1)
      by_case None h false k = sym (none_found None h refl k)
      by_case (Some noted) h r k = by_noted r k (against noted) refl
        where
          by_noted : (r : Bool) → (a.is_write && list_any against (reads_of key R)) ≡ r → (w : Bool) → against noted ≡ w → (against noted || r) ≡ any_pair q R
          by_noted r k true i = or_left (against noted) r i ∙ sym (found_write noted h i)
          by_noted true k false i = or_right (against noted) true refl ∙ sym (found_read (and_parts a.is_write _ k).1)
          by_noted false k false i = or_from (against noted) false i refl ∙ sym (none_found (Some noted) h i k)
