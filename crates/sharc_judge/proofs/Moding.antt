-- The mode of a cell: where no access so far was under another mode, the last one tells.
use Rattle.std.proofs.{Common.{◌≡◌, inl, inr, Bool, true, false, not, ◌&&◌, List, ◌∷◌, ◌++◌, Option, Some, None, refl, ap, sym, subst, ◌∙◌, arith}, lemmas.Bool.{and_parts, and_from, and_cases, and_left, and_right, not_from_true, not_from_false, not-false, both_ways, false_from_ne_true}}
use Rattle.std.specs.List.{list_any}
use Rattle.sharc_tree.specs.{declared.event.CellAt.CellAt, declared.event.Object.Object, declared.event.Object.TheVariants.{Global, Made}, declared.event.SourceEvent.SourceEvent}
use Rattle.sharc_meaning.specs.Events.{same_cell, Access, access_by, Stands}
use Rattle.sharc_judge.specs.{declared.access.CellAccess.CellAccess, declared.pair.Until.TheVariants.Return, Deciding.{same_mode, disagrees, test_of, any_pair, pair_of, view_access, of_access}, Laws.{Unbroken, SameLaws}, declared.table.Noted.Noted, Latest.{latest_at, latest_about, last_period, is_behind}, Topics.cell_key}
use Rattle.sharc_judge.specs.declared.history.Test.TheVariants as test
use Rattle.sharc_judge.specs.declared.pair.Pair.TheVariants as pair
use Rattle.sharc_judge.specs.declared.rule.Rule.TheVariants as rule
use Rattle.sharc_judge.specs.declared.topics.Topic.TheVariants as topic
use Rattle.sharc_judge.proofs.{About.{is_access_of, about_access, about_period}, Latest.{IsLast, last_stands, none_meets, latest_same, latest_never, behind_is}, PlacePairs.{at_each_pair, from_each_pair, pair_found, Order, in_order, none_between, none_after, none_at}}

pub last_period_is : (o : Object) (R : List SourceEvent) → last_period o R ≡ latest_at (test_of (test.BeginsOrFrees o)) R
last_period_is (Global g) R = sym (latest_never (test_of (test.BeginsOrFrees (Global g))) R (λ e. refl))
last_period_is (Made n) R = latest_same _ (test_of (test.BeginsOrFrees (Made n))) R (λ e. about_period n e e.act)

abbrev pub other_mode : CellAccess → Option Noted → Option Noted → Bool
other_mode a None period = false
other_mode a (Some noted) period = disagrees (view_access a) (access_by noted.event.act) && is_behind noted.place period

module _ (laws : SameLaws) (a : CellAccess) (R : List SourceEvent) (unbroken : Unbroken rule.OneMode Return R) where
  abbrev of_cell : SourceEvent → Bool
  of_cell e = is_access_of a.cell (access_by e.act)

  abbrev again : SourceEvent → Bool
  again = test_of (test.BeginsOrFrees a.cell.object)

  abbrev q : SourceEvent → List SourceEvent → Bool
  q = pair_of (pair.OtherMode a)

  -- an access of the cell that disagrees is one of the cell
  is_of : (d : SourceEvent) → disagrees (view_access a) (access_by d.act) ≡ true → of_cell d ≡ true
  is_of d h = by_access (access_by d.act) h
    where
      by_access : (o : Option Access) → disagrees (view_access a) o ≡ true → is_access_of a.cell o ≡ true
      by_access None h = absurd (cc)
      by_access (Some b) h = (laws.cells a.cell b.cell).1 (sym ((laws.cells b.cell a.cell).0 (and_parts (same_cell b.cell a.cell) (not (same_mode b.mode a.mode)) h).0))

  -- two accesses of the cell, of which the later agrees with this one, and the earlier agrees with the later
  agrees : (d e : SourceEvent) (before between : List SourceEvent) → of_cell e ≡ true → disagrees (view_access a) (access_by e.act) ≡ false
      → ((b : Access) → access_by e.act ≡ Some b → any_pair (pair_of (pair.OtherMode (of_access b))) (before ++ d ∷ between) ≡ false)
      → list_any again between ≡ false → disagrees (view_access a) (access_by d.act) ≡ false
  agrees d e before between own same old quiet = by_later (access_by e.act) refl
    where
      by_later : (o : Option Access) → access_by e.act ≡ o → disagrees (view_access a) (access_by d.act) ≡ false
      by_later None i = let z : false ≡ true = sym (ap (is_access_of a.cell) i) ∙ own in absurd (cc)
      by_later (Some b) i = by_earlier (access_by d.act) refl
        where
          cells : a.cell ≡ b.cell
          cells = (laws.cells a.cell b.cell).0 (sym (ap (is_access_of a.cell) i) ∙ own)

          modes : b.mode ≡ a.mode
          modes = elim (and_cases (same_cell b.cell a.cell) (not (same_mode b.mode a.mode)) (sym (ap (disagrees (view_access a)) i) ∙ same)) [
            | inl j ↦ absurd (both_ways (same_cell b.cell a.cell) j ((laws.cells b.cell a.cell).1 (sym cells)))
            | inr j ↦ (laws.modes b.mode a.mode).0 (not-false (same_mode b.mode a.mode) j)
          ]

          quiet_b : list_any (test_of (test.BeginsOrFrees b.cell.object)) between ≡ false
          quiet_b = subst (λ (c : CellAt). list_any (test_of (test.BeginsOrFrees c.object)) between ≡ false) cells quiet

          pair_b : pair_of (pair.OtherMode (of_access b)) d between ≡ false
          pair_b = at_each_pair (pair_of (pair.OtherMode (of_access b))) (before ++ d ∷ between) (old b i) before d between refl

          agrees_b : disagrees b (access_by d.act) ≡ false
          agrees_b = elim (and_cases (disagrees b (access_by d.act)) (not (list_any (test_of (test.BeginsOrFrees b.cell.object)) between)) pair_b) [
            | inl j ↦ j
            | inr j ↦ absurd (both_ways _ j (not_from_false _ quiet_b))
          ]

          by_earlier : (o : Option Access) → access_by d.act ≡ o → disagrees (view_access a) (access_by d.act) ≡ false
          by_earlier None j = ap (disagrees (view_access a)) j
          by_earlier (Some x) j =
              ap (disagrees (view_access a)) j
              ∙ ap (λ (c : CellAt). same_cell x.cell c && not (same_mode x.mode a.mode)) cells
              ∙ ap (λ z. same_cell x.cell b.cell && not (same_mode x.mode z)) (sym modes)
              ∙ sym (ap (disagrees b) j) ∙ agrees_b

  -- what is not found is not there
  none_found : (o : Option Noted) → latest_at of_cell R ≡ o → other_mode a o (latest_at again R) ≡ false → any_pair q R ≡ false
  none_found None h k = from_each_pair q R (λ b d after is. none d (none_at of_cell b d after R is (none_meets of_cell R h)) after)
    where
      none : (d : SourceEvent) → of_cell d ≡ false → (after : List SourceEvent) → q d after ≡ false
      none d i after = and_left (disagrees (view_access a) (access_by d.act)) _ (false_from_ne_true _ (λ j. both_ways (of_cell d) i (is_of d j)))
  none_found (Some noted) h k = from_each_pair q R each
    where
      s : IsLast of_cell 0 R noted
      s = last_stands of_cell R noted h

      behind : is_behind noted.place (latest_at again R) ≡ not (list_any again s.after)
      behind = ap (λ n. is_behind n (latest_at again R)) (let p = s.place in omega (arith, p)) ∙ behind_is again R s.before noted.event s.after s.stands

      each : (b : List SourceEvent) (d : SourceEvent) (after : List SourceEvent) → Stands R b d after → q d after ≡ false
      each b d after is = by_quiet (list_any again after) refl
        where
          by_quiet : (t : Bool) → list_any again after ≡ t → q d after ≡ false
          by_quiet true i = and_right (disagrees (view_access a) (access_by d.act)) _ (not_from_true _ i)
          by_quiet false i = and_left (disagrees (view_access a) (access_by d.act)) _ (by_order (in_order R b d after s.before noted.event s.after is s.stands))
            where
              later_agrees : list_any again s.after ≡ false → disagrees (view_access a) (access_by noted.event.act) ≡ false
              later_agrees j = elim (and_cases _ _ k) [ inl l ↦ l | inr l ↦ absurd (both_ways _ (sym behind ∙ l) (not_from_false _ j)) ]

              by_order : Order b d after s.before noted.event s.after → disagrees (view_access a) (access_by d.act) ≡ false
              by_order (inl o) = ap (λ (z : SourceEvent). disagrees (view_access a) (access_by z.act)) o.event ∙ later_agrees (subst (λ z. list_any again z ≡ false) o.after i)
              by_order (inr (inl o)) =
                  agrees d noted.event b o.between s.meets (later_agrees (none_after again o.between noted.event s.after after o.after i))
                  (λ x j. subst (λ z. any_pair (pair_of (pair.OtherMode (of_access x))) z ≡ false) o.before (unbroken s.before noted.event s.after x s.stands j))
                  (none_between again o.between noted.event s.after after o.after i)
              by_order (inr (inr o)) = false_from_ne_true _ (λ j. both_ways (of_cell d) (none_at of_cell o.between d after s.after o.after s.none) (is_of d j))

  -- what is found is there
  found : (o : Option Noted) → latest_at of_cell R ≡ o → other_mode a o (latest_at again R) ≡ true → any_pair q R ≡ true
  found None h k = absurd (cc)
  found (Some noted) h k =
      let s = last_stands of_cell R noted h in
      let behind : is_behind noted.place (latest_at again R) ≡ not (list_any again s.after) =
      ap (λ n. is_behind n (latest_at again R)) (let p = s.place in omega (arith, p)) ∙ behind_is again R s.before noted.event s.after s.stands in
      let both = and_parts _ _ k in
      pair_found q R s.before noted.event s.after s.stands (and_from _ _ both.0 (sym behind ∙ both.1))

  pub mode_is : other_mode a (latest_about (topic.Access (cell_key a.cell)) R) (last_period a.cell.object R) ≡ any_pair q R
  mode_is =
      ap (λ z. other_mode a z (last_period a.cell.object R)) (latest_same _ of_cell R (λ e. about_access a.cell e e.act))
      ∙ ap (other_mode a (latest_at of_cell R)) (last_period_is a.cell.object R)
      ∙ by_case (other_mode a (latest_at of_cell R) (latest_at again R)) refl
    where
      by_case : (t : Bool) → other_mode a (latest_at of_cell R) (latest_at again R) ≡ t → other_mode a (latest_at of_cell R) (latest_at again R) ≡ any_pair q R
      by_case true i = i ∙ sym (found (latest_at of_cell R) refl i)
      by_case false i = i ∙ sym (none_found (latest_at of_cell R) refl i)
