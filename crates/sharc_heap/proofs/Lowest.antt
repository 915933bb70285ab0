-- The lowest other thread, and conflicts as a test.
use Rattle.sharc_heap.proofs.{Imports.{◌≡◌, ◌≢◌, ℕ, ◌+◌, ◌<◌, ◌≤◌, zero, suc, ◌==◌, ◌&&◌, Bool, true, false, not, Option, Some, None, is_some, IsTrue, ◌↔◌, refl, sym, ap, ◌∙◌, inl, inr, arith, Decides, if◌then◌else◌, cases_eq, cases_lt, cases_Bool, eq-eqb, ne_eqb, and_parts, false≢true, true≢false, same_from_decides, Decides-and, Decides-like, Kind, Read, Write, stands, is_written, is_of, epoch_of, IsOther, HasOther, IsFirstOther, Conflicts, lowest_from, lowest_other, conflicts_in, first_in, and_false, if_false, if_true, and_true, some_is_not_none, some_or_none}, Sets.stands_above, Conflict.other_of_conflict}

-- the test of one thread
abbrev test : ℕ → ℕ → ℕ → Bool
test word thread k = stands word k && not (k == thread)

test_true : (word thread k : ℕ) → IsOther word thread k → test word thread k ≡ true
test_true word thread k is = ap (λ x. x && not (k == thread)) is.stood ∙ ap not (ne_eqb k thread is.another)

other_of_test : (word thread k : ℕ) → test word thread k ≡ true → IsOther word thread k
other_of_test word thread k passes =
    let both = and_parts (stands word k) (not (k == thread)) passes in
    record {
      another = λ e. false≢true (sym (ap not (eq-eqb k thread e)) ∙ both.1);
      stood = both.0;
    }

-- a thread below the lowest other one fails it
test_below : (word thread other k : ℕ) → IsFirstOther word thread other → k < other → test word thread k ≡ false
test_below word thread other k first below =
    elim (cases_eq k thread) [
      | inl same ↦ ap (λ x. stands word k && not x) (eq-eqb k thread same) ∙ and_false (stands word k)
      | inr apart ↦ ap (λ x. x && not (k == thread)) (first.lowest k below apart)
    ]

-- a bit that is set is that of a thread that there is
stands_low : (word k : ℕ) → stands word k ≡ true → k < 31
stands_low word k stood = elim (cases_lt k 31) [ inl below ↦ below | inr above ↦ absurd (false≢true (sym (stands_above word k above) ∙ stood)) ]

finds : (word thread other more first : ℕ) → IsFirstOther word thread other → first ≤ other → other < first + more → lowest_from word thread first more ≡ Some other
unfolding lowest_from
finds word thread other zero first is from before = absurd (omega arith)
finds word thread other (suc more) first is from before =
    elim (cases_eq first other) [
      | inl same ↦ if_true (test word thread first) (Some first) (lowest_from word thread (suc first) more) (ap (test word thread) same ∙ test_true word thread other is.is) ∙ ap (λ k. Some k) same
      | inr apart ↦
          if_false (test word thread first) (Some first) (lowest_from word thread (suc first) more) (test_below word thread other first is (omega arith))
          ∙ finds word thread other more (suc first) is (omega arith) (omega arith)
    ]

-- where the bit of another thread is set, one is found
finds_some : (word thread other more first : ℕ) → IsOther word thread other → first ≤ other → other < first + more → is_some (lowest_from word thread first more) ≡ true
unfolding lowest_from
finds_some word thread other zero first is from before = absurd (omega arith)
finds_some word thread other (suc more) first is from before =
    elim (cases_Bool (test word thread first)) [
      | inl passes ↦ ap (λ (o : Option ℕ). is_some o) (if_true (test word thread first) (Some first) (lowest_from word thread (suc first) more) passes)
      | inr fails ↦
          let apart : first ≢ other = (λ e. true≢false (sym (test_true word thread other is) ∙ ap (test word thread) (sym e) ∙ fails)) in
          ap (λ (o : Option ℕ). is_some o) (if_false (test word thread first) (Some first) (lowest_from word thread (suc first) more) fails) ∙ finds_some word thread other more (suc first) is (omega arith) (omega arith)
    ]

not_standing : (word thread k : ℕ) → test word thread k ≡ false → k ≢ thread → stands word k ≡ false
not_standing word thread k fails apart = sym (and_true (stands word k)) ∙ ap (λ x. stands word k && not x) (sym (ne_eqb k thread apart)) ∙ fails

-- what is found is the lowest
found_is : (word thread other more first : ℕ) → ((k : ℕ) → k < first → test word thread k ≡ false) → lowest_from word thread first more ≡ Some other → IsFirstOther word thread other
unfolding lowest_from
found_is word thread other zero first below found = absurd cc
found_is word thread other (suc more) first below found =
    elim (cases_Bool (test word thread first)) [
      | inl passes ↦
          let here : Some first ≡ Some other = sym (if_true (test word thread first) (Some first) (lowest_from word thread (suc first) more) passes) ∙ found in
          let same : first ≡ other = cc in
          record {
            is = other_of_test word thread other (ap (test word thread) (sym same) ∙ passes);
            lowest = λ k lt apart. not_standing word thread k (below k (omega arith)) apart;
          }
      | inr fails ↦
          let later : lowest_from word thread (suc first) more ≡ Some other = sym (if_false (test word thread first) (Some first) (lowest_from word thread (suc first) more) fails) ∙ found in
          let all : (k : ℕ) → k < suc first → test word thread k ≡ false = (λ k lt. elim (cases_eq k first) [ inl same ↦ ap (test word thread) same ∙ fails | inr apart ↦ below k (omega arith) ]) in
          found_is word thread other more (suc first) all later
    ]

pub found_lowest : (word thread other : ℕ) → lowest_other word thread ≡ Some other → IsFirstOther word thread other
unfolding lowest_other
found_lowest word thread other found = found_is word thread other 31 0 (λ k lt. absurd (omega arith)) found

pub lowest_is : (word thread other : ℕ) → IsFirstOther word thread other → lowest_other word thread ≡ Some other
unfolding lowest_other
lowest_is word thread other is = finds word thread other 31 0 is (omega arith) (let low = stands_low word other is.is.stood in omega arith)

found_some : (word thread other : ℕ) → IsOther word thread other → is_some (lowest_other word thread) ≡ true
unfolding lowest_other
found_some word thread other is = finds_some word thread other 31 0 is (omega arith) (let low = stands_low word other is.stood in omega arith)

has_other : (word thread : ℕ) → Decides (is_some (lowest_other word thread)) (HasOther word thread)
has_other word thread = (
  λ some. let o = some_or_none (lowest_other word thread) some in (o.0, (found_lowest word thread o.0 o.1).is),
  λ there. found_some word thread there.0 there.1,
)

pub has_other_is : (word thread : ℕ) (r : Bool) → (IsTrue r ↔ HasOther word thread) → r ≡ is_some (lowest_other word thread)
has_other_is word thread r h = same_from_decides r (is_some (lowest_other word thread)) (from_true r h) (has_other word thread)
  where
    from_true : (r : Bool) → (IsTrue r ↔ HasOther word thread) → Decides r (HasOther word thread)
    from_true r h = (h.0, h.1)

-- ---- conflicts
pub decides : (old thread : ℕ) (kind : Kind) (wrote : Option ℕ) → Decides (conflicts_in old thread kind wrote) (Conflicts old thread kind wrote)
unfolding conflicts_in
decides old thread Write wrote = has_other old thread
decides old thread Read wrote = Decides-like (is_some (lowest_other old thread) && (is_written old && not (is_of wrote (epoch_of old))))
    (λ (h : HasOther old thread × ((is_written old ≡ true) × (is_of wrote (epoch_of old) ≡ false))). (h.0, h.1.0, h.1.1))
    (λ h. (h.0, (h.1, h.2)))
    (Decides-and (is_some (lowest_other old thread)) (is_written old && not (is_of wrote (epoch_of old))) (has_other old thread)
    (Decides-and (is_written old) (not (is_of wrote (epoch_of old))) ((λ e. e), (λ e. e)) (not_is (is_of wrote (epoch_of old)))))
  where
    not_is : (b : Bool) → Decides (not b) (b ≡ false)
    not_is true = ((λ e. sym e), (λ e. sym e))
    not_is false = ((λ e. refl), (λ e. refl))

-- ---- the first of a conflict
pub first_found : (old thread other : ℕ) (kind : Kind) (wrote : Option ℕ) → conflicts_in old thread kind wrote ≡ true → IsFirstOther old thread other → Some other ≡ first_in old thread kind wrote
unfolding first_in
first_found old thread other kind wrote conflict is = sym (if_true (conflicts_in old thread kind wrote) (lowest_other old thread) None conflict ∙ lowest_is old thread other is)

pub first_none : (old thread : ℕ) (kind : Kind) (wrote : Option ℕ) → conflicts_in old thread kind wrote ≡ false → None ≡ first_in old thread kind wrote
unfolding first_in
first_none old thread kind wrote peace = sym (if_false (conflicts_in old thread kind wrote) (lowest_other old thread) None peace)

first_of_conflict : (old thread : ℕ) (kind : Kind) (wrote : Option ℕ) → conflicts_in old thread kind wrote ≡ true → first_in old thread kind wrote ≡ lowest_other old thread
unfolding first_in
first_of_conflict old thread kind wrote conflict = if_true (conflicts_in old thread kind wrote) (lowest_other old thread) None conflict

pub first_in_is_first : (old thread other : ℕ) (kind : Kind) (wrote : Option ℕ) → (first_in old thread kind wrote ≡ Some other) ↔ (Conflicts old thread kind wrote × IsFirstOther old thread other)
first_in_is_first old thread other kind wrote = (
  λ found. elim (cases_Bool (conflicts_in old thread kind wrote)) [
    | inl conflict ↦ ((decides old thread kind wrote).0 conflict, found_lowest old thread other (sym (first_of_conflict old thread kind wrote conflict) ∙ found))
    | inr peace ↦ absurd (some_is_not_none other (first_none old thread kind wrote peace ∙ found))
  ],
  λ both. sym (first_found old thread other kind wrote ((decides old thread kind wrote).1 both.0) both.1),
)

pub no_first_without_conflict : (old thread : ℕ) (kind : Kind) (wrote : Option ℕ) → (first_in old thread kind wrote ≡ None) ↔ (¬ Conflicts old thread kind wrote)
no_first_without_conflict old thread kind wrote = (
  λ found there.
      let conflict = (decides old thread kind wrote).1 there in
      let o = some_or_none (lowest_other old thread) (found_some old thread (other_of_conflict old thread kind wrote there).0 (other_of_conflict old thread kind wrote there).1) in
      some_is_not_none o.0 (sym found ∙ first_of_conflict old thread kind wrote conflict ∙ o.1),
  λ never. elim (cases_Bool (conflicts_in old thread kind wrote)) [
    | inl conflict ↦ absurd (never ((decides old thread kind wrote).0 conflict))
    | inr peace ↦ sym (first_none old thread kind wrote peace)
  ],
)
