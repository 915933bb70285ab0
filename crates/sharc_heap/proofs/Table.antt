-- What one note makes of a table.
use Rattle.sharc_heap.proofs.Imports.{◌≡◌, ◌≢◌, ℕ, ◌+◌, ◌<◌, ◌∷◌, [], ◌++◌, Bool, true, false, List, Some, None, is_some, cond, length, get_or, set, refl, sym, ap, ◌∙◌, inl, inr, arith, if◌then◌else◌, get_or-set_same, get_or-set_other, get_or_default, length_push, length-set, sum_by-set, count_by-le-length, Contains-get_or, Contains-append_left, Contains-push, Contains-push_cases, all_pairs_push, cases_eq, cases_Bool, true≢false, or_right, count_by, Kind, Read, Write, Note, GranuleNotes, blank, of_kind, with_note, has_note, Accesses, is_noted, NotesAccess, ListsNoted, IsTable, noted_in}

-- a granule with a note has one after the next, too
pub has_with_note : (kind : Kind) (note : Note) (row : GranuleNotes) → has_note (with_note kind note row) ≡ true
has_with_note Read note row = refl
has_with_note Write note row = or_right (is_some row.read) true refl

pub same_kind : (kind : Kind) (note : Note) (row : GranuleNotes) → of_kind kind (with_note kind note row) ≡ Some note
same_kind Read note row = refl
same_kind Write note row = refl

pub other_kind : (kind k : Kind) (note : Note) (row : GranuleNotes) → k ≢ kind → of_kind k (with_note kind note row) ≡ of_kind k row
other_kind Read Read note row other = absurd (other refl)
other_kind Read Write note row other = refl
other_kind Write Read note row other = refl
other_kind Write Write note row other = absurd (other refl)

-- the order after a note
abbrev order_after : List GranuleNotes → List ℕ → ℕ → List ℕ
order_after notes order granule = if is_noted notes granule then order else order ++ granule ∷ []

-- a note of a granule counts it, unless it was counted
count_after : (notes : List GranuleNotes) (granule : ℕ) (row : GranuleNotes) → granule < length notes → has_note row ≡ true → count_by has_note (set notes granule row) + cond (is_noted notes granule) 1 0 ≡ count_by has_note notes + 1
count_after notes granule row within noted =
    sum_by-set (λ x. cond (has_note x) 1 0) notes granule row blank within ∙ ap (λ b. count_by has_note notes + cond b 1 0) noted

count_again : (notes : List GranuleNotes) (granule : ℕ) (row : GranuleNotes) → granule < length notes → has_note row ≡ true → is_noted notes granule ≡ true → count_by has_note (set notes granule row) ≡ count_by has_note notes
count_again notes granule row within noted before =
    let e : count_by has_note (set notes granule row) + 1 ≡ count_by has_note notes + 1 = sym (ap (λ b. count_by has_note (set notes granule row) + cond b 1 0) before) ∙ count_after notes granule row within noted in
    omega arith

count_new : (notes : List GranuleNotes) (granule : ℕ) (row : GranuleNotes) → granule < length notes → has_note row ≡ true → is_noted notes granule ≡ false → count_by has_note (set notes granule row) ≡ count_by has_note notes + 1
count_new notes granule row within noted new =
    let e : count_by has_note (set notes granule row) + 0 ≡ count_by has_note notes + 1 = sym (ap (λ b. count_by has_note (set notes granule row) + cond b 1 0) new) ∙ count_after notes granule row within noted in
    omega arith

pub room_for_new : (notes : List GranuleNotes) (order : List ℕ) (room granule : ℕ) → IsTable notes order room → granule < length notes → is_noted notes granule ≡ false → length order < room
room_for_new notes order room granule is within new =
    let row : GranuleNotes = record { read = Some record { epoch = 0; site = 0 }; write = None } in
    let more = count_new notes granule row within refl new in
    let most = count_by-le-length has_note (set notes granule row) in
    let same = length-set notes granule row in
    let counted = is.counted in
    let room_for_all = is.room_for_all in
    omega arith

-- the row that is read says whether the granule was noted
pub noted_by_row : (notes : List GranuleNotes) (granule : ℕ) (had : GranuleNotes) → granule < length notes → had ≡ get_or notes granule had → had ≡ get_or notes granule blank
noted_by_row notes granule had within read = read ∙ get_or_default notes granule had blank within

-- what is noted after a note
noted_same : (notes : List GranuleNotes) (granule : ℕ) (row : GranuleNotes) → granule < length notes → has_note row ≡ true → is_noted (set notes granule row) granule ≡ true
noted_same notes granule row within noted = ap has_note (get_or-set_same notes granule row blank within) ∙ noted

noted_other : (notes : List GranuleNotes) (granule g : ℕ) (row : GranuleNotes) → g ≢ granule → is_noted (set notes granule row) g ≡ is_noted notes g
noted_other notes granule g row other = ap has_note (get_or-set_other notes granule g row blank other)

-- the order goes on where the granule was noted, and where it was not
lists_again : (notes : List GranuleNotes) (order : List ℕ) (granule : ℕ) (row : GranuleNotes) → ListsNoted record { notes = notes; order = order } → granule < length notes → has_note row ≡ true → is_noted notes granule ≡ true → ListsNoted record { notes = set notes granule row; order = order }
lists_again notes order granule row lists within noted before = record {
  all = λ g is. elim (cases_eq g granule) [
    | inl same ↦ rw same (lists.all granule before)
    | inr other ↦ lists.all g (sym (noted_other notes granule g row other) ∙ is)
  ];
  only = λ g has. elim (cases_eq g granule) [
    | inl same ↦ rw same (noted_same notes granule row within noted)
    | inr other ↦ noted_other notes granule g row other ∙ lists.only g has
  ];
  once = lists.once;
}

lists_new : (notes : List GranuleNotes) (order : List ℕ) (granule : ℕ) (row : GranuleNotes) → ListsNoted record { notes = notes; order = order } → granule < length notes → has_note row ≡ true → is_noted notes granule ≡ false → ListsNoted record { notes = set notes granule row; order = order ++ granule ∷ [] }
lists_new notes order granule row lists within noted new = record {
  all = λ g is. elim (cases_eq g granule) [
    | inl same ↦ rw same (Contains-push order granule)
    | inr other ↦ Contains-append_left order (granule ∷ []) g (lists.all g (sym (noted_other notes granule g row other) ∙ is))
  ];
  only = λ g has. elim (Contains-push_cases order granule g has) [
    | inl had ↦ elim (cases_eq g granule) [
      | inl same ↦ rw same (noted_same notes granule row within noted)
      | inr other ↦ noted_other notes granule g row other ∙ lists.only g had
    ]
    | inr last ↦ rw (← last) (noted_same notes granule row within noted)
  ];
  once = all_pairs_push (λ a b. a ≢ b) order granule lists.once (λ k d below same.
      true≢false (sym (lists.only granule (rw same at (Contains-get_or order k d below))) ∙ new));
}

pub is_table_after : (notes : List GranuleNotes) (order : List ℕ) (room granule : ℕ) (row : GranuleNotes) → IsTable notes order room → granule < length notes → has_note row ≡ true → IsTable (set notes granule row) (order_after notes order granule) room
is_table_after notes order room granule row is within noted = record {
  lists = elim (cases_Bool (is_noted notes granule)) [
    | inl before ↦ rw before (lists_again notes order granule row is.lists within noted before)
    | inr new ↦ rw new (lists_new notes order granule row is.lists within noted new)
  ];
  counted = elim (cases_Bool (is_noted notes granule)) [
    | inl before ↦ rw before (is.counted ∙ sym (count_again notes granule row within noted before))
    | inr new ↦ rw new (length_push order granule ∙ ap (λ n. n + 1) is.counted ∙ sym (count_new notes granule row within noted new))
  ];
  small = let same = length-set notes granule row in let s = is.small in omega arith;
  room_for_all = let same = length-set notes granule row in let s = is.room_for_all in omega arith;
}

pub notes_access : (notes : List GranuleNotes) (order : List ℕ) (granule : ℕ) (kind : Kind) (note : Note) (had : GranuleNotes) → granule < length notes → had ≡ get_or notes granule had → NotesAccess record { notes = notes; order = order } record { notes = set notes granule (with_note kind note had); order = order_after notes order granule } granule kind note
notes_access notes order granule kind note had within read = record {
  at = ap (of_kind kind) (get_or-set_same notes granule (with_note kind note had) blank within) ∙ same_kind kind note had;
  other_kind = λ k other. ap (of_kind k) (get_or-set_same notes granule (with_note kind note had) blank within) ∙ other_kind kind k note had other ∙ ap (of_kind k) (noted_by_row notes granule had within read);
  other_granules = λ g k other. ap (of_kind k) (get_or-set_other notes granule g (with_note kind note had) blank other);
  granules = length-set notes granule (with_note kind note had);
  order = refl;
}

-- a note, as the code makes it: a row is read, the order goes on, and the row is written
pub record IsStep (notes : List GranuleNotes) (order : List ℕ) (granule : ℕ) (kind : Kind) (note : Note) (had row : GranuleNotes) (noted : Bool) (order_now : List ℕ) : Type 0 where
  pub within : granule < length notes
  pub read : had ≡ get_or notes granule had
  pub tested : noted ≡ has_note had
  pub made : row ≡ with_note kind note had
  pub listed : order_now ≡ (if noted then order else order ++ granule ∷ [])

pub test_is : (notes : List GranuleNotes) (granule : ℕ) (had : GranuleNotes) (noted : Bool) → granule < length notes → had ≡ get_or notes granule had → noted ≡ has_note had → noted ≡ is_noted notes granule
test_is notes granule had noted within read tested = tested ∙ ap has_note (noted_by_row notes granule had within read)

order_is : (notes : List GranuleNotes) (order : List ℕ) (granule : ℕ) (kind : Kind) (note : Note) (had row : GranuleNotes) (noted : Bool) (order_now : List ℕ) → IsStep notes order granule kind note had row noted order_now → order_now ≡ order_after notes order granule
order_is notes order granule kind note had row noted order_now step =
    step.listed ∙ ap (λ b. if b then order else order ++ granule ∷ []) (test_is notes granule had noted step.within step.read step.tested)

pub step_keeps : (notes : List GranuleNotes) (order : List ℕ) (room room_now granule : ℕ) (kind : Kind) (note : Note) (had row : GranuleNotes) (noted : Bool) (order_now : List ℕ) → IsTable notes order room → room_now ≡ room → IsStep notes order granule kind note had row noted order_now → IsTable (set notes granule row) order_now room_now
step_keeps notes order room room_now granule kind note had row noted order_now is same step =
    rw (same, order_is notes order granule kind note had row noted order_now step, step.made)
    (is_table_after notes order room granule (with_note kind note had) is step.within (has_with_note kind note had))

pub step_notes : (notes : List GranuleNotes) (order : List ℕ) (granule : ℕ) (kind : Kind) (note : Note) (had row : GranuleNotes) (noted : Bool) (order_now : List ℕ) → IsStep notes order granule kind note had row noted order_now → NotesAccess record { notes = notes; order = order } record { notes = set notes granule row; order = order_now } granule kind note
step_notes notes order granule kind note had row noted order_now step =
    rw (order_is notes order granule kind note had row noted order_now step, step.made) (notes_access notes order granule kind note had step.within step.read)

pub step_is : (notes : List GranuleNotes) (order : List ℕ) (granule : ℕ) (kind : Kind) (note : Note) (had row : GranuleNotes) (noted : Bool) (order_now : List ℕ) → IsStep notes order granule kind note had row noted order_now → (let t : Accesses = record { notes = set notes granule row; order = order_now } in t) ≡ noted_in record { notes = notes; order = order } granule kind note
unfolding noted_in
step_is notes order granule kind note had row noted order_now step =
    let row_is : row ≡ with_note kind note (get_or notes granule blank) = step.made ∙ ap (with_note kind note) (noted_by_row notes granule had step.within step.read) in
    ap (λ (r : GranuleNotes). let t : Accesses = record { notes = set notes granule r; order = order_now } in t) row_is
    ∙ ap (λ (o : List ℕ). let t : Accesses = record { notes = set notes granule (with_note kind note (get_or notes granule blank)); order = o } in t) (order_is notes order granule kind note had row noted order_now step)
