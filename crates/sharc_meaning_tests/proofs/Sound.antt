-- What is listed holds a reference.
use Rattle.sharc_meaning_tests.proofs.{Imports.{Any-from_list_any, ◌≡◌, ◌⊎◌, inl, inr, ℕ, ◌<◌, Bool, true, false, not, ◌&&◌, ◌||◌, List, [], ◌∷◌, ◌++◌, Some, refl, ap, sym, subst, ◌∙◌, not-true, not_from_false, both_ways, and_parts, and_from, or_cases, or_left, or_right, eqb-true, eq-eqb, ℤ, pos, negsuc, ◌==◌, Any, if◌then◌else◌, list_any, Act, CellAt, Object, Global, Made, SourceEvent, Assignment, is_of, events_of, is_cell, same_object, same_cell, locks, unlocks, locked_by, latest, asks, refers, Counts, is_taken_to_free, Begun, asked_with, held_count, passes, is_pointer_of, CellRefers, ArgumentRefers, ReferencesWith, Follows, SourceRun, changes, value_after, meets, is_live, is_locked, spawns, is_spawn, is_natural, SameLaws, FindsEntries, Holder, InCell, InArgument, InMutex, InThread, view_holder, IsListed, counts, cell_refers, cell_at, mutex_at, is_passed, argument_at, in_thread_all, thread_at, by_act, holders_at, holders, entry, own_answers, count_by_entry, thread_count}, Entries.{begun_events, events_begun, own_told, follows_entry}, Latest.{latest_is, stands_any}, Places.{only, in_either, in_threads, somewhere}}

pub counts_true : (R : List SourceEvent) (n : ℕ) (o : Object) → counts R n o ≡ true → Counts R n o
counts_true R n (Global g) h = tt
counts_true R n (Made k) h =
    let parts = and_parts (is_live R (Made k)) ((k == n) || not (is_taken_to_free R k)) h in
    (parts.0, by_part (or_cases (k == n) (not (is_taken_to_free R k)) parts.1))
  where
    by_part : ((k == n) ≡ true) ⊎ (not (is_taken_to_free R k) ≡ true) → (k ≡ n) ⊎ (is_taken_to_free R k ≡ false)
    by_part (inl e) = inl (eqb-true k n e)
    by_part (inr e) = inr (not-true _ e)

pub true_counts : (R : List SourceEvent) (n : ℕ) (o : Object) → Counts R n o → counts R n o ≡ true
true_counts R n (Global g) h = refl
true_counts R n (Made k) (live, inl e) = and_from _ _ live (or_left (k == n) (not (is_taken_to_free R k)) (eq-eqb k n e))
true_counts R n (Made k) (live, inr e) = and_from _ _ live (or_right (k == n) (not (is_taken_to_free R k)) (not_from_false _ e))

module _ (fuel : ℕ) (m : Assignment) (R : List SourceEvent) (n : ℕ) where
  pub cell_true : (c : CellAt) → cell_refers m.typed R n c ≡ true → CellRefers m R n c
  cell_true c h =
      let first = and_parts (is_pointer_of m.typed R c.object c.cell) (counts R n c.object && refers n (value_after m.typed R c)) h in
      let second = and_parts (counts R n c.object) (refers n (value_after m.typed R c)) first.1 in
      record { pointer = first.0; counts = counts_true R n c.object second.0; refers_there = second.1 }

  pub true_cell : (c : CellAt) → CellRefers m R n c → cell_refers m.typed R n c ≡ true
  true_cell c h = and_from _ _ h.pointer (and_from _ _ (true_counts R n c.object h.counts) h.refers_there)

  abbrev Means : Holder → Type 0
  Means h = ReferencesWith fuel m R n (view_holder h)

  cell_sound : (c : CellAt) (after : List SourceEvent) (h : Holder) → IsListed h (cell_at m.typed R n c after) → Means h
  cell_sound c after h i =
      let found = only (not (list_any (changes c) after) && cell_refers m.typed R n c) (InCell c) h i in
      subst Means found.1 (cell_true c (and_parts (not (list_any (changes c) after)) (cell_refers m.typed R n c) found.0).1)

  module _ (same : SameLaws) where
    locks_itself : (e : SourceEvent) (c : CellAt) → e.act ≡ Act.Lock c → locks c e ≡ true
    locks_itself e c is = ap (λ z. is_cell c (locked_by z)) is ∙ (same.cells c c).1 refl

    mutex_sound : (before : List SourceEvent) (e : SourceEvent) (after : List SourceEvent) (c : CellAt) → R ≡ before ++ e ∷ after → e.act ≡ Act.Lock c → (h : Holder) → IsListed h (mutex_at n c after) → Means h
    mutex_sound before e after c stands is h i =
        let p : SourceEvent → Bool = λ x. locks c x || unlocks c x in
        let found = only (same_object c.object (Made n) && not (list_any p after)) (InMutex c) h i in
        let parts = and_parts (same_object c.object (Made n)) (not (list_any p after)) found.0 in
        let own = locks_itself e c is in
        let last : latest p R ≡ Some e = ap (latest p) stands ∙ latest_is p before e after (or_left (locks c e) (unlocks c e) own) (not-true _ parts.1) in
        subst Means found.1 ((same.objects c.object (Made n)).0 parts.0, ap (meets (locks c)) last ∙ own)

  passed_parts : (thread : ℕ) → Any (λ e. is_passed m.typed n thread e ≡ true) R → Any (λ e. (spawns thread e ≡ true) × (passes m.typed n e.act ≡ true)) R
  passed_parts thread (k, x, less, at, is) = (k, x, less, at, and_parts _ _ is)

  argument_sound : (before : List SourceEvent) (e : SourceEvent) (after : List SourceEvent) (f : ℕ) (v : ℤ) → R ≡ before ++ e ∷ after → e.act ≡ Act.Spawn f v → (a : ℤ) → e.answer ≡ a → (h : Holder) → IsListed h (argument_at m.typed R n e after a) → Means h
  argument_sound before e after f v stands is (negsuc k) answer h i = absurd i
  argument_sound before e after f v stands is (pos thread) answer h i =
      let found = only ((passes m.typed n e.act && not (list_any (is_of thread) R)) && not (list_any (is_passed m.typed n thread) after)) (InArgument thread) h i in
      let parts = and_parts (passes m.typed n e.act && not (list_any (is_of thread) R)) (not (list_any (is_passed m.typed n thread) after)) found.0 in
      let first = and_parts (passes m.typed n e.act) (not (list_any (is_of thread) R)) parts.0 in
      let spawned : spawns thread e ≡ true = ap (λ z. is_spawn z && is_natural thread e.answer) is ∙ ap (is_natural thread) answer ∙ eq-eqb thread thread refl in
      let means : ArgumentRefers m R n thread = record {
        unread = begun_events R thread (not-true _ first.1);
        spawned = passed_parts thread (Any-from_list_any (is_passed m.typed n thread) R (ap (list_any (is_passed m.typed n thread)) stands ∙ stands_any (is_passed m.typed n thread) before e after (and_from _ _ spawned first.0)));
      } in
      subst Means found.1 means

  module _ (run : SourceRun m R) (one : FindsEntries m.typed) where
    pub count_is : (other thread : ℕ) (a : Follows m R other thread) → thread_count fuel m R thread n ≡ held_count (asked_with (record { fuel = other; own = a }) fuel) n
    count_is other thread a =
        ap (count_by_entry fuel m R thread n) (follows_entry m R other thread a one run.legal)
        ∙ count_told (own_told m R other thread a)
      where
        count_told : {answers : List ℤ} → own_answers R thread ≡ answers → count_by_entry fuel m R thread n (Some (a.function, a.argument)) ≡ held_count (asks m a.function a.argument answers fuel) n
        count_told e = ap (λ z. held_count (asks m a.function a.argument z fuel) n) e

    thread_sound : (before : List SourceEvent) (e : SourceEvent) (after : List SourceEvent) → R ≡ before ++ e ∷ after → (h : Holder) → IsListed h (thread_at fuel m R n e.thread after) → Means h
    thread_sound before e after stands h i = by_case (list_any (is_of e.thread) after) i
      where
        held : (a : (events_of e.thread R ≡ []) ⊎ ((other : ℕ) × Follows m R other e.thread)) → IsListed h (in_thread_all e.thread (thread_count fuel m R e.thread n)) → Means h
        held (inl none) j = absurd (both_ways _ (events_begun R e.thread none) (ap (list_any (is_of e.thread)) stands ∙ stands_any (is_of e.thread) before e after (eq-eqb e.thread e.thread refl)))
        held (inr (other, a)) j =
            let t = in_threads e.thread (thread_count fuel m R e.thread n) h j in
            subst Means t.is (record { begun = record { fuel = other; own = a }; holds = subst (λ z. t.which < z) (count_is other e.thread a) t.below })

        by_case : (b : Bool) → IsListed h (if b then [] else in_thread_all e.thread (thread_count fuel m R e.thread n)) → Means h
        by_case true j = absurd j
        by_case false j = held (run.threads e.thread) j

    module _ (same : SameLaws) where
      act_sound : (before : List SourceEvent) (e : SourceEvent) (after : List SourceEvent) → R ≡ before ++ e ∷ after → (a : Act) → e.act ≡ a → (h : Holder) → IsListed h (by_act m.typed R n e after a) → Means h
      act_sound before e after stands (Act.Write c mode v) is h i = cell_sound c after h i
      act_sound before e after stands (Act.Lock c) is h i = mutex_sound same before e after c stands is h i
      act_sound before e after stands (Act.Spawn f v) is h i = argument_sound before e after f v stands is e.answer refl h i
      act_sound before e after stands _ is h i = absurd i

      pub all_sound : (h : Holder) → IsListed h (holders fuel m R n) → Means h
      all_sound h i =
          let p = somewhere (holders_at fuel m R n) R h i in
          by_part p.before p.event p.after p.stands (in_either h (by_act m.typed R n p.event p.after p.event.act) (thread_at fuel m R n p.event.thread p.after) p.listed)
        where
          by_part : (before : List SourceEvent) (e : SourceEvent) (after : List SourceEvent) → R ≡ before ++ e ∷ after → IsListed h (by_act m.typed R n e after e.act) ⊎ IsListed h (thread_at fuel m R n e.thread after) → Means h
          by_part before e after stands (inl j) = act_sound before e after stands e.act refl h j
          by_part before e after stands (inr j) = thread_sound before e after stands h j
