-- No holder is listed twice: it is listed at the last event that marks it.
use Rattle.sharc_meaning_tests.proofs.{Imports.{◌≡◌, ◌⊎◌, inl, inr, ℕ, Bool, true, false, not, ◌&&◌, ◌||◌, List, [], ◌∷◌, ◌++◌, refl, ap, sym, subst, ◌∙◌, not-true, both_ways, and_parts, and_from, or_left, eq-eqb, ℤ, pos, negsuc, ◌==◌, if◌then◌else◌, list_any, Act, CellAt, Made, SourceEvent, Assignment, is_of, is_cell, makes, same_object, locks, unlocks, locked_by, passes, cell_changed, changes, spawns, is_spawn, is_natural, SameLaws, Holder, InCell, InArgument, InMutex, InThread, IsListed, AreDistinct, at_places, cell_refers, cell_at, mutex_at, is_passed, argument_at, in_thread_all, thread_at, by_act, holders_at, holders, thread_count}, Latest.stands_any, Places.{AtPlace, only, one_distinct, in_either, in_threads, threads_distinct, both_distinct, somewhere}}

module _ (fuel : ℕ) (m : Assignment) (R : List SourceEvent) (n : ℕ) where
  -- the event is one after which the holder may be listed
  abbrev marks : Holder → SourceEvent → Bool
  marks (InCell c) = changes c
  marks (InArgument thread) = is_passed m.typed n thread
  marks (InMutex c) = λ e. locks c e || unlocks c e
  marks (InThread thread which) = is_of thread

  -- listed at an event that marks it, and at none later
  record IsLast (e : SourceEvent) (after : List SourceEvent) (h : Holder) : Type 0 where
    marked : marks h e ≡ true
    later : list_any (marks h) after ≡ false

  moved : (e : SourceEvent) (after : List SourceEvent) (x h : Holder) → x ≡ h → IsLast e after x → IsLast e after h
  moved e after x h is l = subst (IsLast e after) is l

  thread_last : (e : SourceEvent) (after : List SourceEvent) (h : Holder) → IsListed h (thread_at fuel m R n e.thread after) → IsLast e after h
  thread_last e after h i = by_case (list_any (is_of e.thread) after) refl i
    where
      by_case : (b : Bool) → list_any (is_of e.thread) after ≡ b → IsListed h (if b then [] else in_thread_all e.thread (thread_count fuel m R e.thread n)) → IsLast e after h
      by_case true k j = absurd j
      by_case false k j =
          let t = in_threads e.thread (thread_count fuel m R e.thread n) h j in
          moved e after (InThread e.thread t.which) h t.is (record { marked = eq-eqb e.thread e.thread refl; later = k })

  argument_last : (e : SourceEvent) (after : List SourceEvent) (f : ℕ) (v : ℤ) → e.act ≡ Act.Spawn f v → (a : ℤ) → e.answer ≡ a → (h : Holder) → IsListed h (argument_at m.typed R n e after a) → IsLast e after h
  argument_last e after f v is (negsuc k) answer h i = absurd i
  argument_last e after f v is (pos thread) answer h i =
      let found = only ((passes m.typed n e.act && not (list_any (is_of thread) R)) && not (list_any (is_passed m.typed n thread) after)) (InArgument thread) h i in
      let parts = and_parts (passes m.typed n e.act && not (list_any (is_of thread) R)) (not (list_any (is_passed m.typed n thread) after)) found.0 in
      let first = and_parts (passes m.typed n e.act) (not (list_any (is_of thread) R)) parts.0 in
      let spawned : spawns thread e ≡ true = ap (λ z. is_spawn z && is_natural thread e.answer) is ∙ ap (is_natural thread) answer ∙ eq-eqb thread thread refl in
      moved e after (InArgument thread) h found.1 (record { marked = and_from _ _ spawned first.0; later = not-true _ parts.1 })

  module _ (same : SameLaws) where
    cell_last : (e : SourceEvent) (after : List SourceEvent) (c : CellAt) (mode : _) (v : ℤ) → e.act ≡ Act.Write c mode v → (h : Holder) → IsListed h (cell_at m.typed R n c after) → IsLast e after h
    cell_last e after c mode v is h i =
        let found = only (not (list_any (changes c) after) && cell_refers m.typed R n c) (InCell c) h i in
        let parts = and_parts (not (list_any (changes c) after)) (cell_refers m.typed R n c) found.0 in
        let own : is_cell c (cell_changed e.act) ≡ true = ap (λ z. is_cell c (cell_changed z)) is ∙ (same.cells c c).1 refl in
        moved e after (InCell c) h found.1 (record { marked = or_left (is_cell c (cell_changed e.act)) (makes c.object e) own; later = not-true _ parts.0 })

    mutex_last : (e : SourceEvent) (after : List SourceEvent) (c : CellAt) → e.act ≡ Act.Lock c → (h : Holder) → IsListed h (mutex_at n c after) → IsLast e after h
    mutex_last e after c is h i =
        let found = only (same_object c.object (Made n) && not (list_any (λ x. locks c x || unlocks c x) after)) (InMutex c) h i in
        let parts = and_parts (same_object c.object (Made n)) (not (list_any (λ x. locks c x || unlocks c x) after)) found.0 in
        let own : locks c e ≡ true = ap (λ z. is_cell c (locked_by z)) is ∙ (same.cells c c).1 refl in
        moved e after (InMutex c) h found.1 (record { marked = or_left (locks c e) (unlocks c e) own; later = not-true _ parts.1 })

    act_last : (e : SourceEvent) (after : List SourceEvent) (a : Act) → e.act ≡ a → (h : Holder) → IsListed h (by_act m.typed R n e after a) → IsLast e after h
    act_last e after (Act.Write c mode v) is h i = cell_last e after c mode v is h i
    act_last e after (Act.Lock c) is h i = mutex_last e after c is h i
    act_last e after (Act.Spawn f v) is h i = argument_last e after f v is e.answer refl h i
    act_last e after _ is h i = absurd i

    all_last : (e : SourceEvent) (after : List SourceEvent) (h : Holder) → IsListed h (holders_at fuel m R n e after) → IsLast e after h
    all_last e after h i = by_part (in_either h (by_act m.typed R n e after e.act) (thread_at fuel m R n e.thread after) i)
      where
        by_part : IsListed h (by_act m.typed R n e after e.act) ⊎ IsListed h (thread_at fuel m R n e.thread after) → IsLast e after h
        by_part (inl j) = act_last e after e.act refl h j
        by_part (inr j) = thread_last e after h j

    -- ---- at one place

    act_distinct : (e : SourceEvent) (after : List SourceEvent) (a : Act) → AreDistinct (by_act m.typed R n e after a)
    act_distinct e after (Act.Write c mode v) = one_distinct _ (InCell c)
    act_distinct e after (Act.Lock c) = one_distinct _ (InMutex c)
    act_distinct e after (Act.Spawn f v) = by_answer e.answer
      where
        by_answer : (a : ℤ) → AreDistinct (argument_at m.typed R n e after a)
        by_answer (pos thread) = one_distinct _ (InArgument thread)
        by_answer (negsuc k) = tt
    act_distinct e after _ = tt

    thread_distinct : (thread : ℕ) (after : List SourceEvent) → AreDistinct (thread_at fuel m R n thread after)
    thread_distinct thread after = by_case (list_any (is_of thread) after)
      where
        by_case : (b : Bool) → AreDistinct (if b then [] else in_thread_all thread (thread_count fuel m R thread n))
        by_case true = tt
        by_case false = threads_distinct thread (thread_count fuel m R thread n)

    -- what an act lists is no thread
    abbrev is_thread : Holder → Bool
    is_thread (InThread thread which) = true
    is_thread (InCell c) = false
    is_thread (InMutex c) = false
    is_thread (InArgument thread) = false

    a_thread : (e : SourceEvent) (after : List SourceEvent) (h : Holder) → IsListed h (thread_at fuel m R n e.thread after) → is_thread h ≡ true
    a_thread e after h i = by_case (list_any (is_of e.thread) after) i
      where
        by_case : (b : Bool) → IsListed h (if b then [] else in_thread_all e.thread (thread_count fuel m R e.thread n)) → is_thread h ≡ true
        by_case true j = absurd j
        by_case false j = let t = in_threads e.thread (thread_count fuel m R e.thread n) h j in ap is_thread (sym t.is)

    no_thread : (b : Bool) (x h : Holder) → is_thread x ≡ false → IsListed h (if b then x ∷ [] else []) → is_thread h ≡ false
    no_thread b x h other i = let found = only b x h i in sym (ap is_thread found.1) ∙ other

    act_other : (e : SourceEvent) (after : List SourceEvent) (a : Act) (h : Holder) → IsListed h (by_act m.typed R n e after a) → is_thread h ≡ false
    act_other e after (Act.Write c mode v) h i = no_thread _ (InCell c) h refl i
    act_other e after (Act.Lock c) h i = no_thread _ (InMutex c) h refl i
    act_other e after (Act.Spawn f v) h i = by_answer e.answer i
      where
        by_answer : (a : ℤ) → IsListed h (argument_at m.typed R n e after a) → is_thread h ≡ false
        by_answer (pos thread) j = no_thread _ (InArgument thread) h refl j
        by_answer (negsuc k) j = absurd j
    act_other e after _ h i = absurd i

    place_distinct : (e : SourceEvent) (after : List SourceEvent) → AreDistinct (holders_at fuel m R n e after)
    place_distinct e after = both_distinct (by_act m.typed R n e after e.act) (thread_at fuel m R n e.thread after) (act_distinct e after e.act) (thread_distinct e.thread after)
        (λ h i j. both_ways _ (act_other e after e.act h i) (a_thread e after h j))

    -- ---- at all places

    places_distinct : (l : List SourceEvent) → AreDistinct (at_places (holders_at fuel m R n) l)
    places_distinct [] = tt
    places_distinct (e ∷ l) = both_distinct (holders_at fuel m R n e l) (at_places (holders_at fuel m R n) l) (place_distinct e l) (places_distinct l) (λ h i j. apart h (all_last e l h i) (somewhere (holders_at fuel m R n) l h j))
      where
        apart : (h : Holder) → IsLast e l h → (p : AtPlace (holders_at fuel m R n) l h) → ⊥
        apart h first p = both_ways _ first.later (ap (list_any (marks h)) p.stands ∙ stands_any (marks h) p.before p.event p.after (all_last p.event p.after h p.listed).marked)

    pub all_distinct : AreDistinct (holders fuel m R n)
    all_distinct = places_distinct R
