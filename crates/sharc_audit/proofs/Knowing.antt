-- What is known of threads, one event more.
use Rattle.sharc_audit.proofs.{Imports.{cases_Bool, ◌≡◌, ◌⊎◌, inl, inr, ℕ, zero, suc, ◌-◌, ◌<◌, ◌≤◌, Bool, true, false, ◌||◌, cond, List, [], ◌∷◌, ◌++◌, length, map, drop, slice_index_or, Some, Ok, Err, refl, ap, sym, subst, ◌∙◌, arith, append_assoc, eq-eqb, eqb-true, or_cases, or_left, or_right, list_any-append, ℤ, ◌==◌, Result, OnOk, slice_set, if◌then◌else◌, list_any, SourceEvent, Assignment, events_of, is_of, AskLaws, asks, answers_of, EventLine, ThreadRun, entry, has_begun, start_of, next_in, next_of, own_answers, next_asked, IsKnown, EachKnown, AreKnown, IsPlaceOf, told, lines_of, told_to, IsWalk, map_length, map_both}, Lists.{one_own, one_other}, Entries.{entry_more, begun_events, events_begun}, Telling.ask_once}

-- ---- lists

-- a list with an element is not empty
first_stays : (t : ℕ) (R : List SourceEvent) (e : SourceEvent) → has_begun R t ≡ true → drop 1 (events_of t R ++ e ∷ []) ≡ drop 1 (events_of t R) ++ e ∷ []
first_stays t R e h = by_list (events_of t R) refl
  where
    by_list : (l : List SourceEvent) → events_of t R ≡ l → drop 1 (l ++ e ∷ []) ≡ drop 1 l ++ e ∷ []
    by_list [] i = let z : true ≡ false = sym h ∙ events_begun R t i in absurd (cc)
    by_list (x ∷ l) i = refl

module _ (m : Assignment) (fuel : ℕ) (R : List SourceEvent) (l : EventLine) (rest : List EventLine) (e : SourceEvent) (thread : l.thread ≡ e.thread) (answer : told l ≡ e.answer) where
  -- what a thread is given in all stays
  same_told : (u : ℕ) → has_begun R u ≡ true → own_answers (R ++ e ∷ []) u ++ told_to u rest ≡ own_answers R u ++ told_to u (l ∷ rest)
  same_told u h = by_case (is_of u e) refl
    where
      lines_so : (b : Bool) → is_of u e ≡ b → lines_of u (l ∷ rest) ≡ cond b (l ∷ lines_of u rest) (lines_of u rest)
      lines_so b i = ap (λ z. cond (z == u) (l ∷ lines_of u rest) (lines_of u rest)) thread ∙ ap (λ z. cond z (l ∷ lines_of u rest) (lines_of u rest)) i

      by_case : (b : Bool) → is_of u e ≡ b → own_answers (R ++ e ∷ []) u ++ told_to u rest ≡ own_answers R u ++ told_to u (l ∷ rest)
      by_case true i =
          ap (λ z. answers_of (drop 1 z) ++ told_to u rest) (one_own e u i R)
          ∙ ap (λ z. answers_of z ++ told_to u rest) (first_stays u R e h)
          ∙ ap (λ z. z ++ told_to u rest) (map_both (λ (x : SourceEvent). x.answer) (drop 1 (events_of u R)) (e ∷ []))
          ∙ append_assoc (own_answers R u) (e.answer ∷ []) (told_to u rest)
          ∙ ap (λ z. own_answers R u ++ z ∷ told_to u rest) (sym answer)
          ∙ ap (λ z. own_answers R u ++ map told z) (sym (lines_so true i))
      by_case false i =
          ap (λ z. answers_of (drop 1 z) ++ told_to u rest) (one_other e u i R)
          ∙ ap (λ z. own_answers R u ++ map told z) (sym (lines_so false i))

  begun_more : (u : ℕ) → has_begun R u ≡ true → has_begun (R ++ e ∷ []) u ≡ true
  begun_more u h = list_any-append (is_of u) R (e ∷ []) ∙ or_left (has_begun R u) (list_any (is_of u) (e ∷ [])) h

  known_more : (run : ThreadRun) → IsKnown m fuel R (l ∷ rest) run → IsKnown m fuel (R ++ e ∷ []) rest run
  known_more run k = record {
    begun = begun_more run.thread k.begun;
    entry_is = entry_more m.typed R (e ∷ []) run.thread run.function run.argument k.entry_is;
    answers = k.answers ∙ sym (same_told run.thread k.begun);
    walk = k.walk;
    within = k.within;
  }

  each_more : (runs : List ThreadRun) → EachKnown m fuel R (l ∷ rest) runs → EachKnown m fuel (R ++ e ∷ []) rest runs
  each_more [] h = tt
  each_more (run ∷ runs) h = (known_more run h.0, each_more runs h.1)

  begun_before : (t : ℕ) → has_begun (R ++ e ∷ []) t ≡ true → (has_begun R t ≡ true) ⊎ (e.thread ≡ t)
  begun_before t h = by_case (or_cases (has_begun R t) (is_of t e || false) (sym (list_any-append (is_of t) R (e ∷ [])) ∙ h))
    where
      plain : (b : Bool) → (b || false) ≡ true → b ≡ true
      plain true i = refl
      plain false i = i

      by_case : (has_begun R t ≡ true) ⊎ ((is_of t e || false) ≡ true) → (has_begun R t ≡ true) ⊎ (e.thread ≡ t)
      by_case (inl i) = inl i
      by_case (inr i) = inr (eqb-true e.thread t (plain (is_of t e) i))

  -- an event of a thread that has begun
  pub known_on : (runs : List ThreadRun) → AreKnown m fuel R (l ∷ rest) runs → has_begun R l.thread ≡ true → AreKnown m fuel (R ++ e ∷ []) rest runs
  known_on runs k begun = record { each = each_more runs k.each; all = λ t h. by_case t (begun_before t h) }
    where
      by_case : (t : ℕ) → (has_begun R t ≡ true) ⊎ (e.thread ≡ t) → list_any (λ run. run.thread == t) runs ≡ true
      by_case t (inl i) = k.all t i
      by_case t (inr i) = k.all t (subst (λ z. has_begun R z ≡ true) (thread ∙ i) begun)

  each_with : (runs : List ThreadRun) (run : ThreadRun) → EachKnown m fuel (R ++ e ∷ []) rest runs → IsKnown m fuel (R ++ e ∷ []) rest run → EachKnown m fuel (R ++ e ∷ []) rest (runs ++ run ∷ [])
  each_with [] run h k = (k, tt)
  each_with (x ∷ runs) run h k = (h.0, each_with runs run h.1 k)

  -- the first event of a thread, with what it asks for
  pub known_start : (runs : List ThreadRun) (run : ThreadRun) (f : ℕ) (v : ℤ) → AreKnown m fuel R (l ∷ rest) runs → has_begun R l.thread ≡ false → entry m.typed R l.thread ≡ Some (f, v)
      → run.thread ≡ l.thread → run.function ≡ f → run.argument ≡ v → run.answers.items ≡ told_to l.thread rest → IsWalk m f v (told_to l.thread rest) run.walk → run.walk.fuel ≤ fuel
      → AreKnown m fuel (R ++ e ∷ []) rest (runs ++ run ∷ [])
  known_start runs run f v k none is own function argument answers walk within = record { each = each_with runs run (each_more runs k.each) known; all = λ t h. list_any-append (λ (x : ThreadRun). x.thread == t) runs (run ∷ []) ∙ by_case t (begun_before t h) }
    where
      here : e.thread ≡ run.thread
      here = sym thread ∙ sym own

      all_told : own_answers (R ++ e ∷ []) run.thread ++ told_to run.thread rest ≡ told_to l.thread rest
      all_told =
          ap (λ z. answers_of (drop 1 z) ++ told_to run.thread rest) (one_own e run.thread (eq-eqb e.thread run.thread here) R)
          ∙ ap (λ z. answers_of (drop 1 (z ++ e ∷ [])) ++ told_to run.thread rest) (begun_events R run.thread (ap (has_begun R) own ∙ none))
          ∙ ap (λ z. told_to z rest) own

      known : IsKnown m fuel (R ++ e ∷ []) rest run
      known = record {
        begun = list_any-append (is_of run.thread) R (e ∷ []) ∙ or_right (has_begun R run.thread) (is_of run.thread e || false) (ap (λ z. z || false) (eq-eqb e.thread run.thread here));
        entry_is = ap (entry m.typed (R ++ e ∷ [])) own ∙ entry_more m.typed R (e ∷ []) l.thread f v is ∙ sym (ap (λ z. Some (z, run.argument)) function ∙ ap (λ z. Some (f, z)) argument);
        answers = answers ∙ sym all_told;
        walk = subst (λ z. IsWalk m run.function run.argument z run.walk) (sym answers) (subst (λ z. IsWalk m run.function z (told_to l.thread rest) run.walk) (sym argument) (subst (λ z. IsWalk m z v (told_to l.thread rest) run.walk) (sym function) walk));
        within = within;
      }

      by_case : (t : ℕ) → (has_begun R t ≡ true) ⊎ (e.thread ≡ t) → (list_any (λ (x : ThreadRun). x.thread == t) runs || ((run.thread == t) || false)) ≡ true
      by_case t (inl i) = or_left (list_any (λ (x : ThreadRun). x.thread == t) runs) ((run.thread == t) || false) (k.all t i)
      by_case t (inr i) = or_right (list_any (λ (x : ThreadRun). x.thread == t) runs) ((run.thread == t) || false) (ap (λ z. z || false) (eq-eqb run.thread t (sym here ∙ i)))

-- ---- what is found

pub on_ok_both : {X E P Q S : Type 0} (r : Result X E) → (P → Q → S) → OnOk r P → OnOk r Q → OnOk r S
on_ok_both (Ok x) f p q = f p q
on_ok_both (Err e) f p q = tt

module _ (m : Assignment) (fuel : ℕ) (R : List SourceEvent) (rest : List EventLine) where
  known_at : (runs : List ThreadRun) (i : ℕ) (d : ThreadRun) → EachKnown m fuel R rest runs → i < length runs → IsKnown m fuel R rest (slice_index_or runs i d)
  known_at [] i d k h = absurd (omega (arith, h))
  known_at (x ∷ runs) zero d k h = k.0
  known_at (x ∷ runs) (suc i) d k h = known_at runs i d k.1 (omega (arith, h))

  begun_at : (runs : List ThreadRun) (i t : ℕ) → EachKnown m fuel R rest runs → IsPlaceOf t runs i → has_begun R t ≡ true
  begun_at [] i t k h = let z = h.inside in absurd (omega (arith, z))
  begun_at (x ∷ runs) i t k h = ap (has_begun R) (sym (h.own x)) ∙ (known_at (x ∷ runs) i x k h.inside).begun

  each_set : (runs : List ThreadRun) (i : ℕ) (run : ThreadRun) → EachKnown m fuel R rest runs → IsKnown m fuel R rest run → EachKnown m fuel R rest (slice_set runs i run)
  each_set [] i run k h = tt
  each_set (x ∷ runs) zero run k h = (h, k.1)
  each_set (x ∷ runs) (suc i) run k h = (k.0, each_set runs i run k.1 h)

pub any_set : (t : ℕ) (runs : List ThreadRun) (i : ℕ) (run : ThreadRun) → i < length runs → (slice_index_or runs i run).thread ≡ run.thread → list_any (λ (x : ThreadRun). x.thread == t) (slice_set runs i run) ≡ list_any (λ (x : ThreadRun). x.thread == t) runs
any_set t [] i run h same = refl
any_set t (x ∷ runs) zero run h same = ap (λ z. (z == t) || list_any (λ (y : ThreadRun). y.thread == t) runs) (sym same)
any_set t (x ∷ runs) (suc i) run h same = ap (λ z. (x.thread == t) || z) (any_set t runs i run (omega (arith, h)) same)

module _ (m : Assignment) (fuel : ℕ) (R : List SourceEvent) (l : EventLine) (rest : List EventLine) (runs : List ThreadRun) (k : AreKnown m fuel R (l ∷ rest) runs) where
  pub not_begun : list_any (λ (x : ThreadRun). x.thread == l.thread) runs ≡ false → has_begun R l.thread ≡ false
  not_begun h = elim (cases_Bool (has_begun R l.thread)) [ inl i ↦ let z : true ≡ false = sym (k.all l.thread i) ∙ h in absurd (cc) | inr i ↦ i ]

  pub next_at_start : list_any (λ (x : ThreadRun). x.thread == l.thread) runs ≡ false → start_of m.typed l.thread (entry m.typed R l.thread) ≡ next_asked m fuel R l
  next_at_start h = sym (ap (λ b. if b then next_of m fuel l.thread (own_answers R l.thread) (told l) (entry m.typed R l.thread) else start_of m.typed l.thread (entry m.typed R l.thread)) (not_begun h))

  module _ (i : ℕ) (h : IsPlaceOf l.thread runs i) where
    pub known_here : (run : ThreadRun) → run ≡ slice_index_or runs i run → IsKnown m fuel R (l ∷ rest) run × (run.thread ≡ l.thread)
    known_here run is = (subst (IsKnown m fuel R (l ∷ rest)) (sym is) (known_at m fuel R (l ∷ rest) runs i run k.each h.inside), ap (λ (z : ThreadRun). z.thread) is ∙ h.own run)

    pub was_begun : has_begun R l.thread ≡ true
    was_begun = begun_at m fuel R (l ∷ rest) runs i l.thread k.each h

    pub has_events : length (events_of l.thread R) ≡ 0 → ⊥
    has_events n = by_list (events_of l.thread R) refl n
      where
        by_list : (es : List SourceEvent) → events_of l.thread R ≡ es → length es ≡ 0 → ⊥
        by_list [] j n = let z : true ≡ false = sym was_begun ∙ events_begun R l.thread j in absurd (cc)
        by_list (x ∷ es) j n = absurd (omega (arith, n))

    answer_count : length (own_answers R l.thread) ≡ length (events_of l.thread R) - 1
    answer_count = map_length (λ (x : SourceEvent). x.answer) (drop 1 (events_of l.thread R)) ∙ by_list (events_of l.thread R)
      where
        by_list : (es : List SourceEvent) → length (drop 1 es) ≡ length es - 1
        by_list [] = refl
        by_list (x ∷ es) = omega arith

    -- walked further, it is known as before
    pub known_further : (run new : ThreadRun) → run ≡ slice_index_or runs i run → new ≡ record run { walk = new.walk } → IsWalk m run.function run.argument run.answers.items new.walk → new.walk.fuel ≤ fuel → AreKnown m fuel R (l ∷ rest) (slice_set runs i new)
    known_further run new is same walk within =
        let p = known_here run is in
        let known : IsKnown m fuel R (l ∷ rest) (record run { walk = new.walk }) = record { begun = p.0.begun; entry_is = p.0.entry_is; answers = p.0.answers; walk = walk; within = within } in
        record {
          each = each_set m fuel R (l ∷ rest) runs i new k.each (subst (IsKnown m fuel R (l ∷ rest)) (sym same) known);
          all = λ t b. any_set t runs i new h.inside (h.own new ∙ sym p.1 ∙ sym (ap (λ (z : ThreadRun). z.thread) same)) ∙ k.all t b;
        }

    pub next_on : (run : ThreadRun) → run ≡ slice_index_or runs i run → AskLaws → next_in run.thread (length (events_of l.thread R) - 1) (asks m run.function run.argument run.answers.items fuel) ≡ next_asked m fuel R l
    next_on run is laws =
        let p = known_here run is in
        let q = p.0 in
        let A = own_answers R l.thread in
        let line : told_to l.thread (l ∷ rest) ≡ told l ∷ told_to l.thread rest = ap (λ z. map told (cond z (l ∷ lines_of l.thread rest) (lines_of l.thread rest))) (eq-eqb l.thread l.thread refl) in
        let all : run.answers.items ≡ A ++ told l ∷ told_to l.thread rest = q.answers ∙ ap (λ z. own_answers R z ++ told_to z (l ∷ rest)) p.1 ∙ ap (λ z. A ++ z) line in
        let entered : entry m.typed R l.thread ≡ Some (run.function, run.argument) = ap (entry m.typed R) (sym p.1) ∙ q.entry_is in
        ap (λ z. next_in z (length (events_of l.thread R) - 1) (asks m run.function run.argument run.answers.items fuel)) p.1
        ∙ ap (λ z. next_in l.thread (length (events_of l.thread R) - 1) (asks m run.function run.argument z fuel)) all
        ∙ ap (λ n. next_in l.thread n (asks m run.function run.argument (A ++ told l ∷ told_to l.thread rest) fuel)) (sym answer_count)
        ∙ ask_once laws m run.function run.argument fuel l.thread A (told l) (told_to l.thread rest)
        ∙ sym (ap (λ z. next_of m fuel l.thread A (told l) z) entered)
        ∙ sym (ap (λ b. if b then next_of m fuel l.thread A (told l) (entry m.typed R l.thread) else start_of m.typed l.thread (entry m.typed R l.thread)) was_begun)
