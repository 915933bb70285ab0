-- A live object that a `free` has taken is being taken: the thread that took it has no later event, and frees it next.
use Rattle.sharc_wants_laws.proofs.Imports.{◌≡◌, ◌⊎◌, inl, inr, ℕ, Bool, true, false, not, ◌&&◌, ◌||◌, cond, List, [], ◌∷◌, ◌++◌, map, reverse, Option, Some, None, refl, sym, ap, ◌∙◌, subst, append_assoc, both_ways, and_parts, or_parts, or_left, or_right, or_cases, eqb-true, eq-eqb, map-append, reverse-append, reverse-reverse, filter-append, list_any-append, ℤ, ◌==◌, find, filter, list_any, Started, Freed, Made, SourceEvent, Assignment, Stands, is_of, events_of, makes, frees, freed_by, is_number, is_null, number_of, refers, taken_to_free, takes_to_free, Begun, asked_with, by, answers_of, meets, is_live, takes_something, EmptiesAtNext, FreesFollowIn, IsBeingTaken, TakenAreBeingTaken, LastTakersFree, EmptiersTookLast, no_null, FreesFollow, EmptiedWereTaken}
use Rattle.sharc_meaning.specs.Runs as Runs

-- ---- lists

-- the last event that meets the test, and that none behind it does
record Latest (test : SourceEvent → Bool) (L : List SourceEvent) (e : SourceEvent) : Type 0 where
  newer : List SourceEvent
  older : List SourceEvent
  stands : L ≡ newer ++ e ∷ older
  none : list_any test newer ≡ false

found : (test : SourceEvent → Bool) (L : List SourceEvent) (e : SourceEvent) → find test L ≡ Some e → Latest test L e
found test [] e h = absurd (cc)
found test (x ∷ L) e h = by_first (found test L e) (test x) refl
  where
    by_first : (find test L ≡ Some e → Latest test L e) → (b : Bool) → test x ≡ b → Latest test (x ∷ L) e
    by_first more true is =
        let same : Some x ≡ Some e = sym (ap (λ b. cond b (Some x) (find test L)) is) ∙ h in
        let it : x ≡ e = cc in
        record { newer = []; older = L; stands = ap (λ z. z ∷ L) it; none = refl }
    by_first more false is =
        let l = more (sym (ap (λ b. cond b (Some x) (find test L)) is) ∙ h) in
        record { newer = x ∷ l.newer; older = l.older; stands = ap (λ z. x ∷ z) l.stands; none = ap (λ b. b || list_any test l.newer) is ∙ l.none }

reverse_push : (e : SourceEvent) (L : List SourceEvent) → reverse (e ∷ L) ≡ reverse L ++ e ∷ []
reverse_push e L = reverse-append (e ∷ []) L

turned : (R newer older : List SourceEvent) (e : SourceEvent) → reverse R ≡ newer ++ e ∷ older → R ≡ reverse older ++ e ∷ reverse newer
turned R newer older e h =
    sym (reverse-reverse R) ∙ ap reverse h ∙ reverse-append newer (e ∷ older) ∙ ap (λ l. l ++ reverse newer) (reverse_push e older) ∙ append_assoc (reverse older) (e ∷ []) (reverse newer)

module _ (p : SourceEvent → Bool) where
  any_reversed : (L : List SourceEvent) → list_any p (reverse L) ≡ true → list_any p L ≡ true
  any_reversed [] h = h
  any_reversed (x ∷ L) h = by_part (any_reversed L) (or_cases (list_any p (reverse L)) (p x || false) (sym (ap (list_any p) (reverse_push x L) ∙ list_any-append p (reverse L) (x ∷ [])) ∙ h))
    where
      by_one : (p x ≡ true) ⊎ (false ≡ true) → list_any p (x ∷ L) ≡ true
      by_one (inl h) = or_left (p x) (list_any p L) h
      by_one (inr h) = absurd (cc)

      by_part : (list_any p (reverse L) ≡ true → list_any p L ≡ true) → (list_any p (reverse L) ≡ true) ⊎ ((p x || false) ≡ true) → list_any p (x ∷ L) ≡ true
      by_part more (inl h) = or_right (p x) (list_any p L) (more h)
      by_part more (inr h) = by_one (or_cases (p x) false h)

  any_filtered : (q : SourceEvent → Bool) (l : List SourceEvent) → list_any p (filter q l) ≡ true → list_any p l ≡ true
  any_filtered q [] h = h
  any_filtered q (x ∷ l) h = by_test (any_filtered q l) (q x) h
    where
      by_part : (list_any p (filter q l) ≡ true → list_any p l ≡ true) → (p x ≡ true) ⊎ (list_any p (filter q l) ≡ true) → list_any p (x ∷ l) ≡ true
      by_part more (inl h) = or_left (p x) (list_any p l) h
      by_part more (inr h) = or_right (p x) (list_any p l) (more h)

      by_test : (list_any p (filter q l) ≡ true → list_any p l ≡ true) → (b : Bool) → list_any p (cond b (x ∷ filter q l) (filter q l)) ≡ true → list_any p (x ∷ l) ≡ true
      by_test more true h = by_part more (or_cases (p x) (list_any p (filter q l)) h)
      by_test more false h = or_right (p x) (list_any p l) (more h)

-- ---- an object that was freed and not made again is not live
module _ (n : ℕ) where
  abbrev made_or_taken : SourceEvent → Bool
  made_or_taken e = makes (Made n) e || takes_to_free (Made n) e

  abbrev made_or_freed : SourceEvent → Bool
  made_or_freed e = makes (Made n) e || frees (Made n) e

  dead : (newer older : List SourceEvent) → list_any made_or_taken newer ≡ false → list_any (frees (Made n)) newer ≡ true → meets (makes (Made n)) (find made_or_freed (newer ++ older)) ≡ false
  dead [] older none some = absurd (cc)
  dead (x ∷ newer) older none some =
      let parts = or_parts (made_or_taken x) (list_any made_or_taken newer) none in
      let unmade = (or_parts (makes (Made n) x) (takes_to_free (Made n) x) parts.0).0 in
      by_freed (dead newer older parts.1) unmade (frees (Made n) x) refl
    where
      by_freed : (list_any (frees (Made n)) newer ≡ true → meets (makes (Made n)) (find made_or_freed (newer ++ older)) ≡ false) → makes (Made n) x ≡ false → (b : Bool) → frees (Made n) x ≡ b → meets (makes (Made n)) (find made_or_freed ((x ∷ newer) ++ older)) ≡ false
      by_freed more unmade true is = ap (λ b. meets (makes (Made n)) (cond b (Some x) (find made_or_freed (newer ++ older)))) (or_right (makes (Made n) x) (frees (Made n) x) is) ∙ unmade
      by_freed more unmade false is =
          let skipped : made_or_freed x ≡ false = ap (λ b. b || frees (Made n) x) unmade ∙ is in
          let others : list_any (frees (Made n)) newer ≡ true = sym (ap (λ b. b || list_any (frees (Made n)) newer) is) ∙ some in
          ap (λ b. meets (makes (Made n)) (cond b (Some x) (find made_or_freed (newer ++ older)))) skipped ∙ more others

-- ---- one thread

-- an event of its own, as it asked for it
record Own (thread : ℕ) (asked : List SourceEvent) (e : SourceEvent) (later : List SourceEvent) : Type 0 where
  before : List SourceEvent
  event : SourceEvent
  after : List SourceEvent
  stands : Stands asked before event after
  is : by thread event ≡ e
  rest : map (by thread) after ≡ later

own_longer : (thread : ℕ) (x : SourceEvent) (asked : List SourceEvent) (e : SourceEvent) (later : List SourceEvent) → Own thread asked e later → Own thread (x ∷ asked) e later
own_longer thread x asked e later o = record { before = x ∷ o.before; event = o.event; after = o.after; stands = ap (λ l. x ∷ l) o.stands; is = o.is; rest = o.rest }

own_there : (thread : ℕ) (asked before : List SourceEvent) (e : SourceEvent) (later : List SourceEvent) → map (by thread) asked ≡ before ++ e ∷ later → Own thread asked e later
own_there thread [] [] e later h = absurd (cc)
own_there thread [] (b ∷ before) e later h = absurd (cc)
own_there thread (x ∷ asked) [] e later h = let a : by thread x ≡ e = cc in let b : map (by thread) asked ≡ later = cc in record { before = []; event = x; after = asked; stands = refl; is = a; rest = b }
own_there thread (x ∷ asked) (b ∷ before) e later h = let tails : map (by thread) asked ≡ before ++ e ∷ later = cc in own_longer thread x asked e later (own_there thread asked before e later tails)

-- its first event is no other than its Started
behind_first : (xs ys zs : List SourceEvent) (e begins : SourceEvent) (v : ℤ) → taken_to_free e.act ≡ true → begins.act ≡ Started v → xs ++ e ∷ ys ≡ begins ∷ zs → (rest : List SourceEvent) × (zs ≡ rest ++ e ∷ ys)
behind_first [] ys zs e begins v kind act h =
    let same : e ≡ begins = cc in
    absurd (both_ways _ (ap taken_to_free (ap (λ (d : SourceEvent). d.act) same ∙ act)) kind)
behind_first (x ∷ xs) ys zs e begins v kind act h = let tails : xs ++ e ∷ ys ≡ zs = cc in (xs, sym tails)

own_events : (thread : ℕ) (before : List SourceEvent) (e : SourceEvent) (after : List SourceEvent) → e.thread ≡ thread → events_of thread (before ++ e ∷ after) ≡ events_of thread before ++ e ∷ events_of thread after
own_events thread before e after own =
    filter-append (is_of thread) before (e ∷ after) ∙ ap (λ b. events_of thread before ++ cond b (e ∷ events_of thread after) (events_of thread after)) (eq-eqb e.thread thread own)

some_event : (xs ys : List SourceEvent) (e : SourceEvent) → xs ++ e ∷ ys ≡ [] → ⊥
some_event [] ys e h = absurd (cc)
some_event (x ∷ xs) ys e h = absurd (cc)

-- ---- histories
own_begun : (m : Assignment) (R : List SourceEvent) (thread : ℕ) (b : Begun m R thread) → events_of thread R ≡ b.own.begins ∷ events_of thread b.own.after
own_begun m R thread b = ap (events_of thread) b.own.stands ∙ own_events thread b.own.before b.own.begins b.own.after b.own.own ∙ ap (λ l. l ++ b.own.begins ∷ events_of thread b.own.after) b.own.first

module _ (follows : FreesFollow) (m : Assignment) (R : List SourceEvent) (n : ℕ) (live : is_live R (Made n) ≡ true) (e : SourceEvent) (taken : takes_to_free (Made n) e ≡ true) (at : Latest (made_or_taken n) (reverse R) e) where
  abbrev kind : taken_to_free e.act ≡ true
  kind = (and_parts (taken_to_free e.act) (refers n e.answer) taken).0

  abbrev there : refers n e.answer ≡ true
  there = (and_parts (taken_to_free e.act) (refers n e.answer) taken).1

  some : not (is_null e.answer) ≡ true
  some = (and_parts (not (is_null e.answer)) (number_of e.answer == n) there).0

  number : number_of e.answer ≡ n
  number = eqb-true (number_of e.answer) n (and_parts (not (is_null e.answer)) (number_of e.answer == n) there).1

  here : R ≡ reverse at.older ++ e ∷ reverse at.newer
  here = turned R at.newer at.older e at.stands

  own : events_of e.thread R ≡ events_of e.thread (reverse at.older) ++ e ∷ events_of e.thread (reverse at.newer)
  own = ap (events_of e.thread) here ∙ own_events e.thread (reverse at.older) e (reverse at.newer) refl

  -- it was not freed since
  not_freed : (d : SourceEvent) (rest : List SourceEvent) → d.act ≡ Freed e.answer → events_of e.thread (reverse at.newer) ≡ d ∷ rest → ⊥
  not_freed d rest act h =
      let is : frees (Made n) d ≡ true = ap (λ a. is_number n (freed_by a)) act ∙ eq-eqb n (number_of e.answer) (sym number) in
      let later : list_any (frees (Made n)) (events_of e.thread (reverse at.newer)) ≡ true = subst (λ l. list_any (frees (Made n)) l ≡ true) (sym h) (or_left (frees (Made n) d) (list_any (frees (Made n)) rest) is) in
      let newer : list_any (frees (Made n)) at.newer ≡ true = any_reversed (frees (Made n)) at.newer (any_filtered (frees (Made n)) (is_of e.thread) (reverse at.newer) later) in
      both_ways _ (ap (λ l. meets (makes (Made n)) (find (made_or_freed n) l)) at.stands ∙ dead n at.newer (e ∷ at.older) at.none newer) live

  module _ (b : Begun m R e.thread) where
    begun : events_of e.thread R ≡ b.own.begins ∷ events_of e.thread b.own.after
    begun = own_begun m R e.thread b

    abbrev asked : List SourceEvent
    asked = (asked_with b b.fuel).events

    abbrev later : List SourceEvent
    later = events_of e.thread (reverse at.newer)

    asked_there : Own e.thread asked e later
    asked_there =
        let behind = behind_first (events_of e.thread (reverse at.older)) later (events_of e.thread b.own.after) e b.own.begins _ kind b.own.act (sym own ∙ begun) in
        own_there e.thread asked behind.0 e later (b.own.asked ∙ behind.1)

    follow : FreesFollowIn (asked_with b b.fuel)
    follow = follows m b.own.function b.own.argument (answers_of (events_of e.thread b.own.after)) b.fuel

    takes : (d : SourceEvent) → by e.thread d ≡ e → takes_something d ≡ true
    takes d is = subst (λ (z : SourceEvent). takes_something z ≡ true) (sym is) (ap (λ b. b && not (is_null e.answer)) kind ∙ some)

    at_last : EmptiesAtNext (asked_with b b.fuel) n × (later ≡ [])
    at_last = by_rest asked_there.after refl
      where
        answer : asked_there.event.answer ≡ e.answer
        answer = ap (λ (d : SourceEvent). d.answer) asked_there.is

        by_rest : (after : List SourceEvent) → asked_there.after ≡ after → EmptiesAtNext (asked_with b b.fuel) n × (later ≡ [])
        by_rest [] none = (
          subst (EmptiesAtNext (asked_with b b.fuel)) (ap number_of answer ∙ number)
              (follow.last asked_there.before asked_there.event (asked_there.stands ∙ ap (λ l. asked_there.before ++ asked_there.event ∷ l) none) (takes asked_there.event asked_there.is)),
          sym asked_there.rest ∙ ap (map (by e.thread)) none,
        )
        by_rest (d ∷ rest) more =
            let act : d.act ≡ Freed asked_there.event.answer =
            follow.followed asked_there.before asked_there.event d rest (asked_there.stands ∙ ap (λ l. asked_there.before ++ asked_there.event ∷ l) more) (takes asked_there.event asked_there.is) in
            absurd (not_freed (by e.thread d) (map (by e.thread) rest) (act ∙ ap Freed answer) (sym asked_there.rest ∙ ap (map (by e.thread)) more))

  being_taken : IsBeingTaken m R n
  being_taken = record {
    thread = e.thread;
    has_events = λ none. some_event (events_of e.thread (reverse at.older)) (events_of e.thread (reverse at.newer)) e (sym own ∙ none);
    event = e;
    kind = kind;
    refers_there = there;
    last = λ b. (events_of e.thread (reverse at.older), own ∙ ap (λ l. events_of e.thread (reverse at.older) ++ e ∷ l) (at_last b).1);
    empties = λ b. (at_last b).0;
  }

pub taken_are_being_taken : FreesFollow → TakenAreBeingTaken
taken_are_being_taken follows m R n live taken = by_event (find (made_or_taken n) (reverse R)) refl taken
  where
    by_event : (o : Option SourceEvent) → find (made_or_taken n) (reverse R) ≡ o → meets (takes_to_free (Made n)) o ≡ true → IsBeingTaken m R n
    by_event None is h = absurd (cc)
    by_event (Some e) is h = being_taken follows m R n live e h (found (made_or_taken n) (reverse R) e is)

-- ---- a thread whose last event takes something to free it
refers_to : (n : ℕ) (v : ℤ) → refers n v ≡ true → (is_null v ≡ false) × (number_of v ≡ n)
refers_to n v h = let p = and_parts (not (is_null v)) (number_of v == n) h in (no_null (is_null v) p.0, eqb-true (number_of v) n p.1)

pub last_takers_free : FreesFollow → LastTakersFree
last_takers_free follows m R thread n t b = by asked_there.after refl
  where
    behind : (rest : List SourceEvent) × (events_of thread b.own.after ≡ rest ++ t.event ∷ [])
    behind = behind_first t.before [] (events_of thread b.own.after) t.event b.own.begins _ t.kind b.own.act (sym t.last ∙ own_begun m R thread b)

    asked_there : Own thread (asked_with b b.fuel).events t.event []
    asked_there = own_there thread (asked_with b b.fuel).events behind.0 t.event [] (b.own.asked ∙ behind.1)

    answer : asked_there.event.answer ≡ t.event.answer
    answer = ap (λ (d : SourceEvent). d.answer) asked_there.is

    takes : takes_something asked_there.event ≡ true
    takes = subst (λ (z : SourceEvent). takes_something z ≡ true) (sym asked_there.is) (ap (λ b. b && not (is_null t.event.answer)) t.kind ∙ ap not (refers_to n t.event.answer t.refers_there).0)

    by : (after : List SourceEvent) → asked_there.after ≡ after → EmptiesAtNext (asked_with b b.fuel) n
    by [] none =
        subst (EmptiesAtNext (asked_with b b.fuel)) (ap number_of answer ∙ (refers_to n t.event.answer t.refers_there).1)
        ((follows m b.own.function b.own.argument (answers_of (events_of thread b.own.after)) b.fuel).last asked_there.before asked_there.event (asked_there.stands ∙ ap (λ l. asked_there.before ++ asked_there.event ∷ l) none) takes)
    by (d ∷ rest) more = let e : map (Runs.by thread) (d ∷ rest) ≡ [] = ap (map (Runs.by thread)) (sym more) ∙ asked_there.rest in absurd (cc)

pub emptiers_took_last : EmptiedWereTaken → EmptiersTookLast
emptiers_took_last emptied m R thread b fuel past before n given =
    let w = emptied m b.own.function b.own.argument (answers_of (events_of thread b.own.after)) fuel before n given in
    let parts = and_parts (taken_to_free w.event.act) (not (is_null w.event.answer)) w.takes in
    record {
      before = b.own.begins ∷ map (Runs.by thread) w.before;
      event = Runs.by thread w.event;
      last = own_begun m R thread b ∙ ap (λ l. b.own.begins ∷ l) (sym past ∙ ap (map (Runs.by thread)) w.stands ∙ map-append (Runs.by thread) w.before (w.event ∷ []));
      kind = parts.0;
      refers_there = ap (λ b. b && (number_of w.event.answer == n)) parts.1 ∙ eq-eqb (number_of w.event.answer) n w.number;
    }
