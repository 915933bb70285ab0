-- What holds a reference is listed.
use Rattle.sharc_meaning_tests.proofs.{Imports.{Any, list_any-from_Any, ◌≡◌, ◌⊎◌, inl, inr, ℕ, zero, suc, ◌+◌, ◌<◌, Bool, true, false, not, ◌&&◌, ◌||◌, List, [], ◌∷◌, ◌++◌, Option, Some, None, refl, ap, sym, subst, ◌∙◌, not_from_false, both_ways, and_parts, and_from, or_cases, eqb-true, ℤ, pos, negsuc, ◌==◌, ◌%◌, length, slice_get, slice_index_or, IsTrue, if◌then◌else◌, list_any, AllByRecursion, Base, Int, Char, Long, Mutex, Void, Struct, Act, CellAt, CellMode, Object, Global, Made, SourceEvent, WrittenType, Null, GlobalDefinition, GlobalForm, Plain, Array, Initial, Kind, object, is_pointer, is_integral, declared_kind, pointer_cells, Resolution, globals_in, global_at, IsInteger, MeetsInitial, MeetsGlobal, Assignment, is_of, is_cell, is_number, made_by, makes, same_object, same_cell, locks, unlocks, locked_by, refers, base_fields, is_pointer_in, is_pointer_of_global, is_pointer_of, passes, CellRefers, ArgumentRefers, ThreadHoldsWith, SourceRun, cell_changed, changes, value_left, form_value, global_value, initial_value, value_by, value_after, meets, is_locked, spawns, is_spawn, is_natural, SameLaws, FindsEntries, Holder, InCell, InArgument, InMutex, InThread, IsListed, cell_refers, cell_at, mutex_at, is_passed, argument_at, in_thread_all, thread_at, by_act, holders_at, holders, thread_count}, Entries.{events_begun, follows_begun}, Latest.{LastAt, last_found, latest_last, latest_none, stands_any}, Places.{alone, in_front, in_back, of_threads, here}, Sound.{true_cell, count_is}}

-- ---- what a cell has that nobody wrote

abbrev base_of : Kind → Base
base_of (object b stars) = b
base_of _ = Void

without_fields : (r : Resolution) (cell : ℕ) (b : Base) → IsTrue (is_integral b) → slice_index_or (pointer_cells (base_fields r b)) (cell % length (base_fields r b)) false ≡ false
without_fields r cell Int h = refl
without_fields r cell Char h = refl
without_fields r cell Long h = refl
without_fields r cell Mutex h = absurd (cc)
without_fields r cell Void h = absurd (cc)
without_fields r cell (Struct name) h = absurd (cc)

no_pointer : (w : WrittenType) (r : Resolution) (cell : ℕ) → IsInteger (declared_kind w) → is_pointer_in r w cell ≡ false
no_pointer w r cell (b, integral, is) =
    let base : w.ctype.base ≡ b = ap base_of is in
    ap (λ k. is_pointer k || slice_index_or (pointer_cells (base_fields r w.ctype.base)) (cell % length (base_fields r w.ctype.base)) false) is
    ∙ ap (λ z. slice_index_or (pointer_cells (base_fields r z)) (cell % length (base_fields r z)) false) base
    ∙ without_fields r cell b integral

form_refers : (n : ℕ) (r : Resolution) (cell : ℕ) (w : WrittenType) (f : GlobalForm) → MeetsInitial w f → is_pointer_in r w cell ≡ true → refers n (form_value f) ≡ false
form_refers n r cell w Plain h p = refl
form_refers n r cell w (Array at count) h p = refl
form_refers n r cell w (Initial span minus c) (inl (integer, k, told, held)) p = absurd (both_ways _ (no_pointer w r cell integer) p)
form_refers n r cell w (Initial span minus c) (inr (pointer, null)) p = ap (λ z. refers n (form_value (Initial span minus z))) null ∙ of_null minus
  where
    of_null : (b : Bool) → refers n (form_value (Initial span b Null)) ≡ false
    of_null true = refl
    of_null false = refl

of_each : {A : Type 0} (P : A → Type 0) (l : List A) (k : ℕ) (x : A) → AllByRecursion P l → slice_get l k ≡ Some x → P x
of_each P [] zero x h at = absurd (cc)
of_each P [] (suc k) x h at = absurd (cc)
of_each P (y ∷ l) zero x h at = let same : y ≡ x = cc in subst P same h.0
of_each P (y ∷ l) (suc k) x h at = of_each P l k x h.1 at

initial_refers : (n : ℕ) (r : Resolution) (R : List SourceEvent) (cell : ℕ) → AllByRecursion MeetsGlobal (globals_in r.program.items) → (o : Object) → is_pointer_of r R o cell ≡ true → refers n (initial_value r o) ≡ false
initial_refers n r R cell each (Made k) p = refl
initial_refers n r R cell each (Global g) p = by_global (global_at r g) refl p
  where
    by_global : (d : Option GlobalDefinition) → global_at r g ≡ d → is_pointer_of_global r d cell ≡ true → refers n (global_value (global_at r g)) ≡ false
    by_global None at h = absurd (cc)
    by_global (Some d) at h = ap (λ z. refers n (global_value z)) at ∙ form_refers n r cell d.declaration.written d.form (of_each MeetsGlobal (globals_in r.program.items) g d each at).initial h

-- ---- the last Write of a cell

-- it is the act of a Write to the cell, if it changes the cell and leaves a reference there
record IsWrite (c : CellAt) (a : Act) : Type 0 where
  to : CellAt
  mode : CellMode
  value : ℤ
  is : a ≡ Act.Write to mode value
  same : same_cell c to ≡ true

module _ (n : ℕ) (c : CellAt) (e : SourceEvent) where
  no_write : {P : Type 0} → refers n (pos 0) ≡ true → P
  no_write h = absurd (cc)

  a_write_makes_none : (to : CellAt) (mode : _) (v : ℤ) → e.act ≡ Act.Write to mode v → (o : Object) → makes o e ≡ false
  a_write_makes_none to mode v is (Global g) = refl
  a_write_makes_none to mode v is (Made k) = ap (λ z. is_number k (made_by e z)) is

  by_write : (to : CellAt) (mode : _) (v : ℤ) → e.act ≡ Act.Write to mode v → changes c e ≡ true → IsWrite c (Act.Write to mode v)
  by_write to mode v is h = by_part (or_cases (is_cell c (cell_changed e.act)) (makes c.object e) h)
    where
      by_part : (is_cell c (cell_changed e.act) ≡ true) ⊎ (makes c.object e ≡ true) → IsWrite c (Act.Write to mode v)
      by_part (inl i) = record { to = to; mode = mode; value = v; is = refl; same = sym (ap (λ z. is_cell c (cell_changed z)) is) ∙ i }
      by_part (inr i) = absurd (both_ways _ (a_write_makes_none to mode v is c.object) i)

  to_write : (a : Act) → e.act ≡ a → changes c e ≡ true → refers n (value_left a) ≡ true → IsWrite c a
  to_write (Act.Write to mode v) is h k = by_write to mode v is h
  to_write _ is h k = no_write k

-- ---- a Lock of a mutex, and a Spawn

record IsLock (c : CellAt) (a : Act) : Type 0 where
  to : CellAt
  is : a ≡ Act.Lock to
  same : same_cell c to ≡ true

to_lock : (c : CellAt) (a : Act) → is_cell c (locked_by a) ≡ true → IsLock c a
to_lock c (Act.Lock d) h = record { to = d; is = refl; same = h }
to_lock c _ h = absurd (cc)

record IsSpawnAct (a : Act) : Type 0 where
  function : ℕ
  argument : ℤ
  is : a ≡ Act.Spawn function argument

to_spawn : (a : Act) → is_spawn a ≡ true → IsSpawnAct a
to_spawn (Act.Spawn f v) h = record { function = f; argument = v; is = refl }
to_spawn _ h = absurd (cc)

natural_is : (thread : ℕ) (v : ℤ) → is_natural thread v ≡ true → v ≡ pos thread
natural_is thread (pos k) h = ap pos (sym (eqb-true thread k h))
natural_is thread (negsuc k) h = absurd (cc)

-- a Lock or an Unlock of the mutex
abbrev of_mutex : CellAt → SourceEvent → Bool
of_mutex c e = locks c e || unlocks c e

-- ---- all

module _ (fuel : ℕ) (m : Assignment) (R : List SourceEvent) (n : ℕ) (same : SameLaws) where
  -- what is listed by an act is listed
  by_its_act : (before : List SourceEvent) (e : SourceEvent) (after : List SourceEvent) (h : Holder) → R ≡ before ++ e ∷ after → IsListed h (by_act m.typed R n e after e.act) → IsListed h (holders fuel m R n)
  by_its_act before e after h stands i = here (holders_at fuel m R n) R before e after h stands (in_front h (by_act m.typed R n e after e.act) (thread_at fuel m R n e.thread after) i)

  module _ (each : AllByRecursion MeetsGlobal (globals_in m.typed.program.items)) where
    pub cell_listed : (c : CellAt) → CellRefers m R n c → IsListed (InCell c) (holders fuel m R n)
    cell_listed c h = by_case (list_any (changes c) R) refl
      where
        written : (s : LastAt (changes c) R) → IsListed (InCell c) (holders fuel m R n)
        written s =
            let value : value_after m.typed R c ≡ value_left s.event.act = ap (value_by (initial_value m.typed c.object)) (latest_last (changes c) R s) in
            let w = to_write n c s.event s.event.act refl s.is (ap (refers n) (sym value) ∙ h.refers_there) in
            let one : c ≡ w.to = (same.cells c w.to).0 w.same in
            let test : (not (list_any (changes c) s.after) && cell_refers m.typed R n c) ≡ true = and_from _ _ (not_from_false _ s.none) (true_cell fuel m R n c h) in
            let listed : IsListed (InCell c) (cell_at m.typed R n c s.after) = alone (not (list_any (changes c) s.after) && cell_refers m.typed R n c) (InCell c) test in
            let there : IsListed (InCell c) (cell_at m.typed R n w.to s.after) = subst (λ z. IsListed (InCell c) (cell_at m.typed R n z s.after)) one listed in
            by_its_act s.before s.event s.after (InCell c) s.stands (subst (λ z. IsListed (InCell c) (by_act m.typed R n s.event s.after z)) (sym w.is) there)

        by_case : (b : Bool) → list_any (changes c) R ≡ b → IsListed (InCell c) (holders fuel m R n)
        by_case true i = written (last_found (changes c) R i)
        by_case false i = absurd (both_ways _ (initial_refers n m.typed R c.cell each c.object h.pointer) (ap (λ z. refers n (value_by (initial_value m.typed c.object) z)) (sym (latest_none (changes c) R i)) ∙ h.refers_there))

  pub mutex_listed : (c : CellAt) → c.object ≡ Made n → is_locked R c ≡ true → IsListed (InMutex c) (holders fuel m R n)
  mutex_listed c own locked = by_case (list_any (of_mutex c) R) refl
    where
      found : (s : LastAt (of_mutex c) R) → IsListed (InMutex c) (holders fuel m R n)
      found s =
          let l = to_lock c s.event.act (ap (meets (locks c)) (sym (latest_last (of_mutex c) R s)) ∙ locked) in
          let one : c ≡ l.to = (same.cells c l.to).0 l.same in
          let test : (same_object c.object (Made n) && not (list_any (of_mutex c) s.after)) ≡ true = and_from _ _ ((same.objects c.object (Made n)).1 own) (not_from_false _ s.none) in
          let there : IsListed (InMutex c) (mutex_at n l.to s.after) = subst (λ z. IsListed (InMutex c) (mutex_at n z s.after)) one (alone (same_object c.object (Made n) && not (list_any (of_mutex c) s.after)) (InMutex c) test) in
          by_its_act s.before s.event s.after (InMutex c) s.stands (subst (λ z. IsListed (InMutex c) (by_act m.typed R n s.event s.after z)) (sym l.is) there)

      by_case : (b : Bool) → list_any (of_mutex c) R ≡ b → IsListed (InMutex c) (holders fuel m R n)
      by_case true i = found (last_found (of_mutex c) R i)
      by_case false i = absurd (both_ways _ (ap (meets (locks c)) (latest_none (of_mutex c) R i)) locked)

  pub argument_listed : (thread : ℕ) → ArgumentRefers m R n thread → IsListed (InArgument thread) (holders fuel m R n)
  argument_listed thread h =
      found (last_found (is_passed m.typed n thread) R (list_any-from_Any (is_passed m.typed n thread) R (passed_any h.spawned)))
    where
      passed_any : Any (λ e. (spawns thread e ≡ true) × (passes m.typed n e.act ≡ true)) R → Any (λ e. is_passed m.typed n thread e ≡ true) R
      passed_any (k, x, less, at, is) = (k, x, less, at, and_from _ _ is.0 is.1)

      found : (s : LastAt (is_passed m.typed n thread) R) → IsListed (InArgument thread) (holders fuel m R n)
      found s =
          let parts = and_parts (spawns thread s.event) (passes m.typed n s.event.act) s.is in
          let told = and_parts (is_spawn s.event.act) (is_natural thread s.event.answer) parts.0 in
          let a = to_spawn s.event.act told.0 in
          let answer : s.event.answer ≡ pos thread = natural_is thread s.event.answer told.1 in
          let test : ((passes m.typed n s.event.act && not (list_any (is_of thread) R)) && not (list_any (is_passed m.typed n thread) s.after)) ≡ true =
          and_from _ _ (and_from _ _ parts.1 (not_from_false _ (events_begun R thread h.unread))) (not_from_false _ s.none) in
          let there : IsListed (InArgument thread) (argument_at m.typed R n s.event s.after (pos thread)) =
          alone ((passes m.typed n s.event.act && not (list_any (is_of thread) R)) && not (list_any (is_passed m.typed n thread) s.after)) (InArgument thread) test in
          let here : IsListed (InArgument thread) (argument_at m.typed R n s.event s.after s.event.answer) = subst (λ z. IsListed (InArgument thread) (argument_at m.typed R n s.event s.after z)) (sym answer) there in
          by_its_act s.before s.event s.after (InArgument thread) s.stands (subst (λ z. IsListed (InArgument thread) (by_act m.typed R n s.event s.after z)) (sym a.is) here)

  pub thread_listed : SourceRun m R → FindsEntries m.typed → (thread which : ℕ) → ThreadHoldsWith fuel m R thread which n → IsListed (InThread thread which) (holders fuel m R n)
  thread_listed run one thread which h = found (last_found (is_of thread) R (follows_begun m R h.begun.fuel thread h.begun.own))
    where
      found : (s : LastAt (is_of thread) R) → IsListed (InThread thread which) (holders fuel m R n)
      found s =
          let own : s.event.thread ≡ thread = eqb-true s.event.thread thread s.is in
          let less : which < thread_count fuel m R thread n = subst (λ z. which < z) (sym (count_is fuel m R n run one h.begun.fuel thread h.begun.own)) h.holds in
          let all : IsListed (InThread thread which) (in_thread_all thread (thread_count fuel m R thread n)) = of_threads thread (thread_count fuel m R thread n) which less in
          let last : IsListed (InThread thread which) (thread_at fuel m R n thread s.after) = subst (λ b. IsListed (InThread thread which) (if b then [] else in_thread_all thread (thread_count fuel m R thread n))) (sym s.none) all in
          here (holders_at fuel m R n) R s.before s.event s.after (InThread thread which) s.stands
          (in_back (InThread thread which) (by_act m.typed R n s.event s.after s.event.act) (thread_at fuel m R n s.event.thread s.after) (subst (λ t. IsListed (InThread thread which) (thread_at fuel m R n t s.after)) (sym own) last))
