-- At a test that passed no cell is a reference to the object by the history, nor is anything else but the one that is tested.
use Rattle.sharc_wants_laws.proofs.Imports.{◌≡◌, ⊎_elim, ℕ, pos, ◌+◌, ◌-◌, ◌<◌, ◌≤◌, true, false, List, ◌∷◌, length, Option, Some, None, refl, sym, ap, ◌∙◌, subst, arith, cases_lt, slice_index, get_or as slice_index_or, Object, SourceEvent, GlobalForm, Assignment, latest, makes, Holder, References, in_argument, in_cell, in_mutex, in_thread, is_pointer_of, is_pointer_of_made, is_taken_to_free, refers, form_value, global_value, initial_value, value_after, Code, Shape, int_of, Fits, IsInGlobal, first_cell_of as first_place, Turn, no_global, CheckedRun, globals_of, Content, Pointer, global_field, Labels, Initial, IsWellTyped, IsSmall, history_of, GlobalPointersAreKept, MadePointersAreKept, OthersAreInitial, BeginsWith, GlobalsPoint, IsPointerInTable, HasTables, targets_of, Passes, tested_object, ArgumentsHoldNone, CellsHoldNone, FreedAreTaken, MutexesHoldNone, ThreadsHoldNone, yes}
use Rattle.sharc_ctype.specs.Globals.{elements_of}
use Rattle.sharc_invariant.specs.Types.{is_pointer}

-- a pointer begins as NULL
null_word : (a : Content) (v : ℕ) → is_pointer a ≡ true → Initial a v → v ≡ 0
null_word (Pointer f) v is h = h
null_word _ v is h = absurd (yes (sym is))

in_own : (t u which : ℕ) → (u ≡ t) × (which ≡ 0) → in_thread u which ≡ in_thread t 0
in_own t u which h = ap (λ v. in_thread v which) h.0 ∙ ap (in_thread t) h.1

module _ (kept : MadePointersAreKept) (globals : GlobalPointersAreKept) (others : OthersAreInitial) (point : GlobalsPoint) (m : Assignment) (code : Code) (tables : HasTables m code)
    (threads : ThreadsHoldNone m code) (arguments : ArgumentsHoldNone m code) (mutexes : MutexesHoldNone) (cells : CellsHoldNone) (freed : FreedAreTaken m code)
    (s : Shape) (ls : Labels) (wt : IsWellTyped (targets_of m) code ls) (fits : Fits code s) (small : IsSmall code s) (first : BeginsWith m.typed code)
    (test : Turn) (earlier : List Turn) (checked : CheckedRun code s (test ∷ earlier)) (was : CheckedRun code s earlier) (register : ℕ) (passes : Passes code s test earlier register) where
  abbrev n : ℕ
  n = tested_object code s test earlier register

  abbrev R : List SourceEvent
  R = history_of code s earlier

  -- ---- a cell of a global
  module _ (k : ℕ) (cell : ℕ) (t : IsPointerInTable m k cell) where
    abbrev place : ℕ
    place = first_place code.globals.items k + cell

    tabled : (c : ℕ) → IsInGlobal (globals_of m.typed) k (first_place (globals_of m.typed) k + c) → IsInGlobal code.globals.items k (first_place code.globals.items k + c)
    tabled c inside = subst (λ list. IsInGlobal list k (first_place list k + c)) (sym tables.globals) inside

    pointer_there : (c : ℕ) → is_pointer (global_field (targets_of m) (first_place (globals_of m.typed) k + c - 2)).holds ≡ true → is_pointer (global_field (targets_of m) (first_place code.globals.items k + c - 2)).holds ≡ true
    pointer_there c is = subst (λ list. is_pointer (global_field (targets_of m) (first_place list k + c - 2)).holds ≡ true) (sym tables.globals) is

    -- one that the global has would be a cell of an object that is being freed, and the globals are none
    none_inside : IsInGlobal code.globals.items k (first_place code.globals.items k + cell) → References m (history_of code s earlier) n (in_cell (record { object = Object.Global k; cell = cell })) → ⊥
    none_inside inside there =
        let low = wt.globals.low k inside.known in
        let at : first_place code.globals.items k + cell - 2 + 2 ≡ first_place code.globals.items k + cell = omega (arith, low) in
        let own : IsInGlobal (globals_of m.typed) k (first_place (globals_of m.typed) k + cell) = subst (λ list. IsInGlobal list k (first_place list k + cell)) tables.globals inside in
        let now = globals (targets_of m) code s ls wt fits small earlier was k cell inside (pointer_there cell (t.inside own)) in
        let y = cells m code (targets_of m) s ls wt fits small first test earlier checked register passes 0 (first_place code.globals.items k + cell - 2) (record { object = Object.Global k; cell = cell })
        (refl, subst (λ at. IsInGlobal code.globals.items k at) (sym at) inside, at) now there in
        y.0.some refl

    -- another one keeps what the global begins with, which is NULL
    begins_null : initial_value m.typed (Object.Global k) ≡ pos 0
    begins_null = ap global_value t.is ∙ by t.definition.form refl
      where
        by : (f : GlobalForm) → t.definition.form ≡ f → form_value t.definition.form ≡ pos 0
        by (GlobalForm.Initial span minus c) is =
            let some : 0 < elements_of t.definition.form = subst (λ f. 0 < elements_of f) (sym is) (omega arith) in
            let near = first_place code.globals.items k + t.near in
            let begin = first k near (tabled t.near (t.there some)) in
            let null = null_word (global_field (targets_of m) (near - 2)).holds (slice_index code.initial.items (near - 2)) (pointer_there t.near (t.pointer some)) (wt.globals.initial (near - 2)) in
            sym (ap global_value t.is) ∙ sym begin ∙ ap int_of null
        by _ is = ap form_value is

    none_beside : (IsInGlobal code.globals.items k (first_place code.globals.items k + cell) → ⊥) → refers n (value_after m.typed (history_of code s earlier) (record { object = Object.Global k; cell = cell })) ≡ true → ⊥
    none_beside beside there =
        let value = others (targets_of m) code s ls wt fits small m.typed first earlier was k cell beside ∙ begins_null in
        yes (sym there ∙ ap (refers n) value)

    none_in_global : References m (history_of code s earlier) n (in_cell (record { object = Object.Global k; cell = cell })) → ⊥
    none_in_global there = ⊎_elim
        (λ (low : cell < (slice_index_or code.globals.items k no_global).cells).
        let known : k < length code.globals.items = subst (λ list. k < length list) (sym tables.globals) t.known in
        none_inside (record { known = known; low = omega arith; high = omega (arith, low) }) there)
        (λ (high : (slice_index_or code.globals.items k no_global).cells ≤ cell).
        none_beside (λ inside. let below = inside.high in omega (arith, high, below)) there.refers_there)
        (cases_lt cell (slice_index_or code.globals.items k no_global).cells)

  -- ---- a cell of an object that is made
  made_by : (p i : ℕ) → is_pointer_of m.typed (history_of code s earlier) (Object.Made p) i ≡ true
      → (e : SourceEvent) × (latest (makes (Object.Made p)) (history_of code s earlier) ≡ Some e) × ((targets_of m).is_made_pointer e.site.token i ≡ true)
  made_by p i is = by (latest (makes (Object.Made p)) R) refl is
    where
      by : (o : Option SourceEvent) → latest (makes (Object.Made p)) (history_of code s earlier) ≡ o → is_pointer_of_made m.typed o i ≡ true
          → (e : SourceEvent) × (latest (makes (Object.Made p)) (history_of code s earlier) ≡ Some e) × ((targets_of m).is_made_pointer e.site.token i ≡ true)
      by None last is = absurd (yes (sym is))
      by (Some e) last is = (e, last, is)

  none_in_made : (p i : ℕ) → References m (history_of code s earlier) n (in_cell (record { object = Object.Made p; cell = i })) → ⊥
  none_in_made p i there =
      let e = made_by p i there.pointer in
      let now = kept (targets_of m) code s ls wt fits small m.typed first earlier was p i n there.counts.0 e.0 e.1 e.2 there.refers_there in
      let y = cells m code (targets_of m) s ls wt fits small first test earlier checked register passes p i (record { object = Object.Made p; cell = i }) (refl, now.0, refl) now.1 there in
      ⊎_elim
      (λ (same : p ≡ n). y.1 same)
      (λ (free : is_taken_to_free R p ≡ false). yes (sym (freed (targets_of m) s ls wt fits small earlier was p y.0) ∙ free))
      there.counts.1

  none_in_cell : (o : Object) (i : ℕ) → References m (history_of code s earlier) n (in_cell (record { object = o; cell = i })) → ⊥
  none_in_cell (Object.Global k) i there = none_in_global k i (point m k i there.pointer) there
  none_in_cell (Object.Made p) i there = none_in_made p i there

  pub only : (holder : Holder) → References m (history_of code s earlier) n holder → holder ≡ in_thread test.thread 0
  only (in_cell c) there = absurd (none_in_cell c.object c.cell there)
  only (in_argument u) there = absurd (arguments (targets_of m) s ls wt fits small first test earlier checked register passes u there)
  only (in_mutex c) there = absurd (mutexes m code (targets_of m) s ls wt fits small first test earlier checked register passes c there)
  only (in_thread u which) there = in_own test.thread u which (threads (targets_of m) s ls wt fits small test earlier checked register passes u which there)
