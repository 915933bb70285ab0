-- Which cells are pointers: those that are by the source, and refer to an object by the events, are so by the words.
use Rattle.sharc_history_laws.proofs.{Imports.{◌≡◌, ◌≢◌, ℕ, pos, ◌+◌, ◌-◌, ◌*◌, ◌<◌, ◌≤◌, ◌⊎◌, inl, inr, Bool, true, false, ◌&&◌, List, [], ◌∷◌, reverse, Option, Some, None, refl, sym, ap, ◌∙◌, subst, ⊎_elim, arith, cases_Bool, cases_lt, lt-ltb, reverse-append, nat_lt, ◌==◌, Object, SourceEvent, Resolution, Code, Shape, RunLaws, Fits, Machine, opening_words, IsInGlobal, first_cell_of, Turn, Global, IsRun, result_of, opening_of, one_thread, bounds, place_after, said_now, table_of, latest, makes, made_by, refers, initial_value, is_live, value_after, Targets, Field, field_in, field_of_cell, global_field, globals_target, is_pointer, Labels, IsWellTyped, ObjectState, IsSmall, first_world, first_place, objects_after, cells_now, is_pointer_now, Keeps, CodeBegins, CellsAreThere, PointersAreThere, AccessesAreAllowed, StateStands, history_of, Grows, BeginsWith, yes, same_is as eq_refl}, Acts.made_said, Consists.{Consists, headed, live_not_built}, Contents.value_is, MadeOf.{MadeInRun, lives_in, made_in, pointers_made, some_made}, Rules.{newest, newest_now, pushed, about_now, decide, number_not}, SeenCells.{Seen, seen, cells_are}}

all_three : (a b c : Bool) → a ≡ true → b ≡ true → c ≡ true → (a && (b && c)) ≡ true
all_three a b c p q r = ap (λ z. z && (b && c)) p ∙ ap (λ z. z && c) q ∙ r

one_event : (a b : SourceEvent) (o : Option SourceEvent) → o ≡ Some a → o ≡ Some b → a ≡ b
one_event a b o p q = let e : Some a ≡ Some b = sym p ∙ q in cc

-- ---- at a place of a run
module _ (x : Targets) (code : Code) (s : Shape) (ls : Labels) (wt : IsWellTyped x code ls) (fits : Fits code s) (run : List Turn) (h : Consists x code s ls run) where
  open h use {world, state as st}

  abbrev g : Global Machine
  g = place_after code s run

  -- a live object with a cell of this number
  is_now : (p i : ℕ) → (h.world.obj p).live ≡ true → i < h.state.cells p → is_pointer (field_in x (h.world.obj p).ty i).holds ≡ true → is_pointer_now x s (place_after code s run) h.world.obj p i ≡ true
  is_now p i live low pointer =
      all_three (world.obj p).live (nat_lt i (cells_now x s g world.obj p)) (is_pointer (field_in x (world.obj p).ty i).holds) live
      (lt-ltb i (cells_now x s g world.obj p) (subst (λ n. i < n) (sym (cells_are x code s ls g world st p live)) low)) pointer

  -- a cell of a global
  field : (i : ℕ) → field_in x (h.world.obj 0).ty i ≡ global_field x i
  field i =
      let is : ((world.obj 0).ty.target == globals_target x) ≡ true = ap (λ (y : ObjectState). y.ty.target == globals_target x) st.globals ∙ eq_refl (globals_target x) in
      ap (λ b. elim b as (λ b. Field) [ true ↦ global_field x i | false ↦ field_of_cell x (h.world.obj 0).ty.target i ]) is

  global_now : (n cell : ℕ) → IsInGlobal code.globals.items n (first_cell_of code.globals.items n + cell) → is_pointer (global_field x (first_cell_of code.globals.items n + cell - 2)).holds ≡ true
      → is_pointer_now x s (place_after code s run) h.world.obj 0 (first_cell_of code.globals.items n + cell - 2) ≡ true
  global_now n cell inside pointer =
      let i : ℕ = first_cell_of code.globals.items n + cell - 2 in
      let live : (world.obj 0).live ≡ true = ap (λ (y : ObjectState). y.live) st.globals in
      let high = inside.high in
      let end = wt.globals.high n inside.known in
      let low = wt.globals.low n inside.known in
      let all : st.cells 0 ≡ 2 * code.granules = st.globals_cells ∙ ap (λ n. 2 * n) fits.globals in
      is_now 0 i live (omega (arith, high, end, low, all)) (ap (λ (f : Field). is_pointer f.holds) (field i) ∙ pointer)

module _ (x : Targets) (code : Code) (s : Shape) (ls : Labels) (wt : IsWellTyped x code ls) (fits : Fits code s) (r : Resolution) (run : List Turn) (k : Seen r x code s ls run) where
  -- an object that has fewer cells holds NULL behind them
  made_now : (p i o : ℕ) → p ≢ 0 → (k.consists.world.obj p).live ≡ true → is_pointer (field_in x (k.consists.world.obj p).ty i).holds ≡ true
      → refers o (value_after r (history_of code s run) (record { object = Object.Made p; cell = i })) ≡ true → is_pointer_now x s (place_after code s run) k.consists.world.obj p i ≡ true
  made_now p i o nz live pointer there = ⊎_elim
      (λ (low : i < k.consists.state.cells p). is_now x code s ls wt fits run k.consists p i live low pointer)
      (λ (high : k.consists.state.cells p ≤ i).
      let null : value_after r (history_of code s run) (record { object = Object.Made p; cell = i }) ≡ pos 0 = value_is r (newest code s run) (record { object = Object.Made p; cell = i }) ∙ k.behind (record { object = Object.Made p; cell = i }) (nz, live, high) in
      absurd (yes (sym there ∙ ap (refers o) null)))
      (cases_lt i (k.consists.state.cells p))

  other_now : (n cell : ℕ) → (IsInGlobal code.globals.items n (first_cell_of code.globals.items n + cell) → ⊥)
      → value_after r (history_of code s run) (record { object = Object.Global n; cell = cell }) ≡ initial_value r (Object.Global n)
  other_now n cell beside = value_is r (newest code s run) (record { object = Object.Global n; cell = cell }) ∙ k.behind (record { object = Object.Global n; cell = cell }) beside

-- ---- the event of a turn
is_made : (p : ℕ) (e : SourceEvent) → makes (Object.Made p) e ≡ true → made_said (Some e) ≡ Some p
is_made p e h = ⊎_elim
    (λ (it : made_by e e.act ≡ Some p). it)
    (λ (not : made_by e e.act ≡ Some p → ⊥). absurd (yes (sym h ∙ number_not p (made_by e e.act) not)))
    (decide (made_by e e.act) p)

-- ---- runs
module _ (cell_laws : CellsAreThere) (pointers : PointersAreThere) (rights : AccessesAreAllowed) (laws : RunLaws) (begins_law : CodeBegins) (keeps : Keeps) (x : Targets) (code : Code) (s : Shape) (ls : Labels) (wt : IsWellTyped x code ls) (fits : Fits code s) (few : IsSmall code s) where
  abbrev Opened : List Turn → Type 0
  Opened run = IsRun bounds (one_thread code s) (opening_of bounds (one_thread code s) (opening_words code s)) run

  module _ (state_law : StateStands) (r : Resolution) (first : BeginsWith r code) where
    there_in : (run : List Turn) → Opened run → Seen r x code s ls run
    there_in run is_run = seen state_law cell_laws pointers rights laws begins_law keeps x code s ls wt fits few r first run is_run

    pub made_kept : (run : List Turn) → IsRun bounds (one_thread code s) (opening_of bounds (one_thread code s) (opening_words code s)) run → (p i o : ℕ) → is_live (history_of code s run) (Object.Made p) ≡ true
        → (e : SourceEvent) → latest (makes (Object.Made p)) (history_of code s run) ≡ Some e → x.is_made_pointer e.site.token i ≡ true → refers o (value_after r (history_of code s run) (record { object = Object.Made p; cell = i })) ≡ true
        → (p ≢ 0) × (is_pointer_now x s (place_after code s run) (objects_after code s ls (first_place code s) (first_world x).obj run) p i ≡ true)
    made_kept run is_run p i o live e last pointer there =
        let k = there_in run is_run in
        let nz = some_made cell_laws pointers rights laws begins_law keeps x code s ls wt fits few run is_run p e last in
        let is_live = lives_in cell_laws pointers rights laws begins_law keeps x code s ls wt fits few run is_run p live in
        let made = pointers_made cell_laws pointers rights laws begins_law keeps x code s ls wt fits few run is_run p i nz live in
        let same : made.0 ≡ e = one_event made.0 e (latest (makes (Object.Made p)) (history_of code s run)) made.1 last in
        let is : is_pointer (field_in x (objects_after code s ls (first_place code s) (first_world x).obj run p).ty i).holds ≡ true = made.2 ∙ ap (λ (e : SourceEvent). x.is_made_pointer e.site.token i) same ∙ pointer in (
          nz,
          subst (λ (obj : ℕ → ObjectState). is_pointer_now x s (place_after code s run) obj p i ≡ true) k.same
              (made_now x code s ls wt fits r run k p i o nz (subst (λ (obj : ℕ → ObjectState). (obj p).live ≡ true) (sym k.same) is_live)
              (subst (λ (obj : ℕ → ObjectState). is_pointer (field_in x (obj p).ty i).holds ≡ true) (sym k.same) is) there),
        )

    pub other_kept : (run : List Turn) → IsRun bounds (one_thread code s) (opening_of bounds (one_thread code s) (opening_words code s)) run → (n cell : ℕ) → (IsInGlobal code.globals.items n (first_cell_of code.globals.items n + cell) → ⊥)
        → value_after r (history_of code s run) (record { object = Object.Global n; cell = cell }) ≡ initial_value r (Object.Global n)
    other_kept run is_run n cell beside = other_now x code s ls wt fits r run (there_in run is_run) n cell beside

  pub global_kept : (run : List Turn) → IsRun bounds (one_thread code s) (opening_of bounds (one_thread code s) (opening_words code s)) run → (n cell : ℕ) → IsInGlobal code.globals.items n (first_cell_of code.globals.items n + cell)
      → is_pointer (global_field x (first_cell_of code.globals.items n + cell - 2)).holds ≡ true
      → is_pointer_now x s (place_after code s run) (objects_after code s ls (first_place code s) (first_world x).obj run) 0 (first_cell_of code.globals.items n + cell - 2) ≡ true
  global_kept run is_run n cell inside pointer =
      let k = made_in cell_laws pointers rights laws begins_law keeps x code s ls wt fits few run is_run in
      subst (λ (obj : ℕ → ObjectState). is_pointer_now x s (place_after code s run) obj 0 (first_cell_of code.globals.items n + cell - 2) ≡ true) k.same (global_now x code s ls wt fits run k.consists n cell inside pointer)

  -- a turn has no event, or one
  pub grown : (one : Turn) (earlier : List Turn) → IsRun bounds (one_thread code s) (opening_of bounds (one_thread code s) (opening_words code s)) (one ∷ earlier)
      → (history_of code s (one ∷ earlier) ≡ history_of code s earlier) ⊎ Grows code s (objects_after code s ls (first_place code s) (first_world x).obj earlier) one earlier
  grown one earlier run = by ev refl
    where
      k : MadeInRun x code s ls earlier
      k = made_in cell_laws pointers rights laws begins_law keeps x code s ls wt fits few earlier run.0

      ev : Option SourceEvent
      ev = said_now code (table_of code s earlier) ((place_after code s earlier).threads one.thread) (result_of one.event)

      now : (o : Option SourceEvent) → said_now code (table_of code s earlier) ((place_after code s earlier).threads one.thread) (result_of one.event) ≡ o → history_of code s (one ∷ earlier) ≡ reverse (pushed o (newest code s earlier))
      now o is = ap reverse (newest_now code s one earlier) ∙ ap (λ o. reverse (pushed o (newest code s earlier))) is

      dead : (e : SourceEvent) → said_now code (table_of code s earlier) ((place_after code s earlier).threads one.thread) (result_of one.event) ≡ Some e → (p : ℕ) → p ≢ 0 → makes (Object.Made p) e ≡ true
          → (objects_after code s ls (first_place code s) (first_world x).obj earlier p).live ≡ false
      dead e is p nz makes_it =
          let tells = about_now cell_laws pointers rights laws keeps x code s ls wt fits few one earlier k.consists run.1 in
          ⊎_elim
          (λ (live : (k.consists.world.obj p).live ≡ true).
          absurd (live_not_built x code s ls wt fits (place_after code s earlier) k.consists.world k.consists.state p one.thread nz live
          (headed laws keeps cell_laws pointers x code s ls wt fits few one earlier k.consists run.1 p nz (sym tells.makes ∙ ap made_said is ∙ is_made p e makes_it))))
          (λ (gone : (k.consists.world.obj p).live ≡ false). ap (λ (obj : ℕ → ObjectState). (obj p).live) (sym k.same) ∙ gone)
          (cases_Bool (k.consists.world.obj p).live)

      by : (o : Option SourceEvent) → said_now code (table_of code s earlier) ((place_after code s earlier).threads one.thread) (result_of one.event) ≡ o
          → (history_of code s (one ∷ earlier) ≡ history_of code s earlier) ⊎ Grows code s (objects_after code s ls (first_place code s) (first_world x).obj earlier) one earlier
      by None is = inl (now None is)
      by (Some e) is = inr (record { event = e; is = now (Some e) is ∙ reverse-append (e ∷ []) (newest code s earlier); fresh = dead e is })
