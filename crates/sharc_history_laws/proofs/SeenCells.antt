-- A pointer cell that refers to an object by the words does so by the events, but where a Free empties its object.
use Rattle.sharc_history_laws.proofs.{Imports.{◌≡◌, ℕ, pos, zero, suc, ◌+◌, ◌*◌, ◌/◌, ◌^◌, ◌<◌, ◌≢◌, inl, inr, Bool, true, false, cond, not, ◌&&◌, List, refl, sym, ap, ◌∙◌, subst, ⊎_elim, arith, ltb-true, cases_Bool, and_parts, nat_tests, slice_index, nat_lt, ◌==◌, ◌%◌, CellAt, Object, Resolution, Code, Shape, RunLaws, Fits, granules, granule_at, cell_word, cell_of, length_word, Machine, opening_words, IsInGlobal, Turn, Global, IsRun, result_of, opening_of, reference, one_thread, bounds, place_after, Elements, said_now, table_of, is_null, refers, value_after, Targets, Field, Content, Pointer, field_in, field_of_cell, global_field, globals_target, is_pointer, cells_of, Labels, IsWellTyped, CellOf, World, ObjectState, State, IsSmall, first_world, first_place, objects_after, objects_now, cells_now, is_pointer_now, cell_refers, Keeps, CodeBegins, CellsAreThere, PointersAreThere, AccessesAreAllowed, StateStands, history_of, BeginsWith, IsCellIn, IsLiveBy, IsBeingFreed, RefersBy, CellIsSeen, same_is as eq_refl, ne_zero, cell_word_is}, Behind.{AreFirst, first_then}, Consists.{Consists, consists_then, objects_then, none_live}, Contents.{newest_value, value_is, value_held, IsCellOf, content_of, word_of_cell, Contents}, Emptying.IsEmptied, Lists.is_live_in, Locked.{Names, NamesIn}, OneMode.place_of, Opening.contents_first, Rules.{over_runs, ObjectsTold, newest, about_now, objects_told}, Shared.{number_of, some_closing}, Stands.live_low, Unemptied.on_hold, Unwritten.{emptying, pointer_value}, Valued.contents_then}
use Rattle.sharc_invariant.specs.Words as Words

-- ---- references
not_null : (n : ℕ) → n ≢ 0 → is_null (pos n) ≡ false
not_null zero nz = absurd (nz refl)
not_null (suc n) nz = refl

back : (n elements : ℕ) → n ≢ 0 → n < 2 ^ 32 → refers n (reference n elements) ≡ true
back zero elements nz lt = absurd (nz refl)
back (suc k) elements nz lt =
    let some : is_null (pos (suc k + 2 ^ 32 * elements)) ≡ false = not_null (suc k + 2 ^ 32 * elements) (λ z. omega arith) in
    let e : (suc k + 2 ^ 32 * elements) % 2 ^ 32 ≡ suc k = omega arith in
    let q : (suc k == suc k) ≡ true = grind (arith, nat_tests) in
    ap (λ b. not b && (((suc k + 2 ^ 32 * elements) % 2 ^ 32) == suc k)) some ∙ ap (λ n. n == suc k) e ∙ q

-- a pointer cell holds a reference
pub holds_reference : (a : Content) (T : Elements) (v : ℕ) → is_pointer a ≡ true → value_held a T v ≡ reference v (T v)
holds_reference (Pointer f) T v e = refl
holds_reference _ T v e = absurd (cc)

-- ---- words and numbers of cells
pub length_is : (s : Shape) (o : ℕ) → o < granules s → length_word s o ≡ Words.length_at s o
length_is s o lt = let e : nat_lt o (granules s) ≡ true = grind (arith, nat_tests) in let q : granule_at s o ≡ o = rw e refl in omega arith

-- so many cells an object has by its words
module _ (x : Targets) (code : Code) (s : Shape) (ls : Labels) (g : Global Machine) (world : World) (st : State x code s ls g world) where
  pub cells_are : (p : ℕ) → (world.obj p).live ≡ true → cells_now x s g world.obj p ≡ st.cells p
  cells_are zero live = sym st.globals_cells
  cells_are (suc q) live =
      let o = suc q in
      let some : o ≢ 0 = λ e. cc in
      let long : st.elements o ≡ slice_index g.words (length_word s o) = st.sim.lengths o some live ∙ ap (λ i. slice_index g.words i) (sym (length_is s o (st.apart.headers o live))) in
      ap (λ b. cond b (2 * s.globals) (slice_index g.words (length_word s o) * cells_of x (world.obj o).ty.target)) (ne_zero o some)
      ∙ ap (λ n. n * cells_of x (world.obj o).ty.target) (sym long) ∙ sym (st.whole o some live).1

-- the cell of the source in the world
pub number_is : (code : Code) (a : Object) (cell p i : ℕ) → IsCellIn code a cell p i → number_of a ≡ p
number_is code (Object.Made n) cell p i h = h.0
number_is code (Object.Global g) cell p i h = sym h.0

pub place_is : (code : Code) (a : Object) (cell p i : ℕ) → IsCellIn code a cell p i → place_of code a cell ≡ i
place_is code (Object.Made n) cell p i h = h.2
place_is code (Object.Global g) cell p i h = let e = h.2 in omega arith

pub names : (code : Code) (c : CellAt) (a : Object) (p i : ℕ) → c.object ≡ a → IsCellIn code a c.cell p i → Names code c p (2 * (p + 1) + i)
names code c (Object.Made n) p i is h =
    subst (λ b. NamesIn code b c.cell p (2 * (p + 1) + i)) (sym is) (h.0, h.1, in_made n c.cell p i h.0 h.2)
  where
    in_made : (n j p i : ℕ) → n ≡ p → j ≡ i → 2 * (p + 1) + i ≡ cell_of n j
    in_made n j p i a b = omega arith
names code c (Object.Global g) p i is h =
    let at : i + 2 ≡ 2 * (p + 1) + i = in_globals p i h.0 in
    subst (λ b. NamesIn code b c.cell p (2 * (p + 1) + i)) (sym is) (h.0, subst (λ k. IsInGlobal code.globals.items g k) at h.1, sym at ∙ h.2)
  where
    in_globals : (p i : ℕ) → p ≡ 0 → i + 2 ≡ 2 * (p + 1) + i
    in_globals p i z = omega arith

-- ---- runs
pub record Seen (r : Resolution) (x : Targets) (code : Code) (s : Shape) (ls : Labels) (run : List Turn) : Type 0 where
  pub consists : Consists x code s ls run
  pub objects : ObjectsTold (newest code s run) consists.world.obj
  pub contents : Contents r x code s (newest code s run) (table_of code s run) (place_after code s run) consists.world consists.state.cells
  pub behind : AreFirst r code (newest code s run) consists.world consists.state.cells
  pub same : consists.world.obj ≡ objects_after code s ls (first_place code s) (first_world x).obj run

-- an object that a Free empties is being freed
pub freed : (state_law : StateStands) (x : Targets) (code : Code) (s : Shape) (ls : Labels) (wt : IsWellTyped x code ls) (fits : Fits code s) (g : Global Machine) (world : World) (st : State x code s ls g world) (o p : ℕ) → o ≡ p → IsEmptied code g o → IsBeingFreed code g p
freed state_law x code s ls wt fits g world st o p number z =
    let u = z.0 in
    let y = z.1.1 in
    let closing = emptying x code s ls wt fits g world st u (z.1.0, y.on) (on_hold (g.threads u).own.stage y.emptying) o y.register y.layout y.site y.is_free y.object in
    record {
      some = subst (λ n. n ≢ 0) number (some_closing state_law x code s ls wt fits g world st o closing);
      thread = u;
      started = z.1.0;
      on = y.on;
      register = y.register;
      layout = y.layout;
      site = y.site;
      is_free = y.is_free;
      object = y.object ∙ number;
      clearing = y.emptying;
    }

-- ---- a cell that is a pointer by the words
module _ (x : Targets) (code : Code) (s : Shape) (ls : Labels) (r : Resolution) (run : List Turn) (k : Seen r x code s ls run) (p i : ℕ) (is : is_pointer_now x s (place_after code s run) k.consists.world.obj p i ≡ true) where
  open k.consists use {world as w, state as there}

  abbrev pub word : ℕ
  word = slice_index (place_after code s run).words (Words.cell_at s p i)

  parts : ((k.consists.world.obj p).live ≡ true) × ((nat_lt i (cells_now x s (place_after code s run) k.consists.world.obj p) && is_pointer (field_in x (k.consists.world.obj p).ty i).holds) ≡ true)
  parts = and_parts (k.consists.world.obj p).live (nat_lt i (cells_now x s (place_after code s run) k.consists.world.obj p) && is_pointer (field_in x (k.consists.world.obj p).ty i).holds) is

  inside_parts : (nat_lt i (cells_now x s (place_after code s run) k.consists.world.obj p) ≡ true) × (is_pointer (field_in x (k.consists.world.obj p).ty i).holds ≡ true)
  inside_parts = and_parts (nat_lt i (cells_now x s (place_after code s run) k.consists.world.obj p)) (is_pointer (field_in x (k.consists.world.obj p).ty i).holds) parts.1

  pub live : (k.consists.world.obj p).live ≡ true
  live = parts.0

  pub pointer : is_pointer (field_in x (k.consists.world.obj p).ty i).holds ≡ true
  pointer = inside_parts.1

  pub inside : i < k.consists.state.cells p
  inside = subst (λ n. i < n) (cells_are x code s ls (place_after code s run) w there p live) (ltb-true i (cells_now x s (place_after code s run) w.obj p) inside_parts.0)

  pub word_is : cell_refers x s (place_after code s run) k.consists.world.obj p i ≡ word
  word_is =
      let lt = inside in
      ap (λ b. cond b (slice_index (place_after code s run).words (cell_word s (cell_of p i))) 0) is ∙ ap (λ w. slice_index (place_after code s run).words w) (cell_word_is s p i (there.apart.within p (i / 2) live (omega arith)))

  module _ (c : CellAt) (at : IsCellIn code c.object c.cell p i) where
    pub number : number_of c.object ≡ p
    number = number_is code c.object c.cell p i at

    place : place_of code c.object c.cell ≡ i
    place = place_is code c.object c.cell p i at

    content : content_of x code k.consists.world c ≡ (field_in x (k.consists.world.obj p).ty i).holds
    content = ap (λ n. (field_in x (w.obj n).ty (place_of code c.object c.cell)).holds) number ∙ ap (λ j. (field_in x (w.obj p).ty j).holds) place

    pub is_pointer_cell : is_pointer (content_of x code k.consists.world c) ≡ true
    is_pointer_cell = ap is_pointer content ∙ pointer

    pub cell : IsCellOf code k.consists.world k.consists.state.cells c
    cell = record {
      live = ap (λ n. (w.obj n).live) number ∙ live;
      inside = subst (λ n. place_of code c.object c.cell < there.cells n) (sym number) (subst (λ j. j < there.cells p) (sym place) inside);
      named = subst (λ n. Names code c n (2 * (n + 1) + place_of code c.object c.cell)) (sym number) (subst (λ j. Names code c p (2 * (p + 1) + j)) (sym place) (names code c c.object p i refl at));
    }

    same_word : slice_index (place_after code s run).words (word_of_cell code s c) ≡ word
    same_word = ap (λ n. slice_index (place_after code s run).words (Words.cell_at s n (place_of code c.object c.cell))) number ∙ ap (λ j. slice_index (place_after code s run).words (Words.cell_at s p j)) place

    -- what the events leave there
    pub told_there : newest_value r (newest code s run) c ≡ value_held (content_of x code k.consists.world c) (table_of code s run) (slice_index (place_after code s run).words (word_of_cell code s c))
        → value_after r (history_of code s run) c ≡ reference word (table_of code s run word)
    told_there e =
        let v = slice_index (place_after code s run).words (word_of_cell code s c) in
        let T = table_of code s run in
        value_is r (newest code s run) c ∙ e ∙ holds_reference (content_of x code w c) T v is_pointer_cell ∙ ap (λ v. reference v (T v)) same_word

module _ (state_law : StateStands) (cell_laws : CellsAreThere) (pointers : PointersAreThere) (rights : AccessesAreAllowed) (laws : RunLaws) (begins_law : CodeBegins) (keeps : Keeps) (x : Targets) (code : Code) (s : Shape) (ls : Labels) (wt : IsWellTyped x code ls) (fits : Fits code s) (few : IsSmall code s)
    (r : Resolution) (first : BeginsWith r code) where
  pub seen : (run : List Turn) → IsRun bounds (one_thread code s) (opening_of bounds (one_thread code s) (opening_words code s)) run → Seen r x code s ls run
  seen run is =
      let never = none_live begins_law x code s ls wt fits in
      let k = over_runs cell_laws pointers laws begins_law keeps x code s ls wt fits few
      (λ run h L. record {
        objects : ObjectsTold L h.world.obj;
        contents : Contents r x code s L (table_of code s run) (place_after code s run) h.world h.state.cells;
        behind : AreFirst r code L h.world h.state.cells;
        same : h.world.obj ≡ objects_after code s ls (first_place code s) (first_world x).obj run;
      })
      (record { objects = record { live = λ n nz live. absurd (never n nz live); owner = λ n nz live. absurd (never n nz live) }; contents = contents_first begins_law x code s ls wt fits r first; behind = λ c _. refl; same = refl })
      (λ one earlier h may _ old.
      let L = newest code s earlier in
      let then' = consists_then laws keeps cell_laws pointers x code s ls wt fits few one earlier h may in
      let then_objects = objects_then laws keeps cell_laws pointers x code s ls wt fits few one earlier h may in
      record {
        objects = objects_told cell_laws pointers rights laws keeps x code s ls wt fits few one earlier h may then'.world.obj then_objects L old.objects (said_now code (table_of code s earlier) ((place_after code s earlier).threads one.thread) (result_of one.event))
            (about_now cell_laws pointers rights laws keeps x code s ls wt fits few one earlier h may);
        contents = contents_then cell_laws pointers rights laws keeps x code s ls wt fits few one earlier h may r L old.contents;
        behind = first_then cell_laws pointers rights laws keeps x code s ls wt fits few one earlier h may r L old.behind;
        same = then_objects ∙ ap (objects_now code s ls (place_after code s earlier) one) old.same;
      }) run is in
      record { consists = k.0; objects = k.1.objects; contents = k.1.contents; behind = k.1.behind; same = k.1.same }

  -- ---- a cell that refers to an object
  module _ (run : List Turn) (k : Seen r x code s ls run) (p i o : ℕ) (nz : o ≢ 0) (is : cell_refers x s (place_after code s run) k.consists.world.obj p i ≡ o) where
    abbrev g : Global Machine
    g = place_after code s run

    open k.consists use {world, state as st}

    abbrev b : Bool
    b = is_pointer_now x s (place_after code s run) k.consists.world.obj p i

    is_there : b ≡ true
    is_there = ⊎_elim (λ (e : b ≡ true). e) (λ (e : b ≡ false). absurd (nz (sym is ∙ ap (λ b. cond b (slice_index (place_after code s run).words (cell_word s (cell_of p i))) 0) e))) (cases_Bool b)

    stored : slice_index (place_after code s run).words (Words.cell_at s p i) ≡ o
    stored = sym (word_is x code s ls r run k p i is_there) ∙ is

    -- the object that it refers to is live, so its number is low
    low : o < 2 ^ 32
    low =
        let e : (world.slots (CellOf p i)).reference ≡ o = st.sim.pointers p i (live x code s ls r run k p i is_there) (inside x code s ls r run k p i is_there) (pointer x code s ls r run k p i is_there) ∙ stored in
        let f = st.inv.words.fits (CellOf p i) (λ z. nz (sym e ∙ z)) in
        let lt = live_low x code s ls wt fits g world st o (subst (λ o. (world.obj o).live ≡ true) e f.live) in
        omega arith

    module _ (c : CellAt) (at : IsCellIn code c.object c.cell p i) where
      by_value : newest_value r (newest code s run) c ≡ value_held (content_of x code k.consists.world c) (table_of code s run) (slice_index (place_after code s run).words (word_of_cell code s c))
          → refers o (value_after r (history_of code s run) c) ≡ true
      by_value e =
          let T = table_of code s run in
          ap (refers o) (told_there x code s ls r run k p i is_there c at e ∙ ap (λ v. reference v (T v)) stored) ∙ back o (T o) nz low

      live_by : IsLiveBy (history_of code s run) c.object
      live_by = by c.object at
        where
          by : (a : Object) → IsCellIn code a c.cell p i → IsLiveBy (history_of code s run) a
          by (Object.Global q) h = tt
          by (Object.Made n) h = subst (λ n. IsLiveBy (history_of code s run) (Object.Made n)) (sym h.0) (is_live_in (newest code s run) p ∙ k.objects.live p h.1 (live x code s ls r run k p i is_there))

      by_events : RefersBy r code (place_after code s run) (history_of code s run) c p o
      by_events = record {
        live = live_by;
        refers_there = ⊎_elim
            (λ (e : newest_value r (newest code s run) c ≡ value_held (content_of x code world c) (table_of code s run) (slice_index g.words (word_of_cell code s c))). inl (by_value e))
            (λ (z : IsEmptied code g (number_of c.object)). inr (freed state_law x code s ls wt fits g world st (number_of c.object) p (number x code s ls r run k p i is_there c at) z))
            (k.contents c (cell x code s ls r run k p i is_there c at) (pointer_value (content_of x code world c) (is_pointer_cell x code s ls r run k p i is_there c at)));
      }

    -- a cell of the globals has a field of theirs
    global : p ≡ 0 → is_pointer (global_field x i).holds ≡ true
    global z =
        let own : (world.obj p).ty.target ≡ globals_target x = ap (λ n. (world.obj n).ty.target) z ∙ ap (λ (q : ObjectState). q.ty.target) st.globals in
        let is : ((world.obj p).ty.target == globals_target x) ≡ true = ap (λ n. n == globals_target x) own ∙ eq_refl (globals_target x) in
        ap (λ b. is_pointer (elim b as (λ b. Field) [ true ↦ global_field x i | false ↦ field_of_cell x (k.consists.world.obj p).ty.target i ]).holds) (sym is) ∙ pointer x code s ls r run k p i is_there

    pub cell_seen : CellIsSeen r x code (place_after code s run) k.consists.world.obj (history_of code s run) p i o
    cell_seen = record { pointer = pointer x code s ls r run k p i is_there; global = global; by_events = by_events }

  -- by the objects of the turns
  pub cells_seen : (run : List Turn) → IsRun bounds (one_thread code s) (opening_of bounds (one_thread code s) (opening_words code s)) run → (p i o : ℕ) → o ≢ 0
      → cell_refers x s (place_after code s run) (objects_after code s ls (first_place code s) (first_world x).obj run) p i ≡ o
      → CellIsSeen r x code (place_after code s run) (objects_after code s ls (first_place code s) (first_world x).obj run) (history_of code s run) p i o
  cells_seen run is_run p i o nz is =
      let k = seen run is_run in
      subst (λ (obj : ℕ → ObjectState). CellIsSeen r x code (place_after code s run) obj (history_of code s run) p i o) k.same
      (cell_seen run k p i o nz (subst (λ (obj : ℕ → ObjectState). cell_refers x s (place_after code s run) obj p i ≡ o) (sym k.same) is))
