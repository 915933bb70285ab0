-- Each turn of typed code leaves the cells with what the events say that they hold.
use Rattle.sharc_history_laws.proofs.{Imports.{◌≡◌, ℕ, pos, zero, suc, ◌+◌, ◌*◌, ◌≢◌, ◌⊎◌, inl, inr, Bool, true, false, ◌||◌, List, ◌∷◌, Option, Some, None, refl, sym, ap, ◌∙◌, subst, ⊎_elim, arith, slice_index, WordOp, Act, CellAt, Object, SourceEvent, Resolution, Code, Cell, Instr, Shape, word_of, RunLaws, Fits, instr_at, int, ref, word, act, turn, asked_by, Turn, MayTurn, after_turn, words_now, said, cell_at, speaks_of, reference, one_thread, bounds, place_after, Elements, table_of, makes, is_cell, is_number, made_by, same_cell, changes, cell_changed, value_left, Targets, Field, Content, Integer, Pointer, field_in, is_pointer, Labels, IsWellTyped, Accesses, HasCell, CellOf, ObjectState, IsSmall, StageStands, OnHold, object_of_cell, number_in, view_of, refs_at, types_at, Keeps, CellsAreThere, PointersAreThere, AccessesAreAllowed, yes, or_right, is_access, back_again, single}, TurnAt.{turn_at, told_at, turn_stands}, Acts.{given_at, freed_at, About, no_access}, Born.born, Consists.{Consists, consists_then, objects_then, after_set, same_table, headed, live_not_built, header_built}, Contents.{newest_value, value_changed, value_kept, value_held, IsCellOf, content_of, word_of_cell, Contents, one_cell, fits_in}, Emptying.{IsFreeing, IsEmptied, emptied_then, begins_freeing}, Holding.cell_eq, Lists.Newest, Locked.Names, Locking.cell_refl, ModesKept.word_spared, OneMode.{place_of, numbers_now}, Rules.{pushed, about_now, decide, number_yes, freed_gone, makes_none}, Shared.number_of, Single.rests_hold, Sparing.{is_value, spares}, Touches.written_cell, Stands.{live_slot, there, top, rn}, Tables.header_of, Telling.{changed_said, unchanged_said}, Unwritten.writes_single, Values.{Kept, kept}}
use Rattle.sharc_invariant.specs.Words as Words
use Rattle.sharc_history_laws.proofs.Placed as Placed

-- a New leaves 0
pub made_zero : (e : SourceEvent) (a : Act) (n : ℕ) → made_by e a ≡ Some n → value_left a ≡ pos 0
made_zero e (Act.New cells elements mode) n q = refl
made_zero e _ n q = absurd (cc)

held_zero : (c : Content) (T : Elements) → value_held c T 0 ≡ pos 0
held_zero (Integer w) T = refl
held_zero _ _ = refl

-- a reference to nothing has no elements
pub reference_as : (n : ℕ) (T T' : Elements) → (n ≢ 0 → T' n ≡ T n) → reference n (T n) ≡ reference n (T' n)
reference_as zero T T' h = refl
reference_as (suc n) T T' h = ap (reference (suc n)) (sym (h (λ e. omega arith)))

-- ---- one turn
module _ (cell_laws : CellsAreThere) (pointers : PointersAreThere) (rights : AccessesAreAllowed) (laws : RunLaws) (keeps : Keeps) (x : Targets) (code : Code) (s : Shape) (ls : Labels) (wt : IsWellTyped x code ls) (fits : Fits code s) (few : IsSmall code s)
    (one : Turn) (earlier : List Turn) (h : Consists x code s ls earlier) (may : MayTurn bounds (one_thread code s) (place_after code s earlier) one) where
  open turn_at code s (place_after code s earlier) one use {g, t, m, i, found}
  open told_at code s earlier one use {T, T', elements, event}

  abbrev then_ : Consists x code s ls (one ∷ earlier)
  then_ = consists_then laws keeps cell_laws pointers x code s ls wt fits few one earlier h may

  open turn_stands wt h.state one may use {on, fine}

  abbrev Tells : Option SourceEvent → Type 0
  Tells = About ((place_after code s earlier).threads one.thread).own.number (header_of i ((place_after code s earlier).threads one.thread).own.stage) (given_at i ((place_after code s earlier).threads one.thread)) (freed_at i ((place_after code s earlier).threads one.thread))

  tells : Tells event
  tells = about_now cell_laws pointers rights laws keeps x code s ls wt fits few one earlier h may

  pub hold : (j : Instr) → i ≡ j → single j ≡ true → OnHold ((place_after code s earlier).threads one.thread).own.stage
  hold j e is = rests_hold code s h.state.elements h.world h.state.heap g.words t m j m.own.stage is (subst (λ j. StageStands code s h.state.elements h.world h.state.heap g.words t m j m.own.stage) e ((h.state.threads t).runs on.0 on.1).stage)

  -- ---- the cell that the turn writes
  abbrev source_cell : Option Cell → Option CellAt
  source_cell None = None
  source_cell (Some k) = Some (cell_at code ((place_after code s earlier).threads one.thread) k)

  abbrev changed : Option CellAt
  changed = source_cell (written_cell i)

  changed_now : changed_said event ≡ changed
  changed_now = by i refl
    where
      others : is_access i ≡ false → changed_said event ≡ None
      others never = unchanged_said event (no_access code m laws.turns.tells i found elements never)

      by : (j : Instr) → i ≡ j → changed_said event ≡ changed
      by (Instr.Load r c site) is = ap (λ j. changed_said (said code j m found elements)) is ∙ sym (ap (λ j. source_cell (written_cell j)) is)
      by (Instr.LoadRef c site) is = ap (λ j. changed_said (said code j m found elements)) is ∙ sym (ap (λ j. source_cell (written_cell j)) is)
      by (Instr.Store r c site) is = ap (λ j. changed_said (said code j m found elements)) is ∙ sym (ap (λ j. source_cell (written_cell j)) is)
      by (Instr.Exchange r c site) is = ap (λ j. changed_said (said code j m found elements)) is ∙ sym (ap (λ j. source_cell (written_cell j)) is)
      by (Instr.TakeCell r c site) is = ap (λ j. changed_said (said code j m found elements)) is ∙ sym (ap (λ j. source_cell (written_cell j)) is)
      by _ is = others (ap is_access is) ∙ sym (ap (λ j. source_cell (written_cell j)) is)

  -- the names of a cell that an instruction names
  pub cell_named : (k : Cell) (f : Field) → (hold : OnHold ((place_after code s earlier).threads one.thread).own.stage) → HasCell x code (ls.at ((place_after code s earlier).threads one.thread).at.pc) k f
      → Names code (cell_at code ((place_after code s earlier).threads one.thread) k) (number_of (cell_at code ((place_after code s earlier).threads one.thread) k).object)
      (2 * (number_of (cell_at code ((place_after code s earlier).threads one.thread) k).object + 1) + place_of code (cell_at code ((place_after code s earlier).threads one.thread) k).object (cell_at code ((place_after code s earlier).threads one.thread) k).cell)
  cell_named k f hold has = Placed.named cell_laws x code s ls wt fits g h.world h.state t on hold k f has

  -- a number of elements that a reference has stays
  pub same_elements : (n : ℕ) → n ≢ 0 → (h.world.obj n).live ≡ true → T' n ≡ T n
  same_elements n nz live = same_table laws keeps cell_laws pointers x code s ls wt fits few one earlier h may n nz
      (λ made. live_not_built x code s ls wt fits g h.world h.state n t nz live (headed laws keeps cell_laws pointers x code s ls wt fits few one earlier h may n nz made))

  -- no object of the globals is made
  pub header_some : (n : ℕ) → header_of i ((place_after code s earlier).threads one.thread).own.stage ≡ Some n → n ≢ 0
  header_some n made z =
      let built = header_built x code s ls wt fits g h.world h.state t on n made in
      let nz : h.state.heap.size n ≢ 0 = λ q. let e = h.state.heap_stands.kept.blocks.known n q in let f : Rattle.sharc_invariant.specs.Blocks.Built t ≡ Rattle.sharc_invariant.specs.Blocks.Unused = sym built ∙ e in cc in
      let first = (h.state.heap_stands.kept.blocks.within n nz).0 in
      omega arith

  -- an object that is there still is emptied as before
  pub emptied_still : (o : ℕ) → (then_.world.obj o).live ≡ true → IsEmptied code (place_after code s earlier) o → IsEmptied code (after_turn bounds (one_thread code s) (place_after code s earlier) one) o
  emptied_still o live k = ⊎_elim
      (λ (e : freed_at i m ≡ Some o). absurd (yes (sym live ∙ ap (λ (f : ℕ → ObjectState). (f o).live) (objects_then laws keeps cell_laws pointers x code s ls wt fits few one earlier h may)
      ∙ freed_gone ls t m ((after_turn bounds (one_thread code s) g one).threads t) h.world.obj o i e)))
      (λ (z : IsEmptied code (after_turn bounds (one_thread code s) g one) o). z)
      (emptied_then code s g one o k)

  -- ---- one cell after the turn
  module _ (r : Resolution) (L : Newest) (old : Contents r x code s L (table_of code s earlier) (place_after code s earlier) h.world h.state.cells)
      (c : CellAt) (cell : IsCellOf code then_.world then_.state.cells c) (value : is_value (content_of x code then_.world c) ≡ true) where
    abbrev o : ℕ
    o = number_of c.object

    abbrev j : ℕ
    j = place_of code c.object c.cell

    abbrev words : List ℕ
    words = words_now (place_after code s earlier).words one.event

    -- what is to be shown
    abbrev Holds : Newest → Type 0
    Holds L' = (newest_value r L' c ≡ value_held (content_of x code then_.world c) T' (slice_index words (word_of_cell code s c))) ⊎ IsEmptied code (after_turn bounds (one_thread code s) (place_after code s earlier) one) o

    -- ---- an object that the turn makes
    made_cell : (ev : Option SourceEvent) → Tells ev → (n : ℕ) → c.object ≡ Object.Made n → header_of i ((place_after code s earlier).threads one.thread).own.stage ≡ Some n → Holds (pushed ev L)
    made_cell None about n is made = absurd (let f : None ≡ Some n = about.makes ∙ made in cc)
    made_cell (Some e) about n is made =
        let by : made_by e e.act ≡ Some n = about.makes ∙ made in
        let makes_it : makes c.object e ≡ true = ap (λ o. makes o e) is ∙ ap (is_number n) by ∙ number_yes n in
        let changed : changes c e ≡ true = or_right (is_cell c (cell_changed e.act)) (makes c.object e) makes_it in
        let same : o ≡ n = ap number_of is in
        let zero_word = born laws keeps cell_laws pointers x code s ls wt fits few one earlier h may o (λ z. header_some n made (sym same ∙ z)) (made ∙ ap (λ k. Some k) (sym same)) j cell.inside in
        inl (value_changed r e L c changed ∙ made_zero e e.act n by ∙ sym (held_zero (content_of x code then_.world c) T') ∙ ap (value_held (content_of x code then_.world c) T') (sym zero_word))

    -- ---- one that was there
    module _ (was : Kept laws keeps cell_laws pointers x code s ls wt fits few one earlier h may o j) (unmade : (n : ℕ) → c.object ≡ Object.Made n → header_of i ((place_after code s earlier).threads one.thread).own.stage ≡ Some n → ⊥) where
      old_value : is_value (content_of x code h.world c) ≡ true
      old_value = was.content.kind ∙ value

      old_cell : IsCellOf code h.world h.state.cells c
      old_cell = record { live = was.live; inside = was.inside; named = cell.named }

      no_make : (e : SourceEvent) → Tells (Some e) → makes c.object e ≡ false
      no_make e about = makes_none c.object (header_of i m.own.stage) e about.makes unmade

      -- ---- the turn does not write the cell
      module _ (other : is_cell c changed ≡ false) where
        kept_value : (ev : Option SourceEvent) → event ≡ ev → Tells ev → newest_value r (pushed ev L) c ≡ newest_value r L c
        kept_value None e about = refl
        kept_value (Some d) e about =
            let a : is_cell c (cell_changed d.act) ≡ false = ap (λ ev. is_cell c (changed_said ev)) (sym e) ∙ ap (is_cell c) changed_now ∙ other in
            value_kept r d L c (ap (λ b. b || makes c.object d) a ∙ no_make d about)

        not_written : (k : Cell) → written_cell (instr_at code ((place_after code s earlier).threads one.thread).at.pc) ≡ Some k → (site : ℕ) (f : Field) → Accesses x code ls (ls.at ((place_after code s earlier).threads one.thread).at.pc) true k site f
            → object_of_cell ((place_after code s earlier).threads one.thread) k ≡ o → number_in ((place_after code s earlier).threads one.thread) k ≡ j → IsFreeing code ((place_after code s earlier).threads one.thread) o
        not_written k is site f acc eo ej =
            let hold = hold i refl (writes_single i k is) in
            let n = numbers_now cell_laws x code s ls wt fits g h.world h.state t on hold k f acc.cell in
            let same : c ≡ cell_at code m k = one_cell x code ls wt c (cell_at code m k) cell.named (cell_named k f hold acc.cell) (sym (n.0 ∙ eo)) (sym (n.1 ∙ ej)) in
            let hit : is_cell c changed ≡ true = ap (λ k. is_cell c (source_cell k)) is ∙ ap (λ d. same_cell d (cell_at code m k)) same ∙ cell_refl (cell_at code m k) in
            absurd (yes (sym hit ∙ other))

        spared : (slice_index words (word_of_cell code s c) ≡ slice_index (place_after code s earlier).words (word_of_cell code s c)) ⊎ IsFreeing code ((place_after code s earlier).threads one.thread) o
        spared = word_spared (word_of_cell code s c) (IsFreeing code m o) g.words one.event (turn code s m) may.next.asks
            (spares cell_laws pointers x code s ls wt fits g h.world h.state t on o j was.live was.inside old_value (IsFreeing code m o) not_written (begins_freeing code m o may.next.runs))

        -- what the word is stays as it is
        held_still : (w : ℕ) → slice_index (place_after code s earlier).words (word_of_cell code s c) ≡ w → value_held (content_of x code h.world c) T w ≡ value_held (content_of x code h.world c) T' w
        held_still w e = by (content_of x code h.world c) refl
          where
            by : (k : Content) → content_of x code h.world c ≡ k → value_held k T w ≡ value_held k T' w
            by (Pointer f) is = reference_as w T T' (λ nz.
                let slot : (h.world.slots (CellOf o j)).reference ≡ w = h.state.sim.pointers o j was.live was.inside (ap is_pointer is) ∙ e in
                same_elements w nz (subst (λ n. (h.world.obj n).live ≡ true) slot (live_slot x code s ls wt fits g h.world h.state (CellOf o j) (λ z. nz (sym slot ∙ z)))))
            by _ is = refl

        holds_kept : (ev : Option SourceEvent) → event ≡ ev → Tells ev → Holds (pushed ev L)
        holds_kept ev e about = ⊎_elim
            (λ (word : slice_index words (word_of_cell code s c) ≡ slice_index g.words (word_of_cell code s c)). ⊎_elim
            (λ (v : newest_value r L c ≡ value_held (content_of x code h.world c) T (slice_index g.words (word_of_cell code s c))).
            inl (kept_value ev e about ∙ v ∙ held_still (slice_index g.words (word_of_cell code s c)) refl
            ∙ was.content.held T' (slice_index g.words (word_of_cell code s c)) ∙ ap (value_held (content_of x code then_.world c) T') (sym word)))
            (λ (k : IsEmptied code g o). inr (emptied_still o cell.live k))
            (old c old_cell old_value))
            (λ (k : IsFreeing code m o). inr (emptied_still o cell.live (t, (may.started, k))))
            spared

      -- ---- the turn writes the cell
      module _ (k : Cell) (same : c ≡ cell_at code ((place_after code s earlier).threads one.thread) k) (site : ℕ) (f : Field) (acc : Accesses x code ls (ls.at ((place_after code s earlier).threads one.thread).at.pc) true k site f) (is : written_cell i ≡ Some k) where
        numbers : (number_of (cell_at code ((place_after code s earlier).threads one.thread) k).object ≡ object_of_cell ((place_after code s earlier).threads one.thread) k)
            × (place_of code (cell_at code ((place_after code s earlier).threads one.thread) k).object (cell_at code ((place_after code s earlier).threads one.thread) k).cell ≡ number_in ((place_after code s earlier).threads one.thread) k)
        numbers = numbers_now cell_laws x code s ls wt fits g h.world h.state t on (hold i refl (writes_single i k is)) k f acc.cell

        th : Rattle.sharc_invariant.specs.Cells.IsThere x s h.state.cells h.world one.thread ((place_after code s earlier).threads one.thread) k f
        th = there x code s ls wt fits g h.world h.state t on (hold i refl (writes_single i k is)) cell_laws k f acc.cell

        at_object : o ≡ object_of_cell ((place_after code s earlier).threads one.thread) k
        at_object = ap (λ (c : CellAt). number_of c.object) same ∙ numbers.0

        at_place : j ≡ number_in ((place_after code s earlier).threads one.thread) k
        at_place = ap (λ (c : CellAt). place_of code c.object c.cell) same ∙ numbers.1

        word_now : (v : ℕ) → asked_by (turn code s ((place_after code s earlier).threads one.thread)) ≡ Some (Rattle.sharc_code.specs.Machine.step_of (word s ((place_after code s earlier).threads one.thread) k) (WordOp.Swap v))
            → slice_index words (word_of_cell code s c) ≡ v
        word_now v asked =
            let set : slice_index words (word s m k) ≡ v = after_set g.words one.event (Rattle.sharc_code.specs.Machine.step_of (word s m k) (WordOp.Swap v)) (may.next.asks ∙ asked) may.answered in
            let at : word_of_cell code s c ≡ word s m k = ap (λ o. Words.cell_at s o j) at_object ∙ ap (Words.cell_at s (object_of_cell m k)) at_place ∙ sym th.word_is in
            ap (slice_index words) at ∙ set

        old_content : content_of x code h.world c ≡ f.holds
        old_content =
            ap (λ o. (field_in x (h.world.obj o).ty j).holds) at_object
            ∙ ap (λ j. (field_in x (h.world.obj (object_of_cell m k)).ty j).holds) at_place
            ∙ ap (λ (f : Field). f.holds) th.field

        held_now : (v : ℕ) → value_held f.holds T' v ≡ value_held (content_of x code then_.world c) T' v
        held_now v = ap (λ k. value_held k T' v) (sym old_content) ∙ was.content.held T' v

        -- its event
        written : (e : SourceEvent) → event ≡ Some e → (v : ℕ) → asked_by (turn code s ((place_after code s earlier).threads one.thread)) ≡ Some (Rattle.sharc_code.specs.Machine.step_of (word s ((place_after code s earlier).threads one.thread) k) (WordOp.Swap v))
            → value_left e.act ≡ value_held f.holds T' v → Holds (pushed event L)
        written e said_is v asked left =
            let hit : is_cell c (cell_changed e.act) ≡ true = ap (λ ev. is_cell c (changed_said ev)) (sym said_is) ∙ ap (is_cell c) changed_now ∙ ap (λ k. is_cell c (source_cell k)) is
            ∙ ap (λ d. same_cell d (cell_at code m k)) same ∙ cell_refl (cell_at code m k) in
            let value_is : newest_value r (e ∷ L) c ≡ value_left e.act = value_changed r e L c (ap (λ b. b || makes c.object e) hit) in
            subst (λ ev. Holds (pushed ev L)) (sym said_is)
            (inl (value_is ∙ left ∙ held_now v ∙ ap (value_held (content_of x code then_.world c) T') (sym (word_now v asked))))

      written_by : (k : Cell) → written_cell i ≡ Some k → c ≡ cell_at code ((place_after code s earlier).threads one.thread) k → Holds (pushed event L)
      written_by k w same = by i refl
        where
          some_eq : (a b : Cell) → Some a ≡ Some b → b ≡ a
          some_eq a b e = cc

          at_store : (q site : ℕ) (d : Cell) → i ≡ Instr.Store q d site → c ≡ cell_at code ((place_after code s earlier).threads one.thread) d → Holds (pushed event L)
          at_store q site d is same =
              let f = fine (Instr.Store q d site) is in
              let hold = hold (Instr.Store q d site) is refl in
              let now = ap (λ j. said code j m found elements) is in
              let number = (top x code s ls wt fits g h.world h.state t on hold 0 (suc q)).numbers q (omega arith) in
              let view = view_of h.state.elements h.world t m in
              let fit = fits_in x h.state.elements (refs_at view m.at.refs) (types_at view m.at.refs) (rn x code s ls wt fits g h.world h.state t on hold).names (int m q) ((ls.at m.at.pc).ints q) f.1 f.4 number in
              written d same site f.0 f.2 (ap written_cell is) _ now (word_of (int m q)) (ap (λ j. asked_by (act code s j m)) is)
              (sym ((back_again f.1 (int m q) fit).0) ∙ sym (ap (λ k. value_held k T' (word_of (int m q))) f.3))

          at_exchange : (q site : ℕ) (d : Cell) → i ≡ Instr.Exchange q d site → c ≡ cell_at code ((place_after code s earlier).threads one.thread) d → Holds (pushed event L)
          at_exchange q site d is same =
              let f = fine (Instr.Exchange q d site) is in
              let now = ap (λ j. said code j m found elements) is in
              let speaks : elements ≡ T (ref m q) = ap (λ j. T (speaks_of j m found)) is in
              let stays : ref m q ≢ 0 → T' (ref m q) ≡ T (ref m q) = λ nz. same_table laws keeps cell_laws pointers x code s ls wt fits few one earlier h may (ref m q) nz
              (λ made. let z : None ≡ Some (ref m q) = sym (ap (λ j. header_of j m.own.stage) is) ∙ made in cc) in
              written d same site f.1.0 f.1.2 (ap written_cell is) _ now (ref m q) (ap (λ j. asked_by (act code s j m)) is)
              (ap (reference (ref m q)) speaks ∙ reference_as (ref m q) T T' stays ∙ sym (ap (λ k. value_held k T' (ref m q)) f.1.3.holds))

          at_take : (q site : ℕ) (d : Cell) → i ≡ Instr.TakeCell q d site → c ≡ cell_at code ((place_after code s earlier).threads one.thread) d → Holds (pushed event L)
          at_take q site d is same =
              let f = fine (Instr.TakeCell q d site) is in
              let now = ap (λ j. said code j m found elements) is in
              written d same site f.1.0 f.1.2 (ap written_cell is) _ now 0 (ap (λ j. asked_by (act code s j m)) is) (sym (held_zero f.1.0.holds T'))

          by : (n : Instr) → i ≡ n → Holds (pushed event L)
          by (Instr.Store q d site) is = at_store q site d is (same ∙ ap (cell_at code m) (some_eq d k (sym (ap written_cell is) ∙ w)))
          by (Instr.Exchange q d site) is = at_exchange q site d is (same ∙ ap (cell_at code m) (some_eq d k (sym (ap written_cell is) ∙ w)))
          by (Instr.TakeCell q d site) is = at_take q site d is (same ∙ ap (cell_at code m) (some_eq d k (sym (ap written_cell is) ∙ w)))
          by _ is = absurd (let z : None ≡ Some k = sym (ap written_cell is) ∙ w in cc)

      -- ---- both
      holds_old : Holds (pushed event L)
      holds_old = by (written_cell i) refl
        where
          split : (k : Cell) → written_cell i ≡ Some k → (b : Bool) → same_cell c (cell_at code ((place_after code s earlier).threads one.thread) k) ≡ b → Holds (pushed event L)
          split k w true e = written_by k w (cell_eq c (cell_at code m k) e)
          split k w false e = holds_kept (ap (λ k. is_cell c (source_cell k)) w ∙ e) event refl tells

          by : (k : Option Cell) → written_cell i ≡ k → Holds (pushed event L)
          by None w = holds_kept (ap (λ k. is_cell c (source_cell k)) w) event refl tells
          by (Some k) w = split k w (same_cell c (cell_at code m k)) refl

    holds_cell : Holds (pushed event L)
    holds_cell = by c.object refl
      where
        old_one : (unmade : (n : ℕ) → c.object ≡ Object.Made n → header_of i ((place_after code s earlier).threads one.thread).own.stage ≡ Some n → ⊥) → Holds (pushed event L)
        old_one unmade = holds_old (kept laws keeps cell_laws pointers x code s ls wt fits few one earlier h may o j cell.live cell.inside (λ made. unmade_number c.object refl made)) unmade
          where
            unmade_number : (b : Object) → c.object ≡ b → header_of i ((place_after code s earlier).threads one.thread).own.stage ≡ Some (number_of c.object) → ⊥
            unmade_number (Object.Global q) is made = header_some (number_of c.object) made (ap number_of is)
            unmade_number (Object.Made n) is made = unmade n is (made ∙ ap (λ (b : Object). Some (number_of b)) is)

        object_eq : (n k : ℕ) → Object.Made n ≡ Object.Made k → n ≡ k
        object_eq n k e = cc

        by : (b : Object) → c.object ≡ b → Holds (pushed event L)
        by (Object.Global q) is = old_one (λ n e made. let z : Object.Global q ≡ Object.Made n = sym is ∙ e in cc)
        by (Object.Made n) is = ⊎_elim
            (λ (made : header_of i m.own.stage ≡ Some n). made_cell event tells n is made)
            (λ (never : header_of i m.own.stage ≡ Some n → ⊥). old_one (λ k e made. never (made ∙ ap (λ n. Some n) (sym (object_eq n k (sym is ∙ e))))))
            (decide (header_of i m.own.stage) n)

  pub contents_then : (r : Resolution) (L : Newest) → Contents r x code s L (table_of code s earlier) (place_after code s earlier) h.world h.state.cells
      → Contents r x code s (pushed event L) (table_of code s (one ∷ earlier)) (place_after code s (one ∷ earlier)) then_.world then_.state.cells
  contents_then r L old c cell value = holds_cell r L old c cell value
