-- In each run of typed code the cells of an object keep their modes until it is given or freed.
use Rattle.sharc_history_laws.proofs.{Imports.{◌≡◌, ℕ, ◌+◌, ◌-◌, ◌*◌, ◌<◌, ◌≢◌, ◌⊎◌, inl, inr, true, false, ◌||◌, List, ◌∷◌, reverse, Option, Some, None, refl, sym, ap, ◌∙◌, subst, ⊎_elim, cases_eq, get_or-set_other, slice_index, WordStep, WordEvent, word_after, words_after_step, Act as SourceAct, SourceEvent, CellAt, CellMode as EventMode, Object, Code, Cell, Shape, RunLaws, Fits, StepTurn as Act, Local, Asks, opening_words, turn, asked_by, Turn, IsRun, MayTurn, after_turn, result_of, words_now, opening_of, one_thread, bounds, place_after, said, cell_at, made_cell, place_at, said_now, table_of, Access, makes, gives, begins, frees, is_number, IsAccess, Targets, Field, FieldMode, cells_of, field_in, mode_in, mode_at, is_pointer, lock_number, OfType, Labels, IsWellTyped, CellOf, World, ObjectState, lang_of, has_returned, Closing, Without, changes_objects, IsSmall, OnHold, object_of_cell, number_in, size_of_run, IsOn, Keeps, CodeBegins, CellsAreThere, PointersAreThere, AccessesAreAllowed, StateStands, history_of, or_first, yes, or_second, is_access}, TurnAt.{turn_at, told_at}, Stands.gate, Tables.{header_of, length_kept, step_leaves}, Writes.writes, Sparing.{Spares, SparesTurn, Leaves, Elsewhere, Had}, Unwritten.spares, Consists.{Consists, consists_then, objects_then, effect_then}, Acts.{access_said, given_at, freed_at, About, no_access, access_at, IsAccess as TellsAccess, access_of}, Lists.{Newest, Each, OfAccess, no_event}, Rules.{over_runs, pushed, newest, about_now, hold_access, cell_is, same_behind, number_yes, each_pushed}, Shared.{number_of, closing_own, some_closing, not_sole, unless_given, unless_made}, Carried.without_carried, Locked.Names, OneMode.{ModeBy, ModeOf, place_of, one_by, mode_now, numbers_now}, Since.{IsTo, Since, AsBefore, as_before}}
use Rattle.sharc_code.specs.Runs.{step_of}
use Rattle.sharc_invariant.specs.Types.{CellMode}
use Rattle.sharc_tree.specs.declared.event.Act.TheVariants as acts
use Rattle.sharc_tree.specs.declared.event.CellMode.TheVariants as modes
use Rattle.sharc_invariant.specs.Words as Words

-- ---- a word that a turn spares
module _ (target : ℕ) (P : Type 0) where
  step_spared : (words : List ℕ) (step : WordStep) → Spares target P step → (slice_index (words_after_step words step) target ≡ slice_index words target) ⊎ P
  step_spared words step (Leaves keeps) = inl (step_leaves words step target keeps)
  step_spared words step (Elsewhere ne) = inl (get_or-set_other words step.word target (word_after step.op (slice_index words step.word)) 0 (λ e. ne (sym e)))
  step_spared words step (Had p) = inr p

  pub word_spared : (words : List ℕ) (event : Option WordEvent) (a : Act) → step_of event ≡ asked_by a → SparesTurn target P a → (slice_index (words_now words event) target ≡ slice_index words target) ⊎ P
  word_spared words None a asks h = inl refl
  word_spared words (Some e) (Local y) asks h = absurd (let f : Some e.step ≡ None = asks in cc)
  word_spared words (Some e) (Asks step go) asks h = let same : e.step ≡ step = cc in step_spared words e.step (subst (Spares target P) (sym same) h)

-- ---- an access neither begins nor frees an object
access_leaves : (o : Object) (e : SourceEvent) (a : Access) → IsAccess e a → (begins o e || frees o e) ≡ false
access_leaves (Object.Global g) e a is = refl
access_leaves (Object.Made n) e a is = by e.act is
  where
    by : (act : SourceAct) → Rattle.sharc_meaning.specs.Events.access_by act ≡ Some a → ((is_number n (Rattle.sharc_meaning.specs.Events.made_by e act) || is_number n (Rattle.sharc_meaning.specs.Events.given_by act)) || is_number n (Rattle.sharc_meaning.specs.Events.freed_by act)) ≡ false
    by (acts.Read c mode) q = refl
    by (acts.Write c mode v) q = refl
    by (acts.Take k kind) q = refl
    by _ q = absurd (cc)

-- ---- one turn
module _ (state_law : StateStands) (cell_laws : CellsAreThere) (pointers : PointersAreThere) (rights : AccessesAreAllowed) (laws : RunLaws) (keeps : Keeps) (x : Targets) (code : Code) (s : Shape) (ls : Labels) (wt : IsWellTyped x code ls) (fits : Fits code s) (few : IsSmall code s)
    (one : Turn) (earlier : List Turn) (h : Consists x code s ls earlier) (may : MayTurn bounds (one_thread code s) (place_after code s earlier) one) where
  open turn_at code s (place_after code s earlier) one use {g, t, m, i, found}
  open told_at code s earlier one use {elements, event}
  open h use {world}

  abbrev then_ : Consists x code s ls (one ∷ earlier)
  then_ = consists_then laws keeps cell_laws pointers x code s ls wt fits few one earlier h may

  on : IsOn (place_after code s earlier) one.thread
  on = (may.started, may.next.runs)

  abbrev Tells : Option SourceEvent → Type 0
  Tells = About ((place_after code s earlier).threads one.thread).own.number (header_of i ((place_after code s earlier).threads one.thread).own.stage) (given_at i ((place_after code s earlier).threads one.thread)) (freed_at i ((place_after code s earlier).threads one.thread))

  tells : Tells event
  tells = about_now cell_laws pointers rights laws keeps x code s ls wt fits few one earlier h may

  -- ---- an object that the event neither begins nor frees
  module _ (o : Object) (none : (e : SourceEvent) → event ≡ Some e → (begins o e || frees o e) ≡ false) where
    begins_none : (e : SourceEvent) → event ≡ Some e → begins o e ≡ false
    begins_none e is = or_first (begins o e) (frees o e) (none e is)

    without_then : Without h.world (number_of o) → Without then_.world (number_of o)
    without_then w = without_carried (size_of_run code s) (lang_of x) world h.state.inv t (number_of o) (has_returned m) (changes_objects i m) then_.world
        (effect_then laws keeps cell_laws pointers x code s ls wt fits few one earlier h may)
        (unless_given state_law cell_laws pointers rights laws keeps x code s ls wt fits few one earlier h may o begins_none)
        (unless_made state_law cell_laws pointers rights laws keeps x code s ls wt fits few one earlier h may o begins_none) w

  not_made : (n : ℕ) (ev : Option SourceEvent) → Tells ev → ((e : SourceEvent) → ev ≡ Some e → (begins (Object.Made n) e || frees (Object.Made n) e) ≡ false) → header_of i ((place_after code s earlier).threads one.thread).own.stage ≡ Some n → ⊥
  not_made n None about none is = let f : None ≡ Some n = about.makes ∙ is in cc
  not_made n (Some e) about none is =
      let a : makes (Object.Made n) e ≡ true = ap (is_number n) (about.makes ∙ is) ∙ number_yes n in
      yes (sym a ∙ or_first (makes (Object.Made n) e) (gives (Object.Made n) e) (or_first (begins (Object.Made n) e) (frees (Object.Made n) e) (none e refl)))

  not_given : (n : ℕ) (ev : Option SourceEvent) → Tells ev → ((e : SourceEvent) → ev ≡ Some e → (begins (Object.Made n) e || frees (Object.Made n) e) ≡ false) → given_at i ((place_after code s earlier).threads one.thread) ≡ Some n → ⊥
  not_given n None about none is = let f : None ≡ Some n = about.gives ∙ is in cc
  not_given n (Some e) about none is =
      let a : gives (Object.Made n) e ≡ true = ap (is_number n) (about.gives ∙ is) ∙ number_yes n in
      yes (sym a ∙ or_second (makes (Object.Made n) e) (gives (Object.Made n) e) (or_first (begins (Object.Made n) e) (frees (Object.Made n) e) (none e refl)))

  not_freed : (n : ℕ) (ev : Option SourceEvent) → Tells ev → ((e : SourceEvent) → ev ≡ Some e → (begins (Object.Made n) e || frees (Object.Made n) e) ≡ false) → freed_at i ((place_after code s earlier).threads one.thread) ≡ Some n → ⊥
  not_freed n None about none is = let f : None ≡ Some n = about.frees ∙ is in cc
  not_freed n (Some e) about none is =
      let a : frees (Object.Made n) e ≡ true = ap (is_number n) (about.frees ∙ is) ∙ number_yes n in
      yes (sym a ∙ or_second (begins (Object.Made n) e) (frees (Object.Made n) e) (none e refl))

  same_object : (o : Object) → ((e : SourceEvent) → event ≡ Some e → (begins o e || frees o e) ≡ false) → then_.world.obj (number_of o) ≡ h.world.obj (number_of o)
  same_object (Object.Global q) none = then_.state.globals ∙ sym h.state.globals
  same_object (Object.Made n) none =
      let m' = (after_turn bounds (one_thread code s) g one).threads t in
      ap (λ (f : ℕ → ObjectState). f n) (objects_then laws keeps cell_laws pointers x code s ls wt fits few one earlier h may)
      ∙ same_behind ls t m m' world.obj n i (not_made n event tells none) (not_given n event tells none) (not_freed n event tells none)

  -- ---- a readonly pointer cell of it
  module _ (o p : ℕ) (same : then_.world.obj o ≡ h.world.obj o) (some : (h.world.slots (CellOf o p)).reference ≢ 0) (readonly : mode_at x (h.world.obj o).ty p ≡ CellMode.Readonly) where
    live : (h.world.obj o).live ≡ true
    live = elim (h.world.obj o).live as (λ b. (h.world.obj o).live ≡ b → b ≡ true) [
      | true ↦ λ e. refl
      | false ↦ λ e. absurd (some (h.state.inv.words.dead o p e))
    ] refl

    live_then : (then_.world.obj o).live ≡ true
    live_then = ap (λ (y : ObjectState). y.live) same ∙ live

    cells_then : then_.state.cells o ≡ h.state.cells o
    cells_then = ⊎_elim
        (λ (z : o ≡ 0). ap then_.state.cells z ∙ then_.state.globals_cells ∙ sym h.state.globals_cells ∙ ap h.state.cells (sym z))
        (λ (nz : o ≡ 0 → ⊥).
        let count : then_.state.elements o ≡ h.state.elements o = then_.state.sim.lengths o nz live_then
        ∙ length_kept x code s ls g world h.state t o nz live one.event (turn code s m) may.next.asks (writes cell_laws pointers x code s ls wt fits g world h.state t on)
        ∙ sym (h.state.sim.lengths o nz live) in
        (then_.state.whole o nz live_then).1 ∙ ap (λ n. n * cells_of x (then_.world.obj o).ty.target) count
        ∙ ap (λ (y : ObjectState). h.state.elements o * cells_of x y.ty.target) same ∙ sym (h.state.whole o nz live).1)
        (cases_eq o 0)

    slot_kept : ((then_.world.slots (CellOf o p)).reference ≡ (h.world.slots (CellOf o p)).reference) ⊎ Closing h.world o
    slot_kept =
        let there = h.state.sim.others o p some in
        let lt : p < then_.state.cells o = subst (λ n. p < n) (sym cells_then) there.0 in
        let pointer : is_pointer (field_in x (then_.world.obj o).ty p).holds ≡ true = ap (λ (y : ObjectState). is_pointer (field_in x y.ty p).holds) same ∙ there.1 in
        let now = then_.state.sim.pointers o p live_then lt pointer in
        let was = h.state.sim.pointers o p live there.0 there.1 in
        ⊎_elim
        (λ (e : slice_index (words_now g.words one.event) (Words.cell_at s o p) ≡ slice_index g.words (Words.cell_at s o p)). inl (now ∙ e ∙ sym was))
        (λ (c : Closing h.world o). inr c)
        (word_spared (Words.cell_at s o p) (Closing h.world o) g.words one.event (turn code s m) may.next.asks (spares cell_laws pointers rights x code s ls wt fits g world h.state t on o p live there.0 there.1 readonly))

  -- ---- the mode of a cell stays
  module _ (c : CellAt) (mode : EventMode) (none : (e : SourceEvent) → event ≡ Some e → (begins c.object e || frees c.object e) ≡ false) where
    abbrev o : ℕ
    o = number_of c.object

    abbrev j : ℕ
    j = place_of code c.object c.cell

    same : then_.world.obj (number_of c.object) ≡ h.world.obj (number_of c.object)
    same = same_object c.object none

    by_mode : (f : FieldMode) → (field_in x (h.world.obj (number_of c.object)).ty (place_of code c.object c.cell)).mode ≡ f → ModeBy code h.world c (number_of c.object) (place_of code c.object c.cell) f mode
        → ModeBy code then_.world c (number_of c.object) (place_of code c.object c.cell) f mode ⊎ Closing h.world (number_of c.object)
    by_mode (FieldMode.Under (OfType q)) e k = inl (subst (λ (y : ObjectState). (d : CellAt) × (mode ≡ modes.Locked (Some d)) × Names code d (lock_number y.ty q).object (2 * ((lock_number y.ty q).object + 1) + (lock_number y.ty q).cell)) (sym same) k)
    by_mode (FieldMode.Behind field pointer) e k =
        let p = j - field + pointer in
        let readonly : mode_at x (h.world.obj o).ty p ≡ CellMode.Readonly = wt.targets.behind (h.world.obj o).ty j p (ap (mode_in (h.world.obj o).ty j) e) in
        ⊎_elim
        (λ (z : (then_.world.slots (CellOf o p)).reference ≡ (h.world.slots (CellOf o p)).reference). inl (k.0 ∙ ap (λ v. modes.Locked (Some (made_cell v 0))) (sym z), λ y. k.1 (sym z ∙ y)))
        (λ (w : Closing h.world o). inr w)
        (slot_kept o p same k.1 readonly)
    by_mode _ e k = inl k

    mode_kept : ModeOf x code h.world c mode → ModeOf x code then_.world c mode ⊎ Without then_.world (number_of c.object)
    mode_kept k = ⊎_elim
        (λ (z : ModeBy code then_.world c o j (field_in x (h.world.obj o).ty j).mode mode). inl (subst (λ (y : ObjectState). ModeBy code then_.world c o j (field_in x y.ty j).mode mode) (sym same) z))
        (λ (w : Closing h.world o). inr (without_then c.object none (inl w)))
        (by_mode (field_in x (h.world.obj o).ty j).mode refl k)

    has_then : ModeOf x code h.world c mode ⊎ Without h.world (number_of c.object) → ModeOf x code then_.world c mode ⊎ Without then_.world (number_of c.object)
    has_then k = ⊎_elim mode_kept (λ (w : Without h.world o). inr (without_then c.object none w)) k

  -- ---- the access of the turn
  module _ (e : SourceEvent) (said_is : said code i ((place_after code s earlier).threads one.thread) found elements ≡ Some e) (a : Access) (is : IsAccess e a) where
    access : is_access i ≡ true
    access = elim (is_access i) as (λ b. is_access i ≡ b → b ≡ true) [
      | true ↦ λ z. refl
      | false ↦ λ z. absurd (let f : None ≡ Some a = sym (no_access code m laws.turns.tells i found elements z) ∙ ap access_said said_is ∙ is in cc)
    ] refl

    hold : OnHold ((place_after code s earlier).threads one.thread).own.stage
    hold = hold_access cell_laws pointers rights laws keeps x code s ls wt fits few one earlier h may access

    k : TellsAccess x code ls ((place_after code s earlier).threads one.thread) i found elements
    k = access_of x code ls m i found elements access (wt.fine m.at.pc)

    same_access : access_at code ((place_after code s earlier).threads one.thread) k.cell k.site k.write ≡ a
    same_access = let both : Some (access_at code m k.cell k.site k.write) ≡ Some a = sym k.said_is ∙ ap access_said said_is ∙ is in cc

    abbrev at : CellAt
    at = cell_at code ((place_after code s earlier).threads one.thread) k.cell

    numbers : (number_of (cell_at code ((place_after code s earlier).threads one.thread) k.cell).object ≡ object_of_cell ((place_after code s earlier).threads one.thread) k.cell)
        × (place_of code (cell_at code ((place_after code s earlier).threads one.thread) k.cell).object (cell_at code ((place_after code s earlier).threads one.thread) k.cell).cell ≡ number_in ((place_after code s earlier).threads one.thread) k.cell)
    numbers = numbers_now cell_laws x code s ls wt fits g world h.state t on hold k.cell k.field k.accesses.cell

    mode_at_access : ModeOf x code h.world a.cell a.mode
    mode_at_access =
        let c = k.cell in
        let n = object_of_cell m c in
        let q = number_in m c in
        let there = cell_is cell_laws pointers rights laws keeps x code s ls wt fits few one earlier h may hold k in
        let mode = (access_at code m k.cell k.site k.write).mode in
        let now : ModeBy code world at n q k.field.mode mode = mode_now cell_laws x code s ls wt fits g world h.state t on hold c k.field k.write at (place_at code k.site).mode refl k.accesses.cell k.field.mode k.accesses.may k.accesses.mode in
        let here : ModeBy code world at n q (field_in x (world.obj n).ty q).mode mode = subst (λ (f : Field). ModeBy code world at n q f.mode mode) (sym there.field) now in
        let at_place : ModeBy code world at n (place_of code at.object at.cell) (field_in x (world.obj n).ty (place_of code at.object at.cell)).mode mode =
        subst (λ q. ModeBy code world at n q (field_in x (world.obj n).ty q).mode mode) (sym numbers.1) here in
        let at_object : ModeOf x code world at mode = subst (λ n. ModeBy code world at n (place_of code at.object at.cell) (field_in x (world.obj n).ty (place_of code at.object at.cell)).mode mode) (sym numbers.0) at_place in
        subst (λ (a : Access). ModeOf x code world a.cell a.mode) same_access at_object

    -- nobody has the object alone
    register_of_cell : (c : Cell) → object_of_cell ((place_after code s earlier).threads one.thread) c ≢ 0 → (r : ℕ) × (slice_index ((place_after code s earlier).threads one.thread).refs r ≡ object_of_cell ((place_after code s earlier).threads one.thread) c)
    register_of_cell (Cell.Global q p) nz = absurd (nz refl)
    register_of_cell (Cell.GlobalAt q r) nz = absurd (nz refl)
    register_of_cell (Cell.Object r p) nz = (m.at.refs + r, refl)
    register_of_cell (Cell.ObjectAt r q) nz = (m.at.refs + r, refl)

    not_closing : Closing h.world (object_of_cell ((place_after code s earlier).threads one.thread) k.cell) → ⊥
    not_closing c =
        let n = object_of_cell m k.cell in
        let nz : n ≢ 0 = λ z. some_closing state_law x code s ls wt fits g world h.state n c z in
        let r = register_of_cell k.cell nz in
        let mine : t ≡ c.0 = closing_own state_law x code s ls wt fits g world h.state n c t r.0 hold r.1 in
        not_sole s world t m (ls.at m.at.pc).gate k.accesses.apart (gate x code s ls wt fits g world h.state t on hold) c.1.0 (ap world.win mine ∙ c.1.1.0)

    not_without : Without h.world (number_of a.cell.object) → ⊥
    not_without w =
        let n = object_of_cell m k.cell in
        let there = cell_is cell_laws pointers rights laws keeps x code s ls wt fits few one earlier h may hold k in
        let n_is : number_of a.cell.object ≡ n = ap (λ (a : Access). number_of a.cell.object) (sym same_access) ∙ numbers.0 in
        let w' : Without world n = subst (Without world) n_is w in
        ⊎_elim not_closing (λ (dead : (world.obj n).live ≡ false). yes (sym there.live ∙ dead)) w'

  -- ---- what is known of the modes of accesses
  abbrev AllHave : Newest → World → Type 0
  AllHave L w = (c : CellAt) (mode : EventMode) → Since L c mode → ModeOf x code w c mode ⊎ Without w (number_of c.object)

  module _ (L : Newest) (have : AllHave L h.world) where
    pub have_then : (ev : Option SourceEvent) → event ≡ ev → AllHave (pushed ev L) then_.world
    have_then None e c mode since = has_then c mode (λ d q. absurd (let f : None ≡ Some d = sym e ∙ q in cc)) (have c mode since)
    have_then (Some d) e c mode since = ⊎_elim
        (λ (to : IsTo d c mode).
        let a = to.access in
        let now : ModeOf x code h.world c mode = subst (λ y. ModeOf x code h.world c y) to.mode_is (subst (λ (y : CellAt). ModeOf x code h.world y a.mode) to.cell (mode_at_access d e a to.is)) in
        has_then c mode (λ b q. access_leaves c.object b a (let same : d ≡ b = let f : Some d ≡ Some b = sym e ∙ q in cc in subst (λ (b : SourceEvent). IsAccess b a) same to.is)) (inl now))
        (λ (old : ((begins c.object d || frees c.object d) ≡ false) × Since L c mode).
        has_then c mode (λ b q. let same : d ≡ b = let f : Some d ≡ Some b = sym e ∙ q in cc in subst (λ b. (begins c.object b || frees c.object b) ≡ false) same old.0) (have c mode old.1))
        since

    pub as_now : (d : SourceEvent) → event ≡ Some d → (b : Access) → IsAccess d b → AsBefore (reverse L) d b
    as_now d e b is = as_before L d b (λ mode since. ⊎_elim
        (λ (k : ModeOf x code h.world b.cell mode). one_by x code ls wt h.world b.cell (number_of b.cell.object) (place_of code b.cell.object b.cell.cell) (field_in x (h.world.obj (number_of b.cell.object)).ty (place_of code b.cell.object b.cell.cell)).mode mode b.mode k (mode_at_access d e b is))
        (λ (w : Without h.world (number_of b.cell.object)). absurd (not_without d e b is w))
        (have b.cell mode since))

-- ---- runs
pub record KeepsModes (x : Targets) (code : Code) (s : Shape) (ls : Labels) (run : List Turn) : Type 0 where
  pub consists : Consists x code s ls run
  pub have : (c : CellAt) (mode : EventMode) → Since (newest code s run) c mode → ModeOf x code consists.world c mode ⊎ Without consists.world (number_of c.object)
  pub same : Each (OfAccess AsBefore) (history_of code s run)

module _ (state_law : StateStands) (cell_laws : CellsAreThere) (pointers : PointersAreThere) (rights : AccessesAreAllowed) (laws : RunLaws) (begins_law : CodeBegins) (keeps : Keeps) (x : Targets) (code : Code) (s : Shape) (ls : Labels) (wt : IsWellTyped x code ls) (fits : Fits code s) (few : IsSmall code s) where
  pub keeps_modes : (run : List Turn) → IsRun bounds (one_thread code s) (opening_of bounds (one_thread code s) (opening_words code s)) run → KeepsModes x code s ls run
  keeps_modes run is =
      let k = over_runs cell_laws pointers laws begins_law keeps x code s ls wt fits few
      (λ run h L. record { have : (c : CellAt) (mode : EventMode) → Since L c mode → ModeOf x code h.world c mode ⊎ Without h.world (number_of c.object); same : Each (OfAccess AsBefore) (reverse L) })
      (record { have = λ c mode since. absurd since; same = no_event (OfAccess AsBefore) })
      (λ one earlier h may _ old.
      let ev = said_now code (table_of code s earlier) ((place_after code s earlier).threads one.thread) (result_of one.event) in
      let L = newest code s earlier in
      record {
        have = have_then state_law cell_laws pointers rights laws keeps x code s ls wt fits few one earlier h may L old.have ev refl;
        same = each_pushed (OfAccess AsBefore) ev L old.same (λ d e b is. as_now state_law cell_laws pointers rights laws keeps x code s ls wt fits few one earlier h may L old.have d e b is);
      }) run is in
      record { consists = k.0; have = k.1.have; same = k.1.same }
