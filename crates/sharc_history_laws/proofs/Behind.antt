-- Cells behind the last one of an object, and places beside the cells of a global, have the value that they begin with: no turn of typed code writes one.
use Rattle.sharc_history_laws.proofs.{Imports.{◌≡◌, ◌≢◌, ℕ, ◌+◌, ◌*◌, ◌<◌, ◌≤◌, Bool, true, false, ◌||◌, List, ◌∷◌, Option, Some, None, refl, sym, ap, ◌∙◌, subst, ⊎_elim, arith, or_right, slice_index_or, CellAt, Object, SourceEvent, Resolution, Code, Cell, Instr, Shape, RunLaws, Fits, IsInGlobal, Turn, MayTurn, result_of, said, cell_at, no_global, one_thread, bounds, place_after, makes, is_cell, is_number, made_by, same_cell, cell_changed, initial_value, Targets, Field, Labels, IsWellTyped, HasCell, World, IsSmall, OnHold, Keeps, CellsAreThere, PointersAreThere, AccessesAreAllowed, is_access}, TurnAt.{turn_at, told_at, turn_stands}, Acts.{given_at, freed_at, About, no_access}, Consists.{Consists, consists_then}, Contents.{newest_value, value_changed, value_kept}, Holding.cell_eq, Lists.Newest, Locked.NamesIn, OneMode.{place_of, numbers_now}, Rules.{pushed, about_now, decide, number_yes, makes_none}, Shared.number_of, Stands.there, Tables.header_of, Telling.{changed_said, unchanged_said}, Valued.{made_zero, cell_named, hold}, Values.{was, cells_stay}}

abbrev pub IsBehind : Code → World → (ℕ → ℕ) → Object → ℕ → Type 0
IsBehind code w cells (Object.Made n) cell = (n ≢ 0) × ((w.obj n).live ≡ true) × (cells n ≤ cell)
IsBehind code w cells (Object.Global q) cell = IsInGlobal code.globals.items q (2 * (slice_index_or code.globals.items q no_global).granule + cell) → ⊥

abbrev pub AreFirst : Resolution → Code → Newest → World → (ℕ → ℕ) → Type 0
AreFirst r code L w cells = (c : CellAt) → IsBehind code w cells c.object c.cell → newest_value r L c ≡ initial_value r c.object

module _ (cell_laws : CellsAreThere) (pointers : PointersAreThere) (rights : AccessesAreAllowed) (laws : RunLaws) (keeps : Keeps) (x : Targets) (code : Code) (s : Shape) (ls : Labels) (wt : IsWellTyped x code ls) (fits : Fits code s) (few : IsSmall code s)
    (one : Turn) (earlier : List Turn) (h : Consists x code s ls earlier) (may : MayTurn bounds (one_thread code s) (place_after code s earlier) one) where
  open turn_at code s (place_after code s earlier) one use {g, m, i}
  open told_at code s earlier one use {elements, event}

  abbrev then_ : Consists x code s ls (one ∷ earlier)
  then_ = consists_then laws keeps cell_laws pointers x code s ls wt fits few one earlier h may

  open turn_stands wt h.state one may use {on, fine}

  abbrev Tells : Option SourceEvent → Type 0
  Tells = About ((place_after code s earlier).threads one.thread).own.number (header_of i ((place_after code s earlier).threads one.thread).own.stage) (given_at i ((place_after code s earlier).threads one.thread)) (freed_at i ((place_after code s earlier).threads one.thread))

  tells : Tells event
  tells = about_now cell_laws pointers rights laws keeps x code s ls wt fits few one earlier h may

  -- ---- a cell that the instruction names
  module _ (k : Cell) (f : Field) (rests : OnHold ((place_after code s earlier).threads one.thread).own.stage) (has : HasCell x code (ls.at ((place_after code s earlier).threads one.thread).at.pc) k f) where
    -- is one of its object
    low : (c : CellAt) → cell_at code ((place_after code s earlier).threads one.thread) k ≡ c → place_of code c.object c.cell < h.state.cells (number_of c.object)
    low c same =
        let n = numbers_now cell_laws x code s ls wt fits g h.world h.state one.thread on rests k f has in
        let t = there x code s ls wt fits g h.world h.state one.thread on rests cell_laws k f has in
        subst (λ (c : CellAt). place_of code c.object c.cell < h.state.cells (number_of c.object)) same
        (subst (λ o. place_of code (cell_at code m k).object (cell_at code m k).cell < h.state.cells o) (sym n.0) (subst (λ j. j < h.state.cells (Rattle.sharc_invariant.specs.State.object_of_cell m k)) (sym n.1) t.number))

    names : (c : CellAt) → cell_at code ((place_after code s earlier).threads one.thread) k ≡ c → NamesIn code c.object c.cell (number_of c.object) (2 * (number_of c.object + 1) + place_of code c.object c.cell)
    names c same = subst (λ (c : CellAt). NamesIn code c.object c.cell (number_of c.object) (2 * (number_of c.object + 1) + place_of code c.object c.cell)) same
        (cell_named cell_laws pointers rights laws keeps x code s ls wt fits few one earlier h may k f rests has)

  -- ---- one cell after the turn
  module _ (r : Resolution) (L : Newest) (old : AreFirst r code L h.world h.state.cells) (c : CellAt) (behind : IsBehind code then_.world then_.state.cells c.object c.cell) where
    -- of an object that the turn makes
    made_now : (n : ℕ) → c.object ≡ Object.Made n → header_of i ((place_after code s earlier).threads one.thread).own.stage ≡ Some n → (ev : Option SourceEvent) → Tells ev → newest_value r (pushed ev L) c ≡ initial_value r c.object
    made_now n is made None about = absurd (let f : None ≡ Some n = about.makes ∙ made in cc)
    made_now n is made (Some e) about =
        let by : made_by e e.act ≡ Some n = about.makes ∙ made in
        let makes_it : makes c.object e ≡ true = ap (λ o. makes o e) is ∙ ap (is_number n) by ∙ number_yes n in
        value_changed r e L c (or_right (is_cell c (cell_changed e.act)) (makes c.object e) makes_it) ∙ made_zero e e.act n by ∙ ap (initial_value r) (sym is)

    -- of one that was there
    module _ (unmade : (n : ℕ) → c.object ≡ Object.Made n → header_of i ((place_after code s earlier).threads one.thread).own.stage ≡ Some n → ⊥) where
      was_behind : IsBehind code h.world h.state.cells c.object c.cell
      was_behind = by c.object refl behind
        where
          by : (a : Object) → c.object ≡ a → IsBehind code then_.world then_.state.cells a c.cell → IsBehind code h.world h.state.cells a c.cell
          by (Object.Global q) is k = k
          by (Object.Made n) is k = (
            k.0,
            was laws keeps cell_laws pointers x code s ls wt fits few one earlier h may n k.1 (unmade n is),
            subst (λ z. z ≤ c.cell) (cells_stay laws keeps cell_laws pointers x code s ls wt fits few one earlier h may n k.1 (unmade n is)) k.2,
          )

      unnamed : (k : Cell) (f : Field) → OnHold ((place_after code s earlier).threads one.thread).own.stage → HasCell x code (ls.at ((place_after code s earlier).threads one.thread).at.pc) k f → cell_at code ((place_after code s earlier).threads one.thread) k ≡ c → ⊥
      unnamed k f rests has same = by c.object was_behind (low k f rests has c same) (names k f rests has c same)
        where
          by : (a : Object) → IsBehind code h.world h.state.cells a c.cell → place_of code a c.cell < h.state.cells (number_of a)
              → NamesIn code a c.cell (number_of a) (2 * (number_of a + 1) + place_of code a c.cell) → ⊥
          by (Object.Global q) k low named = k (subst (λ at. IsInGlobal code.globals.items q at) named.2 named.1)
          by (Object.Made n) k low named = let high = k.2 in absurd (omega (arith, high, low))

      other : (k : Cell) (f : Field) → OnHold ((place_after code s earlier).threads one.thread).own.stage → HasCell x code (ls.at ((place_after code s earlier).threads one.thread).at.pc) k f → same_cell c (cell_at code ((place_after code s earlier).threads one.thread) k) ≡ false
      other k f rests has = by (same_cell c (cell_at code m k)) refl
        where
          by : (b : Bool) → same_cell c (cell_at code ((place_after code s earlier).threads one.thread) k) ≡ b → b ≡ false
          by true e = absurd (unnamed k f rests has (sym (cell_eq c (cell_at code m k) e)))
          by false e = refl

      unwritten : is_cell c (changed_said event) ≡ false
      unwritten = by i refl
        where
          rests : (j : Instr) → i ≡ j → Rattle.sharc_invariant.proofs.Own.is_single j ≡ true → OnHold ((place_after code s earlier).threads one.thread).own.stage
          rests j is single = hold cell_laws pointers rights laws keeps x code s ls wt fits few one earlier h may j is single

          by : (j : Instr) → i ≡ j → is_cell c (changed_said event) ≡ false
          by (Instr.Load q d site) is = ap (λ j. is_cell c (changed_said (said code j m (result_of one.event) elements))) is
          by (Instr.LoadRef d site) is = ap (λ j. is_cell c (changed_said (said code j m (result_of one.event) elements))) is
          by (Instr.Store q d site) is =
              let f = fine (Instr.Store q d site) is in
              ap (λ j. is_cell c (changed_said (said code j m (result_of one.event) elements))) is ∙ other d f.0 (rests (Instr.Store q d site) is refl) f.2.cell
          by (Instr.Exchange q d site) is =
              let f = fine (Instr.Exchange q d site) is in
              ap (λ j. is_cell c (changed_said (said code j m (result_of one.event) elements))) is ∙ other d f.1.0 (rests (Instr.Exchange q d site) is refl) f.1.2.cell
          by (Instr.TakeCell q d site) is =
              let f = fine (Instr.TakeCell q d site) is in
              ap (λ j. is_cell c (changed_said (said code j m (result_of one.event) elements))) is ∙ other d f.1.0 (rests (Instr.TakeCell q d site) is refl) f.1.2.cell
          by _ is = ap (is_cell c) (unchanged_said event (no_access code m laws.turns.tells i (result_of one.event) elements (ap is_access is)))

      no_make : (e : SourceEvent) → Tells (Some e) → makes c.object e ≡ false
      no_make e about = makes_none c.object (header_of i m.own.stage) e about.makes unmade

      kept_value : (ev : Option SourceEvent) → event ≡ ev → Tells ev → newest_value r (pushed ev L) c ≡ initial_value r c.object
      kept_value None e about = old c was_behind
      kept_value (Some d) e about =
          let a : is_cell c (cell_changed d.act) ≡ false = ap (λ ev. is_cell c (changed_said ev)) (sym e) ∙ unwritten in
          value_kept r d L c (ap (λ b. b || makes c.object d) a ∙ no_make d about) ∙ old c was_behind

    stays_first : newest_value r (pushed event L) c ≡ initial_value r c.object
    stays_first = by c.object refl
      where
        object_eq : (n k : ℕ) → Object.Made n ≡ Object.Made k → n ≡ k
        object_eq n k e = cc

        by : (a : Object) → c.object ≡ a → newest_value r (pushed event L) c ≡ initial_value r c.object
        by (Object.Global q) is = kept_value (λ n e made. let z : Object.Global q ≡ Object.Made n = sym is ∙ e in absurd (cc)) event refl tells
        by (Object.Made n) is = ⊎_elim
            (λ (made : header_of i m.own.stage ≡ Some n). made_now n is made event tells)
            (λ (never : header_of i m.own.stage ≡ Some n → ⊥). kept_value (λ k e made. never (made ∙ ap (λ n. Some n) (sym (object_eq n k (sym is ∙ e))))) event refl tells)
            (decide (header_of i m.own.stage) n)

  pub first_then : (r : Resolution) (L : Newest) → AreFirst r code L h.world h.state.cells → AreFirst r code (pushed event L) then_.world then_.state.cells
  first_then r L old c behind = stays_first r L old c behind
