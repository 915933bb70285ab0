-- The runs of codes that are alike tell the same source events.
use Rattle.sharc_sound_laws.proofs.{Imports.{◌≡◌, ℕ, zero, suc, ◌==◌, ◌||◌, ◌+◌, ◌-◌, ◌*◌, List, [], ◌∷◌, map, get_or, Option, Some, None, if◌then◌else◌, refl, sym, ap, ◌∙◌, ℤ, pos, Site, Act, CellAt, CellMode, SourceEvent, Object, Taken, lowest_of, waits_in, NewView, NewStage, Length, Code, Function, GlobalCells, PlaceMode, LockedGlobal, Use, Cell, GlobalAt, Instr, Register, Shape, Stage, Makes, Uncounts, Begins, Enters, Withdraws, WithdrawsFrom, Leaves, Wakes, int_of, word_of, Machine, instr_at, int, ref, Said, Turn, result_of, with_told, access, cell_at, elements_in, event, event_at, global_cell, in_exit, in_free, in_new, in_signal, in_spawn, in_start, kind_of, made_cell, mode_of, new_event, no_global, nobody, own_event, place_at, reference, said, speaks_of, started_with, take_local, variable_of, Erase, place_after, AreAlike, HistoriesAreAlike}, Lists.ap2, Places.{checked_same, chosen_same, enabled_same, place_same}, Turns.{by_function, instr_same}}
use Rattle.sharc_code.specs.declared.instr.Cell.TheVariants.{Global}

module _ (a b : Code) (alike : AreAlike a b) where
  -- ---- sites, cells and modes
  site_same : (n : ℕ) → (place_at a n).site ≡ (place_at b n).site
  site_same n = (alike.sites n).site

  use_same : (n : ℕ) → (place_at a n).at ≡ (place_at b n).at
  use_same n = (alike.sites n).at

  global_same : (global place : ℕ) → global_cell a global place ≡ global_cell b global place
  global_same global place = ap (λ (gs : List GlobalCells). record { object = Object.Global global; cell = place - 2 * (get_or gs global no_global).granule }) alike.globals

  module _ (m : Machine) where
    cell_same : (c : Cell) → cell_at a m c ≡ cell_at b m c
    cell_same (Global global cell) = global_same global cell
    cell_same (GlobalAt global r) = global_same global (word_of (int m r))
    cell_same _ = refl

    mode_by : (cell : CellAt) (mode : PlaceMode) → mode_of a m cell mode ≡ mode_of b m cell mode
    mode_by cell (LockedGlobal global place) = ap (λ (c : CellAt). CellMode.Locked (Some c)) (global_same global place)
    mode_by cell _ = refl

    -- with the mode of a site
    mode_same : (cell : CellAt) (site : ℕ) → mode_of a m cell (place_at a site).mode ≡ mode_of b m cell (place_at b site).mode
    mode_same cell site = ap (mode_of a m cell) (alike.sites site).mode ∙ mode_by cell (place_at b site).mode

    -- ---- events at a site
    event_same : (site : ℕ) (answer : ℤ) (x y : Act) → x ≡ y → event_at a m site answer x ≡ event_at b m site answer y
    event_same site answer x y same = ap2 (λ (k : Site) (z : Act). event m k answer z) (site_same site) same

    access_same : (site : ℕ) (c : Cell) (answer : ℤ) (of other : CellAt → CellMode → Act) → ((x : CellAt) (y : CellMode) → of x y ≡ other x y) → access a m site c answer of ≡ access b m site c answer other
    access_same site c answer of other same = event_same site answer _ _
        (ap (λ (x : CellAt). of x (mode_of a m x (place_at a site).mode)) (cell_same c) ∙ ap (of (cell_at b m c)) (mode_same (cell_at b m c) site) ∙ same (cell_at b m c) (mode_of b m (cell_at b m c) (place_at b site).mode))

    of_cell : (site : ℕ) (c : Cell) (answer : ℤ) (of : CellAt → Act) → event_at a m site answer (of (cell_at a m c)) ≡ event_at b m site answer (of (cell_at b m c))
    of_cell site c answer of = event_same site answer _ _ (ap of (cell_same c))

    of_mode : (site : ℕ) (answer : ℤ) (of : CellMode → Act) → event_at a m site answer (of (mode_of a m (made_cell 0 0) (place_at a site).mode)) ≡ event_at b m site answer (of (mode_of b m (made_cell 0 0) (place_at b site).mode))
    of_mode site answer of = event_same site answer _ _ (ap of (mode_same (made_cell 0 0) site))

    take_same : (site number elements : ℕ) → take_local a m site number elements ≡ take_local b m site number elements
    take_same site zero elements = refl
    take_same site (suc number) elements = event_same site (reference (suc number) elements) _ _ (ap (λ (u : Use). Act.Take (Taken.Local (variable_of u)) (kind_of u)) (use_same site))

    new_same : (site cells : ℕ) (state : NewView) (stage : NewStage) → new_event a m site cells state stage ≡ new_event b m site cells state stage
    new_same site cells state (Length header) = of_mode site (reference header state.arguments.elements) (Act.New cells state.arguments.elements)
    new_same site cells state _ = refl

    made_same : (site cells : ℕ) (stage : Stage) → in_new a m site cells stage ≡ in_new b m site cells stage
    made_same site cells (Makes state) = new_same site cells state state.stage
    made_same site cells _ = refl

    free_same : (r site elements : ℕ) (stage : Stage) → in_free a m r site elements stage ≡ in_free b m r site elements stage
    free_same r site elements (Uncounts all) = event_same site (pos 0) _ _ refl
    free_same r site elements _ = refl

    spawn_same : (function : ℕ) (from : Register) (site elements : ℕ) (stage : Stage) → in_spawn a m function from site elements stage ≡ in_spawn b m function from site elements stage
    spawn_same function from site elements (Begins n) = event_same site (pos n) _ _ refl
    spawn_same function from site elements _ = refl

    start_same : (found elements : ℕ) (stage : Stage) → in_start a m found elements stage ≡ in_start b m found elements stage
    start_same found elements (Enters function) = by_function a b alike (λ (f : Function). event m f.site (pos 0) (Act.Started (started_with f.parameter found elements))) (λ g. refl) function
    start_same found elements _ = refl

    own_same : (act : Act) → own_event a m act ≡ own_event b m act
    own_same act = by_function a b alike (λ (f : Function). event m f.site (pos 0) act) (λ g. refl) m.own.function

    exit_same : (stage : Stage) → in_exit a m stage ≡ in_exit b m stage
    exit_same (Withdraws row) = refl
    exit_same (WithdrawsFrom row seen) = refl
    exit_same Leaves = own_same Act.Gone
    exit_same _ = own_same Act.Return

    nobody_same : (c : Cell) (site found : ℕ) → nobody a m c site found ≡ nobody b m c site found
    nobody_same c site zero = of_cell site c (pos 0) Act.Signal
    nobody_same c site (suc found) = refl

    signal_same : (c : Cell) (site found : ℕ) (stage : Stage) → in_signal a m c site found stage ≡ in_signal b m c site found stage
    signal_same c site found (Wakes seen) = ap2 (λ (x y : Option SourceEvent). if found == seen then x else y) (of_cell site c (pos (lowest_of seen + 1)) Act.Signal) (nobody_same c site found)
    signal_same c site found _ = nobody_same c site found

    said_same : (i : Instr) (found elements : ℕ) → said a i m found elements ≡ said b i m found elements
    said_same (Instr.Load r c site) found elements = access_same site c (int_of found) Act.Read Act.Read (λ x y. refl)
    said_same (Instr.Store r c site) found elements = access_same site c (pos 0) (λ at mode. Act.Write at mode (int m r)) (λ at mode. Act.Write at mode (int m r)) (λ x y. refl)
    said_same (Instr.LoadRef c site) found elements = access_same site c (reference found elements) Act.Read Act.Read (λ x y. refl)
    said_same (Instr.Exchange r c site) found elements = access_same site c (pos 0) (λ at mode. Act.Write at mode (reference (ref m r) elements)) (λ at mode. Act.Write at mode (reference (ref m r) elements)) (λ x y. refl)
    said_same (Instr.TakeCell r c site) found elements = access_same site c (reference found elements) (λ at mode. Act.Take (Taken.Cell at mode) (kind_of (place_at a site).at)) (λ at mode. Act.Take (Taken.Cell at mode) (kind_of (place_at b site).at)) (λ x y. ap (λ (u : Use). Act.Take (Taken.Cell x y) (kind_of u)) (use_same site))
    said_same (Instr.TakeLocal r from site) found elements = take_same site (ref m from) elements
    said_same (Instr.Give r site) found elements = of_mode site (pos 0) (Act.Give (reference (ref m r) elements))
    said_same (Instr.New r count cells site) found elements = made_same site cells m.own.stage
    said_same (Instr.Free r layout site) found elements = free_same r site elements m.own.stage
    said_same (Instr.Lock c site) found elements = ap (λ (e : Option SourceEvent). if found == 0 then e else None) (of_cell site c (pos 0) Act.Lock)
    said_same (Instr.Unlock r c site) found elements = of_cell site c (pos 0) Act.Unlock
    said_same (Instr.Spawn r function from site) found elements = spawn_same function from site elements m.own.stage
    said_same (Instr.Join r site) found elements = ap (λ (e : Option SourceEvent). if found == 0 || (found == 1 || found == 2) then None else e) (event_same site (pos 0) _ _ refl)
    said_same (Instr.Print r site) found elements = event_same site (pos 0) _ _ refl
    said_same (Instr.Start site) found elements = start_same found elements m.own.stage
    said_same Instr.Exit found elements = exit_same m.own.stage
    said_same (Instr.CondEnter c site) found elements = of_cell site c (pos 0) Act.Enter
    said_same (Instr.CondWait c site) found elements = ap (λ (e : Option SourceEvent). if waits_in found m.own.number then None else e) (of_cell site c (pos 0) Act.Woken)
    said_same (Instr.CondSignal c site) found elements = signal_same c site found m.own.stage
    said_same (Instr.CondBroadcast c site) found elements = of_cell site c (pos 0) Act.Broadcast
    said_same _ found elements = refl

  -- ---- runs
  module _ (s : Shape) where
    abbrev tells : (code : Code) → Instr → List (Said SourceEvent) → Machine → ℕ → Option SourceEvent
    tells code i earlier m found = said code i m found (elements_in (map (λ (x : Said SourceEvent). x.told) earlier) (speaks_of i m found))

    erased_same : (turns : List Turn) → Erase a s turns ≡ Erase b s turns
    erased_same [] = refl
    erased_same (turn ∷ earlier) =
        let t : ℕ = turn.thread in
        let found : ℕ = result_of turn.event in
        let m : Machine = (place_after a s earlier).threads t in
        let n : Machine = (place_after b s earlier).threads t in
        let there : m ≡ n = (place_same a b alike s earlier).threads t in
        let same : tells a (instr_at a m.at.pc) (Erase a s earlier) m found ≡ tells b (instr_at b n.at.pc) (Erase b s earlier) n found
        = said_same m (instr_at a m.at.pc) found _
        ∙ ap (λ i. tells b i (Erase a s earlier) m found) (instr_same a b alike s m.at.pc)
        ∙ ap2 (λ (past : List (Said SourceEvent)) (x : Machine). tells b (instr_at b x.at.pc) past x found) (erased_same earlier) there in
        ap2 (with_told t) same (erased_same earlier)

pub histories_are_alike : HistoriesAreAlike
histories_are_alike a b alike s places limit turns run chosen over = record {
  checked = checked_same a b alike s turns run;
  chosen = chosen_same a b alike s _ limit turns chosen;
  over = λ t. sym (enabled_same a b alike s limit (place_after a s turns) (place_after b s turns) (place_same a b alike s turns) t) ∙ over t;
  events = erased_same a b alike s turns;
}
