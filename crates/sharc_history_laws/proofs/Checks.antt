-- A turn that is a check: its cell, the bit that it sets, and the access that it is of.
use Rattle.sharc_history_laws.proofs.{Imports.{◌≡◌, ℕ, ◌+◌, ◌*◌, ◌<◌, Bool, true, false, List, ◌∷◌, Some, None, refl, sym, ap, ◌∙◌, subst, Kind, Read, Write, AddsAccess, is_write, Code, Cell, Instr, Shape, granules, granule_at, granule_of, Machine, instr_at, place, check_of, Turn, Global, result_of, after_turn, cell_at, one_thread, bounds, place_after, Access, CheckOf, Label, Labels, IsOn, touch_at, State, StageStands, OnHold, Fine, HasCell, Targets, Field, World, IsFollowed, ChecksAreFollowed, access_to, access_checked, granule_low}, TurnAt.{turn_at, RunOf}, Consists.Consists, Followed.{IsCheckBy, OfRead, OfWrite, check_by, accessed_is}, Remaining.{word_at, check_bit}, Single.{rests_hold, single_check}, Spots.{IsChecked, is_checked}, Staying.{StillThere, kept_calm}, Tables.header_of, Acts.{given_at, freed_at}, Wholes.{TheLaws, Typed, Whole, whole, whole_next, fresh_of}}
use Rattle.sharc_history_laws.specs.Followed.{Accesses}

-- the cell of a check
pub record CheckCell (code : Code) (s : Shape) (g : Global Machine) (one : Turn) (kind : Kind) (p : ℕ) : Type 0 where
  pub cell : Cell
  pub site : ℕ
  pub at : instr_at code (g.threads one.thread).at.pc ≡ check_of kind cell site
  pub granule : p ≡ granule_at s (granule_of (place (g.threads one.thread) cell))
  pub low : p < granules s

pub check_cell : (code : Code) (s : Shape) (g : Global Machine) (one : Turn) (kind : Kind) (p : ℕ) (ok : Bool) → touch_at code s g one ≡ CheckOf kind p ok → CheckCell code s g one kind p
check_cell code s g one kind p ok touch = by (check_by s i m (result_of one.event) m' kind p ok touch)
  where
    m : Machine
    m = g.threads one.thread

    i : Instr
    i = instr_at code (g.threads one.thread).at.pc

    m' : Machine
    m' = (after_turn bounds (one_thread code s) g one).threads one.thread

    low : (c : Cell) → p ≡ granule_at s (granule_of (place (g.threads one.thread) c)) → p < granules s
    low c e = subst (λ n. n < granules s) (sym e) (granule_low s (granule_of (place (g.threads one.thread) c)))

    by : IsCheckBy s (g.threads one.thread) ((after_turn bounds (one_thread code s) g one).threads one.thread) kind p ok (instr_at code (g.threads one.thread).at.pc) → CheckCell code s g one kind p
    by (OfRead c site is kind_is granule goes) = record { cell = c; site = site; at = is ∙ ap (λ k. check_of k c site) (sym kind_is); granule = granule; low = low c granule }
    by (OfWrite c site is kind_is granule goes) = record { cell = c; site = site; at = is ∙ ap (λ k. check_of k c site) (sym kind_is); granule = granule; low = low c granule }

calm_header : (kind : Kind) (c : Cell) (site : ℕ) (m : Machine) → header_of (check_of kind c site) m.own.stage ≡ None
calm_header Read c site m = refl
calm_header Write c site m = refl

calm_given : (kind : Kind) (c : Cell) (site : ℕ) (m : Machine) → given_at (check_of kind c site) m ≡ None
calm_given Read c site m = refl
calm_given Write c site m = refl

calm_freed : (kind : Kind) (c : Cell) (site : ℕ) (m : Machine) → freed_at (check_of kind c site) m ≡ None
calm_freed Read c site m = refl
calm_freed Write c site m = refl

module _ (laws : TheLaws) (x : Targets) (code : Code) (s : Shape) (ls : Labels) (typed : Typed x code s ls) (one : Turn) (earlier : List Turn) (kind : Kind) (p : ℕ) (k : CheckCell code s (place_after code s earlier) one kind p) where
  open turn_at code s (place_after code s earlier) one use {g, t, m, i}

  abbrev here : Label
  here = ls.at ((place_after code s earlier).threads one.thread).at.pc

  -- the access that it is of
  pub cell_of_access : ChecksAreFollowed code → (a : Access) → access_checked code ((place_after code s earlier).threads one.thread) ≡ Some a → a.cell ≡ cell_at code ((place_after code s earlier).threads one.thread) k.cell
  cell_of_access followed a is = by kind (subst (λ j. IsFollowed code j (instr_at code (m.at.pc + 1))) k.at (followed m.at.pc))
    where
      same : (write : Bool) → Accesses write k.cell k.site (instr_at code (((place_after code s earlier).threads one.thread).at.pc + 1)) → a.cell ≡ cell_at code ((place_after code s earlier).threads one.thread) k.cell
      same write f =
          let both : Some a ≡ Some (access_to code m k.cell k.site write) = sym is ∙ accessed_is code m k.cell k.site write (instr_at code (m.at.pc + 1)) f in
          let e : a ≡ access_to code m k.cell k.site write = cc in
          ap (λ (y : Access). y.cell) e

      by : (kind : Kind) → IsFollowed code (check_of kind k.cell k.site) (instr_at code (((place_after code s earlier).threads one.thread).at.pc + 1)) → a.cell ≡ cell_at code ((place_after code s earlier).threads one.thread) k.cell
      by Read f = same false f.1
      by Write f = same true f.1

  pub write_of_access : ChecksAreFollowed code → (a : Access) → access_checked code ((place_after code s earlier).threads one.thread) ≡ Some a → a.is_write ≡ is_write kind
  write_of_access followed a is = by kind (subst (λ j. IsFollowed code j (instr_at code (m.at.pc + 1))) k.at (followed m.at.pc))
    where
      same : (write : Bool) → Accesses write k.cell k.site (instr_at code (((place_after code s earlier).threads one.thread).at.pc + 1)) → a.is_write ≡ write
      same write f =
          let both : Some a ≡ Some (access_to code m k.cell k.site write) = sym is ∙ accessed_is code m k.cell k.site write (instr_at code (m.at.pc + 1)) f in
          let e : a ≡ access_to code m k.cell k.site write = cc in
          ap (λ (y : Access). y.is_write) e

      by : (kind : Kind) → IsFollowed code (check_of kind k.cell k.site) (instr_at code (((place_after code s earlier).threads one.thread).at.pc + 1)) → a.is_write ≡ is_write kind
      by Read f = same false f.1
      by Write f = same true f.1

  -- in a run
  module _ (run : RunOf code s (one ∷ earlier)) where
    abbrev w : Whole x code s ls earlier
    w = whole laws x code s ls typed earlier run.0

    abbrev world : World
    world = (whole laws x code s ls typed earlier run.0).consists.world

    abbrev st : State x code s ls (place_after code s earlier) (whole laws x code s ls typed earlier run.0).consists.world
    st = (whole laws x code s ls typed earlier run.0).consists.state

    pub on : IsOn (place_after code s earlier) one.thread
    on = (run.1.started, run.1.next.runs)

    fresh : ((place_after code s earlier).threads one.thread).own.stop ≡ None
    fresh = fresh_of laws x code s ls typed one earlier run w.halting

    has_cell : (f : Field) × HasCell x code here k.cell f
    has_cell = by kind (subst (Fine x code ls m.at.pc (ls.at m.at.pc)) k.at (typed.wt.fine m.at.pc))
      where
        by : (kind : Kind) → Fine x code ls ((place_after code s earlier).threads one.thread).at.pc here (check_of kind k.cell k.site) → (f : Field) × HasCell x code here k.cell f
        by Read f = (f.1.0, f.1.1)
        by Write f = (f.1.0, f.1.1)

    pub hold : OnHold ((place_after code s earlier).threads one.thread).own.stage
    hold = rests_hold code s st.elements world st.heap g.words t m (check_of kind k.cell k.site) m.own.stage (single_check kind k.cell k.site)
        (subst (λ i. StageStands code s st.elements world st.heap g.words t m i m.own.stage) k.at ((st.threads t).runs on.0 on.1).stage)

    pub checked_here : IsChecked x code s ls typed.wt typed.fits (place_after code s earlier) (whole laws x code s ls typed earlier run.0).consists.world (whole laws x code s ls typed earlier run.0).consists.state one.thread on hold laws.cells k.cell p
    checked_here = is_checked x code s ls typed.wt typed.fits g world st t on hold laws.cells k.cell has_cell.0 has_cell.1 p k.granule

    -- the bit that it sets
    pub adds : (ok : Bool) → touch_at code s (place_after code s earlier) one ≡ CheckOf kind p ok → AddsAccess (word_at (place_after code s earlier) p) (word_at (place_after code s (one ∷ earlier)) p) one.thread kind
    adds ok touch = check_bit laws.run.turns laws.shadow laws.cells x code s ls typed.wt typed.fits g world st one run.1 fresh w.remains kind p ok k.low touch

    -- its object is there behind it
    pub there_then : (o j : ℕ) (live : (world.obj o).live ≡ true) (inside : 2 * j < st.cells o) → StillThere laws x code s ls typed one earlier run w o j live inside
    there_then o j live inside = kept_calm laws x code s ls typed one earlier run w o j live inside
        (ap (λ j. header_of j m.own.stage) k.at ∙ calm_header kind k.cell k.site m) (ap (λ j. given_at j m) k.at ∙ calm_given kind k.cell k.site m) (ap (λ j. freed_at j m) k.at ∙ calm_freed kind k.cell k.site m)

    pub live_then : (o j : ℕ) → (world.obj o).live ≡ true → 2 * j < st.cells o → ((whole laws x code s ls typed (one ∷ earlier) run).consists.world.obj o).live ≡ true
    live_then o j live inside = subst (λ (h : Consists x code s ls (one ∷ earlier)). (h.world.obj o).live ≡ true) (sym (whole_next laws x code s ls typed one earlier run)) (there_then o j live inside).is_live

    pub inside_then : (o j : ℕ) → (world.obj o).live ≡ true → 2 * j < st.cells o → 2 * j < (whole laws x code s ls typed (one ∷ earlier) run).consists.state.cells o
    inside_then o j live inside = subst (λ (h : Consists x code s ls (one ∷ earlier)). 2 * j < h.state.cells o) (sym (whole_next laws x code s ls typed one earlier run)) (there_then o j live inside).is_inside
