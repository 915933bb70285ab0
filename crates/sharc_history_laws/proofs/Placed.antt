-- The cell that an instruction names, at a place of a run: it is one of a live object, its word is the one that the instruction asks for, and it holds what its field says.
use Rattle.sharc_history_laws.proofs.{Imports.{◌≡◌, ℕ, ◌+◌, ◌*◌, ◌<◌, refl, sym, ap, ◌∙◌, subst, Code, Cell, Shape, Fits, Machine, object, place, word, Global, cell_at, CellAt, Targets, Field, field_in, Labels, IsWellTyped, HasCell, World, CellIsThere as IsThere, State, OnHold, object_of_cell, number_in, IsOn, CellsAreThere}, Contents.{IsCellOf, content_of, word_of_cell}, Finds.is_there, Locked.{Names, names_cell}, OneMode.{place_of, numbers_now}, Shared.number_of, Stands.{some_base, there}}
use Rattle.sharc_invariant.specs.Words as Words

module _ (cell_laws : CellsAreThere) (x : Targets) (code : Code) (s : Shape) (ls : Labels) (wt : IsWellTyped x code ls) (fits : Fits code s) (g : Global Machine) (world : World) (st : State x code s ls g world) (t : ℕ) (on : IsOn g t) (hold : OnHold (g.threads t).own.stage)
    (k : Cell) (f : Field) (has : HasCell x code (ls.at (g.threads t).at.pc) k f) where
  abbrev m : Machine
  m = g.threads t

  abbrev d : CellAt
  d = cell_at code (g.threads t) k

  pub numbers : (number_of (cell_at code (g.threads t) k).object ≡ object_of_cell (g.threads t) k) × (place_of code (cell_at code (g.threads t) k).object (cell_at code (g.threads t) k).cell ≡ number_in (g.threads t) k)
  numbers = numbers_now cell_laws x code s ls wt fits g world st t on hold k f has

  th : IsThere x s st.cells world t (g.threads t) k f
  th = there x code s ls wt fits g world st t on hold cell_laws k f has

  pub named : Names code (cell_at code (g.threads t) k) (number_of (cell_at code (g.threads t) k).object) (2 * (number_of (cell_at code (g.threads t) k).object + 1) + place_of code (cell_at code (g.threads t) k).object (cell_at code (g.threads t) k).cell)
  named =
      let names : Names code d (object m k) (place m k) = names_cell code m k (is_there cell_laws x code s ls wt fits g world st t on hold k f has.field (some_base x code s ls wt fits g world st t on hold k has.base)) in
      let a : Names code d (object_of_cell m k) (2 * (object_of_cell m k + 1) + number_in m k) = subst (Names code d (object_of_cell m k)) th.place_is (subst (λ o. Names code d o (place m k)) (object_is k) names) in
      subst (λ o. Names code d o (2 * (o + 1) + place_of code d.object d.cell)) (sym numbers.0) (subst (λ j. Names code d (object_of_cell m k) (2 * (object_of_cell m k + 1) + j)) (sym numbers.1) a)
    where
      object_is : (c : Cell) → object (g.threads t) c ≡ object_of_cell (g.threads t) c
      object_is (Cell.Global h p) = refl
      object_is _ = refl

  pub content : content_of x code world (cell_at code (g.threads t) k) ≡ f.holds
  content =
      ap (λ o. (field_in x (world.obj o).ty (place_of code d.object d.cell)).holds) numbers.0 ∙ ap (λ j. (field_in x (world.obj (object_of_cell m k)).ty j).holds) numbers.1 ∙ ap (λ (f : Field). f.holds) th.field

  pub cell : IsCellOf code world st.cells (cell_at code (g.threads t) k)
  cell = record {
    live = ap (λ o. (world.obj o).live) numbers.0 ∙ th.live;
    inside = subst (λ o. place_of code d.object d.cell < st.cells o) (sym numbers.0) (subst (λ j. j < st.cells (object_of_cell m k)) (sym numbers.1) th.number);
    named = named;
  }

  pub word_is : word_of_cell code s (cell_at code (g.threads t) k) ≡ word s (g.threads t) k
  word_is = ap (λ o. Words.cell_at s o (place_of code d.object d.cell)) numbers.0 ∙ ap (Words.cell_at s (object_of_cell m k)) numbers.1 ∙ sym th.word_is
