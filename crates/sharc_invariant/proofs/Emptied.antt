-- An object whose pointers are all empty has no reference in it.
use Rattle.sharc_invariant.proofs.{Imports.{◌≡◌, ℕ, ◌+◌, ◌-◌, ◌*◌, ◌/◌, ◌%◌, ◌^◌, ◌<◌, ◌≤◌, ◌≢◌, true, false, refl, ap, ◌∙◌, subst, ⊎_elim, arith, sym, List, [], ◌∷◌, zero, suc, cases_eq, cases_order, cases_lt, mod-mul-add, div-mul-add, mul-le-mul_right, suc-mul, length, slice_index, min, slice_index_or, Code, Shape, Fits, Machine, layout_at, pointer_cell, fields, largest, field_of, Global, Targets, cells_of, field_at, field_in, field_of_cell, is_pointer, Field, no_field, Labels, IsWellTyped, IsLayout, CellOf as Cell, World, State, AreEmpty, all_pointers}, Cells.field_row}
use Rattle.sharc_invariant.specs.Types.{row_of}

split : (i c : ℕ) → c ≢ 0 → i ≡ i / c * c + i % c
split i c nz = grind arith

low_row : (e n c i : ℕ) → e * c ≤ i → i < n * c → e < n
low_row e n c i a b = ⊎_elim (λ (k : e ≡ n). let z = ap (λ e. e * c) k in absurd (omega arith))
    (⊎_elim (λ (k : e < n). k) (λ (k : n < e). let le : n ≤ e = omega arith in let z = mul-le-mul_right c le in absurd (omega arith))) (cases_order e n)

pub mod_low : (i c : ℕ) → c ≢ 0 → i % c < c
mod_low i c nz = grind arith

past : (fs : List Field) (n : ℕ) → length fs ≤ n → slice_index_or fs n no_field ≡ no_field
past [] n h = refl
past (f ∷ fs) zero h = absurd (omega arith)
past (f ∷ fs) (suc n) h = past fs n (omega arith)

-- where a layout lists a pointer, there is a cell
pub some_cells : (x : Targets) (code : Code) (layout target : ℕ) → IsLayout x code layout target → fields (layout_at code layout) ≢ 0 → 1 ≤ cells_of x target
some_cells x code layout target lay nf =
    let l = layout_at code layout in
    let fld = slice_index code.pointers.items l.from in
    let ptr = lay.only l.from (omega arith) (omega arith) in
    ⊎_elim (λ (a : 0 < cells_of x target). omega arith)
    (λ (a : cells_of x target ≤ 0). let z : is_pointer (field_at x target fld).holds ≡ false = ap (λ (f : Field). is_pointer f.holds) (past (row_of x target).fields fld (omega arith)) in absurd (cc))
    (cases_lt 0 (cells_of x target))

module _ (x : Targets) (code : Code) (s : Shape) (ls : Labels) (wt : IsWellTyped x code ls) (fits : Fits code s) (g : Global Machine) (world : World) (st : State x code s ls g world) where
  -- the number of a pointer of an element is that of its cell
  cell_number : (layout e q c fld i : ℕ) → (layout_at code layout).cells ≡ c → (layout_at code layout).from ≤ q → q < (layout_at code layout).until → slice_index code.pointers.items q ≡ fld → i ≡ e * c + fld → i < 2 ^ 63
      → pointer_cell code (layout_at code layout) (e * fields (layout_at code layout) + (q - (layout_at code layout).from)) ≡ i
  cell_number layout e q c fld i ec from until ef ei low =
      let l = layout_at code layout in
      let F = fields l in
      let d = q - l.from in
      let lt : d < F = omega arith in
      let b = mod-mul-add e F d lt in
      let back : l.from + d ≡ q = omega arith in
      let p : pointer_cell code l (e * F + d) ≡ field_of e c fld =
      ap (λ n. field_of n l.cells (slice_index code.pointers.items (l.from + (e * F + d) % F))) (div-mul-add e F d lt)
      ∙ ap (λ n. field_of e l.cells (slice_index code.pointers.items (l.from + n))) b
      ∙ ap (λ n. field_of e l.cells (slice_index code.pointers.items n)) back
      ∙ ap (λ n. field_of e l.cells n) ef ∙ ap (λ c. field_of e c fld) ec in
      p ∙ (let z : min (e * c + fld) largest ≡ i = omega arith in z)

  pub all_empty : (o layout target : ℕ) → o ≢ 0 → (world.obj o).live ≡ true → (world.obj o).ty.target ≡ target → IsLayout x code layout target
      → AreEmpty code world layout o (all_pointers code layout (st.elements o)) → (i : ℕ) → (world.slots (Cell o i)).reference ≡ 0
  all_empty o layout target nz live et lay empty i = ⊎_elim
      (λ (z : (world.slots (Cell o i)).reference ≡ 0). z)
      (λ (ne : (world.slots (Cell o i)).reference ≡ 0 → ⊥).
      let l = layout_at code layout in
      let k = st.sim.others o i ne in
      let c = cells_of x target in
      let E = st.elements o in
      let row = (st.rows o nz live).1 in
      let lt : i < E * c = subst (λ n. i < n) ((st.whole o nz live).1 ∙ ap (λ t. E * cells_of x t) et) k.0 in
      let nc : c ≢ 0 = λ z. let q = ap (λ c. E * c) z in let y : E * 0 ≡ 0 = grind arith in omega arith in
      let e = i / c in
      let fld = i % c in
      let er : e < E = low_row e E c i (omega arith) lt in
      let field_is : field_in x (world.obj o).ty i ≡ field_at x target fld = field_row x (world.obj o).ty i row ∙ ap (λ t. field_of_cell x t i) et in
      let ptr : is_pointer (field_at x target fld).holds ≡ true = subst (λ f. is_pointer f.holds ≡ true) field_is k.1 in
      let a = lay.all fld ptr in
      let q = a.0 in
      let F = fields l in
      let w = st.apart.within o (i / 2) live (omega arith) in
      let low : i < 2 ^ 63 = let g1 = fits.globals in let g2 = wt.globals.few in let g3 = fits.most in omega arith in
      let num = cell_number layout e q c fld i lay.cells a.1 a.2 a.3 (split i c nc) low in
      let j = e * F + (q - l.from) in
      let below : j < E * F = let b = mul-le-mul_right F er in let n = suc-mul e F in let a1 = a.1 in let a2 = a.2 in omega arith in
      subst (λ n. (world.slots (Cell o n)).reference ≡ 0) num (empty j below))
      (cases_eq (world.slots (Cell o i)).reference 0)

  -- the cell of a pointer that a layout lists is a pointer's
  pub pointer_there : (o layout target i : ℕ) → o ≢ 0 → (world.obj o).live ≡ true → (world.obj o).ty.target ≡ target → IsLayout x code layout target → i < all_pointers code layout (st.elements o)
      → (pointer_cell code (layout_at code layout) i < st.cells o) × (is_pointer (field_in x (world.obj o).ty (pointer_cell code (layout_at code layout) i)).holds ≡ true)
  pointer_there o layout target i nz live et lay lt =
      let l = layout_at code layout in
      let F = fields l in
      let c = cells_of x target in
      let E = st.elements o in
      let nF : F ≢ 0 = λ z. let q = ap (λ c. E * c) z in let y : E * 0 ≡ 0 = grind arith in absurd (omega arith) in
      let e = i / F in
      let ld = mod_low i F nF in
      let sp = split i F nF in
      let er : e < E = low_row e E F i (omega arith) lt in
      let q = l.from + (i % F) in
      let fld = slice_index code.pointers.items q in
      let ptr = lay.only q (omega arith) (omega arith) in
      let lf : fld < c = ⊎_elim (λ (a : fld < c). a)
      (λ (a : c ≤ fld). let z : is_pointer (field_at x target fld).holds ≡ false = ap (λ (f : Field). is_pointer f.holds) (past (row_of x target).fields fld a) in absurd (cc)) (cases_lt fld c) in
      let size : st.cells o ≡ E * c = (st.whole o nz live).1 ∙ ap (λ t. E * cells_of x t) et in
      let row = (st.rows o nz live).1 in
      let n : e * c + fld < E * c = let a = mul-le-mul_right c er in let b = suc-mul e c in omega arith in
      let low : e * c + fld < 2 ^ 63 = let g1 = fits.globals in let g2 = wt.globals.few in let g3 = fits.most in omega arith in
      let num : pointer_cell code l i ≡ e * c + fld = ap (λ n. field_of e n fld) lay.cells ∙ (let z : min (e * c + fld) largest ≡ e * c + fld = omega arith in z) in
      let field_is : field_in x (world.obj o).ty (e * c + fld) ≡ field_at x target fld =
      field_row x (world.obj o).ty (e * c + fld) row ∙ ap (λ t. field_of_cell x t (e * c + fld)) et ∙ ap (field_at x target) (mod-mul-add e c fld lf) in (
        subst (λ n. n < st.cells o) (sym num) (subst (λ m. e * c + fld < m) (sym size) n),
        ap (λ n. is_pointer (field_in x (world.obj o).ty n).holds) num ∙ ap (λ (f : Field). is_pointer f.holds) field_is ∙ ptr,
      )
