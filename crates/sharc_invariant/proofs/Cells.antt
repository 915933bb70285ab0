-- The cells that instructions name are there.
use Rattle.sharc_invariant.proofs.Imports.{◌≡◌, ℕ, ℤ, pos, suc, ◌+◌, ◌-◌, ◌*◌, ◌%◌, ◌<◌, ◌≤◌, ◌≢◌, true, false, cond, refl, sym, ap, ◌∙◌, subst, ⊎_elim, arith, cases_eq, nat_tests, mul-le-mul_right, suc-mul, mod-mul-add, length, nat_lt, ◌==◌, Code, Cell, Shape, word_of, Fits, words_of, first_cell, cell_word, word_at, cell_of, Machine, word, ref, int, Global, Targets, ObjectType, StaticType, Field, field_in, field_at, field_of_cell, global_field, cells_of, Refers, OfElement, OfGlobal, Label, Labels, IsWellTyped, HasCell, IsInGlobal, ObjectState, RegisterOf, In, World, Based, base_of, in_ref, cell_at, State, View, view_of, EntryStands, NumberStands, TopStands, refs_at, types_at, base_of_cell, object_of_cell, number_in, IsThere, ne_eq, eq_refl}
use Rattle.sharc_code.specs.Machine.{place}

-- a cell of an object that is not the globals has the field of its row
pub field_row : (x : Targets) (ty : ObjectType) (i : ℕ) → ty.target < length x.rows → field_in x ty i ≡ field_of_cell x ty.target i
field_row x ty i lt = let e : (ty.target == length x.rows) ≡ false = ne_eq ty.target (length x.rows) (λ q. omega arith) in rw (e, field_in) refl

module _ (x : Targets) (code : Code) (s : Shape) (ls : Labels) (wt : IsWellTyped x code ls) (fits : Fits code s) (g : Global Machine) (world : World) (st : State x code s ls g world) (t : ℕ) (m : Machine) (names : ℕ → ℤ) (l : Label)
    (top : TopStands x t (view_of st.elements world t m) m.at.refs m.at.ints names l) (reads : (r : ℕ) → ref m r ≡ in_ref world (RegisterOf t (m.at.refs + r))) where
  abbrev view : View
  view = view_of st.elements world t m

  -- a cell's word, where it is within the words
  pub cell_word_is : (o i : ℕ) → (world.obj o).live ≡ true → i < st.cells o → cell_word s (2 * (o + 1) + i) ≡ cell_at s o i
  cell_word_is o i live lt =
      let in_range : cell_at s o i < words_of s = ⊎_elim
      (λ (z : o ≡ 0). let c = ap st.cells z ∙ st.globals_cells in omega arith)
      (λ (nz : o ≡ 0 → ⊥). let r = st.heap_stands.room o nz live in let st' = (st.heap_stands.live o nz).0 live in
      let nzs : st.heap.size o ≢ 0 = λ z. let f = st.heap_stands.kept.blocks.known o z in cc in
      let w = st.heap_stands.kept.blocks.within o nzs in let h = st.heap_stands.within in omega arith)
      (cases_eq o 0) in
      let e : first_cell s + (2 * (o + 1) + i) ≡ cell_at s o i = omega arith in
      let q : nat_lt (cell_at s o i) (words_of s) ≡ true = grind (arith, nat_tests) in
      ap (word_at s) e ∙ ap (λ b. cond b (cell_at s o i) 0) q

  there : (c : Cell) (o i : ℕ) (f : Field) → object_of_cell m c ≡ o → place m c ≡ 2 * (o + 1) + i → (world.obj o).live ≡ true → i < st.cells o → field_in x (world.obj o).ty i ≡ f → Based world t (base_of_cell m c) → base_of world t (base_of_cell m c) ≡ o → IsThere x s st.cells world t m c f
  there c o i f eo ep live lt field based base =
      let num : number_in m c ≡ i = let a : number_in m c ≡ (2 * (o + 1) + i) - 2 * (o + 1) = ap (λ p. p - 2 * (object_of_cell m c + 1)) ep ∙ ap (λ o1. (2 * (o + 1) + i) - 2 * (o1 + 1)) eo in let b : (2 * (o + 1) + i) - 2 * (o + 1) ≡ i = omega arith in a ∙ b in
      let P : ℕ → ℕ → Type 0 = λ o i. ((world.obj o).live ≡ true) × (i < st.cells o) × (place m c ≡ 2 * (o + 1) + i) × (word s m c ≡ cell_at s o i) × (field_in x (world.obj o).ty i ≡ f) × (base_of world t (base_of_cell m c) ≡ o) in
      let here : P o i = (live, lt, ep, ap (cell_word s) ep ∙ cell_word_is o i live lt, field, base) in
      let p : P (object_of_cell m c) (number_in m c) = subst (λ o1. P o1 (number_in m c)) (sym eo) (subst (P o) (sym num) here) in
      record { live = p.0; number = p.1; place_is = p.2; word_is = p.3; field = p.4; based = based; base = p.5 }

  global_live : Based world t (Rattle.sharc_invariant.specs.World.Base.Global 0)
  global_live = (ap (λ (y : ObjectState). y.live) st.globals, ap (λ (y : ObjectState). y.global) st.globals)

  field_zero : (i : ℕ) → field_in x (world.obj 0).ty i ≡ global_field x i
  field_zero i = ap (λ (y : ObjectState). field_in x y.ty i) st.globals ∙ rw (eq_refl (length x.rows), field_in) refl

  in_globals : (h p : ℕ) → IsInGlobal code h p → (2 ≤ p) × (p - 2 < st.cells 0) × (p ≡ 2 * (0 + 1) + (p - 2))
  in_globals h p k =
      let a = wt.globals.low h k.is in let b = wt.globals.high h k.is in let c = k.from in let d = k.until in let e = st.globals_cells in let f = fits.globals in
      (omega arith, omega arith, omega arith)

  -- the object in a register of the frame
  object_at : (r : ℕ) (ty : StaticType) → l.env r ≡ Refers ty → l.known r ≡ true
      → (ref m r ≢ 0) × ((world.obj (ref m r)).live ≡ true) × ((world.obj (ref m r)).ty.target ≡ ty.target) × ((types_at view m.at.refs r).target ≡ ty.target)
  object_at r ty e k =
      let nzw : in_ref world (RegisterOf t (m.at.refs + r)) ≢ 0 = (top (suc r) 0).known r (omega arith) k in
      let fit = st.inv.words.fits (In (RegisterOf t (m.at.refs + r))) nzw in
      let st_r = subst (EntryStands (refs_at view m.at.refs) (types_at view m.at.refs) r) e ((top (suc r) 0).env r (omega arith)) nzw in
      let tt1 : (types_at view m.at.refs r).target ≡ ty.target = ap (λ (y : ObjectType). y.target) st_r in
      let q = sym (reads r) in
      ((λ z. nzw (q ∙ z)), subst (λ o. (world.obj o).live ≡ true) q fit.live, subst (λ o. (world.obj o).ty.target ≡ ty.target) q (ap (λ (y : ObjectType). y.target) fit.typed ∙ tt1), tt1)

  in_object : (r i : ℕ) (ty : StaticType) (n field : ℕ) → l.env r ≡ Refers ty → l.known r ≡ true → field < cells_of x ty.target → n < st.elements (ref m r) → i ≡ n * cells_of x ty.target + field
      → ((world.obj (ref m r)).live ≡ true) × (i < st.cells (ref m r)) × (field_in x (world.obj (ref m r)).ty i ≡ field_at x ty.target field)
  in_object r i ty n field e k lt ln ei =
      let o = ref m r in
      let a = object_at r ty e k in
      let whole = st.whole o a.0 a.1 in
      let row = (st.rows o a.0 a.1).1 in
      let size : st.cells o ≡ st.elements o * cells_of x ty.target = whole.1 ∙ ap (λ y. st.elements o * cells_of x y) a.2 in
      let b : suc n * cells_of x ty.target ≤ st.elements o * cells_of x ty.target = mul-le-mul_right (cells_of x ty.target) ln in
      let c = suc-mul n (cells_of x ty.target) in (
        a.1,
        omega arith,
        field_row x (world.obj o).ty i row ∙ ap (λ y. field_of_cell x y i) a.2 ∙ ap (field_at x ty.target) (ap (λ j. j % cells_of x ty.target) ei ∙ mod-mul-add n (cells_of x ty.target) field lt),
      )

  pub cell_there : (c : Cell) (f : Field) → HasCell x code l c f → IsThere x s st.cells world t m c f
  cell_there (Cell.Global h p) f k =
      let a = in_globals h p k.field.0 in
      there (Cell.Global h p) 0 (p - 2) f refl a.2 global_live.0 a.1 (field_zero (p - 2) ∙ sym k.field.1) global_live refl
  cell_there (Cell.GlobalAt h i) f k =
      let q = k.field in
      let nm : NumberStands x st.elements (refs_at view m.at.refs) (types_at view m.at.refs) names (int m i) (OfGlobal q.0 q.1 q.2 q.3) = subst (NumberStands x st.elements (refs_at view m.at.refs) (types_at view m.at.refs) names (int m i)) q.4 ((top 0 (suc i)).numbers i (omega arith)) in
      let p = q.0 + nm.0 * q.1 in
      let inside = q.5 nm.0 nm.1 in
      let a = in_globals h p inside.0 in
      let pl : place m (Cell.GlobalAt h i) ≡ p = ap word_of nm.2 in
      there (Cell.GlobalAt h i) 0 (p - 2) f refl (pl ∙ a.2) global_live.0 a.1 (field_zero (p - 2) ∙ sym inside.1) global_live refl
  cell_there (Cell.Object r i) f k =
      let q = k.field.1 in
      let a = object_at r q.0 q.1 k.base in
      let b = in_object r i q.0 0 i q.1 k.base q.2 (st.whole (ref m r) a.0 a.1).0 (omega arith) in
      there (Cell.Object r i) (ref m r) i f refl refl b.0 b.1 (b.2 ∙ sym q.3) (λ z. a.0 (reads r ∙ z)) (sym (reads r))
  cell_there (Cell.ObjectAt r i) f k =
      let q = k.field.1 in
      let ty = q.0 in
      let field = q.1 in
      let a = object_at r ty q.3 k.base in
      let nm : NumberStands x st.elements (refs_at view m.at.refs) (types_at view m.at.refs) names (int m i) (OfElement r field q.2) = subst (NumberStands x st.elements (refs_at view m.at.refs) (types_at view m.at.refs) names (int m i)) q.4 ((top 0 (suc i)).numbers i (omega arith)) in
      let n = nm.0 in
      let j = n * cells_of x ty.target + field in
      let b = in_object r j ty n field q.3 k.base q.5 (subst (λ o. n < st.elements o) (sym (reads r)) nm.1) refl in
      let pl : word_of (int m i) ≡ j = ap word_of nm.2 ∙ ap (λ y. word_of (pos (n * cells_of x y + field))) a.3 in
      there (Cell.ObjectAt r i) (ref m r) j f refl (ap (cell_of (ref m r)) pl) b.0 b.1 (b.2 ∙ sym q.6) (λ z. a.0 (reads r ∙ z)) (sym (reads r))
