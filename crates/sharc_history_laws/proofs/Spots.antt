-- Where the cell of a check lies: two checked cells of the same granule of memory are of the same object and granule to the source.
use Rattle.sharc_history_laws.proofs.{Imports.{◌≡◌, ℕ, suc, ◌+◌, ◌-◌, ◌*◌, ◌/◌, ◌<◌, ◌≤◌, ◌≢◌, true, refl, sym, ap, ◌∙◌, subst, ⊎_elim, arith, cases_eq, cases_lt, slice_index_or, CellAt, Object, Code, Cell, Shape, word_of, Fits, granule_at, granule_of, Machine, int, ref, place, Global, cell_at, global_cell, made_cell, no_global, granule_in, Labels, OfGlobal, CellsAreThere, IsOn, State, OnHold, NumberStands, object_of_cell, number_in, view_of, refs_at, types_at, IsWellTyped, AreGlobals, HasCell, Targets, Field, World, lt_of_le-ne, at_low}, TurnAt.thread_at, Stands.{rn, top, known_ref, there}, Staying.IsObject}
use Rattle.sharc_invariant.specs.Typed.{IsInGlobal}

-- the cell is of granule k of object o, which is granule p of memory
pub data Spot (code : Code) (at : CellAt) (o k p : ℕ) : Type 0 where
  InObject : (n : ℕ) → o ≢ 0 → at ≡ made_cell o n → n / 2 ≡ k → Spot code at o k p
  InGlobal : (h place : ℕ) → o ≡ 0 → at ≡ global_cell code h place → IsInGlobal code h place → place / 2 ≡ p → Spot code at o k p

pub object_is : (code : Code) (at : CellAt) (o k p : ℕ) → Spot code at o k p → IsObject at.object o
object_is code at o k p (InObject n nz is half) = subst (λ (at : CellAt). IsObject at.object o) (sym is) (refl, nz)
object_is code at o k p (InGlobal h place z is inside half) = subst (λ (at : CellAt). IsObject at.object o) (sym is) tt

abbrev pub SameSpot : CellAt → CellAt → Type 0
SameSpot a b = (a.object ≡ b.object) × (granule_in a ≡ granule_in b)

module _ (x : Targets) (code : Code) (globals : AreGlobals x code) where
  abbrev low_of : ℕ → ℕ
  low_of h = (slice_index_or code.globals.items h no_global).granule

  -- two cells of the same granule of memory are of the same global
  apart : (g h p q : ℕ) → IsInGlobal code g p → IsInGlobal code h q → p / 2 ≡ q / 2 → g < h → ⊥
  apart g h p q a b e lt =
      let z = globals.apart g h lt b.is in
      let u = a.until in
      let f = b.from in
      omega (arith, z, u, f, e)

  same_global : (g h p q : ℕ) → IsInGlobal code g p → IsInGlobal code h q → p / 2 ≡ q / 2 → g ≡ h
  same_global g h p q a b e = ⊎_elim
      (λ same. same)
      (λ (ne : g ≡ h → ⊥). ⊎_elim
      (λ (lt : g < h). absurd (apart g h p q a b e lt))
      (λ (ge : h ≤ g). absurd (apart h g q p b a (sym e) (lt_of_le-ne ge (λ z. ne (sym z)))))
      (cases_lt g h))
      (cases_eq g h)

  halves : (p q l : ℕ) → 2 * l ≤ p → 2 * l ≤ q → p / 2 ≡ q / 2 → (p - 2 * l) / 2 ≡ (q - 2 * l) / 2
  halves p q l a b e = omega (arith, a, b, e)

  pub same_spot : (a b : CellAt) (o k p : ℕ) → Spot code a o k p → Spot code b o k p → SameSpot a b
  same_spot a b o k p (InObject n nz is half) (InObject n' nz' is' half') =
      (ap (λ (y : CellAt). y.object) is ∙ sym (ap (λ (y : CellAt). y.object) is'), ap granule_in is ∙ half ∙ sym half' ∙ sym (ap granule_in is'))
  same_spot a b o k p (InObject n nz is half) (InGlobal h place z is' inside half') = absurd (nz z)
  same_spot a b o k p (InGlobal h place z is inside half) (InObject n nz is' half') = absurd (nz z)
  same_spot a b o k p (InGlobal h place z is inside half) (InGlobal h' place' z' is' inside' half') =
      let e : place / 2 ≡ place' / 2 = half ∙ sym half' in
      let same : h ≡ h' = same_global h h' place place' inside inside' e in
      let from' : 2 * low_of h ≤ place' = subst (λ h. 2 * low_of h ≤ place') (sym same) inside'.from in (
        ap (λ (y : CellAt). y.object) is ∙ ap (λ h. Object.Global h) same ∙ sym (ap (λ (y : CellAt). y.object) is'),
        ap granule_in is ∙ halves place place' (low_of h) inside.from from' e ∙ ap (λ h. (place' - 2 * low_of h) / 2) same ∙ sym (ap granule_in is'),
      )

-- ---- of a thread that goes on
module _ (x : Targets) (code : Code) (s : Shape) (ls : Labels) (wt : IsWellTyped x code ls) (fits : Fits code s) (g : Global Machine) (world : World) (st : State x code s ls g world) (t : ℕ) (on : IsOn g t) (hold : OnHold (g.threads t).own.stage) (cell_laws : CellsAreThere) where
  open thread_at st t use {m, here}

  pub record IsChecked (c : Cell) (p : ℕ) : Type 0 where
    pub live : (world.obj (object_of_cell (g.threads t) c)).live ≡ true
    pub inside : 2 * (number_in (g.threads t) c / 2) < st.cells (object_of_cell (g.threads t) c)
    pub is : p ≡ object_of_cell (g.threads t) c + 1 + number_in (g.threads t) c / 2
    pub spot : Spot code (cell_at code (g.threads t) c) (object_of_cell (g.threads t) c) (number_in (g.threads t) c / 2) p

  half_of : (p o n : ℕ) → p ≡ 2 * (o + 1) + n → p / 2 ≡ o + 1 + n / 2
  half_of p o n e = omega arith

  back : (a n : ℕ) → a + n - a ≡ n
  back a n = omega arith

  in_global : (h i : ℕ) (f : Field) → HasCell x code here (Cell.GlobalAt h i) f → IsInGlobal code h (word_of (int (g.threads t) i))
  in_global h i f k =
      let q = k.field in
      let names = (rn x code s ls wt fits g world st t on hold).names in
      let view = view_of st.elements world t m in
      let nm : NumberStands x st.elements (refs_at view m.at.refs) (types_at view m.at.refs) names (int m i) (OfGlobal q.0 q.1 q.2 q.3) =
      subst (NumberStands x st.elements (refs_at view m.at.refs) (types_at view m.at.refs) names (int m i)) q.4 ((top x code s ls wt fits g world st t on hold 0 (suc i)).numbers i (omega arith)) in
      let inside = q.5 nm.0 nm.1 in
      let pl : word_of (int m i) ≡ q.0 + nm.0 * q.1 = ap word_of nm.2 in
      subst (IsInGlobal code h) (sym pl) inside.0

  spot_of : (c : Cell) (f : Field) (k : HasCell x code here c f) (p : ℕ) → place (g.threads t) c / 2 ≡ p → Spot code (cell_at code (g.threads t) c) (object_of_cell (g.threads t) c) (number_in (g.threads t) c / 2) p
  spot_of (Cell.Global h q) f k p e = InGlobal h q refl refl k.field.0 e
  spot_of (Cell.GlobalAt h i) f k p e = InGlobal h (word_of (int m i)) refl refl (in_global h i f k) e
  spot_of (Cell.Object r i) f k p e = InObject i (known_ref x code s ls wt fits g world st t on hold r k.base) refl (ap (λ n. n / 2) (sym (back (2 * (ref m r + 1)) i)))
  spot_of (Cell.ObjectAt r i) f k p e = InObject (word_of (int m i)) (known_ref x code s ls wt fits g world st t on hold r k.base) refl (ap (λ n. n / 2) (sym (back (2 * (ref m r + 1)) (word_of (int m i)))))

  pub is_checked : (c : Cell) (f : Field) → HasCell x code here c f → (p : ℕ) → p ≡ granule_at s (granule_of (place (g.threads t) c)) → IsChecked c p
  is_checked c f k p e =
      let th = there x code s ls wt fits g world st t on hold cell_laws c f k in
      let o = object_of_cell m c in
      let n = number_in m c in
      let lt = th.number in
      let inside : 2 * (n / 2) < st.cells o = omega (arith, lt) in
      let within = st.apart.within o (n / 2) th.live inside in
      let half : place m c / 2 ≡ o + 1 + n / 2 = half_of (place m c) o n th.place_is in
      let is : p ≡ o + 1 + n / 2 = e ∙ ap (granule_at s) half ∙ at_low s (o + 1 + n / 2) within in
      record { live = th.live; inside = inside; is = is; spot = spot_of c f k p (half ∙ sym is) }
