-- What statements ask of expressions, from what holds of cells.
use Rattle.sharc_accepted_laws.proofs.{Imports.{◌≡◌, inl, inr, ℕ, ◌+◌, Bool, true, false, List, refl, ap, sym, ◌∙◌, subst, ◌&&◌, Option, Some, None, false≢true, Base, Mutex, span_of, Expression, Right, Function, Kind, object, is_integral, is_pointer, is_array, is_struct_base, is_struct_behind, Use, IsHeld, is_mutex_kind, modes_at, Sharing, IsAssigned, kind_of, is_ref, target_of, guard_of, Context, PlaceSuits, is_cell, Setting, CellAssigned, type_by, IsTypable, IsPlaceTypable, IsOf, BasesStand, CellTyped, entry_by, entry_of, typing, CellsTyped, ExpressionsTypable, ExpressionsAreTypable, IsPlaceIn, IsThere, AreExpressionsTypable, some_star}, Assigned.{Laws, at_there}, Sorts.{held_pointer, held_integer}}

-- ---- what is held by a variable or a cell
base_plain : (b : Base) → is_integral b ≡ true → (is_struct_behind 0 (object b 0) ≡ false) × (is_mutex_kind (object b 0) ≡ false)
base_plain Mutex h = absurd (false≢true h)
base_plain _ h = (cc, cc)

pointer_plain : (b : Base) (n : ℕ) → (is_struct_behind 0 (object b (n + 1)) ≡ false) × (is_mutex_kind (object b (n + 1)) ≡ false)
pointer_plain b n = (ap (λ t. t && is_struct_base b) (some_star n), no_mutex b)
  where
    no_mutex : (b : Base) → is_mutex_kind (object b (n + 1)) ≡ false
    no_mutex Mutex = some_star n
    no_mutex _ = refl

held_plain : (k : Kind) → IsHeld k → (is_struct_behind 0 k ≡ false) × (is_mutex_kind k ≡ false)
held_plain k (inl (b, t, is)) = subst (λ j. (is_struct_behind 0 j ≡ false) × (is_mutex_kind j ≡ false)) (sym is) (base_plain b t)
held_plain k (inr (b, n, is)) = subst (λ j. (is_struct_behind 0 j ≡ false) × (is_mutex_kind j ≡ false)) (sym is) (pointer_plain b n)

held_no_array : (k : Kind) → IsHeld k → is_array k ≡ false
held_no_array k (inl (b, t, is)) = ap is_array is
held_no_array k (inr (b, n, is)) = ap is_array is

module _ (expressions : ExpressionsAreTypable) (bases : BasesStand) (z : Setting) (alone : ℕ → Bool) (n : ℕ) (g : Function) (cells : (c : Context) → IsPlaceIn z alone n g c → CellsTyped z c n g) where
  is_of : (c : Context) → IsPlaceIn z alone n g c → (e : Expression) → IsThere g c e → IsOf c n g e
  is_of c h e t = record { function = h.function; parts = t.inside; stand = t.stands }

  at : (c : Context) → IsPlaceIn z alone n g c → ExpressionsTypable c z.code alone z.lines n g
  at c h = expressions c z.code alone z.lines h.set n g (subst (λ x. CellsTyped x c n g) h.setting (cells c h))

  -- a pointer has modes
  has_modes : (laws : Laws) (c : Context) (h : IsPlaceIn z alone n g c) (u : Expression) → IsThere g c u → is_pointer (kind_of c u) ≡ true → modes_at c.program u ≡ None → ⊥
  has_modes laws c h u t pointer is =
      let p = laws.values.pointers z n c h.set.accepted u (at_there z alone n g c h u t) pointer in
      (cc (sym (ap (entry_by c (kind_of c u)) is) ∙ p.1))

  -- a cell that is assigned
  written_is : (laws : Laws) (c : Context) (h : IsPlaceIn z alone n g c) (u : Expression) (x : Right) → IsThere g c u → PlaceSuits c u → IsAssigned c.program u x → IsHeld (kind_of c u) → is_cell (target_of c u) ≡ true
      → CellAssigned z n typing c u (type_by (entry_of c u)) (target_of c u) (is_ref c u)
  written_is laws c h u x t suits assigned holds cell = by (is_ref c u) refl
    where
      typed : CellTyped z typing c n u true
      typed = ((cells c h).lvalues u (is_of c h u t) (bases.places c u suits) cell).assigned x assigned

      of_row : is_ref c u ≡ true → (o : Option (List Sharing)) → modes_at c.program u ≡ o → CellAssigned z n typing c u (type_by (entry_by c (kind_of c u) o)) (target_of c u) true
      of_row ref None is = absurd (has_modes laws c h u t (held_pointer (kind_of c u) holds ref) is)
      of_row ref (Some modes) is = typed.reference (held_pointer (kind_of c u) holds ref) modes is (span_of u).first Use.Write

      by : (b : Bool) → is_ref c u ≡ b → CellAssigned z n typing c u (type_by (entry_of c u)) (target_of c u) b
      by true is = of_row is (modes_at c.program u) refl
      by false is = typed.integer (held_integer (kind_of c u) holds is) (span_of u).first Use.Write

  pub linked : Laws → AreExpressionsTypable z alone n g
  linked laws = record {
    value = λ c h e t suits is_value. subst (λ x. IsTypable x n typing c e) (sym h.setting) ((at c h).values e (is_of c h e t) suits is_value);
    place = λ c h u t suits lvalue holds. subst (λ x. IsPlaceTypable x n typing c None (guard_of c u) u) (sym h.setting)
        (((at c h).places u (is_of c h u t) suits (held_plain (kind_of c u) holds).0 (held_no_array (kind_of c u) holds)).place (held_plain (kind_of c u) holds).1);
    written = λ c h u x t suits assigned holds cell. written_is laws c h u x t suits assigned holds cell;
  }
