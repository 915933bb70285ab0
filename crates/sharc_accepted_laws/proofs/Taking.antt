-- Casts, and what is freed.
use Rattle.sharc_accepted_laws.proofs.{Imports.{◌≡◌, ℕ, ◌+◌, ◌<◌, true, false, refl, ap, sym, ◌∙◌, subst, arith, option_map, lt-ltb, Some, None, or_left, Span, Identifier, WrittenType, Expression, Named, Kind, is_pointer, is_null, declared_kind, element_kind, Use, named_at, named_kind, structs_in, a_cast, HasType as IsOfType, MeetsConstraints, OneType, element_cells, base_of, Targets, written, cast_row, named_row, modes_of, modes_at, IsExpression, kind_of, target_of, layout_of, named_target, Context, ref_count, number_in, StaticType, cells_of, Refers, Recasts, IsLayout, Setting, type_by, VariableTakes, Takes, CastTyped, FreeTyped, CastsRecast, HeldLaws, held_at, IsAccepted, ScopeLaws, ExpressionStands, register, static_of, variable_type, variable_entry, entry_by, entry_of, ExpressionsFound, LayoutsAre, HasTables, pointee, PointeeFits, PointeesFit, row_shape, targets_of, IsAt, VariablesAreTaken, TakingLaws, typing}, TypableRegisters.reference_found, Values.{has_row, pointer_no_null, typed_at, type_in, pointer_is}, Members.first_of, Assigned.bare_of}
use Rattle.sharc_tree.specs.Tree as tree
use Rattle.sharc_flat.specs.Places.{variable}

-- ---- variables
module _ (c : Context) where
  variable_entry_is : (s : Span) (i : Identifier) (x : ℕ) → named_at c.program.typed i.site.token ≡ Named.Variable x → entry_of c (tree.identifier s i) ≡ Refers (variable_type c x)
  variable_entry_is s i x names =
      ap (λ n. Refers (static_of c (named_kind c.program.typed n) (modes_of c.program (named_row c.program.typed written n)))) names

variables_are_taken : HeldLaws → ScopeLaws → VariablesAreTaken
variables_are_taken held scopes z f c a s i x taken bare_is names slot use_made =
    let q = reference_found 0 0 c.scope x slot in
    let h = scopes.has c x slot in
    let same : register c x ≡ q.0 = ap number_in q.1 in
    let entry : entry_of c a ≡ Refers (variable_type c x) = (bare_of c a).entry ∙ ap (entry_of c) bare_is ∙ variable_entry_is c s i x names in
    let to : target_of c a ≡ variable x = (bare_of c a).target ∙ ap (target_of c) bare_is ∙ ap (λ n. named_target n 0) names in
    let pointer : type_by (variable_entry c q.0) ≡ type_by (entry_of c a) = ap type_by (subst (λ n. variable_entry c n ≡ Refers (variable_type c x)) same h.2) ∙ sym (ap type_by entry) in
    subst (Takes z f typing c a use_made (type_by (entry_of c a))) (sym to)
    (subst (VariableTakes z f typing c (type_by (entry_of c a))) (sym q.1)
    (subst (λ n. n < ref_count c.scope) same h.0, pointer, subst (λ n. held_at c n ≡ false) same (held.taken c a s i x taken bare_is names slot)))

-- ---- casts and frees
module _ (constraints : MeetsConstraints) (one_type : OneType) (held : HeldLaws) (scopes : ScopeLaws) (expressions_found : ExpressionsFound) (pointees_fit : PointeesFit) (layouts_are : LayoutsAre) (casts_recast : CastsRecast)
    (z : Setting) (f : ℕ) (c : Context) (a : IsAccepted c.program) (targets : z.targets ≡ targets_of c.program) where
  -- what a pointer refers to
  record Pointed (e : Expression) : Type 0 where
    row : Targets
    modes : modes_at c.program e ≡ Some (modes_of c.program row)
    entry : type_by (entry_of c e) ≡ static_of c (kind_of c e) (modes_of c.program row)
    fits : PointeeFits c.program (kind_of c e) row

  pointed : (e : Expression) → IsExpression c.program e → is_pointer (kind_of c e) ≡ true → Pointed e
  pointed e there pointer =
      let row = has_row c.program.typed e (kind_of c e) (typed_at constraints held scopes c.program a e there) (pointer_no_null (kind_of c e) pointer) in
      let modes : modes_at c.program e ≡ Some (modes_of c.program row.0) = ap (option_map (modes_of c.program)) row.1 in
      record {
        row = row.0;
        modes = modes;
        entry = ap (λ o. type_by (entry_by c (kind_of c e) o)) modes;
        fits = pointees_fit c.program (kind_of c e) row.0 (expressions_found c.program a.resolved a.placed a.low a.least.modes e there row.0 row.1) pointer;
      }

  cells_are : (e : Expression) (p : Pointed e) → element_cells c.program.typed (element_kind (kind_of c e)) ≡ cells_of z.targets (type_by (entry_of c e)).target
  cells_are e p = sym (ap (λ (s : StaticType). cells_of z.targets s.target) p.entry ∙ ap (λ x. cells_of x (pointee c.program (kind_of c e) p.row)) targets ∙ p.fits.cells)

  -- what a cast takes is a pointer of its type
  operand : (s : Span) (t : WrittenType) (e : Expression) (k : Kind) → IsOfType c.program.typed (tree.cast s t e) k → (is_pointer (declared_kind t) ≡ true) × (kind_of c e ≡ declared_kind t)
  operand s t e _ (a_cast lvalue has pointer) =
      (ap is_pointer pointer.2 ∙ lt-ltb 0 (pointer.1 + 1) (omega arith), one_type c.program.typed a.resolved a.placed a.low e (declared_kind t) has)

  cast_is : (s : Span) (t : WrittenType) (e : Expression) → IsAt c (tree.cast s t e) → ExpressionStands c e → Takes z f typing c e (Use.Cast None) (type_by (entry_of c e)) (target_of c e) → CastTyped z f typing c (tree.cast s t e) e
  cast_is s t e at stands takes =
      let there = at.inside.0 in
      let inner : IsAt c e = record { inside = at.inside.1; stands = stands } in
      let o = operand s t e (declared_kind t) (typed_at constraints held scopes c.program a (tree.cast s t e) there) in
      let pointer : is_pointer (kind_of c e) ≡ true = ap is_pointer o.1 ∙ o.0 in
      let below = first_of (IsExpression c.program) e at.inside.1 in
      let p = pointed e below pointer in
      let found = modes_of c.program p.row in
      let new = modes_of c.program (cast_row c.program.typed s) in
      record {
        before = type_by (entry_of c e);
        given = static_of c (declared_kind t) new;
        take = record { type = (pointer_is constraints held scopes z f c a e inner pointer).2; takes = takes };
        reference = or_left (is_pointer (declared_kind t)) (is_null (declared_kind t)) o.0;
        entry = refl;
        type = type_in constraints held scopes z f c a (tree.cast s t e) at new refl;
        size = cells_are e p;
        recasts = λ r l holds is. subst (λ x. Recasts x l r (type_by (entry_of c e)) (static_of c (declared_kind t) new)) (sym targets)
            (subst (λ b. Recasts (targets_of c.program) l r b (static_of c (declared_kind t) new)) (sym p.entry) (casts_recast c a s t e found there below p.modes l r));
      }

  free_is : HasTables c.program z.code → (e : Expression) → IsAt c e → is_pointer (kind_of c e) ≡ true → Takes z f typing c e (Use.Free None) (type_by (entry_of c e)) (target_of c e) → FreeTyped z f typing c e
  free_is tables e at pointer takes =
      let there = first_of (IsExpression c.program) e at.inside in
      let p = pointed e there pointer in
      let structs = structs_in c.program.typed.program.items in
      record {
        before = type_by (entry_of c e);
        take = record { type = (pointer_is constraints held scopes z f c a e at pointer).2; takes = takes };
        laid = subst (λ x. IsLayout x z.code (layout_of structs (element_kind (kind_of c e))) (type_by (entry_of c e)).target) (sym targets)
            (subst (λ (b : StaticType). IsLayout (targets_of c.program) z.code (layout_of structs (element_kind (kind_of c e))) b.target) (sym p.entry)
            (subst (λ n. IsLayout (targets_of c.program) z.code n (pointee c.program (kind_of c e) p.row)) (sym p.fits.layout) (layouts_are c.program a.resolved.typed z.code tables (row_shape c.program (base_of (kind_of c e)) p.row) p.fits.shape)));
      }

pub taking_laws : MeetsConstraints → OneType → HeldLaws → ScopeLaws → ExpressionsFound → PointeesFit → LayoutsAre → CastsRecast → TakingLaws
taking_laws constraints one_type held scopes found pointees layouts recasts = record {
  variables = variables_are_taken held scopes;
  casts = λ z f c a targets s t e at stands takes. cast_is constraints one_type held scopes found pointees layouts recasts z f c a targets s t e at stands takes;
  frees = λ z f c a targets tables e at pointer takes. free_is constraints one_type held scopes found pointees layouts recasts z f c a targets tables e at pointer takes;
}
