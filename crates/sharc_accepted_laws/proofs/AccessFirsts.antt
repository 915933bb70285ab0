-- What pointers to mutexes and to condition variables refer to, by the rows of their types.
use Rattle.sharc_accepted_laws.proofs.{Imports.{◌≡◌, ◌<◌, [], ◌∷◌, refl, ap, sym, ◌∙◌, subst, arith, option_map, Option, Some, None, Contains, codes, Base, Expression, object, kind_at, base_of, Targets, row_at, modes_of, IsExpression, Context, StaticType, Content, cells_of, field_at, Refers, Setting, FirstCell, IsAccepted, static_of, entry_by, entry_of, FirstFits, FirstLaws, ExpressionsFound, Form, dynamic_form, Shape, form_of, shape_of, row_shape, stars_in, known_condition, known_mutex, shapes, number, targets_of, type_of_mutex, type_of_condition, FirstsFit}, Paths.one_sharing}
use Rattle.sharc_invariant.specs.Types.Content.{MutexWord, Waiters}

module _ (expressions_found : ExpressionsFound) (firsts : FirstLaws) (z : Setting) (c : Context) (targets : z.targets ≡ targets_of c.program) (a : IsAccepted c.program) where
  first_cell : (s : StaticType) (shape : Shape) (content : Content) → s.target ≡ number c.program shape → FirstFits c.program shape content → FirstCell z s content
  first_cell s shape content is fits = record {
    some = subst (λ x. 0 < cells_of x s.target) (sym targets) (subst (λ k. 0 < cells_of (targets_of c.program) k) (sym is) fits.some);
    holds = ap (λ x. (field_at x s.target 0).holds) targets ∙ ap (λ k. (field_at (targets_of c.program) k 0).holds) is ∙ fits.holds;
  }

  -- a pointer with one star
  record IsOneTarget (b : Base) (s : StaticType) : Type 0 where
    form : Form
    has : Contains (shapes c.program) (record { base = b; forms = form ∷ [] })
    is : s.target ≡ number c.program (record { base = b; forms = form ∷ [] })

  one_target : (b : Base) (e : Expression) → IsExpression c.program e → kind_at c.program.typed e ≡ object b 1 → (s : StaticType) → entry_of c e ≡ Refers s → IsOneTarget b s
  one_target b e there kind s = by (row_at c.program.typed e) refl
    where
      by : (o : Option Targets) → row_at c.program.typed e ≡ o → entry_by c (kind_at c.program.typed e) (option_map (modes_of c.program) o) ≡ Refers s → IsOneTarget b s
      by None none h = absurd (cc)
      by (Some row) is h =
          let found = expressions_found c.program a.resolved a.placed a.low a.least.modes e there row is in
          let count : row.count ≡ 1 = found.count ∙ ap stars_in kind in
          let one = one_sharing c.program row count found.ends in
          let shape : row_shape c.program (base_of (kind_at c.program.typed e)) row ≡ record { base = b; forms = form_of one.0 ∷ [] } = ap (λ k. row_shape c.program (base_of k) row) kind ∙ ap (shape_of b) one.1 in
          let same : static_of c (kind_at c.program.typed e) (modes_of c.program row) ≡ s = cc in
          record {
            form = form_of one.0;
            has = subst (Contains (shapes c.program)) shape (found.there (omega (arith, count)));
            is = ap (λ (t : StaticType). t.target) (sym same) ∙ ap (number c.program) shape;
          }

pub firsts_fit : ExpressionsFound → FirstLaws → FirstsFit
firsts_fit expressions_found firsts z c targets a = record {
  mutex = λ e there kind s entry.
      let one = one_target expressions_found firsts z c targets a Base.Mutex e there kind s entry in
      first_cell expressions_found firsts z c targets a s (record { base = Base.Mutex; forms = one.form ∷ [] }) MutexWord one.is (firsts.mutexes c.program one.form one.has);
  condition = λ knows e there kind s entry.
      let one = one_target expressions_found firsts z c targets a (Base.Struct (codes "cond")) e there kind s entry in
      first_cell expressions_found firsts z c targets a s (record { base = Base.Struct (codes "cond"); forms = one.form ∷ [] }) Waiters one.is (firsts.waiters c.program one.form knows one.has);
  no_mutex = first_cell expressions_found firsts z c targets a (type_of_mutex c.program) known_mutex MutexWord refl (firsts.mutexes c.program dynamic_form (firsts.mutex c.program));
  no_condition = λ knows. first_cell expressions_found firsts z c targets a (type_of_condition c.program) known_condition Waiters refl (firsts.waiters c.program dynamic_form knows (firsts.condition c.program));
}
