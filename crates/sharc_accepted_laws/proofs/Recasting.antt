-- What the cells of an object are and refer to does not change by a cast.
use Rattle.sharc_accepted_laws.proofs.{Imports.{◌≡◌, ℕ, zero, suc, ◌+◌, true, List, [], ◌∷◌, ◌++◌, length, map, drop, refl, ap, sym, ◌∙◌, subst, arith, append_assoc, length-append, option_map, Option, Some, None, Contains, get_or as slice_index_or, AllByRecursion, Base, Span, WrittenType, in_function, Expression, Kind, object, declared_kind, Resolution, functions_in, kind_at, HasType, a_cast, MeetsConstraints, OneType, pointed, Assignment, base_of, RowLaws, Targets, deeper, cast_row, row_at, modes_of, modes_at, Sharing, locked, same_all, IsExpression, RulesAreMet, Context, TypeLock, FieldLock, OfType, OfGlobals, OfElement, Content, StaticType, no_field, field_at, InRegister as Through, Label, Itself, SameLock, AllSame, no_lock, IsSameFieldLock, IsSameContent, Recasts, CastsRecast, IsAccepted, lock_at, locks_at, static_of, NumbersFound, ExpressionsFound, Shape, stars_in, form_of, shape_of, row_shape, shapes, number, type_locks, lock_count, own_mode, base_fields, shape_fields, shape_row, targets_of, same_some, none_some, of_each, IsPlainLock, HasPlainLocks, Pointer}, Points.nth, Same.{forms_of_same, locks_of_same}, Pointees.{bases_alike, alike_many, alike_at}}
use Rattle.sharc_tree.specs.Tree as tree

-- ---- locks
same_itself : (l : Label) (r : ℕ) (x : TypeLock) → SameLock l r x x
same_itself l r (Through q j) = (refl, Itself refl)
same_itself l r _ = refl

-- the lock of an element itself
abbrev first_lock : Context → Sharing → List TypeLock
first_lock c (locked l) = lock_at c l ∷ []
first_lock c _ = []

locks_first : (c : Context) (q : Sharing) (rest : List Sharing) → locks_at c (q ∷ rest) ≡ first_lock c q ++ locks_at c rest
locks_first c (locked l) rest = refl
locks_first c _ rest = refl

count_first : (c : Context) (q : Sharing) → lock_count (form_of q) ≡ length (first_lock c q)
count_first c (locked l) = refl
count_first c _ = refl

module _ (c : Context) (l : Label) (r : ℕ) (s t : StaticType) where
  abbrev Same : FieldLock → FieldLock → Type 0
  Same = IsSameFieldLock l r s t

  -- the locks of what both refer to
  types_same : (modes : List Sharing) (pre other : List TypeLock) (j k : ℕ) → s.locks ≡ pre ++ locks_at c modes → t.locks ≡ other ++ locks_at c modes → j ≡ length pre → k ≡ length other
      → AllSame Same (type_locks j (map form_of modes)) (type_locks k (map form_of modes))
  types_same [] pre other j k p q m n = tt
  types_same (locked lock ∷ rest) pre other j k p q m n =
      let x = lock_at c lock in
      let more = locks_at c rest in
      let here : slice_index_or s.locks j no_lock ≡ x = ap (λ ls. slice_index_or ls j no_lock) p ∙ ap (λ i. slice_index_or (pre ++ x ∷ more) i no_lock) m ∙ nth pre more x no_lock in
      let there : slice_index_or t.locks k no_lock ≡ x = ap (λ ls. slice_index_or ls k no_lock) q ∙ ap (λ i. slice_index_or (other ++ x ∷ more) i no_lock) n ∙ nth other more x no_lock in
      let size_s : length s.locks ≡ length pre + length (x ∷ more) = ap length p ∙ length-append pre (x ∷ more) in
      let size_t : length t.locks ≡ length other + length (x ∷ more) = ap length q ∙ length-append other (x ∷ more) in
      let next_m : j + 1 ≡ length (pre ++ x ∷ []) = omega (arith, m, length-append pre (x ∷ [])) in
      let next_n : k + 1 ≡ length (other ++ x ∷ []) = omega (arith, n, length-append other (x ∷ [])) in (
        (omega (arith, size_s, m), omega (arith, size_t, n), subst (λ z. SameLock l r z (slice_index_or t.locks k no_lock)) (sym here) (subst (SameLock l r x) (sym there) (same_itself l r x))),
        types_same rest (pre ++ x ∷ []) (other ++ x ∷ []) (j + 1) (k + 1) (p ∙ sym (append_assoc pre (x ∷ []) more)) (q ∙ sym (append_assoc other (x ∷ []) more)) next_m next_n,
      )
  types_same (_ ∷ rest) pre other j k p q m n = types_same rest pre other j k p q m n

  -- ---- contents without a lock of a type
  locks_same : (locks : List FieldLock) → AllByRecursion IsPlainLock locks → AllSame Same locks locks
  locks_same [] plain = tt
  locks_same (OfType k ∷ rest) plain = absurd plain.0
  locks_same (OfGlobals j ∷ rest) plain = (refl, locks_same rest plain.1)
  locks_same (OfElement field mutex ∷ rest) plain = ((refl, refl), locks_same rest plain.1)

  abbrev SameHolds : Content → Content → Type 0
  SameHolds a b = IsSameContent l r s t a b

  content_same : (x : Content) → HasPlainLocks x → SameHolds x x
  content_same (Pointer to) plain = (refl, locks_same to.locks plain)
  content_same _ plain = refl

  -- ---- elements
  fields_same : (m : Assignment) (b : Base) (q p : Sharing) (rest : List Sharing) → s.locks ≡ locks_at c (q ∷ rest) → t.locks ≡ locks_at c (p ∷ rest) → (i : ℕ)
      → SameHolds (slice_index_or (shape_fields m b (map form_of (q ∷ rest))) i no_field).holds (slice_index_or (shape_fields m b (map form_of (p ∷ rest))) i no_field).holds
  fields_same m b q p [] x y i =
      alike_at SameHolds content_same (base_fields m (own_mode (form_of q)) b) (base_fields m (own_mode (form_of p)) b) (bases_alike m (own_mode (form_of q)) (own_mode (form_of p)) b) i
  fields_same m b q p (z ∷ rest) x y zero =
      (refl, types_same (z ∷ rest) (first_lock c q) (first_lock c p) (lock_count (form_of q)) (lock_count (form_of p)) (x ∙ locks_first c q (z ∷ rest)) (y ∙ locks_first c p (z ∷ rest)) (count_first c q) (count_first c p))
  fields_same m b q p (z ∷ rest) x y (suc i) = refl

-- ---- as many cells
fields_many : (m : Assignment) (b : Base) (q p : Sharing) (rest : List Sharing) → length (shape_fields m b (map form_of (q ∷ rest))) ≡ length (shape_fields m b (map form_of (p ∷ rest)))
fields_many m b q p [] =
    alike_many (base_fields m (own_mode (form_of q)) b) (base_fields m (own_mode (form_of p)) b) (bases_alike m (own_mode (form_of q)) (own_mode (form_of p)) b)
fields_many m b q p (z ∷ rest) = refl

-- ---- types that differ in their first mode alone
module _ (numbers_found : NumbersFound) (c : Context) (b : Base) (q p : Sharing) (rest : List Sharing) where
  abbrev m : Assignment
  m = c.program

  abbrev from_shape : Shape
  from_shape = shape_of b (q ∷ rest)

  abbrev to_shape : Shape
  to_shape = shape_of b (p ∷ rest)

  abbrev from_type : StaticType
  from_type = record { target = number m from_shape; locks = locks_at c (q ∷ rest) }

  abbrev to_type : StaticType
  to_type = record { target = number m to_shape; locks = locks_at c (p ∷ rest) }

  recasts : Contains (shapes m) from_shape → Contains (shapes m) to_shape → (l : Label) (r : ℕ) → Recasts (targets_of m) l r from_type to_type
  recasts from to l r =
      let a = numbers_found m from_shape from in
      let z = numbers_found m to_shape to in
      record {
        some = z.some;
        is_row = z.inside;
        cells = ap (λ (row : _). length row.fields) a.row ∙ fields_many m b q p rest ∙ sym (ap (λ (row : _). length row.fields) z.row);
        same = λ field low.
            subst (λ row. IsSameContent l r from_type to_type (slice_index_or row.fields field no_field).holds (field_at (targets_of m) (number m to_shape) field).holds) (sym a.row)
            (subst (λ row. IsSameContent l r from_type to_type (slice_index_or (shape_row m from_shape).fields field no_field).holds (slice_index_or row.fields field no_field).holds) (sym z.row)
            (fields_same c l r from_type to_type m b q p rest refl refl field));
      }

-- ---- casts
module _ (rows : RowLaws) (numbers_found : NumbersFound) (expressions_found : ExpressionsFound) (one_type : OneType) (rules : RulesAreMet) (constraints : MeetsConstraints) (c : Context) (accepted : IsAccepted c.program)
    (s : Span) (t : WrittenType) (a : Expression) (there : IsExpression c.program (tree.cast s t a)) (inner : IsExpression c.program a) where
  abbrev m2 : Assignment
  m2 = c.program

  abbrev r2 : Resolution
  r2 = c.program.typed

  -- the type of what is cast
  record Operand : Type 0 where
    of_base : Base
    stars : ℕ
    is : declared_kind t ≡ object of_base (stars + 1)
    same : kind_at r2 a ≡ declared_kind t

  typed_at : (e : Expression) → IsExpression m2 e → HasType r2 e (kind_at r2 e)
  typed_at e x =
      of_each (λ e. HasType r2 e (kind_at r2 e)) (in_function x.owner) e
      (of_each (λ f. AllByRecursion (λ e. HasType r2 e (kind_at r2 e)) (in_function f)) (functions_in r2.program.items) x.owner (constraints r2 accepted.resolved accepted.placed accepted.low) x.stands) x.inside

  operand_by : (k : Kind) → HasType r2 (tree.cast s t a) k → Operand
  operand_by _ (a_cast lvalue has pointer) = record { of_base = pointer.0; stars = pointer.1; is = pointer.2; same = one_type r2 accepted.resolved accepted.placed accepted.low a (declared_kind t) has }

  operand : Operand
  operand = operand_by (kind_at r2 (tree.cast s t a)) (typed_at (tree.cast s t a) there)

  -- its row has a target
  first_target : (e : Expression) → IsExpression m2 e → kind_at r2 e ≡ declared_kind t → (row : Targets) → row_at r2 e ≡ Some row
      → (modes_of m2 row ≡ pointed m2 (Some row) ∷ modes_of m2 (deeper row)) × Contains (shapes m2) (row_shape m2 operand.of_base row)
  first_target e x kind row is =
      let f = expressions_found m2 accepted.resolved accepted.placed accepted.low accepted.least.modes e x row is in
      let k : kind_at r2 e ≡ object operand.of_base (operand.stars + 1) = kind ∙ operand.is in
      let count : row.count ≡ operand.stars + 1 = f.count ∙ ap stars_in k in (
        rows.begins m2 row (omega (arith, count)) f.ends,
        subst (λ z. Contains (shapes m2) (row_shape m2 (base_of z) row)) k (f.there (omega (arith, count))),
      )

  -- a type by its base and its modes
  same_static : (k : Kind) (modes : List Sharing) (b : Base) (q : Sharing) (rest : List Sharing) → base_of k ≡ b → modes ≡ q ∷ rest → static_of c k modes ≡ record { target = number m2 (shape_of b (q ∷ rest)); locks = locks_at c (q ∷ rest) }
  same_static k modes b q rest one is = ap (static_of c k) is ∙ ap (λ z. record { target = number m2 (shape_of z (q ∷ rest)); locks = locks_at c (q ∷ rest) }) one

  same_below : (b : Base) (p : Sharing) (other rest : List Sharing) → map form_of other ≡ map form_of rest → locks_at c other ≡ locks_at c rest
      → static_of c (object b 1) (p ∷ other) ≡ static_of c (object b 1) (p ∷ rest)
  same_below b p other rest forms locks =
      ap (λ fs. record { target = number m2 (record { base = b; forms = form_of p ∷ fs }); locks = locks_at c (p ∷ other) }) forms
      ∙ ap (λ ls. record { target = number m2 (shape_of b (p ∷ rest)); locks = ls }) (locks_first c p other ∙ ap (λ ls. first_lock c p ++ ls) locks ∙ sym (locks_first c p rest))

  cast_recasts : (found : List Sharing) → modes_at m2 a ≡ Some found → (l : Label) (r : ℕ) → Recasts (targets_of m2) l r (static_of c (kind_at r2 a) found) (static_of c (declared_kind t) (modes_of m2 (cast_row r2 s)))
  cast_recasts found is l r = by (row_at r2 a) refl is
    where
      by : (o : Option Targets) → row_at r2 a ≡ o → option_map (modes_of m2) o ≡ Some found → Recasts (targets_of m2) l r (static_of c (kind_at r2 a) found) (static_of c (declared_kind t) (modes_of m2 (cast_row r2 s)))
      by None row h = absurd (none_some found h)
      by (Some row) at h =
          let from = first_target a inner operand.same row at in
          let to = first_target (tree.cast s t a) there refl (cast_row r2 s) refl in
          let q = pointed m2 (Some row) in
          let p = pointed m2 (Some (cast_row r2 s)) in
          let rest = modes_of m2 (deeper row) in
          let other = modes_of m2 (deeper (cast_row r2 s)) in
          let found_is : found ≡ q ∷ rest = sym (same_some (modes_of m2 row) found h) ∙ from.0 in
          let agree : same_all r2 other rest ≡ true =
          subst (λ z. same_all r2 other (drop 1 z) ≡ true) found_is (subst (λ z. same_all r2 (drop 1 z) (drop 1 found) ≡ true) to.0 (((rules m2).0 accepted.well).m8 s t a found there is)) in
          let forms = forms_of_same c other rest agree in
          let locks = locks_of_same c other rest agree in
          let b = operand.of_base in
          let base_a : base_of (kind_at r2 a) ≡ b = ap base_of (operand.same ∙ operand.is) in
          let base_t : base_of (declared_kind t) ≡ b = ap base_of operand.is in
          let from_there : Contains (shapes m2) (shape_of b (q ∷ rest)) = subst (λ z. Contains (shapes m2) (shape_of b z)) from.0 from.1 in
          let to_there : Contains (shapes m2) (shape_of b (p ∷ rest)) =
          subst (λ fs. Contains (shapes m2) (record { base = b; forms = form_of p ∷ fs })) forms (subst (λ z. Contains (shapes m2) (shape_of b z)) to.0 to.1) in
          let from_is : static_of c (kind_at r2 a) found ≡ from_type numbers_found c b q p rest = same_static (kind_at r2 a) found b q rest base_a found_is in
          let to_is : static_of c (declared_kind t) (modes_of m2 (cast_row r2 s)) ≡ to_type numbers_found c b q p rest =
          ◌∙◌ {b = static_of c (object b 1) (p ∷ other)} (same_static (declared_kind t) (modes_of m2 (cast_row r2 s)) b p other base_t to.0) (same_below b p other rest forms locks) in
          subst (λ z. Recasts (targets_of m2) l r z (static_of c (declared_kind t) (modes_of m2 (cast_row r2 s)))) (sym from_is)
          (subst (Recasts (targets_of m2) l r (from_type numbers_found c b q p rest)) (sym to_is) (recasts numbers_found c b q p rest from_there to_there l r))

pub casts_recast : RowLaws → NumbersFound → ExpressionsFound → OneType → RulesAreMet → MeetsConstraints → CastsRecast
casts_recast rows numbers_found expressions_found one_type rules constraints c accepted s t a found there inner is l r = cast_recasts rows numbers_found expressions_found one_type rules constraints c accepted s t a there inner found is l r
