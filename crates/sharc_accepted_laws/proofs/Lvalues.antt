-- Each lvalue that is no struct names a variable, or a cell that the table has with its content and its mode.
use Rattle.sharc_accepted_laws.proofs.{Imports.{◌≡◌, inl, inr, ℕ, zero, suc, ◌+◌, ◌-◌, ◌<◌, ◌≤◌, true, false, cond, ◌&&◌, eq-eqb, List, [], ◌∷◌, ◌++◌, length, map, take, drop, get_or as slice_index_or, refl, ap, sym, ◌∙◌, subst, arith, Option, Some, None, Contains, true≢false, lt-ltb, ne_eqb, option_map, Base, Mode, Path, Declaration, Identifier, Dot, Arrow, Number, Null, Dereference, GlobalDefinition, GlobalForm, StructDefinition, expressions, Expression, NumberType, Named, Kind, object, array, is_array, is_null, is_pointer, is_struct_base, is_struct_behind, declared_kind, global_kind, field_of, constant_kind, number_kind, Resolution, named_at, named_kind, declaration_at, global_at, kind_at, structs_in, HasType, Common, both_shorter, struct_named, IsMemberOf, Callee, of_program, of_conditions, is_mutex_kind, top_of, field_cell, first_of, pointed, named_cell, global_cell, declared_cell, field_named, cell_at, Assignment, base_of, PathReading, written, Targets, constant_row, deeper, declared_row, global_row, named_row, reading_through, base_use, behind, row_at, read, modes_of, modes_at, Lock, Sharing, locked, lock_of, sharing_of, IsExpression, field_place, field_place_named, Target, in_object, in_object_at, in_global, in_global_at, named_target, own_field, target, global_of, FieldMode, FieldLock, Field, Content, Pointer, TableTarget, no_field, row_of, IsRowOf, IsMemberAt, pointer_of, below_locks, locks_below, named_locks, cell_locks, IsOfObject, IsOfGlobal, LocksFit, are_written, of_type, ContentFits, ModeFits, FieldFits, IsBehindPointer, IsInFile, NamesCell, no_cell, of_object, of_global, Shape, form_of, shape_of, row_shape, expression_shape, shapes, number, own_mode, lock_count, type_locks, field_locks, is_private_mode, base_content, pointer_content, declared_content, single, member, base_fields, shape_fields, top_mode, global_element, targets_of, map_length, head_there, tail_there, left_there}, TargetForms.row_length, Moding.{PathNames, own_fits, global_fits, private_both, global_both, field_fits}, Numbers.numbers_found, TargetWalk.function_closed, Beginning.is_some_base as same_base}
use Rattle.sharc_tree.specs.Tree as tree
use Rattle.sharc_names.specs.Kinds as kinds
use Rattle.sharc_ctype_laws.specs.Constraints as typing
use Rattle.sharc_mode.specs.Sharings as sharings
use Rattle.sharc_flat.specs.Places.{variable}

-- ---- parts of expressions
self_there : (a : Expression) → Contains (expressions a) a
self_there (tree.parentheses s a) = head_there (tree.parentheses s a) (expressions a)
self_there k = head_there k (drop 1 (expressions k))

part : (m : Assignment) (e a : Expression) → Contains (expressions e) a → IsExpression m e → IsExpression m a
part m e a has x = record { owner = x.owner; stands = x.stands; inside = function_closed x.owner e a x.inside has }

-- ---- rows
-- what a pointer refers to in turn has the modes below its first target's
tail_of : {B : Type 0} (f : Mode → B) (count first : ℕ) (modes : List Mode) → first + suc count ≤ length modes → (x : B) × (map f (take (suc count) (drop first modes)) ≡ x ∷ map f (take count (drop (first + 1) modes)))
tail_of f count zero (x ∷ rest) low = (f x, refl)
tail_of f count (suc n) (x ∷ rest) low = let w = tail_of f count n rest (omega (arith, low)) in let e : suc (n + 1) ≡ suc n + 1 = omega arith in (w.0, w.1 ∙ ap (λ k. w.0 ∷ map f (take count (drop k (x ∷ rest)))) e)
tail_of f count _ [] low = absurd (omega (arith, low))

-- a row with some targets begins with one
record IsRow (m : Assignment) (row : Targets) : Type 0 where
  first : Sharing
  below : List Sharing
  modes : modes_of m row ≡ first ∷ below
  deep : modes_of m (deeper row) ≡ below

row_by : (m : Assignment) (first count n : ℕ) (how : PathReading) → count ≡ suc n → first + count ≤ length m.modes → IsRow m (record { first = first; count = count; reading = how })
row_by m first count n how many ends =
    let f : Mode → Sharing = λ x. read m.typed how (sharing_of x) in
    let w = tail_of f n first m.modes (omega (arith, many, ends)) in
    let less : count - 1 ≡ n = omega (arith, many) in
    record {
      first = w.0;
      below = map f (take n (drop (first + 1) m.modes));
      modes = ap (λ k. map f (take k (drop first m.modes))) many ∙ w.1;
      deep = ap (λ b. modes_of m (cond b (record { first = first; count = count; reading = how }) (record { first = first + 1; count = count - 1; reading = how }))) (ne_eqb count 0 (λ none. omega (arith, none, many)))
          ∙ ap (λ k. map f (take k (drop (first + 1) m.modes))) less;
    }

row_is : (m : Assignment) (k : Kind) (row : Targets) → IsRowOf m k row → 0 < row.count → IsRow m row
row_is m k row w some = let ends = w.ends in row_by m row.first row.count (row.count - 1) row.reading (omega (arith, some)) ends

plain_kind : (b : Base) (n : ℕ) → is_struct_behind 0 (object b n) ≡ false → n ≡ 0 → is_struct_base b ≡ false
plain_kind b n other none = sym (ap (λ z. z && is_struct_base b) (eq-eqb n 0 none)) ∙ other

same_stars : (b c : Base) (n k : ℕ) → object b n ≡ object c k → n ≡ k
same_stars b c n k h = cc

-- an element that is no struct and no pointer is one cell
single_fields : (m : Assignment) (q : FieldMode) (b : Base) → is_struct_base b ≡ false → base_fields m q b ≡ single q b ∷ []
single_fields m q (Base.Struct name) other = absurd (true≢false other)
single_fields m q _ other = refl

single_holds : (q : FieldMode) (b : Base) → (single q b).holds ≡ base_content b
single_holds q (Base.Struct name) = refl
single_holds q _ = refl

single_mode : (q : FieldMode) (b : Base) → is_struct_base b ≡ false → (b ≡ Base.Mutex → ⊥) → (single q b).mode ≡ q
single_mode q Base.Mutex plain other = absurd (other refl)
single_mode q (Base.Struct name) plain other = absurd (true≢false plain)
single_mode q _ plain other = refl

mutex_not : (b : Base) → is_mutex_kind (object b 0) ≡ false → b ≡ Base.Mutex → ⊥
mutex_not b other is = true≢false (sym (ap (λ x. is_mutex_kind (object x 0)) is) ∙ other)

-- what the proof stands on
pub record AreReady (m : Assignment) : Type 0 where
  pub types : (e : Expression) → IsExpression m e → HasType m.typed e (kind_at m.typed e)
  pub one : (e : Expression) (k : Kind) → HasType m.typed e k → kind_at m.typed e ≡ k
  pub rows : (e : Expression) → IsExpression m e → (row : Targets) → row_at m.typed e ≡ Some row → IsRowOf m (kind_at m.typed e) row
  pub members : (name : List ℕ) (s : StructDefinition) → struct_named (structs_in m.typed.program.items) name ≡ Some s → (d : Declaration) → Contains s.fields d → (q : FieldMode) → IsMemberAt m name d q
  pub struct_found : (name : List ℕ) (s : StructDefinition) → struct_named (structs_in m.typed.program.items) name ≡ Some s → Contains (structs_in m.typed.program.items) s
  pub member_found : (fields : List Declaration) (name : List ℕ) (d : Declaration) → field_of fields name ≡ Some d → Contains fields d
  pub field_itself : (s : StructDefinition) (d : Declaration) → Contains (structs_in m.typed.program.items) s → Contains s.fields d → declaration_at m.typed d.name.site.token ≡ Some d
  pub field_path : (s : StructDefinition) (d : Declaration) → Contains (structs_in m.typed.program.items) s → Contains s.fields d → (path : Path) → top_of d.written.ctype.levels ≡ Some (Mode.Locked path) → PathNames m.typed (lock_of path)
  pub field_plain : (s : StructDefinition) (d : Declaration) → Contains (structs_in m.typed.program.items) s → Contains s.fields d → is_struct_behind 0 (declared_kind d.written) ≡ false
  pub field_forms : (how : PathReading) (token : ℕ) → map form_of (modes_of m (declared_row m.typed how token)) ≡ map form_of (modes_of m (declared_row m.typed written token))
  pub global_path : (g : ℕ) (d : GlobalDefinition) → global_at m.typed g ≡ Some d → (l : Lock) → global_cell m (Some d) ≡ locked l → (k : ℕ) × (named_at m.typed l.first ≡ Named.Global k) × (named_kind m.typed (Named.Global k) ≡ kinds.mutex)

module _ (m : Assignment) (ready : AreReady m) where
  abbrev r : Resolution
  r = m.typed

  some_row : (e : Expression) (k : Kind) → HasType r e k → is_null k ≡ false → (row : Targets) × (row_at r e ≡ Some row)
  some_row _ _ (typing.a_constant {s} {c}) other = by c other
    where
      by : (c : _) → is_null (constant_kind c) ≡ false → (row : Targets) × (constant_row c ≡ Some row)
      by Null other = absurd (true≢false other)
      by _ other = (_, refl)
  some_row _ _ (typing.in_parentheses {s} {a} {k} h) other = some_row a k h other
  some_row _ _ (typing.element_of_pointer {s} {a} {i} {b} {n} ha hi integer) other =
      let w = some_row a (object b (n + 1)) ha refl in
      (deeper w.0, ap (λ z. cond z (row_at r a) (behind (row_at r a))) (ap is_array (ready.one a (object b (n + 1)) ha)) ∙ ap behind w.1)
  some_row _ _ (typing.element_of_array {s} {a} {i} {b} {n} ha hi integer) other =
      let w = some_row a (array b n) ha refl in
      (w.0, ap (λ z. cond z (row_at r a) (behind (row_at r a))) (ap is_array (ready.one a (array b n) ha)) ∙ w.1)
  some_row _ _ (typing.pointed_to {s} {a} {b} {n} h) other = let w = some_row a (object b (n + 1)) h refl in (deeper w.0, ap behind w.1)
  some_row _ _ _ other = (_, refl)

  -- ---- what a pointer refers to
  record IsPointee (p : Expression) (b : Base) (n : ℕ) : Type 0 where
    row : Targets
    row_found : row_at r p ≡ Some row
    some : 0 < row.count
    first : Sharing
    below : List Sharing
    modes : modes_of m row ≡ first ∷ below
    deep : modes_of m (deeper row) ≡ below
    points : pointed m (Some row) ≡ first
    many : length below ≡ n
    fields : (row_of (targets_of m) (number m (expression_shape m p row))).fields ≡ shape_fields m b (form_of first ∷ map form_of below)

  pointee : (p : Expression) (b : Base) (n : ℕ) → HasType r p (object b (n + 1)) → IsExpression m p → IsPointee p b n
  pointee p b n h stands =
      let found = some_row p (object b (n + 1)) h refl in
      by found.0 found.1 (subst (λ k. IsRowOf m k found.0) (ready.one p (object b (n + 1)) h) (ready.rows p stands found.0 found.1))
    where
      by : (row : Targets) → row_at r p ≡ Some row → IsRowOf m (object b (n + 1)) row → IsPointee p b n
      by row at w =
          let positive : 0 < row.count = omega (arith, w.count) in
          let x = row_is m (object b (n + 1)) row w positive in
          let size = ap length x.modes in
          let forms = map_length form_of (modes_of m row) in
          let whole = row_length m row w.ends in
          let shape_is : expression_shape m p row ≡ record { base = b; forms = form_of x.first ∷ map form_of x.below } =
          ap (λ k. row_shape m (base_of k) row) (ready.one p (object b (n + 1)) h) ∙ ap (λ modes. shape_of b modes) x.modes in
          record {
            row = row;
            row_found = at;
            some = positive;
            first = x.first;
            below = x.below;
            modes = x.modes;
            deep = x.deep;
            points = ap first_of x.modes;
            many = omega (arith, size, forms, whole, w.count);
            fields = ap (λ (t : TableTarget). t.fields) (numbers_found m (expression_shape m p row) (subst (λ k. Contains (shapes m) (row_shape m (base_of k) row)) (sym (ready.one p (object b (n + 1)) h)) (w.there positive))).row
                ∙ ap (λ (s : Shape). shape_fields m s.base s.forms) shape_is;
          }

  -- ---- an element that is no struct
  abbrev Fields : Sharing → List Sharing → Base → List Field
  Fields first below b = shape_fields m b (form_of first ∷ map form_of below)

  record IsScalar (e : Expression) (b : Base) (first : Sharing) (below : List Sharing) : Type 0 where
    inside : 0 < length (Fields first below b)
    fits : FieldFits m e 0 (first ∷ below) (slice_index_or (Fields first below b) 0 no_field)

  one_cell : (e : Expression) (b : Base) (n : ℕ) (modes : List Sharing) (q : Sharing) (Q : FieldMode) → kind_at r e ≡ object b n → n ≡ 0 → is_struct_base b ≡ false → cell_at m e ≡ q → ModeFits r 0 modes q Q → FieldFits m e 0 modes (single Q b)
  one_cell e b n modes q Q kind none plain cell fit =
      let flat : kind_at r e ≡ object b zero = kind ∙ ap (object b) none in
      record {
        content = subst (λ k. ContentFits m e 0 modes k (single Q b).holds) (sym flat) (single_holds Q b);
        mode = λ other. subst (λ x. ModeFits r 0 modes x (single Q b).mode) (sym cell) (subst (ModeFits r 0 modes q) (sym (single_mode Q b plain (mutex_not b (sym (ap is_mutex_kind flat) ∙ other)))) fit);
      }

  scalar : (e : Expression) (b : Base) (n : ℕ) (first : Sharing) (below : List Sharing) → kind_at r e ≡ object b n → (n ≡ 0 → is_struct_base b ≡ false) → length below ≡ n → (row : Targets) → row_at r e ≡ Some row → modes_of m row ≡ below → cell_at m e ≡ first
      → cell_locks m e ≡ below_locks (form_of first ∷ map form_of below) → IsScalar e b first below
  scalar e b n first [] kind plain many row at modes cell told =
      let none : n ≡ 0 = sym many in
      let same = single_fields m (own_mode (form_of first)) b (plain none) in
      record {
        inside = subst (λ l. 0 < length l) (sym same) (omega arith);
        fits = subst (λ l. FieldFits m e 0 (first ∷ []) (slice_index_or l 0 no_field)) (sym same) (one_cell e b n (first ∷ []) first (own_mode (form_of first)) kind none (plain none) cell (own_fits r 0 first []));
      }
  scalar e b n first (y ∷ rest) kind plain many row at modes cell told =
      let deep : kind_at r e ≡ object b (suc (length rest)) = kind ∙ ap (object b) (sym many) in
      let shape_same : expression_shape m e row ≡ record { base = b; forms = form_of y ∷ map form_of rest } = ap (λ k. row_shape m (base_of k) row) deep ∙ ap (λ l. shape_of b l) modes in
      record {
        inside = omega arith;
        fits = record {
          content = subst (λ k. ContentFits m e 0 (first ∷ y ∷ rest) k (slice_index_or (Fields first (y ∷ rest) b) 0 no_field).holds) (sym deep)
              (record {
                row = row;
                is = at;
                locks = type_locks (lock_count (form_of first)) (map form_of (y ∷ rest));
                fit = of_type first (y ∷ rest) refl (ap (option_map (modes_of m)) at ∙ ap Some modes);
                told = sym told;
                pointer = ap (λ s. Pointer (record { target = number m s; locks = type_locks (lock_count (form_of first)) (map form_of (y ∷ rest)) })) (sym shape_same);
              });
          mode = λ other. subst (λ x. ModeFits r 0 (first ∷ y ∷ rest) x (own_mode (form_of first))) (sym cell) (own_fits r 0 first (y ∷ rest));
        };
      }

  -- a cell behind a pointer, by the fields of what that points to
  behind_at : (e p : Expression) (b : Base) (k n : ℕ) (list : List Field) → pointer_of r e ≡ Some p → IsExpression m p → (w : IsPointee p b k) → (row_of (targets_of m) (number m (expression_shape m p w.row))).fields ≡ list → n < length list
      → FieldFits m e n (modes_of m w.row) (slice_index_or list n no_field) → IsBehindPointer m e n
  behind_at e p b k n list leads stands w fields inside fits = record {
    pointer = p;
    leads = leads;
    stands = stands;
    row = w.row;
    row_is = w.row_found;
    some = w.some;
    inside = subst (λ l. n < length l) (sym fields) inside;
    fits = subst (λ l. FieldFits m e n (modes_of m w.row) (slice_index_or l n no_field)) (sym fields) fits;
  }

  behind_scalar : (e p : Expression) (b : Base) (n : ℕ) → kind_at r e ≡ object b n → (n ≡ 0 → is_struct_base b ≡ false) → pointer_of r e ≡ Some p → IsExpression m p → (w : IsPointee p b n) → row_at r e ≡ Some (deeper w.row) → cell_at m e ≡ pointed m (Some w.row)
      → cell_locks m e ≡ locks_below (modes_at m p) → IsBehindPointer m e 0
  behind_scalar e p b n kind plain leads stands w at cell told =
      let s = scalar e b n w.first w.below kind plain w.many (deeper w.row) at w.deep (cell ∙ w.points)
      (told ∙ ap (λ o. locks_below (option_map (modes_of m) o)) w.row_found ∙ ap (λ l. below_locks (map form_of l)) w.modes) in
      behind_at e p b n 0 (Fields w.first w.below b) leads stands w w.fields s.inside (subst (λ modes. FieldFits m e 0 modes (slice_index_or (Fields w.first w.below b) 0 no_field)) (sym w.modes) s.fits)

  -- ---- a global that is no struct
  file_scalar : (e : Expression) (g : ℕ) (d : GlobalDefinition) (b : Base) (n : ℕ) → kind_at r e ≡ object b n → (n ≡ 0 → is_struct_base b ≡ false) → declared_kind d.declaration.written ≡ object b n → global_at r g ≡ Some d
      → row_at r e ≡ Some (declared_row r written d.declaration.name.site.token) → cell_at m e ≡ global_cell m (Some d)
      → cell_locks m e ≡ field_locks r 0 (modes_of m (declared_row r written d.declaration.name.site.token)) → IsInFile m e g 0
  file_scalar e g d b n kind plain declared_is at row cell told = by n (same_stars _ _ _ _ declared_is) kind plain
    where
      base_is : d.declaration.written.ctype.base ≡ b
      base_is = same_base _ _ _ _ declared_is

      own_mode_fits : ModeFits r 0 [] (global_cell m (Some d)) (top_mode m d)
      own_mode_fits = global_fits r 0 (global_cell m (Some d)) (ready.global_path g d at)

      whole : (l : List Field) → global_element m d ≡ l → 0 < length l → FieldFits m e 0 [] (slice_index_or l 0 no_field) → IsInFile m e g 0
      whole l same inside fits = record {
        global = d;
        defined = at;
        inside = subst (λ z. 0 < length z) (sym same) inside;
        fits = subst (λ z. FieldFits m e 0 [] (slice_index_or z 0 no_field)) (sym same) fits;
      }

      by : (n : ℕ) → length d.declaration.written.ctype.levels - 1 ≡ n → kind_at r e ≡ object b n → (n ≡ 0 → is_struct_base b ≡ false) → IsInFile m e g 0
      by zero stars kind plain =
          let flat : is_pointer (declared_kind d.declaration.written) ≡ false = ap (λ k. is_pointer (object d.declaration.written.ctype.base k)) stars in
          let base_plain : is_struct_base d.declaration.written.ctype.base ≡ false = ap is_struct_base base_is ∙ plain refl in
          whole (single (top_mode m d) d.declaration.written.ctype.base ∷ [])
          (ap (λ z. cond z (record { mode = top_mode m d; holds = declared_content m 0 d.declaration } ∷ []) (base_fields m (top_mode m d) d.declaration.written.ctype.base)) flat ∙ single_fields m (top_mode m d) d.declaration.written.ctype.base base_plain)
          (omega arith) (one_cell e d.declaration.written.ctype.base 0 [] (global_cell m (Some d)) (top_mode m d) (kind ∙ ap (λ x. object x 0) (sym base_is)) refl base_plain cell own_mode_fits)
      by (suc k) stars kind plain =
          let deep : is_pointer (declared_kind d.declaration.written) ≡ true = ap (λ z. is_pointer (object d.declaration.written.ctype.base z)) stars ∙ lt-ltb 0 (suc k) (omega arith) in
          let modes : List Sharing = modes_of m (declared_row r written d.declaration.name.site.token) in
          let content_is : declared_content m 0 d.declaration ≡ pointer_content m 0 d.declaration.written.ctype.base (modes_of m (declared_row r written d.declaration.name.site.token)) =
          ap (λ z. cond z (pointer_content m 0 d.declaration.written.ctype.base (modes_of m (declared_row r written d.declaration.name.site.token))) (base_content d.declaration.written.ctype.base)) deep in
          let shape_same : expression_shape m e (declared_row r written d.declaration.name.site.token) ≡ shape_of d.declaration.written.ctype.base (modes_of m (declared_row r written d.declaration.name.site.token)) =
          ap (λ k. row_shape m (base_of k) (declared_row r written d.declaration.name.site.token)) kind ∙ ap (λ x. row_shape m x (declared_row r written d.declaration.name.site.token)) (sym base_is) in
          whole (record { mode = top_mode m d; holds = declared_content m 0 d.declaration } ∷ [])
          (ap (λ z. cond z (record { mode = top_mode m d; holds = declared_content m 0 d.declaration } ∷ []) (base_fields m (top_mode m d) d.declaration.written.ctype.base)) deep) (omega arith)
          (record {
            content = subst (λ z. ContentFits m e 0 [] z (declared_content m 0 d.declaration)) (sym kind)
                (record {
                  row = declared_row r written d.declaration.name.site.token;
                  is = row;
                  locks = field_locks r 0 (modes_of m (declared_row r written d.declaration.name.site.token));
                  fit = are_written d.declaration.name.site.token written row;
                  told = sym told;
                  pointer = content_is ∙ ap (λ s. Pointer (record { target = number m s; locks = field_locks r 0 (modes_of m (declared_row r written d.declaration.name.site.token)) })) (sym shape_same);
                });
            mode = λ other. subst (λ x. ModeFits r 0 [] x (top_mode m d)) (sym cell) own_mode_fits;
          })

  -- ---- a field
  member_fits : (e : Expression) (n : ℕ) (modes : List Sharing) (q : Sharing) (Q : FieldMode) (s : StructDefinition) (d : Declaration) (how : PathReading) → Contains (structs_in r.program.items) s → Contains s.fields d
      → kind_at r e ≡ declared_kind d.written → row_at r e ≡ Some (declared_row r how d.name.site.token) → cell_at m e ≡ field_cell r q d.written → ModeFits r n modes q Q → is_private_mode Q ≡ sharings.is_private q
      → cell_locks m e ≡ field_locks r n (modes_of m (declared_row r written d.name.site.token)) → FieldFits m e n modes (member m Q n d)
  member_fits e n modes q Q s d how is_struct is_member kind row cell fit both told = record {
    content = subst (λ k. ContentFits m e n modes k (declared_content m n d)) (sym kind) (by (length d.written.ctype.levels - 1) refl);
    mode = λ other. subst (λ x. ModeFits r n modes x (member m Q n d).mode) (sym cell) (field_fits r n modes q Q fit both d.written (ready.field_path s d is_struct is_member));
  }
    where
      by : (z : ℕ) → length d.written.ctype.levels - 1 ≡ z → ContentFits m e n modes (object d.written.ctype.base z) (declared_content m n d)
      by zero stars =
          ap (λ b. cond b (pointer_content m n d.written.ctype.base (modes_of m (declared_row r written d.name.site.token))) (base_content d.written.ctype.base)) (ap (λ k. is_pointer (object d.written.ctype.base k)) stars)
      by (suc k) stars =
          let deep : is_pointer (declared_kind d.written) ≡ true = ap (λ z. is_pointer (object d.written.ctype.base z)) stars ∙ lt-ltb 0 (suc k) (omega arith) in
          let shape_same : expression_shape m e (declared_row r how d.name.site.token) ≡ shape_of d.written.ctype.base (modes_of m (declared_row r written d.name.site.token)) =
          ap (λ k. row_shape m (base_of k) (declared_row r how d.name.site.token)) kind ∙ ap (λ fs. record { base = d.written.ctype.base; forms = fs }) (ready.field_forms how d.name.site.token) in
          record {
            row = declared_row r how d.name.site.token;
            is = row;
            locks = field_locks r n (modes_of m (declared_row r written d.name.site.token));
            fit = are_written d.name.site.token how row;
            told = sym told;
            pointer = ap (λ b. cond b (pointer_content m n d.written.ctype.base (modes_of m (declared_row r written d.name.site.token))) (base_content d.written.ctype.base)) deep
                ∙ ap (λ x. Pointer (record { target = number m x; locks = field_locks r n (modes_of m (declared_row r written d.name.site.token)) })) (sym shape_same);
          }

  no_targets : (b : Base) (first : Sharing) (below : List Sharing) → length below ≡ 0 → Fields first below b ≡ base_fields m (own_mode (form_of first)) b
  no_targets b first [] none = refl
  no_targets b first (y ∷ rest) none = absurd (omega (arith, none))

  -- behind a pointer
  behind_member : (e p : Expression) (x : List ℕ) (s : StructDefinition) (d : Declaration) (how : PathReading) → pointer_of r e ≡ Some p → IsExpression m p → (w : IsPointee p (Base.Struct x) 0) → struct_named (structs_in r.program.items) x ≡ Some s → Contains s.fields d
      → kind_at r e ≡ declared_kind d.written → row_at r e ≡ Some (declared_row r how d.name.site.token) → cell_at m e ≡ field_cell r (pointed m (Some w.row)) d.written
      → cell_locks m e ≡ field_locks r (field_place r d.name.site.token) (modes_of m (declared_row r written d.name.site.token)) → IsBehindPointer m e (field_place r d.name.site.token)
  behind_member e p x s d how leads stands w struct member_is kind row cell told =
      let at = ready.members x s struct d member_is (own_mode (form_of w.first)) in
      let fields = w.fields ∙ no_targets (Base.Struct x) w.first w.below w.many in
      let n = field_place r d.name.site.token in
      let fits : FieldFits m e n (w.first ∷ w.below) (member m (own_mode (form_of w.first)) n d) =
      member_fits e n (w.first ∷ w.below) w.first (own_mode (form_of w.first)) s d how (ready.struct_found x s struct) member_is kind row (cell ∙ ap (λ q. field_cell r q d.written) w.points) (own_fits r n w.first w.below) (private_both w.first) told in
      behind_at e p (Base.Struct x) 0 n (base_fields m (own_mode (form_of w.first)) (Base.Struct x)) leads stands w fields at.inside
      (subst (λ modes. FieldFits m e n modes (slice_index_or (base_fields m (own_mode (form_of w.first)) (Base.Struct x)) n no_field)) (sym w.modes) (subst (FieldFits m e n (w.first ∷ w.below)) (sym at.at) fits))

  -- of an element of a global
  file_member : (e : Expression) (g : ℕ) (f : GlobalDefinition) (x : List ℕ) (s : StructDefinition) (d : Declaration) (how : PathReading) → global_at r g ≡ Some f → declared_kind f.declaration.written ≡ object (Base.Struct x) 0 → struct_named (structs_in r.program.items) x ≡ Some s
      → Contains s.fields d → kind_at r e ≡ declared_kind d.written → row_at r e ≡ Some (declared_row r how d.name.site.token) → cell_at m e ≡ field_cell r (global_cell m (Some f)) d.written
      → cell_locks m e ≡ field_locks r (field_place r d.name.site.token) (modes_of m (declared_row r written d.name.site.token)) → IsInFile m e g (field_place r d.name.site.token)
  file_member e g f x s d how found declared_is struct member_is kind row cell told =
      let at = ready.members x s struct d member_is (top_mode m f) in
      let n = field_place r d.name.site.token in
      let base_is : f.declaration.written.ctype.base ≡ Base.Struct x = same_base _ _ _ _ declared_is in
      let fields : global_element m f ≡ base_fields m (top_mode m f) (Base.Struct x) =
      ap (λ z. cond z (record { mode = top_mode m f; holds = declared_content m 0 f.declaration } ∷ []) (base_fields m (top_mode m f) f.declaration.written.ctype.base)) (ap is_pointer declared_is) ∙ ap (base_fields m (top_mode m f)) base_is in
      let fits : FieldFits m e n [] (member m (top_mode m f) n d) =
      member_fits e n [] (global_cell m (Some f)) (top_mode m f) s d how (ready.struct_found x s struct) member_is kind row cell (global_fits r n (global_cell m (Some f)) (ready.global_path g f found)) (global_both r (global_cell m (Some f))) told in
      record {
        global = f;
        defined = found;
        inside = subst (λ l. n < length l) (sym fields) at.inside;
        fits = subst (λ l. FieldFits m e n [] (slice_index_or l n no_field)) (sym fields) (subst (FieldFits m e n []) (sym at.at) fits);
      }

  -- ---- targets
  no_object : (x n : ℕ) → IsOfObject (variable x) n → ⊥
  no_object x n (inl h) = cc
  no_object x n (inr h) = cc

  no_global : (x g n : ℕ) → IsOfGlobal (variable x) g n → ⊥
  no_global x g n (inl h) = cc
  no_global x g n (inr h) = cc

  nowhere_at : (e : Expression) (t : Target) (x : ℕ) → t ≡ variable x → NamesCell m e t
  nowhere_at e t x is = no_cell t (λ n h. no_object x n (subst (λ z. IsOfObject z n) is h)) (λ g n h. no_global x g n (subst (λ z. IsOfGlobal z g n) is h))

  -- the same in parentheses
  locks_within : (s : _) (a : Expression) (n : ℕ) (modes : List Sharing) (locks : List FieldLock) → LocksFit m a n modes locks → LocksFit m (tree.parentheses s a) n modes locks
  locks_within s a n modes _ (are_written token how row) = are_written token how row
  locks_within s a n modes _ (of_type q below is row) = of_type q below is row

  content_within : (s : _) (a : Expression) (n : ℕ) (modes : List Sharing) (k : Kind) (c : Content) → ContentFits m a n modes k c → ContentFits m (tree.parentheses s a) n modes k c
  content_within s a n modes (object b (suc stars)) c h = record { row = h.row; is = h.is; locks = h.locks; fit = locks_within s a n modes h.locks h.fit; told = h.told; pointer = h.pointer }
  content_within s a n modes _ c h = h

  field_within : (s : _) (a : Expression) (n : ℕ) (modes : List Sharing) (f : Field) → FieldFits m a n modes f → FieldFits m (tree.parentheses s a) n modes f
  field_within s a n modes f h = record { content = content_within s a n modes (kind_at r a) f.holds h.content; mode = h.mode }

  within_parentheses : (s : _) (a : Expression) (t : Target) → NamesCell m a t → NamesCell m (tree.parentheses s a) t
  within_parentheses s a _ (no_cell t x y) = no_cell t x y
  within_parentheses s a _ (of_object t n is w) =
      of_object t n is (record { pointer = w.pointer; leads = w.leads; stands = w.stands; row = w.row; row_is = w.row_is; some = w.some; inside = w.inside; fits = field_within s a n (modes_of m w.row) _ w.fits })
  within_parentheses s a _ (of_global t g n is w) = of_global t g n is (record { global = w.global; defined = w.defined; inside = w.inside; fits = field_within s a n [] _ w.fits })

  -- ---- global arrays
  pub record IsArrayBase (a : Expression) (b : Base) (n : ℕ) : Type 0 where
    pub number : ℕ
    pub global : GlobalDefinition
    pub at : global_at r number ≡ Some global
    pub place : target r None a ≡ in_global number 0
    pub cell : cell_at m a ≡ global_cell m (Some global)
    pub row : row_at r a ≡ Some (declared_row r written global.declaration.name.site.token)
    pub declared_is : declared_kind global.declaration.written ≡ object b n
    pub told : cell_locks m a ≡ field_locks r 0 (modes_of m (declared_row r written global.declaration.name.site.token))

  no_array_of : (k : Kind) (b : Base) (n : ℕ) → is_array k ≡ false → k ≡ array b n → ⊥
  no_array_of k b n other is = true≢false (sym (ap is_array is) ∙ other)

  constant_plain : (c : _) → is_array (constant_kind c) ≡ false
  constant_plain (Number n) = by n.number_type
    where
      by : (t : _) → is_array (number_kind t) ≡ false
      by NumberType.Int = refl
      by NumberType.Long = refl
  constant_plain _ = refl

  common_plain : (a b t : Kind) → Common a b t → is_array t ≡ false
  common_plain a b _ (both_shorter x y) = refl
  common_plain a b _ _ = refl

  global_names : (i : _) (n : ℕ) (f : Option ℕ) → named_at r i ≡ Named.Global n → named_target (named_at r i) (own_field f 0) ≡ in_global n (own_field f 0)
  global_names i n f is = ap (λ w. named_target w (own_field f 0)) is

  row_of_global : (i n : ℕ) (g : GlobalDefinition) → named_at r i ≡ Named.Global n → global_at r n ≡ Some g → Some (named_row r written (named_at r i)) ≡ Some (declared_row r written g.declaration.name.site.token)
  row_of_global i n g names at = ap (λ w. Some (named_row r written w)) names ∙ ap (λ o. Some (global_row r written o)) at

  cell_of_global : (i n : ℕ) (g : GlobalDefinition) → named_at r i ≡ Named.Global n → global_at r n ≡ Some g → named_cell m (named_at r i) ≡ global_cell m (Some g)
  cell_of_global i n g names at = ap (named_cell m) names ∙ ap (global_cell m) at

  told_global : (i n : ℕ) (g : GlobalDefinition) → named_at r i ≡ Named.Global n → global_at r n ≡ Some g → named_locks m 0 (named_at r i) ≡ field_locks r 0 (modes_of m (declared_row r written g.declaration.name.site.token))
  told_global i n g names at = ap (named_locks m 0) names ∙ ap (λ o. field_locks r 0 (modes_of m (global_row r written o))) at

  pub array_base : (a : Expression) (k : Kind) → HasType r a k → (b : Base) (n : ℕ) → k ≡ array b n → IsArrayBase a b n
  array_base _ _ (typing.a_variable names at text) b n is = absurd (cc)
  array_base _ _ (typing.a_global {s} {i} {n} {g} names at text) b k is =
      record { number = n; global = g; at = at; place = global_names i.site.token n None names; cell = cell_of_global i.site.token n g names at; row = row_of_global i.site.token n g names at; declared_is = by g.form is; told = told_global i.site.token n g names at }
    where
      by : (f : GlobalForm) → global_kind f (declared_kind g.declaration.written) ≡ array b k → declared_kind g.declaration.written ≡ object b k
      by (GlobalForm.Array at count) h = cc
      by _ h = absurd (cc)
  array_base _ _ (typing.a_constant {s} {c}) b n is = absurd (no_array_of (constant_kind c) b n (constant_plain c) is)
  array_base _ _ (typing.in_parentheses {s} {a} {k} h) b n is = let w = array_base a k h b n is in record { number = w.number; global = w.global; at = w.at; place = w.place; cell = w.cell; row = w.row; declared_is = w.declared_is; told = w.told }
  array_base _ _ (typing.a_call callee types) b n is = absurd (callee_plain callee b n is)
    where
      callee_plain : {i : Identifier} {ps : List Kind} {k : Kind} → Callee r i ps k → (b : Base) (n : ℕ) → k ≡ array b n → ⊥
      callee_plain (of_program f names at text other) b n is = cc
      callee_plain (of_conditions c names text) b n is = cc
  array_base _ _ (typing.negated {t} h integer common) b n is = absurd (no_array_of t b n (common_plain _ _ t common) is)
  array_base _ _ (typing.complemented {t} h integer common) b n is = absurd (no_array_of t b n (common_plain _ _ t common) is)
  array_base _ _ (typing.arithmetic {t} class ha hb ia ib common) b n is = absurd (no_array_of t b n (common_plain _ _ t common) is)
  array_base _ _ (typing.shifted {t} class ha hb ia ib common) b n is = absurd (no_array_of t b n (common_plain _ _ t common) is)
  array_base _ _ _ b n is = cc

  -- ---- structs that are lvalues
  data StructPlace (a : Expression) (x : List ℕ) : Type 0 where
    is_behind : (p : Expression) → pointer_of r a ≡ Some p → IsExpression m p → (w : IsPointee p (Base.Struct x) 0) → cell_at m a ≡ pointed m (Some w.row) → ((f : ℕ) → IsOfObject (target r (Some f) a) f) → StructPlace a x
    is_in_file : (g : ℕ) (d : GlobalDefinition) → global_at r g ≡ Some d → declared_kind d.declaration.written ≡ object (Base.Struct x) 0 → cell_at m a ≡ global_cell m (Some d) → ((f : ℕ) → IsOfGlobal (target r (Some f) a) g f) → StructPlace a x
    is_nowhere : ((f : ℕ) → (y : ℕ) × (target r (Some f) a ≡ variable y)) → StructPlace a x

  struct_within : (s : _) (a : Expression) (x : List ℕ) → StructPlace a x → StructPlace (tree.parentheses s a) x
  struct_within s a x (is_behind p leads stands w cell place) = is_behind p leads stands w cell place
  struct_within s a x (is_in_file g d at declared_is cell place) = is_in_file g d at declared_is cell place
  struct_within s a x (is_nowhere none) = is_nowhere none

  no_struct_field : (x name : List ℕ) (d : Declaration) → IsMemberOf r x name d → (y : List ℕ) → declared_kind d.written ≡ object (Base.Struct y) 0 → ⊥
  no_struct_field x name d member y is =
      let there = ready.struct_found x member.0 member.1 in
      let has = ready.member_found member.0.fields name d member.2 in
      true≢false (sym (ap (is_struct_behind 0) is) ∙ ready.field_plain member.0 d there has)

  element_type : (a : Expression) (b : Base) (n : ℕ) (x : List ℕ) → HasType r a (object b (n + 1)) → object b n ≡ object (Base.Struct x) 0 → HasType r a (object (Base.Struct x) (0 + 1))
  element_type a b n x h is = subst (HasType r a) (ap (λ z. object z (n + 1)) (same_base b (Base.Struct x) n 0 is) ∙ ap (λ k. object (Base.Struct x) (k + 1)) (same_stars b (Base.Struct x) n 0 is)) h

  struct_place : (a : Expression) (k : Kind) → HasType r a k → IsExpression m a → (x : List ℕ) → k ≡ object (Base.Struct x) 0 → StructPlace a x
  struct_place _ _ (typing.a_variable {s} {i} {token} {d} names at text) stands x is = is_nowhere (λ f. (token, ap (λ w. named_target w (own_field (Some f) 0)) names))
  struct_place _ _ (typing.a_global {s} {i} {n} {g} names at text) stands x is = is_in_file n g at (by g.form is) (cell_of_global i.site.token n g names at) (λ f. inl (global_names i.site.token n (Some f) names))
    where
      by : (f : GlobalForm) → global_kind f (declared_kind g.declaration.written) ≡ object (Base.Struct x) 0 → declared_kind g.declaration.written ≡ object (Base.Struct x) 0
      by (GlobalForm.Array at count) h = cc
      by _ h = h
  struct_place _ _ (typing.a_function callee) stands x is = cc
  struct_place _ _ (typing.in_parentheses {s} {a} {k} h) stands x is = struct_within s a x (struct_place a k h (part m (tree.parentheses s a) a (tail_there (tree.parentheses s a) a (expressions a) (self_there a)) stands) x is)
  struct_place _ _ (typing.element_of_pointer {s} {a} {i} {b} {n} ha hi integer) stands x is =
      let plain = ap is_array (ready.one a (object b (n + 1)) ha) in
      let inner = part m (tree.index s a i) a (tail_there (tree.index s a i) a (expressions a ++ expressions i) (left_there (expressions a) (expressions i) a (self_there a))) stands in
      let w = pointee a (Base.Struct x) 0 (element_type a b n x ha is) inner in
      is_behind a (ap (λ z. cond z None (Some a)) plain) inner w (ap (λ z. cond z (cell_at m a) (pointed m (row_at r a))) plain ∙ ap (pointed m) w.row_found)
      (λ f. inr (ap (λ z. cond z (in_global_at (global_of (target r None a)) f) (in_object_at f)) plain))
  struct_place _ _ (typing.element_of_array {s} {a} {i} {b} {n} ha hi integer) stands x is =
      let array_is = ap is_array (ready.one a (array b n) ha) in
      let w = array_base a (array b n) ha b n refl in
      is_in_file w.number w.global w.at (w.declared_is ∙ is) (ap (λ z. cond z (cell_at m a) (pointed m (row_at r a))) array_is ∙ w.cell)
      (λ f. inr (ap (λ z. cond z (in_global_at (global_of (target r None a)) f) (in_object_at f)) array_is ∙ ap (λ t. in_global_at (global_of t) f) w.place))
  struct_place _ _ (typing.a_field {s} {a} {name} {d} h member names) stands x is = absurd (no_struct_field _ name.text d member x is)
  struct_place _ _ (typing.a_field_behind {s} {a} {name} {d} h member names) stands x is = absurd (no_struct_field _ name.text d member x is)
  struct_place _ _ (typing.pointed_to {s} {a} {b} {n} h) stands x is =
      let inner = part m (tree.unary s Dereference a) a (tail_there (tree.unary s Dereference a) a (expressions a) (self_there a)) stands in
      let w = pointee a (Base.Struct x) 0 (element_type a b n x h is) inner in
      is_behind a refl inner w (ap (pointed m) w.row_found) (λ f. inl refl)
  struct_place _ _ _ stands x is = is_nowhere (λ f. (0, refl))

  -- ---- each lvalue
  pub names_cell : (e : Expression) (k : Kind) → HasType r e k → IsExpression m e → is_struct_behind 0 k ≡ false → is_array k ≡ false → NamesCell m e (target r None e)
  names_cell _ _ (typing.a_variable {s} {i} {token} {d} names at text) stands plain single_one = nowhere_at (tree.identifier s i) _ token (ap (λ w. named_target w 0) names)
  names_cell _ _ (typing.a_global {s} {i} {n} {g} names at text) stands plain single_one =
      of_global (target r None (tree.identifier s i)) n 0 (inl (global_names i.site.token n None names)) (by g.form refl)
    where
      with_kind : global_kind g.form (declared_kind g.declaration.written) ≡ declared_kind g.declaration.written → IsInFile m (tree.identifier s i) n 0
      with_kind same =
          file_scalar (tree.identifier s i) n g g.declaration.written.ctype.base (length g.declaration.written.ctype.levels - 1) (ready.one (tree.identifier s i) (global_kind g.form (declared_kind g.declaration.written)) (typing.a_global names at text) ∙ same)
          (plain_kind g.declaration.written.ctype.base (length g.declaration.written.ctype.levels - 1) (sym (ap (is_struct_behind 0) same) ∙ plain)) refl at (row_of_global i.site.token n g names at) (cell_of_global i.site.token n g names at) (told_global i.site.token n g names at)

      by : (f : GlobalForm) → g.form ≡ f → IsInFile m (tree.identifier s i) n 0
      by (GlobalForm.Array x count) e = absurd (true≢false (sym (ap (λ z. is_array (global_kind z (declared_kind g.declaration.written))) e) ∙ single_one))
      by _ e = with_kind (ap (λ z. global_kind z (declared_kind g.declaration.written)) e)
  names_cell _ _ (typing.a_function {s} {i} callee) stands plain single_one = nowhere_at (tree.identifier s i) _ 0 (callee_target callee)
    where
      callee_target : {j : Identifier} {ps : List Kind} {k : Kind} → Callee r j ps k → named_target (named_at r j.site.token) 0 ≡ variable 0
      callee_target (of_program f names at text other) = ap (λ w. named_target w 0) names
      callee_target (of_conditions c names text) = ap (λ w. named_target w 0) names
  names_cell _ _ (typing.a_constant {s} {c}) stands plain single_one = nowhere_at (tree.constant s c) _ 0 refl
  names_cell _ _ (typing.in_parentheses {s} {a} {k} h) stands plain single_one =
      within_parentheses s a (target r None a) (names_cell a k h (part m (tree.parentheses s a) a (tail_there (tree.parentheses s a) a (expressions a) (self_there a)) stands) plain single_one)
  names_cell _ _ (typing.element_of_pointer {s} {a} {i} {b} {n} ha hi integer) stands plain single_one =
      let other = ap is_array (ready.one a (object b (n + 1)) ha) in
      let inner = part m (tree.index s a i) a (tail_there (tree.index s a i) a (expressions a ++ expressions i) (left_there (expressions a) (expressions i) a (self_there a))) stands in
      let w = pointee a b n ha inner in
      of_object (target r None (tree.index s a i)) 0 (inr (ap (λ z. cond z (in_global_at (global_of (target r None a)) 0) (in_object_at 0)) other))
      (behind_scalar (tree.index s a i) a b n (ready.one (tree.index s a i) (object b n) (typing.element_of_pointer ha hi integer)) (plain_kind b n plain) (ap (λ z. cond z None (Some a)) other) inner w
      (ap (λ z. cond z (row_at r a) (behind (row_at r a))) other ∙ ap behind w.row_found) (ap (λ z. cond z (cell_at m a) (pointed m (row_at r a))) other ∙ ap (pointed m) w.row_found)
      (ap (λ z. cond z (cell_locks m a) (locks_below (modes_at m a))) other))
  names_cell _ _ (typing.element_of_array {s} {a} {i} {b} {n} ha hi integer) stands plain single_one =
      let array_is = ap is_array (ready.one a (array b n) ha) in
      let w = array_base a (array b n) ha b n refl in
      of_global (target r None (tree.index s a i)) w.number 0 (inr (ap (λ z. cond z (in_global_at (global_of (target r None a)) 0) (in_object_at 0)) array_is ∙ ap (λ t. in_global_at (global_of t) 0) w.place))
      (file_scalar (tree.index s a i) w.number w.global b n (ready.one (tree.index s a i) (object b n) (typing.element_of_array ha hi integer)) (plain_kind b n plain) w.declared_is w.at
      (ap (λ z. cond z (row_at r a) (behind (row_at r a))) array_is ∙ w.row) (ap (λ z. cond z (cell_at m a) (pointed m (row_at r a))) array_is ∙ w.cell)
      (ap (λ z. cond z (cell_locks m a) (locks_below (modes_at m a))) array_is ∙ w.told))
  names_cell _ _ (typing.a_call {s} {f} {all} callee types) stands plain single_one = nowhere_at (tree.call s f all) _ 0 refl
  names_cell _ _ (typing.a_field {s} {a} {x} {name} {d} h member names) stands plain single_one =
      by (struct_place a (object (Base.Struct x) 0) h (part m (tree.field s a Dot name) a (tail_there (tree.field s a Dot name) a (expressions a) (self_there a)) stands) x refl)
    where
      there : Contains (structs_in r.program.items) member.0
      there = ready.struct_found x member.0 member.1

      has : Contains member.0.fields d
      has = ready.member_found member.0.fields name.text d member.2

      kind : kind_at r (tree.field s a Dot name) ≡ declared_kind d.written
      kind = ready.one (tree.field s a Dot name) (declared_kind d.written) (typing.a_field h member names)

      row : row_at r (tree.field s a Dot name) ≡ Some (declared_row r written d.name.site.token)
      row = ap (λ w. Some (named_row r written w)) names

      cell : cell_at m (tree.field s a Dot name) ≡ field_cell r (cell_at m a) d.written
      cell = ap (field_named r (cell_at m a)) names ∙ ap (declared_cell r (cell_at m a)) (ready.field_itself member.0 d there has)

      place : field_place_named r (named_at r name.site.token) ≡ field_place r d.name.site.token
      place = ap (field_place_named r) names

      told : cell_locks m (tree.field s a Dot name) ≡ field_locks r (field_place r d.name.site.token) (modes_of m (declared_row r written d.name.site.token))
      told = ap (λ w. named_locks m (field_place_named r w) w) names

      by : StructPlace a x → NamesCell m (tree.field s a Dot name) (target r None (tree.field s a Dot name))
      by (is_behind p leads inner w at where_) =
          of_object _ (field_place r d.name.site.token) (subst (IsOfObject (target r None (tree.field s a Dot name))) place (where_ (field_place_named r (named_at r name.site.token))))
          (behind_member (tree.field s a Dot name) p x member.0 d written leads inner w member.1 has kind row (cell ∙ ap (λ q. field_cell r q d.written) at) told)
      by (is_in_file g f found declared_is at where_) =
          of_global _ g (field_place r d.name.site.token) (subst (IsOfGlobal (target r None (tree.field s a Dot name)) g) place (where_ (field_place_named r (named_at r name.site.token))))
          (file_member (tree.field s a Dot name) g f x member.0 d written found declared_is member.1 has kind row (cell ∙ ap (λ q. field_cell r q d.written) at) told)
      by (is_nowhere none) = let w = none (field_place_named r (named_at r name.site.token)) in nowhere_at (tree.field s a Dot name) _ w.0 w.1
  names_cell _ _ (typing.a_field_behind {s} {a} {x} {name} {d} h member names) stands plain single_one =
      let there = ready.struct_found x member.0 member.1 in
      let has = ready.member_found member.0.fields name.text d member.2 in
      let inner = part m (tree.field s a Arrow name) a (tail_there (tree.field s a Arrow name) a (expressions a) (self_there a)) stands in
      let w = pointee a (Base.Struct x) 0 h inner in
      of_object (target r None (tree.field s a Arrow name)) (field_place r d.name.site.token) (inl (ap (λ z. in_object (field_place_named r z)) names))
      (behind_member (tree.field s a Arrow name) a x member.0 d (reading_through (base_use r Arrow a)) refl inner w member.1 has (ready.one (tree.field s a Arrow name) (declared_kind d.written) (typing.a_field_behind h member names))
      (ap (λ z. Some (named_row r (reading_through (base_use r Arrow a)) z)) names)
      (ap (λ q. field_named r q (named_at r name.site.token)) (ap (pointed m) w.row_found) ∙ ap (field_named r (pointed m (Some w.row))) names ∙ ap (declared_cell r (pointed m (Some w.row))) (ready.field_itself member.0 d there has))
      (ap (λ w. named_locks m (field_place_named r w) w) names))
  names_cell _ _ (typing.pointed_to {s} {a} {b} {n} h) stands plain single_one =
      let inner = part m (tree.unary s Dereference a) a (tail_there (tree.unary s Dereference a) a (expressions a) (self_there a)) stands in
      let w = pointee a b n h inner in
      of_object (target r None (tree.unary s Dereference a)) 0 (inl refl)
      (behind_scalar (tree.unary s Dereference a) a b n (ready.one (tree.unary s Dereference a) (object b n) (typing.pointed_to h)) (plain_kind b n plain) refl inner w (ap behind w.row_found) (ap (pointed m) w.row_found) refl)
  names_cell _ _ _ stands plain single_one = nowhere_at _ _ 0 refl
