-- What a field is locked by in its element: a mutex, or a readonly pointer to one.
use Rattle.sharc_accepted_laws.proofs.{Imports.{◌≡◌, ⊎_elim, ℕ, zero, suc, ◌+◌, ◌<◌, Bool, true, false, ◌&&◌, cond, List, [], ◌∷◌, length, map, get_or as slice_index_or, refl, ap, sym, ◌∙◌, subst, arith, Option, Some, None, Contains, bytes_eq, cases_lt, slice_get, is_none, AllByRecursion, Base, Mode, Path, One, Declaration, WrittenType, GlobalDefinition, StructDefinition, IsLow, Named, Role, object, is_pointer, declared_kind, mutex, Entity, entity_at, Resolution, named_at, named_kind, variable_kind, declaration_at, structs_in, globals_in, IsItself, EachTypeFound, EachNameOnce, OnlyNames, EachNamesItself, RulesAreMet, IsAllowed, global_mutex, sibling_mutex, sibling_pointer, through_constant, field_place, field_place_named, is_mutex_kind, is_behind_pointer, top_of, first_mode, Assignment, written, declared_row, modes_of, base_of, place_of, Lock, Sharing, locked, lock_of, is_field, Place, OfElement, FieldMode, Under, MutexWord, Pointer, Field, TableTarget as Target, no_field, row_of, FieldMode as field, PointsToMutex, BesideFits, AreLockedBeside, LocksStandBeside, Form, racy_form, form_of, stars_in, number, IsRowOf, pointee, PointeeFits, table_lock as lock_named, field_lock, field_locks, own_mode, global_mode, is_private_mode, locked_mode, written_mode, field_mode, base_content, pointer_content, declared_content, single, member, members, struct_fields, base_fields, lock_count, type_locks, shape_fields, top_mode, global_element, targets_of, same_some, head_there, place_of_element, some_there, of_each, tail_there, below_there, place_there}, TargetCells.member_count, Expressing.variable_row, Table.past_end, Moding.{not_field, not_pointer}, Pointees.{pointees_fit, many_modes}, Ready.global_lock, Whole.known as known_of, Found.field_found, TargetMembers.{members_at, top_written, field_readonly}, Numbers.numbers_found, Rows.{IsKnown, top_there}}

-- ---- modes that name what is beside
-- an element's own mode names nothing beside it
pub record NamesNone (q : FieldMode) : Type 0 where
  pub sibling : (f j : ℕ) → q ≡ Under (OfElement f j) → ⊥
  pub behind : (a p : ℕ) → q ≡ field.Behind a p → ⊥

none_own : (f : Form) → NamesNone (own_mode f)
none_own racy_form = record { sibling = λ f j h. cc; behind = λ a p h. cc }
none_own _ = record { sibling = λ f j h. cc; behind = λ a p h. cc }

fits_none : (m : Assignment) (fields : List Field) (q : FieldMode) → NamesNone q → BesideFits m fields q
fits_none m fields (Under (OfElement f j)) h = absurd (h.sibling f j refl)
fits_none m fields (field.Behind a p) h = absurd (h.behind a p refl)
fits_none m fields _ h = tt

racy_none : NamesNone field.Racy
racy_none = record { sibling = λ f j h. cc; behind = λ a p h. cc }

-- in elements of one cell
single_none : (q : FieldMode) (b : Base) → NamesNone q → NamesNone (single q b).mode
single_none q Base.Mutex h = racy_none
single_none q (Base.Struct name) h = racy_none
single_none q _ h = h

one_fits : (m : Assignment) (f : Field) → NamesNone f.mode → (k : ℕ) → BesideFits m (f ∷ []) (slice_index_or (f ∷ []) k no_field).mode
one_fits m f h zero = fits_none m (f ∷ []) f.mode h
one_fits m f h (suc k) = tt

-- ---- fields of structs
-- what the fields of a struct are named as by a path that names a mutex, or a pointer to one
record MutexAt (m : Assignment) (fields : List Declaration) (p : ℕ) : Type 0 where
  d : Declaration
  at : slice_get fields p ≡ Some d
  kind : declared_kind d.written ≡ mutex

record PointerAt (m : Assignment) (fields : List Declaration) (p : ℕ) : Type 0 where
  d : Declaration
  at : slice_get fields p ≡ Some d
  kind : declared_kind d.written ≡ object Base.Mutex 1
  readonly : top_of d.written.ctype.levels ≡ Some Mode.Readonly

-- a path's lock in a field of a struct
data PathFits (m : Assignment) (fields : List Declaration) (l : Lock) : Type 0 where
  by_global : (g : ℕ) → named_at m.typed l.first ≡ Named.Global g → is_behind_pointer m.typed l ≡ false → PathFits m fields l
  by_mutex : (f : ℕ) → named_at m.typed l.first ≡ Named.Field f → is_behind_pointer m.typed l ≡ false → MutexAt m fields (field_place m.typed f) → PathFits m fields l
  by_pointer : (f : ℕ) → named_at m.typed l.first ≡ Named.Field f → is_behind_pointer m.typed l ≡ true → PointerAt m fields (field_place m.typed f) → PathFits m fields l

module _ (m : Assignment) (known : IsKnown m) (s : StructDefinition) (is_struct : Contains (structs_in m.typed.program.items) s) where
  abbrev r : Resolution
  r = m.typed

  -- the sibling that a path names
  record IsSiblingAt (f : ℕ) : Type 0 where
    d : Declaration
    has : Contains s.fields d
    at : slice_get s.fields (field_place r f) ≡ Some d
    itself : declaration_at r f ≡ Some d

  sibling_at : (d : Declaration) → Contains s.fields d → (path : Path) → top_of d.written.ctype.levels ≡ Some (Mode.Locked path) → (f : ℕ) → named_at r (lock_of path).first ≡ Named.Field f → IsSiblingAt f
  sibling_at d is_member path top f names =
      let w = known.sibling s d path f is_struct is_member (top_there d.written.ctype.levels (Mode.Locked path) top) names in
      let k = place_of_element s.fields w.sibling w.has in
      let itself : IsItself r Named.Field w.sibling = of_each (IsItself r Named.Field) s.fields w.sibling (of_each (λ (z : StructDefinition). AllByRecursion (IsItself r Named.Field) z.fields) (structs_in r.program.items) s known.fields is_struct) w.has in
      let place : field_place r f ≡ k.0 = ap (field_place r) (sym w.is) ∙ known.place s k.0 w.sibling is_struct k.1 in
      record { d = w.sibling; has = w.has; at = ap (slice_get s.fields) place ∙ k.1; itself = ap (declaration_at r) (sym w.is) ∙ itself.1 }

  field_not_local : (e : Entity) → e.role ≡ Role.Field → place_of e.role ≡ Place.Local → ⊥
  field_not_local e is local = cc (sym (ap place_of is) ∙ local)

  path_is : (e : Entity) (depth : ℕ) → e.role ≡ Role.Field → (d : Declaration) → Contains s.fields d → (path : Path) → top_of d.written.ctype.levels ≡ Some (Mode.Locked path) → IsAllowed r e depth path → PathFits m s.fields (lock_of path)
  path_is e depth is d is_member _ top (global_mutex {text} {token} {g} names kind) = by_global g names (not_field r (lock_of (One text token)) (Named.Global g) names refl)
  path_is e depth is d is_member _ top (sibling_mutex {text} {token} {f} stands names kind) =
      let w = sibling_at d is_member (One text token) top f names in
      by_mutex f names (not_pointer r (lock_of (One text token)) (Named.Field f) names (ap is_pointer kind)) (record { d = w.d; at = w.at; kind = sym (ap variable_kind w.itself) ∙ kind })
  path_is e depth is d is_member _ top (sibling_pointer {text} {token} {f} stands zero_depth names lock targets) =
      let w = sibling_at d is_member (One text token) top f names in
      let same : w.d ≡ lock.field = same_some _ _ (sym w.itself ∙ lock.declared) in
      let kind : declared_kind w.d.written ≡ object Base.Mutex 1 = ap (λ (z : Declaration). declared_kind z.written) same ∙ lock.pointer in
      by_pointer f names
      (ap (λ z. (is_field z && is_none {T = List ℕ} None) && is_pointer (named_kind r z)) names ∙ ap (λ o. is_pointer (variable_kind o)) w.itself ∙ ap is_pointer kind)
      (record { d = w.d; at = w.at; kind = kind; readonly = ap (λ (z : Declaration). top_of z.written.ctype.levels) same ∙ lock.readonly })
  path_is e depth is d is_member _ top (through_constant {text} {m} {token} {x} stands names constant behind) = absurd (field_not_local e is stands)

  path_of_field : (d : Declaration) → Contains s.fields d → (path : Path) → top_of d.written.ctype.levels ≡ Some (Mode.Locked path) → PathFits m s.fields (lock_of path)
  path_of_field d is_member path top =
      let there = field_found m known.found s d is_struct is_member in
      path_is there.numbered.entity 0 there.role d is_member path top
      (known.rules.m4.forms there.numbered 0 path there.is_entity (subst (λ (w : WrittenType). slice_get w.ctype.levels 0 ≡ Some (Some (Mode.Locked path))) (sym there.written) (top_written d.written.ctype.levels (Mode.Locked path) top)))

  module _ (q : FieldMode) (none : NamesNone q) where
    abbrev fields : List Field
    fields = members m q 0 s.fields

    at_place : (p : ℕ) (d : Declaration) → slice_get s.fields p ≡ Some d → slice_index_or fields p no_field ≡ member m q p d
    at_place p d is = let e : 0 + p ≡ p = omega arith in members_at m q 0 s.fields p d is ∙ ap (λ i. member m q i d) e

    low_place : (p : ℕ) (d : Declaration) → slice_get s.fields p ≡ Some d → p < length fields
    low_place p d is = let many = member_count m q 0 s.fields in let low = below_there s.fields p d is in omega (arith, many, low)

    mutex_holds : (p : ℕ) → MutexAt m s.fields p → (p < length fields) × ((slice_index_or fields p no_field).holds ≡ MutexWord)
    mutex_holds p w = (
      low_place p w.d w.at,
      ap (λ (f : Field). f.holds) (at_place p w.d w.at)
          ∙ ap (λ b. cond b (pointer_content m p w.d.written.ctype.base (modes_of m (declared_row r written w.d.name.site.token))) (base_content w.d.written.ctype.base)) (ap is_pointer w.kind)
          ∙ ap base_content (ap base_of w.kind),
    )

    pointer_holds : (p : ℕ) → PointerAt m s.fields p → is_private_mode q ≡ false → (p < length fields) × PointsToMutex (targets_of m) (slice_index_or fields p no_field)
    pointer_holds p w shared = (low_place p w.d w.at, subst (PointsToMutex (targets_of m)) (sym (at_place p w.d w.at)) points_there)
      where
        has : Contains s.fields w.d
        has = place_there s.fields p w.d w.at

        modes : List Sharing
        modes = modes_of m (declared_row r written w.d.name.site.token)

        pointer : is_pointer (declared_kind w.d.written) ≡ true
        pointer = ap is_pointer w.kind

        row : IsRowOf m (declared_kind w.d.written) (declared_row r written w.d.name.site.token)
        row = variable_row m known.least.modes known.found w.d.name.site.token w.d (of_each (IsItself r Named.Field) s.fields w.d (of_each (λ (z : StructDefinition). AllByRecursion (IsItself r Named.Field) z.fields) (structs_in r.program.items) s known.fields is_struct) has).1 written

        fit : PointeeFits m (declared_kind w.d.written) (declared_row r written w.d.name.site.token)
        fit = pointees_fit m (declared_kind w.d.written) (declared_row r written w.d.name.site.token) row pointer

        one : (xs : List Sharing) → length xs ≡ 1 → (f : Form) × (map form_of xs ≡ f ∷ [])
        one (x ∷ []) h = (form_of x, refl)
        one _ h = absurd (omega (arith, h))

        single_mode : (f : Form) × (map form_of (modes_of m (declared_row r written w.d.name.site.token)) ≡ f ∷ [])
        single_mode = one (modes_of m (declared_row r written w.d.name.site.token)) (many_modes m (declared_kind w.d.written) (declared_row r written w.d.name.site.token) row ∙ ap stars_in w.kind)

        cells : (row_of (targets_of m) (pointee m (declared_kind w.d.written) (declared_row r written w.d.name.site.token))).fields ≡ single (own_mode single_mode.0) Base.Mutex ∷ []
        cells = fit.fields ∙ ap (λ b. shape_fields m b (map form_of (modes_of m (declared_row r written w.d.name.site.token)))) (ap base_of w.kind) ∙ ap (shape_fields m Base.Mutex) single_mode.1

        points_there : PointsToMutex (targets_of m) (member m q p w.d)
        points_there = record {
          to = record { target = pointee m (declared_kind w.d.written) (declared_row r written w.d.name.site.token); locks = field_locks r p (modes_of m (declared_row r written w.d.name.site.token)) };
          holds = ap (λ b. cond b (pointer_content m p w.d.written.ctype.base (modes_of m (declared_row r written w.d.name.site.token))) (base_content w.d.written.ctype.base)) pointer;
          mode = field_readonly r p q w.d.written (ap is_mutex_kind w.kind) w.readonly shared;
          mutex = ap (λ l. (slice_index_or l 0 no_field).holds) cells;
          some = subst (λ l. 0 < length l) (sym cells) (omega arith);
        }

    lock_fits : (k : ℕ) (l : Lock) → PathFits m s.fields l → BesideFits m fields (locked_mode r k q l)
    lock_fits k l (by_global g names is) =
        subst (λ b. BesideFits m fields (cond b (cond (is_private_mode q) field.Private (field.Behind k (field_place_named r (named_at r l.first)))) (Under (field_lock r k l)))) (sym is)
        (subst (λ z. BesideFits m fields (Under z)) (sym (ap (lock_named r k) names)) tt)
    lock_fits k l (by_mutex f names is w) =
        subst (λ b. BesideFits m fields (cond b (cond (is_private_mode q) field.Private (field.Behind k (field_place_named r (named_at r l.first)))) (Under (field_lock r k l)))) (sym is)
        (subst (λ z. BesideFits m fields (Under z)) (sym (ap (lock_named r k) names)) (mutex_holds (field_place r f) w))
    lock_fits k l (by_pointer f names is w) =
        subst (λ b. BesideFits m fields (cond b (cond (is_private_mode q) field.Private (field.Behind k (field_place_named r (named_at r l.first)))) (Under (field_lock r k l)))) (sym is)
        (subst (λ z. BesideFits m fields (cond (is_private_mode q) field.Private (field.Behind k z))) (sym (ap (field_place_named r) names)) (by (is_private_mode q) refl))
      where
        by : (b : Bool) → is_private_mode q ≡ b → BesideFits m fields (cond b field.Private (field.Behind k (field_place r f)))
        by true e = tt
        by false e = pointer_holds (field_place r f) w e

    written_fits : (k : ℕ) (top : Option Mode) → ((path : Path) → top ≡ Some (Mode.Locked path) → PathFits m s.fields (lock_of path)) → BesideFits m fields (written_mode r k q top)
    written_fits k None paths = fits_none m fields q none
    written_fits k (Some Mode.Readonly) paths = by (is_private_mode q)
      where
        by : (b : Bool) → BesideFits m fields (cond b field.Private field.Readonly)
        by true = tt
        by false = tt
    written_fits k (Some (Mode.Locked path)) paths = lock_fits k (lock_of path) (paths path refl)
    written_fits k _ paths = tt

    member_fits : (k : ℕ) (d : Declaration) → Contains s.fields d → BesideFits m fields (field_mode r k q d.written)
    member_fits k d is_member = by (is_mutex_kind (declared_kind d.written))
      where
        by : (b : Bool) → BesideFits m fields (cond b field.Racy (written_mode r k q (top_of d.written.ctype.levels)))
        by true = tt
        by false = written_fits k (top_of d.written.ctype.levels) (path_of_field d is_member)

    members_fit : (k : ℕ) → BesideFits m fields (slice_index_or fields k no_field).mode
    members_fit k = ⊎_elim inside (λ high. subst (λ (f : Field). BesideFits m fields f.mode) (sym (past_end fields k high)) tt) (cases_lt k (length fields))
      where
        inside : k < length fields → BesideFits m fields (slice_index_or fields k no_field).mode
        inside low =
            let many = member_count m q 0 s.fields in
            let d = some_there s.fields k (omega (arith, low, many)) in
            subst (λ (f : Field). BesideFits m fields f.mode) (sym (at_place k d.0 d.1)) (member_fits k d.0 (place_there s.fields k d.0 d.1))

module _ (m : Assignment) (known : IsKnown m) (low : IsLow m.typed.program) where
  structs_fit : (q : FieldMode) → NamesNone q → (list : List StructDefinition) → ((s : StructDefinition) → Contains list s → Contains (structs_in m.typed.program.items) s) → (name : List ℕ) (k : ℕ)
      → BesideFits m (struct_fields m q list name) (slice_index_or (struct_fields m q list name) k no_field).mode
  structs_fit q none [] all name k = one_fits m (single q (Base.Struct name)) racy_none k
  structs_fit q none (s ∷ rest) all name k = by (bytes_eq s.name.text name) (structs_fit q none rest (λ z has. all z (tail_there s z rest has)) name k)
    where
      by : (b : Bool) → BesideFits m (struct_fields m q rest name) (slice_index_or (struct_fields m q rest name) k no_field).mode
          → BesideFits m (cond b (members m q 0 s.fields) (struct_fields m q rest name)) (slice_index_or (cond b (members m q 0 s.fields) (struct_fields m q rest name)) k no_field).mode
      by true h = members_fit m known s (all s (head_there s rest)) q none k
      by false h = h

  bases_fit : (q : FieldMode) → NamesNone q → (b : Base) (k : ℕ) → BesideFits m (base_fields m q b) (slice_index_or (base_fields m q b) k no_field).mode
  bases_fit q none (Base.Struct name) k = structs_fit q none (structs_in m.typed.program.items) (λ s has. has) name k
  bases_fit q none j k = one_fits m (single q j) (single_none q j none) k

  shapes_fit : (b : Base) (fs : List Form) (k : ℕ) → BesideFits m (shape_fields m b fs) (slice_index_or (shape_fields m b fs) k no_field).mode
  shapes_fit b [] k = tt
  shapes_fit b (f ∷ []) k = bases_fit (own_mode f) (none_own f) b k
  shapes_fit b (f ∷ g ∷ below) k = one_fits m (record { mode = own_mode f; holds = Pointer (record { target = number m (record { base = b; forms = g ∷ below }); locks = type_locks (lock_count f) (g ∷ below) }) }) (none_own f) k

  -- the mode of a global
  none_global : (s : Sharing) → ((l : Lock) → s ≡ locked l → (g : ℕ) × (named_at m.typed l.first ≡ Named.Global g) × (named_kind m.typed (Named.Global g) ≡ mutex)) → NamesNone (global_mode m.typed s)
  none_global (locked l) path =
      let w = path l refl in
      subst (λ z. NamesNone (Under z)) (sym (ap (lock_named m.typed 0) w.1)) (record { sibling = λ f j h. cc; behind = λ a p h. cc })
  none_global _ path = record { sibling = λ f j h. cc; behind = λ a p h. cc }

  global_fit : (g : GlobalDefinition) → Contains (globals_in m.typed.program.items) g → (k : ℕ) → BesideFits m (global_element m g) (slice_index_or (global_element m g) k no_field).mode
  global_fit g has k = by (is_pointer (declared_kind g.declaration.written))
    where
      n : (n : ℕ) × (slice_get (globals_in m.typed.program.items) n ≡ Some g)
      n = place_of_element (globals_in m.typed.program.items) g has

      none : NamesNone (top_mode m g)
      none = none_global (first_mode m (entity_at m.typed g.declaration.name.site.token g.declaration.name.site.token)) (global_lock m known low n.0 g n.1)

      by : (b : Bool) → BesideFits m (cond b (record { mode = top_mode m g; holds = declared_content m 0 g.declaration } ∷ []) (base_fields m (top_mode m g) g.declaration.written.ctype.base))
          (slice_index_or (cond b (record { mode = top_mode m g; holds = declared_content m 0 g.declaration } ∷ []) (base_fields m (top_mode m g) g.declaration.written.ctype.base)) k no_field).mode
      by true = one_fits m (record { mode = top_mode m g; holds = declared_content m 0 g.declaration }) none k
      by false = bases_fit (top_mode m g) none g.declaration.written.ctype.base k

  pub locked_beside : AreLockedBeside m
  locked_beside = record {
    rows = λ s has k. subst (λ l. BesideFits m l (slice_index_or l k no_field).mode) (sym (ap (λ (t : Target). t.fields) (numbers_found m s has).row)) (shapes_fit s.base s.forms k);
    globals = global_fit;
  }

pub locks_stand_beside : EachNameOnce → OnlyNames → EachTypeFound → EachNamesItself → RulesAreMet → LocksStandBeside
locks_stand_beside once only found itself met m resolved placed low least well = locked_beside m (known_of once only found itself met m resolved placed low least well) low
