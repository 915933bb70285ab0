-- The locks of what cells refer to: in the table, and by the source.
use Rattle.sharc_accepted_laws.proofs.{Imports.{◌≡◌, ◌⊎◌, inl, inr, ℕ, zero, suc, ◌+◌, ◌-◌, ◌<◌, ◌≤◌, ◌==◌, Bool, true, false, cond, ◌&&◌, List, [], ◌∷◌, ◌++◌, length, map, refl, ap, sym, ◌∙◌, subst, arith, append_assoc, length-append, option_map, Option, Some, None, is_none, Contains, get_or as slice_index_or, AllByRecursion, Base, Mode, Locked, Path, One, Through as PathThrough, Span, Declaration, Identifier, FieldOperator, Dot, Arrow, Dereference, GlobalDefinition, expressions, in_function, Expression, Named, Kind, object, is_array, Role, Entity, Numbered, declared, entities_in, numbered, is_told_by, Resolution, named_at, declaration_at, variable_kind, global_at, globals_in, functions_in, kind_at, HasType, IsMemberOf, a_field_behind, IsFound, EachTypeFound, EachNameOnce, OnlyNames, EachPathFound, MeetsConstraints, OneType, first_cell, Target, in_global, in_global_at, in_object_at, global_of, own_field, named_target, target, cell_of, Context, Either, is_cell, globals_of, field_place, field_place_named, field_place_behind, Place, pointed, Assignment, RowLaws, PathReading, written, through, Targets, is_constant_named, constant_use, base_use, lock_through, path_variable, read, deeper, entity_row, declared_row, global_row, named_row, behind, reading_through, row_at, modes_of, modes_at, Lock, Sharing, locked, lock_of, sharing_of, text_at, variable_named, is_field, is_sibling_lock, place_of, IsExpression, IsEntity, RulesAreMet, IsAllowed, global_mutex, sibling_mutex, sibling_pointer, through_constant, IsThroughConstant, is_through, MeetsRules, Cell, TypeLock, FieldLock, OfType, OfGlobals, OfElement, StaticType, Global, InRegister as Through, Self, Refers, Label, SameReference, Itself, SameLock, AllSame, no_lock, IsFieldLock, IsGlobalLock, IsAnyLock, IsAnyGlobalLock, AreFieldLocks, IsAccepted, is_held, IsHeldPath, AllHeld, element_locks, pointee_locks, declared_locks, content_locks, BaseIs, IsBased, PlacesPoint, register, lock_named, lock_at, locks_at, static_of, FieldsPlaced, ExpressionsFound, Form, locked_form, form_of, table_lock, field_lock, field_locks, type_locks, lock_count, same_some, none_some, front, each, place_of_element, of_each, to_each}, Arrays.{IsNameOf, array_name}, Holds.expressions_held, Origins.{reading_kept, same_raw, same_lock}, Passed.use_named, Places.{InFile, FileKnown, FieldInFile, file_known, a_member, member, at_number, IfSome}, Noted.all_say, StaticSiblings.{SiblingsAre, siblings_are}, Written.{raw, row_good, found_there}, Members.first_of}
use Rattle.sharc_tree.specs.Tree as tree
use Rattle.sharc_lemmas.proofs.Bools.{no_cell}

-- ---- lists of locks
-- the one behind so many
pub nth : (pre rest : List TypeLock) (x d : TypeLock) → slice_index_or (pre ++ x ∷ rest) (length pre) d ≡ x
nth [] rest x d = refl
nth (y ∷ pre) rest x d = nth pre rest x d

-- no type of the source has a lock in its own target
abbrev IsNotSelf : TypeLock → Type 0
IsNotSelf (Self j) = ⊥
IsNotSelf _ = Unit {0}

not_self : (c : Context) (n : Named) (second : Option (List ℕ)) → IsNotSelf (lock_named c n second)
not_self c (Named.Variable x) (Some name) = tt
not_self c _ _ = tt

-- a lock of what an element refers to is that of the element's own type
type_lock : (l : Label) (r i : ℕ) (s : StaticType) (lock : TypeLock) (k : ℕ) → IsNotSelf lock → k < length s.locks → slice_index_or s.locks k no_lock ≡ lock → IsFieldLock l r i s lock (OfType k)
type_lock l r i s (Global j) k own low is = (low, subst (SameLock l r (Global j)) (sym is) refl)
type_lock l r i s (Through q j) k own low is = (low, subst (SameLock l r (Through q j)) (sym is) (refl, Itself refl))
type_lock l r i s (Self j) k own low is = absurd own

module _ (c : Context) (l : Label) (r i : ℕ) (s : StaticType) where
  abbrev Is : TypeLock → FieldLock → Type 0
  Is = IsFieldLock l r i s

  types_from : (modes : List Sharing) (pre : List TypeLock) (k : ℕ) → s.locks ≡ pre ++ locks_at c modes → k ≡ length pre → AllSame Is (locks_at c modes) (type_locks k (map form_of modes))
  types_from [] pre k is count = tt
  types_from (locked lock ∷ rest) pre k is count =
      let x = lock_at c lock in
      let all : s.locks ≡ (pre ++ x ∷ []) ++ locks_at c rest = is ∙ sym (append_assoc pre (x ∷ []) (locks_at c rest)) in
      let size : length s.locks ≡ length pre + length (x ∷ locks_at c rest) = ap length is ∙ length-append pre (x ∷ locks_at c rest) in
      let low : k < length s.locks = omega (arith, size, count) in
      let here : slice_index_or s.locks k no_lock ≡ x = ap (λ ls. slice_index_or ls k no_lock) is ∙ ap (λ n. slice_index_or (pre ++ x ∷ locks_at c rest) n no_lock) count ∙ nth pre (locks_at c rest) x no_lock in
      let more : k + 1 ≡ length (pre ++ x ∷ []) = omega (arith, count, length-append pre (x ∷ [])) in (
        type_lock l r i s x k (not_self c (named_at c.program.typed lock.first) lock.second) low here,
        types_from rest (pre ++ x ∷ []) (k + 1) all more,
      )
  types_from (_ ∷ rest) pre k is count = types_from rest pre k is count

  -- of what an element refers to
  types_below : (first : Sharing) (rest : List Sharing) → s.locks ≡ locks_at c (first ∷ rest) → AllSame Is (locks_at c rest) (element_locks (map form_of (first ∷ rest)))
  types_below (locked lock) rest is = types_from rest (lock_at c lock ∷ []) 1 is refl
  types_below _ rest is = types_from rest [] 0 is refl

-- the elements of an array
any_from : (l : Label) (r : ℕ) (s : StaticType) (list : List TypeLock) (fs : List Form) (k : ℕ) → AllSame (IsFieldLock l r 0 s) list (type_locks k fs) → AllSame (IsAnyLock l r s) list (type_locks k fs)
any_from l r s [] [] k h = tt
any_from l r s (x ∷ list) [] k h = absurd h
any_from l r s [] (locked_form ∷ fs) k h = absurd h
any_from l r s (x ∷ list) (locked_form ∷ fs) k h = (h.0, any_from l r s list fs (k + 1) h.1)
any_from l r s list (_ ∷ fs) k h = any_from l r s list fs k h

any_pointee : (l : Label) (r : ℕ) (s : StaticType) (list : List TypeLock) (o : Option (List Sharing)) → AllSame (IsFieldLock l r 0 s) list (pointee_locks o) → AllSame (IsAnyLock l r s) list (pointee_locks o)
any_pointee l r s [] None h = tt
any_pointee l r s (x ∷ list) None h = absurd h
any_pointee l r s list (Some modes) h = by (map form_of modes) h
  where
    by : (fs : List Form) → AllSame (IsFieldLock l r 0 s) list (element_locks fs) → AllSame (IsAnyLock l r s) list (element_locks fs)
    by [] k = nothing list k
      where
        nothing : (xs : List TypeLock) → AllSame (IsFieldLock l r 0 s) xs [] → AllSame (IsAnyLock l r s) xs []
        nothing [] k = tt
        nothing (x ∷ xs) k = absurd k
    by (f ∷ fs) k = any_from l r s list fs (lock_count f) k

-- ---- paths of what is declared in the file
abbrev NamesGlobal : Resolution → Lock → Type 0
NamesGlobal r l = (g : ℕ) × (named_at r l.first ≡ Named.Global g)

abbrev pub NamesField : Resolution → Lock → Type 0
NamesField r l = (l.second ≡ None) × ((t : ℕ) × (named_at r l.first ≡ Named.Field t))

abbrev IsGlobalMode : Resolution → Sharing → Type 0
IsGlobalMode r s = (l : Lock) → s ≡ locked l → NamesGlobal r l

abbrev AllGlobal : Resolution → List Sharing → Type 0
AllGlobal r modes = AllByRecursion (IsGlobalMode r) modes

module _ (c : Context) (globals : c.globals ≡ globals_of c.program.typed) where
  -- they name globals, in the table too
  global_locks : (R : TypeLock → FieldLock → Type 0) → ((j : ℕ) → R (Global j) (OfGlobals j)) → (n : ℕ) (modes : List Sharing) → AllGlobal c.program.typed modes → AllSame R (locks_at c modes) (field_locks c.program.typed n modes)
  global_locks R same n [] h = tt
  global_locks R same n (locked lock ∷ rest) h =
      let g = h.0 lock refl in
      let one : lock_at c lock ≡ Global (first_cell (globals_of c.program.typed) g.0 - 2) = ap (λ w. lock_named c w lock.second) g.1 ∙ ap (λ z. Global (first_cell z g.0 - 2)) globals in
      let other : field_lock c.program.typed n lock ≡ OfGlobals (first_cell (globals_of c.program.typed) g.0 - 2) = ap (table_lock c.program.typed n) g.1 in (
        subst (λ z. R z (field_lock c.program.typed n lock)) (sym one) (subst (R (Global (first_cell (globals_of c.program.typed) g.0 - 2))) (sym other) (same (first_cell (globals_of c.program.typed) g.0 - 2))),
        global_locks R same n rest h.1,
      )
  global_locks R same n (_ ∷ rest) h = global_locks R same n rest h.1

  -- a cell whose base has a type
  abbrev CellBased : Label → Cell → Type 0
  CellBased l (Cell.Object r i) = (s : StaticType) × (l.env r ≡ Refers s)
  CellBased l (Cell.ObjectAt r i) = (s : StaticType) × (l.env r ≡ Refers s)
  CellBased l _ = Unit {0}

  any_cell : (l : Label) (cell : Cell) → CellBased l cell → (n : ℕ) (modes : List Sharing) → AllGlobal c.program.typed modes → AreFieldLocks l cell (locks_at c modes) (field_locks c.program.typed n modes)
  any_cell l (Cell.Global g p) based n modes h = global_locks (IsGlobalLock p) (λ j. refl) n modes h
  any_cell l (Cell.GlobalAt g j) based n modes h = global_locks IsAnyGlobalLock (λ j. refl) n modes h
  any_cell l (Cell.Object r k) based n modes h = (based.0, based.1, global_locks (IsFieldLock l r k based.0) (λ j. refl) n modes h)
  any_cell l (Cell.ObjectAt r k) based n modes h = (based.0, based.1, global_locks (IsAnyLock l r based.0) (λ j. refl) n modes h)

in_global_type : (r : Resolution) (e : Entity) (depth : ℕ) (path : Path) → place_of e.role ≡ Place.Global → IsAllowed r e depth path → NamesGlobal r (lock_of path)
in_global_type r e depth _ at (global_mutex {g = g} is kind) = (g, is)
in_global_type r e depth _ at (sibling_mutex other is kind) = absurd (cc (sym at ∙ other))
in_global_type r e depth _ at (sibling_pointer other top is pointer alone) = absurd (cc (sym at ∙ other))
in_global_type r e depth _ at (through_constant other is constant behind) = absurd (cc (sym at ∙ other))

in_field_type : (r : Resolution) (e : Entity) (depth : ℕ) (path : Path) → place_of e.role ≡ Place.Field → IsAllowed r e depth path → NamesGlobal r (lock_of path) ⊎ NamesField r (lock_of path)
in_field_type r e depth _ at (global_mutex {g = g} is kind) = inl (g, is)
in_field_type r e depth _ at (sibling_mutex {f = t} other is kind) = inr (refl, (t, is))
in_field_type r e depth _ at (sibling_pointer {f = t} other top is pointer alone) = inr (refl, (t, is))
in_field_type r e depth _ at (through_constant other is constant behind) = absurd (cc (sym at ∙ other))

abbrev pub ModeOf : (Path → Type 0) → Mode → Type 0
ModeOf Good mode = (path : Path) → mode ≡ Locked path → Good path

abbrev pub LevelOf : (Path → Type 0) → Option Mode → Type 0
LevelOf Good None = Unit {0}
LevelOf Good (Some mode) = ModeOf Good mode

module _ (rules : RulesAreMet) (m : Assignment) (a : IsAccepted m) where
  abbrev r2 : Resolution
  r2 = m.typed

  meets : MeetsRules m
  meets = (rules m).0 a.well

  -- what M4 says of the paths that are written in a type holds of those of its positions
  pub allowed_row : (Good : Path → Type 0) (how : PathReading) (n : Numbered) → IsEntity m n → ((depth : ℕ) (path : Path) → IsAllowed r2 n.entity depth path → Contains n.entity.written.ctype.levels (Some (Locked path)) → Good path)
      → AllByRecursion (ModeOf Good) (raw m (entity_row how (Some n)))
  allowed_row Good how n is good =
      row_good (ModeOf Good) (λ path e. absurd (cc)) (λ path e. absurd (cc)) (λ path e. absurd (cc)) m a.least how n is
      (to_each (LevelOf Good) n.entity.written.ctype.levels level)
    where
      level : (x : Option Mode) → Contains n.entity.written.ctype.levels x → LevelOf Good x
      level None has = tt
      level (Some mode) has = λ path e.
          let there : Contains n.entity.written.ctype.levels (Some (Locked path)) = subst (λ z. Contains n.entity.written.ctype.levels (Some z)) e has in
          let at = place_of_element n.entity.written.ctype.levels (Some (Locked path)) there in
          good at.0 path (meets.m4.forms n at.0 path is at.1) there

  pub shown_modes : (Good : Lock → Type 0) (list : List Mode) → AllByRecursion (ModeOf (λ path. Good (lock_of path))) list → AllByRecursion (λ s. (l : Lock) → s ≡ locked l → Good l) (map (λ mode. read r2 written (sharing_of mode)) list)
  shown_modes Good [] h = tt
  shown_modes Good (x ∷ rest) h = (one x h.0, shown_modes Good rest h.1)
    where
      one : (mode : Mode) → ModeOf (λ path. Good (lock_of path)) mode → (l : Lock) → read r2 written (sharing_of mode) ≡ locked l → Good l
      one (Locked path) k l e = subst Good (same_lock (lock_of path) l e) (k path refl)
      one _ k l e = absurd (cc)

  pub entity_is : (e : Entity) (f : IsFound r2 e) → IsEntity m f.numbered
  entity_is e f = found_there (is_told_by e.token e.last) (numbered (entities_in r2.program.items)) f.numbered f.found

  -- of a global
  global_modes : (o : Option GlobalDefinition) → IfSome (λ g. InFile r2 (declared Role.Global g.declaration)) o → AllGlobal r2 (modes_of m (global_row r2 written o))
  global_modes None h = tt
  global_modes (Some g) h =
      let f = h.0 in
      let n = f.numbered in
      subst (λ o. AllGlobal r2 (modes_of m (entity_row written o))) (sym f.found)
      (subst (λ z. AllGlobal r2 (map (λ mode. read r2 z (sharing_of mode)) (raw m (entity_row written (Some n))))) (sym (reading_kept n.entity.role _))
      (shown_modes (NamesGlobal r2) (raw m (entity_row written (Some n)))
      (allowed_row (λ path. NamesGlobal r2 (lock_of path)) written n (entity_is (declared Role.Global g.declaration) f)
      (λ depth path allowed has. in_global_type r2 n.entity depth path (ap (λ (e : Entity). place_of e.role) f.itself) allowed))))

  -- of a field
  abbrev FieldPath : Declaration → Path → Type 0
  FieldPath d path = (NamesGlobal r2 (lock_of path) ⊎ NamesField r2 (lock_of path)) × Contains d.written.ctype.levels (Some (Locked path))

  field_row : (how : PathReading) (d : Declaration) (f : IsFound r2 (declared Role.Field d)) → AllByRecursion (ModeOf (FieldPath d)) (raw m (entity_row how (Some f.numbered)))
  field_row how d f =
      allowed_row (FieldPath d) how f.numbered (entity_is (declared Role.Field d) f)
      (λ depth path allowed has. (in_field_type r2 f.numbered.entity depth path (ap (λ (e : Entity). place_of e.role) f.itself) allowed, subst (λ (e : Entity). Contains e.written.ctype.levels (Some (Locked path))) f.itself has))

  -- M11: without a constant variable no sibling's name is among them
  pub through_used : (w : FieldOperator) (e : Expression) (x : ℕ) → IsThroughConstant r2 w e x → base_use r2 w e ≡ None → ⊥
  through_used _ _ x (is_through {s = s} {i = i} names constant) h =
      let is : is_constant_named r2 (named_at r2 i.site.token) ≡ true = ap (is_constant_named r2) names ∙ constant in
      none_some i.site.token (sym h ∙ ap (λ b. cond b (Some i.site.token) None) is)

  field_modes : (s : Span) (e : Expression) (w : FieldOperator) (name : Identifier) → IsExpression m (tree.field s e w name) → base_use r2 w e ≡ None → (d : Declaration) → FieldInFile r2 d → named_at r2 name.site.token ≡ Named.Field d.name.site.token
      → AllGlobal r2 (modes_of m (declared_row r2 written d.name.site.token))
  field_modes s e w name there none d f names = to_each (IsGlobalMode r2) modes one
    where
      token : ℕ
      token = d.name.site.token

      modes : List Sharing
      modes = modes_of m (declared_row r2 written token)

      forms : AllByRecursion (λ z. (l : Lock) → z ≡ locked l → NamesGlobal r2 l ⊎ NamesField r2 l) modes
      forms =
          let n = f.0.numbered in
          subst (λ o. AllByRecursion (λ z. (l : Lock) → z ≡ locked l → NamesGlobal r2 l ⊎ NamesField r2 l) (modes_of m (entity_row written o))) (sym f.0.found)
          (subst (λ z. AllByRecursion (λ z. (l : Lock) → z ≡ locked l → NamesGlobal r2 l ⊎ NamesField r2 l) (map (λ mode. read r2 z (sharing_of mode)) (raw m (entity_row written (Some n))))) (sym (reading_kept n.entity.role _))
          (shown_modes (λ l. NamesGlobal r2 l ⊎ NamesField r2 l) (raw m (entity_row written (Some n)))
          (each (ModeOf (FieldPath d)) (ModeOf (λ path. NamesGlobal r2 (lock_of path) ⊎ NamesField r2 (lock_of path))) (λ mode k path z. (k path z).0) (raw m (entity_row written (Some n))) (field_row written d f.0))))

      no_sibling : (l : Lock) → Contains modes (locked l) → NamesField r2 l → ⊥
      no_sibling l has k =
          let sibling : is_sibling_lock r2 l ≡ true = ap (λ z. is_field (named_at r2 l.first) && is_none z) k.0 ∙ ap (λ z. is_field z && true) k.1.1 in
          let target : Contains (modes_of m (named_row r2 written (named_at r2 name.site.token))) (locked l) = subst (λ z. Contains (modes_of m (named_row r2 written z)) (locked l)) (sym names) has in
          let use_found = meets.m11 e w (record { span = s; name = name; stands = there; lock = l; target = target; sibling = sibling }) in
          through_used w e use_found.0 use_found.1 none

      one : (z : Sharing) → Contains modes z → IsGlobalMode r2 z
      one z has l is = by (of_each (λ z. (l : Lock) → z ≡ locked l → NamesGlobal r2 l ⊎ NamesField r2 l) modes z forms has l is)
        where
          by : NamesGlobal r2 l ⊎ NamesField r2 l → NamesGlobal r2 l
          by (inl g) = g
          by (inr k) = absurd (no_sibling l (subst (Contains modes) is has) k)

-- ---- siblings
module _ (rules : RulesAreMet) (c : Context) (a : IsAccepted c.program) (globals : c.globals ≡ globals_of c.program.typed) (siblings : SiblingsAre c.program.typed) (l : Label) (reg : ℕ) (s : StaticType) where
  abbrev m3 : Assignment
  m3 = c.program

  abbrev r3 : Resolution
  r3 = c.program.typed

  -- a field's types are read through the constant variable x, which is this use
  module _ (token x : ℕ) (names : named_at r3 token ≡ Named.Variable x) (copy : is_held r3 x ≡ true → SameReference l reg (register c x)) (n : ℕ) (struct name : List ℕ) (d : Declaration)
      (kind : variable_kind (declaration_at r3 x) ≡ object (Base.Struct struct) 1) (member : IsMemberOf r3 struct name d) where
    abbrev R : TypeLock → FieldLock → Type 0
    R = IsFieldLock l reg n s

    one_path : (path : Path) → FieldPath rules m3 a d path → IsHeldPath m3 (locked (lock_through r3 token (lock_of path))) → R (lock_at c (lock_through r3 token (lock_of path))) (field_lock r3 n (lock_of path))
    one_path (PathThrough text at second) (inl g, has) held =
        let one : lock_at c (lock_through r3 token (lock_of (PathThrough text at second))) ≡ Global (first_cell (globals_of r3) g.0 - 2) =
        ap (λ z. lock_at c (cond (z && false) (record { first = token; second = Some (text_at r3 at) }) (lock_of (PathThrough text at second)))) (ap is_field g.1)
        ∙ ap (λ w. lock_named c w (Some second)) g.1 ∙ ap (λ z. Global (first_cell z g.0 - 2)) globals in
        let other : field_lock r3 n (lock_of (PathThrough text at second)) ≡ OfGlobals (first_cell (globals_of r3) g.0 - 2) = ap (table_lock r3 n) g.1 in
        subst (λ z. R z (field_lock r3 n (lock_of (PathThrough text at second)))) (sym one) (subst (R (Global (first_cell (globals_of r3) g.0 - 2))) (sym other) refl)
    one_path (PathThrough text at second) (inr k, has) held = absurd (none_some second (sym k.0))
    one_path (One text at) (inl g, has) held =
        let one : lock_at c (lock_through r3 token (lock_of (One text at))) ≡ Global (first_cell (globals_of r3) g.0 - 2) =
        ap (λ z. lock_at c (cond (z && true) (record { first = token; second = Some (text_at r3 at) }) (lock_of (One text at)))) (ap is_field g.1)
        ∙ ap (λ w. lock_named c w None) g.1 ∙ ap (λ z. Global (first_cell z g.0 - 2)) globals in
        let other : field_lock r3 n (lock_of (One text at)) ≡ OfGlobals (first_cell (globals_of r3) g.0 - 2) = ap (table_lock r3 n) g.1 in
        subst (λ z. R z (field_lock r3 n (lock_of (One text at)))) (sym one) (subst (R (Global (first_cell (globals_of r3) g.0 - 2))) (sym other) refl)
    one_path (One text at) (inr k, has) held =
        let t = k.1.0 in
        let j = field_place_behind r3 x (text_at r3 at) in
        let one : lock_at c (lock_through r3 token (lock_of (One text at))) ≡ Through (register c x) j =
        ap (λ z. lock_at c (cond (z && true) (record { first = token; second = Some (text_at r3 at) }) (lock_of (One text at)))) (ap is_field k.1.1)
        ∙ ap (λ w. lock_named c w (Some (text_at r3 at))) names in
        let other : field_lock r3 n (lock_of (One text at)) ≡ OfElement n (field_place r3 t) = ap (table_lock r3 n) k.1.1 in
        let same : j ≡ field_place r3 t = siblings x struct name d text at t kind member has k.1.1 in
        let path : lock_through r3 token (lock_of (One text at)) ≡ record { first = token; second = Some (text_at r3 at) } = ap (λ z. cond (z && true) (record { first = token; second = Some (text_at r3 at) }) (lock_of (One text at))) (ap is_field k.1.1) in
        let is_x : path_variable r3 (lock_through r3 token (lock_of (One text at))) ≡ Some x = ap (path_variable r3) path ∙ ap variable_named names in
        subst (λ z. R z (field_lock r3 n (lock_of (One text at)))) (sym one) (subst (R (Through (register c x) j)) (sym other) (omega arith, (let e : j ≡ n - n + field_place r3 t = omega (arith, same) in e), copy (held (lock_through r3 token (lock_of (One text at))) x refl is_x)))

    abbrev Held : List Mode → Type 0
    Held list = AllByRecursion (IsHeldPath m3) (map (λ mode. read r3 (through token) (sharing_of mode)) list)

    through_locks : (list : List Mode) → AllByRecursion (ModeOf (FieldPath rules m3 a d)) list → Held list
        → AllSame R (locks_at c (map (λ mode. read r3 (through token) (sharing_of mode)) list)) (field_locks r3 n (map (λ mode. read r3 written (sharing_of mode)) list))
    through_locks [] h held = tt
    through_locks (Locked path ∷ rest) h held = (one_path path (h.0 path refl) held.0, through_locks rest h.1 held.1)
    through_locks (_ ∷ rest) h held = through_locks rest h.1 held.1

    field_through : FieldInFile r3 d → AllHeld m3 (modes_of m3 (declared_row r3 (through token) d.name.site.token)) → AllSame R (locks_at c (modes_of m3 (declared_row r3 (through token) d.name.site.token))) (field_locks r3 n (modes_of m3 (declared_row r3 written d.name.site.token)))
    field_through f held =
        let e = f.0.numbered in
        let row = entity_row written (Some e) in
        let other = entity_row (through token) (Some e) in
        let other_held : Held (raw m3 row) =
        subst Held (sym (same_raw m3 written (through token) e.entity.role e.first _))
        (subst (λ z. AllHeld m3 (map (λ mode. read r3 z (sharing_of mode)) (raw m3 other))) (reading_kept e.entity.role _) (subst (λ o. AllHeld m3 (modes_of m3 (entity_row (through token) o))) f.0.found held)) in
        subst (λ o. AllSame R (locks_at c (modes_of m3 (entity_row (through token) o))) (field_locks r3 n (modes_of m3 (entity_row written o)))) (sym f.0.found)
        (subst (λ z. AllSame R (locks_at c (map (λ mode. read r3 z (sharing_of mode)) (raw m3 other))) (field_locks r3 n (modes_of m3 row))) (sym (reading_kept e.entity.role _))
        (subst (λ z. AllSame R (locks_at c (map (λ mode. read r3 (through token) (sharing_of mode)) (raw m3 other))) (field_locks r3 n (map (λ mode. read r3 z (sharing_of mode)) (raw m3 row)))) (sym (reading_kept e.entity.role _))
        (subst (λ z. AllSame R (locks_at c (map (λ mode. read r3 (through token) (sharing_of mode)) z)) (field_locks r3 n (map (λ mode. read r3 written (sharing_of mode)) (raw m3 row)))) (same_raw m3 written (through token) e.entity.role e.first _)
        (through_locks (raw m3 row) (field_row rules m3 a written d f.0) other_held))))

-- ---- lvalues
module _ (rows : RowLaws) (expressions_found : ExpressionsFound) (one_type : OneType) (rules : RulesAreMet) (found : EachTypeFound) (paths : EachPathFound) (constraints : MeetsConstraints) (c : Context) (a : IsAccepted c.program)
    (globals : c.globals ≡ globals_of c.program.typed) (siblings : SiblingsAre c.program.typed) (l : Label) (i reg : ℕ) where
  abbrev m4 : Assignment
  m4 = c.program

  abbrev r4 : Resolution
  r4 = c.program.typed

  abbrev cell_at : Target → Cell
  cell_at t = cell_of c.globals i reg t

  file : FileKnown r4 r4.program.items
  file = file_known r4 r4.program.items (found r4 a.resolved a.placed a.low) (paths r4 a.resolved a.placed a.low).types

  typed_at : (e : Expression) → IsExpression m4 e → HasType r4 e (kind_at r4 e)
  typed_at e x =
      of_each (λ e. HasType r4 e (kind_at r4 e)) (in_function x.owner) e
      (of_each (λ f. AllByRecursion (λ e. HasType r4 e (kind_at r4 e)) (in_function f)) (functions_in r4.program.items) x.owner (constraints r4 a.resolved a.placed a.low) x.stands) x.inside

  -- of the target of a pointer
  module _ (k : ℕ) where
    below_row : (s : StaticType) (e : Expression) → IsExpression m4 e → (row : Targets) → row_at r4 e ≡ Some row → s.locks ≡ locks_at c (modes_of m4 row)
        → AllSame (IsFieldLock l reg k s) (locks_at c (modes_of m4 (deeper row))) (element_locks (map form_of (modes_of m4 row)))
    below_row s e there row is locks = by row.count refl
      where
        ends : row.first + row.count ≤ length m4.modes
        ends = (expressions_found m4 a.resolved a.placed a.low a.least.modes e there row is).ends

        by : (n : ℕ) → row.count ≡ n → AllSame (IsFieldLock l reg k s) (locks_at c (modes_of m4 (deeper row))) (element_locks (map form_of (modes_of m4 row)))
        by zero none =
            let empty = rows.empty m4 row none in
            let same : deeper row ≡ row = ap (λ n. cond (n == 0) row (record { first = row.first + 1; count = row.count - 1; reading = row.reading })) none in
            subst (λ z. AllSame (IsFieldLock l reg k s) (locks_at c (modes_of m4 z)) (element_locks (map form_of (modes_of m4 row)))) (sym same)
            (subst (λ z. AllSame (IsFieldLock l reg k s) (locks_at c z) (element_locks (map form_of z))) (sym empty) tt)
        by (suc n) some =
            let first = rows.begins m4 row (omega (arith, some)) ends in
            subst (λ z. AllSame (IsFieldLock l reg k s) (locks_at c (modes_of m4 (deeper row))) (element_locks (map form_of z))) (sym first)
            (types_below c l reg k s (pointed m4 (Some row)) (modes_of m4 (deeper row)) (locks ∙ ap (locks_at c) first))

    -- what a pointer in a register leads to
    pointee : (e : Expression) → IsExpression m4 e → (b : BaseIs c l reg e) → (modes : List Sharing) → option_map (modes_of m4) (behind (row_at r4 e)) ≡ Some modes
        → AllSame (IsFieldLock l reg k (static_of c (kind_at r4 e) b.modes)) (locks_at c modes) (pointee_locks (modes_at m4 e))
    pointee e there b modes is = by (row_at r4 e) refl is
      where
        by : (o : Option Targets) → row_at r4 e ≡ o → option_map (modes_of m4) (behind o) ≡ Some modes → AllSame (IsFieldLock l reg k (static_of c (kind_at r4 e) b.modes)) (locks_at c modes) (pointee_locks (modes_at m4 e))
        by None row h = absurd (none_some modes h)
        by (Some row) at h =
            let same : modes_at m4 e ≡ Some (modes_of m4 row) = ap (option_map (modes_of m4)) at in
            let base_modes : b.modes ≡ modes_of m4 row = same_some b.modes (modes_of m4 row) (sym b.is ∙ same) in
            subst (λ z. AllSame (IsFieldLock l reg k (static_of c (kind_at r4 e) b.modes)) (locks_at c modes) (pointee_locks z)) (sym same)
            (subst (λ z. AllSame (IsFieldLock l reg k (static_of c (kind_at r4 e) b.modes)) (locks_at c z) (element_locks (map form_of (modes_of m4 row)))) (same_some (modes_of m4 (deeper row)) modes h)
            (below_row (static_of c (kind_at r4 e) b.modes) e there row at (ap (locks_at c) base_modes)))

  -- ---- arrays: they are globals
  record ArrayIs (e : Expression) : Type 0 where
    number : ℕ
    row : row_at r4 e ≡ Some (global_row r4 written (global_at r4 number))
    content : content_locks m4 e ≡ declared_locks m4 0 (Named.Global number)

  array_named : (e : Expression) (g : ℕ) → IsNameOf r4 e g → ArrayIs e
  array_named (tree.identifier s x) g is = record { number = g; row = ap (λ n. Some (named_row r4 written n)) is; content = ap (declared_locks m4 0) is }
  array_named (tree.parentheses s e) g is = let x = array_named e g is in record { number = x.number; row = x.row; content = x.content }
  array_named _ g is = absurd is

  array_is : (e : Expression) → AllByRecursion (IsExpression m4) (expressions e) → is_array (kind_at r4 e) ≡ true → ArrayIs e
  array_is e h is =
      let x = array_name r4 e (each (IsExpression m4) (λ e. HasType r4 e (kind_at r4 e)) typed_at (expressions e) h) is in
      array_named e x.0 x.1

  -- ---- by their forms
  global_all : (g : ℕ) → AllGlobal r4 (modes_of m4 (global_row r4 written (global_at r4 g)))
  global_all g = global_modes rules m4 a (global_at r4 g) (at_number (λ g. InFile r4 (declared Role.Global g.declaration)) (globals_in r4.program.items) g file.globals)

  -- a name
  name_points : (n : Named) (modes : List Sharing) → Some (modes_of m4 (named_row r4 written n)) ≡ Some modes → is_cell (named_target n 0) ≡ true → AreFieldLocks l (cell_at (named_target n 0)) (locks_at c modes) (declared_locks m4 0 n)
  name_points (Named.Global g) modes is cell =
      subst (λ z. AreFieldLocks l (cell_at (in_global g 0)) (locks_at c z) (declared_locks m4 0 (Named.Global g))) (same_some (modes_of m4 (named_row r4 written (Named.Global g))) modes is)
      (any_cell c globals l (cell_at (in_global g 0)) tt 0 (modes_of m4 (named_row r4 written (Named.Global g))) (global_all g))
  name_points _ modes is cell = absurd (no_cell cell)

  name_based : (n : Named) (f : ℕ) → CellBased c globals l (cell_at (named_target n f))
  name_based (Named.Field n) f = tt
  name_based _ f = tt

  -- the cell of a member has the base of its struct
  based : (e : Expression) (f : Option ℕ) → IsBased c l reg e → CellBased c globals l (cell_at (target r4 f e))
  based (tree.identifier s x) f b = name_based (named_at r4 x.site.token) (own_field f 0)
  based (tree.parentheses s e) f b = based e f b
  based (tree.index s e n) f b = by (is_array (kind_at r4 e)) b
    where
      by : (z : Bool) → Either z (Unit {0}) (BaseIs c l reg e) → CellBased c globals l (cell_at (cond z (in_global_at (global_of (target r4 None e)) (own_field f 0)) (in_object_at (own_field f 0))))
      by true k = tt
      by false k = (static_of c (kind_at r4 e) k.modes, k.entry)
  based (tree.field s e Dot n) f b = based e (Some (own_field f (field_place_named r4 (named_at r4 n.site.token)))) b
  based (tree.field s e Arrow n) f b = (static_of c (kind_at r4 e) b.modes, b.entry)
  based (tree.unary s Dereference e) f b = (static_of c (kind_at r4 e) b.modes, b.entry)
  based _ f b = tt

  -- an element
  index_points : (e : Expression) → AllByRecursion (IsExpression m4) (expressions e) → (modes : List Sharing) (z : Bool) → is_array (kind_at r4 e) ≡ z → Either z (Unit {0}) (BaseIs c l reg e)
      → option_map (modes_of m4) (cond z (row_at r4 e) (behind (row_at r4 e))) ≡ Some modes
      → AreFieldLocks l (cell_at (cond z (in_global_at (global_of (target r4 None e)) 0) (in_object_at 0))) (locks_at c modes) (cond z (content_locks m4 e) (pointee_locks (modes_at m4 e)))
  index_points e h modes true kind b is =
      let x = array_is e h kind in
      let same : modes_of m4 (global_row r4 written (global_at r4 x.number)) ≡ modes = same_some (modes_of m4 (global_row r4 written (global_at r4 x.number))) modes (sym (ap (option_map (modes_of m4)) x.row) ∙ is) in
      subst (λ y. AllSame IsAnyGlobalLock (locks_at c modes) y) (sym x.content)
      (subst (λ y. AllSame IsAnyGlobalLock (locks_at c y) (declared_locks m4 0 (Named.Global x.number))) same
      (global_locks c globals IsAnyGlobalLock (λ j. refl) 0 (modes_of m4 (global_row r4 written (global_at r4 x.number))) (global_all x.number)))
  index_points e h modes false kind b is = (static_of c (kind_at r4 e) b.modes, b.entry, any_pointee l reg (static_of c (kind_at r4 e) b.modes) (locks_at c modes) (modes_at m4 e) (pointee 0 e (first_of (IsExpression m4) e h) b modes is))

  -- a member of a struct that is named by `.`, or behind no constant variable
  plain_points : (s : Span) (e : Expression) (w : FieldOperator) (name : Identifier) → IsExpression m4 (tree.field s e w name) → base_use r4 w e ≡ None → (cell : Cell) → CellBased c globals l cell → (n : ℕ) (modes : List Sharing)
      → Some (modes_of m4 (named_row r4 (reading_through (base_use r4 w e)) (named_at r4 name.site.token))) ≡ Some modes → AreFieldLocks l cell (locks_at c modes) (declared_locks m4 n (named_at r4 name.site.token))
  plain_points s e w name there none cell base n modes is =
      let x = member r4 file s e w name _ (typed_at (tree.field s e w name) there) in
      let of_row : modes_of m4 (declared_row r4 written x.of.name.site.token) ≡ modes =
      same_some (modes_of m4 (declared_row r4 written x.of.name.site.token)) modes
      (sym (ap (λ o. Some (modes_of m4 (named_row r4 (reading_through o) (named_at r4 name.site.token)))) none ∙ ap (λ z. Some (modes_of m4 (named_row r4 written z))) x.names) ∙ is) in
      subst (λ z. AreFieldLocks l cell (locks_at c modes) (declared_locks m4 n z)) (sym x.names)
      (subst (λ z. AreFieldLocks l cell (locks_at c z) (declared_locks m4 n (Named.Field x.of.name.site.token))) of_row
      (any_cell c globals l cell base n (modes_of m4 (declared_row r4 written x.of.name.site.token)) (field_modes rules m4 a s e w name there none x.of x.field x.names)))

  -- behind one
  through_points : (s : Span) (e : Expression) (name : Identifier) → IsExpression m4 (tree.field s e Arrow name) → (b : BaseIs c l reg e) → (token : ℕ) → constant_use r4 e ≡ Some token → (n : ℕ) (modes : List Sharing)
      → Some (modes_of m4 (named_row r4 (reading_through (constant_use r4 e)) (named_at r4 name.site.token))) ≡ Some modes → AllHeld m4 modes
      → AllSame (IsFieldLock l reg n (static_of c (kind_at r4 e) b.modes)) (locks_at c modes) (declared_locks m4 n (named_at r4 name.site.token))
  through_points s e name there b token used n modes is held = by _ (typed_at (tree.field s e Arrow name) there)
    where
      by : (k : Kind) → HasType r4 (tree.field s e Arrow name) k → AllSame (IsFieldLock l reg n (static_of c (kind_at r4 e) b.modes)) (locks_at c modes) (declared_locks m4 n (named_at r4 name.site.token))
      by _ (a_field_behind {x = struct} {d = d} t h names) =
          let u = use_named r4 e token used in
          let kind : variable_kind (declaration_at r4 u.variable) ≡ object (Base.Struct struct) 1 = sym u.kind ∙ one_type r4 a.resolved a.placed a.low e (object (Base.Struct struct) 1) t in
          let of_row : modes_of m4 (declared_row r4 (through token) d.name.site.token) ≡ modes =
          same_some (modes_of m4 (declared_row r4 (through token) d.name.site.token)) modes
          (sym (ap (λ o. Some (modes_of m4 (named_row r4 (reading_through o) (named_at r4 name.site.token)))) used ∙ ap (λ z. Some (modes_of m4 (named_row r4 (through token) z))) names) ∙ is) in
          subst (λ z. AllSame (IsFieldLock l reg n (static_of c (kind_at r4 e) b.modes)) (locks_at c modes) (declared_locks m4 n z)) (sym names)
          (subst (λ z. AllSame (IsFieldLock l reg n (static_of c (kind_at r4 e) b.modes)) (locks_at c z) (declared_locks m4 n (Named.Field d.name.site.token))) of_row
          (field_through rules c a globals siblings l reg (static_of c (kind_at r4 e) b.modes) token u.variable u.names (b.copy token u.variable used u.names) n struct name.text d kind h (a_member r4 file struct name.text d h) (subst (AllHeld m4) (sym of_row) held)))

  arrow_points : (s : Span) (e : Expression) (name : Identifier) → IsExpression m4 (tree.field s e Arrow name) → BaseIs c l reg e → (n : ℕ) (modes : List Sharing)
      → Some (modes_of m4 (named_row r4 (reading_through (constant_use r4 e)) (named_at r4 name.site.token))) ≡ Some modes → AllHeld m4 modes → AreFieldLocks l (Cell.Object reg n) (locks_at c modes) (declared_locks m4 n (named_at r4 name.site.token))
  arrow_points s e name there b n modes is held = by (constant_use r4 e) refl
    where
      by : (o : Option ℕ) → constant_use r4 e ≡ o → AreFieldLocks l (Cell.Object reg n) (locks_at c modes) (declared_locks m4 n (named_at r4 name.site.token))
      by None used = plain_points s e Arrow name there used (Cell.Object reg n) (static_of c (kind_at r4 e) b.modes, b.entry) n modes is
      by (Some token) used = (static_of c (kind_at r4 e) b.modes, b.entry, through_points s e name there b token used n modes is held)

  points : (e : Expression) (modes : List Sharing) → AllByRecursion (IsExpression m4) (expressions e) → modes_at m4 e ≡ Some modes → is_cell (target r4 None e) ≡ true → IsBased c l reg e
      → AreFieldLocks l (cell_at (target r4 None e)) (locks_at c modes) (content_locks m4 e)
  points (tree.identifier s x) modes h is cell b = name_points (named_at r4 x.site.token) modes is cell
  points (tree.parentheses s e) modes h is cell b = points e modes h.1 is cell b
  points (tree.index s e n) modes h is cell b = index_points e (front (IsExpression m4) (expressions e) (expressions n) h.1) modes (is_array (kind_at r4 e)) refl b is
  points (tree.field s e Dot n) modes h is cell b =
      let place = field_place_named r4 (named_at r4 n.site.token) in
      plain_points s e Dot n h.0 refl (cell_at (target r4 (Some place) e)) (based e (Some place) b) place modes is
  points (tree.field s e Arrow n) modes h is cell b = arrow_points s e n h.0 b (field_place_named r4 (named_at r4 n.site.token)) modes is (expressions_held rules m4 a (tree.field s e Arrow n) modes h is)
  points (tree.unary s Dereference e) modes h is cell b = (static_of c (kind_at r4 e) b.modes, b.entry, pointee 0 e (first_of (IsExpression m4) e h.1) b modes is)
  points _ modes h is cell b = absurd (no_cell cell)

pub places_point : RowLaws → ExpressionsFound → OneType → RulesAreMet → EachTypeFound → EachPathFound → MeetsConstraints → EachNameOnce → OnlyNames → FieldsPlaced → PlacesPoint
places_point rows expressions_found one_type rules found paths constraints once only fields_placed c a globals l i reg e modes h is cell b =
    points rows expressions_found one_type rules found paths constraints c a globals
    (siblings_are c.program.typed fields_placed a.placed (all_say once only c.program.typed a.resolved a.placed a.low)) l i reg e modes h is cell b
