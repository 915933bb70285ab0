-- A cell that is there may be accessed in the mode that the source gives it.
use Rattle.sharc_accepted_laws.proofs.{Imports.{◌≡◌, ℕ, ◌+◌, ◌-◌, ◌<◌, Bool, true, false, cond, List, [], ◌∷◌, length, get_or as slice_index_or, refl, ap, sym, ◌∙◌, subst, arith, Option, Some, None, Base, GlobalDefinition, GlobalForm, Named, mutex, is_pointer, declared_kind, global_kind, Code, PlaceMode, Cell, elements_of, Resolution, named_at, named_kind, global_kind_of, global_at, field_place, field_place_behind, is_behind_pointer, Assignment, Lock, Sharing, locked, Spot, first_cell, Context, mode_beside, mode_named, place_mode, beside_named, beside_field, guard_named, guard_field, globals_of, StaticType, TypeLock, OfType, OfGlobals, OfElement, FieldMode, Under, Content, MutexWord, Field, no_field, FieldMode as own, Refers, Closed, Loaded, Label, Labels, Itself, IsInGlobal, HasField, IsMode, IsLockMode, IsLockCell, IsTypeMode, IsTypeLock, PointsToMutex, no_lock, IsLockedBy, MayPass, register, lock_named, lock_at, locks_at, BesideFits, HasTables, GlobalsAre, ModeFits, is_private, is_readonly, locked_by_type, locked_by_global, locked_by_sibling, locked_behind, single, base_fields, declared_content, top_mode, global_element, targets_of, Reaches, Guards, IsGated, LockStands, of_variable, IsFairAccess, no_guard, some_is}, AccessCells.{IsCellOf, ArePairOf, first_low, global_cell_at}, Beginning.{is_some_base as base_is}}
use Rattle.sharc_invariant.specs.Types as types
use Rattle.sharc_typed_laws.specs.Inside.{lock_of}
use Rattle.sharc_accepted_laws.specs.Accesses.{of_global}

-- ---- global mutexes
record IsMutexGlobal (m : Assignment) (g : ℕ) : Type 0 where
  global : GlobalDefinition
  at : global_at m.typed g ≡ Some global
  some : 0 < elements_of global.form
  inside : 0 < length (global_element m global)
  holds : (slice_index_or (global_element m global) 0 no_field).holds ≡ MutexWord

mutex_element : (m : Assignment) (d : GlobalDefinition) → declared_kind d.declaration.written ≡ mutex → global_element m d ≡ single (top_mode m d) Base.Mutex ∷ []
mutex_element m d kind =
    ap (λ z. cond z (record { mode = top_mode m d; holds = declared_content m 0 d.declaration } ∷ []) (base_fields m (top_mode m d) d.declaration.written.ctype.base)) (ap is_pointer kind)
    ∙ ap (base_fields m (top_mode m d)) (base_is d.declaration.written.ctype.base Base.Mutex _ 0 kind)

mutex_global : (m : Assignment) (g : ℕ) → named_kind m.typed (Named.Global g) ≡ mutex → IsMutexGlobal m g
mutex_global m g kind = by (global_at m.typed g) refl kind
  where
    found : (d : GlobalDefinition) → global_at m.typed g ≡ Some d → 0 < elements_of d.form → declared_kind d.declaration.written ≡ mutex → IsMutexGlobal m g
    found d is some kind = record {
      global = d;
      at = is;
      some = some;
      inside = subst (λ l. 0 < length l) (sym (mutex_element m d kind)) (omega arith);
      holds = ap (λ l. (slice_index_or l 0 no_field).holds) (mutex_element m d kind);
    }

    by_form : (d : GlobalDefinition) → global_at m.typed g ≡ Some d → (f : GlobalForm) → d.form ≡ f → global_kind f (declared_kind d.declaration.written) ≡ mutex → IsMutexGlobal m g
    by_form d is (GlobalForm.Array at count) e h = absurd (cc)
    by_form d is _ e h = found d is (let one : elements_of d.form ≡ 1 = ap elements_of e in omega (arith, one)) h

    by : (o : Option GlobalDefinition) → global_at m.typed g ≡ o → global_kind_of o ≡ mutex → IsMutexGlobal m g
    by None is h = absurd (cc)
    by (Some d) is h = by_form d is d.form refl h

-- ---- the field beside it that a mode names
beside_is : (r : Resolution) (l : Lock) (f : ℕ) → named_at r l.first ≡ Named.Field f → beside_field r (locked l) ≡ Some (field_place r f)
beside_is r l f names = ap (beside_named r l) names

guard_is : (r : Resolution) (l : Lock) (f : ℕ) (z : Bool) → named_at r l.first ≡ Named.Field f → is_behind_pointer r l ≡ z → guard_field r (locked l) ≡ cond z (Some (field_place r f)) None
guard_is r l f z names behind = ap (guard_named r l) names ∙ ap (λ b. cond b (Some (field_place r f)) None) behind

-- the pointer that is loaded first
module _ (c : Context) (code : Code) (q : Label) where
  path_none : (l : Lock) → LockStands c code q l → (k : ℕ) → guard_field c.program.typed (locked l) ≡ Some k → ⊥
  path_none l (of_global g names kind) k is = no_guard k (sym (ap (guard_named c.program.typed l) names) ∙ is)
  path_none l (of_variable x name s names second is_ref refers inside there) k is = no_guard k (sym (ap (guard_named c.program.typed l) names) ∙ is)

  pub guard_there : (n : ℕ) (list : List Sharing) (mode : Sharing) (a : Cell) (guard : ℕ → Cell) (fields : List Field) (k : ℕ) → guard_field c.program.typed mode ≡ Some k
      → ((j : ℕ) → beside_field c.program.typed mode ≡ Some j → j < length fields → ArePairOf c.program code q n j a (guard j) (slice_index_or fields n no_field) (slice_index_or fields j no_field))
      → ((l : Lock) (below : List Sharing) → list ≡ locked l ∷ below → mode ≡ locked l → LockStands c code q l)
      → (fm : FieldMode) → ModeFits c.program.typed n list mode fm → BesideFits c.program fields fm → Guards c code q (guard k)
  guard_there n list _ a guard fields k is pair path _ (locked_by_type {l} {below} starts) beside = absurd (path_none l (path l below starts refl) k is)
  guard_there n list _ a guard fields k is pair path _ (locked_by_global {l} {g} names kind) beside = absurd (no_guard k (sym (ap (guard_named c.program.typed l) names) ∙ is))
  guard_there n list _ a guard fields k is pair path _ (locked_by_sibling {l} {f} names plain) beside = absurd (no_guard k (sym (guard_is c.program.typed l f false names plain) ∙ is))
  guard_there n list _ a guard fields k is pair path _ (locked_behind {l} {f} names behind) beside =
      let here = some_is (field_place c.program.typed f) k (sym (guard_is c.program.typed l f true names behind) ∙ is) in
      let two = pair (field_place c.program.typed f) (beside_is c.program.typed l f names) beside.0 in
      subst (λ z. Guards c code q (guard z)) here (record { field = slice_index_or fields (field_place c.program.typed f) no_field; there = two.second.there; points = beside.1 })
  guard_there n list _ a guard fields k is pair path _ _ beside = absurd (no_guard k is)

-- the register on which a cell is
abbrev pub IsOnBase : Cell → ℕ → Type 0
IsOnBase (Cell.Object b i) x = b ≡ x
IsOnBase (Cell.ObjectAt b i) x = b ≡ x
IsOnBase _ x = ⊥

module _ (globals_are : GlobalsAre) (c : Context) (globals : c.globals ≡ globals_of c.program.typed) (code : Code) (tables : HasTables c.program code) (ls : Labels) (q : Label) where
  abbrev m : Assignment
  m = c.program

  abbrev r : Resolution
  r = c.program.typed

  -- the mutex of a global, by its first cell
  record IsLockGlobal (g : ℕ) : Type 0 where
    field : Field
    has : HasField (targets_of m) code q (Cell.Global g (first_cell c.globals g)) field
    mutex : field.holds ≡ MutexWord
    place : first_cell c.globals g ≡ first_cell c.globals g - 2 + 2
    inside : IsInGlobal code g (first_cell c.globals g - 2 + 2)

  lock_global : (g : ℕ) → named_kind r (Named.Global g) ≡ mutex → IsLockGlobal g
  lock_global g kind =
      let w = mutex_global m g kind in
      let cell = global_cell_at globals_are m code tables q g w.global w.at 0 w.some w.inside in
      let low = first_low m g w.global w.at in
      let first : first_cell (globals_of r) g + 0 ≡ first_cell (globals_of r) g = omega arith in
      let same : first_cell (globals_of r) g ≡ first_cell c.globals g = ap (λ l. first_cell l g) (sym globals) in
      let has : HasField (targets_of m) code q (Cell.Global g (first_cell c.globals g)) (slice_index_or (global_element m w.global) 0 no_field) =
      subst (λ p. HasField (targets_of m) code q (Cell.Global g p) (slice_index_or (global_element m w.global) 0 no_field)) (first ∙ same) cell.there.field in
      let place : first_cell c.globals g ≡ first_cell c.globals g - 2 + 2 = omega (arith, low, same) in
      record { field = slice_index_or (global_element m w.global) 0 no_field; has = has; mutex = w.holds; place = place; inside = subst (IsInGlobal code g) place has.0 }

  -- what the mode of an access asks for, where the cell has this mode in the table
  record ReachesAs (write : Bool) (a : Cell) (spot : Spot) (holds : Content) (mode : FieldMode) : Type 0 where
    is : IsMode code q a mode spot.mode
    may : MayPass (targets_of m) code ls false q write a (lock_of spot spot.mode) holds mode

  -- what stands around the cell for its mode
  abbrev pub Around : Cell → Field → ℕ → List Sharing → Cell → FieldMode → Type 0
  Around a f n list lock (own.Behind x p) = (b : Cell) × (g : Field) × ArePairOf m code q n p a b f g × PointsToMutex (targets_of m) g × (q.gate ≡ Loaded b)
  Around a f n list lock (Under (OfElement x k)) = (q.gate ≡ Closed) × ((b : Cell) × (g : Field) × ArePairOf m code q n k a b f g × (g.holds ≡ MutexWord) × (lock ≡ b))
  Around a f n list lock (Under (OfType k)) = (q.gate ≡ Closed) × ((x : ℕ) × (s : StaticType) × IsOnBase a x × (q.env x ≡ Refers s) × (s.locks ≡ locks_at c list))
  Around a f n list lock _ = q.gate ≡ Closed

  -- a lock of the element's type
  type_lock : (a : Cell) (x : ℕ) (s : StaticType) (lock : TypeLock) (rest : List TypeLock) → IsOnBase a x → q.env x ≡ Refers s → s.locks ≡ lock ∷ rest → (mode : PlaceMode) → IsLockMode code q x lock mode → IsTypeMode code q 0 a mode
  type_lock (Cell.Global g p) x s lock rest on refers locks mode is = absurd on
  type_lock (Cell.GlobalAt g i) x s lock rest on refers locks mode is = absurd on
  type_lock _ x s lock rest on refers locks mode is =
      (s, subst (λ z. q.env z ≡ Refers s) (sym on) refers, subst (λ z. IsLockMode code q z (slice_index_or s.locks 0 no_lock) mode) (sym on) (subst (λ l. IsLockMode code q x (slice_index_or l 0 no_lock) mode) (sym locks) is))

  type_cell : (a : Cell) (x : ℕ) (s : StaticType) (lock : TypeLock) (rest : List TypeLock) → IsOnBase a x → q.env x ≡ Refers s → s.locks ≡ lock ∷ rest → (b : Cell) → IsLockCell code q x lock b → IsTypeLock code q 0 a b
  type_cell (Cell.Global g p) x s lock rest on refers locks b is = absurd on
  type_cell (Cell.GlobalAt g i) x s lock rest on refers locks b is = absurd on
  type_cell _ x s lock rest on refers locks b is =
      (s, subst (λ z. q.env z ≡ Refers s) (sym on) refers, subst (λ l. 0 < length l) (sym locks) (omega arith), subst (λ z. IsLockCell code q z (slice_index_or s.locks 0 no_lock) b) (sym on) (subst (λ l. IsLockCell code q x (slice_index_or l 0 no_lock) b) (sym locks) is))

  -- by its path
  by_type : (n : ℕ) (a : Cell) (l : Lock) (below : List Sharing) (write : Bool) (spot : Spot) (holds : Content) → spot.mode ≡ mode_named c n l (named_at r l.first) l.second → LockStands c code q l → q.gate ≡ Closed
      → (x : ℕ) (s : StaticType) → IsOnBase a x → q.env x ≡ Refers s → s.locks ≡ lock_at c l ∷ locks_at c below → ReachesAs write a spot holds (Under (OfType 0))
  by_type n a l below write spot holds mode_is (of_global g names kind) closed x s on refers locks =
      let w = lock_global g kind in
      let lock_is : lock_at c l ≡ types.Lock.Global (first_cell c.globals g - 2) = ap (λ z. lock_named c z l.second) names in
      let spot_is : spot.mode ≡ PlaceMode.LockedGlobal g (first_cell c.globals g) = mode_is ∙ ap (λ z. mode_named c n l z l.second) names in
      let all = locks ∙ ap (λ z. z ∷ locks_at c below) lock_is in
      record {
        is = subst (IsTypeMode code q 0 a) (sym spot_is) (type_lock a x s (types.Lock.Global (first_cell c.globals g - 2)) (locks_at c below) on refers all (PlaceMode.LockedGlobal g (first_cell c.globals g)) (g, ap (PlaceMode.LockedGlobal g) w.place, w.inside));
        may = (
          closed,
          subst (λ z. IsLockedBy (targets_of m) code q (OfType 0) a (lock_of spot z)) (sym spot_is)
              (record { field = w.field; has = w.has; mutex = w.mutex; is = type_cell a x s (types.Lock.Global (first_cell c.globals g - 2)) (locks_at c below) on refers all (Cell.Global g (first_cell c.globals g)) (w.place, w.has.0) }),
        );
      }
  by_type n a l below write spot holds mode_is (of_variable v name t names second is_ref entry inside mutex_there) closed x s on refers locks =
      let lock_is : lock_at c l ≡ types.Lock.Through (register c v) (field_place_behind r v name) = ap (λ z. lock_named c z l.second) names ∙ ap (lock_named c (Named.Variable v)) second in
      let spot_is : spot.mode ≡ PlaceMode.LockedThrough (register c v) (field_place_behind r v name) = mode_is ∙ ap (λ z. mode_named c n l z l.second) names ∙ ap (mode_named c n l (Named.Variable v)) second in
      let all = locks ∙ ap (λ z. z ∷ locks_at c below) lock_is in
      record {
        is = subst (IsTypeMode code q 0 a) (sym spot_is)
            (type_lock a x s (types.Lock.Through (register c v) (field_place_behind r v name)) (locks_at c below) on refers all (PlaceMode.LockedThrough (register c v) (field_place_behind r v name)) (register c v, refl, Itself refl));
        may = (
          closed,
          subst (λ z. IsLockedBy (targets_of m) code q (OfType 0) a (lock_of spot z)) (sym spot_is)
              (record {
                field = types.field_at (targets_of m) t.target (field_place_behind r v name);
                has = (is_ref, (t, entry, inside, refl));
                mutex = mutex_there;
                is = type_cell a x s (types.Lock.Through (register c v) (field_place_behind r v name)) (locks_at c below) on refers all (Cell.Object (register c v) (field_place_behind r v name)) (refl, Itself refl);
              }),
        );
      }

  reaches_as : (n : ℕ) (list : List Sharing) (mode : Sharing) (a : Cell) (f : Field) → IsCellOf m code q n a f → (fm : FieldMode) → ModeFits r n list mode fm → (write : Bool) (spot : Spot) (holds : Content) → spot.mode ≡ place_mode c n mode → IsFairAccess c code ls q write a list mode
      → Around a f n list spot.lock fm → ReachesAs write a spot holds fm
  reaches_as n list _ a x cell _ is_private write spot holds mode_is fair around = record { is = mode_is; may = (around, fair.own refl) }
  reaches_as n list _ a x cell _ is_readonly write spot holds mode_is fair around = record { is = mode_is; may = (around, fair.reads refl) }
  reaches_as n list _ a x cell _ (locked_by_type {l} {below} starts) write spot holds mode_is fair (closed, (y, s, on, refers, locks)) =
      by_type n a l below write spot holds mode_is (fair.path l below starts refl) closed y s on refers (locks ∙ ap (locks_at c) starts)
  reaches_as n list _ a x cell _ (locked_by_global {l} {g} names kind) write spot holds mode_is fair closed =
      let w = lock_global g kind in
      let same : first_cell (globals_of r) g ≡ first_cell c.globals g = ap (λ z. first_cell z g) (sym globals) in
      let spot_is : spot.mode ≡ PlaceMode.LockedGlobal g (first_cell c.globals g) = mode_is ∙ ap (λ z. mode_named c n l z l.second) names in
      let fm_is : OfGlobals (first_cell c.globals g - 2) ≡ OfGlobals (first_cell (globals_of r) g - 2) = ap (λ k. OfGlobals (k - 2)) (sym same) in
      subst (λ z. ReachesAs write a spot holds (Under z)) fm_is
      (record {
        is = subst (λ z. IsLockMode code q 0 (types.Lock.Global (first_cell c.globals g - 2)) z) (sym spot_is) (g, ap (PlaceMode.LockedGlobal g) w.place, w.inside);
        may = (
          closed,
          subst (λ z. IsLockedBy (targets_of m) code q (OfGlobals (first_cell c.globals g - 2)) a (lock_of spot z)) (sym spot_is)
              (record { field = w.field; has = w.has; mutex = w.mutex; is = (w.place, w.has.0) }),
        );
      })
  reaches_as n list _ a x cell _ (locked_by_sibling {l} {f} names plain) write spot holds mode_is fair (closed, (b, g, pair, mutex_there, lock_is)) =
      let spot_is : spot.mode ≡ PlaceMode.LockedSibling n (field_place r f) = mode_is ∙ ap (λ z. mode_named c n l z l.second) names ∙ ap (λ z. mode_beside z n (field_place r f)) plain in
      record {
        is = (spot_is, cell.before);
        may = (
          closed,
          subst (λ z. IsLockedBy (targets_of m) code q (OfElement n (field_place r f)) a (lock_of spot z)) (sym spot_is)
              (subst (IsLockedBy (targets_of m) code q (OfElement n (field_place r f)) a) (sym lock_is) (record { field = g; has = pair.second.there.field; mutex = mutex_there; is = pair.sibling })),
        );
      }
  reaches_as n list _ a x cell _ (locked_behind {l} {f} names behind) write spot holds mode_is fair (b, g, pair, points, loaded) = record {
    is = mode_is ∙ ap (λ z. mode_named c n l z l.second) names ∙ ap (λ z. mode_beside z n (field_place r f)) behind;
    may = record { cell = b; of = g; loaded = loaded; has = pair.second.there; points = points; sibling = pair.sibling };
  }
  reaches_as n list _ a x cell _ _ write spot holds mode_is fair around = record { is = mode_is; may = around }

  pub reaches : (n : ℕ) (list : List Sharing) (mode : Sharing) (a : Cell) (f : Field) → IsCellOf m code q n a f → ModeFits r n list mode f.mode → (write : Bool) (spot : Spot) → spot.mode ≡ place_mode c n mode → IsFairAccess c code ls q write a list mode
      → Around a f n list spot.lock f.mode → Reaches c code ls q write a spot f
  reaches n list mode a f cell fit write spot mode_is fair around =
      let w = reaches_as n list mode a f cell f.mode fit write spot f.holds mode_is fair around in
      record { cell_there = cell.there; mode = w.is; may = w.may }

  -- ---- what stands around it
  -- by the field beside it that its mode names
  gated_named : (guard : ℕ → Cell) (l : Lock) (n : Named) → named_at r l.first ≡ n → IsGated q guard (guard_field r (locked l)) → IsGated q guard (guard_named r l n)
  gated_named guard l n names gated = subst (λ z. IsGated q guard (guard_named r l z)) names gated

  path_closed : (guard : ℕ → Cell) (l : Lock) → LockStands c code q l → IsGated q guard (guard_field r (locked l)) → q.gate ≡ Closed
  path_closed guard l (of_global g names kind) gated = gated_named guard l (Named.Global g) names gated
  path_closed guard l (of_variable x name s names second is_ref refers inside there) gated = gated_named guard l (Named.Variable x) names gated

  pub record HasAround (n : ℕ) (list : List Sharing) (mode : Sharing) (a : Cell) (guard : ℕ → Cell) (fields : List Field) (lock : Cell) : Type 0 where
    pub gated : IsGated q guard (guard_field r mode)
    pub lock_is : (k : ℕ) → beside_field r mode ≡ Some k → lock ≡ guard k
    pub pair : (k : ℕ) → beside_field r mode ≡ Some k → k < length fields → ArePairOf m code q n k a (guard k) (slice_index_or fields n no_field) (slice_index_or fields k no_field)
    pub path : (l : Lock) (below : List Sharing) → list ≡ locked l ∷ below → mode ≡ locked l → LockStands c code q l
    pub typed : (l : Lock) (below : List Sharing) → list ≡ locked l ∷ below → (x : ℕ) × (s : StaticType) × IsOnBase a x × (q.env x ≡ Refers s) × (s.locks ≡ locks_at c list)

  pub around : (n : ℕ) (list : List Sharing) (mode : Sharing) (a : Cell) (guard : ℕ → Cell) (fields : List Field) (lock : Cell) → HasAround n list mode a guard fields lock → (fm : FieldMode) → ModeFits r n list mode fm → BesideFits m fields fm
      → Around a (slice_index_or fields n no_field) n list lock fm
  around n list _ a guard fields lock has _ (locked_by_type {l} {below} starts) beside = (path_closed guard l (has.path l below starts refl) has.gated, has.typed l below starts)
  around n list _ a guard fields lock has _ (locked_by_global {l} {g} names kind) beside = gated_named guard l (Named.Global g) names has.gated
  around n list _ a guard fields lock has _ (locked_by_sibling {l} {f} names plain) beside =
      let is = beside_is r l f names in (
        subst (IsGated q guard) (guard_is r l f false names plain) has.gated,
        (guard (field_place r f), slice_index_or fields (field_place r f) no_field, has.pair (field_place r f) is beside.0, beside.1, has.lock_is (field_place r f) is),
      )
  around n list _ a guard fields lock has _ (locked_behind {l} {f} names behind) beside =
      let is = beside_is r l f names in
      (guard (field_place r f), slice_index_or fields (field_place r f) no_field, has.pair (field_place r f) is beside.0, beside.1, subst (IsGated q guard) (guard_is r l f true names behind) has.gated)
  around n list _ a guard fields lock has _ _ beside = has.gated
