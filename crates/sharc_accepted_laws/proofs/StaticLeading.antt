-- The lock paths of the types of expressions lead to mutexes: those that are written by M4, and those that the uses of fields make by M11 and the fields' types.
use Rattle.sharc_accepted_laws.proofs.{Imports.{◌≡◌, ◌⊎◌, inl, inr, ⊎_elim, ℕ, suc, ◌+◌, ◌<◌, true, cond, ◌&&◌, List, [], ◌∷◌, ◌++◌, length, map, drop, slice_get, refl, ap, sym, ◌∙◌, subst, arith, Option, Some, None, is_none, Contains, false≢true, AllByRecursion, Base, Mode, Locked, Path, One, Through as PathThrough, Span, Declaration, Identifier, WrittenType, FieldOperator, Dot, Arrow, GlobalDefinition, StructDefinition, expressions, in_function, Expression, Function, Named, Kind, object, mutex, declared_kind, field_of, Role, Entity, Numbered, declared, cast_entity, result_of, entity_at, notes_about, Resolution, named_at, declaration_at, variable_kind, named_kind, global_at, function_at, globals_in, functions_in, structs_in, kind_at, locals_in_all, HasType, Callee, IsMemberOf, struct_named, of_program, of_conditions, a_variable, a_global, a_function, a_field, a_field_behind, IsItself, NamesOwn, NamesOwnVariables, IsFound, EachTypeFound, EachNameOnce, OnlyNames, EachNamesItself, EachNamesOwn, EachPathFound, MeetsConstraints, OneType, IsNamedPath, IsNamedLevel, IsNamedType, Place, Assignment, PathReading, written, through, constant_use, base_use, lock_through, read, entity_row, declared_row, global_row, named_row, result_row, called_row, behind, reading_through, row_at, modes_of, modes_at, field_target, settled_modes, Lock, Sharing, locked, lock_of, sharing_of, text_at, is_field, is_sibling_lock, leaves_open, place_of, IsExpression, IsEntity, RulesAreMet, IsMutexBehind, IsAllowed, global_mutex, sibling_mutex, sibling_pointer, through_constant, MeetsRules, IsAccepted, LeadsToMutex, by_global, by_variable, LeadsIfLocked, AllLead, ExpressionsLead, FieldsPlaced, IsOwn, IsCastFound, HasOwn, OwnAreFound, same_some, none_some, each, head_there, head_or_tail, of_each, to_each, tail_there, none_there, place_there}, Noted.{AllSay, all_say}, Origins.{reading_kept, same_lock}, RowModes.{RowHolds, modes_hold, rows_hold}, Passed.{use_named, first_kind}, Places.{InFile, FileKnown, file_known, at_number, IfSome, a_member}, Points.{NamesField, ModeOf, LevelOf, allowed_row, shown_modes, entity_is, through_used}, StaticSiblings.{found_there, points_to, is_beside}, Written.{raw, row_settled, open_good}, Laying.named_there as struct_there}
use Rattle.sharc_tree.specs.Tree as tree

-- ---- levels
placed_each : {A : Type 0} (P : A → Type 0) (list : List A) → ((k : ℕ) (x : A) → slice_get list k ≡ Some x → P x) → AllByRecursion P list
placed_each P [] f = tt
placed_each P (x ∷ rest) f = (f 0 x refl, placed_each P rest (λ k y is. f (suc k) y is))

after_top : (levels : List (Option Mode)) (k : ℕ) (x : Option Mode) → slice_get (drop 1 levels) k ≡ Some x → slice_get levels (suc k) ≡ Some x
after_top [] k x is = absurd (none_some x is)
after_top (top ∷ rest) k x is = is

target_written : (levels : List (Option Mode)) (path : Path) → field_target levels ≡ Locked path → slice_get levels 0 ≡ Some (Some (Locked path))
target_written (Some mode ∷ below) path is = ap (λ z. Some (Some z)) is
target_written _ path is = absurd (cc)

-- no target without a mode of its own but a mutex leaves nothing to be meant
all_written : (b : Base) (levels : List (Option Mode)) → ((k : ℕ) → slice_get levels k ≡ Some None → (b ≡ Base.Mutex) × (k + 1 ≡ length levels)) → leaves_open b levels ≡ true → ⊥
all_written b [] h free = false≢true free
all_written b (Some mode ∷ below) h free = all_written b below (λ k is. let w = h (suc k) is in let count = w.1 in (w.0, omega (arith, count))) free
all_written b (None ∷ []) h free = false≢true (subst (λ z. leaves_open z (None ∷ []) ≡ true) (h 0 refl).0 free)
all_written b (None ∷ y ∷ below) h free = let count = (h 0 refl).1 in omega (arith, count)

below_top : (b : Base) (levels : List (Option Mode)) → ((depth : ℕ) → 0 < depth → slice_get levels depth ≡ Some None → (b ≡ Base.Mutex) × (depth + 1 ≡ length levels))
    → (k : ℕ) → slice_get (drop 1 levels) k ≡ Some None → (b ≡ Base.Mutex) × (k + 1 ≡ length (drop 1 levels))
below_top b [] h k is = absurd (none_some None is)
below_top b (top ∷ rest) h k is = let w = h (suc k) (omega arith) is in let count = w.1 in (w.0, omega (arith, count))

-- ---- paths of the types of fields
-- a global mutex, or a sibling that is one
data FieldLeads (r : Resolution) (d : Declaration) : Path → Type 0 where
  names_global : {text : List ℕ} {token g : ℕ} → named_at r token ≡ Named.Global g → named_kind r (Named.Global g) ≡ mutex → FieldLeads r d (One text token)
  names_sibling : {text : List ℕ} {token t : ℕ} → named_at r token ≡ Named.Field t → named_kind r (Named.Field t) ≡ mutex → Contains d.written.ctype.levels (Some (Locked (One text token))) → FieldLeads r d (One text token)

-- a pointer to a mutex is named on the top alone, and where no target takes its mode from there
one_field : (r : Resolution) (d : Declaration) (depth : ℕ) (path : Path) → IsAllowed r (declared Role.Field d) depth path → Contains d.written.ctype.levels (Some (Locked path))
    → (depth ≡ 0 → leaves_open d.written.ctype.base (drop 1 d.written.ctype.levels) ≡ true) → FieldLeads r d path
one_field r d depth _ (global_mutex names kind) has free = names_global names kind
one_field r d depth _ (sibling_mutex at names kind) has free = names_sibling names kind has
one_field r d depth _ (sibling_pointer at top names pointer alone) has free = absurd (all_written d.written.ctype.base (drop 1 d.written.ctype.levels) (below_top d.written.ctype.base d.written.ctype.levels alone) (free top))
one_field r d depth _ (through_constant at names constant behind) has free = absurd (cc)

in_either : (r : Resolution) (d : Declaration) (path : Path) → FieldLeads r d path → LeadsToMutex r (lock_of path) ⊎ NamesField r (lock_of path)
in_either r d _ (names_global {g = g} names kind) = inl (by_global g names kind)
in_either r d _ (names_sibling {t = t} names kind has) = inr (refl, (t, names))

-- ---- names
no_callee : (r : Resolution) (i : Identifier) (parameters : List Kind) (result : Kind) (t : ℕ) → Callee r i parameters result → named_at r i.site.token ≡ Named.Field t → ⊥
no_callee r i _ _ t (of_program f names at text main) is = cc (sym names ∙ is)
no_callee r i _ _ t (of_conditions c names text) is = cc (sym names ∙ is)

-- an expression is no field's name
no_field_name : (r : Resolution) (s : Span) (i : Identifier) (k : Kind) (t : ℕ) → HasType r (tree.identifier s i) k → named_at r i.site.token ≡ Named.Field t → ⊥
no_field_name r s i _ t (a_variable names at text) is = cc (sym names ∙ is)
no_field_name r s i _ t (a_global names at text) is = cc (sym names ∙ is)
no_field_name r s i _ t (a_function {parameters = ps} {result = k} callee) is = no_callee r i ps k t callee is

token_there : (list : List Declaration) (t : ℕ) → Contains (map (λ d. d.name.site.token) list) t → (d : Declaration) × Contains list d × (d.name.site.token ≡ t)
token_there [] t has = absurd (none_there t has)
token_there (x ∷ rest) t has =
    ⊎_elim (λ is. (x, head_there x rest, is)) (λ later. let w = token_there rest t later in (w.0, tail_there x w.0 rest w.1, w.2)) (head_or_tail x.name.site.token t (map (λ d. d.name.site.token) rest) has)

module _ (rules : RulesAreMet) (fields_placed : FieldsPlaced) (own_found : OwnAreFound) (found : EachTypeFound) (paths : EachPathFound) (constraints : MeetsConstraints) (one_type : OneType) (once : EachNameOnce) (only : OnlyNames)
    (itself : EachNamesItself) (names_own : EachNamesOwn) (m : Assignment) (a : IsAccepted m) where
  abbrev r : Resolution
  r = m.typed

  meets : MeetsRules m
  meets = (rules m).0 a.well

  say : AllSay r (notes_about r.program)
  say = all_say once only r a.resolved a.placed a.low

  file : FileKnown r r.program.items
  file = file_known r r.program.items (found r a.resolved a.placed a.low) (paths r a.resolved a.placed a.low).types

  -- ---- written paths of what is no field
  through_leads : (token x : ℕ) (text name : List ℕ) → named_at r token ≡ Named.Variable x → (w : IsMutexBehind r x name) → IsNamedPath r (PathThrough text token name) → LeadsToMutex r (lock_of (PathThrough text token name))
  through_leads token x text name names w is =
      let kind : variable_kind (declaration_at r x) ≡ object (Base.Struct is.0) 1 = first_kind r token text (object (Base.Struct is.0) 1) is.2 x names in
      let own_kind : declared_kind w.variable.written ≡ object (Base.Struct is.0) 1 = sym (ap variable_kind w.declared) ∙ kind in
      let member : IsMemberOf r is.0 name is.1 = is.3 in
      let to = points_to r fields_placed a.placed say x w.variable is.0 member.0 w.declared own_kind member.1 in
      let number : to.number ≡ w.number = cc (sym to.names ∙ w.names) in
      let struct : member.0 ≡ w.struct = same_some member.0 w.struct (sym to.is ∙ ap (slice_get (structs_in r.program.items)) number ∙ w.defined) in
      by_variable x name is.0 names refl w own_kind (member.1 ∙ ap Some struct)

  path_leads : (e : Entity) (depth : ℕ) (path : Path) → (place_of e.role ≡ Place.Field → ⊥) → IsNamedPath r path → IsAllowed r e depth path → LeadsToMutex r (lock_of path)
  path_leads e depth _ other is (global_mutex {g = g} names kind) = by_global g names kind
  path_leads e depth _ other is (sibling_mutex at names kind) = absurd (other at)
  path_leads e depth _ other is (sibling_pointer at top names pointer alone) = absurd (other at)
  path_leads e depth _ other is (through_constant {text = text} {m = name} {token = token} {x = x} at names constant behind) = through_leads token x text name names behind is

  entity_leads : (n : Numbered) → IsEntity m n → (place_of n.entity.role ≡ Place.Field → ⊥) → IsNamedType r n.entity.written → AllLead m (modes_of m (entity_row written (Some n)))
  entity_leads n is other named_type =
      subst (λ z. AllLead m (map (λ mode. read r z (sharing_of mode)) (raw m (entity_row written (Some n))))) (sym (reading_kept n.entity.role _))
      (shown_modes rules m a (LeadsToMutex r) (raw m (entity_row written (Some n)))
      (allowed_row rules m a (λ path. LeadsToMutex r (lock_of path)) written n is
      (λ depth path allowed has. path_leads n.entity depth path other (of_each (IsNamedLevel r) n.entity.written.ctype.levels (Some (Locked path)) named_type.levels has) allowed)))

  found_leads : (e : Entity) → IsFound r e → (place_of e.role ≡ Place.Field → ⊥) → AllLead m (modes_of m (entity_row written (entity_at r e.token e.last)))
  found_leads e f other =
      subst (λ o. AllLead m (modes_of m (entity_row written o))) (sym f.found)
      (entity_leads f.numbered (entity_is rules m a e f) (λ at. other (sym (ap (λ (x : Entity). place_of x.role) f.itself) ∙ at)) (subst (λ (x : Entity). IsNamedType r x.written) (sym f.itself) f.named))

  -- ---- parameters, locals and casts of a function
  has_own : (f : Function) → Contains (functions_in r.program.items) f → HasOwn r f
  has_own f has = of_each (HasOwn r) (functions_in r.program.items) f (own_found r a.resolved a.placed a.low) has

  variable_leads : (s : Span) (i : Identifier) (t : ℕ) → IsExpression m (tree.identifier s i) → named_at r i.site.token ≡ Named.Variable t → AllLead m (modes_of m (declared_row r written t))
  variable_leads s i t there names = subst (λ z. AllLead m (modes_of m (declared_row r written z))) at.2 (found_leads (declared w.what at.0) w.found (λ h. cc (sym w.is_local ∙ h)))
    where
      f : Function
      f = there.owner

      named_own : NamesOwn r (f.parameters ++ locals_in_all f.statements) (tree.identifier s i)
      named_own =
          of_each (NamesOwn r (f.parameters ++ locals_in_all f.statements)) (in_function f) (tree.identifier s i)
          (of_each (NamesOwnVariables r) (functions_in r.program.items) f (names_own r a.resolved a.placed a.low) there.stands) there.inside

      at : (d : Declaration) × Contains (f.parameters ++ locals_in_all f.statements) d × (d.name.site.token ≡ t)
      at = token_there (f.parameters ++ locals_in_all f.statements) t (named_own t names)

      w : IsOwn r at.0
      w = of_each (IsOwn r) (f.parameters ++ locals_in_all f.statements) at.0 (has_own f there.stands).variables at.1

  cast_leads : (s : Span) (t : WrittenType) (e : Expression) → IsExpression m (tree.cast s t e) → AllLead m (modes_of m (entity_row written (entity_at r s.first.token s.last.token)))
  cast_leads s t e there =
      found_leads (cast_entity s t) (of_each (IsCastFound r) (in_function there.owner) (tree.cast s t e) (has_own there.owner there.stands).cast_types there.inside) (λ e. cc)

  -- ---- globals and results
  global_leads : (o : Option GlobalDefinition) → IfSome (λ g. InFile r (declared Role.Global g.declaration)) o → AllLead m (modes_of m (global_row r written o))
  global_leads None h = tt
  global_leads (Some g) h = found_leads (declared Role.Global g.declaration) h.0 (λ e. cc)

  result_leads : (o : Option Function) → IfSome (λ f. InFile r (result_of f)) o → AllLead m (modes_of m (result_row r o))
  result_leads None h = tt
  result_leads (Some f) h = found_leads (result_of f) h.0 (λ e. cc)

  called_leads : (n : Named) → AllLead m (modes_of m (called_row r n))
  called_leads (Named.Function n) = result_leads (function_at r n) (at_number (λ f. InFile r (result_of f)) (functions_in r.program.items) n file.results)
  called_leads _ = tt

  -- ---- fields
  module _ (d : Declaration) (f : IsFound r (declared Role.Field d)) where
    allowed : (depth : ℕ) (path : Path) → slice_get d.written.ctype.levels depth ≡ Some (Some (Locked path)) → IsAllowed r (declared Role.Field d) depth path
    allowed depth path is =
        subst (λ (x : Entity). IsAllowed r x depth path) f.itself
        (meets.m4.forms f.numbered depth path (entity_is rules m a (declared Role.Field d) f) (subst (λ (x : Entity). slice_get x.written.ctype.levels depth ≡ Some (Some (Locked path))) (sym f.itself) is))

    each_below : (k : ℕ) (x : Option Mode) → slice_get (drop 1 d.written.ctype.levels) k ≡ Some x → LevelOf (FieldLeads r d) x
    each_below k None is = tt
    each_below k (Some mode) is = λ path e.
        let w : slice_get d.written.ctype.levels (suc k) ≡ Some (Some (Locked path)) = after_top d.written.ctype.levels k (Some (Locked path)) (is ∙ ap (λ z. Some (Some z)) e) in
        one_field r d (suc k) path (allowed (suc k) path w) (place_there d.written.ctype.levels (suc k) (Some (Locked path)) w) (λ none. absurd (omega (arith, none)))

    top_good : leaves_open d.written.ctype.base (drop 1 d.written.ctype.levels) ≡ true → LevelOf (FieldLeads r d) (Some (field_target d.written.ctype.levels))
    top_good free = λ path e.
        let w : slice_get d.written.ctype.levels 0 ≡ Some (Some (Locked path)) = target_written d.written.ctype.levels path e in
        one_field r d 0 path (allowed 0 path w) (place_there d.written.ctype.levels 0 (Some (Locked path)) w) (λ none. free)

    levels_good : AllByRecursion (LevelOf (FieldLeads r d)) (settled_modes f.numbered.entity)
    levels_good =
        subst (λ (x : Entity). AllByRecursion (LevelOf (FieldLeads r d)) (settled_modes x)) (sym f.itself)
        (open_good (ModeOf (FieldLeads r d)) (λ path e. absurd (cc)) (λ path e. absurd (cc)) (λ path e. absurd (cc)) d.written.ctype.base (Some (field_target d.written.ctype.levels)) (drop 1 d.written.ctype.levels)
        (placed_each (LevelOf (FieldLeads r d)) (drop 1 d.written.ctype.levels) each_below) top_good)

    field_raw : (how : PathReading) → AllByRecursion (ModeOf (FieldLeads r d)) (raw m (entity_row how (Some f.numbered)))
    field_raw how =
        row_settled (ModeOf (FieldLeads r d)) (λ path e. absurd (cc)) (λ path e. absurd (cc)) (λ path e. absurd (cc)) m a.least how f.numbered (entity_is rules m a (declared Role.Field d) f) levels_good

    -- used without a constant variable, by M11
    field_written : (s : Span) (e : Expression) (w : FieldOperator) (name : Identifier) → IsExpression m (tree.field s e w name) → base_use r w e ≡ None → named_at r name.site.token ≡ Named.Field d.name.site.token → AllLead m (modes_of m (declared_row r written d.name.site.token))
    field_written s e w name there none names = to_each (LeadsIfLocked r) modes one
      where
        modes : List Sharing
        modes = modes_of m (declared_row r written d.name.site.token)

        forms : AllByRecursion (λ z. (l : Lock) → z ≡ locked l → LeadsToMutex r l ⊎ NamesField r l) modes
        forms =
            let n = f.numbered in
            subst (λ o. AllByRecursion (λ z. (l : Lock) → z ≡ locked l → LeadsToMutex r l ⊎ NamesField r l) (modes_of m (entity_row written o))) (sym f.found)
            (subst (λ z. AllByRecursion (λ z. (l : Lock) → z ≡ locked l → LeadsToMutex r l ⊎ NamesField r l) (map (λ mode. read r z (sharing_of mode)) (raw m (entity_row written (Some n))))) (sym (reading_kept n.entity.role _))
            (shown_modes rules m a (λ l. LeadsToMutex r l ⊎ NamesField r l) (raw m (entity_row written (Some n)))
            (each (ModeOf (FieldLeads r d)) (ModeOf (λ path. LeadsToMutex r (lock_of path) ⊎ NamesField r (lock_of path))) (λ mode k path z. in_either r d path (k path z)) (raw m (entity_row written (Some n))) (field_raw written))))

        no_sibling : (l : Lock) → Contains modes (locked l) → NamesField r l → ⊥
        no_sibling l has k =
            let sibling : is_sibling_lock r l ≡ true = ap (λ z. is_field (named_at r l.first) && is_none z) k.0 ∙ ap (λ z. is_field z && true) k.1.1 in
            let target : Contains (modes_of m (named_row r written (named_at r name.site.token))) (locked l) = subst (λ z. Contains (modes_of m (named_row r written z)) (locked l)) (sym names) has in
            let use_found = meets.m11 e w (record { span = s; name = name; stands = there; lock = l; target = target; sibling = sibling }) in
            through_used rules m a w e use_found.0 use_found.1 none

        one : (z : Sharing) → Contains modes z → LeadsIfLocked r z
        one z has l is = by (of_each (λ z. (l : Lock) → z ≡ locked l → LeadsToMutex r l ⊎ NamesField r l) modes z forms has l is)
          where
            by : LeadsToMutex r l ⊎ NamesField r l → LeadsToMutex r l
            by (inl g) = g
            by (inr k) = absurd (no_sibling l (subst (Contains modes) is has) k)

    -- through the constant variable x, which points to the field's struct
    module _ (at x : ℕ) (names : named_at r at ≡ Named.Variable x) (struct : List ℕ) (s : StructDefinition) (kind : variable_kind (declaration_at r x) ≡ object (Base.Struct struct) 1) (is : struct_named (structs_in r.program.items) struct ≡ Some s)
        (member : Contains s.fields d) where
      is_itself : (e : Declaration) → Contains s.fields e → IsItself r Named.Field e
      is_itself e has =
          of_each (IsItself r Named.Field) s.fields e
          (of_each (λ (z : StructDefinition). AllByRecursion (IsItself r Named.Field) z.fields) (structs_in r.program.items) s (itself r a.resolved a.placed a.low).fields (struct_there (structs_in r.program.items) struct s is)) has

      sibling_leads : (text : List ℕ) (token t : ℕ) → Contains d.written.ctype.levels (Some (Locked (One text token))) → named_at r token ≡ Named.Field t → named_kind r (Named.Field t) ≡ mutex → LeadsToMutex r (record { first = at; second = Some (text_at r token) })
      sibling_leads text token t level names_t kind_t = by (declaration_at r x) refl kind
        where
          by : (o : Option Declaration) → declaration_at r x ≡ o → variable_kind o ≡ object (Base.Struct struct) 1 → LeadsToMutex r (record { first = at; second = Some (text_at r token) })
          by None declared_x k = absurd (cc)
          by (Some v) declared_x k =
              let b = is_beside r fields_placed a.placed say s d text token t (struct_there (structs_in r.program.items) struct s is) member level names_t in
              let to = points_to r fields_placed a.placed say x v struct s declared_x k is in
              let own = is_itself b.found (found_there s.fields text b.found b.has) in
              let kind_b : declared_kind b.found.written ≡ mutex = sym (ap variable_kind own.1) ∙ ap (λ z. variable_kind (declaration_at r z)) (sym b.is) ∙ kind_t in
              let behind_x : IsMutexBehind r x (text_at r token) = record {
                variable = v;
                declared = declared_x;
                number = to.number;
                names = to.names;
                struct = s;
                defined = to.is;
                member = b.found;
                has = ap (field_of s.fields) b.text_is ∙ b.has;
                mutex = kind_b;
              } in
              by_variable x (text_at r token) struct names refl behind_x k is

      through_one : (path : Path) → FieldLeads r d path → LeadsToMutex r (lock_through r at (lock_of path))
      through_one _ (names_global {text = text} {token = token} {g = g} names_g kind_g) =
          subst (λ b. LeadsToMutex r (cond b (record { first = at; second = Some (text_at r token) }) (lock_of (One text token)))) (sym (ap (λ z. is_field z && true) names_g)) (by_global g names_g kind_g)
      through_one _ (names_sibling {text = text} {token = token} {t = t} names_t kind_t has) =
          subst (λ b. LeadsToMutex r (cond b (record { first = at; second = Some (text_at r token) }) (lock_of (One text token)))) (sym (ap (λ z. is_field z && true) names_t)) (sibling_leads text token t has names_t kind_t)

      shown_through : (list : List Mode) → AllByRecursion (ModeOf (FieldLeads r d)) list → AllLead m (map (λ mode. read r (through at) (sharing_of mode)) list)
      shown_through [] h = tt
      shown_through (z ∷ rest) h = (one z h.0, shown_through rest h.1)
        where
          one : (mode : Mode) → ModeOf (FieldLeads r d) mode → (l : Lock) → read r (through at) (sharing_of mode) ≡ locked l → LeadsToMutex r l
          one (Locked path) k l e = subst (LeadsToMutex r) (same_lock (lock_through r at (lock_of path)) l e) (through_one path (k path refl))
          one _ k l e = absurd (cc)

      field_through : AllLead m (modes_of m (declared_row r (through at) d.name.site.token))
      field_through =
          let n = f.numbered in
          subst (λ o. AllLead m (modes_of m (entity_row (through at) o))) (sym f.found)
          (subst (λ z. AllLead m (map (λ mode. read r z (sharing_of mode)) (raw m (entity_row (through at) (Some n))))) (sym (reading_kept n.entity.role _))
          (shown_through (raw m (entity_row (through at) (Some n))) (field_raw (through at))))

  typed_at : (e : Expression) → IsExpression m e → HasType r e (kind_at r e)
  typed_at e x =
      of_each (λ e. HasType r e (kind_at r e)) (in_function x.owner) e
      (of_each (λ f. AllByRecursion (λ e. HasType r e (kind_at r e)) (in_function f)) (functions_in r.program.items) x.owner (constraints r a.resolved a.placed a.low) x.stands) x.inside

  field_leads : (s : Span) (e : Expression) (w : FieldOperator) (n : Identifier) (k : Kind) → HasType r (tree.field s e w n) k → IsExpression m (tree.field s e w n) → AllLead m (modes_of m (named_row r (reading_through (base_use r w e)) (named_at r n.site.token)))
  field_leads s e _ n _ (a_field {x = struct} {d = d} t h is) there =
      subst (λ z. AllLead m (modes_of m (named_row r written z))) (sym is) (field_written d (a_member r file struct n.text d h).0 s e Dot n there refl is)
  field_leads s e _ n _ (a_field_behind {x = struct} {d = d} t h is) there = by (constant_use r e) refl
    where
      by : (o : Option ℕ) → constant_use r e ≡ o → AllLead m (modes_of m (named_row r (reading_through o) (named_at r n.site.token)))
      by None none = subst (λ z. AllLead m (modes_of m (named_row r written z))) (sym is) (field_written d (a_member r file struct n.text d h).0 s e Arrow n there none is)
      by (Some at) some =
          let u = use_named r e at some in
          let kind : variable_kind (declaration_at r u.variable) ≡ object (Base.Struct struct) 1 = sym u.kind ∙ one_type r a.resolved a.placed a.low e (object (Base.Struct struct) 1) t in
          subst (λ z. AllLead m (modes_of m (named_row r (through at) z))) (sym is)
          (field_through d (a_member r file struct n.text d h).0 at u.variable u.names struct h.0 kind h.1 (found_there h.0.fields n.text d h.2))

  -- ---- expressions
  name_leads : (s : Span) (i : Identifier) → IsExpression m (tree.identifier s i) → (n : Named) → named_at r i.site.token ≡ n → AllLead m (modes_of m (named_row r written n))
  name_leads s i there (Named.Global n) is = global_leads (global_at r n) (at_number (λ g. InFile r (declared Role.Global g.declaration)) (globals_in r.program.items) n file.globals)
  name_leads s i there (Named.Variable t) is = variable_leads s i t there is
  name_leads s i there (Named.Field t) is = absurd (no_field_name r s i _ t (typed_at (tree.identifier s i) there) is)
  name_leads s i there _ is = tt

  row_leads : (e : Expression) → AllByRecursion (IsExpression m) (expressions e) → RowHolds m (LeadsIfLocked r) (row_at r e)
  row_leads = rows_hold m (LeadsIfLocked r) (IsExpression m) (λ s i h. name_leads s i h (named_at r i.site.token) refl) (λ s f all. called_leads (named_at r f.site.token)) cast_leads
      (λ s e w n all h. field_leads s e w n _ (typed_at (tree.field s e w n) h) h)

  pub expression_leads : (e : Expression) (modes : List Sharing) → AllByRecursion (IsExpression m) (expressions e) → modes_at m e ≡ Some modes → AllLead m modes
  expression_leads e modes all is = modes_hold m (LeadsIfLocked r) (row_at r e) modes (row_leads e all) is

pub expressions_lead : RulesAreMet → FieldsPlaced → OwnAreFound → EachTypeFound → EachPathFound → MeetsConstraints → OneType → EachNameOnce → OnlyNames → EachNamesItself → EachNamesOwn → ExpressionsLead
expressions_lead rules fields_placed own_found found paths constraints one_type once only itself names_own m a e modes all is =
    expression_leads rules fields_placed own_found found paths constraints one_type once only itself names_own m a e modes all is
