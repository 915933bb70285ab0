-- Each expression whose names are in scope and whose types hold: the lock paths of its cell and of what it points to name pointers in scope.
use Rattle.sharc_flat_laws.proofs.{Imports.{◌≡◌, inl, inr, ℕ, zero, suc, ◌+◌, ◌<◌, Bool, true, false, cond, List, [], ◌∷◌, length, slice_get, refl, ap, sym, ◌∙◌, subst, arith, lt-ltb, Option, Some, None, is_some, bytes_eq, false≢true, AllByRecursion, Mode, Readonly, Locked, One, Through, Span, Declaration, Identifier, WrittenType, FieldOperator, Dot, Arrow, Constant, UnaryOperator, Dereference, GlobalDefinition, StructDefinition, expressions, in_arguments, Expression, field, identifier, Arguments, no_arguments, argument, Function, Named, Scope, Kind, object, is_array, is_pointer, declared_kind, Entry, Meaning, field_of, look_up, named_of, Role, Base, cast_entity, casts, entity_declared as declared, entities_in, is_told_by, positions_of, Entity, Numbered, Resolution, named_at, declaration_at, global_at, function_at, globals_in, functions_in, structs_in, kind_at, variable_kind, is_mutex_kind, written_cell, top_of, declared_cell, field_named, first_mode, global_cell, named_cell, pointed, instance, unary_cell, cell_at, IsLeastAssignment, Assignment, mode_at, PathReading, written, Targets, is_constant_named, constant_use, base_use, no_row, declared_row, global_row, named_row, result_row, called_row, constant_row, reading_through, unary_row, row_at, Sharing, private, readonly, locked, racy, lock_of, is_private, HasType, IsMemberOf, struct_named, a_variable, a_global, a_function, a_field, a_field_behind, IsFound, NamesFound, meaning_token, IsVariableIn, IsAmong, LevelStands, TypeStands, EntryStands, IsClosed, CastStands, PathsAt, Placing, at, IsNamedType, PathNamedIn, PathIn, LocksAt, front, back, both}, Pointing.{LevelGood, TypeGood, same_token, no_global, type_good, position_of, mode_good, GoodRow, deeper_good, pointed_good, Reads, reads_written, reads_through, HasEntity, has_entity, good_row, alone_in as alone_named}, Scoped.found_or_later}
use Rattle.sharc_tree.specs.Tree as tree
use Rattle.sharc_names.specs.Names as meaning
use Rattle.sharc_mode.specs.Rows.{behind}

-- ---- the types of the file name no variables

file_named : (r : Resolution) (names : List Entry) (m : List ℕ) (n : Named) → IsAmong [] n → PathNamedIn r names n (Some m)
file_named r names m (Named.Variable t) h = absurd h
file_named r names m _ h = tt

file_level : (r : Resolution) (names : List Entry) (level : Option Mode) → LevelStands r [] level → LevelGood r names level
file_level r names (Some (Locked (One m token))) h = alone_named r names (named_at r token)
file_level r names (Some (Locked (Through x token m))) h = file_named r names m (named_at r token) h
file_level r names _ h = tt

file_levels : (r : Resolution) (names : List Entry) (levels : List (Option Mode)) → AllByRecursion (LevelStands r []) levels → AllByRecursion (LevelGood r names) levels
file_levels r names [] h = tt
file_levels r names (x ∷ rest) h = (file_level r names x h.0, file_levels r names rest h.1)

file_type : (r : Resolution) (names : List Entry) (w : WrittenType) → TypeStands r [] w → TypeGood r names w
file_type r names w h = file_levels r names w.ctype.levels h

-- ---- the scope

-- what more is in scope does no harm
wider_named : (small big : List Entry) → ((x : ℕ) → IsVariableIn small x → IsVariableIn big x) → (n : Named) → IsAmong small n → IsAmong big n
wider_named small big into (Named.Variable t) h = into t h
wider_named small big into _ h = tt

wider_level : (r : Resolution) (small big : List Entry) → ((x : ℕ) → IsVariableIn small x → IsVariableIn big x) → (level : Option Mode) → LevelStands r small level → LevelStands r big level
wider_level r small big into (Some (Locked (One m token))) h = tt
wider_level r small big into (Some (Locked (Through x token m))) h = wider_named small big into (named_at r token) h
wider_level r small big into _ h = tt

wider_levels : (r : Resolution) (small big : List Entry) → ((x : ℕ) → IsVariableIn small x → IsVariableIn big x) → (levels : List (Option Mode)) → AllByRecursion (LevelStands r small) levels → AllByRecursion (LevelStands r big) levels
wider_levels r small big into [] h = tt
wider_levels r small big into (x ∷ rest) h = (wider_level r small big into x h.0, wider_levels r small big into rest h.1)

pub wider_type : (r : Resolution) (small big : List Entry) → ((x : ℕ) → IsVariableIn small x → IsVariableIn big x) → (w : WrittenType) → TypeStands r small w → TypeStands r big w
wider_type r small big into w h = wider_levels r small big into w.ctype.levels h

-- a variable of the scope is found by its token
abbrev pub MeaningKnown : Resolution → Meaning → Type 0
MeaningKnown r (meaning.variable d) = HasEntity r d.name.site.token d.name.site.token d.written × IsNamedType r d.written
MeaningKnown r _ = Unit {0}

abbrev pub EntriesKnown : Resolution → List Entry → Type 0
EntriesKnown r names = AllByRecursion (λ e. MeaningKnown r e.meaning) names

-- and what its type's paths name is in scope, as it is itself
abbrev pub MeaningGood : Resolution → List Entry → Meaning → Type 0
MeaningGood r names (meaning.variable d) = HasEntity r d.name.site.token d.name.site.token d.written × TypeGood r names d.written × IsVariableIn names d.name.site.token
MeaningGood r names _ = Unit {0}

abbrev pub EntriesGood : Resolution → List Entry → List Entry → Type 0
EntriesGood r whole names = AllByRecursion (λ e. MeaningGood r whole e.meaning) names

pub entries_good : (r : Resolution) (whole names : List Entry) → ((x : ℕ) → IsVariableIn names x → IsVariableIn whole x) → IsClosed r names → EntriesKnown r names → EntriesGood r whole names
entries_good r whole [] into c k = tt
entries_good r whole (e ∷ rest) into c k = (one e.meaning (λ x is. into x (inl is)) c.0 k.0, entries_good r whole rest (λ x h. into x (inr h)) c.1 k.1)
  where
    one : (z : Meaning) → ((x : ℕ) → meaning_token z ≡ Some x → IsVariableIn whole x) → EntryStands r rest z → MeaningKnown r z → MeaningGood r whole z
    one (meaning.variable d) here s h = (h.0, type_good r whole d.written (wider_type r rest whole (λ x y. into x (inr y)) d.written s) h.1, here d.name.site.token refl)
    one _ here s h = tt

entry_found : (P : Entry → Type 0) (names : List Entry) (name : List ℕ) (e : Entry) → AllByRecursion P names → look_up names name ≡ Some e → P e
entry_found P [] name e all is = absurd (false≢true (ap is_some is))
entry_found P (x ∷ rest) name e all is = found_or_later P x e (look_up rest name) (bytes_eq x.name name) is all.0 (λ h. entry_found P rest name e all.1 h)

-- ---- what is known of the file

pub record FileType (r : Resolution) (token : ℕ) (w : WrittenType) : Type 0 where
  pub has : HasEntity r token token w
  pub stands : TypeStands r [] w

pub record IsField (r : Resolution) (d : Declaration) : Type 0 where
  pub is : declaration_at r d.name.site.token ≡ Some d
  pub type : FileType r d.name.site.token d.written

-- the top of a global is a position
pub record IsGlobal (r : Resolution) (g : GlobalDefinition) : Type 0 where
  pub found : IsFound r (declared Role.Global g.declaration)
  pub stands : TypeStands r [] g.declaration.written
  pub some : 0 < length g.declaration.written.ctype.levels

pub record FileKnown (m : Assignment) : Type 0 where
  pub least : IsLeastAssignment m
  pub fields : AllByRecursion (λ s. AllByRecursion (IsField m.typed) s.fields) (structs_in m.typed.program.items)
  pub globals : AllByRecursion (IsGlobal m.typed) (globals_in m.typed.program.items)
  pub results : AllByRecursion (λ f. FileType m.typed f.name.site.token f.result) (functions_in m.typed.program.items)

abbrev IfThere : {A : Type 0} → (A → Type 0) → Option A → Type 0
IfThere P None = Unit {0}
IfThere P (Some x) = P x

at_number : {A : Type 0} (P : A → Type 0) (list : List A) (n : ℕ) → AllByRecursion P list → IfThere P (slice_get list n)
at_number P [] n all = tt
at_number P (x ∷ rest) zero all = all.0
at_number P (x ∷ rest) (suc n) all = at_number P rest n all.1

-- a member is a field
struct_fields : (r : Resolution) (list : List StructDefinition) (name : List ℕ) (s : StructDefinition) → AllByRecursion (λ x. AllByRecursion (IsField r) x.fields) list → struct_named list name ≡ Some s → AllByRecursion (IsField r) s.fields
struct_fields r [] name s all is = absurd (false≢true (ap is_some is))
struct_fields r (x ∷ rest) name s all is = found_or_later (λ (z : StructDefinition). AllByRecursion (IsField r) z.fields) x s (struct_named rest name) (bytes_eq x.name.text name) is all.0 (λ h. struct_fields r rest name s all.1 h)

field_found : (r : Resolution) (list : List Declaration) (name : List ℕ) (d : Declaration) → AllByRecursion (IsField r) list → field_of list name ≡ Some d → IsField r d
field_found r [] name d all is = absurd (false≢true (ap is_some is))
field_found r (x ∷ rest) name d all is = found_or_later (IsField r) x d (field_of rest name) (bytes_eq x.name.text name) is all.0 (λ h. field_found r rest name d all.1 h)

-- ---- expressions

abbrev CastIn : Resolution → List Entry → Expression → Type 0
CastIn r names (tree.cast s t a) = HasEntity r s.first.token s.last.token t × TypeGood r names t
CastIn r names _ = Unit {0}

-- what is known of an expression in its scope
pub record Seen (r : Resolution) (scope : Scope) (e : Expression) : Type 0 where
  pub has : HasType r e (kind_at r e)
  pub entries : EntriesGood r scope.names scope.names
  pub name : NamesFound r (record { scope = scope; expression = e }) e
  pub cast : CastIn r scope.names e

abbrev RowGood : Assignment → List Entry → Option Targets → Type 0
RowGood m names None = Unit {0}
RowGood m names (Some row) = GoodRow m names row

pub record Good (m : Assignment) (names : List Entry) (e : Expression) : Type 0 where
  pub cell : PathIn m.typed names (cell_at m e)
  pub row : RowGood m names (row_at m.typed e)

module _ (m : Assignment) (w : FileKnown m) (scope : Scope) where
  abbrev r : Resolution
  r = m.typed

  abbrev names : List Entry
  names = scope.names

  none_good : GoodRow m names no_row
  none_good k low = absurd (omega (arith, low))

  choose : (b : Bool) (s t : Sharing) → PathIn r names s → PathIn r names t → PathIn r names (cond b s t)
  choose true s t h k = h
  choose false s t h k = k

  choose_row : (b : Bool) (s t : Option Targets) → RowGood m names s → RowGood m names t → RowGood m names (cond b s t)
  choose_row true s t h k = h
  choose_row false s t h k = k

  deep : (o : Option Targets) → RowGood m names o → RowGood m names (behind o)
  deep None h = tt
  deep (Some row) h = deeper_good m names row h

  first_target : (o : Option Targets) → RowGood m names o → PathIn r names (pointed m o)
  first_target None h = tt
  first_target (Some row) h = pointed_good m names row h

  -- what is declared in the file
  file_row : (how : PathReading) → Reads r names how → (token : ℕ) (t : WrittenType) → FileType r token t → GoodRow m names (declared_row r how token)
  file_row how reads token t f = good_row m w.least names how reads token token t f.has (file_type r names t f.stands)

  global_cells : (o : Option GlobalDefinition) → IfThere (IsGlobal r) o → PathIn r names (global_cell m o)
  global_cells None h = tt
  global_cells (Some g) h =
      let n = h.found.numbered in
      let z : n.first + 0 ≡ n.first = omega arith in
      subst (λ (o : Option Numbered). PathIn r names (first_mode m o)) (sym h.found.found)
      (subst (λ p. PathIn r names (mode_at m p)) z
      (mode_good m w.least names n (position_of (is_told_by g.declaration.name.site.token g.declaration.name.site.token) (entities_in r.program.items) 0 n h.found.found) (subst (λ (e : Entity). TypeGood r names e.written) (sym h.found.itself) (file_type r names g.declaration.written h.stands)) 0
      (subst (λ e. 0 < positions_of e) (sym h.found.itself) h.some)))

  global_rows : (o : Option GlobalDefinition) → IfThere (IsGlobal r) o → GoodRow m names (global_row r written o)
  global_rows None h = none_good
  global_rows (Some g) h = file_row written (reads_written r names) g.declaration.name.site.token g.declaration.written (record { has = has_entity r (declared Role.Global g.declaration) h.found; stands = h.stands })

  result_rows : (o : Option Function) → IfThere (λ f. FileType r f.name.site.token f.result) o → GoodRow m names (result_row r o)
  result_rows None h = none_good
  result_rows (Some f) h = file_row written (reads_written r names) f.name.site.token f.result h

  called_rows : (n : Named) → GoodRow m names (called_row r n)
  called_rows (Named.Function n) = result_rows (function_at r n) (at_number (λ f. FileType r f.name.site.token f.result) (functions_in r.program.items) n w.results)
  called_rows _ = none_good

  named_cells : (n : Named) → PathIn r names (named_cell m n)
  named_cells (Named.Global n) = global_cells (global_at r n) (at_number (IsGlobal r) (globals_in r.program.items) n w.globals)
  named_cells _ = tt

  meaning_rows : (z : Meaning) → MeaningGood r names z → GoodRow m names (named_row r written (named_of z))
  meaning_rows (meaning.variable d) h = good_row m w.least names written (reads_written r names) d.name.site.token d.name.site.token d.written h.0 h.1
  meaning_rows (meaning.global n g) h = global_rows (global_at r n) (at_number (IsGlobal r) (globals_in r.program.items) n w.globals)
  meaning_rows _ h = none_good

  identifier_row : (s : Span) (i : Identifier) → Seen r scope (tree.identifier s i) → GoodRow m names (named_row r written (named_at r i.site.token))
  identifier_row s i h =
      subst (λ n. GoodRow m names (named_row r written n)) (sym h.name.2)
      (meaning_rows h.name.0.meaning (entry_found (λ (e : Entry). MeaningGood r names e.meaning) names i.text h.name.0 h.entries h.name.1))

  constant_rows : (k : Constant) → RowGood m names (constant_row k)
  constant_rows Constant.Null = tt
  constant_rows _ = none_good

  -- fields

  top_good : (levels : List (Option Mode)) → AllByRecursion (LevelGood r names) levels → LevelGood r names (top_of levels)
  top_good [] h = tt
  top_good (x ∷ rest) h = h.0

  written_cells : (q : Sharing) → PathIn r names q → (level : Option Mode) → LevelGood r names level → PathIn r names (written_cell r q level)
  written_cells q h None k = h
  written_cells q h (Some Readonly) k = choose (is_private q) private readonly tt tt
  written_cells q h (Some (Locked path)) k = choose _ private (locked (lock_of path)) tt k
  written_cells q h _ k = tt

  field_cells : (q : Sharing) → PathIn r names q → (d : Declaration) → IsField r d → PathIn r names (field_named r q (Named.Field d.name.site.token))
  field_cells q h d f =
      let good = file_type r names d.written f.type.stands in
      subst (λ o. PathIn r names (declared_cell r q o)) (sym f.is)
      (choose (is_mutex_kind (declared_kind d.written)) racy (written_cell r q (top_of d.written.ctype.levels)) tt (written_cells q h (top_of d.written.ctype.levels) (top_good d.written.ctype.levels good)))

  record Member (n : Identifier) : Type 0 where
    of : Declaration
    field : IsField r of
    names : named_at r n.site.token ≡ Named.Field of.name.site.token

  a_member : (x name : List ℕ) (d : Declaration) → IsMemberOf r x name d → IsField r d
  a_member x name d h = field_found r h.0.fields name d (struct_fields r (structs_in r.program.items) x h.0 w.fields h.1) h.2

  member : (s : Span) (a : Expression) (v : FieldOperator) (n : Identifier) (k : Kind) → HasType r (field s a v n) k → Member n
  member s a _ n _ (a_field {x = x} {d = d} t h is) = record { of = d; field = a_member x n.text d h; names = is }
  member s a _ n _ (a_field_behind {x = x} {d = d} t h is) = record { of = d; field = a_member x n.text d h; names = is }

  pointer_name : (s : Span) (i : Identifier) (k : Kind) → HasType r (identifier s i) k → is_pointer k ≡ true → (t : ℕ) → named_at r i.site.token ≡ Named.Variable t → is_pointer (variable_kind (declaration_at r t)) ≡ true
  pointer_name s i _ (a_variable is at spelled) p t n = ap (λ x. is_pointer (variable_kind (declaration_at r x))) (same_token _ _ (sym n ∙ is)) ∙ ap (λ o. is_pointer (variable_kind o)) at ∙ p
  pointer_name s i _ (a_global is at spelled) p t n = absurd (no_global _ _ (sym is ∙ n))
  pointer_name s i _ (a_function q) p t n = absurd (false≢true p)

  use_named : (z : Meaning) → MeaningGood r names z → ((t : ℕ) → named_of z ≡ Named.Variable t → is_pointer (variable_kind (declaration_at r t)) ≡ true) → (x : List ℕ) → PathNamedIn r names (named_of z) (Some x)
  use_named (meaning.variable d) h p x = (h.2, p d.name.site.token refl)
  use_named _ h p x = tt

  reads_if : (b : Bool) (at : ℕ) → ((x : List ℕ) → PathNamedIn r names (named_at r at) (Some x)) → Reads r names (reading_through (cond b (Some at) None))
  reads_if true at p = reads_through r names at p
  reads_if false at p = reads_written r names

  reads_use : (a : Expression) → Seen r scope a → (k : Kind) → HasType r a k → is_pointer k ≡ true → Reads r names (reading_through (constant_use r a))
  reads_use (tree.identifier s i) h k t p =
      reads_if (is_constant_named r (named_at r i.site.token)) i.site.token
      (λ x. subst (λ n. PathNamedIn r names n (Some x)) (sym h.name.2)
      (use_named h.name.0.meaning (entry_found (λ (e : Entry). MeaningGood r names e.meaning) names i.text h.name.0 h.entries h.name.1)
      (λ y is. pointer_name s i k t p y (h.name.2 ∙ is)) x))
  reads_use _ h k t p = reads_written r names

  reads_base : (s : Span) (a : Expression) (v : FieldOperator) (n : Identifier) (k : Kind) → HasType r (field s a v n) k → Seen r scope a → Reads r names (reading_through (base_use r v a))
  reads_base s a _ n _ (a_field t h is) seen = reads_written r names
  reads_base s a _ n _ (a_field_behind {x = x} t h is) seen = reads_use a seen (object (Base.Struct x) 1) t (lt-ltb 0 1 (omega arith))

  instances : (v : FieldOperator) (s t : Sharing) → PathIn r names s → PathIn r names t → PathIn r names (instance v s t)
  instances Dot s t h k = h
  instances Arrow s t h k = k

  unary_cells : (o : UnaryOperator) (t : Sharing) → PathIn r names t → PathIn r names (unary_cell o t)
  unary_cells Dereference t h = h
  unary_cells _ t h = tt

  unary_rows : (o : UnaryOperator) (row : Option Targets) → RowGood m names row → RowGood m names (unary_row o row)
  unary_rows Dereference row h = deep row h
  unary_rows _ row h = none_good

  own : (e : Expression) → AllByRecursion (Seen r scope) (expressions e) → Seen r scope e
  own (tree.cast s t a) h = h.0
  own _ h = h.0

  good : (e : Expression) → AllByRecursion (Seen r scope) (expressions e) → Good m names e
  good (tree.identifier s i) h = record { cell = named_cells (named_at r i.site.token); row = identifier_row s i h.0 }
  good (tree.constant s c) h = record { cell = tt; row = constant_rows c }
  good (tree.parentheses s a) h = let g = good a h.1 in record { cell = g.cell; row = g.row }
  good (tree.call s f all) h = record { cell = tt; row = called_rows (named_at r f.site.token) }
  good (tree.cast s t a) h = record { cell = tt; row = good_row m w.least names written (reads_written r names) s.first.token s.last.token t h.0.cast.0 h.0.cast.1 }
  good (tree.index s a i) h =
      let g = good a (front (Seen r scope) (expressions a) (expressions i) h.1) in
      record {
        cell = choose (is_array (kind_at r a)) (cell_at m a) (pointed m (row_at r a)) g.cell (first_target (row_at r a) g.row);
        row = choose_row (is_array (kind_at r a)) (row_at r a) (behind (row_at r a)) g.row (deep (row_at r a) g.row);
      }
  good (tree.field s a v n) h =
      let g = good a h.1 in
      let x = member s a v n _ h.0.has in
      let how = reading_through (base_use r v a) in
      record {
        cell = subst (λ z. PathIn r names (field_named r (instance v (cell_at m a) (pointed m (row_at r a))) z)) (sym x.names)
            (field_cells (instance v (cell_at m a) (pointed m (row_at r a))) (instances v (cell_at m a) (pointed m (row_at r a)) g.cell (first_target (row_at r a) g.row)) x.of x.field);
        row = subst (λ z. GoodRow m names (named_row r how z)) (sym x.names) (file_row how (reads_base s a v n _ h.0.has (own a h.1)) x.of.name.site.token x.of.written x.field.type);
      }
  good (tree.unary s o a) h = let g = good a h.1 in record { cell = unary_cells o (pointed m (row_at r a)) (first_target (row_at r a) g.row); row = unary_rows o (row_at r a) g.row }
  good _ h = record { cell = tt; row = none_good }

  abbrev G : Expression → Type 0
  G = Good m names

  mutual
    pub all_good : (e : Expression) → AllByRecursion (Seen r scope) (expressions e) → AllByRecursion G (expressions e)
    all_good (tree.parentheses s a) h = (good (tree.parentheses s a) h, all_good a h.1)
    all_good (tree.call s f all) h = (good (tree.call s f all) h, arguments_good all h.1)
    all_good (tree.spawn s f a) h = (good (tree.spawn s f a) h, all_good a h.1)
    all_good (tree.on_value s v a) h = (good (tree.on_value s v a) h, all_good a h.1)
    all_good (tree.on_place s v a) h = (good (tree.on_place s v a) h, all_good a h.1)
    all_good (tree.cast s t a) h = (good (tree.cast s t a) h, all_good a h.1)
    all_good (tree.index s a i) h = (
      good (tree.index s a i) h,
      both G (expressions a) (expressions i) (all_good a (front (Seen r scope) (expressions a) (expressions i) h.1)) (all_good i (back (Seen r scope) (expressions a) (expressions i) h.1)),
    )
    all_good (tree.field s a v n) h = (good (tree.field s a v n) h, all_good a h.1)
    all_good (tree.unary s o a) h = (good (tree.unary s o a) h, all_good a h.1)
    all_good (tree.binary s o site a b) h = (
      good (tree.binary s o site a b) h,
      both G (expressions a) (expressions b) (all_good a (front (Seen r scope) (expressions a) (expressions b) h.1)) (all_good b (back (Seen r scope) (expressions a) (expressions b) h.1)),
    )
    all_good k h = (good k h, tt)

    arguments_good : (all : Arguments) → AllByRecursion (Seen r scope) (in_arguments all) → AllByRecursion G (in_arguments all)
    arguments_good no_arguments h = tt
    arguments_good (argument a rest) h = both G (expressions a) (in_arguments rest) (all_good a (front (Seen r scope) (expressions a) (in_arguments rest) h)) (arguments_good rest (back (Seen r scope) (expressions a) (in_arguments rest) h))

  pub locks_at : (list : List Expression) → AllByRecursion G list → AllByRecursion (LocksAt m) (at scope list)
  locks_at [] h = tt
  locks_at (e ∷ rest) h = (record { cell = h.0.cell; row = first_target (row_at r e) h.0.row }, locks_at rest h.1)

-- ---- from what the laws say of the places

abbrev pub CastFound : Resolution → Expression → Type 0
CastFound r (tree.cast s t a) = IsFound r (cast_entity s t)
CastFound r _ = Unit {0}

pub casts_found : (r : Resolution) (list : List Expression) → AllByRecursion (IsFound r) (casts list) → AllByRecursion (CastFound r) list
casts_found r [] h = tt
casts_found r (tree.cast s t a ∷ rest) h = (h.0, casts_found r rest h.1)
casts_found r (_ ∷ rest) h = (tt, casts_found r rest h)

cast_in : (r : Resolution) (all : List Entry) (e : Expression) → CastStands r all e → CastFound r e → CastIn r all e
cast_in r all (tree.cast s t a) h f = (has_entity r (cast_entity s t) f, type_good r all t h f.named)
cast_in r all _ h f = tt

abbrev pub PlaceKnown : Resolution → Placing → Type 0
PlaceKnown r p = PathsAt r p × NamesFound r p p.expression

abbrev pub IsTyped : Resolution → Expression → Type 0
IsTyped r e = HasType r e (kind_at r e)

pub seen_by : (r : Resolution) (scope : Scope) → EntriesKnown r scope.names → (list : List Expression) → AllByRecursion (PlaceKnown r) (at scope list) → AllByRecursion (IsTyped r) list → AllByRecursion (CastFound r) list → AllByRecursion (Seen r scope) list
seen_by r scope known [] k h c = tt
seen_by r scope known (e ∷ rest) k h c = (
  record { has = h.0; entries = entries_good r scope.names scope.names (λ x y. y) k.0.0.closed known; name = k.0.1; cast = cast_in r scope.names e k.0.0.cast c.0 },
  seen_by r scope known rest k.1 h.1 c.1,
)
