-- What the lock paths of types lead through stands where the types are used: rows and expressions.
use Rattle.sharc_accepted_laws.proofs.{Imports.{◌≡◌, ◌⊎◌, inl, inr, ℕ, zero, suc, Bool, true, false, cond, List, [], ◌∷◌, map, refl, ap, sym, ◌∙◌, subst, arith, lt-ltb, slice_get, option_map, bytes_eq, Option, Some, None, false≢true, AllByRecursion, Base, Mode, Locked, Path, One, Through, Span, Declaration, Identifier, FieldOperator, GlobalDefinition, StructDefinition, expressions, in_arguments, Expression, Arguments, no_arguments, argument, Function, Item, structure, global, function, Named, Scope, Kind, object, is_pointer, Entry, Meaning, field_of, look_up, named_of, Role, Entity, Numbered, declared, cast_entity, result_of, function_entities, entities_in, numbered, is_told_by, entity_at, Resolution, named_at, declaration_at, global_at, function_at, globals_in, functions_in, structs_in, kind_at, variable_kind, HasType, IsMemberOf, struct_named, a_variable, a_global, a_function, a_field, a_field_behind, IsFound, NamesFound, meaning_token, IsVariableIn, IsAmong, LevelStands, TypeStands, CastStands, file_types, Placing, at, IsNamedLevel, IsNamedType, IsLeastAssignment, Assignment, PathReading, written, through, Targets, is_constant_named, constant_use, base_use, read, entity_row, global_row, named_row, result_row, called_row, reading_through, row_at, modes_of, locked, lock_of, sharing_of, text_at, is_sibling_lock, IsEntity, Context, slot_kind, PathNamed, PathStands, IfThere, AllStand, DeclaredStands, ExpressionStands, ExpressionsStand, same_some, none_some, front, back, both, CastFound}, Origins.reading_kept, RowModes.{RowHolds, rows_hold}, Passed.{first_kind, same_token, same_path}, Written.{raw, row_good, found_there}, Members.first_of}
use Rattle.sharc_tree.specs.Tree as tree
use Rattle.sharc_names.specs.Names as meaning

abbrev pub right_kind : Resolution → ℕ → Bool
right_kind r x = is_pointer (variable_kind (declaration_at r x))

-- ---- rows
module _ (c : Context) where
  abbrev m : Assignment
  m = c.program

  abbrev r : Resolution
  r = c.program.typed

  -- these variables stand
  abbrev pub Slots : List Entry → Type 0
  Slots names = (x : ℕ) → IsVariableIn names x → slot_kind c.scope x ≡ Some (right_kind r x)

  abbrev PathHere : Path → Type 0
  PathHere path = PathNamed c.scope (named_at r (lock_of path).first) (lock_of path).second

  abbrev ModeHere : Mode → Type 0
  ModeHere mode = (path : Path) → mode ≡ Locked path → PathHere path

  abbrev LevelHere : Option Mode → Type 0
  LevelHere None = Unit {0}
  LevelHere (Some mode) = ModeHere mode

  alone : (n : Named) → PathNamed c.scope n None
  alone (Named.Field n) = tt
  alone _ = tt

  by_variable : (names : List Entry) → Slots names → (n : Named) (name : List ℕ) → IsAmong names n → ((x : ℕ) → n ≡ Named.Variable x → right_kind r x ≡ true) → PathNamed c.scope n (Some name)
  by_variable names slots (Named.Variable x) name among pointer = slots x among ∙ ap Some (pointer x refl)
  by_variable names slots _ name among pointer = tt

  path_here : (names : List Entry) → Slots names → (path : Path) → LevelStands r names (Some (Locked path)) → IsNamedLevel r (Some (Locked path)) → PathHere path
  path_here names slots (One text token) stands is = alone (named_at r token)
  path_here names slots (Through text token name) stands is =
      by_variable names slots (named_at r token) name stands (λ x names_x. ap is_pointer (first_kind r token text (object (Base.Struct is.0) 1) is.2 x names_x) ∙ lt-ltb 0 1 (omega arith))

  level_here : (names : List Entry) → Slots names → (level : Option Mode) → LevelStands r names level → IsNamedLevel r level → LevelHere level
  level_here names slots None stands is = tt
  level_here names slots (Some (Locked q)) stands is = λ path e. subst PathHere (same_path q path e) (path_here names slots q stands is)
  level_here names slots (Some _) stands is = λ path e. absurd (cc)

  levels_here : (names : List Entry) → Slots names → (levels : List (Option Mode)) → AllByRecursion (LevelStands r names) levels → AllByRecursion (IsNamedLevel r) levels → AllByRecursion LevelHere levels
  levels_here names slots [] stands is = tt
  levels_here names slots (x ∷ rest) stands is = (level_here names slots x stands.0 is.0, levels_here names slots rest stands.1 is.1)

  -- what a reading of a mode leads through stands
  abbrev Reads : PathReading → Type 0
  Reads how = (path : Path) → PathHere path → PathStands r c.scope (read r how (locked (lock_of path)))

  pub reads_written : Reads written
  reads_written path h = h

  reads_through : (token : ℕ) → ((name : List ℕ) → PathNamed c.scope (named_at r token) (Some name)) → Reads (through token)
  reads_through token variable path h = by (is_sibling_lock r (lock_of path))
    where
      by : (b : Bool) → PathStands r c.scope (locked (cond b (record { first = token; second = Some (text_at r (lock_of path).first) }) (lock_of path)))
      by true = variable (text_at r (lock_of path).first)
      by false = h

  one_stands : (how : PathReading) → Reads how → (mode : Mode) → ModeHere mode → PathStands r c.scope (read r how (sharing_of mode))
  one_stands how reads (Locked path) h = reads path (h path refl)
  one_stands how reads _ h = tt

  list_stands : (how : PathReading) → Reads how → (list : List Mode) → AllByRecursion ModeHere list → AllStand m c.scope (map (λ mode. read r how (sharing_of mode)) list)
  list_stands how reads [] h = tt
  list_stands how reads (x ∷ rest) h = (one_stands how reads x h.0, list_stands how reads rest h.1)

  module _ (least : IsLeastAssignment m) where
    -- of a type whose paths stand
    entity_stands : (names : List Entry) → Slots names → (how : PathReading) → Reads how → (n : Numbered) → IsEntity m n → TypeStands r names n.entity.written → IsNamedType r n.entity.written → AllStand m c.scope (modes_of m (entity_row how (Some n)))
    entity_stands names slots how reads n is stands named_type =
        subst (λ z. AllStand m c.scope (map (λ mode. read r z (sharing_of mode)) (raw m (entity_row how (Some n))))) (sym (reading_kept n.entity.role _))
        (list_stands how reads (raw m (entity_row how (Some n)))
        (row_good ModeHere (λ path e. absurd (cc)) (λ path e. absurd (cc)) (λ path e. absurd (cc)) m least how n is
        (levels_here names slots n.entity.written.ctype.levels stands named_type.levels)))

    pub found_stands : (names : List Entry) → Slots names → (how : PathReading) → Reads how → (e : Entity) → IsFound r e → TypeStands r names e.written → AllStand m c.scope (modes_of m (entity_row how (entity_at r e.token e.last)))
    found_stands names slots how reads e f stands =
        subst (λ o. AllStand m c.scope (modes_of m (entity_row how o))) (sym f.found)
        (entity_stands names slots how reads f.numbered (found_there (is_told_by e.token e.last) (numbered (entities_in r.program.items)) f.numbered f.found)
        (subst (λ (z : Entity). TypeStands r names z.written) (sym f.itself) stands) (subst (λ (z : Entity). IsNamedType r z.written) (sym f.itself) f.named))

    no_slots : Slots []
    no_slots x h = absurd h

    -- what is declared in the file names no variables
    pub file_stands : (how : PathReading) → Reads how → (e : Entity) → IsFound r e → TypeStands r [] e.written → AllStand m c.scope (modes_of m (entity_row how (entity_at r e.token e.last)))
    file_stands how reads e f stands = found_stands [] no_slots how reads e f stands

-- ---- the file
abbrev pub InFile : Resolution → Entity → Type 0
InFile r e = IsFound r e × TypeStands r [] e.written

abbrev pub FieldInFile : Resolution → Declaration → Type 0
FieldInFile r d = InFile r (declared Role.Field d)

pub record FileKnown (r : Resolution) (items : List Item) : Type 0 where
  pub fields : AllByRecursion (λ s. AllByRecursion (FieldInFile r) s.fields) (structs_in items)
  pub globals : AllByRecursion (λ g. InFile r (declared Role.Global g.declaration)) (globals_in items)
  pub results : AllByRecursion (λ f. InFile r (result_of f)) (functions_in items)

fields_in_file : (r : Resolution) (list : List Declaration) → AllByRecursion (IsFound r) (map (declared Role.Field) list) → AllByRecursion (TypeStands r []) (map (λ (d : Declaration). d.written) list) → AllByRecursion (FieldInFile r) list
fields_in_file r [] f s = tt
fields_in_file r (d ∷ rest) f s = ((f.0, s.0), fields_in_file r rest f.1 s.1)

pub file_known : (r : Resolution) (items : List Item) → AllByRecursion (IsFound r) (entities_in items) → AllByRecursion (TypeStands r []) (file_types items) → FileKnown r items
file_known r [] f s = record { fields = tt; globals = tt; results = tt }
file_known r (structure x ∷ rest) f s =
    let heads = map (declared Role.Field) x.fields in
    let types = map (λ (d : Declaration). d.written) x.fields in
    let k = file_known r rest (back (IsFound r) heads (entities_in rest) f) (back (TypeStands r []) types (file_types rest) s) in
    record { fields = (fields_in_file r x.fields (front (IsFound r) heads (entities_in rest) f) (front (TypeStands r []) types (file_types rest) s), k.fields); globals = k.globals; results = k.results }
file_known r (global g ∷ rest) f s =
    let k = file_known r rest f.1 s.1 in
    record { fields = k.fields; globals = ((f.0, s.0), k.globals); results = k.results }
file_known r (function x ∷ rest) f s =
    let k = file_known r rest (back (IsFound r) (function_entities x) (entities_in rest) f) s.1 in
    let own = front (IsFound r) (function_entities x) (entities_in rest) f in
    record { fields = k.fields; globals = k.globals; results = ((own.0, s.0), k.results) }

-- ---- lists
abbrev pub IfSome : {A : Type 0} → (A → Type 0) → Option A → Type 0
IfSome P None = Unit {0}
IfSome P (Some x) = P x

pub at_number : {A : Type 0} (P : A → Type 0) (list : List A) (n : ℕ) → AllByRecursion P list → IfSome P (slice_get list n)
at_number P [] n all = tt
at_number P (x ∷ rest) zero all = all.0
at_number P (x ∷ rest) (suc n) all = at_number P rest n all.1

found_or_later : {A : Type 0} (P : A → Type 0) (x y : A) (later : Option A) (b : Bool) → cond b (Some x) later ≡ Some y → P x → (later ≡ Some y → P y) → P y
found_or_later P x y later true h p q = subst P (same_some x y h) p
found_or_later P x y later false h p q = q h

pub struct_fields : (P : Declaration → Type 0) (list : List StructDefinition) (name : List ℕ) (s : StructDefinition) → AllByRecursion (λ x. AllByRecursion P x.fields) list → struct_named list name ≡ Some s → AllByRecursion P s.fields
struct_fields P [] name s all is = absurd (none_some s is)
struct_fields P (x ∷ rest) name s all is = found_or_later (λ (z : StructDefinition). AllByRecursion P z.fields) x s (struct_named rest name) (bytes_eq x.name.text name) is all.0 (λ h. struct_fields P rest name s all.1 h)

pub field_found : (P : Declaration → Type 0) (list : List Declaration) (name : List ℕ) (d : Declaration) → AllByRecursion P list → field_of list name ≡ Some d → P d
field_found P [] name d all is = absurd (none_some d is)
field_found P (x ∷ rest) name d all is = found_or_later P x d (field_of rest name) (bytes_eq x.name.text name) is all.0 (λ h. field_found P rest name d all.1 h)

-- a field that a member expression names
pub record Member (r : Resolution) (n : Identifier) : Type 0 where
  pub of : Declaration
  pub field : FieldInFile r of
  pub names : named_at r n.site.token ≡ Named.Field of.name.site.token

pub a_member : (r : Resolution) → FileKnown r r.program.items → (x name : List ℕ) (d : Declaration) → IsMemberOf r x name d → FieldInFile r d
a_member r file x name d h = field_found (FieldInFile r) h.0.fields name d (struct_fields (FieldInFile r) (structs_in r.program.items) x h.0 file.fields h.1) h.2

pub member : (r : Resolution) → FileKnown r r.program.items → (s : Span) (a : Expression) (v : FieldOperator) (n : Identifier) (k : Kind) → HasType r (tree.field s a v n) k → Member r n
member r file s a _ n _ (a_field {x = x} {d = d} t h is) = record { of = d; field = a_member r file x n.text d h; names = is }
member r file s a _ n _ (a_field_behind {x = x} {d = d} t h is) = record { of = d; field = a_member r file x n.text d h; names = is }

pub entry_there : (names : List Entry) (name : List ℕ) (e : Entry) → look_up names name ≡ Some e → (x : ℕ) → meaning_token e.meaning ≡ Some x → IsVariableIn names x
entry_there [] name e is x h = absurd (none_some e is)
entry_there (y ∷ rest) name e is x h = by (bytes_eq y.name name) is (entry_there rest name e)
  where
    by : (b : Bool) → cond b (Some y) (look_up rest name) ≡ Some e → (look_up rest name ≡ Some e → (x : ℕ) → meaning_token e.meaning ≡ Some x → IsVariableIn rest x) → (meaning_token y.meaning ≡ Some x) ⊎ IsVariableIn rest x
    by true k later = inl (subst (λ (z : Entry). meaning_token z.meaning ≡ Some x) (sym (same_some y e k)) h)
    by false k later = inr (later k x h)

-- ---- expressions
-- what is known of the variables of a scope
pub record Here (c : Context) (names : List Entry) : Type 0 where
  pub slots : (x : ℕ) → IsVariableIn names x → slot_kind c.scope x ≡ Some (right_kind c.program.typed x)
  pub types : (x : ℕ) → IsVariableIn names x → DeclaredStands c.program c.scope x

abbrev pub CastIn : Resolution → List Entry → Expression → Type 0
CastIn r names (tree.cast s t a) = IsFound r (cast_entity s t) × TypeStands r names t
CastIn r names _ = Unit {0}

-- what is known of an expression in its scope
pub record Seen (r : Resolution) (scope : Scope) (e : Expression) : Type 0 where
  pub has : HasType r e (kind_at r e)
  pub name : NamesFound r (record { scope = scope; expression = e }) e
  pub cast : CastIn r scope.names e

module _ (c : Context) (least : IsLeastAssignment c.program) (file : FileKnown c.program.typed c.program.typed.program.items) (scope : Scope) (here : Here c scope.names) where
  abbrev m2 : Assignment
  m2 = c.program

  abbrev r2 : Resolution
  r2 = c.program.typed

  abbrev RowStands : Option Targets → Type 0
  RowStands = RowHolds m2 (PathStands r2 c.scope)

  global_rows : (o : Option GlobalDefinition) → IfSome (λ g. InFile r2 (declared Role.Global g.declaration)) o → AllStand m2 c.scope (modes_of m2 (global_row r2 written o))
  global_rows None h = tt
  global_rows (Some g) h = file_stands c least written (reads_written c) (declared Role.Global g.declaration) h.0 h.1

  result_rows : (o : Option Function) → IfSome (λ f. InFile r2 (result_of f)) o → AllStand m2 c.scope (modes_of m2 (result_row r2 o))
  result_rows None h = tt
  result_rows (Some f) h = file_stands c least written (reads_written c) (result_of f) h.0 h.1

  called_rows : (n : Named) → AllStand m2 c.scope (modes_of m2 (called_row r2 n))
  called_rows (Named.Function n) = result_rows (function_at r2 n) (at_number (λ f. InFile r2 (result_of f)) (functions_in r2.program.items) n file.results)
  called_rows _ = tt

  meaning_rows : (z : Meaning) → ((x : ℕ) → meaning_token z ≡ Some x → IsVariableIn scope.names x) → AllStand m2 c.scope (modes_of m2 (named_row r2 written (named_of z)))
  meaning_rows (meaning.variable d) h = here.types d.name.site.token (h d.name.site.token refl)
  meaning_rows (meaning.global n g) h = global_rows (global_at r2 n) (at_number (λ g. InFile r2 (declared Role.Global g.declaration)) (globals_in r2.program.items) n file.globals)
  meaning_rows _ h = tt

  identifier_row : (s : Span) (i : Identifier) → Seen r2 scope (tree.identifier s i) → AllStand m2 c.scope (modes_of m2 (named_row r2 written (named_at r2 i.site.token)))
  identifier_row s i h =
      subst (λ n. AllStand m2 c.scope (modes_of m2 (named_row r2 written n))) (sym h.name.2)
      (meaning_rows h.name.0.meaning (entry_there scope.names i.text h.name.0 h.name.1))

  pointer_name : (s : Span) (i : Identifier) (k : Kind) → HasType r2 (tree.identifier s i) k → is_pointer k ≡ true → (t : ℕ) → named_at r2 i.site.token ≡ Named.Variable t → right_kind r2 t ≡ true
  pointer_name s i _ (a_variable is at spelled) p t n = ap (right_kind r2) (same_token _ _ (sym n ∙ is)) ∙ ap (λ o. is_pointer (variable_kind o)) at ∙ p
  pointer_name s i _ (a_global is at spelled) p t n = absurd (cc (sym is ∙ n))
  pointer_name s i _ (a_function q) p t n = absurd (false≢true p)

  meant : (z : Meaning) → ((x : ℕ) → meaning_token z ≡ Some x → IsVariableIn scope.names x) → (t : ℕ) → named_of z ≡ Named.Variable t → IsVariableIn scope.names t
  meant (meaning.variable d) h t is = h t (ap Some (same_token d.name.site.token t is))
  meant _ h t is = absurd (cc)

  variable_stands : (s : Span) (i : Identifier) → Seen r2 scope (tree.identifier s i) → (k : Kind) → HasType r2 (tree.identifier s i) k → is_pointer k ≡ true → (n : Named) → named_at r2 i.site.token ≡ n → (name : List ℕ) → PathNamed c.scope n (Some name)
  variable_stands s i h k t p (Named.Variable x) is name =
      here.slots x (meant h.name.0.meaning (entry_there scope.names i.text h.name.0 h.name.1) x (sym h.name.2 ∙ is)) ∙ ap Some (pointer_name s i k t p x is)
  variable_stands s i h k t p _ is name = tt

  reads_if : (b : Bool) (token : ℕ) → ((name : List ℕ) → PathNamed c.scope (named_at r2 token) (Some name)) → Reads c (reading_through (cond b (Some token) None))
  reads_if true token p = reads_through c token p
  reads_if false token p = reads_written c

  reads_use : (a : Expression) → Seen r2 scope a → (k : Kind) → HasType r2 a k → is_pointer k ≡ true → Reads c (reading_through (constant_use r2 a))
  reads_use (tree.identifier s i) h k t p = reads_if (is_constant_named r2 (named_at r2 i.site.token)) i.site.token (variable_stands s i h k t p (named_at r2 i.site.token) refl)
  reads_use _ h k t p = reads_written c

  reads_base : (s : Span) (a : Expression) (v : FieldOperator) (n : Identifier) (k : Kind) → HasType r2 (tree.field s a v n) k → Seen r2 scope a → Reads c (reading_through (base_use r2 v a))
  reads_base s a _ n _ (a_field t h is) seen = reads_written c
  reads_base s a _ n _ (a_field_behind {x = x} t h is) seen = reads_use a seen (object (Base.Struct x) 1) t (lt-ltb 0 1 (omega arith))

  field_row : (s : Span) (a : Expression) (v : FieldOperator) (n : Identifier) → AllByRecursion (Seen r2 scope) (expressions a) → Seen r2 scope (tree.field s a v n) → RowStands (row_at r2 (tree.field s a v n))
  field_row s a v n all h =
      let x = member r2 file s a v n _ h.has in
      let how = reading_through (base_use r2 v a) in
      subst (λ z. AllStand m2 c.scope (modes_of m2 (named_row r2 how z))) (sym x.names) (file_stands c least how (reads_base s a v n _ h.has (first_of (Seen r2 scope) a all)) (declared Role.Field x.of) x.field.0 x.field.1)

  row_stands : (e : Expression) → AllByRecursion (Seen r2 scope) (expressions e) → RowStands (row_at r2 e)
  row_stands = rows_hold m2 (PathStands r2 c.scope) (Seen r2 scope) identifier_row (λ s f all. called_rows (named_at r2 f.site.token))
      (λ s t a h. found_stands c least scope.names here.slots written (reads_written c) (cast_entity s t) h.cast.0 h.cast.1) field_row

  expression_stands : (e : Expression) → AllByRecursion (Seen r2 scope) (expressions e) → ExpressionStands c e
  expression_stands e h = by (row_at r2 e) (row_stands e h)
    where
      by : (o : Option Targets) → RowStands o → IfThere (AllStand m2 c.scope) (option_map (modes_of m2) o)
      by None k = tt
      by (Some row) k = k

  abbrev G : Expression → Type 0
  G = ExpressionStands c

  mutual
    pub all_stand : (e : Expression) → AllByRecursion (Seen r2 scope) (expressions e) → ExpressionsStand c (expressions e)
    all_stand (tree.parentheses s a) h = (expression_stands (tree.parentheses s a) h, all_stand a h.1)
    all_stand (tree.call s f all) h = (expression_stands (tree.call s f all) h, arguments_stand all h.1)
    all_stand (tree.spawn s f a) h = (expression_stands (tree.spawn s f a) h, all_stand a h.1)
    all_stand (tree.on_value s v a) h = (expression_stands (tree.on_value s v a) h, all_stand a h.1)
    all_stand (tree.on_place s v a) h = (expression_stands (tree.on_place s v a) h, all_stand a h.1)
    all_stand (tree.cast s t a) h = (expression_stands (tree.cast s t a) h, all_stand a h.1)
    all_stand (tree.index s a i) h = (
      expression_stands (tree.index s a i) h,
      both G (expressions a) (expressions i) (all_stand a (front (Seen r2 scope) (expressions a) (expressions i) h.1)) (all_stand i (back (Seen r2 scope) (expressions a) (expressions i) h.1)),
    )
    all_stand (tree.field s a v n) h = (expression_stands (tree.field s a v n) h, all_stand a h.1)
    all_stand (tree.unary s o a) h = (expression_stands (tree.unary s o a) h, all_stand a h.1)
    all_stand (tree.binary s o site a b) h = (
      expression_stands (tree.binary s o site a b) h,
      both G (expressions a) (expressions b) (all_stand a (front (Seen r2 scope) (expressions a) (expressions b) h.1)) (all_stand b (back (Seen r2 scope) (expressions a) (expressions b) h.1)),
    )
    all_stand j h = (expression_stands j h, tt)

    arguments_stand : (all : Arguments) → AllByRecursion (Seen r2 scope) (in_arguments all) → ExpressionsStand c (in_arguments all)
    arguments_stand no_arguments h = tt
    arguments_stand (argument a rest) h = both G (expressions a) (in_arguments rest) (all_stand a (front (Seen r2 scope) (expressions a) (in_arguments rest) h)) (arguments_stand rest (back (Seen r2 scope) (expressions a) (in_arguments rest) h))

-- ---- from what the laws say of the places
cast_in : (r : Resolution) (names : List Entry) (e : Expression) → CastStands r names e → CastFound r e → CastIn r names e
cast_in r names (tree.cast s t a) h f = (f, h)
cast_in r names _ h f = tt

abbrev pub PlaceKnown : Resolution → Placing → Type 0
PlaceKnown r p = CastStands r p.scope.names p.expression × NamesFound r p p.expression

abbrev pub IsTyped : Resolution → Expression → Type 0
IsTyped r e = HasType r e (kind_at r e)

pub seen_by : (r : Resolution) (scope : Scope) (list : List Expression) → AllByRecursion (PlaceKnown r) (at scope list) → AllByRecursion (IsTyped r) list → AllByRecursion (CastFound r) list → AllByRecursion (Seen r scope) list
seen_by r scope [] k h c = tt
seen_by r scope (e ∷ rest) k h c = (record { has = h.0; name = k.0.1; cast = cast_in r scope.names e k.0.0 c.0 }, seen_by r scope rest k.1 h.1 c.1)
