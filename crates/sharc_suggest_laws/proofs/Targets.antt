-- The targets of an expression of a typed program: as many as its type has stars, positions of one type that is written
-- in the program, whose lock paths are read by a use of it.
use Rattle.sharc_suggest_laws.proofs.{Imports.{◌≡◌, ◌⊎◌, inl, inr, ⊎_elim, ℕ, zero, suc, ◌+◌, ◌-◌, ◌≤◌, ◌==◌, Bool, true, false, cond, List, [], ◌∷◌, ◌++◌, length, Contains, Option, Some, None, refl, ap, sym, subst, ◌∙◌, arith, eqb-true, false≢true, length-drop, Base, NumberType, Span, Declaration, Identifier, WrittenType, FieldOperator, Dot, Arrow, Constant, Number, Character, Null, Negate, Complement, Dereference, GlobalDefinition, GlobalForm, Array, StructDefinition, expressions, Expression, identifier, constant, parentheses, call, cast, index, field, unary, binary, Function, Named, Role, Kind, object, array, null, is_array, is_long, element_kind, stars_of, int, long, field_of, global_kind, Entity, Numbered, OperatorClass, Shift, Arithmetic, declared, cast_entity, entities_in, entity_at, first_depth, is_told_by, numbered, positions_of, result_of, written_modes, number_kind, constant_kind, class_of, binary_result, Resolution, structs_in, declaration_at, global_at, function_at, named_at, named_kind, variable_kind, global_kind_of, result_kind_of, called_kind, kind_at, HasType, a_field, a_field_behind, pointed_to, struct_named, IsFound, IsNamedType, PathReading, written, through, at_call, Targets, no_row, deeper, targets_from, entity_row, declared_row, global_row, named_row, result_row, called_row, constant_row, reading_through, row_at, base_use, constant_use, is_constant_named, contains_behind, head_there, one_some, none_some}, Given.AreKnown, Holders.is_global, Leads.{ArgumentsFit, IsVariableAt, Leads}, Siblings.HasSiblings}
use Rattle.std.proofs.Common.{find}
use Rattle.sharc_names.specs.Kinds as kinds
use Rattle.sharc_mode.specs.Rows.{behind}

-- ---- where targets are, and how their lock paths are read

-- through `x->f`: what the token names is a variable; and `f` has siblings to which that leads
abbrev pub IsReadThrough : Resolution → Entity → ℕ → Type 0
IsReadThrough r e at = IsVariableAt r at × (fields : List Declaration) × (d : Declaration) × (e.written ≡ d.written) × HasSiblings r fields d × ((m : List ℕ) (f : Declaration) → field_of fields m ≡ Some f → Leads r (named_at r at) m)

abbrev pub IsReading : Resolution → Entity → PathReading → Type 0
IsReading r e written = Unit {0}
IsReading r e (through at) = IsReadThrough r e at
IsReading r e (at_call ds all) = ArgumentsFit r ds all

-- they are positions of one type
pub record IsOf (r : Resolution) (row : Targets) : Type 0 where
  pub holder : Numbered
  pub stands : Contains (numbered (entities_in r.program.items)) holder
  pub skipped : ℕ
  pub first : row.first ≡ holder.first + skipped
  pub within : skipped + row.count ≤ positions_of holder.entity
  pub names : IsNamedType r holder.entity.written
  pub reading : IsReading r holder.entity row.reading

-- so many of them
pub record IsRow (r : Resolution) (n : ℕ) (row : Targets) : Type 0 where
  pub count : row.count ≡ n
  pub from : (n ≡ 0) ⊎ IsOf r row

abbrev pub IsRowOf : Resolution → Kind → Option Targets → Type 0
IsRowOf r (object b n) (Some row) = IsRow r n row
IsRowOf r (array b n) (Some row) = IsRow r n row
IsRowOf r null row = Unit {0}
IsRowOf r kinds.function row = Unit {0}
IsRowOf r _ None = ⊥

no_targets : (r : Resolution) → IsRow r 0 no_row
no_targets r = record { count = refl; from = inl refl }

-- ---- those of a type

found_contained : (test : Numbered → Bool) (l : List Numbered) (n : Numbered) → find test l ≡ Some n → Contains l n
found_contained test [] n is = absurd (none_some n is)
found_contained test (x ∷ rest) n is = by (test x) is (found_contained test rest n)
  where
    by : (b : Bool) → cond b (Some x) (find test rest) ≡ Some n → (find test rest ≡ Some n → Contains rest n) → Contains (x ∷ rest) n
    by true at more = subst (Contains (x ∷ rest)) (one_some x n at) (head_there x rest)
    by false at more = contains_behind x rest n (more at)

other_depth : (what : Role) → is_global what ≡ false → first_depth what ≡ 1
other_depth Role.Global is = absurd (false≢true (sym is))
other_depth _ is = refl

other_targets : (what : Role) (row : Targets) → is_global what ≡ false → targets_from what row ≡ row
other_targets Role.Global row is = absurd (false≢true (sym is))
other_targets _ row is = refl

abbrev whole_row : PathReading → Numbered → Targets
whole_row how n = record { first = n.first; count = positions_of n.entity; reading = how }

whole_of : (r : Resolution) (how : PathReading) (n : Numbered) → Contains (numbered (entities_in r.program.items)) n → IsNamedType r n.entity.written → IsReading r n.entity how → IsOf r (whole_row how n)
whole_of r how n stands names reading = record {
  holder = n;
  stands = stands;
  skipped = 0;
  first = begins n.first;
  within = inside (positions_of n.entity);
  names = names;
  reading = reading;
}
  where
    begins : (k : ℕ) → k ≡ k + 0
    begins k = omega arith

    inside : (k : ℕ) → 0 + k ≤ k
    inside k = omega arith

-- of what is no global
pub own_row : (r : Resolution) (e : Entity) → is_global e.role ≡ false → IsFound r e → (how : PathReading) → IsReading r e how → IsRow r (stars_of e.written) (entity_row how (entity_at r e.token e.last))
own_row r e other found how reading =
    let n : Numbered = found.numbered in
    let size : length (written_modes e) ≡ length e.written.ctype.levels - first_depth e.role = length-drop (first_depth e.role) e.written.ctype.levels in
    let many : positions_of n.entity ≡ stars_of e.written =
    ap (λ (x : Entity). positions_of x) found.itself ∙ size ∙ ap (λ (k : ℕ). length e.written.ctype.levels - k) (other_depth e.role other) in
    let stands : Contains (numbered (entities_in r.program.items)) n = found_contained (is_told_by e.token e.last) (numbered (entities_in r.program.items)) n found.found in
    let of : IsOf r (whole_row how n) =
    whole_of r how n stands (subst (λ (x : Entity). IsNamedType r x.written) (sym found.itself) found.named) (subst (λ (x : Entity). IsReading r x how) (sym found.itself) reading) in
    let row : IsRow r (stars_of e.written) (whole_row how n) = record { count = many; from = inr of } in
    let same : entity_row how (entity_at r e.token e.last) ≡ whole_row how n =
    ap (entity_row how) found.found ∙ other_targets n.entity.role (whole_row how n) (ap (λ (x : Entity). is_global x.role) found.itself ∙ other) in
    subst (IsRow r (stars_of e.written)) (sym same) row

-- a target less
deeper_of : (r : Resolution) (row : Targets) (b : Bool) → row.count == 0 ≡ b → IsOf r row → (row.count ≡ 0 → ⊥) → IsOf r (cond b row (record { first = row.first + 1; count = row.count - 1; reading = row.reading }))
deeper_of r row true is of some = of
deeper_of r row false is of some =
    let within : of.skipped + row.count ≤ positions_of of.holder.entity = of.within in
    record {
      holder = of.holder;
      stands = of.stands;
      skipped = of.skipped + 1;
      first = omega (arith, of.first);
      within = shorter of.skipped row.count (positions_of of.holder.entity) within some;
      names = of.names;
      reading = of.reading;
    }
  where
    shorter : (a c p : ℕ) → a + c ≤ p → (c ≡ 0 → ⊥) → (a + 1) + (c - 1) ≤ p
    shorter a zero p low more = absurd (more refl)
    shorter a (suc c) p low more = omega (arith, low)

deeper_count : (row : Targets) (b : Bool) → row.count == 0 ≡ b → (cond b row (record { first = row.first + 1; count = row.count - 1; reading = row.reading })).count ≡ row.count - 1
deeper_count row true is = let none : row.count ≡ 0 = eqb-true row.count 0 is in omega (arith, none)
deeper_count row false is = refl

deeper_row : (r : Resolution) (n : ℕ) (row : Targets) → IsRow r n row → IsRow r (n - 1) (deeper row)
deeper_row r n row is = record { count = deeper_count row (row.count == 0) refl ∙ ap (λ (k : ℕ). k - 1) is.count; from = by n is.count is.from }
  where
    by : (k : ℕ) → row.count ≡ k → (k ≡ 0) ⊎ IsOf r row → (k - 1 ≡ 0) ⊎ IsOf r (deeper row)
    by zero count from = inl refl
    by (suc k) count from = ⊎_elim (λ none. absurd (no_suc k none)) (λ of. inr (deeper_of r row (row.count == 0) refl of (λ none. no_suc k (sym count ∙ none)))) from
      where
        no_suc : (k : ℕ) → suc k ≡ 0 → ⊥
        no_suc k h = omega (arith, h)

-- of a global, whose first position is its top
global_targets : (r : Resolution) (e : Entity) → e.role ≡ Role.Global → IsFound r e → IsRow r (stars_of e.written) (entity_row written (entity_at r e.token e.last))
global_targets r e is found =
    let n : Numbered = found.numbered in
    let size : length (written_modes e) ≡ length e.written.ctype.levels - first_depth e.role = length-drop (first_depth e.role) e.written.ctype.levels in
    let many : positions_of n.entity ≡ length e.written.ctype.levels - 0 =
    ap (λ (x : Entity). positions_of x) found.itself ∙ size ∙ ap (λ (k : ℕ). length e.written.ctype.levels - k) (ap first_depth is) in
    let stands : Contains (numbered (entities_in r.program.items)) n = found_contained (is_told_by e.token e.last) (numbered (entities_in r.program.items)) n found.found in
    let of : IsOf r (whole_row written n) = whole_of r written n stands (subst (λ (x : Entity). IsNamedType r x.written) (sym found.itself) found.named) tt in
    let all : IsRow r (length e.written.ctype.levels - 0) (whole_row written n) = record { count = many; from = inr of } in
    let same : entity_row written (entity_at r e.token e.last) ≡ deeper (whole_row written n) =
    ap (entity_row written) found.found ∙ ap (λ (what : Role). targets_from what (whole_row written n)) (ap (λ (x : Entity). x.role) found.itself ∙ is) in
    subst (λ (k : ℕ). IsRow r k (entity_row written (entity_at r e.token e.last))) (one_less (length e.written.ctype.levels))
    (subst (IsRow r (length e.written.ctype.levels - 0 - 1)) (sym same) (deeper_row r (length e.written.ctype.levels - 0) (whole_row written n) all))
  where
    one_less : (k : ℕ) → k - 0 - 1 ≡ k - 1
    one_less k = omega arith

-- ---- what is known of a program

pub record IsKnownProgram (r : Resolution) : Type 0 where
  pub declarations : (token : ℕ) (d : Declaration) → declaration_at r token ≡ Some d → (what : Role) × (is_global what ≡ false) × (d.name.site.token ≡ token) × IsFound r (declared what d)
  pub globals : (n : ℕ) (g : GlobalDefinition) → global_at r n ≡ Some g → IsFound r (declared Role.Global g.declaration)
  pub results : (n : ℕ) (f : Function) → function_at r n ≡ Some f → IsFound r (result_of f)
  pub members : (struct name : List ℕ) (s : StructDefinition) (d : Declaration) → struct_named (structs_in r.program.items) struct ≡ Some s → field_of s.fields name ≡ Some d → IsFound r (declared Role.Field d) × HasSiblings r s.fields d
  pub one : (e : Expression) (k : Kind) → HasType r e k → kind_at r e ≡ k

-- ---- of an expression

variable_row : (r : Resolution) → IsKnownProgram r → (token : ℕ) (o : Option Declaration) → declaration_at r token ≡ o → IsRowOf r (variable_kind o) (Some (declared_row r written token))
variable_row r known token None is = tt
variable_row r known token (Some d) is =
    let found = known.declarations token d is in
    subst (λ (t : ℕ). IsRow r (stars_of d.written) (declared_row r written t)) found.2 (own_row r (declared found.0 d) found.1 found.3 written tt)

by_form : (r : Resolution) (f : GlobalForm) (b : Base) (n : ℕ) (row : Targets) → IsRow r n row → IsRowOf r (global_kind f (object b n)) (Some row)
by_form r (Array at k) b n row is = is
by_form r _ b n row is = is

global_row_of : (r : Resolution) → IsKnownProgram r → (n : ℕ) (o : Option GlobalDefinition) → global_at r n ≡ o → IsRowOf r (global_kind_of o) (Some (global_row r written o))
global_row_of r known n None is = tt
global_row_of r known n (Some g) is =
    let w : WrittenType = g.declaration.written in
    by_form r g.form w.ctype.base (stars_of w) (global_row r written (Some g)) (global_targets r (declared Role.Global g.declaration) refl (known.globals n g is))

name_row : (r : Resolution) → IsKnownProgram r → (v : Named) → IsRowOf r (named_kind r v) (Some (named_row r written v))
name_row r known (Named.Global n) = global_row_of r known n (global_at r n) refl
name_row r known (Named.Variable token) = variable_row r known token (declaration_at r token) refl
name_row r known (Named.Field token) = variable_row r known token (declaration_at r token) refl
name_row r known _ = tt

result_row_of : (r : Resolution) → IsKnownProgram r → (n : ℕ) (o : Option Function) → function_at r n ≡ o → IsRowOf r (result_kind_of o) (Some (result_row r o))
result_row_of r known n None is = no_targets r
result_row_of r known n (Some f) is = own_row r (result_of f) refl (known.results n f is) written tt

call_row : (r : Resolution) → IsKnownProgram r → (v : Named) → IsRowOf r (called_kind r v) (Some (called_row r v))
call_row r known (Named.Function n) = result_row_of r known n (function_at r n) refl
call_row r known (Named.Variable token) = no_targets r
call_row r known (Named.Field token) = no_targets r
call_row r known _ = no_targets r

either_row : (r : Resolution) (b : Bool) → IsRowOf r (cond b long int) (Some no_row)
either_row r true = no_targets r
either_row r false = no_targets r

number_row : (r : Resolution) (w : NumberType) → IsRowOf r (number_kind w) (Some no_row)
number_row r NumberType.Int = no_targets r
number_row r NumberType.Long = no_targets r

constant_row_of : (r : Resolution) (c : Constant) → IsRowOf r (constant_kind c) (constant_row c)
constant_row_of r (Number n) = number_row r n.number_type
constant_row_of r (Character byte) = no_targets r
constant_row_of r Null = tt

binary_row : (r : Resolution) (o : OperatorClass) (j k : Kind) → IsRowOf r (binary_result o j k) (Some no_row)
binary_row r Shift j k = either_row r (is_long j)
binary_row r Arithmetic j k = either_row r _
binary_row r _ j k = no_targets r

-- an element
element_row : (r : Resolution) (k : Kind) (o : Option Targets) → IsRowOf r k o → IsRowOf r (element_kind k) (cond (is_array k) o (behind o))
element_row r (object b n) (Some row) h = deeper_row r n row h
element_row r (array b n) (Some row) h = h
element_row r null o h = tt
element_row r kinds.function o h = tt
element_row r _ None h = absurd h

-- what an array leads to is written as an element
no_array : (b : Base) (n : ℕ) (c : Base) (k : ℕ) → array b n ≡ object c k → ⊥
no_array b n c k h = cc

pointed_row : (r : Resolution) (k : Kind) (o : Option Targets) → ((b : Base) (n : ℕ) → k ≡ array b n → ⊥) → IsRowOf r k o → IsRowOf r (element_kind k) (behind o)
pointed_row r (object b n) None other h = absurd h
pointed_row r (object b n) (Some row) other h = deeper_row r n row h
pointed_row r (array b n) o other h = absurd (other b n refl)
pointed_row r _ o other h = tt

never_array : (r : Resolution) → IsKnownProgram r → (s : Span) (a : Expression) (k : Kind) → HasType r (unary s Dereference a) k → (b : Base) (n : ℕ) → kind_at r a ≡ array b n → ⊥
never_array r known s a _ (pointed_to {b = c} {n = m} typed) b n is = no_array b n c (m + 1) (sym is ∙ known.one a (object c (m + 1)) typed)

-- a field: how its lock paths are read

-- of a use `x->f` of a struct with these fields
abbrev IsUse : Resolution → List Declaration → Option ℕ → Type 0
IsUse r fields None = Unit {0}
IsUse r fields (Some at) = IsVariableAt r at × ((m : List ℕ) (f : Declaration) → field_of fields m ≡ Some f → Leads r (named_at r at) m)

constant_variable : (r : Resolution) (v : Named) → is_constant_named r v ≡ true → (x : ℕ) × (v ≡ Named.Variable x)
constant_variable r (Named.Variable x) is = (x, refl)
constant_variable r _ is = absurd (false≢true is)

use_by : (r : Resolution) (fields : List Declaration) (i : Identifier) (b : Bool) → is_constant_named r (named_at r i.site.token) ≡ b → ((m : List ℕ) (f : Declaration) → field_of fields m ≡ Some f → Leads r (named_at r i.site.token) m)
    → IsUse r fields (cond b (Some i.site.token) None)
use_by r fields i true is leads = (constant_variable r (named_at r i.site.token) is, leads)
use_by r fields i false is leads = tt

arrow_use : (r : Resolution) (struct : List ℕ) (s : StructDefinition) → struct_named (structs_in r.program.items) struct ≡ Some s → (a : Expression) → kind_at r a ≡ object (Base.Struct struct) 1 → IsUse r s.fields (constant_use r a)
arrow_use r struct s named_so (identifier t i) kind = use_by r s.fields i (is_constant_named r (named_at r i.site.token)) refl (λ m f has. (struct, f, kind, (s, named_so, has)))
arrow_use r struct s named_so _ kind = tt

use_reading : (r : Resolution) (d : Declaration) (fields : List Declaration) → HasSiblings r fields d → (o : Option ℕ) → IsUse r fields o → IsReading r (declared Role.Field d) (reading_through o)
use_reading r d fields siblings None used = tt
use_reading r d fields siblings (Some at) used = (used.0, fields, d, refl, siblings, used.1)

-- the member of a struct
member_row : (r : Resolution) → IsKnownProgram r → (struct name : List ℕ) (s : StructDefinition) (d : Declaration) → struct_named (structs_in r.program.items) struct ≡ Some s → field_of s.fields name ≡ Some d → (o : Option ℕ) → IsUse r s.fields o
    → (v : Named) → v ≡ Named.Field d.name.site.token → IsRow r (stars_of d.written) (named_row r (reading_through o) v)
member_row r known struct name s d there has o used v is =
    let member = known.members struct name s d there has in
    subst (λ (x : Named). IsRow r (stars_of d.written) (named_row r (reading_through o) x)) (sym is)
    (own_row r (declared Role.Field d) refl member.0 (reading_through o) (use_reading r d s.fields member.1 o used))

field_row : (r : Resolution) → IsKnownProgram r → (s : Span) (a : Expression) (w : FieldOperator) (n : Identifier) (k : Kind) → HasType r (field s a w n) k → IsRowOf r k (Some (named_row r (reading_through (base_use r w a)) (named_at r n.site.token)))
field_row r known s a Dot n _ (a_field {x = x} {d = d} typed member names) = member_row r known x n.text member.0 d member.1 member.2 None tt (named_at r n.site.token) names
field_row r known s a Arrow n _ (a_field_behind {x = x} {d = d} typed member names) =
    member_row r known x n.text member.0 d member.1 member.2 (constant_use r a) (arrow_use r x member.0 member.1 a (known.one a (object (Base.Struct x) 1) typed)) (named_at r n.site.token) names

-- so each
pub targets_of : (r : Resolution) → IsKnownProgram r → (e : Expression) → AreKnown r (expressions e) → IsRowOf r (kind_at r e) (row_at r e)
targets_of r known (identifier s i) h = name_row r known (named_at r i.site.token)
targets_of r known (constant s c) h = constant_row_of r c
targets_of r known (parentheses s a) h = targets_of r known a h.1
targets_of r known (call s f all) h = call_row r known (named_at r f.site.token)
targets_of r known (cast s t a) h = own_row r (cast_entity s t) refl h.0.1 written tt
targets_of r known (index s a i) h = element_row r (kind_at r a) (row_at r a) (targets_of r known a (front_known r (expressions a) (expressions i) h.1))
  where
    front_known : (r : Resolution) (x y : List Expression) → AreKnown r (x ++ y) → AreKnown r x
    front_known r [] y all = tt
    front_known r (e ∷ x) y all = (all.0, front_known r x y all.1)
targets_of r known (field s a w n) h = field_row r known s a w n (kind_at r (field s a w n)) h.0.0
targets_of r known (unary s Negate a) h = either_row r (is_long (kind_at r a))
targets_of r known (unary s Complement a) h = either_row r (is_long (kind_at r a))
targets_of r known (unary s Dereference a) h = pointed_row r (kind_at r a) (row_at r a) (never_array r known s a (kind_at r (unary s Dereference a)) h.0.0) (targets_of r known a h.1)
targets_of r known (binary s o at a b) h = binary_row r (class_of o) (kind_at r a) (kind_at r b)
targets_of r known _ h = no_targets r
