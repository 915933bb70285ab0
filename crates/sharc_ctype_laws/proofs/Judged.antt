-- Expressions of which no fault is noted: their type in the scope is the one that their names give, and C11 gives it too.
use Rattle.sharc_ctype_laws.proofs.{Imports.{◌≡◌, ◌⊎◌, inl, inr, ⊎_elim, ℕ, ◌+◌, ◌==◌, Bool, true, false, ◌&&◌, ◌||◌, not, cond, nat_lt, List, [], ◌∷◌, length, drop, refl, ap, ap₂, sym, ◌∙◌, subst, eqb-true, Option, Some, None, is_some, arith, codes, false≢true, and_parts, or_cases, not-true, bytes_eq-Decides, AllByRecursion, Base, Site, Span, Identifier, WrittenType, Declaration, NumberType, Constant, FieldOperator, Dot, Arrow, BinaryOperator, UnaryOperator, Negate, Not, Complement, Dereference, ValueCall, PlaceCall, Lock, Unlock, Free, StructDefinition, GlobalForm, Array, is_lvalue, without_parentheses, Expression, Arguments, no_arguments, argument, Function, TypeMismatch, NoLvalue, BadForm, ArgumentCount, Need, Scope, Kind, object, array, int, long, void, mutex, is_pointer, is_struct_behind, same_kind, agrees, declared_kind, declared_kinds, element_kind, StructTable, StructMeaning, struct_of, fields_of, field_of, defined, known, Entry, Meaning, Signature, look_up, named_of, kind_of, global_kind, is_main, parameters_of, condition_parameters, place, fits, met, unmet, agreed, unagreed, fault, fault_unless, name_kind, name_notes, field_in, field_among, field_kind, field_notes, is_fine, first_wanted, Named, Role, OperatorClass, Logical, Equality, Relation, Shift, Arithmetic, number_kind, constant_kind, element_of, access_need, operand_need, unary_result, unary_kind, class_of, operands_need, binary_result, may_join, binary_kind, binary_notes, is_place, names_function, place_kind, place_notes, value_call_kind, suits, place_call_kind, place_call_notes, cast_kind, cast_notes, count, takes, arguments_count_notes as count_notes, callee_notes, wanted_if, wanted, call_result, call_kind, can_spawn, spawn_notes, may_spawn, spawn_wanted, spawn_kind, type_of, are_fine, notes_of, notes_of_all, signature_of, Resolution, structs_in, named_at, function_at, variable_kind, global_kind_of, result_kind_of, named_kind, called_kind, kind_at, parameters_named, parameters_of_function, AsValue, struct_named, IsMemberOf, HasType, HaveTypes, Callee, of_program, of_conditions, IsInteger, a_variable, a_global, a_function, a_constant, in_parentheses, element_of_pointer, element_of_array, a_call, a_field, a_field_behind, negated, complemented, denied, pointed_to, arithmetic, shifted, related, equated, joined, spawned, printed_or_joined, locked, unlocked, freed, none_left, one_more, one_less}, Held.{Held, left, right, no_fault, head_named, behind_head, well, not_wrong}, KindLemmas.{one_kind, integer_is, pointer_is, scalar_is, common_is, promoted_is, comparable_is, assignable_is}, Scenes.{IsSolid, IsResult, IsValued, IsMeant, AreMeant, IsField, IsStruct, AreStructs, IsScene, found_name, found_struct, found_field, need_fits, need_met, type_fine}, Standings.lvalue_held}
use Rattle.sharc_tree.specs.Tree as tree
use Rattle.sharc_names.specs.Names.{result_of}
use Rattle.sharc_names.specs.Kinds as kinds
use Rattle.sharc_names.specs.Names as meaning
use Rattle.sharc_ctype_laws.specs.Constraints.{a_cast}

pub record IsJudged (r : Resolution) (scope : Scope) (e : Expression) : Type 0 where
  pub typed : type_of scope e ≡ Some (kind_at r e)
  pub valued : IsValued scope.structs e (kind_at r e)
  pub has : HasType r e (kind_at r e)

judge : (r : Resolution) (scope : Scope) (e : Expression) (k : Kind) → kind_at r e ≡ k → type_of scope e ≡ Some k → IsValued scope.structs e k → HasType r e k → IsJudged r scope e
judge r scope e k is t v h = record { typed = t ∙ ap Some (sym is); valued = subst (IsValued scope.structs e) (sym is) v; has = subst (HasType r e) (sym is) h }

-- names

pub record IsNamed (r : Resolution) (i : Identifier) (o : Option Entry) : Type 0 where
  pub entry : Entry
  pub found : o ≡ Some entry
  pub names : named_at r i.site.token ≡ named_of entry.meaning
  pub not_main : is_main entry.meaning ≡ false

pub named_by : (r : Resolution) (i : Identifier) (o : Option Entry) → Held r (name_notes i.site.token o) → IsNamed r i o
named_by r i None h = absurd (no_fault _ _ _ _ h)
named_by r i (Some e) h = record { entry = e; found = refl; names = head_named _ _ _ _ h; not_main = not_wrong _ (is_main e.meaning) i.site.token BadForm (behind_head _ _ _ _ h) }

solid_global : (structs : StructTable) (f : GlobalForm) (k : Kind) → IsSolid structs k → IsSolid structs (global_kind f k)
solid_global structs (Array at n) (array b stars) s = s
solid_global structs _ _ s = s

kind_named : (r : Resolution) (structs : StructTable) (name : List ℕ) (m : Meaning) → IsMeant r structs name m → named_kind r (named_of m) ≡ kind_of m
kind_named r structs name (meaning.variable d) h = ap variable_kind h.1
kind_named r structs name (meaning.global n g) h = ap global_kind_of h.1
kind_named r structs name _ h = refl

pub solid_meaning : (r : Resolution) (structs : StructTable) (name : List ℕ) (m : Meaning) → IsMeant r structs name m → IsSolid structs (kind_of m)
solid_meaning r structs name (meaning.variable d) h = h.2
solid_meaning r structs name (meaning.global n g) h = solid_global structs g.form (declared_kind g.declaration.written) h.2
solid_meaning r structs name _ h = tt

pub not_main_text : (n : ℕ) (f : Function) (s : Signature) (text : List ℕ) → signature_of f ≡ s → f.name.text ≡ text → is_main (meaning.function n s) ≡ false → text ≡ codes "main" → ⊥
not_main_text n f s text same spelled other is = false≢true (sym other ∙ (bytes_eq-Decides s.name.text (codes "main")).1 (ap (λ (z : Signature). z.name.text) (sym same) ∙ spelled ∙ is))

callee_of : (r : Resolution) (i : Identifier) (n : ℕ) (f : Function) (s : Signature) → named_at r i.site.token ≡ Named.Function n → function_at r n ≡ Some f → signature_of f ≡ s → f.name.text ≡ i.text → is_main (meaning.function n s) ≡ false
    → Callee r i (declared_kinds s.parameters) (declared_kind s.result)
callee_of r i n f s is at same spelled other = subst (λ (z : Signature). Callee r i (declared_kinds z.parameters) (declared_kind z.result)) same (of_program f is at spelled (not_main_text n f s i.text same spelled other))

has_name : (r : Resolution) (structs : StructTable) (s : Span) (i : Identifier) (m : Meaning) → IsMeant r structs i.text m → is_main m ≡ false → named_at r i.site.token ≡ named_of m → HasType r (tree.identifier s i) (kind_of m)
has_name r structs s i (meaning.variable d) h other is = a_variable is h.1 h.0
has_name r structs s i (meaning.global n g) h other is = a_global is h.1 h.0
has_name r structs s i (meaning.function n f) h other is = a_function (callee_of r i n h.0 f is h.1 h.2 h.4 other)
has_name r structs s i (meaning.condition c) h other is = a_function (of_conditions c is h)

pub not_main_kind : (m : Meaning) → is_main m ≡ false → cond (is_main m) None (Some (kind_of m)) ≡ Some (kind_of m)
not_main_kind m h = ap (λ b. cond b None (Some (kind_of m))) h

name_judged : (r : Resolution) (scope : Scope) → IsScene r scope → (s : Span) (i : Identifier) → Held r (name_notes i.site.token (look_up scope.names i.text)) → IsJudged r scope (tree.identifier s i)
name_judged r scope scene s i h =
    let n = named_by r i (look_up scope.names i.text) h in
    let m = found_name r scope.structs scope.names i.text n.entry scene.names n.found in
    judge r scope (tree.identifier s i) (kind_of n.entry.meaning)
    (ap (named_kind r) n.names ∙ kind_named r scope.structs i.text n.entry.meaning m)
    (ap name_kind n.found ∙ not_main_kind n.entry.meaning n.not_main)
    (inl (solid_meaning r scope.structs i.text n.entry.meaning m))
    (has_name r scope.structs s i n.entry.meaning m n.not_main n.names)

-- forms with parts that have been judged

constant_solid : (structs : StructTable) (c : Constant) → IsSolid structs (constant_kind c)
constant_solid structs (Constant.Number n) = by n.number_type
  where
    by : (w : NumberType) → IsSolid structs (number_kind w)
    by NumberType.Int = tt
    by NumberType.Long = tt
constant_solid structs _ = tt

parentheses_judged : (r : Resolution) (scope : Scope) (s : Span) (a : Expression) → IsJudged r scope a → IsJudged r scope (tree.parentheses s a)
parentheses_judged r scope s a j = record { typed = j.typed; valued = j.valued; has = in_parentheses j.has }

-- what an operand's place needs is met
pub record IsMet (r : Resolution) (scope : Scope) (n : Need) (a : Expression) : Type 0 where
  pub fits : fits n (kind_at r a) ≡ true
  pub met : met n (type_of scope a) ≡ Some (kind_at r a)

pub met_by : (r : Resolution) (scope : Scope) (n : Need) (a : Expression) → IsJudged r scope a → Held r (unmet n a (type_of scope a)) → IsMet r scope n a
met_by r scope n a j h =
    let f = need_fits r scope.structs n a (kind_at r a) (type_of scope a) j.typed j.valued h in
    record { fits = f; met = need_met n (kind_at r a) (type_of scope a) j.typed f }

value_call_judged : (r : Resolution) (scope : Scope) (s : Span) (w : ValueCall) (a : Expression) → IsJudged r scope a → Held r (notes_of scope (tree.on_value s w a)) → IsJudged r scope (tree.on_value s w a)
value_call_judged r scope s w a j h =
    let m = met_by r scope Need.Integer a j (right _ _ _ h) in
    judge r scope (tree.on_value s w a) void refl (ap value_call_kind m.met) (inr (refl, s.first.token, refl)) (printed_or_joined j.has (integer_is (kind_at r a) m.fits))

-- lvalues

pub record IsLvalue (r : Resolution) (scope : Scope) (a : Expression) : Type 0 where
  pub lvalue : is_lvalue a ≡ true
  pub kind : place_kind scope.names a (type_of scope a) ≡ Some (kind_at r a)

pub lvalue_by : (r : Resolution) (scope : Scope) (a : Expression) → IsJudged r scope a → Held r (place_notes scope.names a) → IsLvalue r scope a
lvalue_by r scope a j h =
    let p = well _ (is_place scope.names a) (place a) NoLvalue h in
    record {
      lvalue = (and_parts (is_lvalue a) (not (names_function scope.names (without_parentheses a))) p).0;
      kind = ap (λ b. cond b (type_of scope a) None) p ∙ j.typed;
    }

has_place_call : (r : Resolution) (s : Span) (w : PlaceCall) (a : Expression) (k : Kind) → is_lvalue a ≡ true → suits w k ≡ true → HasType r a k → HasType r (tree.on_place s w a) void
has_place_call r s Lock a k l f h = locked l (subst (HasType r a) (one_kind k mutex f) h)
has_place_call r s Unlock a k l f h = unlocked l (subst (HasType r a) (one_kind k mutex f) h)
has_place_call r s Free a k l f h = freed l h (pointer_is k f)

place_call_judged : (r : Resolution) (scope : Scope) (s : Span) (w : PlaceCall) (a : Expression) → IsJudged r scope a → Held r (notes_of scope (tree.on_place s w a)) → IsJudged r scope (tree.on_place s w a)
place_call_judged r scope s w a j h =
    let l = lvalue_by r scope a j (right _ _ _ (left _ _ _ h)) in
    let f = well _ (suits w (kind_at r a)) s.first.token BadForm (subst (λ t. Held r (place_call_notes s.first.token w t)) l.kind (right _ _ _ h)) in
    judge r scope (tree.on_place s w a) void refl (ap (place_call_kind w) l.kind ∙ ap (λ b. cond b (Some void) None) f) (inr (refl, s.first.token, refl)) (has_place_call r s w a (kind_at r a) l.lvalue f j.has)

-- casts

record IsKept (r : Resolution) (t : WrittenType) (k : Kind) : Type 0 where
  pointer : is_pointer k ≡ true
  kept : same_kind k (declared_kind t) ≡ true

kept_by : (r : Resolution) (word at : ℕ) (t : WrittenType) (k : Kind) (b : Bool) → is_pointer k ≡ b → Held r (cond b (fault_unless (same_kind k (declared_kind t) || false) at TypeMismatch) (fault word BadForm ∷ [])) → IsKept r t k
kept_by r word at t k true p h = record { pointer = p; kept = ⊎_elim (λ e. e) (λ e. absurd (false≢true e)) (or_cases (same_kind k (declared_kind t)) false (well _ _ at TypeMismatch h)) }
kept_by r word at t k false p h = absurd (no_fault _ _ _ _ h)

cast_judged : (r : Resolution) (scope : Scope) (s : Span) (t : WrittenType) (a : Expression) → IsJudged r scope a → Held r (notes_of scope (tree.cast s t a)) → IsJudged r scope (tree.cast s t a)
cast_judged r scope s t a j h =
    let fine = type_fine r scope [] Role.Cast t (left _ _ _ (left _ _ _ (left _ _ _ h))) in
    let l = lvalue_by r scope a j (right _ _ _ (left _ _ _ h)) in
    let n = subst (λ b. Held r (cast_notes s.first.token b t a (Some (kind_at r a)))) fine (subst (λ k. Held r (cast_notes s.first.token (is_fine scope.structs Role.Cast t) t a k)) l.kind (right _ _ _ h)) in
    let k = kept_by r s.first.token (place a) t (kind_at r a) (is_pointer (kind_at r a)) refl n in
    let same = one_kind (kind_at r a) (declared_kind t) k.kept in
    let typed : type_of scope (tree.cast s t a) ≡ Some (declared_kind t) =
    ap (cast_kind (is_fine scope.structs Role.Cast t) t) l.kind ∙ ap (λ b. cast_kind b t (Some (kind_at r a))) fine
    ∙ ap (λ b. cond (b && same_kind (kind_at r a) (declared_kind t)) (Some (declared_kind t)) None) k.pointer ∙ ap (λ b. cond b (Some (declared_kind t)) None) k.kept in
    judge r scope (tree.cast s t a) (declared_kind t) refl typed
    (solid_cast (kind_at r a) same k.pointer j.valued)
    (a_cast l.lvalue (subst (HasType r a) same j.has) (pointer_is (declared_kind t) (ap is_pointer (sym same) ∙ k.pointer)))
  where
    solid_cast : (k : Kind) → k ≡ declared_kind t → is_pointer k ≡ true → IsValued scope.structs a k → IsValued scope.structs (tree.cast s t a) (declared_kind t)
    solid_cast k is p (inl solid) = inl (subst (IsSolid scope.structs) is solid)
    solid_cast k is p (inr v) = absurd (false≢true (ap is_pointer (sym v.0) ∙ p))

-- elements

has_index : (r : Resolution) (s : Span) (a i : Expression) (k m : Kind) → fits Need.Indexed k ≡ true → HasType r a k → HasType r i m → IsInteger m → HasType r (tree.index s a i) (element_kind k)
has_index r s a i (object b n) m f ha hi im = element_of_pointer (subst (λ z. HasType r a (object b z)) (one_less n (⊎_elim (λ e. e) (λ e. absurd (false≢true e)) (or_cases (nat_lt 0 n) false f))) ha) hi im
has_index r s a i (array b n) m f ha hi im = element_of_array ha hi im
has_index r s a i _ m f ha hi im = absurd (false≢true f)

solid_element : (structs : StructTable) (k : Kind) → IsSolid structs k → IsSolid structs (element_kind k)
solid_element structs (array b n) h = h
solid_element structs _ h = h

-- what fits where no `void` does is no `void`
solid_fit : (structs : StructTable) (e : Expression) (n : Need) (k : Kind) → IsValued structs e k → fits n k ≡ true → fits n void ≡ false → IsSolid structs k
solid_fit structs e n k (inl s) f v = s
solid_fit structs e n k (inr is) f v = absurd (false≢true (sym v ∙ ap (fits n) (sym is.0) ∙ f))

index_judged : (r : Resolution) (scope : Scope) (s : Span) (a i : Expression) → IsJudged r scope a → IsJudged r scope i → Held r (notes_of scope (tree.index s a i)) → IsJudged r scope (tree.index s a i)
index_judged r scope s a i ja ji h =
    let m = met_by r scope Need.Indexed a ja (right _ _ _ (left _ _ _ (left _ _ _ h))) in
    let n = met_by r scope Need.Integer i ji (right _ _ _ h) in
    judge r scope (tree.index s a i) (element_kind (kind_at r a)) refl (ap₂ element_of m.met n.met)
    (inl (solid_element scope.structs (kind_at r a) (solid_fit scope.structs a Need.Indexed (kind_at r a) ja.valued m.fits refl)))
    (has_index r s a i (kind_at r a) (kind_at r i) m.fits ja.has ji.has (integer_is (kind_at r i) n.fits))

-- operators

solid_long : (structs : StructTable) (b : Bool) → IsSolid structs (cond b long int)
solid_long structs true = tt
solid_long structs false = tt

has_unary : (r : Resolution) (s : Span) (o : UnaryOperator) (a : Expression) (k : Kind) → fits (operand_need o) k ≡ true → HasType r a k → HasType r (tree.unary s o a) (unary_result o k)
has_unary r s Negate a k f h = negated h (integer_is k f) (promoted_is k (integer_is k f))
has_unary r s Not a k f h = denied h (scalar_is k f)
has_unary r s Complement a k f h = complemented h (integer_is k f) (promoted_is k (integer_is k f))
has_unary r s Dereference a (object b n) f h = pointed_to (subst (λ z. HasType r a (object b z)) (one_less n f) h)
has_unary r s Dereference a _ f h = absurd (false≢true f)

solid_unary : (structs : StructTable) (o : UnaryOperator) (a : Expression) (k : Kind) → fits (operand_need o) k ≡ true → IsValued structs a k → IsSolid structs (unary_result o k)
solid_unary structs Not a k f v = tt
solid_unary structs Dereference a k f v = solid_element structs k (solid_fit structs a Need.Pointer k v f refl)
solid_unary structs _ a k f v = solid_long structs (kinds.is_long k)

unary_judged : (r : Resolution) (scope : Scope) (s : Span) (o : UnaryOperator) (a : Expression) → IsJudged r scope a → Held r (notes_of scope (tree.unary s o a)) → IsJudged r scope (tree.unary s o a)
unary_judged r scope s o a j h =
    let m = met_by r scope (operand_need o) a j (right _ _ _ h) in
    judge r scope (tree.unary s o a) (unary_result o (kind_at r a)) refl (ap (unary_kind o) m.met)
    (inl (solid_unary scope.structs o a (kind_at r a) m.fits j.valued))
    (has_unary r s o a (kind_at r a) m.fits j.has)

has_binary : (r : Resolution) (s : Span) (o : BinaryOperator) (at : Site) (a b : Expression) (c : OperatorClass) (j k : Kind) → class_of o ≡ c
    → fits (operands_need c) j ≡ true → fits (operands_need c) k ≡ true → may_join c j k ≡ true → HasType r a j → HasType r b k → HasType r (tree.binary s o at a b) (binary_result c j k)
has_binary r s o at a b Logical j k is fj fk m ha hb = joined is ha hb (scalar_is j fj) (scalar_is k fk)
has_binary r s o at a b Equality j k is fj fk m ha hb = equated is ha hb (comparable_is j k fj fk m)
has_binary r s o at a b Relation j k is fj fk m ha hb = related is ha hb (integer_is j fj) (integer_is k fk)
has_binary r s o at a b Shift j k is fj fk m ha hb = shifted is ha hb (integer_is j fj) (integer_is k fk) (promoted_is j (integer_is j fj))
has_binary r s o at a b Arithmetic j k is fj fk m ha hb = arithmetic is ha hb (integer_is j fj) (integer_is k fk) (common_is j k (integer_is j fj) (integer_is k fk))

solid_binary : (structs : StructTable) (c : OperatorClass) (j k : Kind) → IsSolid structs (binary_result c j k)
solid_binary structs Shift j k = solid_long structs (kinds.is_long j)
solid_binary structs Arithmetic j k = solid_long structs (kinds.is_long j || kinds.is_long k)
solid_binary structs _ j k = tt

binary_judged : (r : Resolution) (scope : Scope) (s : Span) (o : BinaryOperator) (at : Site) (a b : Expression) → IsJudged r scope a → IsJudged r scope b → Held r (notes_of scope (tree.binary s o at a b))
    → IsJudged r scope (tree.binary s o at a b)
binary_judged r scope s o at a b ja jb h =
    let c = class_of o in
    let m = met_by r scope (operands_need (class_of o)) a ja (right _ _ _ (left _ _ _ (left _ _ _ (left _ _ _ h)))) in
    let n = met_by r scope (operands_need (class_of o)) b jb (right _ _ _ (left _ _ _ h)) in
    let t = well _ (may_join (class_of o) (kind_at r a) (kind_at r b)) (place b) TypeMismatch
    (subst (λ z. Held r (binary_notes (class_of o) b (Some (kind_at r a)) z)) n.met
    (subst (λ z. Held r (binary_notes (class_of o) b z (met (operands_need (class_of o)) (type_of scope b)))) m.met (right _ _ _ h))) in
    judge r scope (tree.binary s o at a b) (binary_result (class_of o) (kind_at r a) (kind_at r b)) refl
    (ap₂ (binary_kind (class_of o)) m.met n.met ∙ ap (λ z. cond z (Some (binary_result (class_of o) (kind_at r a) (kind_at r b))) None) t)
    (inl (solid_binary scope.structs (class_of o) (kind_at r a) (kind_at r b)))
    (has_binary r s o at a b (class_of o) (kind_at r a) (kind_at r b) refl m.fits n.fits t ja.has jb.has)

-- fields

pub struct_behind_is : (n : ℕ) (k : Kind) → is_struct_behind n k ≡ true → (x : List ℕ) × (k ≡ object (Base.Struct x) n)
struct_behind_is n (object Base.Int m) h = absurd (false≢true (and_parts (m == n) false h).1)
struct_behind_is n (object Base.Char m) h = absurd (false≢true (and_parts (m == n) false h).1)
struct_behind_is n (object Base.Long m) h = absurd (false≢true (and_parts (m == n) false h).1)
struct_behind_is n (object Base.Mutex m) h = absurd (false≢true (and_parts (m == n) false h).1)
struct_behind_is n (object Base.Void m) h = absurd (false≢true (and_parts (m == n) false h).1)
struct_behind_is n (object (Base.Struct x) m) h = (x, ap (object (Base.Struct x)) (eqb-true m n (and_parts (m == n) true h).0))
struct_behind_is n _ h = absurd (false≢true h)

void_is_no_struct : (x : List ℕ) (n : ℕ) → void ≡ object (Base.Struct x) n → ⊥
void_is_no_struct x n h = cc

struct_known : (structs : StructTable) (e : Expression) (k : Kind) (x : List ℕ) (n : ℕ) → IsValued structs e k → k ≡ object (Base.Struct x) n → (m : StructMeaning) × (struct_of structs x ≡ Some m)
struct_known structs e k x n (inl s) is = subst (IsSolid structs) is s
struct_known structs e k x n (inr v) is = absurd (void_is_no_struct x n (sym v.0 ∙ is))

pub record IsMember (r : Resolution) (structs : StructTable) (struct name : List ℕ) (token : ℕ) (o : Option (Option Declaration)) : Type 0 where
  pub member : Declaration
  pub found : o ≡ Some (Some member)
  pub names : named_at r token ≡ Named.Field member.name.site.token
  pub is : IsField r structs member
  pub of : IsMemberOf r struct name member

member_by : (r : Resolution) (structs : StructTable) (x : List ℕ) (s : StructDefinition) (token : ℕ) (fields : List Declaration) (name : List ℕ) (o : Option Declaration) → struct_named (structs_in r.program.items) x ≡ Some s → s.fields ≡ fields
    → field_of fields name ≡ o → AllByRecursion (IsField r structs) fields → Held r (field_notes token (Some o)) → IsMember r structs x name token (Some o)
member_by r structs x s token fields name None first same is all h = absurd (no_fault _ _ _ _ h)
member_by r structs x s token fields name (Some d) first same is all h =
    record { member = d; found = refl; names = head_named _ _ _ _ h; is = found_field r structs fields name d all is; of = (s, first, ap (λ l. field_of l name) same ∙ is) }

member_in : (r : Resolution) (structs : StructTable) (token : ℕ) (name x : List ℕ) (m : StructMeaning) → IsStruct r structs x m → Held r (field_notes token (Some (field_of (fields_of m) name))) → IsMember r structs x name token (Some (field_of (fields_of m) name))
member_in r structs token name x (defined n fields) i h = member_by r structs x i.0 token fields name (field_of fields name) i.2 i.3 refl i.4 h
member_in r structs token name x known i h = absurd (no_fault _ _ _ _ h)

pub member_of : (r : Resolution) (structs : StructTable) (token : ℕ) (name x : List ℕ) (n : ℕ) (m : StructMeaning) → AreStructs r structs structs → struct_of structs x ≡ Some m
    → Held r (field_notes token (field_in structs name (Some (object (Base.Struct x) n)))) → IsMember r structs x name token (field_in structs name (Some (object (Base.Struct x) n)))
member_of r structs token name x n m all is h =
    subst (λ o. IsMember r structs x name token (field_among name o)) (sym is)
    (member_in r structs token name x m (found_struct r structs structs x m all is) (subst (λ o. Held r (field_notes token (field_among name o))) is h))

abbrev pub stars_before : FieldOperator → ℕ
stars_before Dot = 0
stars_before Arrow = 1

behind_access : (w : FieldOperator) (k : Kind) → fits (access_need w) k ≡ true → is_struct_behind (stars_before w) k ≡ true
behind_access Dot k h = h
behind_access Arrow k h = h

has_field : (r : Resolution) (s : Span) (a : Expression) (w : FieldOperator) (name : Identifier) (x : List ℕ) (d : Declaration) → HasType r a (object (Base.Struct x) (stars_before w)) → IsMemberOf r x name.text d
    → named_at r name.site.token ≡ Named.Field d.name.site.token → HasType r (tree.field s a w name) (declared_kind d.written)
has_field r s a Dot name x d h of is = a_field h of is
has_field r s a Arrow name x d h of is = a_field_behind h of is

pub record IsFieldUse (r : Resolution) (scope : Scope) (a : Expression) (w : FieldOperator) (n : Identifier) : Type 0 where
  pub name : List ℕ
  pub of : kind_at r a ≡ object (Base.Struct name) (stars_before w)
  pub known : StructMeaning
  pub knows : struct_of scope.structs name ≡ Some known
  pub found : IsMember r scope.structs name n.text n.site.token (field_in scope.structs n.text (met (access_need w) (type_of scope a)))

pub field_member : (r : Resolution) (scope : Scope) → IsScene r scope → (s : Span) (a : Expression) (w : FieldOperator) (n : Identifier) → IsJudged r scope a → Held r (notes_of scope (tree.field s a w n)) → IsFieldUse r scope a w n
field_member r scope scene s a w n j h =
    let m = met_by r scope (access_need w) a j (right _ _ _ (left _ _ _ h)) in
    let b = struct_behind_is (stars_before w) (kind_at r a) (behind_access w (kind_at r a) m.fits) in
    let met_is : met (access_need w) (type_of scope a) ≡ Some (object (Base.Struct b.0) (stars_before w)) = m.met ∙ ap Some b.1 in
    let k = struct_known scope.structs a (kind_at r a) b.0 (stars_before w) j.valued b.1 in
    record {
      name = b.0;
      of = b.1;
      known = k.0;
      knows = k.1;
      found = subst (λ z. IsMember r scope.structs b.0 n.text n.site.token (field_in scope.structs n.text z)) (sym met_is)
          (member_of r scope.structs n.site.token n.text b.0 (stars_before w) k.0 scene.structs k.1 (subst (λ z. Held r (field_notes n.site.token (field_in scope.structs n.text z))) met_is (right _ _ _ h)));
    }

field_judged : (r : Resolution) (scope : Scope) → IsScene r scope → (s : Span) (a : Expression) (w : FieldOperator) (n : Identifier) → IsJudged r scope a → Held r (notes_of scope (tree.field s a w n)) → IsJudged r scope (tree.field s a w n)
field_judged r scope scene s a w n j h =
    let u = field_member r scope scene s a w n j h in
    judge r scope (tree.field s a w n) (declared_kind u.found.member.written)
    (ap (named_kind r) u.found.names ∙ ap variable_kind u.found.is.0)
    (ap field_kind u.found.found)
    (inl u.found.is.1)
    (has_field r s a w n u.name u.found.member (subst (HasType r a) u.of j.has) u.found.of u.found.names)

-- calls

pub record IsCallee (r : Resolution) (structs : StructTable) (i : Identifier) (n : ℕ) (o : Option Entry) : Type 0 where
  pub parameters : List Kind
  pub result : Kind
  pub wants : wanted n o ≡ parameters
  pub gives : call_result n o ≡ Some result
  pub many : length parameters ≡ n
  pub kind : called_kind r (named_at r i.site.token) ≡ result
  pub callee : Callee r i parameters result
  pub sound : IsResult structs result
  pub names : (parameters_named r (named_at r i.site.token) ≡ []) ⊎ (declared_kinds (parameters_named r (named_at r i.site.token)) ≡ parameters)

callee_facts : (r : Resolution) (structs : StructTable) (i : Identifier) (n : ℕ) (e : Entry) (parameters : List Kind) (result : Kind) → parameters_of e.meaning ≡ Some parameters → result_of e.meaning ≡ result → is_main e.meaning ≡ false
    → Held r (count_notes AsValue i.site.token n (Some parameters)) → called_kind r (named_at r i.site.token) ≡ result → Callee r i parameters result → IsResult structs result
    → (parameters_named r (named_at r i.site.token) ≡ []) ⊎ (declared_kinds (parameters_named r (named_at r i.site.token)) ≡ parameters) → IsCallee r structs i n (Some e)
callee_facts r structs i n e parameters result takes_is result_is not_main h kind callee sound names =
    let fits = well _ (length parameters == n) i.site.token ArgumentCount h in
    let takes_it : takes n (parameters_of e.meaning) ≡ true = ap (takes n) takes_is ∙ fits in
    record {
      parameters = parameters;
      result = result;
      wants = ap (λ b. wanted_if b (parameters_of e.meaning)) takes_it ∙ ap (wanted_if true) takes_is;
      gives = ap (λ b. cond (b && not (is_main e.meaning)) (Some (result_of e.meaning)) None) takes_it ∙ ap (λ b. cond (not b) (Some (result_of e.meaning)) None) not_main ∙ ap Some result_is;
      many = eqb-true (length parameters) n fits;
      kind = kind;
      callee = callee;
      sound = sound;
      names = names;
    }

callee_meant : (r : Resolution) (structs : StructTable) (i : Identifier) (n : ℕ) (name : List ℕ) (block : ℕ) (m : Meaning) → IsMeant r structs i.text m → named_at r i.site.token ≡ named_of m → is_main m ≡ false
    → Held r (count_notes AsValue i.site.token n (parameters_of m)) → IsCallee r structs i n (Some (record { name = name; block = block; meaning = m }))
callee_meant r structs i n name block (meaning.function k s) m is not_main h =
    let same : declared_kind m.0.result ≡ declared_kind s.result = ap (λ (z : Signature). declared_kind z.result) m.2 in
    callee_facts r structs i n (record { name = name; block = block; meaning = meaning.function k s }) (declared_kinds s.parameters) (declared_kind s.result) refl refl not_main h
    (ap (called_kind r) is ∙ ap result_kind_of m.1 ∙ same) (callee_of r i k m.0 s is m.1 m.2 m.4 not_main) (subst (IsResult structs) same m.3)
    (inr (ap (λ z. declared_kinds (parameters_named r z)) is ∙ ap (λ z. declared_kinds (parameters_of_function z)) m.1 ∙ ap (λ (z : Signature). declared_kinds z.parameters) m.2))
callee_meant r structs i n name block (meaning.condition c) m is not_main h =
    callee_facts r structs i n (record { name = name; block = block; meaning = meaning.condition c }) (condition_parameters c) void refl refl not_main h (ap (called_kind r) is) (of_conditions c is m) (inr refl)
    (inl (ap (parameters_named r) is))
callee_meant r structs i n name block _ m is not_main h = absurd (no_fault _ _ _ _ h)

callee_by : (r : Resolution) (structs : StructTable) (names : List Entry) (i : Identifier) (n : ℕ) (o : Option Entry) → AreMeant r structs names → look_up names i.text ≡ o → Held r (callee_notes AsValue i.site.token n o) → IsCallee r structs i n o
callee_by r structs names i n None all is h = absurd (no_fault _ _ _ _ h)
callee_by r structs names i n (Some e) all is h =
    let rest = behind_head _ _ _ _ h in
    callee_meant r structs i n e.name e.block e.meaning (found_name r structs names i.text e all is) (head_named _ _ _ _ h) (not_wrong _ (is_main e.meaning) i.site.token BadForm (left _ _ _ rest)) (right _ _ _ rest)

pub call_callee : (r : Resolution) (scope : Scope) → IsScene r scope → (s : Span) (f : Identifier) (all : Arguments) → Held r (notes_of scope (tree.call s f all)) → IsCallee r scope.structs f (count all) (look_up scope.names f.text)
call_callee r scope scene s f all h = callee_by r scope.structs scope.names f (count all) (look_up scope.names f.text) scene.names refl (left _ _ _ h)

pub record AreJudged (r : Resolution) (scope : Scope) (want : List Kind) (all : Arguments) : Type 0 where
  pub fine : are_fine scope want all ≡ true
  pub have : HaveTypes r all want

call_judged : (r : Resolution) (scope : Scope) (s : Span) (f : Identifier) (all : Arguments) (c : IsCallee r scope.structs f (count all) (look_up scope.names f.text)) → AreJudged r scope c.parameters all → IsJudged r scope (tree.call s f all)
call_judged r scope s f all c j =
    judge r scope (tree.call s f all) c.result c.kind
    (ap₂ call_kind c.gives (ap (λ w. are_fine scope w all) c.wants ∙ j.fine))
    (⊎_elim (λ z. inl z) (λ z. inr (z, f.site.token, refl)) c.sound)
    (a_call c.callee j.have)

-- arguments

no_arguments_judged : (r : Resolution) (scope : Scope) (want : List Kind) → length want ≡ 0 → AreJudged r scope want no_arguments
no_arguments_judged r scope [] many = record { fine = refl; have = none_left }
no_arguments_judged r scope (p ∷ rest) many = absurd (omega (arith, many))

pub rest_many : (want : List Kind) (n : ℕ) → length want ≡ n + 1 → length (drop 1 want) ≡ n
rest_many [] n many = absurd (omega (arith, many))
rest_many (p ∷ rest) n many = omega (arith, many)

one_argument : (r : Resolution) (scope : Scope) (want : List Kind) (a : Expression) (rest : Arguments) → length want ≡ count rest + 1 → IsJudged r scope a → IsMet r scope Need.Value a → agreed (first_wanted want) (Some (kind_at r a)) ≡ true
    → AreJudged r scope (drop 1 want) rest → AreJudged r scope want (argument a rest)
one_argument r scope [] a rest many j m w later = absurd (omega (arith, many))
one_argument r scope (p ∷ more) a rest many j m w later =
    record {
      fine = ap (λ t. (is_some t && agreed (Some p) t) && are_fine scope more rest) m.met ∙ ap (λ b. b && are_fine scope more rest) w ∙ later.fine;
      have = one_more j.has (assignable_is p (kind_at r a) m.fits w) later.have;
    }

pub argument_agrees : (r : Resolution) (scope : Scope) (want : Option Kind) (a : Expression) → IsMet r scope Need.Value a → Held r (unagreed want a (met Need.Value (type_of scope a))) → agreed want (Some (kind_at r a)) ≡ true
argument_agrees r scope want a m h = well _ (agreed want (Some (kind_at r a))) (place a) TypeMismatch (subst (λ t. Held r (unagreed want a t)) m.met h)

argument_judged : (r : Resolution) (scope : Scope) (want : List Kind) (a : Expression) (rest : Arguments) → length want ≡ count rest + 1 → IsJudged r scope a → AreJudged r scope (drop 1 want) rest → Held r (notes_of_all scope want (argument a rest))
    → AreJudged r scope want (argument a rest)
argument_judged r scope want a rest many j later h =
    let m = met_by r scope Need.Value a j (right _ _ _ (left _ _ _ (left _ _ _ h))) in
    one_argument r scope want a rest many j m (argument_agrees r scope (first_wanted want) a m (right _ _ _ (left _ _ _ h))) later

-- `spawn`

pub record IsSpawned (r : Resolution) (i : Identifier) (o : Option Entry) : Type 0 where
  pub parameter : Kind
  pub wants : spawn_wanted o ≡ Some parameter
  pub may : may_spawn o ≡ true
  pub callee : Callee r i (parameter ∷ []) void
  pub declared : Declaration
  pub names : parameters_named r (named_at r i.site.token) ≡ declared ∷ []
  pub is : declared_kind declared.written ≡ parameter

pub one_of : {A : Type 0} (list : List A) → length list ≡ 1 → (x : A) × (list ≡ x ∷ [])
one_of (x ∷ []) h = (x, refl)
one_of _ h = absurd (omega (arith, h))

spawned_by : (r : Resolution) (structs : StructTable) (i : Identifier) (name : List ℕ) (block : ℕ) (m : Meaning) → IsMeant r structs i.text m → named_at r i.site.token ≡ named_of m → can_spawn m ≡ true → IsSpawned r i (Some (record { name = name; block = block; meaning = m }))
spawned_by r structs i name block (meaning.function k s) m is h =
    let p = and_parts (same_kind (declared_kind s.result) void) _ h in
    let q = and_parts (length s.parameters == 1) _ p.1 in
    let d = one_of s.parameters (eqb-true (length s.parameters) 1 q.0) in
    let kinds_are : declared_kinds s.parameters ≡ declared_kind d.0.written ∷ [] = ap declared_kinds d.1 in
    record {
      parameter = declared_kind d.0.written;
      wants = ap (λ z. first_wanted (wanted_if (length z == 1) (Some z))) kinds_are;
      may = h;
      callee = subst (λ z. Callee r i z void) kinds_are (subst (Callee r i (declared_kinds s.parameters)) (one_kind (declared_kind s.result) void p.0) (callee_of r i k m.0 s is m.1 m.2 m.4 (not-true (is_main (meaning.function k s)) (and_parts (length s.parameters == 1) _ p.1).1)));
      declared = d.0;
      names = ap (parameters_named r) is ∙ ap parameters_of_function m.1 ∙ ap (λ (z : Signature). z.parameters) m.2 ∙ d.1;
      is = refl;
    }
spawned_by r structs i name block _ m is h = absurd (false≢true h)

spawn_by : (r : Resolution) (structs : StructTable) (names : List Entry) (word : ℕ) (i : Identifier) (o : Option Entry) → AreMeant r structs names → look_up names i.text ≡ o → Held r (spawn_notes word i.site.token o) → IsSpawned r i o
spawn_by r structs names word i None all is h = absurd (no_fault _ _ _ _ h)
spawn_by r structs names word i (Some e) all is h =
    spawned_by r structs i e.name e.block e.meaning (found_name r structs names i.text e all is) (head_named _ _ _ _ h) (well _ (can_spawn e.meaning) word BadForm (right _ _ _ (behind_head _ _ _ _ h)))

-- its name is that of a function
spawn_names : (r : Resolution) (word : ℕ) (i : Identifier) (o : Option Entry) → Held r (spawn_notes word i.site.token o) → (n : ℕ) × (named_at r i.site.token ≡ Named.Function n)
spawn_names r word i None h = absurd (no_fault _ _ _ _ h)
spawn_names r word i (Some e) h = by e.meaning (head_named _ _ _ _ h) (well _ (can_spawn e.meaning) word BadForm (right _ _ _ (behind_head _ _ _ _ h)))
  where
    by : (m : Meaning) → named_at r i.site.token ≡ named_of m → can_spawn m ≡ true → (n : ℕ) × (named_at r i.site.token ≡ Named.Function n)
    by (meaning.function k f) is can = (k, is)
    by _ is can = absurd (false≢true can)

pub spawned_name : (r : Resolution) (scope : Scope) (s : Span) (f : Identifier) (a : Expression) → Held r (notes_of scope (tree.spawn s f a)) → (n : ℕ) × (named_at r f.site.token ≡ Named.Function n)
spawned_name r scope s f a h = spawn_names r s.first.token f (look_up scope.names f.text) (right _ _ _ (left _ _ _ h))

pub spawn_callee : (r : Resolution) (scope : Scope) → IsScene r scope → (s : Span) (f : Identifier) (a : Expression) → Held r (notes_of scope (tree.spawn s f a)) → IsSpawned r f (look_up scope.names f.text)
spawn_callee r scope scene s f a h = spawn_by r scope.structs scope.names s.first.token f (look_up scope.names f.text) scene.names refl (right _ _ _ (left _ _ _ h))

pub spawn_agrees : (r : Resolution) (scope : Scope) (s : Span) (f : Identifier) (a : Expression) (c : IsSpawned r f (look_up scope.names f.text)) → IsMet r scope Need.Value a → Held r (notes_of scope (tree.spawn s f a)) → agrees c.parameter (kind_at r a) ≡ true
spawn_agrees r scope s f a c m h = argument_agrees r scope (Some c.parameter) a m (subst (λ w. Held r (unagreed w a (met Need.Value (type_of scope a)))) c.wants (right _ _ _ h))

spawn_judged : (r : Resolution) (scope : Scope) → IsScene r scope → (s : Span) (f : Identifier) (a : Expression) → IsJudged r scope a → Held r (notes_of scope (tree.spawn s f a)) → IsJudged r scope (tree.spawn s f a)
spawn_judged r scope scene s f a j h =
    let m = met_by r scope Need.Value a j (right _ _ _ (left _ _ _ (left _ _ _ h))) in
    let c = spawn_callee r scope scene s f a h in
    let agree = spawn_agrees r scope s f a c m h in
    let typed : type_of scope (tree.spawn s f a) ≡ Some int =
    ap (λ b. spawn_kind b (agreed (spawn_wanted (look_up scope.names f.text)) (met Need.Value (type_of scope a))) (met Need.Value (type_of scope a))) c.may
    ∙ ap (λ w. spawn_kind true (agreed w (met Need.Value (type_of scope a))) (met Need.Value (type_of scope a))) c.wants
    ∙ ap (λ t. spawn_kind true (agreed (Some c.parameter) t) t) m.met ∙ ap (λ b. spawn_kind true b (Some (kind_at r a))) agree in
    judge r scope (tree.spawn s f a) int refl typed (inl tt) (spawned c.callee (one_more j.has (assignable_is c.parameter (kind_at r a) m.fits agree) none_left))

-- all of them

mutual
  pub judged : (r : Resolution) (scope : Scope) → IsScene r scope → (e : Expression) → Held r (notes_of scope e) → IsJudged r scope e
  judged r scope scene (tree.identifier s i) h = name_judged r scope scene s i h
  judged r scope scene (tree.constant s c) h = record { typed = refl; valued = inl (constant_solid scope.structs c); has = a_constant }
  judged r scope scene (tree.parentheses s a) h = parentheses_judged r scope s a (judged r scope scene a h)
  judged r scope scene (tree.call s f all) h =
      let c = call_callee r scope scene s f all h in
      call_judged r scope s f all c (all_judged r scope scene c.parameters all (subst (λ w. Held r (notes_of_all scope w all)) c.wants (right _ _ _ h)) c.many)
  judged r scope scene (tree.spawn s f a) h = spawn_judged r scope scene s f a (judged r scope scene a (left _ _ _ (left _ _ _ (left _ _ _ h)))) h
  judged r scope scene (tree.on_value s w a) h = value_call_judged r scope s w a (judged r scope scene a (left _ _ _ h)) h
  judged r scope scene (tree.on_place s w a) h = place_call_judged r scope s w a (judged r scope scene a (lvalue_held r scope a (left _ _ _ (left _ _ _ h)) (right _ _ _ (left _ _ _ h)))) h
  judged r scope scene (tree.cast s t a) h = cast_judged r scope s t a (judged r scope scene a (lvalue_held r scope a (right _ _ _ (left _ _ _ (left _ _ _ h))) (right _ _ _ (left _ _ _ h)))) h
  judged r scope scene (tree.index s a i) h = index_judged r scope s a i (judged r scope scene a (left _ _ _ (left _ _ _ (left _ _ _ h)))) (judged r scope scene i (right _ _ _ (left _ _ _ h))) h
  judged r scope scene (tree.field s a w n) h = field_judged r scope scene s a w n (judged r scope scene a (left _ _ _ (left _ _ _ h))) h
  judged r scope scene (tree.unary s o a) h = unary_judged r scope s o a (judged r scope scene a (left _ _ _ h)) h
  judged r scope scene (tree.binary s o at a b) h =
      binary_judged r scope s o at a b (judged r scope scene a (left _ _ _ (left _ _ _ (left _ _ _ (left _ _ _ h))))) (judged r scope scene b (right _ _ _ (left _ _ _ (left _ _ _ h)))) h

  pub all_judged : (r : Resolution) (scope : Scope) → IsScene r scope → (want : List Kind) (all : Arguments) → Held r (notes_of_all scope want all) → length want ≡ count all → AreJudged r scope want all
  all_judged r scope scene want no_arguments h many = no_arguments_judged r scope want many
  all_judged r scope scene want (argument a rest) h many =
      argument_judged r scope want a rest many (judged r scope scene a (left _ _ _ (left _ _ _ (left _ _ _ h)))) (all_judged r scope scene (drop 1 want) rest (right _ _ _ h) (rest_many want (count rest) many)) h
