-- The rules give an expression no other type than the one that its names give.
use Rattle.sharc_ctype_laws.proofs.{Imports.{◌≡◌, ℕ, ◌+◌, ◌-◌, Bool, true, false, ◌||◌, cond, List, [], ◌∷◌, refl, ap, ap₂, ◌∙◌, eqb-true, arith, Some, is_some, bytes_eq, false≢true, AllByRecursion, Base, Declaration, Identifier, StructDefinition, Expression, Named, Kind, object, int, long, is_long, promoted, common, element_kind, declared_kind, field_of, OperatorClass, Shift, Arithmetic, binary_result, Resolution, structs_in, named_at, variable_kind, global_kind_of, result_kind_of, named_kind, called_kind, kind_at, HasType, Callee, of_program, of_conditions, Common, both_shorter, left_long, right_long, IsMemberOf, struct_named, a_variable, a_global, a_function, in_parentheses, element_of_pointer, element_of_array, a_call, a_field, a_field_behind, negated, complemented, pointed_to, arithmetic, shifted, related, equated, joined, IsItself, NameThemselves}, Scenes.found_or_later}
use Rattle.sharc_names.specs.Kinds as kinds

-- members are found by their tokens

found_fields : (P : Declaration → Type 0) (list : List StructDefinition) (x : List ℕ) (s : StructDefinition) → AllByRecursion (λ z. AllByRecursion P z.fields) list → struct_named list x ≡ Some s → AllByRecursion P s.fields
found_fields P [] x s all is = absurd (false≢true (ap is_some is))
found_fields P (y ∷ rest) x s all is =
    found_or_later (λ (z : StructDefinition). AllByRecursion P z.fields) y s (struct_named rest x) (bytes_eq y.name.text x) is (λ t. all.0) (λ h. found_fields P rest x s all.1 h)

found_member : (P : Declaration → Type 0) (list : List Declaration) (name : List ℕ) (d : Declaration) → AllByRecursion P list → field_of list name ≡ Some d → P d
found_member P [] name d all is = absurd (false≢true (ap is_some is))
found_member P (y ∷ rest) name d all is = found_or_later P y d (field_of rest name) (bytes_eq y.name.text name) is (λ t. all.0) (λ h. found_member P rest name d all.1 h)

member_kind : (r : Resolution) → NameThemselves r → (x : List ℕ) (name : Identifier) (d : Declaration) → IsMemberOf r x name.text d → named_at r name.site.token ≡ Named.Field d.name.site.token
    → named_kind r (named_at r name.site.token) ≡ declared_kind d.written
member_kind r n x name d m is =
    let fields = found_fields (IsItself r Named.Field) (structs_in r.program.items) x m.0 n.fields m.1 in
    let itself = found_member (IsItself r Named.Field) m.0.fields name.text d fields m.2 in
    ap (named_kind r) is ∙ ap variable_kind itself.1

-- common types

long_is : (k : Kind) → is_long k ≡ true → k ≡ long
long_is (object Base.Long n) h = ap (object Base.Long) (eqb-true n 0 h)
long_is _ h = absurd (false≢true h)

shorter : (k : Kind) (b : Bool) → is_long k ≡ b → (k ≡ long → ⊥) → b ≡ false
shorter k true is no_long = absurd (no_long (long_is k is))
shorter k false is no_long = refl

or_long : (b : Bool) → cond (b || true) long int ≡ long
or_long true = refl
or_long false = refl

common_is : (j k t : Kind) → Common j k t → common j k ≡ t
common_is j k _ (both_shorter a b) = ap₂ (λ x y. cond (x || y) long int) (shorter j (is_long j) refl a) (shorter k (is_long k) refl b)
common_is _ k _ left_long = refl
common_is j _ _ right_long = or_long (is_long j)

promoted_is : (j t : Kind) → Common j int t → promoted j ≡ t
promoted_is j t c = same (is_long j) ∙ common_is j int t c
  where
    same : (b : Bool) → cond b long int ≡ cond (b || false) long int
    same true = refl
    same false = refl

one_less : (n : ℕ) → n + 1 - 1 ≡ n
one_less n = omega arith

callee_kind : (r : Resolution) (i : Identifier) (parameters : List Kind) (result : Kind) → Callee r i parameters result → called_kind r (named_at r i.site.token) ≡ result
callee_kind r i _ _ (of_program f is at spelled other) = ap (called_kind r) is ∙ ap result_kind_of at
callee_kind r i _ _ (of_conditions c is spelled) = ap (called_kind r) is

function_kind : (r : Resolution) (i : Identifier) (parameters : List Kind) (result : Kind) → Callee r i parameters result → named_kind r (named_at r i.site.token) ≡ kinds.function
function_kind r i _ _ (of_program f is at spelled other) = ap (named_kind r) is
function_kind r i _ _ (of_conditions c is spelled) = ap (named_kind r) is

of_class : (c d : OperatorClass) (x y j k t : Kind) → c ≡ d → x ≡ j → y ≡ k → binary_result d j k ≡ t → binary_result c x y ≡ t
of_class c d x y j k t is a b h = ap (λ z. binary_result z x y) is ∙ ap₂ (binary_result d) a b ∙ h

pub one_type : (r : Resolution) → NameThemselves r → (e : Expression) (k : Kind) → HasType r e k → kind_at r e ≡ k
one_type r n _ _ (a_variable is at spelled) = ap (named_kind r) is ∙ ap variable_kind at
one_type r n _ _ (a_global is at spelled) = ap (named_kind r) is ∙ ap global_kind_of at
one_type r n _ _ (a_function c) = function_kind r _ _ _ c
one_type r n _ _ (in_parentheses a) = one_type r n _ _ a
one_type r n _ _ (element_of_pointer {b = b} {n = m} a i t) = ap element_kind (one_type r n _ _ a) ∙ ap (object b) (one_less m)
one_type r n _ _ (element_of_array a i t) = ap element_kind (one_type r n _ _ a)
one_type r n _ _ (a_call c a) = callee_kind r _ _ _ c
one_type r n _ _ (a_field {x = x} {name = name} {d = d} a m is) = member_kind r n x name d m is
one_type r n _ _ (a_field_behind {x = x} {name = name} {d = d} a m is) = member_kind r n x name d m is
one_type r n _ _ (negated a i c) = ap promoted (one_type r n _ _ a) ∙ promoted_is _ _ c
one_type r n _ _ (complemented a i c) = ap promoted (one_type r n _ _ a) ∙ promoted_is _ _ c
one_type r n _ _ (pointed_to {b = b} {n = m} a) = ap element_kind (one_type r n _ _ a) ∙ ap (object b) (one_less m)
one_type r n _ _ (arithmetic {a = x} {b = y} {j = j} {k = k} {t = t} is a b l m c) = of_class _ Arithmetic (kind_at r x) (kind_at r y) j k t is (one_type r n _ _ a) (one_type r n _ _ b) (common_is j k t c)
one_type r n _ _ (shifted {a = x} {b = y} {j = j} {k = k} {t = t} is a b l m c) = of_class _ Shift (kind_at r x) (kind_at r y) j k t is (one_type r n _ _ a) (one_type r n _ _ b) (promoted_is j t c)
one_type r n _ _ (related {a = x} {b = y} is a b l m) = ap (λ z. binary_result z (kind_at r x) (kind_at r y)) is
one_type r n _ _ (equated {a = x} {b = y} is a b c) = ap (λ z. binary_result z (kind_at r x) (kind_at r y)) is
one_type r n _ _ (joined {a = x} {b = y} is a b l m) = ap (λ z. binary_result z (kind_at r x) (kind_at r y)) is
one_type r n _ _ _ = refl
