-- Each expression of a typed program suits.
use Rattle.sharc_flat_laws.proofs.{Imports.{◌≡◌, inl, ℕ, ◌+◌, true, List, [], ◌∷◌, refl, ap, sym, ◌∙◌, subst, Some, None, bytes_eq, codes, if◌then◌else◌, Base, Identifier, WrittenType, BinaryOperator, LogicalOr, LogicalAnd, Equal, NotEqual, Less, Greater, LessOrEqual, GreaterOrEqual, ShiftLeft, ShiftRight, Site, Span, FieldOperator, PlaceCall, ValueCall, UnaryOperator, Dereference, expressions, in_arguments, Expression, identifier, index, Arguments, no_arguments, argument, Named, Kind, object, array, is_array, is_integer, is_pointer, declared_kind, declared_kinds, ConditionCall, Wait, condition_parameters, Logical, Equality, Relation, Shift, Arithmetic, class_of, Resolution, named_at, kind_at, variable_kind, parameters_named, parameters_of, named_cell, Sharing, is_reference, HasType, HaveTypes, Callee, of_program, of_conditions, name_of, IsInteger, IsPointer, IsScalar, integers, Assignable, a_variable, a_global, a_function, element_of_pointer, element_of_array, a_call, a_field, a_field_behind, negated, complemented, denied, pointed_to, arithmetic, shifted, related, equated, joined, spawned, printed_or_joined, unlocked, freed, a_cast, none_left, one_more, in_global, target, global_of, Context, slot_kind, Suits, PlaceSuits, ArgumentsSuit, ReferencesSuit, IndexSuits, CallSuits, NameSuits, OperandsSuit, HandsOn, Passes, Either, PathStands, is_cell, AtPlace, front, back}, Sorts.{integer_yes, pointer_reference, scalar, goes, passes, given, same_sort, declared_reference}, Expressions.{Facts, Stand, whole_cell, array_target, target_fits, takes, no_function_pointer}}
use Rattle.sharc_tree.specs.Tree as tree
use Rattle.sharc_names.specs.Kinds as kinds
use Rattle.sharc_ctype_laws.specs.Constraints.{locked}
use Rattle.sharc_flat.specs.Suits as flat

-- operators

no_equality : Equality ≡ Logical → ⊥
no_equality h = cc

no_relation : Relation ≡ Logical → ⊥
no_relation h = cc

no_shift : Shift ≡ Logical → ⊥
no_shift h = cc

no_arithmetic : Arithmetic ≡ Logical → ⊥
no_arithmetic h = cc

is_no_logical : Logical ≡ Equality → ⊥
is_no_logical h = cc

is_no_relation : Relation ≡ Equality → ⊥
is_no_relation h = cc

is_no_shift : Shift ≡ Equality → ⊥
is_no_shift h = cc

is_no_arithmetic : Arithmetic ≡ Equality → ⊥
is_no_arithmetic h = cc

logical_operands : (o : BinaryOperator) (j k : Kind) → class_of o ≡ Logical → flat.IsScalar j → flat.IsScalar k → OperandsSuit o j k
logical_operands LogicalOr j k is a b = (a, b)
logical_operands LogicalAnd j k is a b = (a, b)
logical_operands Equal j k is a b = absurd (no_equality is)
logical_operands NotEqual j k is a b = absurd (no_equality is)
logical_operands Less j k is a b = absurd (no_relation is)
logical_operands Greater j k is a b = absurd (no_relation is)
logical_operands LessOrEqual j k is a b = absurd (no_relation is)
logical_operands GreaterOrEqual j k is a b = absurd (no_relation is)
logical_operands ShiftLeft j k is a b = absurd (no_shift is)
logical_operands ShiftRight j k is a b = absurd (no_shift is)
logical_operands _ j k is a b = absurd (no_arithmetic is)

equal_operands : (o : BinaryOperator) (j k : Kind) → class_of o ≡ Equality → flat.SameSort j k → OperandsSuit o j k
equal_operands LogicalOr j k is s = absurd (is_no_logical is)
equal_operands LogicalAnd j k is s = absurd (is_no_logical is)
equal_operands Equal j k is s = s
equal_operands NotEqual j k is s = s
equal_operands Less j k is s = absurd (is_no_relation is)
equal_operands Greater j k is s = absurd (is_no_relation is)
equal_operands LessOrEqual j k is s = absurd (is_no_relation is)
equal_operands GreaterOrEqual j k is s = absurd (is_no_relation is)
equal_operands ShiftLeft j k is s = absurd (is_no_shift is)
equal_operands ShiftRight j k is s = absurd (is_no_shift is)
equal_operands _ j k is s = absurd (is_no_arithmetic is)

integer_operands : (o : BinaryOperator) (j k : Kind) → IsInteger j → IsInteger k → OperandsSuit o j k
integer_operands LogicalOr j k a b = (scalar j (inl a), scalar k (inl b))
integer_operands LogicalAnd j k a b = (scalar j (inl a), scalar k (inl b))
integer_operands Equal j k a b = same_sort j k (integers a b)
integer_operands NotEqual j k a b = same_sort j k (integers a b)
integer_operands _ j k a b = (integer_yes j a, integer_yes k b)

operands_at : (o : BinaryOperator) (x y j k : Kind) → x ≡ j → y ≡ k → OperandsSuit o j k → OperandsSuit o x y
operands_at o x y j k a b h = subst (λ z. OperandsSuit o z y) (sym a) (subst (λ z. OperandsSuit o j z) (sym b) h)

-- elements

index_pointer : (c : Context) (a i : Expression) (A P N : Type 0) (b : Base) (n : ℕ) → kind_at c.program.typed a ≡ object b (n + 1) → P → N → is_integer (kind_at c.program.typed i) ≡ true → IndexSuits c a i A P N
index_pointer c a i A P N b n is p q j =
    (subst (λ z. Either (is_array z) (A × (target c.program.typed None a ≡ in_global (global_of (target c.program.typed None a)) 0)) (P × (is_reference z ≡ true))) (sym is) (p, pointer_reference (object b (n + 1)) (b, n, refl)), q, j)

index_array : (c : Context) (a i : Expression) (A P N : Type 0) (b : Base) (n : ℕ) → kind_at c.program.typed a ≡ array b n → A → target c.program.typed None a ≡ in_global (global_of (target c.program.typed None a)) 0 → N → is_integer (kind_at c.program.typed i) ≡ true
    → IndexSuits c a i A P N
index_array c a i A P N b n is p t q j =
    (subst (λ z. Either (is_array z) (A × (target c.program.typed None a ≡ in_global (global_of (target c.program.typed None a)) 0)) (P × (is_reference z ≡ true))) (sym is) (p, t), q, j)

-- calls

one_reference : (c : Context) (b : Base) (all : Arguments) → ArgumentsSuit c (object b 1 ∷ []) all → ReferencesSuit c 1 all
one_reference c b no_arguments h = absurd h
one_reference c b (argument a no_arguments) h = (h.0, h.1.0, tt)
one_reference c b (argument a (argument x rest)) h = absurd h.2

two_references : (c : Context) (b d : Base) (all : Arguments) → ArgumentsSuit c (object b 1 ∷ (object d 1 ∷ [])) all → ReferencesSuit c 2 all
two_references c b d no_arguments h = absurd h
two_references c b d (argument a no_arguments) h = absurd h.2
two_references c b d (argument a (argument x no_arguments)) h = (h.0, h.1.0, (h.2.0, h.2.1.0, tt))
two_references c b d (argument a (argument x (argument y rest))) h = absurd h.2.2

condition_references : (c : Context) (w : ConditionCall) (text : List ℕ) (all : Arguments) → text ≡ name_of w → ArgumentsSuit c (condition_parameters w) all → ReferencesSuit c (if bytes_eq text (codes "wait") then 2 else 1) all
condition_references c Wait text all is h = subst (λ t. ReferencesSuit c (if bytes_eq t (codes "wait") then 2 else 1) all) (sym is) (two_references c _ _ all h)
condition_references c _ text all is h = subst (λ t. ReferencesSuit c (if bytes_eq t (codes "wait") then 2 else 1) all) (sym is) (one_reference c _ all h)

call_suits : (c : Context) (i : Identifier) (all : Arguments) (ps : List Kind) (result kind : Kind) → Callee c.program.typed i ps result → kind ≡ result → ArgumentsSuit c ps all
    → CallSuits c kind (named_at c.program.typed i.site.token) (λ kinds. ArgumentsSuit c kinds all) (ReferencesSuit c (if bytes_eq i.text (codes "wait") then 2 else 1) all)
call_suits c i all _ _ kind (of_program f is at spelled other) k h =
    subst (λ z. CallSuits c kind z (λ kinds. ArgumentsSuit c kinds all) (ReferencesSuit c (if bytes_eq i.text (codes "wait") then 2 else 1) all)) (sym is) (f, at, k, h)
call_suits c i all _ _ kind (of_conditions w is spelled) k h =
    subst (λ z. CallSuits c kind z (λ kinds. ArgumentsSuit c kinds all) (ReferencesSuit c (if bytes_eq i.text (codes "wait") then 2 else 1) all)) (sym is) (condition_references c w i.text all spelled h, ap is_reference k, ap is_integer k)

hands : (c : Context) (i : Identifier) (ps : List Kind) (result : Kind) → Callee c.program.typed i ps result → (parameter k : Kind) → ps ≡ parameter ∷ [] → Assignable parameter k
    → HandsOn (declared_kinds (parameters_named c.program.typed (named_at c.program.typed i.site.token))) k
hands c i _ _ (of_program f is at spelled other) parameter k e a =
    subst (λ z. HandsOn z k) (sym (ap (λ n. declared_kinds (parameters_named c.program.typed n)) is ∙ ap (λ o. declared_kinds (parameters_of o)) at ∙ e)) (given parameter k a, (goes parameter k a).2)
hands c i _ _ (of_conditions w is spelled) parameter k e a = subst (λ z. HandsOn z k) (sym (ap (λ n. declared_kinds (parameters_named c.program.typed n)) is)) (given parameter k a)

-- names

variable_suits : (c : Context) (kind : Kind) (mode : Sharing) (n : Named) (x : ℕ) → n ≡ Named.Variable x → slot_kind c.scope x ≡ Some (is_reference kind) → NameSuits c kind mode n
variable_suits c kind mode n x is h = subst (NameSuits c kind mode) (sym is) h

global_suits : (c : Context) → Facts c.program → (kind : Kind) (n : Named) (g : ℕ) → n ≡ Named.Global g → PathStands c.program.typed c.scope (named_cell c.program n) → NameSuits c kind (named_cell c.program n) n
global_suits c w kind n g is p = subst (λ z. PathStands c.program.typed c.scope (named_cell c.program z) → NameSuits c kind (named_cell c.program z) z) (sym is) (λ q. (w.globals g, q)) p

function_suits : (c : Context) (kind : Kind) (mode : Sharing) (i : Identifier) (ps : List Kind) (result : Kind) → Callee c.program.typed i ps result → kind ≡ kinds.function → NameSuits c kind mode (named_at c.program.typed i.site.token)
function_suits c kind mode i _ _ (of_program f is at spelled other) k = subst (NameSuits c kind mode) (sym is) (ap is_reference k, ap is_integer k)
function_suits c kind mode i _ _ (of_conditions w is spelled) k = subst (NameSuits c kind mode) (sym is) (ap is_reference k, ap is_integer k)

integer_at : (r : Resolution) (e : Expression) (k : Kind) → kind_at r e ≡ k → IsInteger k → is_integer (kind_at r e) ≡ true
integer_at r e k is i = ap is_integer is ∙ integer_yes k i

pointer_at : (r : Resolution) (e : Expression) (k : Kind) → kind_at r e ≡ k → IsPointer k → is_reference (kind_at r e) ≡ true
pointer_at r e k is p = ap is_reference is ∙ pointer_reference k p

scalar_at : (r : Resolution) (e : Expression) (k : Kind) → kind_at r e ≡ k → IsScalar k → flat.IsScalar (kind_at r e)
scalar_at r e k is s = subst flat.IsScalar (sym is) (scalar k s)

-- of an expression and all below it the first is the expression itself
pub first : (c : Context) (e : Expression) → Stand c (expressions e) → AtPlace c e
first c (tree.cast s t a) all = all.0
first c _ all = all.0

-- each form, by its parts

name_form : (c : Context) → Facts c.program → (s : Span) (i : Identifier) (k : Kind) → HasType c.program.typed (tree.identifier s i) k → AtPlace c (tree.identifier s i) → Suits c (tree.identifier s i)
name_form c w s i _ (a_variable {token = token} {d = d} is at spelled) p =
    variable_suits c (kind_at c.program.typed (identifier s i)) _ (named_at c.program.typed i.site.token) token is
    ((p.name token is).slot ∙ ap (λ o. Some (is_pointer (variable_kind o))) at ∙ ap Some (sym (declared_reference d.written)) ∙ ap (λ z. Some (is_reference z)) (sym (w.one _ _ (a_variable {s = s} {i = i} is at spelled))))
name_form c w s i _ (a_global {n = n} is at spelled) p = global_suits c w (kind_at c.program.typed (identifier s i)) (named_at c.program.typed i.site.token) n is p.cell
name_form c w s i _ (a_function q) p = function_suits c (kind_at c.program.typed (identifier s i)) _ i _ _ q (w.one _ _ (a_function {s = s} q))

index_form : (c : Context) → Facts c.program → (s : Span) (a i : Expression) (k : Kind) → HasType c.program.typed (tree.index s a i) k → PlaceSuits c a → Suits c a → Suits c i → PlaceSuits c (tree.index s a i)
index_form c w s a i _ (element_of_pointer {b = b} {n = n} x y t) pa sa si = index_pointer c a i _ _ _ b n (w.one _ _ x) sa si (integer_at c.program.typed i _ (w.one _ _ y) t)
index_form c w s a i _ (element_of_array {b = b} {n = n} x y t) pa sa si = index_array c a i _ _ _ b n (w.one _ _ x) pa (array_target c.program.typed a _ x refl) si (integer_at c.program.typed i _ (w.one _ _ y) t)

field_form : (c : Context) → Facts c.program → (s : Span) (a : Expression) (v : FieldOperator) (n : Identifier) (k : Kind) → HasType c.program.typed (tree.field s a v n) k → PlaceSuits c a → Suits c a → PlaceSuits c (tree.field s a v n)
field_form c w s a _ n _ (a_field h m is) pa sa = pa
field_form c w s a _ n _ (a_field_behind {x = x} h m is) pa sa = (sa, pointer_at c.program.typed a _ (w.one _ _ h) (Base.Struct x, 0, refl))

field_cell : (c : Context) → Facts c.program → (s : Span) (a : Expression) (v : FieldOperator) (n : Identifier) (k : Kind) → HasType c.program.typed (tree.field s a v n) k → Stand c (expressions a) → is_cell (target c.program.typed None (tree.field s a v n)) ≡ true
field_cell c w s a _ n _ (a_field h m is) all = whole_cell c w _ _ h refl (Some _) all
field_cell c w s a _ n _ (a_field_behind h m is) all = refl

dereferenced : (c : Context) → Facts c.program → (s : Span) (a : Expression) (k : Kind) → HasType c.program.typed (tree.unary s Dereference a) k → is_reference (kind_at c.program.typed a) ≡ true
dereferenced c w s a _ (pointed_to {b = b} {n = n} h) = pointer_at c.program.typed a _ (w.one _ _ h) (b, n, refl)

unary_form : (c : Context) → Facts c.program → (s : Span) (o : UnaryOperator) (a : Expression) (k : Kind) → HasType c.program.typed (tree.unary s o a) k → AtPlace c (tree.unary s o a) → Suits c a → Suits c (tree.unary s o a)
unary_form c w s _ a _ (negated h i x) p sa = (sa, integer_at c.program.typed a _ (w.one _ _ h) i)
unary_form c w s _ a _ (complemented h i x) p sa = (sa, integer_at c.program.typed a _ (w.one _ _ h) i)
unary_form c w s _ a _ (denied h y) p sa = (sa, scalar_at c.program.typed a _ (w.one _ _ h) y)
unary_form c w s _ a _ (pointed_to {b = b} {n = n} h) p sa = (sa, pointer_at c.program.typed a _ (w.one _ _ h) (b, n, refl), p.cell)

binary_form : (c : Context) → Facts c.program → (s : Span) (o : BinaryOperator) (site : Site) (a b : Expression) (k : Kind) → HasType c.program.typed (tree.binary s o site a b) k
    → OperandsSuit o (kind_at c.program.typed a) (kind_at c.program.typed b)
binary_form c w s o site a b _ (arithmetic {j = j} {k = k} is x y l m z) = operands_at o _ _ j k (w.one _ _ x) (w.one _ _ y) (integer_operands o j k l m)
binary_form c w s o site a b _ (shifted {j = j} {k = k} is x y l m z) = operands_at o _ _ j k (w.one _ _ x) (w.one _ _ y) (integer_operands o j k l m)
binary_form c w s o site a b _ (related {j = j} {k = k} is x y l m) = operands_at o _ _ j k (w.one _ _ x) (w.one _ _ y) (integer_operands o j k l m)
binary_form c w s o site a b _ (equated {j = j} {k = k} is x y z) = operands_at o _ _ j k (w.one _ _ x) (w.one _ _ y) (equal_operands o j k is (same_sort j k z))
binary_form c w s o site a b _ (joined {j = j} {k = k} is x y l m) = operands_at o _ _ j k (w.one _ _ x) (w.one _ _ y) (logical_operands o j k is (scalar j l) (scalar k m))

spawn_form : (c : Context) → Facts c.program → (s : Span) (f : Identifier) (a : Expression) (k : Kind) → HasType c.program.typed (tree.spawn s f a) k → HandsOn (declared_kinds (parameters_named c.program.typed (named_at c.program.typed f.site.token))) (kind_at c.program.typed a)
spawn_form c w s f a _ (spawned {parameter = parameter} q (one_more {k = k} h fit none_left)) =
    subst (HandsOn (declared_kinds (parameters_named c.program.typed (named_at c.program.typed f.site.token)))) (sym (w.one _ _ h)) (hands c f _ _ q parameter k refl fit)

value_form : (c : Context) → Facts c.program → (s : Span) (v : ValueCall) (a : Expression) (k : Kind) → HasType c.program.typed (tree.on_value s v a) k → is_integer (kind_at c.program.typed a) ≡ true
value_form c w s v a _ (printed_or_joined h i) = integer_at c.program.typed a _ (w.one _ _ h) i

place_form : (c : Context) → Facts c.program → (s : Span) (v : PlaceCall) (a : Expression) (k : Kind) → HasType c.program.typed (tree.on_place s v a) k → Stand c (expressions a) → flat.PlaceCallSuits c v a
place_form c w s _ a _ (locked l h) all = whole_cell c w _ _ h refl None all
place_form c w s _ a _ (unlocked l h) all = whole_cell c w _ _ h refl None all
place_form c w s _ a _ (freed {k = k} l h p) all = (takes c _ k _ (pointer_reference k p) (target_fits c w _ _ h l (no_function_pointer k p) all) (first c a all).cell, pointer_at c.program.typed a _ (w.one _ _ h) p)

cast_form : (c : Context) → Facts c.program → (s : Span) (t : WrittenType) (a : Expression) (k : Kind) → HasType c.program.typed (tree.cast s t a) k → AtPlace c (tree.cast s t a) → Stand c (expressions a) → PlaceSuits c a → Suits c (tree.cast s t a)
cast_form c w s t a _ (a_cast l h p) here all pa =
    (pa, takes c _ (declared_kind t) _ (pointer_reference _ p) (target_fits c w _ _ h l (no_function_pointer _ p) all) (first c a all).cell, pointer_at c.program.typed a _ (w.one _ _ h) p, pointer_reference _ p, here.row)

abbrev AllSuit : Context → Arguments → Type 0
AllSuit c no_arguments = Unit {0}
AllSuit c (argument a rest) = Suits c a × AllSuit c rest

arguments_suit : (c : Context) → Facts c.program → (list : Arguments) (ps : List Kind) → HaveTypes c.program.typed list ps → AllSuit c list → ArgumentsSuit c ps list
arguments_suit c w no_arguments _ none_left all = tt
arguments_suit c w (argument a rest) _ (one_more {parameter = p} {k = k} h fit more) all = (all.0, subst (Passes p) (sym (w.one _ _ h)) (passes p k fit), arguments_suit c w rest _ more all.1)

call_form : (c : Context) → Facts c.program → (s : Span) (f : Identifier) (list : Arguments) (k : Kind) → HasType c.program.typed (tree.call s f list) k → AllSuit c list → Suits c (tree.call s f list)
call_form c w s f list _ (a_call q x) all = call_suits c f list _ _ _ q (w.one _ _ (a_call {s = s} q x)) (arguments_suit c w list _ x all)

mutual
  pub suits : (c : Context) → Facts c.program → (e : Expression) → Stand c (expressions e) → Suits c e
  suits c w (tree.identifier s i) all = name_form c w s i _ all.0.has all.0
  suits c w (tree.constant s k) all = tt
  suits c w (tree.parentheses s a) all = suits c w a all.1
  suits c w (tree.call s f list) all = call_form c w s f list _ all.0.has (all_suit c w list all.1)
  suits c w (tree.spawn s f a) all = (suits c w a all.1, spawn_form c w s f a _ all.0.has)
  suits c w (tree.on_value s v a) all = (suits c w a all.1, value_form c w s v a _ all.0.has)
  suits c w (tree.on_place s v a) all = (place c w a all.1, place_form c w s v a _ all.0.has all.1)
  suits c w (tree.cast s t a) all = cast_form c w s t a _ all.0.has all.0 all.1 (place c w a all.1)
  suits c w (tree.index s a i) all =
      let sa = front _ (expressions a) (expressions i) all.1 in
      (index_form c w s a i _ all.0.has (place c w a sa) (suits c w a sa) (suits c w i (back _ (expressions a) (expressions i) all.1)), all.0.cell)
  suits c w (tree.field s a v n) all = (field_form c w s a v n _ all.0.has (place c w a all.1) (suits c w a all.1), all.0.cell, field_cell c w s a v n _ all.0.has all.1)
  suits c w (tree.unary s o a) all = unary_form c w s o a _ all.0.has all.0 (suits c w a all.1)
  suits c w (tree.binary s o site a b) all =
      (suits c w a (front _ (expressions a) (expressions b) all.1), suits c w b (back _ (expressions a) (expressions b) all.1), binary_form c w s o site a b _ all.0.has)

  all_suit : (c : Context) → Facts c.program → (list : Arguments) → Stand c (in_arguments list) → AllSuit c list
  all_suit c w no_arguments all = tt
  all_suit c w (argument a rest) all = (suits c w a (front _ (expressions a) (in_arguments rest) all), all_suit c w rest (back _ (expressions a) (in_arguments rest) all))

  pub place : (c : Context) → Facts c.program → (e : Expression) → Stand c (expressions e) → PlaceSuits c e
  place c w (tree.parentheses s a) all = place c w a all.1
  place c w (tree.index s a i) all =
      let sa = front _ (expressions a) (expressions i) all.1 in
      index_form c w s a i _ all.0.has (place c w a sa) (suits c w a sa) (suits c w i (back _ (expressions a) (expressions i) all.1))
  place c w (tree.field s a v n) all = field_form c w s a v n _ all.0.has (place c w a all.1) (suits c w a all.1)
  place c w (tree.unary s Dereference a) all = (suits c w a all.1, dereferenced c w s a _ all.0.has)
  place c w _ all = tt
