-- Each expression of a typed program suits.
use Rattle.sharc_flat_laws.proofs.{Imports.{◌≡◌, inl, inr, ℕ, Bool, true, false, List, refl, ap, sym, ◌∙◌, subst, Option, Some, None, if◌then◌else◌, false≢true, AllByRecursion, Identifier, Constant, NumberType, is_lvalue, expressions, Expression, Function, Kind, is_array, is_integer, is_pointer, declared_kind, constant_kind, number_kind, Resolution, kind_at, function_at, variable_kind, is_aggregate, Assignment, Sharing, is_reference, HasType, Callee, of_program, of_conditions, IsInteger, IsPointer, Common, both_shorter, a_variable, a_global, a_function, a_constant, in_parentheses, element_of_pointer, element_of_array, a_call, a_field, a_field_behind, negated, complemented, pointed_to, arithmetic, shifted, a_cast, IsHeld, Target, variable, in_global, in_global_at, in_object_at, target, named_target, own_field, global_of, Context, slot_kind, TakeSuits, LeftSuits, PathStands, is_cell, AtPlace, GlobalsUnguarded, no}, Sorts.{integer_yes, pointer_reference, pointer_plain, declared_reference, held_same}}
use Rattle.sharc_names.specs.Kinds as kinds

-- what is known of the program
pub record Facts (m : Assignment) : Type 0 where
  pub one : (e : Expression) (k : Kind) → HasType m.typed e k → kind_at m.typed e ≡ k
  pub results : (n : ℕ) (f : Function) → function_at m.typed n ≡ Some f → is_aggregate (declared_kind f.result) ≡ false
  pub globals : GlobalsUnguarded m

abbrev pub Stand : Context → List Expression → Type 0
Stand c list = AllByRecursion (AtPlace c) list

-- what has a struct or a mutex as its type is a cell

constant_plain : (k : Constant) → is_aggregate (constant_kind k) ≡ false
constant_plain (Constant.Number n) = by n.number_type
  where
    by : (w : NumberType) → is_aggregate (number_kind w) ≡ false
    by NumberType.Int = refl
    by NumberType.Long = refl
constant_plain _ = refl

common_plain : (j k t : Kind) → Common j k t → is_aggregate t ≡ false
common_plain _ _ _ (both_shorter a b) = refl
common_plain _ _ _ _ = refl

result_plain : (m : Assignment) → Facts m → (i : Identifier) (ps : List Kind) (result : Kind) → Callee m.typed i ps result → is_aggregate result ≡ false
result_plain m w i _ _ (of_program {n = n} f is at spelled other) = w.results n f at
result_plain m w i _ _ (of_conditions c is spelled) = refl

either_cell : (b : Bool) (g n k : ℕ) → is_cell (if b then in_global_at g n else in_object_at k) ≡ true
either_cell true g n k = refl
either_cell false g n k = refl

pub whole_cell : (c : Context) → Facts c.program → (e : Expression) (k : Kind) → HasType c.program.typed e k → is_aggregate k ≡ true → (f : Option ℕ) → Stand c (expressions e) → is_cell (target c.program.typed f e) ≡ true
whole_cell c w _ _ (a_variable {token = token} is at spelled) h f all = no _ _ (ap (λ o. is_aggregate (variable_kind o)) (sym at) ∙ (all.0.name token is).held) h
whole_cell c w _ _ (a_global is at spelled) h f all = ap (λ n. is_cell (named_target n (own_field f 0))) is
whole_cell c w _ _ (a_constant {c = k}) h f all = no _ _ (constant_plain k) h
whole_cell c w _ _ (in_parentheses a) h f all = whole_cell c w _ _ a h f all.1
whole_cell c w _ _ (element_of_pointer {a = a} x i t) h f all = either_cell (is_array (kind_at c.program.typed a)) _ _ _
whole_cell c w _ _ (element_of_array {a = a} x i t) h f all = either_cell (is_array (kind_at c.program.typed a)) _ _ _
whole_cell c w _ _ (a_call q x) h f all = no _ _ (result_plain c.program w _ _ _ q) h
whole_cell c w _ _ (a_field a m is) h f all = whole_cell c w _ _ a refl (Some _) all.1
whole_cell c w _ _ (a_field_behind a m is) h f all = refl
whole_cell c w _ _ (negated a i x) h f all = no _ _ (common_plain _ _ _ x) h
whole_cell c w _ _ (complemented a i x) h f all = no _ _ (common_plain _ _ _ x) h
whole_cell c w _ _ (pointed_to a) h f all = refl
whole_cell c w _ _ (arithmetic is a b l m x) h f all = no _ _ (common_plain _ _ _ x) h
whole_cell c w _ _ (shifted is a b l m x) h f all = no _ _ (common_plain _ _ _ x) h
whole_cell c w _ _ (a_cast m a p) h f all = no _ _ (pointer_plain _ p) h
whole_cell c w _ _ _ h f all = absurd (false≢true h)

-- an array is a global

constant_no_array : (k : Constant) → is_array (constant_kind k) ≡ false
constant_no_array (Constant.Number n) = by n.number_type
  where
    by : (w : NumberType) → is_array (number_kind w) ≡ false
    by NumberType.Int = refl
    by NumberType.Long = refl
constant_no_array _ = refl

common_no_array : (j k t : Kind) → Common j k t → is_array t ≡ false
common_no_array _ _ _ (both_shorter a b) = refl
common_no_array _ _ _ _ = refl

result_no_array : (r : Resolution) (i : Identifier) (ps : List Kind) (result : Kind) → Callee r i ps result → is_array result ≡ false
result_no_array r i _ _ (of_program f is at spelled other) = refl
result_no_array r i _ _ (of_conditions c is spelled) = refl

abbrev IsWholeGlobal : Target → Type 0
IsWholeGlobal t = t ≡ in_global (global_of t) 0

pub array_target : (r : Resolution) (e : Expression) (k : Kind) → HasType r e k → is_array k ≡ true → IsWholeGlobal (target r None e)
array_target r _ _ (a_global is at spelled) h = subst (λ n. IsWholeGlobal (named_target n 0)) (sym is) refl
array_target r _ _ (a_constant {c = k}) h = no _ _ (constant_no_array k) h
array_target r _ _ (in_parentheses a) h = array_target r _ _ a h
array_target r _ _ (a_call q x) h = no _ _ (result_no_array r _ _ _ q) h
array_target r _ _ (negated a i x) h = no _ _ (common_no_array _ _ _ x) h
array_target r _ _ (complemented a i x) h = no _ _ (common_no_array _ _ _ x) h
array_target r _ _ (arithmetic is a b l m x) h = no _ _ (common_no_array _ _ _ x) h
array_target r _ _ (shifted is a b l m x) h = no _ _ (common_no_array _ _ _ x) h
array_target r _ _ _ h = absurd (false≢true h)

-- a variable that is an lvalue is in the bank of its type

abbrev pub TargetFits : Context → Kind → Target → Type 0
TargetFits c k (variable x) = slot_kind c.scope x ≡ Some (is_reference k)
TargetFits c k _ = Unit {0}

cell_fits : (c : Context) (k : Kind) (t : Target) → is_cell t ≡ true → TargetFits c k t
cell_fits c k (variable x) h = absurd (false≢true h)
cell_fits c k _ h = tt

pub target_fits : (c : Context) → Facts c.program → (e : Expression) (k : Kind) → HasType c.program.typed e k → is_lvalue e ≡ true → (k ≡ kinds.function → ⊥) → Stand c (expressions e) → TargetFits c k (target c.program.typed None e)
target_fits c w _ _ (a_variable {token = token} {d = d} is at spelled) l n all =
    subst (λ z. TargetFits c (declared_kind d.written) (named_target z 0)) (sym is)
    ((all.0.name token is).slot ∙ ap (λ o. Some (is_pointer (variable_kind o))) at ∙ ap Some (sym (declared_reference d.written)))
target_fits c w _ k (a_global is at spelled) l n all = subst (λ z. TargetFits c k (named_target z 0)) (sym is) tt
target_fits c w _ _ (a_function q) l n all = absurd (n refl)
target_fits c w _ _ (in_parentheses a) l n all = target_fits c w _ _ a l n all.1
target_fits c w _ k (element_of_pointer {a = a} x i t) l n all = cell_fits c k _ (either_cell (is_array (kind_at c.program.typed a)) _ _ _)
target_fits c w _ k (element_of_array {a = a} x i t) l n all = cell_fits c k _ (either_cell (is_array (kind_at c.program.typed a)) _ _ _)
target_fits c w _ k (a_field a m is) l n all = cell_fits c k _ (whole_cell c w _ _ a refl (Some _) all.1)
target_fits c w _ _ (a_field_behind a m is) l n all = tt
target_fits c w _ _ (pointed_to a) l n all = tt
target_fits c w _ _ _ l n all = absurd (false≢true l)

pub no_function_pointer : (k : Kind) → IsPointer k → k ≡ kinds.function → ⊥
no_function_pointer k p is = false≢true (ap is_reference (sym is) ∙ pointer_reference k p)

no_function_integer : (k : Kind) → IsInteger k → k ≡ kinds.function → ⊥
no_function_integer k i is = false≢true (ap is_integer (sym is) ∙ integer_yes k i)

pub no_function_held : (k : Kind) → IsHeld k → k ≡ kinds.function → ⊥
no_function_held k (inl i) = no_function_integer k i
no_function_held k (inr p) = no_function_pointer k p

pub takes : (c : Context) (mode : Sharing) (k : Kind) (t : Target) → is_reference k ≡ true → TargetFits c k t → PathStands c.program.typed c.scope mode → TakeSuits c mode t
takes c mode k (variable x) h f p = f ∙ ap Some h
takes c mode k _ h f p = p

pub lefts : (c : Context) (mode : Sharing) (k : Kind) (t : Target) → IsHeld k → TargetFits c k t → PathStands c.program.typed c.scope mode → LeftSuits c k mode t
lefts c mode k (variable x) h f p = f
lefts c mode k _ h f p = (held_same k h, p)
