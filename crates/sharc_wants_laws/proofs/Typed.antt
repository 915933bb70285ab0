-- What typing says of the places that expressions name, and of the temporaries that hold their values.
use Rattle.sharc_wants_laws.proofs.{Imports.{◌≡◌, inl, inr, ℕ, ◌+◌, Bool, true, false, ◌||◌, ◌&&◌, List, [], ◌∷◌, ◌++◌, refl, sym, ap, ◌∙◌, subst, arith, append-nil, lt-ltb, Some, false≢true, ℤ, Base, GlobalNumber as Global, Made, NumberType, Declaration, Identifier, WrittenType, Constant, is_lvalue, Expression, Function, Named, Kind, object, array, is_pointer, is_array, is_struct_base, is_struct_behind, declared_kind, constant_kind, number_kind, Resolution, kind_at, function_at, declaration_at, variable_kind, HasType, Callee, of_program, of_conditions, IsInteger, IsPointer, Common, both_shorter, Assignable, integer, pointer, null_pointer, a_variable, a_global, a_function, a_constant, in_parentheses, element_of_pointer, element_of_array, a_call, a_field, a_field_behind, complemented, pointed_to, arithmetic, shifted, a_cast, IsHeld, is_reference, StorePlace, variable, cell, place_named, field_in, or_false, no, some_star, negated}, Runs.Starts}
use Rattle.sharc_names.specs.Kinds.{is_null}
use Rattle.sharc_names.specs.Kinds as kinds

-- what is known of the program
pub record Facts (r : Resolution) : Type 0 where
  pub one : (e : Expression) (k : Kind) → HasType r e k → kind_at r e ≡ k
  pub results : (n : ℕ) (f : Function) → function_at r n ≡ Some f → is_struct_behind 0 (declared_kind f.result) ≡ false

-- ---- what may be a reference

integer_reference : (k : Kind) → IsInteger k → is_reference k ≡ false
integer_reference k (b, t, is) = ap is_reference is

pointer_pointer : (k : Kind) → IsPointer k → is_pointer k ≡ true
pointer_pointer k (b, n, is) = ap is_pointer is ∙ lt-ltb 0 (n + 1) (omega arith)

pub pointer_reference : (k : Kind) → IsPointer k → is_reference k ≡ true
pointer_reference k p = ap (λ b. b || is_null k) (pointer_pointer k p)

integer_pointer : (k : Kind) → IsInteger k → is_pointer k ≡ false
integer_pointer k (b, t, is) = ap is_pointer is

pub declared_reference : (w : WrittenType) → is_reference (declared_kind w) ≡ is_pointer (declared_kind w)
declared_reference w = or_false (is_pointer (declared_kind w))

-- an argument is a reference where its parameter is a pointer
pub passes : (want k : Kind) → Assignable want k → is_reference k ≡ is_pointer want
passes _ _ (integer {a = a} {b = b} i j) = integer_reference b j ∙ sym (integer_pointer a i)
passes _ _ (pointer {a = a} p) = pointer_reference a p ∙ sym (pointer_pointer a p)
passes _ _ (null_pointer {a = a} p) = sym (pointer_pointer a p)

pub no_function_object : (b : Base) (n : ℕ) → object b n ≡ kinds.function → ⊥
no_function_object b n h = absurd (cc)

pub no_function_array : (b : Base) (n : ℕ) → array b n ≡ kinds.function → ⊥
no_function_array b n h = absurd (cc)

pub no_function_pointer : (k : Kind) → IsPointer k → k ≡ kinds.function → ⊥
no_function_pointer k p is = false≢true (ap is_reference (sym is) ∙ pointer_reference k p)

no_function_integer : (k : Kind) → IsInteger k → k ≡ kinds.function → ⊥
no_function_integer k (b, t, is) f = no_function_object b 0 (sym is ∙ f)

pub no_function_held : (k : Kind) → IsHeld k → k ≡ kinds.function → ⊥
no_function_held k (inl i) = no_function_integer k i
no_function_held k (inr p) = no_function_pointer k p

-- ---- what is a struct or an array is an lvalue

abbrev pub is_whole : Kind → Bool
is_whole k = is_struct_behind 0 k || is_array k

constant_whole : (k : Constant) → is_whole (constant_kind k) ≡ false
constant_whole (Constant.Number n) = by n.number_type
  where
    by : (w : NumberType) → is_whole (number_kind w) ≡ false
    by NumberType.Int = refl
    by NumberType.Long = refl
constant_whole _ = refl

common_whole : (j k t : Kind) → Common j k t → is_whole t ≡ false
common_whole _ _ _ (both_shorter a b) = refl
common_whole _ _ _ _ = refl

result_whole : (r : Resolution) → Facts r → (i : Identifier) (ps : List Kind) (result : Kind) → Callee r i ps result → is_whole result ≡ false
result_whole r w i _ _ (of_program {n = n} f is at spelled other) = ap (λ b. b || false) (w.results n f at)
result_whole r w i _ _ (of_conditions c is spelled) = refl

pointer_whole : (k : Kind) → IsPointer k → is_whole k ≡ false
pointer_whole k (b, n, is) = ap is_whole is ∙ ap (λ z. (z && is_struct_base b) || false) (some_star n)

pub whole_left : (r : Resolution) → Facts r → (e : Expression) (k : Kind) → HasType r e k → is_whole k ≡ true → is_lvalue e ≡ true
whole_left r w _ _ (a_variable is at spelled) h = refl
whole_left r w _ _ (a_global is at spelled) h = refl
whole_left r w _ _ (a_function q) h = refl
whole_left r w _ _ (a_constant {c = k}) h = no _ _ (constant_whole k) h
whole_left r w _ _ (in_parentheses a) h = whole_left r w _ _ a h
whole_left r w _ _ (element_of_pointer x i t) h = refl
whole_left r w _ _ (element_of_array x i t) h = refl
whole_left r w _ _ (a_call q x) h = no _ _ (result_whole r w _ _ _ q) h
whole_left r w _ _ (a_field a m is) h = refl
whole_left r w _ _ (a_field_behind a m is) h = refl
whole_left r w _ _ (negated a i x) h = no _ _ (common_whole _ _ _ x) h
whole_left r w _ _ (complemented a i x) h = no _ _ (common_whole _ _ _ x) h
whole_left r w _ _ (pointed_to a) h = refl
whole_left r w _ _ (arithmetic is a b l m x) h = no _ _ (common_whole _ _ _ x) h
whole_left r w _ _ (shifted is a b l m x) h = no _ _ (common_whole _ _ _ x) h
whole_left r w _ _ (a_cast m a p) h = no _ _ (pointer_whole _ p) h
whole_left r w _ _ _ h = absurd (false≢true h)

-- ---- what an lvalue of a type names

-- A variable that is a pointer has the type of one, and no array is a variable. A cell of a made object has a base, in one temporary more.
abbrev pub Names : Resolution → List ℤ → Kind → StorePlace → List ℤ → Type 0
Names r ts k (variable x) us = (is_array k ≡ false) × (is_pointer (variable_kind (declaration_at r x)) ≡ true → is_reference k ≡ true) × (us ≡ ts)
Names r ts k (cell (Global g) first c) us = us ≡ ts
Names r ts k (cell (Made j) first c) us = (is_array k ≡ false) × ((v : ℤ) × (us ≡ ts ++ v ∷ []))

pub names_start : {A : Type 0} (r : Resolution) (ts : List ℤ) (k : Kind) (p : StorePlace) (us : List ℤ) (x : A) → Names r ts k p us → Starts ts x us
names_start r ts k (variable y) us x h = ([], h.2 ∙ sym (append-nil ts))
names_start r ts k (cell (Global g) first c) us x h = ([], h ∙ sym (append-nil ts))
names_start r ts k (cell (Made j) first c) us x h = (h.1.0 ∷ [], h.1.1)

pub named_variable : (r : Resolution) (ts : List ℤ) (what : Named) (x : ℕ) (d : Declaration) → what ≡ Named.Variable x → declaration_at r x ≡ Some d → Names r ts (declared_kind d.written) (place_named what) ts
named_variable r ts what x d is at = subst (λ z. Names r ts (declared_kind d.written) (place_named z) ts) (sym is)
    (refl, λ h. declared_reference d.written ∙ ap (λ o. is_pointer (variable_kind o)) (sym at) ∙ h, refl)

pub named_global : (r : Resolution) (ts : List ℤ) (what : Named) (g : ℕ) (k : Kind) → what ≡ Named.Global g → Names r ts k (place_named what) ts
named_global r ts what g k is = subst (λ z. Names r ts k (place_named z) ts) (sym is) refl

-- a field of a struct is a cell, or no pointer
pub field_names : (r : Resolution) (ts : List ℤ) (x : List ℕ) (k : Kind) (j : ℕ) (p : StorePlace) (us : List ℤ) → is_array k ≡ false → Names r ts (object (Base.Struct x) 0) p us → Names r ts k (field_in j p) us
field_names r ts x k j (variable y) us plain h = (plain, λ e. absurd (false≢true (h.1 e)), h.2)
field_names r ts x k j (cell (Global g) first c) us plain h = h
field_names r ts x k j (cell (Made i) first c) us plain h = (plain, h.1)
