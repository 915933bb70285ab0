-- What is indexed as an array is a global of the program, so none of its cells is one of granule 0.
use Rattle.sharc_typed_laws.proofs.Imports.{◌≡◌, ℕ, zero, suc, ◌+◌, ◌<◌, ◌≤◌, Bool, true, false, cond, ◌||◌, List, [], ◌∷◌, ◌++◌, length, Option, Some, None, refl, arith, Contains-append_right, slice_get, slice_index_or, Contains, AllByRecursion, NumberType, Declaration, GlobalDefinition, Dot, Constant, UnaryOperator, Not, Dereference, expressions, Expression, identifier, constant, parentheses, call, index, field, unary, binary, Function, Name, Kind, array, int, long, is_array, element_kind, is_long, no_global, OperatorClass, class_of, number_kind, constant_kind, unary_result, binary_result, Resolution, globals_in, named_at, function_at, declaration_at, variable_kind, result_kind_of, global_kind_of, named_kind, called_kind, kind_at, Assignment, IsFunction, field_place_named, first_cell, Target, in_global, in_global_at, in_object_at, global_of, own_field, named_target, target, granules_in, globals_from, globals_of, AreGlobalsNamed, never as none_of}
use Rattle.sharc_tree.specs.Measures.{in_function as expressions_in}
use Rattle.sharc_flat_laws.specs.Tables.{NamesGlobal}
use Rattle.sharc_names.specs.declared.fault.Named.TheVariants as named

-- ---- the table of globals
granule_is : (r : Resolution) (at : ℕ) (gs : List GlobalDefinition) → 1 ≤ at → (g : ℕ) → g < length gs → 1 ≤ (slice_index_or (globals_from r at gs) g no_global).granule
granule_is r at [] le g lt = absurd (omega (arith, lt))
granule_is r at (x ∷ gs) le zero lt = le
granule_is r at (x ∷ gs) le (suc g) lt = granule_is r (at + granules_in r x) gs (omega (arith, le)) g (omega (arith, lt))

low_of : (r : Resolution) (g : ℕ) → g < length (globals_in r.program.items) → 2 ≤ first_cell (globals_of r) g
low_of r g lt = let le = granule_is r 1 (globals_in r.program.items) (omega arith) g lt in omega (arith, le)

-- ---- only globals are arrays
global_within : (gs : List GlobalDefinition) (n : ℕ) → is_array (global_kind_of (slice_get gs n)) ≡ true → n < length gs
global_within [] n e = none_of e
global_within (x ∷ gs) zero e = omega arith
global_within (x ∷ gs) (suc n) e = let h = global_within gs n e in omega (arith, h)

pub variable_plain : (d : Option Declaration) → is_array (variable_kind d) ≡ true → ⊥
variable_plain None e = none_of e
variable_plain (Some d) e = none_of e

result_plain : (f : Option Function) → is_array (result_kind_of f) ≡ true → ⊥
result_plain None e = none_of e
result_plain (Some f) e = none_of e

number_plain : (t : NumberType) → is_array (number_kind t) ≡ true → ⊥
number_plain NumberType.Int e = none_of e
number_plain NumberType.Long e = none_of e

pub constant_plain : (k : Constant) → is_array (constant_kind k) ≡ true → ⊥
constant_plain (Constant.Number n) e = number_plain n.number_type e
constant_plain _ e = none_of e

pub element_plain : (k : Kind) → is_array (element_kind k) ≡ true → ⊥
element_plain (array b stars) e = none_of e
element_plain _ e = none_of e

wide_plain : (b : Bool) → is_array (cond b long int) ≡ true → ⊥
wide_plain true e = none_of e
wide_plain false e = none_of e

pub unary_plain : (o : UnaryOperator) (k : Kind) → is_array (unary_result o k) ≡ true → ⊥
unary_plain Not k e = none_of e
unary_plain Dereference k e = element_plain k e
unary_plain _ k e = wide_plain (is_long k) e

pub binary_plain : (o : OperatorClass) (a b : Kind) → is_array (binary_result o a b) ≡ true → ⊥
binary_plain OperatorClass.Shift a b e = wide_plain (is_long a) e
binary_plain OperatorClass.Arithmetic a b e = wide_plain (is_long a || is_long b) e
binary_plain _ a b e = none_of e

module _ (r : Resolution) where
  abbrev count : ℕ
  count = length (globals_in r.program.items)

  pub called_plain : (n : Name) → is_array (called_kind r n) ≡ true → ⊥
  called_plain (named.Function n) e = result_plain (function_at r n) e
  called_plain _ e = none_of e

  some_global : (n : Name) → is_array (named_kind r n) ≡ true → 0 < count
  some_global (named.Global n) e = let lt = global_within (globals_in r.program.items) n e in omega (arith, lt)
  some_global (named.Variable token) e = absurd (variable_plain (declaration_at r token) e)
  some_global (named.Field token) e = absurd (variable_plain (declaration_at r token) e)
  some_global _ e = none_of e

  -- there is a global where something is an array
  some_array : (a : Expression) → is_array (kind_at r a) ≡ true → 0 < count
  some_array (identifier s x) e = some_global (named_at r x.site.token) e
  some_array (constant s k) e = absurd (constant_plain k e)
  some_array (parentheses s a) e = some_array a e
  some_array (call s f all) e = absurd (called_plain (named_at r f.site.token) e)
  some_array (index s a n) e = absurd (element_plain (kind_at r a) e)
  some_array (field s a w n) e = some_global (named_at r n.site.token) e
  some_array (unary s o a) e = absurd (unary_plain o (kind_at r a) e)
  some_array (binary s o at a b) e = absurd (binary_plain (class_of o) (kind_at r a) (kind_at r b) e)
  some_array _ e = none_of e

  -- ---- what an lvalue names
  abbrev pub Named : List Expression → Type 0
  Named = AllByRecursion (NamesGlobal r)

  pub named_left : (xs ys : List Expression) → Named (xs ++ ys) → Named xs
  named_left [] ys h = tt
  named_left (x ∷ xs) ys h = (h.0, named_left xs ys h.1)

  pub named_right : (xs ys : List Expression) → Named (xs ++ ys) → Named ys
  named_right [] ys h = h
  named_right (x ∷ xs) ys h = named_right xs ys h.1

  abbrev IsThere : Target → Type 0
  IsThere (in_global g n) = g < count
  IsThere (in_global_at g n) = g < count
  IsThere _ = Unit {0}

  global_there : (t : Target) → IsThere t → 0 < count → global_of t < count
  global_there (in_global g n) h some = h
  global_there (in_global_at g n) h some = h
  global_there _ h some = some

  name_there : (token : ℕ) → ((g : ℕ) → named_at r token ≡ named.Global g → g < count) → (n : Name) → named_at r token ≡ n → (f : ℕ) → IsThere (named_target n f)
  name_there token known (named.Global g) e f = known g e
  name_there token known _ e f = tt

  element_there : (b : Bool) (g n : ℕ) → (b ≡ true → g < count) → IsThere (cond b (in_global_at g n) (in_object_at n))
  element_there true g n h = h refl
  element_there false g n h = tt

  target_there : (f : Option ℕ) (a : Expression) → Named (expressions a) → IsThere (target r f a)
  target_there f (identifier s x) h = name_there x.site.token h.0 (named_at r x.site.token) refl (own_field f 0)
  target_there f (parentheses s a) h = target_there f a h.1
  target_there f (index s a n) h = element_there (is_array (kind_at r a)) (global_of (target r None a)) (own_field f 0) (λ e. global_there (target r None a) (target_there None a (named_left (expressions a) (expressions n) h.1)) (some_array a e))
  target_there f (field s a Dot n) h = target_there (Some (own_field f (field_place_named r (named_at r n.site.token)))) a h.1
  target_there f (unary s Dereference a) h = tt
  target_there f _ h = tt

pub arrays_low : (r : Resolution) (a : Expression) → Named r (expressions a) → is_array (kind_at r a) ≡ true → 2 ≤ first_cell (globals_of r) (global_of (target r None a))
arrays_low r a h e = low_of r (global_of (target r None a)) (global_there r (target r None a) (target_there r None a h) (some_array r a e))

-- ---- all expressions of a function
all_named : (r : Resolution) (es : List Expression) → ((e : Expression) → Contains es e → NamesGlobal r e) → Named r es
all_named r [] h = tt
all_named r (e ∷ es) h = (h e (0, omega arith, refl), all_named r es (λ d c. h d (Contains-append_right (e ∷ []) es d c)))

function_named : (m : Assignment) → AreGlobalsNamed m → (f : Function) → IsFunction m f → Named m.typed (expressions_in f)
function_named m known f is = all_named m.typed (expressions_in f) each
  where
    each : (e : Expression) → Contains (expressions_in f) e → NamesGlobal m.typed e
    each (identifier s x) inside = known s x (record { owner = f; stands = is; inside = inside })
    each _ inside = tt

-- and of all functions
pub globals_there : (m : Assignment) → AreGlobalsNamed m → (fs : List Function) → ((f : Function) → Contains fs f → IsFunction m f) → AllByRecursion (λ f. Named m.typed (expressions_in f)) fs
globals_there m known [] are = tt
globals_there m known (f ∷ rest) are = (function_named m known f (are f (0, omega arith, refl)), globals_there m known rest (λ g c. are g (Contains-append_right (f ∷ []) rest g c)))
