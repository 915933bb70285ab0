-- An lvalue that names a variable is the name of one: what has fields is a cell.
use Rattle.sharc_accepted_laws.proofs.Imports.{◌≡◌, ⊎_elim, ℕ, Bool, true, false, List, [], ◌∷◌, ◌++◌, map, refl, ap, sym, ◌∙◌, subst, Option, Some, None, if◌then◌else◌, Contains, ◌&&◌, ◌||◌, false≢true, AllByRecursion, Mutex, NumberType, Span, Declaration, Identifier, Constant, is_lvalue, without_parentheses, expressions, in_function, Expression, identifier, Function, Named, Kind, is_array, is_struct_base, same_base, declared_kind, constant_kind, number_kind, Resolution, functions_in, function_at, declaration_at, kind_at, named_at, is_aggregate, locals_in_all, HasType, Callee, of_program, of_conditions, Common, both_shorter, a_variable, a_global, a_function, a_constant, in_parentheses, element_of_pointer, element_of_array, a_call, a_field, a_field_behind, negated, complemented, pointed_to, arithmetic, shifted, a_cast, IsItself, NamesOwn, EachNamesItself, EachNamesOwn, ArePlain, IsPlain, MeetsConstraints, Target, in_global_at, in_object_at, target, named_target, own_field, is_cell, IsAccepted, Assignment, same_some, and_false, no, some_star, head_or_tail, of_each, place_there}
use Rattle.sharc_names.specs.Kinds as kinds
use Rattle.sharc_ctype_laws.specs.Constraints.{IsPointer}
use Rattle.sharc_flat.specs.Places.{variable}

-- ---- variables are no structs
named_plain : (r : Resolution) (own : List Declaration) → AllByRecursion (IsItself r Named.Variable) own → AllByRecursion (λ d. is_aggregate (declared_kind d.written) ≡ false) own
    → (x : ℕ) → Contains (map (λ d. d.name.site.token) own) x → (d : Declaration) → declaration_at r x ≡ Some d → is_aggregate (declared_kind d.written) ≡ false
named_plain r [] itself plain x has d is = absurd (of_each (λ z. ⊥) [] x tt has)
named_plain r (y ∷ rest) itself plain x has d is =
    ⊎_elim (λ same. subst (λ o. is_aggregate (declared_kind o.written) ≡ false) (same_some y d (sym itself.0.1 ∙ ap (declaration_at r) same ∙ is)) plain.0)
    (λ later. named_plain r rest itself.1 plain.1 x later d is) (head_or_tail y.name.site.token x (map (λ d. d.name.site.token) rest) has)

-- what is known of a function
pub record Facts (r : Resolution) (g : Function) : Type 0 where
  pub typed : (e : Expression) → Contains (in_function g) e → HasType r e (kind_at r e)
  pub results : (n : ℕ) (f : Function) → function_at r n ≡ Some f → is_aggregate (declared_kind f.result) ≡ false
  pub held : (s : Span) (i : Identifier) → Contains (in_function g) (identifier s i) → (x : ℕ) → named_at r i.site.token ≡ Named.Variable x → (d : Declaration) → declaration_at r x ≡ Some d
      → is_aggregate (declared_kind d.written) ≡ false

pub facts_of : MeetsConstraints → EachNamesItself → EachNamesOwn → ArePlain → (m : Assignment) → IsAccepted m → (n : ℕ) (g : Function) → function_at m.typed n ≡ Some g → Facts m.typed g
facts_of constraints itself own plain m a n g at = record {
  typed = λ e has. of_each (λ e. HasType r e (kind_at r e)) (in_function g) e (of_each (λ f. AllByRecursion (λ e. HasType r e (kind_at r e)) (in_function f)) (functions_in r.program.items) g (constraints r a.resolved a.placed a.low) there) has;
  results = λ k f is. (of_each IsPlain (functions_in r.program.items) f (plain r a.resolved a.placed a.low) (place_there (functions_in r.program.items) k f is)).1;
  held = λ s i has x names d is. named_plain r (g.parameters ++ locals_in_all g.statements)
      (of_each (λ f. AllByRecursion (IsItself r Named.Variable) (f.parameters ++ locals_in_all f.statements)) (functions_in r.program.items) g (itself r a.resolved a.placed a.low).variables there)
      (of_each IsPlain (functions_in r.program.items) g (plain r a.resolved a.placed a.low) there).0 x
      (of_each (NamesOwn r (g.parameters ++ locals_in_all g.statements)) (in_function g) (identifier s i)
      (of_each (λ f. AllByRecursion (NamesOwn r (f.parameters ++ locals_in_all f.statements)) (in_function f)) (functions_in r.program.items) g (own r a.resolved a.placed a.low) there) has x names) d is;
}
  where
    r : Resolution
    r = m.typed

    there : Contains (functions_in m.typed.program.items) g
    there = place_there (functions_in m.typed.program.items) n g at

-- ---- what has a struct or a mutex as its type is a cell
constant_plain : (k : Constant) → is_aggregate (constant_kind k) ≡ false
constant_plain (Constant.Number n) = by n.number_type
  where
    by : (w : NumberType) → is_aggregate (number_kind w) ≡ false
    by NumberType.Int = refl
    by NumberType.Long = refl
constant_plain _ = refl

common_plain : (j k t : Kind) → Common j k t → is_aggregate t ≡ false
common_plain _ _ _ (both_shorter a b) = refl
common_plain _ _ _ _ = refl

pointer_plain : (k : Kind) → IsPointer k → is_aggregate k ≡ false
pointer_plain k (b, n, is) = ap is_aggregate is ∙ ap (λ z. (z && is_struct_base b) || (same_base b Mutex && z)) (some_star n) ∙ and_false (same_base b Mutex)

pub either_cell : (b : Bool) (g n k : ℕ) → is_cell (if b then in_global_at g n else in_object_at k) ≡ true
either_cell true g n k = refl
either_cell false g n k = refl

no_variable : (t : Target) → is_cell t ≡ true → (x : ℕ) → t ≡ variable x → ⊥
no_variable t h x is = false≢true (sym (ap is_cell is) ∙ h)

module _ (r : Resolution) (g : Function) (w : Facts r g) where
  abbrev Inside : Expression → Type 0
  Inside e = AllByRecursion (Contains (in_function g)) (expressions e)

  result_plain : (i : Identifier) (ps : List Kind) (result : Kind) → Callee r i ps result → is_aggregate result ≡ false
  result_plain i _ _ (of_program {n = n} f is at spelled other) = w.results n f at
  result_plain i _ _ (of_conditions c is spelled) = refl

  pub whole_cell : (e : Expression) (k : Kind) → HasType r e k → is_aggregate k ≡ true → (f : Option ℕ) → Inside e → is_cell (target r f e) ≡ true
  whole_cell _ _ (a_variable {s = s} {i = i} {token = token} {d = d} is at spelled) h f all = no _ _ (w.held s i all.0 token is d at) h
  whole_cell _ _ (a_global is at spelled) h f all = ap (λ n. is_cell (named_target n (own_field f 0))) is
  whole_cell _ _ (a_constant {c = k}) h f all = no _ _ (constant_plain k) h
  whole_cell _ _ (in_parentheses a) h f all = whole_cell _ _ a h f all.1
  whole_cell _ _ (element_of_pointer {a = a} x i t) h f all = either_cell (is_array (kind_at r a)) _ _ _
  whole_cell _ _ (element_of_array {a = a} x i t) h f all = either_cell (is_array (kind_at r a)) _ _ _
  whole_cell _ _ (a_call q x) h f all = no _ _ (result_plain _ _ _ q) h
  whole_cell _ _ (a_field a m is) h f all = whole_cell _ _ a refl (Some _) all.1
  whole_cell _ _ (a_field_behind a m is) h f all = refl
  whole_cell _ _ (negated a i x) h f all = no _ _ (common_plain _ _ _ x) h
  whole_cell _ _ (complemented a i x) h f all = no _ _ (common_plain _ _ _ x) h
  whole_cell _ _ (pointed_to a) h f all = refl
  whole_cell _ _ (arithmetic is a b l m x) h f all = no _ _ (common_plain _ _ _ x) h
  whole_cell _ _ (shifted is a b l m x) h f all = no _ _ (common_plain _ _ _ x) h
  whole_cell _ _ (a_cast m a p) h f all = no _ _ (pointer_plain _ p) h
  whole_cell _ _ _ h f all = absurd (false≢true h)

  -- ---- the name of a variable
  pub record IsName (e : Expression) (x : ℕ) : Type 0 where
    pub span : Span
    pub name : Identifier
    pub bare : without_parentheses e ≡ identifier span name
    pub names : named_at r name.site.token ≡ Named.Variable x

  of_name : (s : Span) (i : Identifier) (token x : ℕ) → named_at r i.site.token ≡ Named.Variable token → target r None (identifier s i) ≡ variable x → IsName (identifier s i) x
  of_name s i token x is to = record { span = s; name = i; bare = refl; names = is ∙ ap Named.Variable same }
    where
      same : token ≡ x
      same = let h : variable token ≡ variable x = sym (ap (λ n. named_target n 0) is) ∙ to in cc

  global_no : (s : Span) (i : Identifier) (k x : ℕ) → named_at r i.site.token ≡ Named.Global k → target r None (identifier s i) ≡ variable x → ⊥
  global_no s i k x is to = no_variable (target r None (identifier s i)) (ap (λ n. is_cell (named_target n 0)) is) x to

  pub variable_named : (e : Expression) (k : Kind) → HasType r e k → is_lvalue e ≡ true → (k ≡ kinds.function → ⊥) → Inside e → (x : ℕ) → target r None e ≡ variable x → IsName e x
  variable_named _ _ (a_variable {s = s} {i = i} {token = token} is at spelled) l n all x to = of_name s i token x is to
  variable_named _ _ (a_global {s = s} {i = i} {n = k} is at spelled) l n all x to = absurd (global_no s i k x is to)
  variable_named _ _ (a_function q) l n all x to = absurd (n refl)
  variable_named _ _ (in_parentheses a) l n all x to = let v = variable_named _ _ a l n all.1 x to in record { span = v.span; name = v.name; bare = v.bare; names = v.names }
  variable_named _ _ (element_of_pointer {a = a} y i t) l n all x to = absurd (no_variable _ (either_cell (is_array (kind_at r a)) _ _ _) x to)
  variable_named _ _ (element_of_array {a = a} y i t) l n all x to = absurd (no_variable _ (either_cell (is_array (kind_at r a)) _ _ _) x to)
  variable_named _ _ (a_field a m is) l n all x to = absurd (no_variable _ (whole_cell _ _ a refl (Some _) all.1) x to)
  variable_named _ _ (a_field_behind a m is) l n all x to = absurd (no_variable _ refl x to)
  variable_named _ _ (pointed_to a) l n all x to = absurd (no_variable _ refl x to)
  variable_named _ _ _ l n all x to = absurd (false≢true l)
