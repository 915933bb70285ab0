-- What is assigned, begun with and returned has the type of what it is given to.
use Rattle.sharc_accepted_laws.proofs.{Imports.{NumberType, number_kind, ◌≡◌, inl, inr, ℕ, ◌==◌, Bool, true, false, cond, List, ◌++◌, refl, ap, sym, ◌∙◌, subst, option_map, arith, eqb-true, Option, Some, None, Contains, false≢true, and_parts, ltb-true, AllByRecursion, Base, Declaration, Number, Null, Negate, Complement, Dereference, GlobalForm, Array, GlobalDefinition, Expression, value, Local, Function, Named, Kind, object, array, null, same_base, same_kind, is_integer, is_integral, is_pointer, is_null, is_long, is_array, long, int, agrees, element_kind, declared_kind, global_kind, OperatorClass, Shift, Arithmetic, class_of, binary_result, Resolution, named_at, global_at, function_at, declaration_at, functions_in, variable_kind, global_kind_of, result_kind_of, named_kind, called_kind, kind_at, Transfer, lvalue, variable, result, function_transfers, IsFair, locals_in_all as declared_in_all, Assignment, base_of, written, declared_row, behind, row_at, modes_of, modes_at, Sharing, same_all, IsFunction, IsGiven, assigned, initial, returned, RulesAreMet, MeetsRules, IsItself, EachNamesItself, AllFair, Context, static_of, entry_by, entry_of, IsAccepted, AssignedGoes, BegunGoes, ReturnedGoes, GivenLaws, Refers, none_some, front, back, of_each}, Same.type_of_same, Transferred.{Begins, locals_begin}, Locals.{OfLocal, in_each}, Alike.{base_is as same_bases}}
use Rattle.sharc_tree.specs.Tree as tree
use Rattle.sharc_names.specs.Kinds.{function}
use Rattle.sharc_check.specs.Constructs.{locals_in_all}
use Rattle.sharc_accepted_laws.specs.Static.{GoesTo}

-- ---- kinds
-- of one C type
bases_of_same : (a b : Kind) → same_kind a b ≡ true → base_of a ≡ base_of b
bases_of_same (object a m) (object b n) h = same_bases a b (and_parts (same_base a b) (m == n) h).0
bases_of_same _ _ h = absurd (false≢true h)

is_null_kind : (k : Kind) → is_null k ≡ true → k ≡ null
is_null_kind null h = refl
is_null_kind _ h = absurd (false≢true h)

pointer_no_integer : (k : Kind) → is_pointer k ≡ true → is_integer k ≡ true → ⊥
pointer_no_integer (object b n) h i = let low = ltb-true 0 n h in let none = eqb-true n 0 (and_parts (n == 0) (is_integral b) i).0 in omega (arith, low, none)
pointer_no_integer _ h i = false≢true h

-- what agrees with a pointer is NULL, or has its base
pub data Fair (want kind : Kind) : Type 0 where
  is_nothing : kind ≡ null → Fair want kind
  is_like : base_of want ≡ base_of kind → same_kind want kind ≡ true → Fair want kind

pub fair : (want kind : Kind) → is_pointer want ≡ true → agrees want kind ≡ true → Fair want kind
fair want kind p h = by (is_null kind) refl (is_integer kind) refl h
  where
    by : (n : Bool) → is_null kind ≡ n → (i : Bool) → is_integer kind ≡ i → cond n (is_pointer want) (cond i (is_integer want) (same_kind want kind)) ≡ true → Fair want kind
    by true is i integer a = is_nothing (is_null_kind kind is)
    by false is true integer a = absurd (pointer_no_integer want p a)
    by false is false integer a = is_like (bases_of_same want kind a) a

-- ---- NULL has no row
pub no_object : (b : Base) (n : ℕ) → object b n ≡ null → ⊥
no_object b n h = cc

pub no_array : (b : Base) (n : ℕ) → array b n ≡ null → ⊥
no_array b n h = cc

no_number : (t : NumberType) → number_kind t ≡ null → ⊥
no_number NumberType.Int h = cc
no_number NumberType.Long h = cc

pub no_variable : (d : Option Declaration) → variable_kind d ≡ null → ⊥
no_variable None h = cc
no_variable (Some d) h = cc

no_form : (f : GlobalForm) (b : Base) (n : ℕ) → global_kind f (object b n) ≡ null → ⊥
no_form (Array at count) b n h = cc
no_form _ b n h = cc

no_global : (g : Option GlobalDefinition) → global_kind_of g ≡ null → ⊥
no_global None h = cc
no_global (Some g) h = no_form g.form _ _ h

no_name : (r : Resolution) (n : Named) → named_kind r n ≡ null → ⊥
no_name r (Named.Global n) h = no_global (global_at r n) h
no_name r (Named.Variable t) h = no_variable (declaration_at r t) h
no_name r (Named.Field t) h = no_variable (declaration_at r t) h
no_name r _ h = cc

no_result : (f : Option Function) → result_kind_of f ≡ null → ⊥
no_result None h = cc
no_result (Some f) h = cc

no_called : (r : Resolution) (n : Named) → called_kind r n ≡ null → ⊥
no_called r (Named.Function n) h = no_result (function_at r n) h
no_called r _ h = cc

no_common : (b : Bool) → cond b long int ≡ null → ⊥
no_common true h = cc
no_common false h = cc

no_binary : (o : OperatorClass) (a b : Kind) → binary_result o a b ≡ null → ⊥
no_binary Shift a b h = no_common (is_long a) h
no_binary Arithmetic a b h = no_common _ h
no_binary _ a b h = cc

element_of_null : (k : Kind) → element_kind k ≡ null → k ≡ null
element_of_null null h = refl
element_of_null function h = absurd (cc)
element_of_null _ h = absurd (cc)

null_row : (r : Resolution) (e : Expression) → kind_at r e ≡ null → row_at r e ≡ None
null_row r (tree.identifier s i) h = absurd (no_name r (named_at r i.site.token) h)
null_row r (tree.constant s (Number n)) h = absurd (no_number n.number_type h)
null_row r (tree.constant s Null) h = refl
null_row r (tree.parentheses s a) h = null_row r a h
null_row r (tree.call s f all) h = absurd (no_called r (named_at r f.site.token) h)
null_row r (tree.index s a i) h =
    let k = element_of_null (kind_at r a) h in
    ap (λ z. cond (is_array z) (row_at r a) (behind (row_at r a))) k ∙ ap behind (null_row r a k)
null_row r (tree.field s a w n) h = absurd (no_name r (named_at r n.site.token) h)
null_row r (tree.unary s Negate a) h = absurd (no_common (is_long (kind_at r a)) h)
null_row r (tree.unary s Complement a) h = absurd (no_common (is_long (kind_at r a)) h)
null_row r (tree.unary s Dereference a) h = ap behind (null_row r a (element_of_null (kind_at r a) h))
null_row r (tree.binary s o at a b) h = absurd (no_binary (class_of o) (kind_at r a) (kind_at r b) h)
null_row r _ h = absurd (cc)

pub null_modes : (m : Assignment) (e : Expression) → kind_at m.typed e ≡ null → modes_at m e ≡ None
null_modes m e h = ap (option_map (modes_of m)) (null_row m.typed e h)

-- ---- what goes where
-- of a pointer that is wanted with these modes
pub goes : (c : Context) (want : Kind) (to : List Sharing) (e : Expression) → is_pointer want ≡ true → agrees want (kind_at c.program.typed e) ≡ true
    → ((found : List Sharing) → modes_at c.program e ≡ Some found → same_all c.program.typed to found ≡ true) → GoesTo (entry_of c e) (static_of c want to)
goes c want to e pointer agree agrees_by = by (fair want (kind_at c.program.typed e) pointer agree) (modes_at c.program e) refl
  where
    by : Fair want (kind_at c.program.typed e) → (o : Option (List Sharing)) → modes_at c.program e ≡ o → GoesTo (entry_of c e) (static_of c want to)
    by f None is = inl (ap (entry_by c (kind_at c.program.typed e)) is)
    by (is_nothing k) (Some found) is = absurd (none_some found (sym (null_modes c.program e k) ∙ is))
    by (is_like one kinds) (Some found) is = inr (ap (entry_by c (kind_at c.program.typed e)) is ∙ ap Refers (sym (type_of_same c want (kind_at c.program.typed e) one to found (agrees_by found is))))

module _ (rules : RulesAreMet) (all_fair : AllFair) (themselves : EachNamesItself) where
  pub meets : (m : Assignment) → IsAccepted m → MeetsRules m
  meets m a = (rules m).0 a.well

  fairs : (m : Assignment) → IsAccepted m → (f : Function) → IsFunction m f → AllByRecursion (IsFair m.typed) (function_transfers m.typed f)
  fairs m a f stands = of_each (λ f. AllByRecursion (IsFair m.typed) (function_transfers m.typed f)) (functions_in m.typed.program.items) f (all_fair m.typed a.resolved a.placed a.low) stands

  pub is_fair : (m : Assignment) → IsAccepted m → (f : Function) → IsFunction m f → (t : Transfer) → Contains (function_transfers m.typed f) t → IsFair m.typed t
  is_fair m a f stands t has = of_each (IsFair m.typed) (function_transfers m.typed f) t (fairs m a f stands) has

  agree_by : (m : Assignment) → IsAccepted m → (to : List Sharing) (e : Expression) → IsGiven m to e → (found : List Sharing) → modes_at m e ≡ Some found → same_all m.typed to found ≡ true
  agree_by m a to e given found is = (meets m a).m1 to found e given is

  assigned_goes : AssignedGoes
  assigned_goes c a u e modes does is pointer =
      goes c (kind_at c.program.typed u) modes e pointer (is_fair c.program a does.owner does.stands record { receiver = lvalue u; source = value e } does.does) (agree_by c.program a modes e (assigned does is))

  -- a variable of a function is found by its token
  variables : (m : Assignment) → IsAccepted m → (f : Function) → IsFunction m f → AllByRecursion (IsItself m.typed Named.Variable) (f.parameters ++ declared_in_all f.statements)
  variables m a f stands =
      of_each (λ f. AllByRecursion (IsItself m.typed Named.Variable) (f.parameters ++ declared_in_all f.statements)) (functions_in m.typed.program.items) f (themselves m.typed a.resolved a.placed a.low).variables stands

  pub parameter_declared : (m : Assignment) → IsAccepted m → (f : Function) → IsFunction m f → (d : Declaration) → Contains f.parameters d → declaration_at m.typed d.name.site.token ≡ Some d
  parameter_declared m a f stands d has =
      (of_each (IsItself m.typed Named.Variable) f.parameters d (front (IsItself m.typed Named.Variable) f.parameters (declared_in_all f.statements) (variables m a f stands)) has).1

  pub local_declared : (m : Assignment) → IsAccepted m → (f : Function) → IsFunction m f → (l : Local) → Contains (locals_in_all f.statements) l → declaration_at m.typed l.declaration.name.site.token ≡ Some l.declaration
  local_declared m a f stands l has =
      (of_each (OfLocal (IsItself m.typed Named.Variable)) (locals_in_all f.statements) l
      (in_each (IsItself m.typed Named.Variable) f.statements (back (IsItself m.typed Named.Variable) f.parameters (declared_in_all f.statements) (variables m a f stands))) has).1

  begun_goes : BegunGoes
  begun_goes c a f l e stands has begins pointer =
      let d = l.declaration in
      let r = c.program.typed in
      let fair_one : IsFair r record { receiver = variable d; source = value e } = of_each (Begins r (IsFair r)) (locals_in_all f.statements) l (locals_begin r (IsFair r) f (fairs c.program a f stands)) has e begins in
      let modes = modes_of c.program (declared_row r written d.name.site.token) in
      subst (λ (o : Option Declaration). GoesTo (entry_of c e) (static_of c (variable_kind o) modes)) (sym (local_declared c.program a f stands l has))
      (goes c (declared_kind d.written) modes e pointer fair_one (agree_by c.program a modes e (initial stands has begins)))

  returned_goes : ReturnedGoes
  returned_goes c a f e stands has pointer =
      let modes = modes_of c.program (declared_row c.program.typed written f.name.site.token) in
      goes c (declared_kind f.result) modes e pointer (is_fair c.program a f stands record { receiver = result f.result; source = value e } has) (agree_by c.program a modes e (returned stands has))

  pub given_laws : GivenLaws
  given_laws = record { assigned = assigned_goes; begun = begun_goes; returned = returned_goes }
