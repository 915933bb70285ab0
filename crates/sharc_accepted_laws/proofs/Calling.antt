-- Arguments go to parameters.
use Rattle.sharc_accepted_laws.proofs.{Imports.{◌≡◌, ℕ, zero, suc, ◌+◌, ◌<◌, ◌==◌, eqb-true, Bool, true, false, cond, List, [], ◌∷◌, ◌++◌, map, slice_get, refl, ap, sym, ◌∙◌, subst, arith, Some, None, Contains, false≢true, AllByRecursion, Declaration, Expression, Arguments, no_arguments, argument, value, Function, Named, is_pointer, declared_kind, declared_kinds, Int, Reference, Resolution, named_at, functions_in, declaration_at, variable_kind, locals_in_all, variable, passed, IsItself, EachNamesItself, is_constant_named, constant_use, argument_use, cell_at, Slot, is_ref, parameters_scope, behind_int, behind_ref, slot_kind, Context, slot_of, ref_count, register_from, register_of, number_in, kind_in, NameSuits, Suits, ArgumentsSuit, IsAccepted, AreStanding, at_entry, argument_type, AreCopies, ArgumentsFit, held_named, held_at, ScopeLaws, variable_type, pointers, entry_named, type_for, wants_of, CallsPass, ArgumentsStand, CallingLaws, typing, IsFunction, StaticType, Refers, Label, HasCopy, Passes, Setting, IsCopyIn, IsCopyNamed, IsCopyOf, ArgumentAt, ArgumentsAt, same_some, none_some, front, each, head_there, tail_there, of_each}, TypableRegisters.reference_found}
use Rattle.sharc_tree.specs.Tree as tree

pointer_low : (list : List Slot) (p : ℕ) → p < ref_count list → (x : ℕ) × (slice_get (pointers list) p ≡ Some x)
pointer_low [] p low = absurd (omega (arith, low))
pointer_low (z ∷ rest) p low = by z.is_pointer p low (pointer_low rest)
  where
    by : (b : Bool) (p : ℕ) → p < cond b (ref_count rest + 1) (ref_count rest) → ((p : ℕ) → p < ref_count rest → (x : ℕ) × (slice_get (pointers rest) p ≡ Some x)) → (x : ℕ) × (slice_get (cond b (z.token ∷ pointers rest) (pointers rest)) p ≡ Some x)
    by true zero low later = (z.token, refl)
    by true (suc p) low later = later p (omega (arith, low))
    by false p low later = later p low

module _ (z : Setting) (f : ℕ) (c : Context) (l : Label) where
  abbrev r : Resolution
  r = c.program.typed

  abbrev Given : List Declaration → (ℕ → StaticType) → Arguments → ℕ → ℕ → Type 0
  Given ds wants all i k = ArgumentsAt z f typing c (declared_kinds ds) wants all i k l

  -- ---- the argument in a register
  record IsPassedIn (ds : List Declaration) (wants : ℕ → StaticType) (all : Arguments) (k x : ℕ) : Type 0 where
    parameter : Declaration
    of : Expression
    place : ℕ
    at : slice_get ds place ≡ Some parameter
    token : parameter.name.site.token ≡ x
    pointer : is_pointer (declared_kind parameter.written) ≡ true
    passes : Contains (passed ds all) record { receiver = variable parameter; source = value of }
    entry : l.env k ≡ Refers (wants place)

  passed_in : (ds : List Declaration) (wants : ℕ → StaticType) (all : Arguments) (i k : ℕ) → ArgumentsSuit c (declared_kinds ds) all → Given ds wants all i k → (q x : ℕ) → slice_get (pointers (map slot_of ds)) q ≡ Some x → IsPassedIn ds wants all (k + q) x
  passed_in [] wants all i k suits h q x is = absurd (none_some x is)
  passed_in (d ∷ ds) wants no_arguments i k suits h q x is = absurd suits
  passed_in (d ∷ ds) wants (argument a rest) i k suits h q x is =
      by (is_pointer (declared_kind d.written)) refl (is_ref c a) suits.1.0 q h is (λ i k q g at. passed_in ds (λ n. wants (n + 1)) rest i k suits.2 g q x at)
    where
      later : (k : ℕ) → IsPassedIn ds (λ n. wants (n + 1)) rest k x → IsPassedIn (d ∷ ds) wants (argument a rest) k x
      later k w =
          let next : w.place + 1 ≡ suc w.place = omega arith in
          record { parameter = w.parameter; of = w.of; place = suc w.place; at = w.at; token = w.token; pointer = w.pointer; passes = tail_there _ _ (passed ds rest) w.passes; entry = w.entry ∙ ap (λ n. Refers (wants n)) next }

      by : (b : Bool) → is_pointer (declared_kind d.written) ≡ b → (e : Bool) → e ≡ is_pointer (declared_kind d.written) → (q : ℕ)
          → ArgumentAt z f typing c (declared_kinds (d ∷ ds)) a e (wants 0) i k l × Given ds (λ n. wants (n + 1)) rest (behind_int e i) (behind_ref e k)
          → slice_get (cond b (d.name.site.token ∷ pointers (map slot_of ds)) (pointers (map slot_of ds))) q ≡ Some x
          → ((i k q : ℕ) → Given ds (λ n. wants (n + 1)) rest i k → slice_get (pointers (map slot_of ds)) q ≡ Some x → IsPassedIn ds (λ n. wants (n + 1)) rest (k + q) x) → IsPassedIn (d ∷ ds) wants (argument a rest) (k + q) x
      by true pointer true same zero h is more =
          let here : k ≡ k + 0 = omega arith in
          record { parameter = d; of = a; place = 0; at = refl; token = same_some d.name.site.token x is; pointer = pointer; passes = head_there _ (passed ds rest); entry = ap l.env (sym here) ∙ h.0.0 }
      by true pointer true same (suc q) h is more =
          let there : k + 1 + q ≡ k + suc q = omega arith in
          later (k + suc q) (subst (λ n. IsPassedIn ds (λ n. wants (n + 1)) rest n x) there (more i (k + 1) q h.1 is))
      by false pointer false same q h is more = later (k + q) (more (i + 1) k q h.1 is)
      by true pointer false same q h is more = absurd (false≢true (same ∙ pointer))
      by false pointer true same q h is more = absurd (false≢true (sym (same ∙ pointer)))

  -- ---- the copies of constant variables
  copy_named : (a : Expression) (at y copy q : ℕ) → constant_use r a ≡ Some at → named_at r at ≡ Named.Variable y → register_of c.scope y ≡ Reference q → held_at c q ≡ true → IsCopyOf typing c a copy → copy ≡ q
  copy_named (tree.identifier s i) at y copy q used names there_is held h = by (is_constant_named r (named_at r i.site.token)) used
    where
      by : (b : Bool) → cond b (Some i.site.token) None ≡ Some at → copy ≡ q
      by true is =
          let what : named_at r i.site.token ≡ Named.Variable y = ap (named_at r) (same_some i.site.token at is) ∙ names in
          subst (λ g. IsCopyIn typing c (number_in g) copy) there_is (subst (λ w. IsCopyNamed typing c w copy) what h) held
      by false is = absurd (none_some at is)
  copy_named _ at y copy q used names there_is held h = absurd (none_some at used)

  copy_at : (ds : List Declaration) (wants : ℕ → StaticType) (all : Arguments) (i k j n : ℕ) → ArgumentsSuit c (declared_kinds ds) all → Given ds wants all i (k + n) → AllByRecursion (λ d. declaration_at r d.name.site.token ≡ Some d) ds
      → (x at y q : ℕ) → is_pointer (variable_kind (declaration_at r x)) ≡ true → argument_use r ds all x ≡ Some at → named_at r at ≡ Named.Variable y → register_of c.scope y ≡ Reference q → held_at c q ≡ true
      → l.same (k + number_in (register_from j n (map slot_of ds) x)) ≡ q
  copy_at [] wants all i k j n suits h declared x at y q pointer used names there_is held = absurd (none_some at used)
  copy_at (d ∷ ds) wants no_arguments i k j n suits h declared x at y q pointer used names there_is held = absurd suits
  copy_at (d ∷ ds) wants (argument a rest) i k j n suits h declared x at y q pointer used names there_is held =
      by (d.name.site.token == x) refl used (is_pointer (declared_kind d.written)) refl (is_ref c a) suits.1.0 h
      (λ i j n g used. copy_at ds (λ n. wants (n + 1)) rest i k j n suits.2 g declared.1 x at y q pointer used names there_is held)
    where
      by : (t : Bool) → (d.name.site.token == x) ≡ t → cond t (constant_use r a) (argument_use r ds rest x) ≡ Some at → (b : Bool) → is_pointer (declared_kind d.written) ≡ b → (e : Bool) → e ≡ is_pointer (declared_kind d.written)
          → ArgumentAt z f typing c (declared_kinds (d ∷ ds)) a e (wants 0) i (k + n) l × Given ds (λ n. wants (n + 1)) rest (behind_int e i) (behind_ref e (k + n))
          → ((i j n : ℕ) → Given ds (λ n. wants (n + 1)) rest i (k + n) → argument_use r ds rest x ≡ Some at → l.same (k + number_in (register_from j n (map slot_of ds) x)) ≡ q)
          → l.same (k + number_in (cond t (cond b (Reference n) (Int j)) (cond b (register_from j (n + 1) (map slot_of ds) x) (register_from (j + 1) n (map slot_of ds) x)))) ≡ q
      by true same used true is true ref h more = copy_named a at y (l.same (k + n)) q used names there_is held h.0.1
      by true same used false is e ref h more =
          let token : d.name.site.token ≡ x = eqb-true d.name.site.token x same in
          absurd (false≢true (sym is ∙ ap (λ o. is_pointer (variable_kind o)) (sym declared.0 ∙ ap (declaration_at r) token) ∙ pointer))
      by false same used true is true ref h more =
          let next : k + n + 1 ≡ k + (n + 1) = omega arith in
          more i j (n + 1) (subst (Given ds (λ n. wants (n + 1)) rest i) next h.1) used
      by false same used false is false ref h more = more (i + 1) (j + 1) n h.1 used
      by t same used true is false ref h more = absurd (false≢true (ref ∙ is))
      by false same used false is true ref h more = absurd (false≢true (sym (ref ∙ is)))

-- ---- constant variables stand
module _ (c : Context) where
  use_stands : (a : Expression) (at y : ℕ) → Suits c a → constant_use c.program.typed a ≡ Some at → named_at c.program.typed at ≡ Named.Variable y → is_ref c a ≡ true → slot_kind c.scope y ≡ Some true
  use_stands (tree.identifier s i) at y suits used names ref = by (is_constant_named c.program.typed (named_at c.program.typed i.site.token)) used
    where
      by : (b : Bool) → cond b (Some i.site.token) None ≡ Some at → slot_kind c.scope y ≡ Some true
      by true is =
          let what : named_at c.program.typed i.site.token ≡ Named.Variable y = ap (named_at c.program.typed) (same_some i.site.token at is) ∙ names in
          subst (λ w. NameSuits c (kind_in c (tree.identifier s i)) (cell_at c.program (tree.identifier s i)) w) what suits ∙ ap Some ref
      by false is = absurd (none_some at is)
  use_stands _ at y suits used names ref = absurd (none_some at used)

  stands_by : (ds : List Declaration) (all : Arguments) → ArgumentsSuit c (declared_kinds ds) all → AllByRecursion (λ d. declaration_at c.program.typed d.name.site.token ≡ Some d) ds → AreStanding c ds all
  stands_by [] all suits declared x at y pointer used names = absurd (none_some at used)
  stands_by (d ∷ ds) no_arguments suits declared x at y pointer used names = absurd suits
  stands_by (d ∷ ds) (argument a rest) suits declared x at y pointer used names = by (d.name.site.token == x) refl used (λ used. stands_by ds rest suits.2 declared.1 x at y pointer used names)
    where
      by : (t : Bool) → (d.name.site.token == x) ≡ t → cond t (constant_use c.program.typed a) (argument_use c.program.typed ds rest x) ≡ Some at
          → (argument_use c.program.typed ds rest x ≡ Some at → slot_kind c.scope y ≡ Some true) → slot_kind c.scope y ≡ Some true
      by true same used later =
          let token : d.name.site.token ≡ x = eqb-true d.name.site.token x same in
          let leads : is_pointer (declared_kind d.written) ≡ true = ap (λ o. is_pointer (variable_kind o)) (sym declared.0 ∙ ap (declaration_at c.program.typed) token) ∙ pointer in
          use_stands a at y suits.0 used names (suits.1.0 ∙ leads)
      by false same used later = later used

parameters_declared : EachNamesItself → (c : Context) → IsAccepted c.program → (g : Function) → IsFunction c.program g → AllByRecursion (λ d. declaration_at c.program.typed d.name.site.token ≡ Some d) g.parameters
parameters_declared themselves c a g there =
    let r = c.program.typed in
    each (IsItself r Named.Variable) (λ d. declaration_at r d.name.site.token ≡ Some d) (λ d h. h.1) g.parameters
    (front (IsItself r Named.Variable) g.parameters (locals_in_all g.statements)
    (of_each (λ f. AllByRecursion (IsItself r Named.Variable) (f.parameters ++ locals_in_all f.statements)) (functions_in r.program.items) g (themselves r a.resolved a.placed a.low).variables there))

arguments_stand : EachNamesItself → ArgumentsStand
arguments_stand themselves c a g there all suits = stands_by c g.parameters all suits (parameters_declared themselves c a g there)

calls_pass : EachNamesItself → ArgumentsFit → ScopeLaws → CallsPass
calls_pass themselves arguments_fit scopes z f c a g there all call suits i k l given p low =
    subst (λ o. Passes l k (k + p) (l.env (k + p)) (entry_named (at_entry c g.parameters) o)) (sym x.1)
    (subst (λ e. Passes l k (k + p) e (Refers (variable_type (at_entry c g.parameters) x.0))) (sym (w.entry ∙ ap (λ o. Refers (type_for c g.parameters all o)) w.at))
    (subst (λ t. Passes l k (k + p) (Refers (argument_type c g.parameters all w.parameter)) (Refers (variable_type (at_entry c g.parameters) t))) w.token
    ((arguments_fit c a g.parameters all w.parameter w.of call w.passes w.pointer).passes l k (k + p) copies)))
  where
    x : (x : ℕ) × (slice_get (pointers (parameters_scope g.parameters)) p ≡ Some x)
    x = pointer_low (parameters_scope g.parameters) p low

    w : IsPassedIn z f c l g.parameters (wants_of c g.parameters all) all (k + p) x.0
    w = passed_in z f c l g.parameters (wants_of c g.parameters all) all i k suits given p x.0 x.1

    declared : AllByRecursion (λ d. declaration_at c.program.typed d.name.site.token ≡ Some d) g.parameters
    declared = parameters_declared themselves c a g there

    standing : AreStanding c g.parameters all
    standing = arguments_stand themselves c a g there all suits

    copies : AreCopies c g.parameters all l k
    copies x at y pointer used names held =
        let slot = standing x at y pointer used names in
        let q = reference_found 0 0 c.scope y slot in
        let kept : held_at c q.0 ≡ true = ap (held_at c) (sym (ap number_in q.1)) ∙ ap (held_named c.program.typed) (scopes.has c y slot).1 ∙ held in
        let first : k ≡ k + 0 = omega arith in
        HasCopy (copy_at z f c l g.parameters (wants_of c g.parameters all) all i k 0 0 suits
        (subst (λ n. ArgumentsAt z f typing c (declared_kinds g.parameters) (wants_of c g.parameters all) all i n l) first given) declared x at y q.0 pointer used names q.1 kept ∙ sym (ap number_in q.1))

pub calling_laws : EachNamesItself → ArgumentsFit → ScopeLaws → CallingLaws
calling_laws themselves arguments_fit scopes = record { stand = arguments_stand themselves; passes = calls_pass themselves arguments_fit scopes }
