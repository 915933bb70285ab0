-- Assignments, and calls whose value is dropped.
use Rattle.sharc_accepted_laws.proofs.{Imports.{no_integer, ◌≡◌, ℕ, ◌<◌, Bool, true, false, cond, List, length, refl, ap, sym, ◌∙◌, subst, option_map, Option, Some, None, Contains, false≢true, AllByRecursion, flat_map, Span, WrittenType, is_lvalue, without_parentheses, is_call, LowSimple, expressions, in_option, in_right, in_simple, in_function, Expression, Right, value, malloc, Simple, assign, does_call, Function, Kind, is_integer, is_pointer, same_kind, declared_kind, Register, Int, Reference, Resolution, functions_in, made, Receiver, lvalue as to_lvalue, Transfer, Agrees, function_transfers, IsHeld, MeetsSimple, element_cells, is_pointer_in, made_at, types_made, is_reference, cell_at, pointed, Assignment, base_of, Targets as ModeTargets, row_at, modes_of, modes_at, Sharing, IsExpression, IsAssigned, kind_of, is_ref, target_of, Target, width_of, Context, slot_kind, register_of, number_in, PlaceSuits, LeftSuits, RightSuits, SimpleSuits, CountSuits, IfThere, is_cell, StaticType, cells_of, Refers, PointersMadeAt, Setting, GoesTo, type_by, IsTypeIn, IsTypable, VariableTyped, IsMade, CountTypable, ValueGoes, RightTypable, VariableAssigned, CellAssigned, Assigned, Dropped, SimpleTypable, HeldLaws, held_at, GivenLaws, ScopeLaws, AllStand, ExpressionStands, ExpressionsStand, static_of, entry_by, entry_of, IsRowOf, NumbersFound, ExpressionsFound, pointee, PointeesFit, PointeesPoint, row_shape, targets_of, IsAt, ValueLaws, typing, IsPlaceIn, IsThere, AreExpressionsTypable, front, back, each, eq_refl, place_there}, Mallocs.one_made, Members.{filter_there, first_of, flat_there}, Sorts.{integer_want, held_pointer, held_integer, no_function_held, made_pointer, made_element, element_some}, Wholes.{Facts, IsName, variable_named}, Forms.integer_no_reference as integer_is}
use Rattle.sharc_tree.specs.Tree as tree
use Rattle.sharc_flat.specs.Places.{variable}
use Rattle.sharc_invariant.specs.Types.{Targets}

-- a call is no lvalue
call_is : (e : Expression) → is_call e ≡ true → is_lvalue e ≡ false
call_is (tree.call s f all) h = refl
call_is _ h = cc

-- ---- in parentheses
module _ (c : Context) where
  pub record Bare (e : Expression) : Type 0 where
    pub entry : entry_of c e ≡ entry_of c (without_parentheses e)
    pub kind : kind_of c e ≡ kind_of c (without_parentheses e)
    pub target : target_of c e ≡ target_of c (without_parentheses e)

  pub bare_of : (e : Expression) → Bare e
  bare_of (tree.parentheses s a) = let b = bare_of a in record { entry = b.entry; kind = b.kind; target = b.target }
  bare_of _ = record { entry = refl; kind = refl; target = refl }

-- and what stands there
bare_there : (g : Function) (c : Context) (e : Expression) → IsThere g c e → IsThere g c (without_parentheses e)
bare_there g c (tree.parentheses s a) t = bare_there g c a (record { inside = t.inside.1; stands = t.stands.1 })
bare_there g c _ t = t

-- ---- what is made
-- by a function that gives it to something
pub made_there : (r : Resolution) (f : Function) → Contains (functions_in r.program.items) f → (receiver : Receiver) (span : Span) (count : Option Expression) (w : WrittenType)
    → Contains (function_transfers r f) record { receiver = receiver; source = malloc span count w } → Contains (types_made r span.first.token) w
made_there r f stands receiver span count w does =
    let t : Transfer = record { receiver = receiver; source = malloc span count w } in
    filter_there (λ (t : Transfer). made_at span.first.token t.source) (flat_map (function_transfers r) (functions_in r.program.items)) t w
    (flat_there (function_transfers r) (functions_in r.program.items) f t stands does) (ap (λ b. cond b (Some w) None) (eq_refl span.first.token))

-- ---- parts of a function
module _ (z : Setting) (alone : ℕ → Bool) (n : ℕ) (g : Function) (c : Context) (here : IsPlaceIn z alone n g c) where
  pub function_there : Contains (functions_in c.program.typed.program.items) g
  function_there = place_there (functions_in c.program.typed.program.items) n g here.function

  pub inside_there : (x : Expression) → Contains (in_function g) x → IsExpression c.program x
  inside_there x has = record { owner = g; stands = function_there; inside = has }

  pub at_there : (e : Expression) → IsThere g c e → IsAt c e
  at_there e t = record { inside = each (Contains (in_function g)) (IsExpression c.program) inside_there (expressions e) t.inside; stands = first_of (ExpressionStands c) e t.stands }

-- the laws that are used
pub record Laws : Type 0 where
  pub values : ValueLaws
  pub scopes : ScopeLaws
  pub held : HeldLaws
  pub given : GivenLaws
  pub numbers : NumbersFound
  pub found : ExpressionsFound
  pub pointees : PointeesFit
  pub points : PointeesPoint

module _ (laws : Laws) (z : Setting) (alone : ℕ → Bool) (n : ℕ) (g : Function) (typable : AreExpressionsTypable z alone n g) (c : Context) (here : IsPlaceIn z alone n g c) where
  abbrev m : Assignment
  m = c.program

  abbrev r : Resolution
  r = c.program.typed

  targets_are : z.targets ≡ targets_of c.program
  targets_are = ap (λ (x : Setting). x.targets) here.setting

  at_of : (e : Expression) → IsThere g c e → IsAt c e
  at_of e t = at_there z alone n g c here e t

  -- ---- new objects
  -- of the first target of a pointer with this row
  pub made_is : (kind : Kind) (row : ModeTargets) → IsRowOf c.program kind row → (w : WrittenType) → same_kind kind (made w) ≡ true → (token : ℕ) → Contains (types_made c.program.typed token) w
      → IsMade z n typing (static_of c kind (modes_of c.program row)) token (element_cells c.program.typed (declared_kind w))
  made_is kind row is w same token there =
      let fits = laws.pointees c.program kind row is (made_pointer kind w same) in
      let found = laws.numbers c.program (row_shape c.program (base_of kind) row) fits.shape in
      record {
        some = found.some;
        row = subst (λ (x : Targets). pointee c.program kind row < length x.rows) (sym targets_are) found.inside;
        cells = ap (element_cells c.program.typed) (sym (made_element kind w same)) ∙ sym fits.cells ∙ ap (λ x. cells_of x (pointee c.program kind row)) (sym targets_are);
        few = element_some c.program.typed here.set.accepted.low (declared_kind w);
        pointers = subst (λ (x : Targets). PointersMadeAt x token (pointee c.program kind row)) (sym targets_are)
            (λ i. laws.points c.program kind row is (made_pointer kind w same) w (made_element kind w same) i ∙ sym (one_made c.program.typed here.set.accepted.placed token w there (λ v. is_pointer_in c.program.typed v i)));
      }

  -- ---- what an expression refers to
  record Pointed (e : Expression) : Type 0 where
    row : ModeTargets
    is : row_at c.program.typed e ≡ Some row
    modes : modes_at c.program e ≡ Some (modes_of c.program row)
    entry : entry_of c e ≡ Refers (static_of c (kind_of c e) (modes_of c.program row))
    type : IsTypeIn z n typing c (type_by (entry_of c e))

  pointed_of : (e : Expression) → IsThere g c e → is_pointer (kind_of c e) ≡ true → Pointed e
  pointed_of e t pointer = by (row_at c.program.typed e) refl
    where
      is_pointer_value : (entry_of c e ≡ Refers (type_by (entry_of c e))) × IsTypeIn z n typing c (type_by (entry_of c e))
      is_pointer_value = let p = laws.values.pointers z n c here.set.accepted e (at_of e t) pointer in (p.1, p.2)

      by : (o : Option ModeTargets) → row_at c.program.typed e ≡ o → Pointed e
      by None is = absurd (cc (sym (ap (λ o. entry_by c (kind_of c e) (option_map (modes_of c.program) o)) is) ∙ is_pointer_value.0))
      by (Some row) is = record {
        row = row;
        is = is;
        modes = ap (option_map (modes_of c.program)) is;
        entry = ap (λ o. entry_by c (kind_of c e) (option_map (modes_of c.program) o)) is;
        type = is_pointer_value.1;
      }

  -- a type of an expression names constants that stand
  pub type_of_any : (e : Expression) → IsThere g c e → IsTypeIn z n typing c (type_by (entry_of c e))
  type_of_any e t = by (modes_at c.program e) refl
    where
      by : (o : Option (List Sharing)) → modes_at c.program e ≡ o → IsTypeIn z n typing c (type_by (entry_of c e))
      by None is = subst (λ y. IsTypeIn z n typing c (type_by y)) (sym (ap (entry_by c (kind_of c e)) is)) (λ p mentions. absurd mentions)
      by (Some modes) is = subst (λ y. IsTypeIn z n typing c (type_by y)) (sym (ap (entry_by c (kind_of c e)) is))
          (λ p mentions. laws.held.types c (kind_of c e) modes p (laws.held.expressions c.program here.set.accepted e modes (at_of e t).inside is) (subst (IfThere (AllStand c.program c.scope)) is (at_of e t).stands) mentions)

  -- ---- what is given
  -- to something of this kind and this type
  pub record Gives (kind : Kind) (s : StaticType) (x : Right) : Type 0 where
    pub inside : AllByRecursion (Contains (in_function g)) (in_right x)
    pub stands : ExpressionsStand c (in_right x)
    pub agrees : Agrees c.program.typed kind x
    pub type : IsTypeIn z n typing c s
    pub goes : (e : Expression) → x ≡ value e → is_reference kind ≡ true → GoesTo (entry_of c e) s
    pub makes : (span : Span) (count : Option Expression) (w : WrittenType) → x ≡ malloc span count w → IsMade z n typing s span.first.token (element_cells c.program.typed (declared_kind w))

  count_is : (e : Option Expression) → AllByRecursion (Contains (in_function g)) (in_option expressions e) → ExpressionsStand c (in_option expressions e) → CountSuits c e → CountTypable z n typing c e
  count_is None i s h = tt
  count_is (Some e) i s h = (typable.value c here e (record { inside = i; stands = s }) h.0 (λ l no. h.1), (integer_is (kind_of c e) h.1, h.1))

  pub right_is : (kind : Kind) (s : StaticType) (mode : Sharing) (x : Right) → Gives kind s x → RightSuits c kind mode x → RightTypable z n typing c kind s x
  right_is kind s mode (value e) given suits = by (is_reference kind) refl
    where
      typed : IsTypable z n typing c e
      typed = typable.value c here e (record { inside = given.inside; stands = given.stands }) suits.0 (λ l no. suits.1.1 (sym suits.1.0 ∙ no))

      by : (b : Bool) → is_reference kind ≡ b → ValueGoes z n typing c kind s e b
      by true is = (typed, suits.1.0 ∙ is, no_integer kind is, given.goes e refl is, given.type)
      by false is = let number : is_integer (kind_of c e) ≡ true = suits.1.1 is in (typed, (integer_is (kind_of c e) number, number), integer_want kind (kind_of c e) given.agrees number)
  right_is kind s mode (malloc span count w) given suits = (suits.0, given.type, given.makes span count w refl, count_is count given.inside given.stands suits.2)

  -- ---- what is assigned to
  module _ (facts : Facts c.program.typed g) (u : Expression) (x : Right) (there : IsThere g c u) (placed : PlaceSuits c u) (does : IsAssigned c.program u x) (lvalue : is_lvalue u ≡ true) (holds : IsHeld (kind_of c u)) where
    abbrev s : StaticType
    s = type_by (entry_of c u)

    variable_is : (y : ℕ) → target_of c u ≡ variable y → slot_kind c.scope y ≡ Some (is_ref c u) → VariableAssigned z n typing c (kind_of c u) (type_by (entry_of c u)) (register_of c.scope y)
    variable_is y to slot = by (register_of c.scope y) refl typed
      where
        name : IsName c.program.typed g facts u y
        name = variable_named c.program.typed g facts u (kind_of c u) (facts.typed u (first_of (Contains (in_function g)) u there.inside)) lvalue (no_function_held (kind_of c u) holds) there.inside y to

        kind : kind_of c u ≡ kind_of c (tree.identifier name.span name.name)
        kind = (bare_of c u).kind ∙ ap (kind_of c) name.bare

        entry : entry_of c u ≡ entry_of c (tree.identifier name.span name.name)
        entry = (bare_of c u).entry ∙ ap (entry_of c) name.bare

        typed : VariableTyped z n typing c (tree.identifier name.span name.name) (register_of c.scope y)
        typed = laws.values.variables z n c here.set.accepted name.span name.name y (at_of (tree.identifier name.span name.name) (subst (IsThere g c) name.bare (bare_there g c u there))) name.names
            (slot ∙ ap (λ k. Some (is_reference k)) kind) (λ no. ap is_integer (sym kind) ∙ held_integer (kind_of c u) holds (ap is_reference kind ∙ no))

        by : (q : Register) → register_of c.scope y ≡ q → VariableTyped z n typing c (tree.identifier name.span name.name) q → VariableAssigned z n typing c (kind_of c u) (type_by (entry_of c u)) q
        by (Int j) is v = (ap is_reference kind ∙ v.0.0, v.1, v.2 ∙ ap width_of (sym kind))
        by (Reference q) is v =
            let ref : is_ref c u ≡ true = ap is_reference kind ∙ v.0 in
            (ref, v.1, sym (ap type_by (entry ∙ v.2)), subst (λ k. held_at c k ≡ false) (ap number_in is) (laws.held.assigned c u x name.span name.name y does name.bare name.names (slot ∙ ap Some ref)))

    cell_is : (t : Target) → target_of c u ≡ t → is_cell t ≡ true → CellAssigned z n typing c u (type_by (entry_of c u)) t (is_ref c u)
    cell_is t to cell = subst (λ t. CellAssigned z n typing c u (type_by (entry_of c u)) t (is_ref c u)) to (typable.written c here u x there placed does holds (ap is_cell to ∙ cell))

    pub assigned_is : (t : Target) → target_of c u ≡ t → LeftSuits c (kind_of c u) (cell_at c.program u) t → Assigned z n typing c u (type_by (entry_of c u)) t
    assigned_is (variable y) to left = variable_is y to left
    assigned_is j to left = cell_is j to refl

    -- what is given to it
    goes_is : (e : Expression) → x ≡ value e → is_reference (kind_of c u) ≡ true → GoesTo (entry_of c e) (type_by (entry_of c u))
    goes_is e is ref =
        let pointer = held_pointer (kind_of c u) holds ref in
        let p = pointed_of u there pointer in
        subst (GoesTo (entry_of c e)) (sym (ap type_by p.entry))
        (laws.given.assigned c here.set.accepted u e (modes_of c.program p.row) (subst (IsAssigned c.program u) is does) p.modes pointer)

    makes_is : Agrees c.program.typed (kind_of c u) x → (span : Span) (count : Option Expression) (w : WrittenType) → x ≡ malloc span count w → IsMade z n typing (type_by (entry_of c u)) span.first.token (element_cells c.program.typed (declared_kind w))
    makes_is agrees span count w is =
        let same : same_kind (kind_of c u) (made w) ≡ true = subst (Agrees c.program.typed (kind_of c u)) is agrees in
        let given = subst (λ y. Contains (function_transfers c.program.typed does.owner) record { receiver = to_lvalue u; source = y }) is does.does in
        let p = pointed_of u there (made_pointer (kind_of c u) w same) in
        let found = laws.found c.program here.set.accepted.resolved here.set.accepted.placed here.set.accepted.low here.set.accepted.least.modes u (inside_there z alone n g c here u (first_of (Contains (in_function g)) u there.inside)) p.row p.is in
        subst (λ t. IsMade z n typing t span.first.token (element_cells c.program.typed (declared_kind w))) (sym (ap type_by p.entry))
        (made_is (kind_of c u) p.row found w same span.first.token (made_there c.program.typed does.owner does.stands (to_lvalue u) span count w given))

  -- ---- simple statements
  pub record SimpleGiven (x : Simple) : Type 0 where
    pub inside : AllByRecursion (Contains (in_function g)) (in_simple x)
    pub stands : ExpressionsStand c (in_simple x)
    pub does : (u : Expression) (y : Right) (s : Span) → x ≡ assign s u y → IsAssigned c.program u y × Agrees c.program.typed (kind_of c u) y

  pub simple_is : Facts c.program.typed g → (x : Simple) → SimpleGiven x → MeetsSimple c.program.typed x → LowSimple x → SimpleSuits c x → SimpleTypable z n typing c x
  simple_is facts (assign span u x) given meets low suits =
      let there : IsThere g c u = record { inside = front (Contains (in_function g)) (expressions u) (in_right x) given.inside; stands = front (ExpressionStands c) (expressions u) (in_right x) given.stands } in
      let does = given.does u x span refl in
      let type = type_of_any u there in (
        typable.place c here u there suits.0 meets.0 meets.1,
        (
          type_by (entry_of c u),
          type,
          assigned_is facts u x there suits.0 does.0 meets.0 meets.1 (target_of c u) refl suits.1,
          right_is (kind_of c u) (type_by (entry_of c u)) (pointed c.program (row_at c.program.typed u)) x
              (record {
                inside = back (Contains (in_function g)) (expressions u) (in_right x) given.inside;
                stands = back (ExpressionStands c) (expressions u) (in_right x) given.stands;
                agrees = does.1;
                type = type;
                goes = goes_is facts u x there suits.0 does.0 meets.0 meets.1;
                makes = makes_is facts u x there suits.0 does.0 meets.0 meets.1 does.1;
              })
              suits.2,
        ),
      )
  simple_is facts (does_call e) given meets low suits =
      let there : IsThere g c e = record { inside = given.inside; stands = given.stands } in
      (typable.value c here e there suits (λ l. absurd (false≢true (sym (call_is e low.0) ∙ l))), by there (is_ref c e) refl)
    where
      by : IsThere g c e → (b : Bool) → is_ref c e ≡ b → Dropped z n typing c e b
      by there true is = (laws.values.values z n c here.set.accepted e (at_of e there) (λ no. absurd (false≢true (sym no ∙ is)))).0 is
      by there false is = tt
