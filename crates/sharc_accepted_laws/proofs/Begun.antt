-- Variables of blocks.
use Rattle.sharc_accepted_laws.proofs.{Imports.{declared_reference, ◌≡◌, ℕ, Bool, true, false, [], ◌∷◌, refl, ap, sym, ◌∙◌, subst, Option, Some, None, IfSome, Contains, AllByRecursion, Declaration, in_option, in_right, in_local, in_function, Right, Local, Function, Named, Kind, is_pointer, declared_kind, declaration_at, variable_kind, variable, Agrees, function_transfers, IsItself, element_cells, is_reference, pointed, Assignment, written, declared_row, modes_of, with_variable, width_of, Context, slot_of, InitialSuits, StaticType, Setting, type_by, IsTypeIn, IsMade, Keeps, Begins, InitialTypable, DeclaredTypable, held_named, ExpressionStands, LocalStands, static_of, variable_type, entry_named, VariablesFound, typing, width_named, IsPlaceIn, AreExpressionsTypable}, Assigned.{Laws, function_there, made_there, made_is, right_is, Gives}, Fresh.LocalFresh, StaticRegisters.got_more, Slots.{pointer_last, ref_more, integer_kept, integer_last, int_more}}
use Rattle.sharc_check.specs.Constructs.{locals_in_all}

-- what a variable begins with agrees with it, and is among what the function gives
abbrev pub IsBegun : Assignment → Function → Declaration → Right → Type 0
IsBegun m g d x = Agrees m.typed (declared_kind d.written) x × Contains (function_transfers m.typed g) record { receiver = variable d; source = x }

-- where one more stands
pub here_with : (laws : Laws) (z : Setting) (alone : ℕ → Bool) (n : ℕ) (g : Function) (c : Context) → IsPlaceIn z alone n g c → (l : Local) → LocalStands c l → IsPlaceIn z alone n g (with_variable c l.declaration)
here_with laws z alone n g c here l stands = record { set = here.set; setting = here.setting; function = here.function; closed = laws.scopes.more c.program c.scope (slot_of l.declaration) here.closed stands.0 }

module _ (laws : Laws) (variables : VariablesFound) (z : Setting) (alone : ℕ → Bool) (n : ℕ) (g : Function) (typable : AreExpressionsTypable z alone n g) (c : Context) (here : IsPlaceIn z alone n g c)
    (l : Local) (stands : LocalStands c l) (itself : IsItself c.program.typed Named.Variable l.declaration) (fresh : LocalFresh c l) where
  abbrev d : Declaration
  d = l.declaration

  abbrev token : ℕ
  token = l.declaration.name.site.token

  abbrev kind : Kind
  kind = declared_kind l.declaration.written

  -- where it stands
  abbrev c2 : Context
  c2 = with_variable c l.declaration

  abbrev s : StaticType
  s = variable_type (with_variable c l.declaration) l.declaration.name.site.token

  abbrev here2 : IsPlaceIn z alone n g (with_variable c l.declaration)
  here2 = here_with laws z alone n g c here l stands

  -- its type is the same with it and without it
  stays : variable_type (with_variable c l.declaration) l.declaration.name.site.token ≡ variable_type c l.declaration.name.site.token
  stays = laws.scopes.types c (slot_of l.declaration ∷ []) (variable_kind (declaration_at c.program.typed l.declaration.name.site.token)) (modes_of c.program (declared_row c.program.typed written l.declaration.name.site.token)) stands.0

  type_before : IsTypeIn z n typing c (variable_type (with_variable c l.declaration) l.declaration.name.site.token)
  type_before = subst (IsTypeIn z n typing c) (sym stays) (λ p mentions. laws.held.types c (variable_kind (declaration_at c.program.typed l.declaration.name.site.token)) (modes_of c.program (declared_row c.program.typed written l.declaration.name.site.token)) p (laws.held.declared c.program here.set.accepted l.declaration.name.site.token) stands.0 mentions)

  type_with : IsTypeIn z n typing (with_variable c l.declaration) (variable_type (with_variable c l.declaration) l.declaration.name.site.token)
  type_with p mentions = laws.held.types (with_variable c l.declaration) (variable_kind (declaration_at c.program.typed l.declaration.name.site.token)) (modes_of c.program (declared_row c.program.typed written l.declaration.name.site.token)) p (laws.held.declared c.program here.set.accepted l.declaration.name.site.token)
      (laws.scopes.still c.program c.scope (slot_of l.declaration ∷ []) (modes_of c.program (declared_row c.program.typed written l.declaration.name.site.token)) stands.0) mentions

  -- the others are as they were
  keeps_is : Keeps typing c (with_variable c l.declaration)
  keeps_is = record {
    pointers = λ q low. ap type_by (laws.scopes.entries c (slot_of l.declaration ∷ []) q here.closed low);
    widths = λ j low. ap (width_named c) (integer_kept c.scope (slot_of l.declaration ∷ []) j low);
    names = λ q low. ap (held_named c.program.typed) (got_more (slot_of l.declaration ∷ []) c.scope q low);
  }

  -- and it has the next register
  kind_is : variable_kind (declaration_at c.program.typed l.declaration.name.site.token) ≡ declared_kind l.declaration.written
  kind_is = ap variable_kind itself.1

  begins_is : (b : Bool) → is_reference (declared_kind l.declaration.written) ≡ b
      → Begins typing c (with_variable c l.declaration) (variable_type (with_variable c l.declaration) l.declaration.name.site.token) (width_of (declared_kind l.declaration.written)) b
  begins_is true is =
      let pointer : is_pointer (declared_kind l.declaration.written) ≡ true = sym (declared_reference l.declaration.written) ∙ is in
      record {
        refs = ref_more c.scope (slot_of l.declaration) true pointer;
        ints = int_more c.scope (slot_of l.declaration) true pointer;
        pointer = ap (λ o. type_by (entry_named (with_variable c l.declaration) o)) (pointer_last c.scope (slot_of l.declaration) pointer);
      }
  begins_is false is =
      let integer : is_pointer (declared_kind l.declaration.written) ≡ false = sym (declared_reference l.declaration.written) ∙ is in
      record {
        refs = ref_more c.scope (slot_of l.declaration) false integer;
        ints = int_more c.scope (slot_of l.declaration) false integer;
        width = ap (width_named (with_variable c l.declaration)) (integer_last c.scope (slot_of l.declaration) integer) ∙ ap width_of kind_is;
      }

  -- ---- what it begins with
  record Initially (x : Right) : Type 0 where
    inside : AllByRecursion (Contains (in_function g)) (in_right x)
    given : IsBegun c.program g l.declaration x
    there : Contains (locals_in_all g.statements) l
    is : l.initial ≡ Some x

  type_is : variable_type (with_variable c l.declaration) l.declaration.name.site.token
      ≡ static_of (with_variable c l.declaration) (declared_kind l.declaration.written) (modes_of c.program (declared_row c.program.typed written l.declaration.name.site.token))
  type_is = ap (λ k. static_of (with_variable c l.declaration) k (modes_of c.program (declared_row c.program.typed written l.declaration.name.site.token))) kind_is

  gives_is : (x : Right) → Initially x → Gives laws z alone n g typable (with_variable c l.declaration) (here_with laws z alone n g c here l stands) (declared_kind l.declaration.written) (variable_type (with_variable c l.declaration) l.declaration.name.site.token) x
  gives_is x given = record {
    inside = given.inside;
    stands = subst (λ o. AllByRecursion (ExpressionStands (with_variable c l.declaration)) (in_option in_right o)) given.is stands.1;
    agrees = given.given.0;
    type = type_with;
    goes = λ e is ref. laws.given.begun (with_variable c l.declaration) here.set.accepted g l e (function_there z alone n g c here) given.there (given.is ∙ ap Some is) (sym (declared_reference l.declaration.written) ∙ ref);
    makes = λ span count w is. subst (λ t. IsMade z n typing t span.first.token (element_cells c.program.typed (declared_kind w))) (sym type_is)
        (made_is laws z alone n g typable (with_variable c l.declaration) (here_with laws z alone n g c here l stands) (declared_kind l.declaration.written) (declared_row c.program.typed written l.declaration.name.site.token)
        (variables c.program here.set.accepted.resolved here.set.accepted.placed here.set.accepted.low here.set.accepted.least.modes l.declaration.name.site.token l.declaration itself.1 written) w
        (subst (Agrees c.program.typed (declared_kind l.declaration.written)) is given.given.0) span.first.token
        (made_there c.program.typed g (function_there z alone n g c here) (variable l.declaration) span count w
        (subst (λ y. Contains (function_transfers c.program.typed g) record { receiver = variable l.declaration; source = y }) is given.given.1)));
  }

  initial_is : (x : Option Right) → l.initial ≡ x → AllByRecursion (Contains (in_function g)) (in_option in_right x) → IfSome x (IsBegun c.program g l.declaration) → Contains (locals_in_all g.statements) l
      → InitialSuits c l.declaration x → InitialTypable z n typing (with_variable c l.declaration) l.declaration (variable_type (with_variable c l.declaration) l.declaration.name.site.token) x
  initial_is None is inside given there suits = tt
  initial_is (Some x) is inside given there suits =
      right_is laws z alone n g typable (with_variable c l.declaration) (here_with laws z alone n g c here l stands) (declared_kind l.declaration.written) (variable_type (with_variable c l.declaration) l.declaration.name.site.token)
      (pointed c.program (Some (declared_row c.program.typed written l.declaration.name.site.token))) x (gives_is x (record { inside = inside; given = given; there = there; is = is })) suits.0

  pub local_is : Contains (locals_in_all g.statements) l → AllByRecursion (Contains (in_function g)) (in_local l) → IfSome l.initial (IsBegun c.program g l.declaration) → InitialSuits c l.declaration l.initial → DeclaredTypable z n typing c l
  local_is there inside given suits = (
    variable_type (with_variable c l.declaration) l.declaration.name.site.token,
    record {
      keeps = keeps_is;
      begins = begins_is (is_reference (declared_kind l.declaration.written)) refl;
      type = type_before;
      again = type_with;
      fresh = fresh;
      initial = initial_is l.initial refl inside given there suits;
    },
  )
