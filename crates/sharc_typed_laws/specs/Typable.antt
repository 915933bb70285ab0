-- What the types of a source have to say of an expression, so that its code is typed: one clause for each form.
use Rattle.std.specs.Prelude.{ℕ, ◌+◌, ◌≡◌, ◌<◌, ◌≤◌, ◌⊎◌, Bool, true, false, List, [], ◌∷◌, length, drop, Option, Some}
use Rattle.std.specs.Prelude.{None, codes, if◌then◌else◌}
use Rattle.std.specs.Str.{bytes_eq}
use Rattle.sharc_tree.specs.{declared.token.Site.Site, declared.tree.expression.FieldOperator.FieldOperator}
use Rattle.sharc_tree.specs.declared.tree.expression.FieldOperator.TheVariants.{Dot, Arrow}
use Rattle.sharc_tree.specs.declared.tree.expression.BinaryOperator.{BinaryOperator}
use Rattle.sharc_tree.specs.declared.tree.expression.BinaryOperator.TheVariants.{LogicalOr, LogicalAnd}
use Rattle.sharc_tree.specs.{declared.tree.expression.Constant.Constant, declared.tree.expression.PlaceCall.PlaceCall}
use Rattle.sharc_tree.specs.declared.tree.expression.PlaceCall.TheVariants.{Lock, Unlock, Free}
use Rattle.sharc_tree.specs.declared.tree.expression.UnaryOperator.{UnaryOperator}
use Rattle.sharc_tree.specs.declared.tree.expression.UnaryOperator.TheVariants.{Negate, Not, Complement, Dereference}
use Rattle.sharc_tree.specs.Spans.{span_of}
use Rattle.sharc_tree.specs.Tree.{Expression, identifier, constant, parentheses, call, spawn, on_value, on_place, cast}
use Rattle.sharc_tree.specs.Tree.{index, field, unary, binary, Arguments, no_arguments, argument}
use Rattle.sharc_names.specs.declared.fault.Named.{Named}
use Rattle.sharc_names.specs.Kinds.{Kind, is_array, is_integer, element_kind, promoted, declared_kinds}
use Rattle.sharc_names.specs.declared.fault.Named.TheVariants as named
use Rattle.sharc_code.specs.declared.code.Parameter.TheVariants as parameters
use Rattle.sharc_code.specs.{declared.code.Use.Use, declared.instr.Register.Register}
use Rattle.sharc_code.specs.{declared.instr.Register.TheVariants.{Int, Reference}, declared.instr.Width.Width}
use Rattle.sharc_code.specs.Machine.{function_of}
use Rattle.sharc_code.specs.declared.code.Use.TheVariants as uses
use Rattle.sharc_ctype.specs.{Expressions.{class_of, binary_result}, Resolved.{global_at, structs_in}}
use Rattle.sharc_ctype.specs.Transfers.{parameters_named}
use Rattle.sharc_meaning.specs.{Cells.{element_cells, field_place_named, global_elements}, Expressions.number_named}
use Rattle.sharc_meaning.specs.Reference.{constant_value}
use Rattle.sharc_flat.specs.Scope.{Context, int_count, ref_count, register_of}
use Rattle.sharc_flat.specs.Places.{Target, variable, in_global, global_of, target, own_field, width_of}
use Rattle.sharc_flat.specs.Flattened.{kind_of, is_ref, target_of, mode_of, lvalue_in, what_names, guard_of, behind_int}
use Rattle.sharc_flat.specs.Flattened.{behind_ref, operator_of, layout_of}
use Rattle.sharc_flat.specs.{Suits.{Either, is_cell}, Framed.IsWide}
use Rattle.sharc_invariant.specs.{Types.{StaticType, Content, field_at, cells_of}, Types.Content.{MutexWord, Waiters}}
use Rattle.sharc_invariant.specs.Labels.{Entry, Empty, Refers, Unknown, Anything, Exactly, Within, Label, LessNumber}
use Rattle.sharc_invariant.specs.Labels.{EntryMentions, HasBase}
use Rattle.sharc_invariant.specs.Typed.{is_shift, is_comparison, Passes, IsShared, Recasts, IsLayout}
use Rattle.sharc_typed_laws.specs.{Stretches.Setting, Places.{RegistersStand, IsNamed, IsPlain, no_type}}
use Rattle.sharc_typed_laws.specs.Premises.{Typing, HoldsVariables, IsCopyOf, Ground, IntegerTyped, ReferenceTyped}
use Rattle.sharc_typed_laws.specs.Premises.{MutexTyped}

-- ---- types
abbrev pub type_by : Entry → StaticType
type_by Empty = no_type
type_by (Refers s) = s
type_by Unknown = no_type

-- NULL, or a reference of this type, goes to what has it
abbrev pub GoesTo : Entry → StaticType → Type 0
GoesTo e s = (e ≡ Empty) ⊎ (e ≡ Refers s)

-- the registers that are taken are those of the variables and of values at hand
pub record StandsIn (y : Typing) (c : Context) (f from i r : ℕ) (l : Label) : Type 0 where
  pub stands : RegistersStand (y.named c) i r l
  pub owned : l.function ≡ Some f
  pub holds : HoldsVariables y c l
  pub high : ref_count c.scope ≤ r
  pub wide : int_count c.scope ≤ i
  pub early : from ≤ i

-- no reference is at hand but those of variables
abbrev pub IsBare : Label → Type 0
IsBare l = ((q : ℕ) → l.same q ≡ q) × ((q : ℕ) → l.known q ≡ true → ⊥) × ((j q : ℕ) → HasBase (l.ints j) q → ⊥)

-- the first cell of what has this type
pub record FirstCell (z : Setting) (s : StaticType) (content : Content) : Type 0 where
  pub some : 0 < cells_of z.targets s.target
  pub holds : (field_at z.targets s.target 0).holds ≡ content

-- an integer of one width is one of another
abbrev pub Widens : Width → Width → Type 0
Widens v w = LessNumber (Within v) (Within w)

-- the first registers behind those of arguments, which are free
abbrev pub ints_behind : Context → Arguments → ℕ → ℕ
ints_behind c no_arguments i = i
ints_behind c (argument a rest) i = ints_behind c rest (behind_int (is_ref c a) i)

abbrev pub refs_behind : Context → Arguments → ℕ → ℕ
refs_behind c no_arguments r = r
refs_behind c (argument a rest) r = refs_behind c rest (behind_ref (is_ref c a) r)

pub record AreFree (c : Context) (all : Arguments) (i r : ℕ) (l : Label) : Type 0 where
  pub references : (q : ℕ) → refs_behind c all r ≤ q → l.env q ≡ Empty
  pub integers : (j : ℕ) → ints_behind c all i ≤ j → l.ints j ≡ Anything

module _ (z : Setting) (f : ℕ) (y : Typing) where
  -- a type of an expression names constants that stand
  abbrev pub IsTypeIn : Context → StaticType → Type 0
  IsTypeIn c s = IsNamed (y.named c) (ref_count c.scope) s

  -- an expression that is no value
  abbrev pub IsVoid : Context → Expression → Type 0
  IsVoid c e = (is_ref c e ≡ false) × (is_integer (kind_of c e) ≡ false)

  abbrev pub IsNumber : Context → Expression → Type 0
  IsNumber c e = (is_ref c e ≡ false) × (is_integer (kind_of c e) ≡ true)

  -- a pointer that is no NULL
  abbrev pub IsPointer : Context → Expression → Type 0
  IsPointer c e =
      (is_ref c e ≡ true) × (y.entry c e ≡ Refers (type_by (y.entry c e))) × IsTypeIn c (type_by (y.entry c e))

  -- ---- what lvalues name
  abbrev pub ground_of : Context → Expression → Ground
  ground_of c (parentheses s a) = ground_of c a
  ground_of c (index s a n) = record {
    base = if is_array (kind_of c a) then no_type else type_by (y.entry c a);
    pointer = if is_array (kind_of c a) then None else Some a;
    count = element_cells c.program.typed (element_kind (kind_of c a));
    elements = global_elements (global_at c.program.typed (global_of (target c.program.typed None a)));
  }
  ground_of c (field s a Dot n) = ground_of c a
  ground_of c (field s a Arrow n) = record { base = type_by (y.entry c a); pointer = Some a; count = 0; elements = 0 }
  ground_of c (unary s Dereference a) =
      record { base = type_by (y.entry c a); pointer = Some a; count = 0; elements = 0 }
  ground_of c e = record { base = no_type; pointer = None; count = 0; elements = 0 }

  -- the value of a cell, which is read at this site
  abbrev pub CellTyped : Context → Expression → Site → Target → Bool → Type 0
  CellTyped c e site t true = (s : StaticType) × (y.entry c e ≡ Refers s) × IsTypeIn c s
      × ReferenceTyped z y c f t (guard_of c e) (ground_of c e) site (lvalue_in c e) (mode_of c e) false uses.Read s
  CellTyped c e site t false = (is_integer (kind_of c e) ≡ true) × IntegerTyped z y c f t (guard_of c e)
      (ground_of c e) site (lvalue_in c e) (mode_of c e) false uses.Read (width_of (kind_of c e))

  abbrev pub ValueTyped : Context → Expression → Site → Type 0
  ValueTyped c e site = (is_cell (target_of c e) ≡ true) × CellTyped c e site (target_of c e) (is_ref c e)

  -- ---- names and constants
  abbrev pub VariableTyped : Context → Expression → Register → Type 0
  VariableTyped c e (Int j) = IsNumber c e × (j < int_count c.scope) × (y.width c j ≡ width_of (kind_of c e))
  VariableTyped c e (Reference q) = (is_ref c e ≡ true) × (q < ref_count c.scope)
      × (y.entry c e ≡ Refers (y.pointer c q)) × IsTypeIn c (y.pointer c q)

  abbrev pub NameTyped : Context → Expression → Site → Named → Type 0
  NameTyped c e site (named.Variable x) = VariableTyped c e (register_of c.scope x)
  NameTyped c e site (named.Global g) = CellTyped c e site (in_global g 0) (is_ref c e)
  NameTyped c e site _ = IsVoid c e

  abbrev pub ConstantTyped : Context → Expression → Constant → Bool → Type 0
  ConstantTyped c e k true = y.entry c e ≡ Empty
  ConstantTyped c e k false =
      (is_integer (kind_of c e) ≡ true) × LessNumber (Exactly (constant_value k)) (Within (width_of (kind_of c e)))

  -- ---- operators
  abbrev pub UnaryTyped : Context → Expression → UnaryOperator → Expression → Type 0
  UnaryTyped c e Negate a = IsNumber c a × IsNumber c e × IsWide (width_of (promoted (kind_of c a)))
      × Widens (width_of (promoted (kind_of c a))) (width_of (kind_of c e))
  UnaryTyped c e Not a = IsNumber c e
  UnaryTyped c e Complement a = IsNumber c a × IsNumber c e × Widens (width_of (kind_of c a)) (width_of (kind_of c e))
  UnaryTyped c e Dereference a = IsPointer c a

  abbrev pub result_of : Context → BinaryOperator → Expression → Expression → Width
  result_of c o a b = width_of (binary_result (class_of o) (kind_of c a) (kind_of c b))

  -- an operator on two integers
  pub record IntegersTyped (c : Context) (e : Expression) (o : BinaryOperator) (a b : Expression) : Type 0 where
    pub left : IsNumber c a
    pub right : IsNumber c b
    pub wide : IsWide (result_of c o a b)
    pub first : is_comparison (operator_of o) ≡ false → Widens (width_of (kind_of c a)) (result_of c o a b)
    pub second : is_shift (operator_of o) ≡ false → is_comparison (operator_of o) ≡ false
        → Widens (width_of (kind_of c b)) (result_of c o a b)
    pub result : Widens (result_of c o a b) (width_of (kind_of c e))

  -- a comparison of two references, or of two integers
  abbrev pub ComparedTyped : Context → Expression → BinaryOperator → Expression → Expression → Bool → Type 0
  ComparedTyped c e o a b true = is_ref c b ≡ true
  ComparedTyped c e o a b false = IntegersTyped c e o a b

  abbrev pub BinaryTyped : Context → Expression → BinaryOperator → Expression → Expression → Type 0
  BinaryTyped c e LogicalOr a b = IsNumber c e
  BinaryTyped c e LogicalAnd a b = IsNumber c e
  BinaryTyped c e o a b = IsNumber c e × ComparedTyped c e o a b (is_ref c a)

  -- a value of any kind
  abbrev pub HasType : Context → Expression → Type 0
  HasType c e = (is_ref c e ≡ true → (s : StaticType) × GoesTo (y.entry c e) s × IsTypeIn c s)
      × (is_ref c e ≡ false → is_integer (kind_of c e) ≡ true)

  -- the fields of an element that are accessed are fields of it, and a pointer's element has the cells of its target
  abbrev pub AreFields : ℕ → ℕ → Option ℕ → Type 0
  AreFields count n None = n < count
  AreFields count n (Some mutex) = (n < count) × (mutex < count)

  abbrev pub ElementTyped : Context → Expression → ℕ → Option ℕ → Type 0
  ElementTyped c a n guard = AreFields (element_cells c.program.typed (element_kind (kind_of c a))) n guard

  -- `a[n]`, by what is asked of `a` as an array and as a pointer, and of `n`
  abbrev pub IndexTypable : Context → Option ℕ → Option ℕ → Expression → Expression → Type 0 → Type 0 → Type 0 → Type 0
  IndexTypable c own guard a n of_array of_pointer of_number = Either (is_array (kind_of c a))
      (of_array × (target c.program.typed None a ≡ in_global (global_of (target c.program.typed None a)) 0))
      (of_pointer × IsPointer c a × (element_cells c.program.typed (element_kind (kind_of c a))
      ≡ cells_of z.targets (type_by (y.entry c a)).target))
      × of_number × IsNumber c n × ElementTyped c a (own_field own 0) guard

  abbrev pub FieldTypable : Context → FieldOperator → Expression → Type 0 → Type 0 → Type 0
  FieldTypable c Dot a of_base of_pointer = of_base
  FieldTypable c Arrow a of_base of_pointer = of_pointer × IsPointer c a

  -- ---- what is taken away
  -- the reference of a cell, or of a variable that types do not name
  abbrev pub VariableTakes : Context → StaticType → Register → Type 0
  VariableTakes c s (Int j) = ⊥
  VariableTakes c s (Reference q) = (q < ref_count c.scope) × (y.pointer c q ≡ s) × (y.named c q ≡ false)

  abbrev pub Takes : Context → Expression → Use → StaticType → Target → Type 0
  Takes c a use_made s (variable x) = VariableTakes c s (register_of c.scope x)
  Takes c a use_made s t = ReferenceTyped z y c f t (guard_of c a) (ground_of c a) (span_of a).first (lvalue_in c a)
      (mode_of c a) true use_made s

  -- it has this type
  pub record TakeTyped (c : Context) (a : Expression) (use_made : Use) (s : StaticType) : Type 0 where
    pub type : IsTypeIn c s
    pub takes : Takes c a use_made s (target_of c a)

  -- it is given another type
  pub record CastTyped (c : Context) (e a : Expression) : Type 0 where
    pub before : StaticType
    pub given : StaticType
    pub take : TakeTyped c a (uses.Cast None) before
    pub reference : is_ref c e ≡ true
    pub entry : y.entry c e ≡ Refers given
    pub type : IsTypeIn c given
    pub size : element_cells c.program.typed (element_kind (kind_of c a)) ≡ cells_of z.targets before.target
    pub recasts : (r : ℕ) (l : Label) → HoldsVariables y c l → l.env r ≡ Refers before
        → Recasts z.targets l r before given

  -- or freed
  pub record FreeTyped (c : Context) (a : Expression) : Type 0 where
    pub before : StaticType
    pub take : TakeTyped c a (uses.Free None) before
    pub laid : IsLayout z.targets z.code
        (layout_of (structs_in c.program.typed.program.items) (element_kind (kind_of c a))) before.target

  -- `lock(a)`, `unlock(a)` and `free(a)`, by what is asked of `a` as an lvalue with this guard
  abbrev pub PlaceCallTypable : Context → PlaceCall → Expression → (Option ℕ → Type 0) → Type 0
  PlaceCallTypable c Lock a of_place =
      of_place None × (is_cell (target_of c a) ≡ true) × MutexTyped z y c f (target_of c a) None (ground_of c a)
  PlaceCallTypable c Unlock a of_place =
      of_place None × (is_cell (target_of c a) ≡ true) × MutexTyped z y c f (target_of c a) None (ground_of c a)
  PlaceCallTypable c Free a of_place = of_place (guard_of c a) × FreeTyped c a

  -- ---- calls
  -- What is passed is in its registers: references of these types, and integers that parameters of these types hold.
  abbrev pub ArgumentAt : Context → List Kind → Expression → Bool → StaticType → ℕ → ℕ → Label → Type 0
  ArgumentAt c kinds a true s i r l = (l.env r ≡ Refers s) × IsCopyOf y c a (l.same r)
  ArgumentAt c [] a false s i r l = Unit {0}
  ArgumentAt c (kind ∷ kinds) a false s i r l = l.ints i ≡ Within (width_of kind)

  abbrev pub ArgumentsAt : Context → List Kind → (ℕ → StaticType) → Arguments → ℕ → ℕ → Label → Type 0
  ArgumentsAt c kinds wants no_arguments i r l = Unit {0}
  ArgumentsAt c kinds wants (argument a rest) i r l = ArgumentAt c kinds a (is_ref c a) (wants 0) i r l
      × ArgumentsAt c (drop 1 kinds) (λ n. wants (n + 1)) rest (behind_int (is_ref c a) i) (behind_ref (is_ref c a) r) l

  -- what the function gives, where there is a value
  abbrev pub ResultTyped : Context → Expression → ℕ → Bool → Bool → Type 0
  ResultTyped c e g true integer =
      (s : StaticType) × (y.entry c e ≡ Refers s) × IsTypeIn c s × ((z.signature g).result ≡ Refers s)
  ResultTyped c e g false true = ((z.signature g).result ≡ Empty) × IsPlain (z.signature g).result_int
      × LessNumber (z.signature g).result_int (Within (width_of (kind_of c e)))
  ResultTyped c e g false false = (z.signature g).result ≡ Empty

  pub record CallTyped (c : Context) (e : Expression) (g : ℕ) (kinds : List Kind) (wants : ℕ → StaticType)
      (all : Arguments) : Type 0 where
    pub is : g < length z.code.functions.items
    pub alone : (z.signature g).alone ≡ true → (z.signature f).alone ≡ true
    pub passes : (i r : ℕ) (l : Label) → HoldsVariables y c l → ArgumentsAt c kinds wants all i r l
        → AreFree c all i r l → (p : ℕ) → Passes l r (r + p) (l.env (r + p)) ((z.signature g).takes p)
    pub numbers : (i r : ℕ) (l : Label) → HoldsVariables y c l → ArgumentsAt c kinds wants all i r l
        → AreFree c all i r l → (j : ℕ) → LessNumber (l.ints (i + j)) ((z.signature g).takes_ints j)
    pub result : ResultTyped c e g (is_ref c e) (is_integer (kind_of c e))

  -- an argument goes to its parameter
  abbrev pub HasNoWidth : List Kind → Type 0
  HasNoWidth [] = Unit {0}
  HasNoWidth (kind ∷ kinds) = is_integer kind ≡ false

  abbrev pub Goes : Context → List Kind → Expression → Bool → StaticType → Type 0
  Goes c kinds a true s = GoesTo (y.entry c a) s × IsTypeIn c s × HasNoWidth kinds
  Goes c [] a false s = ⊥
  Goes c (kind ∷ kinds) a false s = (is_integer (kind_of c a) ≡ true) × (is_integer kind ≡ true)

  -- what a thread is handed: an integer, or a reference whose type names no register and that is not private
  abbrev pub Handed : Context → List Kind → Expression → ℕ → Bool → Type 0
  Handed c kinds a g true = (s : StaticType) × GoesTo (y.entry c a) s × IsTypeIn c s × HasNoWidth kinds
      × ((function_of z.code g).parameter ≡ parameters.Reference)
      × ((q : ℕ) → EntryMentions ((z.signature g).takes 0) q → ⊥)
      × ((r : ℕ) (l : Label) → Passes l r r (Refers s) ((z.signature g).takes 0))
      × IsShared z.targets ((z.signature g).takes 0)
  Handed c [] a g false = ⊥
  Handed c (kind ∷ kinds) a g false =
      (is_integer (kind_of c a) ≡ true) × (is_integer kind ≡ true) × ((function_of z.code g).parameter ≡ parameters.Int)
      × LessNumber (Within (width_of kind)) ((z.signature g).takes_ints 0)

  pub record SpawnTyped (c : Context) (a : Expression) (g : ℕ) (kinds : List Kind) : Type 0 where
    pub is : g < length z.code.functions.items
    pub starts : z.starts g ≡ true
    pub shared : (z.signature g).alone ≡ false
    pub handed : Handed c kinds a g (is_ref c a)

  -- one reference is passed, or two
  abbrev pub IsOne : Context → Arguments → Type 0
  IsOne c (argument a no_arguments) = is_ref c a ≡ true
  IsOne c _ = ⊥

  abbrev pub AreTwo : Context → Arguments → Type 0
  AreTwo c (argument a (argument b no_arguments)) = (is_ref c a ≡ true) × (is_ref c b ≡ true)
  AreTwo c _ = ⊥

  -- a condition variable, and a mutex where a thread waits
  abbrev pub ConditionTyped : Context → List ℕ → (ℕ → StaticType) → Arguments → Type 0
  ConditionTyped c name wants all = Either (bytes_eq name (codes "wait")) (AreTwo c all × FirstCell z (wants 0) Waiters
      × FirstCell z (wants 1) MutexWord) (IsOne c all × FirstCell z (wants 0) Waiters)

  -- by what is asked of the arguments
  abbrev pub CallTypable : Context → Expression → Named → List ℕ → Arguments → (List Kind → (ℕ → StaticType) → Type 0)
      → Type 0
  CallTypable c e (named.Function g) name all of_arguments = (wants : ℕ → StaticType)
      × of_arguments (declared_kinds (parameters_named c.program.typed (named.Function g))) wants
      × CallTyped c e g (declared_kinds (parameters_named c.program.typed (named.Function g))) wants all
  CallTypable c e named.Known name all of_arguments =
      (wants : ℕ → StaticType) × of_arguments (declared_kinds (parameters_named c.program.typed named.Known)) wants
      × IsVoid c e × ConditionTyped c name wants all
  CallTypable c e _ name all of_arguments = ⊥

  abbrev mutual
    pub IsTypable : Context → Expression → Type 0
    IsTypable c (identifier s x) = NameTyped c (identifier s x) x.site (what_names c x.site.token)
    IsTypable c (constant s k) = ConstantTyped c (constant s k) k (is_ref c (constant s k))
    IsTypable c (parentheses s a) = IsTypable c a × (y.entry c (parentheses s a) ≡ y.entry c a)
    IsTypable c (call s x all) = CallTypable c (call s x all) (what_names c x.site.token) x.text all
        (λ kinds wants. AreTypable c kinds wants all)
    IsTypable c (spawn s x a) =
        IsTypable c a × IsNumber c (spawn s x a) × SpawnTyped c a (number_named (what_names c x.site.token))
        (declared_kinds (parameters_named c.program.typed (what_names c x.site.token)))
    IsTypable c (on_value s w a) = IsTypable c a × IsNumber c a
    IsTypable c (on_place s w a) = PlaceCallTypable c w a (λ guard. IsPlaceTypable c None guard a)
    IsTypable c (cast s t a) = IsPlaceTypable c None (guard_of c a) a × CastTyped c (cast s t a) a
    IsTypable c (index s a n) = IndexTypable c None (guard_of c (index s a n)) a n (IsPlaceTypable c None None a)
        (IsTypable c a) (IsTypable c n) × ValueTyped c (index s a n) s.first
    IsTypable c (field s a w n) =
        FieldTypable c w a (IsPlaceTypable c (Some (field_place_named c.program.typed (what_names c n.site.token)))
        (guard_of c (field s a w n)) a) (IsTypable c a) × ValueTyped c (field s a w n) s.first
    IsTypable c (unary s Dereference a) = IsTypable c a × IsPointer c a × ValueTyped c (unary s Dereference a) s.first
    IsTypable c (unary s o a) = IsTypable c a × HasType c a × UnaryTyped c (unary s o a) o a
    IsTypable c (binary s o at a b) =
        IsTypable c a × HasType c a × IsTypable c b × HasType c b × BinaryTyped c (binary s o at a b) o a b

    -- an lvalue of which this field is accessed, with a guard in that field of the same element
    pub IsPlaceTypable : Context → Option ℕ → Option ℕ → Expression → Type 0
    IsPlaceTypable c own guard (identifier s x) = Unit {0}
    IsPlaceTypable c own guard (parentheses s a) = IsPlaceTypable c own guard a
    IsPlaceTypable c own guard (index s a n) =
        IndexTypable c own guard a n (IsPlaceTypable c None None a) (IsTypable c a) (IsTypable c n)
    IsPlaceTypable c own guard (field s a w n) = FieldTypable c w a (IsPlaceTypable c
        (Some (own_field own (field_place_named c.program.typed (what_names c n.site.token)))) guard a) (IsTypable c a)
    IsPlaceTypable c own guard (unary s Dereference a) = IsTypable c a × IsPointer c a
    IsPlaceTypable c own guard _ = Unit {0}

    pub AreTypable : Context → List Kind → (ℕ → StaticType) → Arguments → Type 0
    AreTypable c kinds wants no_arguments = Unit {0}
    AreTypable c kinds wants (argument a rest) =
        IsTypable c a × Goes c kinds a (is_ref c a) (wants 0) × AreTypable c (drop 1 kinds) (λ n. wants (n + 1)) rest
