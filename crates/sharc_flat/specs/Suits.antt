-- What the theorem asks of a program: what its parts name is in scope where they are, and their types are as C11 has
-- them.
use Rattle.std.specs.Prelude.{◌≡◌, ℕ, Bool, true, false, List, [], ◌∷◌, ◌++◌, Option, Some, None, zero, suc, codes}
use Rattle.std.specs.Prelude.{if◌then◌else◌}
use Rattle.std.specs.Str.{bytes_eq}
use Rattle.sharc_tree.specs.declared.tree.declaration.Declaration.{Declaration}
use Rattle.sharc_tree.specs.declared.tree.expression.FieldOperator.{FieldOperator}
use Rattle.sharc_tree.specs.declared.tree.expression.FieldOperator.TheVariants.{Dot, Arrow}
use Rattle.sharc_tree.specs.declared.tree.expression.BinaryOperator.{BinaryOperator}
use Rattle.sharc_tree.specs.declared.tree.expression.BinaryOperator.TheVariants.{LogicalOr, LogicalAnd, Equal, NotEqual}
use Rattle.sharc_tree.specs.declared.tree.expression.PlaceCall.{PlaceCall}
use Rattle.sharc_tree.specs.declared.tree.expression.PlaceCall.TheVariants.{Lock, Unlock, Free}
use Rattle.sharc_tree.specs.declared.tree.expression.UnaryOperator.TheVariants.{Negate, Not, Complement, Dereference}
use Rattle.sharc_tree.specs.Tree.{Expression, identifier, constant, parentheses, call, spawn, on_value, on_place, cast}
use Rattle.sharc_tree.specs.Tree.{index, field, unary, binary, Arguments, no_arguments, argument, Right, value, malloc}
use Rattle.sharc_tree.specs.Tree.{Simple, assign, does_call, First, nothing, declares, does, Statement, empty, block}
use Rattle.sharc_tree.specs.Tree.{declare, simple, jump, return, if_then, if_then_else, while, for, Statements}
use Rattle.sharc_tree.specs.Tree.{no_statements, statement, Function}
use Rattle.sharc_names.specs.declared.fault.Named.{Named}
use Rattle.sharc_names.specs.Kinds.{Kind, is_integer, is_pointer, is_array, declared_kind, declared_kinds}
use Rattle.sharc_names.specs.declared.fault.Named.TheVariants as named
use Rattle.sharc_ctype.specs.{Resolved.{Resolution, named_at, kind_at, function_at}, Transfers.parameters_named}
use Rattle.sharc_mode.specs.{Cells.{cell_at, pointed}, Rows.{written, row_at, declared_row, cast_row}}
use Rattle.sharc_mode.specs.Sharings.{Sharing, locked}
use Rattle.sharc_meaning.specs.State.{is_reference}
use Rattle.sharc_flat.specs.{Scope.{slot_of, slot_kind, Context}, declared.slot.Slot.Slot}
use Rattle.sharc_flat.specs.Places.{Target, variable, in_global, target, global_of, guard_field}

-- the variables of a lock path are in scope
abbrev pub PathNamed : List Slot → Named → Option (List ℕ) → Type 0
PathNamed scope (named.Variable x) (Some m) = slot_kind scope x ≡ Some true
PathNamed scope _ m = Unit {0}

abbrev pub PathStands : Resolution → List Slot → Sharing → Type 0
PathStands r scope (locked l) = PathNamed scope (named_at r l.first) l.second
PathStands r scope _ = Unit {0}

abbrev pub is_cell : Target → Bool
is_cell (variable x) = false
is_cell _ = true

-- a value: a reference, or an integer
abbrev pub IsScalar : Kind → Type 0
IsScalar kind = is_reference kind ≡ false → is_integer kind ≡ true

-- a value of the second type goes to something of the first
abbrev pub Goes : Kind → Kind → Type 0
Goes want kind = (is_reference kind ≡ is_reference want) × (is_reference want ≡ false → is_integer kind ≡ true)
    × (is_integer want ≡ true → is_integer kind ≡ true)

-- to a parameter of this type
abbrev pub Passes : Kind → Kind → Type 0
Passes want kind = (is_reference kind ≡ is_pointer want) × (is_pointer want ≡ false → is_integer kind ≡ true)
    × (is_integer want ≡ true → is_integer kind ≡ true)

-- what a new thread is handed
abbrev pub HandsOn : List Kind → Kind → Type 0
HandsOn [] kind = IsScalar kind
HandsOn (want ∷ rest) kind = IsScalar kind × (is_integer want ≡ true → is_integer kind ≡ true)

abbrev pub kind_in : Context → Expression → Kind
kind_in c e = kind_at c.program.typed e

abbrev pub NameSuits : Context → Kind → Sharing → Named → Type 0
NameSuits c kind mode (named.Variable x) = slot_kind c.scope x ≡ Some (is_reference kind)
NameSuits c kind mode (named.Global g) =
    (guard_field c.program.typed mode ≡ None) × PathStands c.program.typed c.scope mode
NameSuits c kind mode _ = (is_reference kind ≡ false) × (is_integer kind ≡ false)

abbrev pub Either : Bool → Type 0 → Type 0 → Type 0
Either true A B = A
Either false A B = B

abbrev pub CallSuits : Context → Kind → Named → (List Kind → Type 0) → Type 0 → Type 0
CallSuits c kind (named.Function n) arguments known = (f : Function) × (function_at c.program.typed n ≡ Some f)
    × (kind ≡ declared_kind f.result) × arguments (declared_kinds f.parameters)
CallSuits c kind named.Known arguments known = known × (is_reference kind ≡ false) × (is_integer kind ≡ false)
CallSuits c kind _ arguments known = ⊥

-- `a[i]`, by what is asked of `a` as an array and as a pointer, and of `i`
abbrev pub IndexSuits : Context → Expression → Expression → Type 0 → Type 0 → Type 0 → Type 0
IndexSuits c a i of_array of_pointer of_number =
    Either (is_array (kind_in c a)) (of_array × (target c.program.typed None a
    ≡ in_global (global_of (target c.program.typed None a)) 0)) (of_pointer × (is_reference (kind_in c a) ≡ true))
    × of_number × (is_integer (kind_in c i) ≡ true)

abbrev pub FieldSuits : Context → FieldOperator → Expression → Type 0 → Type 0 → Type 0
FieldSuits c Dot a of_base of_pointer = of_base
FieldSuits c Arrow a of_base of_pointer = of_pointer × (is_reference (kind_in c a) ≡ true)

-- what is taken: a pointer variable's reference, or that of a cell
abbrev pub TakeSuits : Context → Sharing → Target → Type 0
TakeSuits c mode (variable x) = slot_kind c.scope x ≡ Some true
TakeSuits c mode _ = PathStands c.program.typed c.scope mode

abbrev pub PlaceCallSuits : Context → PlaceCall → Expression → Type 0
PlaceCallSuits c Lock a = is_cell (target c.program.typed None a) ≡ true
PlaceCallSuits c Unlock a = is_cell (target c.program.typed None a) ≡ true
PlaceCallSuits c Free a =
    TakeSuits c (cell_at c.program a) (target c.program.typed None a) × (is_reference (kind_in c a) ≡ true)

-- two that are compared: references, or integers
abbrev pub SameSort : Kind → Kind → Type 0
SameSort ka kb = Either (is_reference ka) (is_reference kb ≡ true) ((is_integer ka ≡ true) × (is_integer kb ≡ true))

-- the operands of an operator
abbrev pub OperandsSuit : BinaryOperator → Kind → Kind → Type 0
OperandsSuit LogicalOr ka kb = IsScalar ka × IsScalar kb
OperandsSuit LogicalAnd ka kb = IsScalar ka × IsScalar kb
OperandsSuit Equal ka kb = SameSort ka kb
OperandsSuit NotEqual ka kb = SameSort ka kb
OperandsSuit _ ka kb = (is_integer ka ≡ true) × (is_integer kb ≡ true)

abbrev mutual
  pub Suits : Context → Expression → Type 0
  Suits c (identifier s x) = NameSuits c (kind_in c (identifier s x)) (cell_at c.program (identifier s x))
      (named_at c.program.typed x.site.token)
  Suits c (constant s k) = Unit {0}
  Suits c (parentheses s a) = Suits c a
  Suits c (call s f all) = CallSuits c (kind_in c (call s f all)) (named_at c.program.typed f.site.token)
      (λ kinds. ArgumentsSuit c kinds all) (ReferencesSuit c (if bytes_eq f.text (codes "wait") then 2 else 1) all)
  Suits c (spawn s f a) = Suits c a × HandsOn
      (declared_kinds (parameters_named c.program.typed (named_at c.program.typed f.site.token))) (kind_in c a)
  Suits c (on_value s w a) = Suits c a × (is_integer (kind_in c a) ≡ true)
  Suits c (on_place s w a) = PlaceSuits c a × PlaceCallSuits c w a
  Suits c (cast s t a) = PlaceSuits c a × TakeSuits c (cell_at c.program a) (target c.program.typed None a)
      × (is_reference (kind_in c a) ≡ true) × (is_reference (declared_kind t) ≡ true)
      × PathStands c.program.typed c.scope (pointed c.program (Some (cast_row c.program.typed s)))
  Suits c (index s a i) = IndexSuits c a i (PlaceSuits c a) (Suits c a) (Suits c i)
      × PathStands c.program.typed c.scope (cell_at c.program (index s a i))
  Suits c (field s a w n) = FieldSuits c w a (PlaceSuits c a) (Suits c a)
      × PathStands c.program.typed c.scope (cell_at c.program (field s a w n))
      × (is_cell (target c.program.typed None (field s a w n)) ≡ true)
  Suits c (unary s Negate a) = Suits c a × (is_integer (kind_in c a) ≡ true)
  Suits c (unary s Not a) = Suits c a × IsScalar (kind_in c a)
  Suits c (unary s Complement a) = Suits c a × (is_integer (kind_in c a) ≡ true)
  Suits c (unary s Dereference a) = Suits c a × (is_reference (kind_in c a) ≡ true)
      × PathStands c.program.typed c.scope (cell_at c.program (unary s Dereference a))
  Suits c (binary s o at a b) = Suits c a × Suits c b × OperandsSuit o (kind_in c a) (kind_in c b)

  pub ArgumentsSuit : Context → List Kind → Arguments → Type 0
  ArgumentsSuit c [] no_arguments = Unit {0}
  ArgumentsSuit c [] (argument a rest) = ⊥
  ArgumentsSuit c (kind ∷ kinds) no_arguments = ⊥
  ArgumentsSuit c (kind ∷ kinds) (argument a rest) = Suits c a × Passes kind (kind_in c a) × ArgumentsSuit c kinds rest

  -- this many references
  pub ReferencesSuit : Context → ℕ → Arguments → Type 0
  ReferencesSuit c zero no_arguments = Unit {0}
  ReferencesSuit c zero (argument a rest) = ⊥
  ReferencesSuit c (suc n) no_arguments = ⊥
  ReferencesSuit c (suc n) (argument a rest) = Suits c a × (is_reference (kind_in c a) ≡ true) × ReferencesSuit c n rest

  pub PlaceSuits : Context → Expression → Type 0
  PlaceSuits c (identifier s x) = Unit {0}
  PlaceSuits c (parentheses s a) = PlaceSuits c a
  PlaceSuits c (index s a i) = IndexSuits c a i (PlaceSuits c a) (Suits c a) (Suits c i)
  PlaceSuits c (field s a w n) = FieldSuits c w a (PlaceSuits c a) (Suits c a)
  PlaceSuits c (unary s Dereference a) = Suits c a × (is_reference (kind_in c a) ≡ true)
  PlaceSuits c _ = Unit {0}

abbrev pub CountSuits : Context → Option Expression → Type 0
CountSuits c None = Unit {0}
CountSuits c (Some n) = Suits c n × (is_integer (kind_in c n) ≡ true)

-- for something of this type, the target of which has this mode
abbrev pub RightSuits : Context → Kind → Sharing → Right → Type 0
RightSuits c kind mode (value e) = Suits c e × Goes kind (kind_in c e)
RightSuits c kind mode (malloc s n w) =
    (is_reference kind ≡ true) × PathStands c.program.typed c.scope mode × CountSuits c n

-- what is assigned to: a variable in scope, or a cell
abbrev pub LeftSuits : Context → Kind → Sharing → Target → Type 0
LeftSuits c kind mode (variable x) = slot_kind c.scope x ≡ Some (is_reference kind)
LeftSuits c kind mode _ = (is_pointer kind ≡ is_reference kind) × PathStands c.program.typed c.scope mode

abbrev pub SimpleSuits : Context → Simple → Type 0
SimpleSuits c (assign s u x) =
    PlaceSuits c u × LeftSuits c (kind_in c u) (cell_at c.program u) (target c.program.typed None u)
    × RightSuits c (kind_in c u) (pointed c.program (row_at c.program.typed u)) x
SimpleSuits c (does_call e) = Suits c e

abbrev pub behind_declaration : Context → Declaration → Context
behind_declaration c d = record c { scope = c.scope ++ slot_of d ∷ [] }

abbrev pub InitialSuits : Context → Declaration → Option Right → Type 0
InitialSuits c d None = Unit {0}
InitialSuits c d (Some x) = RightSuits (behind_declaration c d) (declared_kind d.written)
    (pointed c.program (Some (declared_row c.program.typed written d.name.site.token))) x
    × (slot_kind (behind_declaration c d).scope d.name.site.token ≡ Some (is_reference (declared_kind d.written)))

abbrev pub FirstSuits : Context → First → Type 0
FirstSuits c nothing = Unit {0}
FirstSuits c (declares l) = InitialSuits c l.declaration l.initial
FirstSuits c (does x) = SimpleSuits c x

abbrev pub in_first : Context → First → Context
in_first c nothing = c
in_first c (declares l) = behind_declaration c l.declaration
in_first c (does x) = c

abbrev pub TestSuits : Context → Expression → Type 0
TestSuits c e = Suits c e × IsScalar (kind_in c e)

abbrev pub IfThere : {A : Type 0} → (A → Type 0) → Option A → Type 0
IfThere P None = Unit {0}
IfThere P (Some x) = P x

abbrev pub is_declaration : Statement → Bool
is_declaration (declare s l) = true
is_declaration _ = false

abbrev pub in_statement : Context → Statement → Context
in_statement c (declare s l) = behind_declaration c l.declaration
in_statement c _ = c

-- in a function with a result of this type, and in a loop or not
abbrev mutual
  pub StatementSuits : Context → Kind → Bool → Statement → Type 0
  StatementSuits c result in_loop (empty s) = Unit {0}
  StatementSuits c result in_loop (block s all) = StatementsSuit c result in_loop all
  StatementSuits c result in_loop (declare s l) = InitialSuits c l.declaration l.initial
  StatementSuits c result in_loop (simple s x) = SimpleSuits c x
  StatementSuits c result in_loop (jump s j) = in_loop ≡ true
  StatementSuits c result in_loop (return s e) = IfThere (λ e. Suits c e × Goes result (kind_in c e)) e
  StatementSuits c result in_loop (if_then s e a) =
      TestSuits c e × StatementSuits c result in_loop a × (is_declaration a ≡ false)
  StatementSuits c result in_loop (if_then_else s e a b) = TestSuits c e × StatementSuits c result in_loop a
      × StatementSuits c result in_loop b × (is_declaration a ≡ false) × (is_declaration b ≡ false)
  StatementSuits c result in_loop (while s e a) =
      TestSuits c e × StatementSuits c result true a × (is_declaration a ≡ false)
  StatementSuits c result in_loop (for s h a) = FirstSuits c h.first × IfThere (TestSuits (in_first c h.first)) h.test
      × IfThere (SimpleSuits (in_first c h.first)) h.step × StatementSuits (in_first c h.first) result true a
      × (is_declaration a ≡ false)

  pub StatementsSuit : Context → Kind → Bool → Statements → Type 0
  StatementsSuit c result in_loop no_statements = Unit {0}
  StatementsSuit c result in_loop (statement a rest) =
      StatementSuits c result in_loop a × StatementsSuit (in_statement c a) result in_loop rest
