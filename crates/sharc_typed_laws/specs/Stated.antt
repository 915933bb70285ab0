-- What the types of a source have to say of an assignment, so that its code is typed.
use Rattle.std.specs.Prelude.{ℕ, ◌≡◌, ◌≢◌, ◌<◌, ◌≤◌, Bool, true, false, length, Option, Some, None}
use Rattle.sharc_tree.specs.{Spans.span_of, Tree.{Expression, Right, value, malloc, Simple, assign, does_call}}
use Rattle.sharc_names.specs.Kinds.{Kind, is_integer, declared_kind}
use Rattle.sharc_code.specs.declared.code.Use.TheVariants as uses
use Rattle.sharc_code.specs.{declared.instr.Register.Register, declared.instr.Register.TheVariants.{Int, Reference}}
use Rattle.sharc_meaning.specs.{Cells.element_cells, State.is_reference}
use Rattle.sharc_flat.specs.{Scope.{Context, int_count, ref_count, register_of}, Places.{Target, variable, width_of}}
use Rattle.sharc_flat.specs.Flattened.{kind_of, is_ref, target_of, mode_of, lvalue_in, guard_of}
use Rattle.sharc_invariant.specs.Types.{StaticType, cells_of}
use Rattle.sharc_typed_laws.specs.{Lines.PointersMadeAt, Stretches.Setting}
use Rattle.sharc_typed_laws.specs.Premises.{Typing, IntegerTyped, ReferenceTyped}
use Rattle.sharc_typed_laws.specs.Typable.{GoesTo, IsTypeIn, IsNumber, ground_of, IsTypable, IsPlaceTypable}

module _ (z : Setting) (f : ℕ) (y : Typing) where
  -- a new object has a row, and cells, and its pointers are pointers of what is made at this token
  pub record IsMade (s : StaticType) (token size : ℕ) : Type 0 where
    pub some : s.target ≢ 0
    pub row : s.target < length z.targets.rows
    pub cells : size ≡ cells_of z.targets s.target
    pub few : 1 ≤ size
    pub pointers : PointersMadeAt z.targets token s.target

  abbrev pub CountTypable : Context → Option Expression → Type 0
  CountTypable c None = Unit {0}
  CountTypable c (Some n) = IsTypable z f y c n × IsNumber z f y c n

  -- a value goes to something of this kind, and, if that is a pointer, of this type
  abbrev pub ValueGoes : Context → Kind → StaticType → Expression → Bool → Type 0
  ValueGoes c kind s e true = IsTypable z f y c e × (is_ref c e ≡ true) × (is_integer kind ≡ false)
      × GoesTo (y.entry c e) s × IsTypeIn z f y c s
  ValueGoes c kind s e false = IsTypable z f y c e × IsNumber z f y c e × (is_integer kind ≡ true)

  abbrev pub RightTypable : Context → Kind → StaticType → Right → Type 0
  RightTypable c kind s (value e) = ValueGoes c kind s e (is_reference kind)
  RightTypable c kind s (malloc span n w) = (is_reference kind ≡ true) × IsTypeIn z f y c s
      × IsMade s span.first.token (element_cells c.program.typed (declared_kind w)) × CountTypable c n

  -- what is assigned to, of this kind and of this type
  abbrev pub VariableAssigned : Context → Kind → StaticType → Register → Type 0
  VariableAssigned c kind s (Int j) =
      (is_reference kind ≡ false) × (j < int_count c.scope) × (y.width c j ≡ width_of kind)
  VariableAssigned c kind s (Reference q) =
      (is_reference kind ≡ true) × (q < ref_count c.scope) × (y.pointer c q ≡ s) × (y.named c q ≡ false)

  abbrev pub CellAssigned : Context → Expression → StaticType → Target → Bool → Type 0
  CellAssigned c u s t true = ReferenceTyped z y c f t (guard_of c u) (ground_of z f y c u) (span_of u).first
      (lvalue_in c u) (mode_of c u) true uses.Write s
  CellAssigned c u s t false = IntegerTyped z y c f t (guard_of c u) (ground_of z f y c u) (span_of u).first
      (lvalue_in c u) (mode_of c u) true uses.Write (width_of (kind_of c u))

  abbrev pub Assigned : Context → Expression → StaticType → Target → Type 0
  Assigned c u s (variable x) = VariableAssigned c (kind_of c u) s (register_of c.scope x)
  Assigned c u s t = CellAssigned c u s t (is_ref c u)

  -- a value that is dropped
  abbrev pub Dropped : Context → Expression → Bool → Type 0
  Dropped c e true = (s : StaticType) × GoesTo (y.entry c e) s × IsTypeIn z f y c s
  Dropped c e false = Unit {0}

  abbrev pub SimpleTypable : Context → Simple → Type 0
  SimpleTypable c (assign span u x) = IsPlaceTypable z f y c None (guard_of c u) u
      × ((s : StaticType) × IsTypeIn z f y c s × Assigned c u s (target_of c u) × RightTypable c (kind_of c u) s x)
  SimpleTypable c (does_call e) = IsTypable z f y c e × Dropped c e (is_ref c e)
