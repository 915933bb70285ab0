-- The laws of flattened code: which stretches of it are typed, from what is said before them to what is said after
-- them.
use Rattle.std.specs.Prelude.{ℕ, ◌+◌, ◌≡◌, ◌<◌, ◌≤◌, ◌⊎◌, Bool, true, false, List, ◌++◌, length, slice_get, Some}
use Rattle.sharc_tree.specs.{declared.token.Site.Site, declared.tree.expression.BinaryOperator.BinaryOperator}
use Rattle.sharc_tree.specs.Tree.{Expression, Simple}
use Rattle.sharc_names.specs.Kinds.{is_integer}
use Rattle.sharc_code.specs.declared.instr.Width.TheVariants.{Char}
use Rattle.sharc_flat.specs.{declared.op.Op.Op, Machine.Flat, Places.{pointee_code, width_of}}
use Rattle.sharc_flat.specs.Flattened.{kind_of, is_ref, expression_code, simple_code, drop_code, truth_code}
use Rattle.sharc_flat.specs.Flattened.{compare_code, logical_code, either_code}
use Rattle.sharc_flat.specs.Scope.{Context, int_count, ref_count}
use Rattle.sharc_guard.specs.Known.{Access, access, known}
use Rattle.sharc_invariant.specs.Types.{StaticType}
use Rattle.sharc_invariant.specs.Labels.{Refers, Number, Within, Label, LessNumber, set_number, fill}
use Rattle.sharc_typed_laws.specs.Passes.{TypedAnyhow, Knows}
use Rattle.sharc_typed_laws.specs.Stretches.{Mark, Setting, Tells, IsLine, flat_labels, Way, LeadsAmong}
use Rattle.sharc_typed_laws.specs.{Places.{RegistersStand, IsNamed, IsPlain, AreLow, mark}, Premises.{Typing, IsCopyOf}}
use Rattle.sharc_typed_laws.specs.{Typable.{IsBare, GoesTo, StandsIn, HasType, IsTypable}, Stated.SimpleTypable}

-- ---- lines
-- each line of flat code is one of a function
abbrev pub AreAllLines : Setting → (ℕ → ℕ) → (ℕ → Mark) → Flat → Type 0
AreAllLines z owner table flat = (n : ℕ) (o : Op) → slice_get flat.lines n ≡ Some o
    → IsLine z (owner n) table n (table n) o

-- then each is typed whatever checks are remembered
abbrev pub LinesAreTyped : Type 0
LinesAreTyped = (z : Setting) (owner : ℕ → ℕ) (table : ℕ → Mark) (flat : Flat) → z.lines ≡ length flat.lines
    → AreAllLines z owner table flat
    → (n : ℕ) (o : Op) → slice_get flat.lines n ≡ Some o
    → TypedAnyhow z.targets z.code (flat_labels z table) (length flat.lines) n o

-- and before each is said what sharc_guard remembers there of copies and of the numbers at hand
abbrev pub LinesTell : Type 0
LinesTell = (z : Setting) (owner : ℕ → ℕ) (table : ℕ → Mark) (flat : Flat) → AreAllLines z owner table flat
    → (n : ℕ) → n < length flat.lines → Tells z.targets (known flat n) (table n)

-- so at each access what is known of its cell
abbrev pub LinesKnow : Type 0
LinesKnow = (z : Setting) (owner : ℕ → ℕ) (table : ℕ → Mark) (flat : Flat) → AreAllLines z owner table flat
    → (n : ℕ) (o : Op) (a : Access) → slice_get flat.lines n ≡ Some o → access o ≡ Some a
    → Knows z.targets (known flat n) (table n).label a.cell

-- ---- stretches
-- one after the other
abbrev pub StretchesJoin : Type 0
StretchesJoin = (z : Setting) (f : ℕ) (ways : List Way) (s m e : Mark) (xs ys : List Op) → LeadsAmong z f ways s xs m
    → LeadsAmong z f ways m ys e → LeadsAmong z f ways s (xs ++ ys) e

-- ---- parts of expressions
module _ (z : Setting) (f : ℕ) (ways : List Way) (named : ℕ → Bool) (top from i r : ℕ) (l : Label) where
  -- a reference becomes 0 where it is NULL, else another number
  abbrev pub TruthLeads : Type 0
  TruthLeads = (t : StaticType) (v : ℕ) (b : Bool) → IsNamed named r t → v ≤ r → LeadsAmong z f ways
      (mark (fill l r (Refers t) v b) from i) (truth_code true i r) (mark (set_number l i (Within Char)) from (i + 1))

  -- it is given up
  abbrev pub DropLeads : Type 0
  DropLeads = (t : StaticType) (v : ℕ) (b : Bool) → IsNamed named r t
      → LeadsAmong z f ways (mark (fill l r (Refers t) v b) from i) (drop_code true r) (mark l from i)

  -- two are compared
  abbrev pub ComparisonLeads : Type 0
  ComparisonLeads = (t s : StaticType) (v w : ℕ) (x y : Bool) → IsNamed named r t → IsNamed named r s → v ≤ r
      → ((w ≡ r + 1) ⊎ (w < r)) → (o : BinaryOperator)
      → LeadsAmong z f ways (mark (fill (fill l r (Refers t) v x) (r + 1) (Refers s) w y) from i) (compare_code o i r)
      (mark (set_number l i (Within Char)) from (i + 1))

  -- the second operand of && and of || is reached or not
  abbrev pub LogicalLeads : Type 0
  LogicalLeads = (xs ys : List Op) → LeadsAmong z f ways (mark l from i) xs (mark l from i)
      → LeadsAmong z f ways (mark l from i) ys (mark l from i)
      → LeadsAmong z f ways (mark l from i) (logical_code i xs ys) (mark (set_number l i (Within Char)) from (i + 1))

  abbrev pub EitherLeads : Type 0
  EitherLeads = (xs ys : List Op) → LeadsAmong z f ways (mark l from i) xs (mark l from i)
      → LeadsAmong z f ways (mark l from i) ys (mark l from i)
      → LeadsAmong z f ways (mark l from i) (either_code i xs ys) (mark (set_number l i (Within Char)) from (i + 1))

  -- a base is not NULL
  abbrev pub PointeeLeads : Type 0
  PointeeLeads = (t : StaticType) (v : ℕ) (b : Bool) → IsNamed named r t → v ≤ r
      → (s : Mark) (site : Site) (xs : List Op) → LeadsAmong z f ways s xs (mark (fill l r (Refers t) v b) from i)
      → LeadsAmong z f ways s (pointee_code r site xs) (mark (fill l r (Refers t) v true) from i)

  pub record PartsLead : Type 0 where
    pub truth : TruthLeads
    pub drop : DropLeads
    pub comparison : ComparisonLeads
    pub logical : LogicalLeads
    pub either : EitherLeads
    pub pointee : PointeeLeads

-- The parts of expressions that speak of no type of the source, where the first registers of a frame are taken.
abbrev pub PartsAreTyped : Type 0
PartsAreTyped = (z : Setting) (f : ℕ) (ways : List Way) (named : ℕ → Bool) (top from i r : ℕ) (l : Label)
    → AreLow named top → top ≤ r → RegistersStand named i r l → l.function ≡ Some f
    → PartsLead z f ways named top from i r l

-- ---- expressions
module _ (z : Setting) (f : ℕ) (ways : List Way) (y : Typing) (c : Context) (from i r : ℕ) (l : Label) (os : List Op)
    (e : Expression) where
  -- A reference of the type to which it goes comes to the first free register, and may be a copy of a variable's: that
  -- of a variable that types name is.
  pub record ReferenceComes (s : StaticType) : Type 0 where
    pub copy : ℕ
    pub of_variable : IsCopyOf y c e copy
    pub is : (copy ≡ r) ⊎ (copy < ref_count c.scope)
    pub leads : LeadsAmong z f ways (mark l from i) os (mark (fill l r (Refers s) copy false) from i)

  -- an integer of its width comes to the first free register, and its number may be known
  pub record NumberComes : Type 0 where
    pub number : Number
    pub plain : IsPlain number
    pub fits : LessNumber number (Within (width_of (kind_of c e)))
    pub leads : LeadsAmong z f ways (mark l from i) os (mark (set_number l i number) from (i + 1))

  -- by whether it is a reference, and else an integer
  abbrev pub ValueComes : Bool → Bool → Type 0
  ValueComes true integer = (s : StaticType) → GoesTo (y.entry c e) s → IsNamed (y.named c) (ref_count c.scope) s
      → ReferenceComes s
  ValueComes false true = NumberComes
  ValueComes false false = LeadsAmong z f ways (mark l from i) os (mark l from i)

-- The code of an expression of which the types say what is asked is typed, wherever it is, if nothing is at hand but
-- variables.
abbrev pub ExpressionsAreTyped : Type 0
ExpressionsAreTyped = (z : Setting) (f : ℕ) (ways : List Way) (y : Typing) (c : Context)
    → AreLow (y.named c) (ref_count c.scope) → (from i r : ℕ) (l : Label) → StandsIn y c f from i r l → IsBare l
    → (e : Expression) → IsTypable z f y c e
    → ValueComes z f ways y c from i r l (expression_code c i r e) e (is_ref c e) (is_integer (kind_of c e))

-- ---- simple statements
-- An assignment or a call of which the types say what is asked, where nothing is at hand.
abbrev pub SimplesAreTyped : Type 0
SimplesAreTyped = (z : Setting) (f : ℕ) (ways : List Way) (y : Typing) (c : Context)
    → AreLow (y.named c) (ref_count c.scope) → (from i r : ℕ) (l : Label) → StandsIn y c f from i r l → IsBare l
    → int_count c.scope ≤ from → (x : Simple) → SimpleTypable z f y c x
    → LeadsAmong z f ways (mark l from i) (simple_code c i r x) (mark l from i)

-- A test, whose value comes to the first free register.
abbrev pub TestsAreTyped : Type 0
TestsAreTyped = (z : Setting) (f : ℕ) (ways : List Way) (y : Typing) (c : Context)
    → AreLow (y.named c) (ref_count c.scope) → (from i r : ℕ) (l : Label) → StandsIn y c f from i r l → IsBare l
    → (e : Expression) → IsTypable z f y c e → HasType z f y c e
    → LeadsAmong z f ways (mark l from i) (expression_code c i r e ++ truth_code (is_ref c e) i r) (mark l from i)
