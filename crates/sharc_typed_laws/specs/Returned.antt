-- What functions give back: returns, and the ends of functions. No variable stands there any more but the value.
use Rattle.std.specs.Prelude.{ℕ, ◌≡◌, Bool, true, false, List, ◌++◌, Option, Some, None}
use Rattle.sharc_tree.specs.{Spans.span_of, Tree.Expression}
use Rattle.sharc_names.specs.Kinds.{Kind, is_integer}
use Rattle.sharc_meaning.specs.State.{is_reference}
use Rattle.sharc_flat.specs.{declared.op.Op.Op, declared.op.Spot.Spot, Scope.{Context, int_count, ref_count, leaves}}
use Rattle.sharc_flat.specs.{Places.{width_of, width_code}, Flattened.{is_ref, expression_code, zero_code, result_code}}
use Rattle.sharc_flat.specs.declared.op.Op.TheVariants as op
use Rattle.sharc_invariant.specs.Types.{StaticType, Mentions}
use Rattle.sharc_invariant.specs.{Labels.{Empty, Refers, Anything, Within, Label, IsScoped}, Typed.{ints_in, refs_in}}
use Rattle.sharc_typed_laws.specs.{Stretches.{Mark, Setting, Way, IsLine, LeadsAmong}, Places.AreLow, Premises.Typing}
use Rattle.sharc_typed_laws.specs.{Typable.{GoesTo, IsNumber, IsTypable}, Declared.{StandsBefore, before}}
use Rattle.sharc_typed_laws.specs.Left.{AreNested}

module _ (z : Setting) (f : ℕ) (y : Typing) where
  -- a reference of a type that names no register, or an integer
  abbrev pub GivesBackBy : Kind → Bool → Type 0
  GivesBackBy kind true = (s : StaticType) × ((p : ℕ) → Mentions s p → ⊥) × ((z.signature f).result ≡ Refers s)
      × ((z.signature f).result_int ≡ Anything)
  GivesBackBy kind false = ((z.signature f).result ≡ Empty) × ((z.signature f).result_int ≡ Within (width_of kind))

  abbrev pub GivesBack : Kind → Type 0
  GivesBack kind = GivesBackBy kind (is_reference kind)

  -- the value of a return goes to the result's type
  abbrev pub ReturnedBy : Context → Kind → Expression → Bool → Type 0
  ReturnedBy c kind e true =
      (is_ref c e ≡ true) × ((s : StaticType) × GoesTo (y.entry c e) s × ((z.signature f).result ≡ Refers s))
  ReturnedBy c kind e false = IsNumber z f y c e × (is_integer kind ≡ true)

  abbrev pub ReturnTypable : Context → Kind → Option Expression → Type 0
  ReturnTypable c kind None = Unit {0}
  ReturnTypable c kind (Some e) = IsTypable z f y c e × ReturnedBy c kind e (is_reference kind)

-- code after which the function may be left, whatever comes next
pub record Returns (z : Setting) (f : ℕ) (ways : List Way) (s : Mark) (os : List Op) (spot : Spot) : Type 0 where
  pub mark : Mark
  pub leads : LeadsAmong z f ways s os mark
  pub returns : IsScoped (ints_in z.code (Some f)) (refs_in z.code (Some f)) mark.label
      → (table : ℕ → Mark) (pc : ℕ) → IsLine z f table pc mark (op.Return spot)

-- Where blocks are open up to a context without variables, NULL or 0 is given back,
abbrev pub NothingReturns : Type 0
NothingReturns = (z : Setting) (f : ℕ) (ways : List Way) (y : Typing) (c d : Context) (l k : Label)
    → AreLow (y.named c) (ref_count c.scope) → StandsBefore y c f l → (inside : List ℕ) → AreNested y f c l inside d k
    → int_count d.scope ≡ 0 → ref_count d.scope ≡ 0 → (kind : Kind) → GivesBack z f y kind
    → (spot : Spot) → Returns z f ways (before c l) (leaves c.scope inside ++ zero_code (is_reference kind) 0 0) spot

-- or a value, below which the variables are given up.
abbrev pub ValuesReturn : Type 0
ValuesReturn = (z : Setting) (f : ℕ) (ways : List Way) (y : Typing) (c d : Context) (l k : Label)
    → AreLow (y.named c) (ref_count c.scope) → StandsBefore y c f l → (inside : List ℕ) → AreNested y f c l inside d k
    → int_count d.scope ≡ 0 → ref_count d.scope ≡ 0 → (kind : Kind) → GivesBack z f y kind
    → (e : Expression) → ReturnTypable z f y c kind (Some e) → (spot : Spot)
    → Returns z f ways (before c l)
    (expression_code c (int_count c.scope) (ref_count c.scope) e
    ++ (width_code (int_count c.scope) kind (span_of e).first
    ++ (leaves c.scope inside ++ result_code (is_reference kind) (int_count c.scope) (ref_count c.scope)))) spot
