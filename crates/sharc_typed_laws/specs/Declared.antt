-- What the types of a source have to say of a variable that is declared in a block, so that its code is typed.
use Rattle.std.specs.Prelude.{ℕ, ◌+◌, ◌≡◌, ◌<◌, Bool, true, false, List, Option, Some, None}
use Rattle.sharc_tree.specs.{declared.tree.declaration.Declaration.Declaration, Tree.{Right, Local}}
use Rattle.sharc_names.specs.Kinds.{declared_kind}
use Rattle.sharc_code.specs.declared.instr.Width.{Width}
use Rattle.sharc_meaning.specs.State.{is_reference}
use Rattle.sharc_flat.specs.{Scope.{Context, slot_kind, int_count, ref_count}, Places.width_of}
use Rattle.sharc_flat.specs.Flattened.{with_variable, local_code}
use Rattle.sharc_invariant.specs.{Types.StaticType, Labels.{Refers, Within, Label, fill, set_number}}
use Rattle.sharc_typed_laws.specs.{Stretches.{Mark, Setting, Way, LeadsAmong}, Places.{AreLow, mark}, Premises.Typing}
use Rattle.sharc_typed_laws.specs.{Typable.{IsBare, IsTypeIn, StandsIn}, Stated.RightTypable}

-- the variables that stood have the types that they had, and types name those constants of them that they named
pub record Keeps (y : Typing) (c d : Context) : Type 0 where
  pub pointers : (q : ℕ) → q < ref_count c.scope → y.pointer d q ≡ y.pointer c q
  pub widths : (j : ℕ) → j < int_count c.scope → y.width d j ≡ y.width c j
  pub names : (q : ℕ) → q < ref_count c.scope → y.named d q ≡ y.named c q

-- it takes the first free register of its bank
pub record BeginsReference (y : Typing) (c d : Context) (s : StaticType) : Type 0 where
  pub refs : ref_count d.scope ≡ ref_count c.scope + 1
  pub ints : int_count d.scope ≡ int_count c.scope
  pub pointer : y.pointer d (ref_count c.scope) ≡ s

pub record BeginsInteger (y : Typing) (c d : Context) (w : Width) : Type 0 where
  pub refs : ref_count d.scope ≡ ref_count c.scope
  pub ints : int_count d.scope ≡ int_count c.scope + 1
  pub width : y.width d (int_count c.scope) ≡ w

abbrev pub Begins : Typing → Context → Context → StaticType → Width → Bool → Type 0
Begins y c d s w true = BeginsReference y c d s
Begins y c d s w false = BeginsInteger y c d w

-- what is known with it
abbrev pub declared_label : Context → Label → StaticType → Width → Bool → Label
declared_label c l s w true = fill l (ref_count c.scope) (Refers s) (ref_count c.scope) false
declared_label c l s w false = set_number l (int_count c.scope) (Within w)

module _ (z : Setting) (f : ℕ) (y : Typing) where
  -- what it begins with, where it stands already
  abbrev pub InitialTypable : Context → Declaration → StaticType → Option Right → Type 0
  InitialTypable d declared s None = Unit {0}
  InitialTypable d declared s (Some x) = RightTypable z f y d (declared_kind declared.written) s x

  -- no variable that stands is declared at its token
  pub record LocalTypable (c : Context) (l : Local) (s : StaticType) : Type 0 where
    pub fresh : slot_kind c.scope l.declaration.name.site.token ≡ None
    pub keeps : Keeps y c (with_variable c l.declaration)
    pub begins : Begins y c (with_variable c l.declaration) s (width_of (declared_kind l.declaration.written))
        (is_reference (declared_kind l.declaration.written))
    pub type : IsTypeIn z f y c s
    pub again : IsTypeIn z f y (with_variable c l.declaration) s
    pub initial : InitialTypable (with_variable c l.declaration) l.declaration s l.initial

-- Before a statement the registers of the variables are taken, and no other; so it is behind a declaration, with one
-- more.
pub record StandsBefore (y : Typing) (c : Context) (f : ℕ) (l : Label) : Type 0 where
  pub stands : StandsIn y c f (int_count c.scope) (int_count c.scope) (ref_count c.scope) l
  pub bare : IsBare l

abbrev pub before : Context → Label → Mark
before c l = mark l (int_count c.scope) (int_count c.scope)

module _ (z : Setting) (f : ℕ) (ways : List Way) (y : Typing) (c : Context) (l : Label) (local : Local)
    (k : Label) where
  pub record LocalLeads : Type 0 where
    pub stands : StandsBefore y (with_variable c local.declaration) f k
    pub leads : LeadsAmong z f ways (before c l) (local_code c local) (before (with_variable c local.declaration) k)

abbrev pub LocalsAreTyped : Type 0
LocalsAreTyped = (z : Setting) (f : ℕ) (ways : List Way) (y : Typing) (c : Context)
    → AreLow (y.named c) (ref_count c.scope) → (l : Label) → StandsBefore y c f l → (local : Local) (s : StaticType)
    → AreLow (y.named (with_variable c local.declaration)) (ref_count (with_variable c local.declaration).scope)
    → LocalTypable z f y c local s
    → LocalLeads z f ways y c l local (declared_label c l s (width_of (declared_kind local.declaration.written))
    (is_reference (declared_kind local.declaration.written)))
