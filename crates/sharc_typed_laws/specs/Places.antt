-- What is known of a frame where so many of its registers are taken.
use Rattle.std.specs.Prelude.{ℕ, ◌≡◌, ◌≢◌, ◌<◌, ◌≤◌, Bool, true, false, []}
use Rattle.sharc_code.specs.declared.instr.Cell.{Cell}
use Rattle.sharc_flat.specs.declared.op.Spot.{Spot}
use Rattle.sharc_invariant.specs.Types.{StaticType, Field, Mentions}
use Rattle.sharc_invariant.specs.Labels.{Empty, Number, Anything, Exactly, Within, Indexes, OfElement, OfGlobal, Closed}
use Rattle.sharc_invariant.specs.Labels.{Label, EntryMentions, HasBase}
use Rattle.sharc_invariant.specs.Typed.{HasCell, IsMode}
use Rattle.sharc_typed_laws.specs.{Inside.lock_of, Lines.MayPass, Stretches.{Mark, Setting, labels_by}}

-- Integer registers are free from the first number on, reference registers from the second one on. Those below hold
-- something, and what types name are constants, which stand among the first ones.
pub record RegistersStand (named : ℕ → Bool) (ints refs : ℕ) (l : Label) : Type 0 where
  pub closed : l.gate ≡ Closed
  pub free : (q : ℕ) → refs ≤ q → l.env q ≡ Empty
  pub full : (q : ℕ) → q < refs → l.env q ≢ Empty
  pub alone : (q : ℕ) → refs ≤ q → l.same q ≡ q
  pub copies : (q : ℕ) → q < refs → l.same q < refs
  pub known : (q : ℕ) → l.known q ≡ true → q < refs
  pub paths : (q p : ℕ) → EntryMentions (l.env q) p → (p < refs) × (named p ≡ true)
  pub numbers : (i : ℕ) → ints ≤ i → l.ints i ≡ Anything
  pub bases : (i q : ℕ) → HasBase (l.ints i) q → q < refs
  pub nothing_passed : l.passed ≡ []
  pub no_room : l.room ≡ false

-- types that name constants alone
abbrev pub IsNamed : (ℕ → Bool) → ℕ → StaticType → Type 0
IsNamed named refs s = (p : ℕ) → Mentions s p → (p < refs) × (named p ≡ true)

-- a number that is that of a value
abbrev pub IsPlain : Number → Type 0
IsPlain Anything = Unit {0}
IsPlain (Exactly z) = Unit {0}
IsPlain (Within w) = Unit {0}
IsPlain (Indexes n) = ⊥
IsPlain (OfElement base field e) = ⊥
IsPlain (OfGlobal first count elements e) = ⊥

-- constants stand among the first registers
abbrev pub AreLow : (ℕ → Bool) → ℕ → Type 0
AreLow named top = (p : ℕ) → named p ≡ true → p < top

abbrev pub no_type : StaticType
no_type = record { target = 0; locks = [] }

-- what is said where integer registers from the first number up to the second hold numbers of values at hand
abbrev pub mark : Label → ℕ → ℕ → Mark
mark l from until = record { label = l; replaced = no_type; from = from; until = until }

-- ---- accesses
-- an access to a cell of this field that is typed where its check is made
pub record MayReach (z : Setting) (l : Label) (write : Bool) (c : Cell) (spot : Spot) (f : Field) : Type 0 where
  pub cell : HasCell z.targets z.code l c f
  pub mode : IsMode z.code l c f.mode spot.mode
  pub may :
      MayPass z.targets z.code (labels_by z (λ n. mark l 0 0)) false l write c (lock_of spot spot.mode) f.holds f.mode
