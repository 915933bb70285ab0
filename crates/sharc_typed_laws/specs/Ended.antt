-- The ends of blocks: their variables are given up, of what names those no type is known any more, and what is known
-- behind them is what was known before them.
use Rattle.std.specs.Prelude.{ℕ, ◌+◌, ◌≡◌, ◌<◌, ◌≤◌, List}
use Rattle.sharc_flat.specs.{declared.slot.Slot.Slot, Scope.{Context, int_count, ref_count, pops}}
use Rattle.sharc_invariant.specs.Labels.{Label}
use Rattle.sharc_typed_laws.specs.{Stretches.{Setting, Way, LeadsAmong}, Places.AreLow, Premises.Typing}
use Rattle.sharc_typed_laws.specs.Declared.{StandsBefore, before}

-- These variables more stand in the second scope.
pub record Grows (y : Typing) (c d : Context) (slots : List Slot) : Type 0 where
  pub pointers : (q : ℕ) → q < ref_count c.scope → y.pointer d q ≡ y.pointer c q
  pub widths : (j : ℕ) → j < int_count c.scope → y.width d j ≡ y.width c j
  pub ints : int_count c.scope ≤ int_count d.scope
  pub refs : ref_count c.scope + ref_count slots ≡ ref_count d.scope

abbrev pub EndsAreTyped : Type 0
EndsAreTyped = (z : Setting) (f : ℕ) (ways : List Way) (y : Typing) (c d : Context) (slots : List Slot)
    → AreLow (y.named c) (ref_count c.scope) → Grows y c d slots
    → (l k : Label) → StandsBefore y c f l → StandsBefore y d f k
    → LeadsAmong z f ways (before d k) (pops (ref_count c.scope) slots) (before c l)
