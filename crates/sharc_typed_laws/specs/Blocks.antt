-- Statements and blocks at a line.
use Rattle.std.specs.Prelude.{ℕ, ◌+◌, List, [], ◌∷◌, ◌++◌}
use Rattle.sharc_flat.specs.{declared.op.Op.Op, declared.slot.Slot.Slot, Scope.{Context, ref_count, pops}}
use Rattle.sharc_flat.specs.declared.op.Op.TheVariants as op
use Rattle.sharc_invariant.specs.Labels.{Label}
use Rattle.sharc_typed_laws.specs.{Stretches.{Mark, Setting, Way, LeadsAmong, LeadsFrom}, Places.AreLow}
use Rattle.sharc_typed_laws.specs.{Premises.Typing, Declared.{StandsBefore, before}, Ended.Grows}

module _ (z : Setting) (f : ℕ) (ways : List Way) (y : Typing) (c : Context) (l : Label) where
  -- code that is typed wherever it is
  abbrev pub AnywhereLeads : Type 0
  AnywhereLeads = (pc : ℕ) (s e : Mark) (os : List Op) → LeadsAmong z f ways s os e → LeadsFrom z f ways pc s os e

  -- a statement begins
  abbrev pub EnterLeads : Type 0
  EnterLeads = (pc : ℕ) (e : Mark) (os : List Op) → LeadsFrom z f ways (pc + 1) (before c l) os e
      → LeadsFrom z f ways pc (before c l) (op.Enter ∷ os) e

  -- a block, with the variables that it declares
  abbrev pub BlockLeads : Type 0
  BlockLeads = (pc : ℕ) (d : Context) (slots : List Slot) → Grows y c d slots → (k : Label) → StandsBefore y d f k
      → (os : List Op) → LeadsFrom z f ways (pc + 1) (before c l) os (before d k)
      → LeadsFrom z f ways pc (before c l)
      (op.Enter ∷ ((os ++ pops (ref_count c.scope) slots) ++ op.BlockEnd ∷ [])) (before c l)

  pub record BlocksLead : Type 0 where
    pub anywhere : AnywhereLeads
    pub enter : EnterLeads
    pub block : BlockLeads

abbrev pub BlocksAreTyped : Type 0
BlocksAreTyped = (z : Setting) (f : ℕ) (ways : List Way) (y : Typing) (c : Context)
    → AreLow (y.named c) (ref_count c.scope) → (l : Label) → StandsBefore y c f l → BlocksLead z f ways y c l
