-- Warnings, function by function. It retraces the code.
use Rattle.std.specs.Prelude.{ℕ, List, Contains, ◌⊎◌}
use Rattle.sharc_tree.specs.Tree.{Function}
use Rattle.sharc_ctype.specs.Resolved.{Resolution}
use Rattle.sharc_dataflow.specs.{declared.way.FlowWarning.FlowWarning, Uses.{warning, HasWarning}}
use Rattle.sharc_live.specs.Uses.{IsUseAmong}

-- the warnings of these functions are added
pub record AddsAll (r : Resolution) (functions : List Function) (before after : List FlowWarning) : Type 0 where
  pub kept : (w : FlowWarning) → Contains before w → Contains after w
  pub only : (k read : ℕ) → Contains after (warning read k)
      → Contains before (warning read k) ⊎ IsUseAmong r functions k read
  pub all : (k read : ℕ) → IsUseAmong r functions k read → HasWarning after k read
