-- What the answers of the checker are to those who argue with them.
use Rattle.std.specs.Prelude.{◌≡◌, List}
use Rattle.sharc_mode.specs.{declared.error.ModeError.ModeError, Moded.Assignment}
use Rattle.sharc_check.specs.{Checks.AreAll, Orders.IsInOrder}

-- cases have one order
abbrev pub OneOrder : Type 0
OneOrder = (found a b : List ModeError) → IsInOrder found a → IsInOrder found b → a ≡ b

-- and a program has one list of all its cases in order
abbrev pub OneList : Type 0
OneList = (m : Assignment) (a b : List ModeError) → AreAll m a → AreAll m b → a ≡ b

pub record CheckLaws : Type 0 where
  pub order : OneOrder
  pub list : OneList
