-- In the code of a program a thread that has entered a condition unlocks a mutex next and then waits at the condition.
use Rattle.sharc_mode.specs.Moded.{Assignment}
use Rattle.sharc_code.specs.declared.code.Code.{Code}
use Rattle.sharc_flat.specs.{declared.flat.Flat.{Flat as FlatCode}, Flattens.Flattens}
use Rattle.sharc_compile.specs.Made.{IsCodeOf}
use Rattle.sharc_history_laws.specs.Waiters.{WaitsFollow}

abbrev pub CodeWaits : Type 0
CodeWaits = (m : Assignment) (flat : FlatCode) → Flattens m flat → (code : Code) → IsCodeOf flat code → WaitsFollow code
