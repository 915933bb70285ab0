-- The functions of the code of a program are its functions: each has the place of its name, and the first one is
-- `main`.
use Rattle.std.specs.Prelude.{◌<◌, ℕ, length}
use Rattle.sharc_ctype.specs.Resolved.{function_at}
use Rattle.sharc_mode.specs.Moded.{Assignment}
use Rattle.sharc_meaning.specs.Runs.{IsNamedAt}
use Rattle.sharc_code.specs.{declared.code.Code.Code, Machine.function_of}
use Rattle.sharc_flat.specs.{declared.flat.Flat.{Flat as FlatCode}, Flattens.{Flattens, IsMainOf}}
use Rattle.sharc_compile.specs.Made.{IsCodeOf}

-- the function that a thread of the code begins with is that of this number in the source
abbrev pub FunctionsAreNamed : Type 0
FunctionsAreNamed = (m : Assignment) (flat : FlatCode) → Flattens m flat → (code : Code) → IsCodeOf flat code
    → (f : ℕ) → f < length code.functions.items → IsNamedAt (function_at m.typed f) (function_of code f).site

abbrev pub CodeHasMain : Type 0
CodeHasMain = (m : Assignment) (flat : FlatCode) → Flattens m flat
    → (code : Code) → IsCodeOf flat code → IsMainOf m code.main
