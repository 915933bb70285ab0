-- The code of a typed, well-moded program with its least assignment: nothing else is asked of the program.
use Rattle.sharc_mode.specs.Moded.{Assignment}
use Rattle.sharc_code.specs.declared.code.Code.{Code}
use Rattle.sharc_flat.specs.{declared.flat.Flat.{Flat as FlatCode}, Made.flat_of, Flattens.Flattens, Laws.FitsMade}
use Rattle.sharc_flat_laws.specs.Typed.{IsTypedProgram}
use Rattle.sharc_compile.specs.Made.{IsCodeOf}
use Rattle.sharc_compile_laws.specs.Threads.{RunsTell}

-- the threads of its runs report what it asks for
abbrev pub TypedThreadsTell : Type 0
TypedThreadsTell = (m : Assignment) → IsTypedProgram m → (flat : FlatCode) → Flattens m flat → FitsMade (flat_of flat)
    → (code : Code) → IsCodeOf flat code → RunsTell m code
