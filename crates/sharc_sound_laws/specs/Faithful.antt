-- What the code of an accepted program is to the program.
use Rattle.std.specs.Prelude.{ℕ, List}
use Rattle.sharc_mode.specs.Moded.{Assignment}
use Rattle.sharc_check.specs.Rules.{MeetsRules}
use Rattle.sharc_code.specs.declared.code.Code.{Code}
use Rattle.sharc_flat.specs.Correct.{MayStart}
use Rattle.sharc_compile_laws.specs.{Paths.{PathsTell, ThreadsTellInRuns}, Started.HasThread, Threads.RunsTell}
use Rattle.sharc_front_end.specs.{Compiled.IsCompiled, Front.IsFront}
use Rattle.sharc_build.specs.{declared.building.Built.Built, Built.IsBuilt}

-- Where the results of a path of a thread are consistent, the thread reports what the program asks for, stops where
-- that stops, or wants what is refused, at its site, and keeps the pace; so does each thread of a checked run, in any
-- interleaving. Where those of all threads of a run are, the events of each thread among those of all are what the
-- program asks for. All of this is said of a function that may be started, as `main` and what is spawned are.
pub record IsFaithful (m : Assignment) (code : Code) : Type 0 where
  pub paths : PathsTell m code
  pub threads : ThreadsTellInRuns m code
  pub runs : RunsTell m code
  pub started : (f : ℕ) → HasThread m f → MayStart m f

-- So is the code that a source is compiled to, if its modes are accepted,
abbrev pub CompiledIsFaithful : Type 0
CompiledIsFaithful = (source : List ℕ) (m : Assignment) (code : Code) → IsFront source m → MeetsRules m
    → IsCompiled m code → IsFaithful m code

-- as what `build` answers is.
abbrev pub BuiltIsFaithful : Type 0
BuiltIsFaithful = (source : List ℕ) (built : Built) → IsBuilt source built → IsFaithful built.checked built.code
