-- The code that a program with its modes is compiled to.
use Rattle.sharc_mode.specs.Moded.{Assignment}
use Rattle.sharc_code.specs.declared.code.Code.{Code}
use Rattle.sharc_flat.specs.{declared.flat.Flat.Flat, Made.flat_of, Flattens.Flattens, Laws.FitsMade}
use Rattle.sharc_compile.specs.Made.{IsCodeOf}

-- it is flattened; each access is checked and each reference counted; and each statement of that is an instruction
pub record IsCompiled (m : Assignment) (code : Code) : Type 0 where
  pub flat : Flat
  pub flattens : Flattens m flat
  pub fits : FitsMade (flat_of flat)
  pub coded : IsCodeOf flat code
