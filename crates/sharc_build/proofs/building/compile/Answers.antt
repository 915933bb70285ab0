use Rattle.std.proofs.Common.{IfOk, Result, Ok, Err}
use Rattle.sharc_code.specs.{declared.code.Code.Code, Ranges.NumbersFit}
use Rattle.sharc_flat.specs.{Framed.IsFramed, Made.flat_of}
use Rattle.sharc_guard.specs.Tables.{FlatTablesFit}
use Rattle.sharc_compile.specs.Made.{IsCodeOf}
use Rattle.sharc_flat_laws.specs.Typed.{IsTypedProgram}
use Rattle.sharc_front_end.specs.Compiled.{IsCompiled}
use Rattle.sharc_build.proofs.building.compile.Goals as goal

pub returns-clause-is : goal.returns-clause-is
returns-clause-is c = all c.code_of.result c.code_of.ensures.is
  where
    all : {E : Type 0} (r : Result Code E) → IfOk r (λ code. IsCodeOf c.in_ok-flat.flat code) → IfOk r (IsCompiled c.args.program.now)
    all (Ok code) is = record { flat = c.in_ok-flat.flat; flattens = c.in_ok-flat.ensures.0; fits = c.in_ok-flat.ensures.1; coded = is }
    all (Err e) is = tt

pub returns-clause-numbers : goal.returns-clause-numbers
returns-clause-numbers c = all c.code_of.result c.code_of.ensures.numbers
  where
    all : {E : Type 0} (r : Result Code E) → IfOk r (λ code. IsFramed (flat_of c.in_ok-flat.flat) → FlatTablesFit c.in_ok-flat.flat → NumbersFit code)
        → IfOk r (λ code. IsTypedProgram c.args.program.now → NumbersFit code)
    all (Ok code) h = λ p.
        h (c.typed_is_framed.ensures c.args.program.now p.resolved p.placed p.low p.least p.well_moded c.in_ok-flat.flat c.in_ok-flat.ensures.0 c.in_ok-flat.ensures.1).1
        (c.made_tables_fit.ensures c.args.program.now p.resolved p.placed p.low c.in_ok-flat.flat c.in_ok-flat.ensures.0)
    all (Err e) h = tt
