use Rattle.std.proofs.Common.{subst, sym}
use Rattle.sharc_flat_laws.specs.Typed.{IsTypedProgram}
use Rattle.sharc_front_end.specs.Compiled.{IsCompiled}
use Rattle.sharc_build.proofs.building.coded.Goals as goal

pub returns-in-Ok : goal.returns-in-Ok
returns-in-Ok c = λ source front.
    let meets = c.moded.ensures.rules in
    let is = subst (λ m. IsCompiled m c.in-Ok.code) c.moded.ensures.moded c.in-Ok.ensures.is in
    let p = c.fronts_are_typed.ensures source c.args.checked front meets in
    record {
      front = front;
      accepted = meets;
      compiled = is;
      numbers = c.in-Ok.ensures.numbers (subst IsTypedProgram (sym c.moded.ensures.moded) p);
    }
