use Rattle.std.proofs.Common.{subst, sym}
use Rattle.sharc_check.specs.{Checks.IsRefused, Named.TellNamed}
use Rattle.sharc_front_end.specs.Front.{IsFront}
use Rattle.sharc_build.specs.Built.{IsIllModed}
use Rattle.sharc_build.proofs.building.accepted.Goals as goal

pub returns-in-Ok : goal.returns-in-Ok
returns-in-Ok c = λ source front. c.coded.ensures source (subst (IsFront source) (sym c.in-Ok.ensures.0) front)

pub returns-in-Err-Modes : goal.returns-in-Err-Modes
returns-in-Err-Modes c = λ source front.
    let told = rw c.in-Err-Modes.field-0-is at c.in-Err-Modes.ensures in
    let found : IsIllModed source c.in-Err-Modes.program c.in-Err-Modes.errors c.in-Err-Modes.named =
    record {
      front = subst (IsFront source) (sym told.0) front;
      refused = subst (λ m. IsRefused m c.in-Err-Modes.errors) (sym told.0) told.1;
      paths = subst (λ m. TellNamed m c.in-Err-Modes.named) (sym told.0) told.2;
    }
    in
    rw c.in-Err-Modes.field-0-is found
