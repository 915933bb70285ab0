use Rattle.std.proofs.Common.{sym, subst}
use Rattle.sharc_check.specs.Named.{TellNamed}
use Rattle.sharc_modes_tests.proofs.told.said_where.Goals as goal

pub refused-requires : goal.refused-requires
refused-requires c =
    let told = rw c.in-Err-Modes.field-0-is at c.in-Err-Modes.ensures in
    subst (λ x. TellNamed x c.in-Err-Modes.named) (sym told.0) told.2
