use Rattle.sharc_suggest_laws.proofs.Imports.{IsWhole, HasWrittenLocks}
use Rattle.sharc_suggest_laws.proofs.laws.least_is_repaired.Goals as goal

pub returns : goal.returns
returns c = λ m e k at least says.
    let whole : IsWhole m = record { modes = least.modes; reasons = least.reasons } in
    let written : HasWrittenLocks m = c.least_has_written_locks.ensures m least in
    record {
      typed = c.stays_typed.ensures m e k at.resolved at.placed at.low whole written says;
      gone = c.repairs.ensures m e k at.resolved at.placed at.low whole written says;
    }
