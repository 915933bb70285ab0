use Rattle.sharc_audit.proofs.{Imports.err_from_is_err_and, Filing.fault_of}
use Rattle.sharc_audit.proofs.file.read_events.Goals as goal

pub returns-in_err-events-in-Ok-clause-bad : goal.returns-in_err-events-in-Ok-clause-bad
returns-in_err-events-in-Ok-clause-bad c =
    let p = err_from_is_err_and c.from_residual.result c.from_residual.ensures.1 in
    rw (p.1, p.2) (fault_of c.args.bytes.now c.in-Ok.source.now c.in-Ok.fuel c.in-Ok.behind.now c.in-Ok.n c.in_err-events-in-Ok.field-0.0 c.in-Ok.ensures.found c.in_err-events-in-Ok.ensures.bad)
