use Rattle.sharc_audit.proofs.Running.{never_fails}
use Rattle.sharc_audit.proofs.laws.runs_never_fail.Goals as goal

pub returns : goal.returns
returns c m fuel R lines n why typed run obeys are audits =
    never_fails c.ask_laws.ensures c.store_laws.ensures c.run_laws.ensures c.rule_laws.ensures m (c.entry_laws.ensures m.typed typed) fuel R lines n why run obeys are audits
