use Rattle.sharc_audit.proofs.Auditing.{one_verdict}
use Rattle.sharc_audit.proofs.laws.audit_laws.Goals as goal

pub returns : goal.returns
returns c m fuel lines v w typed a b = one_verdict c.ask_laws.ensures c.store_laws.ensures c.run_laws.ensures c.rule_laws.ensures m (c.entry_laws.ensures m.typed typed) fuel lines v w a b
