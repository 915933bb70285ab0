use Rattle.sharc_report.proofs.refused.put_message.Goals as goal

pub returns-in-PrivateTarget : goal.returns-in-PrivateTarget
returns-in-PrivateTarget c = rw c.in-PrivateTarget.is c.put_type.ensures

pub returns-in-NamedByLockPath : goal.returns-in-NamedByLockPath
returns-in-NamedByLockPath c = rw c.in-NamedByLockPath.is c.put_between-in-NamedByLockPath.ensures
