use Rattle.sharc_reply_laws.proofs.{Judged.FileReplyLaws, Auditing.{audit_only, audit_told}}
use Rattle.sharc_reply_laws.proofs.replies.audits_are_told.Goals as goal

pub returns : goal.returns
returns c =
    let laws : FileReplyLaws = record { warnings = c.warnings_are_one.ensures; sources = c.sources_are_one.ensures; checks = c.check_laws.ensures; suggests = c.suggest_laws.ensures; files = c.file_laws.ensures; verdicts = c.audit_laws.ensures } in
    record {
      only = λ words input m fuel events is s text reply. audit_only laws words input m fuel events is s text reply;
      told = λ words input m fuel events is v audits old new code replied. audit_told laws words input m fuel events is v audits old new code replied;
    }
