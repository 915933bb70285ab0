use Rattle.sharc_reply_laws.proofs.{Imports.AnswersAreOne, Judged.one_file_reply, Replying.{FileRepliesAreOne, one_answer, one_reply, one_told}}
use Rattle.sharc_reply_laws.proofs.replies.replies_are_one.Goals as goal

pub returns : goal.returns
returns c =
    let answers : AnswersAreOne = one_answer c.warnings_are_one.ensures c.sources_are_one.ensures c.check_laws.ensures c.suggest_laws.ensures in
    let files : FileRepliesAreOne = λ input s z text other a b. one_file_reply (record { warnings = c.warnings_are_one.ensures; sources = c.sources_are_one.ensures; checks = c.check_laws.ensures; suggests = c.suggest_laws.ensures; files = c.file_laws.ensures; verdicts = c.audit_laws.ensures }) input s z text other a b in
    record {
      answers = answers;
      replies = λ words no input s z text other a b. one_reply answers files words no input s z text other a b;
      reply = λ words no bytes s z text other a b. one_told answers files words no bytes s z text other a b;
    }
