use Rattle.sharc_reply_laws.proofs.ProgramAsked.{check_only, explain_only, run_only, checked, explains, ends_refused}
use Rattle.sharc_reply_laws.proofs.replies.verdicts_are_told.Goals as goal

pub returns : goal.returns
returns c =
    let laws = c.sources_are_one.ensures in
    record {
      check_only = λ words input m is meets s text reply. check_only laws words input m is meets s text reply;
      explain_only = λ words input m is meets s text reply. explain_only laws words input m is meets s text reply;
      run_only = λ words n input m is meets s text reply. run_only laws words input m n is meets s text reply;
      checks = λ words input m is meets old new code replied. checked laws words input m is meets old new code replied;
      explains = λ words input m is meets old new code replied. explains laws words input m is meets old new code replied;
      refused = λ words t input m is ill old new code replied. ends_refused laws words input m t is ill old new code replied;
    }
