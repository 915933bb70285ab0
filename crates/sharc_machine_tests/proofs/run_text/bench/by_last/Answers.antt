use Rattle.std.proofs.lemmas.Result.{IfOk-weaker}
use Rattle.sharc_run.specs.Others.{AreAllowed}
use Rattle.sharc_machine_tests.proofs.run_text.bench.by_last.Goals as goal

pub returns : goal.returns
returns c = IfOk-weaker c.run_seq.result _ (λ run. AreAllowed run.threads.items) (λ run h k d below. (h.threads.each k d below).thread.number) c.run_seq.ensures
