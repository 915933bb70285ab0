use Rattle.sharc_code.proofs.{Imports.instr_at, Aims.aims, Failing.failed_stays, Keeps.keeps_turn, Outcomes.comes_out, Settled.same_turn, Tells.told_by, Trying.{trying, waits_where}}
use Rattle.sharc_code.proofs.laws.thread_laws.Goals as goal

pub returns : goal.returns
returns c = record {
  number = λ code s m found. (keeps_turn code s m found).number;
  tries = λ code s m found is. trying code s m (instr_at code m.at.pc) found is;
  waits = λ code s words m on. waits_where code s words m on;
  words = λ code s words m event asks answered is. failed_stays code s words m event asks answered is;
  forgets = λ code s m. same_turn code s m;
  keeps = λ code s m found. keeps_turn code s m found;
  outcomes = λ code s i m found. comes_out code s m i found;
  aims = λ code s i m builds. aims code s m builds i;
  tells = λ code i m found elements. told_by code m i found elements;
}
