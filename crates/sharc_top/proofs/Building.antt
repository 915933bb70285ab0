-- What is written for a source of which no code is built is what the commands write that run something.
use Rattle.sharc_top.proofs.Imports.{◌≡◌, ℕ, List, Assignment, Code, refusal_line, SourceFault, Ran, IsFront, IsSourceFault, RunNumbers, Status, Answers, faulty, program, GivesSource, at_fault, by_program, not_made, IsModeRefusal, Refuses, source_refused, modes_refused, not_run, SourceTask}

pub refuses_source : (source : List ℕ) (s : Status) (text : List ℕ) (fault : SourceFault) → IsSourceFault source fault → s ≡ Status.SourceRefused → text ≡ refusal_line fault → Refuses source s text
refuses_source source s text fault is e t = rw (e, t) (source_refused fault is)

pub refuses_modes : (source : List ℕ) (s : Status) (text : List ℕ) (m : Assignment) → IsFront source m → s ≡ Status.ModesRefused → IsModeRefusal m text → Refuses source s text
refuses_modes source s text m front e is = rw e (modes_refused m text front is)

pub answers_refused : (n : RunNumbers) (source : List ℕ) (s : Status) (text : List ℕ) → Refuses source s text → Answers (SourceTask.Run n) source s text
answers_refused n source s text (source_refused fault is) = faulty fault is
answers_refused n source s text (modes_refused m told front is) = program m Status.ModesRefused told front (not_run told is)

pub gives_unbuilt : (source : List ℕ) (Makes : Code → Ran → Type 0) (s : Status) (text : List ℕ) → Refuses source s text → GivesSource source Makes s text
gives_unbuilt source Makes s text (source_refused fault is) = at_fault fault is
gives_unbuilt source Makes s text (modes_refused m told front is) = by_program m Status.ModesRefused told front (not_made told is)
