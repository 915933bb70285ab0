-- What was written is what the commands write.
use Rattle.sharc_top.proofs.Imports.{◌≡◌, ℕ, List, ◌++◌, AreWarnings, Warning, Assignment, MeetsRules, SourceFault, explain_text, refusal_line, accepted_text, IsFront, IsSourceFault, Status, SourceTask, Answers, faulty, program, IsModeRefusal, Checks, accepted, refused, Explains, explained, Does}

pub checks_accepted : (m : Assignment) (s : Status) (text : List ℕ) (warnings : List Warning) → MeetsRules m → AreWarnings m.typed warnings → s ≡ Status.Done → text ≡ accepted_text m.typed warnings
    → Checks m s text
checks_accepted m s text warnings meets are e t = rw (e, t) (accepted warnings meets are)

pub checks_refused : (m : Assignment) (s : Status) (text : List ℕ) → s ≡ Status.ModesRefused → IsModeRefusal m text → Checks m s text
checks_refused m s text e is = rw e (refused text is)

pub explains_both : (m : Assignment) (s : Status) (verdict text : List ℕ) → Checks m s verdict → text ≡ explain_text m ++ verdict → Explains m s text
explains_both m s verdict text is t = rw t (explained s verdict is)

pub answers_faulty : (t : SourceTask) (source : List ℕ) (s : Status) (text : List ℕ) (fault : SourceFault) → IsSourceFault source fault → s ≡ Status.SourceRefused → text ≡ refusal_line fault → Answers t source s text
answers_faulty t source s text fault found e is = rw (e, is) (faulty fault found)

pub answers_program : (t : SourceTask) (source : List ℕ) (m : Assignment) (s : Status) (text : List ℕ) → IsFront source m → Does t m s text → Answers t source s text
answers_program t source m s text front does = program m s text front does
