-- Where the source is a program the reply is the full text, or says that its modes are refused.
use Rattle.sharc_reply_laws.proofs.{Imports.{◌≡◌, ℕ, List, Option, Some, refl, ap, ◌∙◌, subst, Appends, Assignment, MeetsRules, IsFront, Status, SourceTask, RunNumbers, Answers, faulty, program, Replies, IsReply, Replied, Runs, not_run, ran, code_of, Checks, accepted, refused, Explains, explained, Does, SourceLaws, IsAsked, IsAcceptance, IsExplanation, IsRunning}, Replying.is_answer, Asked.only_ran}

-- what is written for a source that is this program is written for it
does_of : SourceLaws → (t : SourceTask) (source : List ℕ) (m : Assignment) (s : Status) (text : List ℕ) → IsFront source m → Answers t source s text → Does t m s text
does_of laws t source m s text front (faulty fault is) = absurd (laws.faultless source m front fault is)
does_of laws t source m s text front (program n z other also does) = subst (λ (k : Assignment). Does t k z other) (laws.program source n m also front) does

only_accepted : (m : Assignment) (s : Status) (text : List ℕ) → MeetsRules m → Checks m s text → (s ≡ Status.Done) × IsAcceptance m text
only_accepted m s text meets (accepted w also are) = (refl, record { warnings = w; are = are; written = refl })
only_accepted m s text meets (refused t is) = absurd (is.breaks_rules meets)

only_explained : (m : Assignment) (s : Status) (text : List ℕ) → MeetsRules m → Explains m s text → (s ≡ Status.Done) × IsExplanation m text
only_explained m s text meets (explained z verdict is) =
    let only = only_accepted m z verdict meets is in
    (only.0, record { verdict = verdict; accepts = only.1; written = refl })

check_refused : (m : Assignment) (s : Status) (text : List ℕ) → ¬ (MeetsRules m) → Checks m s text → s ≡ Status.ModesRefused
check_refused m s text ill (accepted w meets are) = absurd (ill meets)
check_refused m s text ill (refused t is) = refl

explain_refused : (m : Assignment) (s : Status) (text : List ℕ) → ¬ (MeetsRules m) → Explains m s text → s ≡ Status.ModesRefused
explain_refused m s text ill (explained z verdict is) = check_refused m z verdict ill is

run_refused : (n : RunNumbers) (m : Assignment) (s : Status) (text : List ℕ) → ¬ (MeetsRules m) → Runs n m s text → s ≡ Status.ModesRefused
run_refused n m s text ill (not_run t is) = refl
run_refused n m s text ill (ran code run meets compiled fit is) = absurd (ill meets)

only_refused : (t : SourceTask) (m : Assignment) (s : Status) (text : List ℕ) → ¬ (MeetsRules m) → Does t m s text → s ≡ Status.ModesRefused
only_refused SourceTask.Check m s text ill does = check_refused m s text ill does
only_refused SourceTask.Explain m s text ill does = explain_refused m s text ill does
only_refused (SourceTask.Run n) m s text ill does = run_refused n m s text ill does

module _ (laws : SourceLaws) (words : List (List ℕ)) (input : List ℕ) (m : Assignment) where
  pub does_reply : (t : SourceTask) → IsAsked words t input m → (s : Status) (text : List ℕ) → IsReply words (Some input) s text → Does t m s text
  does_reply t is s text reply =
      does_of laws t input m s text is.front
      (is_answer words input t s text is.asked is.within (subst (λ (l : List ℕ). Replies words l s text) reply.told reply.reply))

  pub check_only : IsAsked words SourceTask.Check input m → MeetsRules m → (s : Status) (text : List ℕ) → IsReply words (Some input) s text → (s ≡ Status.Done) × IsAcceptance m text
  check_only is meets s text reply = only_accepted m s text meets (does_reply SourceTask.Check is s text reply)

  pub explain_only : IsAsked words SourceTask.Explain input m → MeetsRules m → (s : Status) (text : List ℕ) → IsReply words (Some input) s text → (s ≡ Status.Done) × IsExplanation m text
  explain_only is meets s text reply = only_explained m s text meets (does_reply SourceTask.Explain is s text reply)

  pub run_only : (n : RunNumbers) → IsAsked words (SourceTask.Run n) input m → MeetsRules m → (s : Status) (text : List ℕ) → IsReply words (Some input) s text → IsRunning n m s text
  run_only n is meets s text reply = only_ran n m s text meets (does_reply (SourceTask.Run n) is s text reply)

  pub checked : IsAsked words SourceTask.Check input m → MeetsRules m → (old new : Option (List ℕ)) (code : ℕ) → Replied words (Some input) old new code → (code ≡ 0) × (text : List ℕ) × IsAcceptance m text × Appends old new text
  checked is meets old new code replied =
      let only = check_only is meets replied.status replied.text replied.reply in
      (replied.ends ∙ ap code_of only.0, replied.text, only.1, replied.written)

  pub explains : IsAsked words SourceTask.Explain input m → MeetsRules m → (old new : Option (List ℕ)) (code : ℕ) → Replied words (Some input) old new code → (code ≡ 0) × (text : List ℕ) × IsExplanation m text × Appends old new text
  explains is meets old new code replied =
      let only = explain_only is meets replied.status replied.text replied.reply in
      (replied.ends ∙ ap code_of only.0, replied.text, only.1, replied.written)

  pub ends_refused : (t : SourceTask) → IsAsked words t input m → ¬ (MeetsRules m) → (old new : Option (List ℕ)) (code : ℕ) → Replied words (Some input) old new code → code ≡ 1
  ends_refused t is ill old new code replied = replied.ends ∙ ap code_of (only_refused t m replied.status replied.text ill (does_reply t is replied.status replied.text replied.reply))
