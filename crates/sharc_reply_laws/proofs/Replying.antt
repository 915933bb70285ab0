-- The reply to words and an input is one.
use Rattle.sharc_reply_laws.proofs.{Imports.{◌≡◌, ℕ, ◌<◌, ◌≤◌, Bool, true, false, List, length, Option, Some, None, refl, ap, sym, ◌∙◌, subst, arith, false≢true, Assignment, CheckLaws, SuggestLaws, commands, Command, Check, Explain, Record, Replay, Audit, refusal_line, Status, SourceTask, Answers, faulty, program, FileReplies, source_limit, task_in, Replies, usage, too_long, answered, loaded, recorded, replayed, audited, IsReply, Does, WarningsAreOne, SourceLaws, RunsNothing, MakesRun, AnswersAreOne}, Verdicts.one_done, Recorded.{no_reader, same_command, command_or_none, task_or_none}}
use Rattle.sharc_cli.specs.declared.command.Command.TheVariants.{Load}

pub one_answer : WarningsAreOne → SourceLaws → CheckLaws → SuggestLaws → AnswersAreOne
one_answer warnings sources checks suggests t nothing source s z text other (faulty x is) (faulty y also) = (refl, ap refusal_line (sources.fault source x y is also))
one_answer warnings sources checks suggests t nothing source s z text other (faulty x is) (program m s' text' front does) = absurd (sources.faultless source m front x is)
one_answer warnings sources checks suggests t nothing source s z text other (program m s' text' front does) (faulty x is) = absurd (sources.faultless source m front x is)
one_answer warnings sources checks suggests t nothing source s z text other (program m s' text' front does) (program n z' other' also acts) =
    one_done warnings checks suggests n t nothing s' z' text' other' (subst (λ (k : Assignment). Does t k s' text') (sources.program source m n front also) does) acts

-- ---- the words

same_task : (o : Option SourceTask) (a b : SourceTask) → o ≡ Some a → o ≡ Some b → a ≡ b
same_task o a b is also = cc

-- the words are no command that reads a source
of_usage : (words : List (List ℕ)) → commands words ≡ None → task_in (commands words) ≡ None
of_usage words none = ap task_in none

of_audit : (words : List (List ℕ)) → commands words ≡ Some Audit → task_in (commands words) ≡ None
of_audit words is = ap task_in is

of_load : (words : List (List ℕ)) (number workers : ℕ) → commands words ≡ Some (Load number workers) → task_in (commands words) ≡ None
of_load words number workers is = ap task_in is

of_record : (words : List (List ℕ)) (workers heap limit : ℕ) → commands words ≡ Some (Record workers heap limit) → task_in (commands words) ≡ None
of_record words workers heap limit is = ap task_in is

of_replay : (words : List (List ℕ)) → commands words ≡ Some Replay → task_in (commands words) ≡ None
of_replay words is = ap task_in is

abbrev is_load : Command → Bool
is_load (Load number workers) = true
is_load _ = false

load_audit : (words : List (List ℕ)) (number workers : ℕ) → commands words ≡ Some (Load number workers) → commands words ≡ Some Audit → ⊥
load_audit words number workers is audit = false≢true (sym (ap is_load (same_command (commands words) (Load number workers) Audit is audit)))

abbrev is_record : Command → Bool
is_record (Record workers heap limit) = true
is_record _ = false

record_audit : (words : List (List ℕ)) (workers heap limit : ℕ) → commands words ≡ Some (Record workers heap limit) → commands words ≡ Some Audit → ⊥
record_audit words workers heap limit is audit = false≢true (sym (ap is_record (same_command (commands words) (Record workers heap limit) Audit is audit)))

abbrev is_replay : Command → Bool
is_replay Replay = true
is_replay _ = false

replay_audit : (words : List (List ℕ)) → commands words ≡ Some Replay → commands words ≡ Some Audit → ⊥
replay_audit words is audit = false≢true (sym (ap is_replay (same_command (commands words) Replay Audit is audit)))

-- of words that run nothing
no_load : (words : List (List ℕ)) (number workers : ℕ) → ¬ (MakesRun (commands words)) → commands words ≡ Some (Load number workers) → ⊥
no_load words number workers nothing is = nothing (subst MakesRun (sym is) tt)

no_record : (words : List (List ℕ)) (workers heap limit : ℕ) → ¬ (MakesRun (commands words)) → commands words ≡ Some (Record workers heap limit) → ⊥
no_record words workers heap limit nothing is = nothing (subst MakesRun (sym is) tt)

no_replay : (words : List (List ℕ)) → ¬ (MakesRun (commands words)) → commands words ≡ Some Replay → ⊥
no_replay words nothing is = nothing (subst MakesRun (sym is) tt)

some_task : (a b : SourceTask) → Some a ≡ Some b → a ≡ b
some_task a b e = cc

no_task : (t : SourceTask) → None ≡ Some t → ⊥
no_task t e = cc

runs_nothing : (o : Option Command) (t : SourceTask) → ¬ (MakesRun o) → task_in o ≡ Some t → RunsNothing t
runs_nothing None t nothing e = absurd (no_task t e)
runs_nothing (Some Check) t nothing e = subst RunsNothing (some_task SourceTask.Check t e) tt
runs_nothing (Some Explain) t nothing e = subst RunsNothing (some_task SourceTask.Explain t e) tt
runs_nothing (Some Audit) t nothing e = absurd (no_task t e)
runs_nothing _ t nothing e = absurd (nothing tt)

not_long : (input : List ℕ) → source_limit < length input → length input ≤ source_limit → ⊥
not_long input long short = omega (arith, long, short)

-- a reply to words that read a source within the limit is what is written for it
pub is_answer : (words : List (List ℕ)) (input : List ℕ) (t : SourceTask) (s : Status) (text : List ℕ) → task_in (commands words) ≡ Some t → length input ≤ source_limit → Replies words input s text → Answers t input s text
is_answer words input t s text asked within (usage none) = absurd (task_or_none (task_in (commands words)) t asked (of_usage words none))
is_answer words input t s text asked within (too_long reads long) = absurd (not_long input long within)
is_answer words input t s text asked within (loaded number workers z other is reply) = absurd (task_or_none (task_in (commands words)) t asked (of_load words number workers is))
is_answer words input t s text asked within (recorded workers heap limit z other is reply) = absurd (task_or_none (task_in (commands words)) t asked (of_record words workers heap limit is))
is_answer words input t s text asked within (replayed z other is reply) = absurd (task_or_none (task_in (commands words)) t asked (of_replay words is))
is_answer words input t s text asked within (audited z other is reply) = absurd (task_or_none (task_in (commands words)) t asked (of_audit words is))
is_answer words input t s text asked within (answered u z other also short is) = subst (λ (k : SourceTask). Answers k input z other) (same_task (task_in (commands words)) u t also asked) is

-- and a reply to `audit` is what is written for the event file
pub is_file_reply : (words : List (List ℕ)) (input : List ℕ) (s : Status) (text : List ℕ) → commands words ≡ Some Audit → Replies words input s text → FileReplies input s text
is_file_reply words input s text audit (usage none) = absurd (command_or_none (commands words) Audit audit none)
is_file_reply words input s text audit (too_long reads long) = absurd (no_reader (task_in (commands words)) (of_audit words audit) reads)
is_file_reply words input s text audit (answered t z other asked short is) = absurd (task_or_none (task_in (commands words)) t asked (of_audit words audit))
is_file_reply words input s text audit (loaded number workers z other is reply) = absurd (load_audit words number workers is audit)
is_file_reply words input s text audit (recorded workers heap limit z other is reply) = absurd (record_audit words workers heap limit is audit)
is_file_reply words input s text audit (replayed z other is reply) = absurd (replay_audit words is audit)
is_file_reply words input s text audit (audited z other is reply) = reply

abbrev pub FileRepliesAreOne : Type 0
FileRepliesAreOne = (input : List ℕ) (s z : Status) (text other : List ℕ) → FileReplies input s text → FileReplies input z other → (s ≡ z) × (text ≡ other)

module _ (answers : AnswersAreOne) (files : FileRepliesAreOne) (words : List (List ℕ)) (nothing : ¬ (MakesRun (commands words))) (input : List ℕ) where
  pub one_reply : (s z : Status) (text other : List ℕ) → Replies words input s text → Replies words input z other → (s ≡ z) × (text ≡ other)
  one_reply s z text other (usage none) (usage none') = (refl, refl)
  one_reply s z text other (usage none) (too_long reads long) = absurd (no_reader (task_in (commands words)) (of_usage words none) reads)
  one_reply s z text other (usage none) (answered t s' text' asked short is) = absurd (task_or_none (task_in (commands words)) t asked (of_usage words none))
  one_reply s z text other (usage none) (audited s' text' audit reply) = absurd (command_or_none (commands words) Audit audit none)
  one_reply s z text other (usage none) (loaded number workers s' text' load reply) = absurd (no_load words number workers nothing load)
  one_reply s z text other (usage none) (recorded workers heap limit s' text' is reply) = absurd (no_record words workers heap limit nothing is)
  one_reply s z text other (usage none) (replayed s' text' is reply) = absurd (no_replay words nothing is)
  one_reply s z text other (too_long reads long) (usage none) = absurd (no_reader (task_in (commands words)) (of_usage words none) reads)
  one_reply s z text other (too_long reads long) (too_long reads' long') = (refl, refl)
  one_reply s z text other (too_long reads long) (answered t s' text' asked short is) = absurd (not_long input long short)
  one_reply s z text other (too_long reads long) (audited s' text' audit reply) = absurd (no_reader (task_in (commands words)) (of_audit words audit) reads)
  one_reply s z text other (too_long reads long) (loaded number workers s' text' load reply) = absurd (no_load words number workers nothing load)
  one_reply s z text other (too_long reads long) (recorded workers heap limit s' text' is reply) = absurd (no_record words workers heap limit nothing is)
  one_reply s z text other (too_long reads long) (replayed s' text' is reply) = absurd (no_replay words nothing is)
  one_reply s z text other (loaded number workers s' text' load reply) more = absurd (no_load words number workers nothing load)
  one_reply s z text other (recorded workers heap limit s' text' is reply) more = absurd (no_record words workers heap limit nothing is)
  one_reply s z text other (replayed s' text' is reply) more = absurd (no_replay words nothing is)
  one_reply s z text other (audited s' text' audit reply) more = files input s' z text' other reply (is_file_reply words input z other audit more)
  one_reply s z text other (answered t s' text' asked short is) more =
      answers t (runs_nothing (commands words) t nothing asked) input s' z text' other is (is_answer words input t z other asked short more)

-- of a source that reports its bytes
pub one_told : AnswersAreOne → FileRepliesAreOne → (words : List (List ℕ)) → ¬ (MakesRun (commands words)) → (bytes : List ℕ) (s z : Status) (text other : List ℕ) → IsReply words (Some bytes) s text → IsReply words (Some bytes) z other → (s ≡ z) × (text ≡ other)
one_told answers files words nothing bytes s z text other a b =
    one_reply answers files words nothing bytes s z text other
    (subst (λ (l : List ℕ). Replies words l s text) a.told a.reply)
    (subst (λ (l : List ℕ). Replies words l z other) b.told b.reply)
