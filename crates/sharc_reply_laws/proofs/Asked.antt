-- What a reply is to the words of `load`, where its source is a program with accepted modes.
use Rattle.sharc_reply_laws.proofs.{Imports.{◌≡◌, ℕ, ◌+◌, ◌<◌, ◌≤◌, Bool, true, false, List, ◌++◌, length, Option, Some, None, refl, ap, sym, ◌∙◌, subst, false≢true, Assignment, MeetsRules, commands, Command, Audit, Record, Replay, source_of, IsFront, RunNumbers, Status, Answers, faulty, program, source_limit, LoadReplies, load_numbers, long, size_lines, was_loaded, Replies, answered, audited, loaded, recorded, replayed, task_in, too_long, usage, Runs, not_run, ran, Does, SourceTask, IsRunning, SourceLaws, not_long}, Recorded.{command_or_none, task_or_none, no_reader, same_command}}
use Rattle.sharc_cli.specs.declared.command.Command.TheVariants.{Load}

-- ---- the words
abbrev is_load : Command → Bool
is_load (Load number workers) = true
is_load _ = false

abbrev number_in : Command → ℕ
number_in (Load number workers) = number
number_in _ = 0

abbrev workers_in : Command → ℕ
workers_in (Load number workers) = workers
workers_in _ = 0

-- another command
other_command : (o : Option Command) (a b : Command) → is_load a ≡ true → is_load b ≡ false → o ≡ Some a → o ≡ Some b → ⊥
other_command o a b loads other is also = false≢true (sym other ∙ (ap is_load (sym (same_command o a b is also)) ∙ loads))

no_task : (o : Option Command) (number workers : ℕ) → o ≡ Some (Load number workers) → task_in o ≡ None
no_task o number workers is = ap task_in is

-- a reply to the words of `load` is what `load` writes
of_load : (words : List (List ℕ)) (input : List ℕ) (number workers : ℕ) (s : Status) (text : List ℕ) → commands words ≡ Some (Load number workers) → Replies words input s text → LoadReplies number workers s text
of_load words input number workers s text asked (usage none) = absurd (command_or_none (commands words) (Load number workers) asked none)
of_load words input number workers s text asked (too_long reads most) = absurd (no_reader (task_in (commands words)) (no_task (commands words) number workers asked) reads)
of_load words input number workers s text asked (answered t z other is short does) = absurd (task_or_none (task_in (commands words)) t is (no_task (commands words) number workers asked))
of_load words input number workers s text asked (recorded n h l z other is reply) = absurd (other_command (commands words) (Load number workers) (Record n h l) refl refl asked is)
of_load words input number workers s text asked (replayed z other is reply) = absurd (other_command (commands words) (Load number workers) Replay refl refl asked is)
of_load words input number workers s text asked (audited z other is reply) = absurd (other_command (commands words) (Load number workers) Audit refl refl asked is)
of_load words input number workers s text asked (loaded n w z other is reply) =
    let same = same_command (commands words) (Load n w) (Load number workers) is asked in
    subst (λ k. LoadReplies number k z other) (ap workers_in same) (subst (λ k. LoadReplies k w z other) (ap number_in same) reply)

-- ---- the source
pub only_ran : (n : RunNumbers) (m : Assignment) (s : Status) (text : List ℕ) → MeetsRules m → Runs n m s text → IsRunning n m s text
only_ran n m s text meets (not_run t is) = absurd (is.breaks_rules meets)
only_ran n m s text meets (ran code run also compiled fit is) = record { code = code; compiled = compiled; fits = fit; ran = run; runs = is; ends = refl; written = refl }

-- the reply is the size of the source and then the text of a run
pub record IsLoading (number workers : ℕ) (m : Assignment) (s : Status) (text : List ℕ) : Type 0 where
  pub rest : List ℕ
  pub running : IsRunning (load_numbers workers) m s rest
  pub is : text ≡ size_lines (length (source_of number)) (number + 2) ++ rest

module _ (laws : SourceLaws) (number workers : ℕ) (m : Assignment) (front : IsFront (source_of number) m) (meets : MeetsRules m) where
  answers_run : (n : RunNumbers) (s : Status) (text : List ℕ) → Answers (SourceTask.Run n) (source_of number) s text → IsRunning n m s text
  answers_run n s text (faulty fault is) = absurd (laws.faultless (source_of number) m front fault is)
  answers_run n s text (program k z other also does) = only_ran n m z other meets (subst (λ (k : Assignment). Does (SourceTask.Run n) k z other) (laws.program (source_of number) k m also front) does)

  load_only : (s : Status) (text : List ℕ) → length (source_of number) ≤ source_limit → LoadReplies number workers s text → IsLoading number workers m s text
  load_only s text within (long too) = absurd (not_long source_limit (length (source_of number)) too within)
  load_only s text within (was_loaded z other short answers) = record { rest = other; running = answers_run (load_numbers workers) z other answers; is = refl }

  pub loading : (words : List (List ℕ)) (input : List ℕ) → commands words ≡ Some (Load number workers) → length (source_of number) ≤ source_limit
      → (s : Status) (text : List ℕ) → Replies words input s text → IsLoading number workers m s text
  loading words input asked within s text reply = load_only s text within (of_load words input number workers s text asked reply)
