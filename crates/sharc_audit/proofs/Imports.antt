-- What the proofs cite of std, of other crates and of this crate's definitions, passed on from one place.
pub use Rattle.std.proofs.{Math.Seq.{take-append-add, take-append_seam}, Common.{All, Bool, Err, List, None, Ok, Option, Some, [], add-one, ap, append-nil, append_assoc, arith, cond, drop, drop-cons, false, inl, inr, length, length-append, length-drop, map, not, refl, rules, slice_index_or, subst, suc, sym, take, take-suc, true, zero, ℕ, ◌*◌, ◌++◌, ◌+◌, ◌-◌, ◌<◌, ◌^◌, ◌||◌, ◌∙◌, ◌∷◌, ◌≡◌, ◌≤◌, ◌⊎◌}, lemmas.Bool.{cases_Bool, and_from, and_parts, and_right, both_ways, cases_order, eq-eqb, eqb-true, false≢true, iff_false, ltb-false, ltb-true, ne_eqb, or_cases, or_from, or_left, or_parts, or_right}, lemmas.Bool.Decides.nat_tests, lemmas.Fmt.{decimal-digits_value, decimal_by_steps, digits_decimal, digits_value-decimal, length-decimal-le}, lemmas.List.{length-take, take-append-drop, take-take}, lemmas.List.Elements.{All-head, All-push, All-tail}, lemmas.List.Folds.list_any-append, lemmas.Option.{MatchOption-at_none, MatchOption-at_some}, lemmas.Result.err_from_is_err_and, lemmas.Slice.Eq.bytes_eq-Decides, lemmas.Str.Parse.{IsNumeralModel, digits_value_short, numerals_by_fold}}
pub use Rattle.std.specs.{Char.is_ascii_digit, HashMap.{HashMap, get}, List.{join_with_byte, list_all, list_any, onto_first, slice_split}, Prelude.{Any, IfOk, IsTrue, MatchOption, OnOk, Result, codes, decimal, find, if◌then◌else◌, is_ok, min, nat_eq, nat_lt, negsuc, pos, slice_get, slice_set, ℤ, ◌&&◌, ◌==◌, ◌≢◌}, Str.{all_ascii_digits, bytes_eq}, declared.vec.Vec.Vec}
pub use Rattle.sharc_lemmas.proofs.Lists.{find_none, length_push, map_both, map_length, pick}
pub use Rattle.sharc_tree.specs.{Tree.Function, View.view_function, declared.event.Act.Act, declared.event.CellAt.CellAt, declared.event.Object.Object, declared.event.Object.TheVariants.{Global, Made}, declared.event.SourceEvent.SourceEvent, declared.event.Taken.TheVariants.{Cell, Local}}
pub use Rattle.sharc_ctype.specs.Resolved.{IsResolved, Resolution, function_at, functions_in}
pub use Rattle.sharc_mode.specs.Moded.{Assignment}
pub use Rattle.sharc_meaning.specs.{Arithmetic.is_held_by, Events.{Access, Stands, access_by, events_of, is_of}, Laws.{AskLaws, AskedFor, IsAnswer, IsNext, RunLaws, Starts, StoreLaws}, Meaning.{Asked, asks}, Obeys.{Obeys, until_return}, Reference.reference, Runs.{Follows, IsFirst, IsNamedAt, IsSpawned, SourceRun, SourceRunWith, answers_of, by, is_named_main}, State.{Outcome, ended, spent, stopped, wants}, Store.{IsNewThread, LegalStore, MayCome, is_natural, is_spawn, spawns, was_spawned}}
pub use Rattle.sharc_judge.specs.{Deciding.{breaks, breaks_by, breaks_with, of_access}, Judged.{Holds, IsLowestBroken, number}, Kept.{AreUnbroken, IsLowestAt, IsSpawnedOnce}, Laws.{RuleLaws, Unbroken}, Starting.{FindsEntries, entry, main_of, spawned_by_event, with_zero}, declared.pair.Until.TheVariants.Return, declared.rule.Rule.Rule, declared.rule.Rule.TheVariants.{Live, NotWritten, OneMode, Owner, ReadSharedOrOneThread, UnderItsLock}}
pub use Rattle.sharc_audit.specs.{Asked.IsSpent, Audited.{Accepted, Audits, FailsBy, IsAgainst, IsAsked, IsFirstRefused, IsNotLegal, Refused}, Breaking.{IsFault, IsPassed}, Files.{IsBadEvent, IsEventsFault, IsFirstLine, IsHead, IsNoHeader}, Grammar.{AreEventLines, Behind, Both, Continues, FailsThere, HasCell, HasMany, HasReference, HasValue, IsAct, IsCell, IsCut, IsEventFile, IsEventLine, IsFirstBad, IsFunctionName, IsNumber, IsObject, IsPair, IsPlain, IsReference, IsSigned, IsThread, IsValue, Text, is_digit, is_letter, mark, read_on, text_lines, thread_most, without_empty_end}, Judging.{event_at, has_begun, is_spent, next_asked, next_in, next_of, next_told, own_answers, start_at, start_of, without_event}, Known.{AreKnown, ArePlaces, EachKnown, IsKnown, IsPlaceOf}, Lines.{AreLines, IsLine, lines_of, spawned_by, told, told_by, told_to, written}, Reported.{AreTold, told_in}, Walks.{IsWalk, needs_more}, declared.audit.EventFault.EventFault, declared.audit.Verdict.Verdict, declared.file.FileFault.FileFault, declared.line.EventLine.EventLine, declared.line.LineAct.LineAct, declared.run.ThreadRun.ThreadRun, declared.run.ThreadWalk.ThreadWalk, declared.threads.NextEvent.NextEvent, declared.threads.NextEvent.TheVariants.{Nothing, Spent, Wants}}
