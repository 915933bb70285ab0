-- What the proofs cite of std, of other crates and of this crate's definitions, passed on from one place.
pub use Rattle.std.proofs.{Common.{Bool, List, None, Option, Some, [], ap, append_assoc, arith, cond, eqb-true, false, filter, if◌then◌else◌, inl, inr, is_some, length, ltb-true, max, min, negsuc, not, pos, refl, replicate, reverse, subst, suc, sym, true, zero, ℕ, ℤ, ⊎_elim, ◌%◌, ◌&&◌, ◌*◌, ◌++◌, ◌+◌, ◌-◌, ◌/◌, ◌<◌, ◌^◌, ◌||◌, ◌↔◌, ◌∙◌, ◌∷◌, ◌≡◌, ◌≢◌, ◌≤◌, ◌⊎◌}, Math.{Arith.lt_of_le-ne, Nat.mul-le-mul_right}, lemmas.Bool.{and_from, and_left as and_no, and_parts, cases_Bool, cases_eq, cases_lt, false_from_ne_true as not_true, le-leb, lt-leb, lt-ltb, or_from as or_no, or_left, or_right, true_from_ne_false as not_false, not_from_false, or_parts}, lemmas.Bool.Decides.{Decides-ltb, nat_tests}, lemmas.List.{get_or-set_other, get_or_append_left, get_or_push, length-map, length_push, reverse-append, reverse-reverse}, lemmas.List.Elements.All-contains_itself, lemmas.List.FromFn.get_or-map-range_with_len}
pub use Rattle.std.specs.{List.list_any, Prelude.{All, Any, Contains, Err, Ok, Result, bit_or, find, map, nat_eq, nat_le, nat_lt, slice_index, slice_index_or, slice_set, take, ◌==◌}}
pub use Rattle.sharc_lemmas.proofs.{Bools.{and_left, and_right, both as both_true, not_ended, not_true as not_yes, or_assoc, or_false, or_first, or_second, or_split, yes}, Lists.{same_or, set_here, set_same}, Numbers.{eq_refl, eqb_other as ne_of, is_below, ne_eq, ne_zero, not_below, same_is, same_number as eq_of}, Options.some_or}
pub use Rattle.sharc_tree.specs.{declared.event.Act.Act, declared.event.CellAt.CellAt, declared.event.CellMode.CellMode, declared.event.CellMode.TheVariants.Dynamic, declared.event.Object.Object, declared.event.SourceEvent.SourceEvent, declared.event.Taken.Taken, declared.trap.Trap.Trap}
pub use Rattle.sharc_ctype.specs.Resolved.{Resolution}
pub use Rattle.sharc_meaning.specs.{Events.{Access, Stands, access_by, begins, events_of, frees, given_by, gives, granule_of as granule_in, held_mutexes, holds_mutex, is_cell, is_number, is_of, latest, locked_by, locks, made_by, makes, same_cell, same_object, unless_unlocked, unlocked_by, unlocks}, Obeys.{AccessSet, History, IsAccess, Obeys, ReadSharedOrOwn, UnderOneMode, Until, ends, is_owner, until_gone, until_return}, Reference.is_null, References.refers, Store.{IsFresh, IsNewThread, MayCome, broadcast_on, cell_changed, changes, enters, initial_value, is_gone, is_live, is_locked, is_natural, is_spawn, is_waiter, meets, signalled, spawns, takes_away, value_after, value_by, value_left, was_locked_by, was_spawned, went}}
pub use Rattle.sharc_word.specs.{Words.{word_after, words_after_step}, declared.step.TheConstants.THREADS, declared.step.WordEvent.WordEvent, declared.step.WordOp.WordOp, declared.step.WordStep.WordStep}
pub use Rattle.sharc_heap.specs.{Accesses.{ListsNoted, is_noted, note_of, site_at}, Asks.word_number, Count.test_of, Functions.{bits_of, cleared_of, conflicts_in, withdrawn_of}, Notes.{blank, has_note, of_kind}, ShadowLaws.ShadowLaws, ShadowWord.{AddsAccess, Conflicts, HasOther, Withdraws as WithdrawsWord, epoch_of, is_write, is_written}, Stages.turn_of_stage, State.{NewView, told, turn_of}, declared.access_table.GranuleNotes.GranuleNotes, declared.access_table.Note.Note, declared.arguments.NewArguments.NewArguments, declared.shadow_word.Kind.Kind, declared.shadow_word.Kind.TheVariants.{Read, Write}, declared.stage.NewStage.NewStage, declared.stage.NewTurn.NewTurn, declared.stage.NewTurn.TheVariants.{Do, HeapFull, Made}}
unfoldable pub use Rattle.sharc_heap.specs.{Functions.noted, ShadowWord.stands}
pub use Rattle.sharc_locks.specs.{HeldLog.{object_of, with_mutex, without}, Laws.WaitersLaws, Waiters.{lowest_of, waits_in, without_lowest}, declared.held_log.HeldMutex.HeldMutex}
pub use Rattle.sharc_code.specs.{Aims.{Aim, BuildsIn, TurnAim, TurnsAim, changes_shadow}, Arithmetic.{computed, holds, int_of, is_zero, negated, value_bits, word_of}, Laws.RunLaws, Layout.{Fits, argument_word, cell_of, cell_word, count_word, first_cell, first_shadow, function_word, granule_at, granule_of, granules, length_word, next_thread_word, shadow_word, state_word, words_of}, Machine.{Asks, Local, Machine, Own, Turn as StepTurn, accessed, act, after_new, all_cells, argument, asks_new, asserts, at_stage, called, checked, clear, data_granule, data_granules, elements_of, emptied, empties, entered, exit, fails, fields, free, free_looks, freed, function_of, goes, goes_to, has_room, holds_none, indexed, instr_at, int, is_held, is_of_null, is_positive, join, joined, largest, layout_at, lock_checked, locked, looks, lower, move_ref, new, new_state, no_frame, no_function, numbered, object, place, pointer_cell, raise, ref, reference_of, rests, returned, row_of, set_ref, signal, spawn, start, step_of, stopped, taken, test, tested, trapped, wakes, with_note, with_own, with_parameter, with_result, withdraws, withdrew, without_own, woken, word, wrote}, Opening.{first_global, first_heap as first_heap_word, opening_cell, opening_words, opens_with}, Outcomes.{Begun, ComesOut, Gone, IsStill, Logs, MayComeOut, MayStop, Notes, Refused, Rested, Stays, Stops, TurnOutcome, TurnsComeOut, check_of, has_stage, is_exit, is_load, is_locking, own_after, state_after}, Path.{after, asked_by, begun, counted, machine_after, may_go, most_refs, turn}, Ranges.{IsInGlobal, first_place as first_cell_of}, Runs.{Answered, Global, IsRun, MayTurn, Said, Turn, after_turn, at, is_started, opening_of, paired, put, result_of, state_now, told_by, turns_of, with_told, words_now}, Says.{IsSaidBy, TurnsTell, cell_at, elements_in, event_at, global_cell, in_exit, in_free, in_new, in_signal, in_spawn, in_start, is_access, is_condition, is_enter, is_threading, kind_of, lock_through, made_cell, mode_of, new_event, no_global, nobody, number_of, of_argument, place_at, reference, said, speaks_of, started_with, take_local, tells}, Stages.{IsStageOf, begins_of, drawn_of}, StandingLaws.{SpawnsStart, StandingLaws}, ThreadLaws.ThreadLaws, Waits.{asks_for, held_up, joins}, Whole.{CheckedRun, Erase, Waits, bounds, one_thread, place_after}, declared.code.Code.Code, declared.code.Layout.Layout, declared.code.Parameter.Parameter, declared.code.PlaceMode.PlaceMode, declared.instr.Cell.Cell, declared.instr.Instr.Instr, declared.instr.Register.Register, declared.instr.Width.Width, declared.instr.Width.TheVariants.{Char, Int, Long}, declared.shape.Shape.Shape, declared.state.ConflictAt.ConflictAt, declared.state.Stage.Stage, declared.state.Stage.TheVariants.{Begins, Clears, Empties, Enters, FreeClears, FreeLooks, Hands, Leaves, Links, Looks, Lowers, Makes, Names, Rests, Uncounts, Wakes, Withdraws, WithdrawsFrom}, declared.state.Stop.Stop, declared.state.Stop.TheVariants.{Conflict, NoLock, NotSole, Trap as Trapped}, declared.state.TheConstants.FRAMES, declared.state.TurnState.TurnState, declared.state.TurnState.TheVariants.{Ended, Stopped, Tries}, declared.state.Wait.Wait}
pub use Rattle.sharc_code.proofs.Places.{put_all, put_other, put_same}
pub use Rattle.sharc_compile.specs.{Consistent.{Elements, Has, IsApart, IsArgument, IsArgumentAt, IsConsistent, IsConsistentTurn, IsFree, IsHeld, IsLength, IsLock, IsMutex, IsNewAt, IsNewIn, IsNumber, IsThere, MayFind, elements_told, said_now}, OfRuns.{elements_before, founds_of, table_of, told_in}}
pub use Rattle.sharc_invariant.specs.{Bits.{BitsStand, CheckOf, ClearOf, Marks, Touch, Untouched, WithdrawOf, cleared_by, freed_by, marks_after, marks_by, touch_of, with_check, withdrawn_by, without_thread}, Blocks.{Built, Heap, Live}, Cells.{IsThere as CellIsThere}, Effect.{Effect, Frees, Gives, Locks, Returns, Silent, Silently, Unlocks}, Granules.{GranuleState, Passed, cleared, one, sum_to, withdrawn}, History.{Closing, Without}, Labels.{Anything, Chained, Checked, Closed, Copies, Element, Empty, Entry, Exactly, Gate, HasCopy, Holds, HoldsLoaded, Indexes, IsCopy, Itself, Label, Labels, Leads, LessEntry, LessGate, LessNumber, Loaded, Named, Narrower, Nth, Number, OfElement as OfElementCell, OfGlobal, Refers, SameReference, Sole, Unknown, Within, empty, fill, forgets, gated, knows, set_number}, Laws.{AccessesAreAllowed, Begins as CodeBegins, CellsAreThere, Keeps, PointersAreThere, RunsBits, StateStands}, MachineInvariant.{IsAlone, IsOn, MachineInvariant, WasLoaded, WindowStands, cell_refers, cells_now, hand_refers, is_pointer_now, label_of, log_refers, references_to, register_refers}, Objects.{changes_objects, entry_type, freed_behind, frees_object, gone, made_behind, makes_object, new_behind, objects_after, objects_behind, objects_now, owned, type_held}, Opened.{first_place, first_world, the_globals}, Reports.{CheckStands, RunsConflict, RunsTest, TestStands, touch_at}, State.{BelowStands, BuildsAt, ElementStands, EntryStands, FramesStand, GateStands, IsSmall, NumberStands, OnClear, OnExit, OnFree, OnHold, OnNew, OnSignal, OnSpawn, OnStart, Reserves, Runs, StageStands, State, StopStands, TopStands, View, all_pointers, base_of_cell, frame_at, granules_freed, label_now, number_in, object_of_cell, refs_at, size_of_run, types_at, view_of}, Typed.{Accesses, AreGlobals, Fine, HasBase, HasBefore, HasCell, HasField, Initial, IsLockCell, IsLockMode, IsMode, IsMutexOf, IsNotSole, IsSameContent, IsSibling, IsTypeLock, IsTypeMode, IsWellTyped, LeadsChecked, MayAccess, Numbers, Passes_on, PointsToMutex, Recasts, called_label, entry_label, handed_label, knows_base, no_lock, unlocked_label, without_base_of}, Types.{Content, Field, FieldLock, FieldMode, FieldType, Integer, Lock, Mutex, MutexWord, ObjectType, Pointer, StaticType, Targets, Waiters, cells_of, field_at, field_in, field_of_cell, global_field, globals_target, is_mutex, is_pointer, lock_number, mode_at, mode_in, mutex_of, no_field, type_at, type_of}, Types.FieldLock.{OfElement, OfGlobals, OfType}, Types.FieldMode.Under, Types.Lock.{Global as GlobalLock, Self, Through}, Words.{argument_of, has_returned, has_withdrawn, if_reference, is_ended, is_first, is_freed, is_unread, is_withdrawing, lang_of, length_at, note_number, noted_by, staged_of}, World.{ArgumentOf, Base, CanBy, Cell as CellOf, In, Loaded as IsLoaded, ObjectState, RegisterOf, Shut, Size, Slot, Sole as IsSole, Staged, TypeRules, TypedReference, WinOk, World, WorldInvariant, base_of, give, in_ref, make, none, put2, retype, set_gran}}
pub use Rattle.sharc_invariant.proofs.{Accesses.back_again, BitTurns.{at_low as granule_low, from_spawn, in_low as at_low, with_note_stage as note_stage}, Clears.{in_cells, sum_bound}, Conflicts.{Parts, no_clear, no_exit, no_free, parts}, Empties.cell_word_is, Frames.wider, Own.{is_single as single, single_rests}, Quiet.{freed_held, label_held, sum_up as sum_grows}, Scoped.less_number_refl, Small.one_low, Withdrawn.row_low}
pub use Rattle.sharc_history_laws.specs.{Awaits.{AwaitedIsHeld, AwaitedIsNotGone}, Causes.{BreaksRules, GoesOn, HasNamed, IsCause, IsNamed, IsNextOf, NothingBetween, OfFirst, OfRead, OfStop, OfWrite, ShowsCause, Stood, StoppedThere, WasMade, noted_site}, Conflicts.{ByNote, ByStop, CheckedThere, IsCheck, IsNoted, MadeSince, Opposes, Past, ShowsConflict, site_of_check}, Followed.{ChecksAreFollowed, Follows, IsFollowed, IsLocked, IsMade, IsNext, IsOfAccess, ShowsLock, TellsAccess, access_checked, access_of, access_to}, History.history_of, Kept.Grows, Reports.{FindsOthers, InArgument, InCell, InHand, InLog, InRegister, IsLockCheck, LacksLock, OtherReference}, Seen.IsGivenTo, SeenCells.{CellIsSeen, IsBeingFreed, IsCellIn, IsLiveBy, RefersBy, is_clearing}, Starts.{IsSpawnedByCode, IsStartedBy}, Stores.{BeginsWith, is_about_waiters}, Stuck.act_awaited, Threads.ThreadsAreTold, Told.{StatesAreTold, TellsState, state_of}, Waiters.WaitsFollow}
