-- What the proofs cite of std, of other crates and of this crate's definitions, passed on from one place.
pub use Rattle.std.proofs.{Common.{Bool, Err, List, None, Ok, Option, Result, Some, [], ap, arith, cond, false, inl, inr, ltb-true, negsuc, not, pos, refl, subst, suc, sym, true, zero, ℕ, ℤ, ⊎_elim, ◌%◌, ◌&&◌, ◌*◌, ◌+◌, ◌-◌, ◌/◌, ◌<◌, ◌^◌, ◌||◌, ◌∙◌, ◌∷◌, ◌≡◌, ◌≢◌, ◌≤◌, ◌⊎◌}, Math.Nat.{mod-eq_of_lt, mul-le-mul_left, mul-le-mul_right, mul_comm, suc-mul}, Math.Pow.{pow-lt, pow_mono}, lemmas.Bool.{and_from, and_parts, cases_Bool, cases_eq, cases_lt, cases_order, eq-eqb, eqb-false, eqb-true, lt-ltb, ne_eqb, or_left as or_first, or_right as or_second, true_from_ne_false}, lemmas.Bool.Decides.nat_tests, lemmas.List.{get_or-replicate, get_or-set_other, get_or-set_same, get_or_default, get_or_past, length-append, length-replicate, length-set, set-get_or, set-set}, lemmas.List.Elements.{Contains-append_left, Contains-append_right, Contains-get_or}, lemmas.List.FromFn.{get_or-map-range_with_len, length-map-range_with_len}, lemmas.List.Quantifiers.all_pairs_push, lemmas.Nat.{and_le_l, and_shr, div-mul-add, mod-mul-add, or_lt, or_shr, pow_below, pow_pos, xor_lt, xor_shr}, lemmas.Nat.Bits.{bit_at-pow_other, bit_at-trailing_zeros}}
pub use Rattle.std.specs.{Int.{int_bit_and, int_bit_or, int_bit_xor, int_shr, trailing_zeros, w64}, List.list_any, Prelude.{Contains, bit_and, bit_or, bit_xor, filter, fold, if◌then◌else◌, int_div, int_le, int_lt, int_rem, is_some, length, map, max, min, nat_eq, nat_le, nat_lt, neg_ℤ, replicate, slice_index, slice_index_or, slice_set, take, ◌*ℤ◌, ◌++◌, ◌+ℤ◌, ◌-ℤ◌, ◌==◌, ◌↔◌}}
pub use lib.Signed.{mag, mag_rem, mag_shr}
pub use mathlib.Core.Path.{fun_ext}
pub use Rattle.sharc_lemmas.proofs.{Bools.{and_false, and_true, not_true, or_assoc, or_false, or_split as or_true, yes}, Lists.{same_or, set_null}, Numbers.{eq_refl, le_true, ne_eq, not_below as not_less, times_more as suc_times, zero_le}, Options.some_of}
pub use Rattle.sharc_word.specs.{History.MayFollow, Words.{word_after, words_after_step}, declared.step.TheConstants.THREADS, declared.step.WordEvent.WordEvent, declared.step.WordOp.WordOp, declared.step.WordOp.TheVariants.{Add, Cas, Load, Or, Sub, Swap}, declared.step.WordStep.WordStep}
pub use Rattle.sharc_heap.specs.{Accesses.{Accesses, ListsNoted, is_noted, note_of, site_at}, Asks.{granule_number, top_word as top_number, word_number}, Block.block_of, Count.{lower_of, raise_of, test_of}, Functions.{all_but, bits_of, lowest_other}, NewLaws.NewLaws, Notes.{blank, has_note, of_kind}, ShadowLaws.ShadowLaws, ShadowWord.{AddsAccess, Conflicts, HasOther, IsBlank, Withdraws as WithdrawsWord, is_of, is_write, is_written, stands}, Stages.{after_cell, next_head, next_stage, try_from, turn_of_stage}, State.{NewView, told, turn_of}, declared.access_table.GranuleNotes.GranuleNotes, declared.access_table.Note.Note, declared.arguments.NewArguments.NewArguments, declared.shadow_word.Kind.Kind, declared.shadow_word.Kind.TheVariants.{Read, Write}, declared.stage.NewStage.NewStage, declared.stage.NewTurn.TheVariants.Do}
unfoldable pub use Rattle.sharc_heap.specs.{Functions.{cleared_of, conflicts_in, noted, withdrawn_of}, ShadowWord.epoch_of}
pub use Rattle.sharc_locks.specs.{HeldLog.{HoldsEachOnce, IsHeldLog, object_of, with_mutex, without}, Waiters.waits_in, declared.held_log.HeldMutex.HeldMutex}
unfoldable pub use Rattle.sharc_locks.specs.Waiters.{without_lowest}
pub use Rattle.sharc_code.proofs.{Aims.aims, Places.{put_all, put_other, put_same}}
pub use Rattle.sharc_code.specs.{Aims.{Aim, BuildsIn, TurnAim, changes_shadow}, Arithmetic.{complement, computed, divided, holds, in_range, int_of, is_zero, negated, truth, value_bits, word_of}, Layout.{Fits, argument_word, cell_of, cell_word, count_word, first_cell, first_shadow, function_at, function_word, granule_at, granule_of, granules, length_word, next_thread_word, prints_word, shadow_word, state_word, top_word, word_at, words_of}, Machine.{Asks, Local, Machine, Own, Turn as StepTurn, accessed, act, after_new, all_cells, argument, asks_new, asserts, at_stage, back_to, called, check, checked, clear, data_granule, data_granules, elements_of, emptied, empties, ends, entered, exit, fails, field_of, fields, free, free_head, free_looks, free_size, freed as freed_machine, function_of, goes, goes_on_new, goes_to, handed, has_room, holds_none, indexed, instr_at, int, is_held, is_of_null, join, joined, largest, layout_at, lock_checked, locked, looks, lower, made as made_machine, move_ref, new, new_state, next, no_frame, no_function, numbered, object, pointer_cell, printed, raise, ref, reference_of, rests, row_of, set_int, set_ref, size_of, spawn, start, step_of, stopped, taken, test, tested, to, trapped, unlocked, wakes, with_note, with_own, with_parameter, with_result, withdraws, withdrew, without_own, woken, word, wrote}, Opening.{first_global, first_heap as first_heap_word, opening_cell, opening_words, opens_with}, Outcomes.{Begun, ComesOut, Gone, MayComeOut, Notes, Refused, Rested, Stays, TurnOutcome, TurnsComeOut, check_of, has_stage, is_exit, own_after, state_after}, Path.{after, asked_by, begun, counted, may_go, most_ints, most_refs, turn}, Runs.{Answered, Global, IsRun, MayTurn, Turn, after_turn, at, is_started, made_now, put, result_of, state_now, words_now}, Whole.{bounds, one_thread}, declared.code.Code.Code, declared.code.Function.Function, declared.code.GlobalCells.GlobalCells, declared.code.Layout.Layout, declared.code.Parameter.Parameter, declared.instr.Cell.Cell, declared.instr.Instr.Instr, declared.instr.Operator.Operator, declared.instr.Operator.TheVariants.{And, AtLeast, AtMost, Divide, Equal, Greater, Multiply, NotEqual, Remainder, ShiftLeft, ShiftRight, Subtract, Xor}, declared.instr.Register.Register, declared.instr.Width.Width, declared.instr.Width.TheVariants.{Char, Int, Long}, declared.shape.Shape.Shape, declared.state.At.At, declared.state.Frame.Frame, declared.state.Stage.Stage, declared.state.Stage.TheVariants.{Begins, Clears, Empties, Enters, FreeClears, FreeLooks, Hands, Leaves, Links, Looks, Lowers, Makes, Names, Rests, Uncounts, Wakes, Withdraws, WithdrawsFrom}, declared.state.Stop.Stop, declared.state.Stop.TheVariants.{Conflict, NoLock, NotSole, Trap}, declared.state.TheConstants.FRAMES, declared.state.TurnState.{TurnState as StateOf}, declared.state.TurnState.TheVariants.{Ended, Runs as RunsOn, Stopped, Tries}}
pub use Rattle.sharc_invariant.specs.{Bits.{AllBitsStand, BitsStand, CheckOf, ClearOf, Marks, Touch, Untouched, WithdrawOf, cleared_by, freed_by, marks_after, marks_by, marks_now, no_marks, touch_of, with_check, withdrawn_by, without_thread}, Blocks.{Arena, Built, Heap, InBlock, IsListed, Kept, Listed, Live, State as BlockState, Unused, carved, length_at as link_at, popped, pushed, restated, stored}, Cells.IsThere, Effect.{Clears as ClearsOf, Effect, Frees, Gives, Makes as MakesOf, NoneOf, Returns, Silent, Silently, Unlocks, Withdraws as WithdrawsOf, events_of}, Granules.{Alone, Bits, Clean, GranuleState, Passed, cleared, marked, one, passed, sum_to, withdrawn}, History.{Access, Closing, Event, Freed, Held, IsInAccessSet, NoConflict, Return, Tied, Without}, Labels.{AllSame, Anything, Chained, Checked, Closed, Copies, Element, Empty, Entry, EntryMentions, Exactly, Fresh, Gate, HasBase, HasCopy, HasName, Holds, HoldsLoaded, Indexes, IsCopy, IsFree, IsIn, IsNamed, IsScoped, Itself, Label, Labels, Leads, Less, LessEntry, LessGate, LessNumber, Loaded, Named, Narrower, Nth, Number, OfElement, OfGlobal, Pass, Refers, SameLock, SameReference, SameType, Sole as SoleGate, Unknown, Within, empty, fill, forgets, forgotten, gated, is_base, knows, set_number, some_names, without_base, without_copies, without_index}, Laws.{Followed, Keeps, NoneReturned, NothingYet, RunsBits, RunsFromTheBeginning, RunsStand, RunsStay, StateStands, Turned}, MachineInvariant.{Has, HasType, HoldsStill, IsAlone, IsKept, IsOn, IsSole, IsTyped, MachineInvariant, WasLoaded, WindowStands, cell_refers, cells_now, hand_refers, is_pointer_now, label_of, log_refers, references_to, register_refers}, Objects.{changes_objects, entry_type, freed_behind, frees_object, is_length, made_behind, makes_object, new_behind, objects_behind, objects_now, owned, type_held}, Opened.{first_heap, first_place, first_slots, first_world, fresh_granule, no_object}, Reports.{CheckStands, RunsConflict, RunsTest, TestStands, touch_at}, State.{AreCleared, AreEmpty, BelowStands, BuildsAt, CallerStands, ElementStands, Emptying, EntryStands, Firsts, FrameStands, FramesStand, GateStands, HeapStands, IsSmall, IsThread, Locks, NumberStands, OnClear, OnExit, OnFree, OnHold, OnNew, OnSignal, OnSpawn, OnStart, PassStands, Reserves, Runs, SpawnsNow, StageStands, StartStands, State, StopStands, Swapping, ThreadStands, Threads, TopStands, View, all_pointers, base_of_cell, frame_at, granules_freed, label_now, most_references, number_in, object_of_cell, refs_at, size_of_run, types_at, vals_of, view_of}, Turns.{KeepsOthers, OnlyLoses, made_conc, made_turn}, Typed.{Accesses as IsAccess, AreFieldLocks, AreGlobals, Calls, Covers, Directly, Earlier, Fine, Fits as FitsWidth, HasCell, HasField, Initial, IsAnyGlobalLock, IsAnyLock, IsBaseFree, IsChecked, IsElement, IsFieldLock, IsGlobalLock, IsInGlobal, IsInt, IsLayout, IsLockCell, IsMutexOf, IsNotSole, IsOwn, IsPlace, IsPlain, IsRef, IsSameContent, IsSameFieldLock, IsShared, IsSibling, IsUnpassed, IsVacant, IsWellTyped, LeadsChecked, MayAccess, MayStart, Numbers, Passes, PassesLock, PointsTo, PointsToMutex, Recasts, below, below_copy, below_number, below_pass, called_label, entry_label, ints_in, is_comparison, is_shift, knows_base, moved_copy, no_lock, refs_in, unlocked_label, without_base_of}, Types.{AreTargets, CellMode, Content, Field, FieldLock, FieldMode, Lock, Mentions, Mutex, ObjectType, SomeNames, StaticType, Targets, cells_of, field_at, field_in, field_mutex, field_of_cell, global_field, is_mutex, is_pointer, is_private, lock_mode, lock_number, mode_at, mode_in, mutex_of, no_field, no_mutex, nothing, type_at, type_in, type_of}, Types.CellMode.{Behind, Dynamic, Locked, Private, Racy, Readonly, Sibling}, Types.Content.{Integer, MutexWord, Pointer, Waiters}, Types.FieldLock.{OfElement as OfSameElement, OfGlobals, OfType}, Types.FieldMode.Under, Types.Lock.{Self, Through}, Words.{Apart, AreStale, FitsContent, IsNobodys, MachineView, Reads, Shows, argument_of, cell_at, conc_of, count_at, has_returned, has_withdrawn, head_of, head_with, if_reference, is_ended, is_first, is_freed, is_unread, is_withdrawing, lang_of, length_at, logged, making_of, note_number, noted_by, register_of, set_reg, shadow_at, shown, staged_of, store}, World.{ArgumentOf, Base, Based, By, Can, CanBy, Cell as CellOf, Fits as FitsType, Holder, In, Inside, Laws, Loaded as IsLoaded, LogOf, May, ObjectState, Opens, RegisterOf, Right, Shut, Size, Slot, Sole, Staged, TypeRules, TypedReference, Uses, WinOk, Window, Words, World, WorldInvariant, base_of, drop, freed, give, grow, in_ref, make, none, null, place, put2, retype, same_own, same_slot, set_gran, set_mutex, set_slot, set_win, shift, swap, thread_of, who}}
unfoldable pub use Rattle.sharc_invariant.specs.{State.block_for, World.total}
