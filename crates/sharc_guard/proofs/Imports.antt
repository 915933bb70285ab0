-- What the proofs cite of std, of other crates and of this crate's definitions, passed on from one place.
pub use Rattle.std.proofs.{Common.{Bool, Err, IfOk, List, None, Ok, Option, Result, Some, [], ap, append-nil, append_assoc, arith, cond, drop, false, filter, fold, get_or, inl, inr, length, map, max, nat_lt, negsuc, not, pos, refl, replicate, slice_get, subst, suc, sym, take, true, zero, ℕ, ℤ, ⊎_elim, ◌&&◌, ◌*◌, ◌++◌, ◌+◌, ◌-◌, ◌<◌, ◌^◌, ◌||◌, ◌∙◌, ◌∷◌, ◌≡◌, ◌≢◌, ◌≤◌, ◌⊎◌}, Math.Seq.get_or-append_seam, lemmas.Bool.{and_from as and_both, cases_eq, cases_lt, le-ltb, lt-ltb, ltb-false, ltb-true, ne_eqb, not_from_false as true_not, or_left, or_right}, lemmas.Bool.Decides.nat_tests, lemmas.List.{drop_all, get_or-map, get_or-replicate, get_or_append_left, get_or_past, get_or_push, get_or_read, length-append, length-map, length-replicate, length_push, take_all, take_more}, lemmas.Option.{get_or_from_slice_get, slice_get-get_or, slice_get_past}}
pub use Rattle.std.specs.{List.list_any, Prelude.{OnOk, if◌then◌else◌, nat_eq, nat_le, slice_index, ◌==◌}}
pub use mathlib.Core.Path.{fun_ext}
pub use Rattle.sharc_lemmas.proofs.{Bools.{and_false, and_left, and_right, and_true, false_true, not_true, or_assoc, or_false, or_split as or_either}, Lists.{there_is as within}, Numbers.{eqb_other, is_below as lt_true, le_true2 as le_true, same_is as eqb_same, same_number as eq_true}, Options.{same_some as some_is}}
pub use Rattle.sharc_tree.specs.{declared.event.Act.Act, declared.event.CellAt.CellAt, declared.event.CellMode.CellMode, declared.event.SourceEvent.SourceEvent, declared.event.Taken.Taken, declared.token.Site.Site, declared.trap.Trap.Trap}
pub use Rattle.sharc_meaning.specs.{Arithmetic.{is_equal, is_zero}, Cells.{cell_of, through}, Events.{held_mutexes, holds_mutex, is_cell, locked_by, same_cell, unless_unlocked, unlocked_by, unlocks}, Reference.{NULL, elements_of, is_null, number_of}, State.{answer_of, ended, event_of, stopped}, Statements.is_positive, declared.given.GivenUp.GivenUp, declared.given.GivenUp.TheVariants.{Emptied, Released, Replaced}}
pub use Rattle.sharc_heap.specs.{declared.shadow_word.Kind.Kind, declared.shadow_word.Kind.TheVariants.{Read, Write}}
pub use Rattle.sharc_code.specs.{Arithmetic.{complement, computed, holds, negated, truth, word_of}, Machine.{elements_of as elements_made, no_function}, Ranges.{GlobalsFit, IsInGlobal}, Says.{kind_of, made_cell}, declared.code.Function.Function, declared.code.GlobalCells.GlobalCells, declared.code.Parameter.Parameter, declared.code.PlaceMode.PlaceMode, declared.code.PlaceMode.TheVariants.{Dynamic, LockedGlobal, LockedLoaded, LockedSibling, LockedThrough, Private, Racy, Readonly}, declared.code.SourcePlace.SourcePlace, declared.code.Use.Use, declared.instr.Cell.Cell, declared.instr.Cell.TheVariants.{Global, Object, ObjectAt}, declared.instr.Instr.Instr, declared.instr.Operator.Operator, declared.instr.Register.Register, declared.instr.Width.Width, declared.instr.Width.TheVariants.{Char, Int, Long}, declared.state.Frame.Frame}
pub use Rattle.sharc_flat.specs.{Framed.{HasParameter, InLine, IsFlat, IsFramed, IsFramedAt, IsWide, Leads, OpLeads, OpWrites}, Laid.spot_in, Machine.{At, Caller, Flat, Turn, accessed, accesses, argument, asks, asserts, base_of, begun, called, cell_at, cell_mode_of, end_turn, event, first_at, function_of, gives_up, global_cell, goes, goes_on, halts, handed, indexed, instance_mode, int, is_of_null, line_turn, lock_is_null, moved, next, op_turn, over_lines, popped, put, ref, returned, set_int, set_ref, settled, start, stops, take_kind_of, takes_local, turn, variable_of, with_event, with_result, without_base}, Made.flat_of, Path.{IsPath as IsFlatPath, after, asked, asked_by, at_after, may_go}, declared.flat.Flat.{Flat as FlatCode}, declared.op.Op.Op, declared.op.Spot.Spot, declared.flat.LineTexts.LineTexts}
pub use Rattle.sharc_guard.specs.{Asked.{guarded_asked, guarded_asked_by, is_enter, moves}, Checked.{IsAfterCheck, IsCheckOf, IsCheckedAt, IsNoTarget, LeadsTo, access_of}, Correct.{IsBeside, Resolved, Wants, bottom, image}, Counted.{AreLowered, GuardedCounts, HasCome, IsAccess, IsEnd, IsOf, IsPassed, IsReleased, IsReplaced, IsSettling, IsUnder, LockStands, LocksFrom, MatchesFlat, NeedsCheck, OnWay, OverwritesNone, Quietly, Tells, WasChecked}, Covered.{DroppedIsCovered, IsCovered, Makes, Since}, Example.{example, lines}, Form.{BaseWithin, HandedWithin, HasFewCells, IsAtPlace, IsBody, IsEntry, IsGuarded, WritesWithin}, Guard.{body, check_under, compute, entered_at, expand, expanded, guarded, head, negate, offset, own, place, source_at_spot, source_by, source_of, spot_of, tail, width, site_by, sites_of, with_texts}, GuardedTables.TablesFit, Known.{Access, Know, SimplePlace, access, assigns, copy_given, counts, dropped, drops, drops_at, element, few, global_place, has_passed, in_global, in_variable, is_at, is_dynamic, is_entry, is_led_to, is_straight, is_target, know_after, know_next, known, leads_to, line_leads, nothing, number_given, of_constant, passes_by, place_of, same_place, tells, unless_written, variable_place, with_element, writes_int, writes_ref}, Level.{Calls, Enters, Fits, IsLevel, Leaves, Level, Resumes, Slot, Slots, Takes, free, full, result_slot, slot_of, with_moved, with_slot, without_cell, without_handed}, Logged.LogsAreHeld, Machine.{Asks, Check, Checks, Ended, Goes, Halts, Leaving, Left, Phase, Program, Running, Stopped, Thread, function_at, is_held, source_at, statement_at, step}, Made.{IsMade, among, marked, places}, Marked.{AreBefore, AreMarks, AreTargets, CopyBefore, Notes, NumberBefore, PassedBefore, copy_by, copy_of, is_one, is_written, know_of, no_notes, noted_place, notes_of, number_by, number_of_line, of_cell, of_register, or_never, passed_at, passed_by, place_from, stronger, with_access, with_copy, with_noted, with_number, with_place, with_written}, Path.{IsPath, fresh, started, thread_after, weight, weight_in, with_parameter}, Repeated.{AllKeep, DropsRepeated, IsChecked, IsCopy, IsNumber, IsOfInteger, IsPiece, IsPlaceAt, IsRepeated, IsSimple, IsStraight, ItsCheckStands, Keeps, RepeatedCheckStands, constant, of_global, of_object}, Tables.FlatTablesFit, Untargeted.DroppedIsNoTarget, declared.guarded.Guarded.Guarded, declared.marks.Copied.Copied, declared.marks.KnownNumber.KnownNumber, declared.marks.PassedCheck.PassedCheck, declared.operations.Copying.Copying, declared.operations.Written.Written}
