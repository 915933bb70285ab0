-- What the proofs cite of std, of other crates and of this crate's definitions, passed on from one place.
pub use Rattle.std.proofs.{Common.{Bool, Decides, Err, FitsSigned, IfSome, List, None, Option, Result, Some, [], ap, append_assoc, arith, eq-eqb, eqb-true, false, if◌then◌else◌, inl, inr, length, length-append, neg_ℤ, negsuc, of_z, pos, refl, replicate, rules, subst, suc, sym, take, to_z, true, vec_capacity, vec_len, w64, zero, ℕ, ℤ, ◌%◌, ◌*ℤ◌, ◌*◌, ◌++◌, ◌+◌, ◌-◌, ◌/◌, ◌<◌, ◌==◌, ◌^◌, ◌∙◌, ◌∷◌, ◌≡◌, ◌≤◌}, Math.IntN.{negsuc-*ℤ-pos, pos-*ℤ-pos}, Math.Nat.{mod-eq_of_lt, mul_assoc}, Math.Pow.pow-lt, lemmas.Bool.{cases_lt, false≢true}, lemmas.Bool.Decides.{nat_tests, same_from_decides}, lemmas.Int.to_z-of_z, lemmas.List.{append-nil, get_or-append_right, get_or-set_other, get_or-set_same, get_or_append_left, length-replicate, length-set, set-append_right, set-set, with_items_is}, lemmas.Nat.{pow-add, pow_pos}}
pub use Rattle.std.specs.{Option.option_map, Prelude.{IsSome, IsTrue, Ok, is_some, nat_lt, not, slice_index_or as get_or, slice_set, ◌↔◌}}
pub use Rattle.sharc_lemmas.proofs.Numbers.{grown, neg_times, not_below2 as not_below}
pub use Rattle.sharc_tree.specs.declared.trap.Trap.{Trap}
pub use Rattle.sharc_word.specs.{Place.{Leads, LeadsInWords, PortState, place_of_words}, declared.step.TheConstants.THREADS, declared.step.WordEvent.WordEvent, declared.step.WordOp.WordOp}
pub use Rattle.sharc_heap.specs.{Accesses.Accesses, Functions.{bits_of, conflicts_in}, Notes.blank, ShadowWord.epoch_of, declared.shadow_word.Kind.Kind}
pub use Rattle.sharc_locks.specs.{HeldLog.{Holds, object_of}, declared.held_log.HeldMutex.HeldMutex}
unfoldable pub use Rattle.sharc_locks.specs.Waiters.{lowest_of, without_lowest}
pub use Rattle.sharc_code.specs.{Arithmetic.{computed, holds, in_range, int_of, is_zero, word_of}, Layout.{first_shadow, granule_at, granule_of, granules}, Machine.{Asks, Local, Machine, Own, Turn, accessed, act, asserts, check, checked, field_of, goes, goes_to, indexed, instr_at, int, is_held, is_of_null, lock_checked, lower, next, place, raise, ref, set_int, set_ref, step_of, stopped, to, with_note, with_own, with_result, word, wrote}, Outcomes.{Refused, Stops, TurnOutcome, TurnsComeOut, own_after, state_after}, Path.{Goes, IsPath, TurnLeads, after, begun, counted, events_of_path, events_of_turn, machine_after, made_in, may_go, most_ints, most_refs, turn}, Stages.IsStageOf, ThreadLaws.{Keeps, ThreadLaws}, Waits.wait_of, declared.code.Code.Code, declared.instr.Cell.Cell, declared.instr.Instr.Instr, declared.instr.Instr.TheVariants.{Bounds, Call, ChkHeld, ChkLock, ChkNotHeld, ChkNull, ChkRead, ChkRoom, ChkWidth, ChkWrite, ComputeInt, ComputeLong, Constant, GlobalBounds, Jump, JumpIfNull, JumpIfZero, Load, LoadRef, Lock, Lower, Move, MoveReference, Not, Null, Raise, RaiseLoaded, Return, Store, Unlock}, declared.instr.Operator.Operator, declared.instr.Width.Width, declared.instr.Width.TheVariants.{Char, Int, Long}, declared.shape.Shape.Shape, declared.state.At.At, declared.state.Frame.Frame, declared.state.Print.Print, declared.state.Stage.TheVariants.Rests, declared.state.Stop.Stop, declared.state.Stop.TheVariants.{Conflict, NoLock}, declared.state.TurnState.TurnState, declared.state.TurnState.TheVariants.{Ended, Runs, Stopped, Tries}}
pub use Rattle.sharc_cpu.specs.{Quantum.{Advanced, GoesWhere, IsQuantum, pause_of, ran_or_blocked}, Rare.is_rare, Rows.{Begins, BeginsPair, Changes, Copies, Finishes, FrameTurns, Indexes, IsIndex, IsKept, IsNarrow, Locals, Operates, OperatesInPlace, OperatesOnNumber, OperatesOnVariable, Sets, Tests, Within, operated, past_three, with_frame}, Thread.{IsThread, ThreadView, is_stop}, View.{IsWithin, KeepsPort, Makes, machine_of, rest_of}, declared.pairs.FusedInstructions.FusedInstructions, declared.parts.ThreadParts.ThreadParts, declared.quantum.Pause.Pause, declared.quantum.Pause.TheVariants.Ran, declared.rows.Row.Row, declared.rows.Row.TheVariants.One}
