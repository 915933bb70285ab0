-- What the proofs cite of std, of other crates and of this crate's definitions, passed on from one place.
pub use Rattle.std.proofs.{Common.{Bool, List, None, Some, [], ap, append-nil, append_assoc, arith, drop, false, le_refl, length, length-append, map, not, refl, replicate, subst, suc, sym, take, true, zero, ℕ, ℤ, ⊎_elim, ◌&&◌, ◌*◌, ◌++◌, ◌+◌, ◌-◌, ◌<◌, ◌==◌, ◌^◌, ◌||◌, ◌∙◌, ◌∷◌, ◌≡◌, ◌≤◌}, lemmas.Bool.{and_from as both, cases_eq}}
pub use Rattle.std.specs.{List.list_any, Prelude.{Ok, Option, Vec, codes, filter, if◌then◌else◌, nat_le, nat_lt, pos, slice_get, slice_index, slice_index_or}}
pub use denote.RawPtr.{null_ptr}
pub use lib.Count.{count_trailing_zeros}
pub use mathlib.Core.List.{reverse_aux}
pub use Rattle.sharc_lemmas.proofs.{Bools.{and_left as left, and_right as right, either, no_cell as clash}, Numbers.{le_true as within, lt_true as below, same_is as same}}
pub use Rattle.sharc_graph.specs.{Findings.finding_at, Flow.{IsInferred, IsUnwritten, flow_of, place_at}, declared.graph.NodeFinding.TheVariants.Apart, declared.place.PositionKind.PositionKind}
pub use Rattle.sharc_tree.specs.{Tree.{Function, Program}, declared.ctype.Base.Base, declared.ctype.Mode.Mode, declared.ctype.Mode.TheVariants.{Locked, Private, Racy}, declared.ctype.Path.TheVariants.One, declared.event.Act.Act, declared.event.Act.TheVariants.Started, declared.event.CellAt.CellAt, declared.event.CellMode.TheVariants.{Dynamic, Readonly}, declared.event.SourceEvent.SourceEvent, declared.token.Keyword.Keyword, declared.token.Number.Number, declared.token.NumberType.TheVariants.Int, declared.token.Punctuator.Punctuator, declared.token.Token.Token, declared.token.TokenKind.TokenKind, declared.token.Tokens.Tokens, declared.tree.expression.Constant.Constant, declared.tree.expression.PlaceCall.PlaceCall}
unfoldable pub use Rattle.sharc_lex.specs.{Grammar.reading, Words.keywords}
pub use Rattle.sharc_parse.specs.{Grammar.{Declaring, IsProgram, Part, Phrase, Sentence, Sharing, Typing, Value, assign, constant, declares, does, enclosed, function, global, identifier, invoke, line, locked, malloc, no_more, of_place, of_spawn, of_value, private, return, sentence, single, value}, Limits.LowProgram, Places.{Reads, items_at, site_in}}
pub use Rattle.sharc_names.specs.declared.fault.Named.{Named}
pub use Rattle.sharc_ctype.specs.{Reaches.{IsReached, Names, NamesGlobal, Spawns}, Resolved.{IsResolved, Resolution, functions_in, globals_in, named_at}}
pub use Rattle.sharc_mode.specs.{Flows.{IsLeastAssignment, IsPlaceFor, IsReasonFor, links_of, mode_found}, Moded.{Assignment, reason_at}, Settled.settled_at, WellModed.{TellsTouched, WellModed}}
pub use Rattle.sharc_check.specs.RuleLaws.{RulesAreMet}
pub use Rattle.sharc_meaning.specs.{Events.{Access, Stands, access_by, events_of, held_mutexes, holds_mutex, is_of, locked_by, same_cell, unless_unlocked}, Meaning.asks, Obeys.{AlwaysObeys, IsThere, Obeys, Until, until_gone}, References.Begun, Runs.{Follows, SourceRun, answers_of, by}}
pub use Rattle.sharc_word.specs.declared.step.WordStep.{WordStep}
unfoldable pub use Rattle.sharc_heap.specs.Block.{block_of, doubled}
pub use Rattle.sharc_code.specs.{Laws.RunLaws, Layout.Fits, Machine.{Machine, instr_at}, Opening.opening_words, Path.{may_go, most_ints, most_refs}, Ranges.{GlobalsFit, NumbersFit, end_place, first_place}, Runs.{Answered, Global, IsOf, IsRun, MayTurn, OneThread, Owns, Said, Turn, after_turn, at, is_started, made_event, made_now, opening_of, paired, result_of, step_of, told_by, turn_by, with_told}, Says.{IsSaidBy, TurnsTell}, StandingLaws.NumbersAreOwn, Waits.waits_now, Whole.{Erase, IsStuck, bounds, one_thread, place_after}, declared.code.Code.Code, declared.code.Function.{Function as Row}, declared.code.GlobalCells.GlobalCells, declared.code.Text.Text, declared.instr.Instr.Instr, declared.shape.Shape.Shape, declared.state.Stop.Stop, declared.state.Stop.TheVariants.NotSole, declared.state.TheConstants.FRAMES}
pub use Rattle.sharc_flat.specs.{Flattened.{flattened, function_code, rows_of}, Flattens.{Flattens, IsMainOf, names_of}, Laid.{AreNamed, AreTold, lies_at, lock_bytes, lvalue_bytes, spot_in}, Laws.FitsMade, Machine.Flat, Made.flat_of, Tables.{all_first_words, all_granules, globals_of, layouts_of, pointers_of}, declared.flat.{Flat.Flat as FlatCode, LineTexts.LineTexts}, declared.op.Op.Op}
pub use Rattle.sharc_guard.specs.{Guard.guarded, Known.dropped, declared.guarded.Guarded.Guarded}
pub use Rattle.sharc_compile.specs.{Generated.generated, Made.IsCodeOf, OfRuns.told_in}
pub use Rattle.sharc_front_end.specs.{Compiled.IsCompiled, Front.IsFront}
pub use Rattle.sharc_build.specs.{Built.IsBuilt, declared.building.Built.Built}
pub use Rattle.sharc_invariant.specs.Labels.{Labels}
pub use Rattle.sharc_history_laws.specs.History.{history_of}
pub use Rattle.sharc_wants_laws.specs.Cause.{NothingIsInFlight}
pub use Rattle.sharc_instance_laws.specs.{Instances.{GetsStuck, IsObeying, ReportsAlone}, Sources.{locking_source, sharing_source}}
