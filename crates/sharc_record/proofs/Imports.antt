-- What the proofs cite of std, of other crates and of this crate's definitions, passed on from one place.
pub use Rattle.atomic_table.proofs.Lists.{at_last, at_longer, at_set, one_turn, set_again, set_else, set_here}
pub use Rattle.atomic_table.specs.{Seated.TableId, Table.{Act, Allows, Joins, Me, Seen, Splits, State, Valid, carried_after, gives, keeps, opening, rest, takes}}
pub use Rattle.std.proofs.{Common.{All, List, None, Option, Some, [], ap, append_assoc, arith, drop, eq-eqb, false, get_or, if◌then◌else◌, inl, inr, length, length-append, ne_eqb, refl, slice_index, slice_set as set, subst, suc, sym, true, vec_len, zero, ℕ, ⊎_elim, ◌%◌, ◌++◌, ◌+◌, ◌-◌, ◌<◌, ◌==◌, ◌^◌, ◌∙◌, ◌∷◌, ◌≡◌, ◌≢◌, ◌≤◌, ◌⊎◌}, Math.Nat.mod-add-mod, lemmas.Bool.{cases_eq, eqb-false, eqb-true}, lemmas.List.{append-nil, get_or-map, get_or-set_other, get_or-set_same, get_or_append_left, get_or_past, get_or_push, length-map, length-set}, lemmas.List.Elements.filter-append, lemmas.List.FromFn.length-map-range_with_len, lemmas.Nat.mod_below}
pub use Rattle.std.specs.Option.{IsSome}
pub use lib.ListN.{get_elem?}
pub use mathlib.Core.Logic.{dite}
pub use mathlib.Core.Option.{none, some, some-injective, some-ne-none}
pub use native.Mathlib.Decide.{dec_le, ℕ_discrete}
pub use Rattle.sharc_lemmas.proofs.{Bools.{if_false, if_true}, Lists.any_default}
pub use Rattle.sharc_word.specs.{History.{MayFollow, events_of}, Laws.HistoryLaws, Place.event_of, Words.{words_after, words_after_step}, declared.step.TheConstants.THREADS, declared.step.WordEvent.WordEvent, declared.step.WordStep.WordStep}
pub use Rattle.sharc_code.specs.{Layout.words_of, Opening.{opening_words, opens_with}, Path.{begun, may_go}, Runs.{event_list, is_started, word_events}, Whole.{bounds, place_after}, declared.code.Code.Code, declared.shape.Shape.Shape}
pub use Rattle.sharc_cpu.specs.Thread.{IsThread, ThreadView}
pub use Rattle.sharc_bus.specs.Bus.{OneHistory}
pub use Rattle.sharc_threads.specs.{Ends.{AreStarted, Standing, is_enabled}, Seats.{AreOf, AreSeats, HasBegun, left, may_turn_at}}
pub use Rattle.sharc_seq.specs.Run.{IsSeqRun}
pub use Rattle.sharc_rounds.specs.{Laws.{GoneOn, QuantumLaws}, Round.{HasRoomAt, MadeOver, MadeQuantumAt, MadeRound, MayBegin, MayTurnAt, Seat, hand_at}, declared.hand.Hand.Hand, declared.worker.Worker.Worker}
pub use Rattle.sharc_schedule.specs.{File.{ArePlaces, written}, Schedule.Stored}
pub use Rattle.sharc_record.specs.{Laws.file_of, Round.{AreRounds, HasRun, HasRunAt, HaveAllRun, MayRun, MayRunAt}, Rule.{AreBelow, AreNew, IsAmong, IsNew, IsRight, JournalRule, JournalStands, Looked, OneHasTheTurn, PartIs, Slot, TurnIs, drawn, first_of, having, idle, joined, others_of, passed, spent_view, unbegun, unbegun_view, waiting}, Shared.{AreSeatsOf, NamesTell, OneJournal, PortView, SeatView, SharedView, lists_of, name_of}, Table.{HasAll, Made, MadeStep, part_of, seat_view, seats_with, stepped}, declared.journal.Journal.Journal, declared.journal.TheConstants.QUANTUM, declared.round.Rounds.Rounds, declared.rule.Part.Part, declared.rule.Turn.Turn, declared.rule.Turn.TheVariants.{Drawn, Has, Idle}, declared.rule.View.View}
