-- What the proofs cite of std, of other crates and of this crate's definitions, passed on from one place.
pub use Rattle.atomic_table.proofs.Lists.{at_set, set_again, set_else}
pub use Rattle.atomic_table.specs.{Seated.TableId, Table.{Allows, Joins, Me, Splits, State, keeps, opening}}
pub use Rattle.std.proofs.{Common.{All, Bool, List, [], ap, append_assoc, arith, bit_or, cond, drop, eq-eqb, false, get_or, if◌then◌else◌, inl, inr, length, length-append, length-set, ne_eqb, refl, slice_index, slice_set, subst, suc, sym, take, true, vec_len, zero, ℕ, ⊎_elim, ◌%◌, ◌++◌, ◌+◌, ◌-◌, ◌<◌, ◌==◌, ◌^◌, ◌∙◌, ◌∷◌, ◌≡◌, ◌≢◌, ◌≤◌, ◌⊎◌}, Math.Nat.{add-mod-mod, mod-add-mod, two-pow-succ}, lemmas.Bool.{cases_lt, eqb-true}, lemmas.List.{append-nil, ext_get_or, get_or-map, get_or_append_left, get_or_past, get_or_push, length-map}, lemmas.List.Elements.filter-append}
pub use Rattle.std.specs.Mem.Slots.{slots_counts, slots_items}
pub use lib.ListN.{get_elem?}
pub use mathlib.Core.Logic.{dite}
pub use mathlib.Core.Option.{some, some-injective, some-ne-none}
pub use native.Mathlib.Decide.{ℕ_discrete}
pub use prog.Atomic.{either}
pub use Rattle.sharc_lemmas.proofs.Bools.{if_false, if_true}
pub use Rattle.sharc_word.specs.{History.{LegalHistory, MayFollow, events_of}, Laws.HistoryLaws, Place.event_of, Words.{word_after, words_after, words_after_step}, declared.step.WordEvent.WordEvent, declared.step.WordOp.WordOp, declared.step.WordOp.TheVariants.{Add, And, Cas, Load, Or, Sub, Swap}, declared.step.WordStep.WordStep}
pub use Rattle.sharc_bus.specs.{Bus.{AreSeatsOf, BusView, IsOf, OneHistory, RestView, SeatView, lists_of, name_of}, Rule.{BusRule, IsAmong, Settled, first_number, own_bit, own_bits, unbegun, with_step, words_known}, Table.{HasAll, HasPart, ports_of_all, ports_of_last, round_view, seat_view, seats_with}, declared.rule.Part.Part}
