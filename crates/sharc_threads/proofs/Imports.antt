-- What the proofs cite of std, of other crates and of this crate's definitions, passed on from one place.
pub use Rattle.std.proofs.{Common.{Bool, List, None, Option, Some, [], ap, arith, below_more, false, filter, get_or, length, map, not, refl, set, subst, suc, sym, true, ℕ, ⊎_elim, ◌++◌, ◌+◌, ◌-◌, ◌<◌, ◌∙◌, ◌∷◌, ◌≡◌, ◌≤◌}, lemmas.Bool.{cases_lt, false_from_ne_true as true_or_false, or_from as or_none, or_left, or_right}, lemmas.List.{get_or-set_other, get_or-set_same, get_or_past}, lemmas.List.Elements.{All-cons, All-nil}}
pub use Rattle.std.specs.{List.{All, fold, range_with_len}, Prelude.{if◌then◌else◌, is_some, nat_eq, nat_lt, slice_index, ◌&&◌, ◌||◌}}
pub use Rattle.sharc_lemmas.proofs.{Bools.{and_left, either as or_cases}, Numbers.lt_true}
pub use Rattle.sharc_word.specs.declared.step.TheConstants.{THREADS}
pub use Rattle.sharc_code.specs.{Layout.state_word, Machine.Machine, Path.{begun, may_go}, Runs.is_started, Waits.{held_up, wait_of, waits_now}, Whole.{IsOn, IsStuck, bounds}, declared.code.Code.Code, declared.shape.Shape.Shape}
pub use Rattle.sharc_cpu.specs.Thread.{ThreadView}
pub use Rattle.sharc_threads.specs.{Ends.{AllAreDone, AreStarted, IsAt, Standing, is_enabled}, Seats.{AreOf, AreSeats, HasBegun, IsSeat, Sits, has_number, is_on_at, left, left_to, may_turn_at, present, waits, waits_at}}
