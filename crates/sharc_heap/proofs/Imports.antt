-- What the proofs cite of std, of other crates and of this crate's definitions, passed on from one place.
pub use Rattle.std.proofs.{Common.{Bool, Decides, IsTrue, List, None, Option, Some, [], ap, append_assoc, arith, bit_and, bit_or, cond, drop, false, get_or, get_or-set_other, get_or-set_same, if◌then◌else◌, inl, inr, is_some, length, map, max, min, not, refl, set, slice_index, subst, suc, sym, true, w64, zero, ℕ, ◌%◌, ◌&&◌, ◌*◌, ◌++◌, ◌+◌, ◌-◌, ◌/◌, ◌<◌, ◌==◌, ◌^◌, ◌||◌, ◌↔◌, ◌∙◌, ◌∷◌, ◌≡◌, ◌≢◌, ◌≤◌}, Math.ListN.length-set, Math.Nat.{div-div-eq-div-mul, div-eq_of_lt, mod-eq_of_lt, mul-div_cancel, pow-succ'}, Math.Pow.{pow-lt, pow_mono}, Math.Seq.{drop-append-add, drop-cons}, lemmas.Bool.{OnFalse_from, and_parts, cases_Bool, cases_eq, cases_lt, eq-eqb, false≢true, le-leb, le-ltb, lt-leb, lt-ltb, ne_eqb, or_right, true≢false}, lemmas.Bool.Decides.{Decides-and, Decides-like, nat_tests, same_from_decides}, lemmas.List.{get_or_append_left, get_or_default, length-append, length_push}, lemmas.List.Elements.{All-cons, Contains-append_left, Contains-get_or, Contains-push, Contains-push_cases}, lemmas.List.FromFn.{get_or-map-range_with_len, length-map-range_with_len}, lemmas.List.Kept.AllPairs-cons, lemmas.List.Quantifiers.all_pairs_push, lemmas.List.Sums.{count_by-le-length, sum_by-set}, lemmas.Nat.{and_le_l, pow-add}, lemmas.Nat.Bits.{and_pow, bit_at-lt, bit_at-pow_other, bit_at-pow_same, bit_at-trailing_zeros, bit_at-zero, bit_at_above, bit_at_and, bit_at_cat_low, bit_at_clear_other, bit_at_clear_same, bit_at_mask_above, bit_at_mask_below, bit_at_mask_inside, bit_at_or, same_from_bits, shr_and_one}}
pub use Rattle.std.specs.{Int.{IsPowerOfTwo, bit_at, bit_not, trailing_zeros}, List.{count_by, range_with_len}, Prelude.{All, AllPairs}}
pub use Rattle.sharc_lemmas.proofs.{Bools.{and_false, and_true, if_false, if_true, or_false}, Numbers.same_bit, Options.{no_guard as some_is_not_none, some_of as some_or_none}}
pub use Rattle.sharc_word.specs.{History.{LegalHistory, MayFollow}, Words.{word_after, words_after, words_after_step}, declared.step.WordEvent.WordEvent, declared.step.WordOp.WordOp, declared.step.WordOp.TheVariants.{Add, And, Cas, Load, Or, Sub, Swap}, declared.step.WordStep.WordStep}
pub use Rattle.sharc_heap.specs.{Accesses.{Accesses, IsTable, ListsNoted, NotesAccess, is_noted}, Asks.{AreTops, Asks, FindsNoRoom, HasMoved, MovesTop, NoneTwice, ReadsTop, TakesOwn, TakesTop, cell_word, granule_number, head_after, last_steps, own_steps, step_of, top_word, turn_at, word_number}, Block.{IsBlock, granules_of}, CountLaws.{LowerCounts, RaiseCounts, TestLeaves}, Functions.all_but, Handed.{Granules, HandsOut, KeepsTop, LieInOrder, MovesOn, handed_by, handed_out, moved_over}, NewLaws.{AsksOneTurn, BlockOfIsBlock, BlocksHaveTheirWords, CasHandsOut, ComesFrom, GranulesStay, HandedApart, HasNoRoom, HeapIsFullWithoutRoom, IsOwnStep, MadeIsItsBlock, MovedTop, MovesByOneBlock, NewBegins, NewGoesOn, NewStays, OfItsBlock, OfTheTop, OneBlock, OwnList, OwnListEnds, StepsAreOfWords, StepsAreOwn, StepsKeepTop, TopEnds, TopHandsOutApart, TopMovesByOneBlock, words_of}, Notes.{blank, has_note, of_kind, with_note}, Others.AreOthers, ShadowLaws.{BitsAreOfAccess, ClearedClears, OrAddsAccess, OrLeavesOthers, OrSetsOwnBit, WithdrawnLeavesOthers, WithdrawnWithdraws}, ShadowWord.{AddsAccess, Clears, Conflicts, HasBits, HasOther, IsBlank, IsFirstOther, IsOther, Withdraws, WordIsItsSets, is_of}, Stages.{HasBlock, IsAtStage, IsAtTop, IsInCell, OfOwn, OfTop, next_head, next_stage, try_from, turn_of_stage}, State.{IsAfter, IsStep, NewView}, declared.access_table.GranuleNotes.GranuleNotes, declared.access_table.Note.Note, declared.arguments.NewArguments.NewArguments, declared.shadow_word.Kind.Kind, declared.shadow_word.Kind.TheVariants.{Read, Write}, declared.stage.NewStage.NewStage, declared.stage.NewStage.TheVariants.{Begins, Cell, Count, Full, Length, Link, Made as Finished, Move, Top}, declared.stage.NewTurn.NewTurn, declared.stage.NewTurn.TheVariants.{Do, HeapFull, Made}}
unfoldable pub use Rattle.sharc_heap.specs.{Block.{block_of, doubled}, Functions.{bits_of, cleared_of, conflicts_in, first_in, lowest_from, lowest_other, noted as noted_in, withdrawn_of}, ShadowWord.{epoch_of, is_written, stands}}
