-- What the calls on shadow words and tables compute, as functions.
use Rattle.std.specs.Prelude.{ℕ, zero, suc, ◌+◌, ◌-◌, ◌*◌, ◌%◌, ◌^◌, ◌==◌, ◌&&◌, Bool, not, ◌++◌, ◌∷◌, [], Option, Some}
use Rattle.std.specs.Prelude.{None, is_some, slice_index_or, slice_set, bit_and, bit_or, if◌then◌else◌}
use Rattle.sharc_word.specs.declared.step.TheConstants.{THREADS}
use Rattle.sharc_heap.specs.{declared.shadow_word.Kind.Kind, declared.shadow_word.Kind.TheVariants.{Read, Write}}
use Rattle.sharc_heap.specs.{declared.access_table.Note.Note, Notes.{blank, with_note}, Accesses.{Accesses, is_noted}}
use Rattle.sharc_heap.specs.ShadowWord.{stands, is_written, is_of, epoch_of}

-- the bits of one access
unfoldable pub bits_of : ℕ → Kind → ℕ
bits_of thread Read = 2 ^ (1 + thread)
bits_of thread Write = bit_or (2 ^ (1 + thread)) 1

-- an epoch alone, the next one
unfoldable pub cleared_of : ℕ → ℕ
cleared_of old = (epoch_of old + 1) % 2 ^ 32 * 2 ^ 32

-- all bits of a word but this one
abbrev pub all_but : ℕ → ℕ
all_but bit = 2 ^ 64 - 1 - 2 ^ bit

-- the bit of the thread is gone, and the written bit where the thread wrote in this epoch
unfoldable pub withdrawn_of : ℕ → ℕ → Option ℕ → ℕ
withdrawn_of old thread wrote =
    if is_of wrote (epoch_of old) then bit_and (bit_and old (all_but (1 + thread))) (all_but 0)
    else bit_and old (all_but (1 + thread))

-- the lowest of this many threads, from this one on, whose bit is set and which is another
unfoldable pub lowest_from : ℕ → ℕ → ℕ → ℕ → Option ℕ
lowest_from word thread first zero = None
lowest_from word thread first (suc more) =
    if stands word first && not (first == thread) then Some first else lowest_from word thread (suc first) more

-- the lowest other thread whose bit is set
unfoldable pub lowest_other : ℕ → ℕ → Option ℕ
lowest_other word thread = lowest_from word thread 0 THREADS

-- whether the check conflicts
unfoldable pub conflicts_in : ℕ → ℕ → Kind → Option ℕ → Bool
conflicts_in old thread Write wrote = is_some (lowest_other old thread)
conflicts_in old thread Read wrote =
    is_some (lowest_other old thread) && (is_written old && not (is_of wrote (epoch_of old)))

-- the thread that a conflict is with
unfoldable pub first_in : ℕ → ℕ → Kind → Option ℕ → Option ℕ
first_in old thread kind wrote = if conflicts_in old thread kind wrote then lowest_other old thread else None

-- the table with this note in place of an earlier one of the granule and kind
unfoldable pub noted : Accesses → ℕ → Kind → Note → Accesses
noted table granule kind note = record {
  notes = slice_set table.notes granule (with_note kind note (slice_index_or table.notes granule blank));
  order = if is_noted table.notes granule then table.order else table.order ++ granule ∷ [];
}
