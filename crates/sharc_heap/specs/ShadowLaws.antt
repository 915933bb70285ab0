-- What holds of every shadow word, with no call at hand.
use Rattle.std.specs.Prelude.{◌≡◌, ◌≢◌, ℕ, ◌^◌, ◌<◌, ◌↔◌, true, Option, Some, None, bit_or}
use Rattle.sharc_word.specs.declared.step.TheConstants.{THREADS}
use Rattle.sharc_heap.specs.declared.shadow_word.Kind.{Kind}
use Rattle.sharc_heap.specs.ShadowWord.{stands, HasBits, AddsAccess, Clears, Withdraws, Conflicts, IsFirstOther}
use Rattle.sharc_heap.specs.ShadowWord.{WordIsItsSets, NobodyInZero}
use Rattle.sharc_heap.specs.Functions.{bits_of, cleared_of, withdrawn_of, conflicts_in, first_in}

-- the bits of an access are that of the thread, and for a write the written bit
abbrev pub BitsAreOfAccess : Type 0
BitsAreOfAccess = (thread : ℕ) (kind : Kind) → thread < THREADS → HasBits (bits_of thread kind) thread kind

-- an Or of them adds just these
abbrev pub OrAddsAccess : Type 0
OrAddsAccess = (old thread : ℕ) (kind : Kind) → thread < THREADS
    → AddsAccess old (bit_or old (bits_of thread kind)) thread kind

-- so it leaves the bits of all others
abbrev pub OrLeavesOthers : Type 0
OrLeavesOthers = (old thread other : ℕ) (kind : Kind) → thread < THREADS → other ≢ thread
    → stands (bit_or old (bits_of thread kind)) other ≡ stands old other

-- and the bit of the thread is set
abbrev pub OrSetsOwnBit : Type 0
OrSetsOwnBit = (old thread : ℕ) (kind : Kind) → thread < THREADS
    → stands (bit_or old (bits_of thread kind)) thread ≡ true

-- a withdrawal takes away what it says
abbrev pub WithdrawnWithdraws : Type 0
WithdrawnWithdraws = (old thread : ℕ) (wrote : Option ℕ) → old < 2 ^ 64 → thread < THREADS
    → Withdraws old (withdrawn_of old thread wrote) thread wrote

-- and it leaves the bits of all others
abbrev pub WithdrawnLeavesOthers : Type 0
WithdrawnLeavesOthers =
    (old thread other : ℕ) (wrote : Option ℕ) → old < 2 ^ 64 → thread < THREADS → other ≢ thread
    → stands (withdrawn_of old thread wrote) other ≡ stands old other

-- a clear leaves no bit, and the next epoch
abbrev pub ClearedClears : Type 0
ClearedClears = (old : ℕ) → Clears old (cleared_of old)

-- the test of a conflict is the relation
abbrev pub ConflictsInConflict : Type 0
ConflictsInConflict = (old thread : ℕ) (kind : Kind) (wrote : Option ℕ)
    → (conflicts_in old thread kind wrote ≡ true) ↔ Conflicts old thread kind wrote

-- the thread of a conflict is the lowest other one, and there is none where there is no conflict
abbrev pub FirstInIsFirst : Type 0
FirstInIsFirst =
    (old thread other : ℕ) (kind : Kind) (wrote : Option ℕ)
    → (first_in old thread kind wrote ≡ Some other) ↔ (Conflicts old thread kind wrote × IsFirstOther old thread other)

abbrev pub NoFirstWithoutConflict : Type 0
NoFirstWithoutConflict =
    (old thread : ℕ) (kind : Kind) (wrote : Option ℕ)
    → (first_in old thread kind wrote ≡ None) ↔ (¬ Conflicts old thread kind wrote)

-- the laws of shadow words together
pub record ShadowLaws : Type 0 where
  pub sets : WordIsItsSets
  pub empty : NobodyInZero
  pub bits : BitsAreOfAccess
  pub or_adds : OrAddsAccess
  pub or_leaves : OrLeavesOthers
  pub or_sets : OrSetsOwnBit
  pub withdraws : WithdrawnWithdraws
  pub withdrawn_leaves : WithdrawnLeavesOthers
  pub clears : ClearedClears
  pub conflicts : ConflictsInConflict
  pub first : FirstInIsFirst
  pub no_first : NoFirstWithoutConflict
