-- A shadow word by what it holds: the set of the threads whose bit is set, the written bit and the epoch.
use Rattle.std.specs.Prelude.{◌≡◌, ◌≢◌, ℕ, ◌+◌, ◌/◌, ◌%◌, ◌^◌, ◌<◌, ◌==◌, ◌||◌, ◌&&◌, Bool, true, false, not, nat_lt}
use Rattle.std.specs.Prelude.{Option, Some, None}
use Rattle.std.specs.Int.{bit_at}
use Rattle.sharc_word.specs.declared.step.TheConstants.{THREADS}
use Rattle.sharc_heap.specs.{declared.shadow_word.Kind.Kind, declared.shadow_word.Kind.TheVariants.{Read, Write}}

-- the written bit is bit 0
unfoldable pub is_written : ℕ → Bool
is_written word = bit_at word 0 == 1

-- the bit of thread k is bit 1 + k
unfoldable pub stands : ℕ → ℕ → Bool
stands word thread = nat_lt thread THREADS && (bit_at word (1 + thread) == 1)

-- the epoch is in the bits from 32 on
unfoldable pub epoch_of : ℕ → ℕ
epoch_of word = word / 2 ^ 32

abbrev pub is_write : Kind → Bool
is_write Read = false
is_write Write = true

-- a note, if there is one, was made in this epoch
abbrev pub is_of : Option ℕ → ℕ → Bool
is_of None epoch = false
is_of (Some noted) epoch = noted == epoch

-- these are the bits of one access: that of the thread, and for a write the written bit
pub record HasBits (word thread : ℕ) (kind : Kind) : Type 0 where
  pub threads : (k : ℕ) → stands word k ≡ (k == thread)
  pub written : is_written word ≡ is_write kind
  pub epoch : epoch_of word ≡ 0

-- the bit of the thread is set as well, and for a write the written bit
pub record AddsAccess (old new thread : ℕ) (kind : Kind) : Type 0 where
  pub threads : (k : ℕ) → stands new k ≡ (stands old k || k == thread)
  pub written : is_written new ≡ (is_written old || is_write kind)
  pub epoch : epoch_of new ≡ epoch_of old

-- the bit of another thread is set
pub record IsOther (word thread other : ℕ) : Type 0 where
  pub another : other ≢ thread
  pub stood : stands word other ≡ true

abbrev pub HasOther : ℕ → ℕ → Type 0
HasOther word thread = (other : ℕ) × IsOther word thread other

-- a write conflicts with every other thread; a read does where the word is written, and not by this thread in this
-- epoch
abbrev pub Conflicts : ℕ → ℕ → Kind → Option ℕ → Type 0
Conflicts old thread Write wrote = HasOther old thread
Conflicts old thread Read wrote = HasOther old thread × (is_written old ≡ true) × (is_of wrote (epoch_of old) ≡ false)

-- the lowest-numbered other thread whose bit is set
pub record IsFirstOther (word thread other : ℕ) : Type 0 where
  pub is : IsOther word thread other
  pub lowest : (k : ℕ) → k < other → k ≢ thread → stands word k ≡ false

-- no bit is set, and the epoch is the next one
pub record Clears (old new : ℕ) : Type 0 where
  pub threads : (k : ℕ) → stands new k ≡ false
  pub written : is_written new ≡ false
  pub epoch : epoch_of new ≡ (epoch_of old + 1) % 2 ^ 32

-- the thread's bit is gone, and with it the written bit where the thread wrote in this epoch; the rest stays
pub record Withdraws (old new thread : ℕ) (wrote : Option ℕ) : Type 0 where
  pub threads : (k : ℕ) → stands new k ≡ (stands old k && not (k == thread))
  pub written : is_written new ≡ (is_written old && not (is_of wrote (epoch_of old)))
  pub epoch : epoch_of new ≡ epoch_of old

-- a word is determined by its threads, its written bit and its epoch
abbrev pub WordIsItsSets : Type 0
WordIsItsSets =
    (a b : ℕ) → ((k : ℕ) → stands a k ≡ stands b k) → is_written a ≡ is_written b → epoch_of a ≡ epoch_of b → a ≡ b

-- nothing is set in the word 0
pub record IsBlank (word : ℕ) : Type 0 where
  pub threads : (k : ℕ) → stands word k ≡ false
  pub written : is_written word ≡ false
  pub epoch : epoch_of word ≡ 0

abbrev pub NobodyInZero : Type 0
NobodyInZero = IsBlank 0
