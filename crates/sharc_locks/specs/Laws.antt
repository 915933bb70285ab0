-- What holds of every word of waiters, with no call at hand.
use Rattle.std.specs.Prelude.{◌≡◌, ◌≢◌, ℕ, ◌^◌, ◌<◌, true, false}
use Rattle.sharc_word.specs.{declared.step.TheConstants.THREADS, declared.step.WordOp.TheVariants.Or, Words.word_after}
use Rattle.sharc_locks.specs.Waiters.{waits_in, lowest_of, without_lowest, AddsWaiter, TakesAwayFirst}

-- in the word 0 nobody waits
abbrev pub NobodyWaits : Type 0
NobodyWaits = (k : ℕ) → waits_in 0 k ≡ false

-- a word is determined by its waiters
abbrev pub WordIsItsWaiters : Type 0
WordIsItsWaiters = (a b : ℕ) → ((k : ℕ) → waits_in a k ≡ waits_in b k) → a ≡ b

-- an Or of a thread's bit adds that thread
abbrev pub OrEnters : Type 0
OrEnters = (word thread : ℕ) → thread < THREADS → AddsWaiter word (word_after (Or (2 ^ thread)) word) thread

-- so the thread waits
abbrev pub OrWaits : Type 0
OrWaits = (word thread : ℕ) → thread < THREADS → waits_in (word_after (Or (2 ^ thread)) word) thread ≡ true

-- and all others wait as before
abbrev pub OrLeavesOthers : Type 0
OrLeavesOthers = (word thread other : ℕ) → thread < THREADS → other ≢ thread
    → waits_in (word_after (Or (2 ^ thread)) word) other ≡ waits_in word other

-- a word that is not 0 has a lowest-numbered waiter, which is taken away alone
abbrev pub LowestIsTakenAway : Type 0
LowestIsTakenAway = (word : ℕ) → 0 < word → word < 2 ^ 64 → TakesAwayFirst word (without_lowest word) (lowest_of word)

-- the laws of waiters together
pub record WaitersLaws : Type 0 where
  pub set : WordIsItsWaiters
  pub empty : NobodyWaits
  pub enters : OrEnters
  pub waits : OrWaits
  pub others : OrLeavesOthers
  pub lowest : LowestIsTakenAway
