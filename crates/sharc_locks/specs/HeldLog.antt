-- The held log of a thread: which mutexes it holds, and what taking one and giving one up make of it.
use Rattle.std.specs.Prelude.{◌≡◌, ◌≢◌, ℕ, ◌≤◌, ◌==◌, not, List, [], ◌∷◌, ◌++◌, Option, Some, None, length, filter}
use Rattle.std.specs.Prelude.{nat_lt, Any, AllPairs, if◌then◌else◌}
use Rattle.sharc_locks.specs.declared.held_log.HeldMutex.{HeldMutex}

-- some entry is of the mutex at this word
abbrev pub Holds : List HeldMutex → ℕ → Type 0
Holds log word = Any (λ held. held.word ≡ word) log

-- no two entries are of one mutex
abbrev pub HoldsEachOnce : List HeldMutex → Type 0
HoldsEachOnce log = AllPairs (λ earlier later. earlier.word ≢ later.word) log

-- what a held log may be: at most sixteen mutexes, none of them twice
pub record IsHeldLog (log : List HeldMutex) : Type 0 where
  pub few : length log ≤ 16
  pub each_once : HoldsEachOnce log

-- the log with this mutex at its end, where fewer than sixteen are held
abbrev pub with_mutex : List HeldMutex → ℕ → ℕ → List HeldMutex
with_mutex log word object = if nat_lt (length log) 16 then log ++ record { word = word; object = object } ∷ [] else log

-- the entries of the mutexes at other words
abbrev pub without : List HeldMutex → ℕ → List HeldMutex
without log word = filter (λ held. not (held.word == word)) log

-- the object of the mutex at this word, if it is held
abbrev pub object_of : List HeldMutex → ℕ → Option ℕ
object_of [] word = None
object_of (held ∷ log) word = if held.word == word then Some held.object else object_of log word

-- the entry is taken out, and the others stay in their order
pub record GivesUp (old new : List HeldMutex) (held : HeldMutex) : Type 0 where
  pub before : List HeldMutex
  pub after : List HeldMutex
  pub stood : old ≡ before ++ held ∷ after
  pub left : new ≡ before ++ after
