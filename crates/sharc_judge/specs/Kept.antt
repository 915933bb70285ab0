-- What is kept of a list of events, and what is asked of an event behind them.
use Rattle.std.specs.Prelude.{◌≡◌, ℕ, ◌<◌, true, false, nat_eq, List, length, Option, Some, None}
use Rattle.std.specs.{HashMap.{get, HashMap}, Option.unwrap_or, declared.vec.Vec.Vec}
use Rattle.sharc_tree.specs.declared.event.SourceEvent.{SourceEvent}
use Rattle.sharc_meaning.specs.{Events.{events_of, Stands}, Store.{spawns, was_spawned}}
use Rattle.sharc_judge.specs.{declared.pair.Until.TheVariants.Return, declared.rule.Rule.Rule, Deciding.breaks_by}
use Rattle.sharc_judge.specs.{Judged.number, Laws.Unbroken, declared.keys.GranuleKey.GranuleKey}
use Rattle.sharc_judge.specs.{declared.table.Noted.Noted, declared.topics.Topic.Topic, Latest.latest_about}
use Rattle.sharc_judge.specs.{Reads.{reads_in, reads_of}, Topics.found}

abbrev pub count_in : {S : Type 0} → HashMap ℕ ℕ S → ℕ → ℕ
count_in counts thread = unwrap_or (get nat_eq counts thread) 0

-- the last event about each topic, the reads of each granule, and how many events each thread has
pub record IsKept {S T U A : Type 0} (R : List SourceEvent) (table : HashMap Topic Noted S)
    (reads : HashMap GranuleKey (Vec Noted A) T) (counts : HashMap ℕ ℕ U) : Type 0 where
  pub topics : (t : Topic) → found table t ≡ latest_about t R
  pub reads_are : (q : GranuleKey) → reads_in reads q ≡ reads_of q R
  pub count : (thread : ℕ) → count_in counts thread ≡ length (events_of thread R)

-- no access among them breaks a rule
abbrev pub AreUnbroken : List SourceEvent → Type 0
AreUnbroken R = (rule : Rule) → Unbroken rule Return R

-- no two spawns answered one number
abbrev pub IsSpawnedOnce : List SourceEvent → Type 0
IsSpawnedOnce R = (before : List SourceEvent) (e : SourceEvent) (after : List SourceEvent) (n : ℕ)
    → Stands R before e after → spawns n e ≡ true → was_spawned before n ≡ false

-- the lowest rule that an event breaks
abbrev pub IsLowestAt : List SourceEvent → SourceEvent → Option Rule → Type 0
IsLowestAt before e None = (rule : Rule) → breaks_by rule Return before e ≡ false
IsLowestAt before e (Some rule) = (breaks_by rule Return before e ≡ true)
    × ((other : Rule) → number other < number rule → breaks_by other Return before e ≡ false)
