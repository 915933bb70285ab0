-- The reads of a granule under mode dynamic since it was last written or taken under it.
use Rattle.std.specs.Prelude.{ℕ, ◌+◌, Bool, true, false, ◌&&◌, List, [], ◌∷◌, ◌++◌, Option, Some, None, if◌then◌else◌}
use Rattle.std.specs.{HashMap.{get, HashMap}, List.list_any, declared.vec.Vec.Vec}
use Rattle.sharc_tree.specs.declared.event.SourceEvent.{SourceEvent}
use Rattle.sharc_meaning.specs.Events.{Access, access_by}
use Rattle.sharc_judge.specs.{declared.access.CellAccess.CellAccess, declared.pair.Until.TheVariants.Return}
use Rattle.sharc_judge.specs.{Deciding.{is_dynamic, pair_of}, declared.keys.GranuleKey.GranuleKey}
use Rattle.sharc_judge.specs.{declared.table.Noted.Noted, Latest.{latest_about, last_begin, is_behind}}
use Rattle.sharc_judge.specs.Topics.{granule_key}
use Rattle.sharc_judge.specs.declared.pair.Pair.TheVariants as pair
use Rattle.sharc_judge.specs.contracts.keys.GranuleKeyPartialEq.TheImpl as granule_eq
use Rattle.sharc_judge.specs.declared.topics.Topic.TheVariants as topic

abbrev pub same_granule : GranuleKey → GranuleKey → Bool
same_granule = granule_eq.ghosts.eq

-- the event is an access of the granule under mode dynamic
abbrev pub is_shared : GranuleKey → Option Access → Bool
is_shared q None = false
is_shared q (Some a) = is_dynamic a.mode && same_granule (granule_key a.cell) q

abbrev pub is_write : Option Access → Bool
is_write None = false
is_write (Some a) = a.is_write

abbrev pub with_shared : Bool → Noted → List Noted → List Noted
with_shared true noted reads = []
with_shared false noted reads = reads ++ noted ∷ []

-- an event more: a write ends the list, a read is added
abbrev pub with_read : GranuleKey → Noted → List Noted → List Noted
with_read q noted reads =
    if is_shared q (access_by noted.event.act) then with_shared (is_write (access_by noted.event.act)) noted reads
    else reads

abbrev pub reads_from : GranuleKey → ℕ → List Noted → List SourceEvent → List Noted
reads_from q n reads [] = reads
reads_from q n reads (e ∷ rest) = reads_from q (n + 1) (with_read q (record { place = n; event = e }) reads) rest

abbrev pub reads_of : GranuleKey → List SourceEvent → List Noted
reads_of q = reads_from q 0 []

-- what a table has for a granule
abbrev pub reads_found : {A : Type 0} → Option (Vec Noted A) → List Noted
reads_found None = []
reads_found (Some v) = v.items

abbrev pub reads_in : {S A : Type 0} → HashMap GranuleKey (Vec Noted A) S → GranuleKey → List Noted
reads_in table q = reads_found (get same_granule table q)

-- ---- whether the access of an event that was noted still counts, and must not be made beside this one

abbrev pub is_against : ℕ → CellAccess → List SourceEvent → Noted → Bool
is_against thread a R noted =
    pair_of (pair.Conflicts Return thread a) noted.event []
    && (is_behind noted.place (last_begin a.cell.object R)
    && is_behind noted.place (latest_about (topic.Return noted.event.thread) R))

abbrev pub against_noted : ℕ → CellAccess → List SourceEvent → Option Noted → Bool
against_noted thread a R None = false
against_noted thread a R (Some noted) = is_against thread a R noted

-- that of the last write of its granule is
abbrev pub against_write : ℕ → CellAccess → List SourceEvent → Bool
against_write thread a R = against_noted thread a R (latest_about (topic.SharedWrite (granule_key a.cell)) R)

-- that of a read of it since is
abbrev pub against_reads : ℕ → CellAccess → List SourceEvent → Bool
against_reads thread a R = list_any (is_against thread a R) (reads_of (granule_key a.cell) R)
