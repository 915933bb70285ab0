-- Tests of events, and of pairs of events, as Bool: what the private functions say.
use Rattle.std.specs.Prelude.{ℕ, ℤ, pos, ◌+◌, ◌==◌, Bool, true, false, not, ◌&&◌, ◌||◌, List, [], ◌∷◌, ◌++◌, Option}
use Rattle.std.specs.Prelude.{Some, None, nat_lt, if◌then◌else◌}
use Rattle.std.specs.List.{list_any}
use Rattle.sharc_tree.specs.{declared.event.Act.Act, declared.event.CellAt.CellAt, declared.event.CellMode.CellMode}
use Rattle.sharc_tree.specs.declared.event.CellMode.TheVariants.{Private, Readonly, Locked, Racy, Dynamic}
use Rattle.sharc_tree.specs.{declared.event.Object.Object, declared.event.Object.TheVariants.{Global, Made}}
use Rattle.sharc_tree.specs.declared.event.SourceEvent.{SourceEvent}
use Rattle.sharc_meaning.specs.Events.{same_object, same_cell, granule_of, Access, access_by, makes, frees, begins}
use Rattle.sharc_meaning.specs.Events.{locks, unlocks, latest}
use Rattle.sharc_meaning.specs.Store.{changes, is_live, meets, is_natural, spawns, is_gone, enters, takes_away}
use Rattle.sharc_meaning.specs.Store.{is_waiter}
use Rattle.sharc_meaning.specs.Obeys as obeys
use Rattle.sharc_judge.specs.{declared.access.CellAccess.CellAccess, declared.history.Test.Test}
use Rattle.sharc_judge.specs.{declared.pair.Pair.Pair, declared.pair.Until.Until, declared.rule.Rule.Rule}
use Rattle.sharc_judge.specs.declared.history.Test.TheVariants as test
use Rattle.sharc_judge.specs.declared.pair.Pair.TheVariants as pair
use Rattle.sharc_judge.specs.declared.pair.Until.TheVariants as until
use Rattle.sharc_judge.specs.declared.rule.Rule.TheVariants as rule

-- ---- views

abbrev pub view_access : CellAccess → Access
view_access a = record { cell = a.cell; mode = a.mode; is_write = a.is_write }

abbrev pub view_until : Until → obeys.Until
view_until until.Return = obeys.until_return
view_until until.Gone = obeys.until_gone

-- ---- the same

abbrev pub same_mutex : Option CellAt → Option CellAt → Bool
same_mutex None None = true
same_mutex (Some c) (Some d) = same_cell c d
same_mutex _ _ = false

abbrev pub same_mode : CellMode → CellMode → Bool
same_mode Private Private = true
same_mode Readonly Readonly = true
same_mode (Locked c) (Locked d) = same_mutex c d
same_mode Racy Racy = true
same_mode Dynamic Dynamic = true
same_mode _ _ = false

abbrev pub is_dynamic : CellMode → Bool
is_dynamic Dynamic = true
is_dynamic _ = false

-- ---- tests of an event

abbrev pub ends_of : Until → Act → Bool
ends_of u a = obeys.ends (view_until u) a

abbrev pub test_of : Test → SourceEvent → Bool
test_of (test.Changes c) e = changes c e
test_of (test.Makes o) e = makes o e
test_of (test.MakesOrFrees o) e = makes o e || frees o e
test_of (test.Begins o) e = begins o e
test_of (test.BeginsOrFrees o) e = begins o e || frees o e
test_of (test.Locks c) e = locks c e
test_of (test.LocksOrUnlocks c) e = locks c e || unlocks c e
test_of (test.Unlocks c thread) e = (e.thread == thread) && unlocks c e
test_of (test.Enters c thread) e = enters c thread e
test_of (test.EntersOrLeaves c thread) e = enters c thread e || takes_away c thread e
test_of (test.IsOf thread) e = e.thread == thread
test_of (test.Spawns thread) e = spawns thread e
test_of (test.Goes thread) e = is_gone e.act && is_natural e.thread thread
test_of (test.Ends u thread) e = (e.thread == thread) && ends_of u e.act

abbrev pub meets_latest : Test → Test → List SourceEvent → Bool
meets_latest t among events = meets (test_of t) (latest (test_of among) events)

-- ---- tests of an event and those between it and a place

abbrev pub any_pair : (SourceEvent → List SourceEvent → Bool) → List SourceEvent → Bool
any_pair q [] = false
any_pair q (d ∷ rest) = q d rest || any_pair q rest

-- the cell is the same, and the mode is another
abbrev pub disagrees : Access → Option Access → Bool
disagrees b None = false
disagrees b (Some a) = same_cell a.cell b.cell && not (same_mode a.mode b.mode)

-- the granule is the same, and one of them is a write
abbrev pub conflicts : Access → Option Access → Bool
conflicts b None = false
conflicts b (Some a) = is_dynamic a.mode && (same_object a.cell.object b.cell.object
    && (granule_of a.cell == granule_of b.cell && (a.is_write || b.is_write)))

abbrev pub pair_of : Pair → SourceEvent → List SourceEvent → Bool
pair_of (pair.Holds c thread) d between =
    ((d.thread == thread) && locks c d) && not (list_any (test_of (test.Unlocks c thread)) between)
pair_of (pair.OtherMode b) d between =
    disagrees (view_access b) (access_by d.act) && not (list_any (test_of (test.BeginsOrFrees b.cell.object)) between)
pair_of (pair.Conflicts u thread b) d between =
    (not (d.thread == thread) && conflicts (view_access b) (access_by d.act)) && (not
    (list_any (test_of (test.Begins b.cell.object)) between) && not (list_any (test_of (test.Ends u d.thread)) between))

-- ---- tests of an event and those before it

abbrev pub any_place : (List SourceEvent → SourceEvent → Bool) → List SourceEvent → List SourceEvent → Bool
any_place p before [] = false
any_place p before (e ∷ rest) = p before e || any_place p (before ++ e ∷ []) rest

-- ---- the lowest of the threads that wait

abbrev pub or_lower : Bool → ℕ → Option ℕ → Option ℕ
or_lower false thread least = least
or_lower true thread None = Some thread
or_lower true thread (Some other) = Some (if nat_lt thread other then thread else other)

abbrev pub lower_waiter : List SourceEvent → CellAt → SourceEvent → Option ℕ → Option ℕ
lower_waiter before c e least = or_lower (is_waiter before c e.thread) e.thread least

abbrev pub lowest_from : List SourceEvent → CellAt → Option ℕ → List SourceEvent → Option ℕ
lowest_from before c least [] = least
lowest_from before c least (e ∷ rest) = lowest_from before c (lower_waiter before c e least) rest

abbrev pub lowest_waiter : List SourceEvent → CellAt → List SourceEvent → Option ℕ
lowest_waiter before c events = lowest_from before c None events

-- what a Signal answers
abbrev pub waiter_answer : Option ℕ → ℤ
waiter_answer None = pos 0
waiter_answer (Some thread) = pos (thread + 1)

-- ---- the rules

abbrev pub is_there : List SourceEvent → Object → Bool
is_there before (Global g) = true
is_there before (Made n) = is_live before (Made n)

abbrev pub not_by_owner : CellMode → List SourceEvent → Object → ℕ → Bool
not_by_owner Private before o thread = not (obeys.is_owner before o thread)
not_by_owner _ before o thread = false

abbrev pub is_written : CellMode → Bool → Bool
is_written Readonly is_write = is_write
is_written _ is_write = false

abbrev pub without_lock : CellMode → List SourceEvent → ℕ → Bool
without_lock (Locked (Some mutex)) before thread = not (any_pair (pair_of (pair.Holds mutex thread)) before)
without_lock _ before thread = false

abbrev pub beside : CellMode → Until → List SourceEvent → ℕ → CellAccess → Bool
beside Dynamic u before thread a = any_pair (pair_of (pair.Conflicts u thread a)) before
beside _ u before thread a = false

abbrev pub breaks : Rule → Until → List SourceEvent → ℕ → CellAccess → Bool
breaks rule.Live u before thread a = not (is_there before a.cell.object)
breaks rule.OneMode u before thread a = any_pair (pair_of (pair.OtherMode a)) before
breaks rule.Owner u before thread a = not_by_owner a.mode before a.cell.object thread
breaks rule.NotWritten u before thread a = is_written a.mode a.is_write
breaks rule.UnderItsLock u before thread a = without_lock a.mode before thread
breaks rule.ReadSharedOrOneThread u before thread a = beside a.mode u before thread a

abbrev pub of_access : Access → CellAccess
of_access a = record { cell = a.cell; mode = a.mode; is_write = a.is_write }

abbrev pub breaks_with : Rule → Until → List SourceEvent → ℕ → Option Access → Bool
breaks_with rule u before thread None = false
breaks_with rule u before thread (Some a) = breaks rule u before thread (of_access a)

abbrev pub breaks_by : Rule → Until → List SourceEvent → SourceEvent → Bool
breaks_by rule u before e = breaks_with rule u before e.thread (access_by e.act)
