-- The lines of a run in the words of its source: one for each event, and then one for each thread that waits or was
-- stopped.
use Rattle.std.specs.Prelude.{ℕ, ◌==◌, ◌&&◌, Bool, false, List, [], ◌∷◌, ◌++◌, Option, Some, None, codes, decimal, drop}
use Rattle.std.specs.Prelude.{slice_index, slice_index_or, slice_range, if◌then◌else◌}
use Rattle.std.specs.{Fmt.signed_decimal, List.flat_map}
use Rattle.sharc_tree.specs.{declared.token.Site.Site, Traps.trap_number}
use Rattle.sharc_heap.specs.declared.shadow_word.Kind.{Kind}
use Rattle.sharc_heap.specs.declared.shadow_word.Kind.TheVariants as kinds
use Rattle.sharc_code.specs.{declared.code.Code.Code, declared.code.PlaceMode.PlaceMode, declared.code.Text.Text}
use Rattle.sharc_code.specs.{declared.code.Use.Use, declared.state.Stop.Stop, Machine.function_of, Says.place_at}
use Rattle.sharc_code.specs.declared.code.PlaceMode.TheVariants as modes
use Rattle.sharc_code.specs.declared.code.Use.TheVariants as uses
use Rattle.sharc_code.specs.declared.state.Stop.TheVariants as stops
use Rattle.sharc_history.specs.{declared.cells.Origin.Origin, declared.cells.Where.Where, declared.event.Deed.Deed}
use Rattle.sharc_history.specs.{declared.event.Event.Event, declared.event.Reference.Reference}
use Rattle.sharc_history.specs.{declared.event.GivenValue.GivenValue, declared.next.Coming.Coming}
use Rattle.sharc_history.specs.{declared.next.Next.Next, Told.site_of, declared.last.Halt.Halt, declared.last.Last.Last}
use Rattle.sharc_history.specs.Cells.{cell_text, reference_text}
use Rattle.sharc_history.specs.declared.cells.Origin.TheVariants as origins
use Rattle.sharc_history.specs.declared.cells.Where.TheVariants as places
use Rattle.sharc_history.specs.declared.event.Deed.TheVariants as deeds
use Rattle.sharc_history.specs.declared.event.GivenValue.TheVariants as values
use Rattle.sharc_history.specs.declared.next.Next.TheVariants as nexts
use Rattle.sharc_history.specs.declared.last.Halt.TheVariants as halts

-- ---- how things are written in the source
abbrev pub text_of : Code → Text → List ℕ
text_of code t = slice_range code.texts.items t.from t.until

-- the lock of a mode behind a pointer is written as the mutex, `*P`; what is read is P
abbrev pub behind_star : List ℕ → List ℕ
behind_star text = if slice_index text 0 == 42 then drop 1 text else text

-- what an event is of
abbrev pub lvalue_of : Code → Origin → List ℕ
lvalue_of code (origins.Site site) = text_of code (place_at code site).lvalue
lvalue_of code (origins.Wait site wait) = text_of code (place_at code wait).lvalue
lvalue_of code (origins.Lock site lock) = behind_star (text_of code (place_at code lock).lock)
lvalue_of code (origins.Function function) = text_of code (function_of code function).name

-- ---- the name of a mutex or a condition
abbrev pub is_same : Where → Where → Bool
is_same (places.Global a i) (places.Global b j) = a == b && i == j
is_same (places.Global a i) (places.Made b j) = false
is_same (places.Made a i) (places.Global b j) = false
is_same (places.Made a i) (places.Made b j) = a == b && i == j

-- a lock and a wait have an lvalue
abbrev pub names : Deed → Where → Bool
names (deeds.Locks c) cell = is_same c cell
names (deeds.Enters c) cell = is_same c cell
names _ cell = false

-- where the last of these events, the newest first, is that has one for this cell
abbrev pub last_named : List Event → Where → Option Origin
last_named [] cell = None
last_named (e ∷ earlier) cell = if names e.deed cell then Some e.origin else last_named earlier cell

-- so is the cell called; nothing where there is none
abbrev pub called : Code → Option Origin → List ℕ
called code None = []
called code (Some origin) = lvalue_of code origin

-- what an unlock, a signal or a broadcast is of, since it has no lvalue in the code
abbrev pub named_by : Code → List Event → Deed → List ℕ
named_by code earlier (deeds.Unlocks c) = called code (last_named earlier c)
named_by code earlier (deeds.Signals c woken) = called code (last_named earlier c)
named_by code earlier (deeds.Broadcasts c) = called code (last_named earlier c)
named_by code earlier _ = []

abbrev pub or_named : List ℕ → List ℕ → List ℕ
or_named [] name = name
or_named (byte ∷ lvalue) name = byte ∷ lvalue

-- how what the event is of is written, where these are the events before it, the newest first
abbrev pub name_of : Code → List Event → Event → List ℕ
name_of code earlier e = or_named (lvalue_of code e.origin) (named_by code earlier e.deed)

-- ---- pieces
-- `THREAD FILE:LINE` and a tab
abbrev pub place_text : Code → ℕ → Site → List ℕ
place_text code thread site =
    decimal thread ++ 32 ∷ (slice_index_or code.files site.file [] ++ 58 ∷ (decimal site.line ++ 9 ∷ []))

-- `NULL`, or an object with its elements, `oH[E]`
abbrev pub object_text : Reference → List ℕ
object_text r =
    if r.number == 0 then codes "NULL" else codes "o" ++ (decimal r.number ++ 91 ∷ (decimal r.elements ++ 93 ∷ []))

abbrev pub seen_text : GivenValue → List ℕ
seen_text (values.Int v) = signed_decimal v
seen_text (values.Reference r) = object_text r

-- a word, a blank and what it is of
abbrev pub worded : List ℕ → List ℕ → List ℕ
worded word text = word ++ 32 ∷ text

abbrev pub mode_word : PlaceMode → List ℕ
mode_word modes.Private = codes "private"
mode_word modes.Readonly = codes "readonly"
mode_word modes.Racy = codes "racy"
mode_word modes.Dynamic = codes "dynamic"
mode_word _ = codes "locked"

-- ---- an event
-- a reference is taken by a free or by a cast
abbrev pub taking_by : Use → List ℕ
taking_by (uses.Free variable) = codes "free"
taking_by _ = codes "cast"

abbrev pub taking : Code → Origin → List ℕ
taking code (origins.Site site) = taking_by (place_at code site).at
taking code _ = codes "cast"

abbrev pub woken_text : Option ℕ → List ℕ
woken_text None = codes " to nobody"
woken_text (Some thread) = codes " to " ++ decimal thread

-- what it does, where what it is of is written so
abbrev pub deed_words : Code → Origin → List ℕ → Deed → List ℕ
deed_words code origin lvalue (deeds.Reads c v) = worded (codes "read") (worded lvalue (seen_text v))
deed_words code origin lvalue (deeds.Writes c v) = worded (codes "write") (worded lvalue (seen_text v))
deed_words code origin lvalue (deeds.Makes r) = worded (codes "malloc") (object_text r)
deed_words code origin lvalue (deeds.Takes r) = worded (taking code origin) (worded lvalue (object_text r))
deed_words code origin lvalue (deeds.Gives r) = worded (codes "given") (object_text r)
deed_words code origin lvalue (deeds.Frees r) = worded (codes "freed") (object_text r)
deed_words code origin lvalue (deeds.Locks c) = worded (codes "lock") lvalue
deed_words code origin lvalue (deeds.Unlocks c) = worded (codes "unlock") lvalue
deed_words code origin lvalue (deeds.Spawns f v n) = worded (codes "spawn")
    (worded (text_of code (function_of code f).name) (seen_text v ++ (codes " as " ++ decimal n)))
deed_words code origin lvalue (deeds.Starts v) = worded (codes "start") (worded lvalue (seen_text v))
deed_words code origin lvalue (deeds.Joins v) = worded (codes "join") (signed_decimal v)
deed_words code origin lvalue (deeds.Prints v) = worded (codes "print") (signed_decimal v)
deed_words code origin lvalue deeds.Returns = worded (codes "return") lvalue
deed_words code origin lvalue deeds.Ends = worded (codes "gone") lvalue
deed_words code origin lvalue (deeds.Enters c) = worded (codes "wait") lvalue
deed_words code origin lvalue (deeds.Wakes c) = worded (codes "woken") lvalue
deed_words code origin lvalue (deeds.Signals c woken) = worded (codes "signal") (lvalue ++ woken_text woken)
deed_words code origin lvalue (deeds.Broadcasts c) = worded (codes "broadcast") lvalue

-- the cell, or the reference
abbrev pub object_of : Deed → List ℕ
object_of (deeds.Reads c v) = cell_text c
object_of (deeds.Writes c v) = cell_text c
object_of (deeds.Locks c) = cell_text c
object_of (deeds.Unlocks c) = cell_text c
object_of (deeds.Enters c) = cell_text c
object_of (deeds.Wakes c) = cell_text c
object_of (deeds.Signals c woken) = cell_text c
object_of (deeds.Broadcasts c) = cell_text c
object_of (deeds.Makes r) = reference_text r
object_of (deeds.Takes r) = reference_text r
object_of (deeds.Gives r) = reference_text r
object_of (deeds.Frees r) = reference_text r
object_of _ = []

-- the mode of what is read or written; `path` where the pointer of a lock path is read
abbrev pub read_mode : Code → Origin → List ℕ
read_mode code (origins.Site site) = mode_word (place_at code site).mode
read_mode code (origins.Lock site lock) = codes "path"
read_mode code _ = []

abbrev pub write_mode : Code → Origin → List ℕ
write_mode code (origins.Site site) = mode_word (place_at code site).mode
write_mode code _ = []

abbrev pub mode_of : Code → Origin → Deed → List ℕ
mode_of code origin (deeds.Reads c v) = read_mode code origin
mode_of code origin (deeds.Writes c v) = write_mode code origin
mode_of code origin _ = []

-- behind tabs what it does, the cell or the reference, and the mode
abbrev pub columns : List ℕ → List ℕ → List ℕ → List ℕ
columns words object mode = words ++ 9 ∷ (object ++ 9 ∷ (mode ++ 10 ∷ []))

abbrev pub event_line : Code → List Event → Event → List ℕ
event_line code earlier e =
    place_text code e.thread (site_of code e.origin) ++ columns
    (deed_words code e.origin (name_of code earlier e) e.deed) (object_of e.deed) (mode_of code e.origin e.deed)

-- of all these events, before which there were those, the newest first
abbrev pub event_lines : Code → List Event → List Event → List ℕ
event_lines code earlier [] = []
event_lines code earlier (e ∷ events) = event_line code earlier e ++ event_lines code (e ∷ earlier) events

-- ---- a thread that waits
abbrev pub next_words : Code → Origin → Next → List ℕ
next_words code origin (nexts.Locks c) = worded (codes "next lock") (lvalue_of code origin)
next_words code origin (nexts.Wakes c) = worded (codes "next woken") (lvalue_of code origin)
next_words code origin (nexts.Joins v) = worded (codes "next join") (signed_decimal v)
next_words code origin _ = codes "next"

abbrev pub next_cell : Next → List ℕ
next_cell (nexts.Locks c) = cell_text c
next_cell (nexts.Wakes c) = cell_text c
next_cell _ = []

abbrev pub waiting_line : Code → ℕ → Coming → List ℕ
waiting_line code thread c =
    place_text code thread (site_of code c.origin) ++ columns (next_words code c.origin c.next) (next_cell c.next) []

-- ---- a thread that was stopped
abbrev pub refused_by : Use → List ℕ
refused_by uses.Read = codes "refused read"
refused_by uses.Write = codes "refused write"
refused_by (uses.Cast variable) = codes "refused cast"
refused_by (uses.Free variable) = codes "refused free"
refused_by uses.Other = codes "refused read"

-- the act at this site, with the code of the report
abbrev pub refused : Code → ℕ → List ℕ → List ℕ
refused code site report =
    worded (refused_by (place_at code site).at) (worded (text_of code (place_at code site).lvalue) report)

abbrev pub conflict_code : Kind → List ℕ
conflict_code kinds.Read = codes "A1"
conflict_code kinds.Write = codes "A2"

abbrev pub stop_words : Code → Stop → List ℕ
stop_words code (stops.Conflict c) = refused code c.site (conflict_code c.kind)
stop_words code (stops.NoLock site word) = refused code site (codes "A3")
stop_words code (stops.NotSole site count) = refused code site (codes "A4")
stop_words code (stops.Trap trap site) = codes "stopped X" ++ decimal (trap_number trap)

abbrev pub stop_site : Stop → ℕ
stop_site (stops.Conflict c) = c.site
stop_site (stops.NoLock site word) = site
stop_site (stops.NotSole site count) = site
stop_site (stops.Trap trap site) = site

-- the cell that was looked at, if there is one
abbrev pub looked_at : Option Where → List ℕ
looked_at None = []
looked_at (Some c) = cell_text c

-- its mode, where an access of it was refused
abbrev pub refused_mode : PlaceMode → Stop → List ℕ
refused_mode mode (stops.Conflict c) = mode_word mode
refused_mode mode (stops.NoLock site word) = mode_word mode
refused_mode mode (stops.NotSole site count) = []
refused_mode mode (stops.Trap trap site) = []

abbrev pub stopped_line : Code → ℕ → Stop → Option Where → List ℕ
stopped_line code thread stop cell =
    place_text code thread (place_at code (stop_site stop)).site
    ++ columns (stop_words code stop) (looked_at cell) (refused_mode (place_at code (stop_site stop)).mode stop)

abbrev pub halt_line : Code → ℕ → Halt → List ℕ
halt_line code thread (halts.Waits coming) = waiting_line code thread coming
halt_line code thread (halts.Stopped stop cell) = stopped_line code thread stop cell

abbrev pub last_line : Code → Last → List ℕ
last_line code last = halt_line code last.thread last.halt

-- ---- the whole text
abbrev pub places_text : Code → List Event → List Last → List ℕ
places_text code events lasts = event_lines code [] events ++ flat_map (last_line code) lasts
