-- What an event file says of an event, and the texts of its lines.
use Rattle.std.specs.Prelude.{◌≡◌, ◌⊎◌, ℕ, ℤ, FitsSigned, pos, ◌<◌, ◌≤◌, ◌^◌, List, [], ◌∷◌, ◌++◌, Option, Some}
use Rattle.std.specs.Prelude.{None, codes, decimal}
use Rattle.std.specs.{Fmt.signed_decimal, Int.w64}
use Rattle.sharc_tree.specs.Tree.{Function}
use Rattle.sharc_ctype.specs.Resolved.{Resolution, function_at}
use Rattle.sharc_audit.specs.{declared.line.EventLine.EventLine, declared.line.LineAct.LineAct}
use Rattle.sharc_audit.specs.{Grammar.{IsName, thread_most}, Lines.spawned_by}
use Rattle.sharc_audit.specs.declared.line.LineAct.TheVariants as line
use Rattle.sharc_history.specs.{declared.cells.Where.Where, declared.event.Deed.Deed, declared.event.Event.Event}
use Rattle.sharc_history.specs.{declared.event.Reference.Reference, declared.event.GivenValue.GivenValue}
use Rattle.sharc_history.specs.{Cells.{cell_text, reference_text}, Told.{Bare, shown}}
use Rattle.sharc_history.specs.declared.cells.Where.TheVariants as places
use Rattle.sharc_history.specs.declared.event.Deed.TheVariants as deeds
use Rattle.sharc_history.specs.declared.event.GivenValue.TheVariants as values
use Rattle.sharc_history.specs.Told as bare

-- ---- what a line can say: numbers of objects, cells and elements that the grammar has, and names
pub record IsFitObject (number cell : ℕ) : Type 0 where
  pub some : 1 ≤ number
  pub most : number ≤ 4294967295
  pub low : cell < 2 ^ 63

abbrev pub IsFitCell : Where → Type 0
IsFitCell (places.Global number cell) = (number ≤ thread_most) × (cell < 2 ^ 63)
IsFitCell (places.Made number cell) = IsFitObject number cell

pub record IsFitPair (r : Reference) : Type 0 where
  pub some : 1 ≤ r.number
  pub most : r.number ≤ 4294967295
  pub elements_some : 1 ≤ r.elements
  pub elements_most : r.elements ≤ 2147483647

abbrev pub IsFitReference : Reference → Type 0
IsFitReference r = (r.number ≡ 0) ⊎ IsFitPair r

abbrev pub IsFitValue : GivenValue → Type 0
IsFitValue (values.Int v) = FitsSigned w64 v
IsFitValue (values.Reference r) = IsFitReference r

-- the function of this number has this name, and it is one
pub record IsFunctionOf (r : Resolution) (f : ℕ) (name : List ℕ) : Type 0 where
  pub function : Function
  pub is : function_at r f ≡ Some function
  pub named : function.name.text ≡ name
  pub is_name : IsName name

abbrev pub IsThreadNumber : ℤ → Type 0
IsThreadNumber v = (n : ℕ) × (v ≡ pos n) × (n ≤ thread_most)

abbrev pub Writable : Resolution → Deed → Type 0
Writable r (deeds.Reads c v) = IsFitCell c × IsFitValue v
Writable r (deeds.Writes c v) = IsFitCell c × IsFitValue v
Writable r (deeds.Makes x) = IsFitReference x
Writable r (deeds.Takes x) = IsFitReference x
Writable r (deeds.Gives x) = IsFitReference x
Writable r (deeds.Frees x) = IsFitReference x
Writable r (deeds.Locks c) = IsFitCell c
Writable r (deeds.Unlocks c) = IsFitCell c
Writable r (deeds.Spawns f v n) = ((name : List ℕ) × IsFunctionOf r f name) × IsFitValue v × (n ≤ thread_most)
Writable r (deeds.Starts v) = IsFitValue v
Writable r (deeds.Joins v) = IsThreadNumber v
Writable r (deeds.Prints v) = FitsSigned w64 v
Writable r deeds.Returns = Unit {0}
Writable r deeds.Ends = Unit {0}
Writable r (deeds.Enters c) = ⊥
Writable r (deeds.Wakes c) = ⊥
Writable r (deeds.Signals c thread) = ⊥
Writable r (deeds.Broadcasts c) = ⊥

-- ---- the line of an event
abbrev pub line_of : Resolution → Bare → Option LineAct
line_of r (bare.Read c v) = Some (line.Read c v)
line_of r (bare.Write c v) = Some (line.Write c v)
line_of r (bare.New elements v) = Some (line.New v)
line_of r (bare.Take v) = Some (line.Take v)
line_of r (bare.Give v) = Some (line.Give v)
line_of r (bare.Freed v) = Some (line.Freed v)
line_of r (bare.Lock c) = Some (line.Lock c)
line_of r (bare.Unlock c) = Some (line.Unlock c)
line_of r (bare.Spawn f v n) = spawned_by (function_at r f) v n
line_of r (bare.Started v) = Some (line.Started v)
line_of r (bare.Join v) = Some (line.Join v)
line_of r (bare.Print v) = Some (line.Print v)
line_of r bare.Return = Some line.Return
line_of r bare.Gone = Some line.Gone
line_of r (bare.Enter c) = None
line_of r (bare.Woken c) = None
line_of r (bare.Signal c v) = None
line_of r (bare.Broadcast c) = None

pub record IsActOf (r : Resolution) (deed : Deed) (act : LineAct) : Type 0 where
  pub writable : Writable r deed
  pub is : line_of r (shown deed) ≡ Some act

pub record IsLineOf (r : Resolution) (l : EventLine) (e : Event) : Type 0 where
  pub thread : l.thread ≡ e.thread
  pub small : e.thread ≤ thread_most
  pub act : IsActOf r e.deed l.act

abbrev pub AreLinesOf : Resolution → List EventLine → List Event → Type 0
AreLinesOf r [] [] = Unit {0}
AreLinesOf r [] (e ∷ events) = ⊥
AreLinesOf r (l ∷ lines) [] = ⊥
AreLinesOf r (l ∷ lines) (e ∷ events) = IsLineOf r l e × AreLinesOf r lines events

-- ---- texts
abbrev pub value_text : GivenValue → List ℕ
value_text (values.Int v) = signed_decimal v
value_text (values.Reference r) = reference_text r

abbrev pub name_in : Option Function → List ℕ
name_in None = []
name_in (Some f) = f.name.text

abbrev pub deed_text : Resolution → Deed → List ℕ
deed_text r (deeds.Reads c v) = codes "read " ++ (cell_text c ++ 32 ∷ value_text v)
deed_text r (deeds.Writes c v) = codes "write " ++ (cell_text c ++ 32 ∷ value_text v)
deed_text r (deeds.Makes x) = codes "new " ++ reference_text x
deed_text r (deeds.Takes x) = codes "take " ++ reference_text x
deed_text r (deeds.Gives x) = codes "give " ++ reference_text x
deed_text r (deeds.Frees x) = codes "freed " ++ reference_text x
deed_text r (deeds.Locks c) = codes "lock " ++ cell_text c
deed_text r (deeds.Unlocks c) = codes "unlock " ++ cell_text c
deed_text r (deeds.Spawns f v n) =
    codes "spawn " ++ (name_in (function_at r f) ++ 32 ∷ (value_text v ++ 32 ∷ decimal n))
deed_text r (deeds.Starts v) = codes "started " ++ value_text v
deed_text r (deeds.Joins v) = codes "join " ++ signed_decimal v
deed_text r (deeds.Prints v) = codes "print " ++ signed_decimal v
deed_text r deeds.Returns = codes "return"
deed_text r deeds.Ends = codes "gone"
deed_text r _ = []

abbrev pub event_text : Resolution → Event → List ℕ
event_text r e = decimal e.thread ++ 32 ∷ deed_text r e.deed

abbrev pub events_text : Resolution → List Event → List ℕ
events_text r [] = []
events_text r (e ∷ events) = event_text r e ++ 10 ∷ events_text r events

-- a source, the header with the fuel, and the lines of these events
abbrev pub file_text : Resolution → List ℕ → List Event → List ℕ
file_text r source events = source ++ 10 ∷ (codes "%%events 65536" ++ 10 ∷ events_text r events)
