-- Names of ports tell buses and numbers apart.
use Rattle.sharc_bus.proofs.Imports.{◌≡◌, TableId, SeatView, name_of}

same_table : (a b : TableId) → a.words ≡ b.words → a.slots ≡ b.slots → a.views_name ≡ b.views_name → a.atom ≡ b.atom → a.block ≡ b.block → a.offset ≡ b.offset → a.slot_names ≡ b.slot_names → a ≡ b
same_table a b w s v m k o n = λ i. record { words = w i; slots = s i; views_name = v i; atom = m i; block = k i; offset = o i; slot_names = n i }

pub names_tell : (one other : SeatView) → name_of one ≡ name_of other → (one.bus ≡ other.bus) × (one.number ≡ other.number)
names_tell one other same =
    let w : one.bus.words ≡ other.bus.words = cc in
    let s : one.bus.slots ≡ other.bus.slots = cc in
    let v : one.bus.views_name ≡ other.bus.views_name = cc in
    let m : one.bus.atom ≡ other.bus.atom = cc in
    let k : one.bus.block ≡ other.bus.block = cc in
    let o : one.bus.offset ≡ other.bus.offset = cc in
    let n : one.bus.slot_names ≡ other.bus.slot_names = cc in
    let number : one.number ≡ other.number = cc in
    (same_table one.bus other.bus w s v m k o n, number)
