-- Names of ports tell shared journals and numbers apart.
use Rattle.sharc_record.proofs.Imports.{◌≡◌, TableId, SeatView, name_of}

same_table : (a b : TableId) → a.words ≡ b.words → a.slots ≡ b.slots → a.views_name ≡ b.views_name → a.atom ≡ b.atom → a.block ≡ b.block → a.offset ≡ b.offset → a.slot_names ≡ b.slot_names → a ≡ b
same_table a b w s v m k o n = λ i. record { words = w i; slots = s i; views_name = v i; atom = m i; block = k i; offset = o i; slot_names = n i }

pub names_tell : (one other : SeatView) → name_of one ≡ name_of other → (one.id ≡ other.id) × (one.count ≡ other.count) × (one.number ≡ other.number)
names_tell one other same =
    let w : one.id.words ≡ other.id.words = cc in
    let s : one.id.slots ≡ other.id.slots = cc in
    let v : one.id.views_name ≡ other.id.views_name = cc in
    let m : one.id.atom ≡ other.id.atom = cc in
    let k : one.id.block ≡ other.id.block = cc in
    let o : one.id.offset ≡ other.id.offset = cc in
    let n : one.id.slot_names ≡ other.id.slot_names = cc in
    let count : one.count ≡ other.count = cc in
    let number : one.number ≡ other.number = cc in
    (same_table one.id other.id w s v m k o n, count, number)
