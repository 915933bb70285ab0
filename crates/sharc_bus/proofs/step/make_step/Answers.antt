-- Each operation of the table does what the operation of the step says.
use Rattle.sharc_bus.proofs.{Imports.{◌≡◌, ℕ, suc, ◌<◌, ◌==◌, Bool, true, false, length, arith, refl, if◌then◌else◌, either, WordOp, Load, Swap, Add, Sub, And, Cas, word_after}, Steps.step_allowed}
use Rattle.sharc_bus.proofs.step.make_step.Goals as goal

pub load-requires : goal.load-requires
load-requires g c =
    let w = c.args.words.now in
    let seat = c.args.seat.now in
    let inside : c.args.step.word < length w.key.words.items = omega (arith, c.requires.opening, c.requires.word) in
    let op : WordOp = Load in
    (c.requires.own, c.requires.word, step_allowed c.history_laws.ensures w.key.words.items (suc w.key.ports) w.table_id.slots seat.id seat.me record { word = c.args.step.word; op = op } (word_after op) c.requires.part (λ n. refl) inside)

pub swap-requires : goal.swap-requires
swap-requires g c =
    let w = c.args.words.now in
    let seat = c.args.seat.now in
    let inside : c.args.step.word < length w.key.words.items = omega (arith, c.requires.opening, c.requires.word) in
    let op : WordOp = Swap c.in-Swap.new in
    (c.requires.own, c.requires.word, step_allowed c.history_laws.ensures w.key.words.items (suc w.key.ports) w.table_id.slots seat.id seat.me record { word = c.args.step.word; op = op } (word_after op) c.requires.part (λ n. refl) inside)

pub fetch_add-requires : goal.fetch_add-requires
fetch_add-requires g c =
    let w = c.args.words.now in
    let seat = c.args.seat.now in
    let inside : c.args.step.word < length w.key.words.items = omega (arith, c.requires.opening, c.requires.word) in
    let op : WordOp = Add c.in-Add.number in
    (c.requires.own, c.requires.word, step_allowed c.history_laws.ensures w.key.words.items (suc w.key.ports) w.table_id.slots seat.id seat.me record { word = c.args.step.word; op = op } (word_after op) c.requires.part (λ n. refl) inside)

pub fetch_sub-requires : goal.fetch_sub-requires
fetch_sub-requires g c =
    let w = c.args.words.now in
    let seat = c.args.seat.now in
    let inside : c.args.step.word < length w.key.words.items = omega (arith, c.requires.opening, c.requires.word) in
    let op : WordOp = Sub c.in-Sub.number in
    (c.requires.own, c.requires.word, step_allowed c.history_laws.ensures w.key.words.items (suc w.key.ports) w.table_id.slots seat.id seat.me record { word = c.args.step.word; op = op } (word_after op) c.requires.part (λ n. refl) inside)

pub fetch_and-requires : goal.fetch_and-requires
fetch_and-requires g c =
    let w = c.args.words.now in
    let seat = c.args.seat.now in
    let inside : c.args.step.word < length w.key.words.items = omega (arith, c.requires.opening, c.requires.word) in
    let op : WordOp = And c.in-And.bits in
    (c.requires.own, c.requires.word, step_allowed c.history_laws.ensures w.key.words.items (suc w.key.ports) w.table_id.slots seat.id seat.me record { word = c.args.step.word; op = op } (word_after op) c.requires.part (λ n. refl) inside)

either_is : (b : Bool) (m n : ℕ) → either b m n ≡ (if b then m else n)
either_is true m n = refl
either_is false m n = refl

pub compare_exchange-requires : goal.compare_exchange-requires
compare_exchange-requires g c =
    let w = c.args.words.now in
    let seat = c.args.seat.now in
    let inside : c.args.step.word < length w.key.words.items = omega (arith, c.requires.opening, c.requires.word) in
    let old : ℕ = c.in-Cas.expected in
    let new : ℕ = c.in-Cas.new in
    let f : ℕ → ℕ = λ n. either (n == old) new n in
    (c.requires.own, c.requires.word, step_allowed c.history_laws.ensures w.key.words.items (suc w.key.ports) w.table_id.slots seat.id seat.me record { word = c.args.step.word; op = Cas old new } f c.requires.part (λ n. either_is (n == old) new n) inside)
