-- A load of bits that stand is an Or of them, and one that finds them not leaves the seat as it was.
use Rattle.sharc_bus.proofs.{Imports.{◌≡◌, ℕ, suc, ◌+◌, ◌%◌, ◌^◌, ◌<◌, length, arith, refl, ap, ◌∙◌, WordOp, Or, word_after, own_bit, own_bits, first_number}, Steps.{step_allowed, standing_allowed, not_standing}, step.make_or.Goals.{then-bits-own+else-found-bits, else-bits-own+then-bits-own-2+else-found-bits-2, else-bits-own+else-bits-own-2}}
use Rattle.sharc_bus.proofs.step.make_or.Goals as goal

pub load-found-requires : goal.load-found-requires
load-found-requires g c =
    let w = c.args.words.now in
    let seat = c.args.seat.now in
    let inside : c.args.word < length w.key.words.items = omega (arith, c.requires.opening, c.requires.word) in
    (c.requires.own, c.requires.word, standing_allowed c.history_laws.ensures w.key.words.items (suc w.key.ports) w.table_id.slots seat.id seat.me c.args.word (own_bit (first_number seat.me.0)) c.requires.part inside)

pub load-found-requires-then-bits-own-2 : goal.load-found-requires-then-bits-own-2
load-found-requires-then-bits-own-2 g c =
    let w = c.args.words.now in
    let seat = c.args.seat.now in
    let inside : c.args.word < length w.key.words.items = omega (arith, c.requires.opening, c.requires.word) in
    (c.requires.own, c.requires.word, standing_allowed c.history_laws.ensures w.key.words.items (suc w.key.ports) w.table_id.slots seat.id seat.me c.args.word (own_bits (first_number seat.me.0)) c.requires.part inside)

pub fetch_or-requires : goal.fetch_or-requires
fetch_or-requires g c =
    let w = c.args.words.now in
    let seat = c.if-bits-own.seat in
    let inside : c.args.word < length w.key.words.items = omega (arith, c.requires.opening, c.requires.word) in
    let op : WordOp = Or c.args.bits in
    let kept : (seat.table_id ≡ c.args.seat.now.table_id) × (seat.me ≡ c.args.seat.now.me) =
    elim c.if-bits-own.branch [
      | then-bits-own+else-found-bits v ↦
          let told = v.load-found.ensures in
          (ap (λ x. x.table_id) v.seat-is ∙ told.0, ap (λ x. x.me) v.seat-is ∙ not_standing c.args.seat.now.me _ _ v.load-found.result (own_bit (first_number c.args.seat.now.me.0)) c.args.bits told.2 (v.if-bits-own.true ∙ c.requires.bit) v.if-found-bits.false)
      | else-bits-own+then-bits-own-2+else-found-bits-2 v ↦
          let told = v.load-found-then-bits-own-2.ensures in
          let is : c.args.bits ≡ own_bits (first_number c.args.seat.now.me.0) = v.if-bits-own-2.true ∙ ap (λ (n : ℕ). (n + 1) % 2 ^ 64) c.requires.bit in
          (ap (λ x. x.table_id) v.seat-is ∙ told.0, ap (λ x. x.me) v.seat-is ∙ not_standing c.args.seat.now.me _ _ v.load-found-then-bits-own-2.result (own_bits (first_number c.args.seat.now.me.0)) c.args.bits told.2 is v.if-found-bits-2.false)
      | else-bits-own+else-bits-own-2 v ↦ (ap (λ x. x.table_id) v.seat-is, ap (λ x. x.me) v.seat-is)
    ] in
    (kept.0 ∙ c.requires.own, c.requires.word, step_allowed c.history_laws.ensures w.key.words.items (suc w.key.ports) w.table_id.slots seat.id seat.me record { word = c.args.word; op = op } (word_after op) (c.requires.part.0, ap (λ m. m.0) kept.1 ∙ c.requires.part.1) (λ n. refl) inside)
