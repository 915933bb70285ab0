-- A seat keeps its one part.
use Rattle.sharc_bus.proofs.Imports.{ℕ, sym, List, [], ◌∷◌, ◌++◌, ap, ◌∙◌, event_of, Part, with_step, own_bit, first_number}
use Rattle.sharc_bus.proofs.seat.BusSeat.step.Goals as goal

pub invariant_of-self : goal.invariant_of-self
invariant_of-self g c =
    let one = c.self.invariant.0 in
    let told = c.make_step.ensures.appended in
    let made : Part = record { number = one.0.number; words = one.0.words; events = one.0.events ++ event_of one.0.number c.args.step c.make_step.result ∷ [] } in
    let is = ap (λ m. m.0) told ∙ ap (λ (v : List Part). with_step v c.args.step c.make_step.result) one.1 in
    let bit_of : List Part → ℕ = λ v. own_bit (first_number v) in
    ((made, is), ap (λ m. m.1) told ∙ c.self.invariant.1, c.self.invariant.2 ∙ (ap bit_of one.1 ∙ sym (ap bit_of is)))
