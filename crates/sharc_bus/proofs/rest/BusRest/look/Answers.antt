-- No part has begun, so the word is the one of which the parts know.
use Rattle.sharc_bus.proofs.{Imports.{◌≡◌, suc, List, ap, ◌∙◌, Part, unbegun, words_known, RestView}, Settling.look_allowed}
use Rattle.sharc_bus.proofs.rest.BusRest.look.Goals as goal

pub load-requires : goal.load-requires
load-requires g c =
    let words = c.args.words.now in
    let seat = c.self.inside.seat in
    let parts : List Part = seat.me.0 in
    let ports = ap (λ (r : RestView). r.ports) c.self.view_is ∙ c.requires.ports in
    let is : parts ≡ unbegun (words_known parts) 0 (suc words.key.ports) = c.self.invariant.parts ∙ ap (λ n. unbegun (words_known parts) 0 (suc n)) ports in
    (ap (λ (r : RestView). r.bus) c.self.view_is ∙ c.requires.own, c.requires.number, look_allowed words.key.words.items words.key.ports words.table_id.slots seat.id c.args.number seat.me is)
