-- No part has begun, so the words of the closed table are those that are there.
use Rattle.sharc_bus.proofs.{Imports.{◌≡◌, suc, List, sym, ap, ◌∙◌, Part, unbegun, words_known, BusView, RestView}, Settling.words_stand}
use Rattle.sharc_bus.proofs.bus.Bus.close.Goals as goal

pub returns : goal.returns
returns g c =
    let shared = c.self.inside.table.shared in
    let inner = c.into_inner.ensures in
    let seat = c.into_inner.result in
    let parts : List Part = seat.me.0 in
    let ports = sym (ap (λ (r : RestView). r.ports) inner.view) ∙ c.requires.bus.ports_are ∙ sym (ap (λ (b : BusView). b.ports) c.self.view_is) in
    let is : parts ≡ unbegun (words_known parts) 0 (suc shared.key.ports) = inner.rest.parts ∙ ap (λ n. unbegun (words_known parts) 0 (suc n)) ports in
    let end = c.close_with-closed.ensures.values.2 in
    let stand = words_stand shared.key.words.items shared.key.ports seat.id parts is end.0 end.1.0 end.1.1 in
    c.read_words.ensures ∙ sym end.2 ∙ stand ∙ sym (ap (λ (r : RestView). r.words) inner.view)
