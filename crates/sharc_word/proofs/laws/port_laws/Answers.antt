use Rattle.sharc_word.proofs.Leading.{leads_split, leads_append}
use Rattle.sharc_word.proofs.laws.port_laws.Goals as goal

pub returns : goal.returns
returns g c = λ from to earlier later.
    (leads_split g.P.Port.leads from to earlier later, (λ h. leads_append g.P.Port.leads from h.0 to earlier later h.1 h.2))
