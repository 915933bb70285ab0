use Rattle.sharc_word.proofs.Leading.{leads_legal, legal_leads, leads_longer, longer_leads}
use Rattle.sharc_word.proofs.laws.place_laws.Goals as goal

pub returns : goal.returns
returns c = record {
  words = λ from to events. (leads_legal from to events, (λ h. legal_leads from to events h.0 h.1));
  events = λ from to events. (leads_longer from to events, longer_leads from to events);
}
