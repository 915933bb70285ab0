use Rattle.sharc_accepted_laws.proofs.Noted as noted
use Rattle.sharc_accepted_laws.proofs.Passed as passed
use Rattle.sharc_accepted_laws.proofs.references.arguments_pass.Goals as goal

pub returns : goal.returns
returns c = passed.arguments_pass c.each_type_found.ensures c.rules_are_met.ensures c.all_fair.ensures c.each_names_itself.ensures
    (λ r resolved placed low. noted.one_struct r (noted.all_say c.each_name_once.ensures c.only_names.ensures r resolved placed low))
