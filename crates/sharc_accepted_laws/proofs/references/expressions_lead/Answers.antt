use Rattle.sharc_accepted_laws.proofs.StaticLeading as leading
use Rattle.sharc_accepted_laws.proofs.references.expressions_lead.Goals as goal

pub returns : goal.returns
returns c = leading.expressions_lead c.rules_are_met.ensures c.fields_placed.ensures c.own_found.ensures c.each_type_found.ensures c.each_path_found.ensures c.meets_constraints.ensures c.one_type.ensures c.each_name_once.ensures
    c.only_names.ensures c.each_names_itself.ensures c.each_names_own.ensures
