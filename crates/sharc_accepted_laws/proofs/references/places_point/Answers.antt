use Rattle.sharc_accepted_laws.proofs.Points as points
use Rattle.sharc_accepted_laws.proofs.references.places_point.Goals as goal

pub returns : goal.returns
returns c = points.places_point c.row_laws.ensures c.expressions_found.ensures c.one_type.ensures c.rules_are_met.ensures c.each_type_found.ensures c.each_path_found.ensures c.meets_constraints.ensures c.each_name_once.ensures c.only_names.ensures c.fields_placed.ensures
