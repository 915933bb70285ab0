use Rattle.sharc_suggest_laws.proofs.Typed.{stays_typed}
use Rattle.sharc_suggest_laws.proofs.laws.stays_typed.Goals as goal

pub returns : goal.returns
returns c =
    stays_typed c.same_kinds.ensures (record {
      once = c.each_name_once.ensures;
      only = c.only_names.ensures;
      itself = c.each_names_itself.ensures;
      found = c.each_type_found.ensures;
      types = c.meets_constraints.ensures;
      one = c.one_type.ensures;
      fair = c.all_fair.ensures;
    })
