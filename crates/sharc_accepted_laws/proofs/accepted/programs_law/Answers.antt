use Rattle.sharc_accepted_laws.proofs.Starts as starts
use Rattle.sharc_accepted_laws.proofs.accepted.programs_law.Goals as goal

pub returns : goal.returns
returns c = starts.programs_typable c.expressions_law.ensures c.bases_stand.ensures
    (record {
      values = c.value_laws.ensures;
      scopes = c.scope_laws.ensures;
      held = c.held_laws.ensures;
      given = c.given_laws.ensures;
      numbers = c.numbers_found.ensures;
      found = c.expressions_found.ensures;
      pointees = c.pointees_fit.ensures;
      points = c.pointees_point.ensures;
    })
    (record {
      constraints = c.meets_constraints.ensures;
      statements = c.meets_statements.ensures;
      itself = c.each_names_itself.ensures;
      own = c.each_names_own.ensures;
      plain = c.are_plain.ensures;
      fair = c.all_fair.ensures;
    })
    c.result_laws.ensures c.variables_found.ensures c.typed_suits.ensures c.functions_stand.ensures
    (record {
      threads = c.spawns_threads.ensures;
      begin = c.spawned_begin.ensures;
      main = c.has_main.ensures;
      one = c.one_function_of_name.ensures;
      limits = c.within_limits.ensures;
    })
