use Rattle.sharc_accepted_laws.proofs.Typable as typable
use Rattle.sharc_accepted_laws.proofs.accepted.expressions_law.Goals as goal

pub returns : goal.returns
returns c = typable.expressions_are_typable record {
  constraints = c.meets_constraints.ensures;
  one_type = c.one_type.ensures;
  meets_globals = c.meets_globals.ensures;
  themselves = c.each_names_itself.ensures;
  own = c.each_names_own.ensures;
  plain = c.are_plain.ensures;
  name_functions = c.spawns_name_functions.ensures;
  spawn_threads = c.spawns_threads.ensures;
  bases = c.bases_stand.ensures;
  fit = c.lvalues_fit.ensures;
  arrays = c.arrays_fit.ensures;
  found = c.expressions_found.ensures;
  pointees = c.pointees_fit.ensures;
  beside = c.locks_stand_beside.ensures;
  globals_are = c.globals_are.ensures;
  scopes = c.scope_laws.ensures;
  arguments_fit = c.arguments_fit.ensures;
  results = c.result_laws.ensures;
  functions_stand = c.functions_stand.ensures;
  spawned_begin = c.spawned_begin.ensures;
  values = c.value_laws.ensures;
  taking = c.taking_laws.ensures;
  calling = c.calling_laws.ensures;
  threads = c.threads_pass.ensures;
}
