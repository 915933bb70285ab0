use Rattle.sharc_trace_laws.proofs.Faultless.{no_fault}
use Rattle.sharc_trace_laws.proofs.laws.none_is_at_fault.Goals as goal

pub returns : goal.returns
returns c = no_fault c.fronts_are_typed.ensures c.built_is_sound.ensures c.lines_are_of_sources.ensures c.run_laws.ensures c.runs_never_fail.ensures
