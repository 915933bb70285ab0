use Rattle.sharc_sound_laws.proofs.Compiled as compiled
use Rattle.sharc_sound_laws.proofs.alike.compiled_are_alike.Goals as goal

pub returns : goal.returns
returns c = compiled.compiled_are_alike c.one_function_of_name.ensures
