-- The first instruction of the code of flat code.
use Rattle.sharc_sound_laws.proofs.Imports.{◌≡◌, ap, ◌∙◌, List, get_or as slice_index_or, Code, Instr, instr_at, FlatCode, generated, IsCodeOf}

pub first_is : (flat : FlatCode) (code : Code) → IsCodeOf flat code → instr_at code 0 ≡ Instr.Start 0
first_is flat code is = ap (λ (is : List Instr). slice_index_or is 0 Instr.Exit) is.generated.instrs ∙ ap (λ (statements : List Instr). slice_index_or (generated is.g.functions.items statements) 0 Instr.Exit) is.made.statements
