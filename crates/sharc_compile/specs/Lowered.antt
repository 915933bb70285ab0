-- The references whose count a path of a thread lowered since its last event, by their numbers.
use Rattle.std.specs.Prelude.{ℕ, List, [], ◌∷◌, ◌++◌, length, Option, Some, None}
use Rattle.sharc_tree.specs.declared.event.SourceEvent.{SourceEvent}
use Rattle.sharc_code.specs.{declared.code.Code.Code, declared.instr.Instr.Instr}
use Rattle.sharc_code.specs.{declared.instr.Instr.TheVariants.Lower, declared.shape.Shape.Shape}
use Rattle.sharc_code.specs.{Machine.{Machine, ref, instr_at}, Path.machine_after}
use Rattle.sharc_compile.specs.Consistent.{Elements, said_now}

-- what this instruction lowers; 0 where its register has no reference
abbrev pub lowered_by : Machine → Instr → List ℕ
lowered_by m (Lower r) = ref m r ∷ []
lowered_by m _ = []

-- a turn that reports an event begins anew
abbrev pub unless_told : Option SourceEvent → List ℕ → List ℕ
unless_told None lowered = lowered
unless_told (Some e) lowered = []

abbrev pub lowered_in : Code → Shape → Machine → (ℕ → Elements) → List ℕ → List ℕ
lowered_in code s m elements [] = []
lowered_in code s m elements (found ∷ earlier) =
    let now = machine_after code s m earlier in
    unless_told (said_now code (elements (length earlier)) now found) (lowered_in code s m elements earlier
    ++ lowered_by now (instr_at code now.at.pc))
