-- Statements that follow each other, typed from a label to a label.
use Rattle.std.specs.Prelude.{List, [], ◌∷◌}
use Rattle.sharc_code.specs.{declared.code.Code.Code, declared.instr.Instr.Instr}
use Rattle.sharc_code.specs.declared.instr.Instr.TheVariants.{Jump, JumpIfZero, JumpIfNull}
use Rattle.sharc_invariant.specs.{Types.Targets, Labels.{Label, Labels}, Typed.Fine}

-- each place has this label
abbrev pub all_at : Labels → Label → Labels
all_at ls k = record ls { at = λ pc. k }

-- A statement that leads to the next place alone is typed, where the first label is known before it and the second one
-- at the next place.
abbrev pub Steps : Targets → Code → Labels → Label → Label → Instr → Type 0
Steps x code ls l k (Jump to) = ⊥
Steps x code ls l k (JumpIfZero r to) = ⊥
Steps x code ls l k (JumpIfNull r to) = ⊥
Steps x code ls l k i = Fine x code (all_at ls k) 0 l i

abbrev pub first_or : Label → List Label → Label
first_or k [] = k
first_or k (l ∷ labels) = l

-- Such statements one after the other: before each one of these labels is known, and after the last one that label.
abbrev pub Chain : Targets → Code → Labels → List Label → List Instr → Label → Type 0
Chain x code ls [] [] k = Unit {0}
Chain x code ls (l ∷ labels) (i ∷ is) k = Steps x code ls l (first_or k labels) i × Chain x code ls labels is k
Chain x code ls _ _ k = ⊥
