-- A turn does not look at whether the turn before was a failed try.
use Rattle.sharc_code.proofs.Imports.{◌≡◌, ℕ, refl, Code, Instr, GlobalAt, Object, ObjectAt, Shape, Parameter, Stage, Rests, Enters, argument_word, Machine, Asks, step_of, act, instr_at, called, with_parameter, function_of, start, turn, settled, Register, WordOp}
use Rattle.sharc_code.specs.declared.instr.Cell.TheVariants.{Global}

same_entered : (code : Code) (m : Machine) (function site argument : ℕ) (parameter : Parameter)
    → called (with_parameter (record (settled m) { own = record m.own { stage = Rests; function = function } }) parameter argument) (function_of code function).entry 0 0 site
    ≡ called (with_parameter (record m { own = record m.own { stage = Rests; function = function } }) parameter argument) (function_of code function).entry 0 0 site
same_entered code m function site argument Parameter.None = refl
same_entered code m function site argument Parameter.Int = refl
same_entered code m function site argument Parameter.Reference = refl

same_start : (code : Code) (m : Machine) (site : ℕ) (stage : Stage) → start code (settled m) site stage ≡ start code m site stage
same_start code m site (Enters function) =
    λ i. Asks (step_of (argument_word m.own.number) WordOp.Load) (λ argument. same_entered code m function site argument (function_of code function).parameter i)
same_start code m site stage = refl

same_act : (code : Code) (s : Shape) (i : Instr) (m : Machine) → act code s i (settled m) ≡ act code s i m
same_act code s (Instr.Lock (Global global at) site) m = refl
same_act code s (Instr.Lock (GlobalAt global r) site) m = refl
same_act code s (Instr.Lock (Object r at) site) m = refl
same_act code s (Instr.Lock (ObjectAt r at) site) m = refl
same_act code s (Instr.Spawn r function (Register.Int from) site) m = refl
same_act code s (Instr.Spawn r function (Register.Reference from) site) m = refl
same_act code s (Instr.Start site) m = same_start code m site m.own.stage
same_act code s _ m = refl

pub same_turn : (code : Code) (s : Shape) (m : Machine) → turn code s (settled m) ≡ turn code s m
same_turn code s m = same_act code s (instr_at code m.at.pc) m
