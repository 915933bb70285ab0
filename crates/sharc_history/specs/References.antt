-- To which object the value or the reference of an event refers. A value is compared with that of a source event as an
-- integer, which a reference and an integer may both be.
use Rattle.std.specs.Prelude.{ℕ, Option, Some, None}
use Rattle.sharc_code.specs.{declared.code.Code.Code, declared.code.Parameter.Parameter, declared.instr.Instr.Instr}
use Rattle.sharc_code.specs.declared.instr.Instr.TheVariants.{LoadRef, Exchange, TakeCell, TakeLocal, Give, Free}
use Rattle.sharc_code.specs.declared.instr.Instr.TheVariants.{Spawn, Start}
use Rattle.sharc_code.specs.{declared.instr.Register.Register, declared.state.Stage.Stage}
use Rattle.sharc_code.specs.declared.state.Stage.TheVariants.{Uncounts, Begins, Enters}
use Rattle.sharc_code.specs.Machine.{Machine, ref, function_of, instr_at}
use Rattle.sharc_code.specs.declared.code.Parameter.TheVariants as parameters
use Rattle.sharc_code.specs.declared.instr.Register.TheVariants as registers
use Rattle.sharc_history.specs.{declared.event.Deed.Deed, declared.event.GivenValue.GivenValue}
use Rattle.sharc_history.specs.{declared.next.Argument.Argument, declared.next.Next.Next}
use Rattle.sharc_history.specs.declared.event.Deed.TheVariants as deeds
use Rattle.sharc_history.specs.declared.event.GivenValue.TheVariants as values
use Rattle.sharc_history.specs.declared.next.Argument.TheVariants as arguments
use Rattle.sharc_history.specs.declared.next.Next.TheVariants as nexts

-- ---- of an event: the number of the object, 0 for NULL; an integer refers to none
abbrev pub value_refers : GivenValue → Option ℕ
value_refers (values.Int v) = None
value_refers (values.Reference r) = Some r.number

abbrev pub deed_refers : Deed → Option ℕ
deed_refers (deeds.Reads c v) = value_refers v
deed_refers (deeds.Writes c v) = value_refers v
deed_refers (deeds.Takes r) = Some r.number
deed_refers (deeds.Gives r) = Some r.number
deed_refers (deeds.Frees r) = Some r.number
deed_refers (deeds.Spawns f v n) = value_refers v
deed_refers (deeds.Starts v) = value_refers v
deed_refers _ = None

-- ---- by what is known before the step, and what that found
abbrev pub argument_refers : Argument → Option ℕ
argument_refers (arguments.Int v) = None
argument_refers (arguments.Reference number) = Some number

abbrev pub parameter_refers : Parameter → ℕ → Option ℕ
parameter_refers parameters.None found = None
parameter_refers parameters.Int found = None
parameter_refers parameters.Reference found = Some found

abbrev pub next_refers : Next → ℕ → Option ℕ
next_refers (nexts.ReadsReference c) found = Some found
next_refers (nexts.TakesCell c) found = Some found
next_refers (nexts.WritesReference c number) found = Some number
next_refers (nexts.Gives number) found = Some number
next_refers (nexts.Frees number) found = Some number
next_refers (nexts.Takes number) found = Some number
next_refers (nexts.Spawns f v n) found = argument_refers v
next_refers (nexts.Starts parameter) found = parameter_refers parameter found
next_refers _ found = None

-- ---- by the turn
abbrev pub register_refers : Machine → Register → Option ℕ
register_refers m (registers.Int r) = None
register_refers m (registers.Reference r) = Some (ref m r)

abbrev pub free_refers : Machine → ℕ → Stage → Option ℕ
free_refers m r (Uncounts all) = Some (ref m r)
free_refers m r _ = None

abbrev pub spawn_refers : Machine → Register → Stage → Option ℕ
spawn_refers m from (Begins n) = register_refers m from
spawn_refers m from _ = None

abbrev pub start_refers : Code → ℕ → Stage → Option ℕ
start_refers code found (Enters function) = parameter_refers (function_of code function).parameter found
start_refers code found _ = None

-- of a machine at this instruction, whose step found this
abbrev pub refers_by : Code → Machine → Instr → ℕ → Option ℕ
refers_by code m (LoadRef cell site) found = Some found
refers_by code m (TakeCell r cell site) found = Some found
refers_by code m (Exchange r cell site) found = Some (ref m r)
refers_by code m (TakeLocal r from site) found = Some (ref m from)
refers_by code m (Give r site) found = Some (ref m r)
refers_by code m (Free r layout site) found = free_refers m r m.own.stage
refers_by code m (Spawn r function from site) found = spawn_refers m from m.own.stage
refers_by code m (Start site) found = start_refers code found m.own.stage
refers_by code m _ found = None

abbrev pub refers_at : Code → Machine → ℕ → Option ℕ
refers_at code m found = refers_by code m (instr_at code m.at.pc) found
