-- The text of code: a line for each instruction, with its word and its operands.
use Rattle.std.specs.{Prelude.{ℕ, List, [], ◌∷◌, ◌++◌, codes, decimal}, List.flat_map, Fmt.signed_decimal}
use Rattle.sharc_code.specs.{declared.code.Code.Code, declared.instr.Width.Width}
use Rattle.sharc_code.specs.declared.instr.Width.TheVariants.{Char, Int as IntWidth, Long}
use Rattle.sharc_code.specs.declared.instr.Operator.{Operator}
use Rattle.sharc_code.specs.declared.instr.Operator.TheVariants.{Add, Subtract, Multiply, Divide, Remainder, ShiftLeft}
use Rattle.sharc_code.specs.declared.instr.Operator.TheVariants.{ShiftRight, And, Or, Xor, Equal, NotEqual, Less}
use Rattle.sharc_code.specs.declared.instr.Operator.TheVariants.{Greater, AtMost, AtLeast}
use Rattle.sharc_code.specs.declared.instr.Cell.{Cell}
use Rattle.sharc_code.specs.declared.instr.Cell.TheVariants.{Global, GlobalAt, Object, ObjectAt}
use Rattle.sharc_code.specs.{declared.instr.Register.Register, declared.instr.Register.TheVariants.{Int, Reference}}
use Rattle.sharc_code.specs.declared.instr.Instr.{Instr}
use Rattle.sharc_code.specs.declared.instr.Instr.TheVariants.{Constant, Move, MoveReference, Null, ComputeInt}
use Rattle.sharc_code.specs.declared.instr.Instr.TheVariants.{ComputeLong, NegateInt, NegateLong, Complement, Not}
use Rattle.sharc_code.specs.declared.instr.Instr.TheVariants.{SameReference, ChkWidth, Jump, JumpIfZero, JumpIfNull}
use Rattle.sharc_code.specs.declared.instr.Instr.TheVariants.{Call, Return, ChkNull, ChkHeld, ChkNotHeld, ChkPositive}
use Rattle.sharc_code.specs.declared.instr.Instr.TheVariants.{ChkRoom, ChkLock, ChkLockLoaded, Bounds, GlobalBounds}
use Rattle.sharc_code.specs.declared.instr.Instr.TheVariants.{ChkRead, ChkWrite, Load, Store, LoadRef, Exchange, Raise}
use Rattle.sharc_code.specs.declared.instr.Instr.TheVariants.{RaiseLoaded, Lower, New, TakeCell, TakeLocal, TestSole}
use Rattle.sharc_code.specs.declared.instr.Instr.TheVariants.{Clear, Give, Free, Lock, Unlock, Spawn, Join, Print}
use Rattle.sharc_code.specs.declared.instr.Instr.TheVariants.{Start, Exit, CondEnter, CondWait, CondSignal}
use Rattle.sharc_code.specs.declared.instr.Instr.TheVariants.{CondBroadcast}
use Rattle.sharc_code.specs.declared.lines.Operand.{Operand}
use Rattle.sharc_code.specs.declared.lines.Operand.TheVariants.{Index, Value, InCell, OfRegister, By, Fits}

abbrev pub operator_text : Operator → List ℕ
operator_text Add = codes " +"
operator_text Subtract = codes " -"
operator_text Multiply = codes " *"
operator_text Divide = codes " /"
operator_text Remainder = codes " %"
operator_text ShiftLeft = codes " <<"
operator_text ShiftRight = codes " >>"
operator_text And = codes " &"
operator_text Or = codes " |"
operator_text Xor = codes " ^"
operator_text Equal = codes " =="
operator_text NotEqual = codes " !="
operator_text Less = codes " <"
operator_text Greater = codes " >"
operator_text AtMost = codes " <="
operator_text AtLeast = codes " >="

abbrev pub width_text : Width → List ℕ
width_text Char = codes " char"
width_text IntWidth = codes " int"
width_text Long = codes " long"

-- a word with two numbers
abbrev pub pair_text : List ℕ → ℕ → ℕ → List ℕ
pair_text word a b = word ++ codes " " ++ decimal a ++ codes " " ++ decimal b

abbrev pub cell_text : Cell → List ℕ
cell_text (Global a b) = pair_text (codes " global") a b
cell_text (GlobalAt a b) = pair_text (codes " global_at") a b
cell_text (Object a b) = pair_text (codes " object") a b
cell_text (ObjectAt a b) = pair_text (codes " object_at") a b

abbrev pub register_text : Register → List ℕ
register_text (Int a) = codes " int" ++ codes " " ++ decimal a
register_text (Reference a) = codes " reference" ++ codes " " ++ decimal a

abbrev pub operand_text : Operand → List ℕ
operand_text (Index n) = codes " " ++ decimal n
operand_text (Value z) = codes " " ++ signed_decimal z
operand_text (InCell cell) = cell_text cell
operand_text (OfRegister register) = register_text register
operand_text (By operator) = operator_text operator
operand_text (Fits width) = width_text width

abbrev pub line : List ℕ → List Operand → List ℕ
line word operands = word ++ flat_map operand_text operands ++ codes "\n"

-- the operands are written as in the instruction: first those of cells, counts, objects, mutexes, threads and
-- conditions
abbrev pub shared_line_of : Instr → List ℕ
shared_line_of (Bounds a b c d e) = line (codes "bounds") (Index a ∷ Index b ∷ Index c ∷ Index d ∷ Index e ∷ [])
shared_line_of (GlobalBounds a b c d e) =
    line (codes "global_bounds") (Index a ∷ Index b ∷ Index c ∷ Index d ∷ Index e ∷ [])
shared_line_of (ChkRead a b) = line (codes "chk_read") (InCell a ∷ Index b ∷ [])
shared_line_of (ChkWrite a b) = line (codes "chk_write") (InCell a ∷ Index b ∷ [])
shared_line_of (Load a b c) = line (codes "load") (Index a ∷ InCell b ∷ Index c ∷ [])
shared_line_of (Store a b c) = line (codes "store") (Index a ∷ InCell b ∷ Index c ∷ [])
shared_line_of (LoadRef a b) = line (codes "load_ref") (InCell a ∷ Index b ∷ [])
shared_line_of (Exchange a b c) = line (codes "exchange") (Index a ∷ InCell b ∷ Index c ∷ [])
shared_line_of (Raise a b) = line (codes "raise") (Index a ∷ Index b ∷ [])
shared_line_of (RaiseLoaded a) = line (codes "raise_loaded") (Index a ∷ [])
shared_line_of (Lower a) = line (codes "lower") (Index a ∷ [])
shared_line_of (New a b c d) = line (codes "new") (Index a ∷ Index b ∷ Index c ∷ Index d ∷ [])
shared_line_of (TakeCell a b c) = line (codes "take_cell") (Index a ∷ InCell b ∷ Index c ∷ [])
shared_line_of (TakeLocal a b c) = line (codes "take_local") (Index a ∷ Index b ∷ Index c ∷ [])
shared_line_of (TestSole a b) = line (codes "test_sole") (Index a ∷ Index b ∷ [])
shared_line_of (Clear a b) = line (codes "clear") (Index a ∷ Index b ∷ [])
shared_line_of (Give a b) = line (codes "give") (Index a ∷ Index b ∷ [])
shared_line_of (Free a b c) = line (codes "free") (Index a ∷ Index b ∷ Index c ∷ [])
shared_line_of (Lock a b) = line (codes "lock") (InCell a ∷ Index b ∷ [])
shared_line_of (Unlock a b c) = line (codes "unlock") (Index a ∷ InCell b ∷ Index c ∷ [])
shared_line_of (Spawn a b c d) = line (codes "spawn") (Index a ∷ Index b ∷ OfRegister c ∷ Index d ∷ [])
shared_line_of (Join a b) = line (codes "join") (Index a ∷ Index b ∷ [])
shared_line_of (Print a b) = line (codes "print") (Index a ∷ Index b ∷ [])
shared_line_of (Start a) = line (codes "start") (Index a ∷ [])
shared_line_of Exit = line (codes "exit") ([])
shared_line_of (CondEnter a b) = line (codes "cond_enter") (InCell a ∷ Index b ∷ [])
shared_line_of (CondWait a b) = line (codes "cond_wait") (InCell a ∷ Index b ∷ [])
shared_line_of (CondSignal a b) = line (codes "cond_signal") (InCell a ∷ Index b ∷ [])
shared_line_of (CondBroadcast a b) = line (codes "cond_broadcast") (InCell a ∷ Index b ∷ [])
shared_line_of _ = []

-- those of registers alone, and the others
abbrev pub line_of : Instr → List ℕ
line_of (Constant a b) = line (codes "constant") (Index a ∷ Value b ∷ [])
line_of (Move a b) = line (codes "move") (Index a ∷ Index b ∷ [])
line_of (MoveReference a b) = line (codes "move_reference") (Index a ∷ Index b ∷ [])
line_of (Null a) = line (codes "null") (Index a ∷ [])
line_of (ComputeInt a b c d e) = line (codes "compute_int") (By a ∷ Index b ∷ Index c ∷ Index d ∷ Index e ∷ [])
line_of (ComputeLong a b c d e) = line (codes "compute_long") (By a ∷ Index b ∷ Index c ∷ Index d ∷ Index e ∷ [])
line_of (NegateInt a b c) = line (codes "negate_int") (Index a ∷ Index b ∷ Index c ∷ [])
line_of (NegateLong a b c) = line (codes "negate_long") (Index a ∷ Index b ∷ Index c ∷ [])
line_of (Complement a b) = line (codes "complement") (Index a ∷ Index b ∷ [])
line_of (Not a b) = line (codes "not") (Index a ∷ Index b ∷ [])
line_of (SameReference a b c) = line (codes "same_reference") (Index a ∷ Index b ∷ Index c ∷ [])
line_of (ChkWidth a b c) = line (codes "chk_width") (Fits a ∷ Index b ∷ Index c ∷ [])
line_of (Jump a) = line (codes "jump") (Index a ∷ [])
line_of (JumpIfZero a b) = line (codes "jump_if_zero") (Index a ∷ Index b ∷ [])
line_of (JumpIfNull a b) = line (codes "jump_if_null") (Index a ∷ Index b ∷ [])
line_of (Call a b c d) = line (codes "call") (Index a ∷ Index b ∷ Index c ∷ Index d ∷ [])
line_of (Return a) = line (codes "return") (Index a ∷ [])
line_of (ChkNull a b) = line (codes "chk_null") (Index a ∷ Index b ∷ [])
line_of (ChkHeld a b) = line (codes "chk_held") (InCell a ∷ Index b ∷ [])
line_of (ChkNotHeld a b) = line (codes "chk_not_held") (InCell a ∷ Index b ∷ [])
line_of (ChkPositive a b) = line (codes "chk_positive") (Index a ∷ Index b ∷ [])
line_of (ChkRoom a) = line (codes "chk_room") (Index a ∷ [])
line_of (ChkLock a b) = line (codes "chk_lock") (InCell a ∷ Index b ∷ [])
line_of (ChkLockLoaded a) = line (codes "chk_lock_loaded") (Index a ∷ [])
line_of instr = shared_line_of instr

abbrev pub listing_of : Code → List ℕ
listing_of code = flat_map line_of code.instrs.items
