-- The numbers of the traps.
use Rattle.std.specs.Prelude.{ℕ}
use Rattle.sharc_tree.specs.declared.trap.Trap.{Trap}
use Rattle.sharc_tree.specs.declared.trap.Trap.TheVariants as traps

-- the number after the X
abbrev pub trap_number : Trap → ℕ
trap_number traps.NullPointer = 1
trap_number traps.IndexOutOfBounds = 2
trap_number traps.DivisionByZero = 3
trap_number traps.OutOfRange = 4
trap_number traps.MutexNotHeld = 5
trap_number traps.MutexAlreadyHeld = 6
trap_number traps.NoSuchThread = 7
trap_number traps.ThreadLimit = 8
trap_number traps.HeapFull = 9
trap_number traps.CallDepth = 10
trap_number traps.ReturnWithLockHeld = 11
trap_number traps.SizeNotPositive = 12
trap_number traps.TooManyLocks = 13
