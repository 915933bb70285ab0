-- The cell of which a check speaks.
use Rattle.std.specs.Prelude.{ℕ, ◌+◌, ◌%◌, ◌^◌, Option, Some, None}
use Rattle.sharc_tree.specs.declared.event.CellAt.{CellAt}
use Rattle.sharc_code.specs.{declared.code.Code.Code, declared.instr.Instr.Instr}
use Rattle.sharc_code.specs.declared.instr.Instr.TheVariants.{Load, Store, LoadRef, Exchange, TakeCell, ChkRead}
use Rattle.sharc_code.specs.declared.instr.Instr.TheVariants.{ChkWrite, ChkLock, ChkLockLoaded, TestSole}
use Rattle.sharc_code.specs.{Machine.{Machine, instr_at, ref}, Says.{cell_at, made_cell}}

-- the cell that an instruction accesses
abbrev pub accessed : Code → Machine → Instr → Option CellAt
accessed code m (Load r cell site) = Some (cell_at code m cell)
accessed code m (Store r cell site) = Some (cell_at code m cell)
accessed code m (LoadRef cell site) = Some (cell_at code m cell)
accessed code m (Exchange r cell site) = Some (cell_at code m cell)
accessed code m (TakeCell r cell site) = Some (cell_at code m cell)
accessed code m _ = None

-- A check of a read or a write has its cell; behind that of a lock is the access; and a test of references has its
-- object, of which it is the first cell
abbrev pub checked : Code → Machine → Instr → Option CellAt
checked code m (ChkRead cell site) = Some (cell_at code m cell)
checked code m (ChkWrite cell site) = Some (cell_at code m cell)
checked code m (ChkLock cell site) = accessed code m (instr_at code ((m.at.pc + 1) % 2 ^ 64))
checked code m (ChkLockLoaded site) = accessed code m (instr_at code ((m.at.pc + 1) % 2 ^ 64))
checked code m (TestSole r site) = Some (made_cell (ref m r) 0)
checked code m _ = None

abbrev pub refused_at : Code → Machine → Option CellAt
refused_at code m = checked code m (instr_at code m.at.pc)
