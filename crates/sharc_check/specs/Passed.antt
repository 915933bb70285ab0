-- What is passed at a call or a spawn, as the code has it.
use Rattle.std.specs.Prelude.{Option, Some, None}
use Rattle.sharc_tree.specs.{Tree.{Arguments, argument, no_arguments}, View.{view_expr, view_arguments}}
use Rattle.sharc_mode.specs.{declared.sharing.Lock.{Lock as RustLock}, Sharings.Lock, View.view_lock}
use Rattle.sharc_check.specs.{declared.passing.Passed.Passed, declared.passing.Passed.TheVariants.{All, One}}

abbrev pub view_passed : Passed → Arguments
view_passed (All list) = view_arguments list.now
view_passed (One e) = argument (view_expr e.now) no_arguments

abbrev pub view_locks : Option RustLock → Option Lock
view_locks None = None
view_locks (Some l) = Some (view_lock l)
