use Rattle.sharc_run.proofs.Imports.{◌≡◌, ◌++◌, take, flat_map, print_line}
use Rattle.sharc_run.proofs.text.put_prints.Given as goal

abbrev pub invariant-loop-p : goal.invariant-loop-p
invariant-loop-p l = l.text.items ≡ l.fn.text.items ++ flat_map print_line (take l.p-index l.prints)
