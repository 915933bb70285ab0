use Rattle.sharc_seq.proofs.Imports.{◌≡◌, None, filter, get_or, is_some, range_with_len}
use Rattle.sharc_seq.proofs.walk.list_started.Given as goal

abbrev pub invariant-loop-number : goal.invariant-loop-number
invariant-loop-number l = l.started.items ≡ filter (λ t. is_some (get_or l.table.seats.items t None)) (range_with_len 0 l.number)
