use Rattle.sharc_seq.proofs.{Imports.{◌≡◌, None, filter, get_or, may_turn_at}, Choosing.firsts}
use Rattle.sharc_seq.proofs.walk.collect.Given as goal

abbrev pub invariant-loop-index : goal.invariant-loop-index
invariant-loop-index l = l.among.items ≡ filter (λ t. may_turn_at l.words l.limit (get_or l.table.seats.items t None)) (firsts l.index l.started.items)
