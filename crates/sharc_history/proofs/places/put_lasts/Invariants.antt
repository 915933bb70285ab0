use Rattle.std.proofs.Common.{◌≡◌, ◌++◌, take}
use Rattle.std.specs.List.{flat_map}
use Rattle.sharc_history.specs.Places.{last_line}
use Rattle.sharc_history.proofs.places.put_lasts.Given as goal

abbrev pub invariant-loop-last : goal.invariant-loop-last
invariant-loop-last l = l.text.items ≡ l.fn.text.items ++ flat_map (last_line l.code) (take l.last-index l.lasts)
