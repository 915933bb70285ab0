use Rattle.std.proofs.Common.{◌≡◌, [], ◌++◌, take, drop}
use Rattle.std.specs.Prelude.{reverse}
use Rattle.sharc_history.specs.{Names.AreNames, Places.event_lines}
use Rattle.sharc_history.proofs.places.put_events.Given as goal

abbrev pub invariant-loop-i : goal.invariant-loop-i
invariant-loop-i l = record {
  text : l.text.items ++ event_lines l.code (reverse (take l.i l.events)) (drop l.i l.events) ≡ l.fn.text.items ++ event_lines l.code [] l.events;
  names : AreNames l.names (reverse (take l.i l.events));
}
