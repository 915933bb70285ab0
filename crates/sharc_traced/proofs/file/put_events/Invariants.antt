use Rattle.std.proofs.Common.{◌≡◌, ◌++◌, drop}
use Rattle.sharc_traced.specs.Writing.{events_text}
use Rattle.sharc_traced.proofs.file.put_events.Given as goal

abbrev pub invariant-loop-i : goal.invariant-loop-i
invariant-loop-i l = l.text.items ++ events_text l.typed (drop l.i l.events) ≡ l.fn.text.items ++ events_text l.typed l.events
