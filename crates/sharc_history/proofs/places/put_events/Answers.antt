use Rattle.std.proofs.Common.{◌<◌, List, length, take, arith}
use Rattle.std.specs.Prelude.{reverse}
use Rattle.sharc_history.specs.declared.event.Event.{Event}
use Rattle.sharc_history.proofs.Naming.{line_more, names_more}
use Rattle.sharc_history.proofs.places.put_events.Goals as goal

pub loop-i-preserved : goal.loop-i-preserved
loop-i-preserved c =
    let events : List Event = c.args.events.now in
    let i = c.loop-i.i in
    let low : i < length events = omega arith in
    record {
      text = line_more c.args.code.now events i _ c.loop-i.text.items c.put_event.new.text.items _ low (c.in_ok-put_event.ensures (reverse (take i events)) c.loop-i.invariant.names) c.loop-i.invariant.text;
      names = names_more c.note.new.self events i _ low (c.in_ok-note.ensures (reverse (take i events)) c.loop-i.invariant.names);
    }
