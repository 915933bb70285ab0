use Rattle.sharc_reply_laws.proofs.{Imports.{place_after, events_in, printed_in}, Logged.{holds, logged}, PrintOrder.{places_are, values_are}}
use Rattle.sharc_reply_laws.proofs.events.prints_law.Goals as goal

pub returns : goal.returns
returns c = λ code s fits run checked threads are prints order.
    let h = holds c.run_laws.ensures c.standing_laws.ensures code s run ((c.run_laws.ensures.checked code s run).0 checked) in
    let g = place_after code s run in
    let log = logged code s run in
    let values = printed_in (events_in code s run) in
    record {
      values = values_are code s fits g log values h threads are prints order;
      places = places_are code s fits g log values h threads are prints order;
    }
