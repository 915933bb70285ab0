-- What is written of a run is of its events.
use Rattle.std.proofs.Common.{◌≡◌, ℕ, List, [], ◌∷◌, map, take, ap, sym, ◌∙◌}
use Rattle.std.specs.Prelude.{reverse}
use Rattle.sharc_mode.specs.Moded.{Assignment}
use Rattle.sharc_code.specs.{declared.code.Code.Code, declared.shape.Shape.Shape, Runs.Turn}
use Rattle.sharc_history.specs.{declared.event.Event.Event, History.references_of, References.deed_refers, Told.{told, told_of_event}}
use Rattle.sharc_traced.specs.{declared.cut.EventPrefix.EventPrefix, Cut.IsFront, Writing.file_text, EventFileLaws.LinesAreOfSources}
use Rattle.sharc_traced.specs.{declared.reply.Reply.Reply, Replies.{status_by, why_by, history, IsFileOfRun}}
use Rattle.sharc_lemmas.proofs.Lists.{map_take}

pub file_of : (law : LinesAreOfSources) (m : Assignment) (code : Code) (source : List ℕ) (s : Shape) (turns : List Turn) (events : List Event) (front : EventPrefix) (reply : Reply) → map (told code) events ≡ map told_of_event (history code s turns)
    → map (λ (e : Event). deed_refers e.deed) events ≡ reverse (references_of code s turns)
    → IsFront m events front → reply.text.items ≡ file_text m.typed source (take front.count events) → reply.status ≡ status_by front.cut → reply.why ≡ why_by front.count front.cut → IsFileOfRun m code source s turns reply
file_of law m code source s turns events front reply same refers is text status why = record {
  is = record {
    events = events;
    told_are = same;
    front = front;
    is_front = is;
    lines_are = law m.typed code is.lines (take front.count events) (take front.count (history code s turns)) is.are
        (map_take (told code) front.count events ∙ ap (take front.count) same ∙ sym (map_take told_of_event front.count (history code s turns)));
    text = text;
    status = status;
    why = why;
  };
  references = refers;
}
