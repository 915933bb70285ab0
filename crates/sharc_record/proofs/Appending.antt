-- The word events of a run that goes on.
use Rattle.sharc_record.proofs.Imports.{◌≡◌, List, [], ◌∷◌, ◌++◌, sym, ap, ◌∙◌, append_assoc, append-nil, word_events, event_list}
use Rattle.sharc_code.specs.Runs.{Turn}

pub events-append : (later earlier : List Turn) → word_events (later ++ earlier) ≡ word_events earlier ++ word_events later
events-append [] earlier = sym (append-nil (word_events earlier))
events-append (turn ∷ later) earlier =
    ap (λ es. es ++ event_list turn.event) (events-append later earlier) ∙ append_assoc (word_events earlier) (word_events later) (event_list turn.event)
