use Rattle.sharc_threads.proofs.{Imports.{List, [], ◌∷◌, ◌++◌, sym, ap, ◌∙◌, ThreadView, present}, Listing.present_append}
use Rattle.sharc_threads.proofs.table.ThreadTable.into_started.Goals as goal

pub loop-seat-preserved : goal.loop-seat-preserved
loop-seat-preserved c =
    c.in_ok-push_present.ensures
    ∙ ap (λ (threads : List ThreadView). threads ++ present (c.in-Some.seat ∷ [])) c.loop-seat.invariant
    ∙ sym (present_append c.loop-seat.yielded (c.in-Some.seat ∷ []))
