use Rattle.sharc_wants_laws.proofs.{Imports.{◌∷◌, []}, Holders.only, Tables.has_tables}
use Rattle.sharc_wants_laws.proofs.sole.tested_are_only.Goals as goal

pub returns : goal.returns
returns c = λ m p flat flattens fits code is s ls wt fits_code small first test earlier checked register passes holder there.
    let kept = c.pointers_kept_law.ensures in
    only kept.made kept.globals kept.others c.globals_point.ensures m code (has_tables m flat flattens code is)
    (c.threads_hold_none.ensures m p flat flattens fits code is) (c.arguments_hold_none.ensures m p.typed flat flattens fits code is) c.mutexes_hold_none.ensures c.cells_hold_none.ensures
    (c.freed_are_taken.ensures m p flat flattens fits code is)
    s ls wt fits_code small first test earlier checked (c.seen_law.ensures.begins code s (test ∷ []) earlier checked) register passes holder there
