use Rattle.sharc_reply_laws.proofs.Imports.{◌≡◌, List, [], ◌∷◌, ◌++◌, map, refl, ap, ◌∙◌, flat_map, PrintAt as Print, place_after, print_line, thread_line, value_line}
use Rattle.sharc_reply_laws.proofs.events.texts_begin_with_prints.Goals as goal

by_values : (prints : List Print) → flat_map print_line prints ≡ flat_map value_line (map (λ (p : Print). p.value) prints)
by_values [] = refl
by_values (p ∷ prints) = ap (λ l. print_line p ++ l) (by_values prints)

pub returns : goal.returns
returns c = λ code s fits run checked threads are text is.
    let told = c.prints_law.ensures code s fits run checked threads are is.prints is.in_order in
    let lines = flat_map (thread_line code (place_after code s run).words threads) threads in
    is.is ∙ ap (λ l. l ++ lines) (by_values is.prints ∙ ap (flat_map value_line) told.values)
