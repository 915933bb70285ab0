-- The event file of a run of a program never ends before an event that is at fault.
use Rattle.sharc_trace_laws.proofs.Imports.{◌≡◌, ℕ, List, [], ◌∷◌, length, map, take, drop, ap, sym, subst, ◌∙◌, take-append-drop, SourceEvent, Assignment, RunLaws, Obeys, until_return, SourceRun, Code, EventLine, AreLines, RunsNeverFail, FrontsAreTyped, BuiltIsSound, KeepsTo, Cut, Refused, IsEnd, LinesAreOfSources, AreLinesOf, Event, told, told_of_event, history, NoneIsAtFault, map_take}

module _ (runs : RunLaws) (never : RunsNeverFail) (lines_are : LinesAreOfSources) (m : Assignment) (code : Code) where
  -- the first events of a run that keeps to the program
  first_lines : (lines : List EventLine) (events : List Event) (R : List SourceEvent) (n : ℕ) → map (told code) events ≡ map told_of_event R → AreLinesOf m.typed lines (take n events) → AreLines m.typed lines (take n R)
  first_lines lines events R n same are = lines_are m.typed code lines (take n events) (take n R) are (map_take (told code) n events ∙ ap (take n) same ∙ sym (map_take told_of_event n R))

  first_run : (R : List SourceEvent) (n : ℕ) → SourceRun m R → SourceRun m (take n R)
  first_run R n run = runs.prefixes m (take n R) (drop n R) (subst (SourceRun m) (sym (take-append-drop n R)) run)

  first_obey : (R : List SourceEvent) (n : ℕ) → Obeys R until_return → Obeys (take n R) until_return
  first_obey R n obey = runs.obeying until_return (take n R) (drop n R) (subst (λ z. Obeys z until_return) (sym (take-append-drop n R)) obey)

pub no_fault : FrontsAreTyped → BuiltIsSound → LinesAreOfSources → RunLaws → RunsNeverFail → NoneIsAtFault
no_fault typed sound lines_are runs never source built is_built file shape turns run reply is fault at =
    let m : Assignment = built.checked in
    let R : List SourceEvent = history built.code shape turns in
    let keeps : KeepsTo m R = sound source built is_built shape run.fits turns run.checked in
    let end : IsEnd m is.events is.is_front.lines (Refused fault) = subst (λ (c : Cut). IsEnd m is.events is.is_front.lines c) at is.is_front.ends in
    let n : ℕ = length end.0 in
    never m 65536 (take n R) end.0 _ fault (typed source m is_built.front is_built.accepted).resolved
    (first_run runs never lines_are m built.code R n keeps.source)
    (first_obey runs never lines_are m built.code R n keeps.obeys)
    (first_lines runs never lines_are m built.code end.0 is.events R n is.told_are end.1)
    end.2
