-- What is written is an event file of the run's first events, and audit answers that they obey.
use Rattle.sharc_trace_laws.proofs.{Imports.{◌≡◌, ℕ, ◌≤◌, List, ◌++◌, length, refl, ap, sym, subst, ◌∙◌, append_assoc, codes, decimal, Appends, Assignment, Verdict, EventLine, IsEventFile, text_lines, IsFront, HoldsNoEvents, ProgramsHoldNoEvents, AuditLaws, IsAudited, LinesAreCut, FilesAreAudited, FilesAreEventFiles}, Files.{file_is, file_short}}

holds_none : ProgramsHoldNoEvents → (source : List ℕ) (m : Assignment) → IsFront source m → HoldsNoEvents source
holds_none programs source m front = programs source front.typed.tokens m.typed.program front.typed.read front.typed.reads

pub event_files : ProgramsHoldNoEvents → LinesAreCut → FilesAreEventFiles
event_files programs law source built is_built within history reply is =
    let m : Assignment = built.checked in
    let lines : List EventLine = is.is_front.lines in
    let few : length lines ≤ 4096 = is.is_front.few in
    record {
      short = subst (λ (t : List ℕ). length t ≤ 16777216) (sym is.text) (file_short m.typed source lines _ within few is.is_front.are);
      file = subst (λ (t : List ℕ). IsEventFile (text_lines t) source 65536 lines) (sym is.text) (file_is law m.typed source lines _ (holds_none programs source m is_built.front) is.is_front.are);
      few = few;
    }

pub audited : FilesAreEventFiles → AuditLaws → FilesAreAudited
audited files audits source built is_built within history reply is words asked old new code replied =
    let m : Assignment = built.checked in
    let lines : List EventLine = is.is_front.lines in
    let ready : IsAudited words reply.text.items m 65536 lines = record {
      asked = asked;
      source = source;
      file = files source built is_built within history reply is;
      within = within;
      front = is_built.front;
      meets = is_built.accepted;
    } in
    let told = audits.told words reply.text.items m 65536 lines ready (Verdict.Obeys (length lines)) (refl, is.is_front.accepted) old new code replied in
    let text : (codes "obeys " ++ decimal (length lines) ++ codes " events") ++ codes "\n" ≡ codes "obeys " ++ decimal is.front.count ++ codes " events\n"
    = ap (λ (t : List ℕ). codes "obeys " ++ t) (append_assoc (decimal (length lines)) (codes " events") (codes "\n") ∙ ap (λ n. decimal n ++ codes " events\n") (sym is.is_front.count)) in
    (told.0, subst (λ (t : List ℕ). Appends old new t) text told.1)
