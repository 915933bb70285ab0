use Rattle.sharc_check.proofs.{Imports.{◌≡◌, ◌++◌, List, ap, ◌∙◌, OnOk, subst, flat_map, Resolution, Finding, private_notes, path_notes, mode_notes, private_field_notes, names_in_level, place_of, first_unfit_path, first_unfit_mode}, LevelLemmas.five}
use Rattle.sharc_check.proofs.types.type_said.Goals as goal

pub returns : goal.returns
returns c =
    let m = c.args.program.now in
    let n = c.args.numbered.now in
    let typed = c.typed-typed.ensures in
    let span = n.entity.written.span in
    let base = n.entity.written.ctype.base in
    let levels = n.entity.written.ctype.levels in
    let P : Resolution → List Finding = λ r. path_notes span (first_unfit_path r (place_of n.entity.role) base levels) in
    let F : Resolution → List Finding = λ r. private_field_notes r n in
    let N : Resolution → List Finding = λ r. flat_map (names_in_level r) levels in
    let n4 = c.private_field.new.notes.items in
    let said =
    five c.args.notes.now.items c.private.new.notes.items c.path.new.notes.items c.mode.new.notes.items n4 (private_notes m n) (P m.typed) (mode_notes span (first_unfit_mode (place_of n.entity.role) base levels)) (F m.typed) (N m.typed) c.in_ok-private.ensures
    (c.in_ok-path.ensures ∙ ap (λ r. c.private.new.notes.items ++ P r) typed) c.in_ok-mode.ensures (c.in_ok-private_field.ensures ∙ ap (λ r. c.mode.new.notes.items ++ F r) typed)
    in
    subst (λ l. OnOk c.names.result (c.names.new.notes.items ≡ l))
    (ap (λ l. n4 ++ flat_map (names_in_level c.typed-typed.result.now) l) c.as_slice.ensures ∙ ap (λ r. n4 ++ N r) typed ∙ said)
    c.names.ensures
