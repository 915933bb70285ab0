use Rattle.sharc_ask.proofs.{Imports.{ap, ◌∙◌, to_z-of_z, unsigned_abs, view_kind, view_sharing, element_cells, instance_mode, value_in, is_positive, view_state}, Fitting.made_goes}
use Rattle.sharc_ask.proofs.values.made.Goals as goal

pub returns-clause-does : goal.returns-clause-does
returns-clause-does c =
    let r = c.args.program.now.typed in
    let target = view_sharing c.args.target in
    let same = to_z-of_z c.ranges.elements in
    made_goes (view_state c.args.st.now) (view_state c.ask_event.new.st) r c.args.site target c.args.elements c.args.written.now c.is_positive.result c.in_ok-unless.field-0 c.element_cells-cells.result c.unsigned_abs.result c.instance_mode-mode.result c.ask_event.result
    (c.is_positive.ensures ∙ ap is_positive same) (c.element_cells-cells.ensures ∙ ap (λ z. element_cells z (view_kind c.declared_kind.result)) c.typed.ensures ∙ ap (element_cells r) c.declared_kind.ensures) (c.unsigned_abs.ensures.value ∙ ap unsigned_abs same)
    (c.instance_mode-mode.ensures ∙ ap (λ z. instance_mode z (value_in c.as_slice.result.now) target) c.typed-2.ensures ∙ ap (λ z. instance_mode r (value_in z) target) c.as_slice.ensures.value) c.in_ok-unless.ensures c.ask_event.ensures.does
