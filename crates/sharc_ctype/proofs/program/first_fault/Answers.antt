use Rattle.sharc_ctype.proofs.Imports.{subst, sym, ap, ◌∙◌, refl, view_items, Findings, IsAnswer, faults, nothing_found, program_notes}
use Rattle.sharc_ctype.proofs.program.first_fault.Goals as goal

pub returns : goal.returns
returns c =
    let notes = program_notes c.args.tokens (view_items c.args.list.now) in
    subst (λ a. IsAnswer a (faults notes)) (sym (c.first.ensures ∙ ap (λ (f : Findings). f.first) c.requires)) (c.kept_is_first.ensures (nothing_found c.args.tokens) notes refl)
