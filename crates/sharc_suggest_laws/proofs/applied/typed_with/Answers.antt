use Rattle.sharc_suggest_laws.proofs.Imports.{◌≡◌, ap, ◌∙◌, subst, IfOk, Program, view_program, named_in, Resolution, program_with, program_with_cast}
use Rattle.sharc_suggest_laws.proofs.applied.typed_with.Goals as goal

pub returns : goal.returns
returns c =
    let same : view_program c.in_ok-program.program ≡ program_with c.args.cast.now c.args.typed.now =
    c.in_ok-program.ensures ∙ ap (program_with_cast c.in_ok-recast.recast) c.program.ensures.program ∙ ap (λ r. program_with_cast r c.args.typed.now.program) c.in_ok-recast.ensures in
    subst (λ (p : Program). IfOk c.typed_again.result (λ (t : Resolution). t ≡ record { program = p; named = named_in p })) same c.typed_again.ensures
