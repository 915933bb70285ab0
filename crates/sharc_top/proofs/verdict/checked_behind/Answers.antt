use Rattle.sharc_top.proofs.{Imports.{ap, ◌∙◌, ◌++◌, explain_text}, Verdicts.explains_both}
use Rattle.sharc_top.proofs.verdict.checked_behind.Goals as goal

pub returns : goal.returns
returns c = explains_both _ _ _ _ c.in_ok-verdict.ensures
    (c.in_ok-extend_from_slice.ensures.items ∙ (ap (λ text. text ++ c.deref.result.now) c.requires.text ∙ ap (λ text. explain_text c.args.program ++ text) c.deref.ensures.value))
