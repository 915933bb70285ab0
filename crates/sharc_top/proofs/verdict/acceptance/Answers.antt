use Rattle.sharc_top.proofs.{Imports.{refl, ◌∙◌, ap, accepted_text}, Verdicts.checks_accepted}
use Rattle.sharc_top.proofs.verdict.acceptance.Goals as goal

pub returns : goal.returns
returns c = checks_accepted _ _ _ _ c.moded.ensures.rules c.in_ok-warnings.ensures refl (c.in_ok-text.ensures ∙ ap (λ m. accepted_text m.typed c.in_ok-warnings.warnings) c.moded.ensures.moded)
