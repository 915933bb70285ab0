use Rattle.sharc_top.proofs.Imports.{refl, ◌∙◌, ap, check_text}
use Rattle.sharc_top.proofs.verdict.mode_refusal.Goals as goal

pub returns : goal.returns
returns c = (
  refl,
  record {
    breaks_rules = c.requires.refused.breaks_rules;
    errors = c.args.errors.now;
    all = c.requires.refused.all;
    casts = c.in_ok-casts.casts.items;
    suggested = c.in_ok-casts.ensures;
    written = c.in_ok-text.ensures ∙ ap (check_text c.args.program.now.typed c.args.errors.now) c.as_slice.ensures.value;
  },
)
