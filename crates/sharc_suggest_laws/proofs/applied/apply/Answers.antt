use Rattle.sharc_suggest_laws.proofs.Imports.{ap, ◌∙◌, resolution_with}
use Rattle.sharc_suggest_laws.proofs.applied.apply.Goals as goal

pub moded_with-requires : goal.moded_with-requires
moded_with-requires c = c.in_ok-typed.ensures ∙ ap (resolution_with c.args.cast.now) c.typed.ensures
