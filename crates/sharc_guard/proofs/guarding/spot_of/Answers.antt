use Rattle.sharc_guard.proofs.Imports.{◌≡◌, refl, ◌∙◌, Op, spot_in, spot_of}
use Rattle.sharc_guard.proofs.guarding.spot_of.Goals as goal

pub returns-in_default : goal.returns-in_default
returns-in_default k = k.spot.ensures ∙ same k.args.op refl
  where
    same : (o : Op) → k.args.op ≡ o → spot_in o ≡ spot_of o
    same (Op.LoadGuard a b) is = absurd (k.in_default.not-LoadGuard a b is)
    same Op.Enter is = refl
    same _ is = refl
