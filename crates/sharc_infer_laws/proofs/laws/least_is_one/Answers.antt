use Rattle.sharc_infer_laws.proofs.{Imports.{refl, sym}, Least.same_assignments}
use Rattle.sharc_infer_laws.proofs.laws.least_is_one.Goals as goal

pub returns : goal.returns
returns c = λ a b whole left right same. same_assignments c.findings_are_one.ensures a.typed (c.roots_are_one.ensures a.typed whole) a b left right refl (sym same)
