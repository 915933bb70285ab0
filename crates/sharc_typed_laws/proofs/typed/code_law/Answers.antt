use Rattle.sharc_typed_laws.proofs.Imports.{flat_of, with_checks}
use Rattle.sharc_typed_laws.proofs.typed.code_law.Goals as goal

pub returns : goal.returns
returns c = λ x flat code fl is t. c.typed_law.ensures x flat code (with_checks (flat_of flat) fl) is (c.anyhow_law.ensures x code fl (flat_of flat) t)
