use Rattle.sharc_typed_laws.proofs.Imports.{flat_of, dropped, labels_of, with_checks}
use Rattle.sharc_typed_laws.proofs.statements.code_typed_law.Goals as goal

pub returns : goal.returns
returns c = λ m flat flattens fits known z of y t.
    let w = c.programs_law.ensures m flat flattens fits known z of y t in
    (labels_of z.targets (dropped (flat_of flat)) (with_checks (flat_of flat) w.0) (flat_of flat).lines, c.code_law.ensures z.targets flat z.code w.0 of.code w.1)
