use Rattle.sharc_infer_laws.proofs.Roots.{touched, passed, apart}
use Rattle.sharc_infer_laws.proofs.laws.roots_are_one.Goals as goal

pub returns : goal.returns
returns c = λ r whole p.
    let names = c.each_names_itself.ensures r whole.resolved whole.placed whole.low in
    record { touched = touched r names p; passed = passed r whole.placed p; apart = apart r names p }
