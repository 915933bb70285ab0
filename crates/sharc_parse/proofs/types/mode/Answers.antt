use Rattle.sharc_parse.proofs.Imports.{rules, ◌≡◌, ◌+◌, ap, sym, Some}
use Rattle.sharc_parse.proofs.types.mode.Goals as goal

pub returns-clause-placed : goal.returns-clause-placed
returns-clause-placed c =
    let took : c.mode_word.new.at ≡ c.args.at.now + 1 = search rules in
    let z = c.in_ok-mode.ensures.placed c.args.at.now (sym took) in
    (ap Some z.0, z.1)
