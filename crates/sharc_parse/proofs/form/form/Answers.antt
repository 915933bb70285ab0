use Rattle.sharc_parse.proofs.Imports.{rules, ◌≡◌, ◌+◌, sym, arith}
use Rattle.sharc_parse.proofs.form.form.Goals as goal

pub returns-then-take-2-clause-placed : goal.returns-then-take-2-clause-placed
returns-then-take-2-clause-placed c =
    let took : c.take-2.new.at ≡ c.args.at.now + 1 = search rules in
    let closes : c.expect.new.at ≡ c.array_form.new.at + 1 = search rules in
    let z = c.in_ok-form.ensures.placed c.args.at.now (sym took) in
    (z.0, omega (arith, z.1, closes))

pub returns-then-take-3-clause-placed : goal.returns-then-take-3-clause-placed
returns-then-take-3-clause-placed c =
    let took : c.take-3.new.at ≡ c.args.at.now + 1 = search rules in
    let closes : c.expect-then-take-3.new.at ≡ c.constant_form.new.at + 1 = search rules in
    let z = c.in_ok-form-2.ensures.placed c.args.at.now (sym took) in
    (z.0, omega (arith, z.1, closes))
