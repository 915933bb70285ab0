use Rattle.sharc_parse.proofs.{Imports.{rules, ◌≡◌, ◌+◌, arith, subst, Identifier, site_in, fields_size, declarations_at, name_at, declared}, ItemSteps.struct_stands}
use Rattle.sharc_parse.proofs.item.rest_of_struct.Goals as goal

pub returns-clause-placed : goal.returns-clause-placed
returns-clause-placed c n h named =
    let name = c.in_ok-name-2.name in
    let same : c.args.name ≡ name = search rules in
    let stand : c.of.result ≡ declarations_at (site_in c.args.tokens.now) c.args.at.now (declared c.of.result) = search rules in
    let size : c.fields.new.at ≡ c.args.at.now + fields_size (declared c.of.result) + 1 = search rules in
    let ends : c.expect_behind.new.at ≡ c.fields.new.at + 1 = search rules in
    struct_stands (site_in c.args.tokens.now) n _ c.args.at.now c.fields.new.at c.expect_behind.new.at name c.span.result c.of.result h (omega (arith, h))
    (subst (λ (i : Identifier). i ≡ name_at (site_in c.args.tokens.now) (n + 1) i.text) same named) c.span.ensures stand size ends
