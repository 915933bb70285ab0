use Rattle.sharc_parse.proofs.{Imports.{rules, ◌≡◌, ◌+◌, sym, subst, arith, mark, from, Past, NotAt, Semicolon, CloseBrace}, FieldSteps.{FieldsThere, one_field_more, fields_go_on}}
use Rattle.sharc_parse.proofs.field.fields.Goals as goal

pub returns-then-take-clause-placed : goal.returns-then-take-clause-placed
returns-then-take-clause-placed c =
    let ends : Past (mark Semicolon) c.args.tokens.now c.declaration.new.at c.expect.new.at = search rules in
    let closes : c.take.new.at ≡ c.expect.new.at + 1 = search rules in
    let z = one_field_more c.args.tokens.now c.args.at.now c.loop-fields.at c.declaration.new.at c.expect.new.at c.loop-fields.fields.items c.push.new.self.items c.in_ok-field.field c.in_ok-push.ensures.items c.loop-fields.invariant.so_far c.in_ok-field.ensures.reads c.in_ok-field.ensures.placed ends in
    (z.placed, omega (arith, z.at_is, closes))

pub loop-fields-preserved : goal.loop-fields-preserved
loop-fields-preserved c =
    let ends : Past (mark Semicolon) c.args.tokens.now c.declaration.new.at c.expect.new.at = search rules in
    let stays : c.take.new.at ≡ c.expect.new.at = search rules in
    let other : NotAt (mark CloseBrace) (from c.args.tokens.now c.take.new.at) = search rules in
    let z = one_field_more c.args.tokens.now c.args.at.now c.loop-fields.at c.declaration.new.at c.expect.new.at c.loop-fields.fields.items c.push.new.self.items c.in_ok-field.field c.in_ok-push.ensures.items c.loop-fields.invariant.so_far c.in_ok-field.ensures.reads c.in_ok-field.ensures.placed ends in
    record {
      so_far = fields_go_on c.args.tokens.now c.args.at.now c.take.new.at c.push.new.self.items (subst (λ n. FieldsThere c.args.tokens.now c.args.at.now n c.push.new.self.items) (sym stays) z) other;
      onward = search rules;
      within = search rules;
    }
