use Rattle.std.proofs.{Common.{◌≡◌, Err, sym, ap, arith, length, subst}, lemmas.List.length-map}
use Rattle.sharc_tree.specs.View.{view_item, view_program}
use Rattle.sharc_lex.specs.Grammar.{reading}
use Rattle.sharc_front_end.proofs.Typing.{few_items}
use Rattle.sharc_front_end.proofs.program.typed.Goals as goal

pub returns-in-Err-At : goal.returns-in-Err-At
returns-in-Err-At c =
    let read = rw c.in-Err-At.field-0-is at c.in-Err-At.ensures.exact in
    subst (λ found. reading c.args.source.now ≡ Err found) (sym c.in-Err-At.at-is) read

pub type_program-requires-clause-few_items : goal.type_program-requires-clause-few_items
type_program-requires-clause-few_items c =
    let reads = c.in-Ok-parse.ensures in
    let few = few_items (view_program c.in-Ok-parse.program) (c.programs_are_placed.ensures c.in-Ok.tokens (view_program c.in-Ok-parse.program) reads) in
    let same = ap (λ t. length t.list) reads.keeps_tokens in
    omega (arith, few, same, length-map c.in-Ok-parse.program.items view_item, c.in-Ok.ensures.tokens.count, c.requires)
