use Rattle.sharc_lex.proofs.{Imports.{sym, ◌∙◌, ◌++◌, singles, pairs, triples, quadruples}, PunctuatorLemmas.{first_begun-none, first_begun-some}}
use Rattle.sharc_lex.proofs.punctuators.punctuator.Goals as goal

pub returns-in-Some-of_two : goal.returns-in-Some-of_two
returns-in-Some-of_two c =
    let bytes = c.args.bytes.now in
    let none_four = sym c.of_four.ensures ∙ c.in_default.is in
    let none_three = first_begun-none quadruples triples bytes none_four ∙ sym c.of_three.ensures ∙ c.in_default-of_three.is in
    let found = first_begun-none (quadruples ++ triples) pairs bytes none_three ∙ sym c.of_two.ensures ∙ c.in-Some-of_two.is in
    sym (first_begun-some (quadruples ++ triples ++ pairs) singles bytes _ found)

pub returns : goal.returns
returns c =
    let bytes = c.args.bytes.now in
    let none_four = sym c.of_four.ensures ∙ c.in_default.is in
    let none_three = first_begun-none quadruples triples bytes none_four ∙ sym c.of_three.ensures ∙ c.in_default-of_three.is in
    let none_two = first_begun-none (quadruples ++ triples) pairs bytes none_three ∙ sym c.of_two.ensures ∙ c.in_default-of_two.is in
    c.of_one.ensures ∙ sym (first_begun-none (quadruples ++ triples ++ pairs) singles bytes none_two)
