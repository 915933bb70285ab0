use Rattle.sharc_lex.proofs.{Imports.{◌≡◌, rules, token_at}, LexemeLemmas.result_lies, LongestLemmas.result_longest}
use Rattle.sharc_lex.proofs.token_at.token_at.Goals as goal

pub returns-then-is_digit-clause-lies : goal.returns-then-is_digit-clause-lies
returns-then-is_digit-clause-lies c =
    let e : c.number_at.result ≡ token_at c.args.first c.args.others.now = search rules in
    result_lies _ c.args.first c.args.others.now c.args.bytes.now c.requires e

pub returns-else-first-eq39-clause-lies : goal.returns-else-first-eq39-clause-lies
returns-else-first-eq39-clause-lies c =
    let e : c.ok_or-else-first-eq39.result ≡ token_at c.args.first c.args.others.now = search rules in
    result_lies _ c.args.first c.args.others.now c.args.bytes.now c.requires e

pub returns-then-is_letter-clause-longest : goal.returns-then-is_letter-clause-longest
returns-then-is_letter-clause-longest c =
    let e : c.word_at.result ≡ token_at c.args.first c.args.others.now = search rules in
    result_longest _ c.args.first c.args.others.now c.args.bytes.now c.requires e

pub returns-then-is_digit-clause-longest : goal.returns-then-is_digit-clause-longest
returns-then-is_digit-clause-longest c =
    let e : c.number_at.result ≡ token_at c.args.first c.args.others.now = search rules in
    result_longest _ c.args.first c.args.others.now c.args.bytes.now c.requires e

pub returns-then-first-eq39-clause-longest : goal.returns-then-first-eq39-clause-longest
returns-then-first-eq39-clause-longest c =
    let e : c.ok_or.result ≡ token_at c.args.first c.args.others.now = search rules in
    result_longest _ c.args.first c.args.others.now c.args.bytes.now c.requires e

pub returns-else-first-eq39-clause-longest : goal.returns-else-first-eq39-clause-longest
returns-else-first-eq39-clause-longest c =
    let e : c.ok_or-else-first-eq39.result ≡ token_at c.args.first c.args.others.now = search rules in
    result_longest _ c.args.first c.args.others.now c.args.bytes.now c.requires e
