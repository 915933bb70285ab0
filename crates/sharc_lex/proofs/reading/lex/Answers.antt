use Rattle.sharc_lex.proofs.{Imports.{◌≡◌, ◌-◌, ◌<◌, length, take, drop, Ok, sym, ap, ◌∙◌, arith, err_from_is_err_and, lines_read, lines_of, opening, reading, read_of}, TokensLemmas.{tokens_are, refused_place}, ReadingLemmas.{lines_from-end, reading-read, tail_is, step_read, step_within, step_bound, step_refused}}
use Rattle.sharc_lex.proofs.reading.lex.Goals as goal

pub returns-in_err-line-clause-exact : goal.returns-in_err-line-clause-exact
returns-in_err-line-clause-exact c =
    let source = c.args.source.now in
    let at = c.loop-at.at in
    let read = read_of c.loop-at.reading in
    let p = err_from_is_err_and c.from_residual-in_err-line.result c.from_residual-in_err-line.ensures.1 in
    rw (p.1, p.2) (step_refused source (take (length source - at) (drop at source)) at c.line_len-len.result c.loop-at-test.true (tail_is source at) c.line_len-len.ensures.len read c.in_err-line.field-0.0 c.in_err-line.ensures.failed c.loop-at.invariant.rest)

pub returns-in_err-line-clause-place : goal.returns-in_err-line-clause-place
returns-in_err-line-clause-place c =
    let source = c.args.source.now in
    let at = c.loop-at.at in
    let read = read_of c.loop-at.reading in
    let p = err_from_is_err_and c.from_residual-in_err-line.result c.from_residual-in_err-line.ensures.1 in
    rw (p.1, p.2) (refused_place source c.in_err-line.field-0.0 (step_refused source (take (length source - at) (drop at source)) at c.line_len-len.result c.loop-at-test.true (tail_is source at) c.line_len-len.ensures.len read c.in_err-line.field-0.0 c.in_err-line.ensures.failed c.loop-at.invariant.rest))

pub loop-at-preserved : goal.loop-at-preserved
loop-at-preserved c =
    let source = c.args.source.now in
    let at = c.loop-at.at in
    let rest = take (length source - at) (drop at source) in
    let len = c.line_len-len.result in
    let len_is = c.line_len-len.ensures.len in
    let within = c.line_len-len.ensures.within in
    let read = read_of c.loop-at.reading in
    let more = read_of c.line.new.self in
    let e = c.in_ok-line.ensures.read in
    record {
      within = step_within source rest at len c.loop-at-test.true (tail_is source at) len_is read more within e c.loop-at.invariant.within;
      bound = step_bound source rest at len c.loop-at-test.true (tail_is source at) len_is within;
      rest = step_read source rest at len c.loop-at-test.true (tail_is source at) len_is read more _ within e c.loop-at.invariant.rest;
    }

read_all : (c : goal.In_ok-finish) → reading c.args.source.now ≡ Ok c.in_ok-finish.field-0
read_all c =
    let source = c.args.source.now in
    let at = c.loop-at.at in
    let read = read_of c.loop-at.reading in
    let outside : length source < at = omega arith in
    let all : lines_read opening 0 (lines_of source) ≡ Ok read = sym c.loop-at.invariant.rest ∙ ap (lines_read read at) (lines_from-end at source outside) in
    reading-read source read all ∙ ap (λ t. Ok t) (sym c.in_ok-finish.ensures)

pub returns-clause-exact : goal.returns-clause-exact
returns-clause-exact c = read_all c

pub returns-clause-tokens : goal.returns-clause-tokens
returns-clause-tokens c = tokens_are c.args.source.now c.in_ok-finish.field-0 (read_all c)
