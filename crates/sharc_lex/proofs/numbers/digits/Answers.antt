use Rattle.sharc_lex.proofs.{Imports.{◌≡◌, ◌+◌, ◌<◌, sym, ◌∙◌, ap, length, get_or, drop, ◌∷◌, add-one, drop-cons, value_behind, small_value}, NumberLemmas.no_digit_stays}
use Rattle.sharc_lex.proofs.numbers.digits.Goals as goal

pub returns-in_err-high : goal.returns-in_err-high
returns-in_err-high c =
    let bytes = c.args.bytes.now in
    let i = c.loop-byte.byte-index in
    let inside : i < length bytes = c.loop-byte-test.true in
    let at : drop i bytes ≡ get_or bytes i 0 ∷ drop (i + 1) bytes = rw (add-one, drop-cons bytes i 0) in
    let none = no_digit_stays c.args.base c.loop-byte.high (get_or bytes i 0) (drop (i + 1) bytes) (sym c.with_digit.ensures ∙ c.in_err-high.was) in
    c.from_residual.ensures ∙ sym (ap small_value (sym c.loop-byte.invariant.rest ∙ ap (value_behind c.args.base c.loop-byte.high) at) ∙ none)
