use Rattle.sharc_run.proofs.{Imports.{codes, decimal, ◌++◌, ap, ◌∙◌, place_at, lvalue_at, of_taking, taken}, Pieces.five}
use Rattle.sharc_run.proofs.line.put_not_sole.Goals as goal

pub returns : goal.returns
returns c =
    let code = c.args.code.now in
    let site = c.args.site in
    let old = c.args.text.now.items in
    five c.extend_from_slice-3.result old c.extend_from_slice.new.self.items c.put_lvalue_at.new.text.items c.extend_from_slice-2.new.self.items c.put_number.new.text.items c.extend_from_slice-3.new.self.items
    (of_taking (place_at code site).at) (lvalue_at code site) (codes " with ") (decimal c.args.count) (codes " references")
    (c.in_ok-extend_from_slice.ensures.items ∙ ap (λ l. old ++ l) (c.of_taking.ensures ∙ ap (λ p. of_taking p.at) c.place_at.ensures))
    c.in_ok-put_lvalue_at.ensures c.in_ok-extend_from_slice-2.ensures.items c.in_ok-put_number.ensures
    (taken c.extend_from_slice-3.result c.extend_from_slice-3.new.self.items _ _ c.extend_from_slice-3.ensures.items)
