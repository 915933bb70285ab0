use Rattle.sharc_report.proofs.{Imports.{codes, site_text, tokens_between, target_text}, TextLemmas.six}
use Rattle.sharc_report.proofs.refused.put_cast.Goals as goal

pub returns : goal.returns
returns c =
    let t = c.args.typed.now in
    let cast = c.args.c.now in
    six c.put_lvalue.result c.args.text.now.items c.put_place.new.text.items c.extend_from_slice.new.self.items c.put_target.new.text.items c.put_lvalue.new.text.items
    (site_text t cast.site) (codes ": suggest SCAST(") (target_text cast.to) (codes ", ") (tokens_between t cast.from cast.until) (codes ")\n")
    c.in_ok-put_place.ensures c.in_ok-extend_from_slice.ensures.items c.in_ok-put_target.ensures c.put_lvalue.ensures
