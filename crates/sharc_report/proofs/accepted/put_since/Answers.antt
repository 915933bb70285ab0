use Rattle.sharc_report.proofs.{Imports.{◌++◌, codes, site_text, taken}, TextLemmas.three}
use Rattle.sharc_report.proofs.accepted.put_since.Goals as goal

pub returns : goal.returns
returns c =
    three c.extend_from_slice-2.result c.args.text.now.items c.extend_from_slice.new.self.items c.put_place.new.text.items c.extend_from_slice-2.new.self.items
    (codes " may be NULL since ") (site_text c.args.typed.now c.args.w.now.nulled) (codes "\n")
    c.in_ok-extend_from_slice.ensures.items c.in_ok-put_place.ensures
    (taken c.extend_from_slice-2.result c.extend_from_slice-2.new.self.items (c.put_place.new.text.items ++ codes "\n") c.put_place.new.text.items c.extend_from_slice-2.ensures.items)
