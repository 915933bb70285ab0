use Rattle.sharc_run.proofs.{Imports.{codes, decimal, lvalue_at}, Pieces.four}
use Rattle.sharc_run.proofs.line.put_held_mutex.Goals as goal

pub returns : goal.returns
returns c =
    four c.put_number.result c.args.text.now.items c.extend_from_slice.new.self.items c.put_lvalue_at.new.text.items c.extend_from_slice-2.new.self.items c.put_number.new.text.items
    (codes "waits for mutex ") (lvalue_at c.args.code.now c.args.site) (codes " held by thread ") (decimal c.args.holder)
    c.in_ok-extend_from_slice.ensures.items c.in_ok-put_lvalue_at.ensures c.in_ok-extend_from_slice-2.ensures.items c.put_number.ensures
