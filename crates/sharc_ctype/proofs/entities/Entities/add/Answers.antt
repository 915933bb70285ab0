use Rattle.sharc_ctype.proofs.{Imports.{◌≡◌, ◌+◌, sym, subst, arith, positions_of, AreNumbered}, EntityLemmas.numbered_pushed}
use Rattle.sharc_ctype.proofs.entities.Entities.add.Goals as goal

pub invariant_of-self-2 : goal.invariant_of-self-2
invariant_of-self-2 c =
    let old = c.self.inside.positions in
    let new = c.in_ok-positions.positions in
    let is : new ≡ old + positions_of c.args.entity = omega (arith, c.in_ok-positions.ensures.more) in
    let all = numbered_pushed c.self.inside.list.items c.args.entity old new c.self.invariant.0 is in
    (subst (λ l. AreNumbered l new) (sym c.in_ok-push_entity.ensures.list) all, c.push_entity.ensures.first)
