use Rattle.sharc_dataflow.proofs.Imports.{sym, subst, Contains, dedup_is, Contains-dedup_nat, Contains-permutation}
use Rattle.sharc_dataflow.proofs.uses.nulled.Goals as goal

pub returns : goal.returns
returns c = λ x h.
    let sorted = c.sort.new.self.items in
    let e = dedup_is _ sorted c.dedup.new.self.items c.dedup.ensures.filtered in
    subst (λ l. Contains l x) (sym e) (Contains-dedup_nat sorted x (Contains-permutation _ sorted x c.in_ok-sort.ensures.permutation (subst (λ l. Contains l x) (sym c.in_ok-list.ensures) h)))
