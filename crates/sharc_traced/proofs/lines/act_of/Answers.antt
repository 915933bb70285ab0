use Rattle.std.proofs.{Common.{◌≡◌, ℤ, sym, subst, rules, FitsSigned, w64, to_z, of_z}, lemmas.Int.to_z-of_z}
use Rattle.std.specs.Prelude.{MatchOption}
use Rattle.sharc_history.specs.declared.event.Deed.{Deed}
use Rattle.sharc_traced.specs.Writing.{Writable, IsActOf}
use Rattle.sharc_history.specs.declared.event.Deed.TheVariants as deeds
use Rattle.sharc_traced.proofs.lines.act_of.Goals as goal

pub returns-in-Joins : goal.returns-in-Joins
returns-in-Joins c =
    let fits : FitsSigned w64 c.in-Joins.thread = search rules in
    let same : to_z w64 (of_z w64 c.in-Joins.thread) ≡ c.in-Joins.thread = to_z-of_z w64 c.in-Joins.thread fits in
    subst (λ (d : Deed). MatchOption c.join_act.result (¬ (Writable c.args.typed.now d)) (IsActOf c.args.typed.now d)) (sym c.in-Joins.is)
    (subst (λ (z : ℤ). MatchOption c.join_act.result (¬ (Writable c.args.typed.now (deeds.Joins z))) (IsActOf c.args.typed.now (deeds.Joins z))) same (c.join_act.ensures c.args.typed.now))
