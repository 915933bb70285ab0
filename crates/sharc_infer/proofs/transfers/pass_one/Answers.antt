use Rattle.sharc_infer.proofs.{Imports.{◌≡◌, ◌++◌, OnOk, subst, view_expr}, LinkLemmas.one_passed}
use Rattle.sharc_infer.proofs.transfers.pass_one.Goals as goal

pub returns-in-len1-up : goal.returns-in-len1-up
returns-in-len1-up c =
    subst (λ l. OnOk c.pass.result (c.pass.new.links.items ≡ c.args.links.now.items ++ l))
    (one_passed c.args.typed.now c.args.function c.args.parameters.now c.parameter-item.result (view_expr c.args.source.now) c.in-len1-up.len_at_least c.parameter-item.is) c.pass.ensures
