use Rattle.sharc_guard.proofs.{Imports.{slice_get-get_or, ◌∷◌, ◌++◌, [], ap, ◌∙◌, arith, get_or, take, take_all, Op, sites_of}, Making.site_more}
use Rattle.sharc_guard.proofs.guarding.sites_of.Goals as goal

pub loop-n-preserved : goal.loop-n-preserved
loop-n-preserved c =
    let lines = c.args.lines.now in
    let told = c.args.told.now in
    let n = c.loop-n.n in
    c.in_ok-push.ensures.items ∙ ap (λ xs. xs ++ c.site_at.result ∷ []) c.loop-n.invariant ∙ ap (λ s. sites_of (take n lines) told ++ s ∷ []) c.site_at.ensures
    ∙ site_more lines told n (get_or lines n Op.Enter) (slice_get-get_or lines n Op.Enter c.loop-n-test.true)

pub returns : goal.returns
returns c = c.loop-n.invariant ∙ ap (λ l. sites_of l c.args.told.now) (take_all c.loop-n.n c.args.lines.now (omega (arith, c.loop-n-test.false)))
